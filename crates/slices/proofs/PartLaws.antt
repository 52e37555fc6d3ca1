-- Laws of runs of bytes: their length, their bytes, joining two, and where they are a plain cut of the list; of blank ones, and of
-- the bytes that a run has.
-- Assumes nothing.
use mathlib.Core.Path.{◌≡◌, refl, sym, ap, ap₂, ◌∙◌}
use mathlib.Core.Logic.{◌↔◌, ⊎_elim}
use mathlib.Core.Bool.{Bool, true, false, ◌&&◌, ◌||◌, false≢true, or_assoc, or-false, or-true, and-false}
use mathlib.Core.List.{List, [], ◌∷◌, ◌++◌, Memᴰ}
use Prim.Native.Nat.{ℕ, zero, suc, ◌+◌, ◌-◌, ◌≤◌, ◌<◌}
use native.Mathlib.Omega.{arith}
use native.Mathlib.Nat.{sub-zero, add-zero, le_of_suc-le-suc, not-suc-le-zero}
use lib.ListN.{length, get_or, take, drop, replicate, get_or-append, get_or-eq_default, drop_of_length-le, length-drop}
use native.Mathlib.Decide.{dec_lt}
use lib.Seq.{drop-cons, take_all, get_or-append-add}
use lib.Dec.{eqb, ltb, leb, eqb-suc-zero}
use borrow.Author.Tests.{eqb-true, eq-eqb, ne_eqb, lt-ltb, leb-true}
use Rattle.slices.specs.Part.{part, blank, member}
use Rattle.slices.proofs.Cases.{and_left, and_right, either, or_left, or_right}

-- what is left of a count after k
pub one_less : (n k : ℕ) → k < n → n - k ≡ suc (n - (k + 1))
one_less n k h = omega arith

-- within a list no default is asked for
pub get_or_any : {A : Type 0} (xs : List A) (i : ℕ) (d e : A) → i < length xs → get_or xs i d ≡ get_or xs i e
get_or_any [] i d e h = absurd (not-suc-le-zero h)
get_or_any (x ∷ xs) zero d e h = refl
get_or_any (x ∷ xs) (suc i) d e h = get_or_any xs i d e (le_of_suc-le-suc h)

pub length_part : (n i : ℕ) (xs : List ℕ) → length (part n i xs) ≡ n
unfolding part
length_part zero i xs = refl
length_part (suc n) i xs = ap suc (length_part n (suc i) xs)

pub get_or-part : (n i : ℕ) (xs : List ℕ) (k : ℕ) → k < n → get_or (part n i xs) k 0 ≡ get_or xs (i + k) 0
unfolding part
get_or-part zero i xs k h = absurd (not-suc-le-zero h)
get_or-part (suc n) i xs zero h = rw add-zero
get_or-part (suc n) i xs (suc k) h =
    let e : suc i + k ≡ i + suc k = omega arith in
    get_or-part n (suc i) xs k (le_of_suc-le-suc h) ∙ rw e

-- a run of a run
pub part_part : (m k n i : ℕ) (xs : List ℕ) → k + m ≤ n → part m k (part n i xs) ≡ part m (i + k) xs
unfolding part
part_part zero k n i xs h = refl
part_part (suc m) k n i xs h =
    let e : i + suc k ≡ suc (i + k) = omega arith in
    ap₂ (λ (b : ℕ) (f : List ℕ). b ∷ f) (get_or-part n i xs k (omega arith)) (part_part m (suc k) n i xs (omega arith) ∙ rw e)

-- two runs, one behind the other
pub part_append : (m n i : ℕ) (xs : List ℕ) → part (m + n) i xs ≡ part m i xs ++ part n (i + m) xs
unfolding part
part_append zero n i xs =
    let e : 0 + n ≡ n = omega arith in
    let f : i + 0 ≡ i = omega arith in
    rw (e, f)
part_append (suc m) n i xs =
    let e : suc m + n ≡ suc (m + n) = omega arith in
    let f : i + suc m ≡ suc i + m = omega arith in
    rw (e, f) (ap (λ (t : List ℕ). get_or xs i 0 ∷ t) (part_append m n (suc i) xs))

-- runs of the same bytes
part_same : (n i j : ℕ) (xs ys : List ℕ) → ((k : ℕ) → k < n → get_or xs (i + k) 0 ≡ get_or ys (j + k) 0) → part n i xs ≡ part n j ys
unfolding part
part_same zero i j xs ys h = refl
part_same (suc n) i j xs ys h =
    let a : i + 0 ≡ i = omega arith in
    let b : j + 0 ≡ j = omega arith in
    let e : get_or xs (i + 0) 0 ≡ get_or ys (j + 0) 0 = h 0 (omega arith) in
    ap₂ (λ (b : ℕ) (f : List ℕ). b ∷ f) (rw (a, b) at e)
    (part_same n (suc i) (suc j) xs ys
    (λ k l.
    let p : suc i + k ≡ i + suc k = omega arith in
    let q : suc j + k ≡ j + suc k = omega arith in
    rw (p, q) (h (suc k) (omega arith))))

-- a run of two lists joined that lies in the first, or behind it
pub part_front : (n i : ℕ) (xs ys : List ℕ) → i + n ≤ length xs → part n i (xs ++ ys) ≡ part n i xs
part_front n i xs ys h = part_same n i i (xs ++ ys) xs (λ k l. get_or-append xs ys 0 (i + k) (omega arith))

pub part_behind : (n i : ℕ) (xs ys : List ℕ) → part n (length xs + i) (xs ++ ys) ≡ part n i ys
part_behind n i xs ys =
    part_same n (length xs + i) i (xs ++ ys) ys
    (λ k l. let e : length xs + i + k ≡ length xs + (i + k) = omega arith in rw e (get_or-append-add xs ys (i + k) 0))

-- lists that begin with the same run have the same bytes and runs in it
module _ (n : ℕ) (xs ys : List ℕ) (same : part n 0 xs ≡ part n 0 ys) where
  pub same_byte : (i : ℕ) → i < n → get_or xs i 0 ≡ get_or ys i 0
  same_byte i h =
      let e : 0 + i ≡ i = omega arith in
      let x : get_or (part n 0 xs) i 0 ≡ get_or xs i 0 = get_or-part n 0 xs i h ∙ rw e in
      let y : get_or (part n 0 ys) i 0 ≡ get_or ys i 0 = get_or-part n 0 ys i h ∙ rw e in
      sym x ∙ ap (λ (t : List ℕ). get_or t i 0) same ∙ y

  pub same_part : (m i : ℕ) → i + m ≤ n → part m i xs ≡ part m i ys
  same_part m i h = part_same m i i xs ys (λ k l. same_byte (i + k) (omega arith))

-- within the list a run is a plain cut
pub part_take : (n i : ℕ) (xs : List ℕ) → i + n ≤ length xs → part n i xs ≡ take n (drop i xs)
unfolding part
part_take zero i xs h = refl
part_take (suc n) i xs h =
    rw (drop-cons xs i 0 (omega arith)) (ap (λ (t : List ℕ). get_or xs i 0 ∷ t) (part_take n (suc i) xs (omega arith)))

pub part_range : (n i : ℕ) (xs : List ℕ) → i + n ≤ length xs → take (i + n - i) (drop i xs) ≡ part n i xs
part_range n i xs h = let e : i + n - i ≡ n = omega arith in rw e (sym (part_take n i xs h))

-- two runs lie within, by one test
pub both_lie : (i n m j k : ℕ) {s t : Bool} → s ≡ leb (i + n) m → t ≡ leb (j + n) k → (s && t) ≡ true → (i + n ≤ m) × (j + n ≤ k)
both_lie i n m j k {s} {t} hs ht h =
    (leb-true (i + n) m (sym hs ∙ and_left s t h), leb-true (j + n) k (sym ht ∙ and_right s t h))

-- a whole list is the run of its length
pub part_all : (xs : List ℕ) → part (length xs) 0 xs ≡ xs
part_all xs = part_take (length xs) 0 xs (omega arith) ∙ take_all (length xs) xs (omega arith)

-- a run of which k bytes are passed
module _ (n i : ℕ) (xs : List ℕ) (k : ℕ) where
  pub part_next : k < n → part (n - k) (i + k) xs ≡ get_or xs (i + k) 0 ∷ part (n - (k + 1)) (i + (k + 1)) xs
  unfolding part
  part_next h =
      let e : i + (k + 1) ≡ suc (i + k) = omega arith in
      rw (one_less n k h, e)

  pub part_done : n ≤ k → part (n - k) (i + k) xs ≡ []
  unfolding part
  part_done h = let e : n - k ≡ 0 = omega arith in rw e

pub part_whole : (n i : ℕ) (xs : List ℕ) → part (n - 0) (i + 0) xs ≡ part n i xs
part_whole n i xs = rw (sub-zero, add-zero)

-- a run that begins past the end, and one that ends past it
part_none : (n i : ℕ) (xs : List ℕ) → length xs ≤ i → part n i xs ≡ replicate n 0
unfolding part
part_none zero i xs h = refl
part_none (suc n) i xs h = rw (get_or-eq_default xs 0 {n = i} h) (ap (λ (t : List ℕ). 0 ∷ t) (part_none n (suc i) xs (omega arith)))

pub part_past : (n i : ℕ) (xs : List ℕ) → length xs < i + n → part n i xs ≡ drop i xs ++ replicate (n - (length xs - i)) 0
part_past n i xs h = by (dec_lt i (length xs))
  where
    by : Dec (i < length xs) → part n i xs ≡ drop i xs ++ replicate (n - (length xs - i)) 0
    by (no k) = let le : length xs ≤ i = omega arith in let e : n - (length xs - i) ≡ n = omega arith in rw (drop_of_length-le xs le, e) (part_none n i xs (omega arith))
    by (yes k) =
        let e : n ≡ (length xs - i) + (n - (length xs - i)) = omega arith in
        let f : i + (length xs - i) ≡ length xs = omega arith in
        ap (λ (t : ℕ). part t i xs) e ∙ part_append (length xs - i) (n - (length xs - i)) i xs
        ∙ rw (part_take (length xs - i) i xs (omega arith), take_all (length xs - i) (drop i xs) (omega (arith, length-drop i xs)), f, part_none (n - (length xs - i)) (length xs) xs (omega arith))

-- blank is: nothing but blanks
pub blank_means : (xs : List ℕ) → blank xs ≡ true → xs ≡ replicate (length xs) 32
unfolding blank
blank_means [] e = refl
blank_means (b ∷ bs) e =
    let p : b ≡ 32 = eqb-true b 32 (and_left (eqb b 32) (blank bs) e) in
    let q : bs ≡ replicate (length bs) 32 = blank_means bs (and_right (eqb b 32) (blank bs) e) in
    ap₂ (λ (x : ℕ) (ys : List ℕ). x ∷ ys) p q

pub blank_replicate : (n : ℕ) → blank (replicate n 32) ≡ true
unfolding blank
blank_replicate zero = refl
blank_replicate (suc n) = blank_replicate n

pub blank_iff : (xs : List ℕ) → (blank xs ≡ true) ↔ (xs ≡ replicate (length xs) 32)
blank_iff xs = (blank_means xs, λ e. ap blank e ∙ blank_replicate (length xs))

-- a byte that a run has is in it
member_in : (b : ℕ) (xs : List ℕ) → member b xs ≡ true → Memᴰ b xs
unfolding member
member_in b [] e = absurd (false≢true e)
member_in b (x ∷ xs) e =
    ⊎_elim (λ h. Memᴰ.head (sym (eqb-true x b h))) (λ h. Memᴰ.tail (member_in b xs h)) (either (eqb x b) (member b xs) e)

in_member : (b : ℕ) (xs : List ℕ) → Memᴰ b xs → member b xs ≡ true
unfolding member
in_member b [] m = elim m [ ]
in_member b (x ∷ xs) (Memᴰ.head e) = or_left (eqb x b) (member b xs) (eq-eqb x b (sym e))
in_member b (x ∷ xs) (Memᴰ.tail m) = or_right (eqb x b) (member b xs) (in_member b xs m)

pub member_iff : (b : ℕ) (xs : List ℕ) → (member b xs ≡ true) ↔ Memᴰ b xs
member_iff b xs = (member_in b xs, in_member b xs)

pub member_append : (b : ℕ) (xs ys : List ℕ) → member b (xs ++ ys) ≡ (member b xs || member b ys)
unfolding member
member_append b [] ys = refl
member_append b (x ∷ xs) ys = ap (λ (t : Bool). eqb x b || t) (member_append b xs ys) ∙ sym (or_assoc (eqb x b) (member b xs) (member b ys))

pub member_replicate : (b x n : ℕ) → (x ≡ b → ⊥) → member b (replicate n x) ≡ false
unfolding member
member_replicate b x zero h = refl
member_replicate b x (suc n) h = rw (ne_eqb x b h) (member_replicate b x n h)

-- a run that ends past the end has 0 there, if it has any byte, and no other byte than what is left of the list
member_zeros : (m : ℕ) → 0 < m → member 0 (replicate m 0) ≡ true
unfolding member
member_zeros zero l = absurd (not-suc-le-zero l)
member_zeros (suc m) l = refl

pub member_zero : (n i : ℕ) (xs : List ℕ) → length xs < i + n → ltb 0 n ≡ member 0 (part n i xs)
unfolding part member
member_zero zero i xs h = refl
member_zero (suc n) i xs h = lt-ltb 0 (suc n) (omega arith) ∙ sym (ap (member 0) (part_past (suc n) i xs h) ∙ member_append 0 (drop i xs) _ ∙ ap (λ (t : Bool). member 0 (drop i xs) || t) (member_zeros (suc n - (length xs - i)) (omega arith)) ∙ or-true (member 0 (drop i xs)))

pub member_past : (b n i : ℕ) (xs : List ℕ) → (b ≡ 0 → ⊥) → length xs < i + n → member b (drop i xs) ≡ member b (part n i xs)
member_past b n i xs h l =
    sym (rw (part_past n i xs l) (member_append b (drop i xs) _ ∙ rw (member_replicate b 0 (n - (length xs - i)) (λ e. h (sym e))) (or-false (member b (drop i xs)))))

-- among zeros, and past them, there is 0
pub zero_at : (n i : ℕ) → ◌≡◌ {A = ℕ} (get_or (replicate n 0) i 0) 0
zero_at zero i = refl
zero_at (suc n) zero = refl
zero_at (suc n) (suc i) = zero_at n i

-- nothing has the length 0 but nothing
pub no_bytes : (xs : List ℕ) → length xs ≡ 0 → xs ≡ []
no_bytes [] e = refl
no_bytes (x ∷ xs) e = absurd (omega arith)

-- a run that ends past the end has a byte that is none
none_past : (s : List ℕ) (i n : ℕ) → length s < i + suc n → blank (part (suc n) i s) ≡ false
unfolding part blank
none_past s i zero h = rw (get_or-eq_default s 0 {n = i} (omega arith))
none_past s i (suc n) h = ap (λ (t : Bool). eqb (get_or s i 0) 32 && t) (none_past s (suc i) n (omega arith)) ∙ and-false (eqb (get_or s i 0) 32)

pub blank_past : (n i : ℕ) (s : List ℕ) → length s < i + n → eqb n 0 ≡ blank (part n i s)
unfolding part blank
blank_past zero i s h = refl
blank_past (suc n) i s h = eqb-suc-zero n ∙ sym (none_past s i n h)
