-- What text and the number fields say, at every width: text is text from the left and then blanks; the numbers up to one, and those
-- but 0, are the runs of digits with such a decimal value.
-- Assumes nothing.
use mathlib.Core.Path.{◌≡◌, refl, sym, ap, subst, ◌∙◌}
use mathlib.Core.Logic.{◌↔◌, inl, inr}
use mathlib.Core.List.{List, [], ◌∷◌, ◌++◌, append-nil}
use Prim.Native.Nat.{ℕ, zero, suc, ◌+◌, ◌-◌, ◌*◌, ◌^◌, ◌≤◌, ◌<◌}
use native.Mathlib.Omega.{arith}
use native.Mathlib.Nat.{mul-le-mul_right, pow-suc}
use native.Mathlib.Decide.{dec_lt}
use lib.ListN.{length, replicate, length-append, length-replicate}
use borrow.Author.Tests.{lt-ltb}
use Rattle.slices.proofs.Cases.{both}
use Rattle.slices.proofs.PartLaws.{no_bytes}
use Rattle.columns.specs.Patterns.{digits, text_from, text, below, up_to_codes, not_all_zero, codes}
use Rattle.columns.specs.Words.{Each, All, Or, Then, TextByte, Text, Digit, Digits, AtMost, Between}
use Rattle.digits.specs.Digits.{value}
use Rattle.columns.proofs.PatternLaws.{Says, reworded, says_or, says_then, says_all, says_none, says_text, says_blanks, each_blank, blank_each}
use Rattle.columns.proofs.LetterLaws.{text_byte, digit, digit_not_zero}

pub says_digits : (n : ℕ) → Says (digits n) (Digits n)
says_digits n = says_all 100 Digit digit n

-- ---- text

-- at least k bytes of text and then blanks, k + n bytes in all
abbrev TextOf : ℕ → ℕ → List ℕ → Type 0
TextOf k n f = (length f ≡ k + n) × Then (λ g. (k ≤ length g) × Each TextByte g) (Each (λ b. b ≡ 32)) f

all_text : (k : ℕ) (f : List ℕ) → All k TextByte f ↔ TextOf k 0 f
all_text k f = (
  λ h. (omega (arith, h.0), (f, [], sym (append-nil f), (omega (arith, h.0), h.1), tt)),
  λ h.
      let r = h.1 in
      let e : length f ≡ length r.0 + length r.1 = ap length r.2 ∙ length-append r.0 r.1 in
      let z : r.1 ≡ [] = no_bytes r.1 (omega (arith, h.0, r.3.0)) in
      let s : f ≡ r.0 = r.2 ∙ ap (λ (t : List ℕ). r.0 ++ t) z ∙ append-nil r.0 in
      (omega (arith, h.0), subst (Each TextByte) (sym s) r.3.1),
)

text_more : (k m : ℕ) (f : List ℕ) → Or (Then (All k TextByte) (λ h. h ≡ replicate (suc m) 32)) (TextOf (suc k) m) f ↔ TextOf k (suc m) f
text_more k m f = (to, from)
  where
    to : Or (Then (All k TextByte) (λ h. h ≡ replicate (suc m) 32)) (TextOf (suc k) m) f → TextOf k (suc m) f
    to (inl r) =
        let e : length f ≡ length r.0 + length r.1 = ap length r.2 ∙ length-append r.0 r.1 in
        let l : length r.1 ≡ suc m = ap length r.4 ∙ length-replicate (suc m) 32 in
        (omega (arith, r.3.0), (r.0, r.1, r.2, (omega (arith, r.3.0), r.3.1), blank_each (suc m) r.1 r.4))
    to (inr t) = let r = t.1 in (omega (arith, t.0), (r.0, r.1, r.2, (omega (arith, r.3.0), r.3.1), r.4))

    from : TextOf k (suc m) f → Or (Then (All k TextByte) (λ h. h ≡ replicate (suc m) 32)) (TextOf (suc k) m) f
    from t = by (dec_lt k (length t.1.0))
      where
        by : Dec (k < length t.1.0) → Or (Then (All k TextByte) (λ h. h ≡ replicate (suc m) 32)) (TextOf (suc k) m) f
        by (yes l) = inr (omega (arith, t.0), (t.1.0, t.1.1, t.1.2, (l, t.1.3.1), t.1.4))
        by (no n) =
            let r = t.1 in
            let e : length f ≡ length r.0 + length r.1 = ap length r.2 ∙ length-append r.0 r.1 in
            let g : length r.0 ≡ k = omega (arith, r.3.0) in
            let l : length r.1 ≡ suc m = omega (arith, t.0) in
            inl (r.0, r.1, r.2, (g, r.3.1), each_blank r.1 r.4 ∙ ap (λ (i : ℕ). replicate i 32) l)

says_text_from : (k n : ℕ) → Says (text_from k n) (TextOf k n)
unfolding text_from
says_text_from k zero = reworded (says_all 116 TextByte text_byte k) (all_text k)
says_text_from k (suc n) = reworded (says_or (says_then (says_all 116 TextByte text_byte k) (says_blanks (suc n))) (says_text_from (suc k) n)) (text_more k n)

pub says_text_of : (n : ℕ) → Says (text (suc n)) (Text (suc n))
says_text_of n =
    let e : suc n - 1 ≡ n = omega arith in
    rw e (reworded (says_text_from 1 n) (λ f. (λ h. (omega (arith, h.0), h.1), λ h. (omega (arith, h.0), h.1))))

-- ---- numbers

-- n digits have a value below 10 to the n
pub value_below : (f : List ℕ) → Each Digit f → value f < 10 ^ length f
unfolding value
value_below [] h = omega arith
value_below (b ∷ f) h =
    let i : value f < 10 ^ length f = value_below f h.1 in
    let d : b - 48 ≤ 9 = omega (arith, h.0) in
    let q : 10 ^ suc (length f) ≡ 10 ^ length f * 10 = pow-suc 10 (length f) in
    omega (arith, mul-le-mul_right (10 ^ length f) d)

-- of two runs of as many digits the one with the larger leading digit is larger
value_less : (x y : ℕ) (f g : List ℕ) → length f ≡ length g → x - 48 < y - 48 → value f < 10 ^ length f → value (x ∷ f) < value (y ∷ g)
unfolding value
value_less x y f g e h k =
    let l : x - 48 + 1 ≤ y - 48 = omega arith in
    rw (← e) (omega (arith, mul-le-mul_right (10 ^ length f) l))

-- and with one leading digit the rest decides
value_same : (x : ℕ) (f g : List ℕ) → length f ≡ length g → (value f ≤ value g) ↔ (value (x ∷ f) ≤ value (x ∷ g))
unfolding value
value_same x f g e = rw (← e) (λ h. omega arith, λ h. omega arith)

-- the digits below a digit
abbrev Below : ℕ → List ℕ → Type 0
Below k f = (b : ℕ) × (f ≡ b ∷ []) × (48 ≤ b) × (b < 48 + k)

single : (c : ℕ) → c < 97 → Says ((c ∷ []) ∷ []) (λ f. f ≡ c ∷ [])
single c h = says_text (c ∷ []) (both (lt-ltb c 97 h) refl)

says_below : (k : ℕ) → k ≤ 10 → Says (below k) (Below k)
unfolding below
says_below zero h = says_none (Below 0) (λ f r. omega (arith, r.2, r.3))
says_below (suc k) h = reworded (says_or (says_below k (omega arith)) (single (48 + k) (omega arith))) (λ f. (to f, from f))
  where
    to : (f : List ℕ) → Or (Below k) (λ f. f ≡ (48 + k) ∷ []) f → Below (suc k) f
    to f (inl r) = (r.0, r.1, r.2, omega (arith, r.3))
    to f (inr e) = (48 + k, e, omega arith, omega arith)

    from : (f : List ℕ) → Below (suc k) f → Or (Below k) (λ f. f ≡ (48 + k) ∷ []) f
    from f r = by (dec_lt r.0 (48 + k))
      where
        by : Dec (r.0 < 48 + k) → Or (Below k) (λ f. f ≡ (48 + k) ∷ []) f
        by (yes l) = inl (r.0, r.1, r.2, l)
        by (no n) = let e : r.0 ≡ 48 + k = omega (arith, r.3) in inr (r.1 ∙ ap (λ (x : ℕ). x ∷ []) e)

abbrev Leads : ℕ → List ℕ → Type 0
Leads d g = g ≡ d ∷ []

led : {f g h : List ℕ} {x : ℕ} → f ≡ g ++ h → g ≡ x ∷ [] → f ≡ x ∷ h
led {h = h} e q = e ∙ ap (λ (t : List ℕ). t ++ h) q

-- one digit more on the left: either it is below the bound's, or it is the bound's and the rest keeps to the rest of the bound
module _ (d : ℕ) (ds : List ℕ) (hd : Digit d) (hs : Each Digit ds) where
  abbrev Lower : List ℕ → Type 0
  Lower = Then (Below (d - 48)) (Digits (length ds))

  abbrev Level : List ℕ → Type 0
  Level = Then (Leads d) (AtMost (length ds) (value ds))

  up_to_in : (f : List ℕ) → Or Lower Level f → AtMost (suc (length ds)) (value (d ∷ ds)) f
  up_to_in f (inl (g, h, e, (x, q, lo, hi), (l, r))) =
      subst (AtMost (suc (length ds)) (value (d ∷ ds))) (sym (led e q))
      ((ap suc l, ((lo, omega arith), r)), let v = value_less x d h ds l (omega arith) (value_below h r) in omega arith)
  up_to_in f (inr (g, h, e, q, ((l, r), v))) =
      subst (AtMost (suc (length ds)) (value (d ∷ ds))) (sym (led e q))
      ((ap suc l, (hd, r)), (value_same d h ds l).0 v)

  up_to_out : (f : List ℕ) → AtMost (suc (length ds)) (value (d ∷ ds)) f → Or Lower Level f
  up_to_out [] ((l, r), v) = absurd (omega arith)
  up_to_out (b ∷ f) ((l, (hb, r)), v) = by (dec_lt b d) (dec_lt d b)
    where
      e : length f ≡ length ds
      e = omega (arith, l)

      by : Dec (b < d) → Dec (d < b) → Or Lower Level (b ∷ f)
      by (yes h) k = inl (b ∷ [], f, refl, (b, refl, hb.0, omega (arith, h)), (e, r))
      by (no h) (yes k) =
          let w : value (d ∷ ds) < value (b ∷ f) = value_less d b ds f (sym e) (omega (arith, k, hd.0)) (value_below ds hs) in
          absurd (omega (arith, v))
      by (no h) (no k) =
          let q : b ≡ d = omega arith in
          inr (b ∷ [], f, refl, ap (λ (x : ℕ). x ∷ []) q, ((e, r), (value_same d f ds e).1 (subst (λ (x : ℕ). value (x ∷ f) ≤ value (d ∷ ds)) q v)))

pub says_up_to : (ds : List ℕ) → Each Digit ds → Says (up_to_codes ds) (AtMost (length ds) (value ds))
unfolding up_to_codes value
says_up_to [] h = reworded (says_text [] refl) (λ f. (λ e. rw e ((refl, tt), omega arith), λ r. no_bytes f r.0.0))
says_up_to (d ∷ ds) h =
    reworded
    (says_or (says_then (says_below (d - 48) (omega (arith, h.0))) (says_digits (length ds))) (says_then (single d (omega (arith, h.0))) (says_up_to ds h.1)))
    (λ f. (up_to_in d ds h.0 h.1 f, up_to_out d ds h.0 h.1 f))

-- ---- not all 0

abbrev NotZero : ℕ → List ℕ → Type 0
NotZero n f = Digits n f × (1 ≤ value f)

not_zero_in : (n : ℕ) (f : List ℕ) → Or (Then (All 1 (λ b. (49 ≤ b) × (b ≤ 57))) (Digits n)) (Then (Leads 48) (NotZero n)) f → NotZero (suc n) f
unfolding value
not_zero_in n f (inl (x ∷ [], h, e, (k, ((lo, hi), u)), (l, r))) =
    subst (NotZero (suc n)) (sym e)
    ((ap suc l, ((omega arith, hi), r)), let p : 1 ≤ x - 48 = omega arith in omega (arith, mul-le-mul_right (10 ^ length h) p, value_below h r))
not_zero_in n f (inl ([], h, e, (k, u), (l, r))) = absurd (omega arith)
not_zero_in n f (inl (x ∷ (y ∷ g), h, e, (k, u), (l, r))) = absurd (omega arith)
not_zero_in n f (inr (g, h, e, q, ((l, r), v))) = subst (NotZero (suc n)) (sym (led e q)) ((ap suc l, ((omega arith, omega arith), r)), omega arith)

not_zero_out : (n : ℕ) (f : List ℕ) → NotZero (suc n) f → Or (Then (All 1 (λ b. (49 ≤ b) × (b ≤ 57))) (Digits n)) (Then (Leads 48) (NotZero n)) f
unfolding value
not_zero_out n [] ((l, r), v) = absurd (omega arith)
not_zero_out n (b ∷ f) ((l, (hb, r)), v) = by (dec_lt 48 b)
  where
    by : Dec (48 < b) → Or (Then (All 1 (λ b. (49 ≤ b) × (b ≤ 57))) (Digits n)) (Then (Leads 48) (NotZero n)) (b ∷ f)
    by (yes h) = inl (b ∷ [], f, refl, (refl, ((h, hb.1), tt)), (omega (arith, l), r))
    by (no h) =
        let q : b ≡ 48 = omega (arith, hb.0) in
        inr (b ∷ [], f, refl, ap (λ (x : ℕ). x ∷ []) q, ((omega (arith, l), r), let z : (b - 48) ≡ 0 = omega arith in omega (arith, subst (λ (x : ℕ). 1 ≤ x * 10 ^ length f + value f) z v)))

says_not_zero : (n : ℕ) → Says (not_all_zero n) (NotZero n)
unfolding not_all_zero value codes
says_not_zero zero = says_none (NotZero 0) (λ f r. none f r.0.0 r.1)
  where
    none : (f : List ℕ) → length f ≡ 0 → 1 ≤ value f → ⊥
    none [] e h = omega arith
    none (b ∷ f) e h = omega arith
says_not_zero (suc n) =
    reworded
    (says_or (says_then (says_all 101 (λ b. (49 ≤ b) × (b ≤ 57)) digit_not_zero 1) (says_digits n)) (says_then (single 48 (omega arith)) (says_not_zero n)))
    (λ f. (not_zero_in n f, not_zero_out n f))

-- n digits, of a value from 1 to the most that n digits can have
pub says_from_one : (n most : ℕ) → most + 1 ≡ 10 ^ n → Says (not_all_zero n) (Between n 1 most)
says_from_one n most e = reworded (says_not_zero n) (λ f. (
  λ h.
      let v : value f < 10 ^ length f = value_below f h.0.1 in
      let q : 10 ^ length f ≡ 10 ^ n = ap (λ (k : ℕ). 10 ^ k) h.0.0 in
      (h.0, h.1, omega arith),
  λ h. (h.0, h.1),
))
