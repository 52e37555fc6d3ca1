-- Eight bytes as one number, the first the greatest: the numbers stand to each other as the bytes do.
-- Assumes nothing.
use Rattle.std.proofs.Common.{◌≡◌, refl, sym, ap, ap₂, ◌∙◌, ℕ, suc, ◌+◌, ◌-◌, ◌*◌, ◌<◌, ◌≤◌, true, false, List, [], ◌∷◌, ◌++◌, arith, length, get_or, take, drop, w64, length-take-le}
use native.Mathlib.Decide.{dec_lt}
use lib.ListN.{take-append-drop}
use borrow.Author.Tests.{lt-ltb, le-ltb, eq-eqb, ne_eqb}
use Rattle.std.specs.declared.cmp.Ordering.{Ordering}
use Rattle.std.specs.declared.cmp.Ordering.TheVariants.{Less, Equal, Greater}
use Rattle.std.specs.Ordering.{nat_cmp, ordering_then, is_ne}
use Rattle.std.specs.Int.{from_be_bytes}
use Rattle.slices.specs.Order.{order, equal, is_equal}
use Rattle.slices.proofs.StdLaws.{order_step}
use Rattle.slices.proofs.OrderLaws.{order_append}

cmp_less : (x y : ℕ) → x < y → nat_cmp x y ≡ Less
cmp_less x y h = rw (lt-ltb x y h)

cmp_greater : (x y : ℕ) → y < x → nat_cmp x y ≡ Greater
cmp_greater x y h = rw (le-ltb x y (omega arith), ne_eqb x y (λ e. omega arith))

cmp_equal : (x y : ℕ) → x ≡ y → nat_cmp x y ≡ Equal
cmp_equal x y e = rw (le-ltb x y (omega arith), eq-eqb x y e)

abbrev pub Bytes : List ℕ → Type 0
Bytes xs = (k : ℕ) → get_or xs k 0 < 256

-- the number that bytes spell behind another
number : ℕ → List ℕ → ℕ
number m [] = m
number m (x ∷ xs) = number (m * 256 + x) xs

number_less : (xs ys : List ℕ) (m n : ℕ) → length xs ≡ length ys → Bytes xs → Bytes ys → m < n → number m xs < number n ys
unfolding number
number_less [] [] m n e b c h = h
number_less [] (y ∷ ys) m n e b c h = absurd (omega arith)
number_less (x ∷ xs) [] m n e b c h = absurd (omega arith)
number_less (x ∷ xs) (y ∷ ys) m n e b c h =
    number_less xs ys (m * 256 + x) (n * 256 + y) (omega arith) (λ k. b (suc k)) (λ k. c (suc k)) (omega (arith, b 0, c 0))

number_order : (xs ys : List ℕ) (m : ℕ) → length xs ≡ length ys → Bytes xs → Bytes ys → nat_cmp (number m xs) (number m ys) ≡ order xs ys
unfolding number order
number_order [] [] m e b c = cmp_equal m m refl
number_order [] (y ∷ ys) m e b c = absurd (omega arith)
number_order (x ∷ xs) [] m e b c = absurd (omega arith)
number_order (x ∷ xs) (y ∷ ys) m e b c =
    by (dec_lt x y) (dec_lt y x) (number_order xs ys (m * 256 + x) (omega arith) (λ k. b (suc k)) (λ k. c (suc k)))
  where
    l : length xs ≡ length ys
    l = omega arith

    ends : (o : Ordering) → nat_cmp x y ≡ o → ordering_then o (order xs ys) ≡ order (x ∷ xs) (y ∷ ys)
    ends o p = sym (order_step x y xs ys ∙ ap (λ (r : Ordering). ordering_then r (order xs ys)) p)

    by : Dec (x < y) → Dec (y < x) → nat_cmp (number (m * 256 + x) xs) (number (m * 256 + x) ys) ≡ order xs ys
        → nat_cmp (number (m * 256 + x) xs) (number (m * 256 + y) ys) ≡ order (x ∷ xs) (y ∷ ys)
    by (yes h) k r = cmp_less _ _ (number_less xs ys (m * 256 + x) (m * 256 + y) l (λ k. b (suc k)) (λ k. c (suc k)) (omega arith)) ∙ ends Less (cmp_less x y h)
    by (no h) (yes k) r = cmp_greater _ _ (number_less ys xs (m * 256 + y) (m * 256 + x) (sym l) (λ k. c (suc k)) (λ k. b (suc k)) (omega arith)) ∙ ends Greater (cmp_greater x y k)
    by (no h) (no k) r =
        let p : y ≡ x = omega arith in
        ap (λ (z : ℕ). nat_cmp (number (m * 256 + x) xs) (number (m * 256 + z) ys)) p ∙ r ∙ ends Equal (cmp_equal x y (sym p))

word_is : (xs : List ℕ) → length xs ≡ 8 → from_be_bytes w64 xs ≡ number 0 xs
unfolding number
word_is (a ∷ b ∷ c ∷ d ∷ e ∷ f ∷ g ∷ h ∷ []) l = omega arith
word_is _ l = absurd (omega arith)

pub words_order : (p q : List ℕ) → length p ≡ 8 → length q ≡ 8 → Bytes p → Bytes q → nat_cmp (from_be_bytes w64 p) (from_be_bytes w64 q) ≡ order p q
words_order p q lp lq bp bq = rw (word_is p lp, word_is q lq) (number_order p q 0 (lp ∙ sym lq) bp bq)

-- the first eight of each, and then the rest
pub by_words : (xs ys p q : List ℕ) {o : Ordering} → 8 ≤ length xs → 8 ≤ length ys → p ≡ take 8 xs → q ≡ take 8 ys → o ≡ order p q
    → order xs ys ≡ ordering_then o (order (drop 8 xs) (drop 8 ys))
by_words xs ys p q {o} hx hy ep eq e =
    let lp : length p ≡ 8 = ap length ep ∙ length-take-le 8 xs hx in
    let lq : length q ≡ 8 = ap length eq ∙ length-take-le 8 ys hy in
    ap₂ order (sym (ap (λ (l : List ℕ). l ++ drop 8 xs) ep ∙ take-append-drop 8 xs)) (sym (ap (λ (l : List ℕ). l ++ drop 8 ys) eq ∙ take-append-drop 8 ys))
    ∙ order_append p q (drop 8 xs) (drop 8 ys) (lp ∙ sym lq)
    ∙ ap (λ (r : Ordering). ordering_then r (order (drop 8 xs) (drop 8 ys))) (sym e)

-- the last eight of each, and then what stands before them
pub by_last_words : (xs ys xr yr p q : List ℕ) {o : Ordering} → length xs ≡ length ys → 8 ≤ length xs
    → xr ≡ take (length xs - 8) xs → yr ≡ take (length ys - 8) ys → p ≡ drop (length xs - 8) xs → q ≡ drop (length ys - 8) ys → o ≡ order p q
    → equal xs ys ≡ is_equal (ordering_then (order xr yr) o)
unfolding equal
by_last_words xs ys xr yr p q {o} l h ex ey ep eq e =
    ap is_equal (ap₂ order (whole xs xr p ex ep) (whole ys yr q ey eq)
    ∙ order_append xr yr p q (ap length ex ∙ length-take-le (length xs - 8) xs (omega arith) ∙ ap (λ (n : ℕ). n - 8) l
    ∙ sym (ap length ey ∙ length-take-le (length ys - 8) ys (omega arith)))
    ∙ ap (ordering_then (order xr yr)) (sym e))
  where
    whole : (zs zr r : List ℕ) → zr ≡ take (length zs - 8) zs → r ≡ drop (length zs - 8) zs → zs ≡ zr ++ r
    whole zs zr r f g = sym (ap₂ (λ (a b : List ℕ). a ++ b) f g ∙ take-append-drop (length zs - 8) zs)

pub last_differs : (w o : Ordering) → is_ne o ≡ true → is_equal (ordering_then w o) ≡ false
last_differs Less o e = refl
last_differs Equal Less e = refl
last_differs Equal Equal e = cc
last_differs Equal Greater e = refl
last_differs Greater o e = refl

pub last_same : (w o : Ordering) → is_ne o ≡ false → is_equal (ordering_then w o) ≡ is_equal w
last_same Less o e = refl
last_same Equal Less e = cc
last_same Equal Equal e = refl
last_same Equal Greater e = cc
last_same Greater o e = refl
