-- Bytes that fit a form from its first place to its last, and that the three forms are the lines that paper 01 describes.
-- Assumes nothing.
use mathlib.Core.Path.{◌≡◌, refl, ap, ap₂, ◌∙◌}
use mathlib.Core.Bool.{true}
use mathlib.Core.List.{List, [], ◌∷◌, ◌++◌, map}
use Prim.Native.Nat.{ℕ, zero, suc}
use native.Mathlib.Omega.{arith}
use lib.Dec.{leb}
use lib.ListN.{length, take, replicate}
use borrow.Author.Tests.{eq-eqb, eqb-true, leb-true, le-leb}
use Rattle.slices.proofs.Cases.{split, and_left, and_right}
use Rattle.digits.specs.Decimal.{decimal}
use Rattle.corrections.specs.Lines.{exactly, printable, allows, Form, ended, heading, change, reach, whole}
use Rattle.corrections.specs.Text.{Change, record_of, letter_of, change_text, heading_text, Printable, Sound}

-- place by place
abbrev pub Fits : Form → List ℕ → Type 0
Fits [] [] = Unit {0}
Fits [] (b ∷ bs) = ⊥
Fits (s ∷ f) [] = ⊥
Fits (s ∷ f) (b ∷ bs) = (allows s b ≡ true) × Fits f bs

pub fits_length : (f : Form) (bs : List ℕ) → Fits f bs → length bs ≡ length f
fits_length [] [] h = refl
fits_length [] (b ∷ bs) h = absurd h
fits_length (s ∷ f) [] h = absurd h
fits_length (s ∷ f) (b ∷ bs) h = ap suc (fits_length f bs h.1)

-- what fits is a line of the form, whatever stands behind it
reach_all : (f : Form) (bs rest : List ℕ) → Fits f bs → reach f (bs ++ rest) ≡ length f
unfolding reach
reach_all [] [] rest h = refl
reach_all [] (b ∷ bs) rest h = absurd h
reach_all (s ∷ f) [] rest h = absurd h
reach_all (s ∷ f) (b ∷ bs) rest h = rw h.0 (ap suc (reach_all f bs rest h.1))

pub fits_whole : (f : Form) (bs rest : List ℕ) → Fits f bs → whole f (bs ++ rest) ≡ true
unfolding whole
fits_whole f bs rest h = eq-eqb (reach f (bs ++ rest)) (length f) (reach_all f bs rest h)

-- and the other way round
all_fits : (f : Form) (bs : List ℕ) → reach f bs ≡ length f → Fits f (take (length f) bs)
unfolding reach
all_fits [] bs h = tt
all_fits (s ∷ f) [] h = absurd (omega arith)
all_fits (s ∷ f) (b ∷ bs) h =
    split (allows s b) (λ e. (e, all_fits f bs (let q : suc (reach f bs) ≡ suc (length f) = rw e at h in omega arith)))
    (λ e. let q : 0 ≡ suc (length f) = rw e at h in absurd (omega arith))

pub whole_fits : (f : Form) (bs : List ℕ) → whole f bs ≡ true → Fits f (take (length f) bs)
unfolding whole
whole_fits f bs h = all_fits f bs (eqb-true (reach f bs) (length f) h)

-- ---- forms put together

fits_append : (f g : Form) (xs ys : List ℕ) → Fits f xs → Fits g ys → Fits (f ++ g) (xs ++ ys)
fits_append [] g [] ys p q = q
fits_append [] g (x ∷ xs) ys p q = absurd p
fits_append (s ∷ f) g [] ys p q = absurd p
fits_append (s ∷ f) g (x ∷ xs) ys p q = (p.0, fits_append f g xs ys p.1 q)

-- bytes that fit two forms one behind the other fall apart
abbrev Apart : Form → Form → List ℕ → Type 0
Apart f g bs = (xs : List ℕ) × (ys : List ℕ) × (bs ≡ xs ++ ys) × Fits f xs × Fits g ys

fits_apart : (f g : Form) (bs : List ℕ) → Fits (f ++ g) bs → Apart f g bs
fits_apart [] g bs h = ([], bs, refl, tt, h)
fits_apart (s ∷ f) g [] h = absurd h
fits_apart (s ∷ f) g (b ∷ bs) h =
    let w = fits_apart f g bs h.1 in (b ∷ w.0, w.1, ap (λ (l : List ℕ). b ∷ l) w.2, (h.0, w.3), w.4)

fits_exactly : (ds : List ℕ) → Fits (map exactly ds) ds
fits_exactly [] = tt
fits_exactly (d ∷ ds) = (eq-eqb d d refl, fits_exactly ds)

exactly_fits : (ds bs : List ℕ) → Fits (map exactly ds) bs → bs ≡ ds
exactly_fits [] [] h = refl
exactly_fits [] (b ∷ bs) h = absurd h
exactly_fits (d ∷ ds) [] h = absurd h
exactly_fits (d ∷ ds) (b ∷ bs) h = ap₂ (λ (x : ℕ) (l : List ℕ). x ∷ l) (eqb-true b d h.0) (exactly_fits ds bs h.1)

fits_record : (n : ℕ) (bs : List ℕ) → length bs ≡ n → Printable bs → Fits (replicate n printable) bs
fits_record zero [] e h = tt
fits_record zero (b ∷ bs) e h = absurd (omega arith)
fits_record (suc n) [] e h = absurd (omega arith)
fits_record (suc n) (b ∷ bs) e h = (rw (le-leb 32 b h.0, le-leb b 126 h.1), fits_record n bs (omega arith) h.2)

record_fits : (n : ℕ) (bs : List ℕ) → Fits (replicate n printable) bs → (length bs ≡ n) × Printable bs
record_fits zero [] h = (refl, tt)
record_fits zero (b ∷ bs) h = absurd h
record_fits (suc n) [] h = absurd h
record_fits (suc n) (b ∷ bs) h =
    let w = record_fits n bs h.1 in
    (ap suc w.0, (leb-true 32 b (and_left (leb 32 b) (leb b 126) h.0), leb-true b 126 (and_right (leb 32 b) (leb b 126) h.0), w.1))

-- ---- the lines of paper 01

pub fits_heading : (n : ℕ) → Fits (heading n) (heading_text n)
unfolding heading
fits_heading n = (refl, (refl, fits_append (map exactly (decimal n)) ended (decimal n) (10 ∷ []) (fits_exactly (decimal n)) (refl, tt)))

pub heading_fits : (n : ℕ) (bs : List ℕ) → Fits (heading n) bs → bs ≡ heading_text n
unfolding heading
heading_fits n [] h = absurd h
heading_fits n (b ∷ []) h = absurd h.1
heading_fits n (a ∷ b ∷ bs) h =
    let w = fits_apart (map exactly (decimal n)) ended bs h.1.1 in
    let x : a ≡ 67 = eqb-true a 67 h.0 in
    let y : b ≡ 9 = eqb-true b 9 h.1.0 in
    rw (x, y, w.2, exactly_fits (decimal n) w.0 w.3, exactly_fits (10 ∷ []) w.1 w.4)

pub fits_change : (x : Change) → Sound x → Fits (change (letter_of x)) (change_text x)
unfolding change
fits_change x s =
    (eq-eqb (letter_of x) (letter_of x) refl, (refl, fits_append (replicate 132 printable) ended (record_of x) (10 ∷ []) (fits_record 132 (record_of x) s.0 s.1) (refl, tt)))

pub change_fits : (letter : ℕ) (bs : List ℕ) → Fits (change letter) bs
    → (r : List ℕ) × (bs ≡ letter ∷ 9 ∷ (r ++ 10 ∷ [])) × (length r ≡ 132) × Printable r
unfolding change
change_fits letter [] h = absurd h
change_fits letter (b ∷ []) h = absurd h.1
change_fits letter (a ∷ b ∷ bs) h =
    let w = fits_apart (replicate 132 printable) ended bs h.1.1 in
    let x : a ≡ letter = eqb-true a letter h.0 in
    let y : b ≡ 9 = eqb-true b 9 h.1.0 in
    let q = record_fits 132 w.0 w.3 in
    let e : bs ≡ w.0 ++ 10 ∷ [] = w.2 ∙ ap (λ (l : List ℕ). w.0 ++ l) (exactly_fits (10 ∷ []) w.1 w.4) in
    (w.0, rw (x, y) (ap (λ (l : List ℕ). letter ∷ 9 ∷ l) e), q.0, q.1)
