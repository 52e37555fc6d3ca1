-- What a list of patterns says of the bytes that fit it, put together as the lists themselves are: side by side, one behind the other,
-- one letter throughout, plain text.
-- Assumes nothing.
use mathlib.Core.Path.{◌≡◌, refl, sym, ap, ap₂, ◌∙◌}
use mathlib.Core.Logic.Iff
use mathlib.Core.Logic.{◌↔◌, inl, inr, ⊎_elim}
use mathlib.Core.Bool.{Bool, true, false, ◌&&◌, ◌||◌, false≢true, or_assoc}
use mathlib.Core.List.Memᴰ
use mathlib.Core.List.{List, [], ◌∷◌, ◌++◌, map, Memᴰ}
use Prim.Native.Nat.{ℕ, zero, suc, ◌<◌}
use native.Mathlib.Omega.{arith}
use lib.ListN.{length, replicate, length-replicate}
use lib.Dec.{eqb, ltb}
use borrow.Author.Tests.{eqb-true, eq-eqb, ne_eqb, ltb-true}
use Rattle.slices.proofs.Cases.{both, and_left, and_right, either, or_left, or_right}
use Rattle.columns.specs.ByteSets.{fits}
use Rattle.columns.specs.Patterns.{fits_all, any_of, ◌then◌, blanks}
use Rattle.columns.specs.Words.{Each, All, Or, Then, Blank}

-- the bytes that fit a list of patterns are those of which P holds
pub record Says (ps : List (List ℕ)) (P : List ℕ → Type 0) : Type 0 where
  pub means : (f : List ℕ) → (any_of ps f ≡ true) ↔ P f

abbrev pub Fits : List ℕ → List ℕ → Type 0
Fits p f = fits_all p f ≡ true

-- the same in other words
pub reworded : {ps : List (List ℕ)} {P Q : List ℕ → Type 0} → Says ps P → ((f : List ℕ) → P f ↔ Q f) → Says ps Q
reworded s e = record { means = λ f. Iff.trans (s.means f) (e f) }

-- ---- one pattern

pub says_one : (p : List ℕ) {P : List ℕ → Type 0} → ((f : List ℕ) → Fits p f ↔ P f) → Says (p ∷ []) P
unfolding any_of
says_one p s = record { means = λ f. (λ e. ⊎_elim (s f).0 (λ x. absurd (false≢true x)) (either (fits_all p f) false e), λ h. or_left (fits_all p f) false ((s f).1 h)) }

-- ---- no pattern

pub says_none : (P : List ℕ → Type 0) → ((f : List ℕ) → P f → ⊥) → Says [] P
unfolding any_of
says_none P n = record { means = λ f. (λ e. absurd (false≢true e), λ h. absurd (n f h)) }

-- ---- side by side

pub any_of-append : (ps qs : List (List ℕ)) (f : List ℕ) → any_of (ps ++ qs) f ≡ (any_of ps f || any_of qs f)
unfolding any_of
any_of-append [] qs f = refl
any_of-append (p ∷ ps) qs f = ap (λ (t : Bool). fits_all p f || t) (any_of-append ps qs f) ∙ sym (or_assoc (fits_all p f) (any_of ps f) (any_of qs f))

pub says_or : {ps qs : List (List ℕ)} {P Q : List ℕ → Type 0} → Says ps P → Says qs Q → Says (ps ++ qs) (Or P Q)
says_or {ps} {qs} {P} {Q} s t = record { means = λ f. (to f, from f) }
  where
    to : (f : List ℕ) → any_of (ps ++ qs) f ≡ true → Or P Q f
    to f e = ⊎_elim (λ x. inl ((s.means f).0 x)) (λ x. inr ((t.means f).0 x)) (either (any_of ps f) (any_of qs f) (sym (any_of-append ps qs f) ∙ e))

    from : (f : List ℕ) → Or P Q f → any_of (ps ++ qs) f ≡ true
    from f (inl x) = any_of-append ps qs f ∙ or_left (any_of ps f) (any_of qs f) ((s.means f).1 x)
    from f (inr x) = any_of-append ps qs f ∙ or_right (any_of ps f) (any_of qs f) ((t.means f).1 x)

-- ---- one behind the other

fits_append : (p q g h : List ℕ) → Fits p g → Fits q h → Fits (p ++ q) (g ++ h)
unfolding fits_all
fits_append [] q [] h x y = y
fits_append [] q (b ∷ g) h x y = absurd (false≢true x)
fits_append (c ∷ p) q [] h x y = absurd (false≢true x)
fits_append (c ∷ p) q (b ∷ g) h x y =
    both (and_left (fits c b) (fits_all p g) x) (fits_append p q g h (and_right (fits c b) (fits_all p g) x) y)

fits_split : (p q f : List ℕ) → Fits (p ++ q) f → Then (Fits p) (Fits q) f
unfolding fits_all
fits_split [] q f x = ([], f, refl, refl, x)
fits_split (c ∷ p) q [] x = absurd (false≢true x)
fits_split (c ∷ p) q (b ∷ f) x =
    let r = fits_split p q f (and_right (fits c b) (fits_all (p ++ q) f) x) in
    (b ∷ r.0, r.1, ap (λ (t : List ℕ). b ∷ t) r.2, both (and_left (fits c b) (fits_all (p ++ q) f) x) r.3, r.4)

any_behind : (p : List ℕ) (qs : List (List ℕ)) (f : List ℕ) → any_of (map (λ q. p ++ q) qs) f ≡ true → Then (Fits p) (λ h. any_of qs h ≡ true) f
unfolding any_of
any_behind p [] f e = absurd (false≢true e)
any_behind p (q ∷ qs) f e =
    ⊎_elim
    (λ x. let r = fits_split p q f x in (r.0, r.1, r.2, r.3, or_left (fits_all q r.1) (any_of qs r.1) r.4))
    (λ x. let r = any_behind p qs f x in (r.0, r.1, r.2, r.3, or_right (fits_all q r.1) (any_of qs r.1) r.4))
    (either (fits_all (p ++ q) f) (any_of (map (λ q. p ++ q) qs) f) e)

any_joined : (p : List ℕ) (qs : List (List ℕ)) (g h : List ℕ) → Fits p g → any_of qs h ≡ true → any_of (map (λ q. p ++ q) qs) (g ++ h) ≡ true
unfolding any_of
any_joined p [] g h x y = absurd (false≢true y)
any_joined p (q ∷ qs) g h x y =
    ⊎_elim
    (λ z. or_left (fits_all (p ++ q) (g ++ h)) (any_of (map (λ q. p ++ q) qs) (g ++ h)) (fits_append p q g h x z))
    (λ z. or_right (fits_all (p ++ q) (g ++ h)) (any_of (map (λ q. p ++ q) qs) (g ++ h)) (any_joined p qs g h x z))
    (either (fits_all q h) (any_of qs h) y)

then_split : (ps qs : List (List ℕ)) (f : List ℕ) → any_of (ps then qs) f ≡ true → Then (λ g. any_of ps g ≡ true) (λ h. any_of qs h ≡ true) f
unfolding any_of ◌then◌
then_split [] qs f e = absurd (false≢true e)
then_split (p ∷ ps) qs f e =
    ⊎_elim
    (λ x. let r = any_behind p qs f x in (r.0, r.1, r.2, or_left (fits_all p r.0) (any_of ps r.0) r.3, r.4))
    (λ x. let r = then_split ps qs f x in (r.0, r.1, r.2, or_right (fits_all p r.0) (any_of ps r.0) r.3, r.4))
    (either (any_of (map (λ q. p ++ q) qs) f) (any_of (ps then qs) f) (sym (any_of-append (map (λ q. p ++ q) qs) (ps then qs) f) ∙ e))

then_joined : (ps qs : List (List ℕ)) (g h : List ℕ) → any_of ps g ≡ true → any_of qs h ≡ true → any_of (ps then qs) (g ++ h) ≡ true
unfolding any_of ◌then◌
then_joined [] qs g h x y = absurd (false≢true x)
then_joined (p ∷ ps) qs g h x y =
    any_of-append (map (λ q. p ++ q) qs) (ps then qs) (g ++ h)
    ∙ ⊎_elim
    (λ z. or_left (any_of (map (λ q. p ++ q) qs) (g ++ h)) (any_of (ps then qs) (g ++ h)) (any_joined p qs g h z y))
    (λ z. or_right (any_of (map (λ q. p ++ q) qs) (g ++ h)) (any_of (ps then qs) (g ++ h)) (then_joined ps qs g h z y))
    (either (fits_all p g) (any_of ps g) x)

pub says_then : {ps qs : List (List ℕ)} {P Q : List ℕ → Type 0} → Says ps P → Says qs Q → Says (ps then qs) (Then P Q)
says_then {ps} {qs} s t = record {
  means = λ f. (
    λ e. let r = then_split ps qs f e in (r.0, r.1, r.2, (s.means r.0).0 r.3, (t.means r.1).0 r.4),
    λ r. ap (any_of (ps then qs)) r.2 ∙ then_joined ps qs r.0 r.1 ((s.means r.0).1 r.3) ((t.means r.1).1 r.4),
  );
}

-- ---- one letter throughout

module _ (c : ℕ) (P : ℕ → Type 0) (e : (b : ℕ) → (fits c b ≡ true) ↔ P b) where
  fits_throughout : (n : ℕ) (f : List ℕ) → Fits (replicate n c) f → All n P f
  unfolding fits_all
  fits_throughout zero [] x = (refl, tt)
  fits_throughout zero (b ∷ f) x = absurd (false≢true x)
  fits_throughout (suc n) [] x = absurd (false≢true x)
  fits_throughout (suc n) (b ∷ f) x =
      let r = fits_throughout n f (and_right (fits c b) (fits_all (replicate n c) f) x) in
      (ap suc r.0, ((e b).0 (and_left (fits c b) (fits_all (replicate n c) f) x), r.1))

  throughout_fits : (n : ℕ) (f : List ℕ) → All n P f → Fits (replicate n c) f
  unfolding fits_all
  throughout_fits zero [] h = refl
  throughout_fits zero (b ∷ f) h = absurd (omega (arith, h.0))
  throughout_fits (suc n) [] h = absurd (omega (arith, h.0))
  throughout_fits (suc n) (b ∷ f) h = both ((e b).1 h.1.0) (throughout_fits n f (omega (arith, h.0), h.1.1))

  pub says_all : (n : ℕ) → Says (replicate n c ∷ []) (All n P)
  says_all n = says_one (replicate n c) (λ f. (fits_throughout n f, throughout_fits n f))

-- ---- plain text

-- a code below the small letters stands for itself
pub fits_plain : (c b : ℕ) → c < 97 → fits c b ≡ eqb b c
unfolding fits
fits_plain c b h =
    simp (
      ne_eqb c 97 (λ e. omega arith),
      ne_eqb c 100 (λ e. omega arith),
      ne_eqb c 101 (λ e. omega arith),
      ne_eqb c 110 (λ e. omega arith),
      ne_eqb c 111 (λ e. omega arith),
      ne_eqb c 116 (λ e. omega arith),
      ne_eqb c 115 (λ e. omega arith),
      ne_eqb c 107 (λ e. omega arith),
      ne_eqb c 112 (λ e. omega arith),
    )

pub plain_iff : (c : ℕ) → c < 97 → (b : ℕ) → (fits c b ≡ true) ↔ (b ≡ c)
plain_iff c h b = (λ e. eqb-true b c (sym (fits_plain c b h) ∙ e), λ e. fits_plain c b h ∙ eq-eqb b c e)

abbrev pub plain : List ℕ → Bool
plain [] = true
plain (c ∷ p) = ltb c 97 && plain p

abbrev pub plains : List (List ℕ) → Bool
plains [] = true
plains (p ∷ ps) = plain p && plains ps

plain_fits : (p f : List ℕ) → plain p ≡ true → Fits p f → f ≡ p
unfolding fits_all
plain_fits [] [] h x = refl
plain_fits [] (b ∷ f) h x = absurd (false≢true x)
plain_fits (c ∷ p) [] h x = absurd (false≢true x)
plain_fits (c ∷ p) (b ∷ f) h x =
    ap₂ (λ (y : ℕ) (ys : List ℕ). y ∷ ys) ((plain_iff c (ltb-true c 97 (and_left (ltb c 97) (plain p) h)) b).0 (and_left (fits c b) (fits_all p f) x))
    (plain_fits p f (and_right (ltb c 97) (plain p) h) (and_right (fits c b) (fits_all p f) x))

fits_itself : (p : List ℕ) → plain p ≡ true → Fits p p
unfolding fits_all
fits_itself [] h = refl
fits_itself (c ∷ p) h =
    both ((plain_iff c (ltb-true c 97 (and_left (ltb c 97) (plain p) h)) c).1 refl) (fits_itself p (and_right (ltb c 97) (plain p) h))

pub says_text : (p : List ℕ) → plain p ≡ true → Says (p ∷ []) (λ f. f ≡ p)
says_text p h = says_one p (λ f. (plain_fits p f h, λ e. ap (fits_all p) e ∙ fits_itself p h))

plains_fit : (ps : List (List ℕ)) (f : List ℕ) → plains ps ≡ true → any_of ps f ≡ true → Memᴰ f ps
unfolding any_of
plains_fit [] f h x = absurd (false≢true x)
plains_fit (p ∷ ps) f h x =
    ⊎_elim (λ y. Memᴰ.head (plain_fits p f (and_left (plain p) (plains ps) h) y))
    (λ y. Memᴰ.tail (plains_fit ps f (and_right (plain p) (plains ps) h) y))
    (either (fits_all p f) (any_of ps f) x)

fit_among : (ps : List (List ℕ)) (f : List ℕ) → plains ps ≡ true → Memᴰ f ps → any_of ps f ≡ true
unfolding any_of
fit_among [] f h m = absurd (Memᴰ.not-nil m)
fit_among (p ∷ ps) f h m =
    ⊎_elim (λ e. or_left (fits_all p f) (any_of ps f) (ap (fits_all p) e ∙ fits_itself p (and_left (plain p) (plains ps) h)))
    (λ n. or_right (fits_all p f) (any_of ps f) (fit_among ps f (and_right (plain p) (plains ps) h) n))
    (Memᴰ.cases_cons m)

-- a list of plain texts says: one of them
pub says_among : (ps : List (List ℕ)) → plains ps ≡ true → Says ps (λ f. Memᴰ f ps)
says_among ps h = record { means = λ f. (plains_fit ps f h, fit_among ps f h) }

-- ---- blanks

pub each_blank : (f : List ℕ) → Each (λ b. b ≡ 32) f → f ≡ replicate (length f) 32
each_blank [] h = refl
each_blank (b ∷ f) h = ap₂ (λ (y : ℕ) (ys : List ℕ). y ∷ ys) h.0 (each_blank f h.1)

pub blank_each : (n : ℕ) (f : List ℕ) → f ≡ replicate n 32 → Each (λ b. b ≡ 32) f
blank_each n f e = rw e (go n)
  where
    go : (n : ℕ) → Each (λ b. b ≡ 32) (replicate n 32)
    go zero = tt
    go (suc n) = (refl, go n)

pub says_blanks : (n : ℕ) → Says (blanks n) (Blank n)
says_blanks n = reworded (says_all 32 (λ b. b ≡ 32) (plain_iff 32 (omega arith)) n) (λ f. (
  λ h. each_blank f h.1 ∙ ap (λ (k : ℕ). replicate k 32) h.0,
  λ e. (ap length e ∙ length-replicate n 32, blank_each n f e),
))

pub or_blank_lem : {ps : List (List ℕ)} {P : List ℕ → Type 0} (n : ℕ) → Says ps P → Says (ps ++ blanks n) (Or P (Blank n))
or_blank_lem n s = says_or s (says_blanks n)
