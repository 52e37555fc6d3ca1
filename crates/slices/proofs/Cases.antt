-- Taking a test, or a joint test, apart by its answer.
-- Assumes nothing.
use mathlib.Core.Path.{◌≡◌, refl, sym}
use mathlib.Core.Logic.{◌↔◌, ◌⊎◌, inl, inr, ⊎_elim}
use mathlib.Core.Bool.{Bool, true, false, not, ◌&&◌, ◌||◌, false≢true}

-- by the answer of a test, with the answer's equation
pub split {ℓ} : {C : Type ℓ} (t : Bool) → (t ≡ true → C) → (t ≡ false → C) → C
split true f g = f refl
split false f g = g refl

-- a test that the code turns round
pub is_false : (b : Bool) → not b ≡ true → b ≡ false
is_false true e = sym e
is_false false e = refl

pub is_true : (b : Bool) → not b ≡ false → b ≡ true
is_true true e = refl
is_true false e = sym e

pub both : {a b : Bool} → a ≡ true → b ≡ true → (a && b) ≡ true
both p q = rw (p, q)

pub and_left : (a b : Bool) → (a && b) ≡ true → a ≡ true
and_left true b e = refl
and_left false b e = absurd (false≢true e)

pub and_right : (a b : Bool) → (a && b) ≡ true → b ≡ true
and_right true b e = e
and_right false b e = absurd (false≢true e)

pub either : (a b : Bool) → (a || b) ≡ true → (a ≡ true) ⊎ (b ≡ true)
either true b e = inl refl
either false b e = inr e

pub or_left : (a b : Bool) → a ≡ true → (a || b) ≡ true
or_left true b e = refl
or_left false b e = absurd (false≢true e)

pub or_right : (a b : Bool) → b ≡ true → (a || b) ≡ true
or_right true b e = refl
or_right false b e = e

-- a joint test says what its tests say
pub or_iff : {A B : Type 0} (s t : Bool) → (s ≡ true) ↔ A → (t ≡ true) ↔ B → ((s || t) ≡ true) ↔ (A ⊎ B)
or_iff {A} {B} s t p q = (λ e. ⊎_elim (λ x. inl (p.0 x)) (λ x. inr (q.0 x)) (either s t e), from)
  where
    from : A ⊎ B → (s || t) ≡ true
    from (inl a) = or_left s t (p.1 a)
    from (inr b) = or_right s t (q.1 b)
