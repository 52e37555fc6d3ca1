-- Going by cases on a test that stands in the goal, and what holds of a result if there is one.
-- Assumes nothing.
use mathlib.Core.Path.{◌≡◌, refl}
use mathlib.Core.Bool.{Bool, true, false, cond}
use mathlib.Core.Logic.{ite}
use mathlib.Core.Option.{Option, none, some, bind, map}

pub ite_case {ℓ} : {P : Type 0} {C : Type 0} (M : C → Type ℓ) (d : Dec P) {a b : C} → (P → M a) → (¬ P → M b) → M (ite d a b)
ite_case M (yes p) f g = f p
ite_case M (no n) f g = g n

pub cond_case {ℓ} : {C : Type 0} (M : C → Type ℓ) (t : Bool) {a b : C} → (t ≡ true → M a) → (t ≡ false → M b) → M (cond t a b)
cond_case M true f g = f refl
cond_case M false f g = g refl

-- What holds of a result, if there is one.
unfoldable pub Every : {A : Type 0} → (A → Type 0) → Option A → Type 0
Every P none = Unit {0}
Every P (some a) = P a

pub every_some : {A : Type 0} (P : A → Type 0) (o : Option A) (a : A) → Every P o → o ≡ some a → P a
unfolding Every
every_some P o a e h = rw h at e

pub every_map : {A B : Type 0} (P : A → Type 0) (Q : B → Type 0) (h : A → B) (o : Option A) → ((a : A) → P a → Q (h a)) → Every P o → Every Q (map h o)
unfolding Every
every_map P Q h none i e = tt
every_map P Q h (some a) i e = i a e

pub every_then : {A B : Type 0} (P : A → Type 0) (Q : B → Type 0) (k : A → Option B) (o : Option A) → ((a : A) → P a → Every Q (k a)) → Every P o → Every Q (bind o k)
unfolding bind Every
every_then P Q k none h e = tt
every_then P Q k (some a) h e = h a e

-- A result that a test lets through.
pub cond_some : {A : Type 0} (t : Bool) (a b : A) → cond t (some a) none ≡ some b → (t ≡ true) × (a ≡ b)
cond_some true a b h = (refl, cc)
cond_some false a b h = (cc, cc)
