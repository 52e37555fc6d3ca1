-- What may be absent: a field of blanks says that it is, and nothing is put for it.
-- Assumes nothing.
use Rattle.std.specs.Prelude.{ℕ, cond, List, [], Option, None, Some}
use Rattle.slices.specs.Part.{blank}
use Rattle.digits.specs.Digits.{value}
use Rattle.fields.specs.Numbers.{numeral}

-- what a field's bytes say, unless they are blank
unfoldable pub unless_blank : {A : Type 0} → (List ℕ → A) → List ℕ → Option A
unless_blank of f = cond (blank f) None (Some (of f))

-- the bytes of a part, and none where it is absent
unfoldable pub optional_bytes : {A : Type 0} → (A → List ℕ) → Option A → List ℕ
optional_bytes bytes None = []
optional_bytes bytes (Some v) = bytes v

-- a number of a unit, in plain digits
abbrev pub quantity_of : {A : Type 0} → (ℕ → A) → List ℕ → Option A
quantity_of of = unless_blank (λ f. of (value f))

abbrev pub quantity_bytes : {A : Type 0} → (A → ℕ) → ℕ → Option A → List ℕ
quantity_bytes worth n = optional_bytes (λ v. numeral n (worth v))
