-- What the readers of fields answer, a law for each way that one returns.
-- Assumes nothing.
use mathlib.Core.Path.{◌≡◌, sym, ap, ◌∙◌}
use mathlib.Core.Bool.{Bool, true, false, ◌&&◌}
use mathlib.Core.List.{List, append-nil}
use Prim.Native.Nat.{ℕ, ◌+◌, ◌≤◌, ◌<◌, min}
use Prim.Native.Char.{code}
use native.Mathlib.Omega.{arith}
use Rattle.std.specs.Prelude.{Some}
use native.Mathlib.Nat.{add-zero, min-eq_left}
use lib.Dec.{eqb}
use lib.ListN.{length, get_or, replicate, get_or-eq_default}
use lib.Seq.{sets, sets-eq}
use borrow.Author.Tests.{ne_eqb}
use Rattle.slices.specs.Part.{part, blank}
use Rattle.slices.proofs.PartLaws.{get_or_any, get_or-part, length_part, part_part}
use Rattle.digits.specs.Digits.{value}
use Rattle.fields.specs.Optional.{unless_blank}
use Rattle.fields.specs.Quantities.{course_said, course_of, distance_said, distance_of, altitude_said, altitude_of, angle_said, vertical_angle_of}
use Rattle.fields.specs.declared.quantities.Course.TheVariants as course
use Rattle.fields.specs.declared.quantities.Distance.TheVariants as distance
use Rattle.fields.specs.declared.quantities.Altitude.TheVariants as altitude

-- ---- text

module _ (n i : ℕ) (xs : List ℕ) (k : ℕ) where
  pub with_blanks_within : k < n → get_or (part n i xs) k 32 ≡ get_or xs (i + k) 0
  with_blanks_within h = get_or_any (part n i xs) k 32 0 (rw length_part h) ∙ get_or-part n i xs k h

  pub with_blanks_past : n ≤ k → get_or (part n i xs) k 32 ≡ 32
  with_blanks_past h = get_or-eq_default (part n i xs) 32 (rw length_part h)

-- the 83 bytes copied into as many
pub copied_whole : (bs : List ℕ) → length bs ≡ 83 → sets (replicate 83 0) 0 bs ≡ bs
copied_whole bs e = sets-eq bs (replicate 83 0) 0 (omega arith) ∙ rw e (append-nil bs)

-- ---- plain digits

-- up to six columns are read whole
pub six_digits : (n at : ℕ) (rec : List ℕ) {v : ℕ} → n ≤ 6 → v ≡ value (part (min n 6) at rec) → v ≡ value (part n at rec)
six_digits n at rec h e = e ∙ ap (λ (k : ℕ). value (part k at rec)) (min-eq_left h)

-- ---- numbers with a mark

-- the byte of a field, and its digits, are those of the record
byte_of : (n i : ℕ) (rec : List ℕ) (k : ℕ) {b : ℕ} → k < n → b ≡ get_or rec (i + k) 0 → get_or (part n i rec) k 0 ≡ b
byte_of n i rec k h e = get_or-part n i rec k h ∙ sym e

digits_of_lem : (m k n i : ℕ) (rec : List ℕ) {v : ℕ} → k + m ≤ n → v ≡ value (part m (i + k) rec) → value (part m k (part n i rec)) ≡ v
digits_of_lem m k n i rec h e = ap value (part_part m k n i rec h) ∙ sym e

module _ (rec : List ℕ) (filled : blank (part 4 70 rec) ≡ false) {b : ℕ} (e : b ≡ get_or rec 73 0) where
  pub course_true : {v : ℕ} → b ≡ code "T" → v ≡ value (part 3 70 rec) → Some (course.True (record { 0 = v })) ≡ course_of (part 4 70 rec)
  unfolding unless_blank course_said
  course_true h f = rw (filled, byte_of 4 70 rec 3 (omega arith) e, h, digits_of_lem 3 0 4 70 rec (omega arith) f)

  pub course_magnetic : {v : ℕ} → (b ≡ code "T" → ⊥) → v ≡ value (part 4 70 rec) → Some (course.Magnetic (record { 0 = v })) ≡ course_of (part 4 70 rec)
  unfolding unless_blank course_said
  course_magnetic h f = rw (filled, byte_of 4 70 rec 3 (omega arith) e, ne_eqb b (code "T") h, ← f)

module _ (rec : List ℕ) (holding : Bool) (filled : blank (part 4 74 rec) ≡ false) {b : ℕ} (e : b ≡ get_or rec 74 0) where
  pub distance_minutes : {v : ℕ} → (holding && eqb b (code "T")) ≡ true → v ≡ value (part 3 75 rec) → Some (distance.Minutes (record { 0 = v })) ≡ distance_of holding (part 4 74 rec)
  unfolding unless_blank distance_said
  distance_minutes h f = rw (filled, byte_of 4 74 rec 0 (omega arith) e, h, digits_of_lem 3 1 4 74 rec (omega arith) f)

  pub distance_miles : {v : ℕ} → (holding && eqb b (code "T")) ≡ false → v ≡ value (part 4 74 rec) → Some (distance.Miles (record { 0 = v })) ≡ distance_of holding (part 4 74 rec)
  unfolding unless_blank distance_said
  distance_miles h f = rw (filled, byte_of 4 74 rec 0 (omega arith) e, h, ← f)

module _ (rec : List ℕ) (n at : ℕ) (w : n ≡ 5) (filled : blank (part n at rec) ≡ false) {b : ℕ} (e : b ≡ get_or rec at 0) where
  mark : get_or (part n at rec) 0 0 ≡ b
  mark = byte_of n at rec 0 (omega arith) (rw add-zero e)

  pub altitude_level : {v : ℕ} → b ≡ code "F" → v ≡ value (part 3 (at + 2) rec) → Some (altitude.Level (record { 0 = v })) ≡ altitude_of (part n at rec)
  unfolding unless_blank altitude_said
  altitude_level h f = rw (filled, mark, h, digits_of_lem 3 2 n at rec (omega arith) f)

  pub altitude_below : {v : ℕ} → b ≡ code "-" → v ≡ value (part 4 (at + 1) rec) → Some (altitude.Below (record { 0 = v })) ≡ altitude_of (part n at rec)
  unfolding unless_blank altitude_said
  altitude_below h f = rw (filled, mark, h, digits_of_lem 4 1 n at rec (omega arith) f)

  pub altitude_feet : {v : ℕ} → (b ≡ code "F" → ⊥) → (b ≡ code "-" → ⊥) → v ≡ value (part n at rec)
      → Some (altitude.Feet (record { 0 = v })) ≡ altitude_of (part n at rec)
  unfolding unless_blank altitude_said
  altitude_feet h k f = rw (filled, mark, ne_eqb b (code "F") h, ne_eqb b (code "-") k, ← f)

pub vertical_down : (rec : List ℕ) {v : ℕ} → blank (part 4 102 rec) ≡ false → v ≡ value (part 3 103 rec) → Some (record { 0 = v }) ≡ vertical_angle_of (part 4 102 rec)
unfolding unless_blank angle_said
vertical_down rec filled f = rw (filled, digits_of_lem 3 1 4 102 rec (omega arith) f)
