-- The laws of the number fields, of the turn and of the terminator.
-- Assumes nothing.
use mathlib.Core.Path.{◌≡◌, refl, sym, ap, subst, ◌∙◌}
use mathlib.Core.Bool.{Bool, true, false, and-false}
use mathlib.Core.Logic.{◌⊎◌, inl, inr, ⊎_elim}
use mathlib.Core.List.Memᴰ
use mathlib.Core.List.{List, [], ◌∷◌, ◌++◌, append-nil}
use Prim.Native.Nat.{ℕ, suc, ◌+◌, ◌^◌, ◌≤◌, ◌<◌}
use native.Mathlib.Omega.{arith}
use Rattle.std.specs.Prelude.{Option, None, Some}
use lib.Dec.{ltb}
use lib.ListN.{length, get_or, replicate, length-append}
use borrow.Author.Tests.{lt-ltb, ltb-true, ne_eqb}
use Rattle.slices.specs.Part.{part, blank}
use Rattle.slices.proofs.Cases.{split}
use Rattle.slices.proofs.PartLaws.{part_all, blank_replicate}
use Rattle.columns.specs.Patterns.{codes, each}
use Rattle.columns.specs.Terminators.{terminators}
use Rattle.columns.specs.Words.{Each, Digit, Digits, Blank, OrBlank, Then, Is, Code, OneOf, Altitude, Tenths, Course}
use Rattle.digits.specs.Digits.{value}
use Rattle.columns.proofs.FieldLaws.{value_below}
use Rattle.columns.proofs.Printable.{each_at}
use Rattle.leg.specs.Terminator.{terminator_of, name_of}
use Rattle.leg.proofs.Legality.{named_back}
use Rattle.leg.proofs.TerminatorLaws.{row_of}
use Rattle.fields.specs.Pieces.{with_blanks}
use Rattle.fields.specs.Optional.{unless_blank, optional_bytes, quantity_of, quantity_bytes}
use Rattle.fields.specs.Numbers.{digits_of, marked_digits, numeral}
use Rattle.fields.specs.Quantities.{
  rnp_of,
  rnp_bytes,
  arc_radius_of,
  arc_radius_bytes,
  theta_of,
  theta_bytes,
  rho_of,
  rho_bytes,
  course_said,
  bytes_of_course,
  course_of,
  course_bytes,
  distance_said,
  bytes_of_distance,
  distance_of,
  distance_bytes,
  altitude_said,
  bytes_of_altitude,
  altitude_of,
  altitude_bytes,
  transition_altitude_of,
  transition_altitude_bytes,
  speed_of,
  speed_bytes,
  angle_said,
  bytes_of_angle,
  vertical_angle_of,
  vertical_angle_bytes,
}
use Rattle.fields.specs.Turn.{turn_of, bytes_of_turn, turn_bytes}
use Rattle.fields.specs.declared.units.HundredthsOfDegree.{HundredthsOfDegree}
use Rattle.fields.specs.declared.quantities.Course.{Course as CoursePart}
use Rattle.fields.specs.declared.quantities.Course.TheVariants as course
use Rattle.fields.specs.declared.quantities.Distance.{Distance as DistancePart}
use Rattle.fields.specs.declared.quantities.Distance.TheVariants as distance
use Rattle.fields.specs.declared.quantities.Altitude.{Altitude as AltitudePart}
use Rattle.fields.specs.declared.quantities.Altitude.TheVariants as altitude
use Rattle.fields.specs.declared.turn.Turn.{Turn}
use Rattle.fields.specs.declared.turn.Turn.TheVariants as turn
use Rattle.fields.proofs.NumberLaws.{digits_length, digits_value, digits_back, digits_each}
use Rattle.fields.proofs.Field.{Sound, Field}
use Rattle.fields.proofs.TextLaws.{with_blanks_full, with_blanks_none, unsound}

-- ---- digits between marks

marked_fits : (before : List ℕ) (n : ℕ) (after : List ℕ) (v : ℕ) → v < 10 ^ n → marked_digits before n after v ≡ before ++ (digits_of n v ++ after)
unfolding marked_digits
marked_fits before n after v h = rw (lt-ltb v (10 ^ n) h)

-- digits are written as they were
marked_back : (before : List ℕ) (n : ℕ) (after : List ℕ) (h : List ℕ) → Digits n h → marked_digits before n after (value h) ≡ before ++ (h ++ after)
marked_back before n after h d =
    let l : value h < 10 ^ n = subst (λ (k : ℕ). value h < 10 ^ k) d.0 (value_below h d.1) in
    let e : digits_of n (value h) ≡ h = ap (λ (k : ℕ). digits_of k (value h)) (sym d.0) ∙ digits_back h d.1 in
    marked_fits before n after (value h) l ∙ ap (λ (f : List ℕ). before ++ (f ++ after)) e

module _ (w : ℕ) (before : List ℕ) (n : ℕ) (after : List ℕ) (wide : length before + (n + length after) ≡ w) where
  full : (v : ℕ) → length (before ++ (digits_of n v ++ after)) ≡ w
  full v = length-append before (digits_of n v ++ after) ∙ ap (λ (k : ℕ). length before + k) (length-append (digits_of n v) after ∙ ap (λ (k : ℕ). k + length after) (digits_length n v)) ∙ wide

  pub marked_short : 1 ≤ w → (v : ℕ) → length (marked_digits before n after v) ≤ w
  unfolding marked_digits
  marked_short h v = split (ltb v (10 ^ n)) (λ e. rw (e, full v) (omega arith)) (λ e. rw e h)

  -- a number that its field holds
  record Held (v : ℕ) : Type 0 where
    below : v < 10 ^ n
    bytes : with_blanks w (marked_digits before n after v) ≡ before ++ (digits_of n v ++ after)
    digits : Each Digit (digits_of n v)
    worth : value (digits_of n v) ≡ v

  marked_held : (v : ℕ) → Sound (with_blanks w (marked_digits before n after v)) → Held v
  unfolding marked_digits
  marked_held v s = split (ltb v (10 ^ n)) fits (λ e. unsound w (rw e at s))
    where
      fits : ltb v (10 ^ n) ≡ true → Held v
      fits e =
          let l : v < 10 ^ n = ltb-true v (10 ^ n) e in
          record { below = l; bytes = rw e (with_blanks_full w (before ++ (digits_of n v ++ after)) (full v)); digits = digits_each n v l; worth = digits_value n v l }

-- what tells digits from marks and from blanks
digit_first : (f : List ℕ) (k : ℕ) → k < length f → Each Digit f → (48 ≤ get_or f k 0) × (get_or f k 0 ≤ 57)
digit_first f k h d = each_at Digit f k h d

not_blank : (b : ℕ) (f : List ℕ) → (b ≡ 32 → ⊥) → blank (b ∷ f) ≡ false
unfolding blank
not_blank b f h = rw (ne_eqb b 32 h)

pub digits_filled : (f : List ℕ) → 1 ≤ length f → Each Digit f → blank f ≡ false
digits_filled [] h d = absurd (omega arith)
digits_filled (b ∷ f) h d = not_blank b f (λ e. omega (arith, d.0.0))

-- ---- plain numbers

module _ (n : ℕ) where
  number_back : (f : List ℕ) → Digits (suc n) f → with_blanks (suc n) (numeral (suc n) (value f)) ≡ f
  number_back f d =
      let e : numeral (suc n) (value f) ≡ f = marked_back [] (suc n) [] f d ∙ append-nil f in
      with_blanks_full (suc n) (numeral (suc n) (value f)) (ap length e ∙ d.0) ∙ e

  number_wide : length {A = ℕ} [] + (suc n + length {A = ℕ} []) ≡ suc n
  number_wide = omega arith

  number_held : (v : ℕ) → Sound (with_blanks (suc n) (numeral (suc n) v)) → (with_blanks (suc n) (numeral (suc n) v) ≡ digits_of (suc n) v) × Held (suc n) [] (suc n) [] number_wide v
  number_held v s = let h = marked_held (suc n) [] (suc n) [] number_wide v s in (h.bytes ∙ append-nil (digits_of (suc n) v), h)

  pub number_field : Field (suc n) value (numeral (suc n)) (Digits (suc n))
  number_field = record {
    short = marked_short (suc n) [] (suc n) [] number_wide (omega arith);
    back = number_back;
    there = λ v s. ap value (number_held v s).0 ∙ (number_held v s).1.worth;
  }

-- what may be absent: its own field, where it is never blank, or a field of blanks
module _ {A : Type 0} {w : ℕ} {of : List ℕ → A} {bytes : A → List ℕ} {Good : List ℕ → Type 0} (field : Field w of bytes Good)
    (filled : (f : List ℕ) → Good f → blank f ≡ false) (seen : (v : A) → Sound (with_blanks w (bytes v)) → blank (with_blanks w (bytes v)) ≡ false) where
  optional_field : Field w (unless_blank of) (optional_bytes bytes) (OrBlank w Good)
  unfolding unless_blank optional_bytes
  optional_field = record { short = short; back = back; there = there }
    where
      short : (v : Option A) → length (optional_bytes bytes v) ≤ w
      short None = omega arith
      short (Some v) = field.short v

      back : (f : List ℕ) → OrBlank w Good f → with_blanks w (optional_bytes bytes (unless_blank of f)) ≡ f
      back f (inl g) = rw (filled f g) (field.back f g)
      back f (inr e) = rw (ap blank e ∙ blank_replicate w) (with_blanks_none w ∙ sym e)

      there : (v : Option A) → Sound (with_blanks w (optional_bytes bytes v)) → unless_blank of (with_blanks w (optional_bytes bytes v)) ≡ v
      there None s = rw (with_blanks_none w, blank_replicate)
      there (Some v) s = rw (seen v s) (ap Some (field.there v s))

-- a number of a unit, which keeps it
module _ (n : ℕ) {A : Type 0} (of : ℕ → A) (worth : A → ℕ) (kept : (k : ℕ) → worth (of k) ≡ k) (whole : (v : A) → of (worth v) ≡ v) where
  unit_field : Field (suc n) (λ f. of (value f)) (λ v. numeral (suc n) (worth v)) (Digits (suc n))
  unit_field = record {
    short = λ v. (number_field n).short (worth v);
    back = λ f d. rw kept (number_back n f d);
    there = λ v s. ap of ((number_field n).there (worth v) s) ∙ whole v;
  }

  unit_seen : (v : A) → Sound (with_blanks (suc n) (numeral (suc n) (worth v))) → blank (with_blanks (suc n) (numeral (suc n) (worth v))) ≡ false
  unit_seen v s =
      let h = number_held n (worth v) s in
      let l : 1 ≤ length (digits_of (suc n) (worth v)) = rw (digits_length (suc n) (worth v)) (omega arith) in
      ap blank h.0 ∙ digits_filled (digits_of (suc n) (worth v)) l h.1.digits

  pub quantity_field : Field (suc n) (quantity_of of) (quantity_bytes worth (suc n)) (OrBlank (suc n) (Digits (suc n)))
  quantity_field = optional_field unit_field (λ f d. digits_filled f (omega (arith, d.0)) d.1) unit_seen

pub rnp_field : Field 3 rnp_of rnp_bytes (OrBlank 3 (Digits 3))
rnp_field = quantity_field 2 _ _ (λ k. refl) (λ v. refl)

pub arc_radius_field : Field 6 arc_radius_of arc_radius_bytes (OrBlank 6 (Digits 6))
arc_radius_field = quantity_field 5 _ _ (λ k. refl) (λ v. refl)

-- theta holds fewer numbers than its digits
pub theta_field : Field 4 theta_of theta_bytes (OrBlank 4 Tenths)
theta_field = record { short = whole.short; back = λ f h. whole.back f (good f h); there = whole.there }
  where
    whole : Field 4 theta_of theta_bytes (OrBlank 4 (Digits 4))
    whole = quantity_field 3 _ _ (λ k. refl) (λ v. refl)

    good : (f : List ℕ) → OrBlank 4 Tenths f → OrBlank 4 (Digits 4) f
    good f (inl h) = inl h.0
    good f (inr h) = inr h

pub rho_field : Field 4 rho_of rho_bytes (OrBlank 4 (Digits 4))
rho_field = quantity_field 3 _ _ (λ k. refl) (λ v. refl)

pub transition_altitude_field : Field 5 transition_altitude_of transition_altitude_bytes (OrBlank 5 (Digits 5))
transition_altitude_field = quantity_field 4 _ _ (λ k. refl) (λ v. refl)

pub speed_field : Field 3 speed_of speed_bytes (OrBlank 3 (Digits 3))
speed_field = quantity_field 2 _ _ (λ k. refl) (λ v. refl)

-- ---- the turn and the terminator

pub turn_field : Field 1 turn_of turn_bytes (Code "LRE ")
unfolding turn_of optional_bytes bytes_of_turn with_blanks each
turn_field = record { short = short; back = back; there = there }
  where
    short : (v : Option Turn) → length (turn_bytes v) ≤ 1
    short None = omega arith
    short (Some turn.Left) = omega arith
    short (Some turn.Right) = omega arith
    short (Some turn.Either) = omega arith

    of : (f : List ℕ) {b : ℕ} → f ≡ b ∷ [] → with_blanks 1 (turn_bytes (turn_of (b ∷ []))) ≡ b ∷ [] → with_blanks 1 (turn_bytes (turn_of f)) ≡ f
    of f e h = rw e h

    back : (f : List ℕ) → Code "LRE " f → with_blanks 1 (turn_bytes (turn_of f)) ≡ f
    back f m =
        ⊎_elim (λ e. of f e refl)
        (λ m. ⊎_elim (λ e. of f e refl) (λ m. ⊎_elim (λ e. of f e refl) (λ m. ⊎_elim (λ e. of f e refl) (λ m. absurd (Memᴰ.not-nil m)) (Memᴰ.cases_cons m)) (Memᴰ.cases_cons m)) (Memᴰ.cases_cons m))
        (Memᴰ.cases_cons m)

    there : (v : Option Turn) → Sound (with_blanks 1 (turn_bytes v)) → turn_of (with_blanks 1 (turn_bytes v)) ≡ v
    there None s = refl
    there (Some turn.Left) s = refl
    there (Some turn.Right) s = refl
    there (Some turn.Either) s = refl

pub terminator_field : Field 2 terminator_of name_of (OneOf terminators)
terminator_field = record {
  short = λ t. rw (row_of t).its_width (omega arith);
  back = λ f m. with_blanks_full 2 (name_of (terminator_of f)) (row_of (terminator_of f)).its_width ∙ sym (named_back f m);
  there = λ t s. ap terminator_of (with_blanks_full 2 (name_of t) (row_of t).its_width) ∙ (row_of t).its_name;
}

-- ---- numbers with a mark

-- a blank field, and an absent part
module _ {A : Type 0} (w : ℕ) (absent : A) (bytes : A → List ℕ) (none : bytes absent ≡ []) (of : List ℕ → A) (blank_of : (f : List ℕ) → blank f ≡ true → of f ≡ absent) where
  absent_back : (f : List ℕ) → Blank w f → with_blanks w (bytes (of f)) ≡ f
  absent_back f e = ap (λ (x : A). with_blanks w (bytes x)) (blank_of f (ap blank e ∙ blank_replicate w)) ∙ ap (with_blanks w) none ∙ with_blanks_none w ∙ sym e

  absent_there : of (with_blanks w (bytes absent)) ≡ absent
  absent_there = ap (λ (x : List ℕ). of (with_blanks w x)) none ∙ ap of (with_blanks_none w) ∙ blank_of (replicate w 32) (blank_replicate w)

-- a field that is read as a number with a mark, and written again
marked_again : {A : Type 0} (w : ℕ) (bytes : A → List ℕ) (of : List ℕ → A) (before : List ℕ) (n : ℕ) (after f h : List ℕ) (v : A)
    → length before + (n + length after) ≡ w → Digits n h → f ≡ before ++ (h ++ after) → of f ≡ v → bytes v ≡ marked_digits before n after (value h) → with_blanks w (bytes (of f)) ≡ f
marked_again {A} w bytes of before n after f h v wide d e q b =
    let m : bytes (of f) ≡ f = ap bytes q ∙ b ∙ marked_back before n after h d ∙ sym e in
    let l : length f ≡ w = ap length e ∙ length-append before (h ++ after) ∙ ap (λ (k : ℕ). length before + k) (length-append h after ∙ ap (λ (k : ℕ). k + length after) d.0) ∙ wide in
    with_blanks_full w (bytes (of f)) (ap length m ∙ l) ∙ m

three : (f : List ℕ) → length f ≡ 3 → part 3 0 f ≡ f
three f e = ap (λ (k : ℕ). part k 0 f) (sym e) ∙ part_all f

four : (f : List ℕ) → length f ≡ 4 → part 4 0 f ≡ f
four f e = ap (λ (k : ℕ). part k 0 f) (sym e) ∙ part_all f

-- minus and hundredths of a degree
pub vertical_of : (h : List ℕ) → length h ≡ 3 → vertical_angle_of (45 ∷ (h ++ [])) ≡ Some (record { 0 = value h })
unfolding unless_blank angle_said blank part
vertical_of h l = ap (λ (f : List ℕ). Some (record { 0 = value (part 3 0 f) })) (append-nil h) ∙ ap (λ (f : List ℕ). Some (record { 0 = value f })) (three h l)

pub vertical_blank : (f : List ℕ) → blank f ≡ true → vertical_angle_of f ≡ None
unfolding unless_blank
vertical_blank f e = rw e

pub vertical_angle_field : Field 4 vertical_angle_of vertical_angle_bytes (OrBlank 4 (Then (Is "-") (Digits 3)))
unfolding optional_bytes bytes_of_angle codes
vertical_angle_field = record { short = short; back = back; there = there }
  where
    short : (v : Option HundredthsOfDegree) → length (vertical_angle_bytes v) ≤ 4
    short None = omega arith
    short (Some v) = marked_short 4 (45 ∷ []) 3 [] refl (omega arith) v.0

    back : (f : List ℕ) → OrBlank 4 (Then (Is "-") (Digits 3)) f → with_blanks 4 (vertical_angle_bytes (vertical_angle_of f)) ≡ f
    back f (inl (g, h, e, q, d)) =
        let s : f ≡ 45 ∷ (h ++ []) = e ∙ ap (λ (t : List ℕ). t ++ h) q ∙ ap (λ (t : List ℕ). 45 ∷ t) (sym (append-nil h)) in
        marked_again 4 vertical_angle_bytes vertical_angle_of (45 ∷ []) 3 [] f h (Some (record { 0 = value h })) refl d s (ap vertical_angle_of s ∙ vertical_of h d.0) refl
    back f (inr e) = absent_back 4 None vertical_angle_bytes refl vertical_angle_of vertical_blank f e

    there : (v : Option HundredthsOfDegree) → Sound (with_blanks 4 (vertical_angle_bytes v)) → vertical_angle_of (with_blanks 4 (vertical_angle_bytes v)) ≡ v
    there None s = absent_there 4 None vertical_angle_bytes refl vertical_angle_of vertical_blank
    there (Some v) s =
        let h = marked_held 4 (45 ∷ []) 3 [] refl v.0 s in
        ap vertical_angle_of h.bytes ∙ vertical_of (digits_of 3 v.0) (digits_length 3 v.0) ∙ ap (λ (k : ℕ). Some (record { 0 = k })) h.worth

-- tenths of a degree, or whole degrees and T
pub course_blank : (f : List ℕ) → blank f ≡ true → course_of f ≡ None
unfolding unless_blank course_said
course_blank f e = rw e

pub course_magnetic : (f : List ℕ) → Digits 4 f → course_of f ≡ Some (course.Magnetic (record { 0 = value f }))
unfolding unless_blank course_said
course_magnetic f d =
    let t = each_at Digit f 3 (omega (arith, d.0)) d.1 in
    rw (digits_filled f (omega (arith, d.0)) d.1, ne_eqb (get_or f 3 0) 84 (λ e. omega (arith, t.1)))

pub course_true : (h : List ℕ) → Digits 3 h → course_of (h ++ (84 ∷ [])) ≡ Some (course.True (record { 0 = value h }))
unfolding unless_blank course_said part blank
course_true [] (l, d) = absurd (omega arith)
course_true (a ∷ []) (l, d) = absurd (omega arith)
course_true (a ∷ (b ∷ [])) (l, d) = absurd (omega arith)
course_true (a ∷ (b ∷ (c ∷ []))) (l, (x, d)) = rw (ne_eqb a 32 (λ e. omega (arith, x.0)))
course_true (a ∷ (b ∷ (c ∷ (e ∷ f)))) (l, d) = absurd (omega arith)

pub course_field : Field 4 course_of course_bytes (OrBlank 4 Course)
unfolding optional_bytes bytes_of_course codes
course_field = record { short = short; back = back; there = there }
  where
    short : (v : Option CoursePart) → length (course_bytes v) ≤ 4
    short None = omega arith
    short (Some (course.Magnetic v)) = marked_short 4 [] 4 [] refl (omega arith) v.0
    short (Some (course.True v)) = marked_short 4 [] 3 (84 ∷ []) refl (omega arith) v.0

    back : (f : List ℕ) → OrBlank 4 Course f → with_blanks 4 (course_bytes (course_of f)) ≡ f
    back f (inl (inl (d, m))) = marked_again 4 course_bytes course_of [] 4 [] f f (Some (course.Magnetic (record { 0 = value f }))) refl d (sym (append-nil f)) (course_magnetic f d) refl
    back f (inl (inr (g, h, e, (d, m), q))) =
        let s : f ≡ g ++ (84 ∷ []) = e ∙ ap (λ (t : List ℕ). g ++ t) q in
        marked_again 4 course_bytes course_of [] 3 (84 ∷ []) f g (Some (course.True (record { 0 = value g }))) refl d s (ap course_of s ∙ course_true g d) refl
    back f (inr e) = absent_back 4 None course_bytes refl course_of course_blank f e

    there : (v : Option CoursePart) → Sound (with_blanks 4 (course_bytes v)) → course_of (with_blanks 4 (course_bytes v)) ≡ v
    there None s = absent_there 4 None course_bytes refl course_of course_blank
    there (Some (course.Magnetic v)) s =
        let h = number_held 3 v.0 s in
        ap course_of h.0 ∙ course_magnetic (digits_of 4 v.0) (digits_length 4 v.0, h.1.digits) ∙ ap (λ (k : ℕ). Some (course.Magnetic (record { 0 = k }))) h.1.worth
    there (Some (course.True v)) s =
        let h = marked_held 4 [] 3 (84 ∷ []) refl v.0 s in
        ap course_of h.bytes ∙ course_true (digits_of 3 v.0) (digits_length 3 v.0, h.digits) ∙ ap (λ (k : ℕ). Some (course.True (record { 0 = k }))) h.worth

-- feet, FL and a level, minus and feet
pub altitude_blank : (f : List ℕ) → blank f ≡ true → altitude_of f ≡ None
unfolding unless_blank altitude_said
altitude_blank f e = rw e

pub altitude_feet : (f : List ℕ) → Digits 5 f → altitude_of f ≡ Some (altitude.Feet (record { 0 = value f }))
unfolding unless_blank altitude_said
altitude_feet f d =
    let t = each_at Digit f 0 (omega (arith, d.0)) d.1 in
    rw (digits_filled f (omega (arith, d.0)) d.1, ne_eqb (get_or f 0 0) 70 (λ e. omega (arith, t.1)), ne_eqb (get_or f 0 0) 45 (λ e. omega (arith, t.0)))

pub altitude_level : (h : List ℕ) → length h ≡ 3 → altitude_of (70 ∷ (76 ∷ (h ++ []))) ≡ Some (altitude.Level (record { 0 = value h }))
unfolding unless_blank altitude_said blank part
altitude_level h l = ap (λ (f : List ℕ). Some (altitude.Level (record { 0 = value (part 3 0 f) }))) (append-nil h) ∙ ap (λ (f : List ℕ). Some (altitude.Level (record { 0 = value f }))) (three h l)

pub altitude_below : (h : List ℕ) → length h ≡ 4 → altitude_of (45 ∷ (h ++ [])) ≡ Some (altitude.Below (record { 0 = value h }))
unfolding unless_blank altitude_said blank part
altitude_below h l = ap (λ (f : List ℕ). Some (altitude.Below (record { 0 = value (part 4 0 f) }))) (append-nil h) ∙ ap (λ (f : List ℕ). Some (altitude.Below (record { 0 = value f }))) (four h l)

pub altitude_field : Field 5 altitude_of altitude_bytes (OrBlank 5 Altitude)
unfolding optional_bytes bytes_of_altitude codes
altitude_field = record { short = short; back = back; there = there }
  where
    short : (v : Option AltitudePart) → length (altitude_bytes v) ≤ 5
    short None = omega arith
    short (Some (altitude.Feet v)) = marked_short 5 [] 5 [] refl (omega arith) v.0
    short (Some (altitude.Below v)) = marked_short 5 (45 ∷ []) 4 [] refl (omega arith) v.0
    short (Some (altitude.Level v)) = marked_short 5 (70 ∷ (76 ∷ [])) 3 [] refl (omega arith) v.0

    back : (f : List ℕ) → OrBlank 5 Altitude f → with_blanks 5 (altitude_bytes (altitude_of f)) ≡ f
    back f (inl (inl (inl d))) = marked_again 5 altitude_bytes altitude_of [] 5 [] f f (Some (altitude.Feet (record { 0 = value f }))) refl d (sym (append-nil f)) (altitude_feet f d) refl
    back f (inl (inl (inr (g, h, e, q, d)))) =
        let s : f ≡ 70 ∷ (76 ∷ (h ++ [])) = e ∙ ap (λ (t : List ℕ). t ++ h) q ∙ ap (λ (t : List ℕ). 70 ∷ (76 ∷ t)) (sym (append-nil h)) in
        marked_again 5 altitude_bytes altitude_of (70 ∷ (76 ∷ [])) 3 [] f h (Some (altitude.Level (record { 0 = value h }))) refl d s (ap altitude_of s ∙ altitude_level h d.0) refl
    back f (inl (inr (g, h, e, q, (d, least, most)))) =
        let s : f ≡ 45 ∷ (h ++ []) = e ∙ ap (λ (t : List ℕ). t ++ h) q ∙ ap (λ (t : List ℕ). 45 ∷ t) (sym (append-nil h)) in
        marked_again 5 altitude_bytes altitude_of (45 ∷ []) 4 [] f h (Some (altitude.Below (record { 0 = value h }))) refl d s (ap altitude_of s ∙ altitude_below h d.0) refl
    back f (inr e) = absent_back 5 None altitude_bytes refl altitude_of altitude_blank f e

    there : (v : Option AltitudePart) → Sound (with_blanks 5 (altitude_bytes v)) → altitude_of (with_blanks 5 (altitude_bytes v)) ≡ v
    there None s = absent_there 5 None altitude_bytes refl altitude_of altitude_blank
    there (Some (altitude.Feet v)) s =
        let h = number_held 4 v.0 s in
        ap altitude_of h.0 ∙ altitude_feet (digits_of 5 v.0) (digits_length 5 v.0, h.1.digits) ∙ ap (λ (k : ℕ). Some (altitude.Feet (record { 0 = k }))) h.1.worth
    there (Some (altitude.Below v)) s =
        let h = marked_held 5 (45 ∷ []) 4 [] refl v.0 s in
        ap altitude_of h.bytes ∙ altitude_below (digits_of 4 v.0) (digits_length 4 v.0) ∙ ap (λ (k : ℕ). Some (altitude.Below (record { 0 = k }))) h.worth
    there (Some (altitude.Level v)) s =
        let h = marked_held 5 (70 ∷ (76 ∷ [])) 3 [] refl v.0 s in
        ap altitude_of h.bytes ∙ altitude_level (digits_of 3 v.0) (digits_length 3 v.0) ∙ ap (λ (k : ℕ). Some (altitude.Level (record { 0 = k }))) h.worth

-- tenths of a mile; T and tenths of a minute on a holding
pub distance_blank : (holding : Bool) (f : List ℕ) → blank f ≡ true → distance_of holding f ≡ None
unfolding unless_blank distance_said
distance_blank holding f e = rw e

pub distance_miles : (holding : Bool) (f : List ℕ) → Digits 4 f → distance_of holding f ≡ Some (distance.Miles (record { 0 = value f }))
unfolding unless_blank distance_said
distance_miles holding f d =
    let t = each_at Digit f 0 (omega (arith, d.0)) d.1 in
    rw (digits_filled f (omega (arith, d.0)) d.1, ne_eqb (get_or f 0 0) 84 (λ e. omega (arith, t.1)), and-false holding)

pub distance_minutes : (h : List ℕ) → length h ≡ 3 → distance_of true (84 ∷ (h ++ [])) ≡ Some (distance.Minutes (record { 0 = value h }))
unfolding unless_blank distance_said blank part
distance_minutes h l = ap (λ (f : List ℕ). Some (distance.Minutes (record { 0 = value (part 3 0 f) }))) (append-nil h) ∙ ap (λ (f : List ℕ). Some (distance.Minutes (record { 0 = value f }))) (three h l)

pub distance_short : (v : Option DistancePart) → length (distance_bytes v) ≤ 4
unfolding optional_bytes bytes_of_distance codes
distance_short None = omega arith
distance_short (Some (distance.Miles v)) = marked_short 4 [] 4 [] refl (omega arith) v.0
distance_short (Some (distance.Minutes v)) = marked_short 4 (84 ∷ []) 3 [] refl (omega arith) v.0

-- what a distance may hold, where T and minutes are only on a holding
abbrev pub DistanceOn : Bool → List ℕ → Type 0
DistanceOn holding f = OrBlank 4 (Digits 4) f ⊎ ((holding ≡ true) × Then (Is "T") (Digits 3) f)

-- T at the front is only on a holding
pub minutes_on : (holding : Bool) (f g : List ℕ) → f ≡ 84 ∷ g → DistanceOn holding f → holding ≡ true
minutes_on holding f g e (inl (inl d)) = let z : get_or f 0 0 ≡ 84 = ap (λ (x : List ℕ). get_or x 0 0) e in absurd (omega (arith, (each_at Digit f 0 (omega (arith, d.0)) d.1).1))
minutes_on holding f g e (inl (inr b)) = let z : ◌≡◌ {A = ℕ} 84 32 = sym (ap (λ (x : List ℕ). get_or x 0 0) e) ∙ ap (λ (x : List ℕ). get_or x 0 0) b in absurd (omega arith)
minutes_on holding f g e (inr (t, r)) = t

pub distance_back : (holding : Bool) (f : List ℕ) → DistanceOn holding f → with_blanks 4 (distance_bytes (distance_of holding f)) ≡ f
unfolding optional_bytes bytes_of_distance codes
distance_back holding f (inl (inl d)) =
    marked_again 4 distance_bytes (distance_of holding) [] 4 [] f f (Some (distance.Miles (record { 0 = value f }))) refl d (sym (append-nil f)) (distance_miles holding f d) refl
distance_back holding f (inl (inr e)) = absent_back 4 None distance_bytes refl (distance_of holding) (distance_blank holding) f e
distance_back holding f (inr (t, (g, h, e, q, d))) =
    let s : f ≡ 84 ∷ (h ++ []) = e ∙ ap (λ (x : List ℕ). x ++ h) q ∙ ap (λ (x : List ℕ). 84 ∷ x) (sym (append-nil h)) in
    marked_again 4 distance_bytes (distance_of holding) (84 ∷ []) 3 [] f h (Some (distance.Minutes (record { 0 = value h }))) refl d s
    (ap (λ (b : Bool). distance_of b f) t ∙ ap (distance_of true) s ∙ distance_minutes h d.0) refl

pub distance_there : (holding : Bool) (v : Option DistancePart) → Sound (with_blanks 4 (distance_bytes v)) → DistanceOn holding (with_blanks 4 (distance_bytes v)) → distance_of holding (with_blanks 4 (distance_bytes v)) ≡ v
unfolding optional_bytes bytes_of_distance codes
distance_there holding None s g = absent_there 4 None distance_bytes refl (distance_of holding) (distance_blank holding)
distance_there holding (Some (distance.Miles v)) s g =
    let h = number_held 3 v.0 s in
    ap (distance_of holding) h.0 ∙ distance_miles holding (digits_of 4 v.0) (digits_length 4 v.0, h.1.digits) ∙ ap (λ (k : ℕ). Some (distance.Miles (record { 0 = k }))) h.1.worth
distance_there holding (Some (distance.Minutes v)) s g =
    let h = marked_held 4 (84 ∷ []) 3 [] refl v.0 s in
    let t : holding ≡ true = minutes_on holding (with_blanks 4 (marked_digits (84 ∷ []) 3 [] v.0)) _ h.bytes g in
    ap (distance_of holding) h.bytes
    ∙ ap (λ (b : Bool). distance_of b (84 ∷ (digits_of 3 v.0 ++ []))) t
    ∙ distance_minutes (digits_of 3 v.0) (digits_length 3 v.0)
    ∙ ap (λ (k : ℕ). Some (distance.Minutes (record { 0 = k }))) h.worth
