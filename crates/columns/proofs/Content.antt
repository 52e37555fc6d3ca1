-- "Legal" in the paper's words: the rows of a layout are all right exactly when every field holds what paper 01 says of it.
-- Assumes nothing.
use mathlib.Core.Path.{◌≡◌, refl, sym, subst}
use mathlib.Core.Logic.Iff
use mathlib.Core.Logic.{◌↔◌, inl, inr, ⊎_elim}
use mathlib.Core.Bool.{false}
use mathlib.Core.List.Memᴰ
use mathlib.Core.List.{List, [], ◌∷◌, ◌++◌}
use Prim.Native.Nat.{ℕ, ◌≤◌, ◌<◌}
use native.Mathlib.Decide.{dec_lt}
use lib.ListN.{length, get_or-eq_default}
use Rattle.slices.specs.Part.{part}
use Rattle.columns.specs.ByteSets.{fits}
use Rattle.columns.specs.Kinds.{kind_of, layout_of, first_bad_field}
use Rattle.columns.specs.declared.Kind.{Kind}
use Rattle.columns.specs.declared.Kind.TheVariants.{Primary, Continuation}
use native.Mathlib.Omega.{arith}
use Rattle.columns.specs.Patterns.{each, texts}
use Rattle.columns.specs.Terminators.{terminators}
use Rattle.columns.specs.Rows.{first_bad, EveryRow, byte_in}
use Rattle.columns.specs.Layout.{front, leg, application, back, primary, continuation}
use Rattle.columns.specs.Words.{Front, Leg, Application, Back, PrimaryContent, ContinuationContent, ContinuationNumber, Printable, Content, Code, columns, Each, Digit}
use Rattle.columns.proofs.PatternLaws.{says_all, says_among, says_blanks, or_blank_lem}
use Rattle.columns.proofs.LetterLaws.{continuation_number, printable}
use Rattle.columns.proofs.FieldLaws.{says_digits, says_text_of, says_from_one}
use Rattle.columns.proofs.CycleLaws.{says_cycle}
use Rattle.columns.proofs.WordLaws.{says_codes, says_is, says_icao, says_letter, says_letter_digit_blank, says_procedure, says_altitude, says_tenths, says_course, says_vertical, says_route_type, says_distance}
use Rattle.columns.proofs.RowLaws.{row_says, zero_iff, every_append, tiles_counted}
use Rattle.columns.proofs.Tiled.{primary_tiles, continuation_tiles}

infixr 40 ◌⊗◌ ◌&◌
-- row by row
◌⊗◌ : {A B C D : Type 0} → A ↔ C → B ↔ D → (A × B) ↔ (C × D)
p ⊗ q = Iff.and p q

done : Unit {0} ↔ Unit {0}
done = Iff.rfl

-- a pair put together, and taken apart
◌&◌ : {A B : Type 0} → A → B → A × B
a & b = (a, b)

and : {A B C : Type 0} → (A → B → C) → A × B → C
and f p = f p.0 p.1

module _ (rec : List ℕ) where
  pub front_iff : EveryRow front rec ↔ Front rec
  unfolding front
  front_iff =
      Iff.trans
      (
      row_says 1 1 rec (says_codes "ST" refl) ⊗
      row_says 2 3 rec (says_text_of 2) ⊗
      row_says 5 1 rec (says_is "P" refl) ⊗
      row_says 6 1 rec (says_blanks 1) ⊗
      row_says 7 4 rec (says_text_of 3) ⊗
      row_says 11 2 rec says_icao ⊗
      row_says 13 1 rec (says_codes "DEF" refl) ⊗
      row_says 14 6 rec says_procedure ⊗
      says_route_type rec (columns 20 20 rec) ⊗
      row_says 21 5 rec (or_blank_lem 5 (says_text_of 4)) ⊗
      row_says 26 1 rec (says_blanks 1) ⊗
      row_says 27 3 rec (says_from_one 3 999 refl) ⊗
      row_says 30 5 rec (or_blank_lem 5 (says_text_of 4)) ⊗
      row_says 35 2 rec (or_blank_lem 2 says_icao) ⊗
      row_says 37 1 rec (or_blank_lem 1 says_letter) ⊗
      row_says 38 1 rec says_letter_digit_blank ⊗
      done
      ) (
        and λ record_type. and λ area. and λ section. and λ blank6. and λ airport. and λ airport_icao.
            and λ subsection. and λ procedure. and λ route_type. and λ transition. and λ blank26. and λ sequence.
            and λ fix. and λ fix_icao. and λ fix_section. and λ fix_subsection. λ _.
            record {
              record_type = record_type;
              area = area;
              section = section;
              blank6 = blank6;
              airport = airport;
              airport_icao = airport_icao;
              subsection = subsection;
              procedure = procedure;
              route_type = route_type;
              transition = transition;
              blank26 = blank26;
              sequence = sequence;
              fix = fix;
              fix_icao = fix_icao;
              fix_section = fix_section;
              fix_subsection = fix_subsection;
            },
        λ c. c.record_type & c.area & c.section & c.blank6 & c.airport & c.airport_icao & c.subsection &
            c.procedure & c.route_type & c.transition & c.blank26 & c.sequence & c.fix & c.fix_icao &
            c.fix_section & c.fix_subsection & tt,
      )

  pub leg_iff : EveryRow leg rec ↔ Leg rec
  unfolding leg
  leg_iff =
      Iff.trans
      (
      row_says 39 1 rec (says_codes "01" refl) ⊗
      row_says 40 1 rec (says_codes "AEFGHNPRTV " refl) ⊗
      row_says 41 1 rec (says_codes "BEUY " refl) ⊗
      row_says 42 1 rec (says_codes "ABCGMPS " refl) ⊗
      row_says 43 1 rec (says_codes "ABCDEFHIM " refl) ⊗
      row_says 44 1 rec (says_codes "LRE " refl) ⊗
      row_says 45 3 rec (or_blank_lem 3 (says_digits 3)) ⊗
      row_says 48 2 rec (says_among (texts terminators) refl) ⊗
      row_says 50 1 rec (says_codes "Y " refl) ⊗
      row_says 51 4 rec (or_blank_lem 4 (says_text_of 3)) ⊗
      row_says 55 2 rec (or_blank_lem 2 says_icao) ⊗
      row_says 57 6 rec (or_blank_lem 6 (says_digits 6)) ⊗
      row_says 63 4 rec (or_blank_lem 4 says_tenths) ⊗
      row_says 67 4 rec (or_blank_lem 4 (says_digits 4)) ⊗
      row_says 71 4 rec (or_blank_lem 4 says_course) ⊗
      says_distance rec (columns 75 78 rec) ⊗
      row_says 79 1 rec (or_blank_lem 1 says_letter) ⊗
      row_says 80 1 rec says_letter_digit_blank ⊗
      row_says 81 2 rec (says_blanks 2) ⊗
      row_says 83 1 rec (says_codes "+-BCGHIJV " refl) ⊗
      row_says 84 1 rec (says_codes "AS " refl) ⊗
      row_says 85 5 rec (or_blank_lem 5 says_altitude) ⊗
      row_says 90 5 rec (or_blank_lem 5 says_altitude) ⊗
      row_says 95 5 rec (or_blank_lem 5 (says_digits 5)) ⊗
      row_says 100 3 rec (or_blank_lem 3 (says_digits 3)) ⊗
      row_says 103 4 rec (or_blank_lem 4 says_vertical) ⊗
      row_says 107 5 rec (or_blank_lem 5 (says_text_of 4)) ⊗
      row_says 112 1 rec says_letter_digit_blank ⊗
      row_says 113 2 rec (or_blank_lem 2 says_icao) ⊗
      row_says 115 1 rec (or_blank_lem 1 says_letter) ⊗
      row_says 116 1 rec says_letter_digit_blank ⊗
      row_says 117 1 rec says_letter_digit_blank ⊗
      row_says 118 1 rec (says_blanks 1) ⊗
      row_says 119 1 rec says_letter_digit_blank ⊗
      row_says 120 1 rec says_letter_digit_blank ⊗
      row_says 121 3 rec (says_blanks 3) ⊗
      done
      ) (
        and λ continuation. and λ description1. and λ description2. and λ description3. and λ description4. and λ turn.
            and λ rnp. and λ terminator. and λ turn_valid. and λ navaid. and λ navaid_icao. and λ arc_radius.
            and λ theta. and λ rho. and λ course. and λ distance. and λ navaid_section. and λ navaid_subsection.
            and λ blank81. and λ altitude_description. and λ atc_indicator. and λ altitude1. and λ altitude2. and λ transition_altitude.
            and λ speed. and λ vertical_angle. and λ centre_fix. and λ multiple_code. and λ centre_icao. and λ centre_section.
            and λ centre_subsection. and λ gps_indicator. and λ blank118. and λ qualifier1. and λ qualifier2. and λ blank121. λ _.
            record {
              continuation = continuation;
              description1 = description1;
              description2 = description2;
              description3 = description3;
              description4 = description4;
              turn = turn;
              rnp = rnp;
              terminator = terminator;
              turn_valid = turn_valid;
              navaid = navaid;
              navaid_icao = navaid_icao;
              arc_radius = arc_radius;
              theta = theta;
              rho = rho;
              course = course;
              distance = distance;
              navaid_section = navaid_section;
              navaid_subsection = navaid_subsection;
              blank81 = blank81;
              altitude_description = altitude_description;
              atc_indicator = atc_indicator;
              altitude1 = altitude1;
              altitude2 = altitude2;
              transition_altitude = transition_altitude;
              speed = speed;
              vertical_angle = vertical_angle;
              centre_fix = centre_fix;
              multiple_code = multiple_code;
              centre_icao = centre_icao;
              centre_section = centre_section;
              centre_subsection = centre_subsection;
              gps_indicator = gps_indicator;
              blank118 = blank118;
              qualifier1 = qualifier1;
              qualifier2 = qualifier2;
              blank121 = blank121;
            },
        λ c. c.continuation & c.description1 & c.description2 & c.description3 & c.description4 & c.turn & c.rnp &
            c.terminator & c.turn_valid & c.navaid & c.navaid_icao & c.arc_radius & c.theta & c.rho &
            c.course & c.distance & c.navaid_section & c.navaid_subsection & c.blank81 & c.altitude_description & c.atc_indicator &
            c.altitude1 & c.altitude2 & c.transition_altitude & c.speed & c.vertical_angle & c.centre_fix & c.multiple_code &
            c.centre_icao & c.centre_section & c.centre_subsection & c.gps_indicator & c.blank118 & c.qualifier1 & c.qualifier2 &
            c.blank121 & tt,
      )

  pub application_iff : EveryRow application rec ↔ Application rec
  unfolding application
  application_iff =
      Iff.trans
      (
      row_says 39 1 rec (says_all 107 ContinuationNumber continuation_number 1) ⊗
      row_says 40 1 rec (says_codes "PS " refl) ⊗
      row_says 41 83 rec (says_all 112 Printable printable 83) ⊗
      done
      ) (
        and λ number. and λ application. and λ content. λ _.
            record {
              number = number;
              application = application;
              content = content;
            },
        λ c. c.number & c.application & c.content & tt,
      )

  pub back_iff : EveryRow back rec ↔ Back rec
  unfolding back
  back_iff =
      Iff.trans
      (
      row_says 124 5 rec (says_digits 5) ⊗
      row_says 129 4 rec says_cycle ⊗
      done
      ) (
        and λ record_number. and λ cycle. λ _.
            record {
              record_number = record_number;
              cycle = cycle;
            },
        λ c. c.record_number & c.cycle & tt,
      )

  pub primary_content : (first_bad primary rec ≡ 0) ↔ PrimaryContent rec
  unfolding primary
  primary_content =
      Iff.trans (zero_iff primary rec (tiles_counted primary 1 132 (omega arith) primary_tiles)) (
        λ h.
            let b = (every_append (front ++ leg) back rec).0 h in
            let a = (every_append front leg rec).0 b.0 in
            record { front = front_iff.0 a.0; leg = leg_iff.0 a.1; back = back_iff.0 b.1 },
        λ c.
            (every_append (front ++ leg) back rec).1 ((every_append front leg rec).1 (front_iff.1 c.front, leg_iff.1 c.leg), back_iff.1 c.back),
      )

  pub continuation_content : (first_bad continuation rec ≡ 0) ↔ ContinuationContent rec
  unfolding continuation
  continuation_content =
      Iff.trans (zero_iff continuation rec (tiles_counted continuation 1 132 (omega arith) continuation_tiles)) (
        λ h.
            let b = (every_append (front ++ application) back rec).0 h in
            let a = (every_append front application rec).0 b.0 in
            record { front = front_iff.0 a.0; application = application_iff.0 a.1; back = back_iff.0 b.1 },
        λ c.
            (every_append (front ++ application) back rec).1
            ((every_append front application rec).1 (front_iff.1 c.front, application_iff.1 c.application), back_iff.1 c.back),
      )

-- ---- a record by its own layout

-- 0 or 1 in column 39 numbers no continuation
not_both : (rec : List ℕ) → Code "01" (columns 39 39 rec) → fits 107 (byte_in 39 rec) ≡ false
unfolding each part fits
not_both rec m =
    ⊎_elim (λ e. let h : byte_in 39 rec ≡ 48 = cc in rw h)
    (λ n. let e = Memᴰ.eq_of_singleton n in let h : byte_in 39 rec ≡ 49 = cc in rw h)
    (Memᴰ.cases_cons m)

pub primary_kind : (rec : List ℕ) → PrimaryContent rec → kind_of rec ≡ Primary
unfolding kind_of
primary_kind rec c = rw (not_both rec c.leg.continuation)

pub continuation_kind : (rec : List ℕ) → ContinuationContent rec → kind_of rec ≡ Continuation
unfolding kind_of part
continuation_kind rec c = rw ((continuation_number (byte_in 39 rec)).1 c.application.number.1.0)

-- the answer 0 means: every field of the record holds what paper 01 says of it
pub legal : (rec : List ℕ) → (first_bad_field rec ≡ 0) ↔ Content rec
unfolding first_bad_field layout_of
legal rec = (to (kind_of rec), from)
  where
    to : (k : Kind) → first_bad (layout_of k) rec ≡ 0 → Content rec
    to Primary e = inl ((primary_content rec).0 e)
    to Continuation e = inr ((continuation_content rec).0 e)

    from : Content rec → first_bad (layout_of (kind_of rec)) rec ≡ 0
    from (inl c) = rw (primary_kind rec c) ((primary_content rec).1 c)
    from (inr c) = rw (continuation_kind rec c) ((continuation_content rec).1 c)

-- ---- no short slice is legal: its last column holds a digit

each_append : (P : ℕ → Type 0) (g h : List ℕ) → Each P g → Each P h → Each P (g ++ h)
each_append P [] h u v = v
each_append P (b ∷ g) h u v = (u.0, each_append P g h u.1 v)

back_long : (rec : List ℕ) → Back rec → 132 ≤ length rec
unfolding part
back_long rec b =
    let r = b.cycle in
    let d : Each Digit (columns 129 132 rec) = subst (Each Digit) (sym r.2) (each_append Digit r.0 r.1 r.3.1 r.4.0.1) in
    by (dec_lt 131 (length rec)) d.1.1.1.0.0
  where
    by : Dec (131 < length rec) → 48 ≤ byte_in 132 rec → 132 ≤ length rec
    by (yes h) k = h
    by (no h) k = let z : byte_in 132 rec ≡ 0 = get_or-eq_default rec 0 (omega arith) in absurd (omega arith)

pub long : (rec : List ℕ) → Content rec → 132 ≤ length rec
long rec (inl c) = back_long rec c.back
long rec (inr c) = back_long rec c.back
