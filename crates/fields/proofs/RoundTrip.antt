-- Demand 2's second half: an accepted record read into parts and written again is the same 132 columns; parts are written exactly
-- when some legal record has them; and what was written, read, gives the parts back.
-- Assumes nothing.
use mathlib.Core.Path.{◌≡◌, refl, sym, ap, subst, ◌∙◌}
use mathlib.Core.Bool.{Bool, true, false, not, cond, false≢true}
use mathlib.Core.Logic.{inl, inr, ⊎_elim}
use mathlib.Core.List.Memᴰ
use mathlib.Core.List.{List, [], ◌∷◌, ◌++◌}
use Prim.Native.Nat.{ℕ, suc, ◌≤◌, ◌<◌}
use Prim.Native.Char.{code}
use native.Mathlib.Omega.{arith}
use lib.ListN.{length, get_or}
use borrow.Author.Tests.{eq-eqb}
use Rattle.slices.specs.Part.{part}
use Rattle.slices.proofs.PartLaws.{length_part, part_part, part_all}
use Rattle.columns.specs.ByteSets.{fits}
use Rattle.columns.specs.Patterns.{codes, each}
use Rattle.columns.specs.Kinds.{kind_of, first_bad_field}
use Rattle.columns.specs.Rows.{byte_in}
use Rattle.columns.specs.Words.{columns, ContinuationNumber, Is, Blank, Code, OneOf, All, Digits, Cycle, Distance, Front, Leg as LegContent, Application, Back, PrimaryContent, ContinuationContent}
use Rattle.columns.specs.Terminators.{terminators}
use Rattle.columns.specs.declared.Kind.{Kind}
use Rattle.columns.specs.declared.Kind.TheVariants as kind
use Rattle.columns.proofs.Content.{legal}
use Rattle.columns.proofs.LetterLaws.{continuation_number}
use Rattle.columns.proofs.Printable.{printable_columns}
use Rattle.leg.specs.Terminator.{terminator_of, name_of, is_holding}
use Rattle.leg.proofs.Legality.{named_back}
use Rattle.leg.proofs.TerminatorLaws.{row_of}
use Rattle.fields.specs.Pieces.{with_blanks, or_zero, put_all, blanks, Holds}
use Rattle.fields.specs.Text.{text_of, text_bytes, word_of, word_bytes, letter_of, letter_bytes}
use Rattle.fields.specs.Quantities.{distance_of, distance_bytes}
use Rattle.fields.specs.Head.{continues, route_of, fix_of, head_of, cycle_of, tail_of, route_pieces, place_pieces, head_pieces, tail_pieces}
use Rattle.fields.specs.Leg.{description_of, navaid_of, centre_fix_of, leg_of, path_pieces, course_pieces, height_pieces, centre_pieces, leg_pieces, render_leg}
use Rattle.fields.specs.Continuation.{continuation_of, content_of, application_pieces, continuation_pieces, render_continuation}
use Rattle.fields.specs.declared.head.Route.{Route}
use Rattle.fields.specs.declared.head.Head.{Head}
use Rattle.fields.specs.declared.head.Tail.{Tail}
use Rattle.fields.specs.declared.primary.Leg.{Leg}
use Rattle.fields.specs.declared.continuation.Continuation.{Continuation}
use Rattle.fields.proofs.Field.{Sound, Field}
use Rattle.fields.proofs.PieceLaws.{made_holds, held_made, holds_append, holds_left, holds_right}
use Rattle.fields.proofs.Placed.{leg_placed, continuation_placed}
use Rattle.fields.proofs.TextLaws.{with_blanks_full, with_blanks_none, unsound, text_field, word_field, letter_field}
use Rattle.fields.proofs.QuantityLaws.{
  number_field,
  rnp_field,
  arc_radius_field,
  theta_field,
  rho_field,
  course_field,
  DistanceOn,
  distance_back,
  distance_there,
  altitude_field,
  transition_altitude_field,
  speed_field,
  vertical_angle_field,
  turn_field,
  terminator_field,
}

-- ---- from a legal record to its pieces

-- a field that is read and written holds what it held
stays : {A : Type 0} {w : ℕ} {of : List ℕ → A} {bytes : A → List ℕ} {Good : List ℕ → Type 0} → Field w of bytes Good → (f : List ℕ) → Good f → f ≡ with_blanks w (bytes (of f))
stays field f h = sym (field.back f h)

byte_stays : (rec : List ℕ) (i : ℕ) → part 1 i rec ≡ with_blanks 1 (get_or rec i 0 ∷ [])
unfolding part with_blanks
byte_stays rec i = refl

right_stays : (rec : List ℕ) (i : ℕ) (t : Bool) → t ≡ true → part 1 i rec ≡ with_blanks 1 (or_zero t (get_or rec i 0 ∷ []))
right_stays rec i t e = rw e (byte_stays rec i)

blank_stays : (w : ℕ) (f : List ℕ) → Blank w f → f ≡ with_blanks w []
blank_stays w f e = e ∙ sym (with_blanks_none w)

airport_stays : (f : List ℕ) → Is "P" f → f ≡ with_blanks 1 (code "P" ∷ [])
unfolding codes with_blanks
airport_stays f e = e

first_two : (g h : List ℕ) → length g ≡ 2 → part 2 0 (g ++ h) ≡ g
unfolding part
first_two [] h l = absurd (omega arith)
first_two (a ∷ []) h l = absurd (omega arith)
first_two (a ∷ (b ∷ [])) h l = refl
first_two (a ∷ (b ∷ (c ∷ g))) h l = absurd (omega arith)

last_two : (g h : List ℕ) → length g ≡ 2 → length h ≡ 2 → part 2 2 (g ++ h) ≡ h
unfolding part
last_two [] h l k = absurd (omega arith)
last_two (a ∷ []) h l k = absurd (omega arith)
last_two (a ∷ (b ∷ [])) [] l k = absurd (omega arith)
last_two (a ∷ (b ∷ [])) (c ∷ []) l k = absurd (omega arith)
last_two (a ∷ (b ∷ [])) (c ∷ (d ∷ [])) l k = refl
last_two (a ∷ (b ∷ [])) (c ∷ (d ∷ (e ∷ h))) l k = absurd (omega arith)
last_two (a ∷ (b ∷ (c ∷ g))) h l k = absurd (omega arith)

first_byte : (rec : List ℕ) (i n : ℕ) → get_or (part (suc n) i rec) 0 0 ≡ get_or rec i 0
unfolding part
first_byte rec i n = refl

-- the fields that are more than one piece, or look at another column

-- year, then number
two_digits : (g h f : List ℕ) → length g ≡ 2 → f ≡ g ++ h → part 2 0 f ≡ g
two_digits g h f l e = ap (part 2 0) e ∙ first_two g h l

cycle_digits : (rec : List ℕ) → Cycle (columns 129 132 rec) → Digits 2 (columns 129 130 rec) × Digits 2 (columns 131 132 rec)
cycle_digits rec (g, h, e, d, (b, least, most)) =
    let l : part 2 0 (columns 129 132 rec) ≡ g = two_digits g h (columns 129 132 rec) d.0 e in
    let r : part 2 2 (columns 129 132 rec) ≡ h = ap (part 2 2) e ∙ last_two g h d.0 b.0 in
    (subst (Digits 2) (sym (sym (part_part 2 0 4 128 rec (omega arith)) ∙ l)) d, subst (Digits 2) (sym (sym (part_part 2 2 4 128 rec (omega arith)) ∙ r)) b)

primary_number : (rec : List ℕ) → Code "01" (columns 39 39 rec) → continues (get_or rec 38 0) ≡ false
unfolding continues fits each part
primary_number rec m =
    ⊎_elim (λ e. let z : get_or rec 38 0 ≡ 48 = ap (λ (f : List ℕ). get_or f 0 0) e in rw z)
    (λ m. ⊎_elim (λ e. let z : get_or rec 38 0 ≡ 49 = ap (λ (f : List ℕ). get_or f 0 0) e in rw z) (λ m. absurd (Memᴰ.not-nil m)) (Memᴰ.cases_cons m))
    (Memᴰ.cases_cons m)

continuation_number_lem : (rec : List ℕ) → All 1 ContinuationNumber (columns 39 39 rec) → continues (get_or rec 38 0) ≡ true
unfolding continues part
continuation_number_lem rec h = (continuation_number (get_or rec 38 0)).1 h.1.0

content_stays : (rec : List ℕ) → part 83 40 rec ≡ with_blanks 83 (part 83 0 (columns 41 123 rec))
content_stays rec =
    let e : part 83 0 (columns 41 123 rec) ≡ part 83 40 rec = part_part 83 0 83 40 rec (omega arith) in
    sym (with_blanks_full 83 (part 83 0 (columns 41 123 rec)) (length_part 83 0 (columns 41 123 rec)) ∙ e)

-- H in column 48 is a holding
holding : (f : List ℕ) (b : ℕ) → OneOf terminators f → get_or f 0 0 ≡ b → b ≡ code "H" → is_holding (terminator_of f) ≡ true
holding f b m e h =
    let n : get_or (name_of (terminator_of f)) 0 0 ≡ code "H" = ap (λ (x : List ℕ). get_or x 0 0) (sym (named_back f m)) ∙ e ∙ h in
    sym (row_of (terminator_of f)).its_letter ∙ eq-eqb (get_or (name_of (terminator_of f)) 0 0) (code "H") n

pub distance_on : (rec : List ℕ) → LegContent rec → DistanceOn (is_holding (terminator_of (columns 48 49 rec))) (columns 75 78 rec)
distance_on rec c = by c.distance
  where
    by : Distance rec (columns 75 78 rec) → DistanceOn (is_holding (terminator_of (columns 48 49 rec))) (columns 75 78 rec)
    by (inl h) = inl h
    by (inr (h, t)) = inr (holding (columns 48 49 rec) (byte_in 48 rec) c.terminator (first_byte rec 47 1) h, t)

module _ (rec : List ℕ) where
  text_stays : (n i : ℕ) → 1 ≤ n → n ≤ 6 → part n i rec ≡ with_blanks n (text_bytes n (text_of (part n i rec)))
  text_stays n i h k = stays (text_field n h k) (part n i rec) (length_part n i rec)

  word_stays : (n i : ℕ) → 1 ≤ n → n ≤ 6 → part n i rec ≡ with_blanks n (word_bytes n (word_of (part n i rec)))
  word_stays n i h k = stays (word_field n h k) (part n i rec) (length_part n i rec)

  letter_stays : (i : ℕ) → part 1 i rec ≡ with_blanks 1 (letter_bytes (letter_of (part 1 i rec)))
  letter_stays i = stays letter_field (part 1 i rec) (length_part 1 i rec)

  route_stays : Front rec → Holds rec (route_pieces (route_of rec))
  unfolding route_pieces route_of
  route_stays c = (
    byte_stays rec 0,
    (
      text_stays 3 1 (omega arith) (omega arith),
      (
        airport_stays (columns 5 5 rec) c.section,
        (
          blank_stays 1 (columns 6 6 rec) c.blank6,
          (
            text_stays 4 6 (omega arith) (omega arith),
            (
              text_stays 2 10 (omega arith) (omega arith),
              (
                byte_stays rec 12,
                (
                  text_stays 6 13 (omega arith) (omega arith),
                  (
                    byte_stays rec 19,
                    (
                      word_stays 5 20 (omega arith) (omega arith),
                      (blank_stays 1 (columns 26 26 rec) c.blank26, tt),
                    ),
                  ),
                ),
              ),
            ),
          ),
        ),
      ),
    ),
  )

  place_stays : Front rec → Holds rec (place_pieces (head_of rec))
  unfolding place_pieces head_of fix_of
  place_stays c = (
    stays (number_field 2) (columns 27 29 rec) c.sequence.0,
    (
      word_stays 5 29 (omega arith) (omega arith),
      (
        word_stays 2 34 (omega arith) (omega arith),
        (
          letter_stays 36,
          (byte_stays rec 37, tt),
        ),
      ),
    ),
  )

  head_stays : Front rec → Holds rec (head_pieces (head_of rec))
  unfolding head_pieces head_of
  head_stays c = holds_append rec (route_pieces (route_of rec)) (place_pieces (head_of rec)) (route_stays c) (place_stays c)

  tail_stays : Back rec → Holds rec (tail_pieces (tail_of rec))
  unfolding tail_pieces tail_of cycle_of
  tail_stays c =
      let d = cycle_digits rec c.cycle in (
        stays (number_field 4) (columns 124 128 rec) c.record_number,
        (
          stays (number_field 1) (columns 129 130 rec) d.0,
          (stays (number_field 1) (columns 131 132 rec) d.1, tt),
        ),
      )

  path_stays : LegContent rec → Holds rec (path_pieces (leg_of rec))
  unfolding path_pieces leg_of description_of navaid_of
  path_stays c = (
    right_stays rec 38 (not (continues (get_or rec 38 0))) (ap not (primary_number rec c.continuation)),
    (
      byte_stays rec 39,
      (
        byte_stays rec 40,
        (
          byte_stays rec 41,
          (
            byte_stays rec 42,
            (
              stays turn_field (columns 44 44 rec) c.turn,
              (
                stays rnp_field (columns 45 47 rec) c.rnp,
                (
                  stays terminator_field (columns 48 49 rec) c.terminator,
                  (
                    letter_stays 49,
                    (
                      word_stays 4 50 (omega arith) (omega arith),
                      (word_stays 2 54 (omega arith) (omega arith), tt),
                    ),
                  ),
                ),
              ),
            ),
          ),
        ),
      ),
    ),
  )

  course_stays : LegContent rec → Holds rec (course_pieces (leg_of rec))
  unfolding course_pieces leg_of navaid_of
  course_stays c = (
    stays arc_radius_field (columns 57 62 rec) c.arc_radius,
    (
      stays theta_field (columns 63 66 rec) c.theta,
      (
        stays rho_field (columns 67 70 rec) c.rho,
        (
          stays course_field (columns 71 74 rec) c.course,
          (
            sym (distance_back (is_holding (terminator_of (columns 48 49 rec))) (columns 75 78 rec) (distance_on rec c)),
            (
              letter_stays 78,
              (
                byte_stays rec 79,
                (blank_stays 2 (columns 81 82 rec) c.blank81, tt),
              ),
            ),
          ),
        ),
      ),
    ),
  )

  height_stays : LegContent rec → Holds rec (height_pieces (leg_of rec))
  unfolding height_pieces leg_of
  height_stays c = (
    byte_stays rec 82,
    (
      letter_stays 83,
      (
        stays altitude_field (columns 85 89 rec) c.altitude1,
        (
          stays altitude_field (columns 90 94 rec) c.altitude2,
          (
            stays transition_altitude_field (columns 95 99 rec) c.transition_altitude,
            (
              stays speed_field (columns 100 102 rec) c.speed,
              (stays vertical_angle_field (columns 103 106 rec) c.vertical_angle, tt),
            ),
          ),
        ),
      ),
    ),
  )

  centre_stays : LegContent rec → Holds rec (centre_pieces (leg_of rec))
  unfolding centre_pieces leg_of centre_fix_of
  centre_stays c = (
    word_stays 5 106 (omega arith) (omega arith),
    (
      letter_stays 111,
      (
        word_stays 2 112 (omega arith) (omega arith),
        (
          letter_stays 114,
          (
            byte_stays rec 115,
            (
              letter_stays 116,
              (
                blank_stays 1 (columns 118 118 rec) c.blank118,
                (
                  letter_stays 118,
                  (
                    letter_stays 119,
                    (blank_stays 3 (columns 121 123 rec) c.blank121, tt),
                  ),
                ),
              ),
            ),
          ),
        ),
      ),
    ),
  )

  leg_stays : PrimaryContent rec → Holds rec (leg_pieces (leg_of rec))
  unfolding leg_pieces leg_of
  leg_stays c =
      holds_append rec (head_pieces (head_of rec)) _ (head_stays c.front)
      (holds_append rec (path_pieces (leg_of rec)) _ (path_stays c.leg)
      (holds_append rec (course_pieces (leg_of rec)) _ (course_stays c.leg)
      (holds_append rec (height_pieces (leg_of rec)) _ (height_stays c.leg)
      (holds_append rec (centre_pieces (leg_of rec)) (tail_pieces (tail_of rec)) (centre_stays c.leg) (tail_stays c.back)))))

  application_stays : Application rec → Holds rec (application_pieces (continuation_of rec) (content_of rec))
  unfolding application_pieces continuation_of
  application_stays c = (
    right_stays rec 38 (continues (get_or rec 38 0)) (continuation_number_lem rec c.number),
    (
      letter_stays 39,
      (content_stays rec, tt),
    ),
  )

  continuation_stays : ContinuationContent rec → Holds rec (continuation_pieces (continuation_of rec) (content_of rec))
  unfolding continuation_pieces continuation_of
  continuation_stays c =
      holds_append rec (head_pieces (head_of rec)) _ (head_stays c.front)
      (holds_append rec (application_pieces (continuation_of rec) (content_of rec)) (tail_pieces (tail_of rec)) (application_stays c.application) (tail_stays c.back))

  -- ---- an accepted record read into parts and written again is the same 132 columns

  pub leg_round : PrimaryContent rec → render_leg (leg_of rec) ≡ part 132 0 rec
  unfolding render_leg
  leg_round c = held_made (leg_pieces (leg_of rec)) (leg_placed (leg_of rec)) rec (leg_stays c)

  pub continuation_round : ContinuationContent rec → render_continuation (continuation_of rec) (content_of rec) ≡ part 132 0 rec
  unfolding render_continuation
  continuation_round c = held_made (continuation_pieces (continuation_of rec) (content_of rec)) (continuation_placed (continuation_of rec) (content_of rec)) rec (continuation_stays c)

-- ---- from pieces back to the parts

-- no byte of the record is 0
Sounds : List ℕ → Type 0
Sounds rec = (i : ℕ) → i < 132 → get_or rec i 0 ≡ 0 → ⊥

legal_sounds : (rec : List ℕ) → first_bad_field rec ≡ 0 → Sounds rec
unfolding Sounds
legal_sounds rec e i h z = omega (arith, (printable_columns rec e i h).0)

module _ (rec : List ℕ) where
  -- the groups of a leg's pieces, one after the other
  leg_groups : (g : Leg) → Holds rec (leg_pieces g)
      → Holds rec (head_pieces g.head) × Holds rec (path_pieces g) × Holds rec (course_pieces g) × Holds rec (height_pieces g) × Holds rec (centre_pieces g) × Holds rec (tail_pieces g.tail)
  unfolding leg_pieces
  leg_groups g h =
      let h4 = centre_pieces g ++ tail_pieces g.tail in
      let h3 = height_pieces g ++ h4 in
      let h2 = course_pieces g ++ h3 in
      let h1 = path_pieces g ++ h2 in
      let k1 = holds_right rec (head_pieces g.head) h1 h in
      let k2 = holds_right rec (path_pieces g) h2 k1 in
      let k3 = holds_right rec (course_pieces g) h3 k2 in
      let k4 = holds_right rec (height_pieces g) h4 k3 in (
        holds_left rec (head_pieces g.head) h1 h,
        holds_left rec (path_pieces g) h2 k1,
        holds_left rec (course_pieces g) h3 k2,
        holds_left rec (height_pieces g) h4 k3,
        holds_left rec (centre_pieces g) (tail_pieces g.tail) k4,
        holds_right rec (centre_pieces g) (tail_pieces g.tail) k4,
      )

  continuation_groups : (c : Continuation) (content : List ℕ) → Holds rec (continuation_pieces c content)
      → Holds rec (head_pieces c.head) × Holds rec (application_pieces c content) × Holds rec (tail_pieces c.tail)
  unfolding continuation_pieces
  continuation_groups c content h =
      let h1 = application_pieces c content ++ tail_pieces c.tail in
      let k1 = holds_right rec (head_pieces c.head) h1 h in (
        holds_left rec (head_pieces c.head) h1 h,
        holds_left rec (application_pieces c content) (tail_pieces c.tail) k1,
        holds_right rec (application_pieces c content) (tail_pieces c.tail) k1,
      )

module _ (rec : List ℕ) (sounds : Sounds rec) where
  sound_at : (n i : ℕ) (f : List ℕ) → i < 132 → part (suc n) i rec ≡ f → Sound f
  unfolding Sounds
  sound_at n i f h e z = sounds i h (sym (first_byte rec i n) ∙ ap (λ (x : List ℕ). get_or x 0 0) e ∙ z)

  -- a field that holds a piece gives the part that the piece was made of
  returns : {A : Type 0} {n : ℕ} {of : List ℕ → A} {bytes : A → List ℕ} {Good : List ℕ → Type 0} → Field (suc n) of bytes Good → (i : ℕ) → i < 132 → (v : A)
      → part (suc n) i rec ≡ with_blanks (suc n) (bytes v) → of (part (suc n) i rec) ≡ v
  returns {n = n} {of = of} {bytes = bytes} field i h v e = ap of e ∙ field.there v (sound_at n i (with_blanks (suc n) (bytes v)) h e)

  byte_returns : (i b : ℕ) → part 1 i rec ≡ with_blanks 1 (b ∷ []) → get_or rec i 0 ≡ b
  unfolding with_blanks
  byte_returns i b e = sym (first_byte rec i 0) ∙ ap (λ (x : List ℕ). get_or x 0 0) e

  right_returns : (i : ℕ) (t : Bool) (b : ℕ) → i < 132 → part 1 i rec ≡ with_blanks 1 (or_zero t (b ∷ [])) → get_or rec i 0 ≡ b
  right_returns i true b h e = byte_returns i b e
  right_returns i false b h e = unsound 1 (sound_at 0 i (with_blanks 1 (0 ∷ [])) h e)

  route_returns : (r : Route) → Holds rec (route_pieces r) → route_of rec ≡ r
  unfolding route_pieces route_of
  route_returns r (a, (b, (c, (d, (e, (f, (g, (h, (k, (l, m)))))))))) = λ j. record {
    record_type = byte_returns 0 r.record_type a j;
    area = returns (text_field 3 (omega arith) (omega arith)) 1 (omega arith) r.area b j;
    airport = returns (text_field 4 (omega arith) (omega arith)) 6 (omega arith) r.airport e j;
    icao = returns (text_field 2 (omega arith) (omega arith)) 10 (omega arith) r.icao f j;
    subsection = byte_returns 12 r.subsection g j;
    procedure = returns (text_field 6 (omega arith) (omega arith)) 13 (omega arith) r.procedure h j;
    route_type = byte_returns 19 r.route_type k j;
    transition = returns (word_field 5 (omega arith) (omega arith)) 20 (omega arith) r.transition l j;
  }

  head_returns : (x : Head) → Holds rec (head_pieces x) → head_of rec ≡ x
  unfolding head_pieces place_pieces head_of fix_of
  head_returns x h = by (holds_left rec (route_pieces x.route) (place_pieces x) h) (holds_right rec (route_pieces x.route) (place_pieces x) h)
    where
      by : Holds rec (route_pieces x.route) → Holds rec (place_pieces x) → head_of rec ≡ x
      by r (a, (b, (c, (d, (e, f))))) = λ j. record {
        route = route_returns x.route r j;
        sequence = returns (number_field 2) 26 (omega arith) x.sequence a j;
        fix = record {
          identifier = returns (word_field 5 (omega arith) (omega arith)) 29 (omega arith) x.fix.identifier b j;
          icao = returns (word_field 2 (omega arith) (omega arith)) 34 (omega arith) x.fix.icao c j;
          section = returns letter_field 36 (omega arith) x.fix.section d j;
          subsection = byte_returns 37 x.fix.subsection e j;
        };
      }

  tail_returns : (t : Tail) → Holds rec (tail_pieces t) → tail_of rec ≡ t
  unfolding tail_pieces tail_of cycle_of
  tail_returns t (a, (b, (c, d))) = λ j. record {
    record_number = returns (number_field 4) 123 (omega arith) t.record_number a j;
    cycle = record {
      year = returns (number_field 1) 128 (omega arith) t.cycle.year b j;
      number = returns (number_field 1) 130 (omega arith) t.cycle.number c j;
    };
  }

  leg_returns : (g : Leg) → LegContent rec → Holds rec (leg_pieces g) → leg_of rec ≡ g
  unfolding path_pieces course_pieces height_pieces centre_pieces leg_of description_of navaid_of centre_fix_of
  leg_returns g w h =
      let k = leg_groups rec g h in
      by (head_returns g.head k.0) k.1 k.2 k.3 k.4 (tail_returns g.tail k.5)
    where
      by : head_of rec ≡ g.head → Holds rec (path_pieces g) → Holds rec (course_pieces g) → Holds rec (height_pieces g) → Holds rec (centre_pieces g) → tail_of rec ≡ g.tail → leg_of rec ≡ g
      by front (p39, (p40, (p41, (p42, (p43, (p44, (p45, (p48, (p50, (p51, (p55, _))))))))))) (p57, (p63, (p67, (p71, (p75, (p79, (p80, _)))))))
          (p83, (p84, (p85, (p90, (p95, (p100, (p103, _))))))) (p107, (p112, (p113, (p115, (p116, (p117, (p118, (p119, (p120, _))))))))) back = λ j. record {
            head = front j;
            continuation = right_returns 38 (not (continues g.continuation)) g.continuation (omega arith) p39 j;
            description = record {
              0 = byte_returns 39 g.description.0 p40 j;
              1 = byte_returns 40 g.description.1 p41 j;
              2 = byte_returns 41 g.description.2 p42 j;
              3 = byte_returns 42 g.description.3 p43 j;
            };
            turn = returns turn_field 43 (omega arith) g.turn p44 j;
            rnp = returns rnp_field 44 (omega arith) g.rnp p45 j;
            terminator = returns terminator_field 47 (omega arith) g.terminator p48 j;
            turn_valid = returns letter_field 49 (omega arith) g.turn_valid p50 j;
            navaid = record {
              identifier = returns (word_field 4 (omega arith) (omega arith)) 50 (omega arith) g.navaid.identifier p51 j;
              icao = returns (word_field 2 (omega arith) (omega arith)) 54 (omega arith) g.navaid.icao p55 j;
              section = returns letter_field 78 (omega arith) g.navaid.section p79 j;
              subsection = byte_returns 79 g.navaid.subsection p80 j;
            };
            arc_radius = returns arc_radius_field 56 (omega arith) g.arc_radius p57 j;
            theta = returns theta_field 62 (omega arith) g.theta p63 j;
            rho = returns rho_field 66 (omega arith) g.rho p67 j;
            course = returns course_field 70 (omega arith) g.course p71 j;
            distance = distance_returns p75 j;
            altitude_description = byte_returns 82 g.altitude_description p83 j;
            atc = returns letter_field 83 (omega arith) g.atc p84 j;
            altitude = returns altitude_field 84 (omega arith) g.altitude p85 j;
            second_altitude = returns altitude_field 89 (omega arith) g.second_altitude p90 j;
            transition_altitude = returns transition_altitude_field 94 (omega arith) g.transition_altitude p95 j;
            speed = returns speed_field 99 (omega arith) g.speed p100 j;
            vertical_angle = returns vertical_angle_field 102 (omega arith) g.vertical_angle p103 j;
            centre_fix = record {
              identifier = returns (word_field 5 (omega arith) (omega arith)) 106 (omega arith) g.centre_fix.identifier p107 j;
              multiple = returns letter_field 111 (omega arith) g.centre_fix.multiple p112 j;
              icao = returns (word_field 2 (omega arith) (omega arith)) 112 (omega arith) g.centre_fix.icao p113 j;
              section = returns letter_field 114 (omega arith) g.centre_fix.section p115 j;
              subsection = byte_returns 115 g.centre_fix.subsection p116 j;
            };
            gps = returns letter_field 116 (omega arith) g.gps p117 j;
            qualifier = returns letter_field 118 (omega arith) g.qualifier p119 j;
            second_qualifier = returns letter_field 119 (omega arith) g.second_qualifier p120 j;
            tail = back j;
          }
        where
          distance_returns : part 4 74 rec ≡ with_blanks 4 (distance_bytes g.distance) → distance_of (is_holding (terminator_of (columns 48 49 rec))) (columns 75 78 rec) ≡ g.distance
          distance_returns e =
              ap (distance_of (is_holding (terminator_of (columns 48 49 rec)))) e
              ∙ distance_there (is_holding (terminator_of (columns 48 49 rec))) g.distance (sound_at 3 74 (with_blanks 4 (distance_bytes g.distance)) (omega arith) e)
              (subst (DistanceOn (is_holding (terminator_of (columns 48 49 rec)))) e (distance_on rec w))

  continuation_returns : (c : Continuation) (content : List ℕ) → length content ≡ 83 → Holds rec (continuation_pieces c content) → (continuation_of rec ≡ c) × (content_of rec ≡ content)
  unfolding application_pieces continuation_of
  continuation_returns c content l h =
      let k = continuation_groups rec c content h in
      by (head_returns c.head k.0) k.1 (tail_returns c.tail k.2)
    where
      by : head_of rec ≡ c.head → Holds rec (application_pieces c content) → tail_of rec ≡ c.tail → (continuation_of rec ≡ c) × (content_of rec ≡ content)
      by front (p39, (p40, (p41, _))) back = (
        λ j. record {
          head = front j;
          number = right_returns 38 (continues c.number) c.number (omega arith) p39 j;
          application = returns letter_field 39 (omega arith) c.application p40 j;
          tail = back j;
        },
        p41 ∙ with_blanks_full 83 (part 83 0 content) (length_part 83 0 content) ∙ ap (λ (k : ℕ). part k 0 content) (sym l) ∙ part_all content,
      )

-- ---- what a rendered record is

-- a legal record that a leg makes has the parts of the leg
pub leg_again : (g : Leg) → PrimaryContent (render_leg g) → leg_of (render_leg g) ≡ g
unfolding render_leg
leg_again g c =
    let rec = put_all (leg_pieces g) blanks in
    leg_returns rec (legal_sounds rec ((legal rec).1 (inl c))) g c.leg (made_holds (leg_pieces g) (leg_placed g))

pub continuation_again : (c : Continuation) (content : List ℕ) → length content ≡ 83 → ContinuationContent (render_continuation c content)
    → (continuation_of (render_continuation c content) ≡ c) × (content_of (render_continuation c content) ≡ content)
unfolding render_continuation
continuation_again c content l h =
    let rec = put_all (continuation_pieces c content) blanks in
    continuation_returns rec (legal_sounds rec ((legal rec).1 (inr h))) c content l (made_holds (continuation_pieces c content) (continuation_placed c content))

-- its number tells its kind: a leg is never numbered as a continuation, and a continuation never as a primary
numbered : (rec : List ℕ) (t : Bool) (b : ℕ) → part 1 38 rec ≡ with_blanks 1 (or_zero t (b ∷ [])) → get_or rec 38 0 ≡ cond t b 0
unfolding with_blanks
numbered rec true b e = sym (first_byte rec 38 0) ∙ ap (λ (x : List ℕ). get_or x 0 0) e
numbered rec false b e = sym (first_byte rec 38 0) ∙ ap (λ (x : List ℕ). get_or x 0 0) e

primary_never : (t : Bool) (b : ℕ) → continues b ≡ t → continues (cond (not t) b 0) ≡ false
unfolding continues fits
primary_never true b e = refl
primary_never false b e = e

leg_number : (rec : List ℕ) (g : Leg) → Holds rec (path_pieces g) → continues (get_or rec 38 0) ≡ false
unfolding path_pieces
leg_number rec g h = ap continues (numbered rec (not (continues g.continuation)) g.continuation h.0) ∙ primary_never (continues g.continuation) g.continuation refl

pub leg_kind : (g : Leg) → kind_of (render_leg g) ≡ kind.Continuation → ⊥
unfolding render_leg kind_of continues
leg_kind g e =
    let rec = put_all (leg_pieces g) blanks in
    let n : fits (code "k") (byte_in 39 rec) ≡ false = leg_number rec g (leg_groups rec g (made_holds (leg_pieces g) (leg_placed g))).1 in
    other (rw n at e)
  where
    other : kind.Primary ≡ kind.Continuation → ⊥
    other q = false≢true (ap is_continuation q)
      where
        is_continuation : Kind → Bool
        is_continuation kind.Primary = false
        is_continuation kind.Continuation = true

pub continuation_not_primary : (c : Continuation) (content : List ℕ) → PrimaryContent (render_continuation c content) → ⊥
unfolding render_continuation application_pieces Sounds
continuation_not_primary c content h =
    let rec = put_all (continuation_pieces c content) blanks in
    let sounds = legal_sounds rec ((legal rec).1 (inl h)) in
    let p = (continuation_groups rec c content (made_holds (continuation_pieces c content) (continuation_placed c content))).1.0 in
    by rec (continues c.number) refl p sounds (primary_number rec h.leg.continuation)
  where
    by : (rec : List ℕ) (t : Bool) → continues c.number ≡ t → part 1 38 rec ≡ with_blanks 1 (or_zero t (c.number ∷ [])) → Sounds rec → continues (get_or rec 38 0) ≡ false → ⊥
    by rec true e p s q = false≢true (sym q ∙ ap continues (numbered rec true c.number p) ∙ e)
    by rec false e p s q = sounds_not s (numbered rec false c.number p)
      where
        sounds_not : Sounds rec → get_or rec 38 0 ≡ 0 → ⊥
        sounds_not s z = s 38 (omega arith) z
