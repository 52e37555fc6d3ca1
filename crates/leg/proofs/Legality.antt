-- A record is accepted exactly when it is legal.
-- Assumes nothing.
use mathlib.Core.Path.{◌≡◌, refl, sym, ap, subst, ◌∙◌}
use mathlib.Core.Logic.Iff
use mathlib.Core.Logic.{◌↔◌, inl, inr, ⊎_elim}
use mathlib.Core.Bool.{Bool, true, false, cond, ◌&&◌, ◌||◌, false≢true}
use mathlib.Core.List.{List, [], ◌∷◌, Memᴰ}
use Prim.Native.Nat.{ℕ, ◌≤◌}
use Prim.Native.Char.{Char, code}
use native.Mathlib.Omega.{arith}
use lib.Dec.{eqb}
use borrow.Author.Tests.{eqb-true, eq-eqb}
use Rattle.slices.specs.Part.{blank, member}
use Rattle.slices.proofs.Cases.{split, either, or_left, or_right}
use Rattle.slices.proofs.PartLaws.{blank_iff, member_iff}
use Rattle.columns.specs.Patterns.{texts}
use Rattle.columns.specs.Terminators.{terminators}
use Rattle.columns.specs.Kinds.{kind_of, first_bad_field, bad_byte}
use Rattle.columns.specs.Rows.{byte_in}
use Rattle.columns.specs.Fields.{field, bytes_in}
use Rattle.columns.specs.declared.field.Field.{Field}
use Rattle.columns.specs.Words.{columns, Content, PrimaryContent}
use Rattle.columns.proofs.BadByte.{byte_legal}
use Rattle.columns.proofs.Content.{legal, primary_kind, continuation_kind}
use Rattle.refusals.specs.Table.{field_content, companion_blank, needed_blank, Verdict, Accepted, Refused}
use Rattle.refusals.specs.declared.Refusal.{Refusal}
use Rattle.leg.specs.Terminator.{terminator_of, name_of, needed}
use Rattle.leg.specs.declared.terminator.Terminator.{Terminator}
use Rattle.leg.specs.Stages.{odd_one, companion_column, needable, asks, missing, needed_of, needed_column}
use Rattle.leg.specs.declared.stages.Needable.{Needable}
use Rattle.leg.specs.Judge.{stage, judged_leg, by_kind, judged_by, judged, judged_parts}
use Rattle.leg.specs.Legal.{Filled, Companions, Needs, NeededFields, LegalLeg, Legal}
use Rattle.leg.proofs.StageLaws.{counted, counted_first, counted_rest}
use Rattle.leg.proofs.TerminatorLaws.{row_of, named}

-- ---- blank and filled

filled : (f : List ℕ) → blank f ≡ false → Filled f
filled f e h = false≢true (sym e ∙ (blank_iff f).1 h)

not_blank : (f : List ℕ) → Filled f → blank f ≡ false
not_blank f h = split (blank f) (λ e. absurd (h ((blank_iff f).0 e))) (λ e. e)

-- ---- one stage

pub stage_iff : (c : ℕ) (f : ℕ → Refusal) (next : Verdict) → (stage c f next ≡ Accepted) ↔ ((c ≡ 0) × (next ≡ Accepted))
unfolding stage
stage_iff c f next = (to, λ h. rw h.0 h.1)
  where
    to : cond (eqb c 0) next (Refused (f c)) ≡ Accepted → (c ≡ 0) × (next ≡ Accepted)
    to e =
        split (eqb c 0) (λ t. (eqb-true c 0 t, rw t at e))
        (λ t. let q : Refused (f c) ≡ Accepted = rw t at e in let z : ◌≡◌ {A = ℕ} 0 1 = cc in absurd (omega arith))

-- where no field is left to look at
none_left : (◌≡◌ {A = ℕ} 0 0) ↔ Unit {0}
none_left = (λ _. tt, λ _. refl)

also : {P Q : Type 0} → P → Q → P × Q
also p q = (p, q)

-- ---- companions

abbrev odd : (x y z : Bool) (a b c rest : ℕ) → ℕ
odd x y z a b c rest = cond (x && (y && z)) rest (cond x a (cond y b (cond z c rest)))

together_iff : (f g h : List ℕ) (a b c rest : ℕ) → 1 ≤ a → 1 ≤ b → 1 ≤ c
    → (odd (blank f) (blank g) (blank h) a b c rest ≡ 0) ↔ (Companions f g h × (rest ≡ 0))
together_iff f g h a b c rest ha hb hc = (to (blank f) (blank g) (blank h) refl refl refl, from)
  where
    to : (x y z : Bool) → blank f ≡ x → blank g ≡ y → blank h ≡ z → odd x y z a b c rest ≡ 0 → Companions f g h × (rest ≡ 0)
    to true true true p q r e = (inl ((blank_iff f).0 p, (blank_iff g).0 q, (blank_iff h).0 r), e)
    to true true false p q r e = absurd (omega arith)
    to true false true p q r e = absurd (omega arith)
    to true false false p q r e = absurd (omega arith)
    to false true true p q r e = absurd (omega arith)
    to false true false p q r e = absurd (omega arith)
    to false false true p q r e = absurd (omega arith)
    to false false false p q r e = (inr (filled f p, filled g q, filled h r), e)

    from : Companions f g h × (rest ≡ 0) → odd (blank f) (blank g) (blank h) a b c rest ≡ 0
    from (inl (p, q, r), e) = rw ((blank_iff f).1 p, (blank_iff g).1 q, (blank_iff h).1 r) e
    from (inr (p, q, r), e) = rw (not_blank f p, not_blank g q, not_blank h r) e

odd_iff : {R : Type 0} (f g h : Field) (rec : List ℕ) (rest : ℕ) → 1 ≤ f.0 → 1 ≤ g.0 → 1 ≤ h.0 → (rest ≡ 0) ↔ R
    → (odd_one f g h rec rest ≡ 0) ↔ (Companions (bytes_in f rec) (bytes_in g rec) (bytes_in h rec) × R)
unfolding odd_one
odd_iff f g h rec rest hf hg hh r =
    Iff.trans (together_iff (bytes_in f rec) (bytes_in g rec) (bytes_in h rec) f.0 g.0 h.0 rest hf hg hh) (Iff.and Iff.rfl r)

-- ---- needed fields

-- every field that is asked for is filled
abbrev AllFilled : (ℕ → Bool) → List Needable → List ℕ → Type 0
AllFilled asked [] rec = Unit {0}
AllFilled asked (n ∷ ns) rec = (asked n.0 ≡ true → Filled (bytes_in n.1 rec)) × AllFilled asked ns rec

missing_iff : (asked : ℕ → Bool) (rec : List ℕ) (ns : List Needable) → counted ns ≡ true → (missing asked ns rec ≡ 0) ↔ AllFilled asked ns rec
unfolding missing
missing_iff asked rec [] h = none_left
missing_iff asked rec (n ∷ ns) h =
    Iff.trans (to (asked n.0) (blank (bytes_in n.1 rec)) refl refl, from) (Iff.and Iff.rfl (missing_iff asked rec ns (counted_rest n ns h)))
  where
    rest : ℕ
    rest = missing asked ns rec

    First : Type 0
    First = asked n.0 ≡ true → Filled (bytes_in n.1 rec)

    to : (x y : Bool) → asked n.0 ≡ x → blank (bytes_in n.1 rec) ≡ y → cond (x && y) n.1.0 rest ≡ 0 → First × (rest ≡ 0)
    to true true p r e = absurd (counted_first n ns h e)
    to true false p r e = (λ _. filled (bytes_in n.1 rec) r, e)
    to false y p r e = (λ w. absurd (false≢true (sym p ∙ w)), e)

    from : First × (rest ≡ 0) → cond (asked n.0 && blank (bytes_in n.1 rec)) n.1.0 rest ≡ 0
    from (w, e) = split (asked n.0) (λ t. rw (t, not_blank (bytes_in n.1 rec) (w t)) e) (λ t. rw t e)

asks_iff : (t : Terminator) (c : Char) → (member (code c) (needed t) ≡ true) ↔ Needs t c
asks_iff t c = member_iff (code c) (needed t)

-- ---- the stages

module _ (rec : List ℕ) where
  companions_iff : (companion_column rec ≡ 0)
      ↔ (Companions (columns 30 34 rec) (columns 35 36 rec) (columns 37 37 rec)
      × (Companions (columns 51 54 rec) (columns 55 56 rec) (columns 79 79 rec)
      × (Companions (columns 107 111 rec) (columns 113 114 rec) (columns 115 115 rec)
      × Unit {0})))
  unfolding companion_column
  companions_iff =
      odd_iff (field 30 34) (field 35 36) (field 37 37) rec _ (omega arith) (omega arith) (omega arith)
      (odd_iff (field 51 54) (field 55 56) (field 79 79) rec _ (omega arith) (omega arith) (omega arith)
      (odd_iff (field 107 111) (field 113 114) (field 115 115) rec 0 (omega arith) (omega arith) (omega arith)
      none_left))

  module _ (t : Terminator) (b : Bool) (B : Type 0) (hb : (b ≡ true) ↔ B) where
    -- a letter by which the terminator needs a field
    by : (c : Char) {F : Type 0} → (Needs t c → F) → member (code c) (needed t) ≡ true → F
    by c f e = f ((asks_iff t c).0 e)

    -- .. or both altitudes are needed
    or_both : (c : Char) {F : Type 0} → (B → F) → (member (code c) (needed t) ≡ true → F) → (b || member (code c) (needed t)) ≡ true → F
    or_both c f g e = ⊎_elim (λ h. f (hb.0 h)) g (either b (member (code c) (needed t)) e)

    needed_iff : (needed_of t b rec ≡ 0) ↔ (NeededFields t rec × (B → Filled (columns 85 89 rec) × Filled (columns 90 94 rec)))
    unfolding needed_of counted
    needed_iff =
        Iff.trans (missing_iff (asks t b) rec needable refl) (
          λ (fix, (turn, (navaid, (arc_radius, (theta, (rho, (course, (distance, (altitude, (second, (centre_fix, _))))))))))). (
            record {
              fix = λ n. fix ((asks_iff t "F").1 n);
              turn = λ n. turn ((asks_iff t "T").1 n);
              navaid = λ n. navaid ((asks_iff t "N").1 n);
              arc_radius = λ n. arc_radius ((asks_iff t "X").1 n);
              theta = λ n. theta ((asks_iff t "H").1 n);
              rho = λ n. rho ((asks_iff t "R").1 n);
              course = λ n. course ((asks_iff t "C").1 n);
              distance = λ n. distance ((asks_iff t "D").1 n);
              altitude = λ n. altitude (or_right b (member (code "A") (needed t)) ((asks_iff t "A").1 n));
              centre_fix = λ n. centre_fix ((asks_iff t "O").1 n);
            },
            λ w. (altitude (or_left b (member (code "A") (needed t)) (hb.1 w)), second (or_left b (member (code " ") (needed t)) (hb.1 w))),
          ),
          λ (n, w).
              also (by "F" n.fix)
              (also (by "T" n.turn)
              (also (by "N" n.navaid)
              (also (by "X" n.arc_radius)
              (also (by "H" n.theta)
              (also (by "R" n.rho)
              (also (by "C" n.course)
              (also (by "D" n.distance)
              (also (or_both "A" (λ x. (w x).0) (by "A" n.altitude))
              (also (or_both " " (λ x. (w x).1) (λ h. absurd (false≢true (sym (row_of t).its_letters ∙ h))))
              (also (by "O" n.centre_fix)
              tt)))))))))),
        )

-- ---- the terminator that a legal record names

-- the name of a terminator, read and written again
pub named_back : (f : List ℕ) → Memᴰ f (texts terminators) → f ≡ name_of (terminator_of f)
named_back f m =
    let r = named f m in
    r.1 ∙ ap name_of (sym (ap terminator_of r.1 ∙ (row_of r.0).its_name))

-- ---- the whole

module _ (rec : List ℕ) where
  is_b : (eqb (byte_in 83 rec) (code "B") ≡ true) ↔ (byte_in 83 rec ≡ code "B")
  is_b = (eqb-true (byte_in 83 rec) (code "B"), eq-eqb (byte_in 83 rec) (code "B"))

  leg_to : PrimaryContent rec → companion_column rec ≡ 0 → needed_column rec ≡ 0 → LegalLeg rec
  unfolding needed_column
  leg_to c e n =
      let g = (companions_iff rec).0 e in
      let w = (needed_iff rec (terminator_of (columns 48 49 rec)) (eqb (byte_in 83 rec) (code "B")) (byte_in 83 rec ≡ code "B") is_b).0 n in
      record {
        content = c;
        fix = g.0;
        navaid = g.1.0;
        centre_fix = g.1.1.0;
        needs = λ t h. subst (λ (u : Terminator). NeededFields u rec) (ap terminator_of h ∙ (row_of t).its_name) w.0;
        both = w.1;
      }

  leg_from : LegalLeg rec → (companion_column rec ≡ 0) × (needed_column rec ≡ 0)
  unfolding needed_column
  leg_from l = (
    (companions_iff rec).1 (l.fix, (l.navaid, (l.centre_fix, tt))),
    (needed_iff rec (terminator_of (columns 48 49 rec)) (eqb (byte_in 83 rec) (code "B")) (byte_in 83 rec ≡ code "B") is_b).1
        (l.needs (terminator_of (columns 48 49 rec)) (named_back (columns 48 49 rec) l.content.leg.terminator), l.both),
  )

  -- whichever column stage 3 answers
  module _ (column : ℕ) (content : (column ≡ 0) ↔ Content rec) (place : ℕ) where
    by_column : (judged_by column place rec ≡ Accepted) ↔ Legal rec
    unfolding judged_leg
    by_column = (to, from)
      where
        to : judged_by column place rec ≡ Accepted → Legal rec
        to e =
            let s = (stage_iff column (field_content place) (by_kind (kind_of rec) (judged_leg place rec))).0 e in
            by (content.0 s.0) s.1
          where
            by : Content rec → by_kind (kind_of rec) (judged_leg place rec) ≡ Accepted → Legal rec
            by (inl c) q =
                let j : judged_leg place rec ≡ Accepted = rw (primary_kind rec c) at q in
                let s4 = (stage_iff (companion_column rec) (companion_blank place) (stage (needed_column rec) (needed_blank place) Accepted)).0 j in
                inl (leg_to c s4.0 ((stage_iff (needed_column rec) (needed_blank place) Accepted).0 s4.1).0)
            by (inr c) q = inr c

        from : Legal rec → judged_by column place rec ≡ Accepted
        from (inl l) =
            let z = leg_from l in
            (stage_iff column (field_content place) (by_kind (kind_of rec) (judged_leg place rec))).1 (
              content.1 (inl l.content),
              rw (primary_kind rec l.content)
                  ((stage_iff (companion_column rec) (companion_blank place) (stage (needed_column rec) (needed_blank place) Accepted)).1
                  (z.0, (stage_iff (needed_column rec) (needed_blank place) Accepted).1 (z.1, refl))),
            )
        from (inr c) =
            (stage_iff column (field_content place) (by_kind (kind_of rec) (judged_leg place rec))).1 (content.1 (inr c), rw (continuation_kind rec c))

  -- the record is accepted exactly when it is legal, whatever its place, be it read or made of parts
  pub accepted_iff : (place : ℕ) → (judged place rec ≡ Accepted) ↔ Legal rec
  unfolding judged
  accepted_iff = by_column (bad_byte rec) (byte_legal rec)

  pub parts_accepted_iff : (place : ℕ) → (judged_parts place rec ≡ Accepted) ↔ Legal rec
  unfolding judged_parts
  parts_accepted_iff = by_column (first_bad_field rec) (legal rec)
