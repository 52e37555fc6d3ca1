-- Each answer is the first in its order that refuses: of a record read alone, of parts written, of a file, of a log over its frozen file, of a
-- pick, and of a pick whose file is written.
-- Assumes nothing.
use Rattle.std.specs.Prelude.{Ok, Err}
use mathlib.Core.Path.{◌≡◌, refl, sym, ap, subst, ◌∙◌}
use mathlib.Core.Logic.Iff
use mathlib.Core.Logic.{◌↔◌}
use mathlib.Core.Bool.{Bool, true, false, ◌&&◌, ◌||◌, false≢true}
use mathlib.Core.List.{List, [], ◌∷◌, ◌++◌, map}
use mathlib.Core.Option.{Option, none, some}
use Prim.Native.Nat.{ℕ, ◌+◌, ◌≤◌}
use native.Mathlib.Omega.{arith}
use lib.Dec.{eqb, ltb}
use borrow.Author.Tests.{eq-eqb, ne_eqb, eqb-true, eqb-false, lt-ltb, ltb-true}
use Rattle.slices.proofs.Cases.{split, or_iff}
use Rattle.refusals.specs.Table.{cut_short, field_content, companion_blank, needed_blank, Verdict, Accepted, Refused}
use Rattle.refusals.specs.declared.Refusal.{Refusal}
use Rattle.refusals.proofs.VerdictLaws.{never, same_refusal}
use Rattle.slices.specs.Part.{blank}
use Rattle.columns.specs.Rows.{Leftmost}
use Rattle.columns.specs.Fields.{field, bytes_in}
use Rattle.columns.specs.declared.field.Field.{Field}
use Rattle.columns.specs.Kinds.{kind_of, layout_of, first_bad_field, bad_byte}
use Rattle.columns.specs.declared.Kind.{Kind}
use Rattle.columns.specs.declared.Kind.TheVariants as kind
use Rattle.columns.specs.Words.{BadAt}
use Rattle.columns.proofs.RowLaws.{leftmost_iff}
use Rattle.columns.proofs.BadByte.{no_legal_record}
use Rattle.leg.specs.Stages.{odd_one, companion_column, needable, missing, needed_of, needed_column}
use Rattle.leg.specs.declared.stages.Needable.{Needable}
use Rattle.leg.specs.Judge.{stage, judged_leg, by_kind, judged_by, judged, judged_parts}
use Rattle.parts.specs.Record.{alone, reading_of, verdict_of, writing, size_column, columns_of}
use Rattle.parts.proofs.Theorems.{reading_verdict}
use Rattle.routes.specs.InTurn.{in_turn}
use Rattle.routes.specs.Places.{Every}
use Rattle.routes.specs.First.{First}
use Rattle.routes.specs.Files.{file_verdict}
use Rattle.routes.specs.Sources.{in_use, sources_of}
use Rattle.routes.proofs.InTurnLaws as turns
use Rattle.routes.proofs.FirstLaws.{first_iff, file_refuses}
use Rattle.corrections.specs.declared.Entry.{Entry}
use Rattle.corrections.specs.Reading.{Reading, refused, said}
use Rattle.applying.specs.Apply.{lines_applied, fails_at, touched_judged, refused_route}
use Rattle.applying.specs.Correct.{Outcome, stopped, reached, corrected, corrected_by, after_lines, after_judging}
use Rattle.applying.specs.Run.{by_correction, ran, ran_by, onward}
use Rattle.selection.specs.Pick.{length_stage, if_accepted, opened, wanted_stage, everything, Pick, refused_by, picked, judged_first, ran_first, outcome_verdict, carried, log_judged, log_verdict, pick_from, pick_of, file_pick}
use Rattle.selection.proofs.OpenedLaws.{said_opening}
use Rattle.selection.proofs.PickSteps.{whole_picks}
use Rattle.selection.proofs.Answers.{picked_not_refused}
use Rattle.answers.specs.Answers.{answered}
use Rattle.answers.proofs.Lengths.{never_both}
use Rattle.statements.specs.Order.{record_order, companion_order, needed_stage, needed_order, read_order, room_stage, write_order, file_order, lines_stage, numbers_stage, corrections_stage, reading, check_order, pick_order, new_file_order, NotInLog, FirstWanted, at, behind, FirstCorrection, unapplied, route}

-- ---- verdicts in turn

-- some verdicts in front of others are one verdict in front of them
in_turn_front : (vs ws : List Verdict) → in_turn (vs ++ ws) ≡ in_turn (in_turn vs ∷ ws)
unfolding in_turn
in_turn_front [] ws = refl
in_turn_front (Ok _ ∷ vs) ws = in_turn_front vs ws
in_turn_front (Err r ∷ vs) ws = refl

in_turn_next : (v : Verdict) (us ws : List Verdict) → in_turn us ≡ in_turn ws → in_turn (v ∷ us) ≡ in_turn (v ∷ ws)
unfolding in_turn
in_turn_next (Ok _) us ws e = e
in_turn_next (Err r) us ws e = refl

-- a stage with others behind it
stage_turn : (c : ℕ) (f : ℕ → Refusal) (vs : List Verdict) → stage c f (in_turn vs) ≡ in_turn (stage c f Accepted ∷ vs)
unfolding stage in_turn
stage_turn c f vs = split (eqb c 0) (λ e. rw e) (λ e. rw e)

-- a verdict that is the first of an order is refused exactly by the first of it
by_order : {v : Verdict} (vs : List Verdict) → v ≡ in_turn vs → (r : Refusal) → (v ≡ Refused r) ↔ First r vs
by_order vs e r = subst (λ (x : Verdict). (x ≡ Refused r) ↔ First r vs) (sym e) (first_iff r vs)

same_refused : {r s : Refusal} → refused_by r ≡ refused_by s → r ≡ s
same_refused e = cc

-- ---- a record

judged_order : (bad place : ℕ) (rec : List ℕ) → judged_by bad place rec ≡ in_turn (record_order bad place rec)
unfolding judged_leg in_turn
judged_order bad place rec =
    ap (stage bad (field_content place)) (by (kind_of rec))
    ∙ stage_turn bad (field_content place) (by_kind (kind_of rec) companions ∷ by_kind (kind_of rec) needed ∷ [])
  where
    companions : Verdict
    companions = stage (companion_column rec) (companion_blank place) Accepted

    needed : Verdict
    needed = stage (needed_column rec) (needed_blank place) Accepted

    by : (k : Kind) → by_kind k (judged_leg place rec) ≡ in_turn (by_kind k companions ∷ by_kind k needed ∷ [])
    by kind.Primary =
        ap (stage (companion_column rec) (companion_blank place)) (sym (turns.alone needed)) ∙ stage_turn (companion_column rec) (companion_blank place) (needed ∷ [])
    by kind.Continuation = refl

-- Stage 3 refuses exactly at the column that it finds, whatever is said of that one
content_refuses : (bad : ℕ) (P : ℕ → Type 0) → ((c : ℕ) → 1 ≤ c → (bad ≡ c) ↔ P c) → (place : ℕ) (r : Refusal)
    → (stage bad (field_content place) Accepted ≡ Refused r) ↔ ((c : ℕ) × (1 ≤ c) × (r ≡ field_content place c) × P c)
unfolding stage
content_refuses bad P found place r = (
  λ e.
      split (eqb bad 0) (λ z. absurd (never (sym (rw z at e))))
      (λ z. let k : 1 ≤ bad = omega (arith, eqb-false bad 0 z) in (bad, k, sym (same_refusal (rw z at e)), (found bad k).0 refl)),
  λ (c, k, e, p).
      let q : bad ≡ c = (found c k).1 p in
      rw (q, ne_eqb c 0 (λ (z : c ≡ 0). omega arith), e),
)

-- Of a record that is read: at the column that is bad.
pub byte_refuses : (place : ℕ) (rec : List ℕ) (r : Refusal) → (stage (bad_byte rec) (field_content place) Accepted ≡ Refused r)
    ↔ ((c : ℕ) × (1 ≤ c) × (r ≡ field_content place c) × BadAt rec c)
byte_refuses place rec = content_refuses (bad_byte rec) (BadAt rec) (no_legal_record rec) place

-- Of a record that parts make: at the first column of the leftmost field that holds nothing legal.
pub field_refuses : (place : ℕ) (rec : List ℕ) (r : Refusal) → (stage (first_bad_field rec) (field_content place) Accepted ≡ Refused r)
    ↔ ((c : ℕ) × (1 ≤ c) × (r ≡ field_content place c) × Leftmost rec c (layout_of (kind_of rec)))
unfolding first_bad_field
field_refuses place rec = content_refuses (first_bad_field rec) (λ c. Leftmost rec c (layout_of (kind_of rec))) (leftmost_iff (layout_of (kind_of rec)) rec) place

-- a group of companions in front of others
odd_front : (f g h : Field) (rec : List ℕ) (rest : ℕ) → eqb f.0 0 ≡ false → eqb g.0 0 ≡ false → eqb h.0 0 ≡ false
    → (r : ℕ → Refusal) → stage (odd_one f g h rec rest) r Accepted ≡ in_turn (stage (odd_one f g h rec 0) r Accepted ∷ stage rest r Accepted ∷ [])
unfolding odd_one stage in_turn
odd_front f g h rec rest a b c r =
    split (blank (bytes_in f rec) && (blank (bytes_in g rec) && blank (bytes_in h rec))) (λ t. rw t (sym (turns.alone _)))
    (λ t.
    split (blank (bytes_in f rec)) (λ u. rw (t, u, a))
    (λ u.
    split (blank (bytes_in g rec)) (λ v. rw (t, u, v, b))
    (λ v.
    split (blank (bytes_in h rec)) (λ w. rw (t, u, v, w, c)) (λ w. rw (t, u, v, w) (sym (turns.alone _))))))

-- Stage 4 refuses exactly by the first blank companion of the first group that has one and is not all blank.
pub companions_refuse : (place : ℕ) (rec : List ℕ) (r : Refusal) → (stage (companion_column rec) (companion_blank place) Accepted ≡ Refused r)
    ↔ First r (companion_order place rec)
unfolding companion_column
companions_refuse place rec =
    by_order (companion_order place rec)
    (odd_front (field 30 34) (field 35 36) (field 37 37) rec (odd_one (field 51 54) (field 55 56) (field 79 79) rec centre) refl refl refl refused
    ∙ ap (λ (v : Verdict). in_turn (stage (odd_one (field 30 34) (field 35 36) (field 37 37) rec 0) refused Accepted ∷ v ∷ []))
    (odd_front (field 51 54) (field 55 56) (field 79 79) rec centre refl refl refl refused)
    ∙ turns.in_turn_cons _ _)
  where
    refused : ℕ → Refusal
    refused = companion_blank place

    centre : ℕ
    centre = odd_one (field 107 111) (field 113 114) (field 115 115) rec 0

-- a needed field in front of others
missing_order : (place : ℕ) (rec : List ℕ) (asked : ℕ → Bool) (ns : List Needable) → Every (λ n. eqb n.1.0 0 ≡ false) ns
    → stage (missing asked ns rec) (needed_blank place) Accepted ≡ in_turn (map (needed_stage place rec asked) ns)
unfolding missing stage in_turn
missing_order place rec asked [] e = refl
missing_order place rec asked (n ∷ ns) e =
    split (asked n.0 && blank (bytes_in n.1 rec)) (λ t. rw (t, e.0)) (λ t. rw t (missing_order place rec asked ns e.1))

-- Stage 5 refuses exactly by the leftmost field that the leg needs and that is blank.
pub needed_refuses : (place : ℕ) (rec : List ℕ) (r : Refusal) → (stage (needed_column rec) (needed_blank place) Accepted ≡ Refused r)
    ↔ First r (needed_order place rec)
unfolding needed_column needed_of
needed_refuses place rec =
    by_order (needed_order place rec)
    (missing_order place rec _ needable (refl, (refl, (refl, (refl, (refl, (refl, (refl, (refl, (refl, (refl, (refl, tt))))))))))))

-- A record read alone is refused exactly by the first in its order.
pub read_first : (s : List ℕ) (r : Refusal) → (verdict_of (reading_of s) ≡ Refused r) ↔ First r (read_order s)
unfolding alone judged
read_first s = by_order (read_order s) (reading_verdict s ∙ alone_order)
  where
    alone_order : alone s ≡ in_turn (read_order s)
    alone_order = ap (stage (size_column s) (cut_short 1)) (judged_order (bad_byte (columns_of s)) 1 (columns_of s)) ∙ stage_turn (size_column s) (cut_short 1) (record_order (bad_byte (columns_of s)) 1 (columns_of s))

-- What parts make is written, or refused by the first in its order.
pub write_first : (lent : ℕ) (rec : List ℕ) (r : Refusal) → (writing lent rec ≡ Refused r) ↔ First r (write_order lent rec)
unfolding writing judged_parts room_stage in_turn
write_first lent rec = by_order (write_order lent rec) writing_order
  where
    writing_order : writing lent rec ≡ in_turn (write_order lent rec)
    writing_order = split (ltb lent 133) (λ t. rw t) (λ t. rw t (judged_order (first_bad_field rec) 0 rec))

-- ---- a file

pub file_first : (f : List ℕ) (r : Refusal) → (file_verdict f ≡ Refused r) ↔ First r (file_order f)
file_first f r = file_refuses r f

-- ---- a log

module _ (frozen log : List ℕ) where
  -- the file's stages as one
  in_front : (vs : List Verdict) → in_turn (length_stage log ∷ (file_order frozen ++ vs)) ≡ in_turn (length_stage log ∷ file_verdict frozen ∷ vs)
  unfolding file_verdict
  in_front vs = in_turn_next (length_stage log) (file_order frozen ++ vs) (file_verdict frozen ∷ vs) (in_turn_front (file_order frozen) vs)

  log_turn : (u v : Verdict) (read : Reading)
      → log_judged frozen log (if_accepted (in_turn (u ∷ v ∷ [])) read) ≡ in_turn (u ∷ v ∷ lines_stage read ∷ corrections_stage frozen log read ∷ [])
  unfolding in_turn
  log_turn (Err r) v read = refl
  log_turn (Ok _) (Err r) read = refl
  log_turn (Ok _) (Ok _) (refused r) = refl
  log_turn (Ok _) (Ok _) (said n es) = sym (turns.alone (outcome_verdict (carried frozen log everything n es)))

  -- A log is refused over its frozen file exactly by the first in the order.
  pub check_first : (r : Refusal) → (log_verdict frozen log ≡ Refused r) ↔ First r (check_order frozen log)
  unfolding log_verdict opened
  check_first = by_order (check_order frozen log) order
    where
      order : log_verdict frozen log ≡ in_turn (check_order frozen log)
      order =
          log_turn (length_stage log) (file_verdict frozen) (reading frozen log)
          ∙ sym (in_front (lines_stage (reading frozen log) ∷ corrections_stage frozen log (reading frozen log) ∷ []))

  -- ---- a pick

  module _ (ws : List ℕ) where
    -- the stages of a pick, the file's as one
    stages : (u v : Verdict) → Reading → List Verdict
    stages u v read = u ∷ v ∷ lines_stage read ∷ numbers_stage ws read ∷ corrections_stage frozen log read ∷ []

    both_turn : (v : Verdict) (o : Outcome) (next : List ℕ → Pick) (r : Refusal) → in_turn (v ∷ outcome_verdict o ∷ []) ≡ Refused r
        → judged_first v (ran_first o next) ≡ refused_by r
    unfolding in_turn
    both_turn (Err s) o next r e = ap refused_by (same_refusal e)
    both_turn (Ok _) (stopped s w) next r e = ap refused_by (same_refusal e)
    both_turn (Ok _) (reached xs) next r e = absurd (never (sym e))

    -- the first that refuses is what the pick is refused by
    stage_refuses : (u v : Verdict) (read : Reading) (r : Refusal) → in_turn (stages u v read) ≡ Refused r
        → pick_from frozen log ws (if_accepted (in_turn (u ∷ v ∷ [])) read) ≡ refused_by r
    unfolding in_turn stages
    stage_refuses (Err s) v read r e = ap refused_by (same_refusal e)
    stage_refuses (Ok _) (Err s) read r e = ap refused_by (same_refusal e)
    stage_refuses (Ok _) (Ok _) (refused s) r e = ap refused_by (same_refusal e)
    stage_refuses (Ok _) (Ok _) (said n es) r e = both_turn (wanted_stage n 1 ws) (carried frozen log everything n es) _ r e

    pick_turn : (r : Refusal) → in_turn (pick_order frozen log ws) ≡ Refused r → pick_of frozen log ws ≡ refused_by r
    unfolding pick_of opened stages
    pick_turn r e = stage_refuses (length_stage log) (file_verdict frozen) (reading frozen log) r (sym (in_front _) ∙ e)

    -- where none refuses, the log was read, the wanted numbers pass and all its corrections apply
    record Passes (u v : Verdict) (read : Reading) : Type 0 where
      pub count : ℕ
      pub entries : List Entry
      pub opens : if_accepted (in_turn (u ∷ v ∷ [])) read ≡ said count entries
      pub numbers : wanted_stage count 1 ws ≡ Accepted
      pub last : List ℕ
      pub all : carried frozen log everything count entries ≡ reached last

    both_pass : (v : Verdict) (o : Outcome) → in_turn (v ∷ outcome_verdict o ∷ []) ≡ Accepted → (v ≡ Accepted) × (xs : List ℕ) × (o ≡ reached xs)
    unfolding in_turn
    both_pass (Err s) o e = absurd (never e)
    both_pass (Ok _) (stopped s w) e = absurd (never e)
    both_pass (Ok _) (reached xs) e = (refl, xs, refl)

    stages_pass : (u v : Verdict) (read : Reading) → in_turn (stages u v read) ≡ Accepted → Passes u v read
    unfolding in_turn stages
    stages_pass (Err s) v read e = absurd (never e)
    stages_pass (Ok _) (Err s) read e = absurd (never e)
    stages_pass (Ok _) (Ok _) (refused s) e = absurd (never e)
    stages_pass (Ok _) (Ok _) (said n es) e =
        let (w, xs, all) = both_pass (wanted_stage n 1 ws) (carried frozen log everything n es) e in
        record { count = n; entries = es; opens = refl; numbers = w; last = xs; all = all }

    -- and then there is a pick: the corrections taken, run by themselves, are never refused
    pick_passes : in_turn (pick_order frozen log ws) ≡ Accepted → (taken : List ℕ) × (sources : List ℕ) × (pick_of frozen log ws ≡ picked taken sources)
    unfolding opened stages
    pick_passes e =
        let p = stages_pass (length_stage log) (file_verdict frozen) (reading frozen log) (sym (in_front _) ∙ e) in
        let q : opened frozen log ≡ said p.count p.entries = p.opens in
        whole_picks frozen log ws
        (record { opening = said_opening frozen log p.count p.entries q; last = p.last; all = p.all }) q p.numbers

    in_order_lem : (r : Refusal) → (pick_of frozen log ws ≡ refused_by r) ↔ (in_turn (pick_order frozen log ws) ≡ Refused r)
    in_order_lem r = (λ e. by (in_turn (pick_order frozen log ws)) refl e, pick_turn r)
      where
        by : (v : Verdict) → in_turn (pick_order frozen log ws) ≡ v → pick_of frozen log ws ≡ refused_by r → in_turn (pick_order frozen log ws) ≡ Refused r
        by (Ok _) t e = let (ns, xs, q) = pick_passes t in absurd (picked_not_refused (sym e ∙ q))
        by (Err s) t e = t ∙ ap Refused (same_refused (sym (pick_turn s t) ∙ e))

    -- A pick is refused exactly by the first in the order.
    pub pick_first : (r : Refusal) → (pick_of frozen log ws ≡ refused_by r) ↔ First r (pick_order frozen log ws)
    pick_first r = Iff.trans (in_order_lem r) (first_iff r (pick_order frozen log ws))

    -- .. and so is one whose file is written.
    pub new_file_first : (lent : ℕ) (r : Refusal) → (file_pick frozen log lent ws ≡ refused_by r) ↔ First r (new_file_order frozen log lent ws)
    unfolding file_pick room_stage in_turn
    new_file_first lent r =
        Iff.trans
        (split (ltb lent 63840) (λ t. rw t (λ e. ap Refused (same_refused e), λ e. ap refused_by (same_refusal e))) (λ t. rw t (in_order_lem r)))
        (first_iff r (new_file_order frozen log lent ws))

-- An answer of the programs is refused exactly where fewer bytes are lent than the longest one needs; a refused pick is an answer like any other.
pub answer_first : (longest lent : ℕ) (answer : List ℕ) (r : Refusal)
    → (answered longest lent answer ≡ Err r) ↔ First r (room_stage longest lent ∷ [])
unfolding answered room_stage in_turn
answer_first longest lent answer r = Iff.trans given (first_iff r (room_stage longest lent ∷ []))
  where
    given : (answered longest lent answer ≡ Err r) ↔ (in_turn (room_stage longest lent ∷ []) ≡ Refused r)
    given = split (ltb lent longest) (λ t. rw t (λ e. cc, λ e. cc)) (λ t. rw t (λ e. absurd (never_both e), λ e. absurd (never (sym e))))

-- ---- the stages of a pick that look at many things

not_in_log_lem : (n w : ℕ) → ((eqb w 0 || ltb n w) ≡ true) ↔ NotInLog n w
not_in_log_lem n w = or_iff (eqb w 0) (ltb n w) (eqb-true w 0, eq-eqb w 0) (ltb-true n w, lt-ltb n w)

wanted_to : (n i : ℕ) (ws : List ℕ) (r : Refusal) → wanted_stage n i ws ≡ Refused r → FirstWanted n i ws r
unfolding wanted_stage
wanted_to n i [] r e = absurd (never (sym e))
wanted_to n i (w ∷ ws) r e =
    split (eqb w 0 || ltb n w)
    (λ t. subst (FirstWanted n i (w ∷ ws)) (same_refusal (rw t at e)) (at ((not_in_log_lem n w).0 t)))
    (λ t. behind (λ b. false≢true (sym t ∙ (not_in_log_lem n w).1 b)) (wanted_to n (i + 1) ws r (rw t at e)))

wanted_from : {n i : ℕ} {ws : List ℕ} {r : Refusal} → FirstWanted n i ws r → wanted_stage n i ws ≡ Refused r
unfolding wanted_stage
wanted_from {n} (at {w = w} b) = rw ((not_in_log_lem n w).1 b)
wanted_from {n} (behind {w = w} b f) =
    split (eqb w 0 || ltb n w) (λ t. absurd (b ((not_in_log_lem n w).0 t))) (λ t. rw t (wanted_from f))

-- Wanted numbers are refused exactly by 12 at the first of them that is in no log of n corrections.
pub wanted_refuses : (n i : ℕ) (ws : List ℕ) (r : Refusal) → (wanted_stage n i ws ≡ Refused r) ↔ FirstWanted n i ws r
wanted_refuses n i ws r = (wanted_to n i ws r, wanted_from)

-- all of some corrections, from number n on
module _ (frozen log : List ℕ) where
  all_run : (n : ℕ) → List (List Entry) → List ℕ → Verdict
  all_run n ess xs = outcome_verdict (ran frozen log everything n ess xs)

  -- one correction, and what those behind it come to
  one_to : (n : ℕ) (es : List Entry) (ess : List (List Entry)) (xs : List ℕ) (r : Refusal)
      → ((ys : List ℕ) → all_run (n + 1) ess ys ≡ Refused r → FirstCorrection frozen log (n + 1) ess ys r)
      → outcome_verdict (onward (corrected frozen log n es xs) (ran frozen log everything (n + 1) ess)) ≡ Refused r
      → FirstCorrection frozen log n (es ∷ ess) xs r
  unfolding all_run corrected_by
  one_to n es ess xs r rest = applied (lines_applied frozen log es xs) refl
    where
      routes : (ys : List ℕ) → lines_applied frozen log es xs ≡ some ys → (v : Verdict) → touched_judged frozen log es 0 ys ≡ v
          → outcome_verdict (onward (after_judging n ys (refused_route frozen log es 0 ys) v) (ran frozen log everything (n + 1) ess)) ≡ Refused r
          → FirstCorrection frozen log n (es ∷ ess) xs r
      routes ys q (Ok _) t h = behind q t (rest ys h)
      routes ys q (Err s) t h = subst (FirstCorrection frozen log n (es ∷ ess) xs) (same_refusal h) (route q t)

      applied : (o : Option (List ℕ)) → lines_applied frozen log es xs ≡ o
          → outcome_verdict (onward (after_lines frozen log true n es (fails_at frozen log es xs) o) (ran frozen log everything (n + 1) ess)) ≡ Refused r
          → FirstCorrection frozen log n (es ∷ ess) xs r
      applied none q h = subst (FirstCorrection frozen log n (es ∷ ess) xs) (same_refusal h) (unapplied q)
      applied (some ys) q h = routes ys q (touched_judged frozen log es 0 ys) refl h

  run_to_lem : (n : ℕ) (ess : List (List Entry)) (xs : List ℕ) (r : Refusal) → all_run n ess xs ≡ Refused r → FirstCorrection frozen log n ess xs r
  unfolding all_run ran_by
  run_to_lem n [] xs r e = absurd (never (sym e))
  run_to_lem n (es ∷ ess) xs r e = one_to n es ess xs r (λ ys h. run_to_lem (n + 1) ess ys r h) e

  run_from : {n : ℕ} {ess : List (List Entry)} {xs : List ℕ} {r : Refusal} → FirstCorrection frozen log n ess xs r → all_run n ess xs ≡ Refused r
  unfolding all_run ran_by corrected_by
  run_from (unapplied q) = rw q
  run_from (route q t) = rw (q, t)
  run_from (behind q t f) = rw (q, t) (run_from f)

  -- The corrections of a log are refused exactly by the first that fails over what those before it left.
  pub corrections_refuse : (n : ℕ) (es : List Entry) (r : Refusal) → (outcome_verdict (carried frozen log everything n es) ≡ Refused r)
      ↔ FirstCorrection frozen log 1 (by_correction 1 n es) (in_use (sources_of frozen)) r
  unfolding carried all_run
  corrections_refuse n es r = (run_to_lem 1 (by_correction 1 n es) (in_use (sources_of frozen)) r, run_from)
