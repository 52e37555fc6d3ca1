-- Laws of the answers: what the code has of a pick, of a new file and of a log's verdict is what the definitions say.
-- Assumes nothing.
use Rattle.std.specs.Prelude.{Result, Ok, Err, IsOk}
use Rattle.refusals.specs.Table.{Verdict, Accepted, Refused}
use mathlib.Core.Path.{◌≡◌, refl, sym, ap, subst, ◌∙◌}
use mathlib.Core.Bool.{false≢true}
use mathlib.Core.List.{List, [], ◌∷◌, ◌++◌, map}
use Prim.Native.Nat.{ℕ, ◌-◌, ◌*◌, ◌≤◌}
use native.Mathlib.Omega.{arith}
use lib.ListN.{length, take, replicate, length-append, length-map}
use lib.Seq.{take_at, length-take-le}
use borrow.Author.Tests.{le-ltb}
use Rattle.slices.specs.Part.{padded}
use Rattle.refusals.proofs.VerdictLaws.{never, same_refusal}
use Rattle.columns.specs.Patterns.{codes}
use Rattle.refusals.specs.declared.Refusal.{Refusal}
use Rattle.wanted.specs.Numbers.{numbers_in, wanted_as, wanted_of}
use Rattle.wanted.specs.declared.Wanted.{Wanted}
use Rattle.routes.specs.Legal.{lines}
use Rattle.routes.specs.Sources.{record_at, records, sources_of, sources_for}
use Rattle.routes.specs.declared.Sources.{Sources}
use Rattle.routes.proofs.Lines.{length_lines}
use Rattle.corrections.specs.Reading.{Reading, refused, said, read_log, index_of, index_with}
use Rattle.corrections.specs.declared.Index.{Index}
use Rattle.routes.proofs.SourceLaws.{own_count}
use Rattle.selection.specs.Pick.{Pick, refused_by, picked, log_verdict, pick_of, file_pick, new_records, new_bytes, picked_as}
use Rattle.selection.specs.declared.Picked.{Picked}
use Rattle.corrections.specs.Text.{LegalLog}
use Rattle.corrections.proofs.Legality.{accepted_iff}
use Rattle.selection.proofs.Demand.{log_runs, picked_demand}
use Rattle.answers.specs.Answers.{no_line, count_line, take_lines, pick_text, file_text, correction_count, check_answer, pick_answer, newfile_answer, picked_text}

-- ---- the wanted numbers

module _ (text : List ℕ) {w : Wanted} (e : w ≡ wanted_of text) where
  pub wanted_within : w.count ≤ length w.at
  unfolding wanted_of wanted_as
  wanted_within = rw e (omega (arith, length-append (numbers_in 200 text) (replicate (201 - length (numbers_in 200 text)) 0)))

  pub wanted_numbers : take w.count w.at ≡ numbers_in 200 text
  unfolding wanted_of wanted_as
  wanted_numbers = rw e (take_at (numbers_in 200 text) (replicate (201 - length (numbers_in 200 text)) 0) (length (numbers_in 200 text)) refl)

  pub wanted_counted : w.count ≡ length (take w.count w.at)
  wanted_counted = sym (length-take-le w.count w.at wanted_within)

-- ---- a pick

picked_text_lem : (x : Pick) → picked_text (picked_as x) ≡ pick_text x
unfolding picked_text picked_as pick_text sources_for
picked_text_lem (refused_by r) = refl
picked_text_lem (picked ns xs) =
    ap (λ (l : List ℕ). count_line (codes "pick") (length ns) (length xs) ++ take_lines l) (take_at ns (replicate (200 - length ns) 0) (length ns) refl)

module _ (f l want ws : List ℕ) (q : ws ≡ numbers_in 200 want) {p : Picked} (e : p ≡ picked_as (pick_of f l ws)) where
  pub taken_within : p.count ≤ 200
  unfolding picked_as
  taken_within = subst (λ (x : Picked). x.count ≤ 200) (sym e) (by (pick_of f l ws) refl)
    where
      by : (x : Pick) → pick_of f l ws ≡ x → (picked_as x).count ≤ 200
      by (refused_by r) z = omega arith
      by (picked ns xs) z = (picked_demand f l ws ns xs z).taken_at_most

  pub pick_text_lem : picked_text p ≡ pick_answer f l want
  unfolding pick_answer
  pick_text_lem = ap picked_text e ∙ picked_text_lem (pick_of f l ws) ∙ ap (λ (ns : List ℕ). pick_text (pick_of f l ns)) q

-- ---- a new file

module _ (f l want ws : List ℕ) (n : ℕ) (room : 63840 ≤ n) (q : ws ≡ numbers_in 200 want) {p : Picked} {out : List ℕ}
    (e : (p ≡ picked_as (file_pick f l n ws)) × (out ≡ padded n (new_bytes f l (file_pick f l n ws)))) where
  -- enough is lent, so it is a pick as any other
  lent_pick : file_pick f l n ws ≡ pick_of f l ws
  unfolding file_pick
  lent_pick = rw (le-ltb n 63840 room)

  file_pick_lem : p ≡ picked_as (pick_of f l ws)
  file_pick_lem = e.0 ∙ ap picked_as lent_pick

  file_out : out ≡ padded n (new_bytes f l (pick_of f l ws))
  file_out = e.1 ∙ ap (λ (x : Pick). padded n (new_bytes f l x)) lent_pick

  same_answer : file_text f l (pick_of f l ws) ≡ newfile_answer f l want
  unfolding newfile_answer
  same_answer = ap (λ (ns : List ℕ). file_text f l (pick_of f l ns)) q

  pub file_few : p.records.count ≤ 480
  unfolding picked_as sources_for
  file_few = subst (λ (x : Picked). x.records.count ≤ 480) (sym file_pick_lem) (by (pick_of f l ws) refl)
    where
      by : (x : Pick) → pick_of f l ws ≡ x → (picked_as x).records.count ≤ 480
      by (refused_by r) z = omega arith
      by (picked ns xs) z = (picked_demand f l ws ns xs z).at_most

  pub file_answered : p.verdict ≡ Accepted → (p.records.count * 133 ≡ length (newfile_answer f l want)) × (out ≡ padded n (newfile_answer f l want))
  unfolding picked_as file_text sources_for new_bytes new_records
  file_answered a =
      subst (λ (t : List ℕ). (p.records.count * 133 ≡ length t) × (out ≡ padded n t)) same_answer (by (pick_of f l ws) refl file_pick_lem file_out)
    where
      by : (x : Pick) → pick_of f l ws ≡ x → p ≡ picked_as x → out ≡ padded n (new_bytes f l x)
          → (p.records.count * 133 ≡ length (file_text f l x)) × (out ≡ padded n (file_text f l x))
      by (refused_by r) z c o = absurd (never (sym (ap (λ (x : Picked). x.verdict) c) ∙ a))
      by (picked ns xs) z c o =
          let d = picked_demand f l ws ns xs z in
          let k : length (new_bytes f l (picked ns xs)) ≡ length xs * 133 = omega (arith, length_lines (map (record_at f l) xs) d.wide, length-map xs (record_at f l)) in
          (ap (λ (x : Picked). x.records.count * 133) c ∙ sym k, o)

  -- on a refusal the buffer is clear for its line
  module _ {r : Refusal} (a : p.verdict ≡ Refused r) where
    pub refused_text : no_line r ≡ newfile_answer f l want
    unfolding picked_as file_text
    refused_text = by (pick_of f l ws) file_pick_lem ∙ same_answer
      where
        by : (x : Pick) → p ≡ picked_as x → no_line r ≡ file_text f l x
        by (refused_by s) c = ap no_line (same_refusal (sym a ∙ ap (λ (x : Picked). x.verdict) c))
        by (picked ns xs) c = absurd (never (sym a ∙ ap (λ (x : Picked). x.verdict) c))

    pub refused_clear : out ≡ replicate n 0
    unfolding picked_as new_bytes new_records lines
    refused_clear = by (pick_of f l ws) file_pick_lem file_out
      where
        by : (x : Pick) → p ≡ picked_as x → out ≡ padded n (new_bytes f l x) → out ≡ replicate n 0
        by (refused_by s) c o = let z : n - 0 ≡ n = omega arith in o ∙ rw z
        by (picked ns xs) c o = absurd (never (sym a ∙ ap (λ (x : Picked). x.verdict) c))

-- ---- a log

-- the word as the code has it
pub ok_line : (a b : ℕ) → count_line (111 ∷ 107 ∷ []) a b ≡ count_line (codes "ok") a b
unfolding codes
ok_line a b = refl

count_said : (r : Reading) {i : Index} → index_of r ≡ Ok i → i.corrections ≡ correction_count r
unfolding index_of index_with
count_said (refused r) e = let z : ◌≡◌ {A = ℕ} 0 1 = cc in absurd (omega arith)
count_said (said n es) {i} e = let same : index_with n es ≡ i = cc in sym (ap (λ (x : Index). x.corrections) same)

module _ (f l : List ℕ) {v : Verdict} (e : v ≡ log_verdict f l) where
  module _ (a : v ≡ Accepted) {s : Sources} (p : s ≡ sources_of f) where
    beside : s.count ≡ length (records f)
    beside = (own_count f p).0

    pub check_accepted : {i : Index} → index_of (read_log l s.count) ≡ Ok i → count_line (codes "ok") s.count i.corrections ≡ check_answer f l
    unfolding check_answer
    check_accepted {i} q =
        let n : i.corrections ≡ correction_count (read_log l (length (records f))) = count_said (read_log l s.count) q ∙ ap (λ (k : ℕ). correction_count (read_log l k)) beside in
        rw (sym e ∙ a, beside, n)

    -- a log that is accepted over the file is read
    pub check_read : {r : Refusal} → index_of (read_log l s.count) ≡ Err r → no_line r ≡ check_answer f l
    check_read {r} q =
        let legal : LegalLog l (length (records f)) = ((log_runs f l).0 (sym e ∙ a)).1 in
        let fine : IsOk (index_of (read_log l (length (records f)))) = (accepted_iff l (length (records f))).1 legal in
        let unread : Result Index Refusal = Err r in
        let never_read : IsOk unread = subst IsOk (ap (λ (k : ℕ). index_of (read_log l k)) (sym beside) ∙ q) fine in
        absurd (false≢true never_read)

  pub check_refused : {r : Refusal} → v ≡ Refused r → no_line r ≡ check_answer f l
  unfolding check_answer
  check_refused a = rw (sym e ∙ a)
