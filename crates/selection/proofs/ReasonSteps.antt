-- The reasons once a file and a log are open: a law for each way that they are found.
-- Assumes nothing.
use Rattle.std.specs.Prelude.{Ok}
use mathlib.Core.Path.{◌≡◌, sym, ap, ap₂, ◌∙◌}
use mathlib.Core.List.{List, ◌++◌}
use Prim.Native.Nat.{ℕ, ◌+◌, ◌-◌, ◌≤◌, ◌<◌}
use native.Mathlib.Omega.{arith}
use lib.ListN.{replicate}
use Rattle.corrections.specs.declared.Entry.{Entry}
use Rattle.corrections.specs.Reading.{index_with}
use Rattle.corrections.specs.declared.Index.{Index}
use Rattle.history.specs.Sets.{Numbers}
use Rattle.applying.specs.Apply.{entries_from}
use Rattle.applying.specs.Run.{marked}
use Rattle.selection.specs.Failing.{settled_of}
use Rattle.selection.specs.Pick.{Reads, Opens, members_from, members_as, taken_of}
use Rattle.selection.specs.Reasons.{reasons_by, reasons_of, reasons_with, reasons_as, Chooses, Asked, named_with}
use Rattle.selection.specs.declared.Explained.{Explained}
use Rattle.selection.specs.declared.carry.Members.{Members}
use Rattle.selection.specs.declared.choosing.Chosen.{Chosen}
use Rattle.selection.proofs.CarryLaws.{corrections_of_lem, lines_of, members_same, all_reasons}
use Rattle.selection.proofs.ExplainLaws.{named_reasons}
use Rattle.selection.proofs.GroupLaws.{read_by_correction}
use Rattle.selection.proofs.MemberLaws.{members_few}
use Rattle.selection.specs.Reliance.{reliances}

pub marked_few : (T : Numbers) (n : ℕ) (m : Members) → n ≤ 200 → m ≡ members_as (members_from T 1 n) → m.count ≤ 200
unfolding members_as
marked_few T n m h e = omega (arith, ap (λ (x : Members). x.count) e, members_few T 1 n)

module _ (f l ws : List ℕ) (index : Index) where
  abbrev n : ℕ
  n = index.corrections

  abbrev es : List Entry
  es = entries_from index 0 index.count

  -- over what was read
  module _ (o : Opens f l index) {c : Chosen} (s : Chooses f l index ws c) where
    r : Reads l index
    r = o.0

    taken_read : (i : ℕ) → i < r.corrections → marked c.marks (1 + i) ≡ taken_of f l r.corrections r.lines ws (1 + i)
    taken_read i h =
        s.takes i (omega (arith, corrections_of_lem l index r))
        ∙ ap₂ (λ (m : ℕ) (ls : List Entry). taken_of f l m ls ws (1 + i)) (corrections_of_lem l index r) (lines_of l index r)

    relied_read : c.relied ≡ reliances f l (index_with r.corrections r.lines) 0 (index_with r.corrections r.lines).count
        ++ replicate (444 - (index_with r.corrections r.lines).count) 0
    relied_read = s.relies ∙ ap (λ (i : Index). reliances f l i 0 i.count ++ replicate (444 - i.count) 0) r.holds

    pub reasons_found : (asked : List ℕ) → Asked ws asked → {m : Members} → m ≡ members_as (members_from (marked c.marks) 1 n) → {x : Explained}
        → x ≡ named_with index c.relied c.marks asked m → Ok x ≡ reasons_as l (settled_of f l ws) (reasons_of f l ws)
    reasons_found asked a {m} e q =
        let b = read_by_correction l r.beside r.corrections r.lines r.read in
        let T = taken_of f l r.corrections r.lines ws in
        let ms : m ≡ members_as (members_from T 1 r.corrections) =
        e ∙ ap (λ (k : ℕ). members_as (members_from (marked c.marks) 1 k)) (corrections_of_lem l index r)
        ∙ ap members_as (members_same (marked c.marks) T 1 r.corrections taken_read) in
        ap Ok (q ∙ ap₂ (λ (i : Index) (rs : List ℕ). named_with i rs c.marks asked m) r.holds relied_read
        ∙ named_reasons f l r.corrections r.lines b ws c.marks asked taken_read a m ms
        ∙ ap₂ (λ (k : ℕ) (ls : List Entry). reasons_with (reasons_by f l k ls ws)) (sym (corrections_of_lem l index r)) (sym (lines_of l index r)))
        ∙ all_reasons f l ws n es o.1 s.settles
