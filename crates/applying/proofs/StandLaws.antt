-- Laws of a state and of what lies in it, as the code changes it.
-- Assumes nothing.
use mathlib.Core.Path.{◌≡◌, sym, ap, subst, ◌∙◌}
use mathlib.Core.Bool.{Bool, true, false}
use mathlib.Core.List.{List, ◌++◌, map}
use mathlib.Core.Option.{some}
use Prim.Native.Nat.{ℕ, ◌+◌, ◌-◌, ◌≤◌, ◌<◌}
use native.Mathlib.Omega.{arith}
use lib.ListN.{length, drop, replicate, set, take}
use Rattle.std.proofs.lemmas.List.{drop-replicate}
use Rattle.refusals.specs.Table.{Verdict}
use Rattle.routes.specs.Known.{Known, walked_knowing}
use Rattle.routes.specs.Walk.{walked}
use Rattle.routes.proofs.KnownLaws.{walked_known}
use lib.Seq.{paste}
use Rattle.routes.specs.Sources.{record_at, in_use, sources_in, records_in, sources_for}
use Rattle.routes.specs.declared.Sources.{Sources}
use Rattle.applying.specs.State.{put_at, left_out, InOrder, Standing, count_before, has_place, is_record, with_source, without_record}
use Rattle.applying.proofs.RisingLaws.{source_in_order, record_in_order}
use Rattle.applying.proofs.ShiftLaws.{row_put, row_out}
use Rattle.applying.proofs.StateLaws.{in_use-length, put_made, take_made, count_within, record_within_lem}

-- what a state shows
abbrev pub shown : (frozen log : List ℕ) (judging : Bool) (own : Sources) → Standing
shown f l j own = record { frozen = f; log = l; judging = j; sources = in_use own }

module _ {st : Standing} (f l : List ℕ) (j : Bool) (own : Sources) (v : shown f l j own ≡ st) where
  pub its_sources : in_use own ≡ st.sources
  its_sources = ap (λ (s : Standing). s.sources) v

  pub with_others : (xs : List ℕ) → ◌≡◌ {A = Standing} (record { frozen = f; log = l; judging = j; sources = xs }) (record st { sources = xs })
  with_others xs = ap (λ (s : Standing). record s { sources = xs }) v

  module _ (rising : Bool) (h : InOrder f l rising (in_use own)) where
    pub stays_put : (s : ℕ) (ys : List ℕ) → with_source st.frozen st.log s st.sources ≡ some ys → InOrder f l rising ys
    stays_put s ys = subst (λ (x : Standing). with_source x.frozen x.log s x.sources ≡ some ys → InOrder f l rising ys) v (λ e. source_in_order f l rising s (in_use own) ys e h)

    pub stays_out : (rec ys : List ℕ) → without_record st.frozen st.log rec st.sources ≡ some ys → InOrder f l rising ys
    stays_out rec ys = subst (λ (x : Standing). without_record x.frozen x.log rec x.sources ≡ some ys → InOrder f l rising ys) v (λ e. record_in_order f l rising rec (in_use own) ys e h)

  module _ (few : own.count ≤ 480) (long : length own.at ≡ 480) where
    pub how_many : length st.sources ≡ own.count
    how_many = ap length (sym its_sources) ∙ in_use-length own few long

    module _ (rec : List ℕ) {i : ℕ} (p : i ≡ count_before st.frozen st.log rec st.sources) where
      pub put_within : i ≤ own.count
      put_within = omega (arith, count_within st.frozen st.log rec st.sources, how_many)

      module _ {b : Bool} (q : b ≡ is_record st.frozen st.log rec (drop i st.sources)) (t : b ≡ true) where
        pub out_within : i < own.count
        out_within = let h : i < length st.sources = record_within_lem st.frozen st.log rec st.sources i (sym q ∙ t) in omega (arith, how_many)

        pub was_out : {moved : List ℕ} → moved ≡ paste own.at i (drop (i + 1) own.at) (own.count - (i + 1))
            → without_record st.frozen st.log rec st.sources ≡ some (in_use (record { count = own.count - 1; at = moved }))
        unfolding in_use
        was_out e =
            take_made st.frozen st.log rec st.sources p q t
            ∙ ap some (sym (ap (take (own.count - 1)) e ∙ row_out own.at own.count i out_within (omega arith) ∙ ap (left_out i) its_sources))

      pub was_put : (s : ℕ) → rec ≡ record_at st.frozen st.log s → {b : Bool} → b ≡ has_place st.frozen st.log rec (drop i st.sources) → b ≡ false → own.count < 480
          → {moved : List ℕ} → moved ≡ paste own.at (i + 1) (drop i own.at) (own.count - i)
          → with_source st.frozen st.log s st.sources ≡ some (in_use (record { count = own.count + 1; at = set moved i s }))
      unfolding in_use
      was_put s e q t h w =
          put_made st.frozen st.log s st.sources e p (omega (arith, how_many)) q t
          ∙ ap some (sym (ap (λ (xs : List ℕ). take (own.count + 1) (set xs i s)) w ∙ row_put own.at own.count i s put_within (omega arith) ∙ ap (put_at i s) its_sources))

-- ---- sources by themselves

pub listed_as : (xs : List ℕ) {front : List ℕ} → length xs ≤ 480 → front ≡ xs → ◌≡◌ {A = Sources} (record { count = length xs; at = front ++ drop (length xs) (replicate 480 0) }) (sources_for xs)
unfolding sources_for
listed_as xs h e = rw (e, drop-replicate)

-- ---- the judging of a route

module _ {st : Standing} (f l : List ℕ) (j : Bool) (own : Sources) (v : shown f l j own ≡ st) (from to : ℕ) {r : Verdict} where
  pub judged_all : r ≡ walked (records_in f l own from to) → r ≡ walked (map (record_at st.frozen st.log) (drop from (take to st.sources)))
  unfolding records_in
  judged_all e = e ∙ ap (λ (s : Standing). walked (map (record_at s.frozen s.log) (drop from (take to s.sources)))) v

  pub judged_known : {known : List ℕ} → Known f l known → r ≡ walked_knowing known f l (sources_in own from to) → r ≡ walked (map (record_at st.frozen st.log) (drop from (take to st.sources)))
  judged_known k e = judged_all (e ∙ walked_known f l k own from to)
