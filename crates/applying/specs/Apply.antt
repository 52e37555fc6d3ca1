-- A correction applied to the records of a file, by their sources: its lines in order, then the routes that its lines name.
-- Assumes nothing.
use Rattle.refusals.specs.Table.{Verdict, Accepted}
use Rattle.std.specs.Prelude.{ℕ, zero, suc, ◌+◌, ◌≤◌, ◌≡◌, Bool, false, cond, ◌||◌, List, [], ◌∷◌, map, eqb, get_or, take, Ok, Err}
use Prim.Native.Char.{code}
use Rattle.std.proofs.Math.Option.{Option, none, some, bind}
use Rattle.slices.specs.Order.{equal}
use Rattle.corrections.specs.declared.Entry.{Entry}
use Rattle.corrections.specs.Reading.{no_entry}
use Rattle.corrections.specs.declared.Index.{Index}
use Rattle.routes.specs.InTurn.{in_turn}
use Rattle.routes.specs.Places.{key_of, of_route}
use Rattle.routes.specs.Sources.{log_source, record_at}
use Rattle.routes.specs.Walk.{walked}
use Rattle.applying.specs.State.{with_source, without_record}

-- the lines of an index: the one at k, n of them from k on, and all of them
abbrev pub entry_at : Index → ℕ → Entry
entry_at index k = get_or index.entries k no_entry

unfoldable pub entries_from : Index → (k n : ℕ) → List Entry
entries_from index k zero = []
entries_from index k (suc n) = entry_at index k ∷ entries_from index (k + 1) n

abbrev pub lines_of : Index → List Entry
lines_of index = entries_from index 0 index.count

-- every line lies within the longest log
abbrev pub WithinLog : List Entry → Type 0
WithinLog es = (k : ℕ) → (get_or es k no_entry).at ≤ 60000

abbrev pub Within : Index → Type 0
Within index = WithinLog index.entries

-- where a line's record lies
abbrev pub source_of : Entry → ℕ
source_of e = log_source e.at

-- one thing where a line can't be applied, another where it can; the same where a route is refused, and where it is not
abbrev pub if_applied : {A : Type 0} → Option (List ℕ) → A → (List ℕ → A) → A
if_applied none a next = a
if_applied (some xs) a next = next xs

abbrev pub if_refused : {A : Type 0} → Verdict → A → A → A
if_refused (Ok _) a b = b
if_refused (Err r) a b = a

module _ (frozen log : List ℕ) where
  abbrev pub record_of_line : Entry → List ℕ
  record_of_line e = record_at frozen log (source_of e)

  -- the records of two sources are of one route
  abbrev pub same_route : ℕ → ℕ → Bool
  same_route a b = equal (key_of (record_at frozen log a)) (key_of (record_at frozen log b))

  -- "D: that record, byte for byte, is taken out. A: it's put in by its place."
  unfoldable pub line_applied : Entry → List ℕ → Option (List ℕ)
  line_applied e xs = cond (eqb e.letter (code "D")) (without_record frozen log (record_of_line e) xs) (with_source frozen log (source_of e) xs)

  -- "Lines apply in order"
  unfoldable pub lines_applied : List Entry → List ℕ → Option (List ℕ)
  lines_applied [] xs = some xs
  lines_applied (e ∷ es) xs = bind (line_applied e xs) (lines_applied es)

  -- the first of the lines that can't be applied, by the offset of its record; 0 where each can
  unfoldable pub fails_at : List Entry → List ℕ → ℕ
  fails_at [] xs = 0
  fails_at (e ∷ es) xs = if_applied (line_applied e xs) e.at (fails_at es)

  -- a line of the correction names the route of a source
  unfoldable pub touched : List Entry → ℕ → Bool
  touched [] s = false
  touched (e ∷ es) s = same_route (source_of e) s || touched es s

  -- how many of the sources in front are of one route with s
  unfoldable pub together : ℕ → List ℕ → ℕ
  together s [] = 0
  together s (x ∷ xs) = cond (same_route s x) (suc (together s xs)) 0

  -- "Under 11 the touched routes are judged in rising byte order", which is the order of the sources: route by route, each that is
  -- touched alone; of the first sources so many are of a route that was judged
  unfoldable pub touched_judged : List Entry → (judged : ℕ) → List ℕ → Verdict
  touched_judged es k [] = Accepted
  touched_judged es (suc k) (x ∷ xs) = touched_judged es k xs
  touched_judged es zero (x ∷ xs) =
      let n = together x xs in
      in_turn
      (cond (touched es x) (walked (map (record_at frozen log) (x ∷ take n xs))) Accepted ∷
      touched_judged es n xs ∷
      [])

  -- the first of these routes that is refused, by its sources; no source where none is
  unfoldable pub refused_route : List Entry → (judged : ℕ) → List ℕ → List ℕ
  refused_route es k [] = []
  refused_route es (suc k) (x ∷ xs) = refused_route es k xs
  refused_route es zero (x ∷ xs) =
      let n = together x xs in
      if_refused (cond (touched es x) (walked (map (record_at frozen log) (x ∷ take n xs))) Accepted) (x ∷ take n xs) (refused_route es n xs)

  -- the route of a source stands among some sources
  abbrev pub RouteStands : List ℕ → ℕ → Type 0
  RouteStands xs s = walked (of_route (key_of (record_at frozen log s)) (map (record_at frozen log) xs)) ≡ Accepted
