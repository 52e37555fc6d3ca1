-- Where the record of a source comes from, under lines that were applied: "from the last A line taken that put it in, otherwise from the
-- frozen file".
-- Assumes nothing.
use Rattle.std.specs.Prelude.{ℕ, ◌*◌, ◌<◌, ◌≡◌, cond, List, [], ◌∷◌, ◌++◌, length}
use Prim.Native.Char.{code}
use Rattle.slices.specs.Part.{member}
use Rattle.corrections.specs.declared.Entry.{Entry}
use Rattle.routes.specs.Places.{place_of, Every}
use Rattle.routes.specs.Sources.{record_at, records}
use Rattle.applying.specs.Apply.{source_of, record_of_line}

-- the lines of the corrections taken, in the order of the log
unfoldable pub lines_taken : (taken : List ℕ) → List Entry → List Entry
lines_taken taken [] = []
lines_taken taken (e ∷ es) = cond (member e.correction taken) (e ∷ lines_taken taken es) (lines_taken taken es)

-- the offset of a record of the frozen file, in it
abbrev pub OfFrozen : (frozen : List ℕ) → (source : ℕ) → Type 0
OfFrozen frozen s = (i : ℕ) × (i < length (records frozen)) × (s ≡ i * 133)

module _ (frozen log : List ℕ) where
  -- a line's record, be it put in or taken out, is of another place than the record of a source
  abbrev pub Elsewhere : (source : ℕ) → Entry → Type 0
  Elsewhere s e = place_of (record_of_line frozen log e) ≡ place_of (record_at frozen log s) → ⊥

  -- Either an A line among the lines has the source, and no line behind it is of that place: none takes the record out, and none puts one
  -- in. Or the source is one of the frozen file's own, and no line at all is of that place.
  pub data Origin (lines : List Entry) (s : ℕ) : Type 0 where
    from_log : (before : List Entry) (e : Entry) (after : List Entry) → lines ≡ before ++ e ∷ after → e.letter ≡ code "A" → s ≡ source_of e
        → Every (Elsewhere s) after → Origin lines s
    from_frozen : OfFrozen frozen s → Every (Elsewhere s) lines → Origin lines s

  -- a line puts in the record of a source
  abbrev pub PutsIn : (source : ℕ) → Entry → Type 0
  PutsIn s e = (e.letter ≡ code "A") × (record_of_line frozen log e ≡ record_at frozen log s)

  abbrev pub NonePutsIn : (source : ℕ) → List Entry → Type 0
  NonePutsIn s es = Every (λ e. PutsIn s e → ⊥) es

  -- The paper's words of a source, which its origin implies: "from the last A line taken that put it in, otherwise from the frozen file".
  pub record HandedBack (lines : List Entry) (s : ℕ) : Type 0 where
    pub last : (before : List Entry) (e : Entry) (after : List Entry) → lines ≡ before ++ e ∷ after → PutsIn s e → NonePutsIn s after
        → s ≡ source_of e
    pub otherwise : NonePutsIn s lines → OfFrozen frozen s
