-- Which corrections another one relies on, as the code finds them: for each line of the index the last earlier correction on its route;
-- then, from a wanted correction, those that its lines name, and so on.
-- Assumes nothing.
use Rattle.std.specs.Prelude.{ℕ, zero, suc, ◌+◌, ◌≤◌, ◌<◌, ◌≡◌, cond, ◌&&◌, List, [], ◌∷◌, ◌⊎◌, map, eqb, ltb, length, get_or}
use Rattle.slices.specs.Order.{equal}
use Rattle.routes.specs.Places.{key_of}
use Rattle.corrections.specs.declared.Entry.{Entry}
use Rattle.corrections.specs.declared.Index.{Index}
use Rattle.selection.specs.declared.relied.Span.{Span}
use Rattle.applying.specs.Apply.{entry_at, entries_from, record_of_line}

-- ---- one line

module _ (frozen log : List ℕ) where
  -- the correction of the last of some lines that is on a route and before correction n; where there is none, what was found before
  unfoldable pub last_before : (n : ℕ) (key : List ℕ) (found : ℕ) → List Entry → ℕ
  last_before n key found [] = found
  last_before n key found (e ∷ es) =
      last_before n key (cond (ltb e.correction n && equal key (key_of (record_of_line frozen log e))) e.correction found) es

  -- the last earlier correction on the route of line k; 0 where there is none
  unfoldable pub relied_by : Index → ℕ → ℕ
  relied_by index k = last_before (entry_at index k).correction (key_of (record_of_line frozen log (entry_at index k))) 0 (entries_from index 0 k)

  -- the same of n lines from k on
  unfoldable pub reliances : Index → (k n : ℕ) → List ℕ
  reliances index k zero = []
  reliances index k (suc n) = relied_by index k ∷ reliances index (k + 1) n

-- ---- from a wanted correction to those it relies on

-- the correction of each line
abbrev pub owners : List Entry → List ℕ
owners es = map (λ (e : Entry). e.correction) es

-- The correction that line k names, if that is a line of correction c, and it is smaller; else 0. `of` has the correction of each line,
-- `relied` what it names.
unfoldable pub named_by : (of relied : List ℕ) (c k : ℕ) → ℕ
named_by of relied c k = cond (eqb (get_or of k 0) c && ltb (get_or relied k 0) c) (get_or relied k 0) 0

-- every line of a correction that can be marked stands within the span that a table has for it
abbrev pub no_span : Span
no_span = record { first = 0; end = 0 }

abbrev pub Spans : (of : List ℕ) (spans : List Span) → Type 0
Spans of spans =
    (k : ℕ) → k < length of → get_or of k 0 < 201
    → ((get_or spans (get_or of k 0) no_span).first ≤ k) × (k < (get_or spans (get_or of k 0) no_span).end)

-- correction c relies on correction p
pub record Relies (of relied : List ℕ) (c p : ℕ) : Type 0 where
  pub line : ℕ
  pub named : p ≡ named_by of relied c line
  pub some : 0 < p

-- i is c, or c relies on it, or on what relies on it, and so on
pub data Reach (of relied : List ℕ) : ℕ → ℕ → Type 0 where
  here : {c : ℕ} → Reach of relied c c
  step : {c p i : ℕ} → Relies of relied c p → Reach of relied p i → Reach of relied c i

-- correction i is marked
abbrev pub In : List ℕ → ℕ → Type 0
In marks i = get_or marks i 0 ≡ 1

-- what a marked correction relies on is marked
abbrev pub ClosedMarks : (of relied marks : List ℕ) → Type 0
ClosedMarks of relied marks = (c p : ℕ) → In marks c → Relies of relied c p → In marks p

-- the marks b are the marks a, and others that c reaches; what was closed still is
pub record Spread (of relied a b : List ℕ) (c : ℕ) : Type 0 where
  pub long : length b ≡ length a
  pub keep : (i : ℕ) → In a i → In b i
  pub only : (i : ℕ) → In b i → In a i ⊎ Reach of relied c i
  pub closed : ClosedMarks of relied a → ClosedMarks of relied b

-- and c itself is marked
pub record Marked (of relied a b : List ℕ) (c : ℕ) : Type 0 where
  pub spread : Spread of relied a b c
  pub has : 0 < c → c < length a → In b c

-- the marks are the first n of the wanted corrections and what they reach
pub record Taken (of relied wanted marks : List ℕ) (n : ℕ) : Type 0 where
  pub long : length marks ≡ 201
  pub only : (i : ℕ) → In marks i → (k : ℕ) × (k < n) × Reach of relied (get_or wanted k 0) i
  pub closed : ClosedMarks of relied marks
  pub has : (k : ℕ) → k < n → 0 < get_or wanted k 0 → get_or wanted k 0 ≤ 200 → In marks (get_or wanted k 0)
