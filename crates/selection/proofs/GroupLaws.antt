-- The lines of a log by their corrections: they stand one correction behind the other, each with its own number.
-- Assumes nothing.
use mathlib.Core.Path.{◌≡◌, refl, sym, ap, ap₂, subst, ◌∙◌}
use mathlib.Core.List.{List, [], ◌∷◌, ◌++◌, append_assoc, append-nil}
use Prim.Native.Nat.{ℕ, zero, suc, ◌+◌, ◌-◌, ◌*◌, ◌≤◌, ◌<◌}
use native.Mathlib.Omega.{arith}
use lib.Dec.{ltb}
use lib.ListN.{length, get_or, take, length-append, get_or-append}
use lib.Seq.{take-suc, take-append-le, take-append-add, get_or-append-add, take_at, drop_at}
use borrow.Author.Tests.{eq-eqb, ne_eqb, ltb-true, ltb-false}
use Rattle.slices.proofs.Cases.{split}
use Rattle.corrections.specs.Lines.{heading}
use Rattle.corrections.specs.declared.Entry.{Entry}
use Rattle.corrections.specs.Reading.{said, read_log}
use Rattle.corrections.specs.Text.{Change}
use Rattle.corrections.proofs.TextLaws.{entries_from, entries_in, groups}
use Rattle.corrections.proofs.Within.{legal_read}
use Rattle.corrections.proofs.Spelling.{said_legal}
use Rattle.applying.specs.Run.{leading_lines, by_correction}

-- ---- groups of lines

abbrev pub AllOf : ℕ → List Entry → Type 0
AllOf n [] = Unit {0}
AllOf n (e ∷ es) = (e.correction ≡ n) × AllOf n es

-- each group has the lines of one correction, the first of them those of correction n
abbrev pub Grouped : ℕ → List (List Entry) → Type 0
Grouped n [] = Unit {0}
Grouped n (es ∷ ess) = AllOf n es × Grouped (n + 1) ess

unfoldable pub flat : List (List Entry) → List Entry
flat [] = []
flat (es ∷ ess) = es ++ flat ess

flat_append : (xs ys : List (List Entry)) → flat (xs ++ ys) ≡ flat xs ++ flat ys
unfolding flat
flat_append [] ys = refl
flat_append (x ∷ xs) ys = ap (λ (t : List Entry). x ++ t) (flat_append xs ys) ∙ sym (append_assoc x (flat xs) (flat ys))

pub flat_next : (ess : List (List Entry)) (n : ℕ) → n < length ess → flat (take (suc n) ess) ≡ flat (take n ess) ++ get_or ess n []
unfolding flat
flat_next ess n h =
    ap flat (take-suc ess n [] h) ∙ flat_append (take n ess) (get_or ess n [] ∷ []) ∙ ap (λ (t : List Entry). flat (take n ess) ++ t) (append-nil (get_or ess n []))

-- the groups keep the numbers
pub grouped_at : (n : ℕ) (ess : List (List Entry)) → Grouped n ess → (i : ℕ) → AllOf (n + i) (get_or ess i [])
grouped_at n [] g i = tt
grouped_at n (es ∷ ess) g zero = let e : n + 0 ≡ n = omega arith in rw e g.0
grouped_at n (es ∷ ess) g (suc i) = let e : n + suc i ≡ n + 1 + i = omega arith in rw e (grouped_at (n + 1) ess g.1 i)

pub all_at : (n : ℕ) (es : List Entry) → AllOf n es → (d : Entry) (i : ℕ) → i < length es → (get_or es i d).correction ≡ n
all_at n [] a d i h = absurd (omega arith)
all_at n (e ∷ es) a d zero h = a.0
all_at n (e ∷ es) a d (suc i) h = all_at n es a.1 d i (omega arith)

-- ---- a line stands somewhere in one of the groups

pub record Stands (ess : List (List Entry)) (d : Entry) (k : ℕ) : Type 0 where
  pub group : ℕ
  pub place : ℕ
  pub among : group < length ess
  pub within : place < length (get_or ess group [])
  pub before : take k (flat ess) ≡ flat (take group ess) ++ take place (get_or ess group [])
  pub is : get_or (flat ess) k d ≡ get_or (get_or ess group []) place d

pub stands : (ess : List (List Entry)) (d : Entry) (k : ℕ) → k < length (flat ess) → Stands ess d k
unfolding flat
stands [] d k h = absurd (omega arith)
stands (es ∷ ess) d k h =
    split (ltb k (length es))
    (λ t.
    let w = ltb-true k (length es) t in
    record {
      group = 0;
      place = k;
      among = omega arith;
      within = w;
      before = take-append-le k es (flat ess) (omega arith);
      is = get_or-append es (flat ess) d k w;
    })
    (λ t.
    let i : ℕ = k - length es in
    let e : k ≡ length es + i = omega (arith, ltb-false k (length es) t) in
    let s = stands ess d i (omega (arith, length-append es (flat ess))) in
    record {
      group = suc s.group;
      place = s.place;
      among = omega (arith, s.among);
      within = s.within;
      before = ap (λ (j : ℕ). take j (es ++ flat ess)) e ∙ take-append-add es (flat ess) i ∙ ap (λ (x : List Entry). es ++ x) s.before
          ∙ sym (append_assoc es (flat (take s.group ess)) (take s.place (get_or ess s.group [])));
      is = ap (λ (j : ℕ). get_or (es ++ flat ess) j d) e ∙ get_or-append-add es (flat ess) i d ∙ s.is;
    })

-- and every line of a group is a line
pub line_of : (ess : List (List Entry)) (d : Entry) (n i : ℕ) → i < length (get_or ess n [])
    → (k : ℕ) × (k < length (flat ess)) × (get_or (flat ess) k d ≡ get_or (get_or ess n []) i d)
unfolding flat
line_of [] d n i h = absurd (omega arith)
line_of (es ∷ ess) d zero i h = (i, omega (arith, length-append es (flat ess)), get_or-append es (flat ess) d i h)
line_of (es ∷ ess) d (suc n) i h =
    let w = line_of ess d n i h in
    (length es + w.0, omega (arith, length-append es (flat ess), w.1), get_or-append-add es (flat ess) w.0 d ∙ w.2)

-- ---- the corrections of the lines rise

from_least : (n : ℕ) (ess : List (List Entry)) → Grouped n ess → (d : Entry) (k : ℕ) → k < length (flat ess) → n ≤ (get_or (flat ess) k d).correction
unfolding flat
from_least n [] g d k h = absurd (omega arith)
from_least n (es ∷ ess) g d k h =
    split (ltb k (length es))
    (λ t.
    let w = ltb-true k (length es) t in
    let e = get_or-append es (flat ess) d k w in
    let a = all_at n es g.0 d k w in
    omega (arith, ap (λ (x : Entry). x.correction) e, a))
    (λ t.
    let i : ℕ = k - length es in
    let q : k ≡ length es + i = omega (arith, ltb-false k (length es) t) in
    let e : get_or (es ++ flat ess) k d ≡ get_or (flat ess) i d = ap (λ (j : ℕ). get_or (es ++ flat ess) j d) q ∙ get_or-append-add es (flat ess) i d in
    let a = from_least (n + 1) ess g.1 d i (omega (arith, length-append es (flat ess))) in
    omega (arith, ap (λ (x : Entry). x.correction) e, a))

pub rising : (n : ℕ) (ess : List (List Entry)) → Grouped n ess → (d : Entry) (j k : ℕ) → j ≤ k → k < length (flat ess)
    → (get_or (flat ess) j d).correction ≤ (get_or (flat ess) k d).correction
unfolding flat
rising n [] g d j k l h = absurd (omega arith)
rising n (es ∷ ess) g d j k l h =
    split (ltb j (length es))
    (λ t.
    let w = ltb-true j (length es) t in
    let e = get_or-append es (flat ess) d j w in
    let a = all_at n es g.0 d j w in
    let c = from_least n (es ∷ ess) g d k h in
    omega (arith, ap (λ (x : Entry). x.correction) e, a, c))
    (λ t.
    let i : ℕ = j - length es in
    let m : ℕ = k - length es in
    let p : j ≡ length es + i = omega (arith, ltb-false j (length es) t) in
    let q : k ≡ length es + m = omega (arith, ltb-false j (length es) t) in
    let e : get_or (es ++ flat ess) j d ≡ get_or (flat ess) i d = ap (λ (x : ℕ). get_or (es ++ flat ess) x d) p ∙ get_or-append-add es (flat ess) i d in
    let u : get_or (es ++ flat ess) k d ≡ get_or (flat ess) m d = ap (λ (x : ℕ). get_or (es ++ flat ess) x d) q ∙ get_or-append-add es (flat ess) m d in
    let a = rising (n + 1) ess g.1 d i m (omega arith) (omega (arith, length-append es (flat ess))) in
    omega (arith, ap (λ (x : Entry). x.correction) e, ap (λ (x : Entry). x.correction) u, a))

-- ---- the lines of a legal log

from_own : (n at : ℕ) (xs : List Change) → AllOf n (entries_from n at xs)
unfolding entries_from
from_own n at [] = tt
from_own n at (x ∷ xs) = (refl, from_own n (at + 135) xs)

groups_numbered : (begun at : ℕ) (cs : List (List Change)) → Grouped (begun + 1) (groups begun at cs)
unfolding groups
groups_numbered begun at [] = tt
groups_numbered begun at (c ∷ cs) = (from_own (begun + 1) _ c, groups_numbered (begun + 1) _ cs)

groups_flat : (begun at : ℕ) (cs : List (List Change)) → flat (groups begun at cs) ≡ entries_in begun at cs
unfolding groups flat entries_in
groups_flat begun at [] = refl
groups_flat begun at (c ∷ cs) =
    let w : ℕ = length (heading (begun + 1)) in
    ap (λ (t : List Entry). entries_from (begun + 1) (at + w) c ++ t) (groups_flat (begun + 1) (at + w + length c * 135) cs)

groups_length : (begun at : ℕ) (cs : List (List Change)) → length (groups begun at cs) ≡ length cs
unfolding groups
groups_length begun at [] = refl
groups_length begun at (c ∷ cs) = ap suc (groups_length (begun + 1) _ cs)

-- no line of the corrections behind another one is its own
leading_none : (n begun at : ℕ) (cs : List (List Change)) → n ≤ begun → leading_lines n (entries_in begun at cs) ≡ 0
unfolding leading_lines entries_in entries_from
leading_none n begun at [] h = refl
leading_none n begun at ([] ∷ cs) h = leading_none n (begun + 1) _ cs (omega arith)
leading_none n begun at ((x ∷ xs) ∷ cs) h = rw (ne_eqb (begun + 1) n (λ (z : begun + 1 ≡ n). omega arith))

leading_own : (n : ℕ) (es rest : List Entry) → AllOf n es → leading_lines n rest ≡ 0 → leading_lines n (es ++ rest) ≡ length es
unfolding leading_lines
leading_own n [] rest a z = z
leading_own n (e ∷ es) rest a z = rw (eq-eqb e.correction n a.0, leading_own n es rest a.1 z)

-- so the lines come apart by correction as they were put together
pub by_groups : (begun at : ℕ) (cs : List (List Change)) → by_correction (begun + 1) (length cs) (entries_in begun at cs) ≡ groups begun at cs
unfolding by_correction entries_in groups
by_groups begun at [] = refl
by_groups begun at (c ∷ cs) =
    let w : ℕ = length (heading (begun + 1)) in
    let own : List Entry = entries_from (begun + 1) (at + w) c in
    let rest : List Entry = entries_in (begun + 1) (at + w + length c * 135) cs in
    let m : leading_lines (begun + 1) (own ++ rest) ≡ length own =
    leading_own (begun + 1) own rest (from_own (begun + 1) (at + w) c) (leading_none (begun + 1) (begun + 1) (at + w + length c * 135) cs (omega arith)) in
    ap₂ (λ (x : List Entry) (xs : List (List Entry)). x ∷ xs)
    (take_at own rest (leading_lines (begun + 1) (own ++ rest)) (sym m))
    (ap (by_correction (begun + 1 + 1) (length cs)) (drop_at own rest (leading_lines (begun + 1) (own ++ rest)) (sym m)) ∙ by_groups (begun + 1) (at + w + length c * 135) cs)

-- ---- what is read of a log

-- its lines by their corrections
pub record ByCorrection (n : ℕ) (es : List Entry) : Type 0 where
  pub many : length (by_correction 1 n es) ≡ n
  pub grouped : Grouped 1 (by_correction 1 n es)
  pub whole : flat (by_correction 1 n es) ≡ es
  pub few : n ≤ 200

pub said_same : {n m : ℕ} {es fs : List Entry} → said n es ≡ said m fs → (n ≡ m) × (es ≡ fs)
said_same e = (cc, cc)

pub read_by_correction : (log : List ℕ) (frozen n : ℕ) (es : List Entry) → read_log log frozen ≡ said n es → ByCorrection n es
read_by_correction log frozen n es e =
    let l = said_legal log frozen n es e in
    let s = said_same (sym e ∙ legal_read log frozen l) in
    let b : by_correction 1 n es ≡ groups 0 0 l.corrections = ap₂ (by_correction 1) s.0 s.1 ∙ by_groups 0 0 l.corrections in
    record {
      many = ap length b ∙ groups_length 0 0 l.corrections ∙ sym s.0;
      grouped = subst (Grouped 1) (sym b) (groups_numbered 0 0 l.corrections);
      whole = ap flat b ∙ groups_flat 0 0 l.corrections ∙ sym s.1;
      few = omega (arith, s.0, l.few);
    }
