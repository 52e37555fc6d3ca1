-- The rules of first legs, last legs and pairs in words: for legal legs they are what Legal says.
-- Assumes nothing.
use mathlib.Core.Path.{◌≡◌, refl, sym, ap, subst, ◌∙◌}
use mathlib.Core.Logic.Iff
use mathlib.Core.Logic.{◌↔◌, inl, inr, ⊎_elim}
use mathlib.Core.Bool.{Bool, true, not, ◌&&◌, ◌||◌, false≢true}
use mathlib.Core.List.Memᴰ
use mathlib.Core.List.{List, [], ◌∷◌, Memᴰ}
use Prim.Native.Nat.{ℕ, zero, suc, ◌<◌}
use Prim.Native.Char.{code}
use Prim.Native.String.{String, [] as ε, ◌∷◌ as ◌▹◌}
use native.Mathlib.Omega.{arith}
use native.Mathlib.Decide.{dec_lt}
use lib.Dec.{eqb}
use lib.ListN.{length, get_or, get_or-eq_default}
use borrow.Author.Tests.{eqb-true, eq-eqb}
use Rattle.slices.specs.Part.{part, member}
use Rattle.slices.specs.Order.{equal}
use Rattle.slices.specs.Search.{first_at}
use Rattle.slices.proofs.Cases.{split, both, and_left, and_right, either, or_left, or_right, or_iff}
use Rattle.slices.proofs.OrderLaws.{equal_iff}
use Rattle.slices.proofs.SearchLaws.{first_passes}
use Rattle.columns.specs.Patterns.{codes, each, texts}
use Rattle.columns.specs.Rows.{byte_in}
use Rattle.columns.specs.Words.{columns, RouteType}
use Rattle.leg.specs.Terminator.{name_of, among, ends_at_fix}
use Rattle.leg.specs.declared.terminator.Terminator.{Terminator}
use Rattle.leg.specs.Legal.{LegalLeg}
use Rattle.leg.proofs.Legality.{named_back}
use Rattle.routes.specs.LegTable.{named, RouteKind, kind, route_kinds}
use Rattle.routes.specs.Legal.{LegRecords, FlownAs, OfKind, MayBegin, MayEnd, Marked, OldFollows, Follows}
use Rattle.routes.specs.Pairs.{terminator_in, is_one, only_first, follows_fix, old_pair, readable, pair, of_kind, kind_number, kind_at, may_begin, may_end, first_leg, last_leg}
use Rattle.routes.proofs.TableLaws.{marked, marks_named, kind_of_lem, departure_kind, arrival_kind, approach_kind}

-- ---- tests in words

among_iff : (f : List ℕ) (ps : List (List ℕ)) → (among f ps ≡ true) ↔ Memᴰ f ps
unfolding among
among_iff f [] = (λ e. absurd (false≢true e), λ m. absurd (Memᴰ.not-nil m))
among_iff f (p ∷ ps) =
    Iff.trans (or_iff (equal f p) (among f ps) (equal_iff f p) (among_iff f ps))
    (λ s. ⊎_elim (λ e. Memᴰ.head e) (λ m. Memᴰ.tail m) s, λ m. Memᴰ.cases_cons m)

not_iff : {A : Type 0} (b : Bool) → (b ≡ true) ↔ A → (not b ≡ true) ↔ (A → ⊥)
not_iff b h = split b (λ e. (λ n _. false≢true (rw e at n), λ n. absurd (n (h.0 e)))) (λ e. (λ _ a. false≢true (sym e ∙ h.1 a), λ _. rw e))

and_iff : {A B : Type 0} (a b : Bool) → (a ≡ true) ↔ A → (b ≡ true) ↔ B → ((a && b) ≡ true) ↔ (A × B)
and_iff a b p q = (λ e. (p.0 (and_left a b e), q.0 (and_right a b e)), λ (x, y). both (p.1 x) (q.1 y))

if_then : {A B : Type 0} (a b : Bool) → (a ≡ true) ↔ A → (b ≡ true) ↔ B → ((a || not b) ≡ true) ↔ (B → A)
if_then {A} {B} a b p q = (
  λ e y. ⊎_elim (λ x. p.0 x) (λ n. absurd ((not_iff b q).0 n y)) (either a (not b) e),
  λ f. split b (λ e. or_left a (not b) (p.1 (f (q.0 e)))) (λ e. or_right a (not b) (rw e)),
)

-- ---- a legal leg's letters

-- they are among some names exactly when its terminator's name is
letters_iff : (rec : List ℕ) → LegalLeg rec → (ps : List (List ℕ)) → (among (name_of (terminator_in rec)) ps ≡ true) ↔ Memᴰ (columns 48 49 rec) ps
letters_iff rec l ps =
    subst (λ (f : List ℕ). (among (name_of (terminator_in rec)) ps ≡ true) ↔ Memᴰ f ps)
    (sym (named_back (columns 48 49 rec) l.content.leg.terminator)) (among_iff (name_of (terminator_in rec)) ps)

flown_iff : (l : LegRecords) → LegalLeg l.primary → (text : String) → (is_one text (terminator_in l.primary) ≡ true) ↔ FlownAs text l
flown_iff l h text = letters_iff l.primary h (named text)

-- ---- pairs

fix_names : texts ("IF" ∷ "TF" ∷ "CF" ∷ "DF" ∷ "AF" ∷ "RF" ∷ "HA" ∷ "HF" ∷ "HM" ∷ []) ≡ named "IF TF CF DF AF RF HA HF HM"
unfolding texts codes named
fix_names = refl

module _ (l m : LegRecords) (p : LegalLeg l.primary) (q : LegalLeg m.primary) where
  abbrev before : Terminator
  before = terminator_in l.primary

  abbrev next : Terminator
  next = terminator_in m.primary

  fix_iff : (ends_at_fix before ≡ true) ↔ FlownAs "IF TF CF DF AF RF HA HF HM" l
  unfolding ends_at_fix
  fix_iff = rw fix_names (flown_iff l p "IF TF CF DF AF RF HA HF HM")

  marked_iff : (readable before next ≡ true) ↔ Marked l m
  unfolding marked
  marked_iff =
      rw (marks_named before next)
      (or_iff (is_one "IF" before && is_one "FA FC FD FM HA HF HM IF PI RF" next) (is_one "CF DF FC" before && is_one "DF" next)
      (and_iff (is_one "IF" before) (is_one "FA FC FD FM HA HF HM IF PI RF" next) (flown_iff l p "IF") (flown_iff m q "FA FC FD FM HA HF HM IF PI RF"))
      (and_iff (is_one "CF DF FC" before) (is_one "DF" next) (flown_iff l p "CF DF FC") (flown_iff m q "DF")))

  old_iff : (old_pair before next ≡ true) ↔ OldFollows l m
  unfolding old_pair only_first follows_fix
  old_iff =
      and_iff (not (only_first next)) (ends_at_fix before || not (follows_fix next)) (not_iff (only_first next) (flown_iff m q "IF"))
      (if_then (ends_at_fix before) (follows_fix next) fix_iff (flown_iff m q "TF RF HA HF HM PI FA FC FD FM"))

  -- a legal leg may follow another exactly when the page marks the pair or the old rule lets it
  pub pair_iff : (pair (terminator_in l.primary) (terminator_in m.primary) ≡ true) ↔ Follows l m
  unfolding pair
  pair_iff = or_iff (readable before next) (old_pair before next) marked_iff old_iff

-- ---- first and last legs

-- one of a text's characters
character_iff : (s : String) (b : ℕ) → (member b (codes s) ≡ true) ↔ Memᴰ (b ∷ []) (each s)
unfolding codes each member
character_iff ε b = (λ e. absurd (false≢true e), λ m. absurd (Memᴰ.not-nil m))
character_iff (c ▹ s) b =
    Iff.trans (or_iff (eqb (code c) b) (member b (codes s)) (same (code c)) (character_iff s b))
    (λ x. ⊎_elim (λ e. Memᴰ.head e) (λ m. Memᴰ.tail m) x, λ m. Memᴰ.cases_cons m)
  where
    same : (x : ℕ) → (eqb x b ≡ true) ↔ (b ∷ [] ≡ x ∷ [])
    same x = (λ e. let q : x ≡ b = eqb-true x b e in rw q, λ e. let q : x ≡ b = cc in eq-eqb x b q)

-- the route is of a kind
kind_iff : (k : RouteKind) (l : LegRecords) → (of_kind (byte_in 13 l.primary) (byte_in 20 l.primary) k ≡ true) ↔ OfKind k l
unfolding of_kind part
kind_iff k l =
    and_iff (eqb (code k.subsection) (byte_in 13 l.primary)) (member (byte_in 20 l.primary) (codes k.types))
    (λ e. sym (eqb-true (code k.subsection) (byte_in 13 l.primary) e), λ e. eq-eqb (code k.subsection) (byte_in 13 l.primary) (sym e))
    (character_iff k.types (byte_in 20 l.primary))

-- that of a route that is of none of the nine
abbrev no_kind : RouteKind
no_kind = kind "" " " "" "" ""

-- an element of a list by its place
mem_at : (xs : List RouteKind) (d : RouteKind) (n : ℕ) → n < length xs → Memᴰ (get_or xs n d) xs
mem_at [] d n h = absurd (omega arith)
mem_at (x ∷ xs) d zero h = Memᴰ.head refl
mem_at (x ∷ xs) d (suc n) h = Memᴰ.tail (mem_at xs d n (omega arith))

place_of : (xs : List RouteKind) (d k : RouteKind) → Memᴰ k xs → (n : ℕ) × (n < length xs) × (get_or xs n d ≡ k)
place_of [] d k m = elim m [ ]
place_of (x ∷ xs) d k (Memᴰ.head e) = (zero, omega arith, sym e)
place_of (x ∷ xs) d k (Memᴰ.tail m) = let i = place_of xs d k m in (suc i.0, omega (arith, i.1), i.2)

nine : length route_kinds ≡ 9
unfolding route_kinds
nine = refl

-- a route is of one kind alone
only_kind : (l : LegRecords) (k : RouteKind) → Memᴰ k route_kinds → OfKind k l → kind_at (kind_number l.primary) ≡ k
unfolding kind_number kind_at part
only_kind l k m (s, t) =
    let i = place_of route_kinds no_kind k m in
    let h : i.0 < 9 = omega (arith, i.1, nine) in
    let b : member (byte_in 20 l.primary) (codes (kind_at i.0).types) ≡ true =
    ap (λ (x : RouteKind). member (byte_in 20 l.primary) (codes x.types)) i.2 ∙ (character_iff k.types (byte_in 20 l.primary)).1 t in
    let n : first_at (of_kind (byte_in 13 l.primary) (byte_in 20 l.primary)) route_kinds ≡ i.0 =
    ap (λ (x : ℕ). first_at (of_kind x (byte_in 20 l.primary)) route_kinds) (s ∙ sym (ap (λ (x : RouteKind). code x.subsection) i.2))
    ∙ kind_of_lem i.0 h (byte_in 20 l.primary) b in
    ap (λ (x : ℕ). get_or route_kinds x no_kind) n ∙ i.2

module _ (rec : List ℕ) (h : kind_number rec < 9) where
  one_of_nine : Memᴰ (kind_at (kind_number rec)) route_kinds
  unfolding kind_at
  one_of_nine = mem_at route_kinds no_kind (kind_number rec) (omega (arith, nine))

  its_kind : of_kind (byte_in 13 rec) (byte_in 20 rec) (kind_at (kind_number rec)) ≡ true
  unfolding kind_number kind_at
  its_kind = first_passes (of_kind (byte_in 13 rec) (byte_in 20 rec)) route_kinds no_kind (omega (arith, nine))

past_kinds : (n : ℕ) → (n < 9 → ⊥) → kind_at n ≡ no_kind
unfolding kind_at
past_kinds n h = get_or-eq_default route_kinds no_kind (omega (arith, nine))

nothing_named : (t : Terminator) → is_one "" t ≡ true → ⊥
unfolding among named
nothing_named t e = false≢true e

-- one of the legs that a kind names, of the kind that the route is of; past the last kind none is named
by_kind : (legs : RouteKind → String) (l : LegRecords) → LegalLeg l.primary → legs no_kind ≡ ""
    → (is_one (legs (kind_at (kind_number l.primary))) (terminator_in l.primary) ≡ true)
    ↔ ((k : RouteKind) × Memᴰ k route_kinds × OfKind k l × FlownAs (legs k) l)
by_kind legs l h none = (
  λ e. to e (dec_lt (kind_number l.primary) 9),
  λ (k, m, o, f). (flown_iff l h (legs (kind_at (kind_number l.primary)))).1 (rw (only_kind l k m o) f),
)
  where
    to : is_one (legs (kind_at (kind_number l.primary))) (terminator_in l.primary) ≡ true → Dec (kind_number l.primary < 9)
        → (k : RouteKind) × Memᴰ k route_kinds × OfKind k l × FlownAs (legs k) l
    to e (yes n) = (
      kind_at (kind_number l.primary),
      one_of_nine l.primary n,
      (kind_iff (kind_at (kind_number l.primary)) l).0 (its_kind l.primary n),
      (flown_iff l h (legs (kind_at (kind_number l.primary)))).0 e,
    )
    to e (no n) = absurd (nothing_named (terminator_in l.primary) (rw (past_kinds (kind_number l.primary) n, none) at e))

module _ (l : LegRecords) (h : LegalLeg l.primary) where
  -- a legal leg may be the first of a route, and the last, exactly when the page says so of its kind
  pub first_leg_iff : (first_leg l.primary ≡ true) ↔ MayBegin l
  unfolding first_leg may_begin
  first_leg_iff = by_kind (λ k. k.first) l h refl

  pub last_leg_iff : (last_leg l.primary ≡ true) ↔ MayEnd l
  unfolding last_leg may_end
  last_leg_iff = by_kind (λ k. k.last) l h refl

-- ---- every route is of one kind

-- by its subsection and its route type
types_kind : (rec f : List ℕ) → f ≡ byte_in 20 rec ∷ [] → RouteType rec f → kind_number rec < 9
unfolding kind_number
types_kind rec f e (inl (inl (s, t))) = rw s (departure_kind (byte_in 20 rec) ((character_iff "0123456FMSTV" (byte_in 20 rec)).1 (rw e at t)))
types_kind rec f e (inl (inr (s, t))) = rw s (arrival_kind (byte_in 20 rec) ((character_iff "123456789FMS" (byte_in 20 rec)).1 (rw e at t)))
types_kind rec f e (inr (s, t)) = rw s (approach_kind (byte_in 20 rec) ((character_iff "ABEFGIJKLMNPRTUVWXYZ" (byte_in 20 rec)).1 (rw e at t)))

one_byte : (rec : List ℕ) → columns 20 20 rec ≡ byte_in 20 rec ∷ []
unfolding part
one_byte rec = refl

-- "every route type of 5.7": the route of a legal leg is of one of the nine kinds, and of no other
pub one_kind : (l : LegRecords) → LegalLeg l.primary
    → (k : RouteKind) × Memᴰ k route_kinds × OfKind k l × ((j : RouteKind) → Memᴰ j route_kinds → OfKind j l → j ≡ k)
one_kind l h =
    let n : kind_number l.primary < 9 = types_kind l.primary (columns 20 20 l.primary) (one_byte l.primary) h.content.front.route_type in (
      kind_at (kind_number l.primary),
      one_of_nine l.primary n,
      (kind_iff (kind_at (kind_number l.primary)) l).0 (its_kind l.primary n),
      λ j m o. sym (only_kind l j m o),
    )
