-- Laws of the terminators: tables of them hold, for each, what the definitions say of it; each stands in its place of the list, and what is
-- found there is it.
-- Assumes nothing.
use mathlib.Core.Path.{◌≡◌, refl, sym, ap, subst, ◌∙◌}
use mathlib.Core.Logic.{◌↔◌, ◌⊎◌, inl, inr, ⊎_elim}
use mathlib.Core.Bool.{Bool, true, false, cond, ◌||◌, or-false, false≢true}
use mathlib.Core.List.Memᴰ
use mathlib.Core.List.{List, [], ◌∷◌, ◌++◌, map, Memᴰ}
use Prim.Native.Char.{code}
use Prim.Native.Nat.{ℕ, zero, suc, ◌*◌, ◌-◌, ◌≤◌, ◌<◌}
use native.Mathlib.Omega.{arith}
use native.Mathlib.Decide.{dec_lt}
use native.Mathlib.Nat.{le_of_suc-le-suc, not-suc-le-zero}
use lib.Dec.{eqb}
use lib.ListN.{length, get_or, replicate, get_or-eq_default}
use borrow.Author.Tests.{eqb-true, eqb-false}
use Rattle.slices.specs.Part.{part, member}
use Rattle.slices.specs.Order.{order, equal}
use Rattle.slices.specs.Search.{first_at}
use Rattle.slices.proofs.Cases.{split}
use Rattle.slices.proofs.EveryLaws.{every, below, each_below}
use Rattle.slices.proofs.OrderLaws.{equal_iff}
use Rattle.slices.proofs.PartLaws.{get_or_any, part_all, member_append, member_replicate}
use Rattle.slices.proofs.SearchLaws.{first_before, first_passes}
use Rattle.columns.specs.Patterns.{codes, texts}
use Rattle.columns.specs.Terminators.{terminators}
use Rattle.columns.specs.Words.{OneOf}
use Rattle.columns.proofs.TerminatorList.{there_are_23, once}
use Rattle.leg.specs.Terminator.{in_order, terminator_number, name_of, terminator_at, found_at, terminator_of, needs, needed, in_line, among, ends_at_fix, is_holding}
use Rattle.leg.specs.declared.terminator.Terminator.{Terminator}
use Rattle.leg.specs.declared.terminator.Terminator.TheVariants.{Af, Ca, Cd, Cf, Ci, Cr, Df, Fa, Fc, Fd, Fm, Ha, Hf, Hm, If, Pi, Rf, Tf, Va, Vd, Vi, Vm, Vr}

abbrev joined : List (List ℕ) → List ℕ
joined [] = []
joined (x ∷ xs) = x ++ joined xs

-- tables of the 23: what each needs in eight places, blank past its letters; and a 1 or a 0 each
abbrev eight : List ℕ → List ℕ
eight xs = xs ++ replicate (8 - length xs) 32

unfoldable pub needed_table : List ℕ
unfolding in_order needed needs codes
needed_table = joined (map (λ t. eight (needed t)) in_order)

abbrev flag : Bool → ℕ
flag b = cond b 49 48

unfoldable pub ends_table : List ℕ
unfolding in_order ends_at_fix among name_of terminator_number texts codes terminators equal order
ends_table = map (λ t. flag (ends_at_fix t)) in_order

unfoldable pub holdings_table : List ℕ
unfolding in_order is_holding among name_of terminator_number texts codes terminators equal order
holdings_table = map (λ t. flag (is_holding t)) in_order

-- what they hold of one terminator, and its name read back
pub record RowOf (t : Terminator) : Type 0 where
  pub its_needs : part 8 (terminator_number t * 8) needed_table ≡ eight (needed t)
  pub its_letters : member 32 (needed t) ≡ false
  pub its_end : eqb (get_or ends_table (terminator_number t) 0) 49 ≡ ends_at_fix t
  pub its_holding : eqb (get_or holdings_table (terminator_number t) 0) 49 ≡ is_holding t
  pub its_name : terminator_of (name_of t) ≡ t
  pub its_width : length (name_of t) ≡ 2
  pub its_letter : eqb (get_or (name_of t) 0 0) (code "H") ≡ is_holding t

pub row_of : (t : Terminator) → RowOf t
unfolding needed_table ends_table holdings_table terminator_number part member terminator_of terminator_at first_at
row_of Af = record { its_needs = refl; its_letters = refl; its_end = refl; its_holding = refl; its_name = refl; its_width = refl; its_letter = refl }
row_of Ca = record { its_needs = refl; its_letters = refl; its_end = refl; its_holding = refl; its_name = refl; its_width = refl; its_letter = refl }
row_of Cd = record { its_needs = refl; its_letters = refl; its_end = refl; its_holding = refl; its_name = refl; its_width = refl; its_letter = refl }
row_of Cf = record { its_needs = refl; its_letters = refl; its_end = refl; its_holding = refl; its_name = refl; its_width = refl; its_letter = refl }
row_of Ci = record { its_needs = refl; its_letters = refl; its_end = refl; its_holding = refl; its_name = refl; its_width = refl; its_letter = refl }
row_of Cr = record { its_needs = refl; its_letters = refl; its_end = refl; its_holding = refl; its_name = refl; its_width = refl; its_letter = refl }
row_of Df = record { its_needs = refl; its_letters = refl; its_end = refl; its_holding = refl; its_name = refl; its_width = refl; its_letter = refl }
row_of Fa = record { its_needs = refl; its_letters = refl; its_end = refl; its_holding = refl; its_name = refl; its_width = refl; its_letter = refl }
row_of Fc = record { its_needs = refl; its_letters = refl; its_end = refl; its_holding = refl; its_name = refl; its_width = refl; its_letter = refl }
row_of Fd = record { its_needs = refl; its_letters = refl; its_end = refl; its_holding = refl; its_name = refl; its_width = refl; its_letter = refl }
row_of Fm = record { its_needs = refl; its_letters = refl; its_end = refl; its_holding = refl; its_name = refl; its_width = refl; its_letter = refl }
row_of Ha = record { its_needs = refl; its_letters = refl; its_end = refl; its_holding = refl; its_name = refl; its_width = refl; its_letter = refl }
row_of Hf = record { its_needs = refl; its_letters = refl; its_end = refl; its_holding = refl; its_name = refl; its_width = refl; its_letter = refl }
row_of Hm = record { its_needs = refl; its_letters = refl; its_end = refl; its_holding = refl; its_name = refl; its_width = refl; its_letter = refl }
row_of If = record { its_needs = refl; its_letters = refl; its_end = refl; its_holding = refl; its_name = refl; its_width = refl; its_letter = refl }
row_of Pi = record { its_needs = refl; its_letters = refl; its_end = refl; its_holding = refl; its_name = refl; its_width = refl; its_letter = refl }
row_of Rf = record { its_needs = refl; its_letters = refl; its_end = refl; its_holding = refl; its_name = refl; its_width = refl; its_letter = refl }
row_of Tf = record { its_needs = refl; its_letters = refl; its_end = refl; its_holding = refl; its_name = refl; its_width = refl; its_letter = refl }
row_of Va = record { its_needs = refl; its_letters = refl; its_end = refl; its_holding = refl; its_name = refl; its_width = refl; its_letter = refl }
row_of Vd = record { its_needs = refl; its_letters = refl; its_end = refl; its_holding = refl; its_name = refl; its_width = refl; its_letter = refl }
row_of Vi = record { its_needs = refl; its_letters = refl; its_end = refl; its_holding = refl; its_name = refl; its_width = refl; its_letter = refl }
row_of Vm = record { its_needs = refl; its_letters = refl; its_end = refl; its_holding = refl; its_name = refl; its_width = refl; its_letter = refl }
row_of Vr = record { its_needs = refl; its_letters = refl; its_end = refl; its_holding = refl; its_name = refl; its_width = refl; its_letter = refl }

-- a letter is needed exactly when it stands in the terminator's line of the table
pub row_needs : (t : Terminator) (b : ℕ) → in_line needed_table (terminator_number t) b ≡ member b (needed t)
row_needs t b =
    split (eqb b 32) (λ e. let q : b ≡ 32 = eqb-true b 32 e in rw q (sym (row_of t).its_letters))
    (λ e.
    rw (e, (row_of t).its_needs, member_append b (needed t) (replicate (8 - length (needed t)) 32))
    (ap (λ (x : Bool). member b (needed t) || x) (member_replicate b 32 (8 - length (needed t)) (λ q. eqb-false b 32 e (sym q)))
    ∙ or-false (member b (needed t))))

-- ---- the list

-- each terminator has the number of its place
abbrev numbered : ℕ → Bool
numbered i = eqb (terminator_number (terminator_at i)) i

all_numbered : every numbered (below 23) ≡ true
unfolding every below terminator_at in_order terminator_number
all_numbered = refl

-- entry i of the list is the name of terminator i, and its number is i
pub in_place : (i : ℕ) → i < 23 → (get_or (texts terminators) i [] ≡ name_of (terminator_at i)) × (terminator_number (terminator_at i) ≡ i)
unfolding name_of
in_place i h =
    let n : terminator_number (terminator_at i) ≡ i = eqb-true (terminator_number (terminator_at i)) i (each_below numbered 23 all_numbered i h) in
    (ap (λ (k : ℕ). get_or (texts terminators) k []) (sym n), n)

-- what is found at a place of the list is the terminator of that place
pub found : (f : List ℕ) (n : ℕ) {t : Terminator} → n ≡ found_at f → t ≡ terminator_at n → t ≡ terminator_of f
unfolding terminator_of
found f n e h = h ∙ ap terminator_at e

-- a list is its first bytes, as many as it has
pub whole : (n : ℕ) (xs : List ℕ) → length xs ≡ n → part n 0 xs ≡ xs
whole n xs h = subst (λ (m : ℕ). part m 0 xs ≡ xs) h (part_all xs)

-- within the order no default is asked for
pub in_order_lem : (n : ℕ) (d : Terminator) → n < 23 → get_or in_order n d ≡ terminator_at n
unfolding terminator_at in_order
in_order_lem n d h = get_or_any in_order n d Vr h

-- past the last one it is the last one
pub past : (n : ℕ) → 23 ≤ n → terminator_at n ≡ Vr
unfolding terminator_at in_order
past n h = get_or-eq_default in_order Vr h

-- ---- what is found in it

-- the number of a terminator is a place of the list
pub number_within : (t : Terminator) → terminator_number t < 23
unfolding terminator_of terminator_number
number_within t = by (dec_lt place 23)
  where
    place : ℕ
    place = found_at (name_of t)

    by : Dec (place < 23) → terminator_number t < 23
    by (yes h) = let e : terminator_number t ≡ place = ap terminator_number (sym (row_of t).its_name) ∙ (in_place place h).1 in omega arith
    by (no h) = let e : terminator_number t ≡ 22 = ap terminator_number (sym (row_of t).its_name ∙ past place (omega arith)) in omega arith

-- what is found at a place stands there
stands_there : (f : List ℕ) → found_at f < 23 → f ≡ get_or (texts terminators) (found_at f) []
stands_there f h = (equal_iff f _).0 (first_passes (equal f) (texts terminators) [] (rw there_are_23 h))

-- bytes are found at the number of a terminator exactly when they are its name
pub found_iff : (f : List ℕ) (t : Terminator) → (found_at f ≡ terminator_number t) ↔ (f ≡ name_of t)
unfolding name_of
found_iff f t = (to, from)
  where
    place : ℕ
    place = found_at f

    to : place ≡ terminator_number t → f ≡ name_of t
    to e = stands_there f (omega (arith, number_within t)) ∙ ap (λ (k : ℕ). get_or (texts terminators) k []) e

    from : f ≡ name_of t → place ≡ terminator_number t
    from e = by (dec_lt (terminator_number t) place)
      where
        by : Dec (terminator_number t < place) → place ≡ terminator_number t
        by (yes k) = absurd (false≢true (sym (first_before (equal f) (texts terminators) [] (terminator_number t) k) ∙ (equal_iff f (name_of t)).1 e))
        by (no k) =
            let h : place < 23 = omega (arith, number_within t) in
            once place (terminator_number t) h (number_within t) (sym (stands_there f h) ∙ e)

-- the names of the list are those of the terminators, in their order
names_are : texts terminators ≡ map name_of in_order
unfolding terminators texts codes name_of terminator_number in_order
names_are = refl

named_of : (ts : List Terminator) (f : List ℕ) → Memᴰ f (map name_of ts) → (t : Terminator) × (f ≡ name_of t)
named_of [] f m = absurd (Memᴰ.not-nil m)
named_of (t ∷ ts) f m = ⊎_elim (λ e. (t, e)) (named_of ts f) (Memᴰ.cases_cons m)

-- a name of the list is the name of a terminator
pub named : (f : List ℕ) → OneOf terminators f → (t : Terminator) × (f ≡ name_of t)
named f m = named_of in_order f (rw names_are at m)

-- what stands at a place of a list is one of it
entry_among : {A : Type 0} (xs : List A) (d : A) (i : ℕ) → i < length xs → Memᴰ (get_or xs i d) xs
entry_among [] d i h = absurd (not-suc-le-zero h)
entry_among (x ∷ xs) d zero h = Memᴰ.head refl
entry_among (x ∷ xs) d (suc i) h = Memᴰ.tail (entry_among xs d i (le_of_suc-le-suc h))

-- bytes are found in the list exactly when they are one of the 23 names
pub recognised_iff : (f : List ℕ) → (found_at f < 23) ↔ OneOf terminators f
recognised_iff f = (to, from)
  where
    to : found_at f < 23 → OneOf terminators f
    to h = Memᴰ.cast (stands_there f h) (entry_among (texts terminators) [] (found_at f) (rw there_are_23 h))

    from : OneOf terminators f → found_at f < 23
    from m = let r = named f m in omega (arith, (found_iff f r.0).1 r.1, number_within r.0)

-- the code names those that end at a fix, and the holdings, one by one
pub ends : (t : Terminator) → (t ≡ If) ⊎ (t ≡ Tf) ⊎ (t ≡ Cf) ⊎ (t ≡ Df) ⊎ (t ≡ Af) ⊎ (t ≡ Rf) ⊎ (t ≡ Ha) ⊎ (t ≡ Hf) ⊎ (t ≡ Hm) → true ≡ ends_at_fix t
unfolding ends_at_fix among name_of terminator_number texts codes terminators equal order
ends t (inl e) = rw e
ends t (inr (inl e)) = rw e
ends t (inr (inr (inl e))) = rw e
ends t (inr (inr (inr (inl e)))) = rw e
ends t (inr (inr (inr (inr (inl e))))) = rw e
ends t (inr (inr (inr (inr (inr (inl e)))))) = rw e
ends t (inr (inr (inr (inr (inr (inr (inl e))))))) = rw e
ends t (inr (inr (inr (inr (inr (inr (inr (inl e)))))))) = rw e
ends t (inr (inr (inr (inr (inr (inr (inr (inr e)))))))) = rw e

pub ends_not : (t : Terminator) → (t ≡ If → ⊥) → (t ≡ Tf → ⊥) → (t ≡ Cf → ⊥) → (t ≡ Df → ⊥) → (t ≡ Af → ⊥) → (t ≡ Rf → ⊥) → (t ≡ Ha → ⊥) → (t ≡ Hf → ⊥) → (t ≡ Hm → ⊥) → false ≡ ends_at_fix t
unfolding ends_at_fix among name_of terminator_number texts codes terminators equal order
ends_not If n _ _ _ _ _ _ _ _ = absurd (n refl)
ends_not Tf _ n _ _ _ _ _ _ _ = absurd (n refl)
ends_not Cf _ _ n _ _ _ _ _ _ = absurd (n refl)
ends_not Df _ _ _ n _ _ _ _ _ = absurd (n refl)
ends_not Af _ _ _ _ n _ _ _ _ = absurd (n refl)
ends_not Rf _ _ _ _ _ n _ _ _ = absurd (n refl)
ends_not Ha _ _ _ _ _ _ n _ _ = absurd (n refl)
ends_not Hf _ _ _ _ _ _ _ n _ = absurd (n refl)
ends_not Hm _ _ _ _ _ _ _ _ n = absurd (n refl)
ends_not _ _ _ _ _ _ _ _ _ _ = refl

pub holds : (t : Terminator) → (t ≡ Ha) ⊎ (t ≡ Hf) ⊎ (t ≡ Hm) → true ≡ is_holding t
unfolding is_holding among name_of terminator_number texts codes terminators equal order
holds t (inl e) = rw e
holds t (inr (inl e)) = rw e
holds t (inr (inr e)) = rw e

pub holds_not : (t : Terminator) → (t ≡ Ha → ⊥) → (t ≡ Hf → ⊥) → (t ≡ Hm → ⊥) → false ≡ is_holding t
unfolding is_holding among name_of terminator_number texts codes terminators equal order
holds_not Ha n _ _ = absurd (n refl)
holds_not Hf _ n _ = absurd (n refl)
holds_not Hm _ _ n = absurd (n refl)
holds_not _ _ _ _ = refl
