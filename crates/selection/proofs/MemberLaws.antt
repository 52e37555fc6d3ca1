-- Laws of what a pick is put together from: sources with zeros past them, the marked numbers, and the record of one line.
-- Assumes nothing.
use Rattle.refusals.specs.Table.{Accepted, Refused}
use mathlib.Core.Path.{◌≡◌, refl, sym, ap, ap₂, subst, ◌∙◌}
use mathlib.Core.Bool.{true, false}
use mathlib.Core.List.{List, [], ◌∷◌, ◌++◌, map}
use Prim.Native.Nat.{ℕ, zero, suc, ◌+◌, ◌-◌, ◌≤◌, ◌<◌, min}
use native.Mathlib.Omega.{arith}
use lib.ListN.{length, get_or, take, replicate, length-append, length-map, get_or-eq_default, get_or-map}
use lib.Seq.{take_all}
use lib.Dec.{eqb, leb}
use borrow.Author.Tests.{eqb-true, eqb-false, ne_eqb, leb-true, leb-false}
use Rattle.slices.proofs.Cases.{split}
use Rattle.slices.proofs.PartLaws.{one_less, get_or_any}
use Rattle.slices.proofs.WriteLaws.{sets-append, stored_front}
use Rattle.refusals.specs.declared.Refusal.{Refusal}
use Rattle.history.specs.Sets.{Numbers}
use Rattle.slices.specs.Part.{member}
use Rattle.routes.specs.Places.{Every}
use Rattle.routes.specs.Sources.{record_at, in_use}
use Rattle.routes.specs.declared.Sources.{Sources}
use Rattle.selection.specs.Pick.{members_from, with_members, members_as, line_in, line_of_pick}
use Rattle.selection.specs.declared.Picked.{Picked}
use Rattle.selection.specs.declared.carry.Members.{Members}

-- ---- the marked numbers

grown_twice : (m : Members) (xs ys : List ℕ) → with_members (with_members m xs) ys ≡ with_members m (xs ++ ys)
unfolding with_members
grown_twice m xs ys =
    ap₂ (λ (x : ℕ) (zs : List ℕ). record { count = x; at = zs }) (let e : m.count + length xs + length ys ≡ m.count + length (xs ++ ys) = omega (arith, length-append xs ys) in e)
    (sym (sets-append xs ys m.at m.count))

pub members_few : (T : Numbers) (n m : ℕ) → length (members_from T n m) ≤ m
unfolding members_from
members_few T n zero = omega arith
members_few T n (suc m) = split (T n) (λ t. rw t (omega (arith, members_few T (n + 1) m))) (λ t. rw t (omega (arith, members_few T (n + 1) m)))

-- the numbers from n + 1 on are left
module _ (T : Numbers) (total n : ℕ) (found : Members) where
  unfoldable pub members_left : Members
  members_left = with_members found (members_from T (n + 1) (total - n))

  pub members_end : {whole : Members} → whole ≡ members_left → total ≤ n → found ≡ whole
  unfolding members_left members_from with_members
  members_end w h = let z : total - n ≡ 0 = omega arith in let c : found.count + 0 ≡ found.count = omega arith in sym (w ∙ rw (z, c))

pub members_start : (T : Numbers) (total : ℕ) → total ≤ 200 → members_as (members_from T 1 total) ≡ members_left T total 0 (record { count = 0; at = replicate 200 0 })
unfolding members_left with_members members_as
members_start T total h =
    let e : total - 0 ≡ total = omega arith in
    let z : 0 + length (members_from T 1 total) ≡ length (members_from T 1 total) = omega arith in
    sym (rw (e, z) (ap (λ (xs : List ℕ). record { count = length (members_from T 1 total); at = xs }) (stored_front 0 200 (members_from T 1 total) (omega (arith, members_few T 1 total)))))

module _ (T : Numbers) (total n : ℕ) (found : Members) (few : found.count ≤ n) {whole : Members} (w : whole ≡ members_left T total n found) (h : n < total) where
  pub members_found : T (n + 1) ≡ true → {next : Members} → next ≡ with_members found ((n + 1) ∷ [])
      → (next.count ≤ n + 1) × (whole ≡ members_left T total (n + 1) next)
  unfolding members_left members_from with_members
  members_found t {next} e =
      let one : found.count + 1 ≤ n + 1 = omega arith in (
        subst (λ (m : Members). m.count ≤ n + 1) (sym e) one,
        w ∙ rw (one_less total n h, t) (sym (grown_twice found ((n + 1) ∷ []) (members_from T (n + 1 + 1) (total - (n + 1)))))
            ∙ ap (λ (m : Members). with_members m (members_from T (n + 1 + 1) (total - (n + 1)))) (sym e),
      )

  pub members_passed : T (n + 1) ≡ false → {next : Members} → next ≡ found → (next.count ≤ n + 1) × (whole ≡ members_left T total (n + 1) next)
  unfolding members_left members_from
  members_passed t {next} e = (
    subst (λ (m : Members). m.count ≤ n + 1) (sym e) (omega arith),
    w ∙ rw (one_less total n h, t, e),
  )

-- ---- the members themselves

-- a number is among the members of a set exactly when it is in the set, where it is one of those asked for
no_member : (T : Numbers) (n m k : ℕ) → k < n → member k (members_from T n m) ≡ false
unfolding member members_from
no_member T n zero k h = refl
no_member T n (suc m) k h =
    split (T n) (λ t. rw (t, ne_eqb n k (λ (z : n ≡ k). omega arith)) (no_member T (n + 1) m k (omega arith)))
    (λ t. rw t (no_member T (n + 1) m k (omega arith)))

pub is_member : (T : Numbers) (n m k : ℕ) → n ≤ k → k < n + m → member k (members_from T n m) ≡ T k
unfolding member members_from
is_member T n zero k h j = absurd (omega arith)
is_member T n (suc m) k h j =
    split (eqb n k)
    (λ e.
    let q : n ≡ k = eqb-true n k e in
    split (T n) (λ t. rw (t, e) (sym (ap T (sym q) ∙ t))) (λ t. rw t (no_member T (n + 1) m k (omega arith) ∙ sym (ap T (sym q) ∙ t))))
    (λ e.
    let d : n ≡ k → ⊥ = eqb-false n k e in
    let ih : member k (members_from T (n + 1) m) ≡ T k = is_member T (n + 1) m k (omega arith) (omega arith) in
    split (T n) (λ t. rw (t, e) ih) (λ t. rw t ih))

-- each is a number of the set, and one of those that were asked about
abbrev pub Member : Numbers → (n m p : ℕ) → Type 0
Member T n m p = (n ≤ p) × (p < n + m) × (T p ≡ true)

pub members_are : (T : Numbers) (n m : ℕ) → Every (Member T n m) (members_from T n m)
unfolding members_from
members_are T n zero = tt
members_are T n (suc m) =
    let rest = wider (members_from T (n + 1) m) (members_are T (n + 1) m) in
    split (T n) (λ t. rw t ((omega arith, omega arith, t), rest)) (λ t. rw t rest)
  where
    wider : (xs : List ℕ) → Every (Member T (n + 1) m) xs → Every (Member T n (suc m)) xs
    wider [] h = tt
    wider (x ∷ xs) h = ((omega (arith, h.0.0), omega (arith, h.0.1), h.0.2), wider xs h.1)

-- ---- the record of a line

module _ (f l : List ℕ) (s : Sources) where
  pub line_zero : (n : ℕ) → n ≡ 0 → [] ≡ line_in f l s n
  unfolding line_in
  line_zero n e = rw e

  module _ {m : ℕ} (e : m ≡ min s.count 480) (long : length s.at ≡ 480) where
    used : take m s.at ≡ in_use s
    unfolding in_use
    used =
        split (leb s.count 480)
        (λ t. let h = leb-true s.count 480 t in let z : m ≡ s.count = omega (arith, e) in rw z)
        (λ t.
        let h = leb-false s.count 480 t in
        take_all m s.at (omega (arith, e)) ∙ sym (take_all s.count s.at (omega arith)))

    pub line_past : (n : ℕ) → (n ≡ 0 → ⊥) → length (take m s.at) ≤ n - 1 → [] ≡ line_in f l s n
    unfolding line_in
    line_past zero z h = absurd (z refl)
    line_past (suc n) z h =
        sym (get_or-eq_default (map (record_at f l) (in_use s)) [] (omega (arith, length-map (in_use s) (record_at f l), ap length used)))

    pub line_is : (n : ℕ) → (n ≡ 0 → ⊥) → n - 1 < length (take m s.at) → record_at f l (get_or (take m s.at) (n - 1) 0) ≡ line_in f l s n
    unfolding line_in
    line_is zero z h = absurd (z refl)
    line_is (suc n) z h =
        let k : suc n - 1 ≡ n = omega arith in
        rw k (sym (get_or_any (map (record_at f l) (in_use s)) n [] (record_at f l 0) (omega (arith, length-map (in_use s) (record_at f l), ap length used))
        ∙ get_or-map (record_at f l) (in_use s) n 0 ∙ ap (λ (xs : List ℕ). record_at f l (get_or xs n 0)) (sym used)))

module _ (f l : List ℕ) (n : ℕ) where
  pub line_accepted : (p : Picked) {r : List ℕ} → p.verdict ≡ Accepted → r ≡ line_in f l p.records n → r ≡ line_of_pick f l p n
  unfolding line_of_pick
  line_accepted p a e = rw a e

  pub line_refused : (p : Picked) {x : Refusal} → p.verdict ≡ Refused x → [] ≡ line_of_pick f l p n
  unfolding line_of_pick
  line_refused p a = rw a

  -- a line of the same pick
  pub line_of_pick_lem : {p q : Picked} {r : List ℕ} → r ≡ line_of_pick f l p n → p ≡ q → r ≡ line_of_pick f l q n
  line_of_pick_lem e h = e ∙ ap (λ (x : Picked). line_of_pick f l x n) h
