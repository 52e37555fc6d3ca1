-- Laws of reasons as the code finds them, and that they are those of the definition.
-- Assumes nothing.
use Rattle.std.specs.Prelude.{Some, None, unwrap_or}
use Rattle.std.specs.Option.{UnwrapsOrElse}
use Rattle.std.specs.Prelude as std
use mathlib.Core.Path.{◌≡◌, refl, sym, ap, ap₂, subst, ◌∙◌}
use mathlib.Core.Bool.{Bool, true, false, cond, ◌&&◌, ◌||◌}
use mathlib.Core.List.{List, [], ◌∷◌, map}
use mathlib.Core.Option.{Option, none, some}
use Prim.Native.Nat.{ℕ, zero, suc, ◌+◌, ◌-◌, ◌≤◌, ◌<◌}
use native.Mathlib.Omega.{arith}
use native.Mathlib.Nat.{sub-zero}
use lib.Dec.{eqb}
use lib.ListN.{length, get_or, take, drop, set, replicate, length-map, length-set, drop_of_length-le}
use lib.Seq.{sets, drop-cons, get_or-take, get_or-set_same, get_or-set_other, take_at, length-take-le}
use borrow.Author.Tests.{eqb-true, eqb-false, eq-eqb}
use Rattle.slices.specs.Part.{member, padded}
use Rattle.slices.proofs.Cases.{or_left, or_right}
use Rattle.slices.proofs.PartLaws.{one_less, zero_at}
use Rattle.slices.proofs.WriteLaws.{stored_front}
use Rattle.corrections.specs.declared.Entry.{Entry}
use Rattle.corrections.specs.declared.Index.{Index}
use Rattle.routes.specs.Places.{Every}
use Rattle.history.specs.Sets.{Numbers, numbered, last_on}
use Rattle.applying.specs.Apply.{entry_at, source_of}
use Rattle.applying.specs.Procedures.{procedures}
use Rattle.applying.specs.Run.{marked}
use Rattle.selection.specs.Pick.{wants, members_from, members_as, taken_of}
use Rattle.selection.specs.Reasons.{Reason, relies_on, first_relying, reason_of, reasons_by, no_naming, naming_as, relying_of, relying_source, reasons_with, Asked, named_from, named_unless, named_with}
use Rattle.selection.specs.declared.Explained.{Explained}
use Rattle.selection.specs.declared.carry.Members.{Members}
use Rattle.selection.specs.declared.explaining.Naming.{Naming}
use Rattle.selection.proofs.GroupLaws.{ByCorrection}
use Rattle.selection.proofs.IndexLaws.{no_line, owner_at, entry_at_lem, correction_at}
use Rattle.selection.proofs.LastLaws.{route_in}
use Rattle.selection.proofs.MemberLaws.{Member, members_are}
use Rattle.selection.proofs.TakenLaws.{index, relied, L, count_lines, length_log, line}

-- ---- the marks of the wanted numbers, of which those from k on are left

abbrev pub AskedFrom : (wanted marks : List ℕ) (k : ℕ) → Type 0
AskedFrom ws marks k = (length marks ≡ 201) × ((i : ℕ) → i < 201 → wants ws i ≡ (marked marks i || member i (drop k ws)))

pub asked_start : (ws : List ℕ) → AskedFrom ws (replicate 201 0) 0
unfolding wants marked
asked_start ws = (refl, λ i h. ap (λ (b : ℕ). eqb b 1 || member i ws) (sym (zero_at 201 i)))

module _ (ws marks : List ℕ) (k : ℕ) (a : AskedFrom ws marks k) where
  pub asked_end : length ws ≤ k → Asked ws marks
  unfolding member
  asked_end h i n = sym (a.1 i n ∙ ap (λ (xs : List ℕ). marked marks i || member i xs) (drop_of_length-le ws h) ∙ last (marked marks i))
    where
      last : (b : Bool) → (b || false) ≡ b
      last true = refl
      last false = refl

  pub asked_next : k < length ws → (next : List ℕ) → next ≡ set marks (get_or ws k 0 + 0) 1 → AskedFrom ws next (k + 1)
  unfolding member marked
  asked_next h next e =
      let z : get_or ws k 0 + 0 ≡ get_or ws k 0 = omega arith in
      let q : next ≡ set marks (get_or ws k 0) 1 = e ∙ ap (λ (j : ℕ). set marks j 1) z in
      let s : suc k ≡ k + 1 = omega arith in (
        ap length q ∙ length-set marks (get_or ws k 0) 1 ∙ a.0,
        λ i n. a.1 i n ∙ ap (λ (xs : List ℕ). marked marks i || member i xs) (drop-cons ws k 0 h ∙ ap (λ (j : ℕ). get_or ws k 0 ∷ drop j ws) s)
            ∙ by i (eqb (get_or ws k 0) i) refl (omega (arith, a.0)) ∙ ap (λ (m : List ℕ). eqb (get_or m i 0) 1 || member i (drop (k + 1) ws)) (sym q),
      )
    where
      by : (i : ℕ) (t : Bool) → eqb (get_or ws k 0) i ≡ t → i < length marks
          → (eqb (get_or marks i 0) 1 || (eqb (get_or ws k 0) i || member i (drop (k + 1) ws))) ≡ (eqb (get_or (set marks (get_or ws k 0) 1) i 0) 1 || member i (drop (k + 1) ws))
      by i true t n =
          let w = eqb-true (get_or ws k 0) i t in
          let one : get_or (set marks (get_or ws k 0) 1) i 0 ≡ 1 = ap (λ (j : ℕ). get_or (set marks j 1) i 0) w ∙ get_or-set_same marks i 1 0 n in
          or_right (eqb (get_or marks i 0) 1) (eqb (get_or ws k 0) i || member i (drop (k + 1) ws)) (or_left (eqb (get_or ws k 0) i) (member i (drop (k + 1) ws)) t)
          ∙ sym (or_left (eqb (get_or (set marks (get_or ws k 0) 1) i 0) 1) (member i (drop (k + 1) ws)) (eq-eqb (get_or (set marks (get_or ws k 0) 1) i 0) 1 one))
      by i false t n =
          let other : get_or (set marks (get_or ws k 0) 1) i 0 ≡ get_or marks i 0 = get_or-set_other marks (get_or ws k 0) i 1 0 (λ (e : i ≡ get_or ws k 0). eqb-false (get_or ws k 0) i t (sym e)) in
          rw (t, other)

-- ---- the first line that names a number, from line k on

module _ (index : Index) (relied marks : List ℕ) (p : ℕ) where
  pub named_start : named_from index relied marks p 0 index.count ≡ named_from index relied marks p 0 (index.count - 0)
  named_start = rw sub-zero

  module _ (count k : ℕ) {whole : std.Option Naming} (w : whole ≡ named_from index relied marks p k (count - k)) where
    pub named_end : count ≤ k → None ≡ whole
    unfolding named_from
    named_end h = let z : count - k ≡ 0 = omega arith in sym (w ∙ rw z)

    module _ (h : k < count) {b : Bool} (m : b ≡ marked marks (entry_at index k).correction) where
      turn : whole ≡ cond (b && eqb (get_or relied k 0) p) (Some (record { relying = (entry_at index k).correction; source = source_of (entry_at index k) })) (named_from index relied marks p (k + 1) (count - (k + 1)))
      unfolding named_from
      turn = w ∙ rw (one_less count k h, m)

      pub named_found : (b && eqb (get_or relied k 0) p) ≡ true → {s : ℕ} → s ≡ source_of (entry_at index k) → Some (record { relying = (entry_at index k).correction; source = s }) ≡ whole
      named_found t e = ap (λ (x : ℕ). Some (record { relying = (entry_at index k).correction; source = x })) e ∙ sym (turn ∙ rw t)

      pub named_next : (b && eqb (get_or relied k 0) p) ≡ false → whole ≡ named_from index relied marks p (k + 1) (count - (k + 1))
      named_next t = turn ∙ rw t

-- ---- none for a number that is asked for

module _ (x : std.Option Naming) {b t : Bool} (m : b ≡ t) where
  pub asked : b ≡ true → None ≡ cond t None x
  asked e = rw (sym m ∙ e)

  pub not_asked : b ≡ false → {y : std.Option Naming} → y ≡ x → y ≡ cond t None x
  not_asked e q = rw (sym m ∙ e) q

-- zeros where there is none
pub or_default : (o : std.Option Naming) (P : Naming → Type 0) (x : Naming) → UnwrapsOrElse o P x → (P x → x ≡ no_naming) → x ≡ unwrap_or o no_naming
or_default None P x h f = f h
or_default (Some y) P x h f = h

-- ---- a number for each of some others, from the one at i on

module _ (g : ℕ → ℕ) (ns : List ℕ) where
  fill_start : length ns ≤ 200 → padded 200 (map g ns) ≡ sets (replicate 200 0) 0 (map g ns)
  fill_start h = sym (stored_front 0 200 (map g ns) (omega (arith, length-map ns g)))

  module _ (i : ℕ) {whole : List ℕ} (xs : List ℕ) (w : whole ≡ sets xs i (map g (drop i ns))) where
    fill_end : length ns ≤ i → xs ≡ whole
    fill_end h = sym (w ∙ ap (λ (ys : List ℕ). sets xs i (map g ys)) (drop_of_length-le ns h))

    fill_next : i < length ns → {x : ℕ} → x ≡ g (get_or ns i 0) → whole ≡ sets (set xs i x) (i + 1) (map g (drop (i + 1) ns))
    fill_next h {x} e =
        let s : suc i ≡ i + 1 = omega arith in
        w ∙ ap (λ (ys : List ℕ). sets xs i (map g ys)) (drop-cons ns i 0 h)
        ∙ ap₂ (λ (y j : ℕ). sets (set xs i y) j (map g (drop j ns))) (sym e) s

module _ (index : Index) (relied marks asked : List ℕ) (m : Members) where
  abbrev ns : List ℕ
  ns = take m.count m.at

  abbrev named : ℕ → Naming
  named p = unwrap_or (named_unless index relied marks asked p) no_naming

  abbrev relying_for : ℕ → ℕ
  relying_for p = (named p).relying

  abbrev source_for : ℕ → ℕ
  source_for p = (named p).source

  -- what is found of all of them, and what is left to be put behind what was found
  pub record Filled (relying source : List ℕ) (i : ℕ) : Type 0 where
    pub those : padded 200 (map relying_for ns) ≡ sets relying i (map relying_for (drop i ns))
    pub these : padded 200 (map source_for ns) ≡ sets source i (map source_for (drop i ns))

  module _ (few : m.count ≤ 200) (long : length m.at ≡ 200) where
    many : length ns ≡ m.count
    many = length-take-le m.count m.at (omega arith)

    pub filled_start : Filled (replicate 200 0) (replicate 200 0) 0
    filled_start = record { those = fill_start relying_for ns (omega (arith, many)); these = fill_start source_for ns (omega (arith, many)) }

    pub filled_next : (relying source : List ℕ) (i : ℕ) → Filled relying source i → i < m.count → (x : Naming) → x ≡ named (get_or m.at i 0)
        → Filled (set relying i x.relying) (set source i x.source) (i + 1)
    filled_next relying source i f h x e =
        let p : x ≡ named (get_or ns i 0) = e ∙ ap named (sym (get_or-take m.count m.at i 0 h)) in
        record {
          those = fill_next relying_for ns i relying f.those (omega (arith, many)) (ap (λ (y : Naming). y.relying) p);
          these = fill_next source_for ns i source f.these (omega (arith, many)) (ap (λ (y : Naming). y.source) p);
        }

    pub filled_end : (x : Explained) → x.count ≡ m.count → x.taken ≡ m.at → (i : ℕ) → Filled x.relying x.source i → m.count ≤ i
        → x ≡ named_with index relied marks asked m
    unfolding named_with
    filled_end x c t i f h =
        rw (c, t, fill_end relying_for ns i x.relying f.those (omega (arith, many)), fill_end source_for ns i x.source f.these (omega (arith, many)))

-- ---- the reasons of the definition

module _ (f l : List ℕ) (n : ℕ) (es : List Entry) (b : ByCorrection n es) (ws marks asked : List ℕ)
    (t : (i : ℕ) → i < n → marked marks (1 + i) ≡ taken_of f l n es ws (1 + i)) (a : Asked ws asked) where
  abbrev T : Numbers
  T = taken_of f l n es ws

  -- a line is tested by the marks and by what it names as the definition tests it
  same_test : (p k : ℕ) → k < length es
      → (marked marks (entry_at (index f l n es b) k).correction && eqb (get_or (relied f l n es b) k 0) p) ≡ relies_on f l T (L f l n es b) p (get_or es k no_line)
  same_test p k h =
      let ln = line f l n es b k h in
      let c : (get_or es k no_line).correction ≡ suc ln.group = sym (correction_at n es k) ∙ ln.owner in
      let g : (get_or es k no_line).correction - 1 ≡ ln.group = omega (arith, c) in
      let s : 1 + ln.group ≡ suc ln.group = omega arith in
      let m : marked marks (entry_at (index f l n es b) k).correction ≡ T (get_or es k no_line).correction =
      ap (marked marks) (sym (owner_at _ k) ∙ ln.owner) ∙ subst (λ (j : ℕ). marked marks j ≡ T j) s (t ln.group (omega (arith, ln.among, length_log f l n es b))) ∙ ap T (sym c) in
      let q : get_or (relied f l n es b) k 0 ≡ last_on procedures (numbered (L f l n es b)) (route_in f l (get_or es k no_line)) ((get_or es k no_line).correction - 1) =
      ln.last ∙ ap (last_on procedures (numbered (L f l n es b)) (route_in f l (get_or es k no_line))) (sym g) in
      ap₂ (λ (x : Bool) (y : ℕ). x && eqb y p) m q

  named_first : (p k m : ℕ) → k + m ≡ length es
      → named_from (index f l n es b) (relied f l n es b) marks p k m ≡ naming_as (first_relying f l T (L f l n es b) p (drop k es))
  unfolding named_from first_relying
  named_first p k zero h = let q : length es ≤ k = omega arith in ap (λ (xs : List Entry). naming_as (first_relying f l T (L f l n es b) p xs)) (sym (drop_of_length-le es q))
  named_first p k (suc m) h =
      let below : k < length es = omega arith in
      let s : suc k ≡ k + 1 = omega arith in
      let d : drop k es ≡ get_or es k no_line ∷ drop (k + 1) es = drop-cons es k no_line below ∙ ap (λ (j : ℕ). get_or es k no_line ∷ drop j es) s in
      let here : Some (record { relying = (entry_at (index f l n es b) k).correction; source = source_of (entry_at (index f l n es b) k) }) ≡ naming_as (some (get_or es k no_line)) =
      ap (λ (e : Entry). Some (record { relying = e.correction; source = source_of e })) (entry_at_lem n es k) in
      ap₂ (λ (x : Bool) (y : std.Option Naming). cond x y (named_from (index f l n es b) (relied f l n es b) marks p (k + 1) m)) (same_test p k below) here
      ∙ ap (cond (relies_on f l T (L f l n es b) p (get_or es k no_line)) (naming_as (some (get_or es k no_line)))) (named_first p (k + 1) m (omega arith))
      ∙ either (relies_on f l T (L f l n es b) p (get_or es k no_line)) (get_or es k no_line) (first_relying f l T (L f l n es b) p (drop (k + 1) es))
      ∙ ap (λ (xs : List Entry). naming_as (first_relying f l T (L f l n es b) p xs)) (sym d)
    where
      either : (x : Bool) (e : Entry) (o : Option Entry) → cond x (naming_as (some e)) (naming_as o) ≡ naming_as (cond x (some e) o)
      either true e o = refl
      either false e o = refl

  -- what is found for a number is the reason of the definition
  same_reason : (p : ℕ) → p < 201 → named_unless (index f l n es b) (relied f l n es b) marks asked p ≡ naming_as (reason_of f l n es ws p).line
  unfolding reason_of
  same_reason p h =
      ap₂ (λ (x : Bool) (y : std.Option Naming). cond x None y) (a p h) (ap (named_from (index f l n es b) (relied f l n es b) marks p 0) (count_lines f l n es b) ∙ named_first p 0 (length es) (omega arith))
      ∙ either (wants ws p) (first_relying f l T (L f l n es b) p es)
    where
      either : (x : Bool) (o : Option Entry) → cond x None (naming_as o) ≡ naming_as (cond x none o)
      either true o = refl
      either false o = refl

  over : (g : ℕ → ℕ) (h : Reason → ℕ) (ps : List ℕ) → Every (Member T 1 n) ps → ((p : ℕ) → p < 201 → g p ≡ h (reason_of f l n es ws p))
      → map g ps ≡ map h (map (reason_of f l n es ws) ps)
  over g h [] e q = refl
  over g h (p ∷ ps) e q = ap₂ (λ (x : ℕ) (xs : List ℕ). x ∷ xs) (q p (omega (arith, e.0.1, b.few))) (over g h ps e.1 q)

  pub named_reasons : (m : Members) → m ≡ members_as (members_from T 1 n)
      → named_with (index f l n es b) (relied f l n es b) marks asked m ≡ reasons_with (reasons_by f l n es ws)
  unfolding named_with reasons_with reasons_by members_as reason_of
  named_reasons m e =
      let ps = members_from T 1 n in
      let w = members_are T 1 n in
      let out : take m.count m.at ≡ ps = ap (λ (x : Members). take x.count x.at) e ∙ take_at ps _ (length ps) refl in
      let own : ps ≡ map (λ (r : Reason). r.correction) (map (reason_of f l n es ws) ps) = sym (map-id ps) ∙ over (λ p. p) (λ (r : Reason). r.correction) ps w (λ p h. refl) in
      let fills : (g : ℕ → ℕ) (h : Reason → ℕ) → ((p : ℕ) → p < 201 → g p ≡ h (reason_of f l n es ws p)) → padded 200 (map g (take m.count m.at)) ≡ padded 200 (map h (map (reason_of f l n es ws) ps)) =
      λ g h q. ap (λ (xs : List ℕ). padded 200 (map g xs)) out ∙ ap (padded 200) (over g h ps w q) in
      parts (ap (λ (x : Members). x.count) e ∙ sym (length-map ps (reason_of f l n es ws))) (ap (λ (x : Members). x.at) e ∙ ap (padded 200) own)
      (fills _ relying_of (λ p h. ap (λ (x : std.Option Naming). (unwrap_or x no_naming).relying) (same_reason p h)))
      (fills _ relying_source (λ p h. ap (λ (x : std.Option Naming). (unwrap_or x no_naming).source) (same_reason p h)))
    where
      parts : {c d : ℕ} {xs ys zs us vs ts : List ℕ} → c ≡ d → xs ≡ us → ys ≡ vs → zs ≡ ts
          → ◌≡◌ {A = Explained} (record { count = c; taken = xs; relying = ys; source = zs }) (record { count = d; taken = us; relying = vs; source = ts })
      parts a b c d = rw (a, b, c, d)

      map-id : (xs : List ℕ) → map (λ (x : ℕ). x) xs ≡ xs
      map-id [] = refl
      map-id (x ∷ xs) = ap (λ (ys : List ℕ). x ∷ ys) (map-id xs)
