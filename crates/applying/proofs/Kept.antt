-- What lines, corrections and logs keep of a file's records, in the words of the theory of selection: their places rise, each has 132
-- bytes, and there is room for the records that are still to be put in.
-- Assumes nothing.
use mathlib.Core.Path.{◌≡◌}
use mathlib.Core.Bool.{cond}
use mathlib.Core.List.{List, [], ◌∷◌}
use mathlib.Core.Option.{Option, none, some, map}
use Prim.Native.Nat.{ℕ, suc, ◌+◌, ◌≤◌}
use native.Mathlib.Omega.{arith}
use lib.ListN.{length}
use Rattle.slices.proofs.Cases.{split}
use Rattle.routes.specs.Legal.{Wide}
use Rattle.routes.specs.Places.{place_of, Every}
use Rattle.history.specs.Format as H
use Rattle.history.specs.Bytes.{same?, before?}
use Rattle.history.specs.Apply.{Op, take_out, put_in, Correction, taken_out, put_into, apply, apply_all, touched_accepted, correct, run}
use Rattle.history.specs.Sets.{Numbers, choose_from}
use Rattle.history.proofs.Cases as C
use Rattle.history.proofs.Cases.{ite_case, cond_case, every_then}
use Rattle.history.proofs.Local.{rising_apply}
use Rattle.applying.specs.Procedures.{procedures}

-- ---- what lines bring

-- the record of a line, and how many records it adds
abbrev pub record_in : Op (List ℕ) → List ℕ
record_in (take_out r) = r
record_in (put_in r) = r

abbrev pub adds : Op (List ℕ) → ℕ
adds (take_out r) = 0
adds (put_in r) = 1

-- how many the lines of a correction put in, and those of a log
unfoldable pub adds_all : Correction procedures → ℕ
adds_all [] = 0
adds_all (o ∷ c) = adds o + adds_all c

unfoldable pub adds_in : List (Correction procedures) → ℕ
adds_in [] = 0
adds_in (c ∷ cs) = adds_all c + adds_in cs

-- the records of all lines have 132 bytes
abbrev pub WideLines : Correction procedures → Type 0
WideLines c = Every (λ (o : Op (List ℕ)). Wide (record_in o)) c

abbrev pub WideLog : List (Correction procedures) → Type 0
WideLog cs = Every WideLines cs

-- ---- what is kept

-- Places rise, every record has 132 bytes, and with so many more there are at most 480.
pub record Placed (rs : List (List ℕ)) (more : ℕ) : Type 0 where
  pub rises : H.Rising procedures rs
  pub wide : Every Wide rs
  pub few : length rs + more ≤ 480

pub placed_less : {rs : List (List ℕ)} {more : ℕ} (less : ℕ) → Placed rs more → less ≤ more → Placed rs less
placed_less less p h = record { rises = p.rises; wide = p.wide; few = omega (arith, p.few) }

-- the records of a result are wide, and so many at most
abbrev Few : ℕ → List (List ℕ) → Type 0
Few n rs = Every Wide rs × (length rs ≤ n)

few_push : (n : ℕ) (x : List ℕ) (o : Option (List (List ℕ))) → Wide x → C.Every (Few n) o
    → C.Every (Few (suc n)) (map (λ (g : List (List ℕ)). x ∷ g) o)
unfolding C.Every
few_push n x none w e = tt
few_push n x (some g) w e = ((w, e.0), omega (arith, e.1))

few_taken : (r : List ℕ) (rs : List (List ℕ)) → Every Wide rs → C.Every (Few (length rs)) (taken_out procedures r rs)
unfolding taken_out C.Every
few_taken r [] w = tt
few_taken r (x ∷ rs) w =
    ite_case (C.Every (Few (suc (length rs)))) (same? r x) (λ _. (w.1, omega arith))
    (λ _. few_push (length rs) x (taken_out procedures r rs) w.0 (few_taken r rs w.1))

few_put : (r : List ℕ) (rs : List (List ℕ)) → Wide r → Every Wide rs → C.Every (Few (suc (length rs))) (put_into procedures r rs)
unfolding put_into C.Every
few_put r [] v w = ((v, tt), omega arith)
few_put r (x ∷ rs) v w =
    ite_case (C.Every (Few (suc (suc (length rs))))) (before? (place_of r) (place_of x)) (λ _. ((v, w), omega arith))
    (λ _.
    ite_case (C.Every (Few (suc (suc (length rs))))) (before? (place_of x) (place_of r))
    (λ _. few_push (suc (length rs)) x (put_into procedures r rs) w.0 (few_put r rs v w.1)) (λ _. tt))

few_apply : (o : Op (List ℕ)) (rs : List (List ℕ)) → Wide (record_in o) → Every Wide rs → C.Every (Few (adds o + length rs)) (apply procedures o rs)
unfolding apply
few_apply (take_out r) rs v w = let e : 0 + length rs ≡ length rs = omega arith in rw e (few_taken r rs w)
few_apply (put_in r) rs v w = let e : 1 + length rs ≡ suc (length rs) = omega arith in rw e (few_put r rs v w)

placed_both : (o : Option (List (List ℕ))) (n more : ℕ) → n + more ≤ 480 → C.Every (H.Rising procedures) o → C.Every (Few n) o
    → C.Every (λ g. Placed g more) o
unfolding C.Every
placed_both none n more h a b = tt
placed_both (some g) n more h a b = record { rises = a; wide = b.0; few = omega (arith, b.1) }

-- ---- a line, the lines of a correction, a correction, the corrections of a set

pub placed_apply : (o : Op (List ℕ)) (rs : List (List ℕ)) (more : ℕ) → Wide (record_in o) → Placed rs (adds o + more)
    → C.Every (λ g. Placed g more) (apply procedures o rs)
placed_apply o rs more w p =
    placed_both (apply procedures o rs) (adds o + length rs) more (omega (arith, p.few)) (rising_apply procedures o rs p.rises)
    (few_apply o rs w p.wide)

pub placed_all : (c : Correction procedures) (rs : List (List ℕ)) (more : ℕ) → WideLines c → Placed rs (adds_all c + more)
    → C.Every (λ g. Placed g more) (apply_all procedures c rs)
unfolding apply_all adds_all C.Every
placed_all [] rs more w p = placed_less more p (omega arith)
placed_all (o ∷ c) rs more w p =
    every_then (λ g. Placed g (adds_all c + more)) (λ g. Placed g more) (apply_all procedures c) (apply procedures o rs)
    (λ g q. placed_all c g more w.1 q)
    (placed_apply o rs (adds_all c + more) w.0 (placed_less (adds o + (adds_all c + more)) p (omega arith)))

pub placed_correct : (c : Correction procedures) (rs : List (List ℕ)) (more : ℕ) → WideLines c → Placed rs (adds_all c + more)
    → C.Every (λ g. Placed g more) (correct procedures c rs)
unfolding correct C.Every
placed_correct c rs more w p =
    every_then (λ g. Placed g more) (λ g. Placed g more) (λ g. cond (touched_accepted procedures c g) (some g) none) (apply_all procedures c rs)
    (λ g q. cond_case (C.Every (λ h. Placed h more)) (touched_accepted procedures c g) (λ _. q) (λ _. tt)) (placed_all c rs more w p)

pub placed_run : (T : Numbers) (k : ℕ) (cs : List (Correction procedures)) (rs : List (List ℕ)) → WideLog cs → Placed rs (adds_in cs)
    → C.Every (λ g. Placed g 0) (run procedures rs (choose_from procedures T k cs))
unfolding run choose_from adds_in C.Every
placed_run T k [] rs w p = p
placed_run T k (c ∷ cs) rs w p =
    split (T (suc k))
    (λ t. rw t
    (every_then (λ g. Placed g (adds_in cs)) (λ g. Placed g 0) (λ g. run procedures g (choose_from procedures T (suc k) cs)) (correct procedures c rs)
    (λ g q. placed_run T (suc k) cs g w.1 q) (placed_correct c rs (adds_in cs) w.0 p)))
    (λ t. rw t (placed_run T (suc k) cs rs w.1 (placed_less (adds_in cs) p (omega arith))))
