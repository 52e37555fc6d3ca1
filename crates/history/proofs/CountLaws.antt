-- Records counted while lines apply: of the records with any property a file has one less for each line that takes one out, and one more
-- for each that puts one in. It is said by sums.
-- Assumes nothing.
use mathlib.Core.Path.{◌≡◌, refl, sym, ◌∙◌, ap, fun_ext}
use mathlib.Core.List.{List, [], ◌∷◌, ◌++◌, filter, filter-eq_self, flatten}
use mathlib.Core.Logic.{ite}
use mathlib.Core.Option.{some, bind, bind-eq-some_iff}
use Prim.Native.Nat.{ℕ, ◌+◌}
use native.Mathlib.Omega.{arith}
use lib.ListN.{length}
use Rattle.history.proofs.Cases.{ite_case, Every, every_some, every_map}
use Rattle.history.proofs.Correct.{correct_inv}
use Rattle.history.proofs.Listed.{bind_assoc}
use Rattle.history.specs.Format.{Format, File}
use Rattle.history.specs.Apply.{take_out, put_in, Correction, taken_out, put_into, apply, apply_all, correct, run}
use Rattle.history.specs.Growing.{outs, ins, occurs, Counted}

module _ (F : Format) where
  open F use {Record, place, same?, before?}

  -- ---- corrections as lines

  lines_append : (c d : Correction F) (f : File F) → apply_all F (c ++ d) f ≡ bind (apply_all F c f) (apply_all F d)
  unfolding apply_all bind
  lines_append [] d f = refl
  lines_append (o ∷ c) d f = ap (bind (apply F o f)) (fun_ext (lines_append c d)) ∙ sym (bind_assoc (apply F o f) (apply_all F c) (apply_all F d))

  -- To run corrections is to apply all of their lines in turn.
  run_lines : (f : File F) (l : List (Correction F)) (g : File F) → run F f l ≡ some g → apply_all F (flatten l) f ≡ some g
  unfolding run flatten apply_all
  run_lines f [] g h = h
  run_lines f (c ∷ l) g h =
      let w = (bind-eq-some_iff (correct F c f) (λ e. run F e l)).0 h in
      lines_append c (flatten l) f
      ∙ (bind-eq-some_iff (apply_all F c f) (apply_all F (flatten l))).1 (w.0, (correct_inv F c f w.0 w.1).0, run_lines w.0 l g w.2)

  -- ---- the records with some property

  module _ {P : Record → Type 0} (p : (x : Record) → Dec (P x)) where
    abbrev many : File F → ℕ
    many f = length (filter p f)

    -- the first file has this record more than the second
    abbrev OneMore : Record → File F → File F → Type 0
    OneMore r f g = many f ≡ many (r ∷ []) + many g

    one_more : (x : Record) (f : File F) → OneMore x (x ∷ f) f
    one_more x f = by (p x)
      where
        by : (d : Dec (P x)) → length (ite d (x ∷ filter p f) (filter p f)) ≡ length (ite d (x ∷ []) []) + length (filter p f)
        by (yes _) = omega arith
        by (no _) = omega arith

    behind : (x r : Record) (f g : File F) → OneMore r f g → OneMore r (x ∷ f) (x ∷ g)
    behind x r f g e = omega (arith, e, one_more x f, one_more x g)

    many_taken : (r : Record) (f : File F) → Every (λ g. OneMore r f g) (taken_out F r f)
    unfolding taken_out Every
    many_taken r [] = tt
    many_taken r (x ∷ f) = ite_case (Every (λ g. OneMore r (x ∷ f) g)) (same? r x)
        (λ e. rw e (one_more x f))
        (λ _. every_map (λ g. OneMore r f g) (λ g. OneMore r (x ∷ f) g) (λ g. x ∷ g) (taken_out F r f) (behind x r f) (many_taken r f))

    many_put : (r : Record) (f : File F) → Every (λ g. OneMore r g f) (put_into F r f)
    unfolding put_into Every
    many_put r [] = one_more r []
    many_put r (x ∷ f) = ite_case (Every (λ g. OneMore r g (x ∷ f))) (before? (place r) (place x))
        (λ _. one_more r (x ∷ f))
        (λ _. ite_case (Every (λ g. OneMore r g (x ∷ f))) (before? (place x) (place r))
        (λ _. every_map (λ g. OneMore r g f) (λ g. OneMore r g (x ∷ f)) (λ g. x ∷ g) (put_into F r f) (λ g. behind x r g f) (many_put r f))
        (λ _. tt))

    -- Of the records with the property, those of the file that lines leave, with those that they take out, are as many as those of the file before,
    -- with those that they put in.
    many_all : (c : Correction F) (f g : File F) → apply_all F c f ≡ some g → many g + many (outs c) ≡ many f + many (ins c)
    unfolding apply_all apply outs ins
    many_all [] f g h = let e : f ≡ g = cc in rw e
    many_all (take_out r ∷ c) f g h =
        let (e, k, rest) = (bind-eq-some_iff (taken_out F r f) (apply_all F c)).0 h in
        omega (arith, every_some (λ i. OneMore r f i) (taken_out F r f) e (many_taken r f) k, one_more r (outs c), many_all c e g rest)
    many_all (put_in r ∷ c) f g h =
        let (e, k, rest) = (bind-eq-some_iff (put_into F r f) (apply_all F c)).0 h in
        omega (arith, every_some (λ i. OneMore r i f) (put_into F r f) e (many_put r f) k, one_more r (ins c), many_all c e g rest)

  -- ---- this very record, and all records

  every_one : (f : File F) → filter {p = λ _. Unit {0}} (λ _. yes tt) f ≡ f
  every_one f = (filter-eq_self {p = λ _. Unit {0}} (λ _. yes tt) {l = f}).1 (λ _ _. tt)

  pub counted_run : (f : File F) (l : List (Correction F)) (g : File F) → run F f l ≡ some g → Counted F f (flatten l) g
  unfolding occurs
  counted_run f l g h = record {
    each = λ r. many_all (same? r) (flatten l) f g (run_lines f l g h);
    all = rw (← every_one g, ← every_one f, ← every_one (outs (flatten l)), ← every_one (ins (flatten l)))
        (many_all {P = λ _. Unit {0}} (λ _. yes tt) (flatten l) f g (run_lines f l g h));
  }
