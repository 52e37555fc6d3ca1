-- A log as a list: to run the chosen corrections is to run the log with nothing at the other numbers.
-- Assumes nothing.
use mathlib.Core.Path.{◌≡◌, refl, sym, ◌∙◌, ap, fun_ext}
use mathlib.Core.Bool.{true}
use mathlib.Core.List.{List, [], ◌∷◌}
use mathlib.Core.Option.{Option, none, some, bind}
use Prim.Native.Nat.{ℕ, zero, suc, ◌+◌, ◌≤◌}
use native.Mathlib.Omega.{arith}
use lib.ListN.{length, get_or, take}
use Rattle.slices.proofs.Cases.{split}
use Rattle.history.proofs.Select.{only_in, only_out, empty_correct}
use Rattle.history.specs.Format.{Format, File}
use Rattle.history.specs.Apply.{Correction, correct, run}
use Rattle.history.specs.Sets.{Numbers, numbered, only, Log, choose_from}
use Rattle.history.proofs.Numbered.{run_to}

bind_some : {A : Type 0} (o : Option A) → bind o some ≡ o
unfolding bind
bind_some none = refl
bind_some (some a) = refl

pub bind_assoc : {A B C : Type 0} (o : Option A) (h : A → Option B) (k : B → Option C) → bind (bind o h) k ≡ bind o (λ a. bind (h a) k)
unfolding bind
bind_assoc none h k = refl
bind_assoc (some a) h k = refl

module _ (F : Format) where
  -- The numbers from k + 1 on have the corrections of l.
  abbrev Lists : Log F → ℕ → List (Correction F) → Type 0
  Lists log k [] = Unit {0}
  Lists log k (c ∷ l) = (log (suc k) ≡ c) × Lists log (suc k) l

  lists : (log : Log F) (k : ℕ) (l : List (Correction F)) → ((i : ℕ) → log (suc (k + i)) ≡ get_or l i []) → Lists log k l
  lists log k [] h = tt
  lists log k (c ∷ l) h =
      let z : k ≡ k + 0 = omega arith in (
        ap (λ (j : ℕ). log (suc j)) z ∙ h 0,
        lists log (suc k) l (λ i. let e : suc k + i ≡ k + suc i = omega arith in ap (λ (j : ℕ). log (suc j)) e ∙ h (suc i)),
      )

  numbered_lists : (l : List (Correction F)) → Lists (numbered l) 0 l
  unfolding numbered
  numbered_lists l = lists (numbered l) 0 l (λ i. let z : 0 + i ≡ i = omega arith in ap (λ (j : ℕ). numbered l (suc j)) z)

  chosen_from : (T : Numbers) (frozen : File F) (log : Log F) (k : ℕ) (l : List (Correction F)) → Lists log k l
      → run_to F frozen (only T log) (k + length l) ≡ bind (run_to F frozen (only T log) k) (λ f. run F f (choose_from F T k l))
  unfolding run choose_from run_to bind
  chosen_from T frozen log k [] h = let e : k + 0 ≡ k = omega arith in rw e (sym (bind_some (run_to F frozen (only T log) k)))
  chosen_from T frozen log k (c ∷ l) h =
      let e : k + suc (length l) ≡ suc k + length l = omega arith in
      rw e (chosen_from T frozen log (suc k) l h.1 ∙ bind_assoc (run_to F frozen (only T log) k) (correct F (only T log (suc k))) _
      ∙ ap (bind (run_to F frozen (only T log) k)) (fun_ext (λ f. split (T (suc k))
      (λ t. rw (only_in F log T (suc k) t, h.0, t)) (λ t. rw (only_out F log T (suc k) t, t, empty_correct F f)))))

  pub chosen : (T : Numbers) (frozen : File F) (l : List (Correction F))
      → run_to F frozen (only T (numbered l)) (length l) ≡ run F frozen (choose_from F T 0 l)
  unfolding run_to bind
  chosen T frozen l =
      let e : length l ≡ 0 + length l = omega arith in
      ap (run_to F frozen (only T (numbered l))) e
      ∙ chosen_from T frozen (numbered l) 0 l (numbered_lists l)

  choose_all : (k : ℕ) (l : List (Correction F)) → choose_from F (λ _. true) k l ≡ l
  unfolding choose_from
  choose_all k [] = refl
  choose_all k (c ∷ l) = ap (λ (t : List (Correction F)). c ∷ t) (choose_all (suc k) l)

  -- To run the list is to run its numbers in turn.
  pub listed : (frozen : File F) (l : List (Correction F)) → run_to F frozen (numbered l) (length l) ≡ run F frozen l
  unfolding only
  listed frozen l = chosen (λ _. true) frozen l ∙ ap (run F frozen) (choose_all 0 l)

  first_from : (frozen : File F) (log : Log F) (k i : ℕ) (l : List (Correction F)) → Lists log k l → i ≤ length l
      → run_to F frozen log (k + i) ≡ bind (run_to F frozen log k) (λ f. run F f (take i l))
  unfolding run run_to
  first_from frozen log k zero l h b = let e : k + 0 ≡ k = omega arith in rw e (sym (bind_some (run_to F frozen log k)))
  first_from frozen log k (suc i) [] h b = absurd (omega arith)
  first_from frozen log k (suc i) (c ∷ l) h b =
      let e : k + suc i ≡ suc k + i = omega arith in
      rw e (first_from frozen log (suc k) i l h.1 (omega arith) ∙ bind_assoc (run_to F frozen log k) (correct F (log (suc k))) _ ∙ rw h.0)

  pub first : (frozen : File F) (l : List (Correction F)) (i : ℕ) → i ≤ length l → run_to F frozen (numbered l) i ≡ run F frozen (take i l)
  unfolding run_to bind
  first frozen l i b =
      let e : i ≡ 0 + i = omega arith in
      ap (run_to F frozen (numbered l)) e ∙ first_from frozen (numbered l) 0 i l (numbered_lists l) b
