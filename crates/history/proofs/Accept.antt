-- What corrections that do not fail make of an accepted file is accepted.
-- Assumes nothing.
use mathlib.Core.Path.{◌≡◌}
use mathlib.Core.Option.{some}
use mathlib.Core.Logic.{by_cases}
use Prim.Native.Nat.{ℕ, zero, suc}
use Rattle.history.specs.Format.{Format, File, Accepted}
use Rattle.history.specs.Apply.{Correction, touches?, correct}
use Rattle.history.specs.Sets.{Log}
use Rattle.history.proofs.Numbered.{run_to}
use Rattle.history.proofs.Correct.{other_correct, rising_correct, touched_correct}
use Rattle.history.proofs.Select.{run_zero, run_inv}

module _ (F : Format) where
  accepted_correct : (c : Correction F) (f g : File F) → Accepted F f → correct F c f ≡ some g → Accepted F g
  accepted_correct c f g a h = record {
    rises = rising_correct F c f g a.rises h;
    routes = λ ρ. by_cases (touches? F c ρ)
        (λ t. touched_correct F ρ c f g t h)
        (λ d. rw (other_correct F ρ c f g d h) (a.routes ρ));
  }

  pub accepted_run : (frozen : File F) (log : Log F) (n : ℕ) (f : File F) → Accepted F frozen → run_to F frozen log n ≡ some f → Accepted F f
  accepted_run frozen log zero f a h = let e : frozen ≡ f = (cc (run_zero F frozen log)) in rw (← e) a
  accepted_run frozen log (suc n) f a h =
      let w = run_inv F frozen log n f h in accepted_correct _ w.0 f (accepted_run frozen log n w.0 a w.1) w.2
