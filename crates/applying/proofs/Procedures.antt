-- A list of records is an accepted file of the theory of selection, for the format of this product, exactly when it is judged so.
-- Assumes nothing.
use Rattle.std.specs.Prelude.{Ok, Err}
use Rattle.refusals.specs.Table.{Verdict, Accepted}
use mathlib.Core.Path.{◌≡◌, refl, sym, ap, ◌∙◌}
use mathlib.Core.Bool.{true, cond, false≢true}
use mathlib.Core.List.{List, [], ◌∷◌, map}
use mathlib.Core.Logic.{◌↔◌, ite}
use Prim.Native.Nat.{ℕ}
use Rattle.slices.specs.Order.{equal}
use Rattle.slices.proofs.Cases.{split}
use Rattle.slices.proofs.OrderLaws.{equal_iff}
use Rattle.routes.specs.Places.{key_of, place_of, of_route, Rising, Every, Before}
use Rattle.routes.specs.Walk.{walked}
use Rattle.routes.proofs.Routes.{by_routes}
use Rattle.history.specs.Format as H
use Rattle.history.specs.Format.{own}
use Rattle.history.specs.Bytes.{same?}
use Rattle.applying.specs.Procedures.{is_accepted, accepts, procedures}

-- the records of a route are the same in both
pub own_route : (k : List ℕ) (rs : List (List ℕ)) → own procedures k rs ≡ of_route k rs
unfolding own of_route
own_route k [] = refl
own_route k (r ∷ rs) = by (same? (key_of r) k) (own_route k rs)
  where
    by : (d : Dec (key_of r ≡ k)) → own procedures k rs ≡ of_route k rs → ite d (r ∷ own procedures k rs) (own procedures k rs) ≡ cond (equal k (key_of r)) (r ∷ of_route k rs) (of_route k rs)
    by (yes e) h = rw ((equal_iff k (key_of r)).1 (sym e)) (ap (λ (l : List (List ℕ)). r ∷ l) h)
    by (no n) h = split (equal k (key_of r)) (λ t. absurd (n (sym ((equal_iff k (key_of r)).0 t)))) (λ t. rw t h)

-- and so is what it is for places to rise
pub rising : (rs : List (List ℕ)) → H.Rising procedures rs → Rising (map place_of rs)
rising [] h = tt
rising (r ∷ rs) h = (above (place_of r) rs h.0, rising rs h.1)
  where
    above : (p : List ℕ) (rs : List (List ℕ)) → H.Above procedures p rs → Every (Before p) (map place_of rs)
    above p [] h = tt
    above p (r ∷ rs) h = (h.0, above p rs h.1)

pub rising_back : (rs : List (List ℕ)) → Rising (map place_of rs) → H.Rising procedures rs
rising_back [] h = tt
rising_back (r ∷ rs) h = (above (place_of r) rs h.0, rising_back rs h.1)
  where
    above : (p : List ℕ) (rs : List (List ℕ)) → Every (Before p) (map place_of rs) → H.Above procedures p rs
    above p [] h = tt
    above p (r ∷ rs) h = (h.0, above p rs h.1)

pub accepts_iff : (rs : List (List ℕ)) → (accepts rs ≡ true) ↔ (walked rs ≡ Accepted)
unfolding accepts
accepts_iff rs = (by (walked rs), λ e. ap is_accepted e)
  where
    by : (v : Verdict) → is_accepted v ≡ true → v ≡ Accepted
    by (Ok _) e = refl
    by (Err r) e = absurd (false≢true e)

-- records are an accepted file of the theory exactly when they are judged so in sequence
pub accepted_iff : (rs : List (List ℕ)) → H.Accepted procedures rs ↔ (walked rs ≡ Accepted)
accepted_iff rs = (
  λ a. (by_routes rs).1 (rising rs a.rises, λ k. (accepts_iff (of_route k rs)).0 (ap accepts (sym (own_route k rs)) ∙ a.routes k)),
  λ e.
      let b = (by_routes rs).0 e in
      record { rises = rising_back rs b.0; routes = λ k. ap accepts (own_route k rs) ∙ (accepts_iff (of_route k rs)).1 (b.1 k) },
)
