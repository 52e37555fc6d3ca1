-- What an origin says of a source: it is that of the last A line which puts the record in, otherwise one of the frozen file's own.
-- Assumes nothing.
use mathlib.Core.Path.{◌≡◌, sym, ap, subst, ◌∙◌}
use mathlib.Core.List.{List, [], ◌∷◌, ◌++◌}
use Prim.Native.Nat.{ℕ}
use Rattle.corrections.specs.declared.Entry.{Entry}
use Rattle.routes.specs.Places.{place_of, Every}
use Rattle.routes.specs.Sources.{record_at}
use Rattle.applying.specs.Apply.{source_of}
use Rattle.applying.specs.Origin.{OfFrozen, Elsewhere, Origin, from_log, from_frozen, PutsIn, NonePutsIn, HandedBack}
use Rattle.applying.proofs.OriginLaws.{every_weaker, every_among}

-- the last of a list that passes is one, wherever the list is parted at it
pub same_last : {A : Type 0} (P : A → Type 0) (xs : List A) (x : A) (xs' ys : List A) (y : A) (ys' : List A) → xs ++ x ∷ xs' ≡ ys ++ y ∷ ys'
    → P x → P y → Every (λ z. P z → ⊥) xs' → Every (λ z. P z → ⊥) ys' → x ≡ y
same_last P [] x xs' [] y ys' e p q a b = cc
same_last P [] x xs' (v ∷ ys) y ys' e p q a b =
    let h : xs' ≡ ys ++ y ∷ ys' = cc in
    absurd (every_among (λ z. P z → ⊥) ys y ys' (subst (Every (λ z. P z → ⊥)) h a) q)
same_last P (u ∷ xs) x xs' [] y ys' e p q a b =
    let h : ys' ≡ xs ++ x ∷ xs' = cc in
    absurd (every_among (λ z. P z → ⊥) xs x xs' (subst (Every (λ z. P z → ⊥)) h b) p)
same_last P (u ∷ xs) x xs' (v ∷ ys) y ys' e p q a b = let h : xs ++ x ∷ xs' ≡ ys ++ y ∷ ys' = cc in same_last P xs x xs' ys y ys' h p q a b

module _ (f l : List ℕ) where
  -- a line elsewhere does not put the record in
  elsewhere_none : (s : ℕ) (es : List Entry) → Every (Elsewhere f l s) es → NonePutsIn f l s es
  elsewhere_none s es h = every_weaker (Elsewhere f l s) (λ d. PutsIn f l s d → ⊥) (λ d n p. n (ap place_of p.1)) es h

  last_put : (lines : List Entry) (s : ℕ) → Origin f l lines s → (front : List Entry) (e : Entry) (after : List Entry) → lines ≡ front ++ e ∷ after
      → PutsIn f l s e → NonePutsIn f l s after → s ≡ source_of e
  last_put lines s (from_log front' e' after' q' a h b) front e after q p n =
      h
      ∙ ap source_of (same_last (PutsIn f l s) front' e' after' front e after (sym q' ∙ q) (a, ap (record_at f l) (sym h)) p
      (elsewhere_none s after' b) n)
  last_put lines s (from_frozen o b) front e after q p n =
      absurd (every_among (Elsewhere f l s) front e after (subst (Every (Elsewhere f l s)) q b) (ap place_of p.1))

  else_frozen : (lines : List Entry) (s : ℕ) → Origin f l lines s → NonePutsIn f l s lines → OfFrozen f s
  else_frozen lines s (from_log front e after q a h b) n =
      absurd (every_among (λ d. PutsIn f l s d → ⊥) front e after (subst (NonePutsIn f l s) q n) (a, ap (record_at f l) (sym h)))
  else_frozen lines s (from_frozen o b) n = o

  pub handed_back : (lines : List Entry) (s : ℕ) → Origin f l lines s → HandedBack f l lines s
  handed_back lines s o = record { last = last_put lines s o; otherwise = else_frozen lines s o }
