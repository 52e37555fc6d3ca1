-- Laws of pieces that stand side by side: the record that they make holds each of them in its own columns, and a record that holds
-- each of them is the one that they make.
-- Assumes nothing.
use mathlib.Core.Path.{◌≡◌, refl, sym, ap, subst, ◌∙◌}
use mathlib.Core.List.{List, [], ◌∷◌, ◌++◌, append_assoc}
use Prim.Native.Nat.{ℕ, zero, suc, ◌+◌, ◌-◌, ◌≤◌}
use native.Mathlib.Omega.{arith}
use lib.ListN.{length, set, take, replicate, length-append, length-replicate}
use lib.Seq.{sets, take_at, drop_at}
use Rattle.slices.specs.Part.{part}
use Rattle.slices.proofs.PartLaws.{part_append, part_take}
use Rattle.fields.proofs.PutLaws.{length-put_all}
use Rattle.fields.specs.Pieces.{Piece, with_blanks, put, put_all, blanks, Placed, Holds}

-- the pieces' bytes, each with blanks up to its width
unfoldable joined : List Piece → List ℕ
joined [] = []
joined (p ∷ ps) = with_blanks p.width p.bytes ++ joined ps

pub length-with_blanks : (w : ℕ) (bs : List ℕ) → length bs ≤ w → length (with_blanks w bs) ≡ w
unfolding with_blanks
length-with_blanks w bs h = length-append bs (replicate (w - length bs) 32) ∙ rw length-replicate (omega arith)

-- ---- putting over blanks

sets_cons : (x : ℕ) (l : List ℕ) (i : ℕ) (bs : List ℕ) → sets (x ∷ l) (suc i) bs ≡ x ∷ sets l i bs
sets_cons x l i [] = refl
sets_cons x l i (b ∷ bs) = sets_cons x (set l i b) (suc i) bs

replicate-append : (m n : ℕ) → replicate {A = ℕ} (m + n) 32 ≡ replicate m 32 ++ replicate n 32
replicate-append zero n = let e : 0 + n ≡ n = omega arith in rw e
replicate-append (suc m) n = let e : suc m + n ≡ suc (m + n) = omega arith in rw e (ap (λ (t : List ℕ). 32 ∷ t) (replicate-append m n))

put_first : (bs : List ℕ) (w m : ℕ) → length bs ≤ w → sets (replicate (w + m) 32) 0 bs ≡ with_blanks w bs ++ replicate m 32
unfolding with_blanks
put_first [] w m h = let e : w - 0 ≡ w = omega arith in rw e (replicate-append w m)
put_first (b ∷ bs) zero m h = absurd (omega arith)
put_first (b ∷ bs) (suc w) m h =
    let e : suc w + m ≡ suc (w + m) = omega arith in
    let f : suc w - suc (length bs) ≡ w - length bs = omega arith in
    rw (e, f) (sets_cons b (replicate (w + m) 32) 0 bs ∙ ap (λ (t : List ℕ). b ∷ t) (put_first bs w m (omega arith)))

put_over : (lead bs : List ℕ) (w m : ℕ) → length bs ≤ w → sets (lead ++ replicate (w + m) 32) (length lead) bs ≡ (lead ++ with_blanks w bs) ++ replicate m 32
put_over [] bs w m h = put_first bs w m h
put_over (x ∷ lead) bs w m h = sets_cons x (lead ++ replicate (w + m) 32) (length lead) bs ∙ ap (λ (t : List ℕ). x ∷ t) (put_over lead bs w m h)

placed_end : (ps : List Piece) (from end : ℕ) → Placed from ps end → from ≤ end + 1
placed_end [] from end h = omega arith
placed_end (p ∷ ps) from end h = let i : from + p.width ≤ end + 1 = placed_end ps (from + p.width) end h.2 in omega arith

-- the columns behind a lead and a piece
behind : (lead : List ℕ) (p : Piece) → length p.bytes ≤ p.width → length (lead ++ with_blanks p.width p.bytes) ≡ length lead + p.width
behind lead p h = length-append lead (with_blanks p.width p.bytes) ∙ ap (λ (k : ℕ). length lead + k) (length-with_blanks p.width p.bytes h)

next : (lead : List ℕ) (p : Piece) (ps : List Piece) (end : ℕ) → length p.bytes ≤ p.width → Placed (length lead + 1 + p.width) ps end
    → Placed (length (lead ++ with_blanks p.width p.bytes) + 1) ps end
next lead p ps end h t =
    let e : length lead + 1 + p.width ≡ length (lead ++ with_blanks p.width p.bytes) + 1 = omega (arith, behind lead p h) in
    subst (λ (k : ℕ). Placed k ps end) e t

put_joined : (ps : List Piece) (lead : List ℕ) (end : ℕ) → Placed (length lead + 1) ps end → put_all ps (lead ++ replicate (end - length lead) 32) ≡ lead ++ joined ps
unfolding put_all put joined
put_joined [] lead end h = let e : end - length lead ≡ 0 = omega arith in rw e
put_joined (p ∷ ps) lead end h =
    let c : p.column - 1 ≡ length lead = omega (arith, h.0) in
    let t = next lead p ps end h.1 h.2 in
    let l : length (lead ++ with_blanks p.width p.bytes) ≡ length lead + p.width = behind lead p h.1 in
    let room : length (lead ++ with_blanks p.width p.bytes) + 1 ≤ end + 1 = placed_end ps _ end t in
    let m : end - length lead ≡ p.width + (end - length (lead ++ with_blanks p.width p.bytes)) = omega arith in
    rw (c, m, put_over lead p.bytes p.width (end - length (lead ++ with_blanks p.width p.bytes)) h.1)
    (put_joined ps (lead ++ with_blanks p.width p.bytes) end t ∙ append_assoc lead (with_blanks p.width p.bytes) (joined ps))

-- ---- what the joined pieces hold

part_mid : (lead f rest : List ℕ) (n i : ℕ) → length lead ≡ i → length f ≡ n → part n i (lead ++ (f ++ rest)) ≡ f
part_mid lead f rest n i e h =
    let l : length (lead ++ (f ++ rest)) ≡ length lead + (length f + length rest) = length-append lead (f ++ rest) ∙ ap (λ (k : ℕ). length lead + k) (length-append f rest) in
    part_take n i (lead ++ (f ++ rest)) (omega arith) ∙ ap (take n) (drop_at lead (f ++ rest) i e) ∙ take_at f rest n h

joined_holds : (ps : List Piece) (lead : List ℕ) (end : ℕ) → Placed (length lead + 1) ps end → Holds (lead ++ joined ps) ps
unfolding joined
joined_holds [] lead end h = tt
joined_holds (p ∷ ps) lead end h = (
  part_mid lead (with_blanks p.width p.bytes) (joined ps) p.width (p.column - 1) (omega (arith, h.0)) (length-with_blanks p.width p.bytes h.1),
  subst (λ (r : List ℕ). Holds r ps) (append_assoc lead (with_blanks p.width p.bytes) (joined ps))
      (joined_holds ps (lead ++ with_blanks p.width p.bytes) end (next lead p ps end h.1 h.2)),
)

-- and a record that holds them
holds_joined : (rec : List ℕ) (ps : List Piece) (from end : ℕ) → 1 ≤ from → Placed from ps end → Holds rec ps → joined ps ≡ part (end + 1 - from) (from - 1) rec
unfolding joined part
holds_joined rec [] from end h t e = let z : end + 1 - from ≡ 0 = omega arith in rw z
holds_joined rec (p ∷ ps) from end h t e =
    let room : from + p.width ≤ end + 1 = placed_end ps (from + p.width) end t.2 in
    let m : end + 1 - from ≡ p.width + (end + 1 - (from + p.width)) = omega arith in
    let i : from + p.width - 1 ≡ from - 1 + p.width = omega arith in
    let f : with_blanks p.width p.bytes ≡ part p.width (from - 1) rec = sym e.0 ∙ ap (λ (c : ℕ). part p.width (c - 1) rec) t.0 in
    ap (λ (x : List ℕ). x ++ joined ps) f
    ∙ ap (λ (x : List ℕ). part p.width (from - 1) rec ++ x) (holds_joined rec ps (from + p.width) end (omega arith) t.2 e.1 ∙ ap (λ (k : ℕ). part (end + 1 - (from + p.width)) k rec) i)
    ∙ sym (ap (λ (k : ℕ). part k (from - 1) rec) m ∙ part_append p.width (end + 1 - (from + p.width)) (from - 1) rec)

-- ---- a whole record

module _ (ps : List Piece) (t : Placed 1 ps 132) where
  pub made_holds : Holds (put_all ps blanks) ps
  made_holds = subst (λ (r : List ℕ). Holds r ps) (sym (put_joined ps [] 132 t)) (joined_holds ps [] 132 t)

  pub held_made : (rec : List ℕ) → Holds rec ps → put_all ps blanks ≡ part 132 0 rec
  held_made rec h = put_joined ps [] 132 t ∙ holds_joined rec ps 1 132 (omega arith) t h

pub length_made : (ps : List Piece) → length (put_all ps blanks) ≡ 132
length_made ps = length-put_all ps blanks ∙ length-replicate {A = ℕ} 132 32

-- pieces behind pieces
pub placed_append : (ps qs : List Piece) (from mid end : ℕ) → Placed from ps mid → Placed (mid + 1) qs end → Placed from (ps ++ qs) end
placed_append [] qs from mid end h k = subst (λ (n : ℕ). Placed n qs end) (sym h) k
placed_append (p ∷ ps) qs from mid end h k = (h.0, h.1, placed_append ps qs (from + p.width) mid end h.2 k)

pub holds_append : (rec : List ℕ) (ps qs : List Piece) → Holds rec ps → Holds rec qs → Holds rec (ps ++ qs)
holds_append rec [] qs h k = k
holds_append rec (p ∷ ps) qs h k = (h.0, holds_append rec ps qs h.1 k)

pub holds_left : (rec : List ℕ) (ps qs : List Piece) → Holds rec (ps ++ qs) → Holds rec ps
holds_left rec [] qs h = tt
holds_left rec (p ∷ ps) qs h = (h.0, holds_left rec ps qs h.1)

pub holds_right : (rec : List ℕ) (ps qs : List Piece) → Holds rec (ps ++ qs) → Holds rec qs
holds_right rec [] qs h = h
holds_right rec (p ∷ ps) qs h = holds_right rec ps qs h.1
