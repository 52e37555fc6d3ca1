-- The index grows by the lines that are read: one behind the other, from the empty one, up to the whole reading.
-- Assumes nothing.
use Rattle.std.specs.Prelude.{Result, Ok, Err}
use mathlib.Core.Path.{◌≡◌, refl}
use mathlib.Core.List.{List, [], ◌++◌}
use Prim.Native.Nat.{ℕ, ◌+◌, ◌≤◌}
use native.Mathlib.Omega.{arith}
use lib.ListN.{length, replicate, length-append}
use Rattle.slices.proofs.WriteLaws.{sets-append, stored_front}
use Rattle.refusals.specs.declared.Refusal.{Refusal}
use Rattle.corrections.specs.declared.Index.{Index}
use Rattle.corrections.specs.Reading.{Entry, no_entry, Reading, refused, said, with_entries, index_with, grown}

pub grown_none : (i : Index) → grown i i.corrections [] ≡ i
grown_none i = let e : i.count + 0 ≡ i.count = omega arith in rw e

pub index_start : record { corrections = 0; count = 0; entries = replicate 444 no_entry } ≡ index_with 0 []
unfolding index_with
index_start = refl

pub grown_twice : (i : Index) (a b : ℕ) (es fs : List Entry) → grown i b (es ++ fs) ≡ grown (grown i a es) b fs
grown_twice i a b es fs =
    let e : i.count + length (es ++ fs) ≡ i.count + length es + length fs = omega (arith, length-append es fs) in
    rw (e, sets-append es fs i.entries i.count)

pub grown_empty : (n : ℕ) (es : List Entry) → length es ≤ 444 → grown (index_with 0 []) n es ≡ index_with n es
unfolding index_with
grown_empty n es h =
    let e : 0 + length es ≡ length es = omega arith in rw (e, stored_front no_entry 444 es h)

-- what is read is put behind what the index has; a refusal leaves nothing of it
unfoldable pub onto : Index → Reading → Result Index Refusal
onto i (refused r) = Err r
onto i (said n es) = Ok (grown i n es)

pub onto_more : (i : Index) (a : ℕ) (es : List Entry) (rest : Reading) → onto i (with_entries es rest) ≡ onto (grown i a es) rest
unfolding onto
onto_more i a es (refused r) = refl
onto_more i a es (said n fs) = rw (grown_twice i a n es fs)
