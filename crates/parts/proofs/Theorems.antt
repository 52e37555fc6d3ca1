-- What the customer must believe of one record alone, read and written.
-- Assumes nothing.
use Rattle.std.specs.Prelude.{Ok, Err}
use mathlib.Core.Path.{◌≡◌, refl, sym, ap, subst, ◌∙◌}
use mathlib.Core.Bool.{cond}
use mathlib.Core.Logic.{◌↔◌, inl, inr}
use mathlib.Core.List.{List, [], ◌∷◌, ◌++◌, append_assoc}
use Prim.Native.Nat.{ℕ, ◌+◌, ◌-◌, ◌≤◌, ◌<◌}
use native.Mathlib.Omega.{arith}
use native.Mathlib.Decide.{dec_lt}
use lib.Dec.{eqb, ltb}
use lib.ListN.{length, get_or, take, drop, replicate, length-append, take-append-drop, drop_of_length-le}
use lib.Seq.{take_at, get_or_at, drop-cons, length-take-le}
use borrow.Author.Tests.{lt-ltb, le-ltb, eqb-true}
use Rattle.slices.specs.Part.{part}
use Rattle.slices.proofs.Cases.{split}
use Rattle.slices.proofs.PartLaws.{part_all}
use Rattle.columns.specs.Words.{ContinuationContent}
use Rattle.columns.proofs.Content.{primary_kind, continuation_kind}
use Rattle.refusals.specs.Table.{cut_short, Verdict, Accepted, Refused}
use Rattle.refusals.specs.declared.Refusal.{Refusal}
use Rattle.leg.specs.Judge.{judged}
use Rattle.leg.specs.Legal.{LegalLeg, Legal}
use Rattle.leg.proofs.Legality.{accepted_iff, parts_accepted_iff, stage_iff}
use Rattle.fields.specs.Leg.{leg_of, leg_pieces, render_leg}
use Rattle.fields.specs.Continuation.{continuation_of, content_of, continuation_pieces, render_continuation}
use Rattle.parts.specs.Record.{size_column, columns_of, Reading, verdict_of, alone, reading_by, reading_of, writing, written_by, written}
use Rattle.parts.specs.Given.{Alone, LegGiven, ContinuationGiven}
use Rattle.fields.specs.declared.primary.Leg.{Leg}
use Rattle.fields.specs.declared.continuation.Continuation.{Continuation}
use Rattle.parts.specs.declared.Parts.TheVariants as parts
use Rattle.fields.proofs.PieceLaws.{length_made}
use Rattle.fields.proofs.RoundTrip.{leg_round, continuation_round, leg_again, continuation_again, leg_kind, continuation_not_primary}

-- ---- the round trip

whole : (rec : List ℕ) → length rec ≡ 132 → part 132 0 rec ≡ rec
whole rec l = ap (λ (k : ℕ). part k 0 rec) (sym l) ∙ part_all rec

-- an accepted record read into its parts and written again is the same 132 columns
pub leg_same : (rec : List ℕ) → length rec ≡ 132 → LegalLeg rec → render_leg (leg_of rec) ≡ rec
leg_same rec l h = leg_round rec h.content ∙ whole rec l

pub continuation_same : (rec : List ℕ) → length rec ≡ 132 → ContinuationContent rec → render_continuation (continuation_of rec) (content_of rec) ≡ rec
continuation_same rec l h = continuation_round rec h ∙ whole rec l

-- ---- what is written

pub length_leg : (g : Leg) → length (render_leg g) ≡ 132
unfolding render_leg
length_leg g = length_made (leg_pieces g)

pub length_continuation : (c : Continuation) (content : List ℕ) → length (render_continuation c content) ≡ 132
unfolding render_continuation
length_continuation c content = length_made (continuation_pieces c content)

-- with room for it, a record is written exactly when it is legal
writing_iff : (n : ℕ) (rec : List ℕ) → 133 ≤ n → (writing n rec ≡ Accepted) ↔ Legal rec
unfolding writing
writing_iff n rec h = rw (le-ltb n 133 h) (parts_accepted_iff rec 0)

legal_leg : (g : Leg) → Legal (render_leg g) → LegalLeg (render_leg g)
legal_leg g (inl h) = h
legal_leg g (inr c) = absurd (leg_kind g (continuation_kind (render_leg g) c))

-- there is but one, and it is what is written
pub leg_only : (g : Leg) (rec : List ℕ) → LegGiven g rec → render_leg g ≡ rec
leg_only g rec (l, c, e) = ap render_leg (sym e) ∙ leg_same rec l c

-- a leg is written exactly when some legal record has these parts
pub leg_written : (g : Leg) (n : ℕ) → 133 ≤ n → (writing n (render_leg g) ≡ Accepted) ↔ ((rec : List ℕ) × LegGiven g rec)
leg_written g n h = (
  λ e. let l = legal_leg g ((writing_iff n (render_leg g) h).0 e) in (render_leg g, (length_leg g, l, leg_again g l.content)),
  λ (rec, given). (writing_iff n (render_leg g) h).1 (subst Legal (sym (leg_only g rec given)) (inl given.1)),
)

legal_continuation : (c : Continuation) (content : List ℕ) → Legal (render_continuation c content) → ContinuationContent (render_continuation c content)
legal_continuation c content (inl h) = absurd (continuation_not_primary c content h.content)
legal_continuation c content (inr h) = h

pub continuation_only : (c : Continuation) (content rec : List ℕ) → ContinuationGiven c content rec → render_continuation c content ≡ rec
continuation_only c content rec (l, h, e, f) =
    ap (λ (x : Continuation). render_continuation x content) (sym e) ∙ ap (render_continuation (continuation_of rec)) (sym f) ∙ continuation_same rec l h

pub continuation_written : (c : Continuation) (content : List ℕ) (n : ℕ) → length content ≡ 83 → 133 ≤ n
    → (writing n (render_continuation c content) ≡ Accepted) ↔ ((rec : List ℕ) × ContinuationGiven c content rec)
continuation_written c content n k h = (
  λ e.
      let l = legal_continuation c content ((writing_iff n (render_continuation c content) h).0 e) in
      let a = continuation_again c content k l in
      (render_continuation c content, (length_continuation c content, l, a.0, a.1)),
  λ (rec, given). (writing_iff n (render_continuation c content) h).1 (subst Legal (sym (continuation_only c content rec given)) (inr given.1)),
)

-- ---- what is read

-- 133 bytes of which the last is a line feed
exactly : (s : List ℕ) → length s ≡ 133 → get_or s 132 0 ≡ 10 → Alone (columns_of s) s
exactly s l f =
    let d : drop 132 s ≡ 10 ∷ [] = drop-cons s 132 0 (omega arith) ∙ ap (λ (t : List ℕ). get_or s 132 0 ∷ t) (drop_of_length-le s {i = 133} (omega arith)) ∙ ap (λ (b : ℕ). b ∷ []) f in
    (length-take-le 132 s (omega arith), sym (take-append-drop 132 s) ∙ ap (λ (t : List ℕ). take 132 s ++ t) d)

size_right : (rec s : List ℕ) → Alone rec s → (size_column s ≡ 0) × (columns_of s ≡ rec)
unfolding size_column
size_right rec s (l, e) =
    let n : length s ≡ 133 = ap length e ∙ length-append rec (10 ∷ []) ∙ ap (λ (k : ℕ). k + 1) l in
    let f : get_or s 132 0 ≡ 10 = ap (λ (x : List ℕ). get_or x 132 0) e ∙ get_or_at rec 10 [] 0 132 l in
    (rw (n, f), ap (take 132) e ∙ take_at rec (10 ∷ []) 132 l)

right_size : (s : List ℕ) → size_column s ≡ 0 → Alone (columns_of s) s
unfolding size_column
right_size s e = by (dec_lt (length s) 133)
  where
    by : Dec (length s < 133) → Alone (columns_of s) s
    by (yes h) = let z : length s + 1 ≡ 0 = rw (lt-ltb (length s) 133 h) at e in absurd (omega arith)
    by (no h) =
        let z = rw (le-ltb (length s) 133 (omega arith)) at e in
        split (eqb (get_or s 132 0) 10)
        (λ f. let y = rw f at z in feed (eqb-true (get_or s 132 0) 10 f) (dec_lt 133 (length s)) y) (λ f. let y : ◌≡◌ {A = ℕ} 133 0 = rw f at z in absurd (omega arith))
      where
        feed : get_or s 132 0 ≡ 10 → Dec (133 < length s) → cond {A = ℕ} (ltb 133 (length s)) 134 0 ≡ 0 → Alone (columns_of s) s
        feed f (yes l) y = let x : ◌≡◌ {A = ℕ} 134 0 = rw (lt-ltb 133 (length s) l) at y in absurd (omega arith)
        feed f (no l) y = exactly s (omega arith) f

-- a slice is read as a record exactly when it is a legal record and its line feed
pub read_iff : (s : List ℕ) → (alone s ≡ Accepted) ↔ ((rec : List ℕ) × Alone rec s × Legal rec)
unfolding alone
read_iff s = (
  λ e.
      let p = (stage_iff (size_column s) (cut_short 1) (judged 1 (columns_of s))).0 e in
      (columns_of s, right_size s p.0, (accepted_iff (columns_of s) 1).0 p.1),
  λ (rec, a, l).
      let r = size_right rec s a in
      (stage_iff (size_column s) (cut_short 1) (judged 1 (columns_of s))).1 (r.0, (accepted_iff (columns_of s) 1).1 (subst Legal (sym r.1) l)),
)

-- and then its parts are given
pub leg_read_lem : (rec s : List ℕ) → Alone rec s → LegalLeg rec → reading_of s ≡ Ok (parts.Leg (leg_of rec))
unfolding reading_of
leg_read_lem rec s a h =
    let v : alone s ≡ Accepted = (read_iff s).1 (rec, a, inl h) in
    rw (v, (size_right rec s a).1, primary_kind rec h.content)

pub continuation_read : (rec s : List ℕ) → Alone rec s → ContinuationContent rec
    → reading_of s ≡ Ok (parts.Continuation (continuation_of rec) (content_of rec))
unfolding reading_of
continuation_read rec s a h =
    let v : alone s ≡ Accepted = (read_iff s).1 (rec, a, inr h) in
    rw (v, (size_right rec s a).1, continuation_kind rec h)

-- ---- reading what was written gives the parts back

first_record : (n : ℕ) (rec : List ℕ) → length rec ≡ 132 → writing n rec ≡ Accepted → take 133 (written n rec) ≡ rec ++ (10 ∷ [])
unfolding written_by
first_record n rec l e =
    let z : List ℕ = replicate (n - 133) 0 in
    ap (λ (v : Verdict). take 133 (written_by v n rec)) e
    ∙ ap (take 133) (sym (append_assoc rec (10 ∷ []) z))
    ∙ take_at (rec ++ (10 ∷ [])) z 133 (length-append rec (10 ∷ []) ∙ ap (λ (k : ℕ). k + 1) l)

pub leg_written_read : (g : Leg) (n : ℕ) → 133 ≤ n → writing n (render_leg g) ≡ Accepted
    → reading_of (take 133 (written n (render_leg g))) ≡ Ok (parts.Leg g)
leg_written_read g n h e =
    let l : LegalLeg (render_leg g) = legal_leg g ((writing_iff n (render_leg g) h).0 e) in
    leg_read_lem (render_leg g) (take 133 (written n (render_leg g))) (length_leg g, first_record n (render_leg g) (length_leg g) e) l
    ∙ ap (λ (x : Leg). Ok (parts.Leg x)) (leg_again g l.content)

pub continuation_written_read : (c : Continuation) (content : List ℕ) (n : ℕ) → length content ≡ 83 → 133 ≤ n → writing n (render_continuation c content) ≡ Accepted
    → reading_of (take 133 (written n (render_continuation c content))) ≡ Ok (parts.Continuation c content)
continuation_written_read c content n k h e =
    let rec = render_continuation c content in
    let l : ContinuationContent rec = legal_continuation c content ((writing_iff n rec h).0 e) in
    let a = continuation_again c content k l in
    continuation_read rec (take 133 (written n rec)) (length_continuation c content, first_record n rec (length_continuation c content) e) l
    ∙ (λ j. Ok (parts.Continuation (a.0 j) (a.1 j)))

-- ---- reading, and writing what was read

-- the verdict of a reading is that of the record alone
pub reading_verdict : (s : List ℕ) → verdict_of (reading_of s) ≡ alone s
unfolding reading_of
reading_verdict s = by (alone s)
  where
    by : (v : Verdict) → verdict_of (reading_by v (columns_of s)) ≡ v
    by (Ok _) = refl
    by (Err r) = refl

-- a slice is read exactly when it is a legal record and its line feed
pub reading_iff : (s : List ℕ) → (verdict_of (reading_of s) ≡ Accepted) ↔ ((rec : List ℕ) × Alone rec s × Legal rec)
reading_iff s = subst (λ (v : Verdict). (v ≡ Accepted) ↔ ((rec : List ℕ) × Alone rec s × Legal rec)) (sym (reading_verdict s)) (read_iff s)

-- a slice that was read as a record, and the record that its parts make
module _ (s rec : List ℕ) (n : ℕ) (a : Alone rec s) (h : 133 ≤ n) (l : Legal rec) where
  again : (made : List ℕ) → made ≡ rec → (writing n made ≡ Accepted) × (written n made ≡ s ++ replicate (n - 133) 0)
  unfolding written_by
  again made e =
      let w : writing n made ≡ Accepted = (writing_iff n made h).1 (subst Legal (sym e) l) in
      let z : List ℕ = replicate (n - 133) 0 in
      (w, ap (λ (v : Verdict). written_by v n made) w ∙ ap (λ (x : List ℕ). x ++ (10 ∷ z)) e ∙ sym (append_assoc rec (10 ∷ []) z) ∙ ap (λ (x : List ℕ). x ++ z) (sym a.1))

-- what was read as a leg, written again, is the same bytes, and zeros past them
pub leg_read_written : (s : List ℕ) (g : Leg) (n : ℕ)
    → reading_of s ≡ Ok (parts.Leg g) → 133 ≤ n
    → (writing n (render_leg g) ≡ Accepted) × (written n (render_leg g) ≡ s ++ replicate (n - 133) 0)
leg_read_written s g n e h = by ((reading_iff s).0 (ap verdict_of e))
  where
    same : {x y : Leg} → ◌≡◌ {A = Reading} (Ok (parts.Leg x)) (Ok (parts.Leg y)) → x ≡ y
    same q = cc

    other : {c : Continuation} {content : List ℕ} → ◌≡◌ {A = Reading} (Ok (parts.Continuation c content)) (Ok (parts.Leg g)) → ⊥
    other q = let z : ◌≡◌ {A = ℕ} 0 1 = cc in omega arith

    by : (rec : List ℕ) × Alone rec s × Legal rec → (writing n (render_leg g) ≡ Accepted) × (written n (render_leg g) ≡ s ++ replicate (n - 133) 0)
    by (rec, a, inl l) = again s rec n a h (inl l) (render_leg g) (leg_only g rec (a.0, l, same (sym (leg_read_lem rec s a l) ∙ e)))
    by (rec, a, inr c) = absurd (other (sym (continuation_read rec s a c) ∙ e))

-- and so is what was read as a continuation, with its 83 bytes
pub continuation_read_written : (s : List ℕ) (c : Continuation) (content : List ℕ) (n : ℕ)
    → reading_of s ≡ Ok (parts.Continuation c content) → 133 ≤ n
    → (writing n (render_continuation c content) ≡ Accepted) × (written n (render_continuation c content) ≡ s ++ replicate (n - 133) 0)
continuation_read_written s c content n e h = by ((reading_iff s).0 (ap verdict_of e))
  where
    same : {x y : Continuation} {p q : List ℕ} → ◌≡◌ {A = Reading} (Ok (parts.Continuation x p)) (Ok (parts.Continuation y q)) → (x ≡ y) × (p ≡ q)
    same r = (cc, cc)

    other : {g : Leg} → ◌≡◌ {A = Reading} (Ok (parts.Leg g)) (Ok (parts.Continuation c content)) → ⊥
    other q = let z : ◌≡◌ {A = ℕ} 0 1 = cc in omega arith

    by : (rec : List ℕ) × Alone rec s × Legal rec
        → (writing n (render_continuation c content) ≡ Accepted) × (written n (render_continuation c content) ≡ s ++ replicate (n - 133) 0)
    by (rec, a, inl l) = absurd (other (sym (leg_read_lem rec s a l) ∙ e))
    by (rec, a, inr l) =
        let r = same (sym (continuation_read rec s a l) ∙ e) in
        again s rec n a h (inr l) (render_continuation c content) (continuation_only c content rec (a.0, l, r.0, r.1))

-- on every refusal of writing, 14, 3, 4 or 5, the buffer is nothing but zeros
pub nothing_written : (n : ℕ) (rec : List ℕ) (r : Refusal) → writing n rec ≡ Refused r → written n rec ≡ replicate n 0
unfolding written_by
nothing_written n rec r e = ap (λ (v : Verdict). written_by v n rec) e
