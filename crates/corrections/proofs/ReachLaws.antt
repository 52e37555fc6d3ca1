-- How far bytes go along with a form: bounds, one turn of a loop along its places, and the places of the three forms.
-- Assumes nothing.
use Rattle.std.specs.Prelude.{Option, None, Some, MatchOption}
use Rattle.std.specs.Option.{unwrap_or}
use Rattle.std.specs.List.{list_all}
use Rattle.std.specs.Cmp.Lexicographic.{pointwise}
use Rattle.std.proofs.Math.Bool.{and_comm}
use mathlib.Core.Path.{◌≡◌, refl, sym, ap, subst, ◌∙◌}
use mathlib.Core.Bool.{Bool, true, false, ◌&&◌, and-true, and_assoc}
use mathlib.Core.List.{List, [], ◌∷◌, ◌++◌, map, append_assoc}
use Prim.Native.Nat.{ℕ, zero, suc, ◌+◌, ◌-◌, ◌/◌, ◌%◌, ◌≤◌, ◌<◌}
use native.Mathlib.Omega.{arith}
use native.Mathlib.Nat.{le_of_suc-le-suc, not-suc-le-zero}
use lib.Dec.{eqb, ltb, eqb-suc-suc, eqb-zero-suc}
use lib.ListN.{length, get_or, take, drop, replicate, take-append-drop, length-append, length-map, drop_of_length-le}
use lib.ListN.{get_or-append, get_or-map, get_or-replicate}
use lib.Seq.{drop-cons, length-take-le}
use borrow.Author.Tests.{eq-eqb, ne_eqb, eqb-true, eqb-false, ltb-true, ltb-false}
use Rattle.slices.proofs.Cases.{split}
use Rattle.digits.specs.Decimal.{decimal}
use Rattle.digits.proofs.DecimalLaws.{decimal_width, decimal_ones, decimal_tens, decimal_hundreds}
use Rattle.corrections.specs.Lines.{Span, exactly, printable, allows, Form, ended, heading, change, reach, whole}

-- no further than the form, and no further than the bytes
pub reach_within : (f : Form) (bs : List ℕ) → reach f bs ≤ length f
unfolding reach
reach_within [] bs = omega arith
reach_within (s ∷ f) [] = omega arith
reach_within (s ∷ f) (b ∷ bs) = split (allows s b) (λ e. rw e (omega (arith, reach_within f bs))) (λ e. rw e (omega arith))

pub reach_length : (f : Form) (bs : List ℕ) → reach f bs ≤ length bs
unfolding reach
reach_length [] bs = omega arith
reach_length (s ∷ f) [] = omega arith
reach_length (s ∷ f) (b ∷ bs) = split (allows s b) (λ e. rw e (omega (arith, reach_length f bs))) (λ e. rw e (omega arith))

-- ---- along a form that lets no 0 in, so past the last byte too, where it reads as 0

abbrev NoZero : Form → Type 0
NoZero [] = Unit {0}
NoZero (s ∷ f) = (allows s 0 ≡ false) × NoZero f

-- the byte at a place may stand there, or may not
module _ (f : Form) (bs : List ℕ) where
  abbrev pub Right : ℕ → Type 0
  Right k = allows (get_or f k (exactly 0)) (get_or bs k 0) ≡ true

  abbrev pub Wrong : ℕ → Type 0
  Wrong k = allows (get_or f k (exactly 0)) (get_or bs k 0) ≡ false

-- they go on to the first that may not, or to the form's end
reach_stop : (f : Form) (bs : List ℕ) (n : ℕ) → NoZero f → n < length f → Wrong f bs n → ((k : ℕ) → 0 ≤ k → k < n → Right f bs k)
    → reach f bs ≡ n
unfolding reach
reach_stop [] bs n z h w r = absurd (not-suc-le-zero h)
reach_stop (s ∷ f) [] zero z h w r = refl
reach_stop (s ∷ f) (b ∷ bs) zero z h w r = rw w
reach_stop (s ∷ f) [] (suc n) z h w r = let both : true ≡ false = sym (r 0 (omega arith) (omega arith)) ∙ z.0 in absurd cc
reach_stop (s ∷ f) (b ∷ bs) (suc n) z h w r =
    rw (r 0 (omega arith) (omega arith))
    (ap suc (reach_stop f bs n z.1 (le_of_suc-le-suc h) w (λ k a q. r (suc k) (omega arith) (omega arith))))

reach_end : (f : Form) (bs : List ℕ) → NoZero f → ((k : ℕ) → 0 ≤ k → k < length f → Right f bs k) → reach f bs ≡ length f
unfolding reach
reach_end [] bs z r = refl
reach_end (s ∷ f) [] z r = let both : true ≡ false = sym (r 0 (omega arith) (omega arith)) ∙ z.0 in absurd cc
reach_end (s ∷ f) (b ∷ bs) z r =
    rw (r 0 (omega arith) (omega arith)) (ap suc (reach_end f bs z.1 (λ k a q. r (suc k) (omega arith) (omega arith))))

reach_first : (f : Form) (bs : List ℕ) → NoZero f → (r : Option ℕ)
    → MatchOption r ((k : ℕ) → 0 ≤ k → k < length f → Right f bs k)
    (λ n. (0 ≤ n) × (n < length f) × Wrong f bs n × ((k : ℕ) → 0 ≤ k → k < n → Right f bs k))
    → unwrap_or r (length f) ≡ reach f bs
reach_first f bs z None right = sym (reach_end f bs z right)
reach_first f bs z (Some n) w = sym (reach_stop f bs n z w.1 w.2 w.3)

-- ---- the whole form, place by place

whole_cons : (s : Span) (f : Form) (b : ℕ) (bs : List ℕ) → whole (s ∷ f) (b ∷ bs) ≡ (allows s b && whole f bs)
unfolding whole reach
whole_cons s f b bs =
    split (allows s b) (λ t. rw t (eqb-suc-suc (reach f bs) (length f))) (λ t. rw t (eqb-zero-suc (length f)))

whole_end : (rest : List ℕ) → whole [] rest ≡ true
unfolding whole reach
whole_end rest = refl

whole_none : (s : Span) (f : Form) → whole (s ∷ f) [] ≡ false
unfolding whole reach
whole_none s f = eqb-zero-suc (length f)

whole_record : (n : ℕ) (f : Form) (bytes rest : List ℕ) → length bytes ≡ n
    → whole (replicate n printable ++ f) (bytes ++ rest) ≡ (list_all (allows printable) bytes && whole f rest)
whole_record zero f [] rest h = refl
whole_record zero f (b ∷ bs) rest h = absurd (omega arith)
whole_record (suc n) f [] rest h = absurd (omega arith)
whole_record (suc n) f (b ∷ bs) rest h =
    whole_cons printable (replicate n printable ++ f) b (bs ++ rest)
    ∙ rw (whole_record n f bs rest (omega arith)) (sym (and_assoc (allows printable b) (list_all (allows printable) bs) (whole f rest)))

-- of a text: the bytes begin with it
either_way : (a b : ℕ) → eqb a b ≡ eqb b a
either_way a b =
    split (eqb a b) (λ e. rw (e, eq-eqb b a (sym (eqb-true a b e)))) (λ e. rw (e, ne_eqb b a (λ q. eqb-false a b e (sym q))))

whole_text : (text bs : List ℕ) → pointwise eqb text (take (length text) bs) ≡ whole (map exactly text) bs
whole_text [] bs = sym (whole_end bs)
whole_text (t ∷ ts) [] = sym (whole_none (exactly t) (map exactly ts))
whole_text (t ∷ ts) (b ∷ bs) = sym (whole_cons (exactly t) (map exactly ts) b bs ∙ rw (← whole_text ts bs, either_way b t))

-- ---- the heading of a correction

module _ (n : ℕ) where
  pub heading_width : length (heading n) ≡ length (decimal n) + 3
  unfolding heading
  heading_width = omega (arith, length-append (map exactly (decimal n)) ended, length-map (decimal n) exactly)

  pub heading_short : (4 ≤ length (heading n)) × (length (heading n) ≤ 23)
  heading_short = (omega (arith, heading_width, (decimal_width n).0), omega (arith, heading_width, (decimal_width n).1))

  -- below 1,000 it has from 4 to 6 bytes
  pub heading_ones : n < 10 → map exactly (67 ∷ 9 ∷ (n % 10 + 48) ∷ 10 ∷ []) ≡ heading n
  unfolding heading
  heading_ones h = rw (decimal_ones n h)

  pub heading_tens : 10 ≤ n → n < 100 → map exactly (67 ∷ 9 ∷ (n / 10 % 10 + 48) ∷ (n % 10 + 48) ∷ 10 ∷ []) ≡ heading n
  unfolding heading
  heading_tens g h = rw (decimal_tens n g h)

  pub heading_hundreds : 100 ≤ n → n < 1000
      → map exactly (67 ∷ 9 ∷ (n / 100 % 10 + 48) ∷ (n / 10 % 10 + 48) ∷ (n % 10 + 48) ∷ 10 ∷ []) ≡ heading n
  unfolding heading
  heading_hundreds g h = rw (decimal_hundreds n g h)

  heading_no_zero : n < 1000 → NoZero (heading n)
  heading_no_zero h =
      split (ltb n 10) (λ t. subst NoZero (heading_ones (ltb-true n 10 t)) (refl, (refl, (digit n, (refl, tt)))))
      (λ t. split (ltb n 100)
      (λ u. subst NoZero (heading_tens (ltb-false n 10 t) (ltb-true n 100 u)) (refl, (refl, (digit (n / 10), (digit n, (refl, tt))))))
      (λ u. subst NoZero (heading_hundreds (ltb-false n 100 u) h) (refl, (refl, (digit (n / 100), (digit (n / 10), (digit n, (refl, tt))))))))
    where
      digit : (m : ℕ) → eqb 0 (m % 10 + 48) ≡ false
      digit m = ne_eqb 0 (m % 10 + 48) (λ (z : 0 ≡ m % 10 + 48). omega arith)

  -- it begins with its letter, and some bytes begin with it or don't
  pub heading_other : (bs : List ℕ) {b : ℕ} → b ≡ get_or bs 0 0 → (b ≡ 67 → ⊥) → eqb b 67 ≡ whole (heading n) bs
  unfolding heading
  heading_other [] {b} e q = ne_eqb b 67 q ∙ sym (whole_none (exactly 67) _)
  heading_other (c ∷ cs) {b} e q = ne_eqb b 67 q ∙ sym (whole_cons (exactly 67) _ c cs ∙ rw (← e, ne_eqb b 67 q))

  pub heading_whole : (text bs : List ℕ) → map exactly text ≡ heading n → pointwise eqb text (take (length text) bs) ≡ whole (heading n) bs
  heading_whole text bs e = whole_text text bs ∙ ap (λ (f : Form). whole f bs) e

-- how far they go along with its text
module _ (n : ℕ) (bs text : List ℕ) (small : n < 1000) (e : map exactly text ≡ heading n) where
  as_wide : length text ≡ length (heading n)
  as_wide = sym (length-map text exactly) ∙ ap length e

  place : (k : ℕ) → get_or (heading n) k (exactly 0) ≡ exactly (get_or text k 0)
  place k = ap (λ (f : Form). get_or f k (exactly 0)) (sym e) ∙ get_or-map exactly text k 0

  heading_right : (k : ℕ) → get_or bs k 0 ≡ get_or text k 0 → Right (heading n) bs k
  heading_right k q = rw (place k) (eq-eqb (get_or bs k 0) (get_or text k 0) q)

  heading_wrong : (k : ℕ) → (get_or bs k 0 ≡ get_or text k 0 → ⊥) → Wrong (heading n) bs k
  heading_wrong k q = rw (place k) (ne_eqb (get_or bs k 0) (get_or text k 0) q)

  pub heading_first : (r : Option ℕ)
      → MatchOption r ((k : ℕ) → 0 ≤ k → k < length text → get_or bs k 0 ≡ get_or text k 0)
      (λ m. (0 ≤ m) × (m < length text) × (get_or bs m 0 ≡ get_or text m 0 → ⊥) × ((k : ℕ) → 0 ≤ k → k < m → get_or bs k 0 ≡ get_or text k 0))
      → unwrap_or r (length text) ≡ reach (heading n) bs
  heading_first None right =
      as_wide ∙ reach_first (heading n) bs (heading_no_zero n small) None (λ k a b. heading_right k (right k a (omega (arith, as_wide))))
  heading_first (Some m) w =
      reach_first (heading n) bs (heading_no_zero n small) (Some m)
      (w.0, omega (arith, as_wide, w.1), heading_wrong m w.2, λ k a b. heading_right k (w.3 k a b))

-- ---- a D or A line

pub change_width : (letter : ℕ) → length (change letter) ≡ 135
unfolding change
change_width letter = refl

change_no_zero : (letter : ℕ) → 0 < letter → NoZero (change letter)
unfolding change
change_no_zero letter h = (ne_eqb 0 letter (λ (z : 0 ≡ letter). omega arith), (refl, bytes 132))
  where
    bytes : (n : ℕ) → NoZero (replicate n printable ++ ended)
    bytes zero = (refl, tt)
    bytes (suc n) = (refl, bytes n)

-- the places of the record and of the line feed
module _ (letter : ℕ) where
  pub change_record : (k : ℕ) → (k ≡ 0 → ⊥) → (k ≡ 1 → ⊥) → k < 134 → get_or (change letter) k (exactly 0) ≡ printable
  unfolding change
  change_record zero g f h = absurd (g refl)
  change_record (suc zero) g f h = absurd (f refl)
  change_record (suc (suc k)) g f h =
      get_or-append (replicate 132 printable) ended (exactly 0) k (omega arith) ∙ get_or-replicate 132 k printable (exactly 0) (omega arith)

-- whether it stands there, by the bytes of the log's part that is as long
regroup : (a b c d : Bool) → (a && (b && (d && (c && true)))) ≡ (((a && b) && c) && d)
regroup false b c d = refl
regroup true false c d = refl
regroup true true c d = rw (and-true c) (and_comm d c)

module _ (letter : ℕ) where
  change_whole : (part rest : List ℕ) → length part ≡ 135 → whole (change letter) (part ++ rest)
      ≡ (((eqb (get_or part 0 0) letter && eqb (get_or part 1 0) 9) && eqb (get_or part (length part - 1) 0) 10)
      && list_all (allows printable) (take (length part - 1 - 2) (drop 2 part)))
  unfolding change
  change_whole [] rest h = absurd (omega arith)
  change_whole (a ∷ []) rest h = absurd (omega arith)
  change_whole (a ∷ b ∷ bs) rest h =
      let last : length (a ∷ b ∷ bs) - 1 ≡ 134 = omega arith in
      let none : drop 133 bs ≡ [] = drop_of_length-le bs {i = 133} (omega arith) in
      let parts : bs ≡ take 132 bs ++ get_or bs 132 0 ∷ [] =
      sym (take-append-drop 132 bs) ∙ ap (λ (l : List ℕ). take 132 bs ++ l) (drop-cons bs 132 0 (omega arith) ∙ ap (λ (l : List ℕ). get_or bs 132 0 ∷ l) none) in
      let behind : bs ++ rest ≡ take 132 bs ++ get_or bs 132 0 ∷ rest =
      ap (λ (l : List ℕ). l ++ rest) parts ∙ append_assoc (take 132 bs) (get_or bs 132 0 ∷ []) rest in
      whole_cons (exactly letter) (exactly 9 ∷ (replicate 132 printable ++ ended)) a (b ∷ (bs ++ rest))
      ∙ rw (
        whole_cons (exactly 9) (replicate 132 printable ++ ended) b (bs ++ rest),
        behind,
        whole_record 132 ended (take 132 bs) (get_or bs 132 0 ∷ rest) (length-take-le 132 bs (omega arith)),
        whole_cons (exactly 10) [] (get_or bs 132 0) rest,
        whole_end rest,
        last,
      ) (regroup (eqb a letter) (eqb b 9) (eqb (get_or bs 132 0) 10) (list_all (allows printable) (take 132 bs)))

  pub change_read : (bs part : List ℕ) → part ≡ take 135 bs → length part ≡ 135
      → (((eqb (get_or part 0 0) letter && eqb (get_or part 1 0) 9) && eqb (get_or part (length part - 1) 0) 10)
      && list_all (allows printable) (take (length part - 1 - 2) (drop 2 part))) ≡ whole (change letter) bs
  change_read bs part e h =
      sym (change_whole part (drop 135 bs) h)
      ∙ ap (whole (change letter)) (ap (λ (l : List ℕ). l ++ drop 135 bs) e ∙ take-append-drop 135 bs)

  pub change_short : (bs : List ℕ) → length bs < 135 → false ≡ whole (change letter) bs
  unfolding whole
  change_short bs h =
      sym (ne_eqb (reach (change letter) bs) (length (change letter)) (λ q. omega (arith, reach_length (change letter) bs, change_width letter)))

-- how far they go along with it
pub change_first : (letter : ℕ) (bs : List ℕ) → 0 < letter → (r : Option ℕ)
    → MatchOption r ((k : ℕ) → 0 ≤ k → k < 135 → Right (change letter) bs k)
    (λ m. (0 ≤ m) × (m < 135) × Wrong (change letter) bs m × ((k : ℕ) → 0 ≤ k → k < m → Right (change letter) bs k))
    → unwrap_or r 135 ≡ reach (change letter) bs
change_first letter bs some None right =
    sym (change_width letter)
    ∙ reach_first (change letter) bs (change_no_zero letter some) None (λ k a b. right k a (omega (arith, change_width letter)))
change_first letter bs some (Some m) w =
    reach_first (change letter) bs (change_no_zero letter some) (Some m) (w.0, omega (arith, w.1, change_width letter), w.2, w.3)

-- how far a heading and a D or A line can be gone along with
module _ (bs : List ℕ) {r : ℕ} where
  pub heading_at_most : (n : ℕ) → r ≡ reach (heading n) bs → r ≤ 23
  heading_at_most n e = omega (arith, reach_within (heading n) bs, (heading_short n).1)

  pub change_at_most : (letter : ℕ) → r ≡ reach (change letter) bs → r ≤ 135
  change_at_most letter e = omega (arith, reach_within (change letter) bs, change_width letter)
