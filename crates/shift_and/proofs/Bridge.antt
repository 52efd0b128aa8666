-- The bridge from words to the model: where table and masks are those of a list of positions (`Encodes`), the formula's bits make the step of the model's
-- law, and the opening word its opening; so each of the three searches, and a whole scan, on words is the model's. Over any width. Nothing above this
-- file looks at a bit. Assumes nothing.
use Rattle.std.proofs.Common.{◌≡◌, ℕ, zero, suc, ◌+◌, ◌-◌, ◌*◌, ◌/◌, ◌%◌, ◌^◌, ◌<◌, ◌≤◌, Bool, true, false, not, ◌&&◌, ◌||◌, T, eqb, List, [], ◌∷◌, ◌++◌, reverse, length, sym, refl, ap, ◌∙◌, subst, ap₂, div-one, arith, pow_pos}
use mathlib.Core.Bool.{or-false, and-false, and_assoc, and_comm}
use native.Mathlib.Nat.{pow-succ', div-div-eq-div-mul}
use lib.Bits.{bit_and}
use Rattle.model.specs.Occurrence.{Position, one_if, is_end, is_occurrence}
use Rattle.model.specs.Occurrence as Occurrence
use Rattle.model.specs.PlainScan.{Call, nothing_kept, scan_from}
use Rattle.model.specs.WindowSearch.{Inhabited, is_beginning}
use Rattle.model.proofs.Law.{nth, Steps, Opens, Represents, inhabited-reverse}
use Rattle.model.proofs.Searches.{Suffix, Same, Ending}
use Rattle.model.proofs.Searches as Searches
use Rattle.model.proofs.Scans.{opened, scanner_from, scanner_is-plain}
use Rattle.shift_and.specs.Bit.{is_set, bit, count}
use Rattle.shift_and.specs.ForwardStep.{top_bit, shortest}
use Rattle.shift_and.specs.Automaton.{Automaton, step_with, step_on, opening_state}
use Rattle.shift_and.specs.Masks.{mask_from, mask, all_mask, optional_mask, Encodes}
use Rattle.shift_and.proofs.Digits.{push_bit, and_bit, not_bit, none-bit}
use Rattle.shift_and.proofs.Closure.{closed, moved, step_bit_lem, opening-bit}
use Rattle.shift_and.proofs.MaskLaws.{mask_up, mask_low, mask-bit, mask_fits}
use Rattle.shift_and.proofs.Counting.{count_suc, count-below, shortest-count}

-- ---- the top bit, as the code tests it

low_bit : (x : ℕ) → x < 2 → eqb x 1 ≡ is_set x
low_bit zero h = refl
low_bit (suc zero) h = refl
low_bit (suc (suc x)) h = absurd (omega arith)

pub top-bit : (n d : ℕ) → top_bit n d ≡ bit d n
unfolding top_bit bit
top-bit zero d = rw div-one (low_bit (d % 2) (omega arith))
top-bit (suc n) d = rw (pow-succ', ← div-div-eq-div-mul) (top-bit n (d / 2))

one-first : (k : Bool) → bit (one_if k) 0 ≡ k
unfolding bit
one-first true = refl
one-first false = refl

one_later : (k : Bool) (j : ℕ) → bit (one_if k) (suc j) ≡ false
unfolding bit
one_later true j = none-bit j
one_later false j = none-bit j

-- ---- what a state says: of all that began anywhere in the text read, of just the bytes read, of all strings that end in the bytes read backwards

abbrev pub Scanned : List Position → (t : List ℕ) (d : ℕ) → Type 0
Scanned ps t d = Represents (Suffix t) ps (bit d)

abbrev pub Anchored : List Position → (t : List ℕ) (d : ℕ) → Type 0
Anchored ps t d = Represents (Same t) ps (bit d)

abbrev pub Backward : List Position → (v : List ℕ) (d : ℕ) → Type 0
Backward ps v d = Represents (Ending v) (reverse ps) (bit d)

-- The top bit is the test of document 01.
module _ (ps : List Position) where
  pub scanned_top : (t : List ℕ) (d : ℕ) → Scanned ps t d → top_bit (length ps) d ≡ is_end ps t (length t)
  scanned_top t d r = top-bit (length ps) d ∙ Searches.scan_top ps t (bit d) r

  pub anchored_top : (t : List ℕ) (d : ℕ) → Anchored ps t d → top_bit (length ps) d ≡ is_occurrence ps t
  anchored_top t d r = top-bit (length ps) d ∙ Searches.anchored_top ps t (bit d) r

  pub backward-top : Inhabited ps → (u : List ℕ) (d : ℕ) → Backward ps (reverse u) d → top_bit (length ps) d ≡ is_beginning ps u
  backward-top inhabited u d r = top-bit (length ps) d ∙ Searches.backward-top ps u (bit d) inhabited r

-- ---- the step and the opening

first-is : (x s k z : Bool) → s ≡ false → k ≡ z → ((x && s) || k) ≡ z
first-is x s k z es ek = rw (es, ek, and-false)

later_is : (x y b s k o n set rep opt : Bool) → b ≡ set → s ≡ (rep && set) → k ≡ false → o ≡ opt
    → ((((x && b) || (y && s)) || k) || (o && n)) ≡ (((x && set) || ((y && rep) && set)) || (opt && n))
later_is x y b s k o n set rep opt eb es ek eo = rw (eb, es, ek, eo, or-false, and_assoc)

module _ (A : Automaton) (ps : List Position) (e : Encodes A ps) where
  fits : A.optional < 2 ^ A.width
  fits = rw e.is-optional (mask_fits A.width (λ p. p.optional) ps e.fits)

  optional-low : bit A.optional 0 ≡ false
  optional-low = rw e.is-optional (mask_low (λ p. p.optional) ps)

  optional-bit : (i : ℕ) → i < length ps → bit A.optional (suc i) ≡ (nth ps i).optional
  optional-bit i h = rw e.is-optional (mask-bit (λ p. p.optional) ps i h)

  admits_bit : (c i : ℕ) → i < length ps → bit (A.table c) (suc i) ≡ (nth ps i).set c
  admits_bit c i h = rw (e.is-table c) (mask-bit (λ p. p.set c) ps i h)

  stays-low : (c : ℕ) → bit (bit_and (A.table c) A.repeats) 0 ≡ false
  stays-low c = and_bit (A.table c) A.repeats 0 ∙ ap (λ (b : Bool). bit (A.table c) 0 && b) (ap (λ (n : ℕ). bit n 0) e.is-repeats ∙ mask_low (λ p. p.repeats) ps) ∙ and-false (bit (A.table c) 0)

  stays-bit : (c i : ℕ) → i < length ps → bit (bit_and (A.table c) A.repeats) (suc i) ≡ ((nth ps i).repeats && (nth ps i).set c)
  stays-bit c i h =
      and_bit (A.table c) A.repeats (suc i)
      ∙ ap₂ (λ (x y : Bool). x && y) (admits_bit c i h) (ap (λ (n : ℕ). bit n (suc i)) e.is-repeats ∙ mask-bit (λ p. p.repeats) ps i h)
      ∙ and_comm ((nth ps i).set c) (nth ps i).repeats

  pub word-steps : (k : Bool) (c d : ℕ) → Steps k ps c (bit d) (bit (step_on A (one_if k) d c))
  unfolding closed moved step_with
  word-steps k c d =
      let b = A.table c in
      let s = bit_and b A.repeats in
      let row = moved (bit d) (bit b) (bit s) (bit (one_if k)) in
      let at : (j : ℕ) → j < A.width → bit (step_on A (one_if k) d c) j ≡ closed row (bit A.optional) j = λ j h. step_bit_lem A.width d b s (one_if k) A.optional fits optional-low j h in
      let l = e.fits in
      record {
        first = at 0 (omega arith) ∙ first-is (bit d 0) (bit s 0) (bit (one_if k) 0) k (stays-low c) (one-first k);
        later = λ i h.
            at (suc i) (omega arith)
            ∙ ap (λ (x : Bool). (((bit d i && bit b (suc i)) || (bit d (suc i) && bit s (suc i))) || bit (one_if k) (suc i)) || (bit A.optional (suc i) && x)) (sym (at i (omega arith)))
            ∙ later_is (bit d i) (bit d (suc i)) (bit b (suc i)) (bit s (suc i)) (bit (one_if k) (suc i)) (bit A.optional (suc i)) (bit (step_on A (one_if k) d c) i) ((nth ps i).set c) (nth ps i).repeats (nth ps i).optional
            (admits_bit c i h) (stays-bit c i h) (one_later k i) (optional-bit i h);
      }

  pub word-opens : Opens ps (bit (opening_state A))
  unfolding closed
  word-opens =
      let at : (j : ℕ) → j < A.width → bit (opening_state A) j ≡ closed (bit 1) (bit A.optional) j = λ j h. opening-bit A.width A.optional fits optional-low j h in
      let l = e.fits in
      record {
        first = at 0 (omega arith) ∙ one-first true;
        later = λ i h.
            at (suc i) (omega arith)
            ∙ ap₂ (λ (x y : Bool). x || (bit A.optional (suc i) && y)) (one_later true i) (sym (at i (omega arith)))
            ∙ ap (λ (x : Bool). x && bit (opening_state A) i) (optional-bit i h);
      }

  -- ---- 1. forward: all that began anywhere in the text read

  pub scanned_open : Scanned ps [] (opening_state A)
  scanned_open = Searches.scan_open ps (bit (opening_state A)) word-opens

  pub scanned_step : (t : List ℕ) (d c : ℕ) → Scanned ps t d → Scanned ps (t ++ (c ∷ [])) (step_on A 1 d c)
  scanned_step t d c r = Searches.scan_step ps t c (bit d) (bit (step_on A 1 d c)) (word-steps true c d) r

  -- A whole list of calls.
  pub words_are_plain : (limit : ℕ) (cs : List Call)
      → scanner_from limit ℕ (step_on A 1) (top_bit (length ps)) (opened (opening_state A)) cs ≡ scan_from limit ps nothing_kept cs
  words_are_plain limit cs =
      scanner_is-plain limit ℕ (step_on A 1) (top_bit (length ps)) ps (λ d t. Scanned ps t d) (λ d t c r. scanned_step t d c r)
      (λ d t r. scanned_top ps t d r) (opening_state A) scanned_open cs

  -- ---- 2. anchored: just the bytes read

  pub anchored_open : Anchored ps [] (opening_state A)
  anchored_open = Searches.anchored_open ps (bit (opening_state A)) word-opens

  pub anchored_step : (t : List ℕ) (d c : ℕ) → Anchored ps t d → Anchored ps (t ++ (c ∷ [])) (step_on A 0 d c)
  anchored_step t d c r = Searches.anchored_step ps t c (bit d) (bit (step_on A 0 d c)) (word-steps false c d) r

-- ---- 3. backwards, from all states, where table and masks are those of the reversed positions

module _ (A : Automaton) (ps : List Position) (e : Encodes A (reverse ps)) where
  pub backward_open : Inhabited ps → Backward ps [] (2 ^ A.width - 1)
  backward_open inhabited =
      Searches.backward_open (reverse ps) (bit (2 ^ A.width - 1)) (inhabited-reverse ps inhabited)
      (λ i h. let l = e.fits in subst (λ (b : Bool). T b) (sym (every i (omega arith))) tt)
    where
      every : (j : ℕ) → j < A.width → bit (2 ^ A.width - 1) j ≡ true
      every j h =
          let z : 2 ^ A.width - 1 ≡ (2 ^ A.width - 1) - 0 = omega arith in
          ap (λ (n : ℕ). bit n j) z ∙ not_bit A.width 0 j (pow_pos A.width) h ∙ ap not (none-bit j)

  pub backward_step : (v : List ℕ) (d c : ℕ) → Backward ps v d → Backward ps (v ++ (c ∷ [])) (step_on A 0 d c)
  backward_step v d c r =
      Searches.backward_step (reverse ps) v c (bit d) (bit (step_on A 0 d c)) (word-steps A (reverse ps) e false c d) r

-- ---- the shortest length

count_false : (w : ℕ) → count (λ j. false) w ≡ 0
unfolding count
count_false zero = refl
count_false (suc w) = let e = count_false w in omega arith

count-mask : (w : ℕ) (ps : List Position) → length ps ≤ w
    → count (λ j. bit (mask_from (λ p. true) ps) j && not (bit (mask_from (λ p. p.optional) ps) j)) w ≡ Occurrence.shortest ps
unfolding mask_from
count-mask w [] h = count-below (λ j. bit 0 j && not (bit 0 j)) (λ j. false) w (λ j l. ap (λ (b : Bool). b && not (bit 0 j)) (none-bit j)) ∙ count_false w
count-mask zero (p ∷ ps) h = absurd (omega arith)
count-mask (suc w) (p ∷ ps) h =
    let x = mask_from (λ p. true) ps in
    let y = mask_from (λ p. p.optional) ps in
    count_suc (λ j. bit (x * 2 + one_if true) j && not (bit (y * 2 + one_if p.optional) j)) w
    ∙ ap₂ (λ (m n : ℕ). m + n)
    (ap₂ (λ (a b : Bool). one_if (a && not b)) (push_bit true x 0) (push_bit p.optional y 0))
    (count-below (λ j. bit (x * 2 + one_if true) (suc j) && not (bit (y * 2 + one_if p.optional) (suc j))) (λ j. bit x j && not (bit y j)) w
    (λ j l. ap₂ (λ (a b : Bool). a && not b) (push_bit true x (suc j)) (push_bit p.optional y (suc j)))
    ∙ count-mask w ps (omega arith))

pub shortest-is : (w : ℕ) (ps : List Position) → length ps < w → shortest w (all_mask ps) (optional_mask ps) ≡ Occurrence.shortest ps
shortest-is zero ps h = absurd (omega arith)
shortest-is (suc w) ps h =
    let all : Position → Bool = λ p. true in
    let opt : Position → Bool = λ p. p.optional in
    shortest-count (suc w) (mask all ps) (mask opt ps) (mask_fits (suc w) all ps h) (mask_fits (suc w) opt ps h)
    ∙ count_suc (λ j. bit (mask all ps) j && not (bit (mask opt ps) j)) w
    ∙ ap₂ (λ (m n : ℕ). m + n)
    (ap (λ (a : Bool). one_if (a && not (bit (mask opt ps) 0))) (mask_low all ps))
    (count-below (λ j. bit (mask all ps) (suc j) && not (bit (mask opt ps) (suc j))) (λ j. bit (mask_from all ps) j && not (bit (mask_from opt ps) j)) w
    (λ j l. ap₂ (λ (a b : Bool). a && not b) (mask_up all ps j) (mask_up opt ps j))
    ∙ count-mask w ps (omega arith))
    ∙ (let z : 0 + Occurrence.shortest ps ≡ Occurrence.shortest ps = omega arith in z)
