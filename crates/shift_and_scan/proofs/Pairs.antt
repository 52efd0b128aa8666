-- The pair filter: a start whose byte at the offset a is not x, or whose byte at b is not y, may be passed over in the state 1, where the positions up
-- to b + 1 are plain and position a + 1 admits x alone, position b + 1 y alone. Two runs are compared: D from the start on, E from the next byte
-- on. They differ in one bit at most, bit j after j bytes, which is the start's own; and by b + 1 bytes it is gone. Assumes nothing.
use Rattle.std.proofs.Common.{◌≡◌, ℕ, zero, suc, ◌+◌, ◌-◌, ◌*◌, ◌/◌, ◌%◌, ◌^◌, ◌<◌, ◌≤◌, Bool, true, false, ◌&&◌, ◌||◌, List, length, get_or, drop, sym, refl, ap, ◌∙◌, ap₂, add-zero, add-one, arith, pow_mono, eq-eqb}
use native.Mathlib.Decide.{dec_lt}
use lib.Bits.{bit_and, bit_or, and_zero_l, or_zero_r}
use Rattle.model.proofs.Truth.{or_false_left, or_false_right, and-false, not_both, T-to}
use Rattle.shift_and.specs.Bit.{bit}
use Rattle.shift_and.specs.ForwardStep.{move, flood, advance, block_starts, block_ends, top_bit}
use Rattle.shift_and.proofs.Digits.{bit-above, and_bit, or_bit, none-bit}
use Rattle.shift_and.proofs.DisjointBits.{same-all, and_none, clear-below, Below, below-lt}
use Rattle.shift_and.proofs.Unchanged.{flood_still, true_right, one_bit}
use Rattle.shift_and.proofs.Bridge.{top-bit}
use Rattle.byte_search.specs.BlockTests.{NoneBefore}
use Rattle.prefilter_search.specs.Candidates.{pair_at}
use Rattle.prefilter.specs.Soundness.{PairSound}
use Rattle.shift_and_step.specs.declared.Masks.{Masks}
use Rattle.shift_and.specs.Automaton.{step_with, step_on, state_after, ends_in}
use Rattle.shift_and_step.specs.Stepping.{automaton_of, step_n}
use Rattle.shift_and_loop.specs.Loops.{Skippable}
use Rattle.shift_and_loop.proofs.LoopLaws.{state-turn, ends-turn}
use Rattle.shift_and_scan.proofs.SegmentLaws.{pass_missed}

-- ---- the step at plain positions

plainly : ℕ → ℕ → ℕ
plainly d e = bit_or (bit_and (d * 2) e) 1

plainly_zero : (d e : ℕ) → bit (plainly d e) 0 ≡ true
unfolding plainly bit
plainly_zero d e = or_bit (bit_and (d * 2) e) 1 0 ∙ true_right (bit (bit_and (d * 2) e) 0)

or_no : (b : Bool) → (b || false) ≡ b
or_no false = refl
or_no true = refl

double_bit : (d i : ℕ) → bit (d * 2) (suc i) ≡ bit d i
unfolding bit
double_bit d i = let e : d * 2 / 2 ≡ d = omega arith in rw e refl

plainly_suc : (d e i : ℕ) → bit (plainly d e) (suc i) ≡ (bit d i && bit e (suc i))
unfolding plainly
plainly_suc d e i =
    or_bit (bit_and (d * 2) e) 1 (suc i)
    ∙ ap₂ (λ (p q : Bool). p || q) (and_bit (d * 2) e (suc i) ∙ ap (λ (b : Bool). b && bit e (suc i)) (double_bit d i)) (one_bit i)
    ∙ or_no (bit d i && bit e (suc i))

module _ (t : List ℕ) (m : Masks) (a b x y : ℕ) (h : PairSound t m.repeats m.optional m.top a b x y) where
  neither : (i : ℕ) → i < b + 2 → (bit m.optional i || bit m.repeats i) ≡ false
  neither i l = sym (or_bit m.optional m.repeats i) ∙ clear-below (bit_or m.optional m.repeats) (b + 2) h.plain i l

  no_optional : (i : ℕ) → i < b + 2 → bit m.optional i ≡ false
  no_optional i l = or_false_left (bit m.optional i) (bit m.repeats i) (neither i l)

  no_repeats : (i : ℕ) → i < b + 2 → bit m.repeats i ≡ false
  no_repeats i l = or_false_right (bit m.optional i) (bit m.repeats i) (neither i l)

  -- no end is reported in a state below
  quiet : (d : ℕ) → Below (b + 1) d → top_bit m.top d ≡ false
  quiet d l = top-bit m.top d ∙ l m.top h.above

  module _ (d e : ℕ) (l : Below (b + 1) d) (gone : (bit d b && bit e (suc b)) ≡ false) where
    plainly_below : Below (b + 1) (plainly d e)
    plainly_below zero p = absurd (omega arith)
    plainly_below (suc i) p = plainly_suc d e i ∙ go (dec_lt b i)
      where
        go : Dec (b < i) → (bit d i && bit e (suc i)) ≡ false
        go (yes q) = ap (λ (q : Bool). q && bit e (suc i)) (l i (omega arith))
        go (no q) = let r : i ≡ b = omega arith in rw r gone

    step_plainly : step_n m 1 d e ≡ plainly d e
    unfolding step_with advance move plainly bit
    step_plainly =
        let small : d < 2 ^ (b + 1) = below-lt (b + 1) d l in
        let j : b + 1 ≤ 63 = omega (arith, h.high) in
        let p : 2 ^ (b + 1) ≤ 2 ^ 63 = pow_mono {i = b + 1} {j = 63} j in
        let wide : d * 2 % 2 ^ 64 ≡ d * 2 = omega arith in
        let kept : bit_and d (bit_and e m.repeats) ≡ 0 = and_none d (bit_and e m.repeats) (λ i. stay i (dec_lt i (b + 1))) in
        let nl : plainly d e < 2 ^ (b + 1) = below-lt (b + 1) (plainly d e) plainly_below in
        let still : bit_and (plainly d e) (bit_or m.optional (block_starts 64 m.optional)) ≡ 0 =
        and_none (plainly d e) (bit_or m.optional (block_starts 64 m.optional)) (λ i. touch i (dec_lt i (b + 1))) in
        let f : flood 64 (plainly d e) m.optional (block_starts 64 m.optional) (block_ends 64 m.optional) ≡ plainly d e =
        flood_still 64 (plainly d e) m.optional (omega arith) h.word (plainly_zero d e) still in
        rw (wide, kept, or_zero_r) f
      where
        stay : (i : ℕ) → Dec (i < b + 1) → (bit d i && bit (bit_and e m.repeats) i) ≡ false
        stay i (yes q) = simp (and_bit, no_repeats i (omega arith), and-false)
        stay i (no q) = ap (λ (p : Bool). p && bit (bit_and e m.repeats) i) (l i (omega arith))

        touch : (i : ℕ) → Dec (i < b + 1) → (bit (plainly d e) i && bit (bit_or m.optional (block_starts 64 m.optional)) i) ≡ false
        touch i (yes q) =
            let s : bit (block_starts 64 m.optional) i ≡ false = and_bit (m.optional / 2) ((2 ^ 64 - 1) - m.optional) i
            ∙ ap (λ (p : Bool). p && bit ((2 ^ 64 - 1) - m.optional) i) (no_optional (suc i) (omega arith)) in
            let o : bit (bit_or m.optional (block_starts 64 m.optional)) i ≡ false =
            or_bit m.optional (block_starts 64 m.optional) i ∙ ap₂ (λ (p q : Bool). p || q) (no_optional i (omega arith)) s in
            ap (λ (p : Bool). bit (plainly d e) i && p) o ∙ and-false (bit (plainly d e) i)
        touch i (no q) = ap (λ (p : Bool). p && bit (bit_or m.optional (block_starts 64 m.optional)) i) (plainly_below i (omega arith))

-- ---- two states that the rest of the text makes the same of

record Alike (t : List ℕ) (m : Masks) (text : List ℕ) (i d e : ℕ) : Type 0 where
  state : state_after (automaton_of t m) d (drop i text) ≡ state_after (automaton_of t m) e (drop i text)
  ends : (at : ℕ) → ends_in (automaton_of t m) d at (drop i text) ≡ ends_in (automaton_of t m) e at (drop i text)

alike_same : (t : List ℕ) (m : Masks) (text : List ℕ) (i d e : ℕ) → d ≡ e → Alike t m text i d e
alike_same t m text i d e q = record { state = rw q; ends = λ at. rw q }

alike-turn : (t : List ℕ) (m : Masks) (text : List ℕ) (i d e d' e' : ℕ) → i < length text → step_on (automaton_of t m) 1 d (get_or text i 0) ≡ d'
    → step_on (automaton_of t m) 1 e (get_or text i 0) ≡ e' → top_bit m.top d' ≡ false → top_bit m.top e' ≡ false → Alike t m text (i + 1) d' e' → Alike t m text i d e
alike-turn t m text i d e d' e' h sd se zd ze k = record {
  state = rw (state-turn t m d 0 text i h, sd, state-turn t m e 0 text i h, se) k.state;
  ends = λ at. rw (ends-turn t m d at text i h, sd, zd, ends-turn t m e at text i h, se, ze) (k.ends (at + 1));
}

-- ---- a start that is no candidate

-- the entry e of byte c has a bit that only x's has
only_one : (c x n e : ℕ) → ((c ≡ x → ⊥) → bit e (n + 1) ≡ false) → bit e (suc n) ≡ true → c ≡ x
only_one c x n e f s = go (dec_lt c x) (dec_lt x c)
  where
    no_way : (c ≡ x → ⊥) → ⊥
    no_way d = let z : bit e (suc n) ≡ false = rw add-one at (f d) in T-to (sym s ∙ z) tt

    go : Dec (c < x) → Dec (x < c) → c ≡ x
    go (yes l) q = absurd (no_way (λ e. omega arith))
    go (no l) (yes q) = absurd (no_way (λ e. omega arith))
    go (no l) (no q) = omega arith

module _ (t : List ℕ) (m : Masks) (a b x y : ℕ) (h : PairSound t m.repeats m.optional m.top a b x y) (text : List ℕ) (k : ℕ) (long : k + b < length text)
    (miss : pair_at text a b x y k ≡ false) where
  abbrev entry : ℕ → ℕ
  entry j = get_or t (get_or text (k + j) 0) 0

  -- a byte that position a + 1, or b + 1, admits
  at_a : bit (entry a) (suc a) ≡ true → get_or text (k + a) 0 ≡ x
  at_a s = only_one (get_or text (k + a) 0) x a (entry a) (h.first (get_or text (k + a) 0)) s

  at_b : bit (entry b) (suc b) ≡ true → get_or text (k + b) 0 ≡ y
  at_b s = only_one (get_or text (k + b) 0) y b (entry b) (h.second (get_or text (k + b) 0)) s

  -- the two runs j bytes on: e has no bit from j on, d differs from it at most in bit j, and has that bit only where the byte at a was x
  record Near (j d e : ℕ) : Type 0 where
    below : Below (b + 1) d
    under : (i : ℕ) → j ≤ i → bit e i ≡ false
    same : (i : ℕ) → (i ≡ j → ⊥) → bit d i ≡ bit e i
    seen : bit d j ≡ true → a < j → get_or text (k + a) 0 ≡ x

  -- d's bit b does not live on
  dies : (j d e : ℕ) → j ≤ b → Near j d e → (bit d b && bit (entry j) (suc b)) ≡ false
  dies j d e l n = go (dec_lt j b)
    where
      go : Dec (j < b) → (bit d b && bit (entry j) (suc b)) ≡ false
      go (yes s) = ap (λ (p : Bool). p && bit (entry j) (suc b)) (n.same b (λ q. omega arith) ∙ n.under b (omega arith))
      go (no s) =
          let e : j ≡ b = omega arith in
          not_both (bit d b) (bit (entry j) (suc b)) (λ p q.
          let u : get_or text (k + a) 0 ≡ x = n.seen (rw e p) (omega (arith, h.order)) in
          let v : get_or text (k + b) 0 ≡ y = at_b (rw e at q) in
          let w : ◌≡◌ {A = Bool} true false = rw (eq-eqb _ _ u, eq-eqb _ _ v) at miss in
          T-to w tt)

  near_on : (j d e : ℕ) → j ≤ b → Near j d e → Near (suc j) (plainly d (entry j)) (plainly e (entry j))
  near_on j d e l n = record {
    below = plainly_below t m a b x y h d (entry j) n.below (dies j d e l n);
    under = under;
    same = same;
    seen = λ s q. seen s q (dec_lt a j);
  }
    where
      under : (i : ℕ) → suc j ≤ i → bit (plainly e (entry j)) i ≡ false
      under zero p = absurd (omega arith)
      under (suc i) p = plainly_suc e (entry j) i ∙ ap (λ (q : Bool). q && bit (entry j) (suc i)) (n.under i (omega arith))

      same : (i : ℕ) → (i ≡ suc j → ⊥) → bit (plainly d (entry j)) i ≡ bit (plainly e (entry j)) i
      same zero p = plainly_zero d (entry j) ∙ sym (plainly_zero e (entry j))
      same (suc i) p =
          plainly_suc d (entry j) i ∙ ap (λ (q : Bool). q && bit (entry j) (suc i)) (n.same i (λ q. p (omega arith))) ∙ sym (plainly_suc e (entry j) i)

      left : (p q : Bool) → (p && q) ≡ true → p ≡ true
      left true q f = refl
      left false q f = f

      right : (p q : Bool) → (p && q) ≡ true → q ≡ true
      right true q f = f
      right false true f = refl
      right false false f = f

      seen : bit (plainly d (entry j)) (suc j) ≡ true → a < suc j → Dec (a < j) → get_or text (k + a) 0 ≡ x
      seen s q (yes p) = n.seen (left (bit d j) (bit (entry j) (suc j)) (sym (plainly_suc d (entry j) j) ∙ s)) p
      seen s q (no p) =
          let e' : j ≡ a = omega arith in
          at_a (rw e' at (right (bit d j) (bit (entry j) (suc j)) (sym (plainly_suc d (entry j) j) ∙ s)))

  near-alike : (g j d e : ℕ) → g + j ≡ b + 1 → Near j d e → Alike t m text (k + j) d e
  near-alike zero j d e q n = alike_same t m text (k + j) d e (same-all d e (λ i. go i (dec_lt i (b + 1))))
    where
      go : (i : ℕ) → Dec (i < b + 1) → bit d i ≡ bit e i
      go i (yes p) = n.same i (λ r. omega arith)
      go i (no p) = n.below i (omega arith) ∙ sym (n.under i (omega arith))
  near-alike (suc g) j d e q n =
      let l : j ≤ b = omega arith in
      let n' : Near (suc j) (plainly d (entry j)) (plainly e (entry j)) = near_on j d e l n in
      let low : (bit e b && bit (entry j) (suc b)) ≡ false = ap (λ (p : Bool). p && bit (entry j) (suc b)) (n.under b l) in
      let eb : Below (b + 1) e = λ i p. n.under i (omega arith) in
      let eb' : Below (b + 1) (plainly e (entry j)) = plainly_below t m a b x y h e (entry j) eb low in
      let sd : step_n m 1 d (entry j) ≡ plainly d (entry j) = step_plainly t m a b x y h d (entry j) n.below (dies j d e l n) in
      let se : step_n m 1 e (entry j) ≡ plainly e (entry j) = step_plainly t m a b x y h e (entry j) eb low in
      let i : k + j + 1 ≡ k + suc j = omega arith in
      let rest : Alike t m text (k + j + 1) (plainly d (entry j)) (plainly e (entry j)) =
      rw i (near-alike g (suc j) (plainly d (entry j)) (plainly e (entry j)) (omega arith) n') in
      turned j d e (plainly d (entry j)) (plainly e (entry j)) (omega arith) sd se (quiet t m a b x y h (plainly d (entry j)) n'.below)
      (quiet t m a b x y h (plainly e (entry j)) eb') rest
    where
      turned : (j d e d' e' : ℕ) → k + j < length text → step_n m 1 d (entry j) ≡ d' → step_n m 1 e (entry j) ≡ e' → top_bit m.top d' ≡ false
          → top_bit m.top e' ≡ false
          → Alike t m text (k + j + 1) d' e' → Alike t m text (k + j) d e
      turned j d e d' e' = alike-turn t m text (k + j) d e d' e'

  one-above : (i : ℕ) → 1 ≤ i → bit 1 i ≡ false
  one-above i p = bit-above 1 1 i (omega arith) p

  -- at the start itself: state 1, and state 0, which has no start here
  near-start : Near 0 1 0
  near-start = record {
    below = λ i p. one-above i (omega arith);
    under = λ i p. none-bit i;
    same = λ i p. one-above i (go i p) ∙ sym (none-bit i);
    seen = λ s q. absurd (omega arith);
  }
    where
      go : (i : ℕ) → (i ≡ 0 → ⊥) → 1 ≤ i
      go i p = omega arith

  from-none : (e : ℕ) → step_n m 1 0 e ≡ 1
  unfolding plainly
  from-none e =
      step_plainly t m a b x y h 0 e (λ i p. none-bit i) (ap (λ (p : Bool). p && bit e (suc b)) (none-bit b)) ∙ ap (λ (n : ℕ). bit_or n 1) (and_zero_l e)

  -- the start is passed over
  pass_start : Skippable t m 1 text k (k + 1)
  pass_start =
      let al : Alike t m text k 1 0 = rw add-zero at (near-alike (b + 1) 0 1 0 (add-zero (b + 1)) near-start) in
      let l : k < length text = omega arith in
      let z : top_bit m.top 1 ≡ false = quiet t m a b x y h 1 (λ i p. one-above i (omega arith)) in
      let s : step_n m 1 0 (get_or t (get_or text k 0) 0) ≡ 1 = from-none (get_or t (get_or text k 0) 0) in
      record {
        fore = omega arith;
        within = omega arith;
        state = sym (al.state ∙ rw (state-turn t m 0 0 text k l, s));
        ends = λ at at' p. let q : at' ≡ at + 1 = omega arith in
            rw q (sym (al.ends at ∙ rw (ends-turn t m 0 at text k l, s, z)));
      }

-- ---- all the starts up to r

pub pair-passes : (t : List ℕ) (m : Masks) (a b x y : ℕ) → PairSound t m.repeats m.optional m.top a b x y → (text : List ℕ) (i end r : ℕ)
    → NoneBefore (pair_at text a b x y) i end r → end + b ≤ length text → Skippable t m 1 text i r
pair-passes t m a b x y h text i end r g l =
    pass_missed (pair_at text a b x y) (omega arith) (λ k p z. pass_start t m a b x y h text k (omega arith) z) g
