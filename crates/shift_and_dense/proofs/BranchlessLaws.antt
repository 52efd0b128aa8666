-- An entry selected without a branch, and a turn of the loop that stores by it. Assumes nothing.
use Rattle.std.proofs.Common.{◌≡◌, ℕ, zero, suc, ◌+◌, ◌-◌, ◌/◌, ◌%◌, ◌^◌, ◌<◌, Bool, true, false, cond, eqb, List, get_or, set, sym, refl, ap, ◌∙◌, arith}
use lib.Bits.{bit_and, bit_xor, and_zero_r, xor_zero_r, and_mask, xor_lt}
use lib.Seq.{set-get_or}
use Rattle.model.specs.Occurrence.{one_if}
use Rattle.shift_and.specs.Bit.{bit, differs}
use Rattle.shift_and.specs.ForwardStep.{top_bit}
use Rattle.shift_and.proofs.Digits.{xor_bit}
use Rattle.shift_and.proofs.DisjointBits.{same-all}
use Rattle.shift_and_step.specs.declared.Masks.{Masks}
use Rattle.shift_and_loop.specs.declared.Cursor.{Cursor}
use Rattle.shift_and_step.specs.ClosedStates.{Closed, StepsTo}
use Rattle.shift_and_loop.proofs.LoopLaws.{LoopInvariant, loop_passed, loop_ended}
use Rattle.shift_and_dense.specs.Branchless.{AcceptBit}

-- ---- `select`

differs-back : (p q : Bool) → differs p (differs p q) ≡ q
differs-back false q = refl
differs-back true false = refl
differs-back true true = refl

xor_back : (x y : ℕ) → bit_xor x (bit_xor x y) ≡ y
xor_back x y = same-all (bit_xor x (bit_xor x y)) y (λ j. simp (xor_bit) (differs-back (bit x j) (bit y j)))

pub pick_is : (hit at old mask : ℕ) → hit < 2 → at < 2 ^ 32 → old < 2 ^ 32 → mask < 2 ^ 32 → (mask + hit) % 2 ^ 32 ≡ 0
    → bit_xor old (bit_and (bit_xor old at) mask) ≡ cond (eqb hit 1) at old
pick_is zero at old mask h ha ho hm e =
    let z : mask ≡ 0 = omega arith in
    rw z (ap (bit_xor old) (and_zero_r (bit_xor old at)) ∙ xor_zero_r old)
pick_is (suc zero) at old mask h ha ho hm e =
    let o : mask ≡ 2 ^ 32 - 1 = omega arith in
    let k : bit_xor old at < 2 ^ 32 = xor_lt 32 old at ho ha in
    let z : bit_xor old at % 2 ^ 32 ≡ bit_xor old at = omega arith in
    rw o (ap (bit_xor old) (and_mask (bit_xor old at) 32 ∙ z) ∙ xor_back old at)
pick_is (suc (suc n)) at old mask h ha ho hm e = absurd (omega arith)

-- ---- `loop_branchless`

pub report_is : (top d : ℕ) → AcceptBit top d (d / 2 ^ top % 2)
unfolding top_bit
report_is top d = record { is = digit (d / 2 ^ top % 2) (omega arith); low = omega arith }
  where
    digit : (n : ℕ) → n < 2 → n ≡ one_if (eqb n 1)
    digit zero h = refl
    digit (suc zero) h = refl
    digit (suc (suc n)) h = absurd (omega arith)

-- b is the byte at i, d' the state after it, p the place after it, and x what is stored
module _ {t : List ℕ} {m : Masks} {text ends₀ ends : List ℕ} {s : Cursor} {d n i until : ℕ} (g : LoopInvariant t m until text ends₀ s ends d n i)
    {b d' : ℕ} (l : i < until) (eb : b ≡ get_or text i 0) (es : StepsTo m d (get_or t b 0) d') where
  pub loop_dense : {hit p x : ℕ} → AcceptBit m.top d' hit → p ≡ s.at + (i + 1 - s.i) → x ≡ cond (eqb hit 1) p (get_or ends n 0)
      → LoopInvariant t m until text ends₀ s (set ends n x) d' (n + hit) (i + 1)
  loop_dense {hit} {p} {x} eh ep ex = go (top_bit m.top d') refl
    where
      go : (r : Bool) → r ≡ top_bit m.top d' → LoopInvariant t m until text ends₀ s (set ends n x) d' (n + hit) (i + 1)
      go true er =
          let h : hit ≡ 1 = eh.is ∙ ap one_if (sym er) in
          let e : x ≡ p = ex ∙ ap (λ (k : ℕ). cond (eqb k 1) p (get_or ends n 0)) h in
          rw (e, h) (loop_ended g l eb es er refl ep)
      go false er =
          let h : hit ≡ 0 = eh.is ∙ ap one_if (sym er) in
          let e : x ≡ get_or ends n 0 = ex ∙ ap (λ (k : ℕ). cond (eqb k 1) p (get_or ends n 0)) h in
          let z : n + 0 ≡ n = omega arith in
          rw (e, h, set-get_or ends n 0, z) (loop_passed g l eb es er refl)

-- ---- `changes_often`

pub steps_on : {m : Masks} {d b r : ℕ} → StepsTo m d b r → Closed m r
steps_on s = s.closes
