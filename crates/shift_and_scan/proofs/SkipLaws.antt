-- What may be passed over in the opening state: bytes that do not leave it, and starts that miss a pair. Assumes nothing.
use Rattle.std.proofs.Common.{◌≡◌, ℕ, ◌+◌, ◌-◌, ◌*◌, ◌%◌, ◌^◌, ◌<◌, ◌≤◌, false, ◌&&◌, eqb, leb, List, length, get_or, sym, refl, arith, eqb-true, leb-true}
use lib.Bits.{bit_and, bit_or}
use borrow.Author.Tests.{not-false, eqb-false}
use Rattle.model.proofs.Truth.{not_both}
use Rattle.shift_and.specs.ForwardStep.{move, advance, opening}
use Rattle.shift_and.proofs.Unchanged.{move-none}
use Rattle.byte_search.specs.BlockTests.{NoneBefore, same}
use Rattle.prefilter_search.specs.Candidates.{in_table, in_range, pair_at}
use Rattle.prefilter.specs.declared.Prefilter.{Prefilter}
use Rattle.prefilter.specs.declared.Skip.TheVariants.{Table, Byte, Range}
use Rattle.prefilter.specs.Soundness.{StartState, AllInRange, PairSound, PrefilterSound}
use Rattle.shift_and_step.specs.declared.Masks.{Masks}
use Rattle.shift_and.specs.Automaton.{step_with}
use Rattle.shift_and_step.specs.Stepping.{step_n}
use Rattle.shift_and_loop.specs.Loops.{Skippable}
use Rattle.shift_and_loop.proofs.LoopLaws.{pass_one}
use Rattle.shift_and_scan.proofs.SegmentLaws.{pass_missed}
use Rattle.shift_and_scan.proofs.Pairs.{pair-passes}

-- the opening state stays at a byte whose entry has none of its follow-up
stays : (m : Masks) (home next b : ℕ) → home ≡ opening 64 m.optional → next ≡ bit_or (home * 2 % 2 ^ 64) (bit_and home m.repeats)
    → bit_and b next ≡ 0 → step_n m 1 home b ≡ home
unfolding step_with advance opening
stays m home next b eh en z =
    let q : move 64 home b (bit_and b m.repeats) 1 ≡ 1 = move-none home b m.repeats (rw (← en) z) in
    rw q (sym eh)

-- bytes that do not leave
passes : (t : List ℕ) (m : Masks) (home next : ℕ) → StartState m.repeats m.optional m.top home next → (text : List ℕ) (i r : ℕ)
    → NoneBefore (in_table t next text) i (length text) r → Skippable t m home text i r
passes t m home next h text i r g = pass_missed (in_table t next text) (omega arith) one g
  where
    one : (k : ℕ) → k < length text → in_table t next text k ≡ false → Skippable t m home text k (k + 1)
    one k p z =
        let b : ℕ = get_or t (get_or text k 0) 0 in
        let quiet : bit_and b next ≡ 0 = eqb-true (bit_and b next) 0 (not-false (eqb (bit_and b next) 0) z) in
        pass_one t m home text k p (stays m home next b h.opens h.goes quiet) h.silent

-- where no byte is from lo to hi, none meets `next`
narrow : (t : List ℕ) (next : ℕ) (text : List ℕ) (lo hi i end r : ℕ) → AllInRange t next lo hi → NoneBefore (in_range text lo hi) i end r
    → NoneBefore (in_table t next text) i end r
narrow t next text lo hi i end r o g =
    record { fore = g.fore; within = g.within; none = λ j p q. rw (o.none (get_or text j 0) (g.none j p q)) refl }

-- a range of one byte
narrow_one : (t : List ℕ) (next : ℕ) (text : List ℕ) (x i end r : ℕ) → AllInRange t next x x → NoneBefore (same text x) i end r
    → NoneBefore (in_table t next text) i end r
narrow_one t next text x i end r o g =
    narrow t next text x x i end r o (record { fore = g.fore; within = g.within; none = λ j p q. apart j (g.none j p q) })
  where
    apart : (j : ℕ) → eqb (get_or text j 0) x ≡ false → (leb x (get_or text j 0) && leb (get_or text j 0) x) ≡ false
    apart j e = not_both (leb x (get_or text j 0)) (leb (get_or text j 0) x) (λ l l'.
        let p : x ≤ get_or text j 0 = leb-true x (get_or text j 0) l in
        let q : get_or text j 0 ≤ x = leb-true (get_or text j 0) x l' in
        eqb-false (get_or text j 0) x e (omega arith))

-- ---- by a prefilter

module _ {t : List ℕ} {m : Masks} {p : Prefilter} {d : ℕ} {text : List ℕ} {i : ℕ} (pl : PrefilterSound t m.repeats m.optional m.top p) (at_home : d ≡ p.start) where
  from_home : {r : ℕ} → StartState m.repeats m.optional m.top p.start p.next → NoneBefore (in_table t p.next text) i (length text) r → Skippable t m d text i r
  from_home {r} h g = rw at_home (passes t m p.start p.next h text i r g)

  -- by the table alone
  pub by_table : {r : ℕ} → p.skip ≡ Table → NoneBefore (in_table t p.next text) i (length text) r → Skippable t m d text i r
  by_table e g = from_home (pl.skips.starts (λ z. cc)) g

  -- at the one byte that meets `next`
  pub by_one : {x r : ℕ} → p.skip ≡ Byte x → NoneBefore (same text x) i (length text) r → Skippable t m d text i r
  by_one {x} {r} e g = from_home (pl.skips.starts (λ z. cc)) (narrow_one t p.next text x i (length text) r (pl.skips.byte x e) g)

  -- or at a range that holds them all
  pub by_range : {lo hi r : ℕ} → p.skip ≡ Range lo hi → NoneBefore (in_range text lo hi) i (length text) r → Skippable t m d text i r
  by_range {lo} {hi} {r} e g = from_home (pl.skips.starts (λ z. cc)) (narrow t p.next text lo hi i (length text) r (pl.skips.range lo hi e) g)

-- the pair's starts, up to where the text still has its second byte
pub to-pair : (t : List ℕ) (m : Masks) (a b x y : ℕ) (text : List ℕ) (i r : ℕ) → PairSound t m.repeats m.optional m.top a b x y → i ≤ length text
    → b ≤ length text - i
    → NoneBefore (pair_at text a b x y) i (length text - b) r → Skippable t m 1 text i r
to-pair t m a b x y text i r h l l' g = pair-passes t m a b x y h text i (length text - b) r g (omega arith)
