-- Searches, and the places that a test does not pick out. Assumes nothing.
use Rattle.std.proofs.Common.{◌≡◌, ℕ, ◌+◌, ◌-◌, ◌≤◌, ◌<◌, Bool, false, not, ap, List, bit_and, arith}
use lib.ListN.{get_or}
use native.Mathlib.Decide.{dec_lt}
use borrow.Author.Tests.{eq-eqb}
use Rattle.byte_search.specs.BlockTests.{NoneBefore, NoneFound, meets}

-- what a search by a closure found, where each `false` of the closure is one of the test f
pub none_before : {gives : ℕ → Bool → Type 0} {f : ℕ → Bool} {i end r : ℕ} → NoneFound gives i end r → ((j : ℕ) → j < end → gives j false → f j ≡ false) → NoneBefore f i end r
none_before g h = let b = g.within in record { fore = g.fore; within = b; none = λ j p q. h j (omega arith) (g.none j p q) }

pub miss_begun : (f : ℕ → Bool) (i end : ℕ) → i ≤ end → NoneBefore f i end i
miss_begun f i end h = record { fore = omega arith; within = h; none = λ j l l'. absurd (omega arith) }

-- on from where another left off
pub miss_join : {f : ℕ → Bool} {i₀ end i r : ℕ} → NoneBefore f i₀ end i → NoneBefore f i end r → NoneBefore f i₀ end r
miss_join {i = i} g h =
    let a = g.fore in
    let b = h.fore in
    record { fore = omega arith; within = h.within; none = λ j p q. elim (dec_lt j i) [ yes s ↦ g.none j p s | no s ↦ h.none j (omega arith) q ] }

-- ---- the test of a table, at its bytes one by one

pub meets-one : (t : List ℕ) (next i₀ end c : ℕ) → c < end → bit_and (get_or t c 0) next ≡ 0 → NoneBefore (meets t next) i₀ end c
    → NoneBefore (meets t next) i₀ end (c + 1)
meets-one t next i₀ end c h z g = miss_join g (record { fore = omega arith; within = omega arith; none = λ j p q. only j (omega arith) })
  where
    only : (j : ℕ) → j ≡ c → meets t next j ≡ false
    only j e = rw e (ap not (eq-eqb (bit_and (get_or t c 0) next) 0 z))

-- the same from the end downwards
pub meets_down : (t : List ℕ) (next c end : ℕ) → 0 < c → bit_and (get_or t (c - 1) 0) next ≡ 0 → NoneBefore (meets t next) c end end
    → NoneBefore (meets t next) (c - 1) end end
meets_down t next c end h z g = miss_join (record { fore = omega arith; within = g.fore; none = λ j p q. only j (omega arith) }) g
  where
    only : (j : ℕ) → j ≡ c - 1 → meets t next j ≡ false
    only j e = rw e (ap not (eq-eqb (bit_and (get_or t (c - 1) 0) next) 0 z))
