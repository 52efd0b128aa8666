-- States as a step leaves them, closed over the optional positions, and the masks that close one. Assumes nothing.
use Rattle.std.specs.Prelude.{◌≡◌, ℕ, ◌-◌, ◌*◌, ◌%◌, ◌^◌, ◌<◌, Bool, true, bit_and, bit_or}
use Rattle.shift_and.specs.ForwardStep.{wrap_sub, flood, block_starts, block_ends, opening}
use Rattle.shift_and_step.specs.declared.Masks.{Masks}
use Rattle.shift_and_step.specs.declared.ClosureMasks.{ClosureMasks}
use Rattle.shift_and_step.specs.Stepping.{step_n}

pub record ClosureMasksOf (optional : ℕ) (q : ClosureMasks) : Type 0 where
  pub start : q.start ≡ opening 64 optional
  pub minuend : q.minuend ≡ wrap_sub 64 (block_starts 64 optional) 1
  pub small : block_starts 64 optional < 2 ^ 64
  pub ends : q.ends ≡ block_ends 64 optional
  pub past : q.past ≡ block_ends 64 optional * 2 % 2 ^ 64
  pub separated : q.separated ≡ true → bit_and q.past (block_starts 64 optional) ≡ 0
  pub closing : q.closing ≡ bit_and (bit_or optional (block_starts 64 optional)) ((2 ^ 64 - 1) - opening 64 optional)

-- Bit 0 is set, and the flood leaves the state as it is; bit 0 is not optional.
pub record Closed (m : Masks) (d : ℕ) : Type 0 where
  pub even : m.optional % 2 ≡ 0
  pub word : m.optional < 2 ^ 64
  pub small : d < 2 ^ 64
  pub odd : d % 2 ≡ 1
  pub flooded : flood 64 d m.optional (block_starts 64 m.optional) (block_ends 64 m.optional) ≡ d

pub record ClosedIs (m : Masks) (d : ℕ) (r : Bool) : Type 0 where
  pub says : r ≡ true → Closed m d

pub record StepsTo (m : Masks) (d b r : ℕ) : Type 0 where
  pub is : r ≡ step_n m 1 d b
  pub closes : Closed m r

-- where it says yes, a step leaves the state as it is
pub record Fixpoint (m : Masks) (d b : ℕ) (r : Bool) : Type 0 where
  pub says : r ≡ true → step_n m 1 d b ≡ d
