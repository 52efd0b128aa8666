-- What the loop that skips is told of a stretch of bytes at which the state stays. Assumes nothing.
use Rattle.std.specs.Prelude.{List, ℕ, ◌≤◌}
use Rattle.shift_and_step.specs.declared.Masks.{Masks}
use Rattle.shift_and_loop.specs.Loops.{Skippable}

-- A skip that goes no further than `until`.
pub record SkippableUpTo (t : List ℕ) (m : Masks) (d until : ℕ) (text : List ℕ) (i j : ℕ) : Type 0 where
  pub passed : Skippable t m d text i j
  pub short : j ≤ until
