-- What a loop without branches counts by. Assumes nothing.
use Rattle.std.specs.Prelude.{◌≡◌, ℕ, ◌<◌}
use Rattle.model.specs.Occurrence.{one_if}
use Rattle.shift_and.specs.ForwardStep.{top_bit}

-- whether the top position reports an end, as a number
pub record AcceptBit (top d r : ℕ) : Type 0 where
  pub is : r ≡ one_if (top_bit top d)
  pub low : r < 2
