-- What the elements of a slice of bytes are. Assumes nothing.
use mathlib.Core.List.{List, [], ◌∷◌}
use Prim.Native.Nat.{ℕ, suc}
use mir.Syntax.{w8}
use mir.Val.{Fits}
use lib.Dec.{T, lt→ltb}
use lib.ListN.{get_or}
use Rattle.model.specs.Occurrence.{all}
use Rattle.model.specs.RuleText.{is_byte}
use Rattle.model.proofs.Truth.{and_intro}

pub bytes_known : (xs : List ℕ) → ((i : ℕ) → Fits w8 (get_or xs i 0)) → T (all is_byte xs)
bytes_known [] k = tt
bytes_known (x ∷ xs) k = and_intro (is_byte x) (all is_byte xs) (lt→ltb x 256 (k 0).fits) (bytes_known xs (λ i. k (suc i)))
