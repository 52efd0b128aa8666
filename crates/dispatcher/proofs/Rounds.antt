-- The way to the next waiting feed, read off the flags beside themselves: tested at all 255 sets of feeds and all 8 last served. Assumes nothing.
use mathlib.Core.Path.{◌≡◌, refl}
use mathlib.Core.Bool.{Bool, true, false, not}
use Prim.Native.Nat.{ℕ, zero, suc, ◌*◌, ◌/◌, ◌^◌, ◌≤◌, ◌<◌}
use native.Mathlib.Omega.{arith}
use lib.Dec.{T, eqb, eqb→eq}
use lib.Count.{count_trailing_zeros}
use Rattle.model.specs.RuleText.{some_below}
use Rattle.model.specs.WindowSearch.{least_from}
use Rattle.model.specs.Turns.{feeds, going_round}
use Rattle.model.proofs.Truth.{T-to}
use Rattle.model.proofs.Below.{none_each}
use Rattle.dispatcher.proofs.Flags.{flag_at}

-- `way_to_next`, by the feeds that wait and the one last served
abbrev pub way_from : (low last : ℕ) → ℕ
way_from low last = least_from (λ i. flag_at low (going_round last i)) 1 feeds 0

abbrev wrong : (low last : ℕ) → Bool
wrong low last = not (eqb (way_from (suc low) last) (suc (count_trailing_zeros 32 (suc low * 257 / 2 ^ suc last))))

none_wrong : some_below (λ low. some_below (wrong low) 8) 255 ≡ false
unfolding count_trailing_zeros
none_wrong = refl

-- of any feeds that wait, and any last served
pub way_is : (low last : ℕ) → 1 ≤ low → low < 256 → last < 8 → way_from low last ≡ suc (count_trailing_zeros 32 (low * 257 / 2 ^ suc last))
way_is zero last h b l = absurd (omega arith)
way_is (suc low) last h b l =
    right _ (none_each (wrong low) 8 (none_each (λ low. some_below (wrong low) 8) 255 none_wrong low (omega arith)) last l)
  where
    right : (t : ℕ) → not (eqb (way_from (suc low) last) t) ≡ false → way_from (suc low) last ≡ t
    right t e = eqb→eq (way_from (suc low) last) t (double (eqb (way_from (suc low) last) t) e)
      where
        double : (b : Bool) → not b ≡ false → T b
        double true e = tt
        double false e = T-to e tt
