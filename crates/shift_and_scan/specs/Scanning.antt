-- What a scan over some decoded bytes gives: the state after them, and the ends among them, by the formula. Assumes nothing.
use Rattle.std.specs.Prelude.{◌≡◌, ℕ, ◌<◌, ◌≤◌, List, length}
use Rattle.std.proofs.lemmas.List.Edits.{sets}
use Rattle.shift_and.specs.Automaton.{Automaton, state_after, ends_in}
use Rattle.shift_and_scan.specs.declared.ScanResult.{ScanResult}

-- `scan_text`: its result, and the lent list at exit
pub record Scanned (A : Automaton) (d at : ℕ) (text ends : List ℕ) (r : ScanResult) (ends' : List ℕ) : Type 0 where
  pub state : r.d ≡ state_after A d text
  pub count : r.count ≡ length (ends_in A d at text)
  pub few : r.count ≤ length text
  pub list : ends' ≡ sets ends 0 (ends_in A d at text)

-- a place past i, and not past the end
pub record SegmentEnd (i end r : ℕ) : Type 0 where
  pub ahead : i < r
  pub within : r ≤ end
