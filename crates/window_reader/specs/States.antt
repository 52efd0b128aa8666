-- States of an automaton as a machine holds them, and tables of them with an entry for each byte: `words` are a table's words, and `entry` is the number at a
-- byte's entry. Assumes nothing.
use Rattle.std.specs.Prelude.{◌≡◌, Bool, true, false, List, ℕ, ◌<◌, length}
use Rattle.shift_and.specs.Automaton.{Automaton, step_on, all_states}

-- whether no state is there, or a byte stands at no position
pub record EmptyIs (d : ℕ) (r : Bool) : Type 0 where
  pub none : r ≡ true → d ≡ 0
  pub some : r ≡ false → d ≡ 0 → ⊥

-- a table with the entry of one byte written
pub record EntryWritten (entry : List ℕ → ℕ → ℕ) (t : List ℕ) (c d : ℕ) (t' : List ℕ) : Type 0 where
  pub long : length t' ≡ length t
  pub here : entry t' c ≡ d
  pub elsewhere : (i : ℕ) → i < 256 → (i ≡ c → ⊥) → entry t' i ≡ entry t i

-- for each byte, the states after it from all states: what a window's last byte leaves
pub record LastByteStates (A : Automaton) (words : ℕ) (entry : List ℕ → ℕ → ℕ) (first : List ℕ) : Type 0 where
  pub long : length first ≡ words
  pub is : (c : ℕ) → c < 256 → entry first c ≡ step_on A 0 (all_states A) c
