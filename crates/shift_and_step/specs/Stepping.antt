-- The automaton of code that steps by one word: a slice of 256 words and a rule's masks. Assumes nothing.
use Rattle.std.specs.Prelude.{◌≡◌, ℕ, ◌<◌, List, length}
use Rattle.shift_and.specs.Automaton.{word_bits, Automaton, word_automaton, step_with}
use Rattle.shift_and_step.specs.declared.Masks.{Masks}

abbrev pub automaton_of : (t : List ℕ) → Masks → Automaton
automaton_of t m = word_automaton t m.repeats m.optional m.top

-- Its step at a table entry b.
abbrev pub step_n : Masks → (k d b : ℕ) → ℕ
step_n m k d b = step_with word_bits m.repeats m.optional k d b

-- What every function over a table asks: an entry for each byte, and a top position that is a bit of a word.
pub record TableFits (t : List ℕ) (m : Masks) : Type 0 where
  pub long : length t ≡ 256
  pub top : m.top < word_bits
