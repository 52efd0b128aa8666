-- Document 01's "Forward step" over bytes, of an automaton as one thing: the table that says which positions admit a byte, the masks, the top position, and the
-- width of the words that they and the states are. Code reaches it by a function on its slices and words; what stands above the loops knows no width. Assumes
-- nothing.
use Rattle.std.specs.Prelude.{ℕ, ◌+◌, ◌-◌, ◌^◌, Bool, List, [], ◌∷◌, bit_and, slice_index}
use Rattle.model.specs.Occurrence.{cons_if}
use Rattle.shift_and.specs.ForwardStep.{advance, block_starts, block_ends, opening, top_bit}

-- the bits of a machine word
abbrev pub word_bits : ℕ
word_bits = 64

-- "Tables B and S say, for each byte, which positions admit it and which of these repeat. A marks optional positions": S[c] is what B[c] and the mask of the
-- repeating positions share.
pub record Automaton : Type 0 where
  pub width : ℕ
  pub table : ℕ → ℕ
  pub repeats : ℕ
  pub optional : ℕ
  pub top : ℕ

-- one of machine words, its table an entry for each byte
abbrev pub word_automaton : (table : List ℕ) (repeats optional top : ℕ) → Automaton
word_automaton t r o n = record { width = word_bits; table = λ c. slice_index t c; repeats = r; optional = o; top = n }

-- One step at a table entry b; k is what every step sets: 1 for the beginning, or 0.
unfoldable pub step_with : (w repeats optional : ℕ) → (k d b : ℕ) → ℕ
step_with w repeats optional k d b = advance w d b (bit_and b repeats) k optional (block_starts w optional) (block_ends w optional)

-- "On byte c"
abbrev pub step_on : Automaton → (k d c : ℕ) → ℕ
step_on a k d c = step_with a.width a.repeats a.optional k d (a.table c)

-- "The opening D"
abbrev pub opening_state : Automaton → ℕ
opening_state a = opening a.width a.optional

-- all states
abbrev pub all_states : Automaton → ℕ
all_states a = 2 ^ a.width - 1

-- "The top position's bit reports an end."
abbrev pub accepts : Automaton → (d : ℕ) → Bool
accepts a d = top_bit a.top d

-- The state after all the bytes.
unfoldable pub state_after : Automaton → (d : ℕ) → List ℕ → ℕ
state_after a d [] = d
state_after a d (c ∷ cs) = state_after a (step_on a 1 d c) cs

-- The ends among the bytes; `at` bytes stand before them.
unfoldable pub ends_in : Automaton → (d at : ℕ) → List ℕ → List ℕ
ends_in a d at [] = []
ends_in a d at (c ∷ cs) = cons_if (accepts a (step_on a 1 d c)) (at + 1) (ends_in a (step_on a 1 d c) (at + 1) cs)
