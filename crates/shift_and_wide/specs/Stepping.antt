-- The forward step over some decoded bytes, in four words: the state after them, and the ends among them, at any table and masks. Assumes nothing.
use Rattle.std.specs.Prelude.{◌≡◌, ℕ, ◌+◌, ◌<◌, ◌≤◌, Bool, false, List, [], ◌∷◌, length, take, drop, slice_index}
use Rattle.model.specs.Occurrence.{cons_if}
use Rattle.shift_and.specs.ForwardStep.{shortest}
use Rattle.shift_and.specs.Automaton.{Automaton}
use Rattle.shift_and_wide.specs.declared.Wide.{Wide}
use Rattle.shift_and_wide.specs.declared.WideMasks.{WideMasks}
use Rattle.shift_and_wide.specs.declared.WideBlocks.{WideBlocks}
use Rattle.shift_and_wide.specs.Wides.{number, stepped, opening_of, starts_of, ends_of, top_bit_of}

pub record RequiredIs (p q r : ℕ) : Type 0 where
  pub is : r ≡ shortest 64 p q
  pub few : r ≤ 64

pub record BlocksAre (q : Wide) (x : WideBlocks) : Type 0 where
  pub starts : x.starts ≡ starts_of q
  pub ends : x.ends ≡ ends_of q
  pub none : x.some ≡ false → q ≡ record { w0 = 0; w1 = 0; w2 = 0; w3 = 0 }

-- One step at a table entry b; k is what every step sets.
abbrev pub step_w : WideMasks → (k : ℕ) (d b : Wide) → Wide
step_w m k d b = stepped d b m.repeats m.optional k

-- A table has four planes of 256 words: plane j has word j of each byte's entry.
abbrev pub entry_of : (t : List ℕ) (c : ℕ) → Wide
entry_of t c = record {
  w0 = slice_index (take 256 t) c;
  w1 = slice_index (take 256 (drop 256 t)) c;
  w2 = slice_index (take 256 (drop 512 t)) c;
  w3 = slice_index (take 256 (drop 768 t)) c;
}

-- An automaton in four words, as one thing: what stands above the loops knows neither slices nor planes.
pub record WideAutomaton : Type 0 where
  pub entry : ℕ → Wide
  pub repeats : Wide
  pub optional : Wide
  pub top : ℕ

-- that of a table in planes
abbrev pub wide_automaton_of : (t : List ℕ) → WideMasks → WideAutomaton
wide_automaton_of t m = record { entry = entry_of t; repeats = m.repeats; optional = m.optional; top = m.top }

-- the same on numbers of 256 bits
abbrev pub numbered : WideAutomaton → Automaton
numbered A = record { width = 256; table = λ c. number (A.entry c); repeats = number A.repeats; optional = number A.optional; top = A.top }

-- What every function over a table in planes asks: four of them, and a top position that is a bit of four words.
pub record WideTableFits (t : List ℕ) (m : WideMasks) : Type 0 where
  pub long : length t ≡ 1024
  pub top : m.top < 256

-- "On byte c"
abbrev pub step_on_w : WideAutomaton → (d : Wide) (c : ℕ) → Wide
step_on_w A d c = stepped d (A.entry c) A.repeats A.optional 1

-- "The opening D"
abbrev pub opening_state_w : WideAutomaton → Wide
opening_state_w A = opening_of A.optional

-- "The top position's bit reports an end."
abbrev pub accepts_w : WideAutomaton → Wide → Bool
accepts_w A d = top_bit_of A.top d

-- The state after all the bytes.
unfoldable pub state_after_w : WideAutomaton → (d : Wide) → List ℕ → Wide
state_after_w A d [] = d
state_after_w A d (c ∷ cs) = state_after_w A (step_on_w A d c) cs

-- The ends among the bytes; `at` bytes stand before them.
unfoldable pub ends_in_w : WideAutomaton → (d : Wide) (at : ℕ) → List ℕ → List ℕ
ends_in_w A d at [] = []
ends_in_w A d at (c ∷ cs) = cons_if (accepts_w A (step_on_w A d c)) (at + 1) (ends_in_w A (step_on_w A d c) (at + 1) cs)
