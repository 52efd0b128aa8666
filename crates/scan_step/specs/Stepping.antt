-- From the state of a scan value over the bytes of a call: where it stands before them, and after. Assumes nothing.
use Rattle.std.specs.Prelude.{List, ◌++◌, ℕ, ◌+◌, ◌≤◌, length}
use Rattle.model.specs.References.{byte_tokens, joined}
use Rattle.wide_prefilter.specs.Choosing.{OneFits}
use Rattle.prefilter.specs.declared.Prefilter.{Prefilter}
use Rattle.piece_decoder.specs.declared.held.Held.{Held}
use Rattle.piece_stepping.specs.declared.Progress.{Progress}
use Rattle.piece_stepping.specs.Stepping.{Runner, SteppedBy, tokens_of, tail_of, Holds}
use Rattle.scan_piece.specs.declared.Fed.{Fed}
use Rattle.shift_and_wide.specs.declared.Wide.{Wide}
use Rattle.word_scanners.specs.Runners.{four_words}
use Rattle.scan_value.specs.Value.{table_in, masks_in, Fine, automaton_in, state_in, read_in, decoded_in, held_count_in, held_in}

-- where a call stands before its first byte, in the state d
abbrev pub start_at : {S : Type 0} (s : List ℕ) (d : S) → Progress S
start_at s d = record { d = d; at = decoded_in s; raw = read_in s; count = 0 }

-- in the value's own state
abbrev pub start_of : (s : List ℕ) → Progress Wide
start_of s = start_at s (state_in s)

-- what a feed's step by the lowest word alone asks: that it runs as the four do
pub record LowFine (s : List ℕ) (p : Prefilter) (k n : ℕ) : Type 0 where
  pub fine : Fine s k n
  pub low : OneFits (table_in s) (masks_in s) p (state_in s)

-- `step_piece_by`: a feed's step from the state d over what it lets out, and what it holds back
pub record FedFrom {S : Type 0} (R : Runner S) (d : S) (s piece ends : List ℕ) (r : Progress S) (h : Held) (ends' : List ℕ) : Type 0 where
  pub steps : SteppedBy R (start_at s d) (tokens_of (held_in s ++ piece)) ends r ends'
  pub held : Holds h (tail_of (held_in s ++ piece))
  pub few : length (joined (tokens_of (held_in s ++ piece))) + h.len ≤ held_count_in s + length piece

-- `step_piece`: in four words, from the value's state
abbrev pub PieceStepped : (s piece ends : List ℕ) (r : Fed Wide) (ends' : List ℕ) → Type 0
PieceStepped s piece ends r ends' = FedFrom (four_words (automaton_in s)) (state_in s) s piece ends r.state r.held ends'

-- `step_tail`: a finish's
pub record TailStepped (s ends : List ℕ) (r : Progress Wide) (ends' : List ℕ) : Type 0 where
  pub steps : SteppedBy (four_words (automaton_in s)) (start_of s) (byte_tokens (held_in s)) ends r ends'
  pub few : length (held_in s) ≤ held_count_in s
