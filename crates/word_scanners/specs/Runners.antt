-- The automata as they run: in one word, and in four. Assumes nothing.
use Rattle.std.specs.Prelude.{ℕ}
use Rattle.shift_and.specs.Automaton.{Automaton, state_after, ends_in}
use Rattle.shift_and.proofs.Runs as One
use Rattle.shift_and_wide.specs.declared.Wide.{Wide}
use Rattle.shift_and_wide.specs.Stepping.{WideAutomaton, state_after_w, ends_in_w}
use Rattle.wide_scan.proofs.Steps as Four
use Rattle.piece_stepping.specs.Stepping.{Runner}

abbrev pub one_word : Automaton → Runner ℕ
one_word A = record {
  after = state_after A;
  ends = ends_in A;
  after_none = One.state-none A;
  ends-none = One.ends-none A;
  after-append = One.state-append A;
  ends-append = One.ends-append A;
  ends-rise = One.ends-rise A;
}

abbrev pub four_words : WideAutomaton → Runner Wide
four_words A = record {
  after = state_after_w A;
  ends = ends_in_w A;
  after_none = Four.state-none A;
  ends-none = Four.ends-none A;
  after-append = Four.state-append A;
  ends-append = Four.ends-append A;
  ends-rise = Four.ends-rise A;
}
