-- The part of a text that is shown. Assumes nothing.
use Rattle.std.specs.Prelude.{◌≡◌, List, ℕ, ◌+◌, ◌≤◌, ◌<◌, length}
use Rattle.model.specs.Occurrence.{stretch}
use Rattle.model.specs.RuleText.{fold_flag}
use Rattle.model.specs.NumberedAnswers.{rule_positions}
use Rattle.model.specs.WindowSearch.{part_from, shown}
use Rattle.shift_and.specs.Automaton.{word_bits}
use Rattle.rule_parser.specs.declared.Prepared.{Prepared}
use Rattle.rule_parser.specs.Preparing.{PreparedRule}
use Rattle.answers.specs.declared.Span.{Span}
use Rattle.window_search.specs.Searching.{span_of}

-- "that part of the caller's text": its two places
pub record ShownIs (flag : ℕ) (rule text : List ℕ) (start : ℕ) (r : Span) : Type 0 where
  pub is : r ≡ span_of (shown flag rule text start)
  pub ordered : r.from ≤ r.to
  pub inside : r.to ≤ length text

-- and its bytes
abbrev pub shown_bytes : (flag : ℕ) (rule text : List ℕ) (start : ℕ) → List ℕ
shown_bytes flag rule text start = stretch text (shown flag rule text start).from (shown flag rule text start).to

-- "it hands back that part of the caller's text": its bytes, and the place in memory, so many bytes after that of the text. A place is a block of memory and an
-- offset in it.
pub record ShowsPart (flag : ℕ) (rule text : List ℕ) (lies : ℕ × ℕ) (start : ℕ) (part : List ℕ) (part_lies : ℕ × ℕ) : Type 0 where
  pub bytes : part ≡ shown_bytes flag rule text start
  pub place : part_lies ≡ (lies.0, (shown flag rule text start).from + lies.1)

-- ---- its parts

pub record Showable (flag : ℕ) (rule : List ℕ) (p : Prepared) (len start : ℕ) : Type 0 where
  pub prepares : PreparedRule flag rule p
  pub within : start ≤ len

pub record ShowableLow (flag : ℕ) (rule : List ℕ) (p : Prepared) (len start : ℕ) : Type 0 where
  pub showable : Showable flag rule p len start
  pub low : p.positions < word_bits

pub record PartIs (flag : ℕ) (rule text : List ℕ) (start : ℕ) (r : Span) : Type 0 where
  pub is : r ≡ span_of (part_from (rule_positions (fold_flag flag) rule) text start)
  pub ordered : r.from ≤ r.to
  pub inside : r.to ≤ length text
