-- Opening a scan: what it answers and leaves, in every case. Assumes nothing.
use Rattle.std.specs.Prelude.{◌≡◌, false, cond, List, [], ◌++◌, ℕ, eqb, length, Result, MatchResult}
use Rattle.model.specs.RefusalNumbers.{impossible}
use Rattle.model.specs.Occurrence.{Position, shortest}
use Rattle.model.specs.RuleText.{fold_flag, positions}
use Rattle.model.specs.NumberedAnswers.{Parsed, refused, accepted}
use Rattle.model.specs.Codes.{codes_of, fitting, codes_wrong, parse_with}
use Rattle.answers.specs.declared.Opened.{Opened}
use Rattle.answers.specs.declared.Refused.{Refused}
use Rattle.answers.specs.Answers.{number_of, refusing_rule, accepting_rule}
use Rattle.shift_and.specs.Masks.{optional_mask, repeats_mask}
use Rattle.shift_and_wide.specs.declared.WideMasks.{WideMasks}
use Rattle.shift_and_wide.specs.Wides.{words_of}
use Rattle.shift_and_wide.specs.Stepping.{WideAutomaton, wide_automaton_of, opening_state_w}
use Rattle.rule_parser.specs.declared.Prepared.{Prepared}
use Rattle.rule_parser.specs.Preparing.{PreparedRule}
use Rattle.rule_table.specs.Tables.{table_of}
use Rattle.rule_part.specs.RulePart.{rule_fields}
use Rattle.plan_part.specs.PlanPart.{plan_fields}
use Rattle.scan_value.specs.Value.{scan_length}

-- a rule's masks, and its automaton
abbrev pub masks_for : List Position → WideMasks
masks_for ps = record { repeats = words_of (repeats_mask ps); optional = words_of (optional_mask ps); top = length ps }

abbrev pub automaton_for : List Position → WideAutomaton
automaton_for ps = wide_automaton_of (table_of ps) (masks_for ps)

-- The scan value that an accepted rule opens with, of its positions as they are read: its table, masks and count of positions, the opening D; not finished, no bytes taken, none held.
unfoldable pub opening_rule : List Position → List ℕ
opening_rule ps = rule_fields (table_of ps) (masks_for ps) (opening_state_w (automaton_for ps))

unfoldable pub opening_of : List Position → List ℕ
opening_of ps = opening_rule ps ++ plan_fields 0 0 0 []

-- "An outer opening looks at that slice's length alone, after the rule and its codes, and gives 11 if it is wrong." "Every refusal has zero counts beside its number and
-- place".
abbrev pub open_answer : (n : ℕ) (ps : List Position) → Opened
open_answer n ps = cond (eqb n scan_length) (accepting_rule (length ps) (shortest ps)) (refusing_rule impossible 0)

abbrev pub answer_by : (flag n : ℕ) → Parsed → Opened
answer_by flag n (refused number place) = refusing_rule number place
answer_by flag n (accepted es) = open_answer n (positions (fold_flag flag) es)

-- The positions are read by fit: "Ends and starts follow that reading in scan, search and set."
abbrev pub left_by : (flag : ℕ) (codes sets s : List ℕ) → Parsed → List ℕ
left_by flag codes sets s (refused number place) = s
left_by flag codes sets s (accepted es) = cond (eqb (length s) scan_length) (opening_of (fitting (codes_of codes sets) (positions (fold_flag flag) es))) s

-- `open`: the answer, and the slice at exit
pub record OpenIs (flag : ℕ) (rule codes sets s : List ℕ) (r : Opened) (s' : List ℕ) : Type 0 where
  pub answers : r ≡ answer_by flag (length s) (parse_with (fold_flag flag) rule codes sets)
  pub leaves : s' ≡ left_by flag codes sets s (parse_with (fold_flag flag) rule codes sets)

-- the same of what is prepared, or of why and where nothing is opened
abbrev pub OpenTried : (flag : ℕ) (rule codes sets s : List ℕ) (r : Result Prepared Refused) (s' : List ℕ) → Type 0
OpenTried flag rule codes sets s r s' =
    MatchResult r (λ p. OpenIs flag rule codes sets s (accepting_rule p.positions p.shortest) s') (λ e. OpenIs flag rule codes sets s (refusing_rule (number_of e.refusal) e.place) s')

-- what the work asks: an accepted rule with accepted codes, and a slice of so many words
pub record Openable (flag : ℕ) (rule codes sets : List ℕ) (p : Prepared) (n : ℕ) (s : List ℕ) : Type 0 where
  pub prepares : PreparedRule flag rule p
  pub fine : codes_wrong codes sets ≡ false
  pub long : length s ≡ n
