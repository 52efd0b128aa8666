-- A lent scan value: "a lent slice of numbers, of one fixed length". The rule's part and then the plan's: how it is read and written, which values are
-- impossible, and when a call on one is refused. Assumes nothing.
use Rattle.std.specs.Prelude.{◌≡◌, Bool, true, cond, ◌&&◌, List, ◌++◌, ℕ, ◌+◌, ◌-◌, eqb, length, take, drop}
use Rattle.model.specs.RefusalNumbers.{impossible}
use Rattle.answers.specs.declared.Refusal.{Refusal}
use Rattle.answers.specs.Answers.{number_of}
use Rattle.shift_and_step.specs.declared.Masks.{Masks}
use Rattle.shift_and_wide.specs.declared.Wide.{Wide}
use Rattle.shift_and_wide.specs.declared.WideMasks.{WideMasks}
use Rattle.shift_and_wide.specs.Stepping.{WideAutomaton}
use Rattle.rule_part.specs.RulePart.{rule_length, entries_of, count_of, masks_of, automaton_of_rule, state_of, possible_rule, RulePossible, with_state}
use Rattle.plan_part.specs.PlanPart.{plan_length, finished_of, raw_of, decoded_of, held_count_of, held_bytes_of, plan_fields, possible_plan, PlanPossible, plan_refusal, PlanAccepts}

abbrev pub scan_length : ℕ
scan_length = rule_length + plan_length

abbrev pub rule_of : List ℕ → List ℕ
rule_of s = take rule_length s

abbrev pub plan_of : List ℕ → List ℕ
plan_of s = drop rule_length s

-- ---- how it is read

-- the rule's part: B, R, A, the number of positions, and D
abbrev pub table_in : List ℕ → List ℕ
table_in s = entries_of (rule_of s)

abbrev pub positions_in : List ℕ → ℕ
positions_in s = count_of (rule_of s)

abbrev pub masks_in : List ℕ → WideMasks
masks_in s = masks_of (rule_of s)

-- the lowest words of the masks
abbrev pub low_masks_in : List ℕ → Masks
low_masks_in s = record { repeats = (masks_in s).repeats.w0; optional = (masks_in s).optional.w0; top = positions_in s }

abbrev pub automaton_in : List ℕ → WideAutomaton
automaton_in s = automaton_of_rule (rule_of s)

abbrev pub state_in : List ℕ → Wide
state_in s = state_of (rule_of s)

-- the plan's part: whether it has finished, the counts of raw and of decoded bytes, and the held bytes
abbrev pub finished_in : List ℕ → ℕ
finished_in s = finished_of (plan_of s)

abbrev pub raw_in : List ℕ → ℕ
raw_in s = raw_of (plan_of s)

abbrev pub decoded_in : List ℕ → ℕ
decoded_in s = decoded_of (plan_of s)

abbrev pub held_count_in : List ℕ → ℕ
held_count_in s = held_count_of (plan_of s)

abbrev pub held_in : List ℕ → List ℕ
held_in s = held_bytes_of (plan_of s)

-- the raw bytes read: those taken, without those held back
abbrev pub read_in : List ℕ → ℕ
read_in s = raw_in s - held_count_in s

-- ---- how it is written

-- D and the plan's part written anew
unfoldable pub written : List ℕ → (d : Wide) (finished raw decoded : ℕ) (held : List ℕ) → List ℕ
written s d finished raw decoded held = with_state (rule_of s) d ++ plan_fields finished raw decoded held

-- ---- impossible values

-- "A scan value is impossible when it has over 255 positions or none, or its held bytes, if any, are not such a tail, or decoded plus held counts exceed the
-- raw count, or, lent as a slice, it has another length than the fixed one or a number that its field cannot hold."
unfoldable pub possible : List ℕ → Bool
possible s = eqb (length s) scan_length && (possible_rule (rule_of s) && possible_plan (plan_of s))

-- What holds of a possible value.
pub record Possible (s : List ℕ) : Type 0 where
  pub long : length s ≡ scan_length
  pub rule : RulePossible (rule_of s)
  pub plan : PlanPossible (plan_of s)

pub record PossibleIs (s : List ℕ) (r : Bool) : Type 0 where
  pub is : r ≡ possible s
  pub says : r ≡ true → Possible s

-- ---- refused calls

-- "a scan call checks 11, 12, 10, 9": for a piece of p bytes and a list of n numbers; 0 if nothing refuses it
unfoldable pub number_for : List ℕ → (p n : ℕ) → ℕ
number_for s p n = cond (possible s) (plan_refusal (plan_of s) p n) impossible

-- What holds if nothing refuses it.
pub record Fine (s : List ℕ) (p n : ℕ) : Type 0 where
  pub possible : Possible s
  pub accepts : PlanAccepts (plan_of s) p n

-- A call that nothing refuses, or one that is refused, by the model's number.
pub record LetsIn (s : List ℕ) (p n : ℕ) : Type 0 where
  pub is : number_for s p n ≡ 0
  pub fine : Fine s p n

pub record TurnsDown (s : List ℕ) (p n : ℕ) (x : Refusal) : Type 0 where
  pub is : number_for s p n ≡ number_of x
