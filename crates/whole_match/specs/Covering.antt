-- A name read by an automaton, and what the call answers. Assumes nothing.
use Rattle.std.specs.Prelude.{◌≡◌, Bool, false, cond, List, [], ◌∷◌, ℕ, ◌<◌, eqb, Result, MatchResult}
use Rattle.model.specs.WholeNames.{CoverAnswer, turns_down, says, covered}
use Rattle.shift_and.specs.ForwardStep.{top_bit}
use Rattle.shift_and.specs.Automaton.{word_bits, Automaton, step_on, opening_state}
use Rattle.rule_parser.specs.declared.Prepared.{Prepared}
use Rattle.rule_parser.specs.Preparing.{PreparedRule}
use Rattle.answers.specs.declared.Covered.{Covered}
use Rattle.answers.specs.declared.Refused.{Refused}
use Rattle.answers.specs.Answers.{number_of, refusing_name, judged_name}

-- From the states d on, without new beginnings: whether the top position is reached with the last byte. Where no state is left, it is not.
unfoldable pub reads_from : Automaton → (d : ℕ) → List ℕ → Bool
reads_from A d [] = top_bit A.top d
reads_from A d (c ∷ cs) = cond (eqb (step_on A 0 d c) 0) false (reads_from A (step_on A 0 d c) cs)

abbrev pub reads_whole : Automaton → (name : List ℕ) → Bool
reads_whole A name = reads_from A (opening_state A) name

-- ---- what the functions ask and give

pub record Coverable (flag : ℕ) (rule : List ℕ) (p : Prepared) : Type 0 where
  pub prepares : PreparedRule flag rule p

pub record CoverableLow (flag : ℕ) (rule : List ℕ) (p : Prepared) : Type 0 where
  pub coverable : Coverable flag rule p
  pub low : p.positions < word_bits

-- what the public call promises
abbrev pub cover_answer : CoverAnswer → Covered
cover_answer (turns_down n p) = refusing_name n p
cover_answer (says b) = judged_name b

abbrev pub CoversIs : (flag : ℕ) (rule name : List ℕ) → Covered → Type 0
CoversIs flag rule name r = r ≡ cover_answer (covered flag rule name)

-- the same of whether it is covered, or of why and where nothing is said
abbrev pub CoversTried : (flag : ℕ) (rule name : List ℕ) → Result Bool Refused → Type 0
CoversTried flag rule name r = MatchResult r (λ b. CoversIs flag rule name (judged_name b)) (λ e. CoversIs flag rule name (refusing_name (number_of e.refusal) e.place))
