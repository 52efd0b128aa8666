-- A rule's answer: document 01's rows 1 to 8 and 16, counts and masks; and a stored rule's, by rows 1 to 8. Assumes nothing.
use Rattle.std.specs.Prelude.{◌≡◌, List, ℕ, ◌≤◌, length, Result, MatchResult}
use Rattle.model.specs.Occurrence.{Position, shortest}
use Rattle.model.specs.RuleText.{Element, fold_flag, rule_limit, position_limit, positions}
use Rattle.model.specs.Spelling.{spelled}
use Rattle.model.specs.NumberedAnswers.{refused, accepted, parse_stored, parse}
use Rattle.answers.specs.declared.Refused.{Refused}
use Rattle.answers.specs.Answers.{number_of}
use Rattle.shift_and.specs.Masks.{optional_mask, repeats_mask}
use Rattle.shift_and_wide.specs.Wides.{words_of}
use Rattle.rule_parser.specs.declared.Prepared.{Prepared}
use Rattle.rule_parser.specs.declared.StoredRule.{StoredRule}
use Rattle.rule_parser.specs.Gathering.{last_place}

abbrev pub answer_of : List Position → Prepared
answer_of ps = record {
  positions = length ps;
  shortest = shortest ps;
  optional = words_of (optional_mask ps);
  repeats = words_of (repeats_mask ps);
}

-- ---- a stored rule, by rows 1 to 8

-- what is prepared of one that is accepted
pub record PreparedStored (flag : ℕ) (rule : List ℕ) (p : Prepared) : Type 0 where
  pub elements : List Element
  pub parses : parse_stored (fold_flag flag) rule ≡ accepted elements
  pub is : p ≡ answer_of (positions (fold_flag flag) elements)
  pub few : p.positions ≤ position_limit

-- with the place of its last element
pub record Stores (flag : ℕ) (rule : List ℕ) (r : StoredRule) : Type 0 where
  pub prepared : PreparedStored flag rule r.prepared
  pub last-is : r.last ≡ last_place 0 (spelled (fold_flag flag) rule)
  pub near : r.last ≤ rule_limit

-- why and where it is refused: by the model's number and place
pub record StoredRefused (flag : ℕ) (rule : List ℕ) (e : Refused) : Type 0 where
  pub is : parse_stored (fold_flag flag) rule ≡ refused (number_of e.refusal) e.place

-- what the reader of a stored rule ensures
abbrev pub ReadsStored : (flag : ℕ) (rule : List ℕ) → Result StoredRule Refused → Type 0
ReadsStored flag rule r = MatchResult r (Stores flag rule) (StoredRefused flag rule)

-- what `prepare_stored` ensures
abbrev pub PreparesStored : (flag : ℕ) (rule : List ℕ) → Result Prepared Refused → Type 0
PreparesStored flag rule r = MatchResult r (PreparedStored flag rule) (StoredRefused flag rule)

-- ---- any other rule, by row 16 too

pub record PreparedRule (flag : ℕ) (rule : List ℕ) (p : Prepared) : Type 0 where
  pub elements : List Element
  pub parses : parse (fold_flag flag) rule ≡ accepted elements
  pub is : p ≡ answer_of (positions (fold_flag flag) elements)
  pub few : p.positions ≤ position_limit

pub record RuleRefused (flag : ℕ) (rule : List ℕ) (e : Refused) : Type 0 where
  pub is : parse (fold_flag flag) rule ≡ refused (number_of e.refusal) e.place

-- what `prepare` ensures
abbrev pub Prepares : (flag : ℕ) (rule : List ℕ) → Result Prepared Refused → Type 0
Prepares flag rule r = MatchResult r (PreparedRule flag rule) (RuleRefused flag rule)
