-- What reading a rule makes of its elements: the count of their positions, and their masks. Assumes nothing.
use Rattle.std.specs.Prelude.{◌≡◌, Bool, List, [], ◌∷◌, ℕ, ◌+◌, ◌-◌, ◌*◌, ◌^◌, ◌≤◌, length, Result, MatchResult}
use Rattle.model.specs.Occurrence.{Position}
use Rattle.model.specs.RuleText as Model
use Rattle.model.specs.RuleText.{position_limit, positions}
use Rattle.model.specs.Spelling.{Spelled, spelled}
use Rattle.model.specs.NumberedAnswers.{Parsed, refused, accepted, elements_from}
use Rattle.answers.specs.declared.Refused.{Refused}
use Rattle.answers.specs.Answers.{number_of}
use Rattle.shift_and.specs.ForwardStep as Step
use Rattle.shift_and.specs.Masks.{mask_from}
use Rattle.shift_and_wide.specs.Wides.{number, words_of, no_bits, ones_from, laid_on}
use Rattle.rule_element.specs.declared.Kind.{Kind}
use Rattle.rule_element.specs.declared.Kind.TheVariants.{Byte, Any, Class, Gap}
use Rattle.rule_element.specs.declared.Often.{Often}
use Rattle.rule_element.specs.declared.Often.TheVariants.{Once, Optional, Repeatable, Both}
use Rattle.rule_element.specs.declared.Element.{Element}
use Rattle.rule_element.specs.Reading.{size_of, KindFits}
use Rattle.rule_parser.specs.declared.RuleMasks.{RuleMasks}
use Rattle.rule_parser.specs.declared.ReadRule.{ReadRule}

abbrev pub is_optional : Position → Bool
is_optional p = p.optional

abbrev pub is_repeating : Position → Bool
is_repeating p = p.repeats

-- ---- an element's own positions: the first so many are optional, or repeat

abbrev pub optional_ones : Often → ℕ
optional_ones Once = 0
optional_ones Optional = 1
optional_ones Repeatable = 0
optional_ones Both = 1

abbrev pub optional_count : Kind → Often → ℕ
optional_count (Byte b) o = optional_ones o
optional_count Any o = optional_ones o
optional_count (Class n) o = optional_ones o
optional_count (Gap a b) o = b - a

abbrev pub repeat_ones : Often → ℕ
repeat_ones Once = 0
repeat_ones Optional = 0
repeat_ones Repeatable = 1
repeat_ones Both = 1

abbrev pub repeat_count : Kind → Often → ℕ
repeat_count (Byte b) o = repeat_ones o
repeat_count Any o = repeat_ones o
repeat_count (Class n) o = repeat_ones o
repeat_count (Gap a b) o = 0

-- a count of an element's positions
pub record CountIs (k : Kind) (n r : ℕ) : Type 0 where
  pub is : r ≡ n
  pub few : r ≤ size_of k

-- ---- the elements of a rule

-- an element for which there is room
pub record Fits (t : RuleMasks) (e : Element) : Type 0 where
  pub fits : KindFits e.kind
  pub room : t.positions + size_of e.kind ≤ position_limit

-- one element more
abbrev pub gained_by : RuleMasks → Element → RuleMasks
gained_by t e = record {
  positions = t.positions + size_of e.kind;
  optional = laid_on t.optional (optional_count e.kind e.often) (t.positions + 1);
  repeats = laid_on t.repeats (repeat_count e.kind e.often) (t.positions + 1);
}

abbrev pub start : RuleMasks
start = record { positions = 0; optional = no_bits; repeats = no_bits }

-- how many of its positions are not optional
abbrev pub required_of : RuleMasks → ℕ
required_of t = Step.shortest 256 (ones_from t.positions 1) (number t.optional)

-- the place of the last element, and p if there is none
abbrev pub last_place : ℕ → List Spelled → ℕ
last_place p [] = p
last_place p (s ∷ ss) = last_place s.place ss

-- above what t has, the count and the masks of some positions
abbrev pub gathered : RuleMasks → List Position → RuleMasks
gathered t ps = record {
  positions = t.positions + length ps;
  optional = words_of (number t.optional + mask_from is_optional ps * 2 ^ (t.positions + 1));
  repeats = words_of (number t.repeats + mask_from is_repeating ps * 2 ^ (t.positions + 1));
}

-- the elements of a rule as the model reads them: refused with a number and a place, or read to the rule's end
abbrev pub rule_elements : (fold : Bool) → List ℕ → Parsed
rule_elements fold s = elements_from position_limit fold 0 0 0 s

-- what the rule's reader makes of elements that are read to the end: their masks, and the last one's place
pub record Gathers (fold : Bool) (s : List ℕ) (r : ReadRule) : Type 0 where
  pub elements : List Model.Element
  pub reads : rule_elements fold s ≡ accepted elements
  pub masks : r.masks ≡ gathered start (positions fold elements)
  pub last-is : r.last ≡ last_place 0 (spelled fold s)
  pub few : r.masks.positions ≤ position_limit
  -- the last element stands in the rule
  pub inside : r.last ≤ length s

-- and its refusal: the model's number and place
pub record ReadRefused (fold : Bool) (s : List ℕ) (e : Refused) : Type 0 where
  pub is : rule_elements fold s ≡ refused (number_of e.refusal) e.place

abbrev pub ReadsRule : (fold : Bool) → List ℕ → Result ReadRule Refused → Type 0
ReadsRule fold s r = MatchResult r (Gathers fold s) (ReadRefused fold s)
