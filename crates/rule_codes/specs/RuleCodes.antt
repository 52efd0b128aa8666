-- A rule with codes: which of its elements admit codes alone, and what it is answered. Assumes nothing.
use Rattle.std.specs.Prelude.{◌≡◌, Bool, false, not, ◌&&◌, ◌||◌, List, [], ◌∷◌, ℕ, ◌≤◌, ◌<◌, length, Result, MatchResult}
use Rattle.model.specs.RuleText.{Element, fold_flag, other_case}
use Rattle.model.specs.NumberedAnswers.{refused, accepted, parse}
use Rattle.model.specs.Codes.{codes_most, codes_wrong, parse_with}
use Rattle.answers.specs.declared.Refused.{Refused}
use Rattle.answers.specs.Answers.{number_of}
use Rattle.byte_set.specs.Sets.{member, add_byte, minus, is_empty}
use Rattle.rule_element.specs.declared.Kind.{Kind}
use Rattle.rule_element.specs.declared.Kind.TheVariants.{Byte, Any, Class, Gap}
use Rattle.rule_parser.specs.declared.Prepared.{Prepared}
use Rattle.rule_parser.specs.Preparing.{PreparedRule}

-- the codes, added to a set
unfoldable pub add_codes : List ℕ → (codes : List ℕ) → List ℕ
add_codes w [] = w
add_codes w (c ∷ cs) = add_codes (add_byte w c) cs

-- ---- "a position holds codes alone", by the kind of its element

abbrev pub byte_alone : (fold : Bool) (b : ℕ) → (codes : List ℕ) → Bool
byte_alone fold b w = member w b && (not fold || member w (other_case b))

abbrev pub kind_alone : (fold : Bool) → Kind → (codes : List ℕ) → Bool
kind_alone fold (Byte b) w = byte_alone fold b w
kind_alone fold Any w = false
kind_alone fold (Class set) w = is_empty (minus set.words w)
kind_alone fold (Gap a b) w = false

abbrev pub OfByte : Kind → Type 0
OfByte (Byte b) = b < 256
OfByte Any = Unit {0}
OfByte (Class set) = Unit {0}
OfByte (Gap a b) = Unit {0}

pub record KindAloneIs (fold : Bool) (kind : Kind) (w : List ℕ) (r : Bool) : Type 0 where
  pub is : r ≡ kind_alone fold kind w
  pub byte : OfByte kind

-- ---- an accepted rule, and not too many codes

pub record Judgeable (flag : ℕ) (rule codes : List ℕ) : Type 0 where
  pub elements : List Element
  pub parses : parse (fold_flag flag) rule ≡ accepted elements
  pub few : length codes ≤ codes_most

-- ---- what `prepare` ensures: the rule's refusals, then 15

-- an accepted rule with accepted codes
pub record PreparedWith (flag : ℕ) (rule codes sets : List ℕ) (p : Prepared) : Type 0 where
  pub rule-is : PreparedRule flag rule p
  pub parses : parse_with (fold_flag flag) rule codes sets ≡ accepted rule-is.elements
  pub codes_fine : codes_wrong codes sets ≡ false

-- why and where the rule or its codes are refused: by the model's number and place
pub record RefusedWith (flag : ℕ) (rule codes sets : List ℕ) (e : Refused) : Type 0 where
  pub is : parse_with (fold_flag flag) rule codes sets ≡ refused (number_of e.refusal) e.place

abbrev pub PreparesWith : (flag : ℕ) (rule codes sets : List ℕ) → Result Prepared Refused → Type 0
PreparesWith flag rule codes sets r = MatchResult r (PreparedWith flag rule codes sets) (RefusedWith flag rule codes sets)
