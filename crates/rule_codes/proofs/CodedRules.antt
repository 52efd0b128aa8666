-- What an answer to a rule with codes says of them. On plain values. Assumes nothing.
use mathlib.Core.Path.{◌≡◌, ap}
use mathlib.Core.List.{List}
use Prim.Native.Nat.{ℕ}
use Rattle.model.specs.RuleText.{fold_flag, Element, positions}
use Rattle.model.specs.NumberedAnswers.{Parsed, accepted, parse, positions_by}
use Rattle.model.specs.Codes.{codes_of, fitting, smudged, parse_with}
use Rattle.rule_parser.specs.declared.Prepared.{Prepared}
use Rattle.rule_codes.specs.RuleCodes.{PreparedWith}

module _ (flag : ℕ) (rule codes sets : List ℕ) (p : Prepared) (hp : PreparedWith flag rule codes sets p) where
  pub record AcceptsWith : Type 0 where
    pub elements : List Element
    pub parses : parse (fold_flag flag) rule ≡ accepted elements
    pub parses_with : parse_with (fold_flag flag) rule codes sets ≡ accepted elements
    pub fits_are : smudged (fold_flag flag) rule codes sets ≡ fitting (codes_of codes sets) (positions (fold_flag flag) elements)

  pub accepted_with : AcceptsWith
  accepted_with = record {
    elements = hp.rule-is.elements;
    parses = hp.rule-is.parses;
    parses_with = hp.parses;
    fits_are = ap (λ (x : Parsed). fitting (codes_of codes sets) (positions_by (fold_flag flag) x)) hp.rule-is.parses;
  }
