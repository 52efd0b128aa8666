-- NOTE 10 as one statement: which stored rules are changed, what becomes of them, and what each step keeps. The theorem is `retired` of proofs/Retired. Assumes
-- nothing.
use Rattle.std.specs.Prelude.{◌≡◌, ◌↔◌, Bool, List, [], ◌∷◌, ◌++◌, ℕ, ◌≤◌, length}
use Rattle.model.specs.RefusalNumbers.{outer_gap}
use Rattle.model.specs.Occurrence.{Position, ends, starts}
use Rattle.model.specs.RuleText.{rule_limit, gap, Element, positions}
use Rattle.model.specs.Spelling.{Spelled, text_by, elements_by}
use Rattle.model.specs.NumberedAnswers.{refused, accepted, parse_stored, parse, positions_by, rule_positions}
use Rattle.model.specs.Codes.{Code, fitting}
use Rattle.model.specs.Rewriter.{dots, front_done, both_done, rewritten}

-- The positions of elements, of a stored rule and of a new one, in a plan that is read with codes; there may be none.
abbrev pub element_positions : List Code → (fold : Bool) → List Spelled → List Position
element_positions ks fold ss = fitting ks (positions fold (elements_by ss))

abbrev pub stored_positions : List Code → (fold : Bool) → List ℕ → List Position
stored_positions ks fold rule = fitting ks (positions_by fold (parse_stored fold rule))

abbrev pub new_positions : List Code → (fold : Bool) → List ℕ → List Position
new_positions ks fold rule = fitting ks (rule_positions fold rule)

-- The text between the front steps and the back steps.
abbrev pub between_text : (fold : Bool) → List ℕ → List ℕ
between_text fold rule = text_by (front_done fold rule)

-- Of a stored rule.
pub record Retired (fold : Bool) (rule : List ℕ) : Type 0 where
  -- "new rules may not have one": the finished text is a new rule, with the elements that the steps left ..
  pub new : length (rewritten fold rule) ≤ rule_limit → parse fold (rewritten fold rule) ≡ accepted (elements_by (both_done fold rule))
  -- .. and is rewritten to itself, as any new rule is.
  pub settled : length (rewritten fold rule) ≤ rule_limit → rewritten fold (rewritten fold rule) ≡ rewritten fold rule
  pub unchanged : (es : List Element) → parse fold rule ≡ accepted es → rewritten fold rule ≡ rule
  -- A stored rule is refused by 16 exactly when the rewriter changes it.
  pub sixteen : ((place : ℕ) × (parse fold rule ≡ refused outer_gap place)) ↔ (rewritten fold rule ≡ rule → ⊥)
  -- "Each front step keeps the list of ends, each back step the list of starts": one step, on any elements beside the gap ..
  pub front_step : (ks : List Code) (s : Spelled) (ss : List Spelled) (a b : ℕ) → s.element.kind ≡ gap a b → (text : List ℕ)
      → ends (element_positions ks fold (dots a ++ ss)) text ≡ ends (element_positions ks fold (s ∷ ss)) text
  pub back_step : (ks : List Code) (ss : List Spelled) (s : Spelled) (a b : ℕ) → s.element.kind ≡ gap a b → (text : List ℕ)
      → starts (element_positions ks fold (ss ++ dots a)) text ≡ starts (element_positions ks fold (ss ++ (s ∷ []))) text
  -- .. all of them, on the rule's elements, however long the text between them is ..
  pub front_ends : (ks : List Code) (text : List ℕ) → ends (element_positions ks fold (front_done fold rule)) text ≡ ends (stored_positions ks fold rule) text
  pub back-starts : (ks : List Code) (text : List ℕ) → starts (element_positions ks fold (both_done fold rule)) text ≡ starts (element_positions ks fold (front_done fold rule)) text
  -- .. and on rule texts, where they are not past the length limit.
  pub front-text-ends : length (between_text fold rule) ≤ rule_limit → (ks : List Code) (text : List ℕ)
      → ends (stored_positions ks fold (between_text fold rule)) text ≡ ends (stored_positions ks fold rule) text
  pub back-text-starts : length (between_text fold rule) ≤ rule_limit → length (rewritten fold rule) ≤ rule_limit → (ks : List Code) (text : List ℕ)
      → starts (new_positions ks fold (rewritten fold rule)) text ≡ starts (stored_positions ks fold (between_text fold rule)) text
