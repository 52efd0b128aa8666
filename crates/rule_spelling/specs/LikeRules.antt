-- NOTE 2 on LIKE as one statement: a name is covered by an imported rule exactly when LIKE accepts it. The theorem is `import_covers` of proofs/ImportCovers. And what
-- refuses an import, read off the pattern's items. Assumes nothing.
use Rattle.std.specs.Prelude.{◌≡◌, ◌↔◌, Bool, false, cond, List, [], ◌∷◌, ℕ, suc, ◌≤◌, T, ltb, eqb, length, take}
use Rattle.model.specs.RefusalNumbers.{rule_empty, rule_long, too_many_positions, admits_empty}
use Rattle.model.specs.Occurrence.{all}
use Rattle.model.specs.RuleText.{is_byte, rule_limit, position_limit, byte, any, once, both, Element}
use Rattle.model.specs.NumberedAnswers.{text_limit, Parsed, refused, accepted, parse, rule_positions}
use Rattle.model.specs.WholeNames.{covers, covered, says}
use Rattle.model.specs.Like.{LikeItem, any_bytes, one_byte, plain, Like, is_like, pattern, like, like_text}

-- ---- the claim

-- The elements of a pattern's rule, one for each item.
abbrev pub item_element : LikeItem → Element
item_element any_bytes = record { kind = any; often = both }
item_element one_byte = record { kind = any; often = once }
item_element (plain c) = record { kind = byte c; often = once }

abbrev pub like_elements : List LikeItem → List Element
like_elements [] = []
like_elements (i ∷ is) = item_element i ∷ like_elements is

-- Of a pattern, and the text that was written for it.
pub record ImportCovers (cs text : List ℕ) : Type 0 where
  -- The pattern is read as items, and the text is a rule with an element for each, with any fold flag.
  pub items : List LikeItem
  pub reads : like cs ≡ pattern items
  pub rule : (fold : Bool) → parse fold text ≡ accepted (like_elements items)
  -- "A name .. is covered by the imported rule, fold off, exactly when LIKE accepts it, case respected": every name, of any length ..
  pub exactly : (name : List ℕ) → T (all is_byte name) → T (covers (rule_positions false text) name) ↔ Like items name
  -- .. and, by the test of LIKE, which decides it, the answer of the call.
  pub decided : (name : List ℕ) → T (is_like items name) ↔ Like items name
  pub answer : (name : List ℕ) → T (all is_byte name) → length name ≤ text_limit → covered 0 text name ≡ says (is_like items name)

-- ---- what refuses an import: 1, 2, 7 and 8, and no other check of a rule

-- how many items must have a byte
abbrev pub singles : List LikeItem → ℕ
singles [] = 0
singles (any_bytes ∷ is) = singles is
singles (one_byte ∷ is) = suc (singles is)
singles (plain c ∷ is) = suc (singles is)

-- The place of 7: the item that takes the positions past `most`, in the text.
abbrev pub past_place : (most : ℕ) → List LikeItem → ℕ
past_place most is = length (like_text (take most is))

-- What the text parses to.
abbrev pub like_parsed : List LikeItem → Parsed
like_parsed is =
    cond (eqb (length (like_text is)) 0) (refused rule_empty 0)
    (cond (ltb rule_limit (length (like_text is))) (refused rule_long rule_limit)
    (cond (ltb position_limit (length is)) (refused too_many_positions (past_place position_limit is))
    (cond (eqb (singles is) 0) (refused admits_empty (length (like_text is)))
    (accepted (like_elements is)))))
