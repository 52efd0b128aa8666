-- Note 2, "LIKE lists": what an SQL LIKE pattern accepts, said without rules, and the importer that makes rule text of one, with row 14. Assumes nothing.
use Rattle.std.specs.Prelude.{Bool, true, false, not, cond, ◌&&◌, List, [], ◌∷◌, ◌++◌, ℕ, suc, pred, ltb, eqb, length, drop}
use Rattle.model.specs.RefusalNumbers.{too_short, too_much, like_fault}
use Rattle.model.specs.Ascii.{byte_of, ascii}
use Rattle.model.specs.Occurrence.{any_from, is_empty}
use Rattle.model.specs.RuleText.{rule_limit, one_of, marks, starts_with}
use Rattle.model.specs.NumberedAnswers.{text_limit, Parsed, refused, accepted, parse, TextAnswer, turns_down, writes}

-- ---- LIKE

-- "`%` any bytes, `_` one byte", and any other byte stands for itself.
pub data LikeItem : Type 0 where
  any_bytes one_byte : LikeItem
  plain : ℕ → LikeItem

-- Which names LIKE accepts, "case respected".
pub data Like : List LikeItem → (name : List ℕ) → Type 0 where
  over : Like [] []
  many : {is : List LikeItem} {xs : List ℕ} (ys : List ℕ) → Like is xs → Like (any_bytes ∷ is) (ys ++ xs)
  single : {is : List LikeItem} {xs : List ℕ} (c : ℕ) → Like is xs → Like (one_byte ∷ is) (c ∷ xs)
  itself : {is : List LikeItem} {xs : List ℕ} (c : ℕ) → Like is xs → Like (plain c ∷ is) (c ∷ xs)

-- The same as a test, by trying every count of bytes for a `%`.
abbrev pub is_like : List LikeItem → (name : List ℕ) → Bool
is_like [] xs = is_empty xs
is_like (any_bytes ∷ is) xs = any_from (λ k. is_like is (drop k xs)) 0 (suc (length xs))
is_like (one_byte ∷ is) xs = not (is_empty xs) && is_like is (drop 1 xs)
is_like (plain c ∷ is) xs = starts_with c xs && is_like is (drop 1 xs)

-- ---- a pattern, read

-- Row 14, "when a LIKE backslash stands last or before another byte"; "14's [place] is the first such backslash in the pattern".
pub data LikePattern : Type 0 where
  misspelt : (place : ℕ) → LikePattern
  pattern : List LikeItem → LikePattern

abbrev pub add_item : LikeItem → LikePattern → LikePattern
add_item i (misspelt p) = misspelt p
add_item i (pattern is) = pattern (i ∷ is)

-- "backslash before `%`, `_` or itself as escape". From `place` on, after a backslash if `escaped`.
abbrev pub like_from : (escaped : Bool) (place : ℕ) → List ℕ → LikePattern
like_from false place [] = pattern []
like_from true place [] = misspelt (pred place)
like_from false place (c ∷ cs) =
    cond (eqb c (byte_of "%")) (add_item any_bytes (like_from false (suc place) cs))
    (cond (eqb c (byte_of "_")) (add_item one_byte (like_from false (suc place) cs))
    (cond (eqb c (byte_of "\\")) (like_from true (suc place) cs)
    (add_item (plain c) (like_from false (suc place) cs))))
like_from true place (c ∷ cs) = cond (one_of (ascii "%_\\") c) (add_item (plain c) (like_from false (suc place) cs)) (misspelt (pred place))

abbrev pub like : List ℕ → LikePattern
like cs = like_from false 0 cs

-- ---- the importer

-- "`%` becomes `.*`, `_` a dot, and any other byte that is a mark gains a backslash."
abbrev pub item_text : LikeItem → List ℕ
item_text any_bytes = ascii ".*"
item_text one_byte = ascii "."
item_text (plain c) = cond (one_of marks c) (byte_of "\\" ∷ c ∷ []) (c ∷ [])

abbrev pub like_text : List LikeItem → List ℕ
like_text [] = []
like_text (i ∷ is) = item_text i ++ like_text is

-- "A pattern such as `%` gets the rule's own 8; text past" 1,023 "bytes gets 2": the rule's refusals, whose "places count in the rule text". The importer takes
-- no fold flag: "fold off".
abbrev pub import_text : (text : List ℕ) → Parsed → TextAnswer
import_text text (refused n p) = turns_down n p
import_text text (accepted es) = writes text

-- "14 .., checked before 1 to 8"
abbrev pub import_items : LikePattern → TextAnswer
import_items (misspelt p) = turns_down like_fault p
import_items (pattern is) = import_text (like_text is) (parse false (like_text is))

-- "in a lent buffer of at least" 1,023 "bytes, shorter getting 9 first, then a pattern past the text's limit 10": as many as a rule may have.
abbrev pub imported : (pattern : List ℕ) (lent : ℕ) → TextAnswer
imported cs lent = cond (ltb lent rule_limit) (turns_down too_short 0) (cond (ltb text_limit (length cs)) (turns_down too_much 0) (import_items (like cs)))
