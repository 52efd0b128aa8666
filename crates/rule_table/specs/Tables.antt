-- The table of a rule: for each byte the mask of the positions that admit it, in four words. Assumes nothing.
use Rattle.std.specs.Prelude.{◌≡◌, Bool, true, cond, ◌&&◌, ◌||◌, List, [], ◌∷◌, ◌++◌, reverse, ℕ, zero, suc, ◌+◌, ◌-◌, ◌*◌, ◌/◌, ◌%◌, ◌≤◌, ◌<◌, length, get_or, eqb}
use Rattle.std.specs.Int.Bits.{bit_or}
use Rattle.model.specs.Occurrence.{Position}
use Rattle.model.specs.RuleText.{Element, fold_flag, position_limit, other_case, positions}
use Rattle.model.specs.NumberedAnswers.{accepted, parse, rule_positions}
use Rattle.shift_and.specs.Masks.{admits_mask}
use Rattle.shift_and_wide.specs.Wides.{word_of, ones_from}
use Rattle.byte_set.specs.Sets.{member}
use Rattle.rule_element.specs.declared.Kind.{Kind}
use Rattle.rule_element.specs.declared.Kind.TheVariants.{Byte, Any, Class, Gap}
use Rattle.rule_element.specs.Reading.{size_of}

-- ---- the table of a list of positions

-- "Tables B .. say, for each byte, which positions admit it": word j of it, for n bytes from c on,
unfoldable pub entries_from : (j : ℕ) → List Position → (c n : ℕ) → List ℕ
entries_from j ps c zero = []
entries_from j ps c (suc n) = word_of j (admits_mask ps c) ∷ entries_from j ps (suc c) n

-- for all bytes,
abbrev pub plane_of : (j : ℕ) → List Position → List ℕ
plane_of j ps = entries_from j ps 0 256

-- and the four words, one plane after the other.
abbrev pub table_of : List Position → List ℕ
table_of ps = plane_of 0 ps ++ (plane_of 1 ps ++ (plane_of 2 ps ++ plane_of 3 ps))

-- in order, or from the last to the first
abbrev pub row_of : (reversed : Bool) → List Position → List Position
row_of reversed ps = cond reversed (reverse ps) ps

-- ---- how it is filled

-- the first c entries are 0
pub record Cleared (t : List ℕ) (c : ℕ) : Type 0 where
  pub long : length t ≡ 256
  pub zeros : (x : ℕ) → x < c → get_or t x 0 ≡ 0

abbrev pub gained : Bool → ℕ → ℕ → ℕ
gained b bits x = cond b (bit_or x bits) x

-- the entries of the bytes that f has gain the bits, and no other entry changes
pub record Gains (f : ℕ → Bool) (bits : ℕ) (t t' : List ℕ) : Type 0 where
  pub long : length t' ≡ 256
  pub each : (x : ℕ) → x < 256 → get_or t' x 0 ≡ gained (f x) bits (get_or t x 0)

abbrev pub always : ℕ → Bool
always c = true

abbrev pub in_set : List ℕ → ℕ → Bool
in_set w c = member w c

abbrev pub has_byte : (fold : Bool) (b : ℕ) → ℕ → Bool
has_byte fold b c = eqb c b || (fold && eqb (other_case c) b)

-- the bytes that an element admits, by its kind
abbrev pub admits_by : (fold : Bool) → Kind → ℕ → Bool
admits_by fold (Byte b) = has_byte fold b
admits_by fold Any = always
admits_by fold (Class set) = in_set set.words
admits_by fold (Gap a b) = always

-- n positions after `used` of `total`, in a word
pub record SlotsFit (n used total word : ℕ) : Type 0 where
  pub room : used + n ≤ total
  pub few : total ≤ position_limit
  pub one : word < 4

abbrev pub slot_bits : (n used total : ℕ) (reversed : Bool) → ℕ
slot_bits n used total reversed = cond reversed (ones_from n (total - used - n + 1)) (ones_from n (used + 1))

-- `place`: a word of the positions of one element
pub record Placed (fold : Bool) (kind : Kind) (used total : ℕ) (reversed : Bool) (word : ℕ) (t : List ℕ) (r : ℕ) (t' : List ℕ) : Type 0 where
  pub size : r ≡ size_of kind
  pub gains : Gains (admits_by fold kind) (word_of word (slot_bits (size_of kind) used total reversed)) t t'

-- ---- what `fill` asks and ensures

-- an accepted rule with the count of positions that `prepare` gave
pub record Counted (flag : ℕ) (rule : List ℕ) (total : ℕ) : Type 0 where
  pub elements : List Element
  pub parses : parse (fold_flag flag) rule ≡ accepted elements
  pub count : total ≡ length (positions (fold_flag flag) elements)
  pub few : total ≤ position_limit

-- one plane,
pub record PlaneFillable (flag : ℕ) (rule : List ℕ) (total : ℕ) (plane : List ℕ) (word : ℕ) : Type 0 where
  pub rule-counted : Counted flag rule total
  pub long : length plane ≡ 256
  pub one : word < 4

pub record PlaneFilled (flag : ℕ) (rule : List ℕ) (reversed : Bool) (plane : List ℕ) (word : ℕ) : Type 0 where
  pub long : length plane ≡ 256
  pub is : plane ≡ plane_of word (row_of reversed (rule_positions (fold_flag flag) rule))

-- and all four
pub record Fillable (flag : ℕ) (rule : List ℕ) (total : ℕ) (table : List ℕ) : Type 0 where
  pub rule-counted : Counted flag rule total
  pub long : length table ≡ 1024

pub record Filled (flag : ℕ) (rule : List ℕ) (reversed : Bool) (table : List ℕ) : Type 0 where
  pub long : length table ≡ 1024
  pub is : table ≡ table_of (row_of reversed (rule_positions (fold_flag flag) rule))

-- ---- a mask for the reversed rule: its positions' bits, from the last to the first

unfoldable pub mirror_from : (to from n : ℕ) → ℕ
mirror_from to from zero = to
mirror_from to from (suc n) = mirror_from (to * 2 + from % 2) (from / 2) n

abbrev pub mirror : (mask n : ℕ) → ℕ
mirror mask n = mirror_from 0 (mask / 2) n * 2
