-- What the readers of src/lib.rt find: the model's reading of the bytes from an index on, with the place after it instead of a
-- count of bytes; and that a reader moves on and stays within the rule. Assumes nothing.
use Rattle.std.specs.Prelude.{◌≡◌, Option, Some, None, IfSome, List, ℕ, suc, ◌+◌, ◌≤◌, ◌<◌, length, drop}
use Rattle.model.specs.RuleText as Model
use Rattle.model.specs.RuleText.{no_end, an_end, closes, misfit, item, faulty, items, end_at, escaped_end, item_at, items_from}
use Rattle.rule_class.specs.declared.ClassItem.{ClassItem}
use Rattle.rule_class.specs.declared.ClassItem.TheVariants.{Range, Close}
use Rattle.byte_set.specs.declared.ByteSet.{ByteSet}
use Rattle.byte_set.specs.Sets.{add_ranges, none}

-- ---- an end, and the place after it

abbrev pub end_of : ℕ → Model.ReadEnd → Option (ℕ × ℕ)
end_of at no_end = None
end_of at (an_end c n) = Some (c, at + n)

abbrev pub EndMoves : List ℕ → ℕ → Option (ℕ × ℕ) → Type 0
EndMoves s at None = Unit {0}
EndMoves s at (Some e) = (at < e.1) × (e.1 ≤ length s)

pub record ReadsEnd (s : List ℕ) (at : ℕ) (r : Option (ℕ × ℕ)) : Type 0 where
  pub is : r ≡ end_of at (end_at (drop at s))
  pub moves : EndMoves s at r

-- what stands after the `\` at a place
pub record ReadsEscape (s : List ℕ) (at : ℕ) (r : Option (ℕ × ℕ)) : Type 0 where
  pub is : r ≡ end_of at (escaped_end (drop (suc at) s))
  pub moves : EndMoves s at r

-- ---- an item of a class

abbrev pub item_of : ℕ → Model.Item → Option ClassItem
item_of at closes = Some (Close (at + 1))
item_of at misfit = None
item_of at (item r n) = Some (Range r.low r.high (at + n))

abbrev pub ItemMoves : List ℕ → ℕ → Option ClassItem → Type 0
ItemMoves s at None = Unit {0}
ItemMoves s at (Some (Close next)) = (at < next) × (next ≤ length s)
ItemMoves s at (Some (Range lo hi next)) = (at < next) × (next ≤ length s) × (lo ≤ hi)

pub record ReadsItem (s : List ℕ) (at : ℕ) (r : Option ClassItem) : Type 0 where
  pub is : r ≡ item_of at (item_at (drop at s))
  pub moves : ItemMoves s at r

-- ---- the items of a class

-- the set with the ranges added, and the place after the `]`
abbrev pub collect : List ℕ → Model.Items → Option (ByteSet × ℕ)
collect w faulty = None
collect w (items rs n) = Some (record { words = add_ranges w rs }, n)

-- The model counts the bytes before the first item: here those from the rule's beginning on, so that its count is a place.
pub record ReadsItems (s : List ℕ) (from : ℕ) (r : Option (ByteSet × ℕ)) : Type 0 where
  pub is : r ≡ collect none (items_from 0 from (drop from s))
  pub moves : IfSome r (λ x. (from < x.1) × (x.1 ≤ length s))
