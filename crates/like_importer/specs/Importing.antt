-- A pattern's items as the importer holds them, what it measures of them, and what an import answers. Assumes nothing.
use Rattle.std.specs.Prelude.{◌≡◌, Bool, false, true, not, cond, ◌||◌, List, [], ◌∷◌, ℕ, ◌+◌, ◌*◌, ◌≤◌, ◌<◌, ltb, eqb, length, drop, Option, None, Some, Result, MatchResult}
use Rattle.std.proofs.lemmas.List.Edits.{sets}
use Rattle.model.specs.RuleText.{rule_limit, position_limit}
use Rattle.model.specs.NumberedAnswers.{text_limit, overwrite}
use Rattle.model.specs.Like.{LikeItem, any_bytes, one_byte, plain, misspelt, pattern, add_item, like_from, like, item_text, like_text, import_items, imported}
use Rattle.rule_spelling.specs.LikeRules.{singles, past_place}
use Rattle.answers.specs.declared.Refusal.TheVariants.{LikeFault}
use Rattle.answers.specs.declared.Refused.{Refused}
use Rattle.answers.specs.declared.Text.{Text}
use Rattle.answers.specs.Answers.{number_of, refusing_text, written_text}
use Rattle.text_writer.specs.Writing.{WritesText}
use Rattle.like_importer.specs.declared.Item.{Item}
use Rattle.like_importer.specs.declared.Measure.{Measure}

-- ---- one item

-- its rule text
abbrev pub spelled_by : (first : ℕ) → (second : Option ℕ) → List ℕ
spelled_by c None = c ∷ []
spelled_by c (Some d) = c ∷ d ∷ []

abbrev pub spelling : Item → List ℕ
spelling x = spelled_by x.first x.second

-- whether it must have a byte
abbrev pub single : LikeItem → Bool
single any_bytes = false
single one_byte = true
single (plain c) = true

pub record Spells (i : LikeItem) (x : Item) : Type 0 where
  pub text : item_text i ≡ spelling x
  pub some : x.some ≡ single i

-- an item of the pattern s from a place up to the next
pub record ItemRead (s : List ℕ) (at : ℕ) (x : Item) (next : ℕ) : Type 0 where
  pub item : LikeItem
  pub spells : Spells item x
  pub ahead : at < next
  pub inside : next ≤ length s
  pub reads : like_from false at (drop at s) ≡ add_item item (like_from false next (drop next s))

abbrev pub Reads : List ℕ → (at : ℕ) → Option (Item × ℕ) → Type 0
Reads s at None = like_from false at (drop at s) ≡ misspelt at
Reads s at (Some p) = ItemRead s at p.0 p.1

pub record ReadsItem (s : List ℕ) (at : ℕ) (r : Option (Item × ℕ)) : Type 0 where
  pub is : Reads s at r

-- ---- what is measured

-- one item more
abbrev pub added : Measure → Item → Measure
added m x = record {
  items = m.items + 1;
  length = m.length + length (spelling x);
  past = cond (ltb m.items position_limit) (m.length + length (spelling x)) m.past;
  some = m.some || x.some;
}

-- so that no count overflows: of a text within the limit there are no more items than bytes, and each has at most two in the rule text
pub record Addable (m : Measure) : Type 0 where
  pub few : m.items < text_limit
  pub short : m.length ≤ 2 * text_limit

pub record Measures (is : List LikeItem) (m : Measure) : Type 0 where
  pub items : m.items ≡ length is
  pub long : m.length ≡ length (like_text is)
  pub past : m.past ≡ past_place position_limit is
  pub some : m.some ≡ not (eqb (singles is) 0)

-- a pattern that is spelt right,
pub record MeasuredIs (s : List ℕ) (m : Measure) : Type 0 where
  pub items : List LikeItem
  pub reads : like s ≡ pattern items
  pub measures : Measures items m

-- or one that is refused at its first backslash that is no escape
pub record MisspeltIs (s : List ℕ) (e : Refused) : Type 0 where
  pub fault : e.refusal ≡ LikeFault
  pub is : like s ≡ misspelt e.place

-- ---- writing

pub record PutIs (x : Item) (out : List ℕ) (at r : ℕ) (out' : List ℕ) : Type 0 where
  pub end : r ≡ at + length (spelling x)
  pub list : out' ≡ sets out at (spelling x)

-- a pattern that is spelt right, and a buffer with room for its rule text
pub record Writable (s : List ℕ) (lent : ℕ) : Type 0 where
  pub items : List LikeItem
  pub reads : like s ≡ pattern items
  pub room : length (like_text items) ≤ lent

pub record WrittenIs (s out out' : List ℕ) : Type 0 where
  pub list : (is : List LikeItem) → like s ≡ pattern is → out' ≡ overwrite out (like_text is)

-- ---- the import

pub record Importable (s : List ℕ) (m : Measure) (lent : ℕ) : Type 0 where
  pub items : List LikeItem
  pub reads : like s ≡ pattern items
  pub measures : Measures items m
  pub long : rule_limit ≤ lent

abbrev pub ItemsImported : (s out : List ℕ) (r : Text) (out' : List ℕ) → Type 0
ItemsImported s out r out' = WritesText (import_items (like s)) out r out'

-- the same of the length that is written, or of why and where nothing is
abbrev pub ItemsTried : (s out : List ℕ) (r : Result ℕ Refused) (out' : List ℕ) → Type 0
ItemsTried s out r out' = MatchResult r (λ n. ItemsImported s out (written_text n) out') (λ e. ItemsImported s out (refusing_text (number_of e.refusal) e.place) out')

-- what the public call promises: its number and place, or its length; and every byte of the buffer
abbrev pub ImportIs : (s out : List ℕ) (r : Text) (out' : List ℕ) → Type 0
ImportIs s out r out' = WritesText (imported s (length out)) out r out'

abbrev pub ImportTried : (s out : List ℕ) (r : Result ℕ Refused) (out' : List ℕ) → Type 0
ImportTried s out r out' = MatchResult r (λ n. ImportIs s out (written_text n) out') (λ e. ImportIs s out (refusing_text (number_of e.refusal) e.place) out')
