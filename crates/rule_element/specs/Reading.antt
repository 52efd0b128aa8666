-- What the readers of src/lib.rt find: the model's reading of the bytes from an index on, with the place after it instead of a
-- count of bytes, and the refusal of a number instead of the number; and that a reader moves on and stays within the rule. Assumes nothing.
use Rattle.std.specs.Prelude.{◌≡◌, Bool, cond, List, ℕ, suc, ◌+◌, ◌≤◌, ◌<◌, Result, Ok, Err, MatchResult, length, drop, leb}
use Rattle.answers.specs.declared.Refusal.{Refusal}
use Rattle.answers.specs.Answers.{number_of}
use Rattle.model.specs.RefusalNumbers.{too_many_positions}
use Rattle.model.specs.RuleText as Model
use Rattle.model.specs.RuleText.{bad, good, byte, any, class, gap, once, optional, repeatable, both, items_from, class_of, kind_at, often_at, often_after, mark_bytes, position_limit}
use Rattle.rule_element.specs.declared.Kind.{Kind}
use Rattle.rule_element.specs.declared.Kind.TheVariants.{Byte as AByte, Any, Class, Gap}
use Rattle.rule_element.specs.declared.Element.{Element}
use Rattle.rule_element.specs.declared.Often.{Often}
use Rattle.rule_element.specs.declared.Often.TheVariants.{Once, Optional, Repeatable, Both}
use Rattle.byte_set.specs.Sets.{add_ranges, none, widen, turn}

-- ---- a kind

-- a class has its set of bytes
abbrev pub kind_of : (fold : Bool) → Model.Kind → Kind
kind_of fold (byte b) = AByte b
kind_of fold any = Any
kind_of fold (class t rs) = Class (record { words = turn t (widen fold (add_ranges none rs)) })
kind_of fold (gap a b) = Gap a b

-- a gap's bounds are in order and have two digits at most
abbrev pub KindFits : Kind → Type 0
KindFits (AByte b) = Unit {0}
KindFits Any = Unit {0}
KindFits (Class w) = Unit {0}
KindFits (Gap a b) = (a ≤ b) × (1 ≤ b) × (b ≤ 99)

-- a kind that the model has read too, counting bytes from a place on
pub record Spelt (fold : Bool) (at : ℕ) (x : Model.ReadKind) (kind : Kind) (next : ℕ) : Type 0 where
  pub model : Model.Kind
  pub bytes : ℕ
  pub is : x ≡ good model bytes
  pub kind-is : kind ≡ kind_of fold model
  pub next-is : next ≡ at + bytes

-- the answer of a reader of kinds, where the model reads x: a refusal has its number
abbrev pub Spells : (fold : Bool) (at : ℕ) → Model.ReadKind → Result (Kind × ℕ) Refusal → Type 0
Spells fold at x r = MatchResult r (λ k. Spelt fold at x k.0 k.1) (λ e. x ≡ bad (number_of e))

abbrev pub KindMoves : List ℕ → (at : ℕ) → Result (Kind × ℕ) Refusal → Type 0
KindMoves s at r = MatchResult r (λ k. (at < k.1) × (k.1 ≤ length s) × KindFits k.0) (λ e. Unit {0})

-- a class from its first item on
pub record ReadsClass (fold turned : Bool) (s : List ℕ) (from : ℕ) (r : Result (Kind × ℕ) Refusal) : Type 0 where
  pub is : Spells fold 0 (class_of fold turned (items_from 0 from (drop from s))) r
  pub moves : KindMoves s from r

-- the class whose `[` stands at a place
pub record ReadsBracket (fold : Bool) (s : List ℕ) (at : ℕ) (r : Result (Kind × ℕ) Refusal) : Type 0 where
  pub is : Spells fold at (Model.class_at fold (drop (suc at) s)) r
  pub moves : KindMoves s at r

-- the gap whose `{` stands at a place: the fold does not change what it is
pub record ReadsGap (s : List ℕ) (at : ℕ) (r : Result (Kind × ℕ) Refusal) : Type 0 where
  pub is : (fold : Bool) → Spells fold at (Model.gap_at (drop (suc at) s)) r
  pub moves : KindMoves s at r

-- any kind
pub record ReadsKind (fold : Bool) (s : List ℕ) (at : ℕ) (r : Result (Kind × ℕ) Refusal) : Type 0 where
  pub is : Spells fold at (kind_at fold (drop at s)) r
  pub moves : KindMoves s at r

-- ---- its mark

abbrev pub often_of : Model.Often → Often
often_of once = Once
often_of optional = Optional
often_of repeatable = Repeatable
often_of both = Both

unfoldable pub mark_at : List ℕ → ℕ → Often
mark_at s at = often_of (often_at (drop at s))

abbrev pub often_by : Kind → Often → Often
often_by (AByte b) o = o
often_by Any o = o
often_by (Class w) o = o
often_by (Gap a b) o = Once

abbrev pub bytes_of : Often → ℕ
bytes_of Once = 0
bytes_of Optional = 1
bytes_of Repeatable = 1
bytes_of Both = 1

abbrev pub size_of : Kind → ℕ
size_of (AByte b) = 1
size_of Any = 1
size_of (Class w) = 1
size_of (Gap a b) = b

-- ---- an element

abbrev pub element_of : (fold : Bool) → Model.Element → Element
element_of fold e = record { kind = kind_of fold e.kind; often = often_of e.often }

-- the model's reading of an element after `used` positions: it, and the place after it with its mark; or the number that refuses it
abbrev pub read_by : (used : ℕ) (s : List ℕ) (at : ℕ) → Model.ReadKind → Result (Model.Element × ℕ) ℕ
read_by used s at (bad n) = Err n
read_by used s at (good k n) =
    cond (leb (used + Model.size k) position_limit)
    (let o = often_after k (drop (at + n) s) in Ok (record { kind = k; often = o }, at + n + mark_bytes o))
    (Err too_many_positions)

pub record ElementMoves (used : ℕ) (s : List ℕ) (at : ℕ) (e : Element) (next : ℕ) : Type 0 where
  pub ahead : at + bytes_of e.often < next
  pub inside : next ≤ length s
  pub fits : KindFits e.kind
  pub room : used + size_of e.kind ≤ position_limit

-- an element that the model has read too
pub record ElementRead (fold : Bool) (used : ℕ) (s : List ℕ) (at : ℕ) (e : Element) (next : ℕ) : Type 0 where
  pub model : Model.Element
  pub is : read_by used s at (kind_at fold (drop at s)) ≡ Ok (model, next)
  pub element-is : e ≡ element_of fold model
  pub moves : ElementMoves used s at e next

-- a refusal has the model's number
abbrev pub ReadsElement : (fold : Bool) (used : ℕ) (s : List ℕ) (at : ℕ) → Result (Element × ℕ) Refusal → Type 0
ReadsElement fold used s at r = MatchResult r (λ x. ElementRead fold used s at x.0 x.1) (λ e. read_by used s at (kind_at fold (drop at s)) ≡ Err (number_of e))
