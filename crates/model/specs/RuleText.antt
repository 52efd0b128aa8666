-- Document 01, "Rule text": elements, the bytes that each admits, the positions that each makes, and how one element is spelt, or which of rows 3 to
-- 6 of "Numbered answers" refuses it. `NumberedAnswers` reads whole rules. Assumes nothing.
use Rattle.std.specs.Prelude.{Bool, true, false, not, cond, ◌&&◌, ◌||◌, List, [], ◌∷◌, ◌++◌, ℕ, zero, suc, pred, ◌+◌, ◌-◌, ◌*◌, leb, ltb, eqb, drop, replicate}
use Rattle.model.specs.RefusalNumbers.{class_fault, gap_fault, mark_fault, byte_fault}
use Rattle.model.specs.Ascii.{byte_of, ascii}
use Rattle.model.specs.Occurrence.{Position}

-- "A rule is 1 to 1,023 bytes".
abbrev pub rule_limit : ℕ
rule_limit = 1023

-- "A rule has at most 255", positions.
abbrev pub position_limit : ℕ
position_limit = 255

abbrev pub one_of : List ℕ → ℕ → Bool
one_of [] c = false
one_of (m ∷ ms) c = eqb c m || one_of ms c

-- "Its marks are `. [ ] { } ? + * \`."
abbrev pub marks : List ℕ
marks = ascii ".[]{}?+*\\"

-- "`\` before a mark, `^` or `-` gives that byte."
abbrev pub may_escape : ℕ → Bool
may_escape c = one_of marks c || one_of (ascii "^-") c

-- ---- elements

-- A single byte of a class is a range of one.
pub record Range : Type 0 where
  pub low : ℕ
  pub high : ℕ

-- "Each element is a kind with its data, and beside it how often it may stand."
pub data Kind : Type 0 where
  byte : ℕ → Kind
  any : Kind
  class : (turned : Bool) → List Range → Kind
  gap : (least most : ℕ) → Kind

pub data Often : Type 0 where
  once optional repeatable both : Often

pub record Element : Type 0 where
  pub kind : Kind
  pub often : Often

-- ---- the bytes that an element admits

-- "With the fold flag set (any number but 0)".
abbrev pub fold_flag : ℕ → Bool
fold_flag flag = not (eqb flag 0)

abbrev pub is_byte : ℕ → Bool
is_byte c = ltb c 256

abbrev pub in_ranges : List Range → ℕ → Bool
in_ranges [] c = false
in_ranges (r ∷ rs) c = (leb r.low c && leb c r.high) || in_ranges rs c

-- "The fold is a formula: bytes 65 to 90 and 97 to 122 move by 32, every other byte is itself."
abbrev pub other_case : ℕ → ℕ
other_case c = cond (leb 65 c && leb c 90) (c + 32) (cond (leb 97 c && leb c 122) (c - 32) c)

-- "each class or byte set is widened by the other case of its ASCII letters ..
abbrev pub widened : (fold : Bool) → (ℕ → Bool) → ℕ → Bool
widened fold s c = s c || (fold && s (other_case c))

-- .. and turned round by `^` only after that."
abbrev pub turned_round : (turned : Bool) → (ℕ → Bool) → ℕ → Bool
turned_round false s c = s c
turned_round true s c = not (s c)

-- "`.` is any of the 256 bytes"; a gap is "of a to b bytes of any kind".
abbrev pub kind_set : (fold : Bool) → Kind → ℕ → Bool
kind_set fold (byte b) = widened fold (λ c. eqb c b)
kind_set fold any = λ c. true
kind_set fold (class turned rs) = turned_round turned (widened fold (in_ranges rs))
kind_set fold (gap a b) = λ c. true

-- ---- the positions that an element makes

-- "`?`, `+` or `*` after an element .. makes it optional, repeatable, or both."
abbrev pub may_miss : Often → Bool
may_miss once = false
may_miss optional = true
may_miss repeatable = false
may_miss both = true

abbrev pub may_repeat : Often → Bool
may_repeat once = false
may_repeat optional = false
may_repeat repeatable = true
may_repeat both = true

-- A set holds bytes alone, numbers below 256.
abbrev pub position : (fold : Bool) → Kind → Often → Position
position fold k o = record { set = λ c. is_byte c && kind_set fold k c; optional = may_miss o; repeats = may_repeat o }

-- "`{a,b}` .. makes b positions, the first b − a optional." "All but the gap make one position."
abbrev pub kind_positions : (fold : Bool) → Kind → Often → List Position
kind_positions fold (byte b) o = position fold (byte b) o ∷ []
kind_positions fold any o = position fold any o ∷ []
kind_positions fold (class t rs) o = position fold (class t rs) o ∷ []
kind_positions fold (gap a b) o = replicate (b - a) (position fold any optional) ++ replicate a (position fold any once)

abbrev pub positions : (fold : Bool) → List Element → List Position
positions fold [] = []
positions fold (e ∷ es) = kind_positions fold e.kind e.often ++ positions fold es

-- how many
abbrev pub size : Kind → ℕ
size (byte b) = 1
size any = 1
size (class t rs) = 1
size (gap a b) = b

-- ---- how an element is spelt, its mark of how often aside

-- The number that refuses it, or its kind and how many bytes spell it.
pub data ReadKind : Type 0 where
  bad : (number : ℕ) → ReadKind
  good : Kind → (bytes : ℕ) → ReadKind

-- "`[..]` is a class of single bytes and ranges `lo-hi`; .. `\` works as outside. An unescaped `-` may stand only between two ends of a range .. `[` and
-- other marks inside, `\` and `]` aside, are plain bytes." One end of a range, or a single byte: its value, and how many bytes spell it.
pub data ReadEnd : Type 0 where
  no_end : ReadEnd
  an_end : (value bytes : ℕ) → ReadEnd

abbrev pub escaped_end : List ℕ → ReadEnd
escaped_end [] = no_end
escaped_end (c ∷ cs) = cond (may_escape c) (an_end c 2) no_end

abbrev pub end_at : List ℕ → ReadEnd
end_at [] = no_end
end_at (c ∷ cs) = cond (eqb c (byte_of "\\")) (escaped_end cs) (cond (one_of (ascii "]-") c) no_end (an_end c 1))

-- What stands next in a class: its `]`, a misfit, or a range and how many bytes spell it.
pub data Item : Type 0 where
  closes misfit : Item
  item : Range → (bytes : ℕ) → Item

abbrev pub range_to : (low bytes : ℕ) → ReadEnd → Item
range_to low n no_end = misfit
range_to low n (an_end high m) = cond (leb low high) (item (record { low = low; high = high }) (n + 1 + m)) misfit

abbrev pub range_from : (low bytes : ℕ) → List ℕ → Item
range_from low n [] = item (record { low = low; high = low }) n
range_from low n (c ∷ cs) = cond (eqb c (byte_of "-")) (range_to low n (end_at cs)) (item (record { low = low; high = low }) n)

abbrev pub item_from : List ℕ → ReadEnd → Item
item_from cs no_end = misfit
item_from cs (an_end low n) = range_from low n (drop n cs)

abbrev pub item_at : List ℕ → Item
item_at [] = misfit
item_at (c ∷ cs) = cond (eqb c (byte_of "]")) closes (item_from (c ∷ cs) (end_at (c ∷ cs)))

-- The items up to the `]`, and how many bytes of the class there are up to and with it; `before` of them stand before these, and the first `skip` of
-- these belong to an item already read.
pub data Items : Type 0 where
  faulty : Items
  items : List Range → (bytes : ℕ) → Items

abbrev pub add_range : Range → Items → Items
add_range r faulty = faulty
add_range r (items rs n) = items (r ∷ rs) n

abbrev pub items_from : (skip before : ℕ) → List ℕ → Items
items_from skip n [] = faulty
items_from (suc k) n (c ∷ cs) = items_from k (suc n) cs
items_from zero n (c ∷ cs) = elim (item_at (c ∷ cs)) [
  | closes ↦ items [] (suc n)
  | misfit ↦ faulty
  | item r k ↦ add_range r (items_from (pred k) (suc n) cs)
]

-- Some number below n is in a set.
abbrev pub some_below : (ℕ → Bool) → (n : ℕ) → Bool
some_below s zero = false
some_below s (suc n) = s n || some_below s n

-- Row 3: "class unclosed, empty, with a reversed range, a bad `\` or misplaced `-`, or left with no byte". After the `[`; "a first `^` turns it round".
abbrev pub class_of : (fold turned : Bool) → Items → ReadKind
class_of fold turned faulty = bad class_fault
class_of fold turned (items [] n) = bad class_fault
class_of fold turned (items (r ∷ rs) n) = cond (some_below (kind_set fold (class turned (r ∷ rs))) 256) (good (class turned (r ∷ rs)) n) (bad class_fault)

abbrev pub class_at : (fold : Bool) → List ℕ → ReadKind
class_at fold [] = bad class_fault
class_at fold (c ∷ cs) = cond (eqb c (byte_of "^")) (class_of fold true (items_from 0 2 cs)) (class_of fold false (items_from 0 1 (c ∷ cs)))

-- "each bound one or two decimal digits": its value, and how many bytes spell it, 0 where no digit stands.
pub record Bound : Type 0 where
  pub value : ℕ
  pub bytes : ℕ

abbrev pub is_decimal : ℕ → Bool
is_decimal c = leb 48 c && leb c 57

abbrev pub bound_at : List ℕ → Bound
bound_at [] = record { value = 0; bytes = 0 }
bound_at (c ∷ []) = cond (is_decimal c) (record { value = c - 48; bytes = 1 }) (record { value = 0; bytes = 0 })
bound_at (c ∷ d ∷ cs) =
    cond (is_decimal c)
    (cond (is_decimal d) (record { value = 10 * (c - 48) + (d - 48); bytes = 2 }) (record { value = c - 48; bytes = 1 }))
    (record { value = 0; bytes = 0 })

abbrev pub starts_with : ℕ → List ℕ → Bool
starts_with m [] = false
starts_with m (c ∷ cs) = eqb c m

-- "`{a,b}` is a gap of a to b bytes of any kind, .. a ≤ b, b ≥ 1." Row 4: "gap not of the given form, a > b, or b = 0". After the `{`.
abbrev pub gap_at : List ℕ → ReadKind
gap_at cs =
    let a = bound_at cs in
    let after_a = drop a.bytes cs in
    let b = bound_at (drop 1 after_a) in
    let after-b = drop (1 + b.bytes) after_a in
    cond
    (leb 1 a.bytes && starts_with (byte_of ",") after_a && leb 1 b.bytes && starts_with (byte_of "}") after-b && leb a.value b.value && leb 1 b.value)
    (good (gap a.value b.value) (a.bytes + b.bytes + 3))
    (bad gap_fault)

-- After the `\`. Row 6: "outside a class: bad or last `\`".
abbrev pub escape_at : List ℕ → ReadKind
escape_at [] = bad byte_fault
escape_at (c ∷ cs) = cond (may_escape c) (good (byte c) 2) (bad byte_fault)

-- Any element. "Any byte but a mark stands for itself." Row 5: "`?`, `+`, `*` first, after a gap, or after another of them"; row 6: "or stray `]` or `}`".
abbrev pub kind_at : (fold : Bool) → List ℕ → ReadKind
kind_at fold [] = bad byte_fault
kind_at fold (c ∷ cs) =
    cond (eqb c (byte_of ".")) (good any 1)
    (cond (eqb c (byte_of "[")) (class_at fold cs)
    (cond (eqb c (byte_of "{")) (gap_at cs)
    (cond (eqb c (byte_of "\\")) (escape_at cs)
    (cond (one_of (ascii "?+*") c) (bad mark_fault)
    (cond (one_of (ascii "]}") c) (bad byte_fault)
    (good (byte c) 1))))))

-- ---- its mark of how often

abbrev pub often_at : List ℕ → Often
often_at [] = once
often_at (c ∷ cs) = cond (eqb c (byte_of "?")) optional (cond (eqb c (byte_of "+")) repeatable (cond (eqb c (byte_of "*")) both once))

-- "after an element other than a gap"
abbrev pub often_after : Kind → List ℕ → Often
often_after (byte b) cs = often_at cs
often_after any cs = often_at cs
often_after (class t rs) cs = often_at cs
often_after (gap a b) cs = once

-- "An element takes one such mark at most."
abbrev pub mark_bytes : Often → ℕ
mark_bytes once = 0
mark_bytes optional = 1
mark_bytes repeatable = 1
mark_bytes both = 1
