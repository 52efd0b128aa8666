-- What the reader of one reference finds, in the model's terms. Assumes nothing.
use Rattle.std.specs.Prelude.{◌≡◌, Bool, true, false, cond, ◌&&◌, List, ℕ, ◌+◌, ◌≤◌, ◌<◌, leb, ltb, length, drop, get_or}
use Rattle.model.specs.Ascii.{byte_of}
use Rattle.model.specs.Occurrence.{all}
use Rattle.model.specs.RuleText.{is_decimal}
use Rattle.model.specs.References.{form_limit, is_hexadecimal, digit_value, Found, none, found, number_from, begins_with, within, legal_by, reference_at, utf8, shorter_of, lacking, can_grow}
use Rattle.reference_reader.specs.declared.Reference.{Reference}
use Rattle.reference_reader.specs.declared.Reference.TheVariants.{Decoded, Literal, Incomplete}
use Rattle.reference_reader.specs.declared.NameMatch.{NameMatch}
use Rattle.reference_reader.specs.declared.NameMatch.TheVariants.{Whole, Prefix, Different}

-- The first number over all code points: the last Char is 1114111.
abbrev pub code_limit : ℕ
code_limit = 1114112

-- The answer from what is found and whether the bytes can grow.
abbrev pub read_as : Found → Bool → Reference
read_as none true = Incomplete
read_as none false = Literal
read_as (found n k) grows = Decoded n k

-- What stands at the front of some bytes.
unfoldable pub reading : (limit : ℕ) → List ℕ → Reference
reading limit s = read_as (reference_at limit s) (can_grow limit s)

-- What a caller wants to know of a reference: it takes at least one byte and no more than there are, gives no more bytes than it takes, and
-- its number is a code point.
abbrev pub Moves : List ℕ → Reference → Type 0
Moves s (Decoded n k) = (1 ≤ k) × (k ≤ length s) × (length (utf8 n) ≤ k) × (n < code_limit)
Moves s Literal = Unit {0}
Moves s Incomplete = Unit {0}

-- `read_reference`
pub record ReadIs (s : List ℕ) (r : Reference) : Type 0 where
  pub is : r ≡ reading form_limit s
  pub moves : Moves s r

-- ---- its parts

-- where `read_name` reads: a `&`, and no `#` after it
pub record NamePlace (s : List ℕ) : Type 0 where
  pub amp : get_or s 0 0 ≡ byte_of "&"
  pub no_mark : get_or s 1 0 ≡ byte_of "#" → ⊥

-- where `read_number` reads: after a mark of `from` bytes, in no more bytes than a form has
pub record NumberPlace (s : List ℕ) (from : ℕ) : Type 0 where
  pub mark : from ≤ length s
  pub short : length s ≤ form_limit

-- `match_name`: what each of its answers means
abbrev pub Matches : (name s : List ℕ) → NameMatch → Type 0
Matches name s Whole = begins_with name s ≡ true
Matches name s Prefix = shorter_of s name ≡ true
Matches name s Different = (begins_with name s ≡ false) × (shorter_of s name ≡ false)

pub record MatchIs (name s : List ℕ) (r : NameMatch) : Type 0 where
  pub is : Matches name s r

abbrev pub ok_of : (hex : Bool) → ℕ → Bool
ok_of true c = is_hexadecimal c
ok_of false c = is_decimal c

abbrev pub base_of : (hex : Bool) → ℕ
base_of true = 16
base_of false = 10

-- `digit`: below 16 for a digit
pub record DigitIs (hex : Bool) (c r : ℕ) : Type 0 where
  pub small : r ≤ 16
  pub says : ok_of hex c ≡ ltb r 16
  pub value : r < 16 → r ≡ digit_value c

-- A number, or the limit for any number from there on.
unfoldable pub capped : ℕ → ℕ
capped n = cond (ltb n code_limit) n code_limit

pub record Saturated (n r : ℕ) : Type 0 where
  pub is : r ≡ capped n
  pub small : r ≤ code_limit

-- `read_number`: digits from `from` on
unfoldable pub number_reading : (hex : Bool) (from : ℕ) → List ℕ → Reference
number_reading hex from s =
    read_as (legal_by (within form_limit (number_from (ok_of hex) (base_of hex) 0 from 0 (drop from s))))
    (all (ok_of hex) (drop from s) && leb (length s + lacking (drop from s)) form_limit)
