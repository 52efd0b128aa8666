-- Note 7, "Raw places in reports": the raw count of each decoded byte, a second reading of the tokens, and the pairs that a scan reports. Assumes nothing.
use Rattle.std.specs.Prelude.{◌≡◌, List, [], ◌∷◌, ◌++◌, ℕ, pred, ◌+◌, ◌-◌, ◌≤◌, ◌<◌, length, take, drop, get_or, replicate}
use Rattle.model.specs.References.{Token, tokens_from, decode}

-- "the raw count just past the byte or the whole reference that gave it. All bytes of one reference share that raw count.": of each byte that tokens give, where
-- `raw` raw bytes stand before them.
abbrev pub places_by : (raw : ℕ) → List Token → List ℕ
places_by raw [] = []
places_by raw (t ∷ ts) = replicate (length t.gives) (raw + t.takes) ++ places_by (raw + t.takes) ts

-- of each byte of what a plan decodes to
abbrev pub raw_places : (limit : ℕ) → List ℕ → List ℕ
raw_places limit cs = places_by 0 (tokens_from limit 0 cs)

-- "Each reported end .. is a pair ..: the decoded end, and the raw count".
pub record Entry : Type 0 where
  pub end : ℕ
  pub raw : ℕ

-- The raw count of the end e, out of those of the bytes after the first `at` of a text: an end counts the bytes up to and including the last, which is byte e - 1.
abbrev pub place_in : (at : ℕ) (places : List ℕ) → ℕ → ℕ
place_in at places e = get_or places (pred e - at) 0

-- "in order of decoded end": rising ends as pairs
abbrev pub placed : (place : ℕ → ℕ) → List ℕ → List Entry
placed place [] = []
placed place (e ∷ es) = record { end = e; raw = place e } ∷ placed place es

-- The same of ends in the text that tokens give, where `at` decoded bytes and `raw` raw ones stand before it.
abbrev pub entries_by : (at raw : ℕ) → List Token → List ℕ → List Entry
entries_by at raw ts es = placed (place_in at (places_by raw ts)) es

-- The decoded ends of pairs, and their raw counts.
abbrev pub ends_of : List Entry → List ℕ
ends_of [] = []
ends_of (e ∷ es) = e.end ∷ ends_of es

abbrev pub raws_of : List Entry → List ℕ
raws_of [] = []
raws_of (e ∷ es) = e.raw ∷ raws_of es

-- "Entries of several numbers lie flat in their list": a pair is two numbers, the end and then the raw count; and a list read as pairs.
abbrev pub pair_numbers : ℕ
pair_numbers = 2

abbrev pub flat : List Entry → List ℕ
flat [] = []
flat (e ∷ es) = e.end ∷ e.raw ∷ flat es

abbrev pub pairs_of : List ℕ → List Entry
pairs_of [] = []
pairs_of (e ∷ []) = []
pairs_of (e ∷ r ∷ rest) = record { end = e; raw = r } ∷ pairs_of rest

-- Numbers that rise weakly, from `low` to at most `high`.
abbrev pub WeaklyRising : (low high : ℕ) → List ℕ → Type 0
WeaklyRising low high [] = low ≤ high
WeaklyRising low high (x ∷ xs) = (low ≤ x) × WeaklyRising x high xs

-- A raw place at which the decoded plan is cut too: what stands before it decodes to the decoded plan's front, and what follows it to the rest. The front has the end e,
-- and of what follows that at most the other bytes of one reference.
pub record CutAt (limit : ℕ) (plan : List ℕ) (e raw : ℕ) : Type 0 where
  pub size : ℕ
  pub front : decode limit (take raw plan) ≡ take size (decode limit plan)
  pub rest : decode limit (drop raw plan) ≡ drop size (decode limit plan)
  pub has_end : e ≤ size
  pub few : size < e + 4
