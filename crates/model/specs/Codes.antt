-- Note 9, "Smudged plans": codes with their sets, which bytes then fit a position, and row 15 of "Numbered answers". Positions whose sets are those of the bytes
-- that fit are positions too, so that every definition over positions reads them alike. Assumes nothing.
use Rattle.std.specs.Prelude.{Bool, false, not, cond, ◌&&◌, ◌||◌, List, [], ◌∷◌, ℕ, ◌*◌, ◌/◌, ◌%◌, ◌^◌, T, ltb, eqb, length, take, drop, get_or}
use Rattle.model.specs.RefusalNumbers.{codes_fault}
use Rattle.model.specs.Occurrence.{Position}
use Rattle.model.specs.RuleText.{one_of, is_byte, some_below, positions}
use Rattle.model.specs.NumberedAnswers.{Parsed, refused, accepted, parse, rule_positions}

-- ---- codes

-- "A caller may name up to 8 such codes".
abbrev pub codes_most : ℕ
codes_most = 8

-- "each a byte with a set of bytes, sent as 32 bytes"
abbrev pub set_bytes : ℕ
set_bytes = 32

pub record Code : Type 0 where
  pub byte : ℕ
  pub set : List ℕ

-- "where bit x mod 8, the lowest being 0, of byte x / 8 stands for x"
abbrev pub in_set : (set : List ℕ) → ℕ → Bool
in_set set x = is_byte x && eqb (get_or set (x / 8) 0 / 2 ^ (x % 8) % 2) 1

-- The codes, and the sets, 32 bytes for each code.
abbrev pub codes_of : (codes sets : List ℕ) → List Code
codes_of [] sets = []
codes_of (c ∷ cs) sets = record { byte = c; set = take set_bytes sets } ∷ codes_of cs (drop set_bytes sets)

-- ---- fit

-- Two sets "share a byte".
abbrev pub share : (s t : ℕ → Bool) → Bool
share s t = some_below (λ x. s x && t x) 256

-- "A code byte in the decoded plan then fits a position when its set and the position's share a byte, each place by itself, and a code in a rule's own set counts
-- for nothing": a byte that is no code fits when it is in the set.
abbrev pub fits : List Code → (ℕ → Bool) → ℕ → Bool
fits [] s c = s c
fits (k ∷ ks) s c = cond (eqb c k.byte) (share (in_set k.set) s) (fits ks s c)

abbrev pub fitting_one : List Code → Position → Position
fitting_one ks p = record { set = fits ks p.set; optional = p.optional; repeats = p.repeats }

-- The positions, read so.
abbrev pub fitting : List Code → List Position → List Position
fitting ks [] = []
fitting ks (p ∷ ps) = fitting_one ks p ∷ fitting ks ps

-- "Ends and starts follow that reading in scan, search and set": the positions of an accepted rule with accepted codes.
abbrev pub smudged : (fold : Bool) (rule codes sets : List ℕ) → List Position
smudged fold rule codes sets = fitting (codes_of codes sets) (rule_positions fold rule)

-- The same said by plain readings: a code byte is read as some byte of its set, any other byte as itself, "each place by itself" (`fitting-is-reading` of
-- proofs/: an occurrence by fit is one of some reading).
abbrev pub reads : List Code → (c x : ℕ) → Bool
reads [] c x = eqb x c
reads (k ∷ ks) c x = cond (eqb c k.byte) (in_set k.set x) (reads ks c x)

pub data Reading (ks : List Code) : List ℕ → List ℕ → Type 0 where
  none : Reading ks [] []
  also : {c x : ℕ} {cs xs : List ℕ} → T (reads ks c x) → Reading ks cs xs → Reading ks (c ∷ cs) (x ∷ xs)

-- ---- row 15

-- "a code is named twice"
abbrev pub named_twice : List ℕ → Bool
named_twice [] = false
named_twice (c ∷ cs) = one_of cs c || named_twice cs

-- "a set is empty or holds a code"
abbrev pub set_wrong : (codes set : List ℕ) → Bool
set_wrong codes set = not (some_below (in_set set) 256) || share (in_set set) (one_of codes)

abbrev pub sets_wrong : (codes : List ℕ) → List Code → Bool
sets_wrong codes [] = false
sets_wrong codes (k ∷ ks) = set_wrong codes k.set || sets_wrong codes ks

-- "15 when there are more than 8 codes, the sets are not 32 bytes for each code, a code is named twice, a set is empty or holds a code": what refuses codes
-- under every rule.
abbrev pub codes_wrong : (codes sets : List ℕ) → Bool
codes_wrong codes sets = ((ltb codes_most (length codes) || not (eqb (length sets) (set_bytes * length codes))) || named_twice codes) || sets_wrong codes (codes_of codes sets)

-- ".. or a position holds codes alone": no byte of its set is another.
abbrev pub codes_alone : (codes : List ℕ) → List Position → Bool
codes_alone codes [] = false
codes_alone codes (p ∷ ps) = not (share p.set (λ x. not (one_of codes x))) || codes_alone codes ps

abbrev pub codes_refused : (codes sets : List ℕ) → List Position → Bool
codes_refused codes sets ps = codes_wrong codes sets || codes_alone codes ps

-- "checked next after the rule": what a call answers that takes a rule and codes, place 0.
abbrev pub or_codes : (fold : Bool) (codes sets : List ℕ) → Parsed → Parsed
or_codes fold codes sets (refused n p) = refused n p
or_codes fold codes sets (accepted es) = cond (codes_refused codes sets (positions fold es)) (refused codes_fault 0) (accepted es)

abbrev pub parse_with : (fold : Bool) (rule codes sets : List ℕ) → Parsed
parse_with fold rule codes sets = or_codes fold codes sets (parse fold rule)
