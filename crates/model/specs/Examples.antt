-- Sentences and edges of document 01 as closed cases of the definitions, by computing: rules that are refused or accepted, references, held tails, the
-- lister's example, a plan cut inside `&amp;`, moves of windows, what is shown, codes, stored rules rewritten, whole names, LIKE patterns and turns. (M1 to M12 are in `MarkedTable`,
-- rules and patterns as long as may be in the crate `rule_spelling`.) Assumes nothing.
use Rattle.std.specs.Prelude.{◌≡◌, refl, Bool, true, false, not, ◌&&◌, List, [], ◌∷◌, ◌++◌, map, ℕ, zero, suc, ◌+◌, ◌*◌, T, eqb, length, replicate}
use Rattle.model.specs.Ascii.{ascii}
use Rattle.model.specs.Occurrence.{Position, one_if, shortest, is_start, ends, starts}
use Rattle.model.specs.RuleText.{fold_flag, one_of, other_case, kind_set, class, byte, gap, once, optional, repeatable}
use Rattle.model.specs.NumberedAnswers.{accepted, parse, rule_positions, whole_refusal, overwrite, TextAnswer, turns_down, writes}
use Rattle.model.specs.Rewriter.{rewrite}
use Rattle.model.specs.WholeNames.{CoverAnswer, turns_down, says, covered}
use Rattle.model.specs.Like.{LikePattern, misspelt, pattern, like, is_like, imported}
use Rattle.model.specs.Codes.{set_bytes, in_set, smudged, parse_with}
use Rattle.model.specs.References.{form_limit, utf8, byte_tokens, tokens_from, decode, held_tail, out_tokens, let_out}
use Rattle.model.specs.RawPlaces.{raw_places, ends_of, raws_of, pairs_of}
use Rattle.model.specs.PlainScan.{Call, feed, finish, Answer, refused, reported, needed, refusal_for, plain_scan, reported_entries}
use Rattle.model.specs.WindowSearch.{shift, windows, shown}
use Rattle.model.specs.Turns.{Dispatcher, opened, OfferAnswer, turns_down, takes, offer, nobody, serves, turn}
use Rattle.model.specs.MarkedTable.{same, is_accepted, is_refused}

-- ---- rules

pub data Rule : Type 0 where
  refuses : (rule : List ℕ) (number place : ℕ) → Rule
  has : (rule : List ℕ) (positions shortest : ℕ) → Rule

abbrev pub rule_holds : (fold : Bool) → Rule → Bool
rule_holds fold (refuses rule n p) = is_refused (parse fold rule) n p
rule_holds fold (has rule n m) = eqb n (length (rule_positions fold rule)) && eqb m (shortest (rule_positions fold rule))

abbrev pub rules_hold : (fold : Bool) → List Rule → Bool
rules_hold fold [] = true
rules_hold fold (r ∷ rs) = rule_holds fold r && rules_hold fold rs

rules : T (rules_hold false (
    refuses [] 1 0
    ∷ has (replicate 255 97) 255 255
    ∷ refuses (replicate 256 97) 7 255
    ∷ refuses (replicate 1024 97) 2 1023
    ∷ has (ascii "a{1,62}b") 64 3
    ∷ has (ascii "a{01,02}b") 4 3
    ∷ has (ascii "{64,64}") 64 64
    ∷ has (ascii "a{1,99}{1,99}{1,55}b") 255 5
    ∷ refuses (ascii "a{1,99}{1,99}{1,55}bc") 7 20
    ∷ refuses (ascii "{1,63}") 16 0  -- "M7, `{1,63}` and `{1,63}a` become refused cases"
    ∷ refuses (ascii "{1,63}a") 16 0
    ∷ refuses (ascii "a{1,63}") 16 1
    ∷ refuses (ascii "{1,99}{1,99}{1,57}") 16 0  -- the first such gap
    ∷ refuses (ascii "{2,2}{0,3}") 16 5
    ∷ refuses (ascii "a[{1,2}]\\{{1,2}") 16 10
    ∷ has (ascii "{2,2}{0,3}a{02,2}") 8 5  -- equal bounds are no fault
    ∷ has (ascii "\\{1,2\\}") 5 5
    ∷ refuses (ascii "{0,1}") 8 5  -- "checked after 8"
    ∷ refuses (ascii "{1,2}a{2,1}") 4 6
    ∷ refuses (ascii "{1,99}{1,99}{1,57}a") 7 18
    ∷ refuses (ascii "{1,99}{1,99}{1,58}") 7 12
    ∷ refuses (ascii "{1,99}?") 5 6
    ∷ refuses (ascii "{1,63}?") 5 6
    ∷ refuses (ascii "{1,63}a??") 5 8
    ∷ refuses (ascii "{1,63}[b-a]") 3 6
    ∷ refuses (ascii "{99,98}") 4 0
    ∷ refuses (ascii "{0,0}") 4 0
    ∷ refuses (ascii "a{001,2}") 4 1
    ∷ refuses (ascii "{1}") 4 0
    ∷ refuses (ascii "{1,}") 4 0
    ∷ refuses (ascii "[]") 3 0
    ∷ refuses (ascii "[^]") 3 0
    ∷ refuses (ascii "[]a]") 3 0
    ∷ refuses (ascii "[^-a]") 3 0
    ∷ refuses (ascii "[a-b-c]") 3 0
    ∷ refuses (ascii "x[a-]") 3 1
    ∷ refuses (ascii "[--a]") 3 0
    ∷ refuses (ascii "[b-a]") 3 0
    ∷ refuses (ascii "[xb-a]") 3 0  -- reversed, though a byte is left
    ∷ refuses (ascii "[a\\") 3 0
    ∷ refuses (ascii "[\\a]") 3 0
    ∷ has (ascii "[\\--a]") 1 1
    ∷ has (ascii "[+-\\-]") 1 1
    ∷ has (ascii "[^^]") 1 1
    ∷ has (ascii "[a^[.]") 1 1
    ∷ refuses (ascii "[^" ++ (0 ∷ 45 ∷ 255 ∷ 93 ∷ [])) 3 0
    ∷ refuses (ascii "?a") 5 0
    ∷ refuses (ascii "a??") 5 2
    ∷ refuses (ascii "{1,2}+") 5 5
    ∷ refuses (ascii "ab\\") 6 2
    ∷ refuses (ascii "\\a") 6 0
    ∷ refuses (ascii "ab}") 6 2
    ∷ refuses (ascii "]") 6 0
    ∷ has (ascii "\\.^-,0") 5 5
    ∷ has (ascii "\\.\\[\\]\\{\\}\\?\\+\\*\\\\\\^\\-") 11 11
    ∷ refuses (ascii "\\,") 6 0
    ∷ refuses (ascii "a?.*{0,9}") 8 9
    ∷ has (0 ∷ 10 ∷ []) 2 2
    ∷ []
    ))
rules = tt

-- The fold flag alone can leave a class with no byte: `[^` and all bytes but A, which has a.
abbrev all_but : List ℕ
all_but = ascii "[^" ++ (0 ∷ 45 ∷ 64 ∷ 66 ∷ 45 ∷ 255 ∷ 93 ∷ [])

fold_decides : T (rule_holds false (has all_but 1 1) && rule_holds true (refuses all_but 3 0))
fold_decides = tt

-- "any number but 0"
fold_flags : (fold_flag 0 ≡ false) × (fold_flag 1 ≡ true) × (fold_flag 256 ≡ true) × (fold_flag 2147483648 ≡ true)
fold_flags = (refl, refl, refl, refl)

elements : parse false (ascii "[^a\\]-\\^{]+\\+?{2,3}x") ≡ accepted (
    record { kind = class true (record { low = 97; high = 97 } ∷ record { low = 93; high = 94 } ∷ record { low = 123; high = 123 } ∷ []); often = repeatable }
    ∷ record { kind = byte 43; often = optional }
    ∷ record { kind = gap 2 3; often = once }
    ∷ record { kind = byte 120; often = once }
    ∷ []
    )
elements = refl

-- "Turning a folded `[^a]` round before widening: it then admits `a`."
turned-last : (kind_set true (class true (record { low = 97; high = 97 } ∷ [])) 97 ≡ false) × (kind_set true (class true (record { low = 97; high = 97 } ∷ [])) 65 ≡ false)
turned-last = (refl, refl)

folded : ends_of (reported_entries (plain_scan 256 (ascii "rOw") [] [] (feed (ascii "Row row rov") 84 ∷ finish 62 ∷ []))) ≡ 3 ∷ 7 ∷ []
folded = refl

-- "bytes 65 to 90 and 97 to 122 move by 32, every other byte is itself": at the edges of both alphabets, and bytes that `c ^ 32` or bounds of seven bits
-- would take for letters
other_cases : T (same (map other_case (65 ∷ 90 ∷ 97 ∷ 122 ∷ [])) (97 ∷ 122 ∷ 65 ∷ 90 ∷ []))
other_cases = tt

own_cases : T (same (map other_case (0 ∷ 32 ∷ 64 ∷ 91 ∷ 96 ∷ 123 ∷ 193 ∷ 225 ∷ 255 ∷ [])) (0 ∷ 32 ∷ 64 ∷ 91 ∷ 96 ∷ 123 ∷ 193 ∷ 225 ∷ 255 ∷ []))
own_cases = tt

-- "`*` .. both"
starred : ends_of (reported_entries (plain_scan 0 (ascii "ab*c") [] [] (feed (ascii "ac abbc") 76 ∷ finish 62 ∷ []))) ≡ 2 ∷ 7 ∷ []
starred = refl

-- ---- references

data Raw : Type 0 where
  decodes : (raw text : List ℕ) → Raw
  stays : (raw : List ℕ) → Raw
  holds : (raw tail : List ℕ) → Raw
  lets_out : (raw text : List ℕ) → Raw

abbrev zeros : ℕ → List ℕ
zeros n = replicate n 48

-- "bytes EF BF BD in hexadecimal", for each of n impossible characters
abbrev marks : ℕ → List ℕ
marks zero = []
marks (suc n) = (239 ∷ 191 ∷ 189 ∷ []) ++ marks n

abbrev raw_holds : List Raw → Bool
raw_holds [] = true
raw_holds (decodes raw text ∷ rs) = same text (decode form_limit raw) && raw_holds rs
raw_holds (stays raw ∷ rs) = same raw (decode form_limit raw) && raw_holds rs
raw_holds (holds raw tail ∷ rs) = same tail (held_tail form_limit raw) && raw_holds rs
raw_holds (lets_out raw text ∷ rs) = same text (let_out form_limit raw) && raw_holds rs

references : T (raw_holds (
    decodes (ascii "&lt;&gt;&amp;&apos;&quot;") (ascii "<>&'\"")
    ∷ decodes (ascii "&#38;#60;") (ascii "&#60;")
    ∷ decodes (ascii "&#x10FFFF;") (244 ∷ 143 ∷ 191 ∷ 191 ∷ [])
    ∷ decodes (ascii "&#x110000;") (marks 1)
    ∷ decodes (ascii "&#65536;&#65535;") ((240 ∷ 144 ∷ 128 ∷ 128 ∷ []) ++ marks 1)
    ∷ decodes (ascii "&#xFf;&#xaA;") (195 ∷ 191 ∷ 194 ∷ 170 ∷ [])
    ∷ stays (ascii "&#xG;&#xg;&#x@;&#x`;&#x:;&#x/;&#:;&#/;")
    ∷ decodes (ascii "&#xD7FF;") (237 ∷ 159 ∷ 191 ∷ [])
    ∷ decodes (ascii "&#xd800;&#xDFFF;") (marks 2)
    ∷ decodes (ascii "&#xE000;&#xFFFD;") ((238 ∷ 128 ∷ 128 ∷ []) ++ marks 1)  -- U+FFFD itself is a Char
    ∷ decodes (ascii "&#xFFFE;&#xFFFF;") (marks 2)
    ∷ decodes (ascii "&#9;&#10;&#13;&#32;") (9 ∷ 10 ∷ 13 ∷ 32 ∷ [])
    ∷ decodes (ascii "&#0;&#x0;&#8;&#11;&#12;&#14;&#31;") (marks 7)
    ∷ decodes (ascii "&#128;&#159;") (194 ∷ 128 ∷ 194 ∷ 159 ∷ [])  -- Chars, and not what Windows-1252 has there
    ∷ stays (ascii "&#X26;&AMP;&#;&#x;&nbsp;&null;&#-1;")  -- no forms: "Misspelled names stay too."
    ∷ decodes (ascii "&#0000000038;&#x00000026;&#0000065;") (ascii "&&A")  -- "leading zeros included"
    ∷ decodes (ascii "&#" ++ zeros 26 ++ ascii "38;" ++ ascii "&#x" ++ zeros 25 ++ ascii "26;") (ascii "&&")  -- 31 bytes each
    ∷ decodes (ascii "&#" ++ zeros 27 ++ ascii "38;" ++ ascii "&#x" ++ zeros 26 ++ ascii "26;") (ascii "&&")  -- 32 bytes each
    ∷ stays (ascii "&#" ++ zeros 28 ++ ascii "38;" ++ ascii "&#x" ++ zeros 27 ++ ascii "26;")  -- 33 bytes each
    ∷ decodes (ascii "&#x" ++ zeros 22 ++ ascii "10FFFF;") (244 ∷ 143 ∷ 191 ∷ 191 ∷ [])
    ∷ decodes (ascii "&#" ++ zeros 29 ++ ascii ";&#x" ++ zeros 28 ++ ascii ";") (marks 2)  -- zeros alone: 0 is no Char
    ∷ stays (ascii "&#" ++ zeros 30 ++ ascii ";&#x" ++ zeros 29 ++ ascii ";")  -- 33 bytes each: no forms
    ∷ decodes (ascii "&#0004294967334;&#x000100000026;") (marks 2)  -- 2 ^ 32 + 38: the number is that of all digits
    ∷ decodes (ascii "&#18446744073709551654;&#x10000000000000026;") (marks 2)  -- 2 ^ 64 + 38
    ∷ decodes (ascii "&#79228162514264337593543950374;&#x0001000000000000000000000026;") (marks 2)  -- 2 ^ 96 + 38, 32 bytes each
    ∷ decodes (ascii "&#" ++ replicate 29 57 ++ ascii ";&#x" ++ replicate 28 70 ++ ascii ";") (marks 2)  -- the greatest numbers of 32 bytes
    ∷ stays (ascii "&00amp;&0amp;&#0x26;&#x0x26;")  -- zeros pad a number alone
    ∷ decodes (ascii "&&amp;&am&amp;&") (ascii "&&&am&&")
    ∷ decodes
    (replicate 31 97 ++ ascii "&amp;" ++ replicate 32 98 ++ ascii "&#xE9;" ++ replicate 33 99 ++ ascii "&lt;")
    (replicate 31 97 ++ ascii "&" ++ replicate 32 98 ++ (195 ∷ 169 ∷ []) ++ replicate 33 99 ++ ascii "<")
    ∷ holds (ascii "a&am") (ascii "&am")
    ∷ holds (ascii "&#xD800") (ascii "&#xD800")
    ∷ holds (ascii "a&#" ++ replicate 29 57) (ascii "&#" ++ replicate 29 57)  -- 31 bytes, by spelling alone
    ∷ holds (ascii "&#" ++ zeros 30) []  -- 32 bytes: no room for the `;`
    ∷ holds (ascii "a&#x" ++ zeros 28) (ascii "&#x" ++ zeros 28)
    ∷ holds (ascii "&#x" ++ zeros 29) []
    ∷ holds (ascii "&#" ++ zeros 29 ++ ascii "&") (ascii "&")
    ∷ holds (ascii "&&") (ascii "&")
    ∷ holds (ascii "&amp;") []
    ∷ holds (ascii "&ax") []
    ∷ lets_out (ascii "a&lt;&am") (ascii "a<")
    ∷ lets_out (ascii "&am" ++ ascii "p;b") (ascii "&b")  -- `&am` was held: a reference is completed
    ∷ lets_out (ascii "&am" ++ ascii "b&") (ascii "&amb")  -- it goes out as it came
    ∷ lets_out (ascii "&#" ++ zeros 27 ++ ascii "38" ++ ascii ";") (ascii "&")  -- 31 were held
    ∷ lets_out (ascii "&#" ++ zeros 27 ++ ascii "38" ++ ascii "0") (ascii "&#" ++ zeros 27 ++ ascii "380")
    ∷ lets_out (ascii "&#" ++ zeros 27 ++ ascii "38" ++ ascii "&") (ascii "&#" ++ zeros 27 ++ ascii "38")
    ∷ []
    ))
unfolding utf8
references = tt

-- "a legal reference there gives its bytes and reading goes on after its `;`; any other byte is kept": what each token takes and gives. The tail that is
-- held back has none yet.
tokens : tokens_from form_limit 0 (ascii "a&amp;b")
    ≡ record { takes = 1; gives = ascii "a" } ∷ record { takes = 5; gives = ascii "&" } ∷ record { takes = 1; gives = ascii "b" } ∷ []
unfolding utf8
tokens = refl

tokens_out : out_tokens form_limit (ascii "a&am") ≡ byte_tokens (ascii "a")
tokens_out = refl

-- ---- the lister's example

abbrev rule : List ℕ
rule = ascii "Row A&B [0-9]+"

abbrev row : List Position
row = rule_positions false rule

abbrev plan : List ℕ
plan = decode form_limit (ascii "Row A&amp;B 12;")

lister : (length row ≡ 9) × (shortest row ≡ 9) × (ends row plan ≡ 9 ∷ 10 ∷ []) × (starts row plan ≡ 0 ∷ []) × (length (windows row plan) ≡ 1)
unfolding utf8
lister = (refl, refl, refl, refl, refl)

-- "Forgetting held bytes at a cut inside `&amp;`": the plan in two pieces, cut there, with a feed that is refused for its short list between them, an
-- empty piece, and calls after the finish.
cut_plan : plain_scan 0 rule [] [] (feed (ascii "Row A&a") 76 ∷ feed (ascii "x") 63 ∷ feed [] 62 ∷ feed (ascii "mp;B 12;") 78 ∷ finish 61 ∷ finish 62 ∷ feed [] 62 ∷ finish 62 ∷ [])
    ≡ reported [] ∷ refused 9 ∷ reported [] ∷ reported (pairs_of (9 ∷ 13 ∷ 10 ∷ 14 ∷ [])) ∷ refused 9 ∷ reported [] ∷ refused 12 ∷ refused 12 ∷ []
unfolding utf8
cut_plan = refl

-- A feed of one byte that reports 32 ends, and a finish that lets 31 bytes through, with lists exactly long enough. "A held tail that is let through counts byte by byte."
abbrev most : List ℕ
most = ascii "&#" ++ zeros 29

abbrev rising_from : (from n : ℕ) → List ℕ
rising_from from zero = []
rising_from from (suc n) = from ∷ from ∷ rising_from (suc from) n

ends_of_31_held : plain_scan 0 (ascii ".") [] [] (feed most 124 ∷ feed (ascii "0") 63 ∷ feed (ascii "0") 64 ∷ feed most 124 ∷ finish 62 ∷ [])
    ≡ reported [] ∷ refused 9 ∷ reported (pairs_of (rising_from 1 32)) ∷ reported [] ∷ reported (pairs_of (rising_from 33 31)) ∷ []
ends_of_31_held = refl

-- An impossible character in two pieces: a rule of one byte ends inside the reference. "Two spellings of one plan still agree in decoded ends; their raw counts may differ":
-- the mark itself.
abbrev only_byte : (c : ℕ) → List Call → List Answer
only_byte c = plain_scan 0 (c ∷ []) [] []

abbrev impossible : List Call
impossible = feed (ascii "a&#0") 70 ∷ feed (ascii ";b") 66 ∷ finish 62 ∷ []

abbrev mark-itself : List Call
mark-itself = feed (ascii "a&#65533") 78 ∷ feed (ascii ";b") 66 ∷ finish 62 ∷ []

abbrev after_mark : List Call → List Answer
after_mark = plain_scan 0 (ascii "a.+b") [] []

inside_a_reference : (only_byte 239 impossible ≡ reported [] ∷ reported (pairs_of (2 ∷ 5 ∷ [])) ∷ reported [] ∷ [])
    × (only_byte 191 impossible ≡ reported [] ∷ reported (pairs_of (3 ∷ 5 ∷ [])) ∷ reported [] ∷ [])
    × (only_byte 189 impossible ≡ reported [] ∷ reported (pairs_of (4 ∷ 5 ∷ [])) ∷ reported [] ∷ [])
    × (decode form_limit (ascii "a&#0;b") ≡ decode form_limit (ascii "a&#65533;b"))
    × (ends_of (reported_entries (after_mark impossible)) ≡ ends_of (reported_entries (after_mark mark-itself)))
    × (raws_of (reported_entries (after_mark impossible)) ≡ 6 ∷ [])
    × (raws_of (reported_entries (after_mark mark-itself)) ≡ 10 ∷ [])
unfolding utf8
inside_a_reference = (refl, refl, refl, refl, refl, refl, refl)

-- "the raw count just past the byte or the whole reference that gave it": bytes, references of one, two, three and four bytes, a padded one, `&` that begins none, and tails
-- that are let through.
raw_places_lem : (raw_places form_limit (ascii "a&#xE9;b") ≡ 1 ∷ 7 ∷ 7 ∷ 8 ∷ [])
    × (raw_places form_limit (ascii "&&amp;&am") ≡ 1 ∷ 6 ∷ 7 ∷ 8 ∷ 9 ∷ [])
    × (raw_places form_limit (ascii "&#8364;&#x1F600;") ≡ 7 ∷ 7 ∷ 7 ∷ 16 ∷ 16 ∷ 16 ∷ 16 ∷ [])
    × (raw_places form_limit (ascii "&#" ++ zeros 27 ++ ascii "38;") ≡ 32 ∷ [])
    × (raw_places form_limit (ascii "&amq;") ≡ 1 ∷ 2 ∷ 3 ∷ 4 ∷ 5 ∷ [])
unfolding utf8
raw_places_lem = (refl, refl, refl, refl, refl)

-- ---- scan calls: 12 before 10 before 9, and the edges
refusals : (refusal_for form_limit true 4294967295 1 0 ≡ 12)
    × (refusal_for form_limit false 4294967295 1 0 ≡ 10)
    × (refusal_for form_limit false 4294967295 0 61 ≡ 9)
    × (refusal_for form_limit false 4294967294 1 63 ≡ 9)
    × (refusal_for form_limit false 4294967294 1 64 ≡ 0)
    × (refusal_for form_limit false 0 4294967295 8589934651 ≡ 9)
    × (refusal_for form_limit false 0 4294967295 8589934652 ≡ 0)
refusals = (refl, refl, refl, refl, refl, refl, refl)

-- ---- whole-text calls: 10 before 9, and the edges of both

wholes : (whole_refusal 5 5 ≡ 0) × (whole_refusal 5 4 ≡ 9) × (whole_refusal 0 0 ≡ 0) × (whole_refusal 4294967295 4294967295 ≡ 0) × (whole_refusal 4294967296 0 ≡ 10)
wholes = (refl, refl, refl, refl, refl)

-- ---- "some bytes after the window would give an occurrence starting j bytes past the window's start": the bytes, and j

data Move : Type 0 where
  move : (rule window after : List ℕ) (j : ℕ) → Move

abbrev move_holds : Move → Bool
move_holds (move rule window after j) =
    let ps = rule_positions false rule in
    eqb (length window) (shortest ps) && eqb j (shift ps window) && is_start ps (window ++ after) j

abbrev moves_hold : List Move → Bool
moves_hold [] = true
moves_hold (m ∷ ms) = move_holds m && moves_hold ms

moves : T (moves_hold (
    move (ascii "abc{1,3}de") (ascii "abcabc") (ascii "xde") 3  -- M1, its first window
    ∷ move (ascii "abc{1,3}de") (ascii "abcffd") (ascii "abcxde") 6  -- its second window: none of its bytes serves again
    ∷ move (ascii "abc{1,3}de") (ascii "abcxde") (ascii "abcxde") 6  -- a window that matches
    ∷ move (ascii "abc{1,3}de") (255 ∷ 0 ∷ 255 ∷ 0 ∷ 255 ∷ 97 ∷ []) (ascii "bcxde") 5  -- its last byte alone begins a string
    ∷ move (ascii "a+") (ascii "a") (ascii "a") 1  -- M4
    ∷ move (ascii "a+") (ascii "b") (ascii "a") 1
    ∷ move (ascii "ab?") (ascii "a") (ascii "a") 1  -- M5
    ∷ move (ascii "ab?") (ascii "b") (ascii "ab") 1
    ∷ move (ascii "aa") (ascii "aa") (ascii "a") 1  -- a window that matches, with a shift below m
    ∷ move (ascii "a?b") (ascii "a") (ascii "b") 1  -- M6
    ∷ move (ascii ".?.a") (ascii "xx") (ascii "a") 1  -- a window of M7's, without its gap
    ∷ move (ascii "b*a+b+") (ascii "ab") (ascii "ab") 1  -- repeats at the front and at the back
    ∷ []
    ))
moves = tt

-- ---- what is shown, and a lent list at exit

shows : (shown 0 rule plan 0 ≡ record { from = 0; to = 9 })
    × (shown 0 rule plan 1 ≡ record { from = 11; to = 11 })
    × (shown 0 rule plan 12 ≡ record { from = 11; to = 11 })
    × (shown 0 (ascii "a?") plan 0 ≡ record { from = 11; to = 11 })
unfolding utf8
shows = (refl, refl, refl, refl)

lent : overwrite (7 ∷ 7 ∷ 7 ∷ []) (1 ∷ 2 ∷ []) ≡ 1 ∷ 2 ∷ 7 ∷ []
lent = refl

-- ---- codes

-- 32 bytes for a set: those of its bytes that are given, each in its bit.
abbrev set_from : (i n : ℕ) → List ℕ → List ℕ
set_from i zero xs = []
set_from i (suc n) xs = byte_at i 8 0 xs ∷ set_from (i + 8) n xs
  where
    byte_at : (i n value : ℕ) → List ℕ → ℕ
    byte_at i zero value xs = value
    byte_at i (suc n) value xs = byte_at i n (2 * value + one_if (one_of xs (i + n))) xs

abbrev set_of : List ℕ → List ℕ
set_of xs = set_from 0 set_bytes xs

-- the same set for n codes
abbrev sets_of : (n : ℕ) → List ℕ → List ℕ
sets_of zero xs = []
sets_of (suc n) xs = set_of xs ++ sets_of n xs

-- "bit x mod 8, the lowest being 0, of byte x / 8 stands for x"
set_bits : (set_of (0 ∷ 9 ∷ 255 ∷ []) ≡ 1 ∷ 2 ∷ replicate 29 0 ++ (128 ∷ []))
    × (in_set (1 ∷ 2 ∷ replicate 29 0 ++ (128 ∷ [])) 0 ≡ true) × (in_set (1 ∷ 2 ∷ replicate 29 0 ++ (128 ∷ [])) 9 ≡ true)
    × (in_set (1 ∷ 2 ∷ replicate 29 0 ++ (128 ∷ [])) 255 ≡ true) × (in_set (1 ∷ 2 ∷ replicate 29 0 ++ (128 ∷ [])) 7 ≡ false)
set_bits = (refl, refl, refl, refl, refl)

abbrev question : List ℕ
question = ascii "?"

data Smudge : Type 0 where
  finds : (flag : ℕ) (rule codes sets raw : List ℕ) (ends starts : List ℕ) → Smudge
  refuses : (flag : ℕ) (rule codes sets : List ℕ) (number place : ℕ) → Smudge

abbrev smudges_hold : List Smudge → Bool
smudges_hold [] = true
smudges_hold (finds flag rule codes sets raw e s ∷ rest) =
    let ps = smudged (fold_flag flag) rule codes sets in
    let text = decode form_limit raw in
    is_accepted (parse_with (fold_flag flag) rule codes sets) && same e (ends ps text) && same s (starts ps text)
    && same e (ends_of (reported_entries (plain_scan flag rule codes sets (feed raw (needed form_limit (length raw)) ∷ finish (needed form_limit 0) ∷ [])))) && smudges_hold rest
smudges_hold (refuses flag rule codes sets n p ∷ rest) = is_refused (parse_with (fold_flag flag) rule codes sets) n p && smudges_hold rest

smudges : T (smudges_hold (
    finds 0 (ascii "abc") question (set_of (ascii "b")) (ascii "a?cxac") (3 ∷ []) (0 ∷ [])
    ∷ finds 0 (ascii "ab") question (set_of (ascii "ab")) (ascii "??") (2 ∷ []) (0 ∷ [])  -- each place by itself
    ∷ finds 0 (ascii "[?a]") question (set_of (ascii "b")) (ascii "?a") (2 ∷ []) (1 ∷ [])  -- a code in a rule's own set counts for nothing
    ∷ finds 0 (ascii "[^?]") question (set_of (ascii "b")) (ascii "?") (1 ∷ []) (0 ∷ [])
    ∷ finds 0 (ascii "[^a]") question (set_of (ascii "a")) (ascii "?") [] []
    ∷ finds 0 (ascii "[^a]") question (set_of (ascii "ab")) (ascii "?") (1 ∷ []) (0 ∷ [])
    ∷ finds 1 (ascii "A") question (set_of (ascii "a")) (ascii "?") (1 ∷ []) (0 ∷ [])  -- the rule is folded ..
    ∷ finds 1 (ascii "[^A]") question (set_of (ascii "a")) (ascii "?") [] []
    ∷ finds 0 (ascii "a") question (set_of (ascii "A")) (ascii "?") [] []  -- .. and a set is not
    ∷ finds 1 (ascii "A") (ascii "A") (set_of (ascii "b")) (ascii "Aa") (2 ∷ []) (1 ∷ [])
    ∷ finds 0 (ascii "xb") question (set_of (ascii "b")) (ascii "x&#63;") (2 ∷ []) (0 ∷ [])  -- "in the decoded plan"
    ∷ finds 0 (ascii ".") (0 ∷ 255 ∷ []) (set_of (1 ∷ []) ++ set_of (254 ∷ [])) (0 ∷ 255 ∷ []) (1 ∷ 2 ∷ []) (0 ∷ 1 ∷ [])
    ∷ finds 0 (1 ∷ []) (0 ∷ 255 ∷ []) (set_of (1 ∷ []) ++ set_of (254 ∷ [])) (0 ∷ 255 ∷ []) (1 ∷ []) (0 ∷ [])
    ∷ finds 0 (ascii "a") [] [] (ascii "a") (1 ∷ []) (0 ∷ [])
    ∷ refuses 0 (ascii "a") [] (0 ∷ []) 15 0  -- the sets are not 32 bytes for each code
    ∷ refuses 0 (ascii "a") question (replicate 31 1) 15 0
    ∷ refuses 0 (ascii "a") question (replicate 33 1) 15 0
    ∷ refuses 0 (ascii "z") (ascii "abcdefghi") (sets_of 9 (ascii "x")) 15 0  -- more than 8 codes
    ∷ finds 0 (ascii "x") (ascii "abcdefgh") (sets_of 8 (ascii "x")) (ascii "hi") (1 ∷ []) (0 ∷ [])
    ∷ refuses 0 (ascii "a") (ascii "??") (set_of (ascii "b") ++ set_of (ascii "c")) 15 0  -- named twice
    ∷ refuses 0 (ascii "a") question (replicate 32 0) 15 0  -- an empty set
    ∷ refuses 0 (ascii "a") question (set_of (ascii "b?")) 15 0  -- a set that holds a code
    ∷ refuses 0 (ascii "a") (ascii "?!") (set_of (ascii "b!") ++ set_of (ascii "c")) 15 0
    ∷ refuses 0 (ascii "a[b!]") (ascii "!b") (sets_of 2 (ascii "x")) 15 0  -- a position holds codes alone ..
    ∷ refuses 0 (ascii "ab?") (ascii "b") (set_of (ascii "x")) 15 0  -- .. an optional one too
    ∷ refuses 0 (ascii "A") (ascii "A") (set_of (ascii "b")) 15 0  -- judged after fold: with it `a` is left
    ∷ refuses 0 (ascii "a?") (ascii "??") [] 8 2  -- "checked next after the rule"
    ∷ refuses 0 (ascii "a{1,2}") (ascii "??") [] 16 1  -- 16 "before 15"
    ∷ []
    ))
unfolding utf8
smudges = tt

-- "shifts .. read fit in this way"
smudged-windows : windows (smudged false (ascii "abc") question (set_of (ascii "abc"))) (ascii "a??abc") ≡ 0 ∷ 1 ∷ 3 ∷ []
smudged-windows = refl

-- ---- stored rules, rewritten

pub data Stored : Type 0 where
  becomes : (rule text : List ℕ) → Stored
  turned : (fold : Bool) (rule : List ℕ) (lent number place : ℕ) → Stored

abbrev pub writes_so : TextAnswer → List ℕ → Bool
writes_so (turns_down n p) text = false
writes_so (writes t) text = same t text

abbrev pub turns_so : TextAnswer → (number place : ℕ) → Bool
turns_so (turns_down n p) number place = eqb n number && eqb p place
turns_so (writes t) number place = false

-- What is written is a new rule, and is rewritten to itself.
abbrev pub stored_hold : List Stored → Bool
stored_hold [] = true
stored_hold (becomes rule text ∷ rest) = writes_so (rewrite false rule 1023) text && is_accepted (parse false text) && writes_so (rewrite false text 1023) text && stored_hold rest
stored_hold (turned fold rule lent n p ∷ rest) = turns_so (rewrite fold rule lent) n p && stored_hold rest

stored : T (stored_hold (
    becomes (ascii "{0,2}{1,3}") (ascii ".")
    ∷ becomes (ascii "{0,2}{0,1}a{0,3}{0,2}") (ascii "a")
    ∷ becomes (ascii "{1,2}{0,3}a") (ascii ".{0,3}a")  -- dots bare no gap
    ∷ becomes (ascii "{1,2}{0,3}") (ascii ".")
    ∷ becomes (ascii "{3,5}") (ascii "...")
    ∷ becomes (ascii "{1,2}a") (ascii ".a")  -- M7's rule
    ∷ becomes (ascii "{1,2}a{2,4}") (ascii ".a..")
    ∷ becomes (ascii "{0,1}{2,2}a") (ascii "{2,2}a")  -- a bared gap of equal bounds stays
    ∷ becomes (ascii "{2,2}{0,3}a") (ascii "{2,2}{0,3}a")
    ∷ becomes (ascii "{0,1}{01,02}{1,1}{3,4}") (ascii ".{1,1}...")
    ∷ becomes (ascii "a{01,02}b{00,09}") (ascii "a{01,02}b")  -- inside, spellings stay
    ∷ becomes (ascii "a\\{1,2\\}") (ascii "a\\{1,2\\}")
    ∷ becomes (ascii "[{1,2}]+") (ascii "[{1,2}]+")
    ∷ turned false (ascii "a??") 1022 9 0
    ∷ turned false (ascii "a??") 1023 5 2
    ∷ turned false (ascii "{0,1}") 1023 8 5
    ∷ turned false [] 1023 1 0
    ∷ turned true (all_but ++ ascii "{1,2}") 1023 3 0  -- "with their fold flag"
    ∷ becomes (all_but ++ ascii "{1,2}") (all_but ++ ascii ".")
    ∷ []
    ))
stored = tt

-- ---- whole names

names : (covered 0 (ascii "ab?") (ascii "a") ≡ says true)
    × (covered 0 (ascii "ab?") (ascii "abx") ≡ says false)  -- "to last"
    × (covered 0 (ascii "b") (ascii "ab") ≡ says false)  -- "from first byte"
    × (covered 0 (ascii "ab") (ascii "AB") ≡ says false)
    × (covered 1 (ascii "ab") (ascii "AB") ≡ says true)
    × (covered 0 (ascii "a.*b") (ascii "abab") ≡ says true)
    × (covered 0 (ascii "ab?") [] ≡ says false)
    × (covered 0 (ascii "a&b") (ascii "a&amp;b") ≡ says false)  -- "undecoded"
    × (covered 0 (ascii "a?") (ascii "a") ≡ turns_down 8 2)
    × (covered 0 (ascii "a{1,2}") (ascii "ab") ≡ turns_down 16 1)
names = (refl, refl, refl, refl, refl, refl, refl, refl, refl, refl)

-- ---- LIKE patterns

pub data Pattern : Type 0 where
  imports : (pattern text : List ℕ) → Pattern
  turned_down : (pattern : List ℕ) (lent number place : ℕ) → Pattern
  likes : (pattern name : List ℕ) → Pattern
  dislikes : (pattern name : List ℕ) → Pattern

abbrev pub liked_by : LikePattern → List ℕ → Bool
liked_by (misspelt p) name = false
liked_by (pattern is) name = is_like is name

abbrev pub says_so : CoverAnswer → Bool
says_so (turns_down n p) = false
says_so (says b) = b

abbrev pub covers_so : TextAnswer → List ℕ → Bool
covers_so (turns_down n p) name = false
covers_so (writes t) name = says_so (covered 0 t name)

-- Whether LIKE accepts a name, and whether the imported rule covers it.
abbrev pub patterns_hold : List Pattern → Bool
patterns_hold [] = true
patterns_hold (imports cs text ∷ rest) = writes_so (imported cs 1023) text && patterns_hold rest
patterns_hold (turned_down cs lent n p ∷ rest) = turns_so (imported cs lent) n p && patterns_hold rest
patterns_hold (likes cs name ∷ rest) = liked_by (like cs) name && covers_so (imported cs 1023) name && patterns_hold rest
patterns_hold (dislikes cs name ∷ rest) = not (liked_by (like cs) name) && not (covers_so (imported cs 1023) name) && patterns_hold rest

patterns : T (patterns_hold (
    imports (ascii "Row _-%") (ascii "Row .-.*")
    ∷ imports (ascii "a.b[c]{1,2}?+*]}") (ascii "a\\.b\\[c\\]\\{1,2\\}\\?\\+\\*\\]\\}")
    ∷ imports (ascii "\\%\\_\\\\^-,0") (ascii "%_\\\\^-,0")
    ∷ imports (0 ∷ 10 ∷ 255 ∷ []) (0 ∷ 10 ∷ 255 ∷ [])
    ∷ likes (ascii "Row %") (ascii "Row ")
    ∷ likes (ascii "Row %") (ascii "Row 12")
    ∷ dislikes (ascii "Row %") (ascii "row 12")  -- "case respected"
    ∷ dislikes (ascii "Row %") (ascii "A Row 12")
    ∷ likes (ascii "_%b") (ascii "a&amp;b")  -- "undecoded"
    ∷ dislikes (ascii "a.b") (ascii "axb")
    ∷ likes (ascii "%a%a%") (ascii "xaax")
    ∷ dislikes (ascii "%a%a%") (ascii "xax")
    ∷ dislikes (ascii "_") (195 ∷ 169 ∷ [])  -- "one byte"
    ∷ likes (ascii "\\%%") (ascii "%x")
    ∷ turned_down (ascii "a\\") 1023 14 1  -- "last"
    ∷ turned_down (ascii "\\a\\") 1023 14 0  -- "the first such"
    ∷ turned_down (ascii "%\\.") 1023 14 1  -- "before another byte", a mark too
    ∷ turned_down (ascii "\\\\\\") 1023 14 2
    ∷ turned_down (ascii "%\\") 1023 14 1  -- before 8
    ∷ turned_down (ascii "a\\") 1022 9 0
    ∷ turned_down [] 1023 1 0
    ∷ turned_down (ascii "%") 1023 8 2
    ∷ turned_down (ascii "%%%") 1023 8 6
    ∷ []
    ))
patterns = tt

-- ---- turns

abbrev at : (waiting last : ℕ) → Dispatcher
at waiting last = record { waiting = waiting; last = last }

taken-offers : (offer opened 0 ≡ takes (at 1 7))
    × (offer opened 7 ≡ takes (at 128 7))
    × (offer opened 8 ≡ turns_down 18 0)  -- "above 7"
    × (offer opened 4294967295 ≡ turns_down 18 0)
    × (offer (at 1 7) 0 ≡ turns_down 18 0)  -- "already has a piece waiting"
    × (offer (at 1 200) 3 ≡ takes (at 9 200))
    × (offer (at 256 7) 0 ≡ takes (at 257 7))
    × (offer (at 256 7) 8 ≡ turns_down 18 0)
taken-offers = (refl, refl, refl, refl, refl, refl, refl, refl)

taken_turns : (turn opened ≡ nobody)
    × (turn (at 0 200) ≡ nobody)
    × (turn (at 256 7) ≡ nobody)
    × (turn (at 255 7) ≡ serves 0 (at 254 0))
    × (turn (at 255 8) ≡ serves 0 (at 254 0))  -- "above 7 reads as 7"
    × (turn (at 255 6) ≡ serves 7 (at 127 7))
    × (turn (at 8 3) ≡ serves 3 (at 0 3))  -- the last served alone waits
    × (turn (at 9 3) ≡ serves 0 (at 8 0))  -- "going round"
    × (turn (at 257 0) ≡ serves 0 (at 256 0))
taken_turns = (refl, refl, refl, refl, refl, refl, refl, refl, refl)

-- An offer, or a turn; and the feeds that the turns name, each call handed the state the last one left.
pub data Dispatching : Type 0 where
  offering : (feed : ℕ) → Dispatching
  turning : Dispatching

abbrev pub after_offer : Dispatcher → OfferAnswer → Dispatcher
after_offer d (turns_down n p) = d
after_offer d (takes e) = e

abbrev pub named_by : Dispatcher → List Dispatching → List ℕ
named_by d [] = []
named_by d (offering f ∷ rest) = named_by (after_offer d (offer d f)) rest
named_by d (turning ∷ rest) = elim (turn d) [ nobody ↦ named_by d rest | serves f e ↦ f ∷ named_by e rest ]

-- Feeds 0 and 2 offer again and again, and feed 1 has its turn; an offer while a piece waits adds none.
round : named_by opened (offering 2 ∷ offering 1 ∷ offering 0 ∷ offering 1 ∷ turning ∷ offering 0 ∷ turning ∷ turning ∷ offering 2 ∷ turning ∷ turning ∷ turning ∷ [])
    ≡ 0 ∷ 1 ∷ 2 ∷ 0 ∷ 2 ∷ []
round = refl

-- Eight turns are needed: where all wait, feed 7 has the eighth.
eighth : named_by opened (offering 7 ∷ offering 6 ∷ offering 5 ∷ offering 4 ∷ offering 3 ∷ offering 2 ∷ offering 1 ∷ offering 0
    ∷ turning ∷ turning ∷ turning ∷ turning ∷ turning ∷ turning ∷ turning ∷ turning ∷ turning ∷ [])
    ≡ 0 ∷ 1 ∷ 2 ∷ 3 ∷ 4 ∷ 5 ∷ 6 ∷ 7 ∷ []
eighth = refl
