-- Document 01, "Marked table": M1 to M12 as one list of cases, the two plans of note 4, one padded and one short, a rule that shows what M7 showed, and pairs of
-- note 7; what it is for them to hold, and that they do. Each text goes through the plain scan too. Assumes nothing.
use Rattle.std.specs.Prelude.{Bool, true, false, ◌&&◌, List, [], ◌∷◌, ℕ, T, eqb, length}
use Rattle.model.specs.Ascii.{ascii}
use Rattle.model.specs.Occurrence.{ends, starts}
use Rattle.model.specs.NumberedAnswers.{Parsed, refused, accepted, parse, rule_positions}
use Rattle.model.specs.References.{form_limit, utf8, decode}
use Rattle.model.specs.RawPlaces.{Entry, ends_of, flat}
use Rattle.model.specs.PlainScan.{feed, finish, needed, plain_scan, reported_entries}
use Rattle.model.specs.WindowSearch.{windows}

pub data Count : Type 0 where
  marked : ℕ → Count
  not_marked : Count

pub data Case : Type 0 where
  finds : (rule text : List ℕ) (ends starts : List ℕ) (windows : Count) → Case
  reads : (rule raw : List ℕ) (ends starts : List ℕ) → Case
  pairs : (rule raw numbers : List ℕ) → Case
  decodes : (raw text : List ℕ) → Case
  refuses : (rule : List ℕ) (number place : ℕ) → Case

abbrev pub same : List ℕ → List ℕ → Bool
same [] [] = true
same [] (c ∷ cs) = false
same (b ∷ bs) [] = false
same (b ∷ bs) (c ∷ cs) = eqb b c && same bs cs

abbrev pub counts : Count → ℕ → Bool
counts not_marked n = true
counts (marked k) n = eqb k n

abbrev pub is_accepted : Parsed → Bool
is_accepted (refused n p) = false
is_accepted (accepted es) = true

abbrev pub is_refused : Parsed → (number place : ℕ) → Bool
is_refused (refused n p) number place = eqb n number && eqb p place
is_refused (accepted es) number place = false

-- The text fed to the plain scan as one piece, and then finished: all the pairs that it reports, and their ends.
abbrev pub fed_entries : (rule text : List ℕ) → List Entry
fed_entries rule text = reported_entries (plain_scan 0 rule [] [] (feed text (needed form_limit (length text)) ∷ finish (needed form_limit 0) ∷ []))

abbrev pub fed : (rule text : List ℕ) → List ℕ
fed rule text = ends_of (fed_entries rule text)

abbrev pub holds : Case → Bool
holds (finds rule text e s w) =
    let ps = rule_positions false rule in
    is_accepted (parse false rule) && same e (ends ps text) && same e (fed rule text) && same s (starts ps text) && counts w (length (windows ps text))
holds (reads rule raw e s) = is_accepted (parse false rule) && same e (fed rule raw) && same s (starts (rule_positions false rule) (decode form_limit raw))
holds (pairs rule raw numbers) = is_accepted (parse false rule) && same numbers (flat (fed_entries rule raw))
holds (decodes raw text) = same text (decode form_limit raw)
holds (refuses rule number place) = is_refused (parse false rule) number place

abbrev pub all_hold : List Case → Bool
all_hold [] = true
all_hold (c ∷ cs) = holds c && all_hold cs

abbrev pub table : List Case
table =
    finds (ascii "abc{1,3}de") (ascii "abcabcffdee") (10 ∷ []) (3 ∷ []) (marked 2)  -- M1
    ∷ finds (ascii "ab?c*de+f") (ascii "acccdfabdeeeef") (14 ∷ []) (6 ∷ []) not_marked  -- M2
    ∷ finds (ascii "abc?d?efg?h") (ascii "abefh") (5 ∷ []) (0 ∷ []) (marked 1)  -- M3
    ∷ finds (ascii "a+") (ascii "aaa") (1 ∷ 2 ∷ 3 ∷ []) (0 ∷ 1 ∷ 2 ∷ []) (marked 3)  -- M4
    ∷ finds (ascii "ab?") (ascii "ab") (1 ∷ 2 ∷ []) (0 ∷ []) (marked 2)  -- M5
    ∷ finds (ascii "a?b") (ascii "ab") (2 ∷ []) (0 ∷ 1 ∷ []) (marked 2)  -- M6
    ∷ refuses (ascii "{1,2}a") 16 0  -- M7, as note 10 has it
    ∷ finds (ascii ".?.a") (ascii "xxa") (3 ∷ []) (0 ∷ 1 ∷ []) (marked 2)  -- the mistake that M7 showed, without its gap: a move by m after a match loses start 1
    ∷ finds (ascii "a") [] [] [] (marked 0)  -- M8
    ∷ decodes (ascii "&amp;amp;") (ascii "&amp;")  -- M9
    ∷ decodes (ascii "&#xE9;") (195 ∷ 169 ∷ [])  -- M10
    ∷ decodes (ascii "&#0;") (239 ∷ 191 ∷ 189 ∷ [])  -- M11, as note 6 has it
    ∷ decodes (ascii "&am") (ascii "&am")
    ∷ refuses (ascii "a?") 8 2  -- M12
    ∷ reads (ascii "Row A&B [0-9]+") (ascii "Row A&#0000000038;B 12;") (9 ∷ 10 ∷ []) (0 ∷ [])  -- note 4, padded
    ∷ reads (ascii "Row A&B [0-9]+") (ascii "Row A&#38;B 12;") (9 ∷ 10 ∷ []) (0 ∷ [])  -- and short
    ∷ pairs (ascii "Row A&B [0-9]+") (ascii "Row A&#0000000038;B 12;") (9 ∷ 21 ∷ 10 ∷ 22 ∷ [])  -- note 7: two spellings agree in decoded ends, and not in raw counts
    ∷ pairs (ascii "Row A&B [0-9]+") (ascii "Row A&#38;B 12;") (9 ∷ 13 ∷ 10 ∷ 14 ∷ [])
    ∷ pairs (ascii ".") (ascii "a&#xE9;&") (1 ∷ 1 ∷ 2 ∷ 7 ∷ 3 ∷ 7 ∷ 4 ∷ 8 ∷ [])  -- the bytes of one reference share its count, and a held tail counts byte by byte
    ∷ []

-- The theorem: they all hold.
pub marked-table : T (all_hold table)
unfolding utf8
marked-table = tt
