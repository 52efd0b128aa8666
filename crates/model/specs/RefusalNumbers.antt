-- Document 01, "Numbered answers": the number of each row, under one name; `answers` has the same for code, and the header for a host. Assumes nothing.
use Rattle.std.specs.Prelude.{ℕ}

-- "rule of length 0"
abbrev pub rule_empty : ℕ
rule_empty = 1

-- "rule, a rewriter's finished text, or an imported pattern's rule text, over 1,023 bytes"
abbrev pub rule_long : ℕ
rule_long = 2

-- "class unclosed, empty, with a reversed range, a bad `\` or misplaced `-`, or left with no byte"
abbrev pub class_fault : ℕ
class_fault = 3

-- "gap not of the given form, a > b, or b = 0"
abbrev pub gap_fault : ℕ
gap_fault = 4

-- "`?`, `+`, `*` first, after a gap, or after another of them"
abbrev pub mark_fault : ℕ
mark_fault = 5

-- "outside a class: bad or last `\`, or stray `]` or `}`"
abbrev pub byte_fault : ℕ
byte_fault = 6

-- "it takes the positions past 255"
abbrev pub too_many_positions : ℕ
too_many_positions = 7

-- "the empty string is admitted"
abbrev pub admits_empty : ℕ
admits_empty = 8

-- "list or buffer too short"
abbrev pub too_short : ℕ
too_short = 9

-- "more than 4,294,967,295 bytes in the text, the name or the pattern, or in all the pieces"
abbrev pub too_much : ℕ
too_much = 10

-- "impossible scan value"
abbrev pub impossible : ℕ
impossible = 11

-- "scan already finished"
abbrev pub already_finished : ℕ
already_finished = 12

-- "a LIKE backslash stands last or before another byte"
abbrev pub like_fault : ℕ
like_fault = 14

-- "there are more than 8 codes, the sets are not 32 bytes for each code, a code is named twice, a set is empty or holds a code, or a position holds codes alone"
abbrev pub codes_fault : ℕ
codes_fault = 15

-- "a rule's first or last element is a gap with a < b"
abbrev pub outer_gap : ℕ
outer_gap = 16

-- "an offer's feed number is above 7 or that feed already has a piece waiting"
abbrev pub offer_fault : ℕ
offer_fault = 18
