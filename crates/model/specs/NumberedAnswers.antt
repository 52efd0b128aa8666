-- Document 01, "Numbered answers": rows 1 to 8 and 16 and their order, rows 9 and 10 of whole-text calls, and lists and buffers at exit. (Rows 9, 10 and 12 of the scan
-- calls stand in `PlainScan`, row 14 in `Like`, row 15 in `Codes`.) Assumes nothing.
use Rattle.std.specs.Prelude.{Bool, true, false, cond, List, [], ◌∷◌, ◌++◌, ℕ, zero, suc, pred, ◌+◌, leb, ltb, eqb, length, drop}
use Rattle.model.specs.RefusalNumbers.{rule_empty, rule_long, too_many_positions, admits_empty, too_short, too_much, outer_gap}
use Rattle.model.specs.Occurrence.{Position, shortest}
use Rattle.model.specs.RuleText.{rule_limit, position_limit, Element, positions, size, bad, good, kind_at, often_after, mark_bytes}
use Rattle.model.specs.Spelling.{Outer, inner, outer_at, outer, spelled}

-- Row 10: "more than 4,294,967,295 bytes in the text, the name or the pattern, or in all the pieces".
abbrev pub text_limit : ℕ
text_limit = 4294967295

-- A rule is refused with a number and a place, or it has elements.
pub data Parsed : Type 0 where
  refused : (number place : ℕ) → Parsed
  accepted : List Element → Parsed

abbrev pub add_element : Element → Parsed → Parsed
add_element e (refused n p) = refused n p
add_element e (accepted es) = accepted (e ∷ es)

-- "the leftmost of 3 to 7 (an element's own fault before 7)". Row 7, "place of the element": "it takes the positions past 255", here past `most`. The
-- elements from `place` on, after `used` positions; the first `skip` bytes belong to an element already read.
abbrev pub elements_from : (most : ℕ) (fold : Bool) (skip place used : ℕ) → List ℕ → Parsed
elements_from most fold skip place used [] = accepted []
elements_from most fold (suc k) place used (c ∷ cs) = elements_from most fold k (suc place) used cs
elements_from most fold zero place used (c ∷ cs) = elim (kind_at fold (c ∷ cs)) [
  | bad n ↦ refused n place
  | good kind n ↦ elim (leb (used + size kind) most) [
    | false ↦ refused too_many_positions place
    | true ↦
        let often = often_after kind (drop n (c ∷ cs)) in
        add_element (record { kind = kind; often = often }) (elements_from most fold (pred n + mark_bytes often) (suc place) (used + size kind) cs)
  ]
]

-- Row 8, "place = rule length": "A rule is refused by 8 exactly when every position is optional."
abbrev pub or_empty : (fold : Bool) → List ℕ → Parsed → Parsed
or_empty fold rule (refused n p) = refused n p
or_empty fold rule (accepted es) = cond (eqb (shortest (positions fold es)) 0) (refused admits_empty (length rule)) (accepted es)

-- Row 1, "place 0": "rule of length 0". Row 2, "place 1,023": "rule .. over 1,023 bytes". "1 and 2 come first, then the leftmost of 3 to 7 .., then 8." For any
-- limits of a rule's length and positions, and for those of this paper.
abbrev pub parse_within : (longest most : ℕ) (fold : Bool) → List ℕ → Parsed
parse_within longest most fold rule =
    cond (eqb (length rule) 0) (refused rule_empty 0)
    (cond (ltb longest (length rule)) (refused rule_long longest)
    (or_empty fold rule (elements_from most fold 0 0 0 rule)))

-- A stored rule, of before note 10: "text that was never a rule gets its old answer".
abbrev pub parse_stored : (fold : Bool) → List ℕ → Parsed
parse_stored fold rule = parse_within rule_limit position_limit fold rule

-- Row 16: "16 when a rule's first or last element is a gap with a < b, checked after 8 .., its place the `{` of the first such gap."
abbrev pub or_outer : List Element → Outer → Parsed
or_outer es inner = accepted es
or_outer es (outer_at p) = refused outer_gap p

abbrev pub outer_checked : (fold : Bool) → List ℕ → Parsed → Parsed
outer_checked fold rule (refused n p) = refused n p
outer_checked fold rule (accepted es) = or_outer es (outer (spelled fold rule))

-- "new rules may not have one": what every call but the rewriter asks of a rule.
abbrev pub parse : (fold : Bool) → List ℕ → Parsed
parse fold rule = outer_checked fold rule (parse_stored fold rule)

-- The positions of an accepted rule; of a refused one, none.
abbrev pub positions_by : (fold : Bool) → Parsed → List Position
positions_by fold (refused n p) = []
positions_by fold (accepted es) = positions fold es

abbrev pub rule_positions : (fold : Bool) → List ℕ → List Position
rule_positions fold rule = positions_by fold (parse fold rule)

-- "Whole-text calls check the rule, then 10, then 9": what refuses one whose text has `text` bytes and whose list or buffer `lent` entries, after the rule,
-- or 0. "Needed lengths: search list, the text's length; decode buffer, the raw length".
abbrev pub whole_refusal : (text lent : ℕ) → ℕ
whole_refusal text lent = cond (ltb text_limit text) too_much (cond (ltb lent text) too_short 0)

-- "Past the reported entries a list is untouched too": a lent list or buffer at exit, where it reports `entries`.
abbrev pub overwrite : (lent entries : List ℕ) → List ℕ
overwrite lent entries = entries ++ drop (length entries) lent

-- What a call answers that writes a rule's text to a lent buffer: a refusal, or the text.
pub data TextAnswer : Type 0 where
  turns_down : (number place : ℕ) → TextAnswer
  writes : (text : List ℕ) → TextAnswer

-- "after a refusal everything lent is as before": the buffer at exit.
abbrev pub text_buffer : TextAnswer → (lent : List ℕ) → List ℕ
text_buffer (turns_down n p) lent = lent
text_buffer (writes text) lent = overwrite lent text
