-- Note 10, "Outer gaps retired": the rewriter of stored rules, on elements with the bytes that spell them. Assumes nothing.
use Rattle.std.specs.Prelude.{Bool, true, false, cond, List, [], ◌∷◌, ◌++◌, reverse, ℕ, zero, suc, ltb, length, replicate}
use Rattle.model.specs.RefusalNumbers.{rule_long, too_short}
use Rattle.model.specs.Ascii.{ascii}
use Rattle.model.specs.RuleText.{rule_limit, Kind, byte, any, class, gap, once}
use Rattle.model.specs.Spelling.{Spelled, spelled, text_by}
use Rattle.model.specs.NumberedAnswers.{Parsed, refused, accepted, parse_stored, TextAnswer, turns_down, writes}

-- "a dots"; they stand at no place of the stored rule
abbrev pub dot : Spelled
dot = record { element = record { kind = any; often = once }; place = 0; bytes = ascii "." }

abbrev pub dots : ℕ → List Spelled
dots a = replicate a dot

-- "turns such an outer `{a,b}` into a dots, and goes on where a gap that became no dots bares another": a gap before `ss`, whose steps leave `rest`; with equal
-- bounds, as any other element, it stays, and `whole` is what is left.
abbrev pub dotted : (a b : ℕ) → Bool → (ss rest : List Spelled) → (whole : List Spelled) → List Spelled
dotted a b false ss rest whole = whole
dotted zero b true ss rest whole = rest
dotted (suc a) b true ss rest whole = dots (suc a) ++ ss

abbrev pub kind_dotted : Kind → (ss rest whole : List Spelled) → List Spelled
kind_dotted (byte b) ss rest whole = whole
kind_dotted any ss rest whole = whole
kind_dotted (class t rs) ss rest whole = whole
kind_dotted (gap a b) ss rest whole = dotted a b (ltb a b) ss rest whole

-- What the steps from the front leave ..
abbrev pub from_front : List Spelled → List Spelled
from_front [] = []
from_front (s ∷ ss) = kind_dotted s.element.kind ss (from_front ss) (s ∷ ss)

-- .. and those from the back.
abbrev pub from_back : List Spelled → List Spelled
from_back ss = reverse (from_front (reverse ss))

-- "a rule that is one gap counts as front": the front is done first.
abbrev pub front_done : (fold : Bool) → List ℕ → List Spelled
front_done fold rule = from_front (spelled fold rule)

abbrev pub both_done : (fold : Bool) → List ℕ → List Spelled
both_done fold rule = from_back (front_done fold rule)

-- The finished text.
abbrev pub rewritten : (fold : Bool) → List ℕ → List ℕ
rewritten fold rule = text_by (both_done fold rule)

-- "one whose finished text is past the length limit gets 2"
abbrev pub finished_text : List ℕ → TextAnswer
finished_text text = cond (ltb rule_limit (length text)) (turns_down rule_long rule_limit) (writes text)

-- "text that was never a rule gets its old answer"
abbrev pub rewrite_by : (fold : Bool) (rule : List ℕ) → Parsed → TextAnswer
rewrite_by fold rule (refused n p) = turns_down n p
rewrite_by fold rule (accepted es) = finished_text (rewritten fold rule)

-- "Its buffer is at least 1,023 bytes, shorter getting 9 first": as many as a rule may have.
abbrev pub rewrite : (fold : Bool) (rule : List ℕ) (lent : ℕ) → TextAnswer
rewrite fold rule lent = cond (ltb lent rule_limit) (turns_down too_short 0) (rewrite_by fold rule (parse_stored fold rule))
