-- The window search of a whole decoded text: what it answers and leaves, in every case. Assumes nothing.
use Rattle.std.specs.Prelude.{◌≡◌, cond, List, ℕ, ◌≤◌, ◌<◌, ◌^◌, T, eqb, length, Result, MatchResult}
use Rattle.model.specs.Occurrence.{all, starts}
use Rattle.model.specs.RuleText.{fold_flag, is_byte, positions}
use Rattle.model.specs.NumberedAnswers.{text_limit, Parsed, refused, accepted, whole_refusal, overwrite}
use Rattle.model.specs.Codes.{codes_of, fitting, smudged, parse_with}
use Rattle.model.specs.WindowSearch.{windows}
use Rattle.answers.specs.declared.Answer.{Answer}
use Rattle.answers.specs.declared.Refusal.{Refusal}
use Rattle.answers.specs.declared.Refused.{Refused}
use Rattle.answers.specs.Answers.{number_of, refusing, counting}
use Rattle.rule_parser.specs.declared.Prepared.{Prepared}
use Rattle.rule_codes.specs.RuleCodes.{PreparedWith}
use Rattle.rule_table.specs.Tables.{mirror}
use Rattle.shift_and.specs.Automaton.{word_bits}
use Rattle.shift_and_step.specs.declared.Masks.{Masks}
use Rattle.shift_and_wide.specs.declared.WideMasks.{WideMasks}
use Rattle.shift_and_wide.specs.Wides.{number, words_of}
use Rattle.window_search.specs.declared.Found.{Found}
use Rattle.text_search.specs.declared.BothMasks.{BothMasks}

-- ---- the search

-- "Whole-text calls check the rule, then its codes, then 10, then 9"; "Needed lengths: search list, the text's length". "Every refusal has zero counts beside its number and
-- place".
abbrev pub search_answer : (flag : ℕ) (codes sets text : List ℕ) (lent : ℕ) → Parsed → Answer
search_answer flag codes sets text lent (refused n p) = refusing n p
search_answer flag codes sets text lent (accepted es) =
    let ps = fitting (codes_of codes sets) (positions (fold_flag flag) es) in
    cond (eqb (whole_refusal (length text) lent) 0) (counting (length (starts ps text)) (length (windows ps text)))
    (refusing (whole_refusal (length text) lent) 0)

-- The lent list at exit. "Past the reported entries a list is untouched too."
abbrev pub search_list : (flag : ℕ) (codes sets text list : List ℕ) → Parsed → List ℕ
search_list flag codes sets text list (refused n p) = list
search_list flag codes sets text list (accepted es) =
    let ps = fitting (codes_of codes sets) (positions (fold_flag flag) es) in
    cond (eqb (whole_refusal (length text) (length list)) 0) (overwrite list (starts ps text)) list

pub record SearchIs (flag : ℕ) (rule codes sets text list : List ℕ) (r : Answer) (list' : List ℕ) : Type 0 where
  pub answers : r ≡ search_answer flag codes sets text (length list) (parse_with (fold_flag flag) rule codes sets)
  pub lists : list' ≡ search_list flag codes sets text list (parse_with (fold_flag flag) rule codes sets)

-- the same of its answer, or of why and where it is refused
abbrev pub SearchTried : (flag : ℕ) (rule codes sets text list : List ℕ) (r : Result Answer Refused) (list' : List ℕ) → Type 0
SearchTried flag rule codes sets text list r list' =
    MatchResult r (λ a. SearchIs flag rule codes sets text list a list') (λ e. SearchIs flag rule codes sets text list (refusing (number_of e.refusal) e.place) list')

-- ---- its parts

-- a text and a list that nothing refuses
pub record WholeFits (text lent : ℕ) : Type 0 where
  pub is : whole_refusal text lent ≡ 0
  pub small : text ≤ text_limit
  pub room : text ≤ lent

-- or that are refused, by the model's number
pub record WholeRefused (text lent : ℕ) (x : Refusal) : Type 0 where
  pub is : whole_refusal text lent ≡ number_of x
  pub some : number_of x ≡ 0 → ⊥

-- a prepared rule's masks in both directions
pub record PreparedIs (p : Prepared) (r : BothMasks) : Type 0 where
  pub on : r.forward ≡ record { repeats = p.repeats; optional = p.optional; top = p.positions }
  pub back : r.reversed ≡ record { repeats = words_of (mirror (number p.repeats) p.positions); optional = words_of (mirror (number p.optional) p.positions); top = p.positions }

-- their lowest words
abbrev pub low_masks : WideMasks → Masks
low_masks m = record { repeats = m.repeats.w0; optional = m.optional.w0; top = m.top }

pub record Ready (flag : ℕ) (rule codes sets : List ℕ) (p : Prepared) (text lent : ℕ) : Type 0 where
  pub bytes : T (all is_byte rule)
  pub code-bytes : T (all is_byte codes)
  pub prepares : PreparedWith flag rule codes sets p
  pub small : text < 2 ^ 32
  pub room : text ≤ lent

-- a rule of so few positions that one word does
pub record ReadyLow (flag : ℕ) (rule codes sets : List ℕ) (p : Prepared) (text lent : ℕ) : Type 0 where
  pub ready : Ready flag rule codes sets p text lent
  pub low : p.positions < word_bits

-- what the search finds, in one word or in four, and the list at exit
pub record FoundIs (flag : ℕ) (rule codes sets text list : List ℕ) (r : Found) (list' : List ℕ) : Type 0 where
  pub few : r.count ≤ length text
  pub tries : r.windows ≤ length text
  pub count : r.count ≡ length (starts (smudged (fold_flag flag) rule codes sets) text)
  pub windows_are : r.windows ≡ length (windows (smudged (fold_flag flag) rule codes sets) text)
  pub lists : list' ≡ overwrite list (starts (smudged (fold_flag flag) rule codes sets) text)
  pub long : length list' ≡ length list

pub record WorkIs (flag : ℕ) (rule codes sets text list : List ℕ) (r : Answer) (list' : List ℕ) : Type 0 where
  pub answers : r ≡ counting (length (starts (smudged (fold_flag flag) rule codes sets) text)) (length (windows (smudged (fold_flag flag) rule codes sets) text))
  pub lists : list' ≡ overwrite list (starts (smudged (fold_flag flag) rule codes sets) text)
