-- What the steps of the rewriter leave of a rule, as dots and a stretch of its bytes, and what a rewriting answers. Assumes nothing.
use Rattle.std.specs.Prelude.{◌≡◌, Bool, cond, List, ◌++◌, ℕ, zero, suc, ◌+◌, ◌-◌, ◌≤◌, ltb, length, drop, replicate, Result, MatchResult}
use Rattle.model.specs.Ascii.{byte_of}
use Rattle.model.specs.Occurrence.{stretch}
use Rattle.model.specs.RuleText as Model
use Rattle.model.specs.RuleText.{fold_flag, position_limit}
use Rattle.model.specs.Spelling.{spelled_from, text_by}
use Rattle.model.specs.NumberedAnswers.{accepted, elements_from}
use Rattle.model.specs.Rewriter.{dots, from_back, front_done, rewritten, rewrite}
use Rattle.answers.specs.declared.Refused.{Refused}
use Rattle.answers.specs.declared.Text.{Text}
use Rattle.answers.specs.Answers.{number_of, refusing_text, written_text}
use Rattle.text_writer.specs.Writing.{WritesText}
use Rattle.rule_element.specs.declared.Kind.{Kind}
use Rattle.rule_element.specs.declared.Kind.TheVariants.{Byte, Any, Class, Gap}
use Rattle.std.specs.Prelude.{Option, None, Some}
use Rattle.rule_rewriter.specs.declared.Front.{Front}
use Rattle.rule_rewriter.specs.declared.Cut.{Cut}
use Rattle.rule_rewriter.specs.declared.Rewriting.{Rewriting}

-- ---- one step

abbrev pub step_of : Kind → Option ℕ
step_of (Byte b) = None
step_of Any = None
step_of (Class n) = None
step_of (Gap a b) = cond (ltb a b) (Some a) None

-- what the back steps leave with one element more, from `at` up to `next`
abbrev pub cut_by : Option ℕ → (at next : ℕ) → Cut → Cut
cut_by None at next before = record { to = next; dots = 0 }
cut_by (Some zero) at next before = before
cut_by (Some (suc a)) at next before = record { to = at; dots = suc a }

-- ---- all of them

-- so many dots, as bytes
abbrev pub dot_bytes : ℕ → List ℕ
dot_bytes n = replicate n (byte_of ".")

-- a rule that can be read to its end: `used` positions stand before the elements from `at` on
pub record ReadableFrom (fold : Bool) (s : List ℕ) (at used : ℕ) : Type 0 where
  pub left : List Model.Element
  pub rest : elements_from position_limit fold 0 at used (drop at s) ≡ accepted left
  pub within : used ≤ position_limit
  pub inside : at ≤ length s

abbrev pub Readable : (fold : Bool) → List ℕ → Type 0
Readable fold s = ReadableFrom fold s 0 0

-- what the front steps leave
pub record FrontIs (fold : Bool) (s : List ℕ) (r : Front) : Type 0 where
  pub readable : ReadableFrom fold s r.from r.used
  pub is : front_done fold s ≡ dots r.dots ++ spelled_from fold 0 r.from (drop r.from s)
  pub few : r.dots ≤ position_limit

-- and the back steps of what stands from a place on, whatever dots stand before it
pub record BackIs (fold : Bool) (s : List ℕ) (from : ℕ) (r : Cut) : Type 0 where
  pub is : (d : ℕ) → text_by (from_back (dots d ++ spelled_from fold 0 from (drop from s))) ≡ dot_bytes d ++ (stretch s from r.to ++ dot_bytes r.dots)
  pub ordered : from ≤ r.to
  pub inside : r.to ≤ length s
  pub few : r.dots ≤ position_limit

-- ---- the finished text

abbrev pub text_of : List ℕ → Rewriting → List ℕ
text_of s r = dot_bytes r.front ++ (stretch s r.from r.to ++ dot_bytes r.back)

abbrev pub length_of : Rewriting → ℕ
length_of r = r.front + (r.to - r.from) + r.back

-- of a rule of n bytes
pub record Fits (n : ℕ) (r : Rewriting) : Type 0 where
  pub ordered : r.from ≤ r.to
  pub inside : r.to ≤ n
  pub few-front : r.front ≤ position_limit
  pub few-back : r.back ≤ position_limit

pub record RewritingIs (fold : Bool) (s : List ℕ) (r : Rewriting) : Type 0 where
  pub is : rewritten fold s ≡ text_of s r
  pub fits : Fits (length s) r

-- ---- what the public call promises

-- its number and place, or its length; and every byte of the buffer
abbrev pub RewriteIs : (flag : ℕ) (rule out : List ℕ) (r : Text) (out' : List ℕ) → Type 0
RewriteIs flag rule out r out' = WritesText (rewrite (fold_flag flag) rule (length out)) out r out'

-- the same of the length that is written, or of why and where nothing is
abbrev pub RewriteTried : (flag : ℕ) (rule out : List ℕ) (r : Result ℕ Refused) (out' : List ℕ) → Type 0
RewriteTried flag rule out r out' = MatchResult r (λ n. RewriteIs flag rule out (written_text n) out') (λ e. RewriteIs flag rule out (refusing_text (number_of e.refusal) e.place) out')
