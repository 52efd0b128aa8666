-- The answers of the calls: a refusal, or a finished result. Assumes nothing.
use Rattle.std.specs.Prelude.{Bool, cond, ℕ}
use Rattle.answers.specs.declared.Refusal.{Refusal}
use Rattle.answers.specs.declared.Refusal.TheVariants.{RuleEmpty, RuleLong, ClassFault, GapFault, MarkFault, ByteFault, TooManyPositions, AdmitsEmpty, TooShort, TooMuch, Impossible, AlreadyFinished, LikeFault, CodesFault, OuterGap, OfferFault}
use Rattle.answers.specs.declared.Refused.{Refused}
use Rattle.answers.specs.declared.Answer.{Answer}
use Rattle.answers.specs.declared.Opened.{Opened}
use Rattle.answers.specs.declared.Text.{Text}
use Rattle.answers.specs.declared.Covered.{Covered}

-- the number of each refusal; `model` has them too, each under its sentence
abbrev pub number_of : Refusal → ℕ
number_of RuleEmpty = 1
number_of RuleLong = 2
number_of ClassFault = 3
number_of GapFault = 4
number_of MarkFault = 5
number_of ByteFault = 6
number_of TooManyPositions = 7
number_of AdmitsEmpty = 8
number_of TooShort = 9
number_of TooMuch = 10
number_of Impossible = 11
number_of AlreadyFinished = 12
number_of LikeFault = 14
number_of CodesFault = 15
number_of OuterGap = 16
number_of OfferFault = 18

-- a refusal at a place
abbrev pub refused_at : Refusal → (place : ℕ) → Refused
refused_at r p = record { refusal = r; place = p }

-- "Every refusal has zero counts beside its number and place, place 0 where none is given"
abbrev pub refusing : (number place : ℕ) → Answer
refusing n p = record { number = n; place = p; count = 0; windows = 0 }

abbrev pub counting : (count windows : ℕ) → Answer
counting c w = record { number = 0; place = 0; count = c; windows = w }

-- the same of a rule that is prepared or opened
abbrev pub refusing_rule : (number place : ℕ) → Opened
refusing_rule n p = record { number = n; place = p; positions = 0; shortest = 0 }

abbrev pub accepting_rule : (positions shortest : ℕ) → Opened
accepting_rule n m = record { number = 0; place = 0; positions = n; shortest = m }

abbrev pub refusing_text : (number place : ℕ) → Text
refusing_text n p = record { number = n; place = p; length = 0 }

abbrev pub written_text : (length : ℕ) → Text
written_text n = record { number = 0; place = 0; length = n }

abbrev pub refusing_name : (number place : ℕ) → Covered
refusing_name n p = record { number = n; place = p; covered = 0 }

abbrev pub judged_name : Bool → Covered
judged_name b = record { number = 0; place = 0; covered = cond b 1 0 }
