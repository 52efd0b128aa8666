-- What is written to a buffer, and where it ends; what a call promises that writes a rule's text. Assumes nothing.
use Rattle.std.specs.Prelude.{◌≡◌, List, ℕ, ◌+◌, length, drop, replicate}
use Rattle.std.proofs.lemmas.List.Edits.{sets}
use Rattle.model.specs.NumberedAnswers.{TextAnswer, turns_down, writes, text_buffer}
use Rattle.answers.specs.declared.Text.{Text}
use Rattle.answers.specs.Answers.{refusing_text, written_text}

-- `copy_tail`: where the bytes from `from` on end, and the buffer
pub record TailCopied (raw : List ℕ) (from : ℕ) (out : List ℕ) (at r : ℕ) (out' : List ℕ) : Type 0 where
  pub count : r ≡ at + length (drop from raw)
  pub list : out' ≡ sets out at (drop from raw)

-- `fill`: where n times the byte end, and the buffer
pub record Filled (out : List ℕ) (at byte n r : ℕ) (out' : List ℕ) : Type 0 where
  pub count : r ≡ at + n
  pub list : out' ≡ sets out at (replicate n byte)

-- ---- what a public call promises that writes a rule's text

abbrev pub text_answer : TextAnswer → Text
text_answer (turns_down n p) = refusing_text n p
text_answer (writes text) = written_text (length text)

-- its answer, and every byte of the buffer
pub record WritesText (a : TextAnswer) (out : List ℕ) (r : Text) (out' : List ℕ) : Type 0 where
  pub answers : r ≡ text_answer a
  pub buffer : out' ≡ text_buffer a out
