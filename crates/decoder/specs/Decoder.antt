-- What the decoder of a whole text gives. Assumes nothing.
use Rattle.std.specs.Prelude.{◌≡◌, cond, List, ℕ, ◌≤◌, eqb, length}
use Rattle.model.specs.References.{form_limit, decode}
use Rattle.model.specs.NumberedAnswers.{whole_refusal, overwrite}
use Rattle.answers.specs.declared.Answer.{Answer}
use Rattle.answers.specs.Answers.{refusing, counting}

-- What some raw bytes decode to: the model's, shut.
unfoldable pub decoded : List ℕ → List ℕ
decoded raw = decode form_limit raw

-- `decode_all`: how many bytes there are, and the buffer
pub record DecodedAll (raw out : List ℕ) (r : ℕ) (out' : List ℕ) : Type 0 where
  pub count : r ≡ length (decoded raw)
  pub few : r ≤ length raw
  pub list : out' ≡ overwrite out (decoded raw)

-- ---- what the public call promises

-- `decode`: the answer, and the buffer at exit. A refusal "leaves .. buffers .. untouched".
unfoldable pub decode_answer : (raw out : List ℕ) → Answer
decode_answer raw out =
    let refusal = whole_refusal (length raw) (length out) in
    cond (eqb refusal 0) (counting (length (decoded raw)) 0) (refusing refusal 0)

unfoldable pub decode_buffer : (raw out : List ℕ) → List ℕ
decode_buffer raw out = cond (eqb (whole_refusal (length raw) (length out)) 0) (overwrite out (decoded raw)) out

pub record DecodeIs (raw out : List ℕ) (r : Answer) (out' : List ℕ) : Type 0 where
  pub answers : r ≡ decode_answer raw out
  pub few : r.count ≤ length out
  pub buffer : out' ≡ decode_buffer raw out
