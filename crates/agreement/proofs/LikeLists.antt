-- Note 2's theorem about calls as they were made: `like-lists`. Assumes nothing.
use mathlib.Core.Path.{◌≡◌, refl, sym, ap, ◌∙◌}
use mathlib.Core.List.{List}
use Prim.Native.Nat.{ℕ}
use lib.ListN.{length, take, drop}
use lib.Seq.{take-append_seam}
use Rattle.model.specs.NumberedAnswers.{TextAnswer, turns_down, writes, text_buffer}
use Rattle.model.specs.WholeNames.{covered}
use Rattle.model.specs.Like.{imported}
use Rattle.answers.specs.declared.Text.{Text}
use Rattle.text_writer.specs.Writing.{text_answer}
use Rattle.rule_spelling.proofs.ImportCovers.{import_covers, import_refused}
use Rattle.like_importer.specs.Importing.{ImportIs}
use Rattle.whole_match.specs.Covering.{cover_answer}
use Rattle.agreement.specs.LikeLists.{LikeListed}

pub like-lists : (cs out : List ℕ) (r : Text) (out' : List ℕ) → ImportIs cs out r out' → r.number ≡ 0 → LikeListed cs r out'
like-lists cs out r out' i z = go (imported cs (length out)) refl i.answers i.buffer
  where
    go : (x : TextAnswer) → imported cs (length out) ≡ x → r ≡ text_answer x → out' ≡ text_buffer x out → LikeListed cs r out'
    go (turns_down n p) q er eo = absurd (import_refused cs (length out) n p q (sym (ap (λ (t : Text). t.number) er) ∙ z))
    go (writes text) q er eo =
        let c = import_covers cs (length out) text q in
        let n : r.length ≡ length text = ap (λ (t : Text). t.length) er in
        let t : take r.length out' ≡ text = ap (λ (k : ℕ). take k out') n ∙ ap (take (length text)) eo ∙ take-append_seam text (drop (length text) out) in
        record {
          items = c.items;
          reads = c.reads;
          answers = λ name bytes short a h. h ∙ ap (λ (l : List ℕ). cover_answer (covered 0 l name)) t ∙ ap cover_answer (c.answer name bytes short);
          decided = c.decided;
        }
