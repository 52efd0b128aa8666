-- The laws of `copy_tail` and `fill`, and of an answer. On plain values. Assumes nothing.
use Rattle.std.proofs.Common.{◌≡◌, ℕ, ◌+◌, ◌≤◌, ◌<◌, List, ◌++◌, length, take, drop, refl, sym, ap, ◌∙◌, arith}
use Rattle.std.proofs.lemmas.List.Edits.{sets-eq, paste_more}
use Rattle.std.proofs.lemmas.Slice.{put_mid-paste}
use lib.Seq.{paste, sets, take-length}
use lib.ListN.{set, get_or, replicate, length-drop, length-replicate}
use borrow.Rule.Slice.PartMut.{put_mid}
use Rattle.model.specs.NumberedAnswers.{TextAnswer, text_buffer}
use Rattle.answers.specs.declared.Text.{Text}
use Rattle.text_writer.specs.Writing.{TailCopied, Filled, text_answer, WritesText}

-- a list pasted whole is what its stores leave
pasted : (out : List ℕ) (at : ℕ) (vs : List ℕ) → at + length vs ≤ length out → paste out at vs (length vs) ≡ sets out at vs
pasted out at vs h = ap (λ (t : List ℕ). take at out ++ t ++ drop (at + length vs) out) (take-length vs) ∙ sym (sets-eq vs out at h)

-- `copy_tail`, whose loop has copied n bytes of the tail
module _ (raw : List ℕ) (from : ℕ) (out : List ℕ) (at : ℕ) (h : from ≤ length raw) (k : at + length raw ≤ length out + from) where
  module _ (tail : List ℕ) (t : tail ≡ drop from raw) where
    room : at + length tail ≤ length out
    room = omega (arith, ap length t, length-drop from raw)

    module _ (n : ℕ) (out' : List ℕ) (e : out' ≡ paste out at tail n) where
      pub tail_turn : n < length tail → set out' (at + n) (get_or tail n 0) ≡ paste out at tail (n + 1)
      tail_turn l = ap (λ (o : List ℕ). set o (at + n) (get_or tail n 0)) e ∙ paste_more out at tail n 0 (let r = room in omega arith) l

      pub tail_copied : n ≡ length tail → TailCopied raw from out at (at + length tail) out'
      tail_copied l =
          record {
            count = ap (λ (v : List ℕ). at + length v) t;
            list = e ∙ ap (paste out at tail) l ∙ pasted out at tail room ∙ ap (sets out at) t;
          }

-- `fill`
pub filled : (out : List ℕ) (at byte n : ℕ) → at + n ≤ length out → (part : List ℕ) → part ≡ replicate n byte → (k : ℕ) → k ≡ n
    → Filled out at byte n (at + n) (put_mid at k out part)
filled out at byte n h part e k l =
    let z = length-replicate n byte in
    record {
      count = refl;
      list = put_mid-paste at k out part (replicate n byte) (length (replicate n byte)) e (z ∙ sym l) refl ∙ pasted out at (replicate n byte) (omega (arith, z));
    }

-- ---- an answer

-- by what it comes to
pub answered : (a x : TextAnswer) → a ≡ x → (out : List ℕ) (r : Text) → r ≡ text_answer x → (out' : List ℕ) → out' ≡ text_buffer x out → WritesText a out r out'
answered a x e out r er out' eo = record { answers = er ∙ sym (ap text_answer e); buffer = eo ∙ sym (ap (λ (y : TextAnswer). text_buffer y out) e) }
