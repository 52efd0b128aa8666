-- The decoder of a whole text: the text made of what is let out and the tail copied as it came, and the answers. On plain values. Assumes nothing.
use mathlib.Core.Path.{◌≡◌, sym, ap, ◌∙◌}
use mathlib.Core.List.{List, ◌++◌}
use Prim.Native.Nat.{ℕ, ◌+◌, ◌≤◌, ◌<◌}
use native.Mathlib.Nat.{zero-add}
use native.Mathlib.Omega.{arith}
use lib.ListN.{length, drop, length-append, length-drop}
use lib.Seq.{sets}
use borrow.Author.Tests.{lt-ltb, le-ltb}
use Rattle.model.specs.References.{form_limit, held_tail, let_out}
use Rattle.model.specs.NumberedAnswers.{text_limit}
use Rattle.model.proofs.LentLists.{sets-append, sets-overwrite}
use Rattle.model.proofs.Decoding.{finish-text}
use Rattle.answers.specs.declared.Answer.{Answer}
use Rattle.answers.specs.declared.Refusal.TheVariants.{TooShort, TooMuch}
use Rattle.answers.specs.declared.Refused.{Refused}
use Rattle.answers.specs.Answers.{number_of, refused_at, refusing, counting}
use Rattle.piece_decoder.specs.declared.TokensDecoded.{TokensDecoded}
use Rattle.piece_decoder.specs.Chunks.{TokensDecodedIs}
use Rattle.text_writer.specs.Writing.{TailCopied}
use Rattle.decoder.specs.Decoder.{decoded, DecodedAll, decode_answer, decode_buffer, DecodeIs}

-- ---- `decode_all`

-- "The finish lets it through as it came": what is let out, and then what is held back, is the text
pub decodes-all : (raw out : List ℕ) → length raw ≤ length out → (t : TokensDecoded) (out₁ : List ℕ) → TokensDecodedIs raw out t out₁
    → (r : ℕ) (out' : List ℕ) → TailCopied raw t.read out₁ t.written r out' → DecodedAll raw out r out'
unfolding decoded
decodes-all raw out room t out₁ x r out' y =
    let front : List ℕ = let_out form_limit raw in
    let tail : List ℕ = held_tail form_limit raw in
    let e : decoded raw ≡ front ++ tail = finish-text form_limit raw in
    let w : t.written ≡ length front = x.written in
    let c : r ≡ t.written + length (drop t.read raw) = y.count in
    let f = x.fits in
    let k = x.few in
    let few : r ≤ length raw = omega (arith, length-drop t.read raw) in
    let n : r ≡ length (decoded raw) = omega (arith, ap length e, length-append front tail, ap length x.holds) in
    record {
      count = n;
      few = few;
      list =
          y.list
          ∙ ap (sets out₁ t.written) x.holds
          ∙ ap (λ (l : List ℕ). sets l t.written tail) x.list
          ∙ ap (λ (k : ℕ). sets (sets out 0 front) k tail) (w ∙ sym (zero-add (length front)))
          ∙ sym (sets-append out 0 front tail)
          ∙ ap (sets out 0) (sym e)
          ∙ sets-overwrite out (decoded raw) (omega arith);
    }

-- ---- `decode`

module _ (raw out : List ℕ) where
  pub too_long : text_limit < length raw → (x : Refused) → x ≡ refused_at TooMuch 0 → (r : Answer) → r ≡ refusing (number_of x.refusal) x.place → DecodeIs raw out r out
  unfolding decode_answer decode_buffer
  too_long h x ex r q =
      let e : r ≡ refusing (number_of TooMuch) 0 = q ∙ ap (λ (y : Refused). refusing (number_of y.refusal) y.place) ex in
      record {
        answers = e ∙ rw (lt-ltb text_limit (length raw) h);
        few = omega (arith, ap (λ (a : Answer). a.count) e);
        buffer = rw (lt-ltb text_limit (length raw) h);
      }

  module _ (h : length raw ≤ text_limit) where
    pub too_short_lem : length out < length raw → (x : Refused) → x ≡ refused_at TooShort 0 → (r : Answer) → r ≡ refusing (number_of x.refusal) x.place → DecodeIs raw out r out
    unfolding decode_answer decode_buffer
    too_short_lem k x ex r q =
        let e : r ≡ refusing (number_of TooShort) 0 = q ∙ ap (λ (y : Refused). refusing (number_of y.refusal) y.place) ex in
        record {
          answers = e ∙ rw (le-ltb text_limit (length raw) h, lt-ltb (length out) (length raw) k);
          few = omega (arith, ap (λ (a : Answer). a.count) e);
          buffer = rw (le-ltb text_limit (length raw) h, lt-ltb (length out) (length raw) k);
        }

    pub accepted : length raw ≤ length out → (n : ℕ) (out' : List ℕ) → DecodedAll raw out n out' → (r : Answer) → r ≡ counting n 0 → DecodeIs raw out r out'
    unfolding decode_answer decode_buffer
    accepted k n out' x r e =
        record {
          answers = e ∙ rw (le-ltb text_limit (length raw) h, le-ltb (length out) (length raw) k, x.count);
          few = let f = x.few in omega (arith, ap (λ (a : Answer). a.count) e);
          buffer = rw (le-ltb text_limit (length raw) h, le-ltb (length out) (length raw) k) x.list;
        }
