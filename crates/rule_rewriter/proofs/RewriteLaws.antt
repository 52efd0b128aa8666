-- The laws of `steps`, `write` and `rewrite`. On plain values. Assumes nothing.
use mathlib.Core.Path.{◌≡◌, refl, sym, ap, ap₂, ◌∙◌}
use mathlib.Core.Bool.{Bool}
use mathlib.Core.List.{List, ◌++◌}
use Prim.Native.Nat.{ℕ, ◌+◌, ◌-◌, ◌≤◌, ◌<◌}
use native.Mathlib.Omega.{arith}
use lib.ListN.{length, take, drop, replicate, length-append, length-replicate}
use lib.Seq.{sets, length-sets, length-slice}
use borrow.Author.Tests.{lt-ltb, le-ltb}
use borrow.Rule.Slice.PartMut.{mid_of}
use Rattle.model.specs.Occurrence.{stretch}
use Rattle.model.specs.RuleText.{fold_flag, rule_limit, position_limit}
use Rattle.model.specs.Spelling.{Spelled, text_by}
use Rattle.model.specs.NumberedAnswers.{Parsed, refused, accepted, parse_stored, overwrite, TextAnswer, turns_down, writes, text_buffer}
use Rattle.model.specs.Rewriter.{from_back, rewritten, finished_text, rewrite_by, rewrite}
use Rattle.model.proofs.Accepted.{ParsedOk, parsed_ok}
use Rattle.model.proofs.LentLists.{sets-append, sets-overwrite}
use Rattle.answers.specs.declared.Refusal.{Refusal}
use Rattle.answers.specs.declared.Refusal.TheVariants.{RuleLong, TooShort}
use Rattle.answers.specs.declared.Refused.{Refused}
use Rattle.answers.specs.declared.Text.{Text}
use Rattle.answers.specs.Answers.{number_of, refused_at, refusing_text, written_text}
use Rattle.text_writer.specs.Writing.{TailCopied, Filled, text_answer}
use Rattle.text_writer.proofs.WriteLaws.{answered}
use Rattle.rule_parser.specs.declared.Prepared.{Prepared}
use Rattle.rule_parser.specs.Preparing.{PreparedStored, StoredRefused}
use Rattle.rule_rewriter.specs.declared.Front.{Front}
use Rattle.rule_rewriter.specs.declared.Cut.{Cut}
use Rattle.rule_rewriter.specs.declared.Rewriting.{Rewriting}
use Rattle.rule_rewriter.specs.Rewriting.{dot_bytes, Readable, FrontIs, BackIs, text_of, length_of, Fits, RewritingIs, RewriteIs}

-- ---- `steps`

module _ (fold : Bool) (s : List ℕ) (f : Front) (hf : FrontIs fold s f) where
  pub steps_are : (c : Cut) → BackIs fold s f.from c → RewritingIs fold s (record { front = f.dots; from = f.from; to = c.to; back = c.dots })
  steps_are c hc = record {
    is = ap (λ (l : List Spelled). text_by (from_back l)) hf.is ∙ hc.is f.dots;
    fits = record { ordered = hc.ordered; inside = hc.inside; few-front = hf.few; few-back = hc.few };
  }

-- ---- its length

pub text-length : (s : List ℕ) (r : Rewriting) → Fits (length s) r → length (text_of s r) ≡ length_of r
text-length s r h =
    let l = length-slice r.from r.to s h.inside in
    omega (arith, length-append (dot_bytes r.front) (stretch s r.from r.to ++ dot_bytes r.back), length-append (stretch s r.from r.to) (dot_bytes r.back), length-replicate {A = ℕ} r.front 46, length-replicate {A = ℕ} r.back 46)

-- ---- `write`

module _ (s : List ℕ) (r : Rewriting) (h : Fits (length s) r) (out : List ℕ) (room : length_of r ≤ length out) where
  -- the bytes that are copied
  part : drop r.from (mid_of 0 (r.to - 0) s) ≡ stretch s r.from r.to
  part = ap (λ (n : ℕ). drop r.from (take n s)) (let z : r.to - 0 ≡ r.to = omega arith in z)

  module _ (middle : ℕ) (out₁ : List ℕ) (x : Filled out 0 46 r.front middle out₁) (back : ℕ) (out₂ : List ℕ) (y : TailCopied (mid_of 0 (r.to - 0) s) r.from out₁ middle back out₂) where
    same-room : length out₂ ≡ length out
    same-room = ap length y.list ∙ length-sets out₁ middle (drop r.from (mid_of 0 (r.to - 0) s)) ∙ ap length x.list ∙ length-sets out 0 (replicate r.front 46)

    pub last-room : back + r.back ≤ length out₂
    last-room = omega (arith, same-room, x.count, y.count, ap length part, length-slice r.from r.to s h.inside)

    pub all-written : (n : ℕ) (out₃ : List ℕ) → Filled out₂ back 46 r.back n out₃ → out₃ ≡ overwrite out (text_of s r)
    all-written n out₃ z =
        let A = dot_bytes r.front in
        let B = stretch s r.from r.to in
        let C = dot_bytes r.back in
        let m : middle ≡ 0 + length A = x.count ∙ ap (λ (k : ℕ). 0 + k) (sym (length-replicate {A = ℕ} r.front 46)) in
        let b : back ≡ middle + length B = y.count ∙ ap (λ (l : List ℕ). middle + length l) part in
        let two : out₂ ≡ sets (sets out 0 A) (0 + length A) B = y.list ∙ ap₂ (λ (o : List ℕ) (l : List ℕ). sets o middle l) x.list part ∙ ap (λ (k : ℕ). sets (sets out 0 A) k B) m in
        z.list
        ∙ ap₂ (λ (o : List ℕ) (k : ℕ). sets o k C) two (b ∙ ap (λ (k : ℕ). k + length B) m)
        ∙ sym (sets-append (sets out 0 A) (0 + length A) B C)
        ∙ sym (sets-append out 0 A (B ++ C))
        ∙ sets-overwrite out (text_of s r) (omega (arith, text-length s r h))

-- ---- `rewrite`

module _ (flag : ℕ) (s out : List ℕ) where
  by_answer : (x : TextAnswer) → rewrite (fold_flag flag) s (length out) ≡ x → (t : Text) → t ≡ text_answer x → (out' : List ℕ) → out' ≡ text_buffer x out → RewriteIs flag s out t out'
  by_answer x e = answered (rewrite (fold_flag flag) s (length out)) x e out

  refuses : (x : Refusal) (k : ℕ) → rewrite (fold_flag flag) s (length out) ≡ turns_down (number_of x) k → (e : Refused) → e ≡ refused_at x k → RewriteIs flag s out (refusing_text (number_of e.refusal) e.place) out
  refuses x k q e ee = rw ee (by_answer (turns_down (number_of x) k) q (refusing_text (number_of x) k) refl out refl)

  pub too_short_lem : length out < rule_limit → (e : Refused) → e ≡ refused_at TooShort 0 → RewriteIs flag s out (refusing_text (number_of e.refusal) e.place) out
  too_short_lem l = refuses TooShort 0 (rw (lt-ltb (length out) rule_limit l))

  module _ (l : rule_limit ≤ length out) where
    by_rule : (x : Parsed) → parse_stored (fold_flag flag) s ≡ x → rewrite (fold_flag flag) s (length out) ≡ rewrite_by (fold_flag flag) s x
    by_rule x e = rw (le-ltb (length out) rule_limit l, e)

    pub never_rule : (e : Refused) → StoredRefused flag s e → RewriteIs flag s out (refusing_text (number_of e.refusal) e.place) out
    never_rule e r = refuses e.refusal e.place (by_rule (refused (number_of e.refusal) e.place) r.is) e refl

    module _ (p : Prepared) (hp : PreparedStored flag s p) where
      fine : ParsedOk rule_limit position_limit (fold_flag flag) s hp.elements
      fine = parsed_ok rule_limit position_limit (fold_flag flag) s hp.elements hp.parses

      module _ (f : Bool) (ef : f ≡ fold_flag flag) where
        pub stored-readable : Readable f s
        stored-readable = rw ef (record { left = hp.elements; rest = fine.reads; within = omega arith; inside = omega arith })

        module _ (r : Rewriting) (hr : RewritingIs f s r) where
          pub stored-fits : Fits rule_limit r
          stored-fits = let h = hr.fits in record { ordered = h.ordered; inside = omega (arith, h.inside, fine.short); few-front = h.few-front; few-back = h.few-back }

          module _ (n : ℕ) (en : n ≡ length_of r) where
            long : length (rewritten (fold_flag flag) s) ≡ n
            long = ap (λ (b : Bool). length (rewritten b s)) (sym ef) ∙ ap length hr.is ∙ text-length s r hr.fits ∙ sym en

            by_text : rewrite (fold_flag flag) s (length out) ≡ finished_text (rewritten (fold_flag flag) s)
            by_text = by_rule (accepted hp.elements) hp.parses

            pub past_limit : rule_limit < n → (e : Refused) → e ≡ refused_at RuleLong rule_limit → RewriteIs flag s out (refusing_text (number_of e.refusal) e.place) out
            past_limit k = refuses RuleLong rule_limit (by_text ∙ rw (lt-ltb rule_limit (length (rewritten (fold_flag flag) s)) (omega (arith, long))))

            pub rewrites : n ≤ rule_limit → (out' : List ℕ) → out' ≡ overwrite out (text_of s r) → RewriteIs flag s out (written_text n) out'
            rewrites k out' eo =
                by_answer (writes (rewritten (fold_flag flag) s)) (by_text ∙ rw (le-ltb rule_limit (length (rewritten (fold_flag flag) s)) (omega (arith, long))))
                (written_text n) (sym (ap written_text long)) out' (eo ∙ sym (ap (overwrite out) (ap (λ (b : Bool). rewritten b s) (sym ef) ∙ hr.is)))
