-- Note 10's theorem: `retired`. Assumes nothing.
use mathlib.Core.Path.{◌≡◌, refl, sym, ap, ◌∙◌}
use mathlib.Core.Bool.{Bool}
use mathlib.Core.List.{List}
use Prim.Native.Nat.{ℕ, ◌≤◌}
use native.Mathlib.Omega.{arith}
use lib.Dec.{T}
use lib.ListN.{length}
use Rattle.model.specs.RefusalNumbers.{outer_gap}
use Rattle.model.specs.Occurrence.{all, ends, starts}
use Rattle.model.specs.RuleText.{rule_limit, position_limit, is_byte, Element, positions}
use Rattle.model.specs.Spelling.{text_by, elements_by, Outer, inner, outer_at, outer, spelled}
use Rattle.model.specs.NumberedAnswers.{Parsed, refused, accepted, parse_stored, or_outer, outer_checked, parse, positions_by}
use Rattle.model.specs.Codes.{Code, fitting}
use Rattle.model.specs.Rewriter.{front_done, both_done, rewritten}
use Rattle.model.proofs.Accepted.{not_refused, parsed_ok, stored-accepted}
use Rattle.rule_spelling.specs.Retired.{stored_positions, Retired}
use Rattle.rule_spelling.proofs.OuterLaws.{front_step, back_step, front-keeps-ends, back-keeps-starts, outer-none}
use Rattle.rule_spelling.proofs.Rereading.{stored-spelled, front_parses, rewritten_parses}

-- The rewriter leaves a new rule as it is.
pub new-unchanged : (fold : Bool) (rule : List ℕ) (es : List Element) → parse fold rule ≡ accepted es → rewritten fold rule ≡ rule
new-unchanged fold rule es e =
    let s = stored-accepted fold rule es e in
    ap text_by (outer-none (spelled fold rule) s.1) ∙ (stored-spelled fold rule es s.0).text

module _ (fold : Bool) (rule : List ℕ) (es : List Element) (bytes : T (all is_byte rule)) (ok : parse_stored fold rule ≡ accepted es) where
  new : length (rewritten fold rule) ≤ rule_limit → parse fold (rewritten fold rule) ≡ accepted (elements_by (both_done fold rule))
  new l = rewritten_parses fold rule es bytes ok l

  -- ---- 16, exactly

  changed : (place : ℕ) → parse fold rule ≡ refused outer_gap place → rewritten fold rule ≡ rule → ⊥
  changed place e same =
      let l : length (rewritten fold rule) ≤ rule_limit = let z = ap length same in let k = (parsed_ok rule_limit position_limit fold rule es ok).short in omega arith in
      not_refused (sym e ∙ sym (ap (parse fold) same) ∙ new l)

  refused_so : (rewritten fold rule ≡ rule → ⊥) → (place : ℕ) × (parse fold rule ≡ refused outer_gap place)
  refused_so f = go (outer (spelled fold rule)) refl
    where
      go : (o : Outer) → outer (spelled fold rule) ≡ o → (place : ℕ) × (parse fold rule ≡ refused outer_gap place)
      go inner q = absurd (f (new-unchanged fold rule es (ap (outer_checked fold rule) ok ∙ ap (or_outer es) q)))
      go (outer_at p) q = (p, ap (outer_checked fold rule) ok ∙ ap (or_outer es) q)

  -- ---- lists of ends and starts

  front_ends : (ks : List Code) (text : List ℕ) → ends (fitting ks (positions fold (elements_by (front_done fold rule)))) text ≡ ends (stored_positions ks fold rule) text
  front_ends ks text =
      front-keeps-ends ks fold (spelled fold rule) text
      ∙ ap (λ (l : List Element). ends (fitting ks (positions fold l)) text) (stored-spelled fold rule es ok).elements
      ∙ sym (ap (λ (p : Parsed). ends (fitting ks (positions_by fold p)) text) ok)

  pub retired : Retired fold rule
  retired = record {
    new = new;
    settled = λ l. new-unchanged fold (rewritten fold rule) (elements_by (both_done fold rule)) (new l);
    unchanged = λ fs e. new-unchanged fold rule fs e;
    sixteen = (λ h. changed h.0 h.1, refused_so);
    front_step = λ ks s ss a b e text. front_step ks fold s ss a b e text;
    back_step = λ ks ss s a b e text. back_step ks fold ss s a b e text;
    front_ends = front_ends;
    back-starts = λ ks text. back-keeps-starts ks fold (front_done fold rule) text;
    front-text-ends = λ l ks text. ap (λ (p : Parsed). ends (fitting ks (positions_by fold p)) text) (front_parses fold rule es bytes ok l) ∙ front_ends ks text;
    back-text-starts = λ l m ks text.
        ap (λ (p : Parsed). starts (fitting ks (positions_by fold p)) text) (new m)
        ∙ back-keeps-starts ks fold (front_done fold rule) text
        ∙ sym (ap (λ (p : Parsed). starts (fitting ks (positions_by fold p)) text) (front_parses fold rule es bytes ok l));
  }
