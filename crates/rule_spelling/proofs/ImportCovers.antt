-- Note 2's theorem on LIKE: `import_covers`. Assumes nothing.
use mathlib.Core.Path.{◌≡◌, refl, sym, ap, subst, ◌∙◌}
use mathlib.Core.Logic.{◌↔◌}
use mathlib.Core.Bool.{Bool, false, cond}
use mathlib.Core.List.{List}
use Prim.Native.Nat.{ℕ, suc}
use native.Mathlib.Omega.{arith}
use lib.Dec.{T, ltb, eqb}
use lib.ListN.{length}
use borrow.Author.Tests.{le-ltb}
use Rattle.model.specs.RefusalNumbers.{too_much}
use Rattle.model.specs.Occurrence.{Position, all}
use Rattle.model.specs.RuleText.{is_byte, rule_limit, position_limit, Element}
use Rattle.model.specs.NumberedAnswers.{text_limit, Parsed, refused, accepted, parse, positions_by, rule_positions, TextAnswer, turns_down, writes}
use Rattle.model.specs.WholeNames.{covers, turns_down, says, covered_by}
use Rattle.model.specs.Like.{LikeItem, Like, is_like, LikePattern, misspelt, pattern, like, like_text, import_text, import_items, imported}
use Rattle.model.proofs.Truth.{same_test, branch}
use Rattle.model.proofs.Decided.{occurrence_decided}
use Rattle.model.proofs.Accepted.{accepted_inj, not_refused}
use Rattle.rule_spelling.specs.LikeRules.{like_elements, singles, like_parsed, ImportCovers}
use Rattle.rule_spelling.proofs.LikeTest.{like-decided}
use Rattle.rule_spelling.proofs.LikeRules.{like_positions, like-occurs, occurs-like, like_parses}

not_written : {A : Type 0} {m p : ℕ} {xs : List ℕ} → turns_down m p ≡ writes xs → A
not_written e = let z : ◌≡◌ {A = ℕ} 0 1 = cc in absurd (omega arith)

-- An accepted text of items has their elements.
parsed-elements : (is : List LikeItem) (es : List Element) → like_parsed is ≡ accepted es → like_elements is ≡ es
parsed-elements is es e =
    branch (eqb (length (like_text is)) 0) e (λ t q. not_refused q) λ t e.
    branch (ltb rule_limit (length (like_text is))) e (λ t q. not_refused q) λ t e.
    branch (ltb position_limit (length is)) e (λ t q. not_refused q) λ t e.
    branch (eqb (singles is) 0) e (λ t q. not_refused q) λ t e.
    accepted_inj e

module _ (is : List LikeItem) where
  abbrev ps : List Position
  ps = like_positions is

  covers-exactly : (name : List ℕ) → T (all is_byte name) → T (covers ps name) ↔ Like is name
  covers-exactly name bytes = let d = occurrence_decided ps name in (λ t. like-occurs is name (d.0 t), λ h. d.1 (occurs-like bytes h))

  covers-says : (name : List ℕ) → T (all is_byte name) → covers ps name ≡ is_like is name
  covers-says name bytes =
      let c = covers-exactly name bytes in
      let d = like-decided is name in
      same_test (covers ps name) (is_like is name) (λ t. d.1 (c.0 t), λ t. c.1 (d.0 t))

  -- from the rule that was written
  covered_so : (cs text : List ℕ) → like cs ≡ pattern is → ((fold : Bool) → parse fold text ≡ accepted (like_elements is)) → ImportCovers cs text
  covered_so cs text r e =
      let q : rule_positions false text ≡ ps = ap (positions_by false) (e false) in
      record {
        items = is;
        reads = r;
        rule = e;
        exactly = λ name bytes. subst (λ (l : List Position). T (covers l name) ↔ Like is name) (sym q) (covers-exactly name bytes);
        decided = like-decided is;
        answer = λ name bytes short.
            ap (λ (p : Parsed). covered_by false p name) (e false)
            ∙ ap (λ (b : Bool). cond b (turns_down too_much 0) (says (covers ps name))) (le-ltb text_limit (length name) short)
            ∙ ap says (covers-says name bytes);
      }

-- Of every pattern that the importer takes.
pub import_covers : (cs : List ℕ) (lent : ℕ) (text : List ℕ) → imported cs lent ≡ writes text → ImportCovers cs text
import_covers cs lent text e =
    branch (ltb lent rule_limit) e (λ t q. not_written q) λ t e.
    branch (ltb text_limit (length cs)) e (λ t q. not_written q) λ t e.
    by_pattern (like cs) refl e
  where
    by_parse : (is : List LikeItem) → like cs ≡ pattern is → (p : Parsed) → parse false (like_text is) ≡ p → import_text (like_text is) p ≡ writes text → ImportCovers cs text
    by_parse is r (refused n p) q e = not_written e
    by_parse is r (accepted es) q e =
        let same : like_text is ≡ text = cc in
        let z = parsed-elements is es (sym (like_parses false is) ∙ q) in
        covered_so is cs text r (λ fold. ap (parse fold) (sym same) ∙ like_parses fold is ∙ sym (like_parses false is) ∙ q ∙ ap accepted (sym z))

    by_pattern : (p : LikePattern) → like cs ≡ p → import_items p ≡ writes text → ImportCovers cs text
    by_pattern (misspelt k) r e = not_written e
    by_pattern (pattern is) r e = by_parse is r (parse false (like_text is)) refl e

-- A refusal has a number: the theorem is of every answer with number 0.
pub import_refused : (cs : List ℕ) (lent n p : ℕ) → imported cs lent ≡ turns_down n p → n ≡ 0 → ⊥
import_refused cs lent n p e z =
    branch (ltb lent rule_limit) e (λ t q. not_none q) λ t e.
    branch (ltb text_limit (length cs)) e (λ t q. not_none q) λ t e.
    by_pattern (like cs) e
  where
    not_none : {k m : ℕ} → ◌≡◌ {A = TextAnswer} (turns_down (suc k) m) (turns_down n p) → ⊥
    not_none {k} {m} q = let x : suc k ≡ n = cc in omega arith

    by_parse : (is : List LikeItem) → (x : Parsed) → like_parsed is ≡ x → import_text (like_text is) x ≡ turns_down n p → ⊥
    by_parse is (accepted es) q e = let x : ◌≡◌ {A = ℕ} 0 1 = cc in omega arith
    by_parse is (refused m k) q e =
        branch (eqb (length (like_text is)) 0) q (λ t r. not_none (ap (import_text (like_text is)) r ∙ e)) λ t q.
        branch (ltb rule_limit (length (like_text is))) q (λ t r. not_none (ap (import_text (like_text is)) r ∙ e)) λ t q.
        branch (ltb position_limit (length is)) q (λ t r. not_none (ap (import_text (like_text is)) r ∙ e)) λ t q.
        branch (eqb (singles is) 0) q (λ t r. not_none (ap (import_text (like_text is)) r ∙ e)) λ t q.
        not_refused (sym q)

    by_pattern : (x : LikePattern) → import_items x ≡ turns_down n p → ⊥
    by_pattern (misspelt k) e = not_none e
    by_pattern (pattern is) e = by_parse is (like_parsed is) refl (ap (import_text (like_text is)) (sym (like_parses false is)) ∙ e)
