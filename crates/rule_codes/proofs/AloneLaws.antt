-- "a position holds codes alone", element by element, and what a rule with codes is answered. On plain values. Assumes nothing.
use mathlib.Core.Path.{◌≡◌, sym, ap, ap₂, subst, ◌∙◌}
use mathlib.Core.Bool.{Bool, true, false, cond, ◌||◌}
use mathlib.Core.List.{List, ◌∷◌}
use Prim.Native.Nat.{ℕ, ◌+◌, ◌-◌, ◌^◌, ◌≤◌, ◌<◌}
use native.Mathlib.Omega.{arith}
use lib.Dec.{T}
use lib.ListN.{length, drop, drop_of_length-le}
use Rattle.model.specs.Occurrence.{Position, all as every}
use Rattle.model.specs.RefusalNumbers.{codes_fault}
use Rattle.model.specs.RuleText as Model
use Rattle.model.specs.RuleText.{fold_flag, position_limit, is_byte, positions, kind_positions}
use Rattle.model.specs.NumberedAnswers.{Parsed, refused, accepted, elements_from, positions_by, rule_positions}
use Rattle.model.specs.Codes.{codes_alone, codes_wrong, codes_refused, or_codes, parse_with}
use Rattle.model.proofs.CodeLaws.{alone-append, no_codes_alone}
use Rattle.byte_set.specs.Sets.{none}
use Rattle.answers.specs.declared.Refusal.{Refusal}
use Rattle.answers.specs.declared.Refusal.TheVariants.{CodesFault}
use Rattle.answers.specs.declared.Refused.{Refused}
use Rattle.answers.specs.Answers.{refused_at}
use Rattle.rule_element.specs.declared.Kind.{Kind}
use Rattle.rule_element.specs.declared.Element.{Element}
use Rattle.std.specs.Prelude.{Ok, Err}
use Rattle.rule_element.specs.Reading.{kind_of, size_of, ElementMoves, ReadsElement}
use Rattle.rule_parser.specs.declared.Prepared.{Prepared}
use Rattle.rule_parser.specs.Preparing.{PreparedRule, RuleRefused}
use Rattle.rule_element.proofs.RuleReading.{Found, moved, element-found, elements-over, elements_never, elements-after}
use Rattle.rule_table.proofs.FillLaws.{Accepts, accepts}
use Rattle.code_list.proofs.CodeLists.{codes_few}
use Rattle.rule_codes.specs.RuleCodes.{add_codes, kind_alone, OfByte, KindAloneIs, Judgeable, PreparedWith, RefusedWith}
use Rattle.rule_codes.proofs.CodeSets.{kind-is-alone}

-- ---- `some_alone`: no element so far

pub record Judging (fold : Bool) (s codes : List ℕ) (all : List Position) (at used : ℕ) : Type 0 where
  pub left : List Model.Element
  pub rest : elements_from position_limit fold 0 at used (drop at s) ≡ accepted left
  pub within : used ≤ position_limit
  pub alone : codes_alone codes (positions fold left) ≡ codes_alone codes all

module _ (flag : ℕ) (s codes : List ℕ) (h : Judgeable flag s codes) where
  judged_rule : Accepts (fold_flag flag) s
  judged_rule = accepts (fold_flag flag) s h.elements h.parses

  pub judge_begun : (f : Bool) → f ≡ fold_flag flag → Judging f s codes (rule_positions (fold_flag flag) s) 0 0
  judge_begun f ef = record {
    left = judged_rule.elements;
    rest = ap (λ (b : Bool). elements_from position_limit b 0 0 0 s) ef ∙ judged_rule.reads;
    within = omega arith;
    alone = ap (λ (b : Bool). codes_alone codes (positions b judged_rule.elements)) ef ∙ sym (ap (λ (p : Parsed). codes_alone codes (positions_by (fold_flag flag) p)) judged_rule.parses);
  }

  module _ (f : Bool) (all : List Position) (at used : ℕ) (g : Judging f s codes all at used) where
    pub judge_over : length s ≤ at → false ≡ codes_alone codes all
    judge_over l = sym (ap (λ (es : List Model.Element). codes_alone codes (positions f es)) (elements-over f s at used g.left g.rest l)) ∙ g.alone

    module _ (l : at < length s) where
      pub judge_never : (x : Refusal) → ReadsElement f used s at (Err x) → false ≡ codes_alone codes all
      judge_never x r = elements_never f s at used g.left g.rest l x r

      module _ (element : Element) (to : ℕ) (rc : ReadsElement f used s at (Ok (element, to))) where
        abbrev found : Found f used s at l element to rc
        found = element-found f used s at l element to rc

        moves : ElementMoves used s at element to
        moves = moved f used s at l element to rc

        pub judge_less : length s - to < length s - at
        judge_less = omega (arith, moves.ahead, moves.inside)

        pub judge_room : (n : ℕ) → n ≡ size_of element.kind → used + n < 2 ^ 32
        judge_room n e = omega (arith, moves.room)

        after : (fs : List Model.Element) × (elements_from position_limit f 0 to (used + size_of element.kind) (drop to s) ≡ accepted fs) × (record { kind = found.kind; often = found.often } ∷ fs ≡ g.left)
        after = elements-after f s at used g.left g.rest l element to rc

        module _ (b : Bool) (v : List ℕ) (ev : v ≡ add_codes none codes) (a : KindAloneIs f element.kind v b) where
          same_kind : element.kind ≡ kind_of f found.kind
          same_kind = ap (λ (y : Element). y.kind) found.is-element

          -- what it makes
          kind-alone : codes_alone codes (kind_positions f found.kind found.often) ≡ b
          kind-alone =
              kind-is-alone codes h.few f found.kind found.often (subst (λ (k : Kind). OfByte k) same_kind a.byte)
              ∙ sym (a.is ∙ ap₂ (kind_alone f) same_kind ev)

          split : codes_alone codes (positions f g.left) ≡ (b || codes_alone codes (positions f after.0))
          split =
              ap (λ (es : List Model.Element). codes_alone codes (positions f es)) (sym after.2)
              ∙ alone-append codes (kind_positions f found.kind found.often) (positions f after.0)
              ∙ ap (λ (x : Bool). x || codes_alone codes (positions f after.0)) kind-alone

          pub judge_alone : b ≡ true → true ≡ codes_alone codes all
          judge_alone t = sym (split ∙ ap (λ (x : Bool). x || codes_alone codes (positions f after.0)) t) ∙ g.alone

          pub judge_on : b ≡ false → (n : ℕ) → n ≡ size_of element.kind → Judging f s codes all to (used + n)
          judge_on t n en = rw en (record {
            left = after.0;
            rest = after.1;
            within = moves.room;
            alone = sym (split ∙ ap (λ (x : Bool). x || codes_alone codes (positions f after.0)) t) ∙ g.alone;
          })

  -- ---- `alone`

  pub none_named : length codes ≡ 0 → T (every is_byte s) → false ≡ codes_alone codes (rule_positions (fold_flag flag) s)
  none_named z bytes = sym (ap (λ (cs : List ℕ). codes_alone cs (rule_positions (fold_flag flag) s)) (drop_of_length-le codes {i = 0} (omega arith)) ∙ no_codes_alone (fold_flag flag) s bytes judged_rule.elements judged_rule.parses)

-- ---- `prepare`

module _ (flag : ℕ) (rule codes sets : List ℕ) where
  pub refused-before : (e : Refused) → RuleRefused flag rule e → RefusedWith flag rule codes sets e
  refused-before e r = record { is = ap (or_codes (fold_flag flag) codes sets) r.is }

  module _ (p : Prepared) (hp : PreparedRule flag rule p) where
    pub judgeable : (b : Bool) → b ≡ codes_wrong codes sets → b ≡ false → Judgeable flag rule codes
    judgeable b e f = record { elements = hp.elements; parses = hp.parses; few = codes_few codes sets (sym e ∙ f) }

    -- what the codes beside it add
    by_codes : (b : Bool) → codes_refused codes sets (rule_positions (fold_flag flag) rule) ≡ b → parse_with (fold_flag flag) rule codes sets ≡ cond b (refused codes_fault 0) (accepted hp.elements)
    by_codes b e =
        ap (or_codes (fold_flag flag) codes sets) hp.parses
        ∙ ap (λ (x : Bool). cond x (refused codes_fault 0) (accepted hp.elements)) (sym (ap (λ (x : Parsed). codes_refused codes sets (positions_by (fold_flag flag) x)) hp.parses) ∙ e)

    fault : codes_refused codes sets (rule_positions (fold_flag flag) rule) ≡ true → (r : Refused) → r ≡ refused_at CodesFault 0 → RefusedWith flag rule codes sets r
    fault e r er = rw er (record { is = by_codes true e })

    module _ (b : Bool) (eb : b ≡ codes_wrong codes sets) where
      pub codes_wrong_lem : b ≡ true → (r : Refused) → r ≡ refused_at CodesFault 0 → RefusedWith flag rule codes sets r
      codes_wrong_lem t r er = fault (ap (λ (x : Bool). x || codes_alone codes (rule_positions (fold_flag flag) rule)) (sym eb ∙ t)) r er

      module _ (f : b ≡ false) (a : Bool) (ea : a ≡ codes_alone codes (rule_positions (fold_flag flag) rule)) where
        refused-is : codes_refused codes sets (rule_positions (fold_flag flag) rule) ≡ a
        refused-is = ap₂ (λ (x y : Bool). x || y) (sym eb ∙ f) (sym ea)

        pub codes_alone_lem : a ≡ true → (r : Refused) → r ≡ refused_at CodesFault 0 → RefusedWith flag rule codes sets r
        codes_alone_lem t r er = fault (refused-is ∙ t) r er

        pub all-accepted : a ≡ false → PreparedWith flag rule codes sets p
        all-accepted t = record { rule-is = hp; parses = by_codes false (refused-is ∙ t); codes_fine = sym eb ∙ f }
