-- The laws of `folds`, `required` and `read_stored`. On plain values. Assumes nothing.
use mathlib.Core.Path.{◌≡◌, refl, sym, ap, ap₂, ◌∙◌}
use mathlib.Core.List.{List, [], ◌∷◌}
use mathlib.Core.Bool.{Bool, true, false}
use Prim.Native.Nat.{ℕ, suc, ◌+◌, ◌-◌, ◌*◌, ◌^◌, ◌≤◌, ◌<◌}
use native.Mathlib.Omega.{arith}
use native.Mathlib.Nat.{zero-add}
use lib.ListN.{length}
use lib.Bits.{bit_or, or_zero_l}
use lib.Pow.{pow_pos}
use borrow.Author.Tests.{eq-eqb, ne_eqb, lt-ltb, le-ltb}
use Rattle.model.specs.Occurrence.{Position, shortest}
use Rattle.model.specs.RuleText.{fold_flag, rule_limit, position_limit, positions}
use Rattle.model.specs.Spelling.{spelled}
use Rattle.model.specs.NumberedAnswers.{refused, accepted, or_empty, parse_stored}
use Rattle.answers.specs.declared.Refusal.{Refusal}
use Rattle.answers.specs.declared.Refusal.TheVariants.{RuleEmpty, RuleLong, AdmitsEmpty}
use Rattle.answers.specs.declared.Refused.{Refused}
use Rattle.answers.specs.Answers.{number_of, refused_at}
use Rattle.shift_and.specs.ForwardStep as Step
use Rattle.shift_and.specs.Masks.{mask_from, optional_mask, repeats_mask}
use Rattle.shift_and.proofs.Bridge.{shortest-is}
use Rattle.shift_and.proofs.MaskLaws.{mask_fits}
use Rattle.shift_and_wide.specs.declared.Wide.{Wide}
use Rattle.shift_and_wide.specs.Wides.{number, words_of, no_bits, ones_from, laid_on}
use Rattle.shift_and_wide.proofs.Masks.{number-words, number_laid, number-none, none-fits}
use Rattle.rule_parser.specs.declared.RuleMasks.{RuleMasks}
use Rattle.rule_parser.specs.declared.ReadRule.{ReadRule}
use Rattle.rule_parser.specs.declared.Prepared.{Prepared}
use Rattle.rule_parser.specs.Gathering.{is_optional, is_repeating, required_of, last_place, rule_elements, Gathers, ReadRefused}
use Rattle.rule_parser.specs.Preparing.{answer_of, Stores, StoredRefused}

-- ---- `folds`, `required`

pub folds_not : (flag : ℕ) → flag ≡ 0 → false ≡ fold_flag flag
folds_not flag e = rw e

pub folds_so : (flag : ℕ) → (flag ≡ 0 → ⊥) → true ≡ fold_flag flag
folds_so flag n = rw (ne_eqb _ _ n)

pub required_is : (t : RuleMasks) (none all : Wide) (m : ℕ) → t.positions ≤ position_limit → none ≡ no_bits → all ≡ laid_on none t.positions 1 → m ≡ Step.shortest 256 (number all) (number t.optional) → m ≡ required_of t
required_is t none all m l en ea em = em ∙ ap (λ (x : ℕ). Step.shortest 256 x (number t.optional)) (ap number (ea ∙ ap (λ (x : Wide). laid_on x t.positions 1) en) ∙ number_laid no_bits t.positions 1 none-fits (omega arith) ∙ ap (λ (x : ℕ). bit_or x (ones_from t.positions 1)) number-none ∙ or_zero_l _)

-- the mask of all positions
all-mask : (ps : List Position) → mask_from (λ p. true) ps ≡ 2 ^ length ps - 1
unfolding mask_from
all-mask [] = refl
all-mask (p ∷ ps) = let e = all-mask ps in let l = pow_pos (length ps) in let g : mask_from (λ p. true) ps * 2 + 1 ≡ 2 ^ suc (length ps) - 1 = omega arith in g

same_answer : {n n' m m' : ℕ} {x x' y y' : Wide} → n ≡ n' → m ≡ m' → x ≡ x' → y ≡ y'
    → ◌≡◌ {A = Prepared} (record { positions = n; shortest = m; optional = x; repeats = y }) (record { positions = n'; shortest = m'; optional = x'; repeats = y' })
same_answer a b c d = rw (a, b, c, d)

-- ---- the returns of `read_stored`

module _ (flag : ℕ) (s : List ℕ) where
  refuses : (x : Refusal) (p : ℕ) (e : Refused) → e ≡ refused_at x p → parse_stored (fold_flag flag) s ≡ refused (number_of x) p → StoredRefused flag s e
  refuses x p e q z = rw q (record { is = z })

  pub prepare_none : length s ≡ 0 → (e : Refused) → e ≡ refused_at RuleEmpty 0 → StoredRefused flag s e
  prepare_none n e q = refuses RuleEmpty 0 e q (rw (eq-eqb _ _ n))

  module _ (n : length s ≡ 0 → ⊥) where
    pub prepare_long : rule_limit < length s → (e : Refused) → e ≡ refused_at RuleLong rule_limit → StoredRefused flag s e
    prepare_long l e q = refuses RuleLong rule_limit e q (rw (ne_eqb _ _ n, lt-ltb _ _ l))

    module _ (l : length s ≤ rule_limit) (f : Bool) (ef : f ≡ fold_flag flag) where
      by_elements : parse_stored (fold_flag flag) s ≡ or_empty f s (rule_elements f s)
      by_elements = rw (← ef, ne_eqb _ _ n, le-ltb _ _ l)

      pub prepare_refused : (e : Refused) → ReadRefused f s e → StoredRefused flag s e
      prepare_refused e r = record { is = by_elements ∙ ap (or_empty f s) r.is }

      module _ (r : ReadRule) (g : Gathers f s r) where
        pub few-positions : r.masks.positions ≤ position_limit
        few-positions = g.few

        module _ (m : ℕ) (em : m ≡ required_of r.masks) where
          ps : List Position
          ps = positions f g.elements

          is-positions : r.masks.positions ≡ length ps
          unfolding ps
          is-positions = ap (λ (y : RuleMasks). y.positions) g.masks ∙ zero-add _

          few : length ps < 256
          few = omega (arith, few-positions, is-positions)

          above-none : (x : ℕ) → words_of (number no_bits + x * 2 ^ (0 + 1)) ≡ words_of (x * 2)
          above-none x = ap (λ (y : ℕ). words_of (y + x * 2 ^ (0 + 1))) number-none ∙ ap words_of (let z : 0 + x * 2 ^ (0 + 1) ≡ x * 2 = omega arith in z)

          is-optional : r.masks.optional ≡ words_of (optional_mask ps)
          unfolding ps
          is-optional = ap (λ (y : RuleMasks). y.optional) g.masks ∙ above-none (mask_from is_optional ps)

          is-repeats : r.masks.repeats ≡ words_of (repeats_mask ps)
          unfolding ps
          is-repeats = ap (λ (y : RuleMasks). y.repeats) g.masks ∙ above-none (mask_from is_repeating ps)

          is-shortest : m ≡ shortest ps
          is-shortest =
              em
              ∙ ap₂ (λ (x y : ℕ). Step.shortest 256 x y) (ap (λ (x : ℕ). (2 ^ x - 1) * 2) is-positions ∙ ap (λ (x : ℕ). x * 2) (sym (all-mask ps)))
              (ap number is-optional ∙ number-words (optional_mask ps) (mask_fits 256 is_optional ps few))
              ∙ shortest-is 256 ps few

          by_positions : parse_stored (fold_flag flag) s ≡ or_empty f s (accepted g.elements)
          by_positions = by_elements ∙ ap (or_empty f s) g.reads

          pub prepare_bare : m ≡ 0 → (e : Refused) → e ≡ refused_at AdmitsEmpty (length s) → StoredRefused flag s e
          unfolding ps
          prepare_bare z e q = refuses AdmitsEmpty (length s) e q (by_positions ∙ rw (eq-eqb _ _ (sym is-shortest ∙ z)))

          pub prepare_good : (m ≡ 0 → ⊥) → Stores flag s (record { prepared = record { positions = r.masks.positions; shortest = m; optional = r.masks.optional; repeats = r.masks.repeats }; last = r.last })
          unfolding ps
          prepare_good k = record {
            prepared = record {
              elements = g.elements;
              parses = by_positions ∙ rw (ne_eqb _ _ (λ z. k (is-shortest ∙ z)));
              is = same_answer is-positions is-shortest is-optional is-repeats ∙ ap (λ (b : Bool). answer_of (positions b g.elements)) ef;
              few = g.few;
            };
            last-is = g.last-is ∙ ap (λ (b : Bool). last_place 0 (spelled b s)) ef;
            near = omega (arith, g.inside);
          }
