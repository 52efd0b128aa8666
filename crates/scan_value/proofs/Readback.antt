-- A scan value read back after D and its plan's part were written. On plain values. Assumes nothing.
use mathlib.Core.Path.{◌≡◌, sym, ap, ap₂, ◌∙◌}
use mathlib.Core.Bool.{true}
use mathlib.Core.List.{List, ◌++◌}
use Prim.Native.Nat.{ℕ, ◌+◌, ◌-◌, ◌≤◌, ◌<◌}
use native.Mathlib.Omega.{arith}
use lib.ListN.{length, take, get_or, length-append}
use lib.Seq.{take_at, drop_at, take-take}
use borrow.Rule.Slice.PartMut.{put_mid, mid_of}
use borrow.Author.Tests.{eq-eqb}
use Rattle.model.specs.RuleText.{position_limit}
use Rattle.model.specs.NumberedAnswers.{text_limit}
use Rattle.model.specs.References.{form_limit, held_most, held_tail}
use Rattle.model.proofs.LentLists.{put_rest, front-sets}
use Rattle.shift_and_wide.specs.declared.Wide.{Wide}
use Rattle.shift_and_wide.specs.Wides.{words}
use Rattle.rule_part.specs.RulePart.{rule_length, state_at, WordsPut, with_state, automaton_of_rule, state_of, possible_rule}
use Rattle.rule_part.proofs.RuleFields.{rule-possible, state-long, state-automaton, state-count, state-is}
use Rattle.plan_part.specs.PlanPart.{plan_length, finished_of, raw_of, decoded_of, held_bytes_of, plan_fields, possible_plan}
use Rattle.plan_part.proofs.Readback.{fields_long, fields_finished, fields_raw, fields_decoded, fields_held, fields_possible}
use Rattle.scan_value.specs.Value.{scan_length, rule_of, plan_of, positions_in, automaton_in, state_in, finished_in, raw_in, decoded_in, held_in, possible, written}
use Rattle.scan_value.proofs.Checks.{rule-long, plan-long, plan-lent}

-- a value from its two parts
module _ (r p : List ℕ) (lr : length r ≡ rule_length) (lp : length p ≡ plan_length) where
  pub value-long : length (r ++ p) ≡ scan_length
  value-long = omega (arith, length-append r p)

  pub value-rule : rule_of (r ++ p) ≡ r
  value-rule = take_at r p rule_length lr

  pub value-plan : plan_of (r ++ p) ≡ p
  value-plan = drop_at r p rule_length lr

  pub value-possible : possible_rule r ≡ true → possible_plan p ≡ true → possible (r ++ p) ≡ true
  unfolding possible
  value-possible a b = simp (eq-eqb (length (r ++ p)) scan_length value-long, value-rule, value-plan, a, b)

module _ (s : List ℕ) (long : length s ≡ scan_length) (d : Wide) (f r c : ℕ) (h : List ℕ) where
  state-part : length (with_state (rule_of s) d) ≡ rule_length
  state-part = state-long (rule_of s) d (rule-long s long) ∙ rule-long s long

  written-rule : rule_of (written s d f r c h) ≡ with_state (rule_of s) d
  unfolding written
  written-rule = value-rule (with_state (rule_of s) d) (plan_fields f r c h) state-part (fields_long f r c h)

  written-plan : plan_of (written s d f r c h) ≡ plan_fields f r c h
  unfolding written
  written-plan = value-plan (with_state (rule_of s) d) (plan_fields f r c h) state-part (fields_long f r c h)

  pub written-long : length (written s d f r c h) ≡ scan_length
  unfolding written
  written-long = value-long (with_state (rule_of s) d) (plan_fields f r c h) state-part (fields_long f r c h)

  pub written-automaton : automaton_in (written s d f r c h) ≡ automaton_in s
  written-automaton = ap automaton_of_rule written-rule ∙ state-automaton (rule_of s) d (rule-long s long)

  pub written-state : state_in (written s d f r c h) ≡ d
  written-state = ap state_of written-rule ∙ state-is (rule_of s) d (rule-long s long)

  pub written-finished : finished_in (written s d f r c h) ≡ f
  written-finished = ap finished_of written-plan ∙ fields_finished f r c h

  pub written-raw : raw_in (written s d f r c h) ≡ r
  written-raw = ap raw_of written-plan ∙ fields_raw f r c h

  pub written-decoded : decoded_in (written s d f r c h) ≡ c
  written-decoded = ap decoded_of written-plan ∙ fields_decoded f r c h

  module _ (few : length h ≤ held_most form_limit) (b : (i : ℕ) → get_or h i 0 < 256) where
    pub written_held : held_in (written s d f r c h) ≡ h
    written_held = ap held_bytes_of written-plan ∙ fields_held f r c h few b

    -- A value so written is possible again.
    pub written-possible : held_tail form_limit h ≡ h → 1 ≤ positions_in s → positions_in s ≤ position_limit → f ≤ 1 → r ≤ text_limit → c + length h ≤ r
        → possible (written s d f r c h) ≡ true
    unfolding written
    written-possible t some most one raw sum =
        let n = state-count (rule_of s) d (rule-long s long) in
        value-possible (with_state (rule_of s) d) (plan_fields f r c h) state-part (fields_long f r c h)
        (rule-possible (with_state (rule_of s) d) (omega arith) (omega arith))
        (fields_possible f r c h few b t one raw sum)

-- ---- `put`: D is stored, and then the plan's part comes back written

module _ (s : List ℕ) (long : length s ≡ scan_length) (d : Wide) (s₁ : List ℕ) (x : WordsPut s state_at d s₁) where
  long₁ : length s₁ ≡ scan_length
  long₁ = x.long ∙ long

  pub plan_after : length (mid_of rule_length (length s₁ - rule_length) s₁) ≡ plan_length
  plan_after = ap length (plan-lent s₁ long₁) ∙ plan-long s₁ long₁

  rule-after : take rule_length s₁ ≡ with_state (rule_of s) d
  unfolding with_state
  rule-after =
      ap (take rule_length) x.list ∙ front-sets s state_at (words d) (omega arith)
      ∙ ap (λ (l : List ℕ). l ++ words d) (sym (take-take state_at rule_length s (omega arith)))

  pub put_is : (f r c : ℕ) (h p : List ℕ) → p ≡ plan_fields f r c h → put_mid rule_length (length s₁ - rule_length) s₁ p ≡ written s d f r c h
  unfolding written
  put_is f r c h p e = put_rest s₁ rule_length p ∙ ap₂ (λ (x y : List ℕ). x ++ y) rule-after e

  pub put_same : (f r c : ℕ) (h p : List ℕ) → p ≡ plan_fields f r c h → length (put_mid rule_length (length s₁ - rule_length) s₁ p) ≡ length s
  put_same f r c h p e = ap length (put_is f r c h p e) ∙ written-long s long d f r c h ∙ sym long
