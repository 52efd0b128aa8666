-- A rule's part: what its checks find, what is written, and how it reads back. On plain values. Assumes nothing.
use mathlib.Core.Path.{◌≡◌, sym, ap, ap₂, ◌∙◌}
use mathlib.Core.Bool.{Bool, true, false, true≢false}
use mathlib.Core.List.{List, ◌∷◌, ◌++◌, append-nil}
use Prim.Native.Nat.{ℕ, suc, ◌+◌, ◌≤◌, ◌<◌}
use native.Mathlib.Omega.{arith}
use lib.Dec.{leb}
use lib.ListN.{length, take, get_or, set, length-append, length-set, drop_of_length-le}
use lib.Seq.{sets, sets-eq, length-sets, length-take-le, take_at, get_or-append-add, get_or-take, take-take}
use borrow.Author.Tests.{le-leb, lt-leb, leb-true}
use Rattle.model.specs.RuleText.{position_limit}
use Rattle.shift_and_wide.specs.declared.Wide.{Wide}
use Rattle.shift_and_wide.specs.declared.WideMasks.{WideMasks}
use Rattle.shift_and_wide.specs.Wides.{words}
use Rattle.shift_and_wide.specs.Stepping.{wide_automaton_of, opening_state_w}
use Rattle.shift_and_wide.proofs.Wides.{same}
use Rattle.rule_part.specs.RulePart.{table_length, repeats_at, optional_at, positions_at, state_at, rule_length, entries_of, words_at, count_of, masks_of, automaton_of_rule, state_of, possible_rule, RulePossibleIs, WordsPut, with_state, rule_fields, begun}

-- ---- `possible`

module _ (r : List ℕ) where
  pub no_position : count_of r < 1 → RulePossibleIs r false
  unfolding possible_rule
  no_position z = record { is = simp (lt-leb _ _ z); says = λ z. absurd (true≢false (sym z)) }

  pub positions_tested : 1 ≤ count_of r → (b : Bool) → b ≡ leb (count_of r) position_limit → RulePossibleIs r b
  unfolding possible_rule
  positions_tested a b e = record { is = simp (le-leb _ _ a) e; says = λ z. record { some = a; top = leb-true _ _ (sym e ∙ z) } }

  pub rule-possible : 1 ≤ count_of r → count_of r ≤ position_limit → possible_rule r ≡ true
  unfolding possible_rule
  rule-possible a b = simp (le-leb _ _ a, le-leb _ _ b)

-- ---- words stored

pub words_put : (r : List ℕ) (k : ℕ) (x : Wide) → WordsPut r k x (set (set (set (set r k x.w0) (k + 1) x.w1) (k + 2) x.w2) (k + 3) x.w3)
words_put r k x = record { list = is; long = ap length is ∙ length-sets r k (words x) }
  where
    is : set (set (set (set r k x.w0) (k + 1) x.w1) (k + 2) x.w2) (k + 3) x.w3 ≡ sets r k (words x)
    is =
        let e₁ : k + 1 ≡ suc k = omega arith in
        let e₂ : k + 2 ≡ suc (suc k) = omega arith in
        let e₃ : k + 3 ≡ suc (suc (suc k)) = omega arith in
        rw (e₁, e₂, e₃)

-- ---- `begin`

module _ (r : List ℕ) (m : WideMasks) (long : length r ≡ rule_length) (r₁ : List ℕ) (e₁ : WordsPut r repeats_at m.repeats r₁) (r₂ : List ℕ) (e₂ : WordsPut r₁ optional_at m.optional r₂) where
  pub state-fits : state_at + 4 ≤ length (set r₂ positions_at m.top)
  state-fits = omega (arith, length-set r₂ positions_at m.top, e₂.long, e₁.long)

  module _ (d : Wide) (ed : d ≡ opening_state_w (wide_automaton_of (entries_of r) m)) (r₃ : List ℕ) (e₃ : WordsPut (set r₂ positions_at m.top) state_at d r₃) where
    pub begin_long : length r₃ ≡ length r
    begin_long = e₃.long ∙ length-set r₂ positions_at m.top ∙ e₂.long ∙ e₁.long

    pub begin_is : r₃ ≡ begun r m
    unfolding rule_fields
    begin_is =
        let ws : List ℕ = words m.repeats ++ (words m.optional ++ (m.top ∷ words d)) in
        let full : length r ≤ repeats_at + length (words m.repeats ++ (words m.optional ++ (m.top ∷ words d))) = omega arith in
        e₃.list ∙ ap (λ (l : List ℕ). sets (set l positions_at m.top) state_at (words d)) (e₂.list ∙ ap (λ (l : List ℕ). sets l optional_at (words m.optional)) e₁.list)
        ∙ sets-eq ws r repeats_at (omega arith)
        ∙ ap (λ (x : List ℕ). take table_length r ++ ws ++ x) (drop_of_length-le r full)
        ∙ append-nil (take table_length r ++ ws)
        ∙ ap (λ (d : Wide). take table_length r ++ (words m.repeats ++ (words m.optional ++ (m.top ∷ words d)))) ed

-- ---- read back

module _ (t : List ℕ) (m : WideMasks) (d : Wide) (long : length t ≡ table_length) where
  pub fields_long : length (rule_fields t m d) ≡ rule_length
  unfolding rule_fields
  fields_long = omega (arith, length-append t (words m.repeats ++ (words m.optional ++ (m.top ∷ words d))))

  fields_table : entries_of (rule_fields t m d) ≡ t
  unfolding rule_fields
  fields_table = take_at t (words m.repeats ++ (words m.optional ++ (m.top ∷ words d))) table_length long

  field : (k : ℕ) → get_or (rule_fields t m d) (table_length + k) 0 ≡ get_or (words m.repeats ++ (words m.optional ++ (m.top ∷ words d))) k 0
  unfolding rule_fields
  field k = ap (λ (n : ℕ). get_or (rule_fields t m d) (n + k) 0) (sym long) ∙ get_or-append-add t (words m.repeats ++ (words m.optional ++ (m.top ∷ words d))) k 0

  fields_masks : masks_of (rule_fields t m d) ≡ m
  fields_masks = rw (field 0, field 1, field 2, field 3, field 4, field 5, field 6, field 7, field 8)

  pub fields_automaton : automaton_of_rule (rule_fields t m d) ≡ wide_automaton_of t m
  fields_automaton = ap₂ wide_automaton_of fields_table fields_masks

  pub fields_state : state_of (rule_fields t m d) ≡ d
  fields_state = same _ _ _ _ _ _ _ _ (field 9) (field 10) (field 11) (field 12)

-- ---- with another state

module _ (r : List ℕ) (d : Wide) (long : length r ≡ rule_length) where
  before : length (take state_at r) ≡ state_at
  before = length-take-le state_at r (omega arith)

  pub state-long : length (with_state r d) ≡ length r
  unfolding with_state
  state-long = omega (arith, before, length-append (take state_at r) (words d))

  fields_before : take state_at (with_state r d) ≡ take state_at r
  unfolding with_state
  fields_before = take_at (take state_at r) (words d) state_at before

  state-table : entries_of (with_state r d) ≡ entries_of r
  state-table = sym (take-take table_length state_at (with_state r d) (omega arith)) ∙ ap (take table_length) fields_before ∙ take-take table_length state_at r (omega arith)

  state_other : (k : ℕ) → k < state_at → get_or (with_state r d) k 0 ≡ get_or r k 0
  state_other k l = sym (get_or-take state_at (with_state r d) k 0 l) ∙ ap (λ (x : List ℕ). get_or x k 0) fields_before ∙ get_or-take state_at r k 0 l

  words_other : (k : ℕ) → k + 4 ≤ state_at → words_at k (with_state r d) ≡ words_at k r
  words_other k l =
      same _ _ _ _ _ _ _ _ (state_other k (omega arith)) (state_other (k + 1) (omega arith)) (state_other (k + 2) (omega arith)) (state_other (k + 3) (omega arith))

  pub state-count : count_of (with_state r d) ≡ count_of r
  state-count = state_other positions_at (omega arith)

  state_masks : masks_of (with_state r d) ≡ masks_of r
  state_masks = rw (words_other repeats_at (omega arith), words_other optional_at (omega arith), state-count)

  pub state-automaton : automaton_of_rule (with_state r d) ≡ automaton_of_rule r
  state-automaton = ap₂ wide_automaton_of state-table state_masks

  state_field : (k : ℕ) → get_or (with_state r d) (state_at + k) 0 ≡ get_or (words d) k 0
  unfolding with_state
  state_field k = ap (λ (n : ℕ). get_or (with_state r d) (n + k) 0) (sym before) ∙ get_or-append-add (take state_at r) (words d) k 0

  pub state-is : state_of (with_state r d) ≡ d
  state-is = same _ _ _ _ _ _ _ _ (state_field 0) (state_field 1) (state_field 2) (state_field 3)
