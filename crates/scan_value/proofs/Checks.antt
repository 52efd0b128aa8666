-- What the checks of a scan value find. On plain values. Assumes nothing.
use mathlib.Core.Path.{◌≡◌, sym, ap, subst, ◌∙◌}
use mathlib.Core.Bool.{Bool, true, false, true≢false}
use mathlib.Core.List.{List}
use Prim.Native.Nat.{ℕ, ◌+◌, ◌-◌, ◌≤◌, ◌<◌}
use native.Mathlib.Omega.{arith}
use lib.ListN.{length, drop, get_or, length-drop}
use lib.Seq.{take_all, get_or-take, get_or-drop, length-take-le}
use borrow.Rule.Slice.PartMut.{mid_of}
use borrow.Author.Tests.{eq-eqb, ne_eqb}
use Rattle.piece_decoder.specs.declared.held.Held.{Held}
use Rattle.shift_and_wide.specs.declared.Wide.{Wide}
use Rattle.shift_and_wide.proofs.Wides.{same}
use Rattle.std.specs.Prelude.{Result, MatchResult}
use Rattle.std.proofs.lemmas.Result.{MatchResult-weaker}
use Rattle.answers.specs.declared.Refusal.{Refusal}
use Rattle.answers.specs.declared.Refusal.TheVariants.{Impossible}
use Rattle.rule_part.specs.RulePart.{repeats_at, optional_at, positions_at, rule_length, state_at, words_at, RulePossibleIs}
use Rattle.plan_part.specs.PlanPart.{plan_length, raw_at, decoded_at, held_count_at, LoadFine, LoadIs, PlanPossible, PlanPossibleIs, PlanAccepts, plan_refusal, PlanLetsIn, PlanTurnsDown}
use Rattle.scan_value.specs.Value.{scan_length, rule_of, plan_of, low_masks_in, state_in, raw_in, read_in, decoded_in, held_count_in, possible, Possible, PossibleIs, number_for, LetsIn, TurnsDown}

-- ---- the two parts

-- the part that is lent, from the plan's first field to the end
abbrev pub lent : List ℕ → List ℕ
lent s = mid_of rule_length (length s - rule_length) s

module _ (s : List ℕ) (long : length s ≡ scan_length) where
  pub rule-long : length (rule_of s) ≡ rule_length
  rule-long = length-take-le rule_length s (omega arith)

  pub plan-long : length (plan_of s) ≡ plan_length
  plan-long = omega (arith, length-drop rule_length s)

  pub plan-lent : lent s ≡ plan_of s
  plan-lent = take_all (length s - rule_length) (drop rule_length s) (omega (arith, length-drop rule_length s))

-- ---- a field by itself

module _ (s : List ℕ) where
  pub state_read : (d : Wide) → d ≡ words_at state_at s → d ≡ state_in s
  state_read d e =
      let at : (k : ℕ) → k < rule_length → get_or s k 0 ≡ get_or (rule_of s) k 0 = λ k h. sym (get_or-take rule_length s k 0 h) in
      e ∙ same _ _ _ _ _ _ _ _ (at state_at (omega arith)) (at (state_at + 1) (omega arith)) (at (state_at + 2) (omega arith)) (at (state_at + 3) (omega arith))

  pub low_masks_read : record { repeats = get_or s repeats_at 0; optional = get_or s optional_at 0; top = get_or s positions_at 0 } ≡ low_masks_in s
  low_masks_read =
      let at : (k : ℕ) → k < rule_length → get_or s k 0 ≡ get_or (rule_of s) k 0 = λ k h. sym (get_or-take rule_length s k 0 h) in
      rw (at repeats_at (omega arith), at optional_at (omega arith), at positions_at (omega arith))

  pub raw_read : get_or s (rule_length + raw_at) 0 ≡ raw_in s
  raw_read = sym (get_or-drop rule_length s raw_at 0)

  held-count_read : get_or s (rule_length + held_count_at) 0 ≡ held_count_in s
  held-count_read = sym (get_or-drop rule_length s held_count_at 0)

  pub held-within : Possible s → get_or s (rule_length + held_count_at) 0 ≤ get_or s (rule_length + raw_at) 0
  held-within x = let q = x.plan.sum in omega (arith, raw_read, held-count_read)

  pub read_is : get_or s (rule_length + raw_at) 0 - get_or s (rule_length + held_count_at) 0 ≡ read_in s
  read_is = omega (arith, raw_read, held-count_read)

  pub decoded_read : get_or s (rule_length + decoded_at) 0 ≡ decoded_in s
  decoded_read = sym (get_or-drop rule_length s decoded_at 0)

-- ---- `possible`

module _ (s : List ℕ) where
  not_possible : false ≡ possible s → PossibleIs s false
  not_possible e = record { is = e; says = λ z. absurd (true≢false (sym z)) }

  pub length_wrong : (length s ≡ scan_length → ⊥) → PossibleIs s false
  unfolding possible
  length_wrong z = not_possible (simp (ne_eqb _ _ z))

  module _ (long : length s ≡ scan_length) where
    pub lent-long : length (lent s) ≡ plan_length
    lent-long = ap length (plan-lent s long) ∙ plan-long s long

    module _ (a : Bool) (x : RulePossibleIs (rule_of s) a) where
      pub rule_wrong : a ≡ false → PossibleIs s false
      unfolding possible
      rule_wrong z = not_possible (simp (eq-eqb _ _ long) (rw (← x.is, z)))

      pub by_plan : a ≡ true → (b : Bool) → PlanPossibleIs (lent s) b → PossibleIs s b
      unfolding possible
      by_plan z b y =
          let w = subst (λ (p : List ℕ). PlanPossibleIs p b) (plan-lent s long) y in
          record {
            is = simp (eq-eqb _ _ long) (rw (← x.is, z) w.is);
            says = λ q. record { long = long; rule = x.says z; plan = w.says q };
          }

-- ---- `load`, `refused`

module _ (s : List ℕ) (q : Possible s) where
  lent-possible : PlanPossible (lent s)
  lent-possible = subst PlanPossible (sym (plan-lent s q.long)) q.plan

  pub loadable : LoadFine (lent s)
  loadable = let p = lent-possible in record { long = p.long; few = p.few }

  pub loaded : (h : Held) → LoadIs (lent s) h → LoadIs (plan_of s) h
  loaded h x = subst (λ (p : List ℕ). LoadIs p h) (plan-lent s q.long) x

module _ (s : List ℕ) (p n : ℕ) (r : Bool) (x : PossibleIs s r) where
  pub refused-impossible : r ≡ false → TurnsDown s p n Impossible
  unfolding number_for
  refused-impossible z = record { is = rw (← x.is, z) }

  module _ (z : r ≡ true) where
    pub may_ask : PlanPossible (lent s)
    may_ask = lent-possible s (x.says z)

    by_number : number_for s p n ≡ plan_refusal (lent s) p n
    unfolding number_for
    by_number = rw (← x.is, z) (ap (λ (t : List ℕ). plan_refusal t p n) (sym (plan-lent s (x.says z).long)))

    lets_in : PlanLetsIn (lent s) p n → LetsIn s p n
    lets_in y = record { is = by_number ∙ y.is; fine = record { possible = x.says z; accepts = subst (λ (t : List ℕ). PlanAccepts t p n) (plan-lent s (x.says z).long) y.accepts } }

    turns_down : (k : Refusal) → PlanTurnsDown (lent s) p n k → TurnsDown s p n k
    turns_down k y = record { is = by_number ∙ y.is }

    pub refused_by_plan : {A : Type 0} (k : Result A Refusal) → MatchResult k (λ _. PlanLetsIn (lent s) p n) (PlanTurnsDown (lent s) p n) → MatchResult k (λ _. LetsIn s p n) (TurnsDown s p n)
    refused_by_plan k y = MatchResult-weaker k y (λ _ a. lets_in a) turns_down
