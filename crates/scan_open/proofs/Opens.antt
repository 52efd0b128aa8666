-- What an opening answers and leaves. On plain values. Assumes nothing.
use mathlib.Core.Path.{◌≡◌, sym, ap, ap₂, ◌∙◌}
use mathlib.Core.Bool.{false}
use mathlib.Core.List.{List, [], ◌++◌}
use Prim.Native.Nat.{ℕ, ◌-◌, ◌≤◌}
use native.Mathlib.Omega.{arith}
use lib.ListN.{length, take, drop, length-append, length-drop}
use lib.Seq.{take_at, length-take-le}
use borrow.Rule.Slice.PartMut.{put_mid}
use borrow.Author.Tests.{eq-eqb, ne_eqb}
use Rattle.model.specs.Occurrence.{Position}
use Rattle.model.specs.RuleText.{fold_flag, positions}
use Rattle.model.specs.NumberedAnswers.{Parsed, positions_by, rule_positions}
use Rattle.model.specs.Codes.{codes_of, fitting, smudged}
use Rattle.model.proofs.LentLists.{put_rest}
use Rattle.answers.specs.declared.Refusal.TheVariants.{Impossible}
use Rattle.answers.specs.declared.Refused.{Refused}
use Rattle.answers.specs.Answers.{number_of, refused_at, refusing_rule, accepting_rule}
use Rattle.shift_and_wide.specs.declared.WideMasks.{WideMasks}
use Rattle.shift_and_wide.specs.Stepping.{wide_automaton_of, opening_state_w}
use Rattle.rule_parser.specs.declared.Prepared.{Prepared}
use Rattle.rule_table.specs.Tables.{table_of, Fillable}
use Rattle.rule_table.proofs.Encoded.{table-long, is-answer, may_fill}
use Rattle.rule_codes.specs.RuleCodes.{PreparedWith, RefusedWith}
use Rattle.code_table.specs.CodeTables.{Fitted}
use Rattle.code_table.proofs.FittedMasks.{fitting_masks}
use Rattle.rule_part.specs.RulePart.{table_length, rule_length, entries_of, rule_fields, begun}
use Rattle.rule_part.proofs.RuleFields.{fields_long}
use Rattle.piece_decoder.specs.declared.held.Held.{Held}
use Rattle.piece_decoder.specs.Held.{held_of, NothingHeld}
use Rattle.plan_part.specs.PlanPart.{plan_length, plan_fields}
use Rattle.plan_part.proofs.Readback.{fields_long as plan-fields-long}
use Rattle.scan_value.specs.Value.{scan_length}
use Rattle.scan_value.proofs.Checks.{lent, lent-long}
use Rattle.scan_value.proofs.Readback.{value-long}
use Rattle.scan_open.specs.Opening.{masks_for, opening_rule, opening_of, OpenIs, Openable}

-- ---- the masks of an accepted rule, as it was prepared: fit changes none

module _ (flag : ℕ) (rule codes sets : List ℕ) (p : Prepared) (n : ℕ) (s : List ℕ) (q : Openable flag rule codes sets p n s) where
  masks_are : ◌≡◌ {A = WideMasks} (record { repeats = p.repeats; optional = p.optional; top = p.positions }) (masks_for (smudged (fold_flag flag) rule codes sets))
  masks_are =
      ap (λ (y : Prepared). record { repeats = y.repeats; optional = y.optional; top = y.positions }) (is-answer flag rule p q.prepares)
      ∙ sym (fitting_masks codes sets (rule_positions (fold_flag flag) rule))

-- ---- `open_rule`: the table, and then the rest

module _ (flag : ℕ) (rule codes sets : List ℕ) (p : Prepared) (r : List ℕ) (q : Openable flag rule codes sets p rule_length r) where
  pub table-fillable : Fillable flag rule p.positions (take table_length r)
  table-fillable = may_fill flag rule p q.prepares (take table_length r) (length-take-le table_length r (omega (arith, q.long)))

  pub filled_long : (t : List ℕ) → length t ≡ table_length → length (t ++ drop table_length r) ≡ rule_length
  filled_long t l = omega (arith, q.long, length-append t (drop table_length r), length-drop table_length r)

  pub rule-same : (t : List ℕ) → length t ≡ table_length → (m : WideMasks) (r' : List ℕ) → r' ≡ begun (t ++ drop table_length r) m → length r' ≡ length r
  rule-same t l m r' e =
      ap length e ∙ fields_long (entries_of (t ++ drop table_length r)) _ _ (ap length (take_at t (drop table_length r) table_length l) ∙ l) ∙ sym q.long

  pub rule-opened : (t : List ℕ) → Fitted flag rule codes sets false t → (r' : List ℕ) → r' ≡ begun (t ++ drop table_length r) (record { repeats = p.repeats; optional = p.optional; top = p.positions }) → r' ≡ opening_rule (smudged (fold_flag flag) rule codes sets)
  unfolding opening_rule
  rule-opened t x r' e =
      e
      ∙ ap₂ (λ (u : List ℕ) (m : WideMasks). rule_fields u m (opening_state_w (wide_automaton_of u m))) (take_at t (drop table_length r) table_length x.long ∙ x.is)
      (masks_are flag rule codes sets p rule_length r q)

-- ---- `open_accepted`: the rule's part, and then the plan's

pub opening-long : (ps : List Position) → length (opening_rule ps) ≡ rule_length
unfolding opening_rule
opening-long ps = fields_long (table_of ps) (masks_for ps) _ (table-long ps)

pub value-length : (ps : List Position) → length (opening_of ps) ≡ scan_length
unfolding opening_of
value-length ps = value-long (opening_rule ps) (plan_fields 0 0 0 []) (opening-long ps) (plan-fields-long 0 0 0 [])

module _ (flag : ℕ) (rule codes sets : List ℕ) (p : Prepared) (s : List ℕ) (q : Openable flag rule codes sets p scan_length s) where
  pub rule_openable : Openable flag rule codes sets p rule_length (take rule_length s)
  rule_openable = record { prepares = q.prepares; fine = q.fine; long = length-take-le rule_length s (omega (arith, q.long)) }

  module _ (r : List ℕ) (e : r ≡ opening_rule (smudged (fold_flag flag) rule codes sets)) where
    value-is : length (r ++ drop rule_length s) ≡ scan_length
    value-is = omega (arith, q.long, ap length e ∙ opening-long (smudged (fold_flag flag) rule codes sets), length-append r (drop rule_length s), length-drop rule_length s)

    pub plan-long : length (lent (r ++ drop rule_length s)) ≡ plan_length
    plan-long = lent-long (r ++ drop rule_length s) value-is

    pub plan-begins : rule_length ≤ length (r ++ drop rule_length s)
    plan-begins = omega (arith, value-is)

    pub both-opened : (n : Held) → NothingHeld n → (pl : List ℕ) → pl ≡ plan_fields 0 0 0 (held_of n)
        → put_mid rule_length (length (r ++ drop rule_length s) - rule_length) (r ++ drop rule_length s) pl ≡ opening_of (smudged (fold_flag flag) rule codes sets)
    unfolding opening_of
    both-opened n x pl f =
        let l : length r ≡ rule_length = ap length e ∙ opening-long (smudged (fold_flag flag) rule codes sets) in
        put_rest (r ++ drop rule_length s) rule_length pl
        ∙ ap₂ (λ (a b : List ℕ). a ++ b) (take_at r (drop rule_length s) rule_length l ∙ e) (f ∙ ap (plan_fields 0 0 0) x.is)

    pub both-same : (n : Held) → NothingHeld n → (pl : List ℕ) → pl ≡ plan_fields 0 0 0 (held_of n) → length (put_mid rule_length (length (r ++ drop rule_length s) - rule_length) (r ++ drop rule_length s) pl) ≡ length s
    both-same n x pl f = ap length (both-opened n x pl f) ∙ value-length (smudged (fold_flag flag) rule codes sets) ∙ sym q.long

-- ---- `open`

module _ (flag : ℕ) (rule codes sets s : List ℕ) where
  pub open_refused : (e : Refused) → RefusedWith flag rule codes sets e → OpenIs flag rule codes sets s (refusing_rule (number_of e.refusal) e.place) s
  open_refused e r = record { answers = rw r.is; leaves = rw r.is }

  module _ (p : Prepared) (hp : PreparedWith flag rule codes sets p) where
    pub open_impossible : (length s ≡ scan_length → ⊥) → (e : Refused) → e ≡ refused_at Impossible 0 → OpenIs flag rule codes sets s (refusing_rule (number_of e.refusal) e.place) s
    open_impossible l e ee = let b = ne_eqb (length s) scan_length l in rw ee (record { answers = rw (hp.parses, b); leaves = rw (hp.parses, b) })

    module _ (long : length s ≡ scan_length) where
      pub openable : Openable flag rule codes sets p scan_length s
      openable = record { prepares = hp.rule-is; fine = hp.codes_fine; long = long }

      pub open_done : (s' : List ℕ) → s' ≡ opening_of (smudged (fold_flag flag) rule codes sets) → OpenIs flag rule codes sets s (accepting_rule p.positions p.shortest) s'
      open_done s' e =
          let l = eq-eqb (length s) scan_length long in
          let f : s' ≡ opening_of (fitting (codes_of codes sets) (positions (fold_flag flag) hp.rule-is.elements)) = e ∙ ap (λ (x : Parsed). opening_of (fitting (codes_of codes sets) (positions_by (fold_flag flag) x))) hp.rule-is.parses in
          record {
            answers = rw (hp.parses, l) (ap (λ (y : Prepared). accepting_rule y.positions y.shortest) hp.rule-is.is);
            leaves = rw (hp.parses, l) f;
          }
