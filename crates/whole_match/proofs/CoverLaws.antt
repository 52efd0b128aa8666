-- The laws of `covers_low`, `covers_wide` and `covers_name`. On plain values. Assumes nothing.
use mathlib.Core.Path.{◌≡◌, sym, ap, ◌∙◌}
use mathlib.Core.Bool.{Bool, false, cond}
use mathlib.Core.List.{List}
use Prim.Native.Nat.{ℕ, ◌≤◌, ◌<◌}
use native.Mathlib.Omega.{arith}
use lib.ListN.{length}
use borrow.Author.Tests.{lt-ltb, le-ltb}
use Rattle.model.specs.RefusalNumbers.{too_much}
use Rattle.model.specs.RuleText.{fold_flag, positions}
use Rattle.model.specs.NumberedAnswers.{text_limit, Parsed, positions_by, rule_positions}
use Rattle.model.specs.WholeNames.{covers, turns_down, says, covered_by}
use Rattle.shift_and.specs.Automaton.{Automaton}
use Rattle.shift_and_step.specs.declared.Masks.{Masks}
use Rattle.shift_and_step.specs.Stepping.{automaton_of, TableFits}
use Rattle.shift_and_wide.specs.declared.WideMasks.{WideMasks}
use Rattle.shift_and_wide.specs.Stepping.{WideAutomaton, wide_automaton_of, numbered, WideTableFits}
use Rattle.rule_parser.specs.declared.Prepared.{Prepared}
use Rattle.rule_parser.specs.Preparing.{PreparedRule, RuleRefused}
use Rattle.rule_table.specs.Tables.{PlaneFillable, PlaneFilled, Fillable, Filled}
use Rattle.rule_table.proofs.Encoded.{may_fill, may_fill_plane, filled_encodes, plane_encodes}
use Rattle.answers.specs.declared.Refusal.TheVariants.{TooMuch}
use Rattle.answers.specs.declared.Refused.{Refused}
use Rattle.answers.specs.Answers.{number_of, refused_at, refusing_name, judged_name}
use Rattle.whole_match.specs.Covering.{reads_whole, Coverable, CoverableLow, cover_answer, CoversIs}
use Rattle.whole_match.proofs.Readings.{whole_means}

-- ---- `covers_wide`, `covers_low`

module _ (flag : ℕ) (rule : List ℕ) (p : Prepared) where
  module _ (r : Coverable flag rule p) where
    pub cover_fillable : (table : List ℕ) → length table ≡ 1024 → Fillable flag rule p.positions table
    cover_fillable table l = may_fill flag rule p r.prepares table l

    module _ (forward : List ℕ) (f : Filled flag rule false forward) where
      abbrev wide_masks : WideMasks
      wide_masks = record { repeats = p.repeats; optional = p.optional; top = p.positions }

      pub cover_fits : WideTableFits forward wide_masks
      cover_fits = let n = r.prepares.few in record { long = f.long; top = omega arith }

      pub wide-covers : {A : WideAutomaton} → A ≡ wide_automaton_of forward wide_masks → (name : List ℕ) (b : Bool) → b ≡ reads_whole (numbered A) name
          → b ≡ covers (rule_positions (fold_flag flag) rule) name
      wide-covers q name b e =
          e ∙ ap (λ (x : WideAutomaton). reads_whole (numbered x) name) q ∙ whole_means (rule_positions (fold_flag flag) rule) (numbered (wide_automaton_of forward wide_masks)) (filled_encodes flag rule p r.prepares forward f).numbers name

  module _ (r : CoverableLow flag rule p) where
    pub cover_low-fillable : (plane : List ℕ) → length plane ≡ 256 → PlaneFillable flag rule p.positions plane 0
    cover_low-fillable plane l = may_fill_plane flag rule p r.coverable.prepares plane 0 l (omega arith)

    module _ (forward : List ℕ) (f : PlaneFilled flag rule false forward 0) where
      abbrev low_masks_lem : Masks
      low_masks_lem = record { repeats = p.repeats.w0; optional = p.optional.w0; top = p.positions }

      pub cover_low-fits : TableFits forward low_masks_lem
      cover_low-fits = let n = r.low in record { long = f.long; top = omega arith }

      pub low-covers : {A : Automaton} → A ≡ automaton_of forward low_masks_lem → (name : List ℕ) (b : Bool) → b ≡ reads_whole A name → b ≡ covers (rule_positions (fold_flag flag) rule) name
      low-covers q name b e =
          e ∙ ap (λ (x : Automaton). reads_whole x name) q ∙ whole_means (rule_positions (fold_flag flag) rule) (automaton_of forward low_masks_lem) (plane_encodes flag rule p r.coverable.prepares r.low forward f) name

-- ---- `covers_name`

module _ (flag : ℕ) (rule name : List ℕ) where
  pub cover_refused : (e : Refused) → RuleRefused flag rule e → CoversIs flag rule name (refusing_name (number_of e.refusal) e.place)
  cover_refused e r = sym (ap (λ (x : Parsed). cover_answer (covered_by (fold_flag flag) x name)) r.is)

  module _ (p : Prepared) (hp : PreparedRule flag rule p) where
    pub cover_long : text_limit < length name → (e : Refused) → e ≡ refused_at TooMuch 0 → CoversIs flag rule name (refusing_name (number_of e.refusal) e.place)
    cover_long h e ee = let a = hp.parses in rw ee (rw (a, lt-ltb text_limit (length name) h))

    pub cover_judged : length name ≤ text_limit → (b : Bool) → b ≡ covers (rule_positions (fold_flag flag) rule) name → CoversIs flag rule name (judged_name b)
    cover_judged h b eb =
        let q : covers (rule_positions (fold_flag flag) rule) name ≡ covers (positions (fold_flag flag) hp.elements) name = ap (λ (x : Parsed). covers (positions_by (fold_flag flag) x) name) hp.parses in
        ap judged_name (eb ∙ q)
        ∙ sym (ap (λ (x : Parsed). cover_answer (covered_by (fold_flag flag) x name)) hp.parses
        ∙ ap (λ (x : Bool). cover_answer (cond x (turns_down too_much 0) (says (covers (positions (fold_flag flag) hp.elements) name)))) (le-ltb text_limit (length name) h))
