-- The part that is shown, for any rule, text and start. On plain values. Assumes nothing.
use mathlib.Core.Path.{◌≡◌, sym, ap, subst, ◌∙◌}
use mathlib.Core.Bool.{Bool, false, cond}
use mathlib.Core.List.{List}
use Prim.Native.Nat.{ℕ, ◌+◌, ◌-◌, ◌≤◌, ◌<◌}
use native.Mathlib.Omega.{arith}
use lib.Dec.{T}
use lib.ListN.{length, take, drop}
use borrow.Author.Tests.{lt-ltb, le-ltb}
use Rattle.model.specs.Occurrence.{Position, stretch, all}
use Rattle.model.specs.RuleText.{fold_flag, is_byte, positions}
use Rattle.model.specs.NumberedAnswers.{text_limit, Parsed, positions_by, rule_positions}
use Rattle.model.specs.WindowSearch.{empty_part, part_from, part_by, shown}
use Rattle.model.proofs.Windows.{take-drop}
use Rattle.model.proofs.Earliest.{part-empty}
use Rattle.model.proofs.Accepted.{rule_ok}
use Rattle.shift_and.specs.Automaton.{Automaton}
use Rattle.shift_and.specs.Masks.{Encodes}
use Rattle.shift_and_step.specs.declared.Masks.{Masks}
use Rattle.shift_and_step.specs.Stepping.{automaton_of, TableFits}
use Rattle.shift_and_wide.specs.declared.WideMasks.{WideMasks}
use Rattle.shift_and_wide.specs.Stepping.{WideAutomaton, wide_automaton_of, numbered, WideTableFits}
use Rattle.rule_parser.specs.declared.Prepared.{Prepared}
use Rattle.rule_parser.specs.Preparing.{PreparedRule, RuleRefused}
use Rattle.rule_table.specs.Tables.{PlaneFillable, PlaneFilled, Fillable, Filled}
use Rattle.rule_table.proofs.Encoded.{is-accepted, may_fill, may_fill_plane, filled_encodes, plane_encodes}
use Rattle.answers.specs.declared.Refused.{Refused}
use Rattle.answers.specs.declared.Span.{Span}
use Rattle.window_search.specs.Searching.{span_of, SpanIs}
use Rattle.text_show.specs.Showing.{Showable, ShowableLow, PartIs, ShownIs, shown_bytes, ShowsPart}

-- ---- `span_low`, `span_wide`, `span_accepted`

module _ (flag : ℕ) (rule : List ℕ) (p : Prepared) (len start : ℕ) (r : Showable flag rule p len start) where
  pub showable-low : p.positions < 64 → ShowableLow flag rule p len start
  showable-low h = record { showable = r; low = h }

  pub shown-fillable : (table : List ℕ) → length table ≡ 1024 → Fillable flag rule p.positions table
  shown-fillable table l = may_fill flag rule p r.prepares table l

  part_of : (F : Automaton) → Encodes F (rule_positions (fold_flag flag) rule) → T (all is_byte rule) → (text : List ℕ) (y : Span) → SpanIs F text start y → PartIs flag rule text start y
  part_of F e bytes text y i =
      let a = is-accepted flag rule p r.prepares in
      let ok = rule_ok (fold_flag flag) rule a.elements bytes a.parses in
      record { is = i.means (rule_positions (fold_flag flag) rule) e ok.not_empty; ordered = i.ordered; inside = i.inside }

  module _ (forward : List ℕ) (f : Filled flag rule false forward) where
    abbrev wide_masks : WideMasks
    wide_masks = record { repeats = p.repeats; optional = p.optional; top = p.positions }

    pub shown-fits : WideTableFits forward wide_masks
    shown-fits = let n = r.prepares.few in record { long = f.long; top = omega arith }

    pub part-shown : {A : WideAutomaton} → A ≡ wide_automaton_of forward wide_masks → T (all is_byte rule) → (text : List ℕ) (y : Span) → SpanIs (numbered A) text start y
        → PartIs flag rule text start y
    part-shown q bytes text y i =
        part_of (numbered (wide_automaton_of forward wide_masks)) (filled_encodes flag rule p r.prepares forward f).numbers bytes text y
        (subst (λ (x : WideAutomaton). SpanIs (numbered x) text start y) q i)

module _ (flag : ℕ) (rule : List ℕ) (p : Prepared) (len start : ℕ) (r : ShowableLow flag rule p len start) where
  pub shown-low-fillable : (plane : List ℕ) → length plane ≡ 256 → PlaneFillable flag rule p.positions plane 0
  shown-low-fillable plane l = may_fill_plane flag rule p r.showable.prepares plane 0 l (omega arith)

  module _ (forward : List ℕ) (f : PlaneFilled flag rule false forward 0) where
    abbrev low_masks_lem : Masks
    low_masks_lem = record { repeats = p.repeats.w0; optional = p.optional.w0; top = p.positions }

    pub shown-low-fits : TableFits forward low_masks_lem
    shown-low-fits = let n = r.low in record { long = f.long; top = omega arith }

    pub part-low-shown : {A : Automaton} → A ≡ automaton_of forward low_masks_lem → T (all is_byte rule) → (text : List ℕ) (y : Span) → SpanIs A text start y → PartIs flag rule text start y
    part-low-shown q bytes text y i =
        part_of flag rule p len start r.showable (automaton_of forward low_masks_lem) (plane_encodes flag rule p r.showable.prepares r.low forward f) bytes text y
        (subst (λ (x : Automaton). SpanIs x text start y) q i)

-- ---- `span`

module _ (flag : ℕ) (rule text : List ℕ) (s : ℕ) where
  -- the empty part at the text's end
  abbrev Nothing : Type 0
  Nothing = ShownIs flag rule text s (record { from = length text; to = length text })

  nothing : record { from = length text; to = length text } ≡ span_of (shown flag rule text s) → Nothing
  nothing e = record { is = e; ordered = omega arith; inside = omega arith }

  pub shown-refused : (e : Refused) → RuleRefused flag rule e → Nothing
  shown-refused e r = nothing (rw r.is)

  module _ (p : Prepared) (hp : PreparedRule flag rule p) where
    pub shown-long : text_limit < length text → Nothing
    shown-long h = let a = hp.parses in nothing (rw (a, lt-ltb _ _ h))

    module _ (h : length text ≤ text_limit) where
      by_part : shown flag rule text s ≡ part_from (rule_positions (fold_flag flag) rule) text s
      by_part =
          let a = is-accepted flag rule p hp in
          let q : rule_positions (fold_flag flag) rule ≡ positions (fold_flag flag) a.elements = ap (positions_by (fold_flag flag)) a.parses in
          ap (λ (x : Parsed). part_by (fold_flag flag) x text s) a.parses
          ∙ ap (λ (b : Bool). cond b (empty_part text) (part_from (positions (fold_flag flag) a.elements) text s)) (le-ltb _ _ h)
          ∙ ap (λ (ps : List Position). part_from ps text s) (sym q)

      pub shown-past : length text < s → Nothing
      shown-past l =
          nothing (sym (ap span_of (by_part ∙ part-empty (rule_positions (fold_flag flag) rule) text s (λ o. let a = o.1.ordered in let b = o.1.inside in omega arith))))

      pub shown-ready : s ≤ length text → Showable flag rule p (length text) s
      shown-ready l = record { prepares = hp; within = l }

      pub shown-done : (y : Span) → PartIs flag rule text s y → ShownIs flag rule text s y
      shown-done y i = record { is = i.is ∙ ap span_of (sym by_part); ordered = i.ordered; inside = i.inside }

-- ---- `show`

pub shown-bytes : {flag : ℕ} {rule text : List ℕ} {s : ℕ} {y : Span} → ShownIs flag rule text s y → take (y.to - y.from) (drop y.from text) ≡ shown_bytes flag rule text s
shown-bytes {flag} {rule} {text} {s} {y} i =
    let o = i.ordered in
    let e : y.from + (y.to - y.from) ≡ y.to = omega arith in
    take-drop (y.to - y.from) y.from text ∙ ap (λ (k : ℕ). drop y.from (take k text)) e ∙ ap (λ (y : Span). stretch text y.from y.to) i.is

pub shows-part : {flag : ℕ} {rule text : List ℕ} {s : ℕ} {lies : ℕ × ℕ} {y : Span} → ShownIs flag rule text s y
    → ShowsPart flag rule text lies s (take (y.to - y.from) (drop y.from text)) (lies.0, y.from + lies.1)
shows-part {flag = flag} {rule = rule} {text = text} {s = s} {lies = lies} {y = y} i = record {
  bytes = shown-bytes {flag = flag} {rule = rule} {text = text} {s = s} {y = y} i;
  place = ap (λ (y : Span). (lies.0, y.from + lies.1)) i.is;
}
