-- A finished plan: the pairs of all its calls, in order, are exactly the ends of occurrences in the decoded plan, once each, rising, with their raw counts; and raw counts
-- rise weakly, within the bytes taken, whether it is finished or not. Assumes nothing.
use mathlib.Core.Path.{◌≡◌, sym, ap, subst, ◌∙◌}
use mathlib.Core.Bool.{Bool, true, false}
use mathlib.Core.List.{List, []}
use Prim.Native.Nat.{ℕ, ◌+◌, ◌-◌, ◌≤◌}
use native.Mathlib.Omega.{arith}
use lib.Dec.{T}
use lib.ListN.{length}
use lib.Seq.{length-slice}
use Rattle.model.specs.Occurrence.{Position, all, EndsAt, shortest, cons_if, all_from, is_end, ends}
use Rattle.model.specs.RuleText.{fold_flag, is_byte, Element}
use Rattle.model.specs.NumberedAnswers.{accepted}
use Rattle.model.specs.Codes.{smudged, parse_with}
use Rattle.model.specs.References.{form_limit, Token, tokens_from, taken, decode}
use Rattle.model.specs.RawPlaces.{Entry, entries_by, raws_of, WeaklyRising}
use Rattle.model.specs.PlainScan.{Call, nothing_kept, text_of, new_ends, scan_from, plain_scan, reported_entries, kept_after}
use Rattle.model.proofs.Truth.{T_false}
use Rattle.model.proofs.Decided.{end-decided}
use Rattle.model.proofs.Windows.{occurs-length}
use Rattle.model.proofs.Places.{Rises, raws_rise, weakly_higher}
use Rattle.model.proofs.Scans.{new_ends-past, tokens_of, read_within, all_entries, finished_entries}
use Rattle.model.proofs.Fitting.{smudged_ok}

-- Where the empty string is not admitted, 0 is no end: the ends above 0 are all.
pub ends_above : (ps : List Position) (text : List ℕ) → 1 ≤ shortest ps → new_ends ps [] text ≡ ends ps text
ends_above ps text h =
    let z : length text - 0 ≡ length text = omega arith in
    ap (all_from (is_end ps text) 1) z ∙ sym (ap (λ (b : Bool). cons_if b 0 (all_from (is_end ps text) 1 (length text))) none)
  where
    never : EndsAt ps text 0 → ⊥
    never (s, o) =
        let l = occurs-length o.occurs in
        let n = length-slice s 0 text o.inside in
        omega arith

    none : is_end ps text 0 ≡ false
    none = T_false (is_end ps text 0) (λ t. never ((end-decided ps text 0).0 t))

pub plan_entries : (flag : ℕ) (rule codes sets : List ℕ) (es : List Element) → T (all is_byte rule) → parse_with (fold_flag flag) rule codes sets ≡ accepted es
    → (cs : List Call) → (kept_after form_limit nothing_kept cs).finished ≡ true
    → reported_entries (plain_scan flag rule codes sets cs)
    ≡ entries_by 0 0 (tokens_from form_limit 0 (kept_after form_limit nothing_kept cs).taken) (ends (smudged (fold_flag flag) rule codes sets) (decode form_limit (kept_after form_limit nothing_kept cs).taken))
plan_entries flag rule codes sets es bytes ok cs e =
    let ps = smudged (fold_flag flag) rule codes sets in
    let P = (kept_after form_limit nothing_kept cs).taken in
    finished_entries form_limit ps cs e ∙ ap (entries_by 0 0 (tokens_from form_limit 0 P)) (ends_above ps (decode form_limit P) (smudged_ok (fold_flag flag) rule codes sets es bytes ok).rule-is.not_empty)

-- Over any list of calls.
pub raws_within : (limit : ℕ) (ps : List Position) (cs : List Call) → WeaklyRising 0 (length (kept_after limit nothing_kept cs).taken) (raws_of (reported_entries (scan_from limit ps nothing_kept cs)))
raws_within limit ps cs =
    let k = kept_after limit nothing_kept cs in
    let t = text_of limit k in
    let z : 0 + length t ≡ length t = omega arith in
    let r : Rises 0 (length t) (new_ends ps [] t) = subst (λ (l : ℕ). Rises 0 l (new_ends ps [] t)) z (new_ends-past ps [] t) in
    let ts : List Token = tokens_of limit k in
    let raws : List ℕ = raws_of (entries_by 0 0 ts (new_ends ps [] t)) in
    subst (λ (l : List Entry). WeaklyRising 0 (length k.taken) (raws_of l)) (sym (all_entries limit ps cs))
    (weakly_higher raws 0 (taken ts) (length k.taken) (read_within limit k) (raws_rise ts (new_ends ps [] t) r))
