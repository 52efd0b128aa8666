-- DEMAND 3, one theorem, `agreement`: for an accepted rule, fold flag and list of codes, and any list of feeds and finishes as they were made. About the very contracts of `open`,
-- `feed`, `finish` and `search`. Assumes nothing.
use mathlib.Core.Path.{◌≡◌, refl, sym, ap, subst, ◌∙◌}
use mathlib.Core.Bool.{Bool, true, cond}
use mathlib.Core.List.{List, [], ◌∷◌}
use Prim.Native.Nat.{ℕ, zero, suc, ◌+◌, ◌≤◌}
use native.Mathlib.Omega.{arith}
use lib.Dec.{eqb, ltb, nltb→le}
use lib.ListN.{length, length-append}
use borrow.Author.Tests.{eq-eqb, le-ltb}
use Rattle.model.specs.Occurrence.{Position, ends, starts}
use Rattle.model.specs.RuleText.{fold_flag, positions}
use Rattle.model.specs.NumberedAnswers.{text_limit, Parsed, positions_by, whole_refusal, overwrite}
use Rattle.model.specs.Codes.{codes_of, fitting, smudged, parse_with}
use Rattle.model.specs.References.{form_limit}
use Rattle.model.specs.RawPlaces.{Entry, raw_places, place_in, placed, ends_of, raws_of, WeaklyRising}
use Rattle.model.specs.PlainScan.{Call, feed, finish, Kept, refusal, after, plain_scan, nothing_kept, kept_after}
use Rattle.model.specs.WindowSearch.{windows}
use Rattle.model.proofs.Fitting.{SmudgedOk, smudged_ok, smudged-shift-largest}
use Rattle.model.proofs.Truth.{branch}
use Rattle.model.proofs.Decoding.{decode-length}
use Rattle.model.proofs.Decided as Decided
use Rattle.model.proofs.FinishedPlan.{plan_entries, raws_within}
use Rattle.model.proofs.Places.{placed-ends}
use Rattle.model.proofs.RawCuts.{raw_cut}
use Rattle.model.proofs.Windows.{shift_is, windows_are, no_start-passed}
use Rattle.answers.specs.declared.Answer.{Answer}
use Rattle.answers.specs.declared.Opened.{Opened}
use Rattle.answers.specs.Answers.{refusing, counting}
use Rattle.scan_open.specs.Opening.{OpenIs}
use Rattle.scan.specs.Calls.{Bytes}
use Rattle.scan.proofs.PlainScan.{OpenedWith, opened_with}
use Rattle.text_search.specs.Searching.{search_answer, search_list, SearchIs}
use Rattle.agreement.specs.Agreement.{Made, HandedOn, calls_of, AllAgree, reported_by, Finished, taken_by, plan_of, Agreement}
use Rattle.agreement.proofs.MadeCalls.{made-is-plain, reported_entries_lem, finished-is}

-- ---- a finished plan is never over the limit, so that its search is not refused by 10

kept_small : (cs : List Call) (k : Kept) → length k.taken ≤ text_limit → length (kept_after form_limit k cs).taken ≤ text_limit
kept_small [] k h = h
kept_small (c ∷ cs) k h = go c (refusal form_limit k.finished (length k.taken) c) refl (kept_small cs)
  where
    go : (c : Call) (r : ℕ) → refusal form_limit k.finished (length k.taken) c ≡ r → ((k : Kept) → length k.taken ≤ text_limit → length (kept_after form_limit k cs).taken ≤ text_limit)
        → length (kept_after form_limit k (c ∷ cs)).taken ≤ text_limit
    go (feed piece n) zero q ih =
        let l =
        branch k.finished q (λ t e. absurd (omega arith)) λ t e.
        branch (ltb text_limit (length k.taken + length piece)) e (λ t e. absurd (omega arith)) λ t e.
        nltb→le text_limit (length k.taken + length piece) t
        in
        rw (q, kept_after) (ih (after (feed piece n) k) (omega (arith, length-append k.taken piece)))
    go (finish n) zero q ih = rw (q, kept_after) (ih (after (finish n) k) h)
    go c (suc n) q ih = rw (q, kept_after) (ih k h)

plan-small : (cs : List Made) → length (plan_of cs) ≤ text_limit
plan-small cs =
    omega (arith, kept_small (calls_of cs) nothing_kept (omega arith), decode-length form_limit (kept_after form_limit nothing_kept (calls_of cs)).taken)

module _ (flag : ℕ) (rule codes sets : List ℕ) (bytes : Bytes rule) (code-bytes : Bytes codes) where
  abbrev ps : List Position
  ps = smudged (fold_flag flag) rule codes sets

  module _ (s₀ : List ℕ) (o : Opened) (s : List ℕ) (opens : OpenIs flag rule codes sets s₀ o s) (ok : o.number ≡ 0) where
    opened : OpenedWith flag rule codes sets s
    opened = opened_with flag rule codes sets s₀ o s opens ok

    fits_ok : SmudgedOk (fold_flag flag) rule codes sets opened.elements bytes opened.parses
    fits_ok = smudged_ok (fold_flag flag) rule codes sets opened.elements bytes opened.parses

    -- a search that is not refused
    module _ (text list : List ℕ) (small : length text ≤ text_limit) (room : length text ≤ length list) (r : Answer) (list' : List ℕ) (x : SearchIs flag rule codes sets text list r list') where
      taken : eqb (whole_refusal (length text) (length list)) 0 ≡ true
      taken = eq-eqb (whole_refusal (length text) (length list)) 0 (rw (le-ltb _ _ small, le-ltb _ _ room))

      by_positions : fitting (codes_of codes sets) (positions (fold_flag flag) opened.elements) ≡ ps
      by_positions = sym (ap (λ (p : Parsed). fitting (codes_of codes sets) (positions_by (fold_flag flag) p)) fits_ok.parses)

      gives : (r ≡ counting (length (starts ps text)) (length (windows ps text))) × (list' ≡ overwrite list (starts ps text))
      gives =
          let qs = fitting (codes_of codes sets) (positions (fold_flag flag) opened.elements) in (
            x.answers ∙ ap (search_answer flag codes sets text (length list)) opened.parses
                ∙ ap (λ (b : Bool). cond b (counting (length (starts qs text)) (length (windows qs text))) (refusing (whole_refusal (length text) (length list)) 0)) taken
                ∙ ap (λ (ps : List Position). counting (length (starts ps text)) (length (windows ps text))) by_positions,
            x.lists ∙ ap (search_list flag codes sets text list) opened.parses ∙ ap (λ (b : Bool). cond b (overwrite list (starts qs text)) list) taken
                ∙ ap (λ (ps : List Position). overwrite list (starts ps text)) by_positions,
          )

    answers : (cs : List Made) → HandedOn s cs → AllAgree cs (plain_scan flag rule codes sets (calls_of cs))
    answers = made-is-plain flag rule codes sets bytes code-bytes s₀ o s opens ok

    reports : (cs : List Made) → HandedOn s cs → Finished cs → reported_by cs ≡ placed (place_in 0 (raw_places form_limit (taken_by cs))) (ends ps (plan_of cs))
    reports cs m f =
        let a = answers cs m in
        reported_entries_lem cs (plain_scan flag rule codes sets (calls_of cs)) a
        ∙ plan_entries flag rule codes sets opened.elements bytes opened.parses (calls_of cs) (finished-is form_limit ps cs nothing_kept a f)

    decoded-ends : (cs : List Made) → HandedOn s cs → Finished cs → ends_of (reported_by cs) ≡ ends ps (plan_of cs)
    decoded-ends cs m f = ap ends_of (reports cs m f) ∙ placed-ends (place_in 0 (raw_places form_limit (taken_by cs))) (ends ps (plan_of cs))

    raws : (cs : List Made) → HandedOn s cs → WeaklyRising 0 (length (taken_by cs)) (raws_of (reported_by cs))
    raws cs m =
        subst (λ (l : List Entry). WeaklyRising 0 (length (taken_by cs)) (raws_of l)) (sym (reported_entries_lem cs (plain_scan flag rule codes sets (calls_of cs)) (answers cs m)))
        (raws_within form_limit ps (calls_of cs))

  pub agreement : (s₀ : List ℕ) (o : Opened) (s : List ℕ) → OpenIs flag rule codes sets s₀ o s → o.number ≡ 0 → Agreement flag rule codes sets s (smudged (fold_flag flag) rule codes sets)
  agreement s₀ o s opens ok =
      let k = (fits_ok s₀ o s opens ok).rule-is in
      record {
        answers = answers s₀ o s opens ok;
        reports = reports s₀ o s opens ok;
        an_end = Decided.ends_are ps;
        ends-rise = Decided.ends-rise ps;
        raws_rise = raws s₀ o s opens ok;
        raw_cuts = λ plan e. raw_cut form_limit plan e;
        search = λ cs list r list' x l. gives s₀ o s opens ok (plan_of cs) list (plan-small cs) l r list' x;
        a_start = Decided.starts_are ps;
        starts-rise = Decided.starts-rise ps;
        sequence = windows_are ps k.inhabited k.not_empty;
        shifts = shift_is ps k.inhabited k.not_empty;
        moves = no_start-passed ps k.inhabited k.not_empty;
        largest-move = smudged-shift-largest (fold_flag flag) rule codes sets (opened s₀ o s opens ok).elements bytes (opened s₀ o s opens ok).parses code-bytes;
        alike = λ t₀ q t x z cs ds m n f g e. decoded-ends s₀ o s opens ok cs m f ∙ ap (ends ps) e ∙ sym (decoded-ends t₀ q t x z ds n g);
        alike-search = λ cs ds e list r r₂ l l₂ x y. (
          x.answers ∙ ap (λ (t : List ℕ). search_answer flag codes sets t (length list) (parse_with (fold_flag flag) rule codes sets)) e ∙ sym y.answers,
          x.lists ∙ ap (λ (t : List ℕ). search_list flag codes sets t list (parse_with (fold_flag flag) rule codes sets)) e ∙ sym y.lists,
        );
      }
