-- Verification with the whole text before it: the earliest end, and so the part that is shown. Assumes nothing.
use mathlib.Core.Path.{◌≡◌, sym, ap, subst, ◌∙◌}
use mathlib.Core.List.{List}
use Prim.Native.Nat.{ℕ, ◌-◌, ◌≤◌, ◌<◌}
use native.Mathlib.Decide.{dec_le}
use native.Mathlib.Omega.{arith}
use lib.ListN.{length}
use Rattle.model.specs.Occurrence.{Position, OccursAt, shortest}
use Rattle.model.specs.WindowSearch.{earliest_end, part_from}
use Rattle.model.proofs.Earliest.{none_earlier, earliest_occurs, part-occurs, part-empty}
use Rattle.shift_and.specs.Automaton.{Automaton}
use Rattle.shift_and.specs.Masks.{Encodes}
use Rattle.window_reader.specs.declared.End.{End}
use Rattle.window_reader.specs.declared.End.TheVariants.{At, Dead, Open}
use Rattle.window_reader.specs.Reading.{EndIs}
use Rattle.window_reader.proofs.Ends.{Means}
use Rattle.window_search.specs.Searching.{span_of, SpanIs}
use Rattle.window_search.proofs.Tries.{ends-after, end-means, at_low, at_high}

-- The end that was found is the earliest: of the ends after s none is earlier, and there is none at s.
earliest_is : (ps : List Position) (text : List ℕ) (s e : ℕ) → 1 ≤ shortest ps → OccursAt ps text s e → ((y : ℕ) → s < y → y < e → OccursAt ps text s y → ⊥)
    → earliest_end ps text s ≡ e
earliest_is ps text s e h o none =
    let E = earliest_end ps text s in
    let o' = earliest_occurs ps text s (e, o) in
    let a : E ≤ e = elim (dec_le E e) [ yes l ↦ l | no l ↦ absurd (none_earlier ps text s e (omega arith) o) ] in
    let b : e ≤ E = elim (dec_le e E) [ yes l ↦ l | no l ↦ absurd (none E (ends-after ps text s E h o') (omega arith) o') ] in
    omega arith

module _ {A : Automaton} {text : List ℕ} {s : ℕ} (inside : s ≤ length text) {x : End} (i : EndIs A text s (length text) x) where
  abbrev Of : List Position → Type 0
  Of ps = Encodes A ps

  meaning : (ps : List Position) → Of ps → (y : End) → x ≡ y → Means ps text s s (length text - s) y
  meaning ps of y q = subst (Means ps text s s (length text - s)) q (end-means i ps of inside (omega arith))

  nothing : (ps : List Position) → 1 ≤ shortest ps → ((y : ℕ) → s < y → OccursAt ps text s y → ⊥) → record { from = length text; to = length text } ≡ span_of (part_from ps text s)
  nothing ps some none = sym (ap span_of (part-empty ps text s (λ o. none o.0 (ends-after ps text s o.0 some o.1) o.1)))

  pub shown-at : {e : ℕ} → x ≡ At e → SpanIs A text s (record { from = s; to = e })
  shown-at {e} q = record {
    ordered = at_low i q;
    inside = at_high i q;
    means = λ ps of some.
        let k = meaning ps of (At e) q in
        sym (ap span_of (part-occurs ps text s (e, k.1)) ∙ ap (λ (y : ℕ). record { from = s; to = y }) (earliest_is ps text s e some k.1 k.2));
  }

  pub shown_dead : {e : ℕ} → x ≡ Dead e → SpanIs A text s (record { from = length text; to = length text })
  shown_dead {e} q = record {
    ordered = omega arith;
    inside = omega arith;
    means = λ ps of some. nothing ps some (meaning ps of (Dead e) q);
  }

  pub shown_open : x ≡ Open → SpanIs A text s (record { from = length text; to = length text })
  shown_open q = record {
    ordered = omega arith;
    inside = omega arith;
    means = λ ps of some. nothing ps some (λ y l o. let k = o.inside in meaning ps of Open q y l (omega arith) o);
  }
