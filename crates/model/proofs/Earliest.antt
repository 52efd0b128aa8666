-- The part that is shown: an occurrence from the start, and none there ends earlier. Assumes nothing.
use mathlib.Core.Path.{◌≡◌, subst}
use mathlib.Core.Logic.{◌⊎◌, inl, inr}
use mathlib.Core.List.{List}
use Prim.Native.Nat.{ℕ, suc, ◌+◌, ◌-◌, ◌≤◌, ◌<◌}
use native.Mathlib.Omega.{arith}
use native.Mathlib.Decide.{dec_le}
use lib.Dec.{T}
use lib.ListN.{length}
use Rattle.model.specs.Occurrence.{Position, stretch, OccursAt, StartsAt, is_occurrence, is_start}
use Rattle.model.specs.WindowSearch.{earliest_end, empty_part, part_from}
use Rattle.model.proofs.Truth.{T_true, T_false}
use Rattle.model.proofs.Decided.{occurrence_decided, start-decided}
use Rattle.model.proofs.Windows.{least-before, least-is}

module _ (ps : List Position) (text : List ℕ) (s : ℕ) where
  -- No end before the earliest.
  pub none_earlier : (e : ℕ) → e < earliest_end ps text s → OccursAt ps text s e → ⊥
  none_earlier e l o =
      let a = o.ordered in
      let b = o.inside in
      least-before (λ e. is_occurrence ps (stretch text s e)) (suc (length text) - s) s (length text) e a (omega arith) l ((occurrence_decided ps (stretch text s e)).1 o.occurs)

  -- Where something starts, an occurrence ends there.
  pub earliest_occurs : StartsAt ps text s → OccursAt ps text s (earliest_end ps text s)
  earliest_occurs (e, o) = go (least-is (λ e. is_occurrence ps (stretch text s e)) (suc (length text) - s) s (length text))
    where
      E : ℕ
      E = earliest_end ps text s

      go : ((s ≤ E) × (E < s + (suc (length text) - s)) × T (is_occurrence ps (stretch text s E))) ⊎ (E ≡ length text) → OccursAt ps text s E
      go (inl r) =
          let a = r.0 in
          let b = r.1 in
          let c = o.ordered in
          let d = o.inside in
          record { ordered = a; inside = omega arith; occurs = (occurrence_decided ps (stretch text s E)).0 r.2 }
      go (inr r) =
          let c = o.ordered in
          let d = o.inside in
          let l : length text ≤ e = elim (dec_le (length text) e) [
            | yes h ↦ h
            | no h ↦ absurd (none_earlier e (omega arith) o)
          ] in
          let q : e ≡ E = omega arith in
          subst (λ (x : ℕ). OccursAt ps text s x) q o

  pub part-occurs : StartsAt ps text s → part_from ps text s ≡ record { from = s; to = earliest_end ps text s }
  part-occurs a = let q = T_true (is_start ps text s) ((start-decided ps text s).1 a) in rw (q, part_from)

  pub part-empty : (StartsAt ps text s → ⊥) → part_from ps text s ≡ empty_part text
  part-empty f = let q = T_false (is_start ps text s) (λ t. f ((start-decided ps text s).0 t)) in rw (q, part_from)
