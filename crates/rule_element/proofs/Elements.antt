-- The laws of `read_element`. On plain values. Assumes nothing.
use mathlib.Core.Path.{◌≡◌, refl, ap, ap₂, ◌∙◌}
use mathlib.Core.List.{List, []}
use mathlib.Core.Bool.{Bool, true}
use Prim.Native.Nat.{ℕ, ◌+◌, ◌-◌, ◌≤◌}
use native.Mathlib.Omega.{arith}
use native.Mathlib.Decide.{dec_le}
use lib.ListN.{length, drop}
use lib.Dec.{leb}
use borrow.Author.Tests.{le-leb}
use Rattle.std.specs.Prelude.{Ok}
use Rattle.model.specs.RuleText as Model
use Rattle.model.specs.RuleText.{byte, any, class, gap, kind_at, once, optional, repeatable, both, often_after, mark_bytes, position_limit}
use Rattle.rule_element.specs.declared.Kind.{Kind}
use Rattle.rule_element.specs.declared.Often.{Often}
use Rattle.rule_element.specs.Reading.{kind_of, Spelt, ReadsKind, often_of, mark_at, often_by, bytes_of, size_of, read_by, ElementRead}
use Rattle.rule_class.proofs.Ends.{past_end}

pub size_same : (fold : Bool) (d : Model.Kind) → size_of (kind_of fold d) ≡ Model.size d
size_same fold (byte b) = refl
size_same fold any = refl
size_same fold (class t rs) = refl
size_same fold (gap a b) = refl

often-same : (fold : Bool) (s : List ℕ) (at : ℕ) (d : Model.Kind) → often_by (kind_of fold d) (mark_at s at) ≡ often_of (often_after d (drop at s))
unfolding mark_at
often-same fold s at (byte b) = refl
often-same fold s at any = refl
often-same fold s at (class t rs) = refl
often-same fold s at (gap a b) = refl

pub bytes_same : (o : Model.Often) → bytes_of (often_of o) ≡ mark_bytes o
bytes_same once = refl
bytes_same optional = refl
bytes_same repeatable = refl
bytes_same both = refl

-- a mark that is there stands within the rule
mark-inside : (s : List ℕ) (at : ℕ) (d : Model.Kind) → at ≤ length s → at + mark_bytes (often_after d (drop at s)) ≤ length s
mark-inside s at d h = elim (dec_le (length s) at) [
  | yes l ↦ let e : mark_bytes (often_after d (drop at s)) ≡ 0 = rw (past_end s at l) (none_left d) in omega arith
  | no l ↦ let e = at_most (often_after d (drop at s)) in omega arith
]
  where
    none_left : (d : Model.Kind) → mark_bytes (often_after d []) ≡ 0
    none_left (byte b) = refl
    none_left any = refl
    none_left (class t rs) = refl
    none_left (gap a b) = refl

    at_most : (o : Model.Often) → mark_bytes o ≤ 1
    at_most once = omega arith
    at_most optional = omega arith
    at_most repeatable = omega arith
    at_most both = omega arith

-- a kind and its mark
module _ (fold : Bool) (used : ℕ) (s : List ℕ) (at : ℕ) (kind : Kind) (after : ℕ) (rk : ReadsKind fold s at (Ok (kind, after))) (u : used ≤ position_limit)
    (m : ℕ) (em : m ≡ size_of kind) (o : m ≤ position_limit - used) (f : Often) (ef : f ≡ often_by kind (mark_at s after)) (b : ℕ) (eb : b ≡ bytes_of f) where
  got : Spelt fold at (kind_at fold (drop at s)) kind after
  got = rk.is

  abbrev mark : Model.Often
  mark = often_after got.model (drop (at + got.bytes) s)

  is-often : f ≡ often_of mark
  is-often = ef ∙ ap₂ (λ (x : Kind) (j : ℕ). often_by x (mark_at s j)) got.kind-is got.next-is ∙ often-same fold s (at + got.bytes) got.model

  is-bytes : b ≡ mark_bytes mark
  is-bytes = eb ∙ ap bytes_of is-often ∙ bytes_same mark

  pub element-good : ElementRead fold used s at (record { kind = kind; often = f }) (after + b)
  element-good =
      let i : at + got.bytes + mark_bytes mark ≤ length s = mark-inside s (at + got.bytes) got.model (omega (arith, rk.moves.1, got.next-is)) in
      let z : m ≡ Model.size got.model = em ∙ ap size_of got.kind-is ∙ size_same fold got.model in
      let l : leb (used + Model.size got.model) position_limit ≡ true = le-leb (used + Model.size got.model) position_limit (omega arith) in
      let n : at + got.bytes + mark_bytes mark ≡ after + b = omega (arith, is-bytes, got.next-is) in
      let e : read_by used s at (kind_at fold (drop at s)) ≡ Ok (record { kind = got.model; often = mark }, at + got.bytes + mark_bytes mark) = rw (got.is, l) in
      record {
        model = record { kind = got.model; often = mark };
        is = e ∙ ap (λ (j : ℕ). Ok (record { kind = got.model; often = mark }, j)) n;
        element-is = ap₂ (λ (x : Kind) (y : Often). record { kind = x; often = y }) got.kind-is is-often;
        moves = record { ahead = omega (arith, eb, rk.moves.0); inside = omega (arith, n); fits = rk.moves.2; room = omega (arith, em) };
      }
