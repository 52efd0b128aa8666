-- The laws of `read_bounds` and `unequal_at`. On plain values. Assumes nothing.
use mathlib.Core.Path.{◌≡◌, refl, sym, ap, ◌∙◌}
use mathlib.Core.List.{List, [], ◌∷◌}
use mathlib.Core.Bool.{false, cond, ◌&&◌}
use Prim.Native.Nat.{ℕ, suc, ◌+◌, ◌-◌, ◌≤◌, ◌<◌}
use native.Mathlib.Omega.{arith}
use native.Mathlib.Decide.{ℕ_discrete}
use native.Mathlib.Numerals.{add-one}
use native.Mathlib.Nat.{add-zero}
use lib.ListN.{length, get_or, drop}
use lib.Seq.{drop-cons, drop-drop}
use lib.Dec.{eqb, leb}
use borrow.Author.Tests.{eq-eqb, ne_eqb, le-leb, lt-leb}
use Rattle.std.specs.Prelude.{Option, Some, None}
use Rattle.model.specs.RefusalNumbers.{gap_fault}
use Rattle.model.specs.RuleText as Model
use Rattle.model.specs.RuleText.{bad, good, gap, bound_at, starts_with, gap_at}
use Rattle.rule_class.proofs.Ends.{within, byte_at}
use Rattle.rule_gap.specs.declared.Bound.{Bound}
use Rattle.rule_gap.specs.declared.Gap.{Gap}
use Rattle.rule_gap.specs.Bounds.{bound_of, ReadsBound, gap_by, ReadsBounds, unequal_kind, unequal_at}

-- ---- what `read_bound` found, read back into the model's

record BoundFound (at : ℕ) (b : Model.Bound) (x : Bound) : Type 0 where
  some : 1 ≤ b.bytes
  value : x.value ≡ b.value
  next : x.next ≡ at + b.bytes

bound-found : (at : ℕ) (b : Model.Bound) (x : Bound) → Some x ≡ bound_of at b → BoundFound at b x
bound-found at b x q = elim (ℕ_discrete b.bytes 0) [
  | yes e ↦ let f : Some x ≡ None = q ∙ rw (eq-eqb _ _ e) in absurd (cc)
  | no n ↦
      let f : Some x ≡ Some (record { value = b.value; next = at + b.bytes }) = q ∙ rw (ne_eqb _ _ n) in
      let p : x ≡ record { value = b.value; next = at + b.bytes } = cc in
      record { some = omega arith; value = ap (λ (y : Bound). y.value) p; next = ap (λ (y : Bound). y.next) p }
]

bound_missed : (at : ℕ) (b : Model.Bound) → None ≡ bound_of at b → leb 1 b.bytes ≡ false
bound_missed at b q = elim (ℕ_discrete b.bytes 0) [
  | yes e ↦ lt-leb 1 b.bytes (omega arith)
  | no n ↦ let f : ◌≡◌ {A = Option Bound} None (Some (record { value = b.value; next = at + b.bytes })) = q ∙ rw (ne_eqb _ _ n) in absurd (cc)
]

-- ---- both bounds

starts_by : (m : ℕ) (cs : List ℕ) → (0 ≡ m → ⊥) → starts_with m cs ≡ eqb (get_or cs 0 0) m
starts_by m [] n = sym (ne_eqb 0 m n)
starts_by m (c ∷ cs) n = refl

abbrev gap_with : Model.Bound → List ℕ → Model.Bound → List ℕ → Model.ReadKind
gap_with a x b y =
    cond
    (leb 1 a.bytes && starts_with 44 x && leb 1 b.bytes && starts_with 125 y && leb a.value b.value && leb 1 b.value)
    (good (gap a.value b.value) (a.bytes + b.bytes + 3))
    (bad gap_fault)

module _ (s : List ℕ) (at : ℕ) where
  a : Model.Bound
  a = bound_at (drop (suc at) s)

  no_gap : gap_at (drop (suc at) s) ≡ bad gap_fault → ReadsBounds s at None
  no_gap e = record { is = e; moves = tt }

  pub no_least : ReadsBound s (at + 1) None → ReadsBounds s at None
  unfolding a
  no_least r = no_gap (rw (bound_missed (at + 1) (bound_at (drop (suc at) s)) (rw (← add-one at) r.is)))

  module _ (least : Bound) (ra : ReadsBound s (at + 1) (Some least)) where
    found_a : BoundFound (at + 1) a least
    unfolding a
    found_a = bound-found (at + 1) (bound_at (drop (suc at) s)) least (rw (← add-one at) ra.is)

    b : Model.Bound
    b = bound_at (drop (least.next + 1) s)

    after_a : drop a.bytes (drop (suc at) s) ≡ drop least.next s
    after_a = drop-drop a.bytes (suc at) s ∙ ap (λ (j : ℕ). drop j s) (let e : suc at + a.bytes ≡ least.next = omega (arith, found_a.next) in e)

    by_bounds : gap_at (drop (suc at) s) ≡ gap_with a (drop least.next s) b (drop (least.next + 1 + b.bytes) s)
    unfolding a b
    by_bounds =
        ap (λ (x : List ℕ). gap_with (bound_at (drop (suc at) s)) x (bound_at (drop 1 x)) (drop (1 + (bound_at (drop 1 x)).bytes) x)) after_a
        ∙ ap (λ (x : List ℕ). gap_with (bound_at (drop (suc at) s)) (drop least.next s) (bound_at x) (drop (1 + (bound_at x).bytes) (drop least.next s))) (drop-drop 1 least.next s)
        ∙ ap (gap_with (bound_at (drop (suc at) s)) (drop least.next s) (bound_at (drop (least.next + 1) s)))
        (drop-drop (1 + (bound_at (drop (least.next + 1) s)).bytes) least.next s
        ∙ ap (λ (j : ℕ). drop j s) (let e : least.next + (1 + (bound_at (drop (least.next + 1) s)).bytes) ≡ least.next + 1 + (bound_at (drop (least.next + 1) s)).bytes = omega arith in e))

    starts-at : (m k : ℕ) → (0 ≡ m → ⊥) → starts_with m (drop k s) ≡ eqb (get_or s k 0) m
    starts-at m k n = starts_by m (drop k s) n ∙ ap (λ (x : ℕ). eqb x m) (byte_at s k 0 ∙ ap (λ (j : ℕ). get_or s j 0) (add-zero k))

    shape : gap_at (drop (suc at) s)
        ≡ cond
        (eqb (get_or s least.next 0) 44 && leb 1 b.bytes && eqb (get_or s (least.next + 1 + b.bytes) 0) 125 && leb least.value b.value && leb 1 b.value)
        (good (gap least.value b.value) (a.bytes + b.bytes + 3))
        (bad gap_fault)
    shape = rw (by_bounds, le-leb 1 a.bytes found_a.some, starts-at 44 least.next (λ e. absurd (omega arith)), starts-at 125 (least.next + 1 + b.bytes) (λ e. absurd (omega arith)), ← found_a.value)

    pub no_comma : (get_or s least.next 0 ≡ 44 → ⊥) → ReadsBounds s at None
    no_comma n = no_gap (rw (shape, ne_eqb _ _ n))

    module _ (comma : get_or s least.next 0 ≡ 44) where
      pub no_most : ReadsBound s (least.next + 1) None → ReadsBounds s at None
      unfolding b
      no_most r = no_gap (rw (shape, eq-eqb _ _ comma, bound_missed (least.next + 1) (bound_at (drop (least.next + 1) s)) r.is))

      module _ (most : Bound) (rb : ReadsBound s (least.next + 1) (Some most)) where
        found_b : BoundFound (least.next + 1) b most
        unfolding b
        found_b = bound-found (least.next + 1) (bound_at (drop (least.next + 1) s)) most rb.is

        shape_b : gap_at (drop (suc at) s)
            ≡ cond (eqb (get_or s most.next 0) 125 && leb least.value most.value && leb 1 most.value) (good (gap least.value most.value) (a.bytes + b.bytes + 3)) (bad gap_fault)
        shape_b = rw (shape, eq-eqb _ _ comma, le-leb 1 b.bytes found_b.some, ← found_b.next, ← found_b.value)

        pub no_brace : (get_or s most.next 0 ≡ 125 → ⊥) → ReadsBounds s at None
        no_brace n = no_gap (rw (shape_b, ne_eqb _ _ n))

        module _ (brace : get_or s most.next 0 ≡ 125) where
          pub reversed : most.value < least.value → ReadsBounds s at None
          reversed o = no_gap (rw (shape_b, eq-eqb _ _ brace, lt-leb _ _ o))

          module _ (o : least.value ≤ most.value) where
            pub zero_most : most.value ≡ 0 → ReadsBounds s at None
            zero_most z = no_gap (rw (shape_b, eq-eqb _ _ brace, le-leb _ _ o, lt-leb 1 most.value (omega arith)))

            pub gap-good : (most.value ≡ 0 → ⊥) → ReadsBounds s at (Some (record { least = least.value; most = most.value; next = most.next + 1 }))
            gap-good z =
                let n : a.bytes + b.bytes + 3 ≡ most.next + 1 - at = omega (arith, found_a.next, found_b.next) in
                let i = within s most.next 124 brace in
                let ma = ra.moves in
                let mb = rb.moves in
                record {
                  is = rw (shape_b, eq-eqb _ _ brace, le-leb _ _ o, le-leb 1 most.value (omega arith)) (ap (good (gap least.value most.value)) n);
                  moves = (omega arith, omega arith, (o, omega arith, omega arith));
                }

-- ---- `unequal_at`

module _ (s : List ℕ) (at : ℕ) (h : at < length s) (e : get_or s at 0 ≡ 123) where
  pub by_gap : (r : Option Gap) → ReadsBounds s at r → unequal_at (drop at s) ≡ unequal_kind (gap_by at r)
  by_gap r rc = rw (drop-cons s at 0 h, eq-eqb _ _ e) (ap unequal_kind rc.is)
