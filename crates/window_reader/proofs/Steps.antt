-- Steps that leave no state: from none, and on a byte that stands at no position. Assumes nothing.
use mathlib.Core.Path.{◌≡◌, refl, sym, ap, subst, ◌∙◌}
use mathlib.Core.Bool.{Bool, true, false, ◌&&◌, ◌||◌}
use mathlib.Core.List.{List}
use Prim.Native.Nat.{ℕ, suc}
use Rattle.model.specs.Occurrence.{Position}
use Rattle.model.proofs.Law.{nth, step_bit, Steps}
use Rattle.shift_and.specs.Bit.{bit}
use Rattle.shift_and.specs.Masks.{admits_mask}
use Rattle.shift_and.proofs.Digits.{none-bit}
use Rattle.shift_and.proofs.MaskLaws.{mask-bit}

none_bits : (a b r o : Bool) → ((a && false) || (b && r && false) || (o && false)) ≡ false
none_bits true true true true = refl
none_bits true true true false = refl
none_bits true true false true = refl
none_bits true true false false = refl
none_bits true false true true = refl
none_bits true false true false = refl
none_bits true false false true = refl
none_bits true false false false = refl
none_bits false true true true = refl
none_bits false true true false = refl
none_bits false true false true = refl
none_bits false true false false = refl
none_bits false false true true = refl
none_bits false false true false = refl
none_bits false false false true = refl
none_bits false false false false = refl

-- no state before
none_of : (p : Position) (c : ℕ) → step_bit p c false false false ≡ false
none_of p c = go p.optional
  where
    go : (o : Bool) → (false || (o && false)) ≡ false
    go true = refl
    go false = refl

pub none-steps : (ps : List Position) (c : ℕ) → Steps false ps c (bit 0) (bit 0)
none-steps ps c = record { first = none-bit 0; later = λ i h. none-bit (suc i) ∙ sym (rw (none-bit i, none-bit (suc i)) (none_of (nth ps i) c)) }

none_in : (p : Position) (c : ℕ) (a b : Bool) → p.set c ≡ false → step_bit p c a b false ≡ false
none_in p c a b e = subst (λ (x : Bool). ((a && x) || (b && p.repeats && x) || (p.optional && false)) ≡ false) (sym e) (none_bits a b p.repeats p.optional)

-- a byte that stands at no position leaves no state
pub unknown_steps : (ps : List Position) (c : ℕ) → admits_mask ps c ≡ 0 → (old : ℕ → Bool) → Steps false ps c old (bit 0)
unknown_steps ps c z old = record {
  first = none-bit 0;
  later = λ i h.
      let q : (nth ps i).set c ≡ false = sym (mask-bit (λ p. p.set c) ps i h) ∙ ap (λ (x : ℕ). bit x (suc i)) z ∙ none-bit (suc i) in
      none-bit (suc i) ∙ sym (rw (none-bit i) (none_in (nth ps i) c (old i) (old (suc i)) q));
}
