-- Four words read as one number: the step on a byte, the opening state, the end that a state reports, and that no state is left. Assumes nothing.
use mathlib.Core.Path.{◌≡◌, refl, ap, ◌∙◌}
use mathlib.Core.Bool.{Bool, true, false}
use mathlib.Core.List.{List}
use Prim.Native.Nat.{ℕ, ◌+◌, ◌-◌, ◌*◌, ◌^◌, ◌<◌}
use native.Mathlib.Omega.{arith}
use lib.Bits.{bit_or, or_add_and, and_le_l, and_le_r}
use lib.Dec.{eqb}
use lib.ListN.{get_or}
use borrow.Author.Tests.{eqb-true, eqb-false}
use Rattle.shift_and.specs.ForwardStep.{opening, top_bit}
use Rattle.shift_and.specs.Automaton.{Automaton, step_with, step_on}
use Rattle.shift_and_wide.specs.declared.Wide.{Wide}
use Rattle.shift_and_wide.specs.declared.WideMasks.{WideMasks}
use Rattle.shift_and_wide.specs.ManyWords.{value, Words}
use Rattle.shift_and_wide.specs.Wides.{words, number, opening_of, top_bit_of}
use Rattle.shift_and_wide.specs.Stepping.{step_w, entry_of, wide_automaton_of, numbered}
use Rattle.shift_and_wide.proofs.Wides.{top-number}
use Rattle.shift_and_wide.proofs.Instances.{stepped-number, opening-number}
use Rattle.window_reader.proofs.VerifyLaws.{Verifying, verify_passed}
use Rattle.window_reader.specs.States.{EmptyIs}
use Rattle.window_reader.specs.WideStates.{FourWords}

-- ---- the step, the opening, an end

pub step_is : (d b : Wide) (k : ℕ) (m : WideMasks) (r : Wide) → k < 2 ^ 64 → FourWords d → FourWords b → FourWords m.repeats → FourWords m.optional → r ≡ step_w m k d b
    → number r ≡ step_with 256 (number m.repeats) (number m.optional) k (number d) (number b)
unfolding step_with
step_is d b k m r hk hd hb hr hq e = ap number e ∙ stepped-number d b m.repeats m.optional k hk hd.all hb.all hr.all hq.all

pub step_on-is : (t : List ℕ) (m : WideMasks) (k c : ℕ) (d b r : Wide) → b ≡ entry_of t c
    → number r ≡ step_with 256 (number m.repeats) (number m.optional) k (number d) (number b)
    → number r ≡ step_on (numbered (wide_automaton_of t m)) k (number d) c
step_on-is t m k c d b r eb e = e ∙ ap (λ (x : Wide). step_with 256 (number m.repeats) (number m.optional) k (number d) (number x)) eb

pub opening-is : (q r : Wide) → Words 64 4 (words q) → r ≡ opening_of q → number r ≡ opening 256 (number q)
opening-is q r hq e = ap number e ∙ opening-number q hq

pub top-is : (d : Wide) (n : ℕ) (r : Bool) → Words 64 4 (words d) → n < 256 → r ≡ top_bit_of n d → r ≡ top_bit n (number d)
top-is d n r hd h e = e ∙ top-number n d hd h

-- ---- four words of ones

pub all_ones : number (record { w0 = 18446744073709551615; w1 = 18446744073709551615; w2 = 18446744073709551615; w3 = 18446744073709551615 }) ≡ 2 ^ 256 - 1
unfolding number value
all_ones = refl

-- ---- no state is left: all four words are 0

or_zero : (a b : ℕ) → bit_or a b ≡ 0 → (a ≡ 0) × (b ≡ 0)
or_zero a b e = let s = or_add_and a b in let l = and_le_l a b in let r = and_le_r a b in (omega arith, omega arith)

digits_zero : (v x : ℕ) → v * 2 ^ 64 + x ≡ 0 → (v ≡ 0) × (x ≡ 0)
digits_zero v x e = (omega arith, omega arith)

all_zero : (d : Wide) → d.w0 ≡ 0 → d.w1 ≡ 0 → d.w2 ≡ 0 → d.w3 ≡ 0 → number d ≡ 0
unfolding number value
all_zero d e₀ e₁ e₂ e₃ = rw (e₀, e₁, e₂, e₃)

none_in : (d : Wide) → number d ≡ 0 → bit_or (bit_or (bit_or d.w0 d.w1) d.w2) d.w3 ≡ 0
unfolding number value
none_in d e =
    let z₀ = digits_zero _ d.w0 e in
    let z₁ = digits_zero _ d.w1 z₀.0 in
    let z₂ = digits_zero _ d.w2 z₁.0 in
    let z₃ = digits_zero 0 d.w3 z₂.0 in
    rw (z₀.1, z₁.1, z₂.1, z₃.1)

pub empty-is : (d : Wide) → EmptyIs (number d) (eqb (bit_or (bit_or (bit_or d.w0 d.w1) d.w2) d.w3) 0)
empty-is d = record {
  none = λ e.
      let a = or_zero (bit_or (bit_or d.w0 d.w1) d.w2) d.w3 (eqb-true _ 0 e) in
      let b = or_zero (bit_or d.w0 d.w1) d.w2 a.0 in
      let c = or_zero d.w0 d.w1 b.0 in
      all_zero d c.0 c.1 b.1 a.1;
  some = λ e z. eqb-false _ 0 e (none_in d z);
}

-- what the test tells where it is met
pub none_left : {d : ℕ} {r : Bool} → EmptyIs d r → r ≡ true → d ≡ 0
none_left h e = h.none e

pub some_left : {d : ℕ} {r : Bool} → EmptyIs d r → r ≡ false → d ≡ 0 → ⊥
some_left h e = h.some e

-- the same within `verify`, where the search for both laws would be too long
pub still_verifying : (A : Automaton) (text : List ℕ) (s stop : ℕ) {d e : ℕ} → Verifying A text s stop d e → {b d' : ℕ} → e < stop → b ≡ get_or text e 0 → d' ≡ step_on A 0 d b
    → {z : Bool} → EmptyIs d' z → z ≡ false → {x : Bool} → x ≡ top_bit A.top d' → x ≡ false → Verifying A text s stop d' (e + 1)
still_verifying A text s stop g h eb es l n p k = verify_passed A text s stop g h eb es (l.some n) p k
