-- Bits of a number of waiting feeds: one that is set where it was clear, one that is cleared where it was set. Assumes nothing.
use mathlib.Core.Path.{◌≡◌, refl, sym, ap, ap₂, ◌∙◌}
use mathlib.Core.Bool.{Bool, true, false, not, ◌&&◌, ◌||◌, and-true, or_comm}
use Prim.Native.Nat.{ℕ, ◌+◌, ◌-◌, ◌/◌, ◌%◌, ◌^◌, ◌≤◌, ◌<◌}
use native.Mathlib.Omega.{arith}
use native.Mathlib.Nat.{le_trans, le_of_eq}
use lib.Dec.{eqb, eqb→eq}
use lib.Bits.{bit_and, bit_or, bit_xor, and_le_l, or_lt, or_disjoint, xor_add_and}
use Rattle.model.proofs.Truth.{T-to, and-false}
use Rattle.shift_and.specs.Bit.{bit, differs}
use Rattle.shift_and.specs.ForwardStep.{top_bit}
use Rattle.shift_and.proofs.Digits.{and_bit, or_bit, xor_bit, mod_bit, power_bit}
use Rattle.shift_and.proofs.DisjointBits.{same-all, and_none}
use Rattle.shift_and.proofs.Bridge.{top-bit}

-- As the definitions test it.
abbrev pub flag_at : (n f : ℕ) → Bool
flag_at n f = eqb (n / 2 ^ f % 2) 1

pub flag_bit : (n f : ℕ) → flag_at n f ≡ bit n f
unfolding top_bit
flag_bit n f = top-bit f n

-- No bit but f is set in both, and f where it is in n.
and_power : (b : Bool) (n f : ℕ) → bit n f ≡ b → (j : ℕ) → (bit n j && bit (2 ^ f) j) ≡ (eqb f j && b)
and_power b n f e j = ap (λ (x : Bool). bit n j && x) (power_bit f j) ∙ go (eqb f j) refl
  where
    go : (x : Bool) → eqb f j ≡ x → (bit n j && x) ≡ (x && b)
    go true q = and-true (bit n j) ∙ ap (bit n) (sym (eqb→eq f j (T-to (sym q) tt))) ∙ e
    go false q = and-false (bit n j)

and_clear : (n f : ℕ) → bit n f ≡ false → bit_and n (2 ^ f) ≡ 0
and_clear n f e = and_none n (2 ^ f) (λ j. and_power false n f e j ∙ and-false (eqb f j))

and_set : (n f : ℕ) → bit n f ≡ true → bit_and n (2 ^ f) ≡ 2 ^ f
and_set n f e = same-all (bit_and n (2 ^ f)) (2 ^ f) (λ j. and_bit n (2 ^ f) j ∙ and_power true n f e j ∙ and-true (eqb f j) ∙ sym (power_bit f j))

-- ---- set where it was clear

module _ (n f : ℕ) (clear : flag_at n f ≡ false) where
  or_is : bit_or n (2 ^ f) ≡ n + 2 ^ f
  or_is = or_disjoint n (2 ^ f) (and_clear n f (sym (flag_bit n f) ∙ clear))

  pub set-fits : (w : ℕ) → n < 2 ^ w → 2 ^ f < 2 ^ w → n + 2 ^ f < 2 ^ w
  set-fits w a b = let h = or_lt w n (2 ^ f) a b in let e = or_is in omega arith

  pub set_flag : (g : ℕ) → flag_at (n + 2 ^ f) g ≡ (eqb f g || flag_at n g)
  set_flag g =
      flag_bit (n + 2 ^ f) g ∙ ap (λ (k : ℕ). bit k g) (sym or_is) ∙ or_bit n (2 ^ f) g ∙ ap₂ (λ (a b : Bool). a || b) (sym (flag_bit n g)) (power_bit f g)
      ∙ or_comm (flag_at n g) (eqb f g)

-- ---- cleared where it was set

module _ (n f : ℕ) (set : flag_at n f ≡ true) where
  both : bit_and n (2 ^ f) ≡ 2 ^ f
  both = and_set n f (sym (flag_bit n f) ∙ set)

  pub set-within : 2 ^ f ≤ n
  set-within = le_trans (le_of_eq (sym both)) (and_le_l n (2 ^ f))

  xor_is : bit_xor n (2 ^ f) ≡ n - 2 ^ f
  xor_is = let e = xor_add_and n (2 ^ f) in let b = both in let l = set-within in omega arith

  pub clear_flag : (g : ℕ) → flag_at (n - 2 ^ f) g ≡ (not (eqb f g) && flag_at n g)
  clear_flag g =
      flag_bit (n - 2 ^ f) g ∙ ap (λ (k : ℕ). bit k g) (sym xor_is) ∙ xor_bit n (2 ^ f) g
      ∙ ap₂ (λ (a b : Bool). differs a b) (sym (flag_bit n g)) (power_bit f g) ∙ go (eqb f g) refl
    where
      go : (x : Bool) → eqb f g ≡ x → differs (flag_at n g) x ≡ (not x && flag_at n g)
      go true q = ap (λ (x : Bool). differs x true) (ap (flag_at n) (sym (eqb→eq f g (T-to (sym q) tt))) ∙ set)
      go false q = differs_false (flag_at n g)
        where
          differs_false : (x : Bool) → differs x false ≡ x
          differs_false true = refl
          differs_false false = refl

-- ---- bits above 7 say nothing

pub low_flag : (w n f : ℕ) → f < w → flag_at (n % 2 ^ w) f ≡ flag_at n f
low_flag w n f h = flag_bit (n % 2 ^ w) f ∙ mod_bit w n f h ∙ sym (flag_bit n f)
