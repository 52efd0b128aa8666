-- The laws of the returns and loops of src/lib.rt, on plain values. Assumes nothing.
use mathlib.Core.Path.{◌≡◌, refl, ◌∙◌}
use mathlib.Core.List.{List}
use mathlib.Core.Bool.{Bool, true, false, cond}
use Prim.Native.Nat.{ℕ, suc, ◌+◌, ◌-◌, ◌*◌, ◌/◌, ◌%◌, ◌^◌, ◌≤◌, ◌<◌}
use native.Mathlib.Omega.{arith}
use native.Mathlib.Nat.{one-mul}
use lib.ListN.{get_or}
use lib.Dec.{eqb, lit<}
use lib.Pow.{shl_exact}
use Rattle.shift_and.specs.ForwardStep.{top_bit}
use Rattle.shift_and.proofs.Bridge.{top-bit}
use Rattle.model.specs.RuleText.{other_case}
use Rattle.byte_set.specs.Sets.{member, add_byte, add_where, add_range, widen}

-- the code's `1 << k` is the power, where k is below 64
pub one_bit : (c : ℕ) → 1 * 2 ^ (c % 64) % 2 ^ 64 ≡ 2 ^ (c % 64)
one_bit c = shl_exact 1 (c % 64) 64 (lit< tt) (omega arith) ∙ one-mul _

pub member_is : (w : List ℕ) (c : ℕ) → eqb (get_or w (c / 64) 0 / 2 ^ (c % 64) % 2) 1 ≡ member w c
unfolding member top_bit
member_is w c = top-bit (c % 64) (get_or w (c / 64) 0)

-- ---- `insert_range`
pub record Adding (w₀ : List ℕ) (lo hi : ℕ) (w : List ℕ) (c : ℕ) : Type 0 where
  pub above : lo ≤ c
  pub below : c ≤ hi
  pub rest : add_range w c hi ≡ add_range w₀ lo hi

module _ (w₀ : List ℕ) (lo hi : ℕ) where
  pub adding : lo ≤ hi → Adding w₀ lo hi w₀ lo
  adding h = record { above = omega arith; below = h; rest = refl }

  module _ {w : List ℕ} {c : ℕ} (g : Adding w₀ lo hi w c) where
    pub add_turn : {w' : List ℕ} → c < hi → w' ≡ add_byte w c → Adding w₀ lo hi w' (c + 1)
    unfolding add_where
    add_turn h e =
        let k : suc hi - c ≡ suc (suc hi - (c + 1)) = omega arith in
        record { above = omega arith; below = omega arith; rest = rw e (rw k at g.rest) }

    pub add_over : {w' : List ℕ} → hi ≤ c → w' ≡ add_byte w c → w' ≡ add_range w₀ lo hi
    unfolding add_where
    add_over h e =
        let k : suc hi - c ≡ 1 = omega arith in
        e ∙ (rw k at g.rest)

-- ---- `both_cases`
pub record Widening (w₀ w : List ℕ) (c : ℕ) : Type 0 where
  pub within : c ≤ 123
  pub rest : add_where (λ x. member w₀ (other_case x)) w c (123 - c) ≡ widen true w₀

module _ (w₀ : List ℕ) where
  pub widening : Widening w₀ w₀ 65
  unfolding widen
  widening = record { within = omega arith; rest = refl }

  module _ {w : List ℕ} {c : ℕ} (g : Widening w₀ w c) where
    one_more : c < 123 → add_where (λ x. member w₀ (other_case x)) (cond (member w₀ (other_case c)) (add_byte w c) w) (c + 1) (123 - (c + 1)) ≡ widen true w₀
    unfolding add_where
    one_more h =
        let k : 123 - c ≡ suc (123 - (c + 1)) = omega arith in
        rw k at g.rest

    module _ (h : c < 123) (o : ℕ) (eo : o ≡ other_case c) (m : Bool) (em : m ≡ member w₀ o) where
      pub widen-turn : m ≡ true → (w' : List ℕ) → w' ≡ add_byte w c → Widening w₀ w' (c + 1)
      widen-turn y w' e = record { within = omega arith; rest = rw (e) (rw (← eo, ← em, y) at (one_more h)) }

      pub widen_pass : m ≡ false → Widening w₀ w (c + 1)
      widen_pass y = record { within = omega arith; rest = rw (← eo, ← em, y) at (one_more h) }

    pub widen-over : 123 ≤ c → w ≡ widen true w₀
    unfolding add_where
    widen-over h =
        let k : 123 - c ≡ 0 = omega arith in
        rw k at g.rest
