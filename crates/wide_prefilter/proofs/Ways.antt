-- Where the lowest word alone may run, and what the crates above ask of the rule. Assumes nothing.
use mathlib.Core.Path.{◌≡◌, refl, sym, ap, ◌∙◌}
use mathlib.Core.Bool.{Bool, true}
use mathlib.Core.List.{List, [], ◌∷◌}
use Prim.Native.Nat.{ℕ, zero, suc, ◌%◌, ◌^◌, ◌<◌}
use native.Mathlib.Omega.{arith}
use lib.Bits.{bit_or, or_mod, or_add_and, and_le_l, and_le_r}
use lib.Dec.{eqb}
use Rattle.std.specs.List.{fold}
use lib.ListN.{length, get_or, take, drop}
use lib.Seq.{length-take-le}
use borrow.Author.Tests.{eqb-true}
use Rattle.prefilter.specs.declared.Prefilter.{Prefilter}
use Rattle.shift_and_step.specs.declared.Masks.{Masks}
use Rattle.shift_and_wide.specs.declared.Wide.{Wide}
use Rattle.shift_and_wide.specs.declared.WideMasks.{WideMasks}
use Rattle.shift_and_wide.specs.Wides.{low}
use Rattle.shift_and_wide.specs.Stepping.{wide_automaton_of, state_after_w, ends_in_w}
use Rattle.wide_prefilter.specs.Choosing.{low_masks, QuietIs, EvenIs, LowIs, LowestSound, OneFits, FitsOne}
use Rattle.rule_part.specs.RulePart.{rule_length}
use Rattle.wide_prefilter.proofs.Narrow.{Keeps, narrow_state, narrow_ends, even-keeps, clear-keeps}

-- ---- even words

or_even : (a b : ℕ) → bit_or a b % 2 ≡ 0 → (a % 2 ≡ 0) × (b % 2 ≡ 0)
or_even a b e =
    let m : bit_or (a % 2) (b % 2) ≡ 0 = sym (or_mod a b 1) ∙ e in
    let s = or_add_and (a % 2) (b % 2) in
    let l = and_le_l (a % 2) (b % 2) in
    let r = and_le_r (a % 2) (b % 2) in
    (omega arith, omega arith)

-- where a union of words is even, each of them is
evens : (plane : List ℕ) (u : ℕ) → fold bit_or u plane % 2 ≡ 0 → (u % 2 ≡ 0) × ((x : ℕ) → get_or plane x 0 % 2 ≡ 0)
evens [] u e = (e, λ x. refl)
evens (y ∷ plane) u e =
    let r = evens plane (bit_or u y) e in
    ((or_even u y r.0).0, at (or_even u y r.0).1 r.1)
  where
    at : y % 2 ≡ 0 → ((x : ℕ) → get_or plane x 0 % 2 ≡ 0) → (x : ℕ) → get_or (y ∷ plane) x 0 % 2 ≡ 0
    at e f zero = e
    at e f (suc x) = f x

pub even-over : (plane : List ℕ) (u : ℕ) → u ≡ fold bit_or 0 plane → EvenIs plane (eqb (u % 2) 0)
even-over plane u q = record { says = λ e. (evens plane 0 (rw q at (eqb-true (u % 2) 0 e))).1 }

-- ---- the lowest word alone

module _ (t : List ℕ) (m : WideMasks) (p : Prefilter) (d : Wide) (l : length t ≡ 1024) (s : LowestSound t m p) where
  -- it is the run of four
  one_of : d ≡ low d.w0 → (P : ℕ → Type 0) → Keeps t m s.lowest.top s.lowest.free P → P d.w0 → OneFits t m p d
  one_of e P k h = record {
    long = l;
    top = s.lowest.top;
    planned = s.planned;
    runs = λ text. ap (λ (w : Wide). state_after_w (wide_automaton_of t m) w text) e ∙ narrow_state t m s.lowest.top s.lowest.free P k d.w0 text h;
    reports = λ at text. ap (λ (w : Wide). ends_in_w (wide_automaton_of t m) w at text) e ∙ narrow_ends t m s.lowest.top s.lowest.free P k d.w0 at text h;
  }

  pub fits-clear : p.clear ≡ true → m.optional.w0 < 2 ^ 63 → (q : Bool) → QuietIs d q → FitsOne t m p d q
  fits-clear c f q h = record {
    says = λ e. one_of (h.says e).0 (λ d. d < 2 ^ 63) (clear-keeps t m s.lowest.top s.lowest.free f (s.planned.clear c)) (h.says e).1;
  }

  pub fits-even : (z : Bool) → LowIs d z → z ≡ true → (q : Bool) → EvenIs (take 256 (drop 256 t)) q → FitsOne t m p d q
  fits-even z h ez q v = record {
    says = λ e. one_of (h.says ez) (λ d. d < 2 ^ 64) (even-keeps t m s.lowest.top s.lowest.free s.lowest.small (v.says e)) h.word;
  }

-- ---- parts, or four words

pub low-top : (m : WideMasks) (one : Masks) → one ≡ low_masks 63 m → one.top < 64
low-top m one e = rw e (omega arith)

-- ---- by the rule's part

pub entries_long : (r : List ℕ) → length r ≡ rule_length → length (take 1024 r) ≡ 1024
entries_long r l = length-take-le 1024 r (omega arith)
