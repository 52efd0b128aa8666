-- Bytes at which the state stays, and a loop that goes on after them. Assumes nothing.
use mathlib.Core.Path.{◌≡◌, sym, ◌∙◌}
use mathlib.Core.List.{List}
use mathlib.Core.Bool.{Bool, true, false, not}
use Prim.Native.Nat.{ℕ, ◌+◌, ◌-◌, ◌≤◌, ◌<◌}
use native.Mathlib.Omega.{arith}
use lib.ListN.{length, get_or, set}
use borrow.Author.Tests.{not-false}
use Rattle.shift_and.specs.ForwardStep.{top_bit}
use Rattle.shift_and_step.specs.declared.Masks.{Masks}
use Rattle.shift_and.specs.Automaton.{step_on}
use Rattle.shift_and_step.specs.Stepping.{automaton_of}
use Rattle.shift_and_step.specs.ClosedStates.{StepsTo, Fixpoint}
use Rattle.shift_and_loop.specs.declared.Cursor.{Cursor}
use Rattle.shift_and_loop.specs.Loops.{Advanced}
use Rattle.shift_and_loop.proofs.LoopLaws.{LoopInvariant, skipped_on, loop_passed, loop_ended, loop_stopped, loop_over, pass_none, pass_more, pass_one}
use Rattle.shift_and_fixpoint.specs.Fixpoints.{SkippableUpTo}

pub stay_none : (t : List ℕ) (m : Masks) (d until : ℕ) (text : List ℕ) (i : ℕ) → i ≤ until → until ≤ length text → SkippableUpTo t m d until text i i
stay_none t m d until text i l w = record { passed = pass_none t m d text i (omega arith); short = l }

-- a byte at which the state stays
pub stay_on : {t : List ℕ} {m : Masks} {d until : ℕ} {text : List ℕ} {i j c : ℕ} {s r : Bool} → SkippableUpTo t m d until text i j → j < until → until ≤ length text → c ≡ get_or text j 0
    → Fixpoint m d (get_or t c 0) s → not s ≡ false → r ≡ top_bit m.top d → r ≡ false → SkippableUpTo t m d until text i (j + 1)
stay_on {t} {m} {d} {until} {text} {i} {j} {c} {s} {r} p h w ec st e er z =
    let stays : step_on (automaton_of t m) 1 d c ≡ d = st.says (not-false s e) in
    record { passed = pass_more p.passed (pass_one t m d text j (omega arith) (rw ec at stays) (sym er ∙ z)); short = omega arith }

-- a loop goes on after bytes at which the state stays
module _ {t : List ℕ} {m : Masks} {text ends₀ ends : List ℕ} {s : Cursor} {d n i j until : ℕ} (g : LoopInvariant t m until text ends₀ s ends d n i)
    (p : SkippableUpTo t m d until text i j) where
  on : LoopInvariant t m until text ends₀ s ends d n j
  on = record {
    going = skipped_on g.going p.passed (omega (arith, p.passed.fore, g.fore));
    is_closed_lem = g.is_closed_lem;
    far = g.far;
    fore = omega (arith, p.passed.fore, g.fore);
    within = p.passed.within;
    fits = g.fits;
    behind = omega (arith, p.passed.fore, g.behind);
    room = g.room;
  }

  pub stay_over : {q : ℕ} → q ≡ s.at + (j - s.i) → s.i < until → j ≡ until
      → Advanced t m text ends₀ s.d s.at s.n s.i (record { d = d; at = q; n = n; i = j }) ends
  stay_over eq h e = loop_over on eq h (omega arith)

  module _ {b d' : ℕ} (h : j ≡ until → ⊥) (eb : b ≡ get_or text j 0) (es : StepsTo m d (get_or t b 0) d') where
    left : j < until
    left = omega (arith, p.short)

    pub stay_passed : {r : Bool} → r ≡ top_bit m.top d' → r ≡ false → LoopInvariant t m until text ends₀ s ends d' n (j + 1)
    stay_passed er z = loop_passed on left eb es er z

    pub stay_ended : {r : Bool} {q : ℕ} → r ≡ top_bit m.top d' → r ≡ true → q ≡ s.at + (j + 1 - s.i)
        → LoopInvariant t m until text ends₀ s (set ends n q) d' (n + 1) (j + 1)
    stay_ended er z eq = loop_ended on left eb es er z eq

    pub stay_stopped : {r : Bool} {q : ℕ} → r ≡ top_bit m.top d' → r ≡ false → q ≡ s.at + (j + 1 - s.i)
        → Advanced t m text ends₀ s.d s.at s.n s.i (record { d = d'; at = q; n = n; i = j + 1 }) ends
    stay_stopped er z eq = loop_stopped on left eb es er z eq
