-- The loop of `verify`. On plain values. Assumes nothing.
use mathlib.Core.Path.{◌≡◌, sym, ◌∙◌}
use mathlib.Core.Bool.{Bool, true, false, cond}
use mathlib.Core.List.{List}
use Prim.Native.Nat.{ℕ, suc, ◌+◌, ◌-◌, ◌≤◌, ◌<◌}
use native.Mathlib.Omega.{arith}
use lib.ListN.{get_or}
use lib.Dec.{eqb}
use borrow.Author.Tests.{eq-eqb, ne_eqb}
use Rattle.shift_and.specs.ForwardStep.{top_bit}
use Rattle.shift_and.specs.Automaton.{Automaton, step_on, opening_state}
use Rattle.window_reader.specs.declared.End.TheVariants.{At, Dead, Open}
use Rattle.window_reader.specs.Reading.{step_at, ended_n, EndIs}

-- the invariant: the bytes from e up to `stop` may still be read
pub record Verifying (A : Automaton) (text : List ℕ) (s stop d e : ℕ) : Type 0 where
  pub after : s ≤ e
  pub before : e ≤ stop
  pub rest : ended_n A text d e (stop - e) ≡ ended_n A text (opening_state A) s (stop - s)

module _ (A : Automaton) (text : List ℕ) (d e : ℕ) where
  -- one turn of the definition
  ended_suc : (k l : ℕ) → k ≡ suc l → ended_n A text d e k
      ≡ cond (eqb (step_at A text 0 d e) 0) (Dead (e + 1))
      (cond (top_bit A.top (step_at A text 0 d e)) (At (e + 1)) (ended_n A text (step_at A text 0 d e) (e + 1) l))
  unfolding ended_n
  ended_suc k l q = rw q

  ended_turn : (stop : ℕ) → e < stop → ended_n A text d e (stop - e)
      ≡ cond (eqb (step_at A text 0 d e) 0) (Dead (e + 1))
      (cond (top_bit A.top (step_at A text 0 d e)) (At (e + 1)) (ended_n A text (step_at A text 0 d e) (e + 1) (stop - (e + 1))))
  ended_turn stop h = ended_suc (stop - e) (stop - (e + 1)) (omega arith)

module _ (A : Automaton) (text : List ℕ) (s stop : ℕ) where
  pub verify_begun : {d : ℕ} → s ≤ stop → d ≡ opening_state A → Verifying A text s stop d s
  verify_begun h q = record { after = omega arith; before = h; rest = rw q }

  module _ {d e : ℕ} (g : Verifying A text s stop d e) where
    module _ {b d' : ℕ} (h : e < stop) (eb : b ≡ get_or text e 0) (es : d' ≡ step_on A 0 d b) where
      q : d' ≡ step_at A text 0 d e
      q = rw (← eb) es

      -- no state is left
      pub verify_died : d' ≡ 0 → EndIs A text s stop (Dead (e + 1))
      verify_died z =
          let i = ended_turn A text d e stop h in
          record { is = sym (rw (← q, eq-eqb _ _ z) at i) ∙ g.rest; within = (omega arith, omega arith) }

      module _ (z : d' ≡ 0 → ⊥) where
        -- an end
        pub verify_ended : {x : Bool} → x ≡ top_bit A.top d' → x ≡ true → EndIs A text s stop (At (e + 1))
        verify_ended p k =
            let i = ended_turn A text d e stop h in
            record { is = sym (rw (← q, ne_eqb _ _ z, ← p, k) at i) ∙ g.rest; within = (omega arith, omega arith) }

        pub verify_passed : {x : Bool} → x ≡ top_bit A.top d' → x ≡ false → Verifying A text s stop d' (e + 1)
        verify_passed p k =
            let i = ended_turn A text d e stop h in
            record { after = omega arith; before = omega arith; rest = sym (rw (← q, ne_eqb _ _ z, ← p, k) at i) ∙ g.rest }

    -- no more bytes
    pub verify_over : stop ≤ e → EndIs A text s stop Open
    unfolding ended_n
    verify_over h =
        let z : stop - e ≡ 0 = omega arith in
        record { is = rw z at g.rest; within = tt }
