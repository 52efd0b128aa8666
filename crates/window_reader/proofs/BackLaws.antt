-- The loops of `count_back` and `write_back`. On plain values. Assumes nothing.
use mathlib.Core.Path.{◌≡◌, refl, sym, ap, ◌∙◌}
use mathlib.Core.Bool.{Bool, true, false}
use mathlib.Core.List.{List, [], ◌∷◌, ◌++◌, append-nil}
use Prim.Native.Nat.{ℕ, zero, suc, ◌+◌, ◌-◌, ◌≤◌, ◌<◌}
use native.Mathlib.Nat.{add-zero}
use native.Mathlib.Omega.{arith}
use lib.ListN.{length, get_or, set, length-set, length-append}
use lib.Seq.{sets, set_comm}
use Rattle.shift_and.specs.ForwardStep.{top_bit}
use Rattle.shift_and.specs.Automaton.{Automaton, step_on, opening_state}
use Rattle.window_reader.specs.Reading.{last_if, step_at, back_n, starts_back, CountIs, WriteFine, WroteIs}

-- a store after a run of stores is a store before them
sets_last : (l : List ℕ) (i : ℕ) (xs : List ℕ) (v : ℕ) → sets l i (xs ++ (v ∷ [])) ≡ sets (set l (i + length xs) v) i xs
sets_last l i [] v = rw add-zero
sets_last l i (x ∷ xs) v =
    let e : suc i + length xs ≡ i + suc (length xs) = omega arith in
    let o : i ≡ i + suc (length xs) → ⊥ = λ q. omega arith in
    sets_last (set l i x) (suc i) xs v ∙ ap (λ (k : ℕ). sets (set (set l i x) k v) (suc i) xs) e
    ∙ ap (λ (k : List ℕ). sets k (suc i) xs) (set_comm l i (i + suc (length xs)) x v o)

module _ (A : Automaton) (text : List ℕ) (from : ℕ) where
  -- one turn of the definition, at the place before j
  back_suc : (d i k l : ℕ) → k ≡ suc l → from + l ≡ i
      → back_n A text from d k ≡ back_n A text from (step_at A text 1 d i) l ++ last_if (top_bit A.top (step_at A text 1 d i)) i
  unfolding back_n
  back_suc d i k l q e = rw (q, e)

  back-turn : (d j : ℕ) → from < j
      → back_n A text from d (j - from)
      ≡ back_n A text from (step_at A text 1 d (j - 1)) (j - 1 - from) ++ last_if (top_bit A.top (step_at A text 1 d (j - 1))) (j - 1)
  back-turn d j h = back_suc d (j - 1) (j - from) (j - 1 - from) (omega arith) (omega arith)

  module _ (d : ℕ) {d' j b : ℕ} (h : from < j) (eb : b ≡ get_or text (j - 1) 0) (es : d' ≡ step_on A 1 d b) where
    turn : back_n A text from d (j - from) ≡ back_n A text from d' (j - 1 - from) ++ last_if (top_bit A.top d') (j - 1)
    turn =
        let q : d' ≡ step_at A text 1 d (j - 1) = rw (← eb) es in
        rw (back-turn d j h, ← q)

    starts_here : {x : Bool} → x ≡ top_bit A.top d' → x ≡ true → back_n A text from d (j - from) ≡ back_n A text from d' (j - 1 - from) ++ ((j - 1) ∷ [])
    starts_here p k = rw (turn, ← p, k)

    none_here : {x : Bool} → x ≡ top_bit A.top d' → x ≡ false → back_n A text from d (j - from) ≡ back_n A text from d' (j - 1 - from)
    none_here p k = rw (turn, ← p, k, append-nil)

-- ---- counting

pub record Counting (A : Automaton) (text : List ℕ) (from d k j : ℕ) : Type 0 where
  pub after : from ≤ j
  pub within : j ≤ length text
  pub few : k + j ≤ length text
  pub rest : k + length (back_n A text from d (j - from)) ≡ length (starts_back A text from)

module _ (A : Automaton) (text : List ℕ) (from : ℕ) where
  pub count-begun : {d : ℕ} → from ≤ length text → d ≡ opening_state A → Counting A text from d 0 (length text)
  count-begun h q = record { after = h; within = omega arith; few = omega arith; rest = rw q (omega arith) }

  module _ {d k j : ℕ} (g : Counting A text from d k j) where
    module _ {b d' : ℕ} (h : from < j) (eb : b ≡ get_or text (j - 1) 0) (es : d' ≡ step_on A 1 d b) where
      pub counted : {x : Bool} → x ≡ top_bit A.top d' → x ≡ true → Counting A text from d' (k + 1) (j - 1)
      counted p z =
          let q = ap length (starts_here A text from d h eb es p z) in
          let l = length-append (back_n A text from d' (j - 1 - from)) ((j - 1) ∷ []) in
          record { after = omega arith; within = omega (arith, g.within); few = omega (arith, g.few); rest = omega (arith, g.rest) }

      pub count-passed : {x : Bool} → x ≡ top_bit A.top d' → x ≡ false → Counting A text from d' k (j - 1)
      count-passed p z =
          let q = ap length (none_here A text from d h eb es p z) in
          record { after = omega arith; within = omega (arith, g.within); few = omega (arith, g.few); rest = omega (arith, g.rest) }

    pub count-over : j ≤ from → CountIs A text from k
    unfolding back_n
    count-over h =
        let z : j - from ≡ 0 = omega arith in
        let q : k + 0 ≡ length (starts_back A text from) = rw z at g.rest in
        record { is = omega arith; few = omega (arith, g.few, g.after) }

-- ---- writing

pub record Writing (A : Automaton) (text : List ℕ) (from : ℕ) (l₀ : List ℕ) (first : ℕ) (l : List ℕ) (d p j : ℕ) : Type 0 where
  pub after : from ≤ j
  pub within : j ≤ length text
  pub long : length l ≡ length l₀
  pub place : p ≡ first + length (back_n A text from d (j - from))
  pub room : p ≤ length l₀
  pub rest : sets l first (back_n A text from d (j - from)) ≡ sets l₀ first (starts_back A text from)

module _ (A : Automaton) (text : List ℕ) (from : ℕ) (l₀ : List ℕ) (first : ℕ) where
  pub write_begun : {d k : ℕ} → WriteFine A text from (length l₀) first k → d ≡ opening_state A
      → Writing A text from l₀ first l₀ d (first + k) (length text)
  write_begun f q = let h = f.from-within in let e = f.count in record { after = h; within = omega arith; long = refl; place = rw (q, e); room = f.room; rest = rw q }

  module _ {l : List ℕ} {d p j : ℕ} (g : Writing A text from l₀ first l d p j) where
    -- while some start is still to be written, there are bytes to be read
    pub more : first < p → from < j
    unfolding back_n
    more f = go (j - from) refl
      where
        go : (k : ℕ) → j - from ≡ k → from < j
        go zero z = let q : p ≡ first + 0 = rw z at g.place in absurd (omega arith)
        go (suc k) z = omega arith

    pub more-place : first < p → 1 ≤ j
    more-place f = omega (arith, more f)

    pub more_less : first < p → j - 1 < j
    more_less f = omega (arith, more f)

    pub more_within : first < p → j - 1 < length text
    more_within f = omega (arith, more f, g.within)

    module _ {b d' : ℕ} (f : first < p) (eb : b ≡ get_or text (j - 1) 0) (es : d' ≡ step_on A 1 d b) where
      h : from < j
      h = more f

      module _ {x : Bool} (p' : x ≡ top_bit A.top d') (z : x ≡ true) where
        -- the entry for it
        entry : p ≡ first + length (back_n A text from d' (j - 1 - from)) + 1
        entry =
            let q = ap length (starts_here A text from d h eb es p' z) in
            let s = length-append (back_n A text from d' (j - 1 - from)) ((j - 1) ∷ []) in
            omega (arith, g.place)

        pub above : 1 ≤ p
        above = omega (arith, entry)

        pub inside : p - 1 < length l
        inside = omega (arith, entry, g.room, g.long)

        pub wrote : Writing A text from l₀ first (set l (p - 1) (j - 1)) d' (p - 1) (j - 1)
        wrote =
            let q = starts_here A text from d h eb es p' z in
            let e : p - 1 ≡ first + length (back_n A text from d' (j - 1 - from)) = omega (arith, entry) in
            record {
              after = omega (arith, more f);
              within = omega (arith, g.within);
              long = length-set l (p - 1) (j - 1) ∙ g.long;
              place = e;
              room = omega (arith, g.room);
              rest = rw e (sym (sets_last l first (back_n A text from d' (j - 1 - from)) (j - 1)) ∙ sym (ap (sets l first) q) ∙ g.rest);
            }

      pub write_passed : {x : Bool} → x ≡ top_bit A.top d' → x ≡ false → Writing A text from l₀ first l d' p (j - 1)
      write_passed p' z =
          let q = none_here A text from d h eb es p' z in
          record {
            after = omega (arith, more f);
            within = omega (arith, g.within);
            long = g.long;
            place = rw (← q) g.place;
            room = g.room;
            rest = rw (← q) g.rest;
          }

    pub write_over : p ≤ first → WroteIs A text from l₀ first l
    write_over f =
        let z : back_n A text from d (j - from) ≡ [] = none_left (back_n A text from d (j - from)) (omega (arith, g.place)) in
        record { list = sym (ap (sets l first) z) ∙ g.rest; long = g.long }
      where
        none_left : (xs : List ℕ) → length xs ≡ 0 → xs ≡ []
        none_left [] e = refl
        none_left (x ∷ xs) e = absurd (omega arith)
