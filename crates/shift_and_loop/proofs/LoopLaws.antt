-- A run goes on, byte by byte and over what may be passed: what the rest of the text would make of the present place is what the text makes of the
-- first one. Assumes nothing.
use mathlib.Core.Path.{◌≡◌, refl, sym, ap, subst, ◌∙◌}
use mathlib.Core.List.{List, ◌∷◌}
use mathlib.Core.Bool.{Bool, true, false}
use Prim.Native.Nat.{ℕ, ◌+◌, ◌-◌, ◌^◌, ◌≤◌, ◌<◌}
use native.Mathlib.Numerals.{add-one}
use native.Mathlib.Omega.{arith}
use lib.ListN.{length, drop, get_or, set, length-set}
use lib.Seq.{sets, drop-cons}
use Rattle.model.specs.Occurrence.{cons_if}
use Rattle.shift_and.specs.ForwardStep.{top_bit}
use Rattle.shift_and_step.specs.declared.Masks.{Masks}
use Rattle.shift_and.specs.Automaton.{step_on, state_after, ends_in}
use Rattle.shift_and_step.specs.Stepping.{automaton_of}
use Rattle.shift_and_step.specs.ClosedStates.{Closed, StepsTo}
use Rattle.shift_and_loop.specs.declared.Cursor.{Cursor}
use Rattle.shift_and_loop.specs.Loops.{LoopProgress, Advanced, Skippable, HasRoom}

-- one turn of each definition
module _ (t : List ℕ) (m : Masks) (d at : ℕ) (text : List ℕ) (i : ℕ) (h : i < length text) where
  pub state-turn : state_after (automaton_of t m) d (drop i text) ≡ state_after (automaton_of t m) (step_on (automaton_of t m) 1 d (get_or text i 0)) (drop (i + 1) text)
  unfolding state_after
  state-turn = rw (add-one, drop-cons text i 0)

  pub ends-turn : ends_in (automaton_of t m) d at (drop i text)
      ≡ cons_if (top_bit m.top (step_on (automaton_of t m) 1 d (get_or text i 0))) (at + 1) (ends_in (automaton_of t m) (step_on (automaton_of t m) 1 d (get_or text i 0)) (at + 1) (drop (i + 1) text))
  unfolding ends_in
  ends-turn = rw (add-one i, drop-cons text i 0)

-- ---- going on

pub begun : (t : List ℕ) (m : Masks) (text ends₀ : List ℕ) (d₀ at₀ n₀ i₀ : ℕ) → i₀ ≤ length text → LoopProgress t m text ends₀ d₀ at₀ n₀ i₀ ends₀ d₀ at₀ n₀ i₀
begun t m text ends₀ d₀ at₀ n₀ i₀ h =
    record { fore = omega arith; within = h; place = refl; few = omega arith; long = refl; state = refl; count = refl; list = refl }

module _ {t : List ℕ} {m : Masks} {text ends₀ ends : List ℕ} {d₀ at₀ n₀ i₀ d at n i : ℕ}
    (g : LoopProgress t m text ends₀ d₀ at₀ n₀ i₀ ends d at n i) where
  -- b is the byte at i, and d' the state after it
  module _ {b d' : ℕ} (h : i < length text) (eb : b ≡ get_or text i 0) (es : d' ≡ step_on (automaton_of t m) 1 d b) where
    e : d' ≡ step_on (automaton_of t m) 1 d (get_or text i 0)
    e = rw (← eb) es

    -- no end there
    pub passed : {r : Bool} → r ≡ top_bit m.top d' → r ≡ false → LoopProgress t m text ends₀ d₀ at₀ n₀ i₀ ends d' (at + 1) n (i + 1)
    passed er z =
        let q : ends_in (automaton_of t m) d at (drop i text) ≡ ends_in (automaton_of t m) d' (at + 1) (drop (i + 1) text) =
        rw (ends-turn t m d at text i h, ← e, ← er, z) in
        record {
          fore = omega arith;
          within = omega arith;
          place = omega arith;
          few = omega arith;
          long = g.long;
          state = rw (e, ← state-turn t m d at text i h) g.state;
          count = rw (← q) g.count;
          list = rw (← q) g.list;
        }

    -- an end there, which is stored
    pub ended : {r : Bool} → r ≡ top_bit m.top d' → r ≡ true → LoopProgress t m text ends₀ d₀ at₀ n₀ i₀ (set ends n (at + 1)) d' (at + 1) (n + 1) (i + 1)
    ended er z =
        let q : ends_in (automaton_of t m) d at (drop i text) ≡ (at + 1) ∷ ends_in (automaton_of t m) d' (at + 1) (drop (i + 1) text) =
        rw (ends-turn t m d at text i h, ← e, ← er, z) in
        record {
          fore = omega arith;
          within = omega arith;
          place = omega arith;
          few = omega arith;
          long = length-set ends n (at + 1) ∙ g.long;
          state = rw (e, ← state-turn t m d at text i h) g.state;
          count = omega (arith, ap length q, g.count);
          list = rw (add-one n) (sym (ap (sets ends n) q) ∙ g.list);
        }

    -- the loop ends after that byte, and no end is there
    pub stopped : {r : Bool} → r ≡ top_bit m.top d' → r ≡ false → Advanced t m text ends₀ d₀ at₀ n₀ i₀ (record { d = d'; at = at + 1; n = n; i = i + 1 }) ends
    stopped er z = record { moves = omega arith; going = passed er z }

  -- or where it is
  pub advanced : i₀ < i → Advanced t m text ends₀ d₀ at₀ n₀ i₀ (record { d = d; at = at; n = n; i = i }) ends
  advanced h = record { moves = h; going = g }

  -- over what may be passed
  pub skipped_on : {at' j : ℕ} → Skippable t m d text i j → at' + i ≡ at + j → LoopProgress t m text ends₀ d₀ at₀ n₀ i₀ ends d at' n j
  skipped_on {at'} {j} p e =
      let q : ends_in (automaton_of t m) d at' (drop j text) ≡ ends_in (automaton_of t m) d at (drop i text) = p.ends at at' e in
      record {
        fore = omega arith;
        within = p.within;
        place = omega arith;
        few = omega arith;
        long = g.long;
        state = p.state ∙ g.state;
        count = rw q g.count;
        list = rw q g.list;
      }

  -- and on
  pub joined : {ends' : List ℕ} {d' at' n' i' : ℕ} → LoopProgress t m text ends d at n i ends' d' at' n' i' → LoopProgress t m text ends₀ d₀ at₀ n₀ i₀ ends' d' at' n' i'
  joined k = record {
    fore = omega arith;
    within = k.within;
    place = omega arith;
    few = omega arith;
    long = k.long ∙ g.long;
    state = k.state ∙ g.state;
    count = k.count ∙ g.count;
    list = k.list ∙ g.list;
  }

-- ---- a loop from a place s, whose states are closed. The count of bytes before i is what the place gives.

pub record LoopInvariant (t : List ℕ) (m : Masks) (until : ℕ) (text ends₀ : List ℕ) (s : Cursor) (ends : List ℕ) (d n i : ℕ) : Type 0 where
  pub going : LoopProgress t m text ends₀ s.d s.at s.n s.i ends d (s.at + (i - s.i)) n i
  pub is_closed_lem : Closed m d
  pub far : until ≤ length text
  pub fore : s.i ≤ i
  pub within : i ≤ length text
  pub fits : s.at + length text < 2 ^ 32 + s.i
  pub behind : n ≤ i
  pub room : length text ≤ length ends

pub set_out : (t : List ℕ) (m : Masks) (until : ℕ) (text ends : List ℕ) (s : Cursor) → HasRoom s until text ends → Closed m s.d
    → LoopInvariant t m until text ends s ends s.d s.n s.i
set_out t m until text ends s o is_closed_lem =
    let e : s.at ≡ s.at + (s.i - s.i) = omega arith in
    let w : s.i ≤ length text = omega (arith, o.left, o.within) in
    let g : LoopProgress t m text ends s.d s.at s.n s.i ends s.d (s.at + (s.i - s.i)) s.n s.i =
    subst (λ (k : ℕ). LoopProgress t m text ends s.d s.at s.n s.i ends s.d k s.n s.i) e (begun t m text ends s.d s.at s.n s.i w) in
    record { going = g; is_closed_lem = is_closed_lem; far = o.within; fore = omega arith; within = w; fits = o.fits; behind = o.behind; room = o.room }

module _ {t : List ℕ} {m : Masks} {text ends₀ ends : List ℕ} {s : Cursor} {d n i until : ℕ} (g : LoopInvariant t m until text ends₀ s ends d n i) where
  module _ {b d' : ℕ} (l : i < until) (eb : b ≡ get_or text i 0) (es : StepsTo m d (get_or t b 0) d') where
    h : i < length text
    h = omega (arith, g.far)

    next : s.at + (i - s.i) + 1 ≡ s.at + (i + 1 - s.i)
    next = omega (arith, g.fore)

    pub loop_passed : {r : Bool} → r ≡ top_bit m.top d' → r ≡ false → LoopInvariant t m until text ends₀ s ends d' n (i + 1)
    loop_passed er z = record {
      going = subst (λ (k : ℕ). LoopProgress t m text ends₀ s.d s.at s.n s.i ends d' k n (i + 1)) next (passed g.going h eb es.is er z);
      is_closed_lem = es.closes;
      far = g.far;
      fore = omega (arith, g.fore);
      within = omega arith;
      fits = g.fits;
      behind = omega (arith, g.behind);
      room = g.room;
    }

    pub loop_ended : {r : Bool} {p : ℕ} → r ≡ top_bit m.top d' → r ≡ true → p ≡ s.at + (i + 1 - s.i)
        → LoopInvariant t m until text ends₀ s (set ends n p) d' (n + 1) (i + 1)
    loop_ended {r} {p} er z ep = record {
      going =
          subst (λ (k : ℕ). LoopProgress t m text ends₀ s.d s.at s.n s.i (set ends n k) d' (s.at + (i + 1 - s.i)) (n + 1) (i + 1)) (sym ep)
          (subst (λ (k : ℕ). LoopProgress t m text ends₀ s.d s.at s.n s.i (set ends n k) d' k (n + 1) (i + 1)) next (ended g.going h eb es.is er z));
      is_closed_lem = es.closes;
      far = g.far;
      fore = omega (arith, g.fore);
      within = omega arith;
      fits = g.fits;
      behind = omega (arith, g.behind);
      room = omega (arith, g.room, length-set ends n p);
    }

    pub loop_stopped : {r : Bool} {p : ℕ} → r ≡ top_bit m.top d' → r ≡ false → p ≡ s.at + (i + 1 - s.i)
        → Advanced t m text ends₀ s.d s.at s.n s.i (record { d = d'; at = p; n = n; i = i + 1 }) ends
    loop_stopped {r} {p} er z ep =
        subst (λ (k : ℕ). Advanced t m text ends₀ s.d s.at s.n s.i (record { d = d'; at = k; n = n; i = i + 1 }) ends) (next ∙ sym ep)
        (stopped g.going h eb es.is er z)

  pub loop_over : {p : ℕ} → p ≡ s.at + (i - s.i) → s.i < until → until ≤ i
      → Advanced t m text ends₀ s.d s.at s.n s.i (record { d = d; at = p; n = n; i = i }) ends
  loop_over {p} ep h u =
      subst (λ (k : ℕ). Advanced t m text ends₀ s.d s.at s.n s.i (record { d = d; at = k; n = n; i = i }) ends) (sym ep) (advanced g.going (omega arith))

-- one byte alone
module _ {t : List ℕ} {m : Masks} {text ends : List ℕ} {s : Cursor} {b d' : ℕ} (room : HasRoom s (length text) text ends) (eb : b ≡ get_or text s.i 0)
    (es : d' ≡ step_on (automaton_of t m) 1 s.d b) where
  start : LoopProgress t m text ends s.d s.at s.n s.i ends s.d s.at s.n s.i
  start = begun t m text ends s.d s.at s.n s.i (omega arith)

  pub one-passed : {r : Bool} → r ≡ top_bit m.top d' → r ≡ false
      → Advanced t m text ends s.d s.at s.n s.i (record { d = d'; at = s.at + 1; n = s.n; i = s.i + 1 }) ends
  one-passed er z = stopped start room.left eb es er z

  pub one_ended : {r : Bool} → r ≡ top_bit m.top d' → r ≡ true
      → Advanced t m text ends s.d s.at s.n s.i (record { d = d'; at = s.at + 1; n = s.n + 1; i = s.i + 1 }) (set ends s.n (s.at + 1))
  one_ended er z = record { moves = omega arith; going = ended start room.left eb es er z }

pub whole_room : {s : Cursor} {until : ℕ} {text ends : List ℕ} → HasRoom s until text ends → HasRoom s (length text) text ends
whole_room r = record { left = omega (arith, r.left, r.within); within = omega arith; room = r.room; behind = r.behind; fits = r.fits }

-- ---- passing over

pub pass_none : (t : List ℕ) (m : Masks) (d : ℕ) (text : List ℕ) (i : ℕ) → i ≤ length text → Skippable t m d text i i
pass_none t m d text i h =
    record { fore = omega arith; within = h; state = refl; ends = λ at at' e. let q : at' ≡ at = omega arith in rw q }

pub pass_more : {t : List ℕ} {m : Masks} {d : ℕ} {text : List ℕ} {i j k : ℕ} → Skippable t m d text i j → Skippable t m d text j k → Skippable t m d text i k
pass_more {t} {m} {d} {text} {i} {j} {k} p q = record {
  fore = omega arith;
  within = q.within;
  state = q.state ∙ p.state;
  ends = λ at at' e. let f : at + (j - i) + i ≡ at + j = omega arith in
      let f' : at' + j ≡ at + (j - i) + k = omega arith in
      q.ends (at + (j - i)) at' f' ∙ p.ends at (at + (j - i)) f;
}

-- a byte that changes nothing, where nothing is reported
pub pass_one : (t : List ℕ) (m : Masks) (d : ℕ) (text : List ℕ) (i : ℕ) → i < length text → step_on (automaton_of t m) 1 d (get_or text i 0) ≡ d → top_bit m.top d ≡ false
    → Skippable t m d text i (i + 1)
pass_one t m d text i h e z = record {
  fore = omega arith;
  within = omega arith;
  state = sym (rw e at (state-turn t m d 0 text i h));
  ends = λ at at' p. let q : at' ≡ at + 1 = omega arith in
      rw q (sym (rw (e, z) at (ends-turn t m d at text i h)));
}
