-- A run in four words goes on byte by byte: what the rest of the text would make of the present place is what the text makes of the first one. Assumes
-- nothing.
use mathlib.Core.Path.{◌≡◌, refl, sym, ap, ◌∙◌}
use mathlib.Core.List.{List, [], ◌∷◌}
use mathlib.Core.Bool.{Bool, true, false}
use Prim.Native.Nat.{ℕ, ◌+◌, ◌^◌, ◌≤◌, ◌<◌}
use native.Mathlib.Numerals.{add-one}
use native.Mathlib.Omega.{arith}
use lib.ListN.{length, drop, get_or, set, length-set, drop_of_length-le}
use lib.Seq.{sets, drop-cons}
use Rattle.model.specs.Occurrence.{cons_if}
use Rattle.shift_and_wide.specs.declared.Wide.{Wide}
use Rattle.shift_and_wide.specs.declared.WideMasks.{WideMasks}
use Rattle.shift_and_wide.specs.Wides.{top_bit_of}
use Rattle.shift_and_wide.specs.Stepping.{entry_of, step_w, wide_automaton_of, step_on_w, state_after_w, ends_in_w}
use Rattle.wide_scan.specs.Running.{WideScanned}

-- one turn of each definition
module _ (t : List ℕ) (m : WideMasks) (d : Wide) (at : ℕ) (text : List ℕ) (i : ℕ) (h : i < length text) where
  state-turn : state_after_w (wide_automaton_of t m) d (drop i text) ≡ state_after_w (wide_automaton_of t m) (step_on_w (wide_automaton_of t m) d (get_or text i 0)) (drop (i + 1) text)
  unfolding state_after_w
  state-turn = rw (add-one, drop-cons text i 0)

  ends-turn : ends_in_w (wide_automaton_of t m) d at (drop i text)
      ≡ cons_if (top_bit_of m.top (step_on_w (wide_automaton_of t m) d (get_or text i 0))) (at + 1) (ends_in_w (wide_automaton_of t m) (step_on_w (wide_automaton_of t m) d (get_or text i 0)) (at + 1) (drop (i + 1) text))
  unfolding ends_in_w
  ends-turn = rw (add-one i, drop-cons text i 0)

-- After i bytes of the text: the state is d, `at` bytes stand before the next one, and n ends are stored.
pub record WideGoing (t : List ℕ) (m : WideMasks) (text ends₀ : List ℕ) (d₀ : Wide) (at₀ : ℕ) (ends : List ℕ) (d : Wide) (at n i : ℕ) : Type 0 where
  pub room : length text ≤ length ends₀
  pub fits : at₀ + length text < 2 ^ 32
  pub within : i ≤ length text
  pub place : at ≡ at₀ + i
  pub few : n ≤ i
  pub long : length ends ≡ length ends₀
  pub state : state_after_w (wide_automaton_of t m) d (drop i text) ≡ state_after_w (wide_automaton_of t m) d₀ text
  pub count : n + length (ends_in_w (wide_automaton_of t m) d at (drop i text)) ≡ length (ends_in_w (wide_automaton_of t m) d₀ at₀ text)
  pub list : sets ends n (ends_in_w (wide_automaton_of t m) d at (drop i text)) ≡ sets ends₀ 0 (ends_in_w (wide_automaton_of t m) d₀ at₀ text)

pub begun : (t : List ℕ) (m : WideMasks) (text ends₀ : List ℕ) (d₀ : Wide) (at₀ : ℕ) → length text ≤ length ends₀ → at₀ + length text < 2 ^ 32 → WideGoing t m text ends₀ d₀ at₀ ends₀ d₀ at₀ 0 0
begun t m text ends₀ d₀ at₀ room fits =
    record { room = room; fits = fits; within = omega arith; place = omega arith; few = omega arith; long = refl; state = refl; count = omega arith; list = refl }

module _ {t : List ℕ} {m : WideMasks} {text ends₀ ends : List ℕ} {d₀ d : Wide} {at₀ at n i : ℕ}
    (g : WideGoing t m text ends₀ d₀ at₀ ends d at n i) where
  -- c is the byte at i, b its entry, and d' the state after it
  module _ {c : ℕ} {b d' : Wide} (h : i < length text) (ec : c ≡ get_or text i 0) (eb : b ≡ entry_of t c) (es : d' ≡ step_w m 1 d b) where
    e : d' ≡ step_on_w (wide_automaton_of t m) d (get_or text i 0)
    e = es ∙ ap (step_w m 1 d) (eb ∙ ap (entry_of t) ec)

    -- no end there
    pub passed : {r : Bool} → r ≡ top_bit_of m.top d' → r ≡ false → WideGoing t m text ends₀ d₀ at₀ ends d' (at + 1) n (i + 1)
    passed er z =
        let q : ends_in_w (wide_automaton_of t m) d at (drop i text) ≡ ends_in_w (wide_automaton_of t m) d' (at + 1) (drop (i + 1) text) =
        rw (ends-turn t m d at text i h, ← e, ← er, z) in
        record {
          room = g.room;
          fits = g.fits;
          within = omega arith;
          place = omega (arith, g.place);
          few = omega (arith, g.few);
          long = g.long;
          state = rw (e, ← state-turn t m d at text i h) g.state;
          count = rw (← q) g.count;
          list = rw (← q) g.list;
        }

    -- an end there, which is stored
    pub ended : {r : Bool} → r ≡ top_bit_of m.top d' → r ≡ true → WideGoing t m text ends₀ d₀ at₀ (set ends n (at + 1)) d' (at + 1) (n + 1) (i + 1)
    ended er z =
        let q : ends_in_w (wide_automaton_of t m) d at (drop i text) ≡ (at + 1) ∷ ends_in_w (wide_automaton_of t m) d' (at + 1) (drop (i + 1) text) =
        rw (ends-turn t m d at text i h, ← e, ← er, z) in
        record {
          room = g.room;
          fits = g.fits;
          within = omega arith;
          place = omega (arith, g.place);
          few = omega (arith, g.few);
          long = length-set ends n (at + 1) ∙ g.long;
          state = rw (e, ← state-turn t m d at text i h) g.state;
          count = omega (arith, ap length q, g.count);
          list = rw (add-one n) (sym (ap (sets ends n) q) ∙ g.list);
        }

-- it has come to the end of the text
pub over : {t : List ℕ} {m : WideMasks} {text ends₀ ends : List ℕ} {d₀ d : Wide} {at₀ at n i : ℕ} → WideGoing t m text ends₀ d₀ at₀ ends d at n i
    → length text ≤ i → WideScanned (wide_automaton_of t m) d₀ at₀ text ends₀ (record { d = d; count = n }) ends
unfolding state_after_w ends_in_w
over {t} {m} {text} {ends₀} {ends} {d₀} {d} {at₀} {at} {n} {i} g stop =
    let none : drop i text ≡ [] = drop_of_length-le text stop in
    let s : d ≡ state_after_w (wide_automaton_of t m) d₀ text = rw none at g.state in
    let k : n + 0 ≡ length (ends_in_w (wide_automaton_of t m) d₀ at₀ text) = rw none at g.count in
    let l : ends ≡ sets ends₀ 0 (ends_in_w (wide_automaton_of t m) d₀ at₀ text) = rw none at g.list in
    let k' : n ≡ length (ends_in_w (wide_automaton_of t m) d₀ at₀ text) = omega arith in
    record { state = s; count = k'; few = omega (arith, g.few, g.within); list = l }
