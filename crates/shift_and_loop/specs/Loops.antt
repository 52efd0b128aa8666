-- What the parts of a scan give to each other. A place in a scan is a state d, the count `at` of bytes before it, the count n of ends stored, and the
-- index i of the next byte. Assumes nothing.
use Rattle.std.specs.Prelude.{◌≡◌, List, ℕ, ◌+◌, ◌^◌, ◌≤◌, ◌<◌, length, drop}
use Rattle.std.proofs.lemmas.List.Edits.{sets}
use Rattle.shift_and_step.specs.declared.Masks.{Masks}
use Rattle.shift_and.specs.Automaton.{state_after, ends_in}
use Rattle.shift_and_step.specs.Stepping.{automaton_of}
use Rattle.shift_and_loop.specs.declared.Cursor.{Cursor}

-- From the place (ends₀, d₀, at₀, n₀, i₀) the scan has come to (ends, d, at, n, i): what the rest of the text makes of the second is what the text
-- from i₀ on makes of the first.
pub record LoopProgress (t : List ℕ) (m : Masks) (text ends₀ : List ℕ) (d₀ at₀ n₀ i₀ : ℕ) (ends : List ℕ) (d at n i : ℕ) : Type 0 where
  pub fore : i₀ ≤ i
  pub within : i ≤ length text
  pub place : at + i₀ ≡ at₀ + i
  pub few : n + i₀ ≤ n₀ + i
  pub long : length ends ≡ length ends₀
  pub state : state_after (automaton_of t m) d (drop i text) ≡ state_after (automaton_of t m) d₀ (drop i₀ text)
  pub count : n + length (ends_in (automaton_of t m) d at (drop i text)) ≡ n₀ + length (ends_in (automaton_of t m) d₀ at₀ (drop i₀ text))
  pub list : sets ends n (ends_in (automaton_of t m) d at (drop i text)) ≡ sets ends₀ n₀ (ends_in (automaton_of t m) d₀ at₀ (drop i₀ text))

-- what a loop gives: it has gone on by at least one byte
pub record Advanced (t : List ℕ) (m : Masks) (text ends₀ : List ℕ) (d₀ at₀ n₀ i₀ : ℕ) (r : Cursor) (ends : List ℕ) : Type 0 where
  pub moves : i₀ < r.i
  pub going : LoopProgress t m text ends₀ d₀ at₀ n₀ i₀ ends r.d r.at r.n r.i

-- The bytes from i up to j may be skipped in state d: nothing ends there, and the rest is as if they were not.
pub record Skippable (t : List ℕ) (m : Masks) (d : ℕ) (text : List ℕ) (i j : ℕ) : Type 0 where
  pub fore : i ≤ j
  pub within : j ≤ length text
  pub state : state_after (automaton_of t m) d (drop j text) ≡ state_after (automaton_of t m) d (drop i text)
  pub ends : (at at' : ℕ) → at' + i ≡ at + j → ends_in (automaton_of t m) d at' (drop j text) ≡ ends_in (automaton_of t m) d at (drop i text)

-- a byte is left before `until`, each byte left finds an entry of the lent list, and its count fits
pub record HasRoom (s : Cursor) (until : ℕ) (text ends : List ℕ) : Type 0 where
  pub left : s.i < until
  pub within : until ≤ length text
  pub room : length text ≤ length ends
  pub behind : s.n ≤ s.i
  pub fits : s.at + length text < 2 ^ 32 + s.i
