-- What a run over some decoded bytes gives: the state after them, and the ends among them, by the formula on four words. Assumes nothing.
use Rattle.std.specs.Prelude.{◌≡◌, List, [], ℕ, Option, Some, ◌+◌, ◌^◌, ◌≤◌, ◌<◌, length}
use Rattle.std.proofs.lemmas.List.Edits.{sets}
use Rattle.prefilter.specs.declared.Prefilter.{Prefilter}
use Rattle.rule_part.specs.RulePart.{rule_length, entries_of, count_of, masks_of}
use Rattle.shift_and_wide.specs.declared.Wide.{Wide}
use Rattle.shift_and_wide.specs.declared.WideMasks.{WideMasks}
use Rattle.shift_and_wide.specs.Stepping.{WideAutomaton, wide_automaton_of, WideTableFits, state_after_w, ends_in_w}
use Rattle.wide_scan.specs.declared.WideResult.{WideResult}
use Rattle.wide_scan.specs.declared.WideRun.{WideRun}
use Rattle.wide_prefilter.specs.declared.WidePrefilter.{WidePrefilter}
use Rattle.wide_prefilter.specs.Choosing.{LowSound, WideSound}

-- `scan_words`: its result, and the lent list at exit
pub record WideScanned (A : WideAutomaton) (d : Wide) (at : ℕ) (text ends : List ℕ) (r : WideResult) (ends' : List ℕ) : Type 0 where
  pub state : r.d ≡ state_after_w A d text
  pub count : r.count ≡ length (ends_in_w A d at text)
  pub few : r.count ≤ length text
  pub list : ends' ≡ sets ends 0 (ends_in_w A d at text)

-- from state g over some decoded bytes
pub record WideStepped (A : WideAutomaton) (g : WideRun) (text ends : List ℕ) (r : WideRun) (ends' : List ℕ) : Type 0 where
  pub state : r.d ≡ state_after_w A g.d text
  pub place : r.at ≡ g.at + length text
  pub count : r.count ≡ g.count + length (ends_in_w A g.d g.at text)
  pub few : r.count ≤ g.count + length text
  pub long : length ends' ≡ length ends
  pub list : ends' ≡ sets ends g.count (ends_in_w A g.d g.at text)

-- ---- the lowest word alone

-- `try_one_word`: where it gives a state, this is the state after the bytes, among which there is no end; the room keeps its length
pub record AttemptIs (t : List ℕ) (m : WideMasks) (d : Wide) (text : List ℕ) (r : Option Wide) (room room' : List ℕ) : Type 0 where
  pub state : (y : Wide) → r ≡ Some y → y ≡ state_after_w (wide_automaton_of t m) d text
  pub none : (y : Wide) → r ≡ Some y → (at : ℕ) → ends_in_w (wide_automaton_of t m) d at text ≡ []
  pub long : length room' ≡ length room

-- ---- parts

pub record PartFits (t : List ℕ) (m : WideMasks) (p : Prefilter) (g : WideRun) (len listed : ℕ) : Type 0 where
  pub plan : LowSound t m p
  pub top : m.top < 256
  pub space : g.count + len ≤ listed
  pub fits : g.at + len < 2 ^ 32

pub record PartIs (t : List ℕ) (m : WideMasks) (g : WideRun) (text ends room : List ℕ) (r : WideRun) (ends' room' : List ℕ) : Type 0 where
  pub steps : WideStepped (wide_automaton_of t m) g text ends r ends'
  pub same : length room' ≡ length room

pub record PartEnd (i len r : ℕ) : Type 0 where
  pub after : i < r
  pub fits : r ≤ len
  pub small : r ≤ i + 1024

-- ---- by a way chosen

pub record TextFits (t : List ℕ) (m : WideMasks) (p : WidePrefilter) : Type 0 where
  pub fits : WideTableFits t m
  pub planned : WideSound t m p

-- a rule's part of a scan value,
pub record RuleSteps (r : List ℕ) : Type 0 where
  pub long : length r ≡ rule_length
  pub top : count_of r < 256

-- and a way chosen for it
pub record RuleFits (r : List ℕ) (p : WidePrefilter) : Type 0 where
  pub steps : RuleSteps r
  pub planned : WideSound (entries_of r) (masks_of r) p
