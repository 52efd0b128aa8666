-- Where the lowest word alone gives what four words do, and what is promised of a way to run. Assumes nothing.
use Rattle.std.specs.Prelude.{◌≡◌, List, Bool, true, ℕ, ◌%◌, ◌^◌, ◌≤◌, ◌<◌, length, get_or, take, Some}
use Rattle.prefilter.specs.declared.Prefilter.{Prefilter}
use Rattle.prefilter.specs.Soundness.{PrefilterSound}
use Rattle.shift_and.specs.Automaton.{state_after, ends_in}
use Rattle.shift_and_step.specs.declared.Masks.{Masks}
use Rattle.shift_and_step.specs.Stepping.{automaton_of}
use Rattle.shift_and_wide.specs.declared.Wide.{Wide}
use Rattle.shift_and_wide.specs.declared.WideMasks.{WideMasks}
use Rattle.shift_and_wide.specs.ManyWords.{Words}
use Rattle.shift_and_wide.specs.Wides.{words, low}
use Rattle.shift_and_wide.specs.Stepping.{wide_automaton_of, state_after_w, ends_in_w}
use Rattle.wide_prefilter.specs.declared.WidePrefilter.{WidePrefilter}

abbrev pub low_masks : (top : ℕ) → WideMasks → Masks
low_masks top m = record { repeats = m.repeats.w0; optional = m.optional.w0; top = top }

-- ---- a rule that stands in the lowest word

pub record LowIs (d : Wide) (r : Bool) : Type 0 where
  pub says : r ≡ true → d ≡ low d.w0
  pub word : d.w0 < 2 ^ 64

-- Nothing of a rule stands above the lowest word but for its table: the top position is in it, and so is all that is optional.
pub record Lowest (m : WideMasks) : Type 0 where
  pub top : m.top < 64
  pub free : m.optional ≡ low m.optional.w0
  pub small : m.optional.w0 < 2 ^ 64

pub record LowestIs (m : WideMasks) (r : Bool) : Type 0 where
  pub says : r ≡ true → Lowest m

-- with a prefilter of the lowest word
pub record LowestSound (t : List ℕ) (m : WideMasks) (p : Prefilter) : Type 0 where
  pub lowest : Lowest m
  pub planned : PrefilterSound (take 256 t) m.repeats.w0 m.optional.w0 m.top p

pub record EvenIs (plane : List ℕ) (r : Bool) : Type 0 where
  pub says : r ≡ true → (c : ℕ) → get_or plane c 0 % 2 ≡ 0

pub record QuietIs (d : Wide) (r : Bool) : Type 0 where
  pub says : r ≡ true → (d ≡ low d.w0) × (d.w0 < 2 ^ 63)

-- What the run of the lowest word alone asks: that it is the run of four.
pub record OneFits (t : List ℕ) (m : WideMasks) (p : Prefilter) (d : Wide) : Type 0 where
  pub long : length t ≡ 1024
  pub top : m.top < 64
  pub planned : PrefilterSound (take 256 t) m.repeats.w0 m.optional.w0 m.top p
  pub runs : (text : List ℕ) → state_after_w (wide_automaton_of t m) d text ≡ low (state_after (automaton_of (take 256 t) (low_masks m.top m)) d.w0 text)
  pub reports : (at : ℕ) (text : List ℕ) → ends_in_w (wide_automaton_of t m) d at text ≡ ends_in (automaton_of (take 256 t) (low_masks m.top m)) d.w0 at text

-- where it says yes, the lowest word alone runs from d on
pub record FitsOne (t : List ℕ) (m : WideMasks) (p : Prefilter) (d : Wide) (b : Bool) : Type 0 where
  pub says : b ≡ true → OneFits t m p d

-- ---- any other

pub record LowFits (m : WideMasks) : Type 0 where
  pub above : 64 ≤ m.top
  pub even : m.optional.w0 % 2 ≡ 0
  pub again : Words 64 4 (words m.repeats)
  pub free : Words 64 4 (words m.optional)

pub record MayTryLow (m : WideMasks) (r : Bool) : Type 0 where
  pub says : r ≡ true → LowFits m

-- table, masks and plan with which the lowest word may be tried
pub record LowSound (t : List ℕ) (m : WideMasks) (p : Prefilter) : Type 0 where
  pub long : length t ≡ 1024
  pub low : LowFits m
  pub planned : PrefilterSound (take 256 t) m.repeats.w0 m.optional.w0 63 p

-- The way of a run that the lowest word alone does not do: in parts, if so chosen.
pub record WideSound (t : List ℕ) (m : WideMasks) (p : WidePrefilter) : Type 0 where
  pub parts : (filter : Prefilter) → p.parts ≡ Some filter → LowSound t m filter
