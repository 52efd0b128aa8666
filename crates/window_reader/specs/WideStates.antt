-- States in four words, and tables of them in planes. Assumes nothing.
use Rattle.std.specs.Prelude.{◌≡◌, List, ℕ, ◌+◌, length, set}
use Rattle.shift_and_wide.specs.declared.Wide.{Wide}
use Rattle.shift_and_wide.specs.ManyWords.{Words}
use Rattle.shift_and_wide.specs.Wides.{words}

-- four words of 64 bits, as code knows from the type
pub record FourWords (d : Wide) : Type 0 where
  pub all : Words 64 4 (words d)

-- The planes with the entry of one byte written.
abbrev pub with_entry : (t : List ℕ) (c : ℕ) → Wide → List ℕ
with_entry t c d = set (set (set (set t c d.w0) (c + 256) d.w1) (c + 512) d.w2) (c + 768) d.w3

pub record WideEntryWritten (t : List ℕ) (c : ℕ) (d : Wide) (t' : List ℕ) : Type 0 where
  pub is : t' ≡ with_entry t c d
  pub long : length t' ≡ length t
