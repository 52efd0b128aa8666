-- Runs of plain bytes, and what it is to have copied them. Assumes nothing.
use Rattle.std.specs.Prelude.{◌≡◌, List, ℕ, ◌+◌, ◌≤◌, ◌<◌, T, length, take, drop, get_or}
use Rattle.std.proofs.lemmas.List.Edits.{sets}
use Rattle.model.specs.Ascii.{byte_of}
use Rattle.model.specs.Occurrence.{all}
use Rattle.model.specs.References.{not_amp}

-- `copy_blocks`: the bytes from i up to r, none of them `&`, stand at the same place of the buffer
pub record Copied (raw : List ℕ) (i : ℕ) (out : List ℕ) (r : ℕ) (out' : List ℕ) : Type 0 where
  pub count : ℕ
  pub end : r ≡ i + count
  pub fits : r ≤ length raw
  pub plain : T (all not_amp (take count (drop i raw)))
  pub list : out' ≡ sets out i (take count (drop i raw))

-- `copy_bytes`, `copy_last_block`: and then comes a `&` or the end
pub record RestCopied (raw : List ℕ) (i : ℕ) (out : List ℕ) (r : ℕ) (out' : List ℕ) : Type 0 where
  pub copied : Copied raw i out r out'
  pub stops : r < length raw → get_or raw r 0 ≡ byte_of "&"

-- So many bytes, none of them `&`, and then a `&` or the end.
pub record LiteralRun (s : List ℕ) (r : ℕ) : Type 0 where
  pub fits : r ≤ length s
  pub plain : T (all not_amp (take r s))
  pub stops : r < length s → get_or s r 0 ≡ byte_of "&"

-- `copy_literals`: they stand at the buffer's front
pub record LiteralsCopied (raw out : List ℕ) (r : ℕ) (out' : List ℕ) : Type 0 where
  pub run : LiteralRun raw r
  pub list : out' ≡ sets out 0 (take r raw)
