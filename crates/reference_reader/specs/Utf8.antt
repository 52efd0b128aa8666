-- What the writer of a code point's UTF-8 bytes asks and gives. Assumes nothing.
use Rattle.std.specs.Prelude.{◌≡◌, List, ℕ, ◌≤◌, ◌<◌, length}
use Rattle.std.proofs.lemmas.List.Edits.{sets}
use Rattle.model.specs.References.{utf8}
use Rattle.reference_reader.specs.Reader.{code_limit}

-- what `put_utf8` asks: a code point, and room for its bytes
pub record PutFine (out : List ℕ) (code : ℕ) : Type 0 where
  pub small : code < code_limit
  pub room : length (utf8 code) ≤ length out

-- `put_utf8`: the result r and the buffer at exit
pub record Put (out : List ℕ) (code r : ℕ) (out' : List ℕ) : Type 0 where
  pub count : r ≡ length (utf8 code)
  pub list : out' ≡ sets out 0 (utf8 code)
