-- What raw bytes let out: their tokens, and the chunks in which a piece hands them on. Assumes nothing.
use Rattle.std.specs.Prelude.{◌≡◌, Bool, true, false, List, [], ◌∷◌, ◌++◌, ℕ, suc, ◌+◌, ◌-◌, ◌*◌, ◌≤◌, ◌<◌, length, get_or, take, drop}
use Rattle.std.proofs.lemmas.List.Edits.{sets}
use Rattle.model.specs.References.{form_limit, Token, byte_tokens, taken, joined, held_tail, out_tokens}
use Rattle.entry_list.specs.Marks.{mark_numbers, start_of, after_of, ahead_of, Marked}
use Rattle.piece_decoder.specs.declared.TokenRead.{TokenRead}
use Rattle.piece_decoder.specs.declared.TokensDecoded.{TokensDecoded}
use Rattle.piece_decoder.specs.declared.MarkedDecoded.{MarkedDecoded}
use Rattle.piece_decoder.specs.declared.Chunk.{Chunk}

-- From place i on the tokens `ts` are handed on, and reading goes on at `read`: the chunks' tokens in order are those that the piece lets out. Text is
-- one reading of them (`joined`), raw places another (`taken`).
pub record HandsOn (piece : List ℕ) (i : ℕ) (ts : List Token) (read : ℕ) : Type 0 where
  pub lets_out : out_tokens form_limit (drop i piece) ≡ ts ++ out_tokens form_limit (drop read piece)
  pub holds : held_tail form_limit (drop i piece) ≡ held_tail form_limit (drop read piece)
  pub takes : i + taken ts ≡ read
  pub fits : read ≤ length piece

-- ---- tokens

pub record Single (ts : List Token) : Type 0 where
  pub token : Token
  pub is : ts ≡ token ∷ []

-- `decode_amp`, `decode_token`: what some tokens from place i on give is written from `at` on, or all the rest is held back
pub record TokenIs (raw : List ℕ) (i : ℕ) (out : List ℕ) (at : ℕ) (r : TokenRead) (out' : List ℕ) : Type 0 where
  pub tokens : List Token
  pub hands_on : HandsOn raw i tokens r.read
  pub written : r.written ≡ at + length (joined tokens)
  pub few : r.written + i ≤ r.read + at
  pub list : out' ≡ sets out at (joined tokens)
  pub plain : r.reference ≡ false → tokens ≡ byte_tokens (joined tokens)
  pub single : r.reference ≡ true → Single tokens
  pub long : r.reference ≡ true → i + 4 ≤ r.read
  pub held_plain : r.held ≡ true → r.reference ≡ false
  pub moves : r.held ≡ false → i < r.read
  pub all_held : r.held ≡ true → held_tail form_limit (drop r.read raw) ≡ drop r.read raw

-- `decode_tokens`: what all of them give stands at the buffer's front, and what is held back is the end of the raw bytes
pub record TokensDecodedIs (raw out : List ℕ) (r : TokensDecoded) (out' : List ℕ) : Type 0 where
  pub list : out' ≡ sets out 0 (joined (out_tokens form_limit raw))
  pub written : r.written ≡ length (joined (out_tokens form_limit raw))
  pub holds : drop r.read raw ≡ held_tail form_limit raw
  pub fits : r.read ≤ length raw
  pub few : r.written ≤ r.read

-- ---- marks

-- as many bytes as the room takes, and marks as go with them
abbrev pub chunk_size : ℕ
chunk_size = 4096

abbrev pub mark_limit : ℕ
mark_limit = 256

abbrev pub marks_size : ℕ
marks_size = mark_numbers * mark_limit

-- `note`
pub record NoteFits (marks : List ℕ) (m at written read : ℕ) : Type 0 where
  pub room : mark_numbers * m + 3 ≤ length marks
  pub before : at ≤ written
  pub order : written ≤ read
  pub small : read < 65536

pub record NotedIs (marks : List ℕ) (m : ℕ) (reference : Bool) (at written read r : ℕ) (marks' : List ℕ) : Type 0 where
  pub none : reference ≡ false → r ≡ m
  pub kept : reference ≡ false → marks' ≡ marks
  pub one : reference ≡ true → r ≡ suc m
  pub same : (i : ℕ) → i < mark_numbers * m → get_or marks' i 0 ≡ get_or marks i 0
  pub start : reference ≡ true → start_of marks' m ≡ at
  pub after : reference ≡ true → after_of marks' m ≡ written
  pub ahead : reference ≡ true → ahead_of marks' m + written ≡ read
  pub long : length marks' ≡ length marks

-- `decode_marked`: what some tokens give is written, with their marks; no more fit, or all the rest is held back
pub record MarkedIs (raw out : List ℕ) (r : MarkedDecoded) (out' marks' : List ℕ) : Type 0 where
  pub tokens : List Token
  pub hands_on : HandsOn raw 0 tokens r.read
  pub written : r.written ≡ length (joined tokens)
  pub few : r.written ≤ r.read
  pub list : out' ≡ sets out 0 (joined tokens)
  pub marked : Marked marks' r.marks tokens
  pub few-marks : mark_numbers * r.marks ≤ length marks'
  pub marks-long : length marks' ≡ marks_size
  pub moves : r.full ≡ true → 0 < r.read
  pub all_held : r.full ≡ false → held_tail form_limit (drop r.read raw) ≡ drop r.read raw

-- ---- chunks

-- `part_end`: a part is as long as that, or up to the end
pub record PartEnd (i len r : ℕ) : Type 0 where
  pub after : i < r
  pub fits : r ≤ len
  pub small : r ≤ i + chunk_size
  pub full : r < len → r ≡ i + chunk_size

-- `literal_chunk`: the bytes from i up to r are their own text. The chunks' tokens in order are those that the piece lets out; text is one reading of
-- them, raw places another.
pub record InPlaceIs (piece : List ℕ) (i r : ℕ) : Type 0 where
  pub after : i ≤ r
  pub hands_on : HandsOn piece i (byte_tokens (take (r - i) (drop i piece))) r

-- `decode_chunk`: the text stands at the room's front, and its marks beside it. The chunks' tokens in order are those that the piece lets out; text is one reading of
-- them, raw places another.
pub record ChunkIs (piece : List ℕ) (i : ℕ) (room : List ℕ) (r : Chunk) (room' marks' : List ℕ) : Type 0 where
  pub tokens : List Token
  pub hands_on : HandsOn piece i tokens r.read
  pub text : take r.written room' ≡ joined tokens
  pub marked : Marked marks' r.marks tokens
  pub few : r.written + i ≤ r.read
  pub few-marks : mark_numbers * r.marks ≤ length marks'
  pub within : r.written ≤ length room
  pub long : length room' ≡ length room
  pub marks-long : length marks' ≡ marks_size
  pub moves : r.held ≡ false → i < r.read
  pub all_held : r.held ≡ true → held_tail form_limit (drop r.read piece) ≡ drop r.read piece
