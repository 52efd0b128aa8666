-- What held bytes become when a piece follows: the two laws over a cut, at the held bytes. What is let out is said of tokens. Assumes nothing.
use Rattle.std.specs.Prelude.{◌≡◌, List, [], ◌∷◌, ◌++◌, ℕ, ◌+◌, ◌≤◌, ◌<◌, length, take, drop}
use Rattle.model.specs.References.{form_limit, held_most, utf8, byte_tokens, held_tail, out_tokens}
use Rattle.reference_reader.specs.Reader.{code_limit}
use Rattle.piece_decoder.specs.declared.held.Held.{Held}
use Rattle.piece_decoder.specs.declared.held.HeldOutcome.{HeldOutcome}
use Rattle.piece_decoder.specs.declared.held.HeldOutcome.TheVariants.{Completed, Literal, Pending}
use Rattle.piece_decoder.specs.declared.held.Resolved.{Resolved}

-- The held bytes, as a list.
abbrev pub held_of : Held → List ℕ
held_of h = take h.len h.bytes

-- `nothing_held`
pub record NothingHeld (h : Held) : Type 0 where
  pub is : held_of h ≡ []
  pub none : h.len ≡ 0
  pub long : length h.bytes ≡ form_limit

-- What is held is a tail that can grow, or nothing.
pub record HeldFine (h : Held) : Type 0 where
  pub few : h.len ≤ held_most form_limit
  pub tail : held_tail form_limit (held_of h) ≡ held_of h

-- `top_up`: the held bytes and the first of the piece, together as many as a form has at most
pub record TopUpIs (h : Held) (piece : List ℕ) (r : Held) : Type 0 where
  pub is : held_of r ≡ take form_limit (held_of h ++ piece)
  pub long : length r.bytes ≡ form_limit
  pub few : r.len ≤ form_limit
  pub size : r.len ≡ length (held_of r)
  pub held : length (held_of h) ≡ h.len

-- A reference was completed with `taken` bytes of the piece; reading goes on after them.
pub record CompletedIs (h piece : List ℕ) (code taken : ℕ) : Type 0 where
  pub lets_out : out_tokens form_limit (h ++ piece) ≡ record { takes = length h + taken; gives = utf8 code } ∷ out_tokens form_limit (drop taken piece)
  pub holds : held_tail form_limit (h ++ piece) ≡ held_tail form_limit (drop taken piece)
  pub fits : taken ≤ length piece
  pub few : length (utf8 code) ≤ length h + taken
  pub short : length h + taken ≤ form_limit
  pub small : code < code_limit

-- The held bytes go out as they came; reading goes on at the piece's first byte.
pub record LiteralIs (h piece : List ℕ) : Type 0 where
  pub lets_out : out_tokens form_limit (h ++ piece) ≡ byte_tokens h ++ out_tokens form_limit piece
  pub holds : held_tail form_limit (h ++ piece) ≡ held_tail form_limit piece

-- All can still grow and is held now, in `joined`.
pub record PendingIs (h piece : List ℕ) (joined : Held) : Type 0 where
  pub lets_out : out_tokens form_limit (h ++ piece) ≡ []
  pub holds : held_tail form_limit (h ++ piece) ≡ h ++ piece
  pub is : held_of joined ≡ h ++ piece
  pub fine : HeldFine joined

abbrev pub Resolves : (h piece : List ℕ) (joined : Held) → HeldOutcome → Type 0
Resolves h piece joined (Completed code taken) = CompletedIs h piece code taken
Resolves h piece joined Literal = LiteralIs h piece
Resolves h piece joined Pending = PendingIs h piece joined

-- `resolve_held`
pub record ResolvedIs (h : Held) (piece : List ℕ) (r : Resolved) : Type 0 where
  pub joins : TopUpIs h piece r.joined
  pub is : Resolves (held_of h) piece r.joined r.case
