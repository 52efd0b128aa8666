-- What a piece lets out, stepped over, and what it holds back, for any automaton. Assumes nothing.
use Rattle.std.specs.Prelude.{◌≡◌, Bool, true, false, List, [], ◌∷◌, ◌++◌, ℕ, ◌+◌, ◌*◌, ◌^◌, ◌≤◌, ◌<◌, length, drop}
use Rattle.std.proofs.lemmas.List.Edits.{sets}
use Rattle.model.specs.References.{form_limit, held_most, utf8, Token, taken, joined, held_tail, out_tokens}
use Rattle.model.specs.RawPlaces.{Entry, entries_by, flat, pair_numbers}
use Rattle.model.proofs.Places.{Rises}
use Rattle.entry_list.specs.Marks.{mark_numbers, marked_place, Marked}
use Rattle.reference_reader.specs.Reader.{code_limit}
use Rattle.piece_decoder.specs.declared.held.Held.{Held}
use Rattle.piece_decoder.specs.Held.{held_of}
use Rattle.piece_stepping.specs.declared.Progress.{Progress}
use Rattle.piece_stepping.specs.declared.Scanned.{Scanned}

-- The tokens that raw bytes let out, and the tail that they hold back: the model's at this paper's limit, shut.
unfoldable pub tokens_of : List ℕ → List Token
tokens_of raw = out_tokens form_limit raw

unfoldable pub tail_of : List ℕ → List ℕ
tail_of raw = held_tail form_limit raw

-- ---- an automaton as it runs

-- The state after some bytes, and the ends among them, which `at` bytes stand before; and what holds of these, whatever the width of its words.
pub record Runner (S : Type 0) : Type 0 where
  pub after : S → List ℕ → S
  pub ends : S → (at : ℕ) → List ℕ → List ℕ
  pub after_none : (d : S) → after d [] ≡ d
  pub ends-none : (d : S) (at : ℕ) → ends d at [] ≡ []
  pub after-append : (d : S) (xs ys : List ℕ) → after d (xs ++ ys) ≡ after (after d xs) ys
  pub ends-append : (d : S) (at : ℕ) (xs ys : List ℕ) → ends d at (xs ++ ys) ≡ ends d at xs ++ ends (after d xs) (at + length xs) ys
  pub ends-rise : (d : S) (at : ℕ) (xs : List ℕ) → Rises at (at + length xs) (ends d at xs)

-- A text scanned from a state: the state after it, and its ends at the list's front.
pub record TextScanned {S : Type 0} (R : Runner S) (d : S) (at : ℕ) (text ends : List ℕ) (r : Scanned S) (ends' : List ℕ) : Type 0 where
  pub state : r.d ≡ R.after d text
  pub count : r.count ≡ length (R.ends d at text)
  pub few : r.count ≤ length text
  pub list : ends' ≡ sets ends 0 (R.ends d at text)

-- ---- tokens stepped over

-- the pairs of the ends in what tokens give
abbrev pub entries_from : {S : Type 0} (R : Runner S) (d : S) (at raw : ℕ) → List Token → List Entry
entries_from R d at raw ts = entries_by at raw ts (R.ends d at (joined ts))

-- a run, whose pairs stand at the list's front
pub record PairsRan {S : Type 0} (R : Runner S) (d : S) (at raw : ℕ) (ts : List Token) (list : List ℕ) (d' : S) (n : ℕ) (list' : List ℕ) : Type 0 where
  pub state : d' ≡ R.after d (joined ts)
  pub count : n ≡ length (R.ends d at (joined ts))
  pub few : n ≤ length (joined ts)
  pub list-is : list' ≡ sets list 0 (flat (entries_from R d at raw ts))

-- from where a call stands, with its pairs after those stored
pub record SteppedBy {S : Type 0} (R : Runner S) (g : Progress S) (ts : List Token) (ends : List ℕ) (r : Progress S) (ends' : List ℕ) : Type 0 where
  pub state : r.d ≡ R.after g.d (joined ts)
  pub place : r.at ≡ g.at + length (joined ts)
  pub raw-place : r.raw ≡ g.raw + taken ts
  pub count : r.count ≡ g.count + length (R.ends g.d g.at (joined ts))
  pub few : r.count ≤ g.count + length (joined ts)
  pub long : length ends' ≡ length ends
  pub list : ends' ≡ sets ends (pair_numbers * g.count) (flat (entries_from R g.d g.at g.raw ts))

-- Room for all that k raw bytes may give: pairs in a list of n numbers, and counts of 32 bits.
pub record Space {S : Type 0} (g : Progress S) (k n : ℕ) : Type 0 where
  pub room : pair_numbers * (g.count + k) ≤ n
  pub count_small : g.count + k < 2 ^ 32
  pub small : g.at + k < 2 ^ 32
  pub raw-small : g.raw + k < 2 ^ 32

-- ---- a text that was decoded, with its marks

-- some tokens' text and marks, in slices
pub record Laid (ts : List Token) (text marks : List ℕ) (m : ℕ) : Type 0 where
  pub text-is : text ≡ joined ts
  pub marked : Marked marks m ts

-- what a run over a text with marks asks of them, after `raw` raw bytes
pub record LaidFits (text marks : List ℕ) (m raw : ℕ) : Type 0 where
  pub inside : mark_numbers * m ≤ length marks
  pub small : (q : ℕ) → 1 ≤ q → q ≤ length text → raw + marked_place marks m q < 2 ^ 32

-- what such a run gives, whatever tokens they are
pub record LaidRan {S : Type 0} (R : Runner S) (d : S) (at raw : ℕ) (text marks : List ℕ) (m : ℕ) (list : List ℕ) (d' : S) (n : ℕ) (list' : List ℕ) : Type 0 where
  pub ran : (ts : List Token) → Laid ts text marks m → PairsRan R d at raw ts list d' n list'
  pub few : n ≤ length text
  pub long : length list' ≡ length list

-- and a step over it, where it took so many raw bytes
pub record LaidStepped {S : Type 0} (R : Runner S) (g : Progress S) (text marks : List ℕ) (m took : ℕ) (ends : List ℕ) (r : Progress S) (ends' : List ℕ) : Type 0 where
  pub steps : (ts : List Token) → Laid ts text marks m → took ≡ taken ts → SteppedBy R g ts ends r ends'
  pub long : length ends' ≡ length ends

-- one reference of k bytes, as tokens; it gives no more bytes than spell it
abbrev pub code_token : (code k : ℕ) → List Token
code_token code k = record { takes = k; gives = utf8 code } ∷ []

pub record CodeFits (code k : ℕ) : Type 0 where
  pub small : code < code_limit
  pub few : length (utf8 code) ≤ k
  pub short : k ≤ form_limit

-- ---- a piece

-- a part of a piece: what is let out, and what is left
pub record PartStepped {S : Type 0} (R : Runner S) (g : Progress S) (piece : List ℕ) (i : ℕ) (ends : List ℕ) (r : Progress S) (read : ℕ) (held : Bool) (ends' : List ℕ) : Type 0 where
  pub tokens : List Token
  pub steps : SteppedBy R g tokens ends r ends'
  pub lets_out : tokens_of (drop i piece) ≡ tokens ++ tokens_of (drop read piece)
  pub holds : tail_of (drop i piece) ≡ tail_of (drop read piece)
  pub fits : read ≤ length piece
  pub takes : i + taken tokens ≡ read
  pub few : length (joined tokens) ≤ taken tokens
  pub moves : held ≡ false → i < read
  pub all_held : held ≡ true → tail_of (drop read piece) ≡ drop read piece

-- the rest of a piece: all that it lets out is stepped over, and what it holds back is its end
pub record RestStepped {S : Type 0} (R : Runner S) (g : Progress S) (piece : List ℕ) (from : ℕ) (ends : List ℕ) (r : Progress S) (kept : ℕ) (ends' : List ℕ) : Type 0 where
  pub steps : SteppedBy R g (tokens_of (drop from piece)) ends r ends'
  pub holds : tail_of (drop from piece) ≡ drop kept piece
  pub fits : kept ≤ length piece
  pub few : length (joined (tokens_of (drop from piece))) + from ≤ kept

-- held bytes that are a given list
pub record Holds (h : Held) (tail : List ℕ) : Type 0 where
  pub is : held_of h ≡ tail
  pub size : h.len ≡ length tail
  pub few : h.len ≤ held_most form_limit
  pub long : length h.bytes ≡ form_limit

-- the same, and that end is held
pub record RestFedBy {S : Type 0} (R : Runner S) (g : Progress S) (piece : List ℕ) (from : ℕ) (ends : List ℕ) (r : Progress S) (h : Held) (ends' : List ℕ) : Type 0 where
  pub steps : SteppedBy R g (tokens_of (drop from piece)) ends r ends'
  pub held : Holds h (tail_of (drop from piece))
  pub few : length (joined (tokens_of (drop from piece))) + h.len + from ≤ length piece

-- a piece after held bytes: all that both let out is stepped over, and their tail is held
pub record FedBy {S : Type 0} (R : Runner S) (g : Progress S) (h : Held) (piece ends : List ℕ) (r : Progress S) (k : Held) (ends' : List ℕ) : Type 0 where
  pub steps : SteppedBy R g (tokens_of (held_of h ++ piece)) ends r ends'
  pub held : Holds k (tail_of (held_of h ++ piece))
  pub few : length (joined (tokens_of (held_of h ++ piece))) + k.len ≤ h.len + length piece
