-- NOTE 13 as one statement, about calls as they were made: a host that offers the pieces of its feeds, takes turns, feeds the piece of the feed that a turn names to that
-- feed's scan, and finishes scans. The theorem is `in_turns` of proofs/InTurns. Assumes nothing.
use Rattle.std.specs.Prelude.{◌≡◌, cond, ◌⊎◌, List, [], ◌∷◌, ◌++◌, ℕ, suc, ◌-◌, ◌≤◌, eqb}
use Rattle.model.specs.PlainScan.{plain_scan}
use Rattle.model.specs.Turns.{waits}
use Rattle.answers.specs.declared.Offered.{Offered}
use Rattle.answers.specs.declared.Opened.{Opened}
use Rattle.answers.specs.declared.Served.{Served}
use Rattle.scan_open.specs.Opening.{OpenIs}
use Rattle.scan.specs.Calls.{Bytes}
use Rattle.agreement.specs.Agreement.{Request, feeding, finishing, Made, Met, HandedOn, calls_of, entries_of, AllAgree}
use Rattle.dispatcher.specs.Dispatching.{handed, OfferIs, TurnIs}

-- ---- a host

-- What it keeps: the dispatcher's state; for each feed the piece whose offer was last accepted, "the bytes kept by the host", and a scan value, "each with its own scan".
pub record Host : Type 0 where
  pub waiting : ℕ
  pub last : ℕ
  pub pieces : ℕ → List ℕ
  pub scans : ℕ → List ℕ

-- What happens, with what was answered: an offer; a turn that finds nobody waiting; a turn that names a feed, and the call that the host then makes; a finish.
pub data Event : Type 0 where
  offers : (feed : ℕ) (piece : List ℕ) (answer : Offered) → Event
  idles : (answer : Served) → Event
  serves : (answer : Served) (made : Made) → Event
  finishes : (feed : ℕ) (made : Made) → Event

-- Each call met its contract on what the host kept. "the host then feeds that piece to its scan"; finishes are the host's own.
abbrev pub Happened : Host → Event → Type 0
Happened h (offers f piece r) = OfferIs h.waiting h.last f r
Happened h (idles r) = TurnIs h.waiting h.last r × (r.served ≡ 0)
Happened h (serves r c) = TurnIs h.waiting h.last r × (r.served ≡ 1) × (c.request ≡ feeding (h.pieces r.feed)) × Met (h.scans r.feed) c
Happened h (finishes f c) = (c.request ≡ finishing) × Met (h.scans f) c

abbrev pub put_at : (ℕ → List ℕ) → (feed : ℕ) → List ℕ → ℕ → List ℕ
put_at xs f x g = cond (eqb f g) x (xs g)

-- What it keeps then: the state that the call left; the piece of an offer that is accepted; the scan value that a feed or a finish left. "A piece refused by its scan
-- counts as served": nothing is asked of that answer.
abbrev pub next : Host → Event → Host
next h (offers f piece r) =
    record { waiting = r.waiting; last = r.last; pieces = cond (eqb r.number 0) (put_at h.pieces f piece) h.pieces; scans = h.scans }
next h (idles r) = record { waiting = r.waiting; last = r.last; pieces = h.pieces; scans = h.scans }
next h (serves r c) = record { waiting = r.waiting; last = r.last; pieces = h.pieces; scans = put_at h.scans r.feed c.value }
next h (finishes f c) = record { waiting = h.waiting; last = h.last; pieces = h.pieces; scans = put_at h.scans f c.value }

-- "Over calls each handed the state the last one left"
abbrev pub Happens : Host → List Event → Type 0
Happens h [] = Unit {0}
Happens h (e ∷ es) = Happened h e × Happens (next h e) es

abbrev pub host_after : Host → List Event → Host
host_after h [] = h
host_after h (e ∷ es) = host_after (next h e) es

-- ---- what is read off the events

abbrev pub turns_in : List Event → ℕ
turns_in [] = 0
turns_in (offers f piece r ∷ es) = turns_in es
turns_in (idles r ∷ es) = suc (turns_in es)
turns_in (serves r c ∷ es) = suc (turns_in es)
turns_in (finishes f c ∷ es) = turns_in es

-- "within 8 turns"
abbrev pub turns_most : ℕ
turns_most = 8

-- Among the next n turns one names the feed, and the first that does so feeds its scan this piece.
abbrev pub ServedWithin : (feed : ℕ) (piece : List ℕ) → List Event → (n : ℕ) → Type 0
ServedWithin f piece [] n = ⊥
ServedWithin f piece (offers g q r ∷ es) n = ServedWithin f piece es n
ServedWithin f piece (idles r ∷ es) n = (1 ≤ n) × ServedWithin f piece es (n - 1)
ServedWithin f piece (serves r c ∷ es) n =
    (1 ≤ n) × (((r.feed ≡ f) × (c.request ≡ feeding piece)) ⊎ ((r.feed ≡ f → ⊥) × ServedWithin f piece es (n - 1)))
ServedWithin f piece (finishes g c ∷ es) n = ServedWithin f piece es n

-- A feed's accepted offers, by their pieces; and the piece that waits, if one does.
abbrev pub accepted_on : (feed : ℕ) → Event → List (List ℕ)
accepted_on f (offers g piece r) = cond (eqb g f) (cond (eqb r.number 0) (piece ∷ []) []) []
accepted_on f (idles r) = []
accepted_on f (serves r c) = []
accepted_on f (finishes g c) = []

abbrev pub accepted_for : (feed : ℕ) → List Event → List (List ℕ)
accepted_for f [] = []
accepted_for f (e ∷ es) = accepted_on f e ++ accepted_for f es

abbrev pub waiting_for : (feed : ℕ) → Host → List (List ℕ)
waiting_for f h = cond (waits (handed h.waiting h.last) f) (h.pieces f ∷ []) []

-- The calls that were made on a feed's scan, and the pieces among them.
abbrev pub calls_on : (feed : ℕ) → Event → List Made
calls_on f (offers g piece r) = []
calls_on f (idles r) = []
calls_on f (serves r c) = cond (eqb r.feed f) (c ∷ []) []
calls_on f (finishes g c) = cond (eqb g f) (c ∷ []) []

abbrev pub calls_to : (feed : ℕ) → List Event → List Made
calls_to f [] = []
calls_to f (e ∷ es) = calls_on f e ++ calls_to f es

abbrev pub piece_in : Request → List (List ℕ)
piece_in (feeding piece) = piece ∷ []
piece_in finishing = []

abbrev pub pieces_in : List Made → List (List ℕ)
pieces_in [] = []
pieces_in (c ∷ cs) = piece_in c.request ++ pieces_in cs

-- Two lists of calls with the same answers: number, place and count, and as many entries.
abbrev pub SameAnswers : List Made → List Made → Type 0
SameAnswers [] [] = Unit {0}
SameAnswers [] (d ∷ ds) = ⊥
SameAnswers (c ∷ cs) [] = ⊥
SameAnswers (c ∷ cs) (d ∷ ds) = (c.answer ≡ d.answer) × (entries_of c ≡ entries_of d) × SameAnswers cs ds

-- ---- the claim

-- Of a host, whatever it keeps at first, and what happens then.
pub record InTurns (h : Host) (es : List Event) : Type 0 where
  -- "an accepted offer's piece is served within 8 turns", whatever is offered meanwhile
  pub within_8 : (before later : List Event) (f : ℕ) (piece : List ℕ) (r : Offered) → es ≡ before ++ (offers f piece r ∷ later) → r.number ≡ 0 → turns_most ≤ turns_in later
      → ServedWithin f piece later turns_most
  -- "and never before an earlier one of its feed": a feed's scan is fed its accepted pieces in their order, none lost, none twice, up to the one that waits
  pub in_order : (f : ℕ) → waiting_for f h ++ accepted_for f es ≡ pieces_in (calls_to f es) ++ waiting_for f (host_after h es)
  -- A feed's calls are handed on among themselves, as demand 3 asks; so all that it says holds of each feed.
  pub handed-on : (f : ℕ) → HandedOn (h.scans f) (calls_to f es)
  -- "each feed's ends are those it gets alone from the same feeds and finishes, in the same order, with the same list lengths": from any scan value
  pub alone : (f : ℕ) (cs : List Made) → HandedOn (h.scans f) cs → calls_of cs ≡ calls_of (calls_to f es) → SameAnswers (calls_to f es) cs
  -- and, with any rule and codes for each feed, the plain scan's
  pub plain : (f flag : ℕ) (rule codes sets : List ℕ) → Bytes rule → Bytes codes → (s₀ : List ℕ) (o : Opened) → OpenIs flag rule codes sets s₀ o (h.scans f) → o.number ≡ 0
      → AllAgree (calls_to f es) (plain_scan flag rule codes sets (calls_of (calls_to f es)))
