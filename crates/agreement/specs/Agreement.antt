-- DEMAND 3 as one statement: over every list of feeds and finishes, as they were made, the scan answers as the plain scan, and scan and window search agree on the
-- finished plan. The theorem is `agreement` of proofs/Agreement. Assumes nothing.
use Rattle.std.specs.Prelude.{◌≡◌, ◌⊎◌, ◌↔◌, ℕ, ◌+◌, ◌*◌, ◌≤◌, ◌<◌, length, take}
use mathlib.Core.List.{List, [], ◌∷◌, ◌++◌, Memᴰ}
use Rattle.model.specs.Occurrence.{Position, StartsAt, EndsAt, shortest, ends, starts, RisingFrom}
use Rattle.model.specs.NumberedAnswers.{overwrite}
use Rattle.model.specs.References.{form_limit, decode}
use Rattle.model.specs.RawPlaces.{raw_places, Entry, place_in, placed, ends_of, raws_of, pair_numbers, pairs_of, WeaklyRising, CutAt}
use Rattle.model.specs.PlainScan as Plain
use Rattle.model.specs.PlainScan.{Call, feed, finish, refused, reported, plain_scan, nothing_kept, kept_after}
use Rattle.model.specs.WindowSearch.{window_at, ShiftIs, shift, WindowsAre, windows, LargestMove}
use Rattle.answers.specs.declared.Answer.{Answer}
use Rattle.answers.specs.Answers.{refusing, counting}
use Rattle.answers.specs.declared.Opened.{Opened}
use Rattle.scan_open.specs.Opening.{OpenIs}
use Rattle.scan.specs.Calls.{FeedIs, FinishIs, Bytes}
use Rattle.text_search.specs.Searching.{SearchIs}

-- ---- calls as they were made

-- a feed of a piece, or a finish
pub data Request : Type 0 where
  feeding : (piece : List ℕ) → Request
  finishing : Request

-- A call as it was made: the list that it was lent; the answer, and the scan value and the list as it left them.
pub record Made : Type 0 where
  pub request : Request
  pub lent : List ℕ
  pub answer : Answer
  pub value : List ℕ
  pub list : List ℕ

-- It met the contract of `jazhuppe_feed` or `jazhuppe_finish` on scan value s.
abbrev pub MetBy : Request → (s lent : List ℕ) (r : Answer) (s' lent' : List ℕ) → Type 0
MetBy (feeding piece) s lent r s' lent' = Bytes piece × FeedIs s piece lent r s' lent'
MetBy finishing s lent r s' lent' = FinishIs s lent r s' lent'

abbrev pub Met : (s : List ℕ) → Made → Type 0
Met s c = MetBy c.request s c.lent c.answer c.value c.list

-- "Each feed or finish is handed, whole, what the one before it returned or left, and nobody else writes it meanwhile."
abbrev pub HandedOn : (s : List ℕ) → List Made → Type 0
HandedOn s [] = Unit {0}
HandedOn s (c ∷ cs) = Met s c × HandedOn c.value cs

-- What the plain scan is fed: "each call's kind, its piece if it is a feed, and its lent list's length".
abbrev pub call_by : Request → (lent : ℕ) → Call
call_by (feeding piece) n = feed piece n
call_by finishing n = finish n

abbrev pub calls_of : List Made → List Call
calls_of [] = []
calls_of (c ∷ cs) = call_by c.request (length c.lent) ∷ calls_of cs

-- "as many entries of its lent list", each of two numbers
abbrev pub entries_of : Made → List Entry
entries_of c = pairs_of (take (pair_numbers * c.answer.count) c.list)

-- "A call's refusal number, its count of pairs and as many entries of its lent list equal the plain scan's."
abbrev pub Agrees : Made → Plain.Answer → Type 0
Agrees c (refused n) = c.answer ≡ refusing n 0
Agrees c (reported es) = (c.answer ≡ counting (length es) 0) × (entries_of c ≡ es)

abbrev pub AllAgree : List Made → List Plain.Answer → Type 0
AllAgree [] [] = Unit {0}
AllAgree [] (a ∷ rest) = ⊥
AllAgree (c ∷ cs) [] = ⊥
AllAgree (c ∷ cs) (a ∷ rest) = Agrees c a × AllAgree cs rest

-- "The ends reported are those of all the calls in order", pairs.
abbrev pub reported_by : List Made → List Entry
reported_by [] = []
reported_by (c ∷ cs) = entries_of c ++ reported_by cs

-- "the accepted finish": a finish that answered 0
abbrev pub Finishes : Request → (number : ℕ) → Type 0
Finishes (feeding piece) n = ⊥
Finishes finishing n = n ≡ 0

abbrev pub Finished : List Made → Type 0
Finished [] = ⊥
Finished (c ∷ cs) = Finishes c.request c.answer.number ⊎ Finished cs

-- "P, the bytes taken"; "With the accepted finish, P is the finished plan": what it decodes to.
abbrev pub taken_by : List Made → List ℕ
taken_by cs = (kept_after form_limit nothing_kept (calls_of cs)).taken

abbrev pub plan_of : List Made → List ℕ
plan_of cs = decode form_limit (taken_by cs)

-- ---- the claim

-- "demand 3 then speaks of one rule, fold flag and list of codes": of these, the scan value s that an accepted opening gave for them, and the rule's positions ps, read
-- by fit.
pub record Agreement (flag : ℕ) (rule codes sets s : List ℕ) (ps : List Position) : Type 0 where
  -- "over every list of feeds and finishes, refused ones included, wherever pieces cut the plan, every answer equals the plain scan's"
  pub answers : (cs : List Made) → HandedOn s cs → AllAgree cs (plain_scan flag rule codes sets (calls_of cs))
  -- "the scan reports exactly the ends .. of occurrences in the decoded plan", once each, rising, each "with the raw count just past the byte or the whole reference that
  -- gave it"
  pub reports : (cs : List Made) → HandedOn s cs → Finished cs → reported_by cs ≡ placed (place_in 0 (raw_places form_limit (taken_by cs))) (ends ps (plan_of cs))
  pub an_end : (text : List ℕ) (e : ℕ) → Memᴰ e (ends ps text) ↔ EndsAt ps text e
  pub ends-rise : (text : List ℕ) → RisingFrom 0 (ends ps text)
  -- raw counts rise weakly, and lie within the bytes taken, finished or not
  pub raws_rise : (cs : List Made) → HandedOn s cs → WeaklyRising 0 (length (taken_by cs)) (raws_of (reported_by cs))
  -- and where the plan is cut, the decoded plan is: after the end's last byte, or after the other bytes of the reference that gave it
  pub raw_cuts : (plan : List ℕ) (e : ℕ) → 1 ≤ e → e ≤ length (decode form_limit plan) → CutAt form_limit plan e (place_in 0 (raw_places form_limit plan) e)
  -- "starts, windows and their count are exactly the defined ones": a search of the finished plan, with a list that is long enough
  pub search : (cs : List Made) → (list : List ℕ) (r : Answer) (list' : List ℕ) → SearchIs flag rule codes sets (plan_of cs) list r list' → length (plan_of cs) ≤ length list
      → (r ≡ counting (length (starts ps (plan_of cs))) (length (windows ps (plan_of cs))))
      × (list' ≡ overwrite list (starts ps (plan_of cs)))
  pub a_start : (text : List ℕ) (k : ℕ) → Memᴰ k (starts ps text) ↔ StartsAt ps text k
  pub starts-rise : (text : List ℕ) → RisingFrom 0 (starts ps text)
  pub sequence : (text : List ℕ) → WindowsAre ps text 0 (windows ps text)
  pub shifts : (window : List ℕ) → ShiftIs ps window (shift ps window)
  -- "The move from w, the last one too, passes over the starts strictly between w and w plus its shift, and none of these begins an occurrence in any text with
  -- this window at w."
  pub moves : (window text : List ℕ) (w : ℕ) → window_at ps text w ≡ window → (i : ℕ) → 1 ≤ i
      → i < shift ps window → StartsAt ps text (w + i) → ⊥
  -- "for every window and its shift j, the text limit aside, some bytes after the window would give an occurrence starting j bytes past the window's start. With the
  -- base promise, j is then the largest move that can be made on the window's bytes alone."
  pub largest-move : (window : List ℕ) → Bytes window → length window ≡ shortest ps → LargestMove ps window (shift ps window)
  -- "plans that decode alike get the same answers", raw counts aside: "Two spellings of one plan still agree in decoded ends; their raw counts may differ." From any other accepted
  -- opening of the rule with these codes, however spelt and cut
  pub alike : (t₀ : List ℕ) (o : Opened) (t : List ℕ) → OpenIs flag rule codes sets t₀ o t → o.number ≡ 0 → (cs ds : List Made) → HandedOn s cs → HandedOn t ds
      → Finished cs → Finished ds → plan_of cs ≡ plan_of ds → ends_of (reported_by cs) ≡ ends_of (reported_by ds)
  pub alike-search : (cs ds : List Made) → plan_of cs ≡ plan_of ds → (list : List ℕ) (r r₂ : Answer) (l l₂ : List ℕ)
      → SearchIs flag rule codes sets (plan_of cs) list r l → SearchIs flag rule codes sets (plan_of ds) list r₂ l₂ → (r ≡ r₂) × (l ≡ l₂)
