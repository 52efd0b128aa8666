-- Note 13, "Turns among venues": the dispatcher, with row 18 of "Numbered answers". Assumes nothing.
use Rattle.std.specs.Prelude.{Bool, cond, ◌||◌, ℕ, zero, suc, ◌+◌, ◌-◌, ◌/◌, ◌%◌, ◌^◌, ltb, eqb}
use Rattle.model.specs.RefusalNumbers.{offer_fault}
use Rattle.model.specs.WindowSearch.{least_from}

-- "Eight feeds arrive together, each with its own scan": feeds 0 to 7.
abbrev pub feeds : ℕ
feeds = 8

abbrev pub top_feed : ℕ
top_feed = 7

-- The dispatcher's state: which feeds have a piece waiting, feed f as bit f, and the one last served. "the bytes [are] kept by the host".
pub record Dispatcher : Type 0 where
  pub waiting : ℕ
  pub last : ℕ

-- "that feed already has a piece waiting"
abbrev pub waits : Dispatcher → (feed : ℕ) → Bool
waits d f = eqb (d.waiting / 2 ^ f % 2) 1

-- "At the opening feed 7 counts as last served" ..
abbrev pub opened : Dispatcher
opened = record { waiting = 0; last = top_feed }

-- .. "and a last-served number above 7 reads as 7."
abbrev pub last_served : Dispatcher → ℕ
last_served d = cond (ltb top_feed d.last) top_feed d.last

-- ---- an offer

pub data OfferAnswer : Type 0 where
  turns_down : (number place : ℕ) → OfferAnswer
  takes : Dispatcher → OfferAnswer

-- "18 when an offer's feed number is above 7 or that feed already has a piece waiting."
abbrev pub offer : Dispatcher → (feed : ℕ) → OfferAnswer
offer d f = cond (ltb top_feed f || waits d f) (turns_down offer_fault 0) (takes (record { waiting = d.waiting + 2 ^ f; last = d.last }))

-- ---- a turn

-- "A turn with nobody waiting says so and changes nothing."
pub data TurnAnswer : Type 0 where
  nobody : TurnAnswer
  serves : (feed : ℕ) → Dispatcher → TurnAnswer

-- The i-th feed "after the one last served, going round".
abbrev pub going_round : (last i : ℕ) → ℕ
going_round last i = (last + i) % feeds

-- The feed that is named waits no longer, and is the one last served.
abbrev pub served : Dispatcher → (feed : ℕ) → TurnAnswer
served d f = serves f (record { waiting = d.waiting - 2 ^ f; last = f })

-- "at each turn, names the next waiting feed after the one last served, going round": how far round it is, 1 to 8, the one last served itself coming last; or 0.
abbrev pub way_to_next : Dispatcher → ℕ
way_to_next d = least_from (λ i. waits d (going_round (last_served d) i)) 1 feeds 0

abbrev pub turn_by : Dispatcher → (way : ℕ) → TurnAnswer
turn_by d zero = nobody
turn_by d (suc i) = served d (going_round (last_served d) (suc i))

abbrev pub turn : Dispatcher → TurnAnswer
turn d = turn_by d (way_to_next d)
