-- What an offer and a turn answer a host that hands over the dispatcher's state as two numbers. Assumes nothing.
use Rattle.std.specs.Prelude.{◌≡◌, ℕ, suc, ◌≤◌}
use Rattle.model.specs.RefusalNumbers.{offer_fault}
use Rattle.model.specs.Turns.{feeds, Dispatcher, OfferAnswer, turns_down, takes, offer, TurnAnswer, nobody, serves, going_round, last_served, way_to_next, turn}
use Rattle.answers.specs.declared.Offered.{Offered}
use Rattle.answers.specs.declared.Served.{Served}

abbrev pub handed : (waiting last : ℕ) → Dispatcher
handed waiting last = record { waiting = waiting; last = last }

-- After a refusal the state is as it was handed over.
abbrev pub offer_answer : Dispatcher → OfferAnswer → Offered
offer_answer d (turns_down n p) = record { number = n; place = p; waiting = d.waiting; last = d.last }
offer_answer d (takes e) = record { number = 0; place = 0; waiting = e.waiting; last = e.last }

abbrev pub OfferIs : (waiting last feed : ℕ) → Offered → Type 0
OfferIs waiting last feed r = r ≡ offer_answer (handed waiting last) (offer (handed waiting last) feed)

-- "A turn with nobody waiting says so and changes nothing": the state is as it was handed over, bit for bit.
abbrev pub turn_answer : Dispatcher → TurnAnswer → Served
turn_answer d nobody = record { served = 0; feed = 0; waiting = d.waiting; last = d.last }
turn_answer d (serves f e) = record { served = 1; feed = f; waiting = e.waiting; last = e.last }

abbrev pub TurnIs : (waiting last : ℕ) → Served → Type 0
TurnIs waiting last r = r ≡ turn_answer (handed waiting last) (turn (handed waiting last))

-- ---- what the functions ask and give

abbrev pub as_handed : (waiting last : ℕ) → Offered
as_handed waiting last = offer_answer (handed waiting last) (turns_down offer_fault 0)

-- "the next .. after the one last served", where "a last-served number above 7 reads as 7"
pub record FirstIs (last r : ℕ) : Type 0 where
  pub is : r ≡ suc (last_served (handed 0 last))
  pub small : r ≤ feeds

-- The feed that has its turn, and that it is found among them.
pub record NextIs (low last feed : ℕ) : Type 0 where
  pub found : 1 ≤ way_to_next (handed low last)
  pub is : feed ≡ going_round (last_served (handed low last)) (way_to_next (handed low last))
