-- A closed case: what a host may see. Its scan values are impossible ones, so that every feed is refused by 11, and all the same "counts as served". Assumes nothing.
use Rattle.std.specs.Prelude.{◌≡◌, refl, List, [], ◌∷◌, ℕ}
use Rattle.answers.specs.Answers.{refusing}
use Rattle.scan.specs.Calls.{CallIs}
use Rattle.model.specs.PlainScan.{Call, feed, finish}
use Rattle.scan_value.specs.Value.{number_for, possible}
use Rattle.agreement.specs.Agreement.{Request, feeding, finishing, Made}
use Rattle.venues.specs.Venues.{Host, Event, offers, idles, serves, finishes, Happens, accepted_for, calls_to, pieces_in}

abbrev at_first : Host
at_first = record { waiting = 0; last = 7; pieces = λ f. []; scans = λ f. [] }

abbrev refused_call : Request → Made
refused_call q = record { request = q; lent = []; answer = refusing 11 0; value = []; list = [] }

abbrev events : List Event
events =
    offers 1 (98 ∷ []) (record { number = 0; place = 0; waiting = 2; last = 7 })
    ∷ offers 0 (97 ∷ []) (record { number = 0; place = 0; waiting = 3; last = 7 })
    ∷ offers 1 (120 ∷ []) (record { number = 18; place = 0; waiting = 3; last = 7 })
    ∷ serves (record { served = 1; feed = 0; waiting = 2; last = 0 }) (refused_call (feeding (97 ∷ [])))
    ∷ serves (record { served = 1; feed = 1; waiting = 0; last = 1 }) (refused_call (feeding (98 ∷ [])))
    ∷ idles (record { served = 0; feed = 0; waiting = 0; last = 1 })
    ∷ finishes 1 (refused_call finishing)
    ∷ []

is-refused : (c : Call) → CallIs [] c [] (refusing 11 0) [] []
unfolding number_for possible
is-refused c = record { answers = refl; leaves = refl; lists = refl }

happens : Happens at_first events
happens =
    let fed : (piece : List ℕ) → CallIs [] (feed piece 0) [] (refusing 11 0) [] [] = λ piece. is-refused (feed piece 0) in
    (refl, (refl, (refl, ((refl, refl, refl, (tt, fed (97 ∷ []))), ((refl, refl, refl, (tt, fed (98 ∷ []))), ((refl, refl), ((refl, is-refused (finish 0)), tt)))))))

fed : (accepted_for 1 events ≡ (98 ∷ []) ∷ []) × (pieces_in (calls_to 1 events) ≡ (98 ∷ []) ∷ [])
fed = (refl, refl)
