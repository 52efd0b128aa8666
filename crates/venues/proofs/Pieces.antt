-- "and never before an earlier one of its feed": a feed's scan is fed its accepted pieces in their order, up to the one that waits. Assumes nothing.
use mathlib.Core.Path.{◌≡◌, refl, sym, ap, ◌∙◌}
use mathlib.Core.Bool.{Bool, true, false, not, cond, ◌&&◌, ◌||◌}
use mathlib.Core.Logic.{◌⊎◌, inl, inr}
use mathlib.Core.List.{List, [], ◌∷◌, ◌++◌, append_assoc, append-nil}
use Prim.Native.Nat.{ℕ, ◌+◌, ◌^◌}
use native.Mathlib.Omega.{arith}
use lib.Dec.{eqb, eqb→eq}
use Rattle.model.specs.RefusalNumbers.{offer_fault}
use Rattle.model.specs.Turns.{waits, turns_down, offer, nobody, turn}
use Rattle.model.proofs.Truth.{T-to}
use Rattle.answers.specs.declared.Offered.{Offered}
use Rattle.answers.specs.declared.Served.{Served}
use Rattle.agreement.specs.Agreement.{feeding, Made}
use Rattle.dispatcher.specs.Dispatching.{offer_answer, OfferIs, turn_answer, TurnIs}
use Rattle.dispatcher.proofs.Flags.{flag_at, set_flag}
use Rattle.venues.specs.Venues.{Host, Event, offers, idles, serves, finishes, Happened, next, Happens, host_after, accepted_on, accepted_for, waiting_for, calls_on, calls_to, piece_in, pieces_in}
use Rattle.venues.proofs.NextFeed.{Taken, offer-is, Names, turn_is}
use Rattle.venues.proofs.Served.{state_of, turn-answers, waits-after}

pieces-append : (cs ds : List Made) → pieces_in (cs ++ ds) ≡ pieces_in cs ++ pieces_in ds
pieces-append [] ds = refl
pieces-append (c ∷ cs) ds = ap (λ (l : List (List ℕ)). piece_in c.request ++ l) (pieces-append cs ds) ∙ sym (append_assoc (piece_in c.request) (pieces_in cs) (pieces_in ds))

-- One event. An offer ..
offer_orders : (f : ℕ) (h : Host) (g : ℕ) (q : List ℕ) (r : Offered) → OfferIs h.waiting h.last g r
    → waiting_for f h ++ accepted_on f (offers g q r) ≡ waiting_for f (next h (offers g q r))
offer_orders f h g q r i = go (offer-is (state_of h) g)
  where
    go : (offer (state_of h) g ≡ turns_down offer_fault 0) ⊎ Taken (state_of h) g → waiting_for f h ++ accepted_on f (offers g q r) ≡ waiting_for f (next h (offers g q r))
    go (inl e) =
        let x = i ∙ ap (offer_answer (state_of h)) e in
        ap (λ (r : Offered). waiting_for f h ++ accepted_on f (offers g q r)) x ∙ none (eqb g f) ∙ sym (ap (λ (r : Offered). waiting_for f (next h (offers g q r))) x)
      where
        none : (b : Bool) → waiting_for f h ++ cond b [] [] ≡ waiting_for f h
        none true = append-nil (waiting_for f h)
        none false = append-nil (waiting_for f h)
    go (inr t) =
        let x = i ∙ ap (offer_answer (state_of h)) t.is in
        ap (λ (r : Offered). waiting_for f h ++ accepted_on f (offers g q r)) x ∙ one (eqb g f) refl (set_flag h.waiting g t.clear f)
        ∙ sym (ap (λ (r : Offered). waiting_for f (next h (offers g q r))) x)
      where
        one : (b : Bool) → eqb g f ≡ b → flag_at (h.waiting + 2 ^ g) f ≡ (eqb g f || waits (state_of h) f)
            → waiting_for f h ++ cond (eqb g f) (q ∷ []) [] ≡ cond (flag_at (h.waiting + 2 ^ g) f) (cond (eqb g f) q (h.pieces f) ∷ []) []
        one true p s =
            let w : waits (state_of h) f ≡ false = ap (waits (state_of h)) (sym (eqb→eq g f (T-to (sym p) tt))) ∙ t.clear in
            rw (s, p, w)
        one false p s = rw (s, p) (append-nil (waiting_for f h))

-- .. a turn ..
turn_orders : (f : ℕ) (h : Host) (r : Served) (c : Made) → TurnIs h.waiting h.last r → r.served ≡ 1 → c.request ≡ feeding (h.pieces r.feed)
    → waiting_for f h ++ [] ≡ pieces_in (calls_on f (serves r c)) ++ waiting_for f (next h (serves r c))
turn_orders f h r c t o p = append-nil (waiting_for f h) ∙ go (turn_is (state_of h))
  where
    go : (turn (state_of h) ≡ nobody) ⊎ ((g : ℕ) × Names (state_of h) g) → waiting_for f h ≡ pieces_in (calls_on f (serves r c)) ++ waiting_for f (next h (serves r c))
    go (inl e) = let z : r.served ≡ 0 = ap (λ (r : Served). r.served) (t ∙ ap (turn_answer (state_of h)) e) in absurd (omega arith)
    go (inr (g, x)) =
        let y = turn-answers h g r t x in
        let n : r.feed ≡ g = ap (λ (r : Served). r.feed) y in
        by (eqb g f) refl n (waits-after h g f r y x)
      where
        by : (b : Bool) → eqb g f ≡ b → r.feed ≡ g → flag_at r.waiting f ≡ (not (eqb g f) && waits (state_of h) f)
            → waiting_for f h ≡ pieces_in (cond (eqb r.feed f) (c ∷ []) []) ++ cond (flag_at r.waiting f) (h.pieces f ∷ []) []
        by true q n s =
            let e = eqb→eq g f (T-to (sym q) tt) in
            let w : waits (state_of h) f ≡ true = ap (waits (state_of h)) (sym e) ∙ x.waited in
            let k : eqb r.feed f ≡ true = ap (λ (k : ℕ). eqb k f) n ∙ q in
            let i : piece_in c.request ≡ h.pieces f ∷ [] = ap piece_in (p ∙ ap (λ (k : ℕ). feeding (h.pieces k)) (n ∙ e)) in
            rw (s, q, k, w, i)
        by false q n s =
            let k : eqb r.feed f ≡ false = ap (λ (k : ℕ). eqb k f) n ∙ q in
            rw (s, q, k)

-- .. a turn that finds nobody ..
idle_orders : (f : ℕ) (h : Host) (r : Served) → TurnIs h.waiting h.last r → r.served ≡ 0 → waiting_for f h ≡ waiting_for f (next h (idles r))
idle_orders f h r t o = go (turn_is (state_of h))
  where
    go : (turn (state_of h) ≡ nobody) ⊎ ((g : ℕ) × Names (state_of h) g) → waiting_for f h ≡ waiting_for f (next h (idles r))
    go (inl e) = sym (ap (λ (r : Served). cond (flag_at r.waiting f) (h.pieces f ∷ []) []) (t ∙ ap (turn_answer (state_of h)) e))
    go (inr (g, x)) = let z : r.served ≡ 1 = ap (λ (r : Served). r.served) (turn-answers h g r t x) in absurd (omega arith)

-- .. or a finish.
event_orders : (f : ℕ) (h : Host) (e : Event) → Happened h e → waiting_for f h ++ accepted_on f e ≡ pieces_in (calls_on f e) ++ waiting_for f (next h e)
event_orders f h (offers g q r) m = offer_orders f h g q r m
event_orders f h (idles r) m = append-nil (waiting_for f h) ∙ idle_orders f h r m.0 m.1
event_orders f h (serves r c) m = turn_orders f h r c m.0 m.1 m.2
event_orders f h (finishes g c) m = append-nil (waiting_for f h) ∙ go (eqb g f)
  where
    go : (b : Bool) → waiting_for f h ≡ pieces_in (cond b (c ∷ []) []) ++ waiting_for f h
    go true = sym (ap (λ (l : List (List ℕ)). (l ++ []) ++ waiting_for f h) (ap piece_in m.0))
    go false = refl

pub in_order : (f : ℕ) (es : List Event) (h : Host) → Happens h es → waiting_for f h ++ accepted_for f es ≡ pieces_in (calls_to f es) ++ waiting_for f (host_after h es)
in_order f [] h m = append-nil (waiting_for f h)
in_order f (e ∷ es) h m =
    let h' = next h e in
    let here = pieces_in (calls_on f e) in
    let later = pieces_in (calls_to f es) in
    sym (append_assoc (waiting_for f h) (accepted_on f e) (accepted_for f es))
    ∙ ap (λ (l : List (List ℕ)). l ++ accepted_for f es) (event_orders f h e m.0)
    ∙ append_assoc here (waiting_for f h') (accepted_for f es)
    ∙ ap (λ (l : List (List ℕ)). here ++ l) (in_order f es h' m.1)
    ∙ sym (append_assoc here later (waiting_for f (host_after h' es)))
    ∙ ap (λ (l : List (List ℕ)). l ++ waiting_for f (host_after h' es)) (sym (pieces-append (calls_on f e) (calls_to f es)))
