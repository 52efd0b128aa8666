-- "an accepted offer's piece is served within 8 turns": each turn names the feed, or one that is nearer. Assumes nothing.
use mathlib.Core.Path.{◌≡◌, refl, sym, ap, subst, ◌∙◌}
use mathlib.Core.Bool.{Bool, true, false, not, cond, ◌&&◌}
use mathlib.Core.Logic.{◌⊎◌, inl, inr}
use mathlib.Core.List.{List, [], ◌∷◌, ◌++◌}
use Prim.Native.Nat.{ℕ, ◌-◌, ◌^◌, ◌≤◌, ◌<◌}
use native.Mathlib.Omega.{arith}
use lib.Dec.{ltb, eqb, eqb→eq}
use borrow.Author.Tests.{eq-eqb, ne_eqb}
use Rattle.model.specs.RefusalNumbers.{offer_fault}
use Rattle.model.specs.Turns.{top_feed, Dispatcher, waits, last_served, turns_down, offer}
use Rattle.model.proofs.Truth.{T-to}
use Rattle.answers.specs.declared.Offered.{Offered}
use Rattle.answers.specs.declared.Served.{Served}
use Rattle.agreement.specs.Agreement.{feeding}
use Rattle.dispatcher.specs.Dispatching.{handed, offer_answer, OfferIs, turn_answer, TurnIs}
use Rattle.dispatcher.proofs.Flags.{flag_at, set_flag, clear_flag}
use Rattle.venues.specs.Venues.{Host, Event, offers, idles, serves, finishes, Happened, next, Happens, turns_in, turns_most, ServedWithin}
use Rattle.venues.proofs.NextFeed.{Taken, offer-is, ahead, ahead-some, ahead-few, last-small, last-is, Names, Nearer, turn_nearer}

abbrev pub state_of : Host → Dispatcher
state_of h = handed h.waiting h.last

-- ---- an offer leaves a feed that waits as it is

record KeptFor (h : Host) (f : ℕ) (h' : Host) : Type 0 where
  pub waits-on : waits (state_of h') f ≡ true
  pub last : h'.last ≡ h.last
  pub piece : h'.pieces f ≡ h.pieces f

offer-keeps : (h : Host) (g f : ℕ) (q : List ℕ) (r : Offered) → OfferIs h.waiting h.last g r → waits (state_of h) f ≡ true → KeptFor h f (next h (offers g q r))
offer-keeps h g f q r i w = go (offer-is (state_of h) g)
  where
    go : (offer (state_of h) g ≡ turns_down offer_fault 0) ⊎ Taken (state_of h) g → KeptFor h f (next h (offers g q r))
    go (inl e) =
        let x = i ∙ ap (offer_answer (state_of h)) e in
        record {
          waits-on = ap (λ (r : Offered). flag_at r.waiting f) x ∙ w;
          last = ap (λ (r : Offered). r.last) x;
          piece = ap (λ (r : Offered). (next h (offers g q r)).pieces f) x;
        }
    go (inr t) =
        let x = i ∙ ap (offer_answer (state_of h)) t.is in
        let ne : g ≡ f → ⊥ = λ z. T-to (sym w ∙ ap (waits (state_of h)) (sym z) ∙ t.clear) tt in
        let o : eqb g f ≡ false = ne_eqb g f ne in
        record {
          waits-on = ap (λ (r : Offered). flag_at r.waiting f) x ∙ set_flag h.waiting g t.clear f ∙ rw (o, w);
          last = ap (λ (r : Offered). r.last) x;
          piece = ap (λ (r : Offered). (next h (offers g q r)).pieces f) x ∙ rw o;
        }

-- ---- a turn, where a feed waits

abbrev answer_of : (h : Host) (g : ℕ) → Served
answer_of h g = record { served = 1; feed = g; waiting = h.waiting - 2 ^ g; last = g }

pub turn-answers : (h : Host) (g : ℕ) (r : Served) → TurnIs h.waiting h.last r → Names (state_of h) g → r ≡ answer_of h g
turn-answers h g r t x = t ∙ ap (turn_answer (state_of h)) x.is

-- whom it did not name waits on
pub waits-after : (h : Host) (g f : ℕ) (r : Served) → r ≡ answer_of h g → Names (state_of h) g → flag_at r.waiting f ≡ (not (eqb g f) && waits (state_of h) f)
waits-after h g f r y x = ap (λ (r : Served). flag_at r.waiting f) y ∙ clear_flag h.waiting g x.waited f

pub served-within : (es : List Event) (h : Host) → Happens h es → (f n : ℕ) → f ≤ top_feed → waits (state_of h) f ≡ true → ahead (last_served (state_of h)) f ≤ n → n ≤ turns_in es
    → ServedWithin f (h.pieces f) es n
served-within [] h m f n s w a b = let l = ahead-some (last_served (state_of h)) f (last-small (state_of h)) s in absurd (omega arith)
served-within (offers g q r ∷ es) h m f n s w a b =
    let h' = next h (offers g q r) in
    let k = offer-keeps h g f q r m.0 w in
    let e : ahead (last_served (state_of h')) f ≡ ahead (last_served (state_of h)) f = ap (λ (l : ℕ). ahead (cond (ltb top_feed l) top_feed l) f) k.last in
    subst (λ (p : List ℕ). ServedWithin f p es n) k.piece (served-within es h' m.1 f n s k.waits-on (omega arith) b)
served-within (finishes g c ∷ es) h m f n s w a b = served-within es (next h (finishes g c)) m.1 f n s w a b
served-within (idles r ∷ es) h m f n s w a b =
    let t = turn_nearer (state_of h) f s w in
    let y = turn-answers h t.next r m.0.0 t.names in
    let z : r.served ≡ 1 = ap (λ (r : Served). r.served) y in
    let o = m.0.1 in
    absurd (omega arith)
served-within (serves r c ∷ es) h m f n s w a b =
    let l = ahead-some (last_served (state_of h)) f (last-small (state_of h)) s in
    (omega arith, go (eqb g f) refl t.way (served-within es (next h (serves r c)) m.1 f (n - 1) s))
  where
    t : Nearer (state_of h) f
    t = turn_nearer (state_of h) f s w

    g : ℕ
    g = t.next

    y : r ≡ answer_of h g
    y = turn-answers h g r m.0.0 t.names

    named : r.feed ≡ g
    named = ap (λ (r : Served). r.feed) y

    go : (x : Bool) → eqb g f ≡ x → (g ≡ f) ⊎ (ahead g f < ahead (last_served (state_of h)) f)
        → (waits (state_of (next h (serves r c))) f ≡ true → ahead (last_served (state_of (next h (serves r c)))) f ≤ n - 1 → n - 1 ≤ turns_in es → ServedWithin f (h.pieces f) es (n - 1))
        → ((r.feed ≡ f) × (c.request ≡ feeding (h.pieces f))) ⊎ ((r.feed ≡ f → ⊥) × ServedWithin f (h.pieces f) es (n - 1))
    go true q way ih =
        let e : r.feed ≡ f = named ∙ eqb→eq g f (T-to (sym q) tt) in
        inl (e, m.0.2 ∙ ap (λ (k : ℕ). feeding (h.pieces k)) e)
    go false q way ih =
        let ne : g ≡ f → ⊥ = λ z. T-to (sym (eq-eqb g f z) ∙ q) tt in
        let near : ahead g f < ahead (last_served (state_of h)) f = nearer way ne in
        let still : waits (state_of (next h (serves r c))) f ≡ true = waits-after h g f r y t.names ∙ rw (q, w) in
        let last : ahead (last_served (state_of (next h (serves r c)))) f ≡ ahead g f =
        ap (λ (r : Served). ahead (last_served (handed r.waiting r.last)) f) y ∙ ap (λ (k : ℕ). ahead k f) (last-is (h.waiting - 2 ^ g) g t.names.small) in
        inr (λ z. ne (sym named ∙ z), ih still (omega arith) (omega arith))
      where
        nearer : (g ≡ f) ⊎ (ahead g f < ahead (last_served (state_of h)) f) → (g ≡ f → ⊥) → ahead g f < ahead (last_served (state_of h)) f
        nearer (inl e) ne = absurd (ne e)
        nearer (inr h) ne = h

-- ---- an offer that is accepted, anywhere among the events

record Reached (e : Event) (later : List Event) : Type 0 where
  pub host : Host
  pub here : Happened host e
  pub then : Happens (next host e) later

reach : (before : List Event) (h : Host) (e : Event) (later : List Event) → Happens h (before ++ (e ∷ later)) → Reached e later
reach [] h e later m = record { host = h; here = m.0; then = m.1 }
reach (b ∷ before) h e later m = reach before (next h b) e later m.1

offer-served : (f : ℕ) (piece : List ℕ) (r : Offered) (later : List Event) → Reached (offers f piece r) later → r.number ≡ 0 → turns_most ≤ turns_in later → ServedWithin f piece later turns_most
offer-served f piece r later x z b = go (offer-is (state_of h) f)
  where
    h : Host
    h = x.host

    go : (offer (state_of h) f ≡ turns_down offer_fault 0) ⊎ Taken (state_of h) f → ServedWithin f piece later turns_most
    go (inl e) = let n : r.number ≡ 18 = ap (λ (r : Offered). r.number) (x.here ∙ ap (offer_answer (state_of h)) e) in absurd (omega arith)
    go (inr t) =
        let y = x.here ∙ ap (offer_answer (state_of h)) t.is in
        let o = eq-eqb f f refl in
        let h' = next h (offers f piece r) in
        let w : waits (state_of h') f ≡ true = ap (λ (r : Offered). flag_at r.waiting f) y ∙ set_flag h.waiting f t.clear f ∙ rw o in
        let p : h'.pieces f ≡ piece = ap (λ (r : Offered). (next h (offers f piece r)).pieces f) y ∙ rw o in
        subst (λ (p : List ℕ). ServedWithin f p later turns_most) p
        (served-within later h' x.then f turns_most t.small w (let a = ahead-few (last_served (state_of h')) f (last-small (state_of h')) t.small in omega arith) b)

pub within_8 : (es : List Event) (h : Host) → Happens h es → (before later : List Event) (f : ℕ) (piece : List ℕ) (r : Offered) → es ≡ before ++ (offers f piece r ∷ later) → r.number ≡ 0
    → turns_most ≤ turns_in later → ServedWithin f piece later turns_most
within_8 es h m before later f piece r e = offer-served f piece r later (reach before h (offers f piece r) later (subst (Happens h) e m))
