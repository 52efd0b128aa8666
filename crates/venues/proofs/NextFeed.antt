-- What an offer does, and whom a turn names: one that waits, and where a feed waits, this feed or one that is nearer. Assumes nothing.
use mathlib.Core.Path.{◌≡◌, refl, sym, ap, ◌∙◌}
use mathlib.Core.Bool.{Bool, true, false, not, cond}
use mathlib.Core.Logic.{◌⊎◌, inl, inr}
use Prim.Native.Nat.{ℕ, zero, suc, ◌+◌, ◌-◌, ◌^◌, ◌≤◌, ◌<◌}
use native.Mathlib.Omega.{arith}
use native.Mathlib.Decide.{dec_lt}
use lib.Dec.{T, ltb, ltb→lt, nltb→le}
use Rattle.model.specs.RefusalNumbers.{offer_fault}
use Rattle.model.specs.WindowSearch.{least_from}
use Rattle.model.specs.Turns.{feeds, top_feed, Dispatcher, waits, last_served, turns_down, takes, offer, nobody, going_round, served, way_to_next, turn_by, turn}
use Rattle.model.proofs.Truth.{T-to, T_true}
use Rattle.model.proofs.Windows.{least-is}
use Rattle.dispatcher.proofs.Answering.{turn-finds}

-- ---- an offer

pub record Taken (d : Dispatcher) (f : ℕ) : Type 0 where
  pub is : offer d f ≡ takes (record { waiting = d.waiting + 2 ^ f; last = d.last })
  pub small : f ≤ top_feed
  pub clear : waits d f ≡ false

pub offer-is : (d : Dispatcher) (f : ℕ) → (offer d f ≡ turns_down offer_fault 0) ⊎ Taken d f
offer-is d f = go (ltb top_feed f) refl (waits d f) refl
  where
    go : (a : Bool) → ltb top_feed f ≡ a → (b : Bool) → waits d f ≡ b → (offer d f ≡ turns_down offer_fault 0) ⊎ Taken d f
    go true p b q = inl (rw (p, offer))
    go false p true q = inl (rw (p, q, offer))
    go false p false q = inr (record { is = rw (p, q, offer); small = nltb→le top_feed f (T-to (sym (ap not p)) tt); clear = q })

-- ---- how far ahead a feed is, going round: 1 to 8

abbrev pub ahead : (last f : ℕ) → ℕ
ahead last f = cond (ltb last f) (f - last) (f + feeds - last)

ahead_cases : {P : Type 0} (last f : ℕ) → (last < f → ahead last f ≡ f - last → P) → (f ≤ last → ahead last f ≡ f + 8 - last → P) → P
ahead_cases {P} last f a b = go (ltb last f) refl
  where
    go : (x : Bool) → ltb last f ≡ x → P
    go true q = a (ltb→lt last f (T-to (sym q) tt)) (rw q)
    go false q = b (nltb→le last f (T-to (sym (ap not q)) tt)) (rw q)

module _ (last f : ℕ) (small : last ≤ 7) (feed : f ≤ 7) where
  pub ahead-some : 1 ≤ ahead last f
  ahead-some = ahead_cases last f (λ h e. omega arith) (λ h e. omega arith)

  pub ahead-few : ahead last f ≤ feeds
  ahead-few = ahead_cases last f (λ h e. omega arith) (λ h e. omega arith)

  ahead-is : going_round last (ahead last f) ≡ f
  ahead-is = ahead_cases last f (λ h e. omega arith) (λ h e. omega arith)

  -- what lies on the way is nearer
  ahead_less : (i : ℕ) → 1 ≤ i → i < ahead last f → ahead (going_round last i) f + i ≡ ahead last f
  ahead_less i a b =
      ahead_cases last f
      (λ h e. ahead_cases (going_round last i) f (λ k g. omega arith) (λ k g. omega arith))
      (λ h e. ahead_cases (going_round last i) f (λ k g. omega arith) (λ k g. omega arith))

pub last-small : (d : Dispatcher) → last_served d ≤ top_feed
last-small d = go (ltb top_feed d.last) refl
  where
    go : (x : Bool) → ltb top_feed d.last ≡ x → cond x top_feed d.last ≤ top_feed
    go true q = omega arith
    go false q = nltb→le top_feed d.last (T-to (sym (ap not q)) tt)

-- a feed that was served reads as itself
pub last-is : (w g : ℕ) → g ≤ top_feed → last_served (record { waiting = w; last = g }) ≡ g
last-is w g h = go (ltb top_feed g) refl
  where
    go : (x : Bool) → ltb top_feed g ≡ x → cond x top_feed g ≡ g
    go true q = let l = ltb→lt top_feed g (T-to (sym q) tt) in absurd (omega arith)
    go false q = refl

-- ---- a turn

pub record Names (d : Dispatcher) (g : ℕ) : Type 0 where
  pub is : turn d ≡ served d g
  pub waited : waits d g ≡ true
  pub small : g ≤ top_feed

-- It names one that waits, or nobody.
pub turn_is : (d : Dispatcher) → (turn d ≡ nobody) ⊎ ((g : ℕ) × Names d g)
turn_is d = go (least-is (λ i. waits d (going_round (last_served d) i)) feeds 1 0)
  where
    go : ((1 ≤ way_to_next d) × (way_to_next d < 1 + feeds) × T (waits d (going_round (last_served d) (way_to_next d)))) ⊎ (way_to_next d ≡ 0) → (turn d ≡ nobody) ⊎ ((g : ℕ) × Names d g)
    go (inl r) =
        inr (going_round (last_served d) (way_to_next d), record { is = turn-finds d (way_to_next d) refl r.0; waited = T_true _ r.2; small = omega arith })
    go (inr r) = inl (ap (turn_by d) r)

-- A number of the n from i on that passes: the least is no later, and passes.
least_upto : (f : ℕ → Bool) (n i e k : ℕ) → i ≤ k → k < i + n → f k ≡ true → (i ≤ least_from f i n e) × (least_from f i n e ≤ k) × (f (least_from f i n e) ≡ true)
least_upto f zero i e k a b t = absurd (omega arith)
least_upto f (suc n) i e k a b t = go (f i) refl (least_upto f n (suc i) e k)
  where
    go : (x : Bool) → f i ≡ x → (suc i ≤ k → k < suc i + n → f k ≡ true → (suc i ≤ least_from f (suc i) n e) × (least_from f (suc i) n e ≤ k) × (f (least_from f (suc i) n e) ≡ true))
        → (i ≤ least_from f i (suc n) e) × (least_from f i (suc n) e ≤ k) × (f (least_from f i (suc n) e) ≡ true)
    go true q ih = let r : least_from f i (suc n) e ≡ i = rw (q, least_from) in (omega arith, omega arith, ap f r ∙ q)
    go false q ih =
        let r : least_from f i (suc n) e ≡ least_from f (suc i) n e = rw (q, least_from) in
        let ne : k ≡ i → ⊥ = λ z. T-to (sym t ∙ ap f z ∙ q) tt in
        let h = ih (omega arith) (omega arith) t in
        let h₀ = h.0 in
        let h₁ = h.1 in
        (omega arith, omega arith, ap f r ∙ h.2)

-- Where a feed waits, a turn names it, or one that is nearer.
pub record Nearer (d : Dispatcher) (f : ℕ) : Type 0 where
  pub next : ℕ
  pub names : Names d next
  pub way : (next ≡ f) ⊎ (ahead next f < ahead (last_served d) f)

pub turn_nearer : (d : Dispatcher) (f : ℕ) → f ≤ top_feed → waits d f ≡ true → Nearer d f
turn_nearer d f s w =
    let l = last-small d in
    let a₀ = ahead-some (last_served d) f l s in
    let a₁ = ahead-few (last_served d) f l s in
    let a₂ = ahead-is (last_served d) f l s in
    let r = least_upto (λ i. waits d (going_round (last_served d) i)) feeds 1 0 (ahead (last_served d) f) a₀ (omega arith) (ap (waits d) a₂ ∙ w) in
    let i = way_to_next d in
    let r₀ = r.0 in
    let r₁ = r.1 in
    record {
      next = going_round (last_served d) i;
      names = record { is = turn-finds d i refl r₀; waited = r.2; small = omega arith };
      way = elim (dec_lt i (ahead (last_served d) f)) [
        | yes h ↦ inr (let e = ahead_less (last_served d) f l s i r₀ h in omega arith)
        | no h ↦ inl (let e : i ≡ ahead (last_served d) f = omega arith in ap (going_round (last_served d)) e ∙ a₂)
      ];
    }
