-- What an offer and a turn answer. On plain values. Assumes nothing.
use mathlib.Core.Path.{◌≡◌, refl, sym, ap, ◌∙◌}
use mathlib.Core.Bool.{Bool, true, false, or-true}
use mathlib.Core.Logic.{◌⊎◌, inl, inr}
use Prim.Native.Nat.{ℕ, zero, suc, ◌+◌, ◌-◌, ◌*◌, ◌/◌, ◌%◌, ◌^◌, ◌≤◌, ◌<◌, min}
use native.Mathlib.Omega.{arith}
use native.Mathlib.Nat.{mod-eq_of_lt}
use native.Mathlib.Decide.{dec_le}
use lib.Dec.{T, leb, ltb, leb→le, ltb→lt}
use lib.Pow.{pow_mono}
use lib.Count.{count_trailing_zeros, trailing_le}
use borrow.Author.Tests.{lt-ltb, le-ltb, eq-eqb, ne_eqb}
use Rattle.model.proofs.Truth.{T-to, T_true}
use Rattle.std.specs.Prelude.{Option, None, Some, MatchOption}
use Rattle.std.proofs.lemmas.Option.{MatchOption-at_none, MatchOption-at_some}
use Rattle.model.specs.WindowSearch.{least_from}
use Rattle.model.specs.Turns.{feeds, top_feed, Dispatcher, last_served, going_round, served, way_to_next, turn_by, turn}
use Rattle.model.proofs.Windows.{least-is}
use Rattle.shift_and.proofs.Digits.{none-bit}
use Rattle.answers.specs.declared.Offered.{Offered}
use Rattle.dispatcher.specs.Dispatching.{handed, OfferIs, turn_answer, TurnIs, as_handed, FirstIs, NextIs}
use Rattle.dispatcher.proofs.Flags.{flag_at, flag_bit, set-fits, set-within, low_flag}
use Rattle.dispatcher.proofs.Rounds.{way_is}

power_small : (f : ℕ) → f ≤ 7 → 2 ^ f < 2 ^ 32
power_small f h = let p : 2 ^ f ≤ 2 ^ 7 = pow_mono h in omega arith

pub flag_is : {f : ℕ} → f ≤ 7 → 1 * 2 ^ f % 2 ^ 32 ≡ 2 ^ f
flag_is {f} h = let l = power_small f h in let m : 2 ^ f % 2 ^ 32 ≡ 2 ^ f = mod-eq_of_lt l in omega arith

-- ---- an offer

module _ (waiting last feed : ℕ) where
  -- (The number that it is compared with may be larger, and the remainder any but 0: what a wrong test lets in then fails where it is taken.)
  pub offer-above : (limit : ℕ) → limit < feed → T (leb top_feed limit) → (r : Offered) → r ≡ as_handed waiting last → OfferIs waiting last feed r
  offer-above limit h t r e = let l = leb→le top_feed limit t in rw (e, lt-ltb 7 feed (omega arith))

  pub offer-again : (k : ℕ) → waiting / 2 ^ feed % 2 ≡ k → T (ltb 0 k) → (r : Offered) → r ≡ as_handed waiting last → OfferIs waiting last feed r
  offer-again k s t r e = let l = ltb→lt 0 k t in rw (e, eq-eqb (waiting / 2 ^ feed % 2) 1 (omega arith), or-true (ltb 7 feed))

  module _ (few : feed ≤ 7) (clear : waiting / 2 ^ feed % 2 ≡ 1 → ⊥) (bit : ℕ) (is : bit ≡ 2 ^ feed) where
    pub offer-fits : waiting < 2 ^ 32 → waiting + bit < 2 ^ 32
    offer-fits small = rw is (set-fits waiting feed (ne_eqb (waiting / 2 ^ feed % 2) 1 clear) 32 small (power_small feed few))

    pub offer-taken : OfferIs waiting last feed (record { number = 0; place = 0; waiting = waiting + bit; last = last })
    offer-taken = rw (is, le-ltb 7 feed few, ne_eqb (waiting / 2 ^ feed % 2) 1 clear)

-- ---- the one last served

pub first-is : (last l : ℕ) → l ≡ min last 7 → FirstIs last (l + 1)
first-is last l e = elim (dec_le last 7) [
  | yes h ↦ let m : l ≡ last = omega (arith, e) in record { is = rw (le-ltb 7 last h) (let z : l + 1 ≡ suc last = omega arith in z); small = omega arith }
  | no n ↦ let h : 7 < last = omega arith in let m : l ≡ 7 = omega (arith, e) in record { is = rw (lt-ltb 7 last h) (let z : l + 1 ≡ 8 = omega arith in z); small = omega arith }
]

-- ---- the next waiting feed

module _ {last from : ℕ} (x : FirstIs last from) where
  pub place-fits : (n : ℕ) → from + count_trailing_zeros 32 n < 2 ^ 32
  place-fits n = let s = x.small in let t = trailing_le 32 n in omega arith

  pub next-is : (waiting : ℕ) → (waiting % 256 ≡ 0 → ⊥) → NextIs (waiting % 256) last ((from + count_trailing_zeros 32 (waiting % 256 * 257 / 2 ^ from)) % 8)
  next-is waiting n =
      let low = waiting % 256 in
      let b : low < 256 = omega arith in
      let l = last_served (handed 0 last) in
      let s = x.small in
      let f = x.is in
      let w : way_to_next (handed low last) ≡ suc (count_trailing_zeros 32 (low * 257 / 2 ^ suc l)) = way_is low l (omega arith) b (omega arith) in
      let t = count_trailing_zeros 32 (low * 257 / 2 ^ suc l) in
      record {
        found = omega arith;
        is =
            ap (λ (k : ℕ). (k + count_trailing_zeros 32 (low * 257 / 2 ^ k)) % 8) f ∙ ap (λ (k : ℕ). k % 8) (let z : suc l + t ≡ l + suc t = omega arith in z)
            ∙ ap (going_round l) (sym w);
      }

-- ---- a turn

-- two tests that agree
least-same : (f g : ℕ → Bool) (n i e : ℕ) → ((k : ℕ) → f k ≡ g k) → least_from f i n e ≡ least_from g i n e
least-same f g zero i e h = refl
least-same f g (suc n) i e h = go (f i) refl (least-same f g n (suc i) e h)
  where
    go : (b : Bool) → f i ≡ b → least_from f (suc i) n e ≡ least_from g (suc i) n e → least_from f i (suc n) e ≡ least_from g i (suc n) e
    go true q ih = let r = sym (h i) ∙ q in rw (q, r, least_from)
    go false q ih = let r = sym (h i) ∙ q in rw (q, r, least_from) ih

-- bits above 7 say nothing
way_low : (n last : ℕ) → way_to_next (handed (n % 256) last) ≡ way_to_next (handed n last)
way_low n last =
    let l = last_served (handed n last) in
    least-same (λ i. flag_at (n % 256) (going_round l i)) (λ i. flag_at n (going_round l i)) feeds 1 0 (λ i. low_flag 8 n (going_round l i) (omega arith))

none-waits : (last : ℕ) → way_to_next (handed 0 last) ≡ 0
none-waits last = go (least-is (λ i. flag_at 0 (going_round l i)) feeds 1 0)
  where
    l : ℕ
    l = last_served (handed 0 last)

    go : ((1 ≤ way_to_next (handed 0 last)) × (way_to_next (handed 0 last) < 1 + feeds) × T (flag_at 0 (going_round l (way_to_next (handed 0 last))))) ⊎ (way_to_next (handed 0 last) ≡ 0)
        → way_to_next (handed 0 last) ≡ 0
    go (inl r) = let g = going_round l (way_to_next (handed 0 last)) in absurd (T-to (flag_bit 0 g ∙ none-bit g) r.2)
    go (inr r) = r

-- A turn that finds somebody serves the feed that it finds.
pub turn-finds : (d : Dispatcher) (i : ℕ) → way_to_next d ≡ i → 1 ≤ i → turn d ≡ served d (going_round (last_served d) i)
turn-finds d zero e h = absurd (omega arith)
turn-finds d (suc i) e h = ap (turn_by d) e

pub turn-nobody : (waiting last : ℕ) → waiting % 256 ≡ 0 → TurnIs waiting last (record { served = 0; feed = 0; waiting = waiting; last = last })
turn-nobody waiting last e =
    let w : way_to_next (handed waiting last) ≡ 0 = sym (way_low waiting last) ∙ ap (λ (n : ℕ). way_to_next (handed n last)) e ∙ none-waits last in
    sym (ap (λ (i : ℕ). turn_answer (handed waiting last) (turn_by (handed waiting last) i)) w)

module _ (waiting last : ℕ) (o : Option ℕ) (found : MatchOption o (waiting % 256 ≡ 0) (NextIs (waiting % 256) last)) where
  pub turn-none : o ≡ None → TurnIs waiting last (record { served = 0; feed = 0; waiting = waiting; last = last })
  turn-none d = turn-nobody waiting last (MatchOption-at_none (waiting % 256 ≡ 0) (NextIs (waiting % 256) last) d found)

  module _ (feed : ℕ) (d : o ≡ Some feed) where
    x : NextIs (waiting % 256) last feed
    x = MatchOption-at_some (waiting % 256 ≡ 0) (NextIs (waiting % 256) last) feed d found

    way : way_to_next (handed (waiting % 256) last) ≡ way_to_next (handed waiting last)
    way = way_low waiting last

    finds : turn (handed waiting last) ≡ served (handed waiting last) feed
    finds =
        let f = x.found in
        let w = way in
        turn-finds (handed waiting last) (way_to_next (handed waiting last)) refl (omega arith)
        ∙ ap (served (handed waiting last)) (ap (going_round (last_served (handed waiting last))) (sym way) ∙ sym x.is)

    pub next_small : feed ≤ 7
    next_small = let e = x.is in omega arith

    waited : flag_at waiting feed ≡ true
    waited = go (least-is (λ i. flag_at waiting (going_round l i)) feeds 1 0)
      where
        l : ℕ
        l = last_served (handed waiting last)

        go : ((1 ≤ way_to_next (handed waiting last)) × (way_to_next (handed waiting last) < 1 + feeds) × T (flag_at waiting (going_round l (way_to_next (handed waiting last)))))
            ⊎ (way_to_next (handed waiting last) ≡ 0) → flag_at waiting feed ≡ true
        go (inl r) = ap (flag_at waiting) (x.is ∙ ap (going_round l) way) ∙ T_true _ r.2
        go (inr r) = let f = x.found in let w = way in absurd (omega arith)

    module _ (bit : ℕ) (is : bit ≡ 2 ^ feed) where
      pub turn-within : bit ≤ waiting
      turn-within = rw is (set-within waiting feed waited)

      pub turn-serves : TurnIs waiting last (record { served = 1; feed = feed; waiting = waiting - bit; last = feed })
      turn-serves = rw is (sym (ap (turn_answer (handed waiting last)) finds))
