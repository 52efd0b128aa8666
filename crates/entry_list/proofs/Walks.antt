-- Ends and marks that are walked back together. On plain values. Assumes nothing.
use mathlib.Core.Path.{◌≡◌, refl, sym, ap, ◌∙◌}
use mathlib.Core.List.{List}
use Prim.Native.Nat.{ℕ, max, zero, suc, ◌+◌, ◌-◌, ◌*◌, ◌^◌, ◌≤◌, ◌<◌}
use native.Mathlib.Omega.{arith}
use lib.ListN.{get_or}
use mir.Val.{Fits}
use mir.Syntax.{w32}
use Rattle.entry_list.specs.Marks.{mark_numbers, after_of, ahead_of, larger_of, marked_place, SkipIs, MarkFits}
use Rattle.entry_list.specs.Pairing.{uneven_place, PairIs, Paired, UnevenFits}
use Rattle.entry_list.proofs.Spread.{Spreading, stands, turn, over}
use Rattle.entry_list.proofs.MarkLaws.{larger-max, place_none, place-before, place-past}

-- ---- `skip_marks`

pub record Skipping (marks : List ℕ) (m q i : ℕ) : Type 0 where
  pub few : i ≤ m
  pub same : (x : ℕ) → x ≤ q → marked_place marks m x ≡ marked_place marks i x

module _ (marks : List ℕ) (m q : ℕ) where
  module _ (i : ℕ) (g : Skipping marks m q i) where
    pub skip_turn : 0 < i → (s : ℕ) → s ≡ get_or marks (mark_numbers * (i - 1)) 0 → q ≤ s → Skipping marks m q (i - 1)
    skip_turn h s e l =
        let k : suc (i - 1) ≡ i = omega arith in
        let f = g.few in
        record { few = omega arith; same = λ x a. g.same x a ∙ ap (λ (n : ℕ). marked_place marks n x) (sym k) ∙ place-before marks (i - 1) x (omega arith) }

-- ---- `marked_place`

module _ (marks : List ℕ) (m q : ℕ) (f : MarkFits marks m q) where
  pub place-alone : m ≡ 0 → q ≡ marked_place marks m q
  place-alone e = sym (ap (λ (n : ℕ). marked_place marks n q) e ∙ place_none marks q)

  module _ (some : m ≡ 0 → ⊥) (after ahead last : ℕ) (ea : after ≡ get_or marks (mark_numbers * (m - 1) + 1) 0) (eh : ahead ≡ get_or marks (mark_numbers * (m - 1) + 2) 0) (el : last ≡ max q after) where
    positive : 0 < m
    positive = pos m some
      where
        pos : (m : ℕ) → (m ≡ 0 → ⊥) → 0 < m
        pos zero f = absurd (f refl)
        pos (suc m) f = omega arith

    pub place-marked : last + ahead ≡ marked_place marks m q
    place-marked =
        let p = positive in
        let k : suc (m - 1) ≡ m = omega arith in
        let r : marked_place marks (suc (m - 1)) q ≡ larger_of q (after_of marks (m - 1)) + ahead_of marks (m - 1) = place-past marks (m - 1) q (f.starts (m - 1) k) in
        let m-is = larger-max q after in
        let e : larger_of q after ≡ larger_of q (after_of marks (m - 1)) = ap (larger_of q) ea in
        let z : marked_place marks (suc (m - 1)) q ≡ marked_place marks m q = ap (λ (n : ℕ). marked_place marks n q) k in
        omega arith

    pub place-fits : Fits w32 (last + ahead)
    place-fits = let s = f.small in omega (arith, place-marked)

-- ---- `pair_unevenly`

pub record Walking (at raw : ℕ) (marks : List ℕ) (count k : ℕ) (ends₀ : List ℕ) (j m : ℕ) (ends : List ℕ) : Type 0 where
  pub spread : Spreading (uneven_place at raw marks count) k ends₀ j ends
  pub few : m ≤ count
  pub same : (i : ℕ) → suc i ≡ j → (x : ℕ) → x ≤ get_or ends₀ i 0 - at → marked_place marks count x ≡ marked_place marks m x

module _ (at raw : ℕ) (marks : List ℕ) (count k : ℕ) (ends₀ : List ℕ) (f : UnevenFits at raw marks count k ends₀) where
  module _ (j m : ℕ) (ends : List ℕ) (w : Walking at raw marks count k ends₀ j m ends) where
    module _ (i : ℕ) (next : suc i ≡ j) where
      here : get_or ends i 0 ≡ get_or ends₀ i 0
      here = stands (uneven_place at raw marks count) k ends₀ j ends w.spread i (omega arith)

      inside : i < k
      inside = let a = w.spread.within in omega arith

      module _ (q : ℕ) (eq : q ≡ get_or ends i 0 - at) (r : ℕ) (s : SkipIs marks m q r) where
        -- by the marks that are left as by all of them
        by_all : (x : ℕ) → x ≤ q → marked_place marks count x ≡ marked_place marks r x
        by_all x h = w.same i next x (omega (arith, here)) ∙ s.same x h

        small : raw + marked_place marks r q < 2 ^ 32
        small =
            let a = f.small i inside in
            let z : get_or ends₀ i 0 - at ≡ q = omega (arith, here) in
            omega (arith, by_all q (omega arith), ap (marked_place marks count) z)

        module _ (p : ℕ) (ep : p ≡ marked_place marks r q) where
          pub walk_turn : (ends' : List ℕ) → PairIs i (get_or ends i 0) (raw + p) ends ends' → Walking at raw marks count k ends₀ i r ends'
          walk_turn ends' x =
              let a = w.few in
              let b = s.few in
              let z : get_or ends i 0 - at ≡ q = omega arith in
              let v : raw + p ≡ uneven_place at raw marks count (get_or ends i 0) = omega (arith, by_all q (omega arith), ap (marked_place marks count) z) in
              record {
                spread = turn (uneven_place at raw marks count) k ends₀ j ends w.spread i next (raw + p) v ends' x;
                few = omega arith;
                same = λ n e y h. let u = f.rise n (let c = inside in omega arith) in by_all y (omega (arith, here, ap (λ (t : ℕ). get_or ends₀ t 0) e));
              }

    pub walk_over : j ≤ 0 → Paired (uneven_place at raw marks count) k ends₀ ends
    walk_over z = over (uneven_place at raw marks count) k ends₀ j ends w.spread z
