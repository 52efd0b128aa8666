-- Ends that become pairs in place, from the last on. On plain values. Assumes nothing.
use mathlib.Core.Path.{◌≡◌, refl, sym, ap, subst, ◌∙◌}
use mathlib.Core.List.{List, [], ◌∷◌, ◌++◌, append_assoc}
use Prim.Native.Nat.{ℕ, suc, ◌+◌, ◌-◌, ◌*◌, ◌≤◌, ◌<◌}
use native.Mathlib.Omega.{arith}
use lib.ListN.{length, take, drop, get_or, set, length-append, take-append-drop, drop_of_length-le, get_or-append}
use lib.Seq.{sets-eq, length-take-le, get_or-take, take-suc, drop-cons, set_at}
use Rattle.model.specs.RawPlaces.{placed, pair_numbers, flat}
use Rattle.model.proofs.Places.{placed-length, flat-length}
use Rattle.entry_list.specs.Pairing.{even_place, PairIs, Paired, EvenFits}

pub pairs-length : (place : ℕ → ℕ) (es : List ℕ) → length (flat (placed place es)) ≡ length es * pair_numbers
pairs-length place es = omega (arith, flat-length (placed place es), placed-length place es)

pub before-next : (j : ℕ) → 0 < j → suc (j - 1) ≡ j
before-next j h = omega arith

-- ---- the loops: the first j numbers are ends still, the others are pairs

pub record Spreading (place : ℕ → ℕ) (k : ℕ) (ends₀ : List ℕ) (j : ℕ) (ends : List ℕ) : Type 0 where
  pub within : j ≤ k
  pub room : k * pair_numbers ≤ length ends₀
  pub long : length ends ≡ length ends₀
  pub is : ends ≡ take (j * pair_numbers) ends₀ ++ (flat (placed place (drop j (take k ends₀))) ++ drop (k * pair_numbers) ends₀)

module _ (place : ℕ → ℕ) (k : ℕ) (ends₀ : List ℕ) where
  pub begun : k * pair_numbers ≤ length ends₀ → Spreading place k ends₀ k ends₀
  begun h =
      let l : length (take k ends₀) ≡ k = length-take-le k ends₀ (omega arith) in
      let h₀ : length (take k ends₀) ≤ k = omega arith in
      let n : drop k (take k ends₀) ≡ [] = drop_of_length-le (take k ends₀) h₀ in
      record {
        within = omega arith;
        room = h;
        long = refl;
        is = sym (ap (λ (x : List ℕ). take (k * pair_numbers) ends₀ ++ (flat (placed place x) ++ drop (k * pair_numbers) ends₀)) n ∙ take-append-drop (k * pair_numbers) ends₀);
      }

  module _ (j : ℕ) (ends : List ℕ) (w : Spreading place k ends₀ j ends) where
    -- an end that is still to come stands where it was
    pub stands : (i : ℕ) → i < j → get_or ends i 0 ≡ get_or ends₀ i 0
    stands i h =
        let b = w.within in
        let r = w.room in
        let l : length (take (j * 2) ends₀) ≡ j * 2 = length-take-le (j * 2) ends₀ (omega arith) in
        ap (λ (x : List ℕ). get_or x i 0) w.is
        ∙ get_or-append (take (j * 2) ends₀) (flat (placed place (drop j (take k ends₀))) ++ drop (k * 2) ends₀) 0 i (omega arith)
        ∙ get_or-take (j * 2) ends₀ i 0 (omega arith)

  module _ (i : ℕ) (ends : List ℕ) (w : Spreading place k ends₀ (suc i) ends) where
    turned : (v : ℕ) → v ≡ place (get_or ends i 0) → (ends' : List ℕ) → PairIs i (get_or ends i 0) v ends ends' → Spreading place k ends₀ i ends'
    turned v q ends' p =
        let b = w.within in
        let r = w.room in
        let e : ℕ = get_or ends i 0 in
        let E : List ℕ = take k ends₀ in
        let R : List ℕ = flat (placed place (drop (suc i) E)) ++ drop (k * 2) ends₀ in
        let F : List ℕ = take (i * 2) ends₀ in
        let x : ℕ = get_or ends₀ (i * 2) 0 in
        let y : ℕ = get_or ends₀ (suc (i * 2)) 0 in
        let l_e : length E ≡ k = length-take-le k ends₀ (omega arith) in
        let l_f : length F ≡ i * 2 = length-take-le (i * 2) ends₀ (omega arith) in
        let l_g : length (F ++ (e ∷ [])) ≡ i * 2 + 1 = omega (arith, length-append F (e ∷ [])) in
        let two : suc i * 2 ≡ suc (suc (i * 2)) = omega arith in
        let t₁ : take (suc (i * 2)) ends₀ ≡ F ++ (x ∷ []) = take-suc ends₀ (i * 2) 0 (omega arith) in
        let t : take (suc i * 2) ends₀ ≡ F ++ (x ∷ y ∷ []) =
        ap (λ (n : ℕ). take n ends₀) two ∙ take-suc ends₀ (suc (i * 2)) 0 (omega arith) ∙ ap (λ (l : List ℕ). l ++ (y ∷ [])) t₁ ∙ append_assoc F (x ∷ []) (y ∷ []) in
        let a : ends ≡ F ++ (x ∷ y ∷ R) = w.is ∙ ap (λ (l : List ℕ). l ++ R) t ∙ append_assoc F (x ∷ y ∷ []) R in
        let s₁ : set ends (i * 2) e ≡ (F ++ (e ∷ [])) ++ (y ∷ R) = ap (λ (l : List ℕ). set l (i * 2) e) a ∙ set_at F x (y ∷ R) e (i * 2) l_f ∙ sym (append_assoc F (e ∷ []) (y ∷ R)) in
        let s₂ : ends' ≡ F ++ (e ∷ v ∷ R) =
        p.list ∙ ap (λ (l : List ℕ). set l (i * 2 + 1) v) s₁ ∙ set_at (F ++ (e ∷ [])) y R v (i * 2 + 1) l_g ∙ append_assoc F (e ∷ []) (v ∷ R) in
        let g : get_or E i 0 ≡ e = get_or-take k ends₀ i 0 (omega arith) ∙ sym (stands (suc i) ends w i (omega arith)) in
        let d : drop i E ≡ e ∷ drop (suc i) E = drop-cons E i 0 (omega arith) ∙ ap (λ (n : ℕ). n ∷ drop (suc i) E) g in
        record {
          within = omega arith;
          room = r;
          long = p.long ∙ w.long;
          is =
              s₂
              ∙ ap (λ (n : ℕ). F ++ (e ∷ n ∷ R)) q
              ∙ ap (λ (l : List ℕ). F ++ (flat (placed place l) ++ drop (k * 2) ends₀)) (sym d);
        }

  -- a turn: the last end that is still to come
  pub turn : (j : ℕ) (ends : List ℕ) → Spreading place k ends₀ j ends → (i : ℕ) → suc i ≡ j → (v : ℕ) → v ≡ place (get_or ends i 0) → (ends' : List ℕ) → PairIs i (get_or ends i 0) v ends ends'
      → Spreading place k ends₀ i ends'
  turn j ends w i is_last v q ends' p = turned i ends (subst (λ (n : ℕ). Spreading place k ends₀ n ends) (sym is_last) w) v q ends' p

  pub over : (j : ℕ) (ends : List ℕ) → Spreading place k ends₀ j ends → j ≤ 0 → Paired place k ends₀ ends
  over j ends w z =
      let r = w.room in
      let E : List ℕ = take k ends₀ in
      let l : length E ≡ k = length-take-le k ends₀ (omega arith) in
      let f : List ℕ = flat (placed place E) in
      let n : k * 2 ≡ 0 + length f = omega (arith, pairs-length place E) in
      let o : j ≡ 0 = omega arith in
      let i : ends ≡ f ++ drop (k * 2) ends₀ = w.is ∙ ap (λ (x : ℕ). take (x * 2) ends₀ ++ (flat (placed place (drop x E)) ++ drop (k * 2) ends₀)) o in
      record { list = i ∙ ap (λ (x : ℕ). f ++ drop x ends₀) n ∙ sym (sets-eq f ends₀ 0 (omega arith)); long = w.long }

-- ---- `pair_evenly`

module _ (at raw k : ℕ) (ends₀ : List ℕ) where
  pub even-begun : EvenFits at raw k ends₀ → Spreading (even_place at raw) k ends₀ k ends₀
  even-begun f = begun (even_place at raw) k ends₀ f.room

  module _ (j : ℕ) (ends : List ℕ) (w : Spreading (even_place at raw) k ends₀ j ends) where
    pub even-turn : (i : ℕ) → suc i ≡ j → (v : ℕ) → v ≡ even_place at raw (get_or ends i 0) → (ends' : List ℕ) → PairIs i (get_or ends i 0) v ends ends' → Spreading (even_place at raw) k ends₀ i ends'
    even-turn = turn (even_place at raw) k ends₀ j ends w

    pub even-over : j ≤ 0 → Paired (even_place at raw) k ends₀ ends
    even-over = over (even_place at raw) k ends₀ j ends w
