-- Blocks of 32 bytes: read, mixed, written. Assumes nothing.
use mathlib.Core.Path.{◌≡◌, sym, ap, ◌∙◌}
use mathlib.Core.List.{List, [], ◌∷◌, ◌++◌}
use Prim.Native.Nat.{ℕ, ◌+◌, ◌-◌, ◌≤◌, ◌<◌}
use native.Mathlib.Numerals.{add-one}
use native.Mathlib.Omega.{arith}
use lib.ListN.{length, take, drop, get_or, set, length-set, length-append, length-drop, get_or-append}
use lib.Seq.{sets, take-suc-set, take-suc, take-take, get_or-drop, get_or-take, get_or-append-add, length-take-le}
use Rattle.model.proofs.LentLists.{sets-kept}

-- ---- `load_block`, `blend`

-- a block so far: j bytes of a text
pub record Filling (text block : List ℕ) (j : ℕ) : Type 0 where
  pub few : j ≤ 32
  pub long : length block ≡ 32
  pub is : take j block ≡ take j text

fill_on : (text block : List ℕ) (j v : ℕ) → Filling text block j → j < 32 → 32 ≤ length text → v ≡ get_or text j 0 → Filling text (set block j v) (j + 1)
fill_on text block j v g h l e =
    let k = g.long in
    record {
      few = omega arith;
      long = length-set block j v ∙ k;
      is =
          rw (add-one j)
          (take-suc-set block j v (omega arith)
          ∙ ap (λ (l : List ℕ). l ++ (v ∷ [])) g.is
          ∙ ap (λ (c : ℕ). take j text ++ (c ∷ [])) e
          ∙ sym (take-suc text j 0 (omega arith)));
    }

module _ (x y : List ℕ) (n : ℕ) (p : length x ≡ 32) (q : length y ≡ 32) (h : n ≤ 32) where
  mix_long : length (take n x ++ drop n y) ≡ 32
  mix_long = omega (arith, length-append (take n x) (drop n y), length-take-le n x (omega arith), length-drop n y)

  module _ {block : List ℕ} {j : ℕ} (g : Filling (take n x ++ drop n y) block j) (l : j < 32) where
    pub mix_new : j < n → (k : ℕ) → k ≡ j → Filling (take n x ++ drop n y) (set block k (get_or x k 0)) (j + 1)
    mix_new m k e =
        rw e
        (fill_on (take n x ++ drop n y) block j (get_or x j 0) g l (omega (arith, mix_long))
        (sym (get_or-append (take n x) (drop n y) 0 j (omega (arith, length-take-le n x (omega arith))) ∙ get_or-take n x j 0 m)))

    pub mix_old : n ≤ j → (k : ℕ) → k ≡ j → Filling (take n x ++ drop n y) (set block k (get_or y k 0)) (j + 1)
    mix_old m k e =
        let t : length (take n x) ≡ n = length-take-le n x (omega arith) in
        let u : length (take n x) + (j - n) ≡ j = omega arith in
        let v : n + (j - n) ≡ j = omega arith in
        rw e
        (fill_on (take n x ++ drop n y) block j (get_or y j 0) g l (omega (arith, mix_long))
        (sym
        (ap (λ (k : ℕ). get_or (take n x ++ drop n y) k 0) (sym u)
        ∙ get_or-append-add (take n x) (drop n y) (j - n) 0
        ∙ get_or-drop n y (j - n) 0
        ∙ ap (λ (k : ℕ). get_or y k 0) v)))

-- ---- `store_block`, `copy_part`

pub record Putting (block : List ℕ) (i : ℕ) (out₀ out : List ℕ) (j : ℕ) : Type 0 where
  pub few : j ≤ 32
  pub long : length out ≡ length out₀
  pub list : sets out (i + j) (drop j block) ≡ sets out₀ i block

module _ (raw out : List ℕ) (i : ℕ) where
  -- the bytes past the part are written with what stands there
  pub part-copied : (n k : ℕ) → n ≤ 32 → k ≡ n → i + 32 ≤ length raw → i + 32 ≤ length out
      → (new old : List ℕ) → new ≡ take 32 (drop i raw) → old ≡ take 32 (drop i out) → (block : List ℕ) → block ≡ take k new ++ drop k old
      → (out' : List ℕ) → out' ≡ sets out i block → out' ≡ sets out i (take n (drop i raw))
  part-copied n k h e l l' new old x y block m out' p =
      let part = take n (drop i raw) in
      let t : length part ≡ n = length-take-le n (drop i raw) (omega (arith, length-drop i raw)) in
      let f : block ≡ part ++ drop (length part) (take 32 (drop i out)) =
      (rw (e, x, y, take-take n 32 (drop i raw) h) at m) ∙ ap (λ (k : ℕ). part ++ drop k (take 32 (drop i out))) (sym t) in
      p ∙ ap (sets out i) f ∙ sets-kept out i 32 part l' (omega arith)
