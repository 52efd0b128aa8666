-- What is loaded from a plan's part, and what is stored in one. On plain values. Assumes nothing.
use mathlib.Core.Path.{◌≡◌, refl, sym, ap, ap₂, subst, ◌∙◌}
use mathlib.Core.List.{List, [], ◌∷◌, ◌++◌, append-nil}
use Prim.Native.Nat.{ℕ, zero, suc, ◌+◌, ◌-◌, ◌*◌, ◌≤◌, ◌<◌}
use native.Mathlib.Numerals.{add-one}
use native.Mathlib.Omega.{arith}
use lib.ListN.{length, take, drop, get_or, set, length-set, drop_of_length-le, get_or-eq_default}
use lib.Seq.{sets, sets-eq, length-sets, take-suc-set, get_or-drop, get_or-take, drop-drop, length-take-le}
use Rattle.model.specs.References.{form_limit, held_most}
use Rattle.piece_decoder.specs.declared.held.Held.{Held}
use Rattle.piece_decoder.specs.Held.{held_of}
use Rattle.plan_part.specs.PlanPart.{plan_length, held_at, held_words, held_count_of, held_byte_of, first_held_of, BytePlace, LoadFine, LoadIs, HeldFits, Widened, HeldByteIs, PackFine, Packed, word_of, words_of, plan_fields}

-- ---- `load`

pub record Loading (s t : List ℕ) (n j : ℕ) : Type 0 where
  pub long : length t ≡ form_limit
  pub few : j ≤ n
  pub is : take j t ≡ first_held_of s j

module _ (s : List ℕ) where
  pub loading : (t : List ℕ) (n : ℕ) → length t ≡ form_limit → Loading s t n 0
  loading t n l = record { long = l; few = omega arith; is = refl }

  module _ {t : List ℕ} {n j : ℕ} (g : Loading s t n j) (f : LoadFine s) (k : n ≤ held_most form_limit) (h : j < n) where
    pub byte-place : BytePlace s j
    byte-place = record { long = f.long; few = omega arith }

    pub load_turn : {c : ℕ} → c ≡ held_byte_of s j → Loading s (set t j c) n (j + 1)
    load_turn {c} e =
        let l = g.long in
        let a : take (suc j) (set t j c) ≡ take j t ++ (c ∷ []) = take-suc-set t j c (omega arith) in
        record {
          long = length-set t j c ∙ l;
          few = omega arith;
          is = rw (add-one j) (a ∙ ap₂ (λ (l : List ℕ) (d : ℕ). l ++ (d ∷ [])) g.is e);
        }

  pub loaded : {t : List ℕ} {j : ℕ} → Loading s t (held_count_of s) j → LoadFine s → held_count_of s ≤ j → LoadIs s (record { bytes = t; len = held_count_of s })
  loaded {t} {j} g fine h =
      let few = fine.few in
      let f = g.few in
      let e : j ≡ held_count_of s = omega arith in
      record { is = subst (λ (n : ℕ). take n t ≡ first_held_of s n) e g.is; size = refl; few = few; long = g.long }

-- ---- `held_byte`, `pack_four`, `pack_eight`

module _ (h : Held) (f : HeldFits h) (j : ℕ) where
  held-long : length (held_of h) ≡ h.len
  held-long = length-take-le h.len h.bytes (omega (arith, f.long, f.few))

  pub byte_in : {r : ℕ} → j < h.len → Widened (get_or h.bytes j 0) r → HeldByteIs h j r
  byte_in l w = record { is = w.is ∙ sym (get_or-take h.len h.bytes j 0 l); small = w.small }

  pub byte_past : h.len ≤ j → HeldByteIs h j 0
  byte_past l = record { is = sym (get_or-eq_default (held_of h) 0 (omega (arith, held-long))); small = omega arith }

  pub packed_none : h.len ≤ j → Packed h j 8 0
  packed_none l =
      let n : length (held_of h) ≤ j = omega (arith, held-long) in
      record { is = sym (ap (λ (t : List ℕ). word_of (take 8 t)) (drop_of_length-le (held_of h) n)); small = omega arith }

-- the numbers that the first four bytes, and the first eight, are
word_four : (cs : List ℕ) → get_or cs 0 0 + 256 * get_or cs 1 0 + 65536 * get_or cs 2 0 + 16777216 * get_or cs 3 0 ≡ word_of (take 4 cs)
word_four [] = refl
word_four (a ∷ []) = omega arith
word_four (a ∷ b ∷ []) = omega arith
word_four (a ∷ b ∷ c ∷ []) = omega arith
word_four (a ∷ b ∷ c ∷ d ∷ cs) = omega arith

word_eight : (cs : List ℕ) → word_of (take 4 cs) + 4294967296 * word_of (take 4 (drop 4 cs)) ≡ word_of (take 8 cs)
word_eight [] = refl
word_eight (a ∷ []) = omega arith
word_eight (a ∷ b ∷ []) = omega arith
word_eight (a ∷ b ∷ c ∷ []) = omega arith
word_eight (a ∷ b ∷ c ∷ d ∷ cs) = omega arith

module _ (h : Held) (j : ℕ) where
  pub packed_four : {a b c d : ℕ} → HeldByteIs h j a → HeldByteIs h (j + 1) b → HeldByteIs h (j + 2) c → HeldByteIs h (j + 3) d
      → Packed h j 4 (a + 256 * b + 65536 * c + 16777216 * d)
  packed_four x y z u =
      let hs = held_of h in
      let o : j + 0 ≡ j = omega arith in
      let e : get_or (drop j hs) 0 0 ≡ get_or hs j 0 = get_or-drop j hs 0 0 ∙ ap (λ (i : ℕ). get_or hs i 0) o in
      record {
        is = omega (arith, x.is, y.is, z.is, u.is, e, get_or-drop j hs 1 0, get_or-drop j hs 2 0, get_or-drop j hs 3 0, word_four (drop j hs));
        small = omega (arith, x.small, y.small, z.small, u.small);
      }

  pub packed_eight : {low high : ℕ} → Packed h j 4 low → Packed h (j + 4) 4 high → Packed h j 8 (low + 4294967296 * high)
  packed_eight x y =
      let hs = held_of h in
      let e : word_of (take 4 (drop 4 (drop j hs))) ≡ word_of (take 4 (drop (j + 4) hs)) = ap (λ (t : List ℕ). word_of (take 4 t)) (drop-drop 4 j hs) in
      record { is = omega (arith, x.is, y.is, e, word_eight (drop j hs)); small = omega (arith, x.small, y.small) }

-- ---- `store_held`, `put`

pub record Storing (s₀ : List ℕ) (h : Held) (s : List ℕ) (k : ℕ) : Type 0 where
  pub few : k ≤ held_words
  pub long : length s ≡ length s₀
  pub list : sets s (held_at + k) (words_of (held_words - k) (drop (8 * k) (held_of h))) ≡ sets s₀ held_at (words_of held_words (held_of h))

module _ (s₀ : List ℕ) (h : Held) where
  pub storing : Storing s₀ h s₀ 0
  storing = record { few = omega arith; long = refl; list = refl }

  module _ {s : List ℕ} {k : ℕ} (g : Storing s₀ h s k) where
    pub pack_fine : HeldFits h → k < held_words → PackFine h (8 * k) 8
    pack_fine f l = record { fits = f; within = omega arith }

    pub store_turn : {w : ℕ} → k < held_words → Packed h (8 * k) 8 w → Storing s₀ h (set s (held_at + k) w) (k + 1)
    unfolding words_of
    store_turn {w} l x =
        let hs = held_of h in
        let n : held_words - k ≡ suc (held_words - (k + 1)) = omega arith in
        let p : suc (held_at + k) ≡ held_at + (k + 1) = omega arith in
        let m : 8 * k + 8 ≡ 8 * (k + 1) = omega arith in
        let q : words_of (held_words - k) (drop (8 * k) hs) ≡ w ∷ words_of (held_words - (k + 1)) (drop (8 * (k + 1)) hs) =
        ap (λ (i : ℕ). words_of i (drop (8 * k) hs)) n
        ∙ ap₂ (λ (c : ℕ) (t : List ℕ). c ∷ words_of (held_words - (k + 1)) t) (sym x.is) (drop-drop 8 (8 * k) hs ∙ ap (λ (i : ℕ). drop i hs) m) in
        record {
          few = omega arith;
          long = length-set s (held_at + k) w ∙ g.long;
          list = ap (λ (i : ℕ). sets (set s (held_at + k) w) i (words_of (held_words - (k + 1)) (drop (8 * (k + 1)) hs))) (sym p) ∙ sym (ap (sets s (held_at + k)) q) ∙ g.list;
        }

    pub stored : held_words ≤ k → s ≡ sets s₀ held_at (words_of held_words (held_of h))
    unfolding words_of
    stored l =
        let f = g.few in
        let n : held_words - k ≡ 0 = omega arith in
        sym (ap (λ (i : ℕ). sets s (held_at + k) (words_of i (drop (8 * k) (held_of h)))) n) ∙ g.list

pub words_long : (n : ℕ) (h : List ℕ) → length (words_of n h) ≡ n
unfolding words_of
words_long zero h = refl
words_long (suc n) h = ap suc (words_long n (drop 8 h))

pub put_all : (p : List ℕ) (f r c : ℕ) (h : Held) → length p ≡ plan_length → HeldFits h → (p' : List ℕ)
    → p' ≡ sets (set (set (set (set p 0 f) 1 r) 2 c) 3 h.len) held_at (words_of held_words (held_of h))
    → p' ≡ plan_fields f r c (held_of h)
unfolding plan_fields
put_all p f r c h long z p' e =
    let l : length (held_of h) ≡ h.len = length-take-le h.len h.bytes (omega (arith, z.long, z.few)) in
    let vs : List ℕ = f ∷ r ∷ c ∷ h.len ∷ words_of held_words (held_of h) in
    let n : length vs ≡ plan_length = omega (arith, words_long held_words (held_of h)) in
    let full : length p ≤ 0 + length vs = omega arith in
    e
    ∙ sets-eq vs p 0 (omega arith)
    ∙ ap (λ (x : List ℕ). vs ++ x) (drop_of_length-le p full)
    ∙ append-nil vs
    ∙ ap (λ (i : ℕ). f ∷ r ∷ c ∷ i ∷ words_of held_words (held_of h)) (sym l)

pub put_long : (p : List ℕ) (f r c n : ℕ) (vs p' : List ℕ) → p' ≡ sets (set (set (set (set p 0 f) 1 r) 2 c) 3 n) held_at vs → length p' ≡ length p
put_long p f r c n vs p' e =
    ap length e
    ∙ length-sets (set (set (set (set p 0 f) 1 r) 2 c) 3 n) held_at vs
    ∙ length-set (set (set (set p 0 f) 1 r) 2 c) 3 n
    ∙ length-set (set (set p 0 f) 1 r) 2 c
    ∙ length-set (set p 0 f) 1 r
    ∙ length-set p 0 f
