-- A plan's part read back after it was written. On plain values. Assumes nothing.
use mathlib.Core.Path.{◌≡◌, refl, sym, ap, ap₂, ◌∙◌}
use mathlib.Core.Bool.{true}
use mathlib.Core.List.{List, [], ◌∷◌, ◌++◌}
use Prim.Native.Nat.{ℕ, zero, suc, ◌+◌, ◌*◌, ◌/◌, ◌%◌, ◌^◌, ◌≤◌, ◌<◌}
use native.Mathlib.Omega.{arith}
use lib.ListN.{length, take, drop, get_or, length-append}
use lib.Pow.{shr-shr}
use lib.Seq.{take-suc, take-length, get_or-drop, drop-drop}
use borrow.Author.Tests.{le-leb}
use Rattle.model.specs.NumberedAnswers.{text_limit}
use Rattle.model.specs.References.{form_limit, held_most, held_tail}
use Rattle.model.proofs.Cuts.{held_grows}
use Rattle.plan_part.specs.PlanPart.{plan_length, held_at, held_words, finished_of, raw_of, decoded_of, held_count_of, held_byte_of, first_held_of, held_bytes_of, is_tail, possible_plan, word_of, words_of, plan_fields}
use Rattle.plan_part.proofs.Fields.{words_long}

-- ---- words and their bytes

word-take : (n : ℕ) (cs : List ℕ) → word_of (take (suc n) cs) ≡ get_or cs 0 0 + 256 * word_of (take n (drop 1 cs))
word-take zero [] = refl
word-take (suc n) [] = refl
word-take n (c ∷ cs) = refl

-- byte i, the lowest being 0, of the word that bytes make
word_byte : (i n : ℕ) (cs : List ℕ) → i < n → ((k : ℕ) → get_or cs k 0 < 256) → word_of (take n cs) / 2 ^ (8 * i) % 256 ≡ get_or cs i 0
word_byte i zero cs l b = absurd (omega arith)
word_byte zero (suc n) cs l b = omega (arith, word-take n cs, b 0)
word_byte (suc i) (suc n) cs l b =
    let w = word_of (take n (drop 1 cs)) in
    let q : word_of (take (suc n) cs) / 2 ^ 8 ≡ w = omega (arith, word-take n cs, b 0) in
    let m : 8 * suc i ≡ 8 + 8 * i = omega arith in
    let j : 1 + i ≡ suc i = omega arith in
    ap (λ (k : ℕ). word_of (take (suc n) cs) / 2 ^ k % 256) m
    ∙ ap (λ (x : ℕ). x % 256) (sym (shr-shr (word_of (take (suc n) cs)) 8 (8 * i)) ∙ ap (λ (x : ℕ). x / 2 ^ (8 * i)) q)
    ∙ word_byte i n (drop 1 cs) (omega arith) (λ k. rw (get_or-drop 1 cs k 0) (b (1 + k)))
    ∙ get_or-drop 1 cs i 0
    ∙ ap (λ (k : ℕ). get_or cs k 0) j

words-at : (n k : ℕ) (cs : List ℕ) → k < n → get_or (words_of n cs) k 0 ≡ word_of (take 8 (drop (8 * k) cs))
unfolding words_of
words-at zero k cs l = absurd (omega arith)
words-at (suc n) zero cs l = refl
words-at (suc n) (suc k) cs l =
    let m : 8 + 8 * k ≡ 8 * suc k = omega arith in
    words-at n k (drop 8 cs) (omega arith) ∙ ap (λ (t : List ℕ). word_of (take 8 t)) (drop-drop (8 * k) 8 cs ∙ ap (λ (i : ℕ). drop i cs) m)

-- there are as many held bytes as the count says
first-long : (p : List ℕ) (n : ℕ) → length (first_held_of p n) ≡ n
first-long p zero = refl
first-long p (suc n) = omega (arith, first-long p n, length-append (first_held_of p n) (held_byte_of p n ∷ []))

pub held-count : (p : List ℕ) → length (held_bytes_of p) ≡ held_count_of p
held-count p = first-long p (held_count_of p)

first-is : (p cs : List ℕ) (n : ℕ) → n ≤ length cs → ((j : ℕ) → j < n → held_byte_of p j ≡ get_or cs j 0) → first_held_of p n ≡ take n cs
first-is p cs zero l e = refl
first-is p cs (suc n) l e =
    ap₂ (λ (t : List ℕ) (c : ℕ). t ++ (c ∷ [])) (first-is p cs n (omega arith) (λ j h. e j (omega arith))) (e n (omega arith)) ∙ sym (take-suc cs n 0 (omega arith))

tail-is : (h : List ℕ) → held_tail form_limit h ≡ h → is_tail h ≡ true
unfolding is_tail
tail-is [] e = refl
tail-is (c ∷ h) e = held_grows form_limit c h e

module _ (f r c : ℕ) (h : List ℕ) where
  pub fields_long : length (plan_fields f r c h) ≡ plan_length
  unfolding plan_fields
  fields_long = omega (arith, words_long held_words h)

  pub fields_finished : finished_of (plan_fields f r c h) ≡ f
  unfolding plan_fields
  fields_finished = refl

  pub fields_raw : raw_of (plan_fields f r c h) ≡ r
  unfolding plan_fields
  fields_raw = refl

  pub fields_decoded : decoded_of (plan_fields f r c h) ≡ c
  unfolding plan_fields
  fields_decoded = refl

  fields_count : held_count_of (plan_fields f r c h) ≡ length h
  unfolding plan_fields
  fields_count = refl

  field_word : (k : ℕ) → get_or (plan_fields f r c h) (held_at + k) 0 ≡ get_or (words_of held_words h) k 0
  unfolding plan_fields
  field_word k = let e : held_at + k ≡ suc (suc (suc (suc k))) = omega arith in ap (λ (i : ℕ). get_or (f ∷ r ∷ c ∷ length h ∷ words_of held_words h) i 0) e

  module _ (few : length h ≤ held_most form_limit) (b : (i : ℕ) → get_or h i 0 < 256) where
    field_byte : (j : ℕ) → j < length h → held_byte_of (plan_fields f r c h) j ≡ get_or h j 0
    field_byte j l =
        let m : 8 * (j / 8) + j % 8 ≡ j = omega arith in
        let d = drop (8 * (j / 8)) h in
        ap (λ (w : ℕ). w / 2 ^ (8 * (j % 8)) % 256) (field_word (j / 8) ∙ words-at held_words (j / 8) h (omega arith))
        ∙ word_byte (j % 8) 8 d (omega arith) (λ k. rw (get_or-drop (8 * (j / 8)) h k 0) (b (8 * (j / 8) + k)))
        ∙ get_or-drop (8 * (j / 8)) h (j % 8) 0
        ∙ ap (λ (i : ℕ). get_or h i 0) m

    pub fields_held : held_bytes_of (plan_fields f r c h) ≡ h
    fields_held =
        ap (first_held_of (plan_fields f r c h)) fields_count ∙ first-is (plan_fields f r c h) h (length h) (omega arith) field_byte ∙ take-length h

    -- A part so written is possible again.
    pub fields_possible : held_tail form_limit h ≡ h → f ≤ 1 → r ≤ text_limit → c + length h ≤ r → possible_plan (plan_fields f r c h) ≡ true
    unfolding possible_plan
    fields_possible t one raw sum =
        let p = plan_fields f r c h in
        let tail : is_tail (held_bytes_of p) ≡ true = ap is_tail fields_held ∙ tail-is h t in
        let n = fields_count in
        simp (le-leb (finished_of p) 1 (omega (arith, fields_finished)), le-leb (raw_of p) text_limit (omega (arith, fields_raw)), le-leb (decoded_of p) text_limit (omega (arith, fields_decoded)), le-leb (held_count_of p) (held_most form_limit) (omega arith), le-leb (decoded_of p + held_count_of p) (raw_of p) (omega (arith, fields_raw, fields_decoded)), tail)
