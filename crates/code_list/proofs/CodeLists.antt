-- Codes and their sets, read as a loop reads them. On plain values. Assumes nothing.
use mathlib.Core.Path.{◌≡◌, refl, sym, ap, ap₂, ◌∙◌}
use mathlib.Core.Bool.{Bool, true, false, not, ◌||◌}
use mathlib.Core.List.{List, [], ◌∷◌, ◌++◌}
use Prim.Native.Nat.{ℕ, zero, suc, ◌+◌, ◌*◌, ◌/◌, ◌%◌, ◌^◌, ◌≤◌, ◌<◌}
use native.Mathlib.Omega.{arith}
use native.Mathlib.Numerals.{add-one}
use lib.Dec.{eqb, ltb, eqb→eq}
use lib.ListN.{length, get_or, take, drop, drop_of_length-le}
use lib.Seq.{drop-cons}
use borrow.Author.Tests.{lt-ltb, ltb-false}
use Rattle.std.specs.List.{list_any, range_with_len}
use Rattle.std.specs.declared.slice.ChunksExact.{ChunksExact}
use Rattle.std.specs.Slice.Iter.{chunks_exact_rest, chunks_exact_size}
use Rattle.std.proofs.lemmas.Bool.Decides.{nat_tests}
use Rattle.std.proofs.lemmas.List.{take_at, drop_at, length-append}
use Rattle.std.proofs.lemmas.List.Folds.{list_any-append}
use Rattle.model.specs.RuleText.{one_of, some_below}
use Rattle.model.specs.Codes.{codes_most, set_bytes, in_set, share, codes_of, named_twice, set_wrong, sets_wrong, codes_wrong}
use Rattle.model.proofs.Truth.{T-to, or_false_left, or_false_right}
use Rattle.model.proofs.CodeLaws.{holds_one, holds-code}

-- ---- `in_set`

pub in_set-is : (set : List ℕ) (x : ℕ) → x < 256 → eqb (get_or set (x / 8) 0 / 2 ^ (x % 8) % 2) 1 ≡ in_set set x
in_set-is set x l = rw (lt-ltb x 256 l)

-- ---- `has_byte`, `holds_code`: what `any` answers, in the model's words

some_list : (s : ℕ → Bool) (n : ℕ) → list_any s (range_with_len 0 n) ≡ some_below s n
some_list s zero = refl
some_list s (suc n) =
    ap (list_any s) (range-more n) ∙ list_any-append s (range_with_len 0 n) (n ∷ []) ∙ ap (λ (b : Bool). b || (s n || false)) (some_list s n)
    ∙ swap (s n) (some_below s n)
  where
    range-more : (n : ℕ) → range_with_len 0 (suc n) ≡ range_with_len 0 n ++ n ∷ []
    range-more n = go 0 n ∙ ap (λ (k : ℕ). range_with_len 0 n ++ k ∷ []) (omega arith)
      where
        go : (a n : ℕ) → range_with_len a (suc n) ≡ range_with_len a n ++ (a + n) ∷ []
        go a zero = ap (λ (k : ℕ). k ∷ []) (omega arith)
        go a (suc n) = ap (λ (l : List ℕ). a ∷ l) (go (a + 1) n) ∙ ap (λ (k : ℕ). a ∷ (range_with_len (a + 1) n ++ k ∷ [])) (omega arith)

    swap : (a b : Bool) → (b || (a || false)) ≡ (a || b)
    swap true true = refl
    swap true false = refl
    swap false true = refl
    swap false false = refl

pub some_any : (set : List ℕ) (n : ℕ) (r : Bool) → r ≡ list_any (in_set set) (range_with_len 0 n) → r ≡ some_below (in_set set) n
some_any set n r e = e ∙ some_list (in_set set) n

list-holds : (s : ℕ → Bool) (codes : List ℕ) → list_any s codes ≡ holds_one s codes
list-holds s [] = refl
list-holds s (c ∷ cs) = ap (λ (b : Bool). s c || b) (list-holds s cs)

pub share_any : (set codes : List ℕ) (r : Bool) → r ≡ list_any (in_set set) codes → r ≡ share (in_set set) (one_of codes)
share_any set codes r e = e ∙ list-holds (in_set set) codes ∙ sym (holds-code set codes)

-- ---- `named_twice`: what `contains` answers

eqb-sym : (a b : ℕ) → eqb a b ≡ eqb b a
eqb-sym a b = grind (arith, nat_tests)

one-any : (cs : List ℕ) (c : ℕ) → list_any (λ y. eqb y c) cs ≡ one_of cs c
one-any [] c = refl
one-any (m ∷ ms) c = ap₂ (λ (a b : Bool). a || b) (eqb-sym m c) (one-any ms c)

module _ (codes rest : List ℕ) (c : ℕ) (others : List ℕ) (q : rest ≡ c ∷ others) (g : named_twice rest ≡ named_twice codes)
    (b : Bool) (e : b ≡ list_any (λ y. eqb y c) others) where
  pub twice_here : b ≡ true → true ≡ named_twice codes
  twice_here t = sym (ap (λ (x : Bool). x || named_twice others) (sym (one-any others c) ∙ sym e ∙ t)) ∙ sym (ap named_twice q) ∙ g

  pub twice_later : b ≡ false → named_twice others ≡ named_twice codes
  twice_later f = sym (ap (λ (x : Bool). x || named_twice others) (sym (one-any others c) ∙ sym e ∙ f)) ∙ sym (ap named_twice q) ∙ g

-- ---- `sets_wrong`

-- so many sets are right, and the others are those of the codes that are left
pub record Judging (codes sets : List ℕ) (k : ℕ) (it : ChunksExact ℕ) : Type 0 where
  pub within : k ≤ length codes
  pub size : chunks_exact_size it ≡ set_bytes
  pub long : length (chunks_exact_rest it) + set_bytes * k ≡ set_bytes * length codes
  pub rest : sets_wrong codes (codes_of (drop k codes) (chunks_exact_rest it)) ≡ sets_wrong codes (codes_of codes sets)

-- the next set
module _ (codes sets : List ℕ) (k : ℕ) (it it' : ChunksExact ℕ) (set : List ℕ) (g : Judging codes sets k it)
    (z : chunks_exact_size it' ≡ chunks_exact_size it) (e : chunks_exact_rest it ≡ set ++ chunks_exact_rest it') (n : length set ≡ chunks_exact_size it) where
  left : length (chunks_exact_rest it) ≡ set_bytes + length (chunks_exact_rest it')
  left = ap length e ∙ length-append set (chunks_exact_rest it') ∙ ap (λ (m : ℕ). m + length (chunks_exact_rest it')) (n ∙ g.size)

  more : k < length codes
  more = omega (arith, g.long, left)

  sets-from : sets_wrong codes (codes_of (drop k codes) (chunks_exact_rest it)) ≡ (set_wrong codes set || sets_wrong codes (codes_of (drop (k + 1) codes) (chunks_exact_rest it')))
  sets-from =
      let m : length set ≡ set_bytes = n ∙ g.size in
      let first : take set_bytes (chunks_exact_rest it) ≡ set = ap (take set_bytes) e ∙ take_at set (chunks_exact_rest it') set_bytes m in
      let after : drop set_bytes (chunks_exact_rest it) ≡ chunks_exact_rest it' = ap (drop set_bytes) e ∙ drop_at set (chunks_exact_rest it') set_bytes m in
      ap (λ (l : List ℕ). sets_wrong codes (codes_of l (chunks_exact_rest it))) (drop-cons codes k 0 more)
      ∙ ap₂ (λ (s r : List ℕ). set_wrong codes s || sets_wrong codes (codes_of (drop (suc k) codes) r)) first after
      ∙ ap (λ (j : ℕ). set_wrong codes set || sets_wrong codes (codes_of (drop j codes) (chunks_exact_rest it'))) (sym (add-one k))

  module _ (b : Bool) (w : b ≡ set_wrong codes set) where
    pub set_faulty : b ≡ true → true ≡ sets_wrong codes (codes_of codes sets)
    set_faulty t = sym (ap (λ (x : Bool). x || sets_wrong codes (codes_of (drop (k + 1) codes) (chunks_exact_rest it'))) (sym w ∙ t)) ∙ sym sets-from ∙ g.rest

    pub set_right : b ≡ false → Judging codes sets (k + 1) it'
    set_right f = record {
      within = omega (arith, more);
      size = z ∙ g.size;
      long = omega (arith, g.long, left);
      rest = sym (sets-from ∙ ap (λ (x : Bool). x || sets_wrong codes (codes_of (drop (k + 1) codes) (chunks_exact_rest it'))) (sym w ∙ f)) ∙ g.rest;
    }

pub sets_over : (codes sets : List ℕ) (k : ℕ) (it : ChunksExact ℕ) → Judging codes sets k it → length (chunks_exact_rest it) < chunks_exact_size it → false ≡ sets_wrong codes (codes_of codes sets)
sets_over codes sets k it g l =
    let h : length codes ≤ k = omega (arith, g.long, g.size) in
    sym (ap (λ (l : List ℕ). sets_wrong codes (codes_of l (chunks_exact_rest it))) (drop_of_length-le codes {i = k} h)) ∙ g.rest

-- ---- codes that 15 does not refuse

module _ (codes sets : List ℕ) (fine : codes_wrong codes sets ≡ false) where
  abbrev lengths_wrong : Bool
  lengths_wrong = ltb codes_most (length codes) || not (eqb (length sets) (set_bytes * length codes))

  lengths_fine : lengths_wrong ≡ false
  lengths_fine =
      or_false_left lengths_wrong (named_twice codes)
      (or_false_left (lengths_wrong || named_twice codes) (sets_wrong codes (codes_of codes sets)) fine)

  pub sets-long : length sets ≡ set_bytes * length codes
  sets-long = eqb_false_not (length sets) (set_bytes * length codes) (or_false_right (ltb codes_most (length codes)) (not (eqb (length sets) (set_bytes * length codes))) lengths_fine)
    where
      eqb_false_not : (a b : ℕ) → not (eqb a b) ≡ false → a ≡ b
      eqb_false_not a b e = go (eqb a b) refl e
        where
          go : (x : Bool) → eqb a b ≡ x → not x ≡ false → a ≡ b
          go true q z = eqb→eq a b (T-to (sym q) tt)
          go false q z = absurd (T-to z tt)

  pub codes_few : length codes ≤ codes_most
  codes_few = ltb-false codes_most (length codes) (or_false_left (ltb codes_most (length codes)) (not (eqb (length sets) (set_bytes * length codes))) lengths_fine)

  pub named_once : named_twice codes ≡ false
  named_once = or_false_right lengths_wrong (named_twice codes) (or_false_left (lengths_wrong || named_twice codes) (sets_wrong codes (codes_of codes sets)) fine)

  pub sets_right : sets_wrong codes (codes_of codes sets) ≡ false
  sets_right = or_false_right (lengths_wrong || named_twice codes) (sets_wrong codes (codes_of codes sets)) fine
