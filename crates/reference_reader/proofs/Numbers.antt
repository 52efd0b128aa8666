-- The laws of the reader's parts: fixed forms, digits, code points, a number's digits up to its `;`. On plain values. Assumes nothing.
use mathlib.Core.Path.{◌≡◌, refl, sym, ap, subst, ◌∙◌}
use mathlib.Core.Bool.{Bool, true, false, not, cond, ◌&&◌}
use mathlib.Core.List.{List, [], ◌∷◌}
use Prim.Native.Nat.{ℕ, suc, ◌+◌, ◌-◌, ◌*◌, ◌≤◌, ◌<◌}
use native.Mathlib.Numerals.{add-one}
use native.Mathlib.Omega.{arith}
use native.Mathlib.Decide.{dec_le}
use lib.Dec.{leb, eqb}
use lib.ListN.{length, drop, get_or, drop_of_length-le, get_or-eq_default}
use lib.Seq.{drop-cons}
use borrow.Author.Tests.{eq-eqb, ne_eqb, lt-ltb, le-ltb, le-leb, lt-leb, not-false}
use Rattle.model.specs.Occurrence.{all}
use Rattle.model.specs.References.{form_limit, is_hexadecimal, digit_value, none, found, number_from, begins_with, is_char, replacement, decodes_to, legal, shorter_of, lacking}
use Rattle.model.specs.RuleText.{is_decimal}
use Rattle.model.proofs.Truth.{branch}
use Rattle.model.proofs.Forms.{number_true, number_false, found_number}
use Rattle.reference_reader.specs.declared.Reference.TheVariants.{Decoded, Literal, Incomplete}
use Rattle.reference_reader.specs.declared.NameMatch.TheVariants.{Whole, Prefix, Different}
use Rattle.reference_reader.specs.Reader.{code_limit, MatchIs, ok_of, base_of, DigitIs, capped, Saturated, number_reading}

-- `byte_or_zero` past the end
pub past : (s : List ℕ) (i : ℕ) → length s ≤ i → 0 ≡ get_or s i 0
past s i h = sym (get_or-eq_default s 0 h)

-- ---- `match_name`

and_no : (b : Bool) → (b && false) ≡ false
and_no true = refl
and_no false = refl

pub record Matching (name s : List ℕ) (i : ℕ) : Type 0 where
  pub within_name : i ≤ length name
  pub within_s : i ≤ length s
  pub begins : begins_with (drop i name) (drop i s) ≡ begins_with name s
  pub shorter : shorter_of (drop i s) (drop i name) ≡ shorter_of s name

module _ (name s : List ℕ) where
  pub matching : Matching name s 0
  matching = record { within_name = omega arith; within_s = omega arith; begins = refl; shorter = refl }

  module _ {i : ℕ} (g : Matching name s i) where
    -- the bytes end within the name
    pub matched_short : i < length name → i ≡ length s → MatchIs name s Prefix
    matched_short h e =
        let m : length s ≤ i = omega arith in
        let n : drop i s ≡ [] = drop_of_length-le s m in
        record { is = sym g.shorter ∙ ap (λ (l : List ℕ). shorter_of l (drop i name)) n ∙ ap (shorter_of []) (drop-cons name i 0 h) }

    one-begins : i < length name → i < length s → (eqb (get_or name i 0) (get_or s i 0) && begins_with (drop (suc i) name) (drop (suc i) s)) ≡ begins_with name s
    one-begins h k = sym (ap (λ (l : List ℕ). begins_with l (get_or s i 0 ∷ drop (suc i) s)) (drop-cons name i 0 h)) ∙ sym (ap (begins_with (drop i name)) (drop-cons s i 0 k)) ∙ g.begins

    one_shorter : i < length name → i < length s → (eqb (get_or s i 0) (get_or name i 0) && shorter_of (drop (suc i) s) (drop (suc i) name)) ≡ shorter_of s name
    one_shorter h k = sym (ap (λ (l : List ℕ). shorter_of l (get_or name i 0 ∷ drop (suc i) name)) (drop-cons s i 0 k)) ∙ sym (ap (shorter_of (drop i s)) (drop-cons name i 0 h)) ∙ g.shorter

    module _ (h : i < length name) (k : i ≡ length s → ⊥) where
      l : i < length s
      l = let w = g.within_s in omega arith

      pub matched_differs : (get_or name i 0 ≡ get_or s i 0 → ⊥) → MatchIs name s Different
      matched_differs d =
          record { is = (sym (one-begins h l) ∙ rw (ne_eqb _ _ d), sym (one_shorter h l) ∙ rw (ne_eqb (get_or s i 0) (get_or name i 0) (λ e. d (sym e)))) }

      pub matched_same : get_or name i 0 ≡ get_or s i 0 → Matching name s (i + 1)
      matched_same e =
          let b : begins_with (drop (suc i) name) (drop (suc i) s) ≡ begins_with name s =
          sym (ap (λ (t : Bool). t && begins_with (drop (suc i) name) (drop (suc i) s)) (eq-eqb _ _ e)) ∙ one-begins h l in
          let m : shorter_of (drop (suc i) s) (drop (suc i) name) ≡ shorter_of s name =
          sym (ap (λ (t : Bool). t && shorter_of (drop (suc i) s) (drop (suc i) name)) (eq-eqb (get_or s i 0) (get_or name i 0) (sym e))) ∙ one_shorter h l in
          record { within_name = omega arith; within_s = omega (arith, l); begins = rw add-one b; shorter = rw add-one m }

    pub matched_whole : length name ≤ i → MatchIs name s Whole
    matched_whole h = record { is = sym g.begins ∙ ap (λ (l : List ℕ). begins_with l (drop i s)) (drop_of_length-le name h) }

-- ---- `digit`

module _ (c : ℕ) where
  -- the tests of the two sets, by where c lies
  decimal-low : c < 48 → is_decimal c ≡ false
  decimal-low h = rw (lt-leb 48 c h)

  decimal_in : 48 ≤ c → c ≤ 57 → is_decimal c ≡ true
  decimal_in h k = rw (le-leb 48 c h, le-leb c 57 k)

  decimal-high : 57 < c → is_decimal c ≡ false
  decimal-high k = rw (lt-leb c 57 k) (and_no (leb 48 c))

  hex_not : is_decimal c ≡ false → (leb 65 c && leb c 70) ≡ false → (leb 97 c && leb c 102) ≡ false → is_hexadecimal c ≡ false
  hex_not a b d = rw (a, b, d)

  between : (lo hi : ℕ) → (c < lo) → (leb lo c && leb c hi) ≡ false
  between lo hi h = rw (lt-leb lo c h)

  beyond : (lo hi : ℕ) → hi < c → (leb lo c && leb c hi) ≡ false
  beyond lo hi h = rw (lt-leb c hi h) (and_no (leb lo c))

  no_digit : (hex : Bool) → ok_of hex c ≡ false → DigitIs hex c 16
  no_digit hex e = record { small = omega arith; says = e; value = λ z. absurd (omega arith) }

  pub digit_low : (hex : Bool) → c < 48 → DigitIs hex c 16
  digit_low true h = no_digit true (hex_not (decimal-low h) (between 65 70 (omega arith)) (between 97 102 (omega arith)))
  digit_low false h = no_digit false (decimal-low h)

  pub digit_decimal : (hex : Bool) → 48 ≤ c → c ≤ 57 → DigitIs hex c (c - 48)
  digit_decimal true h k = record { small = omega arith; says = rw (decimal_in h k, lt-ltb (c - 48) 16 (omega arith)); value = λ z. rw (decimal_in h k) }
  digit_decimal false h k = record { small = omega arith; says = decimal_in h k ∙ sym (lt-ltb (c - 48) 16 (omega arith)); value = λ z. rw (decimal_in h k) }

  module _ (k : 57 < c) where
    pub digit_other : (hex : Bool) → not hex ≡ true → DigitIs hex c 16
    digit_other true e = absurd (mathlib.Core.Bool.true≢false (sym e))
    digit_other false e = no_digit false (decimal-high k)

    module _ (hex : Bool) (x : not hex ≡ false) where
      as_hex : (r : ℕ) → DigitIs true c r → DigitIs hex c r
      as_hex r d = subst (λ (b : Bool). DigitIs b c r) (sym (not-false hex x)) d

      pub digit_between : c < 65 → DigitIs hex c 16
      digit_between h = as_hex 16 (no_digit true (hex_not (decimal-high k) (between 65 70 h) (between 97 102 (omega arith))))

      pub digit_upper : 65 ≤ c → c ≤ 70 → DigitIs hex c (c - 55)
      digit_upper h l =
          as_hex (c - 55)
          (record {
            small = omega arith;
            says = rw (decimal-high k, le-leb 65 c h, le-leb c 70 l, lt-ltb (c - 55) 16 (omega arith));
            value = λ z. rw (decimal-high k, le-leb c 70 l);
          })

      pub digit_after : 70 < c → c < 97 → DigitIs hex c 16
      digit_after h l = as_hex 16 (no_digit true (hex_not (decimal-high k) (beyond 65 70 h) (between 97 102 l)))

      pub digit_small : 97 ≤ c → c ≤ 102 → DigitIs hex c (c - 87)
      digit_small h l =
          as_hex (c - 87)
          (record {
            small = omega arith;
            says = rw (decimal-high k, beyond 65 70 (omega arith), le-leb 97 c h, le-leb c 102 l, lt-ltb (c - 87) 16 (omega arith));
            value = λ z. rw (decimal-high k, lt-leb c 70 (omega arith));
          })

      pub digit_high : 102 < c → DigitIs hex c 16
      digit_high h = as_hex 16 (no_digit true (hex_not (decimal-high k) (beyond 65 70 (omega arith)) (beyond 97 102 h)))

-- ---- `saturate`, `push_digit`

capped_under : (n : ℕ) → n < code_limit → capped n ≡ n
unfolding capped
capped_under n h = rw (lt-ltb n code_limit h)

capped-over : (n : ℕ) → code_limit ≤ n → capped n ≡ code_limit
unfolding capped
capped-over n h = rw (le-ltb n code_limit h)

pub saturate_under : (n : ℕ) → n < code_limit → Saturated n n
saturate_under n h = record { is = sym (capped_under n h); small = omega arith }

pub saturate_over : (n : ℕ) → code_limit ≤ n → Saturated n code_limit
saturate_over n h = record { is = sym (capped-over n h); small = omega arith }

pub push_hex : (hex : Bool) (value d r : ℕ) → hex ≡ true → Saturated (value * 16 + d) r → Saturated (value * base_of hex + d) r
push_hex true value d r e g = g
push_hex false value d r e g = absurd (mathlib.Core.Bool.true≢false (sym e))

pub push_decimal : (hex : Bool) (value d r : ℕ) → hex ≡ false → Saturated (value * 10 + d) r → Saturated (value * base_of hex + d) r
push_decimal true value d r e g = absurd (mathlib.Core.Bool.true≢false e)
push_decimal false value d r e g = g

-- a digit more is the same after saturating as before it
capped-more : (hex : Bool) (v d : ℕ) → capped (capped v * base_of hex + d) ≡ capped (v * base_of hex + d)
capped-more hex v d = go hex (dec_le code_limit v)
  where
    go : (hex : Bool) → Dec (code_limit ≤ v) → capped (capped v * base_of hex + d) ≡ capped (v * base_of hex + d)
    go true (yes h) = rw (capped-over v h) (capped-over (code_limit * 16 + d) (omega arith) ∙ sym (capped-over (v * 16 + d) (omega arith)))
    go false (yes h) = rw (capped-over v h) (capped-over (code_limit * 10 + d) (omega arith) ∙ sym (capped-over (v * 10 + d) (omega arith)))
    go hex (no h) = rw (capped_under v (omega arith))

-- ---- `is_char`

module _ (n : ℕ) where
  pub char_9 : n ≡ 9 → true ≡ is_char n
  char_9 e = rw e

  pub char_10 : n ≡ 10 → true ≡ is_char n
  char_10 e = rw e

  pub char_13 : n ≡ 13 → true ≡ is_char n
  char_13 e = rw e

  module _ (a : n ≡ 9 → ⊥) (b : n ≡ 10 → ⊥) (d : n ≡ 13 → ⊥) where
    pub char_low : n < 32 → false ≡ is_char n
    char_low h = rw (ne_eqb n 9 a, ne_eqb n 10 b, ne_eqb n 13 d, lt-leb 32 n h, lt-leb 57344 n (omega arith), lt-leb 65536 n (omega arith))

    module _ (h : 32 ≤ n) where
      pub char_first : n ≤ 55295 → true ≡ is_char n
      char_first k = rw (ne_eqb n 9 a, ne_eqb n 10 b, ne_eqb n 13 d, le-leb 32 n h, le-leb n 55295 k)

      module _ (k : 55295 < n) where
        pub char_surrogate : n < 57344 → false ≡ is_char n
        char_surrogate l = rw (ne_eqb n 9 a, ne_eqb n 10 b, ne_eqb n 13 d, le-leb 32 n h, lt-leb n 55295 k, lt-leb 57344 n l, lt-leb 65536 n (omega arith))

        module _ (l : 57344 ≤ n) where
          pub char_second : n ≤ 65533 → true ≡ is_char n
          char_second m = rw (ne_eqb n 9 a, ne_eqb n 10 b, ne_eqb n 13 d, le-leb 32 n h, lt-leb n 55295 k, le-leb 57344 n l, le-leb n 65533 m)

          module _ (m : 65533 < n) where
            pub char_last : n < 65536 → false ≡ is_char n
            char_last o = rw (ne_eqb n 9 a, ne_eqb n 10 b, ne_eqb n 13 d, le-leb 32 n h, lt-leb n 55295 k, le-leb 57344 n l, lt-leb n 65533 m, lt-leb 65536 n o)

            module _ (o : 65536 ≤ n) where
              pub char_third : n ≤ 1114111 → true ≡ is_char n
              char_third p = rw (ne_eqb n 9 a, ne_eqb n 10 b, ne_eqb n 13 d, le-leb 32 n h, lt-leb n 55295 k, le-leb 57344 n l, lt-leb n 65533 m, le-leb 65536 n o, le-leb n 1114111 p)

              pub char_over : 1114111 < n → false ≡ is_char n
              char_over p = rw (ne_eqb n 9 a, ne_eqb n 10 b, ne_eqb n 13 d, le-leb 32 n h, lt-leb n 55295 k, le-leb 57344 n l, lt-leb n 65533 m, le-leb 65536 n o, lt-leb n 1114111 p)

-- ---- `char_or_replacement`

module _ (n : ℕ) (r : Bool) (y : r ≡ is_char n) where
  pub a_char : r ≡ true → n ≡ decodes_to n
  a_char t = rw (← y, t)

  pub no_char : r ≡ false → replacement ≡ decodes_to n
  no_char t = rw (← y, t)

-- a number over all code points is no Char, so saturating changes nothing
over_no_char : (n : ℕ) → code_limit ≤ n → is_char n ≡ false
over_no_char n h =
    sym (char_over n (λ e. omega arith) (λ e. omega arith) (λ e. omega arith) (omega arith) (omega arith) (omega arith) (omega arith) (omega arith) (omega arith))

over_replaced : (n : ℕ) → code_limit ≤ n → decodes_to n ≡ replacement
over_replaced n h = rw (over_no_char n h)

capped-decodes : (v : ℕ) → decodes_to (capped v) ≡ decodes_to v
capped-decodes v = go (dec_le code_limit v)
  where
    go : Dec (code_limit ≤ v) → decodes_to (capped v) ≡ decodes_to v
    go (yes h) = ap decodes_to (capped-over v h) ∙ sym (over_replaced v h)
    go (no h) = ap decodes_to (capped_under v (omega arith))

-- what a legal form is decoded as is a code point
pub legal-small : (m k n : ℕ) → legal m k ≡ found n k → n < code_limit
legal-small m k n e = go (dec_le code_limit m)
  where
    go : Dec (code_limit ≤ m) → n < code_limit
    go (yes h) = let z = sym (over_replaced m h) ∙ found_number e in omega arith
    go (no h) = branch (is_char m) (found_number e) (λ t q. omega arith) (λ t q. omega arith)

-- ---- `read_number`

-- the loop: what the bytes from i on would make of the value so far is what all the digits make of 0
pub record Numbering (hex : Bool) (from : ℕ) (s : List ℕ) (value i : ℕ) : Type 0 where
  pub spelt : ℕ
  pub above : from ≤ i
  pub within_s : i ≤ length s
  pub is : value ≡ capped spelt
  pub small : value ≤ code_limit
  pub rest : number_from (ok_of hex) (base_of hex) spelt i (i - from) (drop i s) ≡ number_from (ok_of hex) (base_of hex) 0 from 0 (drop from s)
  pub digits : all (ok_of hex) (drop i s) ≡ all (ok_of hex) (drop from s)

module _ (hex : Bool) (from : ℕ) (s : List ℕ) where
  -- an answer, from what is found and whether all are digits
  plain_if : number_from (ok_of hex) (base_of hex) 0 from 0 (drop from s) ≡ none → all (ok_of hex) (drop from s) ≡ false → Literal ≡ number_reading hex from s
  unfolding number_reading
  plain_if e a = rw (e, a)

  open_if : number_from (ok_of hex) (base_of hex) 0 from 0 (drop from s) ≡ none → all (ok_of hex) (drop from s) ≡ true → length s + lacking (drop from s) ≤ form_limit → Incomplete ≡ number_reading hex from s
  unfolding number_reading
  open_if e a l = rw (e, a, le-leb (length s + lacking (drop from s)) form_limit l)

  full_if : number_from (ok_of hex) (base_of hex) 0 from 0 (drop from s) ≡ none → all (ok_of hex) (drop from s) ≡ true → form_limit < length s + lacking (drop from s) → Literal ≡ number_reading hex from s
  unfolding number_reading
  full_if e a l = rw (e, a, lt-leb (length s + lacking (drop from s)) form_limit l)

  decoded_if : (n k : ℕ) → number_from (ok_of hex) (base_of hex) 0 from 0 (drop from s) ≡ found n k → k ≤ form_limit
      → Decoded (decodes_to n) k ≡ number_reading hex from s
  unfolding number_reading
  decoded_if n k e l = rw (e, le-leb k form_limit l)

  pub numbering : from ≤ length s → Numbering hex from s 0 from
  numbering h =
      let z : from - from ≡ 0 = omega arith in
      record { spelt = 0; above = omega arith; within_s = h; is = refl_cap; small = omega arith; rest = rw z; digits = refl }
    where
      refl_cap : 0 ≡ capped 0
      refl_cap = sym (capped_under 0 (omega arith))

  module _ {value i : ℕ} (g : Numbering hex from s value i) where
    module _ (h : i < length s) {b : ℕ} (eb : b ≡ get_or s i 0) {d : ℕ} (x : DigitIs hex b d) where
      -- no digit there
      module _ (z : d ≡ 16) where
        not_ok : ok_of hex (get_or s i 0) ≡ false
        not_ok = rw (← eb, x.says, z)

        not_all : all (ok_of hex) (drop from s) ≡ false
        not_all = sym g.digits ∙ ap (all (ok_of hex)) (drop-cons s i 0 h) ∙ rw not_ok

        ends_as : number_from (ok_of hex) (base_of hex) 0 from 0 (drop from s) ≡ cond (eqb (get_or s i 0) 59 && leb 1 (i - from)) (found g.spelt (suc i)) none
        ends_as =
            sym g.rest
            ∙ ap (number_from (ok_of hex) (base_of hex) g.spelt i (i - from)) (drop-cons s i 0 h)
            ∙ number_false (ok_of hex) (base_of hex) g.spelt i (i - from) (get_or s i 0) (drop (suc i) s) not_ok

        pub number_broken : (b ≡ 59 → ⊥) → Literal ≡ number_reading hex from s
        number_broken n =
            plain_if (ends_as ∙ rw (ne_eqb (get_or s i 0) 59 (λ e. n (eb ∙ e)))) not_all

        module _ (semi : b ≡ 59) where
          pub number-empty : i ≡ from → Literal ≡ number_reading hex from s
          number-empty e =
              let k : i - from ≡ 0 = omega arith in
              plain_if (ends_as ∙ rw (k, and_no (eqb (get_or s i 0) 59))) not_all

          module _ (some : i ≡ from → ⊥) where
            ends_in_lem : number_from (ok_of hex) (base_of hex) 0 from 0 (drop from s) ≡ found g.spelt (i + 1)
            ends_in_lem =
                let k : 1 ≤ i - from = let a = g.above in omega arith in
                ends_as ∙ rw (eq-eqb (get_or s i 0) 59 (sym eb ∙ semi), le-leb 1 (i - from) k, add-one)

            pub number-ends : length s ≤ form_limit → (r : ℕ) → r ≡ decodes_to value → Decoded r (i + 1) ≡ number_reading hex from s
            number-ends l r y =
                ap (λ (n : ℕ). Decoded n (i + 1)) (y ∙ ap decodes_to g.is ∙ capped-decodes g.spelt)
                ∙ decoded_if g.spelt (i + 1) ends_in_lem (omega arith)

      pub number-turn : (d ≡ 16 → ⊥) → {v : ℕ} → Saturated (value * base_of hex + d) v → Numbering hex from s v (i + 1)
      number-turn z {v} y =
          let l : d < 16 = let k = x.small in omega arith in
          let ok : ok_of hex (get_or s i 0) ≡ true = rw (← eb, x.says, lt-ltb d 16 l) in
          let dv : d ≡ digit_value (get_or s i 0) = rw (← eb) (x.value l) in
          let k : suc (i - from) ≡ suc i - from = let a = g.above in omega arith in
          let w : ℕ = g.spelt * base_of hex + digit_value (get_or s i 0) in
          let a = g.above in
          record {
            spelt = w;
            above = omega arith;
            within_s = omega arith;
            is = y.is ∙ rw (g.is, dv) (capped-more hex g.spelt (digit_value (get_or s i 0)));
            small = y.small;
            rest = rw (add-one, ← k) (sym (ap (number_from (ok_of hex) (base_of hex) g.spelt i (i - from)) (drop-cons s i 0 h) ∙ number_true (ok_of hex) (base_of hex) g.spelt i (i - from) (get_or s i 0) (drop (suc i) s) ok) ∙ g.rest);
            digits = rw add-one (sym (ap (all (ok_of hex)) (drop-cons s i 0 h) ∙ rw ok) ∙ g.digits);
          }

    -- digits up to the end
    module _ (stop : length s ≤ i) where
      at-end : i ≡ length s
      at-end = let w = g.within_s in omega arith

      no_more : drop i s ≡ []
      no_more = drop_of_length-le s stop

      none_found : number_from (ok_of hex) (base_of hex) 0 from 0 (drop from s) ≡ none
      none_found = sym g.rest ∙ ap (number_from (ok_of hex) (base_of hex) g.spelt i (i - from)) no_more

      all_digits : all (ok_of hex) (drop from s) ≡ true
      all_digits = sym g.digits ∙ ap (all (ok_of hex)) no_more

      lacks_two : i ≡ from → lacking (drop from s) ≡ 2
      lacks_two e = let l : length s ≤ from = omega arith in ap lacking (drop_of_length-le s l)

      lacks_one : (i ≡ from → ⊥) → lacking (drop from s) ≡ 1
      lacks_one e = let a = g.above in let n = at-end in ap lacking (drop-cons s from 0 (omega arith))

      pub number_bare : i ≡ from → length s + 2 ≤ form_limit → Incomplete ≡ number_reading hex from s
      number_bare e l = open_if none_found all_digits (omega (arith, lacks_two e))

      pub number_bare_full : i ≡ from → form_limit < length s + 2 → Literal ≡ number_reading hex from s
      number_bare_full e l = full_if none_found all_digits (omega (arith, lacks_two e))

      pub number_open : (i ≡ from → ⊥) → length s + 1 ≤ form_limit → Incomplete ≡ number_reading hex from s
      number_open e l = open_if none_found all_digits (omega (arith, lacks_one e))

      pub number-full : (i ≡ from → ⊥) → form_limit < length s + 1 → Literal ≡ number_reading hex from s
      number-full e l = full_if none_found all_digits (omega (arith, lacks_one e))
