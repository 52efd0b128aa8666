-- Which bytes a set of four words holds: the set that the code makes of a class is the model's. Assumes nothing.
use mathlib.Core.Path.{◌≡◌, refl, sym, ap, ap₂, ◌∙◌}
use mathlib.Core.List.{List, [], ◌∷◌}
use mathlib.Core.Bool.{Bool, true, false, not, cond, ◌&&◌, ◌||◌, or-false, or_self, or_assoc}
use mathlib.Core.Logic.{◌≢◌}
use Prim.Native.Nat.{ℕ, zero, suc, ◌+◌, ◌-◌, ◌*◌, ◌/◌, ◌%◌, ◌^◌, ◌≤◌, ◌<◌}
use native.Mathlib.Omega.{arith}
use native.Mathlib.Decide.{dec_le, ℕ_discrete}
use lib.ListN.{length, get_or, set, length-set, get_or-eq_default}
use lib.Seq.{get_or-set_same, get_or-set_other}
use lib.Dec.{eqb, leb}
use lib.Bits.{bit_or, or_lt, and_le_l}
use lib.Pow.{pow-lt}
use borrow.Author.Tests.{eq-eqb, ne_eqb, le-leb, lt-leb, eqb-true, leb-true}
use Rattle.shift_and.specs.Bit.{bit}
use Rattle.model.specs.RuleText.{Range, in_ranges, other_case, widened, turned_round, kind_set, class, some_below}
use Rattle.model.proofs.Below.{some-none, none_each}
use Rattle.shift_and.proofs.Digits.{not_bit, and_bit, or_bit, none-bit, no_bits, power_bit}
use Rattle.byte_set.specs.Sets.{member, add_byte, add_where, add_range, add_ranges, none, widen, turn, minus_word, minus, is_empty}

-- ---- one byte added

same_rest : (b c : ℕ) → b / 64 ≡ c / 64 → eqb (b % 64) (c % 64) ≡ eqb b c
same_rest b c e = elim (ℕ_discrete b c) [
  | yes q ↦ let r : b % 64 ≡ c % 64 = omega arith in eq-eqb (b % 64) (c % 64) r ∙ sym (eq-eqb b c q)
  | no q ↦ ne_eqb (b % 64) (c % 64) (λ r. q (omega arith)) ∙ sym (ne_eqb b c q)
]

pub member_add : (w : List ℕ) (b c : ℕ) → length w ≡ 4 → c < 256 → member (add_byte w b) c ≡ (member w c || eqb b c)
unfolding member add_byte
member_add w b c l h = elim (ℕ_discrete (b / 64) (c / 64)) [
  | yes e ↦
      ap (λ (x : ℕ). bit x (c % 64))
      (ap (λ (k : ℕ). get_or (set w k (bit_or (get_or w k 0) (2 ^ (b % 64)))) (c / 64) 0) e ∙ get_or-set_same w (c / 64) (bit_or (get_or w (c / 64) 0) (2 ^ (b % 64))) 0 (omega arith))
      ∙ or_bit (get_or w (c / 64) 0) (2 ^ (b % 64)) (c % 64)
      ∙ ap (λ (x : Bool). bit (get_or w (c / 64) 0) (c % 64) || x) (power_bit (b % 64) (c % 64) ∙ same_rest b c e)
  | no e ↦
      ap (λ (x : ℕ). bit x (c % 64)) (get_or-set_other w (b / 64) (c / 64) (bit_or (get_or w (b / 64) 0) (2 ^ (b % 64))) 0 (λ q. e (sym q)))
      ∙ sym (or-false (bit (get_or w (c / 64) 0) (c % 64)))
      ∙ ap (λ (x : Bool). bit (get_or w (c / 64) 0) (c % 64) || x) (sym (ne_eqb b c (λ q. e (ap (λ (x : ℕ). x / 64) q))))
]

-- A set has four words of 64 bits.
pub record Four (w : List ℕ) : Type 0 where
  pub long : length w ≡ 4
  pub small : (k : ℕ) → get_or w k 0 < 2 ^ 64

pub none_four : Four none
none_four = record { long = refl; small = each }
  where
    each : (k : ℕ) → get_or none k 0 < 2 ^ 64
    each zero = omega arith
    each (suc zero) = omega arith
    each (suc (suc zero)) = omega arith
    each (suc (suc (suc zero))) = omega arith
    each (suc (suc (suc (suc k)))) = omega arith

pub add_four : (w : List ℕ) (b : ℕ) → Four w → Four (add_byte w b)
unfolding add_byte
add_four w b f =
    let v = bit_or (get_or w (b / 64) 0) (2 ^ (b % 64)) in
    record {
      long = length-set w (b / 64) v ∙ f.long;
      small = λ k. elim (ℕ_discrete k (b / 64)) [
        | yes e ↦ elim (dec_le 4 k) [
          | yes p ↦ past k (omega arith)
          | no p ↦
              let q : get_or (set w (b / 64) v) k 0 ≡ v = ap (λ (j : ℕ). get_or (set w j v) k 0) (sym e) ∙ get_or-set_same w k v 0 (omega (arith, f.long)) in
              let l : v < 2 ^ 64 = or_lt 64 (get_or w (b / 64) 0) (2 ^ (b % 64)) (f.small (b / 64)) (pow-lt {i = b % 64} {j = 64} (omega arith)) in
              rw q l
        ]
        | no e ↦ rw (get_or-set_other w (b / 64) k v 0 e) (f.small k)
      ];
    }
  where
    past : (k : ℕ) → 4 ≤ k → get_or (set w (b / 64) (bit_or (get_or w (b / 64) 0) (2 ^ (b % 64)))) k 0 < 2 ^ 64
    past k p =
        let v = bit_or (get_or w (b / 64) 0) (2 ^ (b % 64)) in
        let e : get_or (set w (b / 64) v) k 0 ≡ 0 = get_or-eq_default (set w (b / 64) v) 0 {n = k} (omega (arith, length-set w (b / 64) v, f.long)) in
        rw e (omega arith)

step_four : (b : Bool) (w : List ℕ) (c : ℕ) → Four w → Four (cond b (add_byte w c) w)
step_four true w c f = add_four w c f
step_four false w c f = f

-- ---- bytes added where f has them

module _ (f : ℕ → Bool) where
  pub where_four : (n : ℕ) (w : List ℕ) (c : ℕ) → Four w → Four (add_where f w c n)
  unfolding add_where
  where_four zero w c h = h
  where_four (suc n) w c h = where_four n (cond (f c) (add_byte w c) w) (c + 1) (step_four (f c) w c h)

  step_other : (b : Bool) (w : List ℕ) (c x : ℕ) → Four w → x < 256 → c ≢ x → member (cond b (add_byte w c) w) x ≡ member w x
  step_other true w c x h l n = member_add w c x h.long l ∙ ap (λ (q : Bool). member w x || q) (ne_eqb c x n) ∙ or-false (member w x)
  step_other false w c x h l n = refl

  step_same : (b : Bool) (w : List ℕ) (x : ℕ) → Four w → x < 256 → member (cond b (add_byte w x) w) x ≡ (member w x || b)
  step_same true w x h l = member_add w x x h.long l ∙ ap (λ (q : Bool). member w x || q) (eq-eqb x x refl)
  step_same false w x h l = sym (or-false (member w x))

  pub where_below : (n : ℕ) (w : List ℕ) (c x : ℕ) → Four w → x < 256 → x < c → member (add_where f w c n) x ≡ member w x
  unfolding add_where
  where_below zero w c x h l b = refl
  where_below (suc n) w c x h l b =
      where_below n (cond (f c) (add_byte w c) w) (c + 1) x (step_four (f c) w c h) l (omega arith)
      ∙ step_other (f c) w c x h l (λ e. absurd (omega arith))

  pub where_above : (n : ℕ) (w : List ℕ) (c x : ℕ) → Four w → x < 256 → c + n ≤ x → member (add_where f w c n) x ≡ member w x
  unfolding add_where
  where_above zero w c x h l b = refl
  where_above (suc n) w c x h l b =
      where_above n (cond (f c) (add_byte w c) w) (c + 1) x (step_four (f c) w c h) l (omega arith)
      ∙ step_other (f c) w c x h l (λ e. absurd (omega arith))

  pub where_in : (n : ℕ) (w : List ℕ) (c x : ℕ) → Four w → x < 256 → c ≤ x → x < c + n → member (add_where f w c n) x ≡ (member w x || f x)
  unfolding add_where
  where_in zero w c x h l a b = absurd (omega arith)
  where_in (suc n) w c x h l a b = elim (ℕ_discrete c x) [
    | yes e ↦
        where_below n (cond (f c) (add_byte w c) w) (c + 1) x (step_four (f c) w c h) l (omega arith)
        ∙ ap (λ (j : ℕ). member (cond (f j) (add_byte w j) w) x) e
        ∙ step_same (f x) w x h l
    | no e ↦
        where_in n (cond (f c) (add_byte w c) w) (c + 1) x (step_four (f c) w c h) l (omega arith) (omega arith)
        ∙ ap (λ (q : Bool). q || f x) (step_other (f c) w c x h l e)
  ]

-- ---- ranges

pub range-member : (w : List ℕ) (lo hi x : ℕ) → Four w → x < 256 → member (add_range w lo hi) x ≡ (member w x || (leb lo x && leb x hi))
range-member w lo hi x h l = elim (dec_le lo x) [
  | yes a ↦ elim (dec_le x hi) [
    | yes b ↦
        where_in (λ c. true) (suc hi - lo) w lo x h l a (omega arith)
        ∙ ap (λ (q : Bool). member w x || q) (sym (ap₂ (λ (p q : Bool). p && q) (le-leb lo x a) (le-leb x hi b)))
    | no b ↦
        where_above (λ c. true) (suc hi - lo) w lo x h l (omega arith)
        ∙ sym (or-false (member w x))
        ∙ ap (λ (q : Bool). member w x || q) (sym (ap₂ (λ (p q : Bool). p && q) (le-leb lo x a) (lt-leb x hi (omega arith))))
  ]
  | no a ↦
      where_below (λ c. true) (suc hi - lo) w lo x h l (omega arith)
      ∙ sym (or-false (member w x))
      ∙ ap (λ (q : Bool). member w x || q) (sym (ap (λ (p : Bool). p && leb x hi) (lt-leb lo x (omega arith))))
]

pub ranges_four : (rs : List Range) (w : List ℕ) → Four w → Four (add_ranges w rs)
unfolding add_ranges
ranges_four [] w h = h
ranges_four (r ∷ rs) w h = ranges_four rs (add_range w r.low r.high) (where_four (λ c. true) (suc r.high - r.low) w r.low h)

pub ranges_member : (rs : List Range) (w : List ℕ) (x : ℕ) → Four w → x < 256 → member (add_ranges w rs) x ≡ (member w x || in_ranges rs x)
unfolding add_ranges
ranges_member [] w x h l = sym (or-false (member w x))
ranges_member (r ∷ rs) w x h l =
    ranges_member rs (add_range w r.low r.high) x (where_four (λ c. true) (suc r.high - r.low) w r.low h) l
    ∙ ap (λ (q : Bool). q || in_ranges rs x) (range-member w r.low r.high x h l)
    ∙ or_assoc (member w x) (leb r.low x && leb x r.high) (in_ranges rs x)

pub none-member : (x : ℕ) → x < 256 → member none x ≡ false
unfolding member
none-member x l = go (x / 64) (omega arith)
  where
    go : (k : ℕ) → k < 4 → bit (get_or none k 0) (x % 64) ≡ false
    go zero h = none-bit (x % 64)
    go (suc zero) h = none-bit (x % 64)
    go (suc (suc zero)) h = none-bit (x % 64)
    go (suc (suc (suc zero))) h = none-bit (x % 64)
    go (suc (suc (suc (suc k)))) h = absurd (omega arith)

-- ---- the fold and `^`

cond_small : (b : Bool) (y z : ℕ) → (b ≡ true → y < 256) → z < 256 → cond b y z < 256
cond_small true y z f l = f refl
cond_small false y z f l = l

and_second : (a b : Bool) → (a && b) ≡ true → b ≡ true
and_second true b e = e
and_second false b e = absurd (no e)
  where
    no : false ≡ true → ⊥
    no q = let z : ◌≡◌ {A = ℕ} 0 1 = cc in omega arith

pub other_small : (x : ℕ) → x < 256 → other_case x < 256
other_small x l =
    cond_small (leb 65 x && leb x 90) (x + 32) (cond (leb 97 x && leb x 122) (x - 32) x)
    (λ e. let h : x ≤ 90 = leb-true x 90 (and_second (leb 65 x) (leb x 90) e) in omega arith)
    (cond_small (leb 97 x && leb x 122) (x - 32) x (λ e. omega arith) l)

pub widen_four : (fold : Bool) (w : List ℕ) → Four w → Four (widen fold w)
unfolding widen
widen_four true w h = where_four (λ c. member w (other_case c)) 58 w 65 h
widen_four false w h = h

pub widen-member : (fold : Bool) (w : List ℕ) (x : ℕ) → Four w → x < 256 → member (widen fold w) x ≡ widened fold (member w) x
unfolding widen
widen-member true w x h l = elim (dec_le 65 x) [
  | yes a ↦ elim (dec_le 123 x) [
    | yes b ↦ where_above (λ c. member w (other_case c)) 58 w 65 x h l (omega arith) ∙ sym (same_case x (ap₂ (λ (p q : Bool). p && q) (le-leb 65 x a) (lt-leb x 90 (omega arith))) (ap₂ (λ (p q : Bool). p && q) (le-leb 97 x (omega arith)) (lt-leb x 122 (omega arith))))
    | no b ↦ where_in (λ c. member w (other_case c)) 58 w 65 x h l a (omega arith)
  ]
  | no a ↦ where_below (λ c. member w (other_case c)) 58 w 65 x h l (omega arith) ∙ sym (same_case x (ap (λ (p : Bool). p && leb x 90) (lt-leb 65 x (omega arith))) (ap (λ (p : Bool). p && leb x 122) (lt-leb 97 x (omega arith))))
]
  where
    -- a byte that is no letter is its own other case
    same_case : (x : ℕ) → (leb 65 x && leb x 90) ≡ false → (leb 97 x && leb x 122) ≡ false → (member w x || member w (other_case x)) ≡ member w x
    same_case x p q = ap (λ (c : ℕ). member w x || member w c) (rw (p, q)) ∙ or_self (member w x)
widen-member false w x h l = sym (or-false (member w x))

pub turn_four : (t : Bool) (w : List ℕ) → Four w → Four (turn t w)
unfolding turn
turn_four true w h = record { long = refl; small = each }
  where
    each : (k : ℕ) → get_or (turn true w) k 0 < 2 ^ 64
    each zero = omega arith
    each (suc zero) = omega arith
    each (suc (suc zero)) = omega arith
    each (suc (suc (suc zero))) = omega arith
    each (suc (suc (suc (suc k)))) = omega arith
turn_four false w h = h

pub turn-member : (t : Bool) (w : List ℕ) (x : ℕ) → Four w → x < 256 → member (turn t w) x ≡ turned_round t (member w) x
unfolding turn member
turn-member true w x h l = go (x / 64) (omega arith)
  where
    go : (k : ℕ) → k < 4 → bit (get_or (turn true w) k 0) (x % 64) ≡ not (bit (get_or w k 0) (x % 64))
    go zero q = not_bit 64 (get_or w 0 0) (x % 64) (h.small 0) (omega arith)
    go (suc zero) q = not_bit 64 (get_or w 1 0) (x % 64) (h.small 1) (omega arith)
    go (suc (suc zero)) q = not_bit 64 (get_or w 2 0) (x % 64) (h.small 2) (omega arith)
    go (suc (suc (suc zero))) q = not_bit 64 (get_or w 3 0) (x % 64) (h.small 3) (omega arith)
    go (suc (suc (suc (suc k)))) q = absurd (omega arith)
turn-member false w x h l = refl

-- ---- the bytes of one set that are not in another

pub minus_four : (w v : List ℕ) → Four w → Four (minus w v)
unfolding minus
minus_four w v h = record { long = refl; small = each }
  where
    small : (k : ℕ) → minus_word w v k < 2 ^ 64
    small k = omega (arith, h.small k, and_le_l (get_or w k 0) (2 ^ 64 - 1 - get_or v k 0))

    each : (k : ℕ) → get_or (minus w v) k 0 < 2 ^ 64
    each zero = small 0
    each (suc zero) = small 1
    each (suc (suc zero)) = small 2
    each (suc (suc (suc zero))) = small 3
    each (suc (suc (suc (suc k)))) = omega arith

pub minus-member : (w v : List ℕ) (x : ℕ) → Four v → x < 256 → member (minus w v) x ≡ (member w x && not (member v x))
unfolding minus member
minus-member w v x h l = go (x / 64) (omega arith)
  where
    word : (k : ℕ) → bit (minus_word w v k) (x % 64) ≡ (bit (get_or w k 0) (x % 64) && not (bit (get_or v k 0) (x % 64)))
    word k = and_bit (get_or w k 0) (2 ^ 64 - 1 - get_or v k 0) (x % 64) ∙ ap (λ (b : Bool). bit (get_or w k 0) (x % 64) && b) (not_bit 64 (get_or v k 0) (x % 64) (h.small k) (omega arith))

    go : (k : ℕ) → k < 4 → bit (get_or (minus w v) k 0) (x % 64) ≡ (bit (get_or w k 0) (x % 64) && not (bit (get_or v k 0) (x % 64)))
    go zero q = word 0
    go (suc zero) q = word 1
    go (suc (suc zero)) q = word 2
    go (suc (suc (suc zero))) q = word 3
    go (suc (suc (suc (suc k)))) q = absurd (omega arith)

-- ---- the set of a class

turned_cong : (t : Bool) (f g : ℕ → Bool) (x : ℕ) → f x ≡ g x → turned_round t f x ≡ turned_round t g x
turned_cong true f g x e = ap not e
turned_cong false f g x e = e

module _ (fold t : Bool) (rs : List Range) where
  pub class_four : Four (turn t (widen fold (add_ranges none rs)))
  class_four = turn_four t (widen fold (add_ranges none rs)) (widen_four fold (add_ranges none rs) (ranges_four rs none none_four))

  pub class-member : (x : ℕ) → x < 256 → member (turn t (widen fold (add_ranges none rs))) x ≡ kind_set fold (class t rs) x
  class-member x l =
      let w = add_ranges none rs in
      let four = ranges_four rs none none_four in
      let held : (y : ℕ) → y < 256 → member w y ≡ in_ranges rs y =
      λ y k. ranges_member rs none y none_four k ∙ ap (λ (q : Bool). q || in_ranges rs y) (none-member y k) in
      turn-member t (widen fold w) x (widen_four fold w four) l
      ∙ turned_cong t (member (widen fold w)) (widened fold (in_ranges rs)) x
      (widen-member fold w x four l
      ∙ ap₂ (λ (a b : Bool). a || (fold && b)) (held x l) (held (other_case x) (other_small x l)))

-- ---- left with no byte

module _ (w : List ℕ) (h : Four w) (f : ℕ → Bool) (is : (x : ℕ) → x < 256 → member w x ≡ f x) where
  word_none : ((x : ℕ) → x < 256 → f x ≡ false) → (k : ℕ) → k < 4 → get_or w k 0 ≡ 0
  unfolding member
  word_none none k l =
      no_bits 64 (get_or w k 0) (h.small k) λ i q.
      let d : (k * 64 + i) / 64 ≡ k = omega arith in
      let m : (k * 64 + i) % 64 ≡ i = omega arith in
      sym (ap₂ (λ (a b : ℕ). bit (get_or w a 0) b) d m) ∙ is (k * 64 + i) (omega arith) ∙ none (k * 64 + i) (omega arith)

  empty-words : is_empty w ≡ true → (k : ℕ) → k < 4 → get_or w k 0 ≡ 0
  unfolding is_empty
  empty-words e = go (eqb (get_or w 0 0) 0) refl (eqb (get_or w 1 0) 0) refl (eqb (get_or w 2 0) 0) refl e
    where
      clash : {A : Type 0} → false ≡ true → A
      clash q = let z : ◌≡◌ {A = ℕ} 0 1 = cc in absurd (omega arith)

      go : (a : Bool) → eqb (get_or w 0 0) 0 ≡ a → (b : Bool) → eqb (get_or w 1 0) 0 ≡ b → (c : Bool) → eqb (get_or w 2 0) 0 ≡ c
          → cond a (cond b (cond c (eqb (get_or w 3 0) 0) false) false) false ≡ true → (k : ℕ) → k < 4 → get_or w k 0 ≡ 0
      go false ea b eb c ec q k l = clash q
      go true ea false eb c ec q k l = clash q
      go true ea true eb false ec q k l = clash q
      go true ea true eb true ec q zero l = eqb-true (get_or w 0 0) 0 ea
      go true ea true eb true ec q (suc zero) l = eqb-true (get_or w 1 0) 0 eb
      go true ea true eb true ec q (suc (suc zero)) l = eqb-true (get_or w 2 0) 0 ec
      go true ea true eb true ec q (suc (suc (suc zero))) l = eqb-true (get_or w 3 0) 0 q
      go true ea true eb true ec q (suc (suc (suc (suc k)))) l = absurd (omega arith)

  -- `is_empty` is the model's test, turned round
  pub empty-none : is_empty w ≡ true → some_below f 256 ≡ false
  unfolding member
  empty-none e =
      some-none f 256 λ x l. sym (is x l) ∙ ap (λ (v : ℕ). bit v (x % 64)) (empty-words e (x / 64) (omega arith)) ∙ none-bit (x % 64)

  pub full-some : is_empty w ≡ false → some_below f 256 ≡ true
  unfolding is_empty
  full-some e = go (some_below f 256) refl
    where
      go : (b : Bool) → some_below f 256 ≡ b → b ≡ true
      go true q = refl
      go false q =
          let z = word_none (none_each f 256 q) in
          let y : is_empty w ≡ true = rw (eq-eqb _ _ (z 0 (omega arith)), eq-eqb _ _ (z 1 (omega arith)), eq-eqb _ _ (z 2 (omega arith)), eq-eqb _ _ (z 3 (omega arith))) in
          sym e ∙ y
