-- The step over the number of words: on n words of w bits it is document 01's formula on one number of n * w bits. Every law has the same proof: the lowest
-- word and the words above it are two digits of the number, and the operation on two digits passes one bit from the one to the other. Assumes nothing.
use Rattle.std.proofs.Common.{◌≡◌, ℕ, zero, suc, ◌+◌, ◌-◌, ◌*◌, ◌/◌, ◌%◌, ◌^◌, ◌<◌, ◌≤◌, Bool, true, false, ltb, List, [], ◌∷◌, sym, refl, ap, ◌∙◌, ap₂, lt_of_le_of_lt, add-zero, mul-le-mul_right, mod-lt, mod-eq_of_lt, zero-lt-suc, mul_assoc, suc-mul, add-mul, div-add-mod', sub-add_cancel, mul_right_comm, arith, pow_pos, pow-add, ltb-false, ltb-true}
use native.Mathlib.Nat.{mul-add-div_right, add-mul-mod_self_right, mod-one}
use lib.Arith.{digits_lt, digits_mod}
use lib.Pow.{mod-pow-add, ones_split, ones_lt, le_ones}
use lib.Bits.{bit_and, bit_or, bit_xor, block_odd, and_zero_l, and_zero_r, and_le_l, and_le_r, and_lt, or_lt, xor_lt, and_block, or_block, xor_block}
use lib.Count.{ones, ones_cat}
use Rattle.model.specs.Occurrence.{one_if}
use Rattle.shift_and.specs.ForwardStep.{wrap_sub, move, flood, advance, block_starts, block_ends, shortest}
use Rattle.shift_and.proofs.Unchanged.{flood-none, flood-lt}
use Rattle.shift_and_wide.specs.ManyWords.{first, above, value, Words, move_word, carry, move_words, borrows, flood_words, lowest, half, starts_words, ends_words, step_words, shift_words, half_words}

-- ---- two digits

-- r is x - y modulo s, where o is borrowed
unwrapped : (x y r s : ℕ) (o : Bool) → y ≤ s → r < s → r + y ≡ x + one_if o * s → r ≡ (x + (s - y)) % s
unwrapped x y r s false hy hr e =
    let t : x + (s - y) ≡ 1 * s + r = omega arith in
    sym (ap (λ (v : ℕ). v % s) t ∙ digits_mod 1 hr)
unwrapped x y r s true hy hr e =
    let t : x + (s - y) ≡ r = omega arith in
    sym (ap (λ (v : ℕ). v % s) t ∙ mod-eq_of_lt hr)

sub_is : (x y s : ℕ) → x < s → y ≤ s → (x + (s - y)) % s + y ≡ x + one_if (ltb x y) * s
sub_is x y s hx hy = go (ltb x y) refl
  where
    go : (o : Bool) → ltb x y ≡ o → (x + (s - y)) % s + y ≡ x + one_if o * s
    go true e =
        let l = ltb-true x y e in
        let t : x + (s - y) < s = omega arith in
        let u = mod-eq_of_lt t in
        omega arith
    go false e =
        let l = ltb-false x y e in
        let t : x + (s - y) ≡ 1 * s + (x - y) = omega arith in
        let q : x - y < s = omega arith in
        let u : (x + (s - y)) % s ≡ x - y = ap (λ (v : ℕ). v % s) t ∙ digits_mod 1 q in
        omega arith

-- the difference of two numbers of two digits each, where neither digit borrows
digits_sub : (a b v x p : ℕ) → v ≤ a → x ≤ b → (a * p + b) - (v * p + x) ≡ (a - v) * p + (b - x)
digits_sub a b v x p hv hx =
    let e : a * p ≡ (a - v) * p + v * p = ap (λ (n : ℕ). n * p) (sym (sub-add_cancel hv)) ∙ add-mul (a - v) v p in
    omega arith

-- where the lower lends to the upper
sub_step : (X x Y y R r o q p s : ℕ) → r + y ≡ x + o * p → R + (Y + o) ≡ X + q * s → (R * p + r) + (Y * p + y) ≡ (X * p + x) + q * (s * p)
sub_step X x Y y R r o q p s e k =
    let t : R * p + (Y * p + o * p) ≡ X * p + q * (s * p) =
    ap (λ (n : ℕ). R * p + n) (sym (add-mul Y o p)) ∙ sym (add-mul R (Y + o) p) ∙ ap (λ (n : ℕ). n * p) k ∙ add-mul X (q * s) p
    ∙ ap (λ (n : ℕ). X * p + n) (mul_assoc q s p) in
    omega arith

one_if_le : (b : Bool) → one_if b ≤ 1
one_if_le true = omega arith
one_if_le false = omega arith

-- Words of v bits above a word of w bits.
module _ (v w : ℕ) where
  wrap_split : (X x Y y : ℕ) → X < 2 ^ v → x < 2 ^ w → Y < 2 ^ v → y ≤ 2 ^ w
      → wrap_sub (v + w) (X * 2 ^ w + x) (Y * 2 ^ w + y) ≡ wrap_sub v X (Y + one_if (ltb x y)) * 2 ^ w + wrap_sub w x y
  wrap_split X x Y y h_x hx h_y hy =
      let o = one_if (ltb x y) in
      let lo = one_if_le (ltb x y) in
      let l_y : Y + one_if (ltb x y) ≤ 2 ^ v = omega arith in
      let m = mul-le-mul_right {m = suc Y} {n = 2 ^ v} (2 ^ w) h_y in
      let n = suc-mul Y (2 ^ w) in
      let s = pow-add 2 v w in
      let b : Y * 2 ^ w + y ≤ 2 ^ (v + w) = omega arith in
      let l : wrap_sub v X (Y + o) * 2 ^ w + wrap_sub w x y < 2 ^ (v + w) =
      rw s (digits_lt (mod-lt (X + (2 ^ v - (Y + o))) (pow_pos v)) (mod-lt (x + (2 ^ w - y)) (pow_pos w))) in
      let e = sub_step X x Y y (wrap_sub v X (Y + o)) (wrap_sub w x y) o (one_if (ltb X (Y + o))) (2 ^ w) (2 ^ v) (sub_is x y (2 ^ w) hx hy) (sub_is X (Y + o) (2 ^ v) h_x l_y) in
      sym (unwrapped (X * 2 ^ w + x) (Y * 2 ^ w + y) (wrap_sub v X (Y + o) * 2 ^ w + wrap_sub w x y) (2 ^ (v + w)) (ltb X (Y + o)) b l (rw s e))

  not_split : (T t : ℕ) → T < 2 ^ v → t < 2 ^ w → (2 ^ (v + w) - 1) - (T * 2 ^ w + t) ≡ ((2 ^ v - 1) - T) * 2 ^ w + ((2 ^ w - 1) - t)
  not_split T t h_t ht =
      ap (λ (n : ℕ). n - (T * 2 ^ w + t)) (ones_split v w) ∙ digits_sub (2 ^ v - 1) (2 ^ w - 1) T t (2 ^ w) (le_ones v h_t) (le_ones w ht)

  not_lt : (t : ℕ) → (2 ^ w - 1) - t < 2 ^ w
  not_lt t = let l = ones_lt w in omega arith

  flood_split : (D d A a I i F f : ℕ) → D < 2 ^ v → d < 2 ^ w → a < 2 ^ w → I < 2 ^ v → i ≤ 2 ^ w → F < 2 ^ v → f < 2 ^ w
      → flood (v + w) (D * 2 ^ w + d) (A * 2 ^ w + a) (I * 2 ^ w + i) (F * 2 ^ w + f) ≡ flood v D A (I + one_if (ltb (bit_or d f) i)) F * 2 ^ w + flood w d a i f
  unfolding flood
  flood_split D d A a I i F f h_d hd ha h_i hi h_f hf =
      let p = 2 ^ w in
      let g = bit_or d f in
      let G = bit_or D F in
      let X = D * 2 ^ w + d in
      let Y = A * 2 ^ w + a in
      let t = wrap_sub w g i in
      let T = wrap_sub v G (I + one_if (ltb g i)) in
      let hg : g < 2 ^ w = or_lt w d f hd hf in
      let h_g : G < 2 ^ v = or_lt v D F h_d h_f in
      let ht : t < 2 ^ w = mod-lt (g + (2 ^ w - i)) (pow_pos w) in
      let h_t : T < 2 ^ v = mod-lt (G + (2 ^ v - (I + one_if (ltb g i)))) (pow_pos v) in
      let n = (2 ^ w - 1) - t in
      let N = (2 ^ v - 1) - T in
      let hx : bit_xor n g < 2 ^ w = xor_lt w n g (not_lt t) hg in
      ap (λ (m : ℕ). bit_or X (bit_and Y (bit_xor ((2 ^ (v + w) - 1) - wrap_sub (v + w) m (I * 2 ^ w + i)) m))) (or_block w D F d f hd hf)
      ∙ ap (λ (m : ℕ). bit_or X (bit_and Y (bit_xor ((2 ^ (v + w) - 1) - m) (G * 2 ^ w + g)))) (wrap_split G g I i h_g hg h_i hi)
      ∙ ap (λ (m : ℕ). bit_or X (bit_and Y (bit_xor m (G * 2 ^ w + g)))) (not_split T t h_t ht)
      ∙ ap (λ (m : ℕ). bit_or X (bit_and Y m)) (xor_block w N G n g (not_lt t) hg)
      ∙ ap (λ (m : ℕ). bit_or X m) (and_block w A (bit_xor N G) a (bit_xor n g) ha hx)
      ∙ or_block w D (bit_and A (bit_xor N G)) d (bit_and a (bit_xor n g)) hd (and_lt w a (bit_xor n g) ha hx)

  shift_split : (D d c : ℕ) → ((D * 2 ^ w + d) * 2 + c) % 2 ^ (v + w) ≡ (D * 2 + carry w c d) % 2 ^ v * 2 ^ w + (d * 2 + c) % 2 ^ w
  shift_split D d c =
      let n = (D * 2 ^ w + d) * 2 + c in
      let e : n ≡ D * 2 * 2 ^ w + (d * 2 + c) = omega arith in
      mod-pow-add n v w
      ∙ ap₂ (λ (x y : ℕ). x % 2 ^ v * 2 ^ w + y)
      (ap (λ (m : ℕ). m / 2 ^ w) e ∙ mul-add-div_right (pow_pos w) (D * 2) (d * 2 + c))
      (ap (λ (m : ℕ). m % 2 ^ w) e ∙ mod_off (D * 2) (d * 2 + c))
    where
      mod_off : (x y : ℕ) → (x * 2 ^ w + y) % 2 ^ w ≡ y % 2 ^ w
      mod_off x y = let e : x * 2 ^ w + y ≡ y + x * 2 ^ w = omega arith in ap (λ (m : ℕ). m % 2 ^ w) e ∙ add-mul-mod_self_right y x (2 ^ w)

  move_split : (D d B b R r K k c : ℕ) → d < 2 ^ w → b < 2 ^ w → r < 2 ^ w → k < 2 ^ w
      → move_word (v + w) c (D * 2 ^ w + d) (B * 2 ^ w + b) (R * 2 ^ w + r) (K * 2 ^ w + k) ≡ move_word v (carry w c d) D B R K * 2 ^ w + move_word w c d b r k
  move_split D d B b R r K k c hd hb hr hk =
      let X = D * 2 ^ w + d in
      let Y = B * 2 ^ w + b in
      let Z = K * 2 ^ w + k in
      let t = (d * 2 + c) % 2 ^ w in
      let T = (D * 2 + carry w c d) % 2 ^ v in
      let ht : t < 2 ^ w = mod-lt (d * 2 + c) (pow_pos w) in
      let hs : bit_and b r < 2 ^ w = and_lt w b r hb hr in
      let hu : bit_and t b < 2 ^ w = and_lt w t b ht hb in
      let hv : bit_and d (bit_and b r) < 2 ^ w = and_lt w d (bit_and b r) hd hs in
      ap (λ (m : ℕ). bit_or (bit_or (bit_and m Y) (bit_and X (bit_and Y (R * 2 ^ w + r)))) Z) (shift_split D d c)
      ∙ ap₂ (λ (m n : ℕ). bit_or (bit_or m (bit_and X n)) Z) (and_block w T B t b ht hb) (and_block w B R b r hb hr)
      ∙ ap (λ (m : ℕ). bit_or (bit_or (bit_and T B * 2 ^ w + bit_and t b) m) Z) (and_block w D (bit_and B R) d (bit_and b r) hd hs)
      ∙ ap (λ (m : ℕ). bit_or m Z) (or_block w (bit_and T B) (bit_and D (bit_and B R)) (bit_and t b) (bit_and d (bit_and b r)) hu hv)
      ∙ or_block w (bit_or (bit_and T B) (bit_and D (bit_and B R))) K (bit_or (bit_and t b) (bit_and d (bit_and b r))) k (or_lt w (bit_and t b) (bit_and d (bit_and b r)) hu hv) hk

  half_split : (A a : ℕ) → (A * 2 ^ w + a) / 2 ≡ A / 2 * 2 ^ w + half w (A % 2) a
  half_split A a =
      let m = ap (λ (n : ℕ). n * 2 ^ w) (div-add-mod' A 2) in
      let n = add-mul (A / 2 * 2) (A % 2) (2 ^ w) in
      let q = mul_right_comm (A / 2) 2 (2 ^ w) in
      let e : A * 2 ^ w + a ≡ A / 2 * 2 ^ w * 2 + (a + A % 2 * 2 ^ w) = omega arith in
      ap (λ (n : ℕ). n / 2) e ∙ mul-add-div_right (zero-lt-suc 1) (A / 2 * 2 ^ w) (a + A % 2 * 2 ^ w)

half_lt : (w c a : ℕ) → c < 2 → a < 2 ^ w → half w c a < 2 ^ w
half_lt w zero a hc ha = omega arith
half_lt w (suc zero) a hc ha = omega arith
half_lt w (suc (suc c)) a hc ha = absurd (omega arith)

-- ---- the number

span_suc : (w n : ℕ) → suc n * w ≡ n * w + w
span_suc w n = suc-mul n w

pub value-lt : (w n : ℕ) (xs : List ℕ) → Words w n xs → value w n xs < 2 ^ (n * w)
unfolding value
value-lt w zero xs h = let e : 0 * w ≡ 0 = omega arith in rw e (pow_pos 0)
value-lt w (suc n) xs h = rw (span_suc w n, pow-add 2 (n * w) w) (digits_lt (value-lt w n (above xs) h.1) h.0)

-- one word
pub value-one : (w x : ℕ) → value w 1 (x ∷ []) ≡ x
unfolding value
value-one w x = omega arith

-- a lowest word alone
pub value_low : (w n x : ℕ) → value w (suc n) (x ∷ []) ≡ x
unfolding value
value_low w n x = let e = none w n in rw e (let z : 0 * 2 ^ w + x ≡ x = omega arith in z)
  where
    none : (w n : ℕ) → value w n [] ≡ 0
    none w zero = refl
    none w (suc n) = let e = none w n in rw e (let z : 0 * 2 ^ w + 0 ≡ 0 = omega arith in z)

-- ---- the move, the flood, the blocks

pub moves-value : (w n c : ℕ) (ds bs rs ks : List ℕ) → Words w n ds → Words w n bs → Words w n rs → Words w n ks
    → value w n (move_words w n c ds bs rs ks) ≡ move_word (n * w) c (value w n ds) (value w n bs) (value w n rs) (value w n ks)
unfolding value move_words
moves-value w zero c ds bs rs ks hd hb hr hk = sym (nothing ((0 * 2 + c) % 2 ^ (0 * w)) (bit_and 0 0))
  where
    nothing : (x y : ℕ) → bit_or (bit_or (bit_and x 0) (bit_and 0 y)) 0 ≡ 0
    nothing x y = ap₂ (λ (m n : ℕ). bit_or (bit_or m n) 0) (and_zero_r x) (and_zero_l y)
moves-value w (suc n) c ds bs rs ks hd hb hr hk =
    ap (λ (m : ℕ). m * 2 ^ w + move_word w c (first ds) (first bs) (first rs) (first ks))
    (moves-value w n (carry w c (first ds)) (above ds) (above bs) (above rs) (above ks) hd.1 hb.1 hr.1 hk.1)
    ∙ sym (move_split (n * w) w (value w n (above ds)) (first ds) (value w n (above bs)) (first bs) (value w n (above rs)) (first rs) (value w n (above ks)) (first ks) c hd.0 hb.0 hr.0 hk.0)
    ∙ ap (λ (m : ℕ). move_word m c (value w (suc n) ds) (value w (suc n) bs) (value w (suc n) rs) (value w (suc n) ks)) (sym (span_suc w n))

pub floods_value : (w n o : ℕ) (ds qs is fs : List ℕ) → o ≤ 1 → Words w n ds → Words w n qs → Words w n is → Words w n fs
    → value w n (flood_words w n o ds qs is fs) ≡ flood (n * w) (value w n ds) (value w n qs) (value w n is + o) (value w n fs)
unfolding value flood_words
floods_value w zero o ds qs is fs ho hd hq hi hf = sym (flood-none (0 * w) 0 (0 + o) 0)
floods_value w (suc n) o ds qs is fs ho hd hq hi hf =
    let g = bit_or (first ds) (first fs) in
    let i = first is + o in
    let l : first is + o ≤ 2 ^ w = let x = hi.0 in omega arith in
    let e : value w n (above is) * 2 ^ w + (first is + o) ≡ (value w n (above is) * 2 ^ w + first is) + o = omega arith in
    ap (λ (m : ℕ). m * 2 ^ w + flood w (first ds) (first qs) (first is + o) (first fs))
    (floods_value w n (borrows o (first ds) (first is) (first fs)) (above ds) (above qs) (above is) (above fs) (one_if_le (ltb g i)) hd.1 hq.1 hi.1 hf.1)
    ∙ sym (flood_split (n * w) w (value w n (above ds)) (first ds) (value w n (above qs)) (first qs) (value w n (above is)) (first is + o) (value w n (above fs)) (first fs)
    (value-lt w n (above ds) hd.1) hd.0 hq.0 (value-lt w n (above is) hi.1) l (value-lt w n (above fs) hf.1) hf.0)
    ∙ ap₂ (λ (m k : ℕ). flood m (value w (suc n) ds) (value w (suc n) qs) k (value w (suc n) fs)) (sym (span_suc w n)) e

-- the lowest bit of the words above is that of their number
lowest-is : (w n : ℕ) (xs : List ℕ) → 1 ≤ w → lowest n xs ≡ value w n xs % 2
unfolding value
lowest-is w zero xs h = refl
lowest-is zero (suc n) xs h = absurd (omega arith)
lowest-is (suc w) (suc n) xs h = sym (block_odd (value (suc w) n (above xs)) w (first xs))

pub starts-value : (w n : ℕ) (qs : List ℕ) → 1 ≤ w → Words w n qs → value w n (starts_words w n qs) ≡ block_starts (n * w) (value w n qs)
unfolding value starts_words
starts-value w zero qs hw hq = refl
starts-value w (suc n) qs hw hq =
    let A = value w n (above qs) in
    let a = first qs in
    let N = (2 ^ (n * w) - 1) - A in
    let m = (2 ^ w - 1) - a in
    let l = half_lt w (A % 2) a (mod-lt A (zero-lt-suc 1)) hq.0 in
    ap₂ (λ (x c : ℕ). x * 2 ^ w + bit_and (half w c a) m) (starts-value w n (above qs) hw hq.1) (lowest-is w n (above qs) hw)
    ∙ sym (and_block w (A / 2) N (half w (A % 2) a) m l (not_lt (n * w) w a))
    ∙ sym (ap₂ bit_and (half_split (n * w) w A a) (ap (λ (k : ℕ). (2 ^ k - 1) - (A * 2 ^ w + a)) (span_suc w n) ∙ not_split (n * w) w A a (value-lt w n (above qs) hq.1) hq.0))

pub ends-value : (w n : ℕ) (qs : List ℕ) → 1 ≤ w → Words w n qs → value w n (ends_words w n qs) ≡ block_ends (n * w) (value w n qs)
unfolding value ends_words
ends-value w zero qs hw hq = refl
ends-value w (suc n) qs hw hq =
    let A = value w n (above qs) in
    let a = first qs in
    let h = half w (A % 2) a in
    let l = half_lt w (A % 2) a (mod-lt A (zero-lt-suc 1)) hq.0 in
    let b : A / 2 < 2 ^ (n * w) = let x = value-lt w n (above qs) hq.1 in omega arith in
    ap₂ (λ (x c : ℕ). x * 2 ^ w + bit_and a ((2 ^ w - 1) - half w c a)) (ends-value w n (above qs) hw hq.1) (lowest-is w n (above qs) hw)
    ∙ sym (and_block w A ((2 ^ (n * w) - 1) - A / 2) a ((2 ^ w - 1) - h) hq.0 (not_lt (n * w) w h))
    ∙ sym (ap (bit_and (A * 2 ^ w + a))
    (ap₂ (λ (k x : ℕ). (2 ^ k - 1) - x) (span_suc w n) (half_split (n * w) w A a) ∙ not_split (n * w) w (A / 2) h b l))

-- ---- shifts alone

pub shifts-value : (w n c : ℕ) (xs : List ℕ) → value w n (shift_words w n c xs) ≡ (value w n xs * 2 + c) % 2 ^ (n * w)
unfolding value shift_words
shifts-value w zero c xs = let e : 0 * w ≡ 0 = omega arith in sym (ap (λ (k : ℕ). (0 * 2 + c) % 2 ^ k) e ∙ mod-one (0 * 2 + c))
shifts-value w (suc n) c xs =
    ap (λ (m : ℕ). m * 2 ^ w + (first xs * 2 + c) % 2 ^ w) (shifts-value w n (carry w c (first xs)) (above xs))
    ∙ sym (shift_split (n * w) w (value w n (above xs)) (first xs) c) ∙ ap (λ (k : ℕ). (value w (suc n) xs * 2 + c) % 2 ^ k) (sym (span_suc w n))

pub halves_value : (w n : ℕ) (xs : List ℕ) → 1 ≤ w → value w n (half_words w n xs) ≡ value w n xs / 2
unfolding value half_words
halves_value w zero xs hw = refl
halves_value w (suc n) xs hw =
    ap₂ (λ (m c : ℕ). m * 2 ^ w + half w c (first xs)) (halves_value w n (above xs) hw) (lowest-is w n (above xs) hw)
    ∙ sym (half_split (n * w) w (value w n (above xs)) (first xs))

-- ---- the shortest length

abbrev pub required_of : (w n : ℕ) (ps qs : List ℕ) → ℕ
required_of w zero ps qs = 0
required_of w (suc n) ps qs = required_of w n (above ps) (above qs) + shortest w (first ps) (first qs)

pub required_value : (w n : ℕ) (ps qs : List ℕ) → Words w n ps → Words w n qs → shortest (n * w) (value w n ps) (value w n qs) ≡ required_of w n ps qs
unfolding value ones
required_value w zero ps qs hp hq = ap ones (and_zero_l ((2 ^ (0 * w) - 1) - 0))
required_value w (suc n) ps qs hp hq =
    let P = value w n (above ps) in
    let Q = value w n (above qs) in
    let p = first ps in
    let q = first qs in
    ap (λ (k : ℕ). ones (bit_and (P * 2 ^ w + p) ((2 ^ k - 1) - (Q * 2 ^ w + q)))) (span_suc w n)
    ∙ ap (λ (x : ℕ). ones (bit_and (P * 2 ^ w + p) x)) (not_split (n * w) w Q q (value-lt w n (above qs) hq.1) hq.0)
    ∙ ap ones (and_block w P ((2 ^ (n * w) - 1) - Q) p ((2 ^ w - 1) - q) hp.0 (not_lt 0 w q))
    ∙ ones_cat w (bit_and P ((2 ^ (n * w) - 1) - Q)) (bit_and p ((2 ^ w - 1) - q)) (lt_of_le_of_lt (and_le_l p ((2 ^ w - 1) - q)) hp.0)
    ∙ ap (λ (x : ℕ). x + shortest w p q) (required_value w n (above ps) (above qs) hp.1 hq.1)

-- ---- they are words

pub moves-words : (w n c : ℕ) (ds bs rs ks : List ℕ) → Words w n bs → Words w n ks → Words w n (move_words w n c ds bs rs ks)
unfolding move_words
moves-words w zero c ds bs rs ks hb hk = tt
moves-words w (suc n) c ds bs rs ks hb hk = (
  or_lt w _ _
      (or_lt w _ _ (lt_of_le_of_lt (and_le_r ((first ds * 2 + c) % 2 ^ w) (first bs)) hb.0)
      (lt_of_le_of_lt (and_le_r (first ds) (bit_and (first bs) (first rs))) (lt_of_le_of_lt (and_le_l (first bs) (first rs)) hb.0))) hk.0,
  moves-words w n (carry w c (first ds)) (above ds) (above bs) (above rs) (above ks) hb.1 hk.1,
)

pub floods_words : (w n o : ℕ) (ds qs is fs : List ℕ) → Words w n ds → Words w n qs → Words w n (flood_words w n o ds qs is fs)
unfolding flood_words
floods_words w zero o ds qs is fs hd hq = tt
floods_words w (suc n) o ds qs is fs hd hq = (
  flood-lt w (first ds) (first qs) (first is + o) (first fs) hd.0 hq.0,
  floods_words w n (borrows o (first ds) (first is) (first fs)) (above ds) (above qs) (above is) (above fs) hd.1 hq.1,
)

pub starts-words : (w n : ℕ) (qs : List ℕ) → Words w n (starts_words w n qs)
unfolding starts_words
starts-words w zero qs = tt
starts-words w (suc n) qs =
    (lt_of_le_of_lt (and_le_r (half w (lowest n (above qs)) (first qs)) ((2 ^ w - 1) - first qs)) (not_lt 0 w (first qs)), starts-words w n (above qs))

pub ends_words_lem : (w n : ℕ) (qs : List ℕ) → Words w n qs → Words w n (ends_words w n qs)
unfolding ends_words
ends_words_lem w zero qs h = tt
ends_words_lem w (suc n) qs h =
    (lt_of_le_of_lt (and_le_l (first qs) ((2 ^ w - 1) - half w (lowest n (above qs)) (first qs))) h.0, ends_words_lem w n (above qs) h.1)

-- no words at all
none-words : (w n : ℕ) → Words w n []
none-words w zero = tt
none-words w (suc n) = (pow_pos w, none-words w n)

-- ---- the step over the number of words

pub move-is : (w d b r k' k : ℕ) → k' ≡ k → move_word w 0 d b r k' ≡ move w d b (bit_and b r) k
unfolding move
move-is w d b r k' k e = ap₂ (λ (x y : ℕ). bit_or (bit_or (bit_and (x % 2 ^ w) b) (bit_and d (bit_and b r))) y) (add-zero (d * 2)) e

pub step_words_lem : (w n k : ℕ) (ds bs rs qs : List ℕ) → 1 ≤ w → k < 2 ^ w → Words w (suc n) ds → Words w (suc n) bs → Words w (suc n) rs → Words w (suc n) qs
    → value w (suc n) (step_words w (suc n) k ds bs rs qs)
    ≡ advance (suc n * w) (value w (suc n) ds) (value w (suc n) bs) (bit_and (value w (suc n) bs) (value w (suc n) rs)) k (value w (suc n) qs)
    (block_starts (suc n * w) (value w (suc n) qs)) (block_ends (suc n * w) (value w (suc n) qs))
unfolding step_words advance
step_words_lem w n k ds bs rs qs hw hk hd hb hr hq =
    let s = suc n in
    let W = suc n * w in
    let ks = k ∷ [] in
    let ms = move_words w s 0 ds bs rs ks in
    let hks : Words w s ks = (hk, none-words w n) in
    let Q = value w s qs in
    floods_value w s 0 ms qs (starts_words w s qs) (ends_words w s qs) (omega arith) (moves-words w s 0 ds bs rs ks hb hks) hq (starts-words w s qs) (ends_words_lem w s qs hq)
    ∙ ap (λ (x : ℕ). flood W x Q (value w s (starts_words w s qs) + 0) (value w s (ends_words w s qs))) (moves-value w s 0 ds bs rs ks hd hb hr hks ∙ move-is W (value w s ds) (value w s bs) (value w s rs) (value w s ks) k (value_low w n k))
    ∙ ap₂ (λ (i f : ℕ). flood W (move W (value w s ds) (value w s bs) (bit_and (value w s bs) (value w s rs)) k) Q i f) (add-zero _ ∙ starts-value w s qs hw hq) (ends-value w s qs hw hq)
