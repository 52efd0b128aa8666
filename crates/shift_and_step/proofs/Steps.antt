-- The step where it may be done by less: nothing to flood, a state as a step leaves it. Assumes nothing.
use Rattle.std.proofs.Common.{◌≡◌, ℕ, ◌+◌, ◌-◌, ◌*◌, ◌%◌, ◌^◌, ◌<◌, Bool, true, false, ◌||◌, ◌&&◌, T, eqb, sym, ap, ◌∙◌, subst, lt_of_le_of_lt, arith, eqb-true, refl}
use lib.Bits.{bit_and, bit_or, bit_xor, and_le_l, and_le_r, or_lt, and_zero_r}
use Rattle.shift_and.specs.Bit.{is_set, bit}
use Rattle.shift_and.specs.ForwardStep.{wrap_sub, move, flood, advance, block_starts, block_ends, opening}
use Rattle.shift_and.proofs.Digits.{or_bit, and_bit, wrapped}
use Rattle.shift_and.proofs.DisjointBits.{same-all}
use Rattle.shift_and.proofs.Guarded.{flood_guarded}
use Rattle.shift_and.proofs.Unchanged.{flood-none, flood-lt, move-lt, move-odd, bit-odd, odd-bit}
use Rattle.shift_and.proofs.ClosedStates.{flood-again, flood-start, flood_quiet, start_in, start-lt, has_beside}
use Rattle.shift_and_step.specs.declared.Masks.{Masks}
use Rattle.shift_and_step.specs.declared.ClosureMasks.{ClosureMasks}
use Rattle.shift_and.specs.Automaton.{step_with}
use Rattle.shift_and_step.specs.Stepping.{step_n}
use Rattle.shift_and_step.specs.ClosedStates.{ClosureMasksOf, Closed, ClosedIs, StepsTo, Fixpoint}

-- nothing is optional: the step is the move
pub step_none : (m : Masks) (k d b x : ℕ) → m.optional ≡ 0 → x ≡ move 64 d b (bit_and b m.repeats) k → x ≡ step_n m k d b
unfolding step_with advance
step_none m k d b x z e = e ∙ sym (flood-none 64 _ (block_starts 64 0) (block_ends 64 0)) ∙ rw z

-- the move by the positions that may follow a state
pub by_follow : (d b r k : ℕ) → bit_or (bit_and b (bit_or (d * 2 % 2 ^ 64) (bit_and d r))) k ≡ move 64 d b (bit_and b r) k
unfolding move
by_follow d b r k =
    same-all (bit_or (bit_and b (bit_or (d * 2 % 2 ^ 64) (bit_and d r))) k) (bit_or (bit_or (bit_and (d * 2 % 2 ^ 64) b) (bit_and d (bit_and b r))) k)
    (λ j. simp (or_bit, and_bit) (shared (bit (d * 2 % 2 ^ 64) j) (bit d j) (bit b j) (bit r j) (bit k j)))
  where
    shared : (p q b r k : Bool) → ((b && (p || (q && r))) || k) ≡ (((p && b) || (q && (b && r))) || k)
    shared true q true r k = refl
    shared false true true r k = refl
    shared false false true r k = refl
    shared true true false r k = refl
    shared true false false r k = refl
    shared false true false r k = refl
    shared false false false r k = refl

-- an odd state stays odd in the flood, and so every step leaves one
flood-odd : (w d a i f : ℕ) → bit d 0 ≡ true → bit (flood w d a i f) 0 ≡ true
unfolding flood
flood-odd w d a i f e =
    let g : ℕ = bit_and a (bit_xor ((2 ^ w - 1) - wrap_sub w (bit_or d f) i) (bit_or d f)) in
    or_bit d g 0 ∙ ap (λ (p : Bool). p || bit g 0) e

step_odd : (m : Masks) (d b x : ℕ) → x ≡ step_n m 1 d b → x % 2 ≡ 1
unfolding step_with advance
step_odd m d b x e =
    let v : ℕ = move 64 d b (bit_and b m.repeats) 1 in
    let i = block_starts 64 m.optional in
    let f = block_ends 64 m.optional in
    rw e (bit-odd (flood 64 v m.optional i f) (flood-odd 64 v m.optional i f (move-odd 64 d b (bit_and b m.repeats))))

-- ---- a closed state

even-bit : (x : ℕ) → x % 2 ≡ 0 → bit x 0 ≡ false
unfolding bit
even-bit x e = ap is_set e

-- every step leaves one
pub step_closes : (m : Masks) (d b x : ℕ) → m.optional % 2 ≡ 0 → m.optional < 2 ^ 64 → b < 2 ^ 64 → x ≡ step_n m 1 d b → Closed m x
unfolding step_with advance
step_closes m d b x even word hb e =
    let a = m.optional in
    let y = move 64 d b (bit_and b m.repeats) 1 in
    let hy : y < 2 ^ 64 = move-lt 64 d b (bit_and b m.repeats) 1 hb (lt_of_le_of_lt (and_le_l b m.repeats) hb) (omega arith) in
    record {
      even = even;
      word = word;
      small = rw e (flood-lt 64 y a (block_starts 64 a) (block_ends 64 a) hy word);
      odd = step_odd m d b x e;
      flooded = rw e (flood-again 64 a word (even-bit a even) y hy);
    }

module _ (m : Masks) (q : ClosureMasks) (of : ClosureMasksOf m.optional q) {d : ℕ} (s : Closed m d) where
  abbrev flooded_by : ℕ → ℕ
  flooded_by x = flood 64 x m.optional (block_starts 64 m.optional) (block_ends 64 m.optional)

  pub has-start : bit_and d q.start ≡ q.start
  has-start = rw of.start (start_in 64 m.optional s.word (even-bit m.optional s.even) (omega arith) d s.small (odd-bit d s.odd) s.flooded)

  module _ {b x : ℕ} (hb : b < 2 ^ 64) (ex : x ≡ move 64 d b (bit_and b m.repeats) q.start) where
    y : ℕ
    y = bit_or (bit_and (d * 2 % 2 ^ 64) b) (bit_and d (bit_and b m.repeats))

    y_lt : y < 2 ^ 64
    unfolding y
    y_lt =
        or_lt 64 (bit_and (d * 2 % 2 ^ 64) b) (bit_and d (bit_and b m.repeats)) (lt_of_le_of_lt (and_le_r (d * 2 % 2 ^ 64) b) hb)
        (lt_of_le_of_lt (and_le_r d (bit_and b m.repeats)) (lt_of_le_of_lt (and_le_l b m.repeats) hb))

    x_is : x ≡ bit_or y (opening 64 m.optional)
    unfolding y move
    x_is = ex ∙ ap (bit_or (bit_or (bit_and (d * 2 % 2 ^ 64) b) (bit_and d (bit_and b m.repeats)))) of.start

    x_lt : x < 2 ^ 64
    x_lt = rw x_is (or_lt 64 y (opening 64 m.optional) y_lt (start-lt 64 m.optional s.word (even-bit m.optional s.even) (omega arith)))

    -- the step is the flood of x
    by_flood : flooded_by x ≡ step_n m 1 d b
    unfolding step_with advance y move
    by_flood = ap flooded_by x_is ∙ flood-start 64 m.optional s.word (even-bit m.optional s.even) (omega arith) y y_lt

    closes : {r : ℕ} → r ≡ step_n m 1 d b → StepsTo m d b r
    closes {r} e = record { is = e; closes = step_closes m d b r s.even s.word hb e }

    -- x touches nothing
    pub step_still : bit_and x q.closing ≡ 0 → StepsTo m d b x
    step_still z =
        let has : bit_and x (opening 64 m.optional) ≡ opening 64 m.optional = rw x_is (has_beside y (opening 64 m.optional)) in
        closes (sym (flood_quiet 64 m.optional s.word (even-bit m.optional s.even) (omega arith) x x_lt has (rw (← of.closing) z)) ∙ by_flood)

    pub step_plain : q.closing ≡ 0 → StepsTo m d b x
    step_plain z = step_still (ap (bit_and x) z ∙ and_zero_r x)

    -- x is the state before
    pub stays_where : Fixpoint m d b (eqb x d)
    stays_where = record { says = λ t. sym (sym s.flooded ∙ ap flooded_by (sym (eqb-true x d t)) ∙ by_flood) }

    pub step_flood : {r : ℕ} → r ≡ flood 64 x m.optional (block_starts 64 m.optional) (block_ends 64 m.optional) → StepsTo m d b r
    step_flood {r} e = closes (e ∙ by_flood)

-- ---- `is_closed`

pub is_closed_lem : (m : Masks) (q : ClosureMasks) (d f : ℕ) → ClosureMasksOf m.optional q → m.optional < 2 ^ 64 → d < 2 ^ 64 → m.optional % 2 ≡ 0 → d % 2 ≡ 1
    → f ≡ flood 64 d m.optional (block_starts 64 m.optional) (block_ends 64 m.optional) → {r : Bool} → r ≡ eqb f d → ClosedIs m d r
is_closed_lem m q d f of word small even odd e {r} er = record {
  says = λ t. record {
    even = even;
    word = word;
    small = small;
    odd = odd;
    flooded = sym e ∙ eqb-true f d (sym er ∙ t);
  };
}

-- the opening state is one
pub start_closed : (m : Masks) (q : ClosureMasks) (d : ℕ) → ClosureMasksOf m.optional q → m.optional < 2 ^ 64 → m.optional % 2 ≡ 0 → d ≡ q.start → ClosedIs m d true
unfolding opening
start_closed m q d of word even e =
    let a = m.optional in
    let k : d ≡ flood 64 1 a (block_starts 64 a) (block_ends 64 a) = e ∙ of.start in
    record {
      says = λ t. record {
        even = even;
        word = word;
        small = rw k (flood-lt 64 1 a (block_starts 64 a) (block_ends 64 a) (omega arith) word);
        odd = rw k (bit-odd (flood 64 1 a (block_starts 64 a) (block_ends 64 a)) (flood-odd 64 1 a (block_starts 64 a) (block_ends 64 a) (odd-bit 1 (omega arith))));
        flooded = rw k (flood-again 64 a word (even-bit a even) 1 (omega arith));
      };
    }

pub unclosed : (m : Masks) (d : ℕ) → ClosedIs m d false
unclosed m d = record { says = λ t. absurd (no t) }
  where
    no : false ≡ true → ⊥
    no p = subst (λ (b : Bool). T b) (sym p) tt

pub closed_by : {m : Masks} {d : ℕ} {r : Bool} → ClosedIs m d r → r ≡ true → Closed m d
closed_by s t = s.says t

-- ---- `closure_masks`

pub blocks_are : {optional home first last less : ℕ} {free stays : Bool} → home ≡ opening 64 optional → first ≡ block_starts 64 optional → last ≡ block_ends 64 optional → first < 2 ^ 64 → less < 2 ^ 64
    → (less + 1) % 2 ^ 64 ≡ first → free ≡ eqb (bit_and (last * 2 % 2 ^ 64) first) 0
    → ClosureMasksOf optional (record { start = home; minuend = less; ends = last; past = last * 2 % 2 ^ 64; closing = bit_and (bit_or optional first) ((2 ^ 64 - 1) - home); separated = free; starred = stays })
blocks_are {optional} {home} {first} {last} {less} eh ef el hf hl e k = record {
  start = eh;
  minuend = wrapped first 1 less (omega arith) hl e ∙ ap (λ (i : ℕ). wrap_sub 64 i 1) ef;
  small = rw ef at hf;
  ends = el;
  past = rw el;
  separated = λ t. rw (← ef) (eqb-true (bit_and (last * 2 % 2 ^ 64) first) 0 (sym k ∙ t));
  closing = rw (eh, ef);
}

-- ---- `flood_turned`

-- !(g - i) is (i - 1) - g
turned : (g i l t : ℕ) → g < 2 ^ 64 → i < 2 ^ 64 → t < 2 ^ 64 → l ≡ wrap_sub 64 i 1 → (t + g) % 2 ^ 64 ≡ l → t ≡ (2 ^ 64 - 1) - wrap_sub 64 g i
turned g i l t hg hi ht el e = omega arith

pub flood-turned : (optional : ℕ) (q : ClosureMasks) → ClosureMasksOf optional q → (d t : ℕ) → d < 2 ^ 64 → q.ends < 2 ^ 64 → t < 2 ^ 64 → (t + bit_or d q.ends) % 2 ^ 64 ≡ q.minuend
    → bit_or d (bit_and optional (bit_xor t (bit_or d q.ends))) ≡ flood 64 d optional (block_starts 64 optional) (block_ends 64 optional)
unfolding flood
flood-turned optional q of d t hd hl ht e =
    let g = bit_or d q.ends in
    let hg : g < 2 ^ 64 = or_lt 64 d q.ends hd hl in
    let k : t ≡ (2 ^ 64 - 1) - wrap_sub 64 g (block_starts 64 optional) = turned g (block_starts 64 optional) q.minuend t hg of.small ht of.minuend e in
    ap (λ (n : ℕ). bit_or d (bit_and optional (bit_xor n g))) k ∙ ap (λ (f : ℕ). bit_or d (bit_and optional (bit_xor ((2 ^ 64 - 1) - wrap_sub 64 (bit_or d f) (block_starts 64 optional)) (bit_or d f)))) of.ends

-- ---- `flood_guarded`

pub flood-free : (optional : ℕ) (q : ClosureMasks) → ClosureMasksOf optional q → q.separated ≡ true → optional % 2 ≡ 0 → optional < 2 ^ 64 → (d t : ℕ) → d < 2 ^ 64 → q.past < 2 ^ 64 → t < 2 ^ 64
    → (t + bit_or d q.past) % 2 ^ 64 ≡ q.minuend
    → bit_or d (bit_and optional t) ≡ flood 64 d optional (block_starts 64 optional) (block_ends 64 optional)
flood-free optional q of free even word d t hd hg ht e =
    let g = bit_or d q.past in
    let k : t ≡ (2 ^ 64 - 1) - wrap_sub 64 g (block_starts 64 optional) =
    turned g (block_starts 64 optional) q.minuend t (or_lt 64 d q.past hd hg) of.small ht of.minuend e in
    ap (λ (n : ℕ). bit_or d (bit_and optional n)) k
    ∙ ap (λ (h : ℕ). bit_or d (bit_and optional ((2 ^ 64 - 1) - wrap_sub 64 (bit_or d h) (block_starts 64 optional)))) of.past
    ∙ flood_guarded 64 d optional hd word (even-bit optional even) (rw of.past at (of.separated free))

pub even_of : {m : Masks} {d : ℕ} → Closed m d → m.optional % 2 ≡ 0
even_of s = s.even
