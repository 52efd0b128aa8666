-- Document 01, "Forward step": the step on words as the machine computes it, for any masks and any state; its width, 256 there, is a parameter w.
-- `Closure` of proofs/ says what its bits are. Assumes nothing.
use Rattle.std.specs.Prelude.{ℕ, ◌+◌, ◌-◌, ◌*◌, ◌/◌, ◌%◌, ◌^◌, Bool, ◌==◌, bit_and, bit_or, bit_xor, count_ones}

-- "((D shifted up by one, bit 255 dropping out) and B[c]) or (D and S[c]) or 1": b is B[c], s is S[c], and k the bit that every step sets, if any.
unfoldable pub move : (w d b s k : ℕ) → ℕ
move w d b s k = bit_or (bit_or (bit_and ((d * 2) % 2 ^ w) b) (bit_and d s)) k

-- "the subtraction being modulo 2^256", for a y of w bits
abbrev pub wrap_sub : (w x y : ℕ) → ℕ
wrap_sub w x y = (x + (2 ^ w - y)) % 2 ^ w

-- "Then Df = D or F, and D gains A and ((not (Df − I)) xor Df)".
unfoldable pub flood : (w d a i f : ℕ) → ℕ
flood w d a i f = bit_or d (bit_and a (bit_xor ((2 ^ w - 1) - wrap_sub w (bit_or d f) i) (bit_or d f)))

unfoldable pub advance : (w d b s k a i f : ℕ) → ℕ
unfolding move flood
advance w d b s k a i f = flood w (move w d b s k) a i f

-- "A marks optional positions; each run of them is a block, I the bit before its first, F its last."
abbrev pub block_starts : (w a : ℕ) → ℕ
block_starts w a = bit_and (a / 2) ((2 ^ w - 1) - a)

abbrev pub block_ends : (w a : ℕ) → ℕ
block_ends w a = bit_and a ((2 ^ w - 1) - a / 2)

-- "The opening D is 1 after the same second half."
unfoldable pub opening : (w a : ℕ) → ℕ
unfolding flood
opening w a = flood w 1 a (block_starts w a) (block_ends w a)

-- "The top position's bit reports an end": bit n.
unfoldable pub top_bit : (n d : ℕ) → Bool
top_bit n d = d / 2 ^ n % 2 == 1

-- "The shortest length, m, is the count of positions that are not optional, read off as ones in a mask": p are the positions.
abbrev pub shortest : (w p a : ℕ) → ℕ
shortest w p a = count_ones (bit_and p ((2 ^ w - 1) - a))
