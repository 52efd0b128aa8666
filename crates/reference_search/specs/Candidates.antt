-- Places where a form may begin, told by two bytes; and bytes that are let out as they came. Assumes nothing.
use Rattle.std.specs.Prelude.{◌≡◌, Bool, ◌&&◌, ◌||◌, List, ◌++◌, ℕ, ◌+◌, ◌-◌, ◌≤◌, eqb, length, take, drop, get_or}
use Rattle.model.specs.References.{form_limit, byte_tokens, held_tail, out_tokens}

-- the second byte of a form: `#`, or the first letter of a name
abbrev pub may_follow_amp : ℕ → Bool
may_follow_amp c = eqb c 35 || eqb c 97 || eqb c 103 || eqb c 108 || eqb c 113

-- a `&` at k, and then such a byte
abbrev pub candidate_at : (text : List ℕ) (k : ℕ) → Bool
candidate_at text k = eqb (get_or text k 0) 38 && may_follow_amp (get_or text (k + 1) 0)

-- The bytes from i up to r are let out as they came, and what is held back stands after them.
pub record LiteralEnd (text : List ℕ) (i r : ℕ) : Type 0 where
  pub fore : i ≤ r
  pub fits : r ≤ length text
  pub lets_out : out_tokens form_limit (drop i text) ≡ byte_tokens (take (r - i) (drop i text)) ++ out_tokens form_limit (drop r text)
  pub holds : held_tail form_limit (drop i text) ≡ held_tail form_limit (drop r text)
