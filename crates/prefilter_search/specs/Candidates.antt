-- The tests by which a scan skips bytes. Assumes nothing.
use Rattle.std.specs.Prelude.{Bool, ◌&&◌, List, ℕ, ◌+◌, eqb, leb, get_or}
use Rattle.byte_search.specs.BlockTests.{meets}

-- the entry of the byte at k meets the word `next`
abbrev pub in_table : (table : List ℕ) (next : ℕ) (text : List ℕ) (k : ℕ) → Bool
in_table table next text k = meets table next (get_or text k 0)

-- the byte at k is from lo to hi
abbrev pub in_range : (text : List ℕ) (lo hi k : ℕ) → Bool
in_range text lo hi k = leb lo (get_or text k 0) && leb (get_or text k 0) hi

-- the byte at the offset a from k is x, and that at b is y
abbrev pub pair_at : (text : List ℕ) (a b x y k : ℕ) → Bool
pair_at text a b x y k = eqb (get_or text (k + a) 0) x && eqb (get_or text (k + b) 0) y
