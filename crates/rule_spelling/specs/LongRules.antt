-- Rules as long as may be, as closed cases; stored ones whose text is past the limit, or at it, after some step of the rewriter; and LIKE patterns of many items. They are here because every wrong
-- definition that `model` is tried with computes its examples again. Assumes nothing.
use Rattle.std.specs.Prelude.{false, List, [], ◌∷◌, ◌++◌, ℕ, T, replicate}
use Rattle.model.specs.Ascii.{ascii}
use Rattle.model.specs.Examples.{refuses, has, rules_hold, becomes, turned, stored_hold, likes, turned_down, patterns_hold}

-- a class of n + 2 bytes
abbrev wide : (n : ℕ) → List ℕ
wide n = ascii "[" ++ replicate n 97 ++ ascii "]"

long-rules : T (rules_hold false (
    refuses (ascii "[" ++ replicate 1021 97) 3 0  -- 1,022 bytes
    ∷ has (wide 1021) 1 1  -- 1,023 bytes
    ∷ []
    ))
long-rules = tt

long-stored : T (stored_hold (
    becomes (ascii "{98,99}" ++ wide 923) (replicate 98 46 ++ wide 923)  -- 1,023 bytes
    ∷ turned false (ascii "{98,99}" ++ wide 924) 1023 2 1023  -- 1,024 bytes
    ∷ becomes (ascii "{98,99}" ++ wide 920 ++ ascii "{0,1}") (replicate 98 46 ++ wide 920)  -- the front step's text has 1,025 bytes, the finished one 1,020
    ∷ []
    ))
long-stored = tt

long-patterns : T (patterns_hold (
    turned_down (replicate 2000 97 ++ ascii "\\") 1023 14 2000  -- "checked before" 2
    ∷ turned_down (replicate 255 37) 1023 8 510
    ∷ turned_down (replicate 256 37) 1023 7 510
    ∷ turned_down (replicate 511 37) 1023 7 510  -- 1,022 bytes of rule text
    ∷ turned_down (replicate 512 37) 1023 2 1023
    ∷ turned_down (replicate 256 46) 1023 7 510
    ∷ turned_down (replicate 1024 97) 1023 2 1023
    ∷ likes (replicate 254 97 ++ ascii "%") (replicate 255 97)
    ∷ []
    ))
long-patterns = tt
