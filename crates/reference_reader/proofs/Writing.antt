-- `put_utf8`: the bytes of a code point by its range. Assumes nothing.
use mathlib.Core.Path.{◌≡◌, ap}
use mathlib.Core.List.{List, [], ◌∷◌}
use Prim.Native.Nat.{ℕ, ◌+◌, ◌/◌, ◌%◌, ◌<◌, ◌≤◌}
use native.Mathlib.Omega.{arith}
use lib.ListN.{length, set}
use borrow.Author.Tests.{lt-ltb, le-ltb}
use Rattle.model.specs.References.{utf8}
use Rattle.reference_reader.specs.Utf8.{Put}

-- in each range: the bytes; that there is room for each, k being a place among them; and what the stores are
module _ (c : ℕ) where
  one : c < 128 → utf8 c ≡ c ∷ []
  unfolding utf8
  one h = simp (lt-ltb _ _ h)

  module _ (h : c < 128) where
    pub room1 : (k n : ℕ) → length (utf8 c) ≤ n → k < 1 → k < n
    room1 k n r l = omega (arith, ap length (one h))

    pub put1 : (l : List ℕ) → Put l c 1 (set l 0 c)
    put1 l = record { count = rw (one h); list = rw (one h) }

  module _ (a : 128 ≤ c) where
    two : c < 2048 → utf8 c ≡ (192 + c / 64) ∷ (128 + c % 64) ∷ []
    unfolding utf8
    two h = simp (le-ltb _ _ a, lt-ltb _ _ h)

    module _ (h : c < 2048) where
      pub room2 : (k n : ℕ) → length (utf8 c) ≤ n → k < 2 → k < n
      room2 k n r l = omega (arith, ap length (two h))

      pub put2 : (l : List ℕ) → Put l c 2 (set (set l 0 (192 + c / 64)) 1 (128 + c % 64))
      put2 l = record { count = rw (two h); list = rw (two h) }

    module _ (b : 2048 ≤ c) where
      three : c < 65536 → utf8 c ≡ (224 + c / 4096) ∷ (128 + c / 64 % 64) ∷ (128 + c % 64) ∷ []
      unfolding utf8
      three h = simp (le-ltb _ _ a, le-ltb _ _ b, lt-ltb _ _ h)

      four : 65536 ≤ c → utf8 c ≡ (240 + c / 262144) ∷ (128 + c / 4096 % 64) ∷ (128 + c / 64 % 64) ∷ (128 + c % 64) ∷ []
      unfolding utf8
      four h = simp (le-ltb _ _ a, le-ltb _ _ b, le-ltb _ _ h)

      module _ (h : c < 65536) where
        pub room3 : (k n : ℕ) → length (utf8 c) ≤ n → k < 3 → k < n
        room3 k n r l = omega (arith, ap length (three h))

        pub put3 : (l : List ℕ) → Put l c 3 (set (set (set l 0 (224 + c / 4096)) 1 (128 + c / 64 % 64)) 2 (128 + c % 64))
        put3 l = record { count = rw (three h); list = rw (three h) }

      module _ (h : 65536 ≤ c) where
        pub room4 : (k n : ℕ) → length (utf8 c) ≤ n → k < 4 → k < n
        room4 k n r l = omega (arith, ap length (four h))

        pub put4 : (l : List ℕ)
            → Put l c 4 (set (set (set (set l 0 (240 + c / 262144)) 1 (128 + c / 4096 % 64)) 2 (128 + c / 64 % 64)) 3 (128 + c % 64))
        put4 l = record { count = rw (four h); list = rw (four h) }
