-- A table in four planes, and an entry written into it. Assumes nothing.
use mathlib.Core.Path.{◌≡◌, sym, ap, ◌∙◌}
use mathlib.Core.List.{List}
use Prim.Native.Nat.{ℕ, ◌+◌, ◌<◌}
use native.Mathlib.Omega.{arith}
use lib.ListN.{length, get_or, set, length-set}
use lib.Seq.{get_or-set_same, get_or-set_other}
use Rattle.shift_and_wide.specs.declared.Wide.{Wide}
use Rattle.shift_and_wide.specs.Wides.{number}
use Rattle.shift_and_wide.specs.Stepping.{entry_of}
use Rattle.shift_and_wide.proofs.Wides.{same, entry-is}
use Rattle.window_reader.specs.States.{EntryWritten}
use Rattle.window_reader.specs.WideStates.{with_entry, WideEntryWritten}

-- ---- one entry

module _ (t : List ℕ) (c : ℕ) (d : Wide) where
  entry-long : length (with_entry t c d) ≡ length t
  entry-long = simp length-set

  pub entry-written : (t' : List ℕ) → t' ≡ with_entry t c d → WideEntryWritten t c d t'
  entry-written t' e = record { is = e; long = ap length e ∙ entry-long }

  -- the list before each store
  abbrev t₁ : List ℕ
  t₁ = set t c d.w0

  abbrev t₂ : List ℕ
  t₂ = set t₁ (c + 256) d.w1

  abbrev t₃ : List ℕ
  t₃ = set t₂ (c + 512) d.w2

  -- at no place of the entry
  off : (i : ℕ) → (i ≡ c → ⊥) → (i ≡ c + 256 → ⊥) → (i ≡ c + 512 → ⊥) → (i ≡ c + 768 → ⊥) → get_or (with_entry t c d) i 0 ≡ get_or t i 0
  off i n₀ n₁ n₂ n₃ =
      get_or-set_other t₃ (c + 768) i d.w3 0 n₃ ∙ get_or-set_other t₂ (c + 512) i d.w2 0 n₂ ∙ get_or-set_other t₁ (c + 256) i d.w1 0 n₁
      ∙ get_or-set_other t c i d.w0 0 n₀

  module _ (long : length t ≡ 1024) (small : c < 256) where
    pub store_1 : c + 256 < length t₁
    store_1 = simp length-set (omega arith)

    pub store_2 : c + 512 < length t₂
    store_2 = simp length-set (omega arith)

    pub store_3 : c + 768 < length t₃
    store_3 = simp length-set (omega arith)

    at_0 : get_or (with_entry t c d) c 0 ≡ d.w0
    at_0 =
        get_or-set_other t₃ (c + 768) c d.w3 0 (λ e. omega arith) ∙ get_or-set_other t₂ (c + 512) c d.w2 0 (λ e. omega arith)
        ∙ get_or-set_other t₁ (c + 256) c d.w1 0 (λ e. omega arith) ∙ get_or-set_same t c d.w0 0 (omega arith)

    at_1 : get_or (with_entry t c d) (c + 256) 0 ≡ d.w1
    at_1 =
        get_or-set_other t₃ (c + 768) (c + 256) d.w3 0 (λ e. omega arith) ∙ get_or-set_other t₂ (c + 512) (c + 256) d.w2 0 (λ e. omega arith)
        ∙ get_or-set_same t₁ (c + 256) d.w1 0 store_1

    at_2 : get_or (with_entry t c d) (c + 512) 0 ≡ d.w2
    at_2 = get_or-set_other t₃ (c + 768) (c + 512) d.w3 0 (λ e. omega arith) ∙ get_or-set_same t₂ (c + 512) d.w2 0 store_2

    at_3 : get_or (with_entry t c d) (c + 768) 0 ≡ d.w3
    at_3 = get_or-set_same t₃ (c + 768) d.w3 0 store_3

    entry_here : entry_of (with_entry t c d) c ≡ d
    entry_here = sym (entry-is (with_entry t c d) c small) ∙ same _ _ _ _ d.w0 d.w1 d.w2 d.w3 at_0 at_1 at_2 at_3

    entry_other : (i : ℕ) → i < 256 → (i ≡ c → ⊥) → entry_of (with_entry t c d) i ≡ entry_of t i
    entry_other i l n =
        sym (entry-is (with_entry t c d) i l)
        ∙ same _ _ _ _ _ _ _ _ (off i (λ e. omega arith) (λ e. omega arith) (λ e. omega arith) (λ e. omega arith))
        (off (i + 256) (λ e. omega arith) (λ e. omega arith) (λ e. omega arith) (λ e. omega arith))
        (off (i + 512) (λ e. omega arith) (λ e. omega arith) (λ e. omega arith) (λ e. omega arith))
        (off (i + 768) (λ e. omega arith) (λ e. omega arith) (λ e. omega arith) (λ e. omega arith))
        ∙ entry-is t i l

    -- what `write_planes` leaves, said of numbers
    pub numbers-written : {t' : List ℕ} → WideEntryWritten t c d t' → EntryWritten (λ t c. number (entry_of t c)) t c (number d) t'
    numbers-written {t'} w = record {
      long = w.long;
      here = ap (λ (x : List ℕ). number (entry_of x c)) w.is ∙ ap number entry_here;
      elsewhere = λ i l n. ap (λ (x : List ℕ). number (entry_of x i)) w.is ∙ ap number (entry_other i l n);
    }
