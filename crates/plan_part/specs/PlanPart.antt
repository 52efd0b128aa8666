-- The plan's part of a scan value: its layout, how it is read and written, which parts are impossible, and when a call is refused. What can be derived is not
-- stored. Assumes nothing.
use Rattle.std.specs.Prelude.{◌≡◌, Bool, true, ◌&&◌, List, [], ◌∷◌, ◌++◌, ℕ, zero, suc, ◌+◌, ◌*◌, ◌/◌, ◌%◌, ◌^◌, ◌≤◌, ◌<◌, leb, ltb, length, get_or, take, drop}
use Rattle.model.specs.NumberedAnswers.{text_limit}
use Rattle.model.specs.References.{form_limit, held_most, held_tail, can_grow}
use Rattle.model.specs.RawPlaces.{pair_numbers}
use Rattle.model.specs.PlainScan.{refusal_for}
use Rattle.answers.specs.declared.Refusal.{Refusal}
use Rattle.answers.specs.Answers.{number_of}
use Rattle.piece_decoder.specs.declared.held.Held.{Held}
use Rattle.piece_decoder.specs.Held.{held_of}

-- ---- how it is read

-- where each field stands, the held bytes last
abbrev pub finished_at : ℕ
finished_at = 0

abbrev pub raw_at : ℕ
raw_at = finished_at + 1

abbrev pub decoded_at : ℕ
decoded_at = raw_at + 1

abbrev pub held_count_at : ℕ
held_count_at = decoded_at + 1

abbrev pub held_at : ℕ
held_at = held_count_at + 1

-- eight held bytes to a word
abbrev pub held_words : ℕ
held_words = (held_most form_limit + 7) / 8

abbrev pub plan_length : ℕ
plan_length = held_at + held_words

abbrev pub finished_of : List ℕ → ℕ
finished_of p = get_or p finished_at 0

abbrev pub raw_of : List ℕ → ℕ
raw_of p = get_or p raw_at 0

abbrev pub decoded_of : List ℕ → ℕ
decoded_of p = get_or p decoded_at 0

abbrev pub held_count_of : List ℕ → ℕ
held_count_of p = get_or p held_count_at 0

-- held byte j: byte j mod 8, the lowest being 0, of held word j / 8
abbrev pub held_byte_of : List ℕ → ℕ → ℕ
held_byte_of p j = get_or p (held_at + j / 8) 0 / 2 ^ (8 * (j % 8)) % 256

-- the first n of them
abbrev pub first_held_of : List ℕ → (n : ℕ) → List ℕ
first_held_of p zero = []
first_held_of p (suc n) = first_held_of p n ++ (held_byte_of p n ∷ [])

abbrev pub held_bytes_of : List ℕ → List ℕ
held_bytes_of p = first_held_of p (held_count_of p)

-- ---- how it is written

-- bytes as one number, the first of them its lowest byte
abbrev pub word_of : List ℕ → ℕ
word_of [] = 0
word_of (c ∷ cs) = c + 256 * word_of cs

-- n held words: the bytes, eight to each, and 0 past them
unfoldable pub words_of : (n : ℕ) → List ℕ → List ℕ
words_of zero h = []
words_of (suc n) h = word_of (take 8 h) ∷ words_of n (drop 8 h)

-- all its fields
unfoldable pub plan_fields : (finished raw decoded : ℕ) (held : List ℕ) → List ℕ
plan_fields finished raw decoded held = finished ∷ raw ∷ decoded ∷ length held ∷ words_of held_words held

-- ---- impossible parts

-- "its held bytes, if any, are .. such a tail": all of them can still grow into a form
unfoldable pub is_tail : List ℕ → Bool
is_tail [] = true
is_tail (c ∷ cs) = can_grow form_limit (c ∷ cs)

-- "A scan value is impossible when .. its held bytes, if any, are not such a tail, or decoded plus held counts exceed the raw count, or, lent as a slice, it
-- has .. a number that its field cannot hold." (A held word holds any number: eight bytes.)
unfoldable pub possible_plan : List ℕ → Bool
possible_plan p =
    leb (finished_of p) 1
    && (leb (raw_of p) text_limit
    && (leb (decoded_of p) text_limit
    && (leb (held_count_of p) (held_most form_limit)
    && (leb (decoded_of p + held_count_of p) (raw_of p)
    && is_tail (held_bytes_of p)))))

-- What holds of a possible part.
pub record PlanPossible (p : List ℕ) : Type 0 where
  pub long : length p ≡ plan_length
  pub raw : raw_of p ≤ text_limit
  pub sum : decoded_of p + held_count_of p ≤ raw_of p
  pub few : held_count_of p ≤ held_most form_limit
  pub tail : held_tail form_limit (held_bytes_of p) ≡ held_bytes_of p

pub record PlanPossibleIs (p : List ℕ) (r : Bool) : Type 0 where
  pub is : r ≡ possible_plan p
  pub says : r ≡ true → PlanPossible p

-- ---- held bytes that are loaded, and stored

-- `loaded_byte`, `load`
pub record BytePlace (p : List ℕ) (j : ℕ) : Type 0 where
  pub long : length p ≡ plan_length
  pub few : j < held_most form_limit

pub record LoadFine (p : List ℕ) : Type 0 where
  pub long : length p ≡ plan_length
  pub few : held_count_of p ≤ held_most form_limit

pub record LoadIs (p : List ℕ) (r : Held) : Type 0 where
  pub is : held_of r ≡ held_bytes_of p
  pub size : r.len ≡ held_count_of p
  pub few : r.len ≤ held_most form_limit
  pub long : length r.bytes ≡ form_limit

-- held bytes that a part can hold
pub record HeldFits (h : Held) : Type 0 where
  pub long : length h.bytes ≡ form_limit
  pub few : h.len ≤ held_most form_limit

-- `wide`, `held_byte`
pub record Widened (c r : ℕ) : Type 0 where
  pub is : r ≡ c
  pub small : r < 256

pub record HeldByteIs (h : Held) (j r : ℕ) : Type 0 where
  pub is : r ≡ get_or (held_of h) j 0
  pub small : r < 256

-- `pack_four`, `pack_eight`: n bytes from the held byte j on, as one number
pub record PackFine (h : Held) (j n : ℕ) : Type 0 where
  pub fits : HeldFits h
  pub within : j + n ≤ 8 * held_words

pub record Packed (h : Held) (j n r : ℕ) : Type 0 where
  pub is : r ≡ word_of (take n (drop j (held_of h)))
  pub small : r < 2 ^ (8 * n)

-- ---- refused calls

-- "a scan call checks .. 12, 10, 9": on a possible part, for a piece of k bytes and a list of n numbers; 0 if nothing refuses it
unfoldable pub plan_refusal : List ℕ → (k n : ℕ) → ℕ
plan_refusal p k n = refusal_for form_limit (ltb 0 (finished_of p)) (raw_of p) k n

-- What holds if nothing refuses it.
pub record PlanAccepts (p : List ℕ) (k n : ℕ) : Type 0 where
  pub going : finished_of p ≡ 0
  pub small : raw_of p + k ≤ text_limit
  pub room : pair_numbers * (k + held_most form_limit) ≤ n

-- A call that nothing refuses, or one that is refused, by the model's number.
pub record PlanLetsIn (p : List ℕ) (k n : ℕ) : Type 0 where
  pub is : plan_refusal p k n ≡ 0
  pub accepts : PlanAccepts p k n

pub record PlanTurnsDown (p : List ℕ) (k n : ℕ) (x : Refusal) : Type 0 where
  pub is : plan_refusal p k n ≡ number_of x
