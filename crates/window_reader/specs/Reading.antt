-- The window search's readings of a text as the machine makes them, for any table and masks. Every recursion is on the count of bytes still to be read, the
-- byte's place going with it. Assumes nothing.
use Rattle.std.specs.Prelude.{◌≡◌, Bool, true, false, cond, List, [], ◌∷◌, ◌++◌, ℕ, zero, suc, ◌+◌, ◌-◌, ◌^◌, ◌≤◌, ◌<◌, length, get_or, eqb}
use Rattle.std.proofs.lemmas.List.Edits.{sets}
use Rattle.shift_and.specs.ForwardStep.{top_bit}
use Rattle.shift_and.specs.Automaton.{Automaton, step_on, opening_state, all_states}
use Rattle.window_reader.specs.declared.WindowResult.{WindowResult}
use Rattle.window_reader.specs.declared.End.{End}
use Rattle.window_reader.specs.declared.End.TheVariants.{At, Dead, Open}

-- a place, if the test passes
abbrev pub last_if : Bool → ℕ → List ℕ
last_if true i = i ∷ []
last_if false i = []

module _ (A : Automaton) (text : List ℕ) where
  -- the step on the byte at i
  abbrev pub step_at : (k d i : ℕ) → ℕ
  step_at k d i = step_on A k d (get_or text i 0)

  -- A window read backwards: the bytes j .. 1 of window w are still to be read, and then byte 0; `last` is the least place so far from which the bytes begin
  -- a string.
  unfoldable pub seen_n : (w d last j : ℕ) → WindowResult
  seen_n w d last zero = record { shift = last; hit = top_bit A.top (step_at 0 d w) }
  seen_n w d last (suc j) =
      cond (eqb (step_at 0 d (w + suc j)) 0) (record { shift = last; hit = false })
      (seen_n w (step_at 0 d (w + suc j)) (cond (top_bit A.top (step_at 0 d (w + suc j))) (suc j) last) j)

  -- A start read forwards, of which k bytes from e on may be read: the first end; or none, as no state is left; or undecided.
  unfoldable pub ended_n : (d e k : ℕ) → End
  ended_n d e zero = Open
  ended_n d e (suc k) =
      cond (eqb (step_at 0 d e) 0) (Dead (e + 1))
      (cond (top_bit A.top (step_at 0 d e)) (At (e + 1)) (ended_n (step_at 0 d e) (e + 1) k))

  -- The starts among the k places from `from` on, the text after them having been read backwards up to the states d.
  unfoldable pub back_n : (from d k : ℕ) → List ℕ
  back_n from d zero = []
  back_n from d (suc k) = back_n from (step_at 1 d (from + k)) k ++ last_if (top_bit A.top (step_at 1 d (from + k))) (from + k)

-- ---- what the functions ask and give

pub record Window (size w len : ℕ) : Type 0 where
  pub some : 1 ≤ size
  pub fits : w + size ≤ len

-- Within window w the bytes j .. 1 are still to be read, and then byte 0: what they make of d and `last` is what the whole window makes of all states.
pub record Unread (A : Automaton) (size : ℕ) (text : List ℕ) (w d last j : ℕ) : Type 0 where
  pub below : j < size
  pub moves : 1 ≤ last
  pub short : last ≤ size
  pub rest : seen_n A text w d last j ≡ seen_n A text w (all_states A) size (size - 1)

pub record WindowIs (A : Automaton) (size : ℕ) (text : List ℕ) (w : ℕ) (x : WindowResult) : Type 0 where
  pub is : x ≡ seen_n A text w (all_states A) size (size - 1)
  pub moves : 1 ≤ x.shift
  pub short : x.shift ≤ size

-- where it says yes, the window holds nothing, and is shifted by its size
pub record SurelyMisses (A : Automaton) (size : ℕ) (text : List ℕ) (w : ℕ) (r : Bool) : Type 0 where
  pub says : r ≡ true → WindowIs A size text w (record { shift = size; hit = false })

abbrev pub Within : (s stop : ℕ) → End → Type 0
Within s stop (At e) = (s < e) × (e ≤ stop)
Within s stop (Dead e) = (s < e) × (e ≤ stop)
Within s stop Open = Unit {0}

pub record EndIs (A : Automaton) (text : List ℕ) (s stop : ℕ) (x : End) : Type 0 where
  pub is : x ≡ ended_n A text (opening_state A) s (stop - s)
  pub within : Within s stop x

abbrev pub starts_back : Automaton → (text : List ℕ) (from : ℕ) → List ℕ
starts_back A text from = back_n A text from (opening_state A) (length text - from)

pub record CountIs (A : Automaton) (text : List ℕ) (from k : ℕ) : Type 0 where
  pub is : k ≡ length (starts_back A text from)
  pub few : k + from ≤ length text

pub record WriteFine (A : Automaton) (text : List ℕ) (from len first k : ℕ) : Type 0 where
  pub from-within : from ≤ length text
  pub small : length text < 2 ^ 32
  pub count : k ≡ length (starts_back A text from)
  pub room : first + k ≤ len

pub record WroteIs (A : Automaton) (text : List ℕ) (from : ℕ) (l : List ℕ) (first : ℕ) (l' : List ℕ) : Type 0 where
  pub list : l' ≡ sets l first (starts_back A text from)
  pub long : length l' ≡ length l

pub record RestFine (len from listed first : ℕ) : Type 0 where
  pub from-within : from ≤ len
  pub small : len < 2 ^ 32
  pub ordered : first ≤ from
  pub room : len ≤ listed

pub record WrittenIs (A : Automaton) (text : List ℕ) (from : ℕ) (l : List ℕ) (first k : ℕ) (l' : List ℕ) : Type 0 where
  pub counted : CountIs A text from k
  pub wrote : WroteIs A text from l first l'
