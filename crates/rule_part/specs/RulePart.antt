-- The rule's part of a scan value: its layout, how it is read and written, and which parts are impossible. Assumes nothing.
use Rattle.std.specs.Prelude.{◌≡◌, Bool, true, ◌&&◌, List, ◌∷◌, ◌++◌, ℕ, ◌+◌, ◌≤◌, leb, length, get_or, take}
use Rattle.std.proofs.lemmas.List.Edits.{sets}
use Rattle.model.specs.RuleText.{position_limit}
use Rattle.shift_and_wide.specs.declared.Wide.{Wide}
use Rattle.shift_and_wide.specs.declared.WideMasks.{WideMasks}
use Rattle.shift_and_wide.specs.Wides.{words}
use Rattle.shift_and_wide.specs.Stepping.{WideAutomaton, wide_automaton_of, opening_state_w}

-- where each field stands: B in four planes, word 0 of each byte's entry first, and then the others one after another
abbrev pub table_length : ℕ
table_length = 1024

abbrev pub repeats_at : ℕ
repeats_at = table_length

abbrev pub optional_at : ℕ
optional_at = repeats_at + 4

abbrev pub positions_at : ℕ
positions_at = optional_at + 4

abbrev pub state_at : ℕ
state_at = positions_at + 1

abbrev pub rule_length : ℕ
rule_length = state_at + 4

abbrev pub entries_of : List ℕ → List ℕ
entries_of r = take table_length r

-- the four words from a place on
abbrev pub words_at : (k : ℕ) → List ℕ → Wide
words_at k r = record { w0 = get_or r k 0; w1 = get_or r (k + 1) 0; w2 = get_or r (k + 2) 0; w3 = get_or r (k + 3) 0 }

abbrev pub count_of : List ℕ → ℕ
count_of r = get_or r positions_at 0

abbrev pub masks_of : List ℕ → WideMasks
masks_of r = record { repeats = words_at repeats_at r; optional = words_at optional_at r; top = count_of r }

-- what it steps by
abbrev pub automaton_of_rule : List ℕ → WideAutomaton
automaton_of_rule r = wide_automaton_of (entries_of r) (masks_of r)

abbrev pub state_of : List ℕ → Wide
state_of r = words_at state_at r

-- "A scan value is impossible when it has over 255 positions or none": any table, masks and state are possible.
unfoldable pub possible_rule : List ℕ → Bool
possible_rule r = leb 1 (count_of r) && leb (count_of r) position_limit

pub record RulePossible (r : List ℕ) : Type 0 where
  pub some : 1 ≤ count_of r
  pub top : count_of r ≤ position_limit

pub record RulePossibleIs (r : List ℕ) (b : Bool) : Type 0 where
  pub is : b ≡ possible_rule r
  pub says : b ≡ true → RulePossible r

-- `put_words`: four words are stored from k on
pub record WordsPut (l : List ℕ) (k : ℕ) (x : Wide) (l' : List ℕ) : Type 0 where
  pub list : l' ≡ sets l k (words x)
  pub long : length l' ≡ length l

-- with another state, which stands last
unfoldable pub with_state : List ℕ → (d : Wide) → List ℕ
with_state r d = take state_at r ++ words d

-- all its fields
unfoldable pub rule_fields : (table : List ℕ) (m : WideMasks) (d : Wide) → List ℕ
rule_fields table m d = table ++ (words m.repeats ++ (words m.optional ++ (m.top ∷ words d)))

-- `begin`: the table stays, and D is the opening one
abbrev pub begun : List ℕ → WideMasks → List ℕ
begun r m = rule_fields (entries_of r) m (opening_state_w (wide_automaton_of (entries_of r) m))
