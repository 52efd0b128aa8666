-- A window read backwards: what the rest of the window would make of the present values is what the whole window makes of the first ones. On plain values. Assumes nothing.
use mathlib.Core.Path.{◌≡◌, refl, sym, ap, ◌∙◌}
use mathlib.Core.Bool.{Bool, true, false, not, cond, ◌||◌}
use mathlib.Core.List.{List}
use Prim.Native.Nat.{ℕ, zero, suc, ◌+◌, ◌-◌, ◌≤◌, ◌<◌}
use native.Mathlib.Omega.{arith}
use native.Mathlib.Decide.{dec_lt}
use lib.ListN.{length, get_or}
use lib.Dec.{eqb}
use borrow.Author.Tests.{eq-eqb, ne_eqb, not-true, not-false}
use Rattle.model.proofs.Truth.{or_false_left, or_false_right}
use Rattle.shift_and.specs.ForwardStep.{top_bit}
use Rattle.shift_and.specs.Automaton.{Automaton, step_on, all_states}
use Rattle.window_reader.specs.States.{EmptyIs, EntryWritten, LastByteStates}
use Rattle.window_reader.specs.Reading.{step_at, seen_n, Window, Unread, WindowIs, SurelyMisses}

module _ (A : Automaton) (text : List ℕ) (w d last : ℕ) where
  -- one turn of the definition
  seen_turn : (j : ℕ) → 0 < j → seen_n A text w d last j
      ≡ cond (eqb (step_at A text 0 d (w + j)) 0) (record { shift = last; hit = false })
      (seen_n A text w (step_at A text 0 d (w + j)) (cond (top_bit A.top (step_at A text 0 d (w + j))) j last) (j - 1))
  unfolding seen_n
  seen_turn zero h = absurd (omega arith)
  seen_turn (suc j) h = let e : suc j - 1 ≡ j = omega arith in rw e

module _ (A : Automaton) (size : ℕ) (text : List ℕ) (w : ℕ) where
  pub look_begun : Window size w (length text) → Unread A size text w (all_states A) size (size - 1)
  look_begun f = let h = f.some in record { below = omega arith; moves = h; short = omega arith; rest = refl }

  module _ {d last j : ℕ} (g : Unread A size text w d last j) where
    module _ {b d' : ℕ} (h : 0 < j) (eb : b ≡ get_or text (w + j) 0) (es : d' ≡ step_on A 0 d b) where
      e : d' ≡ step_at A text 0 d (w + j)
      e = rw (← eb) es

      -- no state is left
      pub look_emptied : d' ≡ 0 → WindowIs A size text w (record { shift = last; hit = false })
      look_emptied z =
          let q = seen_turn A text w d last j h in
          record { is = sym (rw (← e, eq-eqb _ _ z) at q) ∙ g.rest; moves = g.moves; short = g.short }

      module _ (z : d' ≡ 0 → ⊥) where
        -- the bytes from j on begin no string, or they begin one
        pub look_passed : {q : Bool} → q ≡ top_bit A.top d' → q ≡ false → Unread A size text w d' last (j - 1)
        look_passed p k =
            let q = seen_turn A text w d last j h in
            record {
              below = omega (arith, g.below);
              moves = g.moves;
              short = g.short;
              rest = sym (rw (← e, ne_eqb _ _ z, ← p, k) at q) ∙ g.rest;
            }

        pub look_begins : {q : Bool} → q ≡ top_bit A.top d' → q ≡ true → Unread A size text w d' j (j - 1)
        look_begins p k =
            let q = seen_turn A text w d last j h in
            record {
              below = omega (arith, g.below);
              moves = h;
              short = omega (arith, g.below);
              rest = sym (rw (← e, ne_eqb _ _ z, ← p, k) at q) ∙ g.rest;
            }

    -- byte 0
    pub look_over : (b d' : ℕ) (q : Bool) → j ≤ 0 → b ≡ get_or text w 0 → d' ≡ step_on A 0 d b → q ≡ top_bit A.top d'
        → WindowIs A size text w (record { shift = last; hit = q })
    unfolding seen_n
    look_over b d' p z eb es ep =
        let j0 : j ≡ 0 = omega arith in
        let q : seen_n A text w d last 0 ≡ seen_n A text w (all_states A) size (size - 1) = rw j0 at g.rest in
        record { is = rw (ep, es, eb) q; moves = g.moves; short = g.short }

-- ---- `window_shift`: the last byte, by the table of first steps

-- what the table of first steps has for a byte
pub last-byte-state : {A : Automaton} {words : ℕ} {entry : List ℕ → ℕ → ℕ} {first : List ℕ} {b d : ℕ} → LastByteStates A words entry first → b < 256 → d ≡ entry first b
    → d ≡ step_on A 0 (all_states A) b
last-byte-state {b = b} fs small e = e ∙ fs.is b small

module _ (A : Automaton) (size : ℕ) (text : List ℕ) (w : ℕ) (f : Window size w (length text)) {b d : ℕ}
    (eb : b ≡ get_or text (w + (size - 1)) 0) (stepped : d ≡ step_on A 0 (all_states A) b) where
  -- a window of one byte
  pub first_alone : (q : Bool) → size - 1 ≡ 0 → q ≡ top_bit A.top d → WindowIs A size text w (record { shift = size; hit = q })
  first_alone q z e =
      let k : w + (size - 1) ≡ w = omega arith in
      look_over A size text w (look_begun A size text w f) b d q (omega arith) (eb ∙ ap (λ (i : ℕ). get_or text i 0) k) stepped e

  module _ (n : size - 1 ≡ 0 → ⊥) where
    pub first_emptied : d ≡ 0 → WindowIs A size text w (record { shift = size; hit = false })
    first_emptied z = look_emptied A size text w (look_begun A size text w f) (omega arith) eb stepped z

    pub first-empty : {r : Bool} → EmptyIs d r → r ≡ true → WindowIs A size text w (record { shift = size; hit = false })
    first-empty l e = first_emptied (l.none e)

    module _ (z : d ≡ 0 → ⊥) where
      pub first-begins : {q : Bool} → q ≡ top_bit A.top d → q ≡ true → Unread A size text w d (size - 1) (size - 1 - 1)
      first-begins e k = look_begins A size text w (look_begun A size text w f) (omega arith) eb stepped z e k

      pub first-passed : {q : Bool} → q ≡ top_bit A.top d → q ≡ false → Unread A size text w d size (size - 1 - 1)
      first-passed e k = look_passed A size text w (look_begun A size text w f) (omega arith) eb stepped z e k

  -- ---- `surely_misses`: the last two bytes

  module _ {b' x : ℕ} (eb' : b' ≡ get_or text (w + (size - 1 - 1)) 0) (ex : x ≡ step_on A 0 d b') {begins : Bool} (ebegins : begins ≡ top_bit A.top d) where
    pub quiet_pair : 2 ≤ size → {hit : Bool} → size - 1 - 1 ≡ 0 → hit ≡ top_bit A.top x → SurelyMisses A size text w (not (begins || hit))
    quiet_pair two {hit} e eh = record { says = λ y. go (not-true (begins || hit) y) (dec_lt 0 d) }
      where
        go : (begins || hit) ≡ false → Dec (0 < d) → WindowIs A size text w (record { shift = size; hit = false })
        go n (no l) = first_emptied (λ z. omega arith) (omega arith)
        go n (yes l) =
            let k = first-passed (λ z. omega arith) (λ z. omega arith) ebegins (or_false_left begins hit n) in
            let at : w + (size - 1 - 1) ≡ w = omega arith in
            rw (or_false_right begins hit n) at (look_over A size text w k b' x hit (omega arith) (eb' ∙ ap (λ (i : ℕ). get_or text i 0) at) ex eh)

    pub quiet_long : 2 ≤ size → (size - 1 - 1 ≡ 0 → ⊥) → {dead : Bool} → EmptyIs x dead → SurelyMisses A size text w (not (begins || not dead))
    quiet_long two e {dead} es = record { says = λ y. go (not-true (begins || not dead) y) (dec_lt 0 d) }
      where
        go : (begins || not dead) ≡ false → Dec (0 < d) → WindowIs A size text w (record { shift = size; hit = false })
        go n (no l) = first_emptied (λ z. omega arith) (omega arith)
        go n (yes l) =
            let k = first-passed (λ z. omega arith) (λ z. omega arith) ebegins (or_false_left begins (not dead) n) in
            let x0 : x ≡ 0 = es.none (not-false dead (or_false_right begins (not dead) n)) in
            look_emptied A size text w k (omega arith) eb' ex x0

-- ---- `last_byte_states`

pub record Stepping (A : Automaton) (words : ℕ) (entry : List ℕ → ℕ → ℕ) (first : List ℕ) (n : ℕ) : Type 0 where
  pub long : length first ≡ words
  pub few : n ≤ 256
  pub is : (c : ℕ) → c < n → entry first c ≡ step_on A 0 (all_states A) c

module _ (A : Automaton) (words : ℕ) (entry : List ℕ → ℕ → ℕ) where
  pub firsts-begun : (first : List ℕ) → length first ≡ words → Stepping A words entry first 0
  firsts-begun first l = record { long = l; few = omega arith; is = λ c h. absurd (omega arith) }

  module _ {first : List ℕ} {n : ℕ} (g : Stepping A words entry first n) where
    pub firsts-on : n < 256 → {a d : ℕ} → a ≡ all_states A → d ≡ step_on A 0 a n → {first' : List ℕ} → EntryWritten entry first n d first'
        → Stepping A words entry first' (n + 1)
    firsts-on h {a} {d} ea e {first'} w = record { long = w.long ∙ g.long; few = omega arith; is = λ c l. go c l (dec_lt c n) }
      where
        go : (c : ℕ) → c < n + 1 → Dec (c < n) → entry first' c ≡ step_on A 0 (all_states A) c
        go c l (yes p) = w.elsewhere c (omega arith) (omega arith) ∙ g.is c p
        go c l (no p) =
            let q : c ≡ n = omega arith in
            rw q (w.here ∙ e ∙ ap (λ (x : ℕ). step_on A 0 x n) ea)

    pub firsts-over : 256 ≤ n → LastByteStates A words entry first
    firsts-over h = record { long = g.long; is = λ c l. g.is c (omega arith) }
