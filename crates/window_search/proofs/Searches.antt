-- The loops over the windows, over the tables of a list of positions: what is left to do from the present window on leads to the whole. And the end of a
-- search, where the rest of the starts comes from a backward pass. Assumes nothing.
use mathlib.Core.Path.{◌≡◌, refl, sym, ap, subst, ◌∙◌}
use mathlib.Core.Bool.{Bool, true, false, not}
use mathlib.Core.List.{List}
use Prim.Native.Nat.{ℕ, suc, ◌+◌, ◌-◌, ◌*◌, ◌^◌, ◌≤◌, ◌<◌}
use native.Mathlib.Nat.{zero-add}
use native.Mathlib.Numerals.{add-one}
use native.Mathlib.Omega.{arith}
use lib.ListN.{length, set, length-set}
use lib.Seq.{sets, sets-eq}
use borrow.Author.Tests.{not-false}
use Rattle.model.specs.Occurrence.{Position, cons_if, is_start, starts}
use Rattle.model.specs.WindowSearch.{window_at, shift, windows_from}
use Rattle.model.proofs.Windows.{windows-next, windows_stop}
use Rattle.shift_and.specs.Automaton.{Automaton}
use Rattle.window_reader.specs.declared.WindowResult.{WindowResult}
use Rattle.window_reader.specs.Reading.{WindowIs, SurelyMisses, starts_back, RestFine, WrittenIs}
use Rattle.window_reader.proofs.Reversed.{back-means}
use Rattle.window_search.specs.declared.Part.{Part}
use Rattle.window_search.specs.declared.Tried.{Tried}
use Rattle.window_search.specs.declared.Tried.TheVariants.{Start, Empty}
use Rattle.window_search.specs.Searching.{spare, Mirrors, RuleOf, TryFits, TryMeans, TriedIs, LastByteAbsent, TriesIs, rest_starts, SkippedIs, Rest, PartIs, SearchFits, SearchedIs}
use Rattle.window_search.proofs.Rests.{rest_all, rest_back, rest-move}
use Rattle.window_search.proofs.Tries.{seen_shift, seen_missed, unknown_shift, unknown_missed}

-- ---- the sequence of windows

module _ (ps : List Position) (B : Automaton) (size : ℕ) (text : List ℕ) (of : Mirrors ps B size) (w : ℕ) where
  -- one window more, j being its shift
  next_window : {j : ℕ} → w + size ≤ length text → j ≡ shift ps (window_at ps text w)
      → length (windows_from (suc (length text)) ps text w) ≡ suc (length (windows_from (suc (length text)) ps text (w + j)))
  next_window h q = ap length (windows-next ps of.inhabited of.some text w (omega (arith, of.is-shortest))) ∙ rw q

  -- the starts from w on, by those from the next window on
  next-starts : {j : ℕ} → w + size ≤ length text → j ≡ shift ps (window_at ps text w) → {b : Bool} → is_start ps text w ≡ b
      → rest_starts ps text w ≡ cons_if b w (rest_starts ps text (w + j))
  next-starts h q e = rest-move ps of.inhabited of.some text w (omega (arith, of.is-shortest)) ∙ rw (q, e)

  no_window : length text < w + size → length (windows_from (suc (length text)) ps text w) ≡ 0
  no_window h = ap length (windows_stop ps of.inhabited of.some text w (omega (arith, of.is-shortest)))

-- `small` is said here, and not only asked by the functions, so that it is at hand in their loops.
pub record Trying (B : Automaton) (size : ℕ) (text : List ℕ) (w₀ w k : ℕ) : Type 0 where
  pub small : length text < 2 ^ 32
  pub within : w ≤ length text
  pub few : k + w₀ ≤ w
  pub rest : (ps : List Position) → Mirrors ps B size
      → k + length (windows_from (suc (length text)) ps text w) ≡ length (windows_from (suc (length text)) ps text w₀)

module _ (B : Automaton) (size : ℕ) (text : List ℕ) (w₀ : ℕ) where
  pub try_begun : w₀ ≤ length text → length text < 2 ^ 32 → Trying B size text w₀ w₀ 0
  try_begun h l = record { small = l; within = h; few = omega arith; rest = λ ps of. omega arith }

  module _ {w k : ℕ} (g : Trying B size text w₀ w k) where
    pub try_turn : (s : WindowResult) → w + size ≤ length text
        → WindowIs B size text w s
        → Trying B size text w₀ (w + s.shift) (k + 1)
    try_turn s h i = record {
      small = g.small;
      within = omega (arith, i.short);
      few = omega (arith, i.moves, g.few);
      rest = λ ps of.
          let n = next_window ps B size text of w h (seen_shift ps B size text w of h s i) in
          omega (arith, g.rest ps of);
    }

    -- the short way: the last byte stands at no position
    pub try_quick : {r : Bool} → w + size ≤ length text → 1 ≤ size → LastByteAbsent B.table size text w r → r ≡ true
        → Trying B size text w₀ (w + size) (k + 1)
    try_quick h m u e = record {
      small = g.small;
      within = h;
      few = omega (arith, g.few);
      rest = λ ps of.
          let n = next_window ps B size text of w h (unknown_shift ps B size text w of h (u.says e)) in
          omega (arith, g.rest ps of);
    }

    pub try_over : length text < w + size → TriesIs B size text w₀ k
    try_over h = record {
      few = omega (arith, g.few, g.within);
      means = λ ps of. let n = no_window ps B size text of w h in omega (arith, g.rest ps of);
    }

-- ---- windows passed over

module _ (B : Automaton) (size : ℕ) (text : List ℕ) (w₀ : ℕ) where
  pub skip_begun : w₀ ≤ length text → SkippedIs B size text w₀ w₀ 0
  skip_begun h = record { within = h; few = omega arith; tries = λ ps of. omega arith; none = λ ps of. refl }

  module _ {w k : ℕ} (g : SkippedIs B size text w₀ w k) where
    -- one more that is shifted by its size, where no occurrence starts
    skip_on : w + size ≤ length text → 1 ≤ size
        → ((ps : List Position) → Mirrors ps B size → (size ≡ shift ps (window_at ps text w)) × (is_start ps text w ≡ false))
        → SkippedIs B size text w₀ (w + size) (k + 1)
    skip_on h some f = record {
      within = h;
      few = omega (arith, g.few);
      tries = λ ps of. let n = next_window ps B size text of w h (f ps of).0 in omega (arith, g.tries ps of);
      none = λ ps of. sym (next-starts ps B size text of w h (f ps of).0 (f ps of).1) ∙ g.none ps of;
    }

    -- its last byte stands at no position
    pub skip_unknown : {r : Bool} → size ≤ length text - w → 1 ≤ size → LastByteAbsent B.table size text w r → not r ≡ false
        → SkippedIs B size text w₀ (w + size) (k + 1)
    skip_unknown {r} left some u n =
        let h : w + size ≤ length text = omega (arith, g.within) in
        let z = u.says (not-false r n) in
        skip_on h some (λ ps of. (unknown_shift ps B size text w of h z, unknown_missed ps B size text w of h z))

    -- its last two bytes tell it
    pub skip_quiet : {r : Bool} → size ≤ length text - w → 1 ≤ size → SurelyMisses B size text w r → not r ≡ false
        → SkippedIs B size text w₀ (w + size) (k + 1)
    skip_quiet {r} left some q n =
        let h : w + size ≤ length text = omega (arith, g.within) in
        let s : WindowResult = record { shift = size; hit = false } in
        let i = q.says (not-false r n) in
        skip_on h some (λ ps of. (seen_shift ps B size text w of h s i, seen_missed ps B size text w of h s i refl))

-- ---- the windows with their verification

-- `some`, `small` and `room` are said here too for that reason.
pub record SearchProgress (F B : Automaton) (size : ℕ) (text l₀ l : List ℕ) (w count tried spent : ℕ) : Type 0 where
  pub some : 1 ≤ size
  pub small : length text < 2 ^ 32
  pub room : length text ≤ length l₀
  pub within : w ≤ length text
  pub few : count ≤ w
  pub tries : tried ≤ w
  pub budget : spent ≤ 2 * w + spare
  pub long : length l ≡ length l₀
  pub rest : (ps : List Position) → RuleOf ps F B size → Rest ps text l₀ w count tried l

-- what an answer says of the shift
module _ {F B : Automaton} {size : ℕ} {text : List ℕ} {w : ℕ} {x : Tried} (i : TriedIs F B size text w x) where
  start_bounds : {j s : ℕ} → x ≡ Start j s → (1 ≤ j) × (j ≤ size) × (s ≤ 2 * w + spare)
  start_bounds q = subst (TryFits size w) q i.fits

  empty_bounds : {j s : ℕ} → x ≡ Empty j s → (1 ≤ j) × (j ≤ size) × (s ≤ 2 * w + spare)
  empty_bounds q = subst (TryFits size w) q i.fits

  pub start-short : {j s : ℕ} → x ≡ Start j s → j ≤ size
  start-short q = (start_bounds q).1

  pub empty-short : {j s : ℕ} → x ≡ Empty j s → j ≤ size
  empty-short q = (empty_bounds q).1

  pub start_less : {j s : ℕ} → x ≡ Start j s → 1 ≤ size → w + size ≤ length text → length text - (w + j) < length text - w
  start_less q m h = let b = (start_bounds q).0 in omega arith

  pub empty_less : {j s : ℕ} → x ≡ Empty j s → 1 ≤ size → w + size ≤ length text → length text - (w + j) < length text - w
  empty_less q m h = let b = (empty_bounds q).0 in omega arith

module _ (F B : Automaton) (size : ℕ) (text l₀ : List ℕ) where
  pub begun : 1 ≤ size → length text < 2 ^ 32 → length text ≤ length l₀ → SearchProgress F B size text l₀ l₀ 0 0 0 0
  begun some small room = record {
    some = some;
    small = small;
    room = room;
    within = omega arith;
    few = omega arith;
    tries = omega arith;
    budget = omega arith;
    long = refl;
    rest = λ ps of. record { starts-left = rw (rest_all ps text) (zero-add _); windows-left = zero-add _; list = rw (rest_all ps text) };
  }

  module _ {l : List ℕ} {w count tried spent : ℕ} (g : SearchProgress F B size text l₀ l w count tried spent) where
    module _ {x : Tried} (h : w + size ≤ length text) (i : TriedIs F B size text w x) where
      -- an occurrence starts at w
      pub started : {j s : ℕ} → x ≡ Start j s → SearchProgress F B size text l₀ (set l count w) (w + j) (count + 1) (tried + 1) s
      started {j} {s} q =
          let b = start_bounds i q in
          let b0 = b.0 in
          let b1 = b.1 in
          let b2 = b.2 in
          record {
            some = g.some;
            small = g.small;
            room = g.room;
            within = omega arith;
            few = omega (arith, g.few);
            tries = omega (arith, g.tries);
            budget = omega arith;
            long = length-set l count w ∙ g.long;
            rest = λ ps of.
                let k = subst (TryMeans ps text w) q (i.means ps of) in
                let v = next-starts ps B size text of.mirrors w h k.0 k.1 in
                let n = next_window ps B size text of.mirrors w h k.0 in
                let r = g.rest ps of in
                record {
                  starts-left = omega (arith, ap length v, r.starts-left);
                  windows-left = omega (arith, r.windows-left);
                  list = rw add-one (sym (ap (sets l count) v) ∙ r.list);
                };
          }

      -- none does
      pub passed : {j s : ℕ} → x ≡ Empty j s → SearchProgress F B size text l₀ l (w + j) count (tried + 1) s
      passed {j} {s} q =
          let b = empty_bounds i q in
          let b0 = b.0 in
          let b1 = b.1 in
          let b2 = b.2 in
          record {
            some = g.some;
            small = g.small;
            room = g.room;
            within = omega arith;
            few = omega (arith, g.few);
            tries = omega (arith, g.tries);
            budget = omega arith;
            long = g.long;
            rest = λ ps of.
                let k = subst (TryMeans ps text w) q (i.means ps of) in
                let v = next-starts ps B size text of.mirrors w h k.0 k.1 in
                let n = next_window ps B size text of.mirrors w h k.0 in
                let r = g.rest ps of in
                record {
                  starts-left = omega (arith, ap length v, r.starts-left);
                  windows-left = omega (arith, r.windows-left);
                  list = sym (ap (sets l count) v) ∙ r.list;
                };
          }

    -- windows passed over
    pub windows_skipped : {w' k : ℕ} → SkippedIs B size text w w' k → SearchProgress F B size text l₀ l w' count (tried + k) spent
    windows_skipped {w'} {k} s = record {
      some = g.some;
      small = g.small;
      room = g.room;
      within = s.within;
      few = omega (arith, g.few, s.few);
      tries = omega (arith, g.tries, s.few);
      budget = omega (arith, g.budget, s.few);
      long = g.long;
      rest = λ ps of.
          let m = of.mirrors in
          let r = g.rest ps of in
          record {
            starts-left = omega (arith, ap length (s.none ps m), r.starts-left);
            windows-left = omega (arith, s.tries ps m, r.windows-left);
            list = ap (sets l count) (s.none ps m) ∙ r.list;
          };
    }

    -- the list has an entry for a start at w
    pub has-entry : w + size ≤ length text → count < length l
    has-entry h = omega (arith, g.some, g.room, g.few, g.long)

    pub halted : PartIs F B size text l₀ (record { next = w; count = count; windows = tried }) l
    halted = record { within = g.within; few = g.few; tries = g.tries; long = g.long; rest = g.rest }

-- ---- the end of a search

module _ (F B : Automaton) (size : ℕ) (text l₀ : List ℕ) (f : SearchFits (length text) (length l₀)) (p : Part) (l : List ℕ) (i : PartIs F B size text l₀ p l) where
  pub rest-fits : RestFine (length text) p.next (length l) p.count
  rest-fits = record { from-within = i.within; small = f.small; ordered = i.few; room = omega (arith, f.room, i.long) }

  pub finished : {k z : ℕ} {l' : List ℕ} → WrittenIs B text p.next l p.count k l' → TriesIs B size text p.next z
      → SearchedIs F B size text l₀ (record { count = p.count + k; windows = p.windows + z }) l'
  finished {k} {z} {l'} o t = record {
    few = omega (arith, i.few, o.counted.few);
    tries = omega (arith, i.tries, t.few);
    long = o.wrote.long ∙ i.long;
    means = λ ps of.
        let m = of.mirrors in
        let r = i.rest ps of in
        let b : starts_back B text p.next ≡ rest_starts ps text p.next =
        back-means ps B text m.backward p.next i.within
        ∙ rest_back ps m.inhabited m.some text p.next i.within in
        let n : p.count + k ≡ length (starts ps text) = omega (arith, o.counted.is, ap length b, r.starts-left) in
        record {
          count = n;
          windows = omega (arith, t.means ps m, r.windows-left);
          list = o.wrote.list ∙ ap (sets l p.count) b ∙ r.list ∙ sets-eq (starts ps text) l₀ 0 (omega (arith, i.few, o.counted.few, f.room)) ∙ rw zero-add;
        };
  }
