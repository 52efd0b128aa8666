-- Trying one window, over the tables of a list of positions. Assumes nothing.
use mathlib.Core.Path.{◌≡◌, refl, sym, subst, ◌∙◌}
use mathlib.Core.Bool.{Bool, false}
use mathlib.Core.List.{List}
use Prim.Native.Nat.{ℕ, ◌+◌, ◌-◌, ◌*◌, ◌≤◌, ◌<◌}
use native.Mathlib.Omega.{arith}
use lib.Dec.{T}
use lib.ListN.{length, get_or}
use lib.Seq.{length-slice}
use Rattle.model.specs.Occurrence.{Position, OccursAt, shortest, is_start}
use Rattle.model.specs.WindowSearch.{is_beginning, window_at, shift}
use Rattle.model.proofs.Truth.{T_true, T_false}
use Rattle.model.proofs.Decided.{start-decided}
use Rattle.model.proofs.Windows.{occurs-length, starts_are_verified}
use Rattle.shift_and.specs.Automaton.{Automaton}
use Rattle.shift_and.specs.Masks.{Encodes}
use Rattle.window_reader.specs.declared.WindowResult.{WindowResult}
use Rattle.window_reader.specs.declared.End.{End}
use Rattle.window_reader.specs.declared.End.TheVariants.{At, Dead, Open}
use Rattle.window_reader.specs.States.{EmptyIs}
use Rattle.window_reader.specs.Reading.{Within, WindowIs, EndIs}
use Rattle.window_reader.proofs.Shifts.{seen_means, unknown_means}
use Rattle.window_reader.proofs.Ends.{Means, opened-means}
use Rattle.window_search.specs.declared.Tried.{Tried}
use Rattle.window_search.specs.declared.Tried.TheVariants.{Start, Empty, Spent}
use Rattle.window_search.specs.Searching.{spare, Mirrors, Spends, Allowed, VerifyFits, VerifyMeans, VerifiedIs, TryFits, TryMeans, TriedIs, LastByteAbsent}

-- ---- verification

-- an occurrence that starts at w ends after w
pub ends-after : (ps : List Position) (text : List ℕ) (w y : ℕ) → 1 ≤ shortest ps → OccursAt ps text w y → w < y
ends-after ps text w y h o =
    let n = length-slice w y text o.inside in
    let l = occurs-length o.occurs in
    omega arith

pub not_start : (ps : List Position) (text : List ℕ) (w : ℕ) → 1 ≤ shortest ps → ((y : ℕ) → w < y → OccursAt ps text w y → ⊥) → is_start ps text w ≡ false
not_start ps text w h none =
    T_false (is_start ps text w) (λ t. let s = (start-decided ps text w).0 t in none s.0 (ends-after ps text w s.0 h s.1) s.1)

module _ {A : Automaton} {text : List ℕ} {w stop : ℕ} {x : End} (i : EndIs A text w stop x) where
  at-within : {e : ℕ} → x ≡ At e → (w < e) × (e ≤ stop)
  at-within q = subst (Within w stop) q i.within

  dead_within : {e : ℕ} → x ≡ Dead e → (w < e) × (e ≤ stop)
  dead_within q = subst (Within w stop) q i.within

  pub at_low : {e : ℕ} → x ≡ At e → w ≤ e
  at_low q = omega (arith, at-within q)

  pub at_high : {e : ℕ} → x ≡ At e → e ≤ stop
  at_high q = (at-within q).1

  pub dead_low : {e : ℕ} → x ≡ Dead e → w ≤ e
  dead_low q = omega (arith, dead_within q)

  module _ {len spent : ℕ} (al : Allowed len w spent stop) where
    pub at_sum : {e : ℕ} → x ≡ At e → spent + (e - w) ≤ 2 * w + spare
    at_sum q = omega (arith, at-within q, al.budget)

    pub dead_sum : {e : ℕ} → x ≡ Dead e → spent + (e - w) ≤ 2 * w + spare
    dead_sum q = omega (arith, dead_within q, al.budget)

  -- what it means
  pub end-means : (ps : List Position) → Encodes A ps → w ≤ stop → stop ≤ length text → Means ps text w w (stop - w) x
  end-means ps of h l = rw i.is (opened-means ps A text of w (stop - w) (omega arith))

module _ (A : Automaton) (text : List ℕ) (w spent j stop : ℕ) (al : Allowed (length text) w spent stop) (x : End)
    (i : EndIs A text w stop x) where
  meaning : (ps : List Position) → Encodes A ps → (y : End) → x ≡ y → Means ps text w w (stop - w) y
  meaning ps of y q = subst (Means ps text w w (stop - w)) q (end-means i ps of al.from al.inside)

  pub checked_at : {e : ℕ} → x ≡ At e → VerifiedIs A text w j (Start j (spent + (e - w)))
  checked_at {e} q = record {
    fits = (refl, at_sum i al q);
    means = λ ps of some. T_true (is_start ps text w) ((start-decided ps text w).1 (e, (meaning ps of (At e) q).1));
  }

  pub checked_dead : {e : ℕ} → x ≡ Dead e → VerifiedIs A text w j (Empty j (spent + (e - w)))
  checked_dead {e} q = record {
    fits = (refl, dead_sum i al q);
    means = λ ps of some. not_start ps text w some (meaning ps of (Dead e) q);
  }

  -- all the bytes have been read
  pub checked_over : x ≡ Open → length text ≤ stop → VerifiedIs A text w j (Empty j (spent + (stop - w)))
  checked_over q h = record {
    fits = (refl, omega (arith, al.budget));
    means = λ ps of some.
        not_start ps text w some (λ y l o. let k = o.inside in let f = al.from in meaning ps of Open q y l (omega arith) o);
  }

-- ---- the window

module _ (ps : List Position) (B : Automaton) (size : ℕ) (text : List ℕ) (w : ℕ) (of : Mirrors ps B size)
    (fits : w + size ≤ length text) (s : WindowResult) (i : WindowIs B size text w s) where
  seen_is : s ≡ record { shift = shift ps (window_at ps text w); hit = is_beginning ps (window_at ps text w) }
  seen_is =
      let m : size ≡ shortest ps = of.is-shortest in
      i.is ∙ rw m (seen_means ps of.inhabited B text of.backward w (omega arith) of.some)

  pub seen_shift : s.shift ≡ shift ps (window_at ps text w)
  seen_shift = rw seen_is

  pub seen_hit : s.hit ≡ is_beginning ps (window_at ps text w)
  seen_hit = rw seen_is

  -- a window whose bytes begin no string that the rule admits is no start
  pub seen_missed : s.hit ≡ false → is_start ps text w ≡ false
  seen_missed q =
      T_false (is_start ps text w) (λ t.
      subst (λ (b : Bool). T b) (sym seen_hit ∙ q) (starts_are_verified ps of.inhabited of.some text w ((start-decided ps text w).0 t)))

module _ (F B : Automaton) (size : ℕ) (text : List ℕ) (w : ℕ) (fits : w + size ≤ length text) (s : WindowResult)
    (i : WindowIs B size text w s) where
  pub missed : {spent : ℕ} → s.hit ≡ false → Spends (length text) w spent → TriedIs F B size text w (Empty s.shift spent)
  missed q b = record {
    fits = (i.moves, i.short, b.budget);
    means = λ ps of. (seen_shift ps B size text w of.mirrors fits s i, seen_missed ps B size text w of.mirrors fits s i q);
  }

  pub hit : {x : Tried} → VerifiedIs F text w s.shift x → TriedIs F B size text w x
  hit {x} k = record {
    fits = bounds x k.fits;
    means = λ ps of. both ps x (seen_shift ps B size text w of.mirrors fits s i) k.fits (k.means ps of.onward of.mirrors.some);
  }
    where
      bounds : (x : Tried) → VerifyFits w s.shift x → TryFits size w x
      bounds (Start j n) f = let e = f.0 in let b = f.1 in (omega (arith, i.moves), omega (arith, i.short), b)
      bounds (Empty j n) f = let e = f.0 in let b = f.1 in (omega (arith, i.moves), omega (arith, i.short), b)
      bounds Spent f = tt

      both : (ps : List Position) (x : Tried) → s.shift ≡ shift ps (window_at ps text w) → VerifyFits w s.shift x → VerifyMeans ps text w x → TryMeans ps text w x
      both ps (Start j n) e f m = (f.0 ∙ e, m)
      both ps (Empty j n) e f m = (f.0 ∙ e, m)
      both ps Spent e f m = tt

-- ---- `last_byte_absent`

pub last_absent : (table : ℕ → ℕ) (size : ℕ) (text : List ℕ) (w b : ℕ) (r : Bool) → b ≡ get_or text (w + size - 1) 0 → EmptyIs (table b) r → LastByteAbsent table size text w r
last_absent table size text w b r e z = record { says = λ t. rw e at (z.none t) }

-- the last byte stands at no position
module _ (ps : List Position) (B : Automaton) (size : ℕ) (text : List ℕ) (w : ℕ) (of : Mirrors ps B size) (fits : w + size ≤ length text)
    (z : B.table (get_or text (w + size - 1) 0) ≡ 0) where
  unknown : (shift ps (window_at ps text w) ≡ shortest ps) × (is_beginning ps (window_at ps text w) ≡ false)
  unknown =
      let m : size ≡ shortest ps = of.is-shortest in
      let z' : B.table (get_or text (w + shortest ps - 1) 0) ≡ 0 = rw m at z in
      unknown_means ps of.inhabited B text of.backward w (omega arith) of.some z'

  pub unknown_shift : size ≡ shift ps (window_at ps text w)
  unknown_shift = of.is-shortest ∙ sym unknown.0

  pub unknown_missed : is_start ps text w ≡ false
  unknown_missed =
      T_false (is_start ps text w) (λ t.
      subst (λ (b : Bool). T b) unknown.1 (starts_are_verified ps of.inhabited of.some text w ((start-decided ps text w).0 t)))
