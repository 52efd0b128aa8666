-- No longer jump is safe: after some bytes an occurrence starts at the shift of a window, so that the shift is the largest move that can be made on the
-- window's bytes alone. Assumes nothing.
use mathlib.Core.Path.{◌≡◌, sym, ap, subst, ◌∙◌}
use mathlib.Core.Bool.{Bool}
use mathlib.Core.List.{List, [], ◌∷◌, ◌++◌, append_assoc}
use Prim.Native.Nat.{ℕ, ◌+◌, ◌≤◌}
use native.Mathlib.Decide.{dec_le}
use native.Mathlib.Omega.{arith}
use lib.Dec.{T}
use lib.ListN.{length, take, drop, length-append}
use lib.Seq.{take-length, take-append_seam, drop-length, drop-append-add, drop-append-le}
use Rattle.model.specs.Occurrence.{Position, all, Occurs, done, next, StartsAt, shortest}
use Rattle.model.specs.RuleText.{is_byte, Element, kind_set, kind_positions, positions}
use Rattle.model.specs.WindowSearch.{window_at, Begins, EachSet, Inhabited, shift, LargestMove}
use Rattle.model.proofs.Truth.{and_left}
use Rattle.model.proofs.Shares.{occurs-to, all_append, all_right, all_mono, share-all}
use Rattle.model.proofs.Law.{each_append}
use Rattle.model.proofs.Decided.{empty-begins, beginning_decided}
use Rattle.model.proofs.Windows.{shift_is, no_start-passed}
use Rattle.model.proofs.Accepted.{kind-each}

-- ---- a rule admits strings of bytes alone

abbrev pub OfBytes : (ℕ → Bool) → Type 0
OfBytes s = (c : ℕ) → T (s c) → T (is_byte c)

pub rule-sets : (fold : Bool) (es : List Element) → EachSet OfBytes (positions fold es)
rule-sets fold [] = tt
rule-sets fold (e ∷ es) =
    each_append OfBytes (kind_positions fold e.kind e.often) (positions fold es)
    (kind-each OfBytes fold e.kind e.often (λ c t. and_left (is_byte c) (kind_set fold e.kind c) t)) (rule-sets fold es)

occurs-bytes : {ps : List Position} {xs : List ℕ} → EachSet OfBytes ps → Occurs ps xs → T (all is_byte xs)
occurs-bytes h done = tt
occurs-bytes h (next {p = p} {xs = xs} {ys = ys} s o) = all_append is_byte xs ys (all_mono p.set is_byte h.0 xs (share-all s)) (occurs-bytes h.1 o)

-- ---- no longer move is safe

module _ (ps : List Position) (inhabited : Inhabited ps) (some : 1 ≤ shortest ps) (sets : EachSet OfBytes ps) (window : List ℕ) (whole : length window ≡ shortest ps) where
  -- At the shift the window's bytes begin a string that the rule admits: at m none are left, and any string will do.
  shift-begins : Begins ps (drop (shift ps window) window)
  shift-begins = elim (dec_le (shortest ps) (shift ps window)) [
    | yes l ↦
        (let most = (shift_is ps inhabited some window).most in
        let q : shift ps window ≡ length window = omega arith in
        let e : drop (shift ps window) window ≡ [] = ap (λ (k : ℕ). drop k window) q ∙ drop-length window in
        subst (λ (u : List ℕ). Begins ps u) (sym e) ((beginning_decided ps [] inhabited).0 (empty-begins ps)))
    | no l ↦ (shift_is ps inhabited some window).begins (omega arith)
  ]

  -- Bytes that complete them give an occurrence there, whatever stands before the window.
  start-at-shift : (b : Begins ps (drop (shift ps window) window)) (before : List ℕ) → StartsAt ps (before ++ window ++ b.0) (length before + shift ps window)
  start-at-shift b before =
      let j = shift ps window in
      let text = before ++ window ++ b.0 in
      let most = (shift_is ps inhabited some window).most in
      let q : drop (length before + j) text ≡ drop j window ++ b.0 =
      ap (λ (l : List ℕ). drop (length before + j) l) (append_assoc before window b.0)
      ∙ drop-append-add before (window ++ b.0) j
      ∙ drop-append-le j window b.0 (omega arith) in (
        length text,
        record {
          ordered = omega (arith, length-append (before ++ window) b.0, length-append before window);
          inside = omega arith;
          occurs = occurs-to (sym (ap (λ (l : List ℕ). drop (length before + j) l) (take-length text) ∙ q)) b.1;
        },
      )

  -- The same at a number that is the shift.
  start-to : (text : List ℕ) (n i j : ℕ) → i ≡ j → StartsAt ps text (n + i) → StartsAt ps text (n + j)
  start-to text n i j e s = subst (λ (k : ℕ). StartsAt ps text (n + k)) e s

  -- "With the base promise, j is then the largest move that can be made on the window's bytes alone."
  pub shift-largest : T (all is_byte window) → LargestMove ps window (shift ps window)
  shift-largest bytes =
      let j = shift ps window in
      let r = shift_is ps inhabited some window in
      let least = r.least in
      let most = r.most in
      let b = shift-begins in
      let after = all_right is_byte (drop j window) b.0 (occurs-bytes sets b.1) in
      record {
        safe = λ text t w e i a l s. no_start-passed ps inhabited some window text w e i a (omega arith) s;
        after = b.0;
        after-bytes = after;
        starts = λ before. start-to (before ++ window ++ b.0) (length before) j _ (omega arith) (start-at-shift b before);
        largest = λ k s. elim (dec_le k j) [
          | yes l ↦ omega arith
          | no l ↦
              (let e : window_at ps (window ++ b.0) 0 ≡ window = ap (λ (m : ℕ). take m (window ++ b.0)) (sym whole) ∙ take-append_seam window b.0 in
              absurd (s (window ++ b.0) (all_append is_byte window b.0 bytes after) 0 e j least (omega arith) (start-at-shift b [])))
        ];
      }
