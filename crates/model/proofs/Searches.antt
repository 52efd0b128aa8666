-- The three searches as instances of the law, one byte at a time and over any way to hold the bits: what a loop's invariant uses. For each the family of
-- stretches that its bits represent, the opening, the step, and what the top bit says. Assumes nothing.
use mathlib.Core.Path.{◌≡◌, refl, sym, ap, subst, ◌∙◌}
use mathlib.Core.Bool.{Bool, true, false}
use mathlib.Core.Logic.{◌↔◌}
use mathlib.Core.List.{List, [], ◌∷◌, ◌++◌, append_assoc, append-nil, nil≢cons, reverse, reverse-cons, reverse-append, reverse-reverse}
use Prim.Native.Nat.{ℕ, ◌+◌, ◌≤◌}
use native.Mathlib.Omega.{arith}
use lib.Dec.{T}
use lib.ListN.{length, take, drop, length-append, length-reverse, take-append-drop}
use lib.Seq.{take-length, drop-append_seam}
use Rattle.model.specs.Occurrence.{Position, all, Share, one, empty, longer, Occurs, done, next, stretch, EndsAt, is_occurrence, is_end}
use Rattle.model.specs.WindowSearch.{Begins, Inhabited, is_beginning}
use Rattle.model.proofs.Truth.{and_intro, and_left, and_right, same_test}
use Rattle.model.proofs.Shares.{all_append, Last, none, last, split_last, snoc_inj, occurs-to, occurs-append, occurs-one}
use Rattle.model.proofs.Law.{Steps, Opens, Some, Represents, Next, fresh, grown, step_represents, opens_represents, full_represents, represents_to, represents_top}
use Rattle.model.proofs.Decided.{occurrence_decided, end-decided, beginning_decided}

-- ---- 1. the forward scan: all suffixes of the text read

abbrev pub Suffix : List ℕ → List ℕ → Type 0
Suffix t x = (w : List ℕ) × (t ≡ w ++ x)

suffix_into : (t : List ℕ) (c : ℕ) (x : List ℕ) → Next true (Suffix t) c x → Suffix (t ++ (c ∷ [])) x
suffix_into t c x (fresh h) = (t ++ (c ∷ []), sym (append-nil (t ++ (c ∷ []))))
suffix_into t c x (grown {x = y} m) = (m.0, ap (λ (l : List ℕ). l ++ (c ∷ [])) m.1 ∙ append_assoc m.0 y (c ∷ []))

suffix_out : (t : List ℕ) (c : ℕ) (w : List ℕ) {x : List ℕ} → Last x → t ++ (c ∷ []) ≡ w ++ x → Next true (Suffix t) c x
suffix_out t c w none e = fresh tt
suffix_out t c w (last y d) e =
    let q = snoc_inj t (w ++ y) c d (e ∙ sym (append_assoc w y (d ∷ []))) in
    subst (λ (b : ℕ). Next true (Suffix t) c (y ++ (b ∷ []))) q.1 (grown (w, q.0))

suffix_adv : (t : List ℕ) (c : ℕ) (x : List ℕ) → Next true (Suffix t) c x ↔ Suffix (t ++ (c ∷ [])) x
suffix_adv t c x = (suffix_into t c x, λ s. suffix_out t c s.0 (split_last x) s.1)

nil_suffix : (x : List ℕ) → (x ≡ []) ↔ Suffix [] x
nil_suffix x = (λ e. ([], sym e), λ s. go s.0 x s.1)
  where
    go : (w x : List ℕ) → [] ≡ w ++ x → x ≡ []
    go [] x e = sym e
    go (c ∷ w) x e = absurd (nil≢cons e)

pub scan_open : (ps : List Position) (d : ℕ → Bool) → Opens ps d → Represents (Suffix []) ps d
scan_open ps d o = represents_to (λ x. x ≡ []) (Suffix []) ps d nil_suffix (opens_represents ps d o)

pub scan_step : (ps : List Position) (t : List ℕ) (c : ℕ) (old new : ℕ → Bool) → Steps true ps c old new → Represents (Suffix t) ps old → Represents (Suffix (t ++ (c ∷ []))) ps new
scan_step ps t c old new s r = represents_to (Next true (Suffix t) c) (Suffix (t ++ (c ∷ []))) ps new (suffix_adv t c) (step_represents true (Suffix t) ps c old new s r)

suffix_ends : (ps : List Position) (t : List ℕ) → Some (Suffix t) ps ↔ EndsAt ps t (length t)
suffix_ends ps t = (
  λ s.
      let w = s.1.0 in
      let j : take (length t) t ≡ w ++ s.0 = take-length t ∙ s.1.1 in
      let n : length t ≡ length w + length s.0 = ap length s.1.1 ∙ length-append w s.0 in (
        length w,
        record { ordered = omega arith; inside = omega arith; occurs = occurs-to (sym (ap (drop (length w)) j ∙ drop-append_seam w s.0)) s.2 },
      ),
  λ a.
      let x = stretch t a.0 (length t) in
      (x, (take a.0 (take (length t) t), sym (take-append-drop a.0 (take (length t) t) ∙ take-length t)), a.1.occurs),
)

-- "The top position's bit reports an end."
pub scan_top : (ps : List Position) (t : List ℕ) (d : ℕ → Bool) → Represents (Suffix t) ps d → d (length ps) ≡ is_end ps t (length t)
scan_top ps t d r =
    let q = represents_top (Suffix t) ps d r in
    let e = suffix_ends ps t in
    let b = end-decided ps t (length t) in
    same_test (d (length ps)) (is_end ps t (length t)) (λ h. b.1 (e.0 (q.0 h)), λ h. q.1 (e.1 (b.0 h)))

-- ---- 2. anchored: just the bytes read

abbrev pub Same : List ℕ → List ℕ → Type 0
Same t x = x ≡ t

same_into : (t : List ℕ) (c : ℕ) (x : List ℕ) → Next false (Same t) c x → Same (t ++ (c ∷ [])) x
same_into t c x (fresh h) = absurd h
same_into t c x (grown m) = ap (λ (l : List ℕ). l ++ (c ∷ [])) m

same_adv : (t : List ℕ) (c : ℕ) (x : List ℕ) → Next false (Same t) c x ↔ Same (t ++ (c ∷ [])) x
same_adv t c x = (same_into t c x, λ e. subst (λ (l : List ℕ). Next false (Same t) c l) (sym e) (grown refl))

pub anchored_open : (ps : List Position) (d : ℕ → Bool) → Opens ps d → Represents (Same []) ps d
anchored_open ps d o = opens_represents ps d o

pub anchored_step : (ps : List Position) (t : List ℕ) (c : ℕ) (old new : ℕ → Bool) → Steps false ps c old new → Represents (Same t) ps old → Represents (Same (t ++ (c ∷ []))) ps new
anchored_step ps t c old new s r = represents_to (Next false (Same t) c) (Same (t ++ (c ∷ []))) ps new (same_adv t c) (step_represents false (Same t) ps c old new s r)

pub anchored_top : (ps : List Position) (t : List ℕ) (d : ℕ → Bool) → Represents (Same t) ps d → d (length ps) ≡ is_occurrence ps t
anchored_top ps t d r =
    let q = represents_top (Same t) ps d r in
    let b = occurrence_decided ps t in
    same_test (d (length ps)) (is_occurrence ps t) (λ h. let s = q.0 h in b.1 (occurs-to s.1 s.2), λ h. q.1 (t, refl, b.0 h))

-- ---- 3. the window read backwards, over the reversed positions: all strings that end in the bytes read

abbrev pub Ending : List ℕ → List ℕ → Type 0
Ending v x = (w : List ℕ) × (x ≡ w ++ v)

ending_into : (v : List ℕ) (c : ℕ) (x : List ℕ) → Next false (Ending v) c x → Ending (v ++ (c ∷ [])) x
ending_into v c x (fresh h) = absurd h
ending_into v c x (grown m) = (m.0, ap (λ (l : List ℕ). l ++ (c ∷ [])) m.1 ∙ append_assoc m.0 v (c ∷ []))

ending_adv : (v : List ℕ) (c : ℕ) (x : List ℕ) → Next false (Ending v) c x ↔ Ending (v ++ (c ∷ [])) x
ending_adv v c x = (
  ending_into v c x,
  λ s. subst (λ (l : List ℕ). Next false (Ending v) c l) (sym (s.1 ∙ sym (append_assoc s.0 v (c ∷ [])))) (grown (s.0, refl)),
)

all_ending : (x : List ℕ) → Unit {0} ↔ Ending [] x
all_ending x = (λ u. (x, sym (append-nil x)), λ s. tt)

pub backward_open : (ps : List Position) (d : ℕ → Bool) → Inhabited ps → ((i : ℕ) → i ≤ length ps → T (d i)) → Represents (Ending []) ps d
backward_open ps d m f = represents_to (λ x. Unit {0}) (Ending []) ps d all_ending (full_represents ps d m f)

pub backward_step : (ps : List Position) (v : List ℕ) (c : ℕ) (old new : ℕ → Bool) → Steps false ps c old new → Represents (Ending v) ps old → Represents (Ending (v ++ (c ∷ []))) ps new
backward_step ps v c old new s r = represents_to (Next false (Ending v) c) (Ending (v ++ (c ∷ []))) ps new (ending_adv v c) (step_represents false (Ending v) ps c old new s r)

-- reversed occurrences

all-reverse : (s : ℕ → Bool) (xs : List ℕ) → T (all s xs) → T (all s (reverse xs))
all-reverse s [] h = tt
all-reverse s (x ∷ xs) h =
    rw (reverse-cons x xs)
    (all_append s (reverse xs) (x ∷ []) (all-reverse s xs (and_right (s x) (all s xs) h)) (and_intro (s x) true (and_left (s x) (all s xs) h) tt))

share_snoc : (p : Position) (xs : List ℕ) (c : ℕ) → T p.repeats → T (all p.set xs) → T (p.set c) → Share p (xs ++ (c ∷ []))
share_snoc p [] c r h k = one k
share_snoc p (x ∷ xs) c r h k =
    longer r (and_left (p.set x) (all p.set xs) h)
    (all_append p.set xs (c ∷ []) (and_right (p.set x) (all p.set xs) h) (and_intro (p.set c) true k tt))

share-reverse : (p : Position) {xs : List ℕ} → Share p xs → Share p (reverse xs)
share-reverse p (one h) = one h
share-reverse p (empty h) = empty h
share-reverse p (longer {c = c} {cs = cs} r h k) = rw (reverse-cons c cs) (share_snoc p (reverse cs) c r (all-reverse p.set cs k) h)

pub occurs-reverse : {ps : List Position} {xs : List ℕ} → Occurs ps xs → Occurs (reverse ps) (reverse xs)
occurs-reverse done = done
occurs-reverse (next {p = p} {ps = ps} {xs = xs} {ys = ys} s h) =
    rw (reverse-cons p ps, reverse-append xs ys) (occurs-append (occurs-reverse h) (occurs-one (share-reverse p s)))

pub reverse-occurs : (ps : List Position) (xs : List ℕ) → Occurs (reverse ps) (reverse xs) → Occurs ps xs
reverse-occurs ps xs h =
    let k : Occurs (reverse (reverse ps)) (reverse (reverse xs)) = occurs-reverse h in
    rw (reverse-reverse ps, reverse-reverse xs) at k

-- The top bit after bytes that were read from their last to their first: they begin some string that the rule admits.
pub backward-top : (ps : List Position) (u : List ℕ) (d : ℕ → Bool) → Inhabited ps → Represents (Ending (reverse u)) (reverse ps) d → d (length ps) ≡ is_beginning ps u
backward-top ps u d m r =
    let q : T (d (length ps)) ↔ Some (Ending (reverse u)) (reverse ps) = rw (length-reverse ps) at (represents_top (Ending (reverse u)) (reverse ps) d r) in
    let b = beginning_decided ps u m in
    same_test (d (length ps)) (is_beginning ps u) (
      λ h. let s = q.0 h in b.1 (begun s.0 s.1 s.2),
      λ h. let w = b.0 h in q.1 (reverse (u ++ w.0), (reverse w.0, reverse-append u w.0), occurs-reverse w.1),
    )
  where
    begun : (x : List ℕ) → Ending (reverse u) x → Occurs (reverse ps) x → Begins ps u
    begun x (w, e) o =
        (reverse w, reverse-occurs ps (u ++ reverse w) (occurs-to (e ∙ sym (reverse-append u (reverse w) ∙ ap (λ (l : List ℕ). l ++ reverse u) (reverse-reverse w))) o))
