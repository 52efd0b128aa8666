-- The law of the step, of which all three searches are instances: bits that represent a family of stretches represent, after a step on c, the family in
-- which each has grown by c. And the laws of the two openings. Assumes nothing.
use mathlib.Core.Path.{◌≡◌, refl, sym}
use mathlib.Core.Bool.{Bool, true, false, ◌&&◌, ◌||◌}
use mathlib.Core.Logic.{◌⊎◌, inl, inr, ◌↔◌}
use mathlib.Core.List.{List, [], ◌∷◌, ◌++◌, append-nil, concat-ne-nil, reverse, reverse-cons}
use Prim.Native.Nat.{ℕ, zero, suc, ◌≤◌, ◌<◌}
use native.Mathlib.Omega.{arith}
use native.Mathlib.Nat.{le_of_suc-le-suc, not-suc-le-zero}
use lib.Dec.{T}
use lib.ListN.{length, take, get_or}
use lib.Seq.{take-suc, take-length}
use Rattle.model.specs.Occurrence.{Position, one, empty, Occurs, done}
use Rattle.model.specs.WindowSearch.{EachSet, HasByte, Inhabited}
use Rattle.model.proofs.Truth.{and_intro, and_left, and_right, or_cases, or_left, or_right, T-to}
use Rattle.model.proofs.Shares.{occurs_nil, LastWay, by_one, by_more, by_none, last_way, way_last, empty-last, last_empty, occurs-append, occurs-one, occurs-to}

-- ---- sets of states: bit 0 is the beginning, bit i + 1 says that the positions up to the one with index i have been met

-- Past the last position: one that no byte fits.
abbrev pub nowhere : Position
nowhere = record { set = λ c. false; optional = false; repeats = false }

abbrev pub nth : List Position → ℕ → Position
nth ps i = get_or ps i nowhere

-- The new bit of position p on byte c, from the old bit before it, its own old bit, and the new bit before it.
abbrev pub step_bit : Position → ℕ → Bool → Bool → Bool → Bool
step_bit p c before own new-before = (before && p.set c) || (own && p.repeats && p.set c) || (p.optional && new-before)

-- The bits `new` follow from the bits `old` by a step on c; k is the new bit 0.
pub record Steps (k : Bool) (ps : List Position) (c : ℕ) (old new : ℕ → Bool) : Type 0 where
  pub first : new 0 ≡ k
  pub later : (i : ℕ) → i < length ps → new (suc i) ≡ step_bit (nth ps i) c (old i) (old (suc i)) (new i)

-- The bits before any byte: 0, and whatever is reached from it over optional positions alone.
pub record Opens (ps : List Position) (new : ℕ → Bool) : Type 0 where
  pub first : new 0 ≡ true
  pub later : (i : ℕ) → i < length ps → new (suc i) ≡ ((nth ps i).optional && new i)

-- ---- what bits mean

-- Some stretch of a family is an occurrence of the positions.
abbrev pub Some : (List ℕ → Type 0) → List Position → Type 0
Some X ps = (x : List ℕ) × X x × Occurs ps x

-- "The bits represent the family": bit i says that some stretch of it is an occurrence of the first i positions.
abbrev pub Represents : (List ℕ → Type 0) → List Position → (ℕ → Bool) → Type 0
Represents X ps d = (i : ℕ) → i ≤ length ps → T (d i) ↔ Some X (take i ps)

-- What a step makes of a family: every stretch grows by the byte, and with k the empty stretch joins.
pub data Next (k : Bool) (X : List ℕ → Type 0) (c : ℕ) : List ℕ → Type 0 where
  fresh : T k → Next k X c []
  grown : {x : List ℕ} → X x → Next k X c (x ++ (c ∷ []))

-- The three ways of a new bit.
pub data NewBit (p : Position) (c : ℕ) (before own new-before : Bool) : Type 0 where
  from_one : T before → T (p.set c) → NewBit p c before own new-before
  from_more : T own → T p.repeats → T (p.set c) → NewBit p c before own new-before
  from-none : T p.optional → T new-before → NewBit p c before own new-before

pub new-bit : (p : Position) (c : ℕ) (a b n : Bool) → T (step_bit p c a b n) → NewBit p c a b n
new-bit p c a b n t = go (or_cases (a && p.set c || b && p.repeats && p.set c) (p.optional && n) t)
  where
    go : T (a && p.set c || b && p.repeats && p.set c) ⊎ T (p.optional && n) → NewBit p c a b n
    go (inl h) = go' (or_cases (a && p.set c) (b && p.repeats && p.set c) h)
      where
        go' : T (a && p.set c) ⊎ T (b && p.repeats && p.set c) → NewBit p c a b n
        go' (inl k) = from_one (and_left a (p.set c) k) (and_right a (p.set c) k)
        go' (inr k) =
            let q = and_left (b && p.repeats) (p.set c) k in
            from_more (and_left b p.repeats q) (and_right b p.repeats q) (and_right (b && p.repeats) (p.set c) k)
    go (inr h) = from-none (and_left p.optional n h) (and_right p.optional n h)

pub bit-new : (p : Position) (c : ℕ) (a b n : Bool) → NewBit p c a b n → T (step_bit p c a b n)
bit-new p c a b n (from_one h k) =
    or_left (a && p.set c || b && p.repeats && p.set c) (p.optional && n)
    (or_left (a && p.set c) (b && p.repeats && p.set c) (and_intro a (p.set c) h k))
bit-new p c a b n (from_more h r k) =
    or_left (a && p.set c || b && p.repeats && p.set c) (p.optional && n)
    (or_right (a && p.set c) (b && p.repeats && p.set c) (and_intro (b && p.repeats) (p.set c) (and_intro b p.repeats h r) k))
bit-new p c a b n (from-none o h) =
    or_right (a && p.set c || b && p.repeats && p.set c) (p.optional && n) (and_intro p.optional n o h)

-- ---- the step

module _ (k : Bool) (X : List ℕ → Type 0) (ps : List Position) (c : ℕ) (old new : ℕ → Bool) (steps : Steps k ps c old new) (rep : Represents X ps old) where
  -- one more position, at which `pre` stands for the first j and p for the next
  into : (pre : List Position) (p : Position) (a b n : Bool)
      → (T a → Some X pre) → (T b → Some X (pre ++ (p ∷ []))) → (T n → Some (Next k X c) pre)
      → NewBit p c a b n → Some (Next k X c) (pre ++ (p ∷ []))
  into pre p a b n fa fb fn (from_one h t) = let s = fa h in (s.0 ++ (c ∷ []), grown s.1, way_last pre p s.0 c (by_one s.2 t))
  into pre p a b n fa fb fn (from_more h r t) = let s = fb h in (s.0 ++ (c ∷ []), grown s.1, way_last pre p s.0 c (by_more s.2 r t))
  into pre p a b n fa fb fn (from-none o h) =
      let s = fn h in (s.0, s.1, occurs-to (append-nil s.0) (occurs-append s.2 (occurs-one (empty o))))

  out : (pre : List Position) (p : Position) (a b n : Bool)
      → (Some X pre → T a) → (Some X (pre ++ (p ∷ [])) → T b) → (Some (Next k X c) pre → T n)
      → (z : List ℕ) → Next k X c z → Occurs (pre ++ (p ∷ [])) z → NewBit p c a b n
  out pre p a b n fa fb fn z (fresh t) h = let q = empty-last pre p h in from-none q.0 (fn ([], fresh t, q.1))
  out pre p a b n fa fb fn z (grown {x = x} m) h = go (last_way pre p x c h)
    where
      go : LastWay pre p x c → NewBit p c a b n
      go (by_one k t) = from_one (fa (x, m, k)) t
      go (by_more k r t) = from_more (fb (x, m, k)) r t
      go (by_none o k) = from-none o (fn (x ++ (c ∷ []), grown m, k))

  empty_only : (z : List ℕ) → Next k X c z → z ≡ [] → T k
  empty_only z (fresh t) e = t
  empty_only z (grown {x = x} m) e = absurd (concat-ne-nil c x e)

  pub step_represents : Represents (Next k X c) ps new
  step_represents zero h =
      (λ t. ([], fresh (T-to steps.first t), done), λ s. T-to (sym steps.first) (empty_only s.0 s.1 (occurs_nil s.2)))
  step_represents (suc j) h =
      let e : take (suc j) ps ≡ take j ps ++ (nth ps j ∷ []) = take-suc ps j nowhere h in
      let lo = rep j (omega arith) in
      let hi : T (old (suc j)) ↔ Some X (take j ps ++ (nth ps j ∷ [])) = rw e at (rep (suc j) h) in
      let ih = step_represents j (omega arith) in
      let b : new (suc j) ≡ step_bit (nth ps j) c (old j) (old (suc j)) (new j) = steps.later j h in
      rw e (
        λ t. into (take j ps) (nth ps j) (old j) (old (suc j)) (new j) lo.0 hi.0 ih.0 (new-bit (nth ps j) c (old j) (old (suc j)) (new j) (T-to b t)),
        λ s. T-to (sym b) (bit-new (nth ps j) c (old j) (old (suc j)) (new j) (out (take j ps) (nth ps j) (old j) (old (suc j)) (new j) lo.1 hi.1 ih.1 s.0 s.1 s.2)),
      )

-- ---- the opening

module _ (ps : List Position) (new : ℕ → Bool) (opens : Opens ps new) where
  opens_into : (i : ℕ) → i ≤ length ps → T (new i) → Occurs (take i ps) []
  opens_into zero h t = done
  opens_into (suc j) h t =
      let q = T-to (opens.later j h) t in
      rw (take-suc ps j nowhere h)
      (last_empty (take j ps) (nth ps j) (and_left (nth ps j).optional (new j) q) (opens_into j (omega arith) (and_right (nth ps j).optional (new j) q)))

  opens_out : (i : ℕ) → i ≤ length ps → Occurs (take i ps) [] → T (new i)
  opens_out zero h o = T-to (sym opens.first) tt
  opens_out (suc j) h o =
      let o' : Occurs (take j ps ++ (nth ps j ∷ [])) [] = rw (take-suc ps j nowhere h) at o in
      let q = empty-last (take j ps) (nth ps j) o' in
      T-to (sym (opens.later j h)) (and_intro (nth ps j).optional (new j) q.0 (opens_out j (omega arith) q.1))

  pub opens_represents : Represents (λ x. x ≡ []) ps new
  opens_represents i h = (λ t. ([], refl, opens_into i h t), λ s. opens_out i h (occurs-to s.1 s.2))

-- ---- all bits set

pub inhabited-at : (ps : List Position) → Inhabited ps → (i : ℕ) → i < length ps → (c : ℕ) × T ((nth ps i).set c)
inhabited-at [] m i h = absurd (not-suc-le-zero h)
inhabited-at (p ∷ ps) m zero h = m.0
inhabited-at (p ∷ ps) m (suc i) h = inhabited-at ps m.1 i (le_of_suc-le-suc h)

pub each_append : (P : (ℕ → Bool) → Type 0) (ps qs : List Position) → EachSet P ps → EachSet P qs → EachSet P (ps ++ qs)
each_append P [] qs m n = n
each_append P (p ∷ ps) qs m n = (m.0, each_append P ps qs m.1 n)

pub inhabited-reverse : (ps : List Position) → Inhabited ps → Inhabited (reverse ps)
inhabited-reverse [] m = tt
inhabited-reverse (p ∷ ps) m = rw (reverse-cons p ps) (each_append HasByte (reverse ps) (p ∷ []) (inhabited-reverse ps m.1) (m.0, tt))

pub filled : (ps : List Position) → Inhabited ps → (i : ℕ) → i ≤ length ps → (x : List ℕ) × Occurs (take i ps) x
filled ps m zero h = ([], done)
filled ps m (suc j) h =
    let s = filled ps m j (omega arith) in
    let b = inhabited-at ps m j h in
    (s.0 ++ (b.0 ∷ []), rw (take-suc ps j nowhere h) (occurs-append s.1 (occurs-one (one b.1))))

pub full_represents : (ps : List Position) (d : ℕ → Bool) → Inhabited ps → ((i : ℕ) → i ≤ length ps → T (d i)) → Represents (λ x. Unit {0}) ps d
full_represents ps d m f i h = (λ t. let s = filled ps m i h in (s.0, tt, s.1), λ s. f i h)

-- ---- one family for another that has the same stretches

pub represents_to : (X Y : List ℕ → Type 0) (ps : List Position) (d : ℕ → Bool) → ((x : List ℕ) → X x ↔ Y x) → Represents X ps d → Represents Y ps d
represents_to X Y ps d e r i h =
    let q = r i h in
    (λ t. let s = q.0 t in (s.0, (e s.0).0 s.1, s.2), λ s. q.1 (s.0, (e s.0).1 s.1, s.2))

-- The top bit speaks of all the positions.
pub represents_top : (X : List ℕ → Type 0) (ps : List Position) (d : ℕ → Bool) → Represents X ps d → T (d (length ps)) ↔ Some X ps
represents_top X ps d r = rw take-length at (r (length ps) (omega arith))
