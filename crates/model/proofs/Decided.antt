-- The tests of specs/ decide the statements beside them: shares, occurrences, ends, starts, beginnings; and the lists of numbers that they make have
-- just those numbers, once each, rising. Assumes nothing.
use mathlib.Core.Path.{◌≡◌, refl, sym, ap, subst, ◌∙◌}
use mathlib.Core.Bool.{Bool, true, false, ◌&&◌}
use mathlib.Core.Logic.{◌⊎◌, inl, inr, ◌↔◌}
use mathlib.Core.List.Memᴰ
use mathlib.Core.List.{List, [], ◌∷◌, ◌++◌, append_assoc, nil≢cons, cons≢nil, Memᴰ}
use Prim.Native.Nat.{ℕ, zero, suc, ◌+◌, ◌-◌, ◌≤◌, ◌<◌}
use native.Mathlib.Omega.{arith}
use native.Mathlib.Decide.{dec_le}
use lib.Dec.{T, leb, leb→le, le→leb}
use lib.ListN.{length, take, drop, length-append, take-append-drop}
use lib.Seq.{take_at, drop_at, take-length, drop-length}
use Rattle.model.specs.Occurrence.{Position, all, Share, one, empty, longer, Occurs, done, next, stretch, EndsAt, StartsAt, any_from, cons_if, all_from, is_share, is_empty, is_occurrence, is_end, is_start, ends, starts, RisingFrom}
use Rattle.model.specs.PlainScan.{new_ends}
use Rattle.model.specs.WindowSearch.{Begins, Inhabited, is_beginning}
use Rattle.model.proofs.Truth.{and_intro, and_left, and_right, or_cases, or_left, or_right}
use Rattle.model.proofs.Shares.{occurs-to, occurs_nil, First, occurs-first, share-to, share-all, all_left, cut_first, cut_later}
use Rattle.model.proofs.Law.{filled}

-- ---- some number passes

pub any_into : (f : ℕ → Bool) (n i : ℕ) → T (any_from f i n) → (k : ℕ) × (i ≤ k) × (k < i + n) × T (f k)
any_into f zero i t = absurd t
any_into f (suc n) i t = go (or_cases (f i) (any_from f (suc i) n) t) (any_into f n (suc i))
  where
    go : T (f i) ⊎ T (any_from f (suc i) n) → (T (any_from f (suc i) n) → (k : ℕ) × (suc i ≤ k) × (k < suc i + n) × T (f k)) → (k : ℕ) × (i ≤ k) × (k < i + suc n) × T (f k)
    go (inl h) ih = (i, omega arith, omega arith, h)
    go (inr h) ih =
        let r = ih h in
        let a = r.1 in
        let b = r.2 in
        (r.0, omega arith, omega arith, r.3)

pub any_out : (f : ℕ → Bool) (n i k : ℕ) → i ≤ k → k < i + n → T (f k) → T (any_from f i n)
any_out f zero i k a b t = absurd (omega arith)
any_out f (suc n) i k a b t =
    elim (dec_le k i) [
      | yes h ↦ (let same : k ≡ i = omega arith in or_left (f i) (any_from f (suc i) n) (subst (λ (x : ℕ). T (f x)) same t))
      | no h ↦ or_right (f i) (any_from f (suc i) n) (any_out f n (suc i) k (omega arith) (omega arith) t)
    ]

-- ---- the numbers that pass

pub all_into : (f : ℕ → Bool) (n i k : ℕ) → Memᴰ k (all_from f i n) → (i ≤ k) × (k < i + n) × T (f k)
all_into f zero i k m = absurd (Memᴰ.not-nil m)
all_into f (suc n) i k m = go (f i) refl m (all_into f n (suc i) k)
  where
    go : (b : Bool) → f i ≡ b → Memᴰ k (cons_if b i (all_from f (suc i) n))
        → (Memᴰ k (all_from f (suc i) n) → (suc i ≤ k) × (k < suc i + n) × T (f k)) → (i ≤ k) × (k < i + suc n) × T (f k)
    go true q m ih = elim (Memᴰ.cases_cons m) [
      | inl e ↦ (omega arith, omega arith, subst (λ (x : Bool). T x) (sym (ap f e ∙ q)) tt)
      | inr h ↦ (let r = ih h in let a = r.0 in let b = r.1 in (omega arith, omega arith, r.2))
    ]
    go false q m ih = let r = ih m in let a = r.0 in let b = r.1 in (omega arith, omega arith, r.2)

cons_has : (b : Bool) (i k : ℕ) (l : List ℕ) → Memᴰ k l → Memᴰ k (cons_if b i l)
cons_has true i k l m = Memᴰ.tail m
cons_has false i k l m = m

cons_is : (b : Bool) (i k : ℕ) (l : List ℕ) → T b → k ≡ i → Memᴰ k (cons_if b i l)
cons_is true i k l t e = Memᴰ.head e
cons_is false i k l t e = absurd t

pub all_out : (f : ℕ → Bool) (n i k : ℕ) → i ≤ k → k < i + n → T (f k) → Memᴰ k (all_from f i n)
all_out f zero i k a b t = absurd (omega arith)
all_out f (suc n) i k a b t =
    elim (dec_le k i) [
      | yes h ↦ (let same : k ≡ i = omega arith in cons_is (f i) i k (all_from f (suc i) n) (subst (λ (x : ℕ). T (f x)) same t) same)
      | no h ↦ cons_has (f i) i k (all_from f (suc i) n) (all_out f n (suc i) k (omega arith) (omega arith) t)
    ]

rising_from_lower : (i j : ℕ) (l : List ℕ) → i ≤ j → RisingFrom j l → RisingFrom i l
rising_from_lower i j [] h r = tt
rising_from_lower i j (k ∷ ks) h r = let a = r.0 in (omega arith, r.1)

pub all_rising : (f : ℕ → Bool) (n i : ℕ) → RisingFrom i (all_from f i n)
all_rising f zero i = tt
all_rising f (suc n) i = go (f i) (all_rising f n (suc i))
  where
    go : (b : Bool) → RisingFrom (suc i) (all_from f (suc i) n) → RisingFrom i (cons_if b i (all_from f (suc i) n))
    go true r = (omega arith, r)
    go false r = rising_from_lower i (suc i) (all_from f (suc i) n) (omega arith) r

-- No more of them than numbers tried.
pub all-length : (f : ℕ → Bool) (n i : ℕ) → length (all_from f i n) ≤ n
all-length f zero i = omega arith
all-length f (suc n) i = go (f i) (all-length f n (suc i))
  where
    go : (b : Bool) → length (all_from f (suc i) n) ≤ n → length (cons_if b i (all_from f (suc i) n)) ≤ suc n
    go true h = omega arith
    go false h = omega arith

-- ---- a share

pub share-decided : (p : Position) (xs : List ℕ) → T (is_share p xs) ↔ Share p xs
share-decided p [] = (λ t. empty t, λ s. out s)
  where
    out : Share p [] → T p.optional
    out (empty h) = h
share-decided p (c ∷ []) = (λ t. one t, λ s. and_left (p.set c) true (share-all s))
share-decided p (c ∷ d ∷ cs) = (
  λ t. let a = and_right p.repeats (all p.set (c ∷ d ∷ cs)) t in longer (and_left p.repeats (all p.set (c ∷ d ∷ cs)) t) (and_left (p.set c) (all p.set (d ∷ cs)) a) (and_right (p.set c) (all p.set (d ∷ cs)) a),
  λ s. and_intro p.repeats (all p.set (c ∷ d ∷ cs)) (repeats s) (share-all s),
)
  where
    repeats : Share p (c ∷ d ∷ cs) → T p.repeats
    repeats (longer r h k) = r

-- ---- an occurrence

pub occurrence_decided : (ps : List Position) (xs : List ℕ) → T (is_occurrence ps xs) ↔ Occurs ps xs
occurrence_decided [] [] = (λ t. done, λ o. tt)
occurrence_decided [] (c ∷ cs) = (λ t. absurd t, λ o. cons≢nil (occurs_nil o))
occurrence_decided (p ∷ ps) xs = (
  λ t.
      let r = any_into (λ k. is_share p (take k xs) && is_occurrence ps (drop k xs)) (suc (length xs)) 0 t in
      let k = r.0 in
      occurs-to (take-append-drop k xs)
      (next ((share-decided p (take k xs)).0 (and_left (is_share p (take k xs)) (is_occurrence ps (drop k xs)) r.3))
      ((occurrence_decided ps (drop k xs)).0 (and_right (is_share p (take k xs)) (is_occurrence ps (drop k xs)) r.3))),
  λ o.
      let f = occurs-first o in
      let k = length f.share in
      let a : take k xs ≡ f.share = ap (take k) f.joined ∙ take_at f.share f.rest k refl in
      let b : drop k xs ≡ f.rest = ap (drop k) f.joined ∙ drop_at f.share f.rest k refl in
      any_out (λ k. is_share p (take k xs) && is_occurrence ps (drop k xs)) (suc (length xs)) 0 k (omega arith)
      (omega (arith, ap length f.joined, length-append f.share f.rest))
      (and_intro (is_share p (take k xs)) (is_occurrence ps (drop k xs))
      ((share-decided p (take k xs)).1 (share-to (sym a) f.share_is))
      ((occurrence_decided ps (drop k xs)).1 (occurs-to (sym b) f.rest-occurs))),
)

-- ---- ends and starts

module _ (ps : List Position) (text : List ℕ) where
  pub end-decided : (e : ℕ) → T (is_end ps text e) ↔ EndsAt ps text e
  end-decided e = (
    λ t.
        let l = leb→le e (length text) (and_left (leb e (length text)) (any_from at 0 (suc e)) t) in
        let r = any_into at (suc e) 0 (and_right (leb e (length text)) (any_from at 0 (suc e)) t) in
        let b = r.2 in
        (r.0, record { ordered = omega arith; inside = l; occurs = (occurrence_decided ps (stretch text r.0 e)).0 r.3 }),
    λ o.
        let a = o.1.ordered in
        and_intro (leb e (length text)) (any_from at 0 (suc e)) (le→leb e (length text) o.1.inside)
        (any_out at (suc e) 0 o.0 (omega arith) (omega arith) ((occurrence_decided ps (stretch text o.0 e)).1 o.1.occurs)),
  )
    where
      at : ℕ → Bool
      at s = is_occurrence ps (stretch text s e)

  pub start-decided : (s : ℕ) → T (is_start ps text s) ↔ StartsAt ps text s
  start-decided s = (
    λ t.
        let r = any_into at (suc (length text) - s) s t in
        let a = r.1 in
        let b = r.2 in
        (r.0, record { ordered = a; inside = omega arith; occurs = (occurrence_decided ps (stretch text s r.0)).0 r.3 }),
    λ o.
        let a = o.1.ordered in
        let b = o.1.inside in
        any_out at (suc (length text) - s) s o.0 a (omega arith) ((occurrence_decided ps (stretch text s o.0)).1 o.1.occurs),
  )
    where
      at : ℕ → Bool
      at e = is_occurrence ps (stretch text s e)

  pub ends_are : (e : ℕ) → Memᴰ e (ends ps text) ↔ EndsAt ps text e
  ends_are e = (
    λ m. (end-decided e).0 (all_into (is_end ps text) (suc (length text)) 0 e m).2,
    λ o. let b = o.1.inside in all_out (is_end ps text) (suc (length text)) 0 e (omega arith) (omega arith) ((end-decided e).1 o),
  )

  pub ends-rise : RisingFrom 0 (ends ps text)
  ends-rise = all_rising (is_end ps text) (suc (length text)) 0

  pub starts_are : (s : ℕ) → Memᴰ s (starts ps text) ↔ StartsAt ps text s
  starts_are s = (
    λ m. (start-decided s).0 (all_into (is_start ps text) (suc (length text)) 0 s m).2,
    λ o.
        let a = o.1.ordered in
        let b = o.1.inside in
        all_out (is_start ps text) (suc (length text)) 0 s (omega arith) (omega arith) ((start-decided s).1 o),
  )

  pub starts-rise : RisingFrom 0 (starts ps text)
  starts-rise = all_rising (is_start ps text) (suc (length text)) 0

-- The ends of an accepted call: "every end of an occurrence in the new text that is greater than the old text's length, once each, rising".
pub new_ends_are : (ps : List Position) (old new : List ℕ) (e : ℕ) → Memᴰ e (new_ends ps old new) ↔ ((length old < e) × EndsAt ps new e)
new_ends_are ps old new e = (
  λ m.
      let r = all_into (is_end ps new) (length new - length old) (suc (length old)) e m in
      let a = r.0 in
      (a, (end-decided ps new e).0 r.2),
  λ h.
      let a = h.0 in
      let b = h.1.1.inside in
      all_out (is_end ps new) (length new - length old) (suc (length old)) e (omega arith) (omega arith) ((end-decided ps new e).1 h.1),
)

pub new_ends-rise : (ps : List Position) (old new : List ℕ) → RisingFrom (suc (length old)) (new_ends ps old new)
new_ends-rise ps old new = all_rising (is_end ps new) (length new - length old) (suc (length old))

-- ---- bytes that begin some string of the rule

pub empty-begins : (ps : List Position) → T (is_beginning ps [])
empty-begins [] = tt
empty-begins (p ∷ ps) = tt

-- A beginning of a share, if it has a byte, is a share.
share-begins : (p : Position) (c : ℕ) (cs : List ℕ) (y : ℕ) (ys : List ℕ) {xs : List ℕ} → Share p xs → xs ≡ (c ∷ cs) ++ (y ∷ ys) → Share p (c ∷ cs)
share-begins p c cs y ys (one h) e = absurd (more cs (ap (drop 1) e))
  where
    more : (cs : List ℕ) → [] ≡ cs ++ (y ∷ ys) → ⊥
    more [] e = nil≢cons e
    more (c ∷ cs) e = nil≢cons e
share-begins p c cs y ys (empty h) e = absurd (nil≢cons e)
share-begins p c cs y ys (longer {c = d} {cs = ds} r h k) e =
    let a : T (all p.set (c ∷ cs)) = all_left p.set (c ∷ cs) (y ∷ ys) (subst (λ (l : List ℕ). T (all p.set l)) e (and_intro (p.set d) (all p.set ds) h k)) in
    longer r (and_left (p.set c) (all p.set cs) a) (and_right (p.set c) (all p.set cs) a)

pub empty-is : (u : List ℕ) → T (is_empty u) → u ≡ []
empty-is [] t = refl
empty-is (c ∷ cs) t = absurd t

beginning_into : (ps : List Position) (u : List ℕ) → Inhabited ps → T (is_beginning ps u) → Begins ps u
beginning_into [] u m t = ([], occurs-to (sym (ap (λ (l : List ℕ). l ++ []) (empty-is u t))) done)
beginning_into (p ∷ ps) u m t = go (or_cases (is_empty u) (any_from at 0 (suc (length u))) t) (beginning_into ps)
  where
    at : ℕ → Bool
    at k = is_share p (take k u) && is_beginning ps (drop k u)

    go : T (is_empty u) ⊎ T (any_from at 0 (suc (length u))) → ((u : List ℕ) → Inhabited ps → T (is_beginning ps u) → Begins ps u) → Begins (p ∷ ps) u
    go (inl e) ih =
        let f = filled (p ∷ ps) m (length (p ∷ ps)) (omega arith) in
        let o : Occurs (p ∷ ps) f.0 = rw take-length at f.1 in
        (f.0, occurs-to (ap (λ (l : List ℕ). l ++ f.0) (sym (empty-is u e))) o)
    go (inr h) ih =
        let r = any_into at (suc (length u)) 0 h in
        let k = r.0 in
        let s = (share-decided p (take k u)).0 (and_left (is_share p (take k u)) (is_beginning ps (drop k u)) r.3) in
        let b = ih (drop k u) m.1 (and_right (is_share p (take k u)) (is_beginning ps (drop k u)) r.3) in
        (b.0, occurs-to (sym (append_assoc (take k u) (drop k u) b.0) ∙ ap (λ (l : List ℕ). l ++ b.0) (take-append-drop k u)) (next s b.1))

beginning_out : (ps : List Position) (u w : List ℕ) → Occurs ps (u ++ w) → T (is_beginning ps u)
beginning_out [] u w o = front-empty u (occurs_nil o)
  where
    front-empty : (u : List ℕ) → u ++ w ≡ [] → T (is_empty u)
    front-empty [] e = tt
    front-empty (c ∷ cs) e = cons≢nil e
beginning_out (p ∷ ps) u w o = go (occurs-first o) (beginning_out ps)
  where
    some : (u : List ℕ) (k : ℕ) → k ≤ length u → Share p (take k u) → T (is_beginning ps (drop k u)) → T (is_beginning (p ∷ ps) u)
    some u k l s b =
        or_right (is_empty u) (any_from (λ k. is_share p (take k u) && is_beginning ps (drop k u)) 0 (suc (length u)))
        (any_out (λ k. is_share p (take k u) && is_beginning ps (drop k u)) (suc (length u)) 0 k (omega arith) (omega arith)
        (and_intro (is_share p (take k u)) (is_beginning ps (drop k u)) ((share-decided p (take k u)).1 s) b))

    -- all the bytes lie in the first share
    within : (u : List ℕ) (y : ℕ) (ys : List ℕ) {xs : List ℕ} → Share p xs → xs ≡ u ++ (y ∷ ys) → T (is_beginning (p ∷ ps) u)
    within [] y ys s e = tt
    within (c ∷ cs) y ys s e =
        some (c ∷ cs) (length (c ∷ cs)) (omega arith) (share-to (sym (take-length (c ∷ cs))) (share-begins p c cs y ys s e))
        (subst (λ (l : List ℕ). T (is_beginning ps l)) (sym (drop-length (c ∷ cs))) (empty-begins ps))

    go : First p ps (u ++ w) → ((u w : List ℕ) → Occurs ps (u ++ w) → T (is_beginning ps u)) → T (is_beginning (p ∷ ps) u)
    go f ih = elim (dec_le (length f.share) (length u)) [
      | yes l ↦
          (let r = cut_first f.share f.rest u w f.joined l in
          let k = length f.share in
          let s : take k u ≡ f.share = ap (take k) r.1 ∙ take_at f.share r.0 k refl in
          let d : drop k u ≡ r.0 = ap (drop k) r.1 ∙ drop_at f.share r.0 k refl in
          some u k l (share-to (sym s) f.share_is) (subst (λ (l : List ℕ). T (is_beginning ps l)) (sym d) (ih r.0 w (occurs-to r.2 f.rest-occurs))))
      | no l ↦ (let r = cut_later f.share f.rest u w f.joined (omega arith) in within u r.0 r.1 f.share_is r.2)
    ]

pub beginning_decided : (ps : List Position) (u : List ℕ) → Inhabited ps → T (is_beginning ps u) ↔ Begins ps u
beginning_decided ps u m = (beginning_into ps u m, λ b. beginning_out ps u b.0 b.1)
