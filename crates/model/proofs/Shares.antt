-- How an occurrence comes apart: at a place between two positions, and at its last byte.
-- Assumes nothing.
use mathlib.Core.Path.{◌≡◌, refl, sym, ap, subst, ◌∙◌}
use mathlib.Core.Bool.{Bool, true}
use mathlib.Core.List.{List, [], ◌∷◌, ◌++◌, append_assoc, append-nil, nil≢cons, cons≢nil, tail-eq_of_cons-eq, head-eq_of_cons-eq, concat-ne-nil}
use Prim.Native.Nat.{ℕ, ◌≤◌, ◌<◌}
use native.Mathlib.Omega.{arith}
use lib.Dec.{T}
use lib.ListN.{length, length-append}
use Rattle.model.specs.Occurrence.{Position, Share, one, empty, longer, Occurs, done, next, all}
use Rattle.model.proofs.Truth.{and_intro, and_left, and_right}

-- ---- a list at its last element

pub data Last {A : Type 0} : List A → Type 0 where
  none : Last []
  last : (ys : List A) (c : A) → Last (ys ++ (c ∷ []))

grow : {A : Type 0} (x : A) {xs : List A} → Last xs → Last (x ∷ xs)
grow x none = last [] x
grow x (last ys c) = last (x ∷ ys) c

pub split_last : {A : Type 0} (xs : List A) → Last xs
split_last [] = none
split_last (x ∷ xs) = grow x (split_last xs)

pub snoc_inj : {A : Type 0} (xs ys : List A) (a b : A) → xs ++ (a ∷ []) ≡ ys ++ (b ∷ []) → (xs ≡ ys) × (a ≡ b)
snoc_inj [] [] a b e = (refl, head-eq_of_cons-eq e)
snoc_inj [] (y ∷ ys) a b e = absurd (concat-ne-nil b ys (sym (tail-eq_of_cons-eq e)))
snoc_inj (x ∷ xs) [] a b e = absurd (concat-ne-nil a xs (tail-eq_of_cons-eq e))
snoc_inj (x ∷ xs) (y ∷ ys) a b e =
    let r = snoc_inj xs ys a b (tail-eq_of_cons-eq e) in
    let h = head-eq_of_cons-eq e in
    ((cc), r.1)

-- ---- two ways to cut one list

pub cut_first : (f rest s b : List ℕ) → s ++ b ≡ f ++ rest → length f ≤ length s → (t : List ℕ) × (s ≡ f ++ t) × (rest ≡ t ++ b)
cut_first [] rest s b e l = (s, refl, sym e)
cut_first (x ∷ f) rest [] b e l = absurd (omega arith)
cut_first (x ∷ f) rest (y ∷ s) b e l =
    let r = cut_first f rest s b (tail-eq_of_cons-eq e) (omega arith) in
    let h = head-eq_of_cons-eq e in
    let q = r.1 in
    (r.0, (cc), r.2)

pub cut_later : (f rest s b : List ℕ) → s ++ b ≡ f ++ rest → length s < length f → (y : ℕ) × (ys : List ℕ) × (f ≡ s ++ (y ∷ ys)) × (b ≡ (y ∷ ys) ++ rest)
cut_later f rest s b e l = go (cut_first s b f rest (sym e) (omega arith))
  where
    go : (t : List ℕ) × (f ≡ s ++ t) × (b ≡ t ++ rest) → (y : ℕ) × (ys : List ℕ) × (f ≡ s ++ (y ∷ ys)) × (b ≡ (y ∷ ys) ++ rest)
    go ([], p, q) = absurd (omega (arith, ap length p, length-append s []))
    go (y ∷ ys, p, q) = (y, ys, p, q)

-- ---- every byte of a list is in a set

pub all_append : (s : ℕ → Bool) (xs ys : List ℕ) → T (all s xs) → T (all s ys) → T (all s (xs ++ ys))
all_append s [] ys h k = k
all_append s (x ∷ xs) ys h k = and_intro (s x) (all s (xs ++ ys)) (and_left (s x) (all s xs) h) (all_append s xs ys (and_right (s x) (all s xs) h) k)

pub all_left : (s : ℕ → Bool) (xs ys : List ℕ) → T (all s (xs ++ ys)) → T (all s xs)
all_left s [] ys h = tt
all_left s (x ∷ xs) ys h = and_intro (s x) (all s xs) (and_left (s x) (all s (xs ++ ys)) h) (all_left s xs ys (and_right (s x) (all s (xs ++ ys)) h))

pub all_right : (s : ℕ → Bool) (xs ys : List ℕ) → T (all s (xs ++ ys)) → T (all s ys)
all_right s [] ys h = h
all_right s (x ∷ xs) ys h = all_right s xs ys (and_right (s x) (all s (xs ++ ys)) h)

pub all_mono : (s t : ℕ → Bool) → ((c : ℕ) → T (s c) → T (t c)) → (cs : List ℕ) → T (all s cs) → T (all t cs)
all_mono s t f [] h = tt
all_mono s t f (c ∷ cs) h = and_intro (t c) (all t cs) (f c (and_left (s c) (all s cs) h)) (all_mono s t f cs (and_right (s c) (all s cs) h))

-- ---- a share, of a list that is equal to the one wanted

pub share-to : {p : Position} {xs ys : List ℕ} → xs ≡ ys → Share p xs → Share p ys
share-to {p} e h = subst (λ (l : List ℕ). Share p l) e h

pub occurs-to : {ps : List Position} {xs ys : List ℕ} → xs ≡ ys → Occurs ps xs → Occurs ps ys
occurs-to {ps} e h = subst (λ (l : List ℕ). Occurs ps l) e h

pub share-empty : {p : Position} → Share p [] → T p.optional
share-empty (empty h) = h

-- Of a share that is not empty: every byte is in the set.
pub share-all : {p : Position} {xs : List ℕ} → Share p xs → T (all p.set xs)
share-all {p} (one {c = c} h) = and_intro (p.set c) true h tt
share-all (empty h) = tt
share-all {p} (longer {c = c} {cs = cs} r h k) = and_intro (p.set c) (all p.set cs) h k

-- A share that ends in c: c alone, or c after a share of a position that repeats.
pub data LastShare (p : Position) (ys : List ℕ) (c : ℕ) : Type 0 where
  alone : ys ≡ [] → T (p.set c) → LastShare p ys c
  after : T p.repeats → T (p.set c) → Share p ys → LastShare p ys c

last_of_longer : (p : Position) (y : ℕ) (ys : List ℕ) (c : ℕ) {zs : List ℕ} → Share p zs → zs ≡ y ∷ (ys ++ (c ∷ [])) → LastShare p (y ∷ ys) c
last_of_longer p y ys c (one h) e = absurd (concat-ne-nil c ys (sym (tail-eq_of_cons-eq e)))
last_of_longer p y ys c (empty h) e = absurd (nil≢cons e)
last_of_longer p y ys c (longer {c = d} {cs = cs} r h k) e =
    let k' : T (all p.set (ys ++ (c ∷ []))) = subst (λ (l : List ℕ). T (all p.set l)) (tail-eq_of_cons-eq e) k in
    let h' : T (p.set y) = subst (λ (b : ℕ). T (p.set b)) (head-eq_of_cons-eq e) h in
    after r (and_left (p.set c) true (all_right p.set ys (c ∷ []) k')) (longer r h' (all_left p.set ys (c ∷ []) k'))

pub last-share : (p : Position) (ys : List ℕ) (c : ℕ) → Share p (ys ++ (c ∷ [])) → LastShare p ys c
last-share p [] c h = alone refl (and_left (p.set c) true (share-all h))
last-share p (y ∷ ys) c h = last_of_longer p y ys c h refl

-- The other way: a share of a position that repeats grows by a byte of the set.
pub share_grow : (p : Position) {ys : List ℕ} (c : ℕ) → T p.repeats → T (p.set c) → Share p ys → Share p (ys ++ (c ∷ []))
share_grow p c r h (one {c = d} k) = longer r k (and_intro (p.set c) true h tt)
share_grow p c r h (empty k) = one h
share_grow p c r h (longer {c = d} {cs = cs} q k l) = longer r k (all_append p.set cs (c ∷ []) l (and_intro (p.set c) true h tt))

-- ---- an occurrence of two lists of positions, one after the other

pub record Cut (ps qs : List Position) (zs : List ℕ) : Type 0 where
  pub front : List ℕ
  pub back : List ℕ
  pub joined : zs ≡ front ++ back
  pub front-occurs : Occurs ps front
  pub back-occurs : Occurs qs back

pub occurs-append : {ps qs : List Position} {xs ys : List ℕ} → Occurs ps xs → Occurs qs ys → Occurs (ps ++ qs) (xs ++ ys)
occurs-append done k = k
occurs-append {ys} (next {xs = us} {ys = vs} s h) k = occurs-to (sym (append_assoc us vs ys)) (next s (occurs-append h k))

-- The first share and the rest.
pub record First (p : Position) (ps : List Position) (zs : List ℕ) : Type 0 where
  pub share : List ℕ
  pub rest : List ℕ
  pub joined : zs ≡ share ++ rest
  pub share_is : Share p share
  pub rest-occurs : Occurs ps rest

pub occurs-first : {p : Position} {ps : List Position} {zs : List ℕ} → Occurs (p ∷ ps) zs → First p ps zs
occurs-first (next {xs = us} {ys = vs} s h) = record { share = us; rest = vs; joined = refl; share_is = s; rest-occurs = h }

pub occurs_nil : {zs : List ℕ} → Occurs [] zs → zs ≡ []
occurs_nil done = refl

pub occurs_cut : (ps qs : List Position) (zs : List ℕ) → Occurs (ps ++ qs) zs → Cut ps qs zs
occurs_cut [] qs zs h = record { front = []; back = zs; joined = refl; front-occurs = done; back-occurs = h }
occurs_cut (p ∷ ps) qs zs h =
    let f = occurs-first h in
    let c = occurs_cut ps qs f.rest f.rest-occurs in
    record {
      front = f.share ++ c.front;
      back = c.back;
      joined = f.joined ∙ ap (λ (l : List ℕ). f.share ++ l) c.joined ∙ sym (append_assoc f.share c.front c.back);
      front-occurs = next f.share_is c.front-occurs;
      back-occurs = c.back-occurs;
    }

-- ---- an occurrence of one position is its share

pub occurs-one : {p : Position} {xs : List ℕ} → Share p xs → Occurs (p ∷ []) xs
occurs-one {xs} s = occurs-to (append-nil xs) (next s done)

pub one-occurs : {p : Position} {zs : List ℕ} → Occurs (p ∷ []) zs → Share p zs
one-occurs h =
    let f = occurs-first h in
    share-to (sym (f.joined ∙ ap (λ (l : List ℕ). f.share ++ l) (occurs_nil f.rest-occurs) ∙ append-nil f.share)) f.share_is

-- ---- the last position and the last byte: the three ways that the step adds up

pub data LastWay (ps : List Position) (p : Position) (xs : List ℕ) (c : ℕ) : Type 0 where
  by_one : Occurs ps xs → T (p.set c) → LastWay ps p xs c
  by_more : Occurs (ps ++ (p ∷ [])) xs → T p.repeats → T (p.set c) → LastWay ps p xs c
  by_none : T p.optional → Occurs ps (xs ++ (c ∷ [])) → LastWay ps p xs c

last_way_at : (ps : List Position) (p : Position) (xs : List ℕ) (c : ℕ) (front : List ℕ) {back : List ℕ}
    → Last back → Occurs ps front → Share p back → xs ++ (c ∷ []) ≡ front ++ back → LastWay ps p xs c
last_way_at ps p xs c front none h s e = by_none (share-empty s) (occurs-to (sym (e ∙ append-nil front)) h)
last_way_at ps p xs c front (last ys d) h s e = go (last-share p ys d s) (snoc_inj xs (front ++ ys) c d (e ∙ sym (append_assoc front ys (d ∷ []))))
  where
    go : LastShare p ys d → (xs ≡ front ++ ys) × (c ≡ d) → LastWay ps p xs c
    go (alone n t) q =
        by_one (occurs-to (sym (q.0 ∙ ap (λ (l : List ℕ). front ++ l) n ∙ append-nil front)) h) (subst (λ (b : ℕ). T (p.set b)) (sym q.1) t)
    go (after r t k) q =
        by_more (occurs-to (sym q.0) (occurs-append h (occurs-one k))) r (subst (λ (b : ℕ). T (p.set b)) (sym q.1) t)

pub last_way : (ps : List Position) (p : Position) (xs : List ℕ) (c : ℕ) → Occurs (ps ++ (p ∷ [])) (xs ++ (c ∷ [])) → LastWay ps p xs c
last_way ps p xs c h =
    let k = occurs_cut ps (p ∷ []) (xs ++ (c ∷ [])) h in
    last_way_at ps p xs c k.front (split_last k.back) k.front-occurs (one-occurs k.back-occurs) k.joined

pub way_last : (ps : List Position) (p : Position) (xs : List ℕ) (c : ℕ) → LastWay ps p xs c → Occurs (ps ++ (p ∷ [])) (xs ++ (c ∷ []))
way_last ps p xs c (by_one h t) = occurs-append h (occurs-one (one t))
way_last ps p xs c (by_more h r t) =
    let k = occurs_cut ps (p ∷ []) xs h in
    occurs-to
    (sym (append_assoc k.front k.back (c ∷ [])) ∙ ap (λ (l : List ℕ). l ++ (c ∷ [])) (sym k.joined))
    (occurs-append k.front-occurs (occurs-one (share_grow p c r t (one-occurs k.back-occurs))))
way_last ps p xs c (by_none o h) = occurs-to (append-nil (xs ++ (c ∷ []))) (occurs-append h (occurs-one (empty o)))

-- An occurrence of nothing: the last position must be optional.
pub empty-last : (ps : List Position) (p : Position) → Occurs (ps ++ (p ∷ [])) [] → T p.optional × Occurs ps []
empty-last ps p h =
    let k = occurs_cut ps (p ∷ []) [] h in
    let n = append_nil_both k.front k.back (sym k.joined) in
    (share-empty (share-to n.1 (one-occurs k.back-occurs)), occurs-to n.0 k.front-occurs)
  where
    append_nil_both : (xs ys : List ℕ) → xs ++ ys ≡ [] → (xs ≡ []) × (ys ≡ [])
    append_nil_both [] ys e = (refl, e)
    append_nil_both (x ∷ xs) ys e = absurd (cons≢nil e)

pub last_empty : (ps : List Position) (p : Position) → T p.optional → Occurs ps [] → Occurs (ps ++ (p ∷ [])) []
last_empty ps p o h = occurs-append h (occurs-one (empty o))
