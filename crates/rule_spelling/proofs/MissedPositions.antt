-- Positions that may all be missed: at the front they change no end; before the last bytes of their own set, no start. So with equal lists of ends or starts.
-- Assumes nothing.
use mathlib.Core.Path.{◌≡◌, refl, sym, ap, ap₂, subst, ◌∙◌}
use mathlib.Core.Bool.{Bool, false, not}
use mathlib.Core.Logic.{◌↔◌}
use mathlib.Core.List.{List, [], ◌∷◌, ◌++◌}
use Prim.Native.Nat.{ℕ, zero, suc, ◌+◌, ◌-◌, ◌≤◌}
use native.Mathlib.Omega.{arith}
use lib.Dec.{T}
use lib.ListN.{length, take, drop, replicate, length-append, take-append-drop}
use lib.Seq.{take-take, drop-drop, drop-append_seam, take-append-add, length-slice, length-take-le}
use Rattle.model.specs.Occurrence.{Position, all, one, empty, Occurs, done, next, stretch, EndsAt, StartsAt, shortest, one_if, cons_if, all_from, is_end, is_start, ends, starts}
use Rattle.model.specs.WindowSearch.{EachSet}
use Rattle.model.proofs.Truth.{and_left, and_right, same_test}
use Rattle.model.proofs.Accepted.{each-replicate}
use Rattle.model.proofs.Shares.{occurs-to, occurs-append, occurs_cut, all_append, all_left, all_mono, share-all}
use Rattle.model.proofs.Decided.{end-decided, start-decided}
use Rattle.model.proofs.Windows.{occurs-length, take-drop}

-- ---- lists of numbers that pass the same tests

pub all_same : (f g : ℕ → Bool) (n i : ℕ) → ((k : ℕ) → f k ≡ g k) → all_from f i n ≡ all_from g i n
all_same f g zero i h = refl
all_same f g (suc n) i h = ap₂ (λ (b : Bool) (l : List ℕ). cons_if b i l) (h i) (all_same f g n (suc i) h)

pub ends_same : (ps qs : List Position) (text : List ℕ) → ((e : ℕ) → EndsAt ps text e ↔ EndsAt qs text e) → ends ps text ≡ ends qs text
ends_same ps qs text h =
    all_same (is_end ps text) (is_end qs text) (suc (length text)) 0
    (λ e. same_test (is_end ps text e) (is_end qs text e) (λ t. (end-decided qs text e).1 ((h e).0 ((end-decided ps text e).0 t)), λ t. (end-decided ps text e).1 ((h e).1 ((end-decided qs text e).0 t))))

pub starts-same : (ps qs : List Position) (text : List ℕ) → ((s : ℕ) → StartsAt ps text s ↔ StartsAt qs text s) → starts ps text ≡ starts qs text
starts-same ps qs text h =
    all_same (is_start ps text) (is_start qs text) (suc (length text)) 0
    (λ s. same_test (is_start ps text s) (is_start qs text s) (λ t. (start-decided qs text s).1 ((h s).0 ((start-decided ps text s).0 t)), λ t. (start-decided ps text s).1 ((h s).1 ((start-decided qs text s).0 t))))

-- ---- positions that may all be missed

abbrev pub AllOptional : List Position → Type 0
AllOptional [] = Unit {0}
AllOptional (p ∷ ps) = T p.optional × AllOptional ps

missed : (qs : List Position) → AllOptional qs → Occurs qs []
missed [] h = done
missed (q ∷ qs) h = next {xs = []} (empty h.0) (missed qs h.1)

pub optional-replicate : (n : ℕ) (q : Position) → T q.optional → AllOptional (replicate n q)
optional-replicate zero q t = tt
optional-replicate (suc n) q t = (t, optional-replicate n q t)

-- At the front they leave the ends as they are.
pub front_missed : (qs ps : List Position) → AllOptional qs → (text : List ℕ) (e : ℕ) → EndsAt (qs ++ ps) text e ↔ EndsAt ps text e
front_missed qs ps m text e = (into, out)
  where
    into : EndsAt (qs ++ ps) text e → EndsAt ps text e
    into (s, o) =
        let c = occurs_cut qs ps (stretch text s e) o.occurs in
        let n = length-slice s e text o.inside in
        let k = length c.front in
        let g = o.ordered in
        let l : length (stretch text s e) ≡ length c.front + length c.back = ap length c.joined ∙ length-append c.front c.back in
        let b : stretch text (s + k) e ≡ c.back = sym (drop-drop k s (take e text)) ∙ ap (drop k) c.joined ∙ drop-append_seam c.front c.back in
        (s + k, record { ordered = omega arith; inside = o.inside; occurs = occurs-to (sym b) c.back-occurs })

    out : EndsAt ps text e → EndsAt (qs ++ ps) text e
    out (s, o) = (s, record { ordered = o.ordered; inside = o.inside; occurs = occurs-append (missed qs m) o.occurs })

-- ---- bytes of one set, at the back

-- a set within another
abbrev pub Within : (t s : ℕ → Bool) → Type 0
Within s t = (c : ℕ) → T (t c) → T (s c)

within_all : (s : ℕ → Bool) {ps : List Position} {xs : List ℕ} → EachSet (Within s) ps → Occurs ps xs → T (all s xs)
within_all s h done = tt
within_all s h (next {p = p} {xs = xs} {ys = ys} q o) = all_append s xs ys (all_mono p.set s h.0 xs (share-all q)) (within_all s h.1 o)

pub shortest-replicate : (n : ℕ) (r : Position) → r.optional ≡ false → shortest (replicate n r) ≡ n
shortest-replicate zero r e = refl
shortest-replicate (suc n) r e = let h = shortest-replicate n r e in let z : one_if (not r.optional) ≡ 1 = ap (λ (b : Bool). one_if (not b)) e in omega arith

each-one : (r : Position) (n : ℕ) (xs : List ℕ) → T (all r.set xs) → length xs ≡ n → Occurs (replicate n r) xs
each-one r zero [] t e = done
each-one r zero (x ∷ xs) t e = absurd (omega arith)
each-one r (suc n) [] t e = absurd (omega arith)
each-one r (suc n) (x ∷ xs) t e = next {xs = x ∷ []} (one (and_left (r.set x) (all r.set xs) t)) (each-one r n xs (and_right (r.set x) (all r.set xs) t) (omega arith))

-- A stretch that ends earlier.
stretch-take : (text : List ℕ) (s a e : ℕ) → s ≤ a → a ≤ e → stretch text s a ≡ take (a - s) (stretch text s e)
stretch-take text s a e h k =
    let r : s + (a - s) ≡ a = omega arith in
    sym (take-drop (a - s) s (take e text) ∙ ap (λ (i : ℕ). drop s (take i (take e text))) r ∙ ap (λ (l : List ℕ). drop s l) (take-take a e text k))

module _ (r : Position) (must : r.optional ≡ false) (a : ℕ) (qs : List Position) (m : AllOptional qs) (w : EachSet (Within r.set) qs) where
  -- Before a bytes of their set they leave the starts as they are: the first a bytes will do.
  pub back_missed : (ps : List Position) (text : List ℕ) (s : ℕ) → StartsAt (ps ++ (qs ++ replicate a r)) text s ↔ StartsAt (ps ++ replicate a r) text s
  back_missed ps text s = (into, out)
    where
      into : StartsAt (ps ++ (qs ++ replicate a r)) text s → StartsAt (ps ++ replicate a r) text s
      into (e, o) =
          let c = occurs_cut ps (qs ++ replicate a r) (stretch text s e) o.occurs in
          let d = occurs_cut qs (replicate a r) c.back c.back-occurs in
          let n = length-slice s e text o.inside in
          let k = length c.front in
          let g = o.ordered in
          let i = o.inside in
          let l : length (stretch text s e) ≡ length c.front + length c.back = ap length c.joined ∙ length-append c.front c.back in
          let l₂ : length c.back ≡ length d.front + length d.back = ap length d.joined ∙ length-append d.front d.back in
          let l₃ : a ≤ length d.back = let h = occurs-length d.back-occurs in omega (arith, shortest-replicate a r must) in
          let t : T (all r.set c.back) = subst (λ (x : List ℕ). T (all r.set x)) (sym d.joined)
          (all_append r.set d.front d.back (within_all r.set w d.front-occurs) (within_all r.set (each-replicate (Within r.set) a r (λ c h. h)) d.back-occurs)) in
          let u : T (all r.set (take a c.back)) = all_left r.set (take a c.back) (drop a c.back) (subst (λ (x : List ℕ). T (all r.set x)) (sym (take-append-drop a c.back)) t) in
          let v : length (take a c.back) ≡ a = length-take-le a c.back (omega arith) in
          let z : s + (k + a) - s ≡ k + a = omega arith in
          let f : stretch text s (s + (k + a)) ≡ c.front ++ take a c.back =
          stretch-take text s (s + (k + a)) e (omega arith) (omega arith) ∙ ap (λ (x : ℕ). take x (stretch text s e)) z ∙ ap (take (k + a)) c.joined ∙ take-append-add c.front c.back a in
          (s + (k + a), record { ordered = omega arith; inside = omega arith; occurs = occurs-to (sym f) (occurs-append c.front-occurs (each-one r a (take a c.back) u v)) })

      out : StartsAt (ps ++ replicate a r) text s → StartsAt (ps ++ (qs ++ replicate a r)) text s
      out (e, o) =
          let c = occurs_cut ps (replicate a r) (stretch text s e) o.occurs in
          (e, record { ordered = o.ordered; inside = o.inside; occurs = occurs-to (sym c.joined) (occurs-append c.front-occurs (occurs-append (missed qs m) c.back-occurs)) })
