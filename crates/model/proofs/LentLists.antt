-- Stores into a lent list: one run after another, stores into a part of it, and what they make of the whole. Assumes nothing.
use mathlib.Core.Path.{◌≡◌, sym, ap, ap₂, ◌∙◌}
use mathlib.Core.List.{List, [], ◌∷◌, ◌++◌, append_assoc, append-nil}
use Prim.Native.Nat.{ℕ, suc, ◌+◌, ◌-◌, ◌≤◌}
use native.Mathlib.Nat.{add-zero, add-suc, suc-add, zero-add}
use native.Mathlib.Omega.{arith}
use lib.ListN.{length, set, take, drop, length-append, length-drop, take-append-drop, drop_of_length-le}
use lib.Seq.{sets, sets-eq, length-sets, drop-drop, drop-append-le, drop-append-add, take_at, length-take-le}
use borrow.Rule.Slice.PartMut.{put_mid, mid_of}
use Rattle.model.specs.NumberedAnswers.{overwrite}

-- a run of stores and then another is the run of both
pub sets-append : (l : List ℕ) (i : ℕ) (xs ys : List ℕ) → sets l i (xs ++ ys) ≡ sets (sets l i xs) (i + length xs) ys
sets-append l i [] ys = rw add-zero
sets-append l i (x ∷ xs) ys = sets-append (set l i x) (suc i) xs ys ∙ rw (suc-add, add-suc)

-- Stores at the front of the part of k elements from a on, `&mut l[a..a + k]` or `&mut l[a..]`, are stores from a on in the whole: `put_mid` is
-- what the borrow checker says of the whole when the part comes back, and `mid_of` the part that was lent.
pub sets_mid : (l : List ℕ) (a k : ℕ) (vs : List ℕ) → a + k ≤ length l → length vs ≤ k → put_mid a k l (sets (mid_of a k l) 0 vs) ≡ sets l a vs
sets_mid l a k vs h v =
    let x : List ℕ = drop a l in
    let n : k ≤ length x = omega (arith, length-drop a l) in
    let m : length (take k x) ≡ k = length-take-le k x n in
    let e : sets (take k x) 0 vs ≡ vs ++ drop (length vs) (take k x) = sets-eq vs (take k x) 0 (omega arith) ∙ rw zero-add in
    let f : drop (length vs) (take k x) ++ drop k x ≡ drop (length vs) x =
    sym (drop-append-le (length vs) (take k x) (drop k x) (omega arith)) ∙ rw take-append-drop in
    rw (e, append_assoc vs, f, drop-drop) (sym (append_assoc (take a l) vs _) ∙ sym (sets-eq vs l a (omega arith)))

-- the same for the part from a to the end
pub sets-from : (l : List ℕ) (a : ℕ) (vs : List ℕ) → a + length vs ≤ length l → put_mid a (length l - a) l (sets (mid_of a (length l - a) l) 0 vs) ≡ sets l a vs
sets-from l a vs h = sets_mid l a (length l - a) vs (omega arith) (omega arith)

-- the part from a to the end, come back written anew
pub put_rest : (l : List ℕ) (a : ℕ) (part : List ℕ) → put_mid a (length l - a) l part ≡ take a l ++ part
put_rest l a part =
    let short : length (drop a l) ≤ length l - a = omega (arith, length-drop a l) in
    ap (λ (x : List ℕ). take a l ++ (part ++ x)) (drop_of_length-le (drop a l) short) ∙ ap (λ (x : List ℕ). take a l ++ x) (append-nil part)

-- from the front: what a call's contract says of the list
pub sets-overwrite : (l vs : List ℕ) → length vs ≤ length l → sets l 0 vs ≡ overwrite l vs
sets-overwrite l vs h = sets-eq vs l 0 (omega arith) ∙ rw zero-add

-- to write, after a run, what stands there already is to write the run
pub sets-kept : (l : List ℕ) (a k : ℕ) (vs : List ℕ) → a + k ≤ length l → length vs ≤ k → sets l a (vs ++ drop (length vs) (take k (drop a l))) ≡ sets l a vs
sets-kept l a k vs h v =
    let x : List ℕ = take k (drop a l) in
    let m : length x ≡ k = length-take-le k (drop a l) (omega (arith, length-drop a l)) in
    let w : List ℕ = vs ++ drop (length vs) x in
    let e : sets x 0 vs ≡ w = sets-overwrite x vs (omega arith) in
    let n : length w ≡ k = ap length (sym e) ∙ length-sets x 0 vs ∙ m in
    sets-eq w l a (omega arith)
    ∙ append_assoc (take a l) w (drop (a + length w) l)
    ∙ ap (λ (y : List ℕ). take a l ++ (w ++ y)) (ap (λ (j : ℕ). drop (a + j) l) n ∙ sym (drop-drop k a l))
    ∙ ap (put_mid a k l) (sym e)
    ∙ sets_mid l a k vs h v

-- stores from the front over shorter ones
pub sets_over : (l xs ys : List ℕ) → length xs ≤ length ys → length ys ≤ length l → sets (sets l 0 xs) 0 ys ≡ sets l 0 ys
sets_over l xs ys h v =
    let n : length (sets l 0 xs) ≡ length l = length-sets l 0 xs in
    let k : ℕ = length ys - length xs in
    let e : 0 + length ys ≡ length xs + k = omega arith in
    sets-eq ys (sets l 0 xs) 0 (omega arith)
    ∙ ap (λ (x : List ℕ). ys ++ x)
    (ap₂ (λ (i : ℕ) (x : List ℕ). drop i x) e (sets-eq xs l 0 (omega arith))
    ∙ drop-append-add xs (drop (0 + length xs) l) k
    ∙ drop-drop k (0 + length xs) l
    ∙ (let j : 0 + length xs + k ≡ 0 + length ys = omega arith in ap (λ (i : ℕ). drop i l) j))
    ∙ sym (sets-eq ys l 0 (omega arith))

-- the front of a list after stores from `at` on
pub front-sets : (l : List ℕ) (at : ℕ) (vs : List ℕ) → at + length vs ≤ length l → take (at + length vs) (sets l at vs) ≡ take at l ++ vs
front-sets l at vs h =
    let m : length (take at l) ≡ at = length-take-le at l (omega arith) in
    ap (take (at + length vs)) (sets-eq vs l at h)
    ∙ take_at (take at l ++ vs) (drop (at + length vs) l) (at + length vs) (omega (arith, length-append (take at l) vs))
