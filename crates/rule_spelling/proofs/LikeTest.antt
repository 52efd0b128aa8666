-- The test of LIKE decides it. Assumes nothing.
use mathlib.Core.Path.{◌≡◌, sym, ap, subst}
use mathlib.Core.Bool.{not, ◌&&◌}
use mathlib.Core.Logic.{◌↔◌}
use mathlib.Core.List.{List, [], ◌∷◌, ◌++◌}
use Prim.Native.Nat.{ℕ, suc}
use native.Mathlib.Omega.{arith}
use lib.Dec.{T, eqb, eqb→eq, eqb_refl}
use lib.ListN.{length, take, drop, length-append, take-append-drop}
use lib.Seq.{drop-append_seam}
use Rattle.model.specs.Occurrence.{is_empty}
use Rattle.model.specs.RuleText.{starts_with}
use Rattle.model.specs.Like.{LikeItem, any_bytes, one_byte, plain, Like, over, many, single, itself, is_like}
use Rattle.model.proofs.Truth.{and_intro, and_left, and_right}
use Rattle.model.proofs.Decided.{any_into, any_out, empty-is}

pub like-to : {is : List LikeItem} {xs ys : List ℕ} → xs ≡ ys → Like is xs → Like is ys
like-to {is} e h = subst (λ (l : List ℕ). Like is l) e h

like_into : (is : List LikeItem) (xs : List ℕ) → T (is_like is xs) → Like is xs
like_into [] xs t = like-to (sym (empty-is xs t)) over
like_into (any_bytes ∷ is) xs t =
    let r = any_into (λ k. is_like is (drop k xs)) (suc (length xs)) 0 t in
    like-to (take-append-drop r.0 xs) (many (take r.0 xs) (like_into is (drop r.0 xs) r.3))
like_into (one_byte ∷ is) xs t = go xs t (like_into is)
  where
    go : (xs : List ℕ) → T (not (is_empty xs) && is_like is (drop 1 xs)) → ((xs : List ℕ) → T (is_like is xs) → Like is xs) → Like (one_byte ∷ is) xs
    go [] t ih = absurd t
    go (c ∷ cs) t ih = single c (ih cs t)
like_into (plain b ∷ is) xs t = go xs t (like_into is)
  where
    go : (xs : List ℕ) → T (starts_with b xs && is_like is (drop 1 xs)) → ((xs : List ℕ) → T (is_like is xs) → Like is xs) → Like (plain b ∷ is) xs
    go [] t ih = absurd t
    go (c ∷ cs) t ih = like-to (ap (λ (x : ℕ). x ∷ cs) (sym (eqb→eq c b (and_left (eqb c b) (is_like is cs) t)))) (itself b (ih cs (and_right (eqb c b) (is_like is cs) t)))

like_out : {is : List LikeItem} {xs : List ℕ} → Like is xs → T (is_like is xs)
like_out over = tt
like_out (many {is = is} {xs = xs} ys h) =
    any_out (λ k. is_like is (drop k (ys ++ xs))) (suc (length (ys ++ xs))) 0 (length ys) (omega arith) (omega (arith, length-append ys xs))
    (subst (λ (l : List ℕ). T (is_like is l)) (sym (drop-append_seam ys xs)) (like_out h))
like_out (single c h) = like_out h
like_out (itself {is = is} {xs = xs} c h) = and_intro (eqb c c) (is_like is xs) (eqb_refl c) (like_out h)

pub like-decided : (is : List LikeItem) (xs : List ℕ) → T (is_like is xs) ↔ Like is xs
like-decided is xs = (like_into is xs, like_out)
