-- An element is read from its own bytes alone, and these are there: what follows them matters only where it is a mark of how often. Assumes nothing.
use mathlib.Core.Path.{◌≡◌, refl, sym, ap, ap₂, ◌∙◌}
use mathlib.Core.Bool.{Bool, true, false, cond, ◌&&◌}
use mathlib.Core.List.{List, [], ◌∷◌, ◌++◌}
use Prim.Native.Nat.{ℕ, pred, suc, zero, ◌+◌, ◌≤◌, ◌<◌}
use native.Mathlib.Omega.{arith}
use lib.Dec.{T, leb, eqb, leb→le, eqb→eq}
use lib.ListN.{length, drop, length-drop}
use lib.Seq.{drop-append-le}
use Rattle.model.specs.RefusalNumbers.{gap_fault, mark_fault}
use Rattle.model.specs.Ascii.{byte_of, ascii}
use Rattle.model.specs.RuleText.{one_of, may_escape, Range, Kind, byte, any, class, gap, Often, once, optional, repeatable, both, kind_set, ReadKind, bad, good, ReadEnd, no_end, an_end, escaped_end, end_at, Item, closes, misfit, item, range_to, range_from, item_from, item_at, Items, faulty, items, add_range, items_from, some_below, class_of, class_at, Bound, bound_at, starts_with, gap_at, escape_at, kind_at, often_at, often_after, mark_bytes}
use Rattle.model.proofs.Truth.{branch, and_left, and_right, T-to}
use Rattle.model.proofs.Accepted.{not_bad}

-- ---- an end of a range

not_no_end : {A : Type 0} {v n : ℕ} → no_end ≡ an_end v n → A
not_no_end e = let z : ◌≡◌ {A = ℕ} 0 1 = cc in absurd (omega arith)

end-bytes : {v w m n : ℕ} → an_end v m ≡ an_end w n → m ≡ n
end-bytes e = cc

-- it has 1 or 2 bytes, and they are there
end_fits : (cs : List ℕ) (v n : ℕ) → end_at cs ≡ an_end v n → (1 ≤ n) × (n ≤ length cs)
end_fits [] v n e = not_no_end e
end_fits (c ∷ cs) v n e =
    branch (eqb c (byte_of "\\")) e (λ t q. escaped cs q) λ t e.
    branch (one_of (ascii "]-") c) e (λ t q. not_no_end q) λ t e.
    let z = end-bytes e in (omega arith, omega arith)
  where
    escaped : (cs : List ℕ) → escaped_end cs ≡ an_end v n → (1 ≤ n) × (n ≤ suc (length cs))
    escaped [] e = not_no_end e
    escaped (d ∷ ds) e = branch (may_escape d) e (λ t q. let z = end-bytes q in (omega arith, omega arith)) (λ t q. not_no_end q)

end_local : (xs t u : List ℕ) (v n : ℕ) → end_at (xs ++ t) ≡ an_end v n → n ≤ length xs → end_at (xs ++ u) ≡ an_end v n
end_local [] t u v n e l = let f = (end_fits t v n e).0 in absurd (omega arith)
end_local (c ∷ []) t u v n e l = go (eqb c (byte_of "\\")) refl e
  where
    go : (b : Bool) → eqb c (byte_of "\\") ≡ b → cond b (escaped_end t) (cond (one_of (ascii "]-") c) no_end (an_end c 1)) ≡ an_end v n
        → cond b (escaped_end u) (cond (one_of (ascii "]-") c) no_end (an_end c 1)) ≡ an_end v n
    go true q e = two t e
      where
        two : (t : List ℕ) → escaped_end t ≡ an_end v n → escaped_end u ≡ an_end v n
        two [] e = not_no_end e
        two (d ∷ ds) e = branch (may_escape d) e (λ t q. let z = end-bytes q in absurd (omega arith)) (λ t q. not_no_end q)
    go false q e = e
end_local (c ∷ d ∷ xs) t u v n e l = e

-- ---- an item of a class

not_misfit : {A : Type 0} {r : Range} {n : ℕ} → misfit ≡ item r n → A
not_misfit e = let z : ◌≡◌ {A = ℕ} 0 1 = cc in absurd (omega arith)

not_closes : {A : Type 0} {r : Range} {n : ℕ} → closes ≡ item r n → A
not_closes e = let z : ◌≡◌ {A = ℕ} 0 1 = cc in absurd (omega arith)

item-bytes : {r s : Range} {m n : ℕ} → item r m ≡ item s n → m ≡ n
item-bytes e = cc

-- one end, and then the rest
range_local : (low n : ℕ) (xs t u : List ℕ) (r : Range) (k : ℕ) → 1 ≤ length xs → range_from low n (xs ++ t) ≡ item r k → k < n + length xs → range_from low n (xs ++ u) ≡ item r k
range_local low n [] t u r k s e l = absurd (omega arith)
range_local low n (c ∷ xs) t u r k s e l = go (eqb c (byte_of "-")) e
  where
    by_end : (x : ReadEnd) → end_at (xs ++ t) ≡ x → range_to low n x ≡ item r k → range_to low n (end_at (xs ++ u)) ≡ item r k
    by_end no_end q e = not_misfit e
    by_end (an_end high m) q e =
        let z : n + 1 + m ≡ k = branch (leb low high) e (λ t q. item-bytes q) (λ t q. not_misfit q) in
        ap (range_to low n) (end_local xs t u high m q (omega arith)) ∙ e

    go : (b : Bool) → cond b (range_to low n (end_at (xs ++ t))) (item (record { low = low; high = low }) n) ≡ item r k
        → cond b (range_to low n (end_at (xs ++ u))) (item (record { low = low; high = low }) n) ≡ item r k
    go true e = by_end (end_at (xs ++ t)) refl e
    go false e = e

range-more : (low n : ℕ) (cs : List ℕ) (r : Range) (k : ℕ) → range_from low n cs ≡ item r k → n ≤ k
range-more low n [] r k e = let z = item-bytes e in omega arith
range-more low n (c ∷ cs) r k e = branch (eqb c (byte_of "-")) e (λ t q. by_end (end_at cs) q) (λ t q. let z = item-bytes q in omega arith)
  where
    by_end : (x : ReadEnd) → range_to low n x ≡ item r k → n ≤ k
    by_end no_end e = not_misfit e
    by_end (an_end high m) e = branch (leb low high) e (λ t q. let z = item-bytes q in omega arith) (λ t q. not_misfit q)

item_local : (xs t u : List ℕ) (r : Range) (k : ℕ) → item_at (xs ++ t) ≡ item r k → k < length xs → item_at (xs ++ u) ≡ item r k
item_local [] t u r k e l = absurd (omega arith)
item_local (c ∷ xs) t u r k e l = go (eqb c (byte_of "]")) e
  where
    by_end : (x : ReadEnd) → end_at (c ∷ (xs ++ t)) ≡ x → item_from (c ∷ (xs ++ t)) x ≡ item r k → item_from (c ∷ (xs ++ u)) (end_at (c ∷ (xs ++ u))) ≡ item r k
    by_end no_end q e = not_misfit e
    by_end (an_end low n) q e =
        let more = range-more low n (drop n ((c ∷ xs) ++ t)) r k e in
        let within : n ≤ length (c ∷ xs) = omega arith in
        let long = length-drop n (c ∷ xs) in
        let e' : range_from low n (drop n (c ∷ xs) ++ t) ≡ item r k = sym (ap (range_from low n) (drop-append-le n (c ∷ xs) t within)) ∙ e in
        ap (item_from ((c ∷ xs) ++ u)) (end_local (c ∷ xs) t u low n q within)
        ∙ ap (range_from low n) (drop-append-le n (c ∷ xs) u within)
        ∙ range_local low n (drop n (c ∷ xs)) t u r k (omega arith) e' (omega arith)

    go : (b : Bool) → cond b closes (item_from (c ∷ (xs ++ t)) (end_at (c ∷ (xs ++ t)))) ≡ item r k → cond b closes (item_from (c ∷ (xs ++ u)) (end_at (c ∷ (xs ++ u)))) ≡ item r k
    go true e = not_closes e
    go false e = by_end (end_at (c ∷ (xs ++ t))) refl e

-- ---- a class

items-bytes : {rs ss : List Range} {m n : ℕ} → items rs m ≡ items ss n → m ≡ n
items-bytes e = cc

not_faulty : {A : Type 0} {rs : List Range} {m : ℕ} → faulty ≡ items rs m → A
not_faulty e = let z : ◌≡◌ {A = ℕ} 0 1 = cc in absurd (omega arith)

range-added : (r : Range) (x : Items) (rs : List Range) (m : ℕ) → add_range r x ≡ items rs m → (ss : List Range) × (x ≡ items ss m)
range-added r faulty rs m e = not_faulty e
range-added r (items ss n) rs m e = (ss, ap (items ss) (items-bytes e))

module _ (c : ℕ) (cs : List ℕ) (before : ℕ) where
  items_close : item_at (c ∷ cs) ≡ closes → items_from zero before (c ∷ cs) ≡ items [] (suc before)
  items_close q = rw (q, items_from)

  items_fault : item_at (c ∷ cs) ≡ misfit → items_from zero before (c ∷ cs) ≡ faulty
  items_fault q = rw (q, items_from)

  items_more : (r : Range) (k : ℕ) → item_at (c ∷ cs) ≡ item r k → items_from zero before (c ∷ cs) ≡ add_range r (items_from (pred k) (suc before) cs)
  items_more r k q = rw (q, items_from)

-- where a class ends: after what is skipped, and inside the text
items_fit : (cs : List ℕ) (skip before : ℕ) (rs : List Range) (m : ℕ) → items_from skip before cs ≡ items rs m → (before + skip < m) × (m ≤ before + length cs)
items_fit [] skip before rs m e = not_faulty e
items_fit (c ∷ cs) (suc k) before rs m e = let h = items_fit cs k (suc before) rs m e in let h₀ = h.0 in let h₁ = h.1 in (omega arith, omega arith)
items_fit (c ∷ cs) zero before rs m e = go (item_at (c ∷ cs)) refl (items_fit cs)
  where
    go : (i : Item) → item_at (c ∷ cs) ≡ i → ((skip before : ℕ) (rs : List Range) (m : ℕ) → items_from skip before cs ≡ items rs m → (before + skip < m) × (m ≤ before + length cs))
        → (before + 0 < m) × (m ≤ before + suc (length cs))
    go closes q ih = let z = items-bytes (sym (items_close c cs before q) ∙ e) in (omega arith, omega arith)
    go misfit q ih = not_faulty (sym (items_fault c cs before q) ∙ e)
    go (item r k) q ih =
        let a = range-added r (items_from (pred k) (suc before) cs) rs m (sym (items_more c cs before r k q) ∙ e) in
        let h = ih (pred k) (suc before) a.0 m a.1 in
        let h₀ = h.0 in
        let h₁ = h.1 in
        (omega arith, omega arith)

items_local : (xs t u : List ℕ) (skip before : ℕ) (rs : List Range) (m : ℕ) → items_from skip before (xs ++ t) ≡ items rs m → m ≤ before + length xs → items_from skip before (xs ++ u) ≡ items rs m
items_local [] t u skip before rs m e l = let h = (items_fit t skip before rs m e).0 in absurd (omega arith)
items_local (c ∷ xs) t u (suc k) before rs m e l = items_local xs t u k (suc before) rs m e (omega arith)
items_local (c ∷ xs) t u zero before rs m e l = go (item_at (c ∷ (xs ++ t))) refl (items_local xs t u)
  where
    closes_too : (b : Bool) (x y : Item) → cond b closes x ≡ closes → (x ≡ closes → ⊥) → cond b closes y ≡ closes
    closes_too true x y e n = refl
    closes_too false x y e n = absurd (n e)

    never_closes : (cs : List ℕ) (x : ReadEnd) → item_from cs x ≡ closes → ⊥
    never_closes cs no_end e = let z : ◌≡◌ {A = ℕ} 0 1 = cc in omega arith
    never_closes cs (an_end low n) e = no_close low n (drop n cs) e
      where
        item_not : {r : Range} {k : ℕ} → item r k ≡ closes → ⊥
        item_not e = let z : ◌≡◌ {A = ℕ} 0 1 = cc in omega arith

        misfit_not : misfit ≡ closes → ⊥
        misfit_not e = let z : ◌≡◌ {A = ℕ} 0 1 = cc in omega arith

        to_not : (low n : ℕ) (x : ReadEnd) → range_to low n x ≡ closes → ⊥
        to_not low n no_end e = misfit_not e
        to_not low n (an_end high m) e = branch (leb low high) e (λ t q. item_not q) (λ t q. misfit_not q)

        no_close : (low n : ℕ) (cs : List ℕ) → range_from low n cs ≡ closes → ⊥
        no_close low n [] e = item_not e
        no_close low n (c ∷ cs) e = branch (eqb c (byte_of "-")) e (λ t q. to_not low n (end_at cs) q) (λ t q. item_not q)

    go : (i : Item) → item_at (c ∷ (xs ++ t)) ≡ i
        → ((skip before : ℕ) (rs : List Range) (m : ℕ) → items_from skip before (xs ++ t) ≡ items rs m → m ≤ before + length xs → items_from skip before (xs ++ u) ≡ items rs m)
        → items_from zero before (c ∷ (xs ++ u)) ≡ items rs m
    go closes q ih =
        let q' : item_at (c ∷ (xs ++ u)) ≡ closes = closes_too (eqb c (byte_of "]")) _ _ q (never_closes (c ∷ (xs ++ t)) (end_at (c ∷ (xs ++ t)))) in
        items_close c (xs ++ u) before q' ∙ sym (items_close c (xs ++ t) before q) ∙ e
    go misfit q ih = not_faulty (sym (items_fault c (xs ++ t) before q) ∙ e)
    go (item r k) q ih =
        let a = range-added r (items_from (pred k) (suc before) (xs ++ t)) rs m (sym (items_more c (xs ++ t) before r k q) ∙ e) in
        let h = (items_fit (xs ++ t) (pred k) (suc before) a.0 m a.1).0 in
        let q' = item_local (c ∷ xs) t u r k q (omega arith) in
        let b = ih (pred k) (suc before) a.0 m a.1 (omega arith) in
        items_more c (xs ++ u) before r k q' ∙ ap (add_range r) (b ∙ sym a.1) ∙ sym (items_more c (xs ++ t) before r k q) ∙ e

-- ---- a gap

bound_local : (ys t u : List ℕ) → 2 ≤ length ys → bound_at (ys ++ t) ≡ bound_at (ys ++ u)
bound_local [] t u l = absurd (omega arith)
bound_local (c ∷ []) t u l = absurd (omega arith)
bound_local (c ∷ d ∷ ys) t u l = refl

starts_local : (m : ℕ) (ys t u : List ℕ) → 1 ≤ length ys → starts_with m (ys ++ t) ≡ starts_with m (ys ++ u)
starts_local m [] t u l = absurd (omega arith)
starts_local m (c ∷ ys) t u l = refl

starts-some : (m : ℕ) (ys : List ℕ) → T (starts_with m ys) → 1 ≤ length ys
starts-some m [] t = absurd t
starts-some m (c ∷ ys) t = omega arith

abbrev gap_by : Bound → Bool → Bound → Bool → ReadKind
gap_by a x b y =
    cond (leb 1 a.bytes && x && leb 1 b.bytes && y && leb a.value b.value && leb 1 b.value) (good (gap a.value b.value) (a.bytes + b.bytes + 3)) (bad gap_fault)

abbrev gap_with : Bound → (after_a : List ℕ) → Bound → ReadKind
gap_with a A b = gap_by a (starts_with (byte_of ",") A) b (starts_with (byte_of "}") (drop (1 + b.bytes) A))

gap_of : (cs A : List ℕ) (a b : Bound) → bound_at cs ≡ a → drop a.bytes cs ≡ A → bound_at (drop 1 A) ≡ b → gap_at cs ≡ gap_with a A b
gap_of cs A a b ea e_a eb =
    ap (λ (x : Bound). gap_with x (drop x.bytes cs) (bound_at (drop 1 (drop x.bytes cs)))) ea
    ∙ ap (λ (l : List ℕ). gap_with a l (bound_at (drop 1 l))) e_a
    ∙ ap (gap_with a A) eb

good-bytes : {k l : Kind} {m n : ℕ} → good k m ≡ good l n → m ≡ n
good-bytes e = cc

-- what is known of a gap that was read
record GapRead (cs : List ℕ) (k : Kind) (n : ℕ) : Type 0 where
  pub a : Bound
  pub b : Bound
  pub is_a : bound_at cs ≡ a
  pub is_b : bound_at (drop 1 (drop a.bytes cs)) ≡ b
  pub some_a : 1 ≤ a.bytes
  pub some_b : 1 ≤ b.bytes
  pub size : a.bytes + b.bytes + 3 ≡ n
  pub fits : a.bytes + (b.bytes + 2) ≤ length cs

gap_read : (cs : List ℕ) (k : Kind) (n : ℕ) → gap_at cs ≡ good k n → GapRead cs k n
gap_read cs k n e =
    let a = bound_at cs in
    let A = drop a.bytes cs in
    let b = bound_at (drop 1 A) in
    let x = starts_with (byte_of ",") A in
    let y = starts_with (byte_of "}") (drop (1 + b.bytes) A) in
    let p₁ = leb 1 a.bytes in
    let p₂ = leb 1 b.bytes in
    let p₃ = leb a.value b.value in
    let p₄ = leb 1 b.value in
    branch (p₁ && x && p₂ && y && p₃ && p₄) e
    (λ t q.
    let t₅ = and_left (p₁ && x && p₂ && y && p₃) p₄ t in
    let t₄ = and_left (p₁ && x && p₂ && y) p₃ t₅ in
    let t₃ = and_left (p₁ && x && p₂) y t₄ in
    let t₂ = and_left (p₁ && x) p₂ t₃ in
    let one = starts-some (byte_of "}") (drop (1 + b.bytes) A) (and_right (p₁ && x && p₂) y t₄) in
    let l₁ = length-drop (1 + b.bytes) A in
    let l₂ = length-drop a.bytes cs in
    record {
      a = a;
      b = b;
      is_a = refl;
      is_b = refl;
      some_a = leb→le 1 a.bytes (and_left p₁ x t₂);
      some_b = leb→le 1 b.bytes (and_right (p₁ && x) p₂ t₃);
      size = good-bytes q;
      fits = omega arith;
    })
    (λ t q. not_bad q)

gap_local : (xs t u : List ℕ) (k : Kind) (n : ℕ) → gap_at (xs ++ t) ≡ good k n → n ≤ suc (length xs) → gap_at (xs ++ u) ≡ good k n
gap_local xs t u k n e l =
    let g = gap_read (xs ++ t) k n e in
    let a = g.a in
    let b = g.b in
    let s₁ = g.some_a in
    let s₂ = g.some_b in
    let z = g.size in
    let ys = drop a.bytes xs in
    let ly = length-drop a.bytes xs in
    let within : a.bytes ≤ length xs = omega arith in
    let At : drop a.bytes (xs ++ t) ≡ ys ++ t = drop-append-le a.bytes xs t within in
    let Au : drop a.bytes (xs ++ u) ≡ ys ++ u = drop-append-le a.bytes xs u within in
    let w₁ : 1 ≤ length ys = omega arith in
    let lz = length-drop 1 ys in
    let w₂ : 2 ≤ length (drop 1 ys) = omega arith in
    let w₃ : 1 + b.bytes ≤ length ys = omega arith in
    let lw = length-drop (1 + b.bytes) ys in
    let w₄ : 1 ≤ length (drop (1 + b.bytes) ys) = omega arith in
    let ea : bound_at (xs ++ u) ≡ a = sym (bound_local xs t u (omega arith)) ∙ g.is_a in
    let bt : bound_at (drop 1 (ys ++ t)) ≡ b = sym (ap (λ (l : List ℕ). bound_at (drop 1 l)) At) ∙ g.is_b in
    let bu : bound_at (drop 1 (ys ++ u)) ≡ b =
    ap bound_at (drop-append-le 1 ys u w₁) ∙ sym (bound_local (drop 1 ys) t u w₂) ∙ sym (ap bound_at (drop-append-le 1 ys t w₁)) ∙ bt in
    gap_of (xs ++ u) (ys ++ u) a b ea Au bu
    ∙ ap₂ (λ (x y : Bool). gap_by a x b y) (starts_local (byte_of ",") ys u t w₁)
    (ap (starts_with (byte_of "}")) (drop-append-le (1 + b.bytes) ys u w₃) ∙ starts_local (byte_of "}") (drop (1 + b.bytes) ys) u t w₄ ∙ sym (ap (starts_with (byte_of "}")) (drop-append-le (1 + b.bytes) ys t w₃)))
    ∙ sym (gap_of (xs ++ t) (ys ++ t) a b g.is_a At bt)
    ∙ e

-- ---- any element

cond_local : {A : Type 0} (b : Bool) (x y x' y' : A) {z : A} → cond b x y ≡ z → (x ≡ z → x' ≡ z) → (y ≡ z → y' ≡ z) → cond b x' y' ≡ z
cond_local true x y x' y' e f g = f e
cond_local false x y x' y' e f g = g e

class_of_local : (fold turned : Bool) (xs t u : List ℕ) (before : ℕ) (k : Kind) (n : ℕ) → class_of fold turned (items_from 0 before (xs ++ t)) ≡ good k n → n ≤ before + length xs
    → class_of fold turned (items_from 0 before (xs ++ u)) ≡ good k n
class_of_local fold turned xs t u before k n e l = go (items_from 0 before (xs ++ t)) refl e
  where
    go : (i : Items) → items_from 0 before (xs ++ t) ≡ i → class_of fold turned i ≡ good k n → class_of fold turned (items_from 0 before (xs ++ u)) ≡ good k n
    go faulty q e = not_bad e
    go (items [] m) q e = not_bad e
    go (items (r ∷ rs) m) q e =
        let z : m ≡ n = branch (some_below (kind_set fold (class turned (r ∷ rs))) 256) e (λ t q. good-bytes q) (λ t q. not_bad q) in
        ap (class_of fold turned) (items_local xs t u 0 before (r ∷ rs) m q (omega arith)) ∙ e

class_of_fits : (fold turned : Bool) (cs : List ℕ) (before : ℕ) (k : Kind) (n : ℕ) → class_of fold turned (items_from 0 before cs) ≡ good k n → (before < n) × (n ≤ before + length cs)
class_of_fits fold turned cs before k n e = go (items_from 0 before cs) refl e
  where
    go : (i : Items) → items_from 0 before cs ≡ i → class_of fold turned i ≡ good k n → (before < n) × (n ≤ before + length cs)
    go faulty q e = not_bad e
    go (items [] m) q e = not_bad e
    go (items (r ∷ rs) m) q e =
        let z : m ≡ n = branch (some_below (kind_set fold (class turned (r ∷ rs))) 256) e (λ t q. good-bytes q) (λ t q. not_bad q) in
        let f = items_fit cs 0 before (r ∷ rs) m q in
        let f₀ = f.0 in
        let f₁ = f.1 in
        (omega arith, omega arith)

class_local : (fold : Bool) (xs t u : List ℕ) (k : Kind) (n : ℕ) → class_at fold (xs ++ t) ≡ good k n → n ≤ suc (length xs) → class_at fold (xs ++ u) ≡ good k n
class_local fold [] t u k n e l = none t e
  where
    none : (t : List ℕ) → class_at fold t ≡ good k n → class_at fold u ≡ good k n
    none [] e = not_bad e
    none (c ∷ cs) e =
        branch (eqb c (byte_of "^")) e (λ t q. let f = (class_of_fits fold true cs 2 k n q).0 in absurd (omega arith)) (λ t q. let f = (class_of_fits fold false (c ∷ cs) 1 k n q).0 in absurd (omega arith))
class_local fold (c ∷ xs) t u k n e l =
    cond_local (eqb c (byte_of "^")) (class_of fold true (items_from 0 2 (xs ++ t))) (class_of fold false (items_from 0 1 (c ∷ (xs ++ t)))) (class_of fold true (items_from 0 2 (xs ++ u))) (class_of fold false (items_from 0 1 (c ∷ (xs ++ u)))) e
    (λ q. class_of_local fold true xs t u 2 k n q (omega arith))
    (λ q. class_of_local fold false (c ∷ xs) t u 1 k n q (omega arith))

escape_local : (xs t u : List ℕ) (k : Kind) (n : ℕ) → escape_at (xs ++ t) ≡ good k n → n ≤ suc (length xs) → escape_at (xs ++ u) ≡ good k n
escape_local [] t u k n e l = none t e
  where
    none : (t : List ℕ) → escape_at t ≡ good k n → escape_at u ≡ good k n
    none [] e = not_bad e
    none (c ∷ cs) e = branch (may_escape c) e (λ t q. let z = good-bytes q in absurd (omega arith)) (λ t q. not_bad q)
escape_local (c ∷ xs) t u k n e l = e

-- An element has at least one byte, and its bytes are there.
pub kind_fits : (fold : Bool) (cs : List ℕ) (k : Kind) (n : ℕ) → kind_at fold cs ≡ good k n → (1 ≤ n) × (n ≤ length cs)
kind_fits fold [] k n e = not_bad e
kind_fits fold (c ∷ cs) k n e =
    branch (eqb c (byte_of ".")) e (λ t q. let z = good-bytes q in (omega arith, omega arith)) λ t e.
    branch (eqb c (byte_of "[")) e (λ t q. by_class cs q) λ t e.
    branch (eqb c (byte_of "{")) e (λ t q. let g = gap_read cs k n q in let z = g.size in let f = g.fits in (omega arith, omega arith)) λ t e.
    branch (eqb c (byte_of "\\")) e (λ t q. by_escape cs q) λ t e.
    branch (one_of (ascii "?+*") c) e (λ t q. not_bad q) λ t e.
    branch (one_of (ascii "]}") c) e (λ t q. not_bad q) λ t e.
    let z = good-bytes e in (omega arith, omega arith)
  where
    by_class : (cs : List ℕ) → class_at fold cs ≡ good k n → (1 ≤ n) × (n ≤ suc (length cs))
    by_class [] e = not_bad e
    by_class (c ∷ cs) e =
        branch (eqb c (byte_of "^")) e (λ t q. let f = class_of_fits fold true cs 2 k n q in let f₀ = f.0 in let f₁ = f.1 in (omega arith, omega arith))
        (λ t q. let f = class_of_fits fold false (c ∷ cs) 1 k n q in let f₀ = f.0 in let f₁ = f.1 in (omega arith, omega arith))

    by_escape : (cs : List ℕ) → escape_at cs ≡ good k n → (1 ≤ n) × (n ≤ suc (length cs))
    by_escape [] e = not_bad e
    by_escape (c ∷ cs) e = branch (may_escape c) e (λ t q. let z = good-bytes q in (omega arith, omega arith)) (λ t q. not_bad q)

-- It is read from its own bytes alone.
pub kind_local : (fold : Bool) (xs t u : List ℕ) (k : Kind) (n : ℕ) → kind_at fold (xs ++ t) ≡ good k n → n ≤ length xs → kind_at fold (xs ++ u) ≡ good k n
kind_local fold [] t u k n e l = let f = (kind_fits fold t k n e).0 in absurd (omega arith)
kind_local fold (c ∷ xs) t u k n e l =
    cond_local (eqb c (byte_of ".")) _ _ _ _ e (λ q. q)
    (λ e. cond_local (eqb c (byte_of "[")) _ _ _ _ e (λ q. class_local fold xs t u k n q l)
    (λ e. cond_local (eqb c (byte_of "{")) _ _ _ _ e (λ q. gap_local xs t u k n q l)
    (λ e. cond_local (eqb c (byte_of "\\")) _ _ _ _ e (λ q. escape_local xs t u k n q l)
    (λ q. q))))

-- No element begins with a mark of how often.
pub kind-once : (fold : Bool) (cs : List ℕ) (k : Kind) (n : ℕ) → kind_at fold cs ≡ good k n → often_at cs ≡ once
kind-once fold [] k n e = refl
kind-once fold (c ∷ cs) k n e = go (eqb c 63) refl
  where
    is-mark : (m : ℕ) → c ≡ m → kind_at fold (m ∷ cs) ≡ bad mark_fault → {A : Type 0} → A
    is-mark m q b = not_bad (sym (ap (λ (x : ℕ). kind_at fold (x ∷ cs)) q ∙ b) ∙ e)

    go : (b : Bool) → eqb c 63 ≡ b → cond b optional (cond (eqb c 43) repeatable (cond (eqb c 42) both once)) ≡ once
    go true q = is-mark 63 (eqb→eq c 63 (T-to (sym q) tt)) refl
    go false q = go₂ (eqb c 43) refl
      where
        go₂ : (b : Bool) → eqb c 43 ≡ b → cond b repeatable (cond (eqb c 42) both once) ≡ once
        go₂ true q = is-mark 43 (eqb→eq c 43 (T-to (sym q) tt)) refl
        go₂ false q = go₃ (eqb c 42) refl
          where
            go₃ : (b : Bool) → eqb c 42 ≡ b → cond b both once ≡ once
            go₃ true q = is-mark 42 (eqb→eq c 42 (T-to (sym q) tt)) refl
            go₃ false q = refl

-- ---- its mark

mark-small : (o : Often) → mark_bytes o ≤ 1
mark-small once = omega arith
mark-small optional = omega arith
mark-small repeatable = omega arith
mark-small both = omega arith

at-fits : (ys : List ℕ) → mark_bytes (often_at ys) ≤ length ys
at-fits [] = omega arith
at-fits (c ∷ ys) = let m = mark-small (often_at (c ∷ ys)) in omega arith

pub often-fits : (k : Kind) (ys : List ℕ) → mark_bytes (often_after k ys) ≤ length ys
often-fits (byte b) ys = at-fits ys
often-fits any ys = at-fits ys
often-fits (class t rs) ys = at-fits ys
often-fits (gap a b) ys = omega arith

mark-none : (o : Often) → mark_bytes o ≡ 0 → o ≡ once
mark-none once e = refl
mark-none optional e = absurd (omega arith)
mark-none repeatable e = absurd (omega arith)
mark-none both e = absurd (omega arith)

often-once : (k : Kind) (ys : List ℕ) → often_at ys ≡ once → often_after k ys ≡ once
often-once (byte b) ys e = e
often-once any ys e = e
often-once (class t rs) ys e = e
often-once (gap a b) ys e = refl

often_cons : (k : Kind) (c : ℕ) (ys zs : List ℕ) → often_after k (c ∷ ys) ≡ often_after k (c ∷ zs)
often_cons (byte b) c ys zs = refl
often_cons any c ys zs = refl
often_cons (class t rs) c ys zs = refl
often_cons (gap a b) c ys zs = refl

-- What follows matters only where it is a mark.
pub often_local : (k : Kind) (ys t u : List ℕ) → often_at u ≡ once → length ys ≡ mark_bytes (often_after k (ys ++ t)) → often_after k (ys ++ u) ≡ often_after k (ys ++ t)
often_local k [] t u e l = often-once k u e ∙ sym (mark-none (often_after k t) (sym l))
often_local k (c ∷ ys) t u e l = often_cons k c (ys ++ u) (ys ++ t)
