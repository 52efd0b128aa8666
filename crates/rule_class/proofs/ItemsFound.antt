-- What `read_items` found, read back into the model's; and what it finds with more bytes before the first item. On plain values. Assumes
-- nothing.
use mathlib.Core.Path.{◌≡◌, refl, sym, ap, ◌∙◌}
use mathlib.Core.List.{List, [], ◌∷◌}
use mathlib.Core.Bool.{Bool, true, false, cond}
use Prim.Native.Nat.{ℕ, zero, suc, pred, ◌+◌}
use native.Mathlib.Omega.{arith}
use native.Mathlib.Nat.{add-suc}
use lib.ListN.{drop}
use lib.Dec.{eqb, leb}
use borrow.Author.Tests.{ne_eqb}
use Rattle.model.specs.RuleText as Model
use Rattle.model.specs.RuleText.{no_end, an_end, closes, misfit, item, faulty, items, end_at, item_at, item_from, range_from, range_to, items_from}
use Rattle.std.specs.Prelude.{Some, None}
use Rattle.byte_set.specs.declared.ByteSet.{ByteSet}
use Rattle.byte_set.specs.Sets.{add_ranges, none}
use Rattle.rule_class.specs.Items.{collect}

clash : {A : Type 0} → ◌≡◌ {A = ℕ} 0 1 → A
clash z = absurd (omega arith)

-- no item but the `]` closes a class
to_never : (lo n : ℕ) (e : Model.ReadEnd) → range_to lo n e ≡ closes → ⊥
to_never lo n no_end q = let z : ◌≡◌ {A = ℕ} 0 1 = cc in clash z
to_never lo n (an_end hi m) q = go (leb lo hi) q
  where
    go : (b : Bool) → cond b (item (record { low = lo; high = hi }) (n + 1 + m)) misfit ≡ closes → ⊥
    go true q = let z : ◌≡◌ {A = ℕ} 0 1 = cc in clash z
    go false q = let z : ◌≡◌ {A = ℕ} 0 1 = cc in clash z

from_never : (lo n : ℕ) (cs : List ℕ) → range_from lo n cs ≡ closes → ⊥
from_never lo n [] q = let z : ◌≡◌ {A = ℕ} 0 1 = cc in clash z
from_never lo n (c ∷ cs) q = go (eqb c 45) q
  where
    go : (b : Bool) → cond b (range_to lo n (end_at cs)) (item (record { low = lo; high = lo }) n) ≡ closes → ⊥
    go true q = to_never lo n (end_at cs) q
    go false q = let z : ◌≡◌ {A = ℕ} 0 1 = cc in clash z

item_never : (cs : List ℕ) (e : Model.ReadEnd) → item_from cs e ≡ closes → ⊥
item_never cs no_end q = let z : ◌≡◌ {A = ℕ} 0 1 = cc in clash z
item_never cs (an_end lo n) q = from_never lo n (drop n cs) q

added-some : (r : Model.Range) (x : Model.Items) (n : ℕ) → Model.add_range r x ≡ items [] n → ⊥
added-some r faulty n q = let z : ◌≡◌ {A = ℕ} 0 1 = cc in clash z
added-some r (items rs m) n q = let z : ◌≡◌ {A = ℕ} 0 1 = cc in clash z

pub items-some : (c : ℕ) (cs : List ℕ) (n m : ℕ) → (c ≡ 93 → ⊥) → items_from 0 n (c ∷ cs) ≡ items [] m → ⊥
items-some c cs n m h q = go (item_at (c ∷ cs)) refl
  where
    go : (i : Model.Item) → item_at (c ∷ cs) ≡ i → ⊥
    go closes e = item_never (c ∷ cs) (end_at (c ∷ cs)) (sym (ap (λ (b : Bool). cond b closes (item_from (c ∷ cs) (end_at (c ∷ cs)))) (ne_eqb c 93 h)) ∙ e)
    go misfit e = let f : items_from 0 n (c ∷ cs) ≡ faulty = rw (e, items_from) in let z : ◌≡◌ {A = ℕ} 0 1 = cc in clash z
    go (item r k) e =
        let f : items_from 0 n (c ∷ cs) ≡ Model.add_range r (items_from (pred k) (suc n) cs) = rw (e, items_from) in
        added-some r (items_from (pred k) (suc n) cs) m (sym f ∙ q)

-- what `read_items` found, read back into the model's
pub items-found : (set : ByteSet) (next : ℕ) (x : Model.Items) → Some (set, next) ≡ collect none x → (rs : List Model.Range) × (x ≡ items rs next) × (set ≡ record { words = add_ranges none rs })
items-found set next faulty q = absurd (cc)
items-found set next (items rs n) q =
    let p : ◌≡◌ {A = ByteSet × ℕ} (set, next) (record { words = add_ranges none rs }, n) = cc in
    (rs, ap (λ (y : ByteSet × ℕ). items rs y.1) (sym p), ap (λ (y : ByteSet × ℕ). y.0) p)

pub items_missed : (x : Model.Items) → None ≡ collect none x → x ≡ faulty
items_missed faulty q = refl
items_missed (items rs n) q = absurd (cc)

-- more bytes before the first item: the count of bytes is that much greater
unfoldable pub later : ℕ → Model.Items → Model.Items
later m faulty = faulty
later m (items rs n) = items rs (m + n)

later_add : (m : ℕ) (r : Model.Range) (x : Model.Items) → Model.add_range r (later m x) ≡ later m (Model.add_range r x)
unfolding later
later_add m r faulty = refl
later_add m r (items rs n) = refl

pub items_later : (m k n : ℕ) (cs : List ℕ) → items_from k (m + n) cs ≡ later m (items_from k n cs)
unfolding later
items_later m k n [] = refl
items_later m (suc k) n (c ∷ cs) = ap (λ (j : ℕ). items_from k j cs) (sym (add-suc m n)) ∙ items_later m k (suc n) cs
items_later m zero n (c ∷ cs) = go (item_at (c ∷ cs)) refl (λ k. ap (λ (j : ℕ). items_from k j cs) (sym (add-suc m n)) ∙ items_later m k (suc n) cs)
  where
    go : (i : Model.Item) → item_at (c ∷ cs) ≡ i → ((k : ℕ) → items_from k (suc (m + n)) cs ≡ later m (items_from k (suc n) cs)) → items_from 0 (m + n) (c ∷ cs) ≡ later m (items_from 0 n (c ∷ cs))
    go closes e ih =
        let a : items_from 0 (m + n) (c ∷ cs) ≡ items [] (suc (m + n)) = rw (e, items_from) in
        let b : items_from 0 n (c ∷ cs) ≡ items [] (suc n) = rw (e, items_from) in
        a ∙ ap (items []) (sym (add-suc m n)) ∙ ap (later m) (sym b)
    go misfit e ih =
        let a : items_from 0 (m + n) (c ∷ cs) ≡ faulty = rw (e, items_from) in
        let b : items_from 0 n (c ∷ cs) ≡ faulty = rw (e, items_from) in
        a ∙ ap (later m) (sym b)
    go (item r k) e ih =
        let a : items_from 0 (m + n) (c ∷ cs) ≡ Model.add_range r (items_from (pred k) (suc (m + n)) cs) = rw (e, items_from) in
        let b : items_from 0 n (c ∷ cs) ≡ Model.add_range r (items_from (pred k) (suc n) cs) = rw (e, items_from) in
        a ∙ ap (Model.add_range r) (ih (pred k)) ∙ later_add m r (items_from (pred k) (suc n) cs) ∙ ap (later m) (sym b)
