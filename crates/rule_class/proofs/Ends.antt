-- The laws of the readers of a class: an end, an item, the items. On plain values. Assumes nothing.
use mathlib.Core.Path.{◌≡◌, refl, sym, ap, ◌∙◌}
use mathlib.Core.List.{List, [], ◌∷◌}
use mathlib.Core.Bool.{true, false}
use Prim.Native.Nat.{ℕ, zero, suc, pred, ◌+◌, ◌≤◌, ◌<◌}
use native.Mathlib.Omega.{arith}
use native.Mathlib.Decide.{dec_le}
use native.Mathlib.Numerals.{add-one}
use native.Mathlib.Nat.{add-zero, zero-add, add-suc, suc-add}
use lib.ListN.{length, get_or, drop, drop_of_length-le, get_or-eq_default}
use lib.Seq.{drop-cons, drop-drop}
use borrow.Author.Tests.{ne_eqb, le-leb, lt-leb}
use Rattle.std.specs.Prelude.{Some, None}
use Rattle.model.specs.RuleText as Model
use Rattle.model.specs.RuleText.{no_end, an_end, closes, misfit, item, faulty, items, end_at, may_escape, item_at, item_from, range_from, range_to, items_from}
use Rattle.rule_class.specs.declared.ClassItem.{ClassItem}
use Rattle.rule_class.specs.declared.ClassItem.TheVariants.{Range, Close}
use Rattle.byte_set.specs.declared.ByteSet.{ByteSet}
use Rattle.byte_set.specs.Sets.{add_ranges, add_range, none}
use Rattle.rule_class.specs.Items.{end_of, ReadsEnd, ReadsEscape, item_of, ReadsItem, collect, ReadsItems}

-- ---- lists by index
pub past_end : (s : List ℕ) (at : ℕ) → length s ≤ at → drop at s ≡ []
past_end s at h = drop_of_length-le s h

-- a byte of what is left, by its place in the rule
pub byte_at : (s : List ℕ) (at k : ℕ) → get_or (drop at s) k 0 ≡ get_or s (at + k) 0
byte_at s zero k = ap (λ (j : ℕ). get_or s j 0) (sym (zero-add k))
byte_at [] (suc at) k = refl
byte_at (x ∷ s) (suc at) k = byte_at s at k ∙ ap (λ (j : ℕ). get_or (x ∷ s) j 0) (sym (suc-add at k))

-- a byte that is not 0 stands within the rule
pub within : (s : List ℕ) (at m : ℕ) → get_or s at 0 ≡ suc m → at < length s
within s at m e = elim (dec_le (length s) at) [ yes h ↦ absurd (zero_not (sym (get_or-eq_default s 0 {n = at} h) ∙ e)) | no h ↦ omega arith ]
  where
    zero_not : 0 ≡ suc m → ⊥
    zero_not q = omega arith

-- what `get` says of a place where it finds a byte
abbrev pub Stands : List ℕ → (at c : ℕ) → Type 0
Stands s at c = (at < length s) × ((d : ℕ) → c ≡ get_or s at d)

pub here : (s : List ℕ) (at c : ℕ) → Stands s at c → drop at s ≡ c ∷ drop (suc at) s
here s at c h = rw (h.1 0) (drop-cons s at 0 h.0)

-- ---- `read_escape`
module _ (s : List ℕ) (at c : ℕ) (h : Stands s (at + 1) c) where
  next_cons : drop (suc at) s ≡ c ∷ drop (suc (suc at)) s
  next_cons = rw (← add-one at) (here s (at + 1) c h)

  pub escaped : may_escape c ≡ true → ReadsEscape s at (Some (c, at + 1 + 1))
  escaped y =
      let l = h.0 in
      record { is = rw (next_cons, y) (ap (λ (n : ℕ). Some (c, n)) (omega arith)); moves = (omega arith, omega arith) }

  pub not_escaped : may_escape c ≡ false → ReadsEscape s at None
  not_escaped y = record { is = rw (next_cons, y); moves = tt }

-- an end that was found, read back into the model's count of bytes
pub end-found : (at c next : ℕ) (e : Model.ReadEnd) → Some (c, next) ≡ end_of at e → (n : ℕ) × (e ≡ an_end c n) × (next ≡ at + n)
end-found at c next no_end q = absurd (cc)
end-found at c next (an_end v n) q =
    let p : ◌≡◌ {A = ℕ × ℕ} (c, next) (v, at + n) = cc in
    (n, ap (λ (x : ℕ × ℕ). an_end x.0 n) (sym p), ap (λ (x : ℕ × ℕ). x.1) p)

pub end_missed : (at : ℕ) (e : Model.ReadEnd) → None ≡ end_of at e → e ≡ no_end
end_missed at no_end q = refl
end_missed at (an_end v n) q = absurd (cc)

-- ---- `read_item`
-- the first byte, c, and the lower end
module _ (s : List ℕ) (at c : ℕ) (h : Stands s at c) (b : c ≡ 93 → ⊥) (lo next : ℕ) (rc : ReadsEnd s at (Some (lo, next))) where
  low : (n : ℕ) × (end_at (drop at s) ≡ an_end lo n) × (next ≡ at + n)
  low = end-found at lo next (end_at (drop at s)) rc.is

  by_low : item_at (drop at s) ≡ range_from lo low.0 (drop next s)
  by_low =
      let e : item_at (drop at s) ≡ item_from (drop at s) (end_at (drop at s)) = rw (here s at c h, ne_eqb _ _ b) in
      e ∙ rw low.1 (ap (range_from lo low.0) (drop-drop low.0 at s ∙ ap (λ (k : ℕ). drop k s) (sym low.2)))

  -- the `-` after it
  module _ (d : Stands s next 45) where
    by_high : item_at (drop at s) ≡ range_to lo low.0 (end_at (drop (next + 1) s))
    by_high = rw (by_low, here s next 45 d, add-one)

    pub no_high : ReadsEnd s (next + 1) None → ReadsItem s at None
    no_high qc = record { is = rw (by_high, end_missed (next + 1) (end_at (drop (next + 1) s)) qc.is); moves = tt }

    -- the upper end
    module _ (hi after : ℕ) (qc : ReadsEnd s (next + 1) (Some (hi, after))) where
      high : (m : ℕ) × (end_at (drop (next + 1) s) ≡ an_end hi m) × (after ≡ next + 1 + m)
      high = end-found (next + 1) hi after (end_at (drop (next + 1) s)) qc.is

      pub reversed : hi < lo → ReadsItem s at None
      reversed o = record { is = rw (by_high, high.1, lt-leb _ _ o); moves = tt }

      pub range : lo ≤ hi → ReadsItem s at (Some (Range lo hi after))
      range o =
          let m = qc.moves in
          let n = rc.moves in
          let a : after ≡ at + (low.0 + 1 + high.0) = omega (arith, low.2, high.2) in
          record { is = rw (by_high, high.1, le-leb _ _ o) (ap (λ (k : ℕ). Some (Range lo hi k)) a); moves = (omega arith, omega arith, o) }

-- an item that was found, read back into the model's
pub item-found : (at lo hi next : ℕ) (i : Model.Item) → Some (Range lo hi next) ≡ item_of at i → (n : ℕ) × (i ≡ item (record { low = lo; high = hi }) n) × (next ≡ at + n)
item-found at lo hi next closes q = absurd (cc)
item-found at lo hi next misfit q = absurd (cc)
item-found at lo hi next (item r n) q =
    let a : lo ≡ r.low = cc in
    let b : hi ≡ r.high = cc in
    let c : next ≡ at + n = cc in
    (n, rw (a, b), c)

pub closes-found : (at next : ℕ) (i : Model.Item) → Some (Close next) ≡ item_of at i → (i ≡ closes) × (next ≡ at + 1)
closes-found at next closes q = let c : next ≡ at + 1 = cc in (refl, c)
closes-found at next misfit q = absurd (cc)
closes-found at next (item r n) q = absurd (cc)

-- ---- the loop of `read_items`
-- bytes that belong to an item already read are dropped
pub items_skip : (k n : ℕ) (cs : List ℕ) → items_from k n cs ≡ items_from 0 (n + k) (drop k cs)
items_skip zero n cs = ap (λ (m : ℕ). items_from 0 m cs) (sym (add-zero n))
items_skip (suc k) n [] = refl
items_skip (suc k) n (c ∷ cs) = items_skip k (suc n) cs ∙ ap (λ (m : ℕ). items_from 0 m (drop k cs)) (suc-add n k ∙ sym (add-suc n k))

items-item : (c : ℕ) (cs : List ℕ) (n : ℕ) (r : Model.Range) (k : ℕ) → item_at (c ∷ cs) ≡ item r k → items_from 0 n (c ∷ cs) ≡ Model.add_range r (items_from (pred k) (suc n) cs)
items-item c cs n r k q = rw (q, items_from)

items-closes : (c : ℕ) (cs : List ℕ) (n : ℕ) → item_at (c ∷ cs) ≡ closes → items_from 0 n (c ∷ cs) ≡ items [] (suc n)
items-closes c cs n q = rw (q, items_from)

collect_add : (w : List ℕ) (r : Model.Range) (x : Model.Items) → collect w (Model.add_range r x) ≡ collect (add_range w r.low r.high) x
unfolding add_ranges
collect_add w r faulty = refl
collect_add w r (items rs n) = refl

-- the invariant: what is read from here, with the present set, is what is read from the beginning
pub record Reading (s : List ℕ) (from : ℕ) (w : List ℕ) (at : ℕ) : Type 0 where
  pub ahead : from ≤ at
  pub rest : collect w (items_from 0 at (drop at s)) ≡ collect none (items_from 0 from (drop from s))

module _ (s : List ℕ) (from : ℕ) where
  module _ (w : List ℕ) (at : ℕ) (g : Reading s from w at) where
    pub item-turn : {i : ClassItem} (lo hi next : ℕ) → ReadsItem s at (Some i) → i ≡ Range lo hi next → (w' : List ℕ) → w' ≡ add_range w lo hi → Reading s from w' next
    item-turn lo hi next r q w' f =
        let ri = rw q at r in
        let m = ri.moves in
        let a = m.0 in
        let b = m.1 in
        let k = item-found at lo hi next (item_at (drop at s)) ri.is in
        let n = k.0 in
        let kn = k.2 in
        let d = drop-cons s at 0 (omega arith) in
        let p : suc at + pred n ≡ next = omega arith in
        let t : items_from 0 at (drop at s) ≡ Model.add_range (record { low = lo; high = hi }) (items_from 0 next (drop next s)) =
        ap (items_from 0 at) d
        ∙ items-item (get_or s at 0) (drop (suc at) s) at (record { low = lo; high = hi }) n (ap item_at (sym d) ∙ k.1)
        ∙ ap (Model.add_range (record { low = lo; high = hi }))
        (items_skip (pred n) (suc at) (drop (suc at) s)
        ∙ ap (items_from 0 (suc at + pred n)) (drop-drop (pred n) (suc at) s)
        ∙ ap (λ (j : ℕ). items_from 0 j (drop j s)) p) in
        record {
          ahead = omega (arith, g.ahead);
          rest = rw f (sym (ap (collect w) t ∙ collect_add w (record { low = lo; high = hi }) (items_from 0 next (drop next s))) ∙ g.rest);
        }

    pub items_closed : {i : ClassItem} (next : ℕ) → ReadsItem s at (Some i) → i ≡ Close next → (set : ByteSet) → set.words ≡ w → ReadsItems s from (Some (set, next))
    unfolding add_ranges
    items_closed next r q set e =
        let ri = rw q at r in
        let m = ri.moves in
        let a = m.0 in
        let b = m.1 in
        let k = closes-found at next (item_at (drop at s)) ri.is in
        let d = drop-cons s at 0 (omega arith) in
        let n : next ≡ suc at = k.1 ∙ add-one at in
        record {
          is = ap (λ (j : ℕ). Some (set, j)) n
              ∙ ap (λ (v : List ℕ). let t : ByteSet = record { words = v } in Some (t, suc at)) e
              ∙ sym (ap (collect w) (ap (items_from 0 at) d ∙ items-closes (get_or s at 0) (drop (suc at) s) at (ap item_at (sym d) ∙ k.0))) ∙ g.rest;
          moves = (omega (arith, g.ahead), b);
        }
