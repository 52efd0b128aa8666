-- The laws of `is_mark`, `plain_item`, `escaped_item`, `read_item` and `put_item`. On plain values. Assumes nothing.
use mathlib.Core.Path.{◌≡◌, refl, sym, ap, ap₂, ◌∙◌}
use mathlib.Core.Bool.{Bool, true, false, cond}
use mathlib.Core.List.{List, [], ◌∷◌}
use Prim.Native.Nat.{ℕ, suc, ◌+◌, ◌≤◌, ◌<◌}
use native.Mathlib.Omega.{arith}
use native.Mathlib.Numerals.{add-one}
use lib.ListN.{length, get_or, set, drop, length-set, drop_of_length-le}
use lib.Seq.{drop-cons}
use borrow.Author.Tests.{ne_eqb}
use Rattle.std.specs.Prelude.{Option, None, Some}
use Rattle.model.specs.Ascii.{ascii}
use Rattle.model.specs.RuleText.{one_of, marks}
use Rattle.model.specs.Like.{LikeItem, any_bytes, one_byte, plain, LikePattern, misspelt, add_item, like_from}
use Rattle.like_importer.specs.declared.Item.{Item}
use Rattle.like_importer.specs.Importing.{spelled_by, spelling, Spells, ReadsItem, PutIs}

-- ---- `is_mark`

-- ---- `plain_item`

module _ (c : ℕ) (r : Bool) (is : r ≡ one_of marks c) where
  pub plain-mark : r ≡ true → Spells (plain c) (record { first = 92; second = Some c; some = true })
  plain-mark e = let m : one_of marks c ≡ true = sym is ∙ e in record { text = rw m; some = refl }

  pub plain_other : r ≡ false → Spells (plain c) (record { first = c; second = None; some = true })
  plain_other e = let m : one_of marks c ≡ false = sym is ∙ e in record { text = rw m; some = refl }

-- ---- `read_item`, `escaped_item`

-- what is left of a text, by its next byte
next-byte : (s : List ℕ) (at c : ℕ) → at < length s → get_or s at 0 ≡ c → drop at s ≡ c ∷ drop (at + 1) s
next-byte s at c l e = drop-cons s at 0 l ∙ ap₂ (λ (x : ℕ) (k : ℕ). x ∷ drop k s) e (sym (add-one at))

module _ (s : List ℕ) (at : ℕ) (l : at < length s) where
  abbrev rest : LikePattern
  rest = like_from false (at + 1) (drop (at + 1) s)

  got : (i : LikeItem) (x : Item) → Spells i x → like_from false at (drop at s) ≡ add_item i rest → ReadsItem s at (Some (x, (at + 1)))
  got i x h e = record { is = record { item = i; spells = h; ahead = omega arith; inside = omega arith; reads = e } }

  -- the next byte settles it
  begins : (c : ℕ) → get_or s at 0 ≡ c → (p : LikePattern) → like_from false at (c ∷ drop (at + 1) s) ≡ p → like_from false at (drop at s) ≡ p
  begins c e p q = ap (like_from false at) (next-byte s at c l e) ∙ q

  -- what follows, at its place
  follows : (i : LikeItem) → add_item i (like_from false (suc at) (drop (at + 1) s)) ≡ add_item i rest
  follows i = ap (λ (k : ℕ). add_item i (like_from false k (drop (at + 1) s))) (sym (add-one at))

  pub read_any : get_or s at 0 ≡ 37 → ReadsItem s at (Some ((record { first = 46; second = Some 42; some = false }), (at + 1)))
  read_any e = got any_bytes (record { first = 46; second = Some 42; some = false }) (record { text = refl; some = refl }) (begins 37 e (add_item any_bytes rest) (follows any_bytes))

  pub read_one : get_or s at 0 ≡ 95 → ReadsItem s at (Some ((record { first = 46; second = None; some = true }), (at + 1)))
  read_one e = got one_byte (record { first = 46; second = None; some = true }) (record { text = refl; some = refl }) (begins 95 e (add_item one_byte rest) (follows one_byte))

  pub read_plain : (get_or s at 0 ≡ 37 → ⊥) → (get_or s at 0 ≡ 95 → ⊥) → (get_or s at 0 ≡ 92 → ⊥) → (x : Item) → Spells (plain (get_or s at 0)) x → ReadsItem s at (Some (x, (at + 1)))
  read_plain n0 n1 n2 x h =
      let c = get_or s at 0 in
      got (plain c) x h
      (begins c refl (add_item (plain c) rest)
      (rw (ne_eqb c 37 n0, ne_eqb c 95 n1, ne_eqb c 92 n2) (follows (plain c))))

  module _ (e : get_or s at 0 ≡ 92) where
    -- after the backslash
    escapes : (p : LikePattern) → like_from true (suc at) (drop (at + 1) s) ≡ p → like_from false at (drop at s) ≡ p
    escapes p q = begins 92 e p q

    pub escaped_last : length s ≤ at + 1 → ReadsItem s at None
    escaped_last h = let d = drop_of_length-le s h in record { is = escapes (misspelt at) (ap (like_from true (suc at)) d) }

    module _ (h : at + 1 < length s) where
      abbrev d : ℕ
      d = get_or s (at + 1) 0

      escaped_by : (b : Bool) → one_of (ascii "%_\\") d ≡ b → like_from true (suc at) (drop (at + 1) s)
          ≡ cond b (add_item (plain d) (like_from false (suc (suc at)) (drop (at + 1 + 1) s))) (misspelt at)
      escaped_by b q =
          ap (like_from true (suc at)) (next-byte s (at + 1) d h refl)
          ∙ ap (λ (x : Bool). cond x (add_item (plain d) (like_from false (suc (suc at)) (drop (at + 1 + 1) s))) (misspelt at)) q

      escaped_got : one_of (ascii "%_\\") d ≡ true → (x : Item) → Spells (plain d) x → ReadsItem s at (Some (x, (at + 1 + 1)))
      escaped_got q x i =
          let z : suc (suc at) ≡ at + 1 + 1 = omega arith in
          record {
            is = record {
              item = plain d;
              spells = i;
              ahead = omega arith;
              inside = omega arith;
              reads = escapes (add_item (plain d) (like_from false (at + 1 + 1) (drop (at + 1 + 1) s)))
                  (escaped_by true q ∙ ap (λ (k : ℕ). add_item (plain d) (like_from false k (drop (at + 1 + 1) s))) z);
            };
          }

      pub escaped_percent : d ≡ 37 → (x : Item) → Spells (plain d) x → ReadsItem s at (Some (x, (at + 1 + 1)))
      escaped_percent q = escaped_got (rw q)

      pub escaped_line : d ≡ 95 → (x : Item) → Spells (plain d) x → ReadsItem s at (Some (x, (at + 1 + 1)))
      escaped_line q = escaped_got (rw q)

      pub escaped_slash : d ≡ 92 → (x : Item) → Spells (plain d) x → ReadsItem s at (Some (x, (at + 1 + 1)))
      escaped_slash q = escaped_got (rw q)

      pub escaped_other : (d ≡ 37 → ⊥) → (d ≡ 95 → ⊥) → (d ≡ 92 → ⊥) → ReadsItem s at None
      escaped_other n0 n1 n2 = record { is = escapes (misspelt at) (escaped_by false (simp (ne_eqb _ _ n0, ne_eqb _ _ n1, ne_eqb _ _ n2))) }

-- ---- `put_item`

pub spelling-some : (x : Item) → 1 ≤ length (spelling x)
spelling-some x = go x.second
  where
    go : (b : Option ℕ) → 1 ≤ length (spelled_by x.first b)
    go None = omega arith
    go (Some d) = omega arith

pub spelling-short : (x : Item) → length (spelling x) ≤ 2
spelling-short x = go x.second
  where
    go : (b : Option ℕ) → length (spelled_by x.first b) ≤ 2
    go None = omega arith
    go (Some d) = omega arith

module _ (x : Item) (out : List ℕ) (at : ℕ) where
  pub put_first : at + length (spelling x) ≤ length out → at < length out
  put_first h = omega (arith, spelling-some x)

  module _ (d : ℕ) (e : x.second ≡ Some d) where
    two : spelling x ≡ x.first ∷ d ∷ []
    two = ap (spelled_by x.first) e

    pub put_second : at + length (spelling x) ≤ length out → at + 1 < length (set out at x.first)
    put_second h = let z = ap length two in omega (arith, length-set out at x.first)

    pub put_two : PutIs x out at (at + 1 + 1) (set (set out at x.first) (at + 1) d)
    put_two = let z = ap length two in record { end = omega arith; list = rw (two, add-one at) }

  pub put_one : x.second ≡ None → PutIs x out at (at + 1) (set out at x.first)
  put_one e = let o : spelling x ≡ x.first ∷ [] = ap (spelled_by x.first) e in let z = ap length o in record { end = omega arith; list = rw o }
