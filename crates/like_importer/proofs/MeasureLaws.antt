-- The laws of `add_item` and of the loop of `read_pattern`. On plain values. Assumes nothing.
use mathlib.Core.Path.{◌≡◌, refl, sym, ap, ap₂, subst, ◌∙◌}
use mathlib.Core.Bool.{Bool, true, false, not, cond, ◌||◌}
use mathlib.Core.List.{List, [], ◌∷◌, ◌++◌, append-nil}
use Prim.Native.Nat.{ℕ, zero, suc, ◌+◌, ◌-◌, ◌*◌, ◌^◌, ◌≤◌, ◌<◌}
use native.Mathlib.Omega.{arith}
use native.Mathlib.Decide.{dec_le}
use lib.Dec.{ltb, eqb}
use lib.ListN.{length, drop, length-append, drop_of_length-le}
use lib.Seq.{take_all, take-append-le}
use borrow.Author.Tests.{lt-ltb, le-ltb, ne_eqb}
use Rattle.model.specs.Occurrence.{one_if}
use Rattle.model.specs.RuleText.{position_limit}
use Rattle.model.specs.NumberedAnswers.{text_limit}
use Rattle.model.specs.Like.{LikeItem, any_bytes, one_byte, plain, LikePattern, misspelt, pattern, add_item, like_from, like, item_text, like_text}
use Rattle.rule_spelling.specs.LikeRules.{singles, past_place}
use Rattle.rule_spelling.proofs.LikeRules.{text-append}
use Rattle.std.specs.Prelude.{Option, None, Some}
use Rattle.answers.specs.declared.Refusal.TheVariants.{LikeFault}
use Rattle.answers.specs.declared.Refused.{Refused}
use Rattle.answers.specs.Answers.{refused_at}
use Rattle.like_importer.specs.declared.Item.{Item}
use Rattle.like_importer.specs.declared.Measure.{Measure}
use Rattle.like_importer.specs.Importing.{spelling, single, Spells, ItemRead, Reads, ReadsItem, added, Addable, Measures, MeasuredIs, MisspeltIs}
use Rattle.like_importer.proofs.ItemLaws.{spelling-short}

-- ---- `add_item`

module _ (m : Measure) (x : Item) (n : ℕ) (en : n ≡ length (spelling x)) where
  pub add_fits : Addable m → m.length + n < 2 ^ 64
  add_fits h = omega (arith, h.short, spelling-short x)

  pub add_within : m.items < position_limit → record { items = m.items + 1; length = m.length + n; past = m.length + n; some = m.some || x.some } ≡ added m x
  add_within h = rw (lt-ltb m.items position_limit h, ← en)

  pub add_past : position_limit ≤ m.items → record { items = m.items + 1; length = m.length + n; past = m.past; some = m.some || x.some } ≡ added m x
  add_past h = rw (le-ltb m.items position_limit h, ← en)

-- ---- items measured, and one more

singles_snoc : (is : List LikeItem) (i : LikeItem) → singles (is ++ (i ∷ [])) ≡ singles is + one_if (single i)
singles_snoc [] any_bytes = refl
singles_snoc [] one_byte = refl
singles_snoc [] (plain c) = refl
singles_snoc (any_bytes ∷ is) i = singles_snoc is i
singles_snoc (one_byte ∷ is) i = ap suc (singles_snoc is i) ∙ (let z : suc (singles is + one_if (single i)) ≡ suc (singles is) + one_if (single i) = omega arith in z)
singles_snoc (plain c ∷ is) i = ap suc (singles_snoc is i) ∙ (let z : suc (singles is + one_if (single i)) ≡ suc (singles is) + one_if (single i) = omega arith in z)

some_more : (n : ℕ) (b : Bool) → (not (eqb n 0) || b) ≡ not (eqb (n + one_if b) 0)
some_more zero true = refl
some_more zero false = refl
some_more (suc n) b = rw (ne_eqb (suc n) 0 (λ z. omega arith), ne_eqb (suc n + one_if b) 0 (λ z. omega arith))

module _ (is : List LikeItem) (m : Measure) (h : Measures is m) (i : LikeItem) (x : Item) (hx : Spells i x) where
  text-long : m.length + length (spelling x) ≡ length (like_text (is ++ (i ∷ [])))
  text-long =
      let t = text-append is (i ∷ []) in
      let e = ap length hx.text in
      let z = ap length t in
      omega (arith, h.long, length-append (like_text is) (item_text i ++ []), ap length (append-nil (item_text i)))

  past_more : cond (ltb m.items position_limit) (m.length + length (spelling x)) m.past ≡ past_place position_limit (is ++ (i ∷ []))
  past_more = elim (dec_le position_limit m.items) [
    | yes l ↦
        ap (λ (b : Bool). cond b (m.length + length (spelling x)) m.past) (le-ltb m.items position_limit l)
        ∙ h.past ∙ ap (λ (l : List LikeItem). length (like_text l)) (sym (take-append-le position_limit is (i ∷ []) (omega (arith, h.items))))
    | no l ↦
        ap (λ (b : Bool). cond b (m.length + length (spelling x)) m.past) (lt-ltb m.items position_limit (omega arith))
        ∙ text-long
        ∙ ap (λ (l : List LikeItem). length (like_text l)) (sym (take_all position_limit (is ++ (i ∷ [])) (omega (arith, h.items, length-append is (i ∷ [])))))
  ]

  one_more : Measures (is ++ (i ∷ [])) (added m x)
  one_more = record {
    items = omega (arith, h.items, length-append is (i ∷ []));
    long = text-long;
    past = past_more;
    some =
        ap₂ (λ (a : Bool) (b : Bool). a || b) h.some hx.some
        ∙ some_more (singles is) (single i)
        ∙ ap (λ (n : ℕ). not (eqb n 0)) (sym (singles_snoc is i));
  }

-- ---- the loop of `read_pattern`

-- items before what is left
abbrev add_items : List LikeItem → LikePattern → LikePattern
add_items [] p = p
add_items (i ∷ is) p = add_item i (add_items is p)

add_snoc : (is : List LikeItem) (i : LikeItem) (p : LikePattern) → add_items (is ++ (i ∷ [])) p ≡ add_items is (add_item i p)
add_snoc [] i p = refl
add_snoc (j ∷ is) i p = ap (add_item j) (add_snoc is i p)

add_bad : (is : List LikeItem) (k : ℕ) → add_items is (misspelt k) ≡ misspelt k
add_bad [] k = refl
add_bad (i ∷ is) k = ap (add_item i) (add_bad is k)

add_all : (is : List LikeItem) → add_items is (pattern []) ≡ pattern is
add_all [] = refl
add_all (i ∷ is) = ap (add_item i) (add_all is)

-- the items before `at` are measured
pub record Measuring (s : List ℕ) (at : ℕ) (m : Measure) : Type 0 where
  pub before : List LikeItem
  pub is : like s ≡ add_items before (like_from false at (drop at s))
  pub measures : Measures before m
  pub within : at ≤ length s
  pub few : m.items ≤ at
  pub short : m.length ≤ 2 * at

module _ (s : List ℕ) where
  pub measure_begun : Measuring s 0 (record { items = 0; length = 0; past = 0; some = false })
  measure_begun = record {
    before = [];
    is = refl;
    measures = record { items = refl; long = refl; past = refl; some = refl };
    within = omega arith;
    few = omega arith;
    short = omega arith;
  }

  module _ (at : ℕ) (m : Measure) (g : Measuring s at m) where
    pub measure_over : length s ≤ at → MeasuredIs s m
    measure_over h =
        let d = drop_of_length-le s h in
        record { items = g.before; reads = g.is ∙ ap (λ (l : List ℕ). add_items g.before (like_from false at l)) d ∙ add_all g.before; measures = g.measures }

    module _ (l : at < length s) where
      pub measure_addable : length s ≤ text_limit → Addable m
      measure_addable h = record { few = omega (arith, g.few); short = omega (arith, g.short) }

      module _ (a : Option (Item × ℕ)) (ha : ReadsItem s at a) where
        pub measure_bad : a ≡ None → (x : Refused) → x ≡ refused_at LikeFault at → MisspeltIs s x
        measure_bad e x ex =
            let b : Reads s at None = subst (Reads s at) e ha.is in
            rw ex (record { fault = refl; is = g.is ∙ ap (add_items g.before) b ∙ add_bad g.before at })

        module _ (x : Item) (next : ℕ) (e : a ≡ Some (x, next)) where
          read : ItemRead s at x next
          read = subst (Reads s at) e ha.is

          pub measure_less : length s - next < length s - at
          measure_less = omega (arith, read.ahead, read.inside)

          pub measure_turn : (m' : Measure) → m' ≡ added m x → Measuring s next m'
          measure_turn m' em = rw em (record {
            before = g.before ++ (read.item ∷ []);
            is = g.is ∙ ap (add_items g.before) read.reads ∙ sym (add_snoc g.before read.item (like_from false next (drop next s)));
            measures = one_more g.before m g.measures read.item x read.spells;
            within = read.inside;
            few = omega (arith, g.few, read.ahead);
            short = omega (arith, g.short, read.ahead, spelling-short x);
          })
