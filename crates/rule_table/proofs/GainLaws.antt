-- The laws of the stores into a lent table. On plain values. Assumes nothing.
use mathlib.Core.Path.{◌≡◌, refl, sym, ap, ap₂, ◌∙◌}
use mathlib.Core.List.{List}
use mathlib.Core.Bool.{Bool, true, false, ◌&&◌, ◌||◌, or-false}
use Prim.Native.Nat.{ℕ, zero, suc, ◌+◌, ◌-◌, ◌≤◌, ◌<◌}
use native.Mathlib.Omega.{arith}
use native.Mathlib.Decide.{ℕ_discrete}
use lib.ListN.{length, get_or, set, replicate, length-set, length-replicate}
use lib.Seq.{get_or-set_same, get_or-set_other}
use lib.Bits.{bit_or}
use lib.Dec.{eqb}
use borrow.Author.Tests.{eq-eqb, ne_eqb}
use Rattle.model.specs.RuleText.{other_case}
use Rattle.rule_element.specs.declared.Kind.{Kind}
use Rattle.rule_element.specs.Reading.{size_of}
use Rattle.shift_and_wide.specs.Wides.{word_of, ones_from}
use Rattle.rule_table.specs.Tables.{Cleared, gained, Gains, has_byte, admits_by, slot_bits, Placed}
use Rattle.byte_set.proofs.Fold.{fold_twice}

-- ---- a plane that is filled with 0
pub cleared : (t : List ℕ) (n : ℕ) → n ≡ 256 → ◌≡◌ {A = List ℕ} t (replicate n 0) → Cleared t 256
cleared t n e f = record {
  long = ap length f ∙ length-replicate n 0 ∙ e;
  zeros = λ x l. ap (λ (u : List ℕ). get_or u x 0) f ∙ none n x;
}
  where
    none : (n x : ℕ) → ◌≡◌ {A = ℕ} (get_or (replicate n 0) x 0) 0
    none zero x = refl
    none (suc n) zero = refl
    none (suc n) (suc x) = none n x

-- ---- the loops: the first c entries have gained, the others are as they were
pub record Gaining (f : ℕ → Bool) (bits : ℕ) (t₀ t : List ℕ) (c : ℕ) : Type 0 where
  pub within : c ≤ 256
  pub long : length t ≡ 256
  pub done : (x : ℕ) → x < c → get_or t x 0 ≡ gained (f x) bits (get_or t₀ x 0)
  pub rest : (x : ℕ) → c ≤ x → get_or t x 0 ≡ get_or t₀ x 0

-- ---- `admit_byte`: one store, or two
store_same : (t : List ℕ) (c v : ℕ) → length t ≡ 256 → c < 256 → get_or (set t c v) c 0 ≡ v
store_same t c v l h = get_or-set_same t c v 0 (omega arith)

other_case-is : (c b : ℕ) → c < 256 → b < 256 → eqb (other_case c) b ≡ eqb c (other_case b)
other_case-is c b h l = elim (ℕ_discrete (other_case c) b) [
  | yes e ↦ eq-eqb (other_case c) b e ∙ sym (eq-eqb c (other_case b) (sym (fold_twice c h) ∙ ap other_case e))
  | no e ↦ ne_eqb (other_case c) b e ∙ sym (ne_eqb c (other_case b) (λ q. e (ap other_case q ∙ fold_twice b l)))
]

module _ (t : List ℕ) (b : ℕ) (bits : ℕ) (long : length t ≡ 256) (i : ℕ) (ei : i ≡ b) (h : i < 256) (fold : Bool) where
  t₁ : List ℕ
  t₁ = set t i (bit_or (get_or t i 0) bits)

  once-each : (x : ℕ) → x < 256 → get_or t₁ x 0 ≡ gained (eqb x b) bits (get_or t x 0)
  unfolding t₁
  once-each x l = elim (ℕ_discrete x i) [
    | yes e ↦
        ap (λ (j : ℕ). get_or (set t i (bit_or (get_or t i 0) bits)) j 0) e ∙ store_same t i (bit_or (get_or t i 0) bits) long h
        ∙ ap (λ (j : ℕ). bit_or (get_or t j 0) bits) (sym e)
        ∙ ap (λ (y : Bool). gained y bits (get_or t x 0)) (sym (eq-eqb x b (e ∙ ei)))
    | no e ↦ get_or-set_other t i x (bit_or (get_or t i 0) bits) 0 e ∙ ap (λ (y : Bool). gained y bits (get_or t x 0)) (sym (ne_eqb x b (λ q. e (q ∙ sym ei))))
  ]

  pub byte-once : fold ≡ false → Gains (has_byte fold b) bits t (set t i (bit_or (get_or t i 0) bits))
  unfolding t₁
  byte-once f = record {
    long = length-set t i (bit_or (get_or t i 0) bits) ∙ long;
    each = λ x l. once-each x l ∙ ap (λ (y : Bool). gained y bits (get_or t x 0)) (sym (ap (λ (z : Bool). eqb x b || (z && eqb (other_case x) b)) f ∙ or-false (eqb x b)));
  }

  module _ (q : ℕ) (eq : q ≡ other_case i) (o : ℕ) (eo : o ≡ q) (ho : o < 256) where
    pub byte_twice : fold ≡ true → Gains (has_byte fold b) bits t (set (set t o (bit_or (get_or t o 0) bits)) i (bit_or (get_or t i 0) bits))
    byte_twice f =
        let u = set t o (bit_or (get_or t o 0) bits) in
        let v = bit_or (get_or t i 0) bits in
        let lu : length u ≡ 256 = length-set t o (bit_or (get_or t o 0) bits) ∙ long in
        let is : o ≡ other_case b = eo ∙ eq ∙ ap other_case ei in
        let hb : b < 256 = rw (← ei) h in
        record {
          long = length-set u i v ∙ lu;
          each = λ x l.
              let r : has_byte fold b x ≡ (eqb x b || eqb x (other_case b)) = ap (λ (z : Bool). eqb x b || (z && eqb (other_case x) b)) f ∙ ap (λ (z : Bool). eqb x b || z) (other_case-is x b l hb) in
              elim (ℕ_discrete x i) [
                | yes e ↦
                    ap (λ (j : ℕ). get_or (set u i v) j 0) e ∙ store_same u i v lu h
                    ∙ ap (λ (j : ℕ). bit_or (get_or t j 0) bits) (sym e)
                    ∙ ap (λ (y : Bool). gained y bits (get_or t x 0)) (sym (r ∙ ap (λ (z : Bool). z || eqb x (other_case b)) (eq-eqb x b (e ∙ ei))))
                | no e ↦
                    let n : eqb x b ≡ false = ne_eqb x b (λ k. e (k ∙ sym ei)) in
                    get_or-set_other u i x v 0 e
                    ∙ elim (ℕ_discrete x o) [
                      | yes g ↦
                          ap (λ (j : ℕ). get_or u j 0) g ∙ store_same t o (bit_or (get_or t o 0) bits) long ho
                          ∙ ap (λ (j : ℕ). bit_or (get_or t j 0) bits) (sym g)
                          ∙ ap (λ (y : Bool). gained y bits (get_or t x 0)) (sym (r ∙ ap₂ (λ (y z : Bool). y || z) n (eq-eqb x (other_case b) (g ∙ is))))
                      | no g ↦
                          get_or-set_other t o x (bit_or (get_or t o 0) bits) 0 g
                          ∙ ap (λ (y : Bool). gained y bits (get_or t x 0)) (sym (r ∙ ap₂ (λ (y z : Bool). y || z) n (ne_eqb x (other_case b) (λ k. g (k ∙ sym is)))))
                    ]
              ];
        }

-- ---- `slots`
module _ (n used total word r : ℕ) (reversed : Bool) where
  pub slots_back : reversed ≡ true → r ≡ word_of word (ones_from n (total - used - n + 1)) → r ≡ word_of word (slot_bits n used total reversed)
  slots_back q e = rw q e

  pub slots_on : reversed ≡ false → r ≡ word_of word (ones_from n (used + 1)) → r ≡ word_of word (slot_bits n used total reversed)
  slots_on q e = rw q e

-- ---- `place`
pub placed : (fold : Bool) (kind : Kind) (used total : ℕ) (reversed : Bool) (word : ℕ) (t : List ℕ) (n bits : ℕ) (t' : List ℕ) → n ≡ size_of kind → bits ≡ word_of word (slot_bits n used total reversed) → Gains (admits_by fold kind) bits t t'
    → Placed fold kind used total reversed word t n t'
placed fold kind used total reversed word t n bits t' en eb gs =
    let e : bits ≡ word_of word (slot_bits (size_of kind) used total reversed) = eb ∙ ap (λ (m : ℕ). word_of word (slot_bits m used total reversed)) en in
    record { size = en; gains = rw e at gs }
