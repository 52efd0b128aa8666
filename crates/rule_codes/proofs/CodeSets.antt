-- The codes as a set of four words, and which elements admit codes alone. On plain values. Assumes nothing.
use mathlib.Core.Path.{◌≡◌, refl, sym, ap, ap₂, subst, ◌∙◌}
use mathlib.Core.Bool.{Bool, true, false, not, ◌&&◌, ◌||◌, or-false, or_assoc}
use mathlib.Core.Logic.{◌⊎◌, inl, inr}
use mathlib.Core.List.{List, [], ◌∷◌}
use Prim.Native.Nat.{ℕ, ◌+◌, ◌-◌, ◌≤◌, ◌<◌}
use native.Mathlib.Omega.{arith}
use native.Mathlib.Numerals.{add-one}
use lib.Dec.{T, eqb, eqb→eq, eqb_refl, lt→ltb}
use lib.ListN.{length, get_or, drop, replicate, drop_of_length-le}
use lib.Seq.{drop-cons}
use borrow.Author.Tests.{lt-ltb}
use Rattle.model.specs.RuleText as Model
use Rattle.model.specs.RuleText.{one_of, is_byte, other_case, kind_set, byte, any, class, gap, once, optional, position, kind_positions}
use Rattle.model.specs.Codes.{share, codes_most, codes_alone}
use Rattle.model.proofs.Truth.{same_test, and_intro, and_left, and_right, or_cases, or_left, or_right}
use Rattle.model.proofs.Below.{some_into, some_out, some_same}
use Rattle.model.proofs.CodeLaws.{alone-append, alone-replicate, codes_leave_one}
use Rattle.byte_set.specs.Sets.{member, add_byte, add_ranges, widen, turn, minus, is_empty, none}
use Rattle.byte_set.proofs.Fold.{fold_twice}
use Rattle.byte_set.proofs.SetLaws.{Four, none_four, add_four, member_add, none-member, minus_four, minus-member, class_four, class-member, empty-none, full-some, other_small}
use Rattle.rule_element.specs.Reading.{kind_of}
use Rattle.rule_codes.specs.RuleCodes.{add_codes, byte_alone, kind_alone, OfByte}

-- ---- `code_set`

pub record Adding (codes w : List ℕ) (i : ℕ) : Type 0 where
  pub rest : add_codes w (drop i codes) ≡ add_codes none codes

module _ (codes w : List ℕ) (i : ℕ) (g : Adding codes w i) where
  pub add_turn : i < length codes → (v : List ℕ) → v ≡ add_byte w (get_or codes i 0) → Adding codes v (i + 1)
  unfolding add_codes
  add_turn l v e = record {
    rest =
        ap₂ (λ (u : List ℕ) (j : ℕ). add_codes u (drop j codes)) e (add-one i)
        ∙ sym (ap (add_codes w) (drop-cons codes i 0 l)) ∙ g.rest;
  }

  pub add_over : length codes ≤ i → w ≡ add_codes none codes
  unfolding add_codes
  add_over h = sym (ap (add_codes w) (drop_of_length-le codes {i = i} h)) ∙ g.rest

-- it has the codes
codes_four : (codes w : List ℕ) → Four w → Four (add_codes w codes)
unfolding add_codes
codes_four [] w h = h
codes_four (c ∷ cs) w h = codes_four cs (add_byte w c) (add_four w c h)

codes_more : (codes w : List ℕ) (x : ℕ) → Four w → x < 256 → member (add_codes w codes) x ≡ (member w x || one_of codes x)
unfolding add_codes
codes_more [] w x h l = sym (or-false (member w x))
codes_more (c ∷ cs) w x h l =
    codes_more cs (add_byte w c) x (add_four w c h) l
    ∙ ap (λ (b : Bool). b || one_of cs x) (member_add w c x h.long l ∙ ap (λ (b : Bool). member w x || b) (eqb_turned c x))
    ∙ or_assoc (member w x) (eqb x c) (one_of cs x)
  where
    eqb_turned : (a b : ℕ) → eqb a b ≡ eqb b a
    eqb_turned a b = same_test (eqb a b) (eqb b a) (λ t. subst (λ (y : ℕ). T (eqb y a)) (eqb→eq a b t) (eqb_refl a), λ t. subst (λ (y : ℕ). T (eqb y b)) (eqb→eq b a t) (eqb_refl b))

pub set_four : (codes : List ℕ) → Four (add_codes none codes)
set_four codes = codes_four codes none none_four

pub set-has : (codes : List ℕ) (x : ℕ) → x < 256 → member (add_codes none codes) x ≡ one_of codes x
set-has codes x l = codes_more codes none x none_four l ∙ ap (λ (b : Bool). b || one_of codes x) (none-member x l)

-- ---- what it says of the positions

module _ (codes : List ℕ) (few : length codes ≤ codes_most) where
  abbrev others : ℕ → Bool
  others = λ x. not (one_of codes x)

  abbrev w : List ℕ
  w = add_codes none codes

  -- any byte: eight codes leave one
  any_shares : share (λ c. is_byte c && true) others ≡ true
  any_shares = sym (some_same others (λ c. (is_byte c && true) && not (one_of codes c)) 256 (λ x l. rw (lt-ltb x 256 l))) ∙ codes_leave_one codes 256 (omega arith)

  -- a byte, and with the fold flag its other case
  byte_shares : (fold : Bool) (b : ℕ) → b < 256 → not (share (λ c. is_byte c && kind_set fold (byte b) c) others) ≡ byte_alone fold b w
  byte_shares fold b l =
      ap not (same_test (share (λ c. is_byte c && kind_set fold (byte b) c) others) (not (one_of codes b) || (fold && not (one_of codes (other_case b)))) (to fold, from fold))
      ∙ turned (one_of codes b) fold (one_of codes (other_case b))
      ∙ sym (ap₂ (λ (x y : Bool). x && (not fold || y)) (set-has codes b l) (set-has codes (other_case b) (other_small b l)))
    where
      turned : (x f y : Bool) → not (not x || (f && not y)) ≡ (x && (not f || y))
      turned true true true = refl
      turned true true false = refl
      turned true false y = refl
      turned false f y = refl

      to : (fold : Bool) → T (share (λ c. is_byte c && kind_set fold (byte b) c) others) → T (not (one_of codes b) || (fold && not (one_of codes (other_case b))))
      to fold t =
          let r = some_into (λ c. (is_byte c && kind_set fold (byte b) c) && not (one_of codes c)) 256 t in
          let x = r.0 in
          let h = and_left (is_byte x && kind_set fold (byte b) x) (not (one_of codes x)) r.2 in
          let n = and_right (is_byte x && kind_set fold (byte b) x) (not (one_of codes x)) r.2 in
          go fold x r.1 n (or_cases (eqb x b) (fold && eqb (other_case x) b) (and_right (is_byte x) (kind_set fold (byte b) x) h))
        where
          go : (fold : Bool) (x : ℕ) → x < 256 → T (not (one_of codes x)) → T (eqb x b) ⊎ T (fold && eqb (other_case x) b) → T (not (one_of codes b) || (fold && not (one_of codes (other_case b))))
          go fold x m n (inl e) = or_left (not (one_of codes b)) (fold && not (one_of codes (other_case b))) (subst (λ (y : ℕ). T (not (one_of codes y))) (eqb→eq x b e) n)
          go fold x m n (inr e) =
              let q : x ≡ other_case b = sym (fold_twice x m) ∙ ap other_case (eqb→eq (other_case x) b (and_right fold (eqb (other_case x) b) e)) in
              or_right (not (one_of codes b)) (fold && not (one_of codes (other_case b))) (and_intro fold (not (one_of codes (other_case b))) (and_left fold (eqb (other_case x) b) e) (subst (λ (y : ℕ). T (not (one_of codes y))) q n))

      from : (fold : Bool) → T (not (one_of codes b) || (fold && not (one_of codes (other_case b)))) → T (share (λ c. is_byte c && kind_set fold (byte b) c) others)
      from fold t = go (or_cases (not (one_of codes b)) (fold && not (one_of codes (other_case b))) t)
        where
          out : (x : ℕ) → x < 256 → T (kind_set fold (byte b) x) → T (not (one_of codes x)) → T (share (λ c. is_byte c && kind_set fold (byte b) c) (λ x. not (one_of codes x)))
          out x m k n = some_out (λ c. (is_byte c && kind_set fold (byte b) c) && not (one_of codes c)) 256 x m (and_intro (is_byte x && kind_set fold (byte b) x) (not (one_of codes x)) (and_intro (is_byte x) (kind_set fold (byte b) x) (lt→ltb x 256 m) k) n)

          go : T (not (one_of codes b)) ⊎ T (fold && not (one_of codes (other_case b))) → T (share (λ c. is_byte c && kind_set fold (byte b) c) (λ x. not (one_of codes x)))
          go (inl n) = out b l (or_left (eqb b b) (fold && eqb (other_case b) b) (eqb_refl b)) n
          go (inr n) =
              out (other_case b) (other_small b l)
              (or_right (eqb (other_case b) b) (fold && eqb (other_case (other_case b)) b)
              (and_intro fold (eqb (other_case (other_case b)) b) (and_left fold (not (one_of codes (other_case b))) n) (subst (λ (y : ℕ). T (eqb y b)) (sym (fold_twice b l)) (eqb_refl b))))
              (and_right fold (not (one_of codes (other_case b))) n)

  -- a class
  class_shares : (fold t : Bool) (rs : List Model.Range) → not (share (λ c. is_byte c && kind_set fold (class t rs) c) others) ≡ is_empty (minus (turn t (widen fold (add_ranges none rs))) w)
  class_shares fold t rs = go (is_empty (minus (turn t (widen fold (add_ranges none rs))) w)) refl
    where
      is : (x : ℕ) → x < 256 → member (minus (turn t (widen fold (add_ranges none rs))) w) x ≡ ((is_byte x && kind_set fold (class t rs) x) && not (one_of codes x))
      is x l =
          minus-member (turn t (widen fold (add_ranges none rs))) w x (set_four codes) l
          ∙ ap₂ (λ (a b : Bool). a && not b) (class-member fold t rs x l ∙ sym (ap (λ (a : Bool). a && kind_set fold (class t rs) x) (lt-ltb x 256 l))) (set-has codes x l)

      four : Four (minus (turn t (widen fold (add_ranges none rs))) w)
      four = minus_four (turn t (widen fold (add_ranges none rs))) w (class_four fold t rs)

      go : (b : Bool) → is_empty (minus (turn t (widen fold (add_ranges none rs))) w) ≡ b → not (share (λ c. is_byte c && kind_set fold (class t rs) c) (λ x. not (one_of codes x))) ≡ b
      go true q = ap not (empty-none (minus (turn t (widen fold (add_ranges none rs))) w) four (λ x. (is_byte x && kind_set fold (class t rs) x) && not (one_of codes x)) is q)
      go false q = ap not (full-some (minus (turn t (widen fold (add_ranges none rs))) w) four (λ x. (is_byte x && kind_set fold (class t rs) x) && not (one_of codes x)) is q)

  pub kind-is-alone : (fold : Bool) (d : Model.Kind) (o : Model.Often) → OfByte (kind_of fold d) → codes_alone codes (kind_positions fold d o) ≡ kind_alone fold (kind_of fold d) w
  kind-is-alone fold (byte b) o h = or-false _ ∙ byte_shares fold b h
  kind-is-alone fold any o h = or-false _ ∙ ap not any_shares
  kind-is-alone fold (class t rs) o h = or-false _ ∙ class_shares fold t rs
  kind-is-alone fold (gap a b) o h =
      alone-append codes (replicate (b - a) (position fold any optional)) (replicate a (position fold any once))
      ∙ ap₂ (λ (x y : Bool). x || y) (alone-replicate codes (position fold any optional) (b - a) (ap not any_shares)) (alone-replicate codes (position fold any once) a (ap not any_shares))
