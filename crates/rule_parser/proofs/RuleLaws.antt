-- The elements of a rule, one after the other: the loop of `read_rule`. On plain values. Assumes nothing.
use mathlib.Core.Path.{◌≡◌, refl, sym, ap, ap₂, ◌∙◌}
use mathlib.Core.List.{List, [], ◌++◌}
use mathlib.Core.Bool.{Bool}
use Prim.Native.Nat.{ℕ, ◌+◌, ◌-◌, ◌*◌, ◌^◌, ◌≤◌, ◌<◌}
use native.Mathlib.Omega.{arith}
use native.Mathlib.Nat.{add-zero, mul_assoc, add-mul, zero-mul}
use lib.ListN.{length, drop, length-append}
use lib.Bits.{bit_or, or_lt, or_shifted_r}
use lib.Pow.{pow-add, pow_mono, pow_pos, shl_lt}
use Rattle.std.specs.Prelude.{Result, Ok, Err}
use Rattle.model.specs.Occurrence.{Position}
use Rattle.model.specs.RuleText as Model
use Rattle.model.specs.RuleText.{rule_limit, position_limit, positions, kind_positions}
use Rattle.model.specs.Spelling.{spelled_from, spelled}
use Rattle.model.specs.NumberedAnswers.{Parsed, refused, accepted, add_element, elements_from}
use Rattle.answers.specs.declared.Refusal.{Refusal}
use Rattle.answers.specs.declared.Refused.{Refused}
use Rattle.answers.specs.Answers.{number_of, refused_at}
use Rattle.shift_and.specs.Masks.{mask_from}
use Rattle.shift_and.proofs.MaskLaws.{mask-small, mask_append}
use Rattle.shift_and_wide.specs.declared.Wide.{Wide}
use Rattle.shift_and_wide.specs.ManyWords.{Words}
use Rattle.shift_and_wide.specs.Wides.{words, number, words_of, no_bits, laid_on}
use Rattle.shift_and_wide.proofs.Masks.{words-number, number_laid, laid_fits, number-none, none-fits}
use Rattle.rule_element.specs.declared.Element.{Element}
use Rattle.rule_element.specs.Reading.{kind_of, often_of, size_of, KindFits, ReadsElement}
use Rattle.rule_element.proofs.RuleReading.{elements-end, spelled-end, element-refused, moved, element-found}
use Rattle.rule_parser.specs.declared.RuleMasks.{RuleMasks}
use Rattle.rule_parser.specs.Gathering.{is_optional, is_repeating, optional_count, repeat_count, Fits, gained_by, start, last_place, gathered, rule_elements, Gathers, ReadRefused}
use Rattle.rule_parser.proofs.ElementMasks.{kind-length, optional-mask, repeat_mask, optional-within, repeat_within}

-- ---- what was taken, and the element after it

-- a mask with bits laid above `used` positions
abbrev pub placed_on : (mask bits used : ℕ) → ℕ
placed_on mask bits used = bit_or mask (bits * 2 ^ (used + 1))

pub placed-lt : (mask bits used n : ℕ) → mask < 2 ^ (used + 1) → bits < 2 ^ n → placed_on mask bits used < 2 ^ (used + n + 1)
placed-lt mask bits used n h l =
    let k : n + (used + 1) ≡ used + n + 1 = omega arith in
    let a : bits * 2 ^ (used + 1) < 2 ^ (used + n + 1) = rw (← k) (shl_lt n (used + 1) l) in
    let m : 2 ^ (used + 1) ≤ 2 ^ (used + n + 1) = pow_mono {i = used + 1} {j = used + n + 1} (omega arith) in
    or_lt (used + n + 1) mask (bits * 2 ^ (used + 1)) (omega arith) a

-- a mask of a list that an element begins, above the mask of what was before
pub placed-mask : (mask used n x y : ℕ) → mask < 2 ^ (used + 1) → mask + (x + y * 2 ^ n) * 2 ^ (used + 1) ≡ placed_on mask x used + y * 2 ^ (used + n + 1)
placed-mask mask used n x y h =
    let k : 2 ^ (used + n + 1) ≡ 2 ^ n * 2 ^ (used + 1) = ap (λ (j : ℕ). 2 ^ j) (let z : used + n + 1 ≡ n + (used + 1) = omega arith in z) ∙ pow-add 2 n (used + 1) in
    let a : (x + y * 2 ^ n) * 2 ^ (used + 1) ≡ x * 2 ^ (used + 1) + y * 2 ^ (used + n + 1) = rw (add-mul, k, mul_assoc) in
    omega (arith, or_shifted_r x (used + 1) mask h)

same_masks : {n n' : ℕ} {x x' y y' : Wide} → n ≡ n' → x ≡ x' → y ≡ y' → ◌≡◌ {A = RuleMasks} (record { positions = n; optional = x; repeats = y }) (record { positions = n'; optional = x'; repeats = y' })
same_masks a b c = rw (a, b, c)

-- what some elements come to above what t has: the masks, or their refusal
abbrev gather : (fold : Bool) → RuleMasks → Parsed → Result RuleMasks Parsed
gather fold t (refused n p) = Err (refused n p)
gather fold t (accepted es) = Ok (gathered t (positions fold es))

-- the words of a mask of `used` positions
pub record MaskOf (used : ℕ) (x : Wide) : Type 0 where
  pub words_fit : Words 64 4 (words x)
  pub small : number x < 2 ^ (used + 1)

module _ (fold : Bool) (t : RuleMasks) (d : Model.Kind) (o : Model.Often) (few : KindFits (kind_of fold d)) (room : t.positions + size_of (kind_of fold d) ≤ position_limit)
    (held_o : MaskOf t.positions t.optional) (held_r : MaskOf t.positions t.repeats) where
  abbrev used : ℕ
  used = t.positions

  abbrev code : Element
  code = record { kind = kind_of fold d; often = often_of o }

  abbrev size : ℕ
  size = size_of (kind_of fold d)

  long : length (kind_positions fold d o) ≡ size
  long = kind-length fold d o few

  -- one mask of the two: the first n of the element's positions pass the test f
  module _ (f : Position → Bool) (n : ℕ) (x : Wide) (e : 2 ^ n - 1 ≡ mask_from f (kind_positions fold d o)) (l : n ≤ size) (h : MaskOf used x) where
    laid_number : number (laid_on x n (used + 1)) ≡ placed_on (number x) (2 ^ n - 1) used
    laid_number = number_laid x n (used + 1) h.words_fit (omega arith)

    laid_next : (es : List Model.Element) → words_of (number x + mask_from f (kind_positions fold d o ++ positions fold es) * 2 ^ (used + 1)) ≡ words_of (number (laid_on x n (used + 1)) + mask_from f (positions fold es) * 2 ^ (used + size + 1))
    laid_next es =
        let m : mask_from f (kind_positions fold d o ++ positions fold es) ≡ 2 ^ n - 1 + mask_from f (positions fold es) * 2 ^ size =
        mask_append f (kind_positions fold d o) (positions fold es) ∙ ap₂ (λ (x n : ℕ). x + mask_from f (positions fold es) * 2 ^ n) (sym e) long in
        ap words_of
        (ap (λ (y : ℕ). number x + y * 2 ^ (used + 1)) m ∙ placed-mask (number x) used size (2 ^ n - 1) (mask_from f (positions fold es)) h.small
        ∙ ap (λ (y : ℕ). y + mask_from f (positions fold es) * 2 ^ (used + size + 1)) (sym laid_number))

    laid_held : MaskOf (used + size) (laid_on x n (used + 1))
    laid_held = record {
      words_fit = laid_fits x n (used + 1);
      small = rw laid_number (placed-lt (number x) (2 ^ n - 1) used size h.small (rw (e, ← long) (mask-small f (kind_positions fold d o))));
    }

  abbrev optional_n : ℕ
  optional_n = optional_count (kind_of fold d) (often_of o)

  abbrev repeat_n : ℕ
  repeat_n = repeat_count (kind_of fold d) (often_of o)

  pub gather_add : (x : Parsed) → gather fold t (add_element (record { kind = d; often = o }) x) ≡ gather fold (gained_by t code) x
  gather_add (refused n p) = refl
  gather_add (accepted es) =
      let a : used + length (kind_positions fold d o ++ positions fold es) ≡ used + size + length (positions fold es) =
      omega (arith, length-append (kind_positions fold d o) (positions fold es), long) in
      let b = laid_next is_optional optional_n t.optional (optional-mask fold d o) (optional-within (kind_of fold d) (often_of o)) held_o es in
      let c = laid_next is_repeating repeat_n t.repeats (repeat_mask fold d o) (repeat_within (kind_of fold d) (often_of o)) held_r es in
      ap (λ (y : RuleMasks). Ok y) (same_masks a b c)

  pub taken-held : MaskOf (gained_by t code).positions (gained_by t code).optional × MaskOf (gained_by t code).positions (gained_by t code).repeats
  taken-held = (
    laid_held is_optional optional_n t.optional (optional-mask fold d o) (optional-within (kind_of fold d) (often_of o)) held_o,
    laid_held is_repeating repeat_n t.repeats (repeat_mask fold d o) (repeat_within (kind_of fold d) (often_of o)) held_r,
  )

-- ---- the loop of `read_rule`

pub record Parsing (fold : Bool) (s : List ℕ) (t : RuleMasks) (at last : ℕ) : Type 0 where
  pub few : t.positions ≤ position_limit
  pub held_o : MaskOf t.positions t.optional
  pub held_r : MaskOf t.positions t.repeats
  pub behind : last ≤ at
  pub inside : at ≤ length s
  pub last-is : last_place last (spelled_from fold 0 at (drop at s)) ≡ last_place 0 (spelled fold s)
  pub rest : gather fold t (elements_from position_limit fold 0 at t.positions (drop at s)) ≡ gather fold start (rule_elements fold s)

module _ (fold : Bool) (s : List ℕ) where
  pub begun : (x : Wide) → x ≡ no_bits → Parsing fold s (record { positions = 0; optional = x; repeats = x }) 0 0
  begun x e = rw e (record { few = omega arith; held_o = none; held_r = none; behind = omega arith; inside = omega arith; last-is = refl; rest = refl })
    where
      none : MaskOf 0 no_bits
      none = record { words_fit = none-fits; small = rw number-none (pow_pos 1) }

  module _ (t : RuleMasks) (at last : ℕ) (g : Parsing fold s t at last) where
    pub rule-over : length s ≤ at → Gathers fold s (record { masks = t; last = last })
    unfolding mask_from
    rule-over h = go (rule_elements fold s) refl
      where
        whole : (x : Wide) → MaskOf t.positions x → x ≡ words_of (number x + 0 * 2 ^ (t.positions + 1))
        whole x k = sym (words-number x k.words_fit) ∙ ap words_of (sym (add-zero (number x)) ∙ ap (λ (y : ℕ). number x + y) (sym (zero-mul (2 ^ (t.positions + 1)))))

        same : t ≡ gathered t []
        same = same_masks (let p : t.positions ≡ t.positions + 0 = omega arith in p) (whole t.optional g.held_o) (whole t.repeats g.held_r)

        all : gather fold start (rule_elements fold s) ≡ Ok (gathered t [])
        all = sym g.rest ∙ ap (gather fold t) (elements-end fold t.positions s at h)

        go : (y : Parsed) → rule_elements fold s ≡ y → Gathers fold s (record { masks = t; last = last })
        go (refused n p) q = let f : gather fold start (refused n p) ≡ Ok (gathered t []) = sym (ap (gather fold start) q) ∙ all in let z : ◌≡◌ {A = ℕ} 0 1 = cc in absurd (omega arith)
        go (accepted es) q =
            let f : gather fold start (accepted es) ≡ Ok (gathered t []) = sym (ap (gather fold start) q) ∙ all in
            let m : gathered start (positions fold es) ≡ gathered t [] = cc in
            record {
              elements = es;
              reads = q;
              masks = same ∙ sym m;
              last-is = sym (ap (last_place last) (spelled-end fold t.positions s at h)) ∙ g.last-is;
              few = g.few;
              inside = omega (arith, g.behind, g.inside);
            }

    module _ (h : at < length s) where
      pub rule-refused : (x : Refusal) → ReadsElement fold t.positions s at (Err x) → (e : Refused) → e ≡ refused_at x at → ReadRefused fold s e
      rule-refused x r e ee = go (rule_elements fold s) refl
        where
          all : gather fold start (rule_elements fold s) ≡ Err (refused (number_of x) at)
          all = sym g.rest ∙ ap (gather fold t) (element-refused fold t.positions s at h x r)

          go : (y : Parsed) → rule_elements fold s ≡ y → ReadRefused fold s e
          go (accepted es) d = let f : gather fold start (accepted es) ≡ Err (refused (number_of x) at) = sym (ap (gather fold start) d) ∙ all in let z : ◌≡◌ {A = ℕ} 0 1 = cc in absurd (omega arith)
          go (refused m p) d =
              let f : gather fold start (refused m p) ≡ Err (refused (number_of x) at) = sym (ap (gather fold start) d) ∙ all in
              let i : refused m p ≡ refused (number_of x) at = cc in
              record { is = d ∙ i ∙ sym (ap (λ (y : Refused). refused (number_of y.refusal) y.place) ee) }

      module _ (element : Element) (next : ℕ) (rc : ReadsElement fold t.positions s at (Ok (element, next))) where
        pub next_fits : Fits t element
        next_fits = let m = moved fold t.positions s at h element next rc in record { fits = m.fits; room = m.room }

        pub next-ahead : (at < next) × (next ≤ length s)
        next-ahead = let m = moved fold t.positions s at h element next rc in (omega (arith, m.ahead), m.inside)

        pub rule-turn : (t' : RuleMasks) → t' ≡ gained_by t element → Parsing fold s t' next at
        rule-turn t' e₁ =
            let used = t.positions in
            let m = moved fold used s at h element next rc in
            let got = element-found fold used s at h element next rc in
            let d = got.kind in
            let o = got.often in
            let same = got.is-element in
            let few : KindFits (kind_of fold d) = rw same at m.fits in
            let room : used + size_of (kind_of fold d) ≤ position_limit = rw same at m.room in
            let e' : t' ≡ gained_by t (record { kind = kind_of fold d; often = often_of o }) = e₁ ∙ ap (gained_by t) same in
            let held = taken-held fold t d o few room g.held_o g.held_r in
            let X = elements_from position_limit fold 0 next (used + size_of element.kind) (drop next s) in
            record {
              few = rw e' room;
              held_o = rw e' held.0;
              held_r = rw e' held.1;
              behind = omega (arith, m.ahead);
              inside = m.inside;
              last-is = sym (ap (last_place last) got.spells) ∙ g.last-is;
              rest =
                  ap (λ (y : RuleMasks). gather fold y (elements_from position_limit fold 0 next y.positions (drop next s))) e₁
                  ∙ ap (λ (y : Element). gather fold (gained_by t y) X) same
                  ∙ sym (gather_add fold t d o few room g.held_o g.held_r X)
                  ∙ sym (ap (gather fold t) got.turn)
                  ∙ g.rest;
            }
