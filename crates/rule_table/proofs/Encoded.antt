-- From a rule to the bridge of `shift_and`: a table and masks that are those of a list of positions (`Encodes`), in one word and in four; what an accepted rule is; and
-- the laws of `mirrored`. Assumes nothing.
use mathlib.Core.Path.{◌≡◌, refl, sym, ap, ap₂, subst, ◌∙◌}
use mathlib.Core.List.{List, [], ◌∷◌, ◌++◌, reverse, reverse-cons}
use mathlib.Core.Bool.{Bool, true, false, ◌&&◌}
use Prim.Native.Nat.{ℕ, zero, suc, ◌+◌, ◌-◌, ◌*◌, ◌/◌, ◌%◌, ◌^◌, ◌≤◌, ◌<◌}
use native.Mathlib.Omega.{arith}
use native.Mathlib.Decide.{dec_le}
use native.Mathlib.Nat.{add-zero, zero-add, mul_assoc, add-mul, mod-eq_of_lt}
use lib.ListN.{length, get_or, take, drop, length-append, length-reverse, get_or-eq_default}
use lib.Seq.{take_at, take_all, drop_at, drop-drop}
use lib.Pow.{pow_pos, pow_mono}
use borrow.Author.Tests.{le-ltb}
use Rattle.model.specs.Occurrence.{Position, one_if, shortest}
use Rattle.model.specs.RuleText as Model
use Rattle.model.specs.RuleText.{fold_flag, position_limit, kind_set, kind_positions, positions}
use Rattle.model.specs.NumberedAnswers.{Parsed, refused, accepted, parse, positions_by, rule_positions}
use Rattle.shift_and.specs.Automaton.{word_bits, word_automaton}
use Rattle.shift_and.specs.Masks.{mask_from, mask, admits_mask, optional_mask, repeats_mask, Encodes}
use Rattle.shift_and.proofs.MaskLaws.{mask_append, mask_fits}
use Rattle.shift_and_wide.specs.declared.Wide.{Wide}
use Rattle.shift_and_wide.specs.declared.WideMasks.{WideMasks}
use Rattle.shift_and_wide.specs.ManyWords.{value, Words}
use Rattle.shift_and_wide.specs.Wides.{words, number, word_of, words_of, no_bits}
use Rattle.shift_and_wide.specs.Stepping.{entry_of, wide_automaton_of, numbered}
use Rattle.shift_and_wide.proofs.Wides.{same}
use Rattle.shift_and_wide.proofs.Masks.{number-words, words-number, words_fit, number-none}
use Rattle.shift_and_wide.proofs.Instances.{Fits, encodes_low}
use Rattle.rule_parser.specs.declared.Prepared.{Prepared}
use Rattle.rule_parser.specs.Preparing.{answer_of, PreparedRule}
use Rattle.rule_table.specs.Tables.{plane_of, table_of, row_of, Counted, PlaneFillable, PlaneFilled, Fillable, Filled, mirror_from, mirror}
use Rattle.rule_table.proofs.FillLaws.{Every, every_append, every_reverse, every_mask, kind_every, zero_word, long_entries, entry_at, Accepts, accepts}

-- ---- `mirrored`

-- `to` has the bits read so far, n - left of them
pub record Mirroring (from₀ : Wide) (n : ℕ) (to from : Wide) (left : ℕ) : Type 0 where
  pub within : left ≤ n
  pub small : number to < 2 ^ (n - left)
  pub rest : mirror_from (number to) (number from) left ≡ mirror_from 0 (number from₀) n

low_bit : (x : Wide) → x.w0 % 2 ≡ number x % 2
unfolding number value
low_bit x = last _ x.w0
  where
    last : (q y : ℕ) → y % 2 ≡ (q * 2 ^ 64 + y) % 2
    last q y = omega arith

-- one bit more, at any width
twice_lt : (x c k : ℕ) → x < 2 ^ k → c < 2 → x * 2 + c < 2 ^ suc k
twice_lt x c k h l = omega arith

twice_fits : (w x c k : ℕ) → x < 2 ^ k → c < 2 → k < w → (x * 2 + c) % 2 ^ w ≡ x * 2 + c
twice_fits w x c k h l f = let m = pow_mono {i = suc k} {j = w} (omega arith) in let n = twice_lt x c k h l in mod-eq_of_lt (omega arith)

module _ (from₀ : Wide) (n : ℕ) (few : n ≤ position_limit) where
  pub mirror-begun : (to : Wide) → to ≡ no_bits → Mirroring from₀ n to from₀ n
  mirror-begun to et =
      let z : number to ≡ 0 = ap number et ∙ number-none in
      record { within = omega arith; small = rw z (pow_pos (n - n)); rest = ap (λ (x : ℕ). mirror_from x (number from₀) n) z }

  module _ (to from : Wide) (left : ℕ) (g : Mirroring from₀ n to from left) where
    pub mirror-turn : 0 < left → (to' from' : Wide) → number to' ≡ (number to * 2 + from.w0 % 2) % 2 ^ 256 → number from' ≡ number from / 2 → Mirroring from₀ n to' from' (left - 1)
    unfolding mirror_from
    mirror-turn h to' from' et ef =
        let w = g.within in
        let k : left ≡ suc (left - 1) = omega arith in
        let j : suc (n - left) ≡ n - (left - 1) = omega arith in
        let b : number from % 2 < 2 = omega arith in
        let e : number to' ≡ number to * 2 + number from % 2 =
        et ∙ ap (λ (c : ℕ). (number to * 2 + c) % 2 ^ 256) (low_bit from) ∙ twice_fits 256 (number to) (number from % 2) (n - left) g.small b (omega arith) in
        record {
          within = omega arith;
          small = rw (e, ← j) (twice_lt (number to) (number from % 2) (n - left) g.small b);
          rest = ap₂ (λ (x y : ℕ). mirror_from x y (left - 1)) e ef ∙ sym (ap (mirror_from (number to) (number from)) k) ∙ g.rest;
        }

    pub mirror-over : left ≤ 0 → (mask : Wide) → number from₀ ≡ number mask / 2 → (r : Wide) → Words 64 4 (words r) → number r ≡ (number to * 2 + 0) % 2 ^ 256 → r ≡ words_of (mirror (number mask) n)
    unfolding mirror_from
    mirror-over h mask e₀ r f er =
        let k : left ≡ 0 = omega arith in
        sym (words-number r f)
        ∙ ap words_of
        (er ∙ twice_fits 256 (number to) 0 (n - left) g.small (omega arith) (omega arith) ∙ add-zero (number to * 2)
        ∙ ap (λ (x : ℕ). x * 2) (ap (mirror_from (number to) (number from)) (sym k) ∙ g.rest ∙ ap (λ (x : ℕ). mirror_from 0 x n) e₀))

one-few : (b : Bool) → one_if b ≤ 1
one-few true = omega arith
one-few false = omega arith

mirror-is : (f : Position → Bool) (ps : List Position) (to : ℕ) → mirror_from to (mask_from f ps) (length ps) ≡ to * 2 ^ length ps + mask_from f (reverse ps)
unfolding mirror_from mask_from
mirror-is f [] to = omega arith
mirror-is f (p ∷ ps) to =
    let o = one_if (f p) in
    let m = mask_from f ps in
    let L = length ps in
    let few = one-few (f p) in
    let a : (m * 2 + o) % 2 ≡ o = omega arith in
    let b : (m * 2 + o) / 2 ≡ m = omega arith in
    let i : mirror_from (to * 2 + o) m L ≡ (to * 2 + o) * 2 ^ L + mask_from f (reverse ps) = mirror-is f ps (to * 2 + o) in
    let d : (to * 2 + o) * 2 ^ L ≡ to * 2 ^ suc L + o * 2 ^ L = add-mul (to * 2) o (2 ^ L) ∙ ap (λ (x : ℕ). x + o * 2 ^ L) (mul_assoc to 2 (2 ^ L) ∙ ap (λ (x : ℕ). to * x) (let z : 2 * 2 ^ L ≡ 2 ^ suc L = omega arith in z)) in
    let r : mask_from f (reverse (p ∷ ps)) ≡ mask_from f (reverse ps) + o * 2 ^ L =
    ap (mask_from f) (reverse-cons p ps) ∙ mask_append f (reverse ps) (p ∷ []) ∙ ap₂ (λ (x j : ℕ). mask_from f (reverse ps) + x * 2 ^ j) (let z : 0 * 2 + o ≡ o = omega arith in z) (length-reverse ps) in
    ap₂ (λ (x y : ℕ). mirror_from (to * 2 + x) y L) a b ∙ i ∙ (let z : (to * 2 + o) * 2 ^ L + mask_from f (reverse ps) ≡ to * 2 ^ suc L + mask_from f (reverse (p ∷ ps)) = omega (arith, d, r) in z)

-- the mask of the reversed rule
pub mirror-mask : (f : Position → Bool) (ps : List Position) → mirror (mask f ps) (length ps) ≡ mask f (reverse ps)
mirror-mask f ps =
    let e : mask f ps / 2 ≡ mask_from f ps = omega arith in
    let m = mirror-is f ps 0 in
    ap (λ (x : ℕ). mirror_from 0 x (length ps) * 2) e ∙ ap (λ (x : ℕ). x * 2) m ∙ (let z : (0 * 2 ^ length ps + mask_from f (reverse ps)) * 2 ≡ mask f (reverse ps) = omega arith in z)

-- ---- an accepted rule's table and masks are those of its positions

none-past : (fold : Bool) (es : List Model.Element) (c : ℕ) → 256 ≤ c → Every (λ p. p.set c) false (positions fold es)
none-past fold [] c h = tt
none-past fold (e ∷ es) c h =
    every_append (λ p. p.set c) false (kind_positions fold e.kind e.often) (positions fold es)
    (subst (λ (b : Bool). Every (λ p. p.set c) (b && kind_set fold e.kind c) (kind_positions fold e.kind e.often)) (le-ltb c 256 h) (kind_every fold e.kind e.often c))
    (none-past fold es c h)

rule-past : (fold : Bool) (x : Parsed) (c : ℕ) → 256 ≤ c → Every (λ p. p.set c) false (positions_by fold x)
rule-past fold (refused n p) c h = tt
rule-past fold (accepted es) c h = none-past fold es c h

row-past : (reversed : Bool) (f : Position → Bool) (ps : List Position) → Every f false ps → Every f false (row_of reversed ps)
row-past true f ps h = every_reverse f false ps h
row-past false f ps h = h

-- no number from 256 on is a byte
abbrev pub BytesAlone : List Position → Type 0
BytesAlone qs = (c : ℕ) → 256 ≤ c → Every (λ p. p.set c) false qs

pub rule-bytes : (flag : ℕ) (rule : List ℕ) (reversed : Bool) → BytesAlone (row_of reversed (rule_positions (fold_flag flag) rule))
rule-bytes flag rule reversed c h = row-past reversed (λ p. p.set c) (rule_positions (fold_flag flag) rule) (rule-past (fold_flag flag) (parse (fold_flag flag) rule) c h)

-- four planes, and each of them read back
module _ (p q r s : List ℕ) (lp : length p ≡ 256) (lq : length q ≡ 256) (lr : length r ≡ 256) (ls : length s ≡ 256) where
  abbrev all : List ℕ
  all = p ++ (q ++ (r ++ s))

  past_0 : drop 256 all ≡ q ++ (r ++ s)
  past_0 = drop_at p (q ++ (r ++ s)) 256 lp

  past_1 : drop 512 all ≡ r ++ s
  past_1 = sym (drop-drop 256 256 all) ∙ ap (drop 256) past_0 ∙ drop_at q (r ++ s) 256 lq

  past_2 : drop 768 all ≡ s
  past_2 = sym (drop-drop 256 512 all) ∙ ap (drop 256) past_1 ∙ drop_at r s 256 lr

  read_0 : take 256 all ≡ p
  read_0 = take_at p (q ++ (r ++ s)) 256 lp

  read_1 : take 256 (drop 256 all) ≡ q
  read_1 = ap (take 256) past_0 ∙ take_at q (r ++ s) 256 lq

  read_2 : take 256 (drop 512 all) ≡ r
  read_2 = ap (take 256) past_1 ∙ take_at r s 256 lr

  read_3 : take 256 (drop 768 all) ≡ s
  read_3 = ap (take 256) past_2 ∙ take_all 256 s (omega arith)

-- the masks of a list of positions
abbrev pub masks_of : List Position → WideMasks
masks_of qs = record { repeats = words_of (repeats_mask qs); optional = words_of (optional_mask qs); top = length qs }

module _ (qs : List Position) where
  long_plane : (j : ℕ) → length (plane_of j qs) ≡ 256
  long_plane j = long_entries j qs 256 0

  pub table-long : length (table_of qs) ≡ 1024
  table-long =
      let a = long_plane 0 in
      let b = long_plane 1 in
      let c = long_plane 2 in
      let d = long_plane 3 in
      simp length-append (omega arith)

  -- each of its planes
  pub plane_at : (j : ℕ) → j < 4 → take 256 (drop (j * 256) (table_of qs)) ≡ plane_of j qs
  plane_at j l = go j l
    where
      go : (j : ℕ) → j < 4 → take 256 (drop (j * 256) (table_of qs)) ≡ plane_of j qs
      go zero l = read_0 (plane_of 0 qs) (plane_of 1 qs) (plane_of 2 qs) (plane_of 3 qs) (long_plane 0) (long_plane 1) (long_plane 2) (long_plane 3)
      go (suc zero) l = read_1 (plane_of 0 qs) (plane_of 1 qs) (plane_of 2 qs) (plane_of 3 qs) (long_plane 0) (long_plane 1) (long_plane 2) (long_plane 3)
      go (suc (suc zero)) l = read_2 (plane_of 0 qs) (plane_of 1 qs) (plane_of 2 qs) (plane_of 3 qs) (long_plane 0) (long_plane 1) (long_plane 2) (long_plane 3)
      go (suc (suc (suc zero))) l = read_3 (plane_of 0 qs) (plane_of 1 qs) (plane_of 2 qs) (plane_of 3 qs) (long_plane 0) (long_plane 1) (long_plane 2) (long_plane 3)
      go (suc (suc (suc (suc j)))) l = absurd (omega arith)

  -- the table of a one-word run
  pub lowest_plane : take 256 (table_of qs) ≡ plane_of 0 qs
  lowest_plane = plane_at 0 (omega arith)

  module _ (bytes : BytesAlone qs) where
    plane_entry : (j c : ℕ) → get_or (plane_of j qs) c 0 ≡ word_of j (admits_mask qs c)
    plane_entry j c = elim (dec_le 256 c) [
      | yes h ↦
          get_or-eq_default (plane_of j qs) 0 {n = c} (omega (arith, long_plane j))
          ∙ sym (ap (λ (n : ℕ). word_of j (n * 2)) (every_mask (λ p. p.set c) false qs (bytes c h)) ∙ zero_word j)
      | no h ↦ entry_at j qs 256 0 c (omega arith) ∙ ap (λ (i : ℕ). word_of j (admits_mask qs i)) (zero-add c)
    ]

    -- "for each byte": its entry is the mask of the positions that admit it
    pub table-entry : (c : ℕ) → entry_of (table_of qs) c ≡ words_of (admits_mask qs c)
    unfolding words_of
    table-entry c =
        let f : (x : List ℕ) (j : ℕ) → x ≡ plane_of j qs → get_or x c 0 ≡ word_of j (admits_mask qs c) = λ x j e. ap (λ (l : List ℕ). get_or l c 0) e ∙ plane_entry j c in
        same _ _ _ _ _ _ _ _ (f _ 0 (plane_at 0 (omega arith))) (f _ 1 (plane_at 1 (omega arith))) (f _ 2 (plane_at 2 (omega arith))) (f _ 3 (plane_at 3 (omega arith)))

    pub table_fits : Fits (wide_automaton_of (table_of qs) (masks_of qs))
    table_fits = record {
      table = λ c. subst (λ (x : Wide). Words 64 4 (words x)) (sym (table-entry c)) (words_fit (admits_mask qs c));
      again = words_fit (repeats_mask qs);
      free = words_fit (optional_mask qs);
    }

    module _ (few : length qs ≤ position_limit) where
      mask-number : (f : Position → Bool) → number (words_of (mask f qs)) ≡ mask f qs
      mask-number f = number-words (mask f qs) (mask_fits 256 f qs (omega arith))

      pub table_encodes : Encodes (numbered (wide_automaton_of (table_of qs) (masks_of qs))) qs
      table_encodes = record {
        fits = omega arith;
        is-table = λ c. ap number (table-entry c) ∙ mask-number (λ p. p.set c);
        is-repeats = mask-number (λ p. p.repeats);
        is-optional = mask-number (λ p. p.optional);
        is-top = refl;
      }

-- what runs need of a table and masks: they are those of the positions, in words
pub record EncodesWide (table : List ℕ) (m : WideMasks) (qs : List Position) : Type 0 where
  pub numbers : Encodes (numbered (wide_automaton_of table m)) qs
  pub fit : Fits (wide_automaton_of table m)

pub encodes_table : (qs : List Position) → BytesAlone qs → length qs ≤ position_limit → (table : List ℕ) (m : WideMasks) → table ≡ table_of qs → m ≡ masks_of qs → EncodesWide table m qs
encodes_table qs bytes few table m et em =
    subst (λ (x : List ℕ). EncodesWide x m qs) (sym et)
    (subst (λ (x : WideMasks). EncodesWide (table_of qs) x qs) (sym em) (record { numbers = table_encodes qs bytes few; fit = table_fits qs bytes }))

-- at most 63 positions: plane 0 and the lowest words do alone
pub encodes_lowest : (table : List ℕ) (m : WideMasks) (qs : List Position) → EncodesWide table m qs → length qs < 64
    → Encodes (word_automaton (take 256 table) m.repeats.w0 m.optional.w0 m.top) qs
encodes_lowest table m qs e l = encodes_low (wide_automaton_of table m) qs e.fit e.numbers l

module _ (flag : ℕ) (rule : List ℕ) (p : Prepared) (hp : PreparedRule flag rule p) where
  abbrev ps : List Position
  ps = rule_positions (fold_flag flag) rule

  pub is-accepted : Accepts (fold_flag flag) rule
  is-accepted = accepts (fold_flag flag) rule hp.elements hp.parses

  pub is-answer : p ≡ answer_of ps
  is-answer = hp.is ∙ ap (λ (x : Parsed). answer_of (positions_by (fold_flag flag) x)) (sym hp.parses)

  pub positions_are : p.positions ≡ length ps
  positions_are = ap (λ (y : Prepared). y.positions) is-answer

  pub shortest-is : p.shortest ≡ shortest ps
  shortest-is = ap (λ (y : Prepared). y.shortest) is-answer

  pub few : length ps ≤ position_limit
  few = rw (← positions_are) hp.few

  -- what `fill` and `fill_plane` ask
  counted : Counted flag rule p.positions
  counted = record { elements = hp.elements; parses = hp.parses; count = ap (λ (y : Prepared). y.positions) hp.is; few = hp.few }

  pub may_fill : (table : List ℕ) → length table ≡ 1024 → Fillable flag rule p.positions table
  may_fill table l = record { rule-counted = counted; long = l }

  pub may_fill_plane : (plane : List ℕ) (word : ℕ) → length plane ≡ 256 → word < 4 → PlaneFillable flag rule p.positions plane word
  may_fill_plane plane word l h = record { rule-counted = counted; long = l; one = h }

  -- the table that is filled for it, with the masks that it was prepared to, and the lowest plane alone
  pub filled_encodes : (table : List ℕ) → Filled flag rule false table → EncodesWide table (record { repeats = p.repeats; optional = p.optional; top = p.positions }) ps
  filled_encodes table t =
      encodes_table ps (rule-bytes flag rule false) few table (record { repeats = p.repeats; optional = p.optional; top = p.positions }) t.is
      (ap (λ (y : Prepared). record { repeats = y.repeats; optional = y.optional; top = y.positions }) is-answer)

  pub plane_encodes : p.positions < word_bits → (plane : List ℕ) → PlaneFilled flag rule false plane 0 → Encodes (word_automaton plane p.repeats.w0 p.optional.w0 p.positions) ps
  plane_encodes low plane f =
      subst (λ (t : List ℕ). Encodes (word_automaton t p.repeats.w0 p.optional.w0 p.positions) ps) (lowest_plane ps ∙ sym f.is)
      (encodes_lowest (table_of ps) (record { repeats = p.repeats; optional = p.optional; top = p.positions }) ps
      (filled_encodes (table_of ps) (record { long = table-long ps; is = refl })) (omega (arith, positions_are)))
