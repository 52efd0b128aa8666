-- The laws of `fill`: an entry after each element, forwards and reversed. On plain values. Assumes nothing.
use mathlib.Core.Path.{◌≡◌, refl, sym, ap, ap₂, ◌∙◌}
use mathlib.Core.List.{List, [], ◌∷◌, ◌++◌, append_assoc, reverse, reverse-cons, reverse-append}
use mathlib.Core.Bool.{Bool, true, false, cond, ◌&&◌}
use Prim.Native.Nat.{ℕ, zero, suc, ◌+◌, ◌-◌, ◌*◌, ◌%◌, ◌^◌, ◌≤◌, ◌<◌}
use native.Mathlib.Omega.{arith}
use native.Mathlib.Nat.{add-zero, zero-add, mul_assoc, add-mul, zero-mul, zero-div, div-eq_of_lt}
use native.Mathlib.Numerals.{add-one}
use lib.ListN.{length, get_or, take, drop, replicate, length-append, length-reverse}
use lib.Seq.{ext_get_or, take_at, take_all, length-take-le}
use lib.Bits.{bit_or, or_zero_r, or_shifted}
use lib.Pow.{pow-add, pow_pos, shl_lt}
use borrow.Author.Tests.{lt-ltb}
use borrow.Rule.Slice.PartMut.{mid_of, put_mid, mid_len, same_len_mid}
use Rattle.model.specs.Occurrence.{Position, one_if}
use Rattle.model.specs.RuleText as Model
use Rattle.model.specs.RuleText.{fold_flag, rule_limit, position_limit, byte, any, class, gap, once, optional, position, positions, kind_positions, kind_set, is_byte}
use Rattle.model.specs.NumberedAnswers.{Parsed, accepted, elements_from, parse, positions_by, rule_positions}
use Rattle.model.proofs.Accepted.{parsed_ok, stored-accepted}
use Rattle.shift_and.specs.Masks.{mask_from, mask, admits_mask}
use Rattle.shift_and.proofs.MaskLaws.{mask_append, mask_fits}
use Rattle.shift_and_wide.specs.Wides.{word_of, ones_from}
use Rattle.shift_and_wide.proofs.Masks.{word_or}
use Rattle.byte_set.proofs.SetLaws.{class-member}
use Rattle.answers.specs.declared.Refusal.{Refusal}
use Rattle.rule_element.specs.declared.Kind.{Kind}
use Rattle.rule_element.specs.declared.Element.{Element}
use Rattle.std.specs.Prelude.{Ok, Err}
use Rattle.rule_element.specs.Reading.{kind_of, size_of, KindFits, ElementMoves, ReadsElement}
use Rattle.rule_table.specs.Tables.{entries_from, plane_of, table_of, row_of, Cleared, gained, admits_by, SlotsFit, slot_bits, Placed, Counted, PlaneFillable, PlaneFilled, Fillable, Filled}
use Rattle.rule_parser.proofs.ElementMasks.{kind-length}
use Rattle.rule_element.proofs.RuleReading.{Found, moved, element-found, elements-over, elements_never, elements-after}
use Rattle.rule_parser.proofs.RuleLaws.{placed_on, placed-lt, placed-mask}

-- ---- lists whose positions all have a property, or none has it

abbrev pub Every : (Position → Bool) → Bool → List Position → Type 0
Every f b [] = Unit {0}
Every f b (p ∷ ps) = (f p ≡ b) × Every f b ps

pub every_append : (f : Position → Bool) (b : Bool) (ps qs : List Position) → Every f b ps → Every f b qs → Every f b (ps ++ qs)
every_append f b [] qs h g = g
every_append f b (p ∷ ps) qs h g = (h.0, every_append f b ps qs h.1 g)

every_replicate : (f : Position → Bool) (b : Bool) (p : Position) → f p ≡ b → (n : ℕ) → Every f b (replicate n p)
every_replicate f b p e zero = tt
every_replicate f b p e (suc n) = (e, every_replicate f b p e n)

pub every_reverse : (f : Position → Bool) (b : Bool) (ps : List Position) → Every f b ps → Every f b (reverse ps)
every_reverse f b [] h = tt
every_reverse f b (p ∷ ps) h = rw (reverse-cons p ps) (every_append f b (reverse ps) (p ∷ []) (every_reverse f b ps h.1) (h.0, tt))

abbrev full : Bool → ℕ → ℕ
full b n = cond b (2 ^ n - 1) 0

pub every_mask : (f : Position → Bool) (b : Bool) (ps : List Position) → Every f b ps → mask_from f ps ≡ full b (length ps)
unfolding mask_from
every_mask f true [] h = refl
every_mask f false [] h = refl
every_mask f true (p ∷ ps) h =
    let i = every_mask f true ps h.1 in
    let q : one_if (f p) ≡ 1 = ap one_if h.0 in
    let l = pow_pos (length ps) in
    let g : mask_from f ps * 2 + one_if (f p) ≡ 2 ^ suc (length ps) - 1 = omega arith in
    g
every_mask f false (p ∷ ps) h =
    let i = every_mask f false ps h.1 in
    let q : one_if (f p) ≡ 0 = ap one_if h.0 in
    omega arith

full-lt : (b : Bool) (n : ℕ) → full b n < 2 ^ n
full-lt true n = let l = pow_pos n in omega arith
full-lt false n = pow_pos n

-- ---- an entry

-- what the positions left make of an entry x is what all make: forwards they stand above x, reversed below it
abbrev pub Entry : (reversed : Bool) → (Position → Bool) → (used : ℕ) (left all : List Position) (x : ℕ) → Type 0
Entry false f used left all x = (x < 2 ^ (used + 1)) × (x + mask_from f left * 2 ^ (used + 1) ≡ mask f all)
Entry true f used left all x = (y : ℕ) × (x ≡ y * 2 ^ (length left + 1)) × (x + mask f (reverse left) ≡ mask f (reverse all))

module _ (f : Position → Bool) (b : Bool) (kp ps all : List Position) (every : Every f b kp) (used n x : ℕ) (long : length kp ≡ n) where
  gained-on : gained b (ones_from n (used + 1)) x ≡ placed_on x (full b n) used
  gained-on = go b
    where
      go : (b : Bool) → gained b (ones_from n (used + 1)) x ≡ placed_on x (full b n) used
      go true = refl
      go false = rw zero-mul (sym (or_zero_r x))

  entry-on : Entry false f used (kp ++ ps) all x → Entry false f (used + n) ps all (gained b (ones_from n (used + 1)) x)
  entry-on e =
      let v = full b n in
      let l = full-lt b n in
      let m : mask_from f (kp ++ ps) ≡ v + mask_from f ps * 2 ^ n = mask_append f kp ps ∙ ap₂ (λ (a k : ℕ). a + mask_from f ps * 2 ^ k) (every_mask f b kp every ∙ ap (full b) long) long in (
        rw gained-on (placed-lt x v used n e.0 l),
        rw gained-on (sym (placed-mask x used n v (mask_from f ps) e.0) ∙ ap (λ (a : ℕ). x + a * 2 ^ (used + 1)) (sym m) ∙ e.1),
      )

  module _ (total : ℕ) (count : used + n + length ps ≡ total) where
    abbrev L : ℕ
    L = length ps

    abbrev bits : ℕ
    bits = ones_from n (total - used - n + 1)

    is_bits : bits ≡ ones_from n (L + 1)
    is_bits = let k : total - used - n + 1 ≡ L + 1 = omega arith in ap (ones_from n) k

    gained-back : (y : ℕ) → x ≡ y * 2 ^ (n + (L + 1)) → gained b bits x ≡ x + full b n * 2 ^ (L + 1)
    gained-back y e = go b
      where
        go : (b : Bool) → gained b bits x ≡ x + full b n * 2 ^ (L + 1)
        go true = ap₂ bit_or e is_bits ∙ or_shifted y (n + (L + 1)) ((2 ^ n - 1) * 2 ^ (L + 1)) (shl_lt n (L + 1) (full-lt true n)) ∙ ap (λ (a : ℕ). a + (2 ^ n - 1) * 2 ^ (L + 1)) (sym e)
        go false = rw zero-mul (sym (add-zero x))

    entry-back : Entry true f used (kp ++ ps) all x → Entry true f (used + n) ps all (gained b bits x)
    entry-back e =
        let v = full b n in
        let y = e.0 in
        let k : length (kp ++ ps) + 1 ≡ n + (L + 1) = omega (arith, length-append kp ps) in
        let ex : x ≡ y * 2 ^ (n + (L + 1)) = e.1 ∙ ap (λ (j : ℕ). y * 2 ^ j) k in
        let g = gained-back y ex in
        let r : mask_from f (reverse (kp ++ ps)) ≡ mask_from f (reverse ps) + v * 2 ^ L =
        ap (mask_from f) (reverse-append kp ps) ∙ mask_append f (reverse ps) (reverse kp)
        ∙ ap₂ (λ (a j : ℕ). mask_from f (reverse ps) + a * 2 ^ j) (every_mask f b (reverse kp) (every_reverse f b kp every) ∙ ap (full b) (length-reverse kp ∙ long)) (length-reverse ps) in
        let d : v * 2 ^ (L + 1) ≡ v * 2 ^ L * 2 = ap (λ (a : ℕ). v * a) (let z : 2 ^ (L + 1) ≡ 2 ^ L * 2 = pow-add 2 L 1 in z) ∙ sym (mul_assoc v (2 ^ L) 2) in
        let h : y * 2 ^ (n + (L + 1)) + v * 2 ^ (L + 1) ≡ (y * 2 ^ n + v) * 2 ^ (L + 1) = rw (add-mul, pow-add 2 n (L + 1), mul_assoc) in
        (y * 2 ^ n + v, g ∙ ap (λ (a : ℕ). a + v * 2 ^ (L + 1)) ex ∙ h, rw g (let z : x + v * 2 ^ (L + 1) + mask f (reverse ps) ≡ mask f (reverse all) = omega (arith, e.2) in z))

-- one word of it
pub record PlaneEntry (word : ℕ) (reversed : Bool) (f : Position → Bool) (used : ℕ) (left all : List Position) (x : ℕ) : Type 0 where
  pub whole : ℕ
  pub is_word : x ≡ word_of word whole
  pub entry : Entry reversed f used left all whole

word-gained : (j : ℕ) (b : Bool) (bits x : ℕ) → word_of j (gained b bits x) ≡ gained b (word_of j bits) (word_of j x)
word-gained j true bits x = word_or j x bits
word-gained j false bits x = refl

-- ---- what an element admits

pub admits_is : (fold : Bool) (d : Model.Kind) (c : ℕ) → c < 256 → admits_by fold (kind_of fold d) c ≡ (is_byte c && kind_set fold d c)
admits_is fold d c h = go d ∙ sym (ap (λ (b : Bool). b && kind_set fold d c) (lt-ltb c 256 h))
  where
    go : (d : Model.Kind) → admits_by fold (kind_of fold d) c ≡ kind_set fold d c
    go (byte b) = refl
    go any = refl
    go (class t rs) = class-member fold t rs c h
    go (gap a b) = refl

pub kind_every : (fold : Bool) (d : Model.Kind) (o : Model.Often) (c : ℕ) → Every (λ p. p.set c) (is_byte c && kind_set fold d c) (kind_positions fold d o)
kind_every fold (byte b) o c = (refl, tt)
kind_every fold any o c = (refl, tt)
kind_every fold (class t rs) o c = (refl, tt)
kind_every fold (gap a b) o c =
    every_append (λ p. p.set c) (is_byte c && true) (replicate (b - a) (position fold any optional)) (replicate a (position fold any once))
    (every_replicate (λ p. p.set c) (is_byte c && true) (position fold any optional) refl (b - a)) (every_replicate (λ p. p.set c) (is_byte c && true) (position fold any once) refl a)

-- ---- a plane of a list of positions, entry by entry

pub long_entries : (j : ℕ) (ps : List Position) (n c : ℕ) → length (entries_from j ps c n) ≡ n
unfolding entries_from
long_entries j ps zero c = refl
long_entries j ps (suc n) c = ap suc (long_entries j ps n (suc c))

pub entry_at : (j : ℕ) (ps : List Position) (n c i : ℕ) → i < n → get_or (entries_from j ps c n) i 0 ≡ word_of j (admits_mask ps (c + i))
unfolding entries_from
entry_at j ps zero c i l = absurd (omega arith)
entry_at j ps (suc n) c zero l = ap (λ (k : ℕ). word_of j (admits_mask ps k)) (sym (add-zero c))
entry_at j ps (suc n) c (suc i) l = entry_at j ps n (suc c) i (omega arith) ∙ ap (λ (k : ℕ). word_of j (admits_mask ps k)) (let z : suc c + i ≡ c + suc i = omega arith in z)

-- a list with these entries is the plane
pub plane_is : (j : ℕ) (ps : List Position) (t : List ℕ) → length t ≡ 256 → ((i : ℕ) → i < 256 → get_or t i 0 ≡ word_of j (admits_mask ps i)) → t ≡ plane_of j ps
plane_is j ps t l h =
    ext_get_or 0 t (plane_of j ps) (l ∙ sym (long_entries j ps 256 0)) λ i k. let m : i < 256 = omega arith in h i m ∙ sym (entry_at j ps 256 0 i m ∙ ap (λ (c : ℕ). word_of j (admits_mask ps c)) (zero-add i))

-- ---- the loop

pub record Filling (fold : Bool) (s : List ℕ) (all : List Position) (reversed : Bool) (total word : ℕ) (plane : List ℕ) (at used : ℕ) : Type 0 where
  pub left : List Model.Element
  pub rest : elements_from position_limit fold 0 at used (drop at s) ≡ accepted left
  pub count : used + length (positions fold left) ≡ total
  pub few : total ≤ position_limit
  pub one : word < 4
  pub long : length plane ≡ 256
  pub each : (c : ℕ) → c < 256 → PlaneEntry word reversed (λ p. p.set c) used (positions fold left) all (get_or plane c 0)

-- an accepted rule, as it is read from its first element on
pub record Accepts (fold : Bool) (s : List ℕ) : Type 0 where
  pub elements : List Model.Element
  pub parses : parse fold s ≡ accepted elements
  pub reads : elements_from position_limit fold 0 0 0 s ≡ accepted elements

pub accepts : (fold : Bool) (s : List ℕ) (es : List Model.Element) → parse fold s ≡ accepted es → Accepts fold s
accepts fold s es e = record { elements = es; parses = e; reads = (parsed_ok rule_limit position_limit fold s es (stored-accepted fold s es e).0).reads }

module _ (flag : ℕ) (s : List ℕ) (total : ℕ) (h : Counted flag s total) where
  pub counted-rule : Accepts (fold_flag flag) s
  counted-rule = accepts (fold_flag flag) s h.elements h.parses

  pub counted-positions : rule_positions (fold_flag flag) s ≡ positions (fold_flag flag) counted-rule.elements
  counted-positions = ap (positions_by (fold_flag flag)) counted-rule.parses

  pub counted-length : total ≡ length (rule_positions (fold_flag flag) s)
  counted-length = h.count ∙ ap (λ (x : Parsed). length (positions_by (fold_flag flag) x)) (sym h.parses)

pub zero_word : (j : ℕ) → word_of j 0 ≡ 0
zero_word j = ap (λ (v : ℕ). v % 2 ^ 64) (zero-div (2 ^ (j * 64)))

pub fill_begun : (flag : ℕ) (s : List ℕ) (total word : ℕ) (plane₀ plane : List ℕ) (reversed : Bool) → PlaneFillable flag s total plane₀ word → Cleared plane 256 → (f : Bool) → f ≡ fold_flag flag → Filling f s (rule_positions (fold_flag flag) s) reversed total word plane 0 0
fill_begun flag s total word plane₀ plane reversed h k f ef =
    let es = counted-rule flag s total h.rule-counted in
    let a : rule_positions (fold_flag flag) s ≡ positions f es.elements = counted-positions flag s total h.rule-counted ∙ ap (λ (b : Bool). positions b es.elements) (sym ef) in
    record {
      left = es.elements;
      rest = ap (λ (b : Bool). elements_from position_limit b 0 0 0 s) ef ∙ es.reads;
      count = zero-add _ ∙ sym (counted-length flag s total h.rule-counted ∙ ap length a);
      few = h.rule-counted.few;
      one = h.one;
      long = k.long;
      each = λ c l. record { whole = 0; is_word = k.zeros c l ∙ sym (zero_word word); entry = rw a (first (λ p. p.set c) (positions f es.elements) reversed) };
    }
  where
    first : (g : Position → Bool) (ps : List Position) (reversed : Bool) → Entry reversed g 0 ps ps 0
    first g ps false = (omega arith, omega arith)
    first g ps true = (0, sym (zero-mul _), zero-add _)

module _ (f : Bool) (s : List ℕ) (all : List Position) (reversed : Bool) (total word : ℕ) (plane : List ℕ) (at used : ℕ) (g : Filling f s all reversed total word plane at used) where
  pub fill_over : length s ≤ at → (flag : ℕ) → all ≡ rule_positions (fold_flag flag) s → PlaneFilled flag s reversed plane word
  unfolding mask_from
  fill_over h flag ea = record { long = g.long; is = plane_is word (row_of reversed (rule_positions (fold_flag flag) s)) plane g.long same }
    where
      none : g.left ≡ []
      none = elements-over f s at used g.left g.rest h

      last : (q : Position → Bool) (b : Bool) (x : ℕ) → Entry b q used [] all x → x ≡ mask q (row_of b all)
      last q false x e = (let z : x ≡ x + 0 * 2 ^ (used + 1) = rw zero-mul (sym (add-zero x)) in z) ∙ e.1
      last q true x e = sym (add-zero x) ∙ e.2

      same : (i : ℕ) → i < 256 → get_or plane i 0 ≡ word_of word (admits_mask (row_of reversed (rule_positions (fold_flag flag) s)) i)
      same i k =
          let e = g.each i k in
          e.is_word ∙ ap (word_of word) (last (λ p. p.set i) reversed e.whole (rw none at e.entry) ∙ ap (λ (ps : List Position). admits_mask (row_of reversed ps) i) ea)

  module _ (h : at < length s) where
    pub fill_never : {A : Type 0} (x : Refusal) → ReadsElement f used s at (Err x) → A
    fill_never x r = elements_never f s at used g.left g.rest h x r

    module _ (element : Element) (to : ℕ) (rc : ReadsElement f used s at (Ok (element, to))) where
      abbrev found : Found f used s at h element to rc
      found = element-found f used s at h element to rc

      moves : ElementMoves used s at element to
      moves = moved f used s at h element to rc

      after : (fs : List Model.Element) × (elements_from position_limit f 0 to (used + size_of element.kind) (drop to s) ≡ accepted fs) × (record { kind = found.kind; often = found.often } ∷ fs ≡ g.left)
      after = elements-after f s at used g.left g.rest h element to rc

      pub fill_ahead : (at < to) × (to ≤ length s)
      fill_ahead = (omega (arith, moves.ahead), moves.inside)

      same_kind : element.kind ≡ kind_of f found.kind
      same_kind = ap (λ (y : Element). y.kind) found.is-element

      fits : KindFits (kind_of f found.kind)
      fits = rw same_kind at moves.fits

      kp : List Position
      kp = kind_positions f found.kind found.often

      abbrev n : ℕ
      n = size_of element.kind

      long_kp : length kp ≡ n
      unfolding kp
      long_kp = kind-length f found.kind found.often fits ∙ ap size_of (sym same_kind)

      is-left : positions f g.left ≡ kp ++ positions f after.0
      unfolding kp
      is-left = ap (positions f) (sym after.2)

      counted : used + n + length (positions f after.0) ≡ total
      counted = omega (arith, g.count, ap length is-left, length-append kp (positions f after.0), long_kp)

      pub fill_room : SlotsFit n used total word
      fill_room = record { room = omega (arith, counted); few = g.few; one = g.one }

      next : (d : Bool) (c x : ℕ) → Entry d (λ p. p.set c) used (kp ++ positions f after.0) all x
          → Entry d (λ p. p.set c) (used + n) (positions f after.0) all (gained (is_byte c && kind_set f found.kind c) (slot_bits n used total d) x)
      unfolding kp
      next false c x e = entry-on (λ p. p.set c) (is_byte c && kind_set f found.kind c) kp (positions f after.0) all (kind_every f found.kind found.often c) used n x long_kp e
      next true c x e = entry-back (λ p. p.set c) (is_byte c && kind_set f found.kind c) kp (positions f after.0) all (kind_every f found.kind found.often c) used n x long_kp total counted e

      pub fill_turn : (m : ℕ) (plane' : List ℕ) → Placed f element.kind used total reversed word plane m plane' → Filling f s all reversed total word plane' to (used + m)
      fill_turn m plane' d = rw d.size (record {
        left = after.0;
        rest = after.1;
        count = counted;
        few = g.few;
        one = g.one;
        long = d.gains.long;
        each = λ c l.
            let e = g.each c l in
            let bits = slot_bits n used total reversed in
            let has = is_byte c && kind_set f found.kind c in
            let b : admits_by f element.kind c ≡ has = ap (λ (k : Kind). admits_by f k c) same_kind ∙ admits_is f found.kind c l in
            record {
              whole = gained has bits e.whole;
              is_word = d.gains.each c l ∙ ap₂ (λ (y : Bool) (x : ℕ). gained y (word_of word bits) x) b e.is_word ∙ sym (word-gained word has bits e.whole);
              entry = next reversed c e.whole (rw is-left at e.entry);
            };
      })

-- ---- a word that no position has a bit in

pub row-length : (reversed : Bool) (ps : List Position) → length (row_of reversed ps) ≡ length ps
row-length true ps = length-reverse ps
row-length false ps = refl

pub none_above : (j : ℕ) (ps : List Position) (c : ℕ) → length ps < j * 64 → word_of j (admits_mask ps c) ≡ 0
none_above j ps c l = ap (λ (v : ℕ). v % 2 ^ 64) (div-eq_of_lt (mask_fits (j * 64) (λ p. p.set c) ps l))

pub plane_cleared : (flag : ℕ) (s : List ℕ) (total word : ℕ) (plane₀ plane : List ℕ) (reversed : Bool) → PlaneFillable flag s total plane₀ word → total < word * 64 → Cleared plane 256 → PlaneFilled flag s reversed plane word
plane_cleared flag s total word plane₀ plane reversed h l k =
    let ps = rule_positions (fold_flag flag) s in
    let few : length (row_of reversed ps) < word * 64 = omega (arith, row-length reversed ps, counted-length flag s total h.rule-counted) in
    record { long = k.long; is = plane_is word (row_of reversed ps) plane k.long λ i m. k.zeros i m ∙ sym (none_above word (row_of reversed ps) i few) }

-- ---- plane after plane

unfoldable pub planes_below : (j : ℕ) → List Position → List ℕ
planes_below zero ps = []
planes_below (suc j) ps = planes_below j ps ++ plane_of j ps

pub four_planes : (ps : List Position) → planes_below 4 ps ≡ table_of ps
unfolding planes_below
four_planes ps = simp append_assoc

-- a plane put into a table: what stands up to its end
pub plane_put : (table : List ℕ) (at : ℕ) (plane : List ℕ) → at + 256 ≤ length table → length plane ≡ 256 → take (at + 256) (put_mid at (at + 256 - at) table plane) ≡ take at table ++ plane
plane_put table at plane room long =
    let rest = drop (at + 256 - at) (drop at table) in
    let m : length (take at table) ≡ at = length-take-le at table (omega arith) in
    let n : length (take at table ++ plane) ≡ at + 256 = length-append (take at table) plane ∙ ap₂ ◌+◌ m long in
    ap (take (at + 256)) (sym (append_assoc (take at table) plane rest)) ∙ take_at (take at table ++ plane) rest (at + 256) n

-- the planes below `word` are filled, `at` words
pub record FillingPlanes (flag : ℕ) (s : List ℕ) (reversed : Bool) (table : List ℕ) (word at : ℕ) : Type 0 where
  pub within : word ≤ 4
  pub place : at ≡ word * 256
  pub long : length table ≡ 1024
  pub filled : take at table ≡ planes_below word (row_of reversed (rule_positions (fold_flag flag) s))

module _ (flag : ℕ) (s : List ℕ) (reversed : Bool) where
  pub planes_begun : (table : List ℕ) → length table ≡ 1024 → FillingPlanes flag s reversed table 0 0
  unfolding planes_below
  planes_begun table l = record { within = omega arith; place = refl; long = l; filled = refl }

  module _ (table : List ℕ) (word at : ℕ) (g : FillingPlanes flag s reversed table word at) where
    pub planes_over : 4 ≤ word → Filled flag s reversed table
    planes_over h =
        let w : word ≡ 4 = omega (arith, g.within) in
        let a : 1024 ≡ at = omega (arith, g.place) in
        let l = g.long in
        record {
          long = g.long;
          is =
              sym (take_all at table (omega arith)) ∙ g.filled
              ∙ ap (λ (j : ℕ). planes_below j (row_of reversed (rule_positions (fold_flag flag) s))) w
              ∙ four_planes (row_of reversed (rule_positions (fold_flag flag) s));
        }

    module _ (h : word < 4) where
      pub plane_room : at + 256 ≤ length table
      plane_room = omega (arith, g.place, g.long)

      part_length : length (mid_of at (at + 256 - at) table) ≡ 256
      part_length = mid_len at (at + 256) table plane_room ∙ (let z : at + 256 - at ≡ 256 = omega arith in z)

      pub plane_fillable : (total : ℕ) (t₀ : List ℕ) → Fillable flag s total t₀ → PlaneFillable flag s total (mid_of at (at + 256 - at) table) word
      plane_fillable total t₀ k = record { rule-counted = k.rule-counted; long = part_length; one = h }

      pub planes_turn : (plane : List ℕ) → PlaneFilled flag s reversed plane word → (to : ℕ) → to ≡ at + 256 → FillingPlanes flag s reversed (put_mid at (at + 256 - at) table plane) (word + 1) to
      unfolding planes_below
      planes_turn plane k to e =
          let row = row_of reversed (rule_positions (fold_flag flag) s) in
          record {
            within = omega arith;
            place = omega (arith, g.place);
            long = same_len_mid at (at + 256 - at) table plane (k.long ∙ sym part_length) ∙ g.long;
            filled =
                ap (λ (j : ℕ). take j (put_mid at (at + 256 - at) table plane)) e
                ∙ plane_put table at plane plane_room k.long
                ∙ ap₂ (λ (x y : List ℕ). x ++ y) g.filled k.is
                ∙ ap (λ (j : ℕ). planes_below j row) (sym (add-one word));
          }
