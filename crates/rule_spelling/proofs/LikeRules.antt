-- The rule text of a LIKE pattern's items: each item is read as one element, an occurrence of its positions is what LIKE accepts, and what refuses the text is read
-- off the items. Assumes nothing.
use mathlib.Core.Path.{◌≡◌, refl, sym, ap, ap₂, ◌∙◌}
use mathlib.Core.Bool.{Bool, true, false, not, cond, ◌&&◌, ◌||◌}
use mathlib.Core.Logic.{◌⊎◌, inl, inr}
use mathlib.Core.List.{List, [], ◌∷◌, ◌++◌, append_assoc, cons≢nil, head-eq_of_cons-eq, tail-eq_of_cons-eq}
use Prim.Native.Nat.{ℕ, suc, ◌+◌, ◌-◌, ◌≤◌}
use native.Mathlib.Nat.{add-zero, zero-add}
use native.Mathlib.Omega.{arith}
use lib.Dec.{T, leb, ltb, eqb, leb→le, nleb→lt, eqb→eq, eqb_refl}
use borrow.Author.Tests.{le-ltb, lt-ltb}
use lib.ListN.{length, take, length-append}
use Rattle.model.specs.RefusalNumbers.{rule_empty, rule_long, too_many_positions, admits_empty}
use Rattle.model.specs.Occurrence.{Position, all, Share, one, empty, longer, Occurs, done, next, shortest}
use Rattle.model.specs.RuleText.{one_of, marks, is_byte, rule_limit, position_limit, byte, any, Often, once, both, Element, other_case, position, positions, size, good, kind_at, often_at}
use Rattle.model.specs.Spelling.{Spelled, spelled, elements_by, unequal, inner, outer_at, first_outer, last_outer, either_outer, outer}
use Rattle.model.specs.NumberedAnswers.{Parsed, refused, accepted, add_element, elements_from, or_empty, parse_stored, or_outer, outer_checked, parse}
use Rattle.model.specs.Like.{LikeItem, any_bytes, one_byte, plain, Like, over, many, single, itself, item_text, like_text}
use Rattle.model.proofs.Truth.{and_intro, and_left, and_right, or_cases, or_left, T-to, or_false_left, or_false_right}
use Rattle.model.proofs.Shares.{occurs_nil, occurs-first, all_left, all_right}
use Rattle.model.proofs.Accepted.{accepted_inj, not_refused, parsed_ok}
use Rattle.rule_spelling.specs.LikeRules.{item_element, like_elements, singles, past_place, like_parsed}
use Rattle.rule_spelling.proofs.OneElement.{kind-once}
use Rattle.rule_spelling.proofs.Spellings.{ReadsOne, one_read}
use Rattle.rule_spelling.proofs.Rereading.{stored-spelled}
use Rattle.rule_spelling.proofs.LikeTest.{like-to}

-- ---- an item's text is read as one element

abbrev item_spelled : LikeItem → Spelled
item_spelled i = record { element = item_element i; place = 0; bytes = item_text i }

plain-kind : (fold : Bool) (c : ℕ) (rest : List ℕ) → one_of marks c ≡ false → kind_at fold (c ∷ rest) ≡ good (byte c) 1
plain-kind fold c rest q =
    let a₁ = or_false_right (eqb c 46) _ q in
    let a₂ = or_false_right (eqb c 91) _ a₁ in
    let a₃ = or_false_right (eqb c 93) _ a₂ in
    let a₄ = or_false_right (eqb c 123) _ a₃ in
    let a₅ = or_false_right (eqb c 125) _ a₄ in
    let a₆ = or_false_right (eqb c 63) _ a₅ in
    let a₇ = or_false_right (eqb c 43) _ a₆ in
    let a₈ = or_false_right (eqb c 42) _ a₇ in
    rw (or_false_left (eqb c 46) _ q, or_false_left (eqb c 91) _ a₁, or_false_left (eqb c 93) _ a₂, or_false_left (eqb c 123) _ a₃, or_false_left (eqb c 125) _ a₄, or_false_left (eqb c 63) _ a₅, or_false_left (eqb c 43) _ a₆, or_false_left (eqb c 42) _ a₇, or_false_left (eqb c 92) _ a₈)

mark-kind : (fold : Bool) (c : ℕ) (rest : List ℕ) → one_of marks c ≡ true → kind_at fold (92 ∷ c ∷ rest) ≡ good (byte c) 2
mark-kind fold c rest q = rw q

item-reads : (fold : Bool) (i : LikeItem) (rest : List ℕ) → often_at rest ≡ once → ReadsOne fold (item_spelled i) rest
item-reads fold any_bytes rest h = record { count = 1; is = refl; often-is = refl; long = refl }
item-reads fold one_byte rest h = record { count = 1; is = refl; often-is = h; long = refl }
item-reads fold (plain c) rest h = go (one_of marks c) refl
  where
    go : (b : Bool) → one_of marks c ≡ b → ReadsOne fold (record { element = item_element (plain c); place = 0; bytes = cond b (92 ∷ c ∷ []) (c ∷ []) }) rest
    go true q = record { count = 2; is = mark-kind fold c rest q; often-is = h; long = refl }
    go false q = record { count = 1; is = plain-kind fold c rest q; often-is = h; long = refl }

-- No item's text begins with a mark of how often.
text-once : (is : List LikeItem) → often_at (like_text is) ≡ once
text-once [] = refl
text-once (i ∷ is) =
    let r = item-reads false i (like_text is) (text-once is) in
    kind-once false (item_text i ++ like_text is) (item_element i).kind r.count r.is

pub text-append : (is js : List LikeItem) → like_text (is ++ js) ≡ like_text is ++ like_text js
text-append [] js = refl
text-append (i ∷ is) js = ap (λ (l : List ℕ). item_text i ++ l) (text-append is js) ∙ sym (append_assoc (item_text i) (like_text is) (like_text js))

-- ---- an occurrence of their positions is what LIKE accepts

abbrev pub like_positions : List LikeItem → List Position
like_positions is = positions false (like_elements is)

any-set : (o : Often) (xs : List ℕ) → T (all is_byte xs) → T (all (position false any o).set xs)
any-set o [] t = tt
any-set o (x ∷ xs) t =
    and_intro (is_byte x && true) (all (position false any o).set xs) (and_intro (is_byte x) true (and_left (is_byte x) (all is_byte xs) t) tt)
    (any-set o xs (and_right (is_byte x) (all is_byte xs) t))

-- a share of any bytes, and of no byte
any-share : (xs : List ℕ) → T (all is_byte xs) → Share (position false any both) xs
any-share [] t = empty tt
any-share (x ∷ xs) t = longer tt (and_intro (is_byte x) true (and_left (is_byte x) (all is_byte xs) t) tt) (any-set both xs (and_right (is_byte x) (all is_byte xs) t))

-- a share of a position that must have one byte
single-share : (p : Position) {xs : List ℕ} → p.optional ≡ false → p.repeats ≡ false → Share p xs → (c : ℕ) × (xs ≡ c ∷ []) × T (p.set c)
single-share p o r (one {c = c} t) = (c, refl, t)
single-share p o r (empty t) = absurd (T-to o t)
single-share p o r (longer t h k) = absurd (T-to r t)

pub like-occurs : (is : List LikeItem) (xs : List ℕ) → Occurs (like_positions is) xs → Like is xs
like-occurs [] xs o = like-to (sym (occurs_nil o)) over
like-occurs (any_bytes ∷ is) xs o = let f = occurs-first o in like-to (sym f.joined) (many f.share (like-occurs is f.rest f.rest-occurs))
like-occurs (one_byte ∷ is) xs o =
    let f = occurs-first o in
    let s = single-share (position false any once) refl refl f.share_is in
    like-to (sym (f.joined ∙ ap (λ (l : List ℕ). l ++ f.rest) s.1)) (single s.0 (like-occurs is f.rest f.rest-occurs))
like-occurs (plain b ∷ is) xs o =
    let f = occurs-first o in
    let s = single-share (position false (byte b) once) refl refl f.share_is in
    let c = s.0 in
    let e : c ≡ b = itself_only c (or_cases (eqb c b) (false && eqb (other_case c) b) (and_right (is_byte c) (eqb c b || false && eqb (other_case c) b) s.2)) in
    like-to (sym (f.joined ∙ ap (λ (l : List ℕ). l ++ f.rest) s.1 ∙ ap (λ (x : ℕ). x ∷ f.rest) e)) (itself b (like-occurs is f.rest f.rest-occurs))
  where
    itself_only : (c : ℕ) → T (eqb c b) ⊎ T (false && eqb (other_case c) b) → c ≡ b
    itself_only c (inl t) = eqb→eq c b t
    itself_only c (inr t) = absurd t

pub occurs-like : {is : List LikeItem} {xs : List ℕ} → T (all is_byte xs) → Like is xs → Occurs (like_positions is) xs
occurs-like t over = done
occurs-like t (many {xs = xs} ys h) = next (any-share ys (all_left is_byte ys xs t)) (occurs-like (all_right is_byte ys xs t) h)
occurs-like t (single {xs = xs} c h) = next {xs = c ∷ []} (one (and_intro (is_byte c) true (and_left (is_byte c) (all is_byte xs) t) tt)) (occurs-like (and_right (is_byte c) (all is_byte xs) t) h)
occurs-like t (itself {xs = xs} c h) =
    next {xs = c ∷ []} (one (and_intro (is_byte c) (eqb c c || false && eqb (other_case c) c) (and_left (is_byte c) (all is_byte xs) t) (or_left (eqb c c) (false && eqb (other_case c) c) (eqb_refl c))))
    (occurs-like (and_right (is_byte c) (all is_byte xs) t) h)

-- ---- which checks refuse the text: 1, 2, 7 and 8, and no other

-- A text of items, read: its elements, or 7.
abbrev like_read : (most place used : ℕ) → List LikeItem → Parsed
like_read most place used is = cond (ltb most (used + length is)) (refused too_many_positions (place + past_place (most - used) is)) (accepted (like_elements is))

module _ (most : ℕ) (fold : Bool) where
  added_read : (e : Element) (b : Bool) (p : ℕ) (es : List Element) → add_element e (cond b (refused too_many_positions p) (accepted es)) ≡ cond b (refused too_many_positions p) (accepted (e ∷ es))
  added_read e true p es = refl
  added_read e false p es = refl

  like_read_lem : (is : List LikeItem) (place used : ℕ) → used ≤ most → elements_from most fold 0 place used (like_text is) ≡ like_read most place used is
  like_read_lem [] place used h = sym (ap (λ (b : Bool). cond b (refused too_many_positions (place + past_place (most - used) [])) (accepted [])) (le-ltb most (used + 0) (omega arith)))
  like_read_lem (i ∷ is) place used h = one_read most fold (item_spelled i) (like_text is) place used (item-reads fold i (like_text is) (text-once is)) ∙ one-position i ∙ go (leb (used + 1) most) refl (like_read_lem is)
    where
      -- whatever the item, it takes one position
      one-position : (i : LikeItem) → cond (leb (used + size (item_element i).kind) most)
          (add_element (item_element i) (elements_from most fold 0 (place + length (item_text i)) (used + size (item_element i).kind) (like_text is)))
          (refused too_many_positions place)
          ≡ cond (leb (used + 1) most) (add_element (item_element i) (elements_from most fold 0 (place + length (item_text i)) (used + 1) (like_text is))) (refused too_many_positions place)
      one-position any_bytes = refl
      one-position one_byte = refl
      one-position (plain c) = refl

      go : (b : Bool) → leb (used + 1) most ≡ b → ((place used : ℕ) → used ≤ most → elements_from most fold 0 place used (like_text is) ≡ like_read most place used is)
          → cond b (add_element (item_element i) (elements_from most fold 0 (place + length (item_text i)) (used + 1) (like_text is))) (refused too_many_positions place)
          ≡ like_read most place used (i ∷ is)
      go false q ih =
          let l = nleb→lt (used + 1) most (T-to (sym (ap not q)) tt) in
          let z : most - used ≡ 0 = omega arith in
          sym (ap₂ (λ (b : Bool) (n : ℕ). cond b (refused too_many_positions (place + past_place n (i ∷ is))) (accepted (like_elements (i ∷ is)))) (lt-ltb most (used + suc (length is)) (omega arith)) z
          ∙ ap (refused too_many_positions) (add-zero place))
      go true q ih =
          let l = leb→le (used + 1) most (T-to (sym q) tt) in
          let z : most - used ≡ suc (most - (used + 1)) = omega arith in
          let n : used + 1 + length is ≡ used + suc (length is) = omega arith in
          let there : place + length (item_text i) + past_place (most - (used + 1)) is ≡ place + past_place (suc (most - (used + 1))) (i ∷ is) =
          omega (arith, length-append (item_text i) (like_text (take (most - (used + 1)) is))) in
          ap (add_element (item_element i)) (ih (place + length (item_text i)) (used + 1) l)
          ∙ added_read (item_element i) (ltb most (used + 1 + length is)) (place + length (item_text i) + past_place (most - (used + 1)) is) (like_elements is)
          ∙ ap₂ (λ (m : ℕ) (p : ℕ). cond (ltb most m) (refused too_many_positions p) (accepted (like_elements (i ∷ is)))) n
          (there ∙ ap (λ (k : ℕ). place + past_place k (i ∷ is)) (sym z))

-- as many positions that are not optional as items that must have a byte
like-shortest : (fold : Bool) (is : List LikeItem) → shortest (positions fold (like_elements is)) ≡ singles is
like-shortest fold [] = refl
like-shortest fold (any_bytes ∷ is) = let h = like-shortest fold is in omega arith
like-shortest fold (one_byte ∷ is) = let h = like-shortest fold is in omega arith
like-shortest fold (plain c ∷ is) = let h = like-shortest fold is in omega arith

-- no item is a gap
like-inner : (is : List LikeItem) (ss : List Spelled) → elements_by ss ≡ like_elements is → outer ss ≡ inner
like-inner is ss e = ap₂ either_outer (first is ss e) (last ss is e)
  where
    even : (i : LikeItem) → unequal (item_element i).kind ≡ false
    even any_bytes = refl
    even one_byte = refl
    even (plain c) = refl

    one : (i : LikeItem) (s : Spelled) → s.element ≡ item_element i → cond (unequal s.element.kind) (outer_at s.place) inner ≡ inner
    one i s q = let z : unequal s.element.kind ≡ false = ap (λ (x : Element). unequal x.kind) q ∙ even i in rw z

    first : (is : List LikeItem) (ss : List Spelled) → elements_by ss ≡ like_elements is → first_outer ss ≡ inner
    first is [] e = refl
    first [] (s ∷ ss) e = absurd (cons≢nil e)
    first (i ∷ is) (s ∷ ss) e = one i s (head-eq_of_cons-eq e)

    last : (ss : List Spelled) (is : List LikeItem) → elements_by ss ≡ like_elements is → last_outer ss ≡ inner
    last [] is e = refl
    last (s ∷ ss) is e = go ss is e (last ss)
      where
        go : (ss : List Spelled) (is : List LikeItem) → s.element ∷ elements_by ss ≡ like_elements is → ((is : List LikeItem) → elements_by ss ≡ like_elements is → last_outer ss ≡ inner) → last_outer (s ∷ ss) ≡ inner
        go ss [] e ih = absurd (cons≢nil e)
        go [] (i ∷ is) e ih = one i s (head-eq_of_cons-eq e)
        go (u ∷ us) (i ∷ is) e ih = ih is (tail-eq_of_cons-eq e)

-- "A pattern such as `%` gets the rule's own 8; text past" the limit "gets 2": the checks in their order, whatever the fold flag: no class comes of a pattern.
pub like_parses : (fold : Bool) (is : List LikeItem) → parse fold (like_text is) ≡ like_parsed is
like_parses fold is = ap (outer_checked fold text) stored ∙ by_outer (like_parsed is) refl
  where
    text : List ℕ
    text = like_text is

    by_room : (b : Bool) → or_empty fold text (cond b (refused too_many_positions (past_place position_limit is)) (accepted (like_elements is)))
        ≡ cond b (refused too_many_positions (past_place position_limit is)) (cond (eqb (singles is) 0) (refused admits_empty (length text)) (accepted (like_elements is)))
    by_room true = refl
    by_room false = ap (λ (n : ℕ). cond (eqb n 0) (refused admits_empty (length text)) (accepted (like_elements is))) (like-shortest fold is)

    read : elements_from position_limit fold 0 0 0 text ≡ cond (ltb position_limit (length is)) (refused too_many_positions (past_place position_limit is)) (accepted (like_elements is))
    read = like_read_lem position_limit fold is 0 0 (omega arith) ∙ ap₂ (λ (n : ℕ) (p : ℕ). cond (ltb position_limit n) (refused too_many_positions p) (accepted (like_elements is))) (zero-add (length is)) (zero-add (past_place position_limit is))

    stored : parse_stored fold text ≡ like_parsed is
    stored =
        ap (λ (p : Parsed). cond (eqb (length text) 0) (refused rule_empty 0) (cond (ltb rule_limit (length text)) (refused rule_long rule_limit) p))
        (ap (or_empty fold text) read ∙ by_room (ltb position_limit (length is)))

    -- a text that is read to its end is read as these elements
    elements_are : (b : Bool) (es : List Element) → cond b (refused too_many_positions (past_place position_limit is)) (accepted (like_elements is)) ≡ accepted es → es ≡ like_elements is
    elements_are true es e = not_refused e
    elements_are false es e = sym (accepted_inj e)

    by_outer : (p : Parsed) → like_parsed is ≡ p → outer_checked fold text p ≡ p
    by_outer (refused n p) q = refl
    by_outer (accepted es) q =
        let reads = (parsed_ok rule_limit position_limit fold text es (stored ∙ q)).reads in
        let els = elements_are (ltb position_limit (length is)) es (sym read ∙ reads) in
        ap (or_outer es) (like-inner is (spelled fold text) ((stored-spelled fold text es (stored ∙ q)).elements ∙ els))
