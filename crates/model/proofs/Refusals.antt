-- A stored rule is refused by one of the numbers 1 to 8, a new one by these or 16, so that 0 is free for a finished result. For any limits. Assumes nothing.
use mathlib.Core.Path.{◌≡◌, refl, ◌∙◌}
use mathlib.Core.Logic.{◌⊎◌, inl, inr}
use mathlib.Core.Bool.{Bool, true, false, cond, ◌&&◌}
use mathlib.Core.List.{List, [], ◌∷◌}
use Prim.Native.Nat.{ℕ, zero, suc, pred, ◌+◌, ◌≤◌}
use native.Mathlib.Omega.{arith}
use lib.Dec.{leb, ltb, eqb}
use lib.ListN.{length, drop}
use Rattle.model.specs.RefusalNumbers.{rule_empty, rule_long, class_fault, gap_fault, mark_fault, byte_fault, admits_empty, outer_gap}
use Rattle.model.specs.Ascii.{byte_of, ascii}
use Rattle.model.specs.Occurrence.{shortest}
use Rattle.model.specs.Spelling.{Outer, inner, outer_at, outer, spelled}
use Rattle.model.specs.RuleText.{rule_limit, position_limit, one_of, may_escape, byte, any, class, gap, Element, kind_set, positions, size, ReadKind, bad, good, Items, faulty, items, items_from, some_below, class_of, class_at, bound_at, starts_with, gap_at, escape_at, kind_at, often_after, mark_bytes}
use Rattle.model.specs.NumberedAnswers.{Parsed, refused, accepted, add_element, elements_from, or_empty, parse_within, parse_stored, or_outer, outer_checked, parse}
use Rattle.model.proofs.Accepted.{elements-bad, elements-over, elements-good}

-- What is read is refused, if at all, by a row of the table.
abbrev Row : ℕ → Type 0
Row n = (rule_empty ≤ n) × (n ≤ admits_empty)

abbrev KindRow : ReadKind → Type 0
KindRow (bad n) = Row n
KindRow (good k n) = Unit {0}

abbrev RuleRow : Parsed → Type 0
RuleRow (refused n p) = Row n
RuleRow (accepted es) = Unit {0}

either_kind : (b : Bool) (x y : ReadKind) → KindRow x → KindRow y → KindRow (cond b x y)
either_kind true x y h g = h
either_kind false x y h g = g

either_rule : (b : Bool) (x y : Parsed) → RuleRow x → RuleRow y → RuleRow (cond b x y)
either_rule true x y h g = h
either_rule false x y h g = g

class-row : (fold t : Bool) (x : Items) → KindRow (class_of fold t x)
class-row fold t faulty = (omega arith, omega arith)
class-row fold t (items [] n) = (omega arith, omega arith)
class-row fold t (items (r ∷ rs) n) = either_kind (some_below (kind_set fold (class t (r ∷ rs))) 256) (good (class t (r ∷ rs)) n) (bad class_fault) tt (omega arith, omega arith)

bracket_row : (fold : Bool) (cs : List ℕ) → KindRow (class_at fold cs)
bracket_row fold [] = (omega arith, omega arith)
bracket_row fold (c ∷ cs) =
    either_kind (eqb c (byte_of "^")) (class_of fold true (items_from 0 2 cs)) (class_of fold false (items_from 0 1 (c ∷ cs)))
    (class-row fold true (items_from 0 2 cs)) (class-row fold false (items_from 0 1 (c ∷ cs)))

gap_row : (cs : List ℕ) → KindRow (gap_at cs)
gap_row cs =
    let a = bound_at cs in
    let after_a = drop a.bytes cs in
    let b = bound_at (drop 1 after_a) in
    let after-b = drop (1 + b.bytes) after_a in
    either_kind (leb 1 a.bytes && starts_with (byte_of ",") after_a && leb 1 b.bytes && starts_with (byte_of "}") after-b && leb a.value b.value && leb 1 b.value)
    (good (gap a.value b.value) (a.bytes + b.bytes + 3)) (bad gap_fault) tt (omega arith, omega arith)

escape_row : (cs : List ℕ) → KindRow (escape_at cs)
escape_row [] = (omega arith, omega arith)
escape_row (c ∷ cs) = either_kind (may_escape c) (good (byte c) 2) (bad byte_fault) tt (omega arith, omega arith)

kind_row : (fold : Bool) (cs : List ℕ) → KindRow (kind_at fold cs)
kind_row fold [] = (omega arith, omega arith)
kind_row fold (c ∷ cs) =
    either_kind (eqb c (byte_of ".")) (good any 1) _ tt
    (either_kind (eqb c (byte_of "[")) (class_at fold cs) _ (bracket_row fold cs)
    (either_kind (eqb c (byte_of "{")) (gap_at cs) _ (gap_row cs)
    (either_kind (eqb c (byte_of "\\")) (escape_at cs) _ (escape_row cs)
    (either_kind (one_of (ascii "?+*") c) (bad mark_fault) _ (omega arith, omega arith)
    (either_kind (one_of (ascii "]}") c) (bad byte_fault) (good (byte c) 1) (omega arith, omega arith) tt)))))

added-row : (e : Element) (x : Parsed) → RuleRow x → RuleRow (add_element e x)
added-row e (refused n p) h = h
added-row e (accepted es) h = tt

module _ (most : ℕ) (fold : Bool) where
  elements-row : (cs : List ℕ) (skip place used : ℕ) → RuleRow (elements_from most fold skip place used cs)
  elements-row [] skip place used = tt
  elements-row (c ∷ cs) (suc k) place used = elements-row cs k (suc place) used
  elements-row (c ∷ cs) zero place used = go (kind_at fold (c ∷ cs)) refl (kind_row fold (c ∷ cs)) (elements-row cs)
    where
      go : (x : ReadKind) → kind_at fold (c ∷ cs) ≡ x → KindRow (kind_at fold (c ∷ cs)) → ((skip place used : ℕ) → RuleRow (elements_from most fold skip place used cs)) → RuleRow (elements_from most fold 0 place used (c ∷ cs))
      go (bad n) q h ih = rw (elements-bad most fold c cs place used n q) (rw q at h)
      go (good d n) q h ih = room (leb (used + size d) most) refl
        where
          room : (b : Bool) → leb (used + size d) most ≡ b → RuleRow (elements_from most fold 0 place used (c ∷ cs))
          room false b = rw (elements-over most fold c cs place used n d q b) (omega arith, omega arith)
          room true b =
              let o = often_after d (drop n (c ∷ cs)) in
              rw (elements-good most fold c cs place used n d q b)
              (added-row (record { kind = d; often = o }) (elements_from most fold (pred n + mark_bytes o) (suc place) (used + size d) cs) (ih (pred n + mark_bytes o) (suc place) (used + size d)))

  rule-row : (longest : ℕ) (rule : List ℕ) → RuleRow (parse_within longest most fold rule)
  rule-row longest rule =
      either_rule (eqb (length rule) 0) (refused rule_empty 0) _ (omega arith, omega arith)
      (either_rule (ltb longest (length rule)) (refused rule_long longest) _ (omega arith, omega arith)
      (go (elements_from most fold 0 0 0 rule) (elements-row rule 0 0 0)))
    where
      go : (x : Parsed) → RuleRow x → RuleRow (or_empty fold rule x)
      go (refused n p) h = h
      go (accepted es) h = either_rule (eqb (shortest (positions fold es)) 0) (refused admits_empty (length rule)) (accepted es) (omega arith, omega arith) tt

  pub refusal-row : (longest : ℕ) (rule : List ℕ) (n p : ℕ) → parse_within longest most fold rule ≡ refused n p → (rule_empty ≤ n) × (n ≤ admits_empty)
  refusal-row longest rule n p q = rw q at (rule-row longest rule)

-- A refusal of a rule: one of rows 1 to 8, or 16.
abbrev pub RuleNumber : ℕ → Type 0
RuleNumber n = ((rule_empty ≤ n) × (n ≤ admits_empty)) ⊎ (n ≡ outer_gap)

pub rule-refusal : (fold : Bool) (rule : List ℕ) (n p : ℕ) → parse fold rule ≡ refused n p → RuleNumber n
rule-refusal fold rule n p e = go (parse_stored fold rule) refl e
  where
    by_outer : (es : List Element) (o : Outer) → or_outer es o ≡ refused n p → RuleNumber n
    by_outer es inner q = let z : ◌≡◌ {A = ℕ} 0 1 = cc in absurd (omega arith)
    by_outer es (outer_at k) q = inr cc

    go : (x : Parsed) → parse_stored fold rule ≡ x → outer_checked fold rule x ≡ refused n p → RuleNumber n
    go (refused m k) q r = inl (refusal-row position_limit fold rule_limit rule n p (q ∙ r))
    go (accepted es) q r = by_outer es (outer (spelled fold rule)) r
