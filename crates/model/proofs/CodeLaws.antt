-- Row 15, part by part, as code reads it: a set that holds a code, a position that holds codes alone, no codes, that eight codes leave some byte, and the numbers of
-- refusals. Assumes nothing.
use mathlib.Core.Path.{◌≡◌, refl, sym, ap, subst, ◌∙◌}
use mathlib.Core.Bool.{Bool, true, false, not, cond, ◌&&◌, ◌||◌}
use mathlib.Core.Logic.{◌⊎◌, inl, inr}
use mathlib.Core.List.{List, [], ◌∷◌, ◌++◌}
use Prim.Native.Nat.{ℕ, zero, suc, ◌+◌, ◌≤◌, ◌<◌}
use native.Mathlib.Omega.{arith}
use lib.Dec.{T, eqb, eqb→eq, eqb_refl, ltb→lt}
use lib.ListN.{length, replicate}
use Rattle.model.specs.RefusalNumbers.{codes_fault}
use Rattle.model.specs.Occurrence.{Position, all, one_if}
use Rattle.model.specs.RuleText.{one_of, is_byte, some_below, Element, positions}
use Rattle.model.specs.NumberedAnswers.{Parsed, refused, accepted, parse, positions_by, rule_positions}
use Rattle.model.specs.WindowSearch.{EachSet, Inhabited}
use Rattle.model.specs.Codes.{share, in_set, codes_alone, codes_refused, or_codes, parse_with, smudged}
use Rattle.model.proofs.Truth.{and_intro, and_left, and_right, or_cases, or_left, or_right, T-to, T_true, T_false, same_test, or_false_left, or_false_right}
use Rattle.model.proofs.Below.{some_into, some_out}
use Rattle.model.proofs.Accepted.{rule_ok}
use Rattle.model.proofs.Refusals.{RuleNumber, rule-refusal}
use Rattle.model.proofs.Moves.{OfBytes, rule-sets}
use Rattle.model.proofs.Fitting.{fitting-none}

-- ---- "a set .. holds a code": some code is in it

abbrev pub holds_one : (s : ℕ → Bool) → List ℕ → Bool
holds_one s [] = false
holds_one s (c ∷ cs) = s c || holds_one s cs

holds_into : (s : ℕ → Bool) (codes : List ℕ) → T (holds_one s codes) → (x : ℕ) × T (s x) × T (one_of codes x)
holds_into s [] t = absurd t
holds_into s (c ∷ cs) t = go (or_cases (s c) (holds_one s cs) t) (holds_into s cs)
  where
    go : T (s c) ⊎ T (holds_one s cs) → (T (holds_one s cs) → (x : ℕ) × T (s x) × T (one_of cs x)) → (x : ℕ) × T (s x) × T (one_of (c ∷ cs) x)
    go (inl h) ih = (c, h, or_left (eqb c c) (one_of cs c) (eqb_refl c))
    go (inr h) ih = let r = ih h in (r.0, r.1, or_right (eqb r.0 c) (one_of cs r.0) r.2)

holds_out : (s : ℕ → Bool) (codes : List ℕ) (x : ℕ) → T (s x) → T (one_of codes x) → T (holds_one s codes)
holds_out s [] x t o = absurd o
holds_out s (c ∷ cs) x t o = go (or_cases (eqb x c) (one_of cs x) o) (holds_out s cs x t)
  where
    go : T (eqb x c) ⊎ T (one_of cs x) → (T (one_of cs x) → T (holds_one s cs)) → T (s c || holds_one s cs)
    go (inl e) ih = or_left (s c) (holds_one s cs) (subst (λ (k : ℕ). T (s k)) (eqb→eq x c e) t)
    go (inr h) ih = or_right (s c) (holds_one s cs) (ih h)

pub holds-code : (set codes : List ℕ) → share (in_set set) (one_of codes) ≡ holds_one (in_set set) codes
holds-code set codes = same_test _ _ (to, from)
  where
    to : T (share (in_set set) (one_of codes)) → T (holds_one (in_set set) codes)
    to t = let r = some_into (λ x. in_set set x && one_of codes x) 256 t in let x = r.0 in holds_out (in_set set) codes x (and_left (in_set set x) (one_of codes x) r.2) (and_right (in_set set x) (one_of codes x) r.2)

    from : T (holds_one (in_set set) codes) → T (share (in_set set) (one_of codes))
    from t =
        let r = holds_into (in_set set) codes t in
        let x = r.0 in
        some_out (λ x. in_set set x && one_of codes x) 256 x (ltb→lt x 256 (and_left (is_byte x) _ r.1)) (and_intro (in_set set x) (one_of codes x) r.1 r.2)

-- ---- "a position holds codes alone", element by element

pub alone-append : (codes : List ℕ) (ps qs : List Position) → codes_alone codes (ps ++ qs) ≡ (codes_alone codes ps || codes_alone codes qs)
alone-append codes [] qs = refl
alone-append codes (p ∷ ps) qs = go (not (share p.set (λ x. not (one_of codes x)))) (alone-append codes ps qs)
  where
    go : (b : Bool) → codes_alone codes (ps ++ qs) ≡ (codes_alone codes ps || codes_alone codes qs) → (b || codes_alone codes (ps ++ qs)) ≡ ((b || codes_alone codes ps) || codes_alone codes qs)
    go true ih = refl
    go false ih = ih

pub alone-replicate : (codes : List ℕ) (p : Position) (n : ℕ) → not (share p.set (λ x. not (one_of codes x))) ≡ false → codes_alone codes (replicate n p) ≡ false
alone-replicate codes p zero e = refl
alone-replicate codes p (suc n) e = rw e (alone-replicate codes p n e)

-- ---- eight codes leave a byte

-- how many numbers below n a set has
abbrev count : (ℕ → Bool) → ℕ → ℕ
count s zero = 0
count s (suc n) = one_if (s n) + count s n

count_or : (s t : ℕ → Bool) (n : ℕ) → count (λ x. s x || t x) n ≤ count s n + count t n
count_or s t zero = omega arith
count_or s t (suc n) = go (s n) (t n) (count_or s t n)
  where
    go : (a b : Bool) → count (λ x. s x || t x) n ≤ count s n + count t n → one_if (a || b) + count (λ x. s x || t x) n ≤ (one_if a + count s n) + (one_if b + count t n)
    go true true h = omega arith
    go true false h = omega arith
    go false true h = omega arith
    go false false h = omega arith

count_past : (c n : ℕ) → n ≤ c → count (λ x. eqb x c) n ≡ 0
count_past c zero l = refl
count_past c (suc n) l =
    let e : eqb n c ≡ false = T_false (eqb n c) (λ t. let q = eqb→eq n c t in absurd (omega arith)) in
    let h = count_past c n (omega arith) in
    rw e (omega arith)

count-one : (c n : ℕ) → count (λ x. eqb x c) n ≤ 1
count-one c zero = omega arith
count-one c (suc n) = go (eqb n c) refl (count-one c n)
  where
    go : (b : Bool) → eqb n c ≡ b → count (λ x. eqb x c) n ≤ 1 → one_if b + count (λ x. eqb x c) n ≤ 1
    go true q h = let e = eqb→eq n c (T-to (sym q) tt) in let z = count_past c n (omega arith) in omega arith
    go false q h = omega arith

count_codes : (codes : List ℕ) (n : ℕ) → count (one_of codes) n ≤ length codes
count_codes [] n = let z = none n in omega arith
  where
    none : (n : ℕ) → count (one_of []) n ≡ 0
    none zero = refl
    none (suc n) = let h = none n in omega arith
count_codes (c ∷ cs) n =
    let a = count_or (λ x. eqb x c) (one_of cs) n in
    let b = count-one c n in
    let d = count_codes cs n in
    omega arith

count-all : (s : ℕ → Bool) (n : ℕ) → some_below (λ x. not (s x)) n ≡ false → count s n ≡ n
count-all s zero e = refl
count-all s (suc n) e = go (s n) (or_false_left (not (s n)) (some_below (λ x. not (s x)) n) e) (count-all s n (or_false_right (not (s n)) (some_below (λ x. not (s x)) n) e))
  where
    go : (b : Bool) → not b ≡ false → count s n ≡ n → one_if b + count s n ≡ suc n
    go true q h = omega arith
    go false q h = absurd (T-to q tt)

pub codes_leave_one : (codes : List ℕ) (n : ℕ) → length codes < n → some_below (λ x. not (one_of codes x)) n ≡ true
codes_leave_one codes n l = go (some_below (λ x. not (one_of codes x)) n) refl
  where
    go : (b : Bool) → some_below (λ x. not (one_of codes x)) n ≡ b → b ≡ true
    go true q = refl
    go false q = let a = count-all (one_of codes) n q in let b = count_codes codes n in absurd (omega arith)

-- ---- no codes: nothing changes

none-alone : (ps : List Position) → Inhabited ps → EachSet OfBytes ps → codes_alone [] ps ≡ false
none-alone [] h b = refl
none-alone (p ∷ ps) h b =
    let x = h.0.0 in
    let t = h.0.1 in
    let s : share p.set (λ x. true) ≡ true = T_true _ (some_out (λ x. p.set x && true) 256 x (ltb→lt x 256 (b.0 x t)) (and_intro (p.set x) true t tt)) in
    rw s (none-alone ps h.1 b.1)

module _ (fold : Bool) (rule : List ℕ) (bytes : T (all is_byte rule)) where
  pub no_codes_alone : (es : List Element) → parse fold rule ≡ accepted es → codes_alone [] (rule_positions fold rule) ≡ false
  no_codes_alone es e = none-alone (rule_positions fold rule) (rule_ok fold rule es bytes e).inhabited (subst (λ (p : Parsed). EachSet OfBytes (positions_by fold p)) (sym e) (rule-sets fold es))

  -- "A caller may name up to 8 such codes": one who names none gets the answers of before.
  pub no_codes_parse : parse_with fold rule [] [] ≡ parse fold rule
  no_codes_parse = go (parse fold rule) refl
    where
      go : (p : Parsed) → parse fold rule ≡ p → or_codes fold [] [] p ≡ p
      go (refused n p) q = refl
      go (accepted es) q = rw (sym (ap (λ (p : Parsed). codes_alone [] (positions_by fold p)) q) ∙ no_codes_alone es q)

pub no_codes_positions : (fold : Bool) (rule : List ℕ) → smudged fold rule [] [] ≡ rule_positions fold rule
no_codes_positions fold rule = fitting-none (rule_positions fold rule)

-- ---- a refusal of a rule with codes is the rule's, or 15 at place 0

pub coded_refusal : (fold : Bool) (rule codes sets : List ℕ) (n p : ℕ) → parse_with fold rule codes sets ≡ refused n p → RuleNumber n ⊎ ((n ≡ codes_fault) × (p ≡ 0))
coded_refusal fold rule codes sets n p e = go (parse fold rule) refl e
  where
    clash : {A : Type 0} {es : List Element} {n p : ℕ} → accepted es ≡ refused n p → A
    clash q = let y : ◌≡◌ {A = ℕ} 0 1 = cc in absurd (omega arith)

    by : (es : List Element) (b : Bool) → cond b (refused codes_fault 0) (accepted es) ≡ refused n p → RuleNumber n ⊎ ((n ≡ codes_fault) × (p ≡ 0))
    by es true q = inr (cc, cc)
    by es false q = clash q

    go : (x : Parsed) → parse fold rule ≡ x → or_codes fold codes sets x ≡ refused n p → RuleNumber n ⊎ ((n ≡ codes_fault) × (p ≡ 0))
    go (refused m q) r e = inl (rule-refusal fold rule n p (r ∙ e))
    go (accepted es) r e = by es (codes_refused codes sets (positions fold es)) e
