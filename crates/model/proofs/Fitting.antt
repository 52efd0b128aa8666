-- What fits a position is settled by whether the byte is a code; an accepted list of codes leaves every position some byte, so that every law over
-- positions holds of the positions read by fit; and an occurrence by fit is an occurrence of some plain reading, each place by itself. Assumes nothing.
use mathlib.Core.Path.{◌≡◌, refl, sym, ap, subst, ◌∙◌}
use mathlib.Core.Bool.{Bool, true, false, not, cond, ◌&&◌}
use mathlib.Core.Logic.{◌↔◌}
use mathlib.Core.List.{List, [], ◌∷◌, ◌++◌, reverse, reverse-cons, nil≢cons, tail-eq_of_cons-eq, head-eq_of_cons-eq}
use Prim.Native.Nat.{ℕ, zero, suc, ◌+◌, ◌*◌, ◌<◌}
use native.Mathlib.Nat.{le_of_suc-le-suc, not-suc-le-zero, add_comm}
use native.Mathlib.Omega.{arith}
use lib.Dec.{T, eqb, eqb→eq, eqb_refl, ltb→lt}
use lib.ListN.{length, take, drop, get_or, replicate}
use lib.Seq.{drop-drop}
use Rattle.model.specs.Occurrence.{Position, all, Share, one, empty, longer, Occurs, done, next, shortest, one_if, is_share}
use Rattle.model.specs.RuleText.{one_of, is_byte, Element, positions, position_limit}
use Rattle.model.specs.NumberedAnswers.{Parsed, refused, accepted, parse, positions_by, rule_positions}
use Rattle.model.specs.WindowSearch.{EachSet, Inhabited, shift, LargestMove}
use Rattle.model.specs.Codes.{set_bytes, Code, in_set, codes_of, share, fits, fitting_one, fitting, smudged, reads, Reading, none, also, named_twice, codes_wrong, codes_alone, codes_refused, or_codes, parse_with}
use Rattle.model.proofs.Truth.{and_intro, and_left, and_right, T-to, T_true, T_false, branch, or_false_left, or_false_right}
use Rattle.model.proofs.Below.{some_into, some_out}
use Rattle.model.proofs.Shares.{occurs-to, occurs_nil, occurs-first}
use Rattle.model.proofs.Decided.{share-decided}
use Rattle.model.proofs.Accepted.{RuleOk, rule_ok}
use Rattle.model.proofs.Moves.{OfBytes, rule-sets, shift-largest}

-- ---- a byte that is no code fits when it is in the set

pub fits-plain : (codes sets : List ℕ) (s : ℕ → Bool) (c : ℕ) → one_of codes c ≡ false → fits (codes_of codes sets) s c ≡ s c
fits-plain [] sets s c e = refl
fits-plain (k ∷ ks) sets s c e =
    let n : eqb c k ≡ false = or_false_left (eqb c k) (one_of ks c) e in
    rw n (fits-plain ks (drop set_bytes sets) s c (or_false_right (eqb c k) (one_of ks c) e))

-- A code fits when its set and the position's share a byte: the k-th code and the k-th 32 bytes of the sets.
pub fits-code : (codes sets : List ℕ) (s : ℕ → Bool) (k : ℕ) → k < length codes → named_twice codes ≡ false
    → fits (codes_of codes sets) s (get_or codes k 0) ≡ share (in_set (take set_bytes (drop (set_bytes * k) sets))) s
fits-code [] sets s k l e = absurd (not-suc-le-zero l)
fits-code (c ∷ cs) sets s zero l e = rw (T_true (eqb c c) (eqb_refl c))
fits-code (c ∷ cs) sets s (suc k) l e =
    let n : eqb (get_or cs k 0) c ≡ false = other cs k (le_of_suc-le-suc l) (or_false_left (one_of cs c) (named_twice cs) e) in
    let z : set_bytes * suc k ≡ set_bytes * k + set_bytes = omega arith in
    let d : drop (set_bytes * suc k) sets ≡ drop (set_bytes * k) (drop set_bytes sets) = ap (λ (i : ℕ). drop i sets) (z ∙ add_comm (set_bytes * k) set_bytes) ∙ sym (drop-drop (set_bytes * k) set_bytes sets) in
    rw n (fits-code cs (drop set_bytes sets) s k (le_of_suc-le-suc l) (or_false_right (one_of cs c) (named_twice cs) e)) ∙ ap (λ (l : List ℕ). share (in_set (take set_bytes l)) s) (sym d)
  where
    other : (cs : List ℕ) (k : ℕ) → k < length cs → one_of cs c ≡ false → eqb (get_or cs k 0) c ≡ false
    other [] k l e = absurd (not-suc-le-zero l)
    other (d ∷ cs) zero l e = T_false (eqb d c) (λ t. T-to (or_false_left (eqb c d) (one_of cs c) e) (subst (λ (x : ℕ). T (eqb c x)) (sym (eqb→eq d c t)) (eqb_refl c)))
    other (d ∷ cs) (suc k) l e = other cs k (le_of_suc-le-suc l) (or_false_right (eqb c d) (one_of cs c) e)

-- No codes: nothing changes.
pub fitting-none : (ps : List Position) → fitting [] ps ≡ ps
fitting-none [] = refl
fitting-none (p ∷ ps) = ap (λ (l : List Position). p ∷ l) (fitting-none ps)

-- ---- what stays: the number of positions, the shortest length

pub fitting-length : (ks : List Code) (ps : List Position) → length (fitting ks ps) ≡ length ps
fitting-length ks [] = refl
fitting-length ks (p ∷ ps) = ap suc (fitting-length ks ps)

pub fitting-shortest : (ks : List Code) (ps : List Position) → shortest (fitting ks ps) ≡ shortest ps
fitting-shortest ks [] = refl
fitting-shortest ks (p ∷ ps) = ap (λ (n : ℕ). one_if (not p.optional) + n) (fitting-shortest ks ps)

pub fitting-replicate : (ks : List Code) (n : ℕ) (p : Position) → fitting ks (replicate n p) ≡ replicate n (fitting_one ks p)
fitting-replicate ks zero p = refl
fitting-replicate ks (suc n) p = ap (λ (l : List Position). fitting_one ks p ∷ l) (fitting-replicate ks n p)

pub fitting-append : (ks : List Code) (ps qs : List Position) → fitting ks (ps ++ qs) ≡ fitting ks ps ++ fitting ks qs
fitting-append ks [] qs = refl
fitting-append ks (p ∷ ps) qs = ap (λ (l : List Position). fitting_one ks p ∷ l) (fitting-append ks ps qs)

-- The window search reads the positions backwards.
pub fitting-reverse : (ks : List Code) (ps : List Position) → fitting ks (reverse ps) ≡ reverse (fitting ks ps)
fitting-reverse ks [] = refl
fitting-reverse ks (p ∷ ps) =
    ap (fitting ks) (reverse-cons p ps) ∙ fitting-append ks (reverse ps) (p ∷ []) ∙ ap (λ (l : List Position). l ++ (fitting_one ks p ∷ [])) (fitting-reverse ks ps)
    ∙ sym (reverse-cons (fitting_one ks p) (fitting ks ps))

-- ---- every position keeps a byte

not_T : (b : Bool) → T (not b) → b ≡ false
not_T true t = absurd t
not_T false t = refl

pub fitting-inhabited : (codes sets : List ℕ) (ps : List Position) → codes_alone codes ps ≡ false → Inhabited (fitting (codes_of codes sets) ps)
fitting-inhabited codes sets [] e = tt
fitting-inhabited codes sets (p ∷ ps) e =
    let some = share p.set (λ x. not (one_of codes x)) in
    let h : T some = has some (or_false_left (not some) (codes_alone codes ps) e) in
    let r = some_into (λ x. p.set x && not (one_of codes x)) 256 h in
    let x = r.0 in
    let n : one_of codes x ≡ false = not_T (one_of codes x) (and_right (p.set x) (not (one_of codes x)) r.2) in
    ((x, T-to (sym (fits-plain codes sets p.set x n)) (and_left (p.set x) (not (one_of codes x)) r.2)), fitting-inhabited codes sets ps (or_false_right (not some) (codes_alone codes ps) e))
  where
    has : (b : Bool) → not b ≡ false → T b
    has true q = tt
    has false q = absurd (T-to q tt)

-- ---- the positions admit bytes alone, where the codes are bytes

fits_byte : (codes sets : List ℕ) (s : ℕ → Bool) → T (all is_byte codes) → OfBytes s → OfBytes (fits (codes_of codes sets) s)
fits_byte [] sets s b h c t = h c t
fits_byte (k ∷ ks) sets s b h c t = go (eqb c k) refl (fits_byte ks (drop set_bytes sets) s (and_right (is_byte k) (all is_byte ks) b) h c)
  where
    go : (x : Bool) → eqb c k ≡ x → (T (fits (codes_of ks (drop set_bytes sets)) s c) → T (is_byte c)) → T (is_byte c)
    go true q ih = subst (λ (n : ℕ). T (is_byte n)) (sym (eqb→eq c k (T-to (sym q) tt))) (and_left (is_byte k) (all is_byte ks) b)
    go false q ih = ih (T-to (ap (λ (x : Bool). cond x (share (in_set (take set_bytes sets)) s) (fits (codes_of ks (drop set_bytes sets)) s c)) q) t)

pub fitting-bytes : (codes sets : List ℕ) (ps : List Position) → T (all is_byte codes) → EachSet OfBytes ps → EachSet OfBytes (fitting (codes_of codes sets) ps)
fitting-bytes codes sets [] b h = tt
fitting-bytes codes sets (p ∷ ps) b h = (fits_byte codes sets p.set b h.0, fitting-bytes codes sets ps b h.1)

-- ---- an accepted rule with accepted codes

module _ (fold : Bool) (rule codes sets : List ℕ) (es : List Element) (bytes : T (all is_byte rule)) (ok : parse_with fold rule codes sets ≡ accepted es) where
  pub record SmudgedOk : Type 0 where
    pub parses : parse fold rule ≡ accepted es
    pub codes_fine : codes_wrong codes sets ≡ false
    pub none-alone : codes_alone codes (rule_positions fold rule) ≡ false
    pub rule-is : RuleOk position_limit (smudged fold rule codes sets)

  pub smudged_ok : SmudgedOk
  smudged_ok = go (parse fold rule) refl ok
    where
      not_refused : {A : Type 0} {m p : ℕ} {es : List Element} → refused m p ≡ accepted es → A
      not_refused e = let z : ◌≡◌ {A = ℕ} 0 1 = cc in absurd (omega arith)

      go : (p : Parsed) → parse fold rule ≡ p → or_codes fold codes sets p ≡ accepted es → SmudgedOk
      go (refused n p) q e = not_refused e
      go (accepted fs) q e =
          branch (codes_refused codes sets (positions fold fs)) e (λ t r. not_refused r) λ t r.
          let same : fs ≡ es = cc in
          let is : parse fold rule ≡ accepted es = q ∙ r in
          let ps : rule_positions fold rule ≡ positions fold fs = ap (positions_by fold) q in
          let n : codes_refused codes sets (positions fold fs) ≡ false = not_T (codes_refused codes sets (positions fold fs)) t in
          let a : codes_alone codes (rule_positions fold rule) ≡ false = ap (codes_alone codes) ps ∙ or_false_right (codes_wrong codes sets) (codes_alone codes (positions fold fs)) n in
          let k = rule_ok fold rule es bytes is in
          let k₁ = k.some in
          let k₂ = k.few in
          let k₃ = k.not_empty in
          record {
            parses = is;
            codes_fine = or_false_left (codes_wrong codes sets) (codes_alone codes (positions fold fs)) n;
            none-alone = a;
            rule-is = record {
              inhabited = fitting-inhabited codes sets (rule_positions fold rule) a;
              some = rw fitting-length k.some;
              few = rw fitting-length k.few;
              not_empty = rw fitting-shortest k.not_empty;
            };
          }

  pub smudged-bytes : T (all is_byte codes) → EachSet OfBytes (smudged fold rule codes sets)
  smudged-bytes b =
      fitting-bytes codes sets (rule_positions fold rule) b
      (subst (λ (p : Parsed). EachSet OfBytes (positions_by fold p)) (sym smudged_ok.parses) (rule-sets fold es))

  -- "shifts and the largest-move promise read fit in this way" (note 5, with codes)
  pub smudged-shift-largest : T (all is_byte codes) → (window : List ℕ) → T (all is_byte window) → length window ≡ shortest (smudged fold rule codes sets)
      → LargestMove (smudged fold rule codes sets) window (shift (smudged fold rule codes sets) window)
  smudged-shift-largest b window h n =
      let k = smudged_ok.rule-is in
      shift-largest (smudged fold rule codes sets) k.inhabited k.not_empty (smudged-bytes b) window n h

-- ---- an occurrence by fit is an occurrence of some plain reading

fits-reads : (ks : List Code) (s : ℕ → Bool) (c : ℕ) → T (fits ks s c) → (x : ℕ) × T (reads ks c x) × T (s x)
fits-reads [] s c t = (c, eqb_refl c, t)
fits-reads (k ∷ ks) s c t = go (eqb c k.byte) t (fits-reads ks s c)
  where
    go : (b : Bool) → T (cond b (share (in_set k.set) s) (fits ks s c)) → (T (fits ks s c) → (x : ℕ) × T (reads ks c x) × T (s x)) → (x : ℕ) × T (cond b (in_set k.set x) (reads ks c x)) × T (s x)
    go true t ih = let r = some_into (λ x. in_set k.set x && s x) 256 t in (r.0, and_left (in_set k.set r.0) (s r.0) r.2, and_right (in_set k.set r.0) (s r.0) r.2)
    go false t ih = ih t

reads-fits : (ks : List Code) (s : ℕ → Bool) (c x : ℕ) → T (reads ks c x) → T (s x) → T (fits ks s c)
reads-fits [] s c x r t = subst (λ (y : ℕ). T (s y)) (eqb→eq x c r) t
reads-fits (k ∷ ks) s c x r t = go (eqb c k.byte) r (reads-fits ks s c x)
  where
    go : (b : Bool) → T (cond b (in_set k.set x) (reads ks c x)) → (T (reads ks c x) → T (s x) → T (fits ks s c)) → T (cond b (share (in_set k.set) s) (fits ks s c))
    go true r ih = some_out (λ x. in_set k.set x && s x) 256 x (ltb→lt x 256 (and_left (is_byte x) _ r)) (and_intro (in_set k.set x) (s x) r t)
    go false r ih = ih r t

module _ (ks : List Code) where
  reading-append : {us xs vs ys : List ℕ} → Reading ks us xs → Reading ks vs ys → Reading ks (us ++ vs) (xs ++ ys)
  reading-append none r = r
  reading-append (also t q) r = also t (reading-append q r)

  -- the two parts that give a reading's two parts
  pub record Parts (cs xs ys : List ℕ) : Type 0 where
    pub front : List ℕ
    pub back : List ℕ
    pub joined : cs ≡ front ++ back
    pub front_reads : Reading ks front xs
    pub back-reads : Reading ks back ys

  reading_cut : (xs ys : List ℕ) {cs zs : List ℕ} → Reading ks cs zs → zs ≡ xs ++ ys → Parts cs xs ys
  reading_cut [] ys {cs} {zs} r e = record { front = []; back = cs; joined = refl; front_reads = none; back-reads = subst (λ (l : List ℕ). Reading ks cs l) e r }
  reading_cut (x ∷ xs) ys none e = absurd (nil≢cons e)
  reading_cut (x ∷ xs) ys (also {c = c} {cs = cs} t r) e =
      let p = reading_cut xs ys r (tail-eq_of_cons-eq e) in
      let j = p.joined in
      record {
        front = c ∷ p.front;
        back = p.back;
        joined = ap (λ (l : List ℕ). c ∷ l) j;
        front_reads = also (subst (λ (y : ℕ). T (reads ks c y)) (head-eq_of_cons-eq e) t) p.front_reads;
        back-reads = p.back-reads;
      }

  all-reads : (s : ℕ → Bool) (cs : List ℕ) → T (all (fits ks s) cs) → (xs : List ℕ) × Reading ks cs xs × T (all s xs)
  all-reads s [] t = ([], none, tt)
  all-reads s (c ∷ cs) t =
      let a = fits-reads ks s c (and_left (fits ks s c) (all (fits ks s) cs) t) in
      let b = all-reads s cs (and_right (fits ks s c) (all (fits ks s) cs) t) in
      (a.0 ∷ b.0, also a.1 b.1, and_intro (s a.0) (all s b.0) a.2 b.2)

  reads_all : (s : ℕ → Bool) {cs xs : List ℕ} → Reading ks cs xs → T (all s xs) → T (all (fits ks s) cs)
  reads_all s none t = tt
  reads_all s (also {c = c} {x = x} {cs = cs} {xs = xs} h r) t =
      and_intro (fits ks s c) (all (fits ks s) cs) (reads-fits ks s c x h (and_left (s x) (all s xs) t)) (reads_all s r (and_right (s x) (all s xs) t))

  share-reads : (p : Position) {cs : List ℕ} → Share (fitting_one ks p) cs → (xs : List ℕ) × Reading ks cs xs × Share p xs
  share-reads p (one {c = c} t) = let a = fits-reads ks p.set c t in (a.0 ∷ [], also a.1 none, one a.2)
  share-reads p (empty t) = ([], none, empty t)
  share-reads p (longer {c = c} {cs = cs} r t k) =
      let a = fits-reads ks p.set c t in
      let b = all-reads p.set cs k in
      (a.0 ∷ b.0, also a.1 b.1, longer r a.2 b.2)

  reads-share : (p : Position) {cs xs : List ℕ} → Reading ks cs xs → Share p xs → Share (fitting_one ks p) cs
  reads-share p r s = (share-decided (fitting_one ks p) _).0 (go r ((share-decided p _).1 s))
    where
      go : {cs xs : List ℕ} → Reading ks cs xs → T (is_share p xs) → T (is_share (fitting_one ks p) cs)
      go none t = t
      go (also {c = c} {x = x} h none) t = reads-fits ks p.set c x h t
      go (also {c = c} {x = x} h (also {c = d} {x = y} {cs = cs} {xs = xs} g r)) t =
          and_intro p.repeats (all (fits ks p.set) (c ∷ d ∷ cs)) (and_left p.repeats (all p.set (x ∷ y ∷ xs)) t)
          (reads_all p.set (also h (also g r)) (and_right p.repeats (all p.set (x ∷ y ∷ xs)) t))

  occurs-reads : (ps : List Position) (cs : List ℕ) → Occurs (fitting ks ps) cs → (xs : List ℕ) × Reading ks cs xs × Occurs ps xs
  occurs-reads [] cs o = ([], subst (λ (l : List ℕ). Reading ks l []) (sym (occurs_nil o)) none, done)
  occurs-reads (p ∷ ps) cs o =
      let f = occurs-first o in
      let a = share-reads p f.share_is in
      let b = occurs-reads ps f.rest f.rest-occurs in
      (a.0 ++ b.0, subst (λ (l : List ℕ). Reading ks l (a.0 ++ b.0)) (sym f.joined) (reading-append a.1 b.1), next a.2 b.2)

  reads-occurs : (ps : List Position) (cs xs : List ℕ) → Reading ks cs xs → Occurs ps xs → Occurs (fitting ks ps) cs
  reads-occurs [] cs xs r o = occurs-to (sym (empty-reads (subst (λ (l : List ℕ). Reading ks cs l) (occurs_nil o) r))) done
    where
      empty-reads : {cs : List ℕ} → Reading ks cs [] → cs ≡ []
      empty-reads none = refl
  reads-occurs (p ∷ ps) cs xs r o =
      let f = occurs-first o in
      let c = reading_cut f.share f.rest r f.joined in
      occurs-to (sym c.joined) (next (reads-share p c.front_reads f.share_is) (reads-occurs ps c.back f.rest c.back-reads f.rest-occurs))

  -- "the quantum reading": some reading of the bytes, each place by itself, is an occurrence.
  pub fitting-is-reading : (ps : List Position) (cs : List ℕ) → Occurs (fitting ks ps) cs ↔ ((xs : List ℕ) × Reading ks cs xs × Occurs ps xs)
  fitting-is-reading ps cs = (occurs-reads ps cs, λ r. reads-occurs ps cs r.0 r.1 r.2)
