-- The returns of the reader: one law for each, on plain values. A law's premises are what the calls gave and the tests found. Assumes nothing.
use mathlib.Core.Path.{◌≡◌, refl, sym, ap, subst, ◌∙◌}
use mathlib.Core.Bool.{Bool, true, false, not, cond, ◌&&◌, ◌||◌, or-false}
use mathlib.Core.List.{List, [], ◌∷◌}
use Prim.Native.Nat.{ℕ, ◌+◌, ◌≤◌, ◌<◌}
use native.Mathlib.Omega.{arith}
use native.Mathlib.Decide.{dec_le}
use lib.Dec.{T, leb, eqb}
use lib.ListN.{length, take, drop, get_or, get_or-eq_default}
use borrow.Author.Tests.{ne_eqb}
use Rattle.model.specs.RuleText.{is_decimal}
use Rattle.model.specs.Ascii.{ascii}
use Rattle.model.specs.Occurrence.{all}
use Rattle.model.specs.References.{form_limit, is_hexadecimal, Form, amp, lt, gt, apos, quot, Found, none, found, number_from, begins_with, spelt, within, legal, legal_by, reference_at, not_amp, shorter_of, grows_name, lacking, grows_number, can_grow}
use Rattle.model.proofs.Truth.{T_true, T-to, and_intro}
use Rattle.model.proofs.Forms.{named, grow_amp, grow_lt, grow_gt, grow_apos, grow_quot}
use Rattle.model.proofs.Borders.{ref_into, ref_out, ref_size, ref_plain, ref_growing}
use Rattle.model.proofs.Decoding.{utf8_four, form_four}
use Rattle.reference_reader.specs.declared.Reference.{Reference}
use Rattle.reference_reader.specs.declared.Reference.TheVariants.{Decoded, Literal, Incomplete}
use Rattle.reference_reader.specs.declared.NameMatch.{NameMatch}
use Rattle.reference_reader.specs.declared.NameMatch.TheVariants.{Whole, Prefix, Different}
use Rattle.reference_reader.specs.Reader.{read_as, reading, Moves, ReadIs, NamePlace, NumberPlace, Matches, MatchIs, number_reading}
use Rattle.model.proofs.Cuts.{grow_plain, reference_front, grow_front}
use Rattle.reference_reader.proofs.Numbers.{legal-small}

-- ---- the three answers, for every limit

module _ (limit : ℕ) (s : List ℕ) where
  pub reads-decoded : (n k : ℕ) → reference_at limit s ≡ found n k → Decoded n k ≡ reading limit s
  unfolding reading
  reads-decoded n k e = sym (ap (λ (f : Found). read_as f (can_grow limit s)) e)

  pub reads_incomplete : can_grow limit s ≡ true → Incomplete ≡ reading limit s
  unfolding reading
  reads_incomplete g =
      sym (ap (λ (f : Found). read_as f (can_grow limit s)) (ref_growing limit s (T-to (sym g) tt)) ∙ ap (read_as none) g)

  pub reads_literal : reference_at limit s ≡ none → can_grow limit s ≡ false → Literal ≡ reading limit s
  unfolding reading
  reads_literal e g = sym (ap (λ (f : Found). read_as f (can_grow limit s)) e ∙ ap (read_as none) g)

  decoded-moves : (n k : ℕ) → reference_at limit s ≡ found n k → Moves s (Decoded n k)
  decoded-moves n k e =
      let x = ref_into limit s n k e in
      let z = ref_size limit s n k e in
      let p = x.prefix in
      let a = p.size in
      (z.0, z.1, omega (arith, utf8_four n, form_four p.form), legal-small x.number k n x.is-legal)

  moves_of : (r : Reference) (f : Found) (b : Bool) → r ≡ read_as f b → reference_at limit s ≡ f → Moves s r
  moves_of r none true e p = subst (Moves s) (sym e) tt
  moves_of r none false e p = subst (Moves s) (sym e) tt
  moves_of r (found n k) b e p = subst (Moves s) (sym e) (decoded-moves n k p)

  pub moves_if : (r : Reference) → r ≡ reading limit s → Moves s r
  unfolding reading
  moves_if r e = moves_of r (reference_at limit s) (can_grow limit s) e refl

pub read_is : (s : List ℕ) (r : Reference) → r ≡ reading form_limit s → ReadIs s r
read_is s r e = record { is = e; moves = moves_if form_limit s r e }

-- ---- `read_reference`: the first bytes decide

pub reading-front : (limit : ℕ) (s : List ℕ) → reading limit (take limit s) ≡ reading limit s
unfolding reading
reading-front limit s =
    ap (λ (f : Found). read_as f (can_grow limit (take limit s))) (reference_front limit s) ∙ ap (read_as (reference_at limit s)) (grow_front limit s)

pub read_front : (s : List ℕ) (r : Reference) → ReadIs (take form_limit s) r → ReadIs s r
read_front s r x = read_is s r (x.is ∙ reading-front form_limit s)

-- ---- `read_short`

pub not_amp_lem : (s : List ℕ) (b : ℕ) → b ≡ get_or s 0 0 → (b ≡ 38 → ⊥) → ReadIs s Literal
not_amp_lem [] b e n = read_is [] Literal (reads_literal form_limit [] refl refl)
not_amp_lem (c ∷ cs) b e n =
    let t : T (not_amp c) = T-to (ap not (sym (ne_eqb c 38 (λ q. n (e ∙ q))))) tt in
    read_is (c ∷ cs) Literal (reads_literal form_limit (c ∷ cs) (ref_plain form_limit c cs t) (grow_plain form_limit c cs t))

-- a byte that is not 0 is within
reaches : (s : List ℕ) (i b : ℕ) → b ≡ get_or s i 0 → 0 < b → i < length s
reaches s i b e h = go (dec_le (length s) i)
  where
    go : Dec (length s ≤ i) → i < length s
    go (yes l) = absurd (omega (arith, e ∙ get_or-eq_default s 0 l))
    go (no l) = omega arith

pub hex_place : (s : List ℕ) → length s ≤ form_limit → (b : ℕ) → b ≡ get_or s 2 0 → b ≡ 120 → NumberPlace s 3
hex_place s l b e q = let h = reaches s 2 b e (omega arith) in record { mark = omega arith; short = l }

pub decimal-place : (s : List ℕ) → length s ≤ form_limit → (b : ℕ) → b ≡ get_or s 1 0 → b ≡ 35 → NumberPlace s 2
decimal-place s l b e q = let h = reaches s 1 b e (omega arith) in record { mark = omega arith; short = l }

-- after `&#x`, and after `&#`
hex_is : (t : List ℕ) → number_reading true 3 (38 ∷ 35 ∷ 120 ∷ t) ≡ reading form_limit (38 ∷ 35 ∷ 120 ∷ t)
unfolding number_reading reading
hex_is t = refl

decimal-is : (t : List ℕ) → (get_or t 0 0 ≡ 120 → ⊥) → number_reading false 2 (38 ∷ 35 ∷ t) ≡ reading form_limit (38 ∷ 35 ∷ t)
unfolding number_reading reading
decimal-is [] n = refl
decimal-is (c ∷ t) n =
    let q : eqb 120 c ≡ false = ne_eqb 120 c (λ e. n (sym e)) in
    let G = grows_number form_limit (ascii "&#") is_decimal (38 ∷ 35 ∷ c ∷ t) in
    let H = number_from is_hexadecimal 16 0 3 0 t in
    let D = number_from is_decimal 10 0 2 0 (c ∷ t) in
    let L = leb (length (38 ∷ 35 ∷ c ∷ t) + lacking t) form_limit in
    ap (read_as (legal_by (within form_limit D))) (sym (or-false G))
    ∙ sym (ap (λ (b : Bool). read_as (legal_by (within form_limit (cond (b && true) H D))) (G || (((b && true) && all is_hexadecimal t) && L))) q)

hex_of : (s : List ℕ) → get_or s 0 0 ≡ 38 → get_or s 1 0 ≡ 35 → get_or s 2 0 ≡ 120 → number_reading true 3 s ≡ reading form_limit s
hex_of [] a b c = absurd (omega arith)
hex_of (x ∷ []) a b c = absurd (omega arith)
hex_of (x ∷ y ∷ []) a b c = absurd (omega arith)
hex_of (x ∷ y ∷ z ∷ t) a b c =
    let e : x ∷ y ∷ z ∷ t ≡ 38 ∷ 35 ∷ 120 ∷ t = cc in
    subst (λ (l : List ℕ). number_reading true 3 l ≡ reading form_limit l) {x = 38 ∷ 35 ∷ 120 ∷ t} {y = x ∷ y ∷ z ∷ t} (sym e) (hex_is t)

decimal_of : (s : List ℕ) → get_or s 0 0 ≡ 38 → get_or s 1 0 ≡ 35 → (get_or s 2 0 ≡ 120 → ⊥) → number_reading false 2 s ≡ reading form_limit s
decimal_of [] a b c = absurd (omega arith)
decimal_of (x ∷ []) a b c = absurd (omega arith)
decimal_of (x ∷ y ∷ t) a b c =
    let e : x ∷ y ∷ t ≡ 38 ∷ 35 ∷ t = cc in
    subst (λ (l : List ℕ). number_reading false 2 l ≡ reading form_limit l) {x = 38 ∷ 35 ∷ t} {y = x ∷ y ∷ t} (sym e) (decimal-is t c)

module _ (s : List ℕ) (b₀ : ℕ) (e₀ : b₀ ≡ get_or s 0 0) (q₀ : b₀ ≡ 38) (b₁ : ℕ) (e₁ : b₁ ≡ get_or s 1 0) where
  pub name_place : (b₁ ≡ 35 → ⊥) → NamePlace s
  name_place n = record { amp = sym e₀ ∙ q₀; no_mark = λ e. n (e₁ ∙ e) }

  pub after-mark : b₁ ≡ 35 → (b₂ : ℕ) → b₂ ≡ get_or s 2 0 → b₂ ≡ 120 → (r : Reference) → r ≡ number_reading true 3 s → ReadIs s r
  after-mark q₁ b₂ e₂ q₂ r e = read_is s r (e ∙ hex_of s (sym e₀ ∙ q₀) (sym e₁ ∙ q₁) (sym e₂ ∙ q₂))

  pub after_hash : b₁ ≡ 35 → (b₂ : ℕ) → b₂ ≡ get_or s 2 0 → (b₂ ≡ 120 → ⊥) → (r : Reference) → r ≡ number_reading false 2 s → ReadIs s r
  after_hash q₁ b₂ e₂ q₂ r e = read_is s r (e ∙ decimal_of s (sym e₀ ∙ q₀) (sym e₁ ∙ q₁) (λ z. q₂ (e₂ ∙ z)))

-- ---- the five names

-- the bytes begin with a name
name_whole : (name s : List ℕ) (n : ℕ) (m : NameMatch) → Form name n → length name ≤ form_limit → legal n (length name) ≡ found n (length name) → MatchIs name s m → m ≡ Whole → ReadIs s (Decoded n (length name))
name_whole name s n m f l t x e =
    let b : T (begins_with name s) = T-to (sym (subst (Matches name s) e x.is)) tt in
    read_is s (Decoded n (length name)) (reads-decoded form_limit s n (length name) (ref_out form_limit s n (length name) (record { number = n; prefix = named name s n f b; short = l; is-legal = t })))

module _ (s : List ℕ) (m : NameMatch) where
  pub whole_amp : MatchIs (ascii "&amp;") s m → m ≡ Whole → ReadIs s (Decoded 38 5)
  whole_amp x e = name_whole (ascii "&amp;") s 38 m amp (omega arith) refl x e

  pub whole_lt : MatchIs (ascii "&lt;") s m → m ≡ Whole → ReadIs s (Decoded 60 4)
  whole_lt x e = name_whole (ascii "&lt;") s 60 m lt (omega arith) refl x e

  pub whole_gt : MatchIs (ascii "&gt;") s m → m ≡ Whole → ReadIs s (Decoded 62 4)
  whole_gt x e = name_whole (ascii "&gt;") s 62 m gt (omega arith) refl x e

  pub whole_apos : MatchIs (ascii "&apos;") s m → m ≡ Whole → ReadIs s (Decoded 39 6)
  whole_apos x e = name_whole (ascii "&apos;") s 39 m apos (omega arith) refl x e

  pub whole_quot : MatchIs (ascii "&quot;") s m → m ≡ Whole → ReadIs s (Decoded 34 6)
  whole_quot x e = name_whole (ascii "&quot;") s 34 m quot (omega arith) refl x e

-- they are a beginning of a name; `grow` is the model's law that the name's test makes `can_grow` pass
name_short : (name s : List ℕ) (m : NameMatch) → NamePlace s → T (leb (length name) form_limit)
    → ((c : ℕ) (cs : List ℕ) → T (grows_name form_limit name (c ∷ cs)) → T (can_grow form_limit (c ∷ cs))) → MatchIs name s m → m ≡ Prefix → ReadIs s Incomplete
name_short name [] m p l grow x y = let a = p.amp in absurd (omega arith)
name_short name (c ∷ cs) m p l grow x y =
    let t : T (shorter_of (c ∷ cs) name) = T-to (sym (subst (Matches name (c ∷ cs)) y x.is)) tt in
    let g : T (can_grow form_limit (c ∷ cs)) = grow c cs (and_intro (shorter_of (c ∷ cs) name) (leb (length name) form_limit) t l) in
    read_is (c ∷ cs) Incomplete (reads_incomplete form_limit (c ∷ cs) (T_true (can_grow form_limit (c ∷ cs)) g))

module _ (s : List ℕ) (p : NamePlace s) (m : NameMatch) where
  pub prefix_amp : MatchIs (ascii "&amp;") s m → m ≡ Prefix → ReadIs s Incomplete
  prefix_amp x y = name_short (ascii "&amp;") s m p tt (grow_amp form_limit) x y

  pub prefix_lt : MatchIs (ascii "&lt;") s m → m ≡ Prefix → ReadIs s Incomplete
  prefix_lt x y = name_short (ascii "&lt;") s m p tt (grow_lt form_limit) x y

  pub prefix_gt : MatchIs (ascii "&gt;") s m → m ≡ Prefix → ReadIs s Incomplete
  prefix_gt x y = name_short (ascii "&gt;") s m p tt (grow_gt form_limit) x y

  pub prefix_apos : MatchIs (ascii "&apos;") s m → m ≡ Prefix → ReadIs s Incomplete
  prefix_apos x y = name_short (ascii "&apos;") s m p tt (grow_apos form_limit) x y

  pub prefix_quot : MatchIs (ascii "&quot;") s m → m ≡ Prefix → ReadIs s Incomplete
  prefix_quot x y = name_short (ascii "&quot;") s m p tt (grow_quot form_limit) x y

-- none of them
and_first : (a b : Bool) → a ≡ false → (a && b) ≡ false
and_first true b e = absurd (mathlib.Core.Bool.true≢false e)
and_first false b e = refl

or_both : (a b : Bool) → a ≡ false → b ≡ false → (a || b) ≡ false
or_both true b e f = e
or_both false b e f = f

cond-none : (a : Bool) (x y : Found) → a ≡ false → y ≡ none → cond a x y ≡ none
cond-none true x y e f = absurd (mathlib.Core.Bool.true≢false e)
cond-none false x y e f = f

-- no `#` second
no_mark : (more c : List ℕ) → (get_or c 1 0 ≡ 35 → ⊥) → begins_with (38 ∷ 35 ∷ more) c ≡ false
no_mark more [] n = refl
no_mark more (x ∷ []) n = go (eqb 38 x)
  where
    go : (b : Bool) → (b && false) ≡ false
    go true = refl
    go false = refl
no_mark more (x ∷ y ∷ c) n =
    let q : (eqb 35 y && begins_with more c) ≡ false = and_first (eqb 35 y) (begins_with more c) (ne_eqb 35 y (λ e. n (sym e))) in
    go (eqb 38 x) (eqb 35 y && begins_with more c) q
  where
    go : (a b : Bool) → b ≡ false → (a && b) ≡ false
    go true b e = e
    go false b e = refl

pub no_name : (s : List ℕ) → NamePlace s
    → (m₁ : NameMatch) → MatchIs (ascii "&amp;") s m₁ → m₁ ≡ Different
    → (m₂ : NameMatch) → MatchIs (ascii "&lt;") s m₂ → m₂ ≡ Different
    → (m₃ : NameMatch) → MatchIs (ascii "&gt;") s m₃ → m₃ ≡ Different
    → (m₄ : NameMatch) → MatchIs (ascii "&apos;") s m₄ → m₄ ≡ Different
    → (m₅ : NameMatch) → MatchIs (ascii "&quot;") s m₅ → m₅ ≡ Different
    → ReadIs s Literal
no_name [] p m₁ x₁ d₁ m₂ x₂ d₂ m₃ x₃ d₃ m₄ x₄ d₄ m₅ x₅ d₅ = let a = p.amp in absurd (omega arith)
no_name (c ∷ cs) p m₁ x₁ d₁ m₂ x₂ d₂ m₃ x₃ d₃ m₄ x₄ d₄ m₅ x₅ d₅ =
    let s = c ∷ cs in
    let differs : (name : List ℕ) (m : NameMatch) → MatchIs name s m → m ≡ Different → Matches name s Different = λ name m x d. subst (Matches name s) d x.is in
    let whole : (name : List ℕ) (m : NameMatch) → MatchIs name s m → m ≡ Different → begins_with name s ≡ false = λ name m x d. (differs name m x d).0 in
    let short : (name : List ℕ) (m : NameMatch) → MatchIs name s m → m ≡ Different → grows_name form_limit name s ≡ false =
    λ name m x d. and_first (shorter_of s name) (leb (length name) form_limit) (differs name m x d).1 in
    let mark : (more : List ℕ) → begins_with (38 ∷ 35 ∷ more) s ≡ false = λ more. no_mark more s p.no_mark in
    let number : (more : List ℕ) (ok : ℕ → Bool) → grows_number form_limit (38 ∷ 35 ∷ more) ok s ≡ false =
    λ more ok. and_first _ _ (and_first (begins_with (38 ∷ 35 ∷ more) s) (all ok (drop (length (38 ∷ 35 ∷ more)) s)) (mark more)) in
    let f : spelt s ≡ none =
    cond-none (begins_with (ascii "&amp;") s) _ _ (whole (ascii "&amp;") m₁ x₁ d₁)
    (cond-none (begins_with (ascii "&lt;") s) _ _ (whole (ascii "&lt;") m₂ x₂ d₂)
    (cond-none (begins_with (ascii "&gt;") s) _ _ (whole (ascii "&gt;") m₃ x₃ d₃)
    (cond-none (begins_with (ascii "&apos;") s) _ _ (whole (ascii "&apos;") m₄ x₄ d₄)
    (cond-none (begins_with (ascii "&quot;") s) _ _ (whole (ascii "&quot;") m₅ x₅ d₅)
    (cond-none (begins_with (ascii "&#x") s) _ _ (mark (120 ∷ [])) (cond-none (begins_with (ascii "&#") s) _ _ (mark []) refl)))))) in
    let g : can_grow form_limit s ≡ false =
    or_both (grows_name form_limit (ascii "&amp;") s) _ (short (ascii "&amp;") m₁ x₁ d₁)
    (or_both (grows_name form_limit (ascii "&lt;") s) _ (short (ascii "&lt;") m₂ x₂ d₂)
    (or_both (grows_name form_limit (ascii "&gt;") s) _ (short (ascii "&gt;") m₃ x₃ d₃)
    (or_both (grows_name form_limit (ascii "&apos;") s) _ (short (ascii "&apos;") m₄ x₄ d₄)
    (or_both (grows_name form_limit (ascii "&quot;") s) _ (short (ascii "&quot;") m₅ x₅ d₅)
    (or_both (grows_number form_limit (ascii "&#") is_decimal s) _ (number [] is_decimal) (number (120 ∷ []) is_hexadecimal)))))) in
    read_is s Literal (reads_literal form_limit s (ap (λ (x : Found). legal_by (within form_limit x)) f) g)

-- ---- what an answer says

decoded_inv : (n k : ℕ) (f : Found) (b : Bool) → Decoded n k ≡ read_as f b → f ≡ found n k
decoded_inv n k none true e = let z : ◌≡◌ {A = ℕ} 0 1 = cc in absurd (omega arith)
decoded_inv n k none false e = let z : ◌≡◌ {A = ℕ} 0 1 = cc in absurd (omega arith)
decoded_inv n k (found m j) b e = cc

literal_inv : (f : Found) (b : Bool) → Literal ≡ read_as f b → (f ≡ none) × (b ≡ false)
literal_inv none true e = let z : ◌≡◌ {A = ℕ} 0 1 = cc in absurd (omega arith)
literal_inv none false e = (refl, refl)
literal_inv (found m j) b e = let z : ◌≡◌ {A = ℕ} 0 1 = cc in absurd (omega arith)

incomplete_inv : (f : Found) (b : Bool) → Incomplete ≡ read_as f b → (f ≡ none) × (b ≡ true)
incomplete_inv none true e = (refl, refl)
incomplete_inv none false e = let z : ◌≡◌ {A = ℕ} 0 1 = cc in absurd (omega arith)
incomplete_inv (found m j) b e = let z : ◌≡◌ {A = ℕ} 0 1 = cc in absurd (omega arith)

module _ (limit : ℕ) (s : List ℕ) where
  pub decoded_told : (n k : ℕ) → Decoded n k ≡ reading limit s → reference_at limit s ≡ found n k
  unfolding reading
  decoded_told n k e = decoded_inv n k (reference_at limit s) (can_grow limit s) e

  pub literal_told : Literal ≡ reading limit s → (reference_at limit s ≡ none) × (can_grow limit s ≡ false)
  unfolding reading
  literal_told e = literal_inv (reference_at limit s) (can_grow limit s) e

  pub incomplete_told : Incomplete ≡ reading limit s → (reference_at limit s ≡ none) × (can_grow limit s ≡ true)
  unfolding reading
  incomplete_told e = incomplete_inv (reference_at limit s) (can_grow limit s) e
