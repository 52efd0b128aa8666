-- Decoding in pieces, for every length limit of a form: the held tail is the longest that can still grow, and the two laws over a cut (`held_cut`,
-- `tokens_cut`) and the one of the finish (`tokens-finish`) carry a plan through any pieces. They speak of tokens: the text that these give
-- (`text_cut`, `finish-text`) and the raw bytes that they take (`taken-all`, `taken_out`) are two readings. Decoding never lengthens. Assumes nothing.
use mathlib.Core.Path.{◌≡◌, refl, sym, ap, subst, ◌∙◌}
use mathlib.Core.Bool.{Bool, true, false, cond}
use mathlib.Core.Logic.{◌⊎◌, inl, inr}
use mathlib.Core.List.{List, [], ◌∷◌, ◌++◌, append_assoc, append-nil, cons≢nil}
use Prim.Native.Nat.{ℕ, zero, suc, pred, ◌+◌, ◌-◌, ◌≤◌, ◌<◌}
use native.Mathlib.Omega.{arith}
use native.Mathlib.Decide.{dec_le}
use lib.Dec.{T, ltb}
use lib.ListN.{length, length-append}
use lib.Seq.{take_at}
use Rattle.model.specs.Occurrence.{all}
use Rattle.model.specs.References.{Form, amp, lt, gt, apos, quot, decimal, hexadecimal, Found, none, found, reference_at, utf8, Token, byte_token, byte_tokens, token_by, tokens_from, taken, joined, decode, not_amp, CanGrow, can_grow, held_tail, without_tail, out_tokens, let_out, held_most}
use Rattle.model.proofs.Truth.{and_left, and_right, T-to, T_true, T_false}
use Rattle.model.proofs.Forms.{not_none, grow_into, grow_out}
use Rattle.model.proofs.Borders.{ref_into, ref_size, ref_local, ref_more, ref_across, ref_plain, ref_growing, grow_less, grow_head, grow_tail}

-- ---- tokens read as text, and as a count of raw bytes

pub joined-append : (xs ys : List Token) → joined (xs ++ ys) ≡ joined xs ++ joined ys
joined-append [] ys = refl
joined-append (t ∷ xs) ys = ap (λ (l : List ℕ). t.gives ++ l) (joined-append xs ys) ∙ sym (append_assoc t.gives (joined xs) (joined ys))

pub joined_bytes : (cs : List ℕ) → joined (byte_tokens cs) ≡ cs
joined_bytes [] = refl
joined_bytes (c ∷ cs) = ap (λ (l : List ℕ). c ∷ l) (joined_bytes cs)

-- bytes that are kept, before other tokens
pub joined-run : (cs : List ℕ) (ts : List Token) → joined (byte_tokens cs ++ ts) ≡ cs ++ joined ts
joined-run cs ts = joined-append (byte_tokens cs) ts ∙ ap (λ (l : List ℕ). l ++ joined ts) (joined_bytes cs)

pub taken-append : (xs ys : List Token) → taken (xs ++ ys) ≡ taken xs + taken ys
taken-append [] ys = omega arith
taken-append (t ∷ xs) ys = let r = taken-append xs ys in omega arith

pub taken-bytes : (cs : List ℕ) → taken (byte_tokens cs) ≡ length cs
taken-bytes [] = refl
taken-bytes (c ∷ cs) = let r = taken-bytes cs in omega arith

pub byte_tokens-append : (xs ys : List ℕ) → byte_tokens (xs ++ ys) ≡ byte_tokens xs ++ byte_tokens ys
byte_tokens-append [] ys = refl
byte_tokens-append (c ∷ xs) ys = ap (λ (l : List Token). byte_token c ∷ l) (byte_tokens-append xs ys)

module _ (limit : ℕ) where
  -- ---- one step

  pub tokens_none : (c : ℕ) (cs : List ℕ) → reference_at limit (c ∷ cs) ≡ none → tokens_from limit 0 (c ∷ cs) ≡ byte_token c ∷ tokens_from limit 0 cs
  tokens_none c cs q = ap (λ (r : Found). token_by c r ∷ tokens_from limit (pred (token_by c r).takes) cs) q

  pub tokens-found : (c : ℕ) (cs : List ℕ) (n k : ℕ) → reference_at limit (c ∷ cs) ≡ found n k
      → tokens_from limit 0 (c ∷ cs) ≡ record { takes = k; gives = utf8 n } ∷ tokens_from limit (pred k) cs
  tokens-found c cs n k q = ap (λ (r : Found). token_by c r ∷ tokens_from limit (pred (token_by c r).takes) cs) q

  abbrev pub decode_from : (skip : ℕ) → List ℕ → List ℕ
  decode_from skip cs = joined (tokens_from limit skip cs)

  pub decode-none : (c : ℕ) (cs : List ℕ) → reference_at limit (c ∷ cs) ≡ none → decode limit (c ∷ cs) ≡ c ∷ decode limit cs
  decode-none c cs q = ap joined (tokens_none c cs q)

  pub decode-found : (c : ℕ) (cs : List ℕ) (n k : ℕ) → reference_at limit (c ∷ cs) ≡ found n k → decode limit (c ∷ cs) ≡ utf8 n ++ decode_from (pred k) cs
  decode-found c cs n k q = ap joined (tokens-found c cs n k q)

  -- ---- a cut across which no reference lies

  abbrev NoneAcross : List ℕ → List ℕ → Type 0
  NoneAcross [] b = Unit {0}
  NoneAcross (c ∷ a) b = ((n k : ℕ) → reference_at limit ((c ∷ a) ++ b) ≡ found n k → k ≤ length (c ∷ a)) × NoneAcross a b

  tokens_across : (a b : List ℕ) (skip : ℕ) → skip ≤ length a → NoneAcross a b → tokens_from limit skip (a ++ b) ≡ tokens_from limit skip a ++ tokens_from limit 0 b
  tokens_across [] b zero l h = refl
  tokens_across [] b (suc k) l h = absurd (omega arith)
  tokens_across (c ∷ a) b (suc k) l h = tokens_across a b k (omega arith) h.1
  tokens_across (c ∷ a) b zero l h = go (reference_at limit ((c ∷ a) ++ b)) refl (reference_at limit (c ∷ a)) refl (λ k l. tokens_across a b k l h.1)
    where
      go : (r : Found) → reference_at limit ((c ∷ a) ++ b) ≡ r → (r' : Found) → reference_at limit (c ∷ a) ≡ r'
          → ((k : ℕ) → k ≤ length a → tokens_from limit k (a ++ b) ≡ tokens_from limit k a ++ tokens_from limit 0 b)
          → tokens_from limit 0 ((c ∷ a) ++ b) ≡ tokens_from limit 0 (c ∷ a) ++ tokens_from limit 0 b
      go none q none q' ih =
          tokens_none c (a ++ b) q
          ∙ ap (λ (l : List Token). byte_token c ∷ l) (ih 0 (omega arith))
          ∙ ap (λ (l : List Token). l ++ tokens_from limit 0 b) (sym (tokens_none c a q'))
      go none q (found n k) q' ih = not_none (sym q ∙ ref_more limit (c ∷ a) b n k q')
      go (found n k) q r' q' ih =
          let l = h.0 n k q in
          let s = (ref_size limit ((c ∷ a) ++ b) n k q).0 in
          let q'' = ref_local limit (c ∷ a) b n k q l in
          tokens-found c (a ++ b) n k q
          ∙ ap (λ (l : List Token). record { takes = k; gives = utf8 n } ∷ l) (ih (pred k) (omega arith))
          ∙ ap (λ (l : List Token). l ++ tokens_from limit 0 b) (sym (tokens-found c a n k q''))

  -- and none across the cut before a shorter second part
  none_less : (a b c : List ℕ) → NoneAcross a (b ++ c) → NoneAcross a b
  none_less [] b c h = tt
  none_less (d ∷ a) b c h =
      ((λ n k e. h.0 n k (ap (reference_at limit) (sym (append_assoc (d ∷ a) b c)) ∙ ref_more limit ((d ∷ a) ++ b) c n k e)), none_less a b c h.1)

  -- ---- what is kept byte by byte, and so decodes to itself

  tokens-plain : (s : List ℕ) → T (all not_amp s) → tokens_from limit 0 s ≡ byte_tokens s
  tokens-plain [] h = refl
  tokens-plain (c ∷ s) h =
      tokens_none c s (ref_plain limit c s (and_left (not_amp c) (all not_amp s) h))
      ∙ ap (λ (l : List Token). byte_token c ∷ l) (tokens-plain s (and_right (not_amp c) (all not_amp s) h))

  pub tokens_growing : (h : List ℕ) → T (can_grow limit h) → tokens_from limit 0 h ≡ byte_tokens h
  tokens_growing [] t = refl
  tokens_growing (c ∷ s) t =
      tokens_none c s (ref_growing limit (c ∷ s) t) ∙ ap (λ (l : List Token). byte_token c ∷ l) (tokens-plain s (grow_tail limit c s t))

  -- ---- the held tail

  pub tail_true : (c : ℕ) (cs : List ℕ) → can_grow limit (c ∷ cs) ≡ true → held_tail limit (c ∷ cs) ≡ c ∷ cs
  tail_true c cs q = rw (q, held_tail)

  pub tail_false : (c : ℕ) (cs : List ℕ) → can_grow limit (c ∷ cs) ≡ false → held_tail limit (c ∷ cs) ≡ held_tail limit cs
  tail_false c cs q = rw (q, held_tail)

  -- No tail that begins in the first part can grow.
  abbrev NoLonger : List ℕ → List ℕ → Type 0
  NoLonger [] t = Unit {0}
  NoLonger (c ∷ a) t = (T (can_grow limit ((c ∷ a) ++ t)) → ⊥) × NoLonger a t

  abbrev Held : List ℕ → Type 0
  Held t = (t ≡ []) ⊎ T (can_grow limit t)

  record Split (P : List ℕ) : Type 0 where
    front : List ℕ
    joined : P ≡ front ++ held_tail limit P
    longest : NoLonger front (held_tail limit P)
    holds : Held (held_tail limit P)

  split : (P : List ℕ) → Split P
  split [] = record { front = []; joined = refl; longest = tt; holds = inl refl }
  split (c ∷ cs) = go (can_grow limit (c ∷ cs)) refl (split cs)
    where
      go : (b : Bool) → can_grow limit (c ∷ cs) ≡ b → Split cs → Split (c ∷ cs)
      go true q r =
          let e = tail_true c cs q in
          record { front = []; joined = sym e; longest = tt; holds = inr (rw e (T-to (sym q) tt)) }
      go false q r =
          let e = tail_false c cs q in
          record {
            front = c ∷ r.front;
            joined = rw e (ap (λ (l : List ℕ). c ∷ l) r.joined);
            longest = rw e ((λ t. subst (λ (x : Bool). T x) q (subst (λ (l : List ℕ). T (can_grow limit (c ∷ l))) (sym r.joined) t)), r.longest);
            holds = rw e r.holds;
          }

  tail-past : (a t : List ℕ) → NoLonger a t → held_tail limit (a ++ t) ≡ held_tail limit t
  tail-past [] t h = refl
  tail-past (c ∷ a) t h = tail_false c (a ++ t) (T_false (can_grow limit ((c ∷ a) ++ t)) h.0) ∙ tail-past a t h.1

  without_is : (a t : List ℕ) → held_tail limit (a ++ t) ≡ t → without_tail limit (a ++ t) ≡ a
  without_is a t e =
      let n : length a ≡ length (a ++ t) - length (held_tail limit (a ++ t)) = omega (arith, length-append a t, ap length e) in
      take_at a t (length (a ++ t) - length (held_tail limit (a ++ t))) n

  front-is : (P : List ℕ) (s : Split P) → without_tail limit P ≡ s.front
  front-is P s =
      ap (without_tail limit) s.joined ∙ without_is s.front (held_tail limit P) (ap (held_tail limit) (sym s.joined))

  pub tail-joined : (P : List ℕ) → without_tail limit P ++ held_tail limit P ≡ P
  tail-joined P = let s = split P in ap (λ (l : List ℕ). l ++ held_tail limit P) (front-is P s) ∙ sym s.joined

  -- "the longest tail that starts with `&` and could still grow into a form": it is such a tail or empty, and no such tail is longer.
  pub record LongestTail (P t : List ℕ) : Type 0 where
    pub before : List ℕ
    pub is-tail : P ≡ before ++ t
    pub grows : (t ≡ []) ⊎ CanGrow limit t
    pub longest : (a u : List ℕ) → P ≡ a ++ u → CanGrow limit u → length u ≤ length t

  longest_at : (a u : List ℕ) → CanGrow limit u → length u ≤ length (held_tail limit (a ++ u))
  longest_at [] [] g = omega arith
  longest_at [] (c ∷ u) g =
      omega (arith, ap length (tail_true c u (T_true (can_grow limit (c ∷ u)) (grow_out limit c u g.more g.rest g.form refl g.short))))
  longest_at (c ∷ a) u g = go (can_grow limit (c ∷ (a ++ u))) refl (longest_at a u g)
    where
      go : (b : Bool) → can_grow limit (c ∷ (a ++ u)) ≡ b → length u ≤ length (held_tail limit (a ++ u)) → length u ≤ length (held_tail limit (c ∷ (a ++ u)))
      go true q ih = omega (arith, ap length (tail_true c (a ++ u) q), length-append a u)
      go false q ih = omega (arith, ap length (tail_false c (a ++ u) q))

  pub held_longest : (P : List ℕ) → LongestTail P (held_tail limit P)
  held_longest P =
      let s = split P in
      record {
        before = s.front;
        is-tail = s.joined;
        grows = grown s.holds;
        longest = λ a u e g. subst (λ (l : List ℕ). length u ≤ length (held_tail limit l)) (sym e) (longest_at a u g);
      }
    where
      grown : Held (held_tail limit P) → (held_tail limit P ≡ []) ⊎ CanGrow limit (held_tail limit P)
      grown (inl e) = inl e
      grown (inr t) = inr (grow_into limit (held_tail limit P) t)

  -- ---- no longer tail, so no reference across

  none_across : (a t rest : List ℕ) → NoLonger a t → Held t → NoneAcross a (t ++ rest)
  none_across [] t rest h g = tt
  none_across (c ∷ a) t rest h g = (λ n k e. elim (dec_le k (length (c ∷ a))) [ yes l ↦ l | no l ↦ absurd (over t g h.0 n k e (omega arith)) ], none_across a t rest h.1 g)
    where
      over : (t : List ℕ) → Held t → (T (can_grow limit ((c ∷ a) ++ t)) → ⊥) → (n k : ℕ) → reference_at limit ((c ∷ a) ++ (t ++ rest)) ≡ found n k → length (c ∷ a) < k → ⊥
      over [] g f n k e l = f (subst (λ (l : List ℕ). T (can_grow limit l)) (sym (append-nil (c ∷ a))) (ref_across limit c a rest n k e l).0)
      over (d ∷ t) (inl q) f n k e l = cons≢nil q
      over (d ∷ t) (inr g) f n k e l = subst (λ (x : ℕ). T (not_amp x)) (grow_head limit d t g) ((ref_across limit c a ((d ∷ t) ++ rest) n k e l).1 d (t ++ rest) refl)

  longer-more : (a t u : List ℕ) → NoLonger a t → NoLonger a (t ++ u)
  longer-more [] t u h = tt
  longer-more (d ∷ a) t u h =
      ((λ g. h.0 (grow_less limit d (a ++ t) u (subst (λ (l : List ℕ). T (can_grow limit l)) (sym (append_assoc (d ∷ a) t u)) g))), longer-more a t u h.1)

  -- ---- the laws

  -- The tokens take all the bytes but those skipped ..
  pub taken-all : (cs : List ℕ) (skip : ℕ) → skip ≤ length cs → taken (tokens_from limit skip cs) + skip ≡ length cs
  taken-all [] skip l = omega arith
  taken-all (c ∷ cs) (suc k) l = let r = taken-all cs k (omega arith) in omega arith
  taken-all (c ∷ cs) zero l = go (reference_at limit (c ∷ cs)) refl (taken-all cs)
    where
      go : (r : Found) → reference_at limit (c ∷ cs) ≡ r → ((skip : ℕ) → skip ≤ length cs → taken (tokens_from limit skip cs) + skip ≡ length cs)
          → taken (tokens_from limit 0 (c ∷ cs)) + 0 ≡ suc (length cs)
      go none q ih = let i = ih 0 (omega arith) in omega (arith, ap taken (tokens_none c cs q))
      go (found n k) q ih =
          let s = ref_size limit (c ∷ cs) n k q in
          let s₁ = s.1 in
          let s₀ = s.0 in
          let i = ih (pred k) (omega arith) in
          omega (arith, ap taken (tokens-found c cs n k q))

  -- .. and those let out all but the held.
  pub taken_out : (P : List ℕ) → taken (out_tokens limit P) + length (held_tail limit P) ≡ length P
  taken_out P =
      let t = taken-all (without_tail limit P) 0 (omega arith) in
      omega (arith, ap length (tail-joined P), length-append (without_tail limit P) (held_tail limit P))

  -- "The finish lets it through as it came": byte by byte.
  pub tokens-finish : (P : List ℕ) → tokens_from limit 0 P ≡ out_tokens limit P ++ byte_tokens (held_tail limit P)
  tokens-finish P =
      let s = split P in
      let h = held_tail limit P in
      ap (tokens_from limit 0) s.joined
      ∙ tokens_across s.front h 0 (omega arith) (none_less s.front h [] (none_across s.front h [] s.longest s.holds))
      ∙ ap (λ (l : List Token). tokens_from limit 0 s.front ++ l) (held-tokens h s.holds)
      ∙ ap (λ (l : List ℕ). tokens_from limit 0 l ++ byte_tokens h) (sym (front-is P s))
    where
      held-tokens : (h : List ℕ) → Held h → tokens_from limit 0 h ≡ byte_tokens h
      held-tokens h (inl e) = rw e
      held-tokens h (inr g) = tokens_growing h g

  pub finish-text : (P : List ℕ) → decode limit P ≡ let_out limit P ++ held_tail limit P
  finish-text P =
      ap joined (tokens-finish P)
      ∙ joined-append (out_tokens limit P) (byte_tokens (held_tail limit P))
      ∙ ap (λ (l : List ℕ). let_out limit P ++ l) (joined_bytes (held_tail limit P))

  -- A plan that is cut in two: what is held after both parts, and what is let out.
  pub held_cut : (xs ys : List ℕ) → held_tail limit (xs ++ ys) ≡ held_tail limit (held_tail limit xs ++ ys)
  held_cut xs ys =
      let s = split xs in
      let h = held_tail limit xs in
      ap (λ (l : List ℕ). held_tail limit (l ++ ys)) s.joined
      ∙ ap (held_tail limit) (append_assoc s.front h ys)
      ∙ tail-past s.front (h ++ ys) (longer-more s.front h ys s.longest)

  pub tokens_cut : (xs ys : List ℕ) → out_tokens limit (xs ++ ys) ≡ out_tokens limit xs ++ out_tokens limit (held_tail limit xs ++ ys)
  tokens_cut xs ys =
      let s = split xs in
      let h = held_tail limit xs in
      let a = s.front in
      let Z = h ++ ys in
      let r = split Z in
      let b = r.front in
      let t = held_tail limit Z in
      let j : xs ++ ys ≡ (a ++ b) ++ t = ap (λ (l : List ℕ). l ++ ys) s.joined ∙ append_assoc a h ys ∙ ap (λ (l : List ℕ). a ++ l) r.joined ∙ sym (append_assoc a b t) in
      let n : NoneAcross a (b ++ t) = subst (λ (l : List ℕ). NoneAcross a l) r.joined (none_across a h ys s.longest s.holds) in
      let w : without_tail limit ((a ++ b) ++ t) ≡ a ++ b = without_is (a ++ b) t (ap (held_tail limit) (sym j) ∙ held_cut xs ys) in
      ap (out_tokens limit) j
      ∙ ap (tokens_from limit 0) w
      ∙ tokens_across a b 0 (omega arith) (none_less a b t n)
      ∙ ap (λ (l : List ℕ). tokens_from limit 0 l ++ tokens_from limit 0 b) (sym (front-is xs s))
      ∙ ap (λ (l : List ℕ). out_tokens limit xs ++ tokens_from limit 0 l) (sym (front-is Z r))

  pub text_cut : (xs ys : List ℕ) → let_out limit (xs ++ ys) ≡ let_out limit xs ++ let_out limit (held_tail limit xs ++ ys)
  text_cut xs ys = ap joined (tokens_cut xs ys) ∙ joined-append (out_tokens limit xs) (out_tokens limit (held_tail limit xs ++ ys))

-- ---- sizes

-- A reference gives no more bytes than spell it.
pub form_four : {f : List ℕ} {n : ℕ} → Form f n → 4 ≤ length f
form_four amp = omega arith
form_four lt = omega arith
form_four gt = omega arith
form_four apos = omega arith
form_four quot = omega arith
form_four (decimal d ds a) = omega (arith, length-append ds (59 ∷ []))
form_four (hexadecimal d ds a) = omega (arith, length-append ds (59 ∷ []))

cond-length : (b : Bool) (xs ys : List ℕ) (k : ℕ) → length xs ≤ k → length ys ≤ k → length (cond b xs ys) ≤ k
cond-length true xs ys k h l = h
cond-length false xs ys k h l = l

pub utf8_four : (n : ℕ) → length (utf8 n) ≤ 4
unfolding utf8
utf8_four n =
    cond-length (ltb n 128) _ _ 4 (omega arith)
    (cond-length (ltb n 2048) _ _ 4 (omega arith) (cond-length (ltb n 65536) _ _ 4 (omega arith) (omega arith)))

-- "Output is .. never longer than the input."
decode_shorter : (limit : ℕ) (cs : List ℕ) (skip : ℕ) → skip ≤ length cs → length (decode_from limit skip cs) + skip ≤ length cs
decode_shorter limit [] skip l = omega arith
decode_shorter limit (c ∷ cs) (suc k) l = let r = decode_shorter limit cs k (omega arith) in omega arith
decode_shorter limit (c ∷ cs) zero l = go (reference_at limit (c ∷ cs)) refl (decode_shorter limit cs)
  where
    go : (r : Found) → reference_at limit (c ∷ cs) ≡ r → ((skip : ℕ) → skip ≤ length cs → length (decode_from limit skip cs) + skip ≤ length cs) → length (decode_from limit 0 (c ∷ cs)) + 0 ≤ suc (length cs)
    go none q ih = let i = ih 0 (omega arith) in omega (arith, ap length (decode-none limit c cs q))
    go (found n k) q ih =
        let s = ref_size limit (c ∷ cs) n k q in
        let s₁ = s.1 in
        let s₀ = s.0 in
        let p = (ref_into limit (c ∷ cs) n k q).prefix in
        let z = p.size in
        let i = ih (pred k) (omega arith) in
        omega (arith, ap length (decode-found limit c cs n k q), length-append (utf8 n) (decode_from limit (pred k) cs), utf8_four n, form_four p.form)

pub decode-length : (limit : ℕ) (cs : List ℕ) → length (decode limit cs) ≤ length cs
decode-length limit cs = let r = decode_shorter limit cs 0 (omega arith) in omega arith

-- "at most 31 bytes": less than the limit.
pub growing_length : (limit : ℕ) (h : List ℕ) → T (can_grow limit h) → length h < limit
growing_length limit h t =
    let g = grow_into limit h t in
    let s = g.short in
    omega (arith, length-append h (g.more ∷ g.rest))

pub held-length : (limit : ℕ) (P : List ℕ) → length (held_tail limit P) ≤ held_most limit
held-length limit [] = omega arith
held-length limit (c ∷ cs) = go (can_grow limit (c ∷ cs)) refl (held-length limit cs)
  where
    go : (b : Bool) → can_grow limit (c ∷ cs) ≡ b → length (held_tail limit cs) ≤ held_most limit → length (held_tail limit (c ∷ cs)) ≤ held_most limit
    go true q ih = let l = growing_length limit (c ∷ cs) (subst (λ (x : Bool). T x) (sym q) tt) in omega (arith, ap length (tail_true limit c cs q))
    go false q ih = omega (arith, ap length (tail_false limit c cs q))
