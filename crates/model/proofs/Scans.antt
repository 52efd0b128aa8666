-- The plain scan over a whole list of calls: a scanner that keeps the held tail, a state and counts, and no text, answers as it does; and the pairs of all the calls in
-- order are those of the text so far, once a finish is accepted those of the decoded plan. For every length limit of a form. Assumes nothing.
use mathlib.Core.Path.{◌≡◌, refl, sym, ap, ap₂, subst, ◌∙◌}
use mathlib.Core.Bool.{Bool, true, false, cond, ◌&&◌, true≢false}
use mathlib.Core.List.{List, [], ◌∷◌, ◌++◌, append_assoc, append-nil}
use Prim.Native.Nat.{ℕ, zero, suc, ◌+◌, ◌-◌, ◌≤◌, ◌<◌}
use native.Mathlib.Nat.{zero-add}
use native.Mathlib.Omega.{arith}
use borrow.Author.Tests.{le-leb}
use lib.Dec.{leb, T_not}
use lib.ListN.{length, drop, length-append}
use lib.Seq.{take-append-le}
use Rattle.model.specs.Occurrence.{Position, stretch, any_from, cons_if, all_from, is_occurrence, is_end}
use Rattle.model.specs.References.{Token, byte_tokens, tokens_from, taken, joined, decode, held_tail, without_tail, out_tokens}
use Rattle.model.specs.RawPlaces.{Entry, places_by, place_in, entries_by}
use Rattle.model.specs.PlainScan.{Call, feed, finish, Answer, refused, reported, Kept, nothing_kept, read_of, text_of, piece_of, refusal, after, new_ends, new_entries, scan_from, reported_entries, kept_after}
use Rattle.model.proofs.Truth.{branch, T_false}
use Rattle.model.proofs.Decoding.{joined-append, held_cut, tokens_cut, tokens-finish, taken-all, taken_out}
use Rattle.model.proofs.Places.{Rises, rises_lower, all_rises, placed-append, entries_front, entries_back}

-- ---- lists of numbers that pass a test

all_same : (f g : ℕ → Bool) (n i : ℕ) → ((k : ℕ) → i ≤ k → k < i + n → f k ≡ g k) → all_from f i n ≡ all_from g i n
all_same f g zero i h = refl
all_same f g (suc n) i h =
    ap₂ (λ (b : Bool) (l : List ℕ). cons_if b i l) (h i (omega arith) (omega arith)) (all_same f g n (suc i) (λ k a b. h k (omega arith) (omega arith)))

cons_if-append : (b : Bool) (i : ℕ) (xs ys : List ℕ) → cons_if b i xs ++ ys ≡ cons_if b i (xs ++ ys)
cons_if-append true i xs ys = refl
cons_if-append false i xs ys = refl

all_add : (f : ℕ → Bool) (m n i : ℕ) → all_from f i (m + n) ≡ all_from f i m ++ all_from f (i + m) n
all_add f zero n i = let a : zero + n ≡ n = omega arith in let b : i ≡ i + 0 = omega arith in ap (all_from f i) a ∙ ap (λ (j : ℕ). all_from f j n) b
all_add f (suc m) n i =
    let a : suc m + n ≡ suc (m + n) = omega arith in
    let b : suc i + m ≡ i + suc m = omega arith in
    ap (all_from f i) a
    ∙ ap (cons_if (f i) i) (all_add f m n (suc i) ∙ ap (λ (j : ℕ). all_from f (suc i) m ++ all_from f j n) b)
    ∙ sym (cons_if-append (f i) i (all_from f (suc i) m) (all_from f (i + suc m) n))

-- ---- the ends of a text that grows

module _ (ps : List Position) where
  -- An end looks at no byte after it.
  pub end_local : (t r : List ℕ) (e : ℕ) → e ≤ length t → is_end ps (t ++ r) e ≡ is_end ps t e
  end_local t r e h =
      ap (λ (x : List ℕ). leb e (length (t ++ r)) && any_from (λ s. is_occurrence ps (drop s x)) 0 (suc e)) (take-append-le e t r h)
      ∙ ap (λ (b : Bool). b && any_from (λ s. is_occurrence ps (stretch t s e)) 0 (suc e))
      (le-leb e (length (t ++ r)) (omega (arith, length-append t r)) ∙ sym (le-leb e (length t) h))

  pub new_ends-same : (t : List ℕ) → new_ends ps t t ≡ []
  new_ends-same t = let z : length t - length t ≡ 0 = omega arith in ap (all_from (is_end ps t) (suc (length t))) z

  pub new_ends-append : (t a b : List ℕ) → new_ends ps t (t ++ (a ++ b)) ≡ new_ends ps t (t ++ a) ++ new_ends ps (t ++ a) ((t ++ a) ++ b)
  new_ends-append t a b =
      let u = t ++ a in
      let w = t ++ (a ++ b) in
      let e : u ++ b ≡ w = append_assoc t a b in
      let x : length w - length t ≡ length a + length b = omega (arith, length-append t (a ++ b), length-append a b) in
      let y : length u - length t ≡ length a = omega (arith, length-append t a) in
      let z : length (u ++ b) - length u ≡ length b = omega (arith, length-append u b) in
      let v : suc (length t) + length a ≡ suc (length u) = omega (arith, length-append t a) in
      ap (all_from (is_end ps w) (suc (length t))) x
      ∙ all_add (is_end ps w) (length a) (length b) (suc (length t))
      ∙ ap₂ (λ (l r : List ℕ). l ++ r)
      (all_same (is_end ps w) (is_end ps u) (length a) (suc (length t)) (λ k i j. ap (λ (l : List ℕ). is_end ps l k) (sym e) ∙ end_local u b k (omega (arith, length-append t a)))
      ∙ ap (all_from (is_end ps u) (suc (length t))) (sym y))
      (ap (λ (i : ℕ). all_from (is_end ps w) i (length b)) v
      ∙ ap (all_from (is_end ps w) (suc (length u))) (sym z)
      ∙ ap (λ (l : List ℕ). all_from (is_end ps l) (suc (length u)) (length (u ++ b) - length u)) (sym e))

  -- New ends rise, from past the old text up to the new text's end.
  pub new_ends-past : (t a : List ℕ) → Rises (length t) (length t + length a) (new_ends ps t (t ++ a))
  new_ends-past t a =
      let n : length a ≡ length (t ++ a) - length t = omega (arith, length-append t a) in
      subst (λ (m : ℕ). Rises (length t) (length t + length a) (all_from (is_end ps (t ++ a)) (suc (length t)) m)) n (all_rises (is_end ps (t ++ a)) (length a) (length t))

-- ---- what an accepted call does to the text

module _ (limit : ℕ) where
  -- What a call lets out, from the held tail, and what is held then. "The finish lets it through as it came": byte by byte.
  pub record Through : Type 0 where
    pub out : List Token
    pub held : List ℕ

  abbrev pub through : (held : List ℕ) → Call → Through
  through held (feed piece n) = record { out = out_tokens limit (held ++ piece); held = held_tail limit (held ++ piece) }
  through held (finish n) = record { out = byte_tokens held; held = [] }

  -- The tokens of the text: that is what they give, and raw places are what they take.
  abbrev pub tokens_of : Kept → List Token
  tokens_of k = tokens_from limit 0 (read_of limit k)

  open_tokens : (k : Kept) → k.finished ≡ false → tokens_of k ≡ out_tokens limit k.taken
  open_tokens k e = ap (λ (b : Bool). tokens_from limit 0 (cond b k.taken (without_tail limit k.taken))) e

  pub tokens_grow : (k : Kept) (c : Call) → k.finished ≡ false → tokens_of (after c k) ≡ tokens_of k ++ (through (held_tail limit k.taken) c).out
  tokens_grow k (feed piece n) e =
      tokens_cut limit k.taken piece ∙ ap (λ (l : List Token). l ++ out_tokens limit (held_tail limit k.taken ++ piece)) (sym (open_tokens k e))
  tokens_grow k (finish n) e = tokens-finish limit k.taken ∙ ap (λ (l : List Token). l ++ byte_tokens (held_tail limit k.taken)) (sym (open_tokens k e))

  pub text_grows : (k : Kept) (c : Call) → k.finished ≡ false → text_of limit (after c k) ≡ text_of limit k ++ joined (through (held_tail limit k.taken) c).out
  text_grows k c e = ap joined (tokens_grow k c e) ∙ joined-append (tokens_of k) (through (held_tail limit k.taken) c).out

  -- The raw bytes read are those taken without those held, and never more than those taken.
  pub read_count : (k : Kept) → k.finished ≡ false → taken (tokens_of k) ≡ length k.taken - length (held_tail limit k.taken)
  read_count k e = omega (arith, ap taken (open_tokens k e), taken_out limit k.taken)

  pub read_within : (k : Kept) → taken (tokens_of k) ≤ length k.taken
  read_within k = go k.finished
    where
      go : (b : Bool) → taken (tokens_from limit 0 (cond b k.taken (without_tail limit k.taken))) ≤ length k.taken
      go true = let t = taken-all limit k.taken 0 (omega arith) in omega arith
      go false = omega (arith, taken_out limit k.taken)

  pub not_finished : (k : Kept) (c : Call) → refusal limit k.finished (length k.taken) c ≡ 0 → k.finished ≡ false
  not_finished k c e = branch k.finished e (λ t q. absurd (omega arith)) (λ t q. T_false k.finished (λ u. T_not k.finished t u))

  -- ---- one call of the plain scan

  module _ (ps : List Position) (k : Kept) (c : Call) (cs : List Call) where
    pub scan_accepts : refusal limit k.finished (length k.taken) c ≡ 0
        → scan_from limit ps k (c ∷ cs) ≡ reported (new_entries limit ps k c) ∷ scan_from limit ps (after c k) cs
    scan_accepts q = rw (q, scan_from)

    pub scan_refuses : (n : ℕ) → refusal limit k.finished (length k.taken) c ≡ suc n → scan_from limit ps k (c ∷ cs) ≡ refused (suc n) ∷ scan_from limit ps k cs
    scan_refuses n q = rw (q, scan_from)

  module _ (k : Kept) (c : Call) (cs : List Call) where
    kept-accepts : refusal limit k.finished (length k.taken) c ≡ 0 → kept_after limit k (c ∷ cs) ≡ kept_after limit (after c k) cs
    kept-accepts q = rw (q, kept_after)

    kept-refuses : (n : ℕ) → refusal limit k.finished (length k.taken) c ≡ suc n → kept_after limit k (c ∷ cs) ≡ kept_after limit k cs
    kept-refuses n q = rw (q, kept_after)

  -- ---- all the calls together

  record Grown (ps : List Position) (k : Kept) (cs : List Call) : Type 0 where
    more : List Token
    tokens : tokens_of (kept_after limit k cs) ≡ tokens_of k ++ more
    entries : reported_entries (scan_from limit ps k cs) ≡ entries_by 0 0 (tokens_of k ++ more) (new_ends ps (text_of limit k) (text_of limit k ++ joined more))

  grown : (ps : List Position) (cs : List Call) (k : Kept) → Grown ps k cs
  grown ps [] k =
      let n = append-nil (tokens_of k) in
      let t = append-nil (text_of limit k) in
      record {
        more = [];
        tokens = sym n;
        entries = sym (ap (λ (l : List ℕ). entries_by 0 0 (tokens_of k ++ []) (new_ends ps (text_of limit k) l)) t ∙ ap (entries_by 0 0 (tokens_of k ++ [])) (new_ends-same ps (text_of limit k)));
      }
  grown ps (c ∷ cs) k = go (refusal limit k.finished (length k.taken) c) refl (grown ps cs)
    where
      go : (r : ℕ) → refusal limit k.finished (length k.taken) c ≡ r → ((k : Kept) → Grown ps k cs) → Grown ps k (c ∷ cs)
      go zero q ih =
          let out = (through (held_tail limit k.taken) c).out in
          let t = text_of limit k in
          let ts = tokens_of k in
          let d : tokens_of (after c k) ≡ ts ++ out = tokens_grow k c (not_finished k c q) in
          let e : text_of limit (after c k) ≡ t ++ joined out = text_grows k c (not_finished k c q) in
          let g = ih (after c k) in
          let us = g.more in
          let N : List ℕ = new_ends ps t (t ++ joined out) in
          let M : List ℕ = new_ends ps (t ++ joined out) ((t ++ joined out) ++ joined us) in
          let z : 0 + length (joined (ts ++ out)) ≡ length t + length (joined out) = omega (arith, ap length (joined-append ts out), length-append t (joined out)) in
          let up : Rises 0 (0 + length (joined (ts ++ out))) N = subst (λ (l : ℕ). Rises 0 l N) (sym z) (rises_lower N 0 (length t) (length t + length (joined out)) (omega arith) (new_ends-past ps t (joined out))) in
          let one : new_entries limit ps k c ≡ entries_by 0 0 ((ts ++ out) ++ us) N =
          ap₂ (λ (l : List Token) (x : List ℕ). entries_by 0 0 l (new_ends ps t x)) d e ∙ sym (entries_front 0 0 (ts ++ out) us N up) in
          let two : reported_entries (scan_from limit ps (after c k) cs) ≡ entries_by 0 0 ((ts ++ out) ++ us) M =
          g.entries ∙ ap₂ (λ (l : List Token) (x : List ℕ). entries_by 0 0 (l ++ us) (new_ends ps x (x ++ joined us))) d e in
          let a : (ts ++ out) ++ us ≡ ts ++ (out ++ us) = append_assoc ts out us in
          record {
            more = out ++ us;
            tokens = ap tokens_of (kept-accepts k c cs q) ∙ g.tokens ∙ ap (λ (l : List Token). l ++ us) d ∙ a;
            entries =
                ap reported_entries (scan_accepts ps k c cs q)
                ∙ ap₂ (λ (x y : List Entry). x ++ y) one two
                ∙ sym (placed-append (place_in 0 (places_by 0 ((ts ++ out) ++ us))) N M)
                ∙ ap (λ (l : List Token). entries_by 0 0 l (N ++ M)) a
                ∙ ap (entries_by 0 0 (ts ++ (out ++ us))) (sym (new_ends-append ps t (joined out) (joined us)) ∙ ap (λ (x : List ℕ). new_ends ps t (t ++ x)) (sym (joined-append out us)));
          }
      go (suc n) q ih =
          let g = ih k in
          record {
            more = g.more;
            tokens = ap tokens_of (kept-refuses k c cs n q) ∙ g.tokens;
            entries = ap reported_entries (scan_refuses ps k c cs n q) ∙ g.entries;
          }

  -- "The ends reported are those of all the calls in order": the ends, above 0, of the text so far, each with its raw count.
  pub all_entries : (ps : List Position) (cs : List Call)
      → reported_entries (scan_from limit ps nothing_kept cs) ≡ entries_by 0 0 (tokens_of (kept_after limit nothing_kept cs)) (new_ends ps [] (text_of limit (kept_after limit nothing_kept cs)))
  all_entries ps cs =
      let g = grown ps cs nothing_kept in
      g.entries ∙ ap (λ (l : List Token). entries_by 0 0 l (new_ends ps [] (joined l))) (sym g.tokens)

  -- After an accepted finish that text is the decoded plan.
  pub finished_entries : (ps : List Position) (cs : List Call) → (kept_after limit nothing_kept cs).finished ≡ true
      → reported_entries (scan_from limit ps nothing_kept cs)
      ≡ entries_by 0 0 (tokens_from limit 0 (kept_after limit nothing_kept cs).taken) (new_ends ps [] (decode limit (kept_after limit nothing_kept cs).taken))
  finished_entries ps cs e =
      let k = kept_after limit nothing_kept cs in
      all_entries ps cs
      ∙ ap (λ (l : List ℕ). entries_by 0 0 (tokens_from limit 0 l) (new_ends ps [] (decode limit l))) (ap (λ (b : Bool). cond b k.taken (without_tail limit k.taken)) e)

-- ---- a scanner, with states of any kind

pub record Scanner (S : Type 0) : Type 0 where
  pub taken : ℕ
  pub held : List ℕ
  pub state : S
  pub decoded : ℕ
  pub finished : Bool

abbrev pub opened : {S : Type 0} → S → Scanner S
opened s = record { taken = 0; held = []; state = s; decoded = 0; finished = false }

module _ (limit : ℕ) (S : Type 0) (step : S → ℕ → S) (top : S → Bool) where
  abbrev pub run : S → List ℕ → S
  run s [] = s
  run s (c ∷ cs) = run (step s c) cs

  -- The ends among bytes that are read in state s, after n others.
  abbrev pub ends_in : S → (n : ℕ) → List ℕ → List ℕ
  ends_in s n [] = []
  ends_in s n (c ∷ cs) = cons_if (top (step s c)) (suc n) (ends_in (step s c) (suc n) cs)

  abbrev pub finishes : Call → Bool
  finishes (feed piece n) = false
  finishes (finish n) = true

  -- After an accepted call.
  abbrev pub moved : Scanner S → Call → Scanner S
  moved s c =
      let f = through limit s.held c in
      record {
        taken = s.taken + length (piece_of c);
        held = f.held;
        state = run s.state (joined f.out);
        decoded = s.decoded + length (joined f.out);
        finished = finishes c;
      }

  -- What it reports: the ends in what the call lets out, with their raw counts; before that come the bytes decoded, and the raw bytes read.
  abbrev pub reports : Scanner S → Call → List Entry
  reports s c =
      let out = (through limit s.held c).out in
      entries_by s.decoded (s.taken - length s.held) out (ends_in s.state s.decoded (joined out))

  abbrev pub scanner_from : Scanner S → List Call → List Answer
  scanner_from s [] = []
  scanner_from s (c ∷ cs) = elim (refusal limit s.finished s.taken c) [
    | zero ↦ reported (reports s c) ∷ scanner_from (moved s c) cs
    | suc n ↦ refused (suc n) ∷ scanner_from s cs
  ]

  -- It answers as the plain scan where a state means a text: a step means one byte more, and the top bit that an occurrence ends there.
  module _ (ps : List Position) (Means : S → List ℕ → Type 0) (steps : (s : S) (t : List ℕ) (c : ℕ) → Means s t → Means (step s c) (t ++ (c ∷ [])))
      (tells : (s : S) (t : List ℕ) → Means s t → top s ≡ is_end ps t (length t)) where
    run-means : (cs t : List ℕ) (s : S) → Means s t → Means (run s cs) (t ++ cs)
    run-means [] t s m = rw append-nil m
    run-means (c ∷ cs) t s m = rw append_assoc at (run-means cs (t ++ (c ∷ [])) (step s c) (steps s t c m))

    ends_in_are : (cs t : List ℕ) (s : S) → Means s t → ends_in s (length t) cs ≡ new_ends ps t (t ++ cs)
    ends_in_are [] t s m = sym (ap (new_ends ps t) (append-nil t) ∙ new_ends-same ps t)
    ends_in_are (c ∷ cs) t s m =
        let u = t ++ (c ∷ []) in
        let l : length u ≡ suc (length t) = omega (arith, length-append t (c ∷ [])) in
        let n : length u - length t ≡ 1 = omega arith in
        let one : new_ends ps t u ≡ cons_if (top (step s c)) (suc (length t)) [] =
        ap (all_from (is_end ps u) (suc (length t))) n
        ∙ ap (λ (b : Bool). cons_if b (suc (length t)) []) (ap (is_end ps u) (sym l) ∙ sym (tells (step s c) u (steps s t c m))) in
        let rest : ends_in (step s c) (suc (length t)) cs ≡ new_ends ps u (u ++ cs) = ap (λ (i : ℕ). ends_in (step s c) i cs) (sym l) ∙ ends_in_are cs u (step s c) (steps s t c m) in
        ap (cons_if (top (step s c)) (suc (length t))) rest
        ∙ sym (cons_if-append (top (step s c)) (suc (length t)) [] (new_ends ps u (u ++ cs)))
        ∙ ap (λ (x : List ℕ). x ++ new_ends ps u (u ++ cs)) (sym one)
        ∙ sym (new_ends-append ps t (c ∷ []) cs)

    -- What a scanner knows of what the plain scan keeps.
    record Follows (s : Scanner S) (k : Kept) : Type 0 where
      taken : s.taken ≡ length k.taken
      held : k.finished ≡ false → s.held ≡ held_tail limit k.taken
      state : Means s.state (text_of limit k)
      decoded : s.decoded ≡ length (text_of limit k)
      finished : s.finished ≡ k.finished

    held_after : (k : Kept) (c : Call) → (after c k).finished ≡ false → (through limit (held_tail limit k.taken) c).held ≡ held_tail limit (after c k).taken
    held_after k (feed piece n) h = sym (held_cut limit k.taken piece)
    held_after k (finish n) h = absurd (true≢false h)

    taken-after : (k : Kept) (c : Call) → length (after c k).taken ≡ length k.taken + length (piece_of c)
    taken-after k (feed piece n) = length-append k.taken piece
    taken-after k (finish n) = omega arith

    finished-after : (k : Kept) (c : Call) → finishes c ≡ (after c k).finished
    finished-after k (feed piece n) = refl
    finished-after k (finish n) = refl

    module _ (s : Scanner S) (k : Kept) (c : Call) (f : Follows s k) (e : k.finished ≡ false) where
      out : List Token
      out = (through limit s.held c).out

      tokens : tokens_of limit (after c k) ≡ tokens_of limit k ++ out
      unfolding out
      tokens = tokens_grow limit k c e ∙ ap (λ (h : List ℕ). tokens_of limit k ++ (through limit h c).out) (sym (f.held e))

      grows : text_of limit (after c k) ≡ text_of limit k ++ joined out
      grows = ap joined tokens ∙ joined-append (tokens_of limit k) out

      follows_moved : Follows (moved s c) (after c k)
      unfolding out
      follows_moved =
          let a = f.taken in
          let b = f.decoded in
          record {
            taken = omega (arith, taken-after k c);
            held = λ h. ap (λ (x : List ℕ). (through limit x c).held) (f.held e) ∙ held_after k c h;
            state = subst (λ (l : List ℕ). Means (run s.state (joined out)) l) (sym grows) (run-means (joined out) (text_of limit k) s.state f.state);
            decoded = omega (arith, ap length grows, length-append (text_of limit k) (joined out));
            finished = finished-after k c;
          }

      ends_are : ends_in s.state s.decoded (joined out) ≡ new_ends ps (text_of limit k) (text_of limit k ++ joined out)
      ends_are = ap (λ (i : ℕ). ends_in s.state i (joined out)) f.decoded ∙ ends_in_are (joined out) (text_of limit k) s.state f.state

      answers : reports s c ≡ new_entries limit ps k c
      unfolding out
      answers =
          let t = text_of limit k in
          let N : List ℕ = new_ends ps t (t ++ joined out) in
          let a = f.taken in
          let at : s.decoded ≡ 0 + length t = omega (arith, f.decoded) in
          let raw : s.taken - length s.held ≡ 0 + taken (tokens_of limit k) = omega (arith, ap length (f.held e), read_count limit k e) in
          ap (entries_by s.decoded (s.taken - length s.held) out) ends_are
          ∙ ap₂ (λ (i r : ℕ). entries_by i r out N) at raw
          ∙ sym (entries_back 0 0 (tokens_of limit k) out N (length t + length (joined out)) (subst (λ (i : ℕ). Rises i (length t + length (joined out)) N) (sym (zero-add (length t))) (new_ends-past ps t (joined out))))
          ∙ ap₂ (λ (l : List Token) (x : List ℕ). entries_by 0 0 l (new_ends ps t x)) (sym tokens) (sym grows)

    refusals : (s : Scanner S) (k : Kept) (c : Call) → Follows s k → refusal limit s.finished s.taken c ≡ refusal limit k.finished (length k.taken) c
    refusals s k c f = ap₂ (λ (b : Bool) (n : ℕ). refusal limit b n c) f.finished f.taken

    scanner_accepts : (s : Scanner S) (c : Call) (cs : List Call) → refusal limit s.finished s.taken c ≡ 0
        → scanner_from s (c ∷ cs) ≡ reported (reports s c) ∷ scanner_from (moved s c) cs
    scanner_accepts s c cs q = rw (q, scanner_from)

    scanner_refuses : (s : Scanner S) (c : Call) (cs : List Call) (n : ℕ) → refusal limit s.finished s.taken c ≡ suc n → scanner_from s (c ∷ cs) ≡ refused (suc n) ∷ scanner_from s cs
    scanner_refuses s c cs n q = rw (q, scanner_from)

    agrees : (cs : List Call) (s : Scanner S) (k : Kept) → Follows s k → scanner_from s cs ≡ scan_from limit ps k cs
    agrees [] s k f = refl
    agrees (c ∷ cs) s k f = go (refusal limit k.finished (length k.taken) c) refl (agrees cs)
      where
        go : (r : ℕ) → refusal limit k.finished (length k.taken) c ≡ r → ((s : Scanner S) (k : Kept) → Follows s k → scanner_from s cs ≡ scan_from limit ps k cs)
            → scanner_from s (c ∷ cs) ≡ scan_from limit ps k (c ∷ cs)
        go zero q ih =
            let e = not_finished limit k c q in
            scanner_accepts s c cs (refusals s k c f ∙ q)
            ∙ ap₂ (λ (a : List Entry) (l : List Answer). reported a ∷ l) (answers s k c f e) (ih (moved s c) (after c k) (follows_moved s k c f e))
            ∙ sym (scan_accepts limit ps k c cs q)
        go (suc n) q ih =
            scanner_refuses s c cs n (refusals s k c f ∙ q)
            ∙ ap (λ (l : List Answer). refused (suc n) ∷ l) (ih s k f)
            ∙ sym (scan_refuses limit ps k c cs n q)

    -- The claim about the whole list of calls.
    pub scanner_is-plain : (s : S) → Means s [] → (cs : List Call) → scanner_from (opened s) cs ≡ scan_from limit ps nothing_kept cs
    scanner_is-plain s m cs = agrees cs (opened s) nothing_kept (record { taken = refl; held = λ e. refl; state = m; decoded = refl; finished = refl })
