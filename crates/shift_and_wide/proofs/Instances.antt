-- From the step over the number of words: the step of the model's law where the masks are those of a list of positions; one word; and four. Assumes nothing.
use Rattle.std.proofs.Common.{◌≡◌, ℕ, zero, suc, ◌+◌, ◌*◌, ◌^◌, ◌<◌, ◌≤◌, Bool, true, false, List, [], ◌∷◌, ◌++◌, length, sym, refl, ap, ◌∙◌, subst, ap₂, add-zero, mod-eq_of_lt, one-mul, arith, pow_pos}
use lib.Arith.{digits_mod}
use lib.Bits.{bit_and}
use Rattle.model.specs.Occurrence.{Position, one_if, cons_if, is_end}
use Rattle.model.specs.PlainScan.{Call, nothing_kept, scan_from}
use Rattle.model.proofs.Scans.{opened, scanner_from, scanner_is-plain}
use Rattle.shift_and.specs.ForwardStep.{flood, advance, block_starts, block_ends, opening, top_bit}
use Rattle.shift_and.specs.Automaton.{Automaton, step_with, step_on, state_after, ends_in}
use Rattle.shift_and.specs.Masks.{mask, Encodes}
use Rattle.shift_and.proofs.MaskLaws.{mask_fits}
use Rattle.shift_and.proofs.Bridge.{Scanned, Anchored, scanned_open, scanned_step, scanned_top, anchored_step}
use Rattle.shift_and_wide.specs.declared.Wide.{Wide}
use Rattle.shift_and_wide.specs.ManyWords.{value, Words, move_words, flood_words, starts_words, ends_words, step_words}
use Rattle.shift_and_wide.specs.Wides.{words, number, moved, flooded, starts_of, ends_of, stepped, opening_of}
use Rattle.shift_and_wide.specs.Stepping.{WideAutomaton, numbered, step_on_w, opening_state_w, accepts_w, state_after_w, ends_in_w}
use Rattle.shift_and_wide.proofs.Wides.{top-number}
use Rattle.shift_and_wide.proofs.OverWords.{moves-words, floods_words, value-one, step_words_lem, floods_value, starts-value, ends-value, starts-words, ends_words_lem}

bit-lt : (w : ℕ) (k : Bool) → 1 ≤ w → one_if k < 2 ^ w
bit-lt zero k h = absurd (omega arith)
bit-lt (suc w) true h = let p = pow_pos w in omega arith
bit-lt (suc w) false h = pow_pos (suc w)

-- ---- any number of words: the table gives the words of each byte's entry

-- the automaton of n words of w bits, on numbers of n * w bits
abbrev pub words_automaton : (w n : ℕ) (table : ℕ → List ℕ) (rs qs : List ℕ) (top : ℕ) → Automaton
words_automaton w n table rs qs top = record { width = n * w; table = λ c. value w n (table c); repeats = value w n rs; optional = value w n qs; top = top }

module _ (w n : ℕ) (hw : 1 ≤ w) (table : ℕ → List ℕ) (rs qs : List ℕ) (top : ℕ) (ht : (c : ℕ) → Words w (suc n) (table c)) (hr : Words w (suc n) rs) (hq : Words w (suc n) qs) where
  pub words-on-byte : (k : Bool) (ds : List ℕ) (c : ℕ) → Words w (suc n) ds
      → value w (suc n) (step_words w (suc n) (one_if k) ds (table c) rs qs) ≡ step_on (words_automaton w (suc n) table rs qs top) (one_if k) (value w (suc n) ds) c
  unfolding step_with
  words-on-byte k ds c hd = step_words_lem w n (one_if k) ds (table c) rs qs hw (bit-lt w k hw) hd (ht c) hr hq

  module _ (ps : List Position) (e : Encodes (words_automaton w (suc n) table rs qs top) ps) where
    pub words_scanned : (t ds : List ℕ) (c : ℕ) → Words w (suc n) ds → Scanned ps t (value w (suc n) ds)
        → Scanned ps (t ++ (c ∷ [])) (value w (suc n) (step_words w (suc n) (one_if true) ds (table c) rs qs))
    words_scanned t ds c hd s =
        subst (λ (x : ℕ). Scanned ps (t ++ (c ∷ [])) x) (sym (words-on-byte true ds c hd)) (scanned_step (words_automaton w (suc n) table rs qs top) ps e t (value w (suc n) ds) c s)

    pub words_anchored : (t ds : List ℕ) (c : ℕ) → Words w (suc n) ds → Anchored ps t (value w (suc n) ds)
        → Anchored ps (t ++ (c ∷ [])) (value w (suc n) (step_words w (suc n) (one_if false) ds (table c) rs qs))
    words_anchored t ds c hd s =
        subst (λ (x : ℕ). Anchored ps (t ++ (c ∷ [])) x) (sym (words-on-byte false ds c hd)) (anchored_step (words_automaton w (suc n) table rs qs top) ps e t (value w (suc n) ds) c s)

-- ---- one word

pub one_word : (w k d b r a : ℕ) → 1 ≤ w → k < 2 ^ w → d < 2 ^ w → b < 2 ^ w → r < 2 ^ w → a < 2 ^ w
    → step_words w 1 k (d ∷ []) (b ∷ []) (r ∷ []) (a ∷ []) ≡ advance w d b (bit_and b r) k a (block_starts w a) (block_ends w a) ∷ []
unfolding step_words flood_words move_words starts_words ends_words
one_word w k d b r a hw hk hd hb hr ha =
    ap (λ (x : ℕ). x ∷ [])
    (sym (value-one w _) ∙ step_words_lem w 0 k (d ∷ []) (b ∷ []) (r ∷ []) (a ∷ []) hw hk (hd, tt) (hb, tt) (hr, tt) (ha, tt)
    ∙ rw (value-one w d, value-one w b, value-one w r, value-one w a, one-mul w))

-- ---- four

pub stepped-number : (d b r q : Wide) (k : ℕ) → k < 2 ^ 64 → Words 64 4 (words d) → Words 64 4 (words b) → Words 64 4 (words r) → Words 64 4 (words q)
    → number (stepped d b r q k)
    ≡ advance 256 (number d) (number b) (bit_and (number b) (number r)) k (number q) (block_starts 256 (number q)) (block_ends 256 (number q))
unfolding number stepped flooded moved starts_of ends_of step_words flood_words move_words starts_words ends_words
stepped-number d b r q k hk hd hb hr hq = step_words_lem 64 3 k (words d) (words b) (words r) (words q) (omega arith) hk hd hb hr hq

pub opening-number : (q : Wide) → Words 64 4 (words q) → number (opening_of q) ≡ opening 256 (number q)
unfolding value number opening_of flooded starts_of ends_of flood_words starts_words ends_words opening
opening-number q hq =
    floods_value 64 4 0 (1 ∷ 0 ∷ 0 ∷ 0 ∷ []) (words q) (starts_words 64 4 (words q)) (ends_words 64 4 (words q)) (omega arith)
    (omega arith, (omega arith, (omega arith, (omega arith, tt)))) hq (starts-words 64 4 (words q)) (ends_words_lem 64 4 (words q) hq)
    ∙ ap₂ (λ (i f : ℕ). flood 256 1 (value 64 4 (words q)) i f) (add-zero _ ∙ starts-value 64 4 (words q) (omega arith) hq) (ends-value 64 4 (words q) (omega arith) hq)

-- ---- a whole list of calls in four words is the plain scan

pub stepped-words : (d b r q : Wide) (k : ℕ) → k < 2 ^ 64 → Words 64 4 (words b) → Words 64 4 (words q) → Words 64 4 (words (stepped d b r q k))
unfolding stepped flooded moved flood_words move_words starts_of ends_of
stepped-words d b r q k hk hb hq =
    floods_words 64 4 0 (words (moved d b r k)) (words q) (words (starts_of q)) (words (ends_of q))
    (moves-words 64 4 0 (words d) (words b) (words r) (k ∷ []) hb (hk, (pow_pos 64, (pow_pos 64, (pow_pos 64, tt))))) hq

opening-words : (q : Wide) → Words 64 4 (words q) → Words 64 4 (words (opening_of q))
unfolding opening_of flooded flood_words starts_of ends_of
opening-words q hq =
    floods_words 64 4 0 (1 ∷ 0 ∷ 0 ∷ 0 ∷ []) (words q) (words (starts_of q)) (words (ends_of q)) (omega arith, (pow_pos 64, (pow_pos 64, (pow_pos 64, tt)))) hq

-- its words are words
pub record Fits (A : WideAutomaton) : Type 0 where
  pub table : (c : ℕ) → Words 64 4 (words (A.entry c))
  pub again : Words 64 4 (words A.repeats)
  pub free : Words 64 4 (words A.optional)

module _ (A : WideAutomaton) (h : Fits A) where
  -- one step, and all the bytes, on numbers
  pub step_number : (d : Wide) (c : ℕ) → Words 64 4 (words d) → number (step_on_w A d c) ≡ step_on (numbered A) 1 (number d) c
  unfolding step_with
  step_number d c hd = stepped-number d (A.entry c) A.repeats A.optional 1 (omega arith) hd (h.table c) h.again h.free

  step_fits : (d : Wide) (c : ℕ) → Words 64 4 (words (step_on_w A d c))
  step_fits d c = stepped-words d (A.entry c) A.repeats A.optional 1 (omega arith) (h.table c) h.free

  pub state-number : (d : Wide) (text : List ℕ) → Words 64 4 (words d) → number (state_after_w A d text) ≡ state_after (numbered A) (number d) text
  unfolding state_after_w state_after
  state-number d [] hd = refl
  state-number d (c ∷ cs) hd = state-number (step_on_w A d c) cs (step_fits d c) ∙ ap (λ (x : ℕ). state_after (numbered A) x cs) (step_number d c hd)

  pub ends-number : A.top < 256 → (d : Wide) (at : ℕ) (text : List ℕ) → Words 64 4 (words d) → ends_in_w A d at text ≡ ends_in (numbered A) (number d) at text
  unfolding ends_in_w ends_in
  ends-number ht d at [] hd = refl
  ends-number ht d at (c ∷ cs) hd =
      ap₂ (λ (b : Bool) (es : List ℕ). cons_if b (at + 1) es)
      (top-number A.top (step_on_w A d c) (step_fits d c) ht ∙ ap (top_bit A.top) (step_number d c hd))
      (ends-number ht (step_on_w A d c) (at + 1) cs (step_fits d c) ∙ ap (λ (x : ℕ). ends_in (numbered A) x (at + 1) cs) (step_number d c hd))

  -- what a state says of the text read
  module _ (ps : List Position) (e : Encodes (numbered A) ps) where
    abbrev pub Says : (d : Wide) (t : List ℕ) → Type 0
    Says d t = Words 64 4 (words d) × Scanned ps t (number d)

    pub wide-opens : Says (opening_state_w A) []
    wide-opens = (opening-words A.optional h.free, subst (λ (x : ℕ). Scanned ps [] x) (sym (opening-number A.optional h.free)) (scanned_open (numbered A) ps e))

    pub wide-steps : (d : Wide) (t : List ℕ) (c : ℕ) → Says d t → Says (step_on_w A d c) (t ++ (c ∷ []))
    wide-steps d t c s =
        (step_fits d c, subst (λ (x : ℕ). Scanned ps (t ++ (c ∷ [])) x) (sym (step_number d c s.0)) (scanned_step (numbered A) ps e t (number d) c s.1))

    wide-top : (d : Wide) (t : List ℕ) → Says d t → accepts_w A d ≡ is_end ps t (length t)
    wide-top d t s =
        let l = e.fits in
        let n = e.is-top in
        top-number A.top d s.0 (omega arith) ∙ ap (λ (n : ℕ). top_bit n (number d)) e.is-top ∙ scanned_top ps t (number d) s.1

    pub wide-is-plain : (limit : ℕ) (cs : List Call) → scanner_from limit Wide (step_on_w A) (accepts_w A) (opened (opening_state_w A)) cs ≡ scan_from limit ps nothing_kept cs
    wide-is-plain limit cs = scanner_is-plain limit Wide (step_on_w A) (accepts_w A) ps Says wide-steps wide-top (opening_state_w A) wide-opens cs

-- ---- at most 63 positions: the lowest words do alone

low_word : (x : Wide) → x.w0 < 2 ^ 64 → number x < 2 ^ 64 → x.w0 ≡ number x
unfolding number value
low_word x h l = sym (digits_mod _ h) ∙ mod-eq_of_lt l

abbrev pub lowest : WideAutomaton → Automaton
lowest A = record { width = 64; table = λ c. (A.entry c).w0; repeats = A.repeats.w0; optional = A.optional.w0; top = A.top }

pub encodes_low : (A : WideAutomaton) (ps : List Position) → Fits A → Encodes (numbered A) ps → length ps < 64 → Encodes (lowest A) ps
encodes_low A ps h e l =
    let t : (f : Position → Bool) (x : Wide) → x.w0 < 2 ^ 64 → number x ≡ mask f ps → x.w0 ≡ mask f ps =
    λ f x h k. low_word x h (subst (λ (y : ℕ). y < 2 ^ 64) (sym k) (mask_fits 64 f ps l)) ∙ k in
    record {
      fits = l;
      is-table = λ c. t (λ p. p.set c) (A.entry c) (h.table c).0 (e.is-table c);
      is-repeats = t (λ p. p.repeats) A.repeats h.again.0 e.is-repeats;
      is-optional = t (λ p. p.optional) A.optional h.free.0 e.is-optional;
      is-top = e.is-top;
    }
