-- A table whose codes' entries are unions is that of the positions read by fit. On plain values. Assumes nothing.
use mathlib.Core.Path.{◌≡◌, refl, sym, ap, ap₂, subst, ◌∙◌}
use mathlib.Core.Bool.{Bool, true, false, not, cond, ◌&&◌, ◌||◌, or-false}
use mathlib.Core.Logic.{◌≢◌, ◌⊎◌, inl, inr}
use mathlib.Core.List.{List, [], ◌∷◌, ◌++◌, append_assoc}
use Prim.Native.Nat.{ℕ, zero, suc, ◌+◌, ◌-◌, ◌*◌, ◌≤◌, ◌<◌}
use native.Mathlib.Omega.{arith}
use native.Mathlib.Decide.{ℕ_discrete}
use native.Mathlib.Numerals.{add-one}
use native.Mathlib.Nat.{zero-add, le_of_suc-le-suc, not-suc-le-zero}
use lib.Bits.{bit_or}
use lib.Dec.{eqb, eqb→eq}
use lib.ListN.{length, get_or, set, take, drop, length-set, length-append, length-drop}
use lib.Seq.{take-suc, take_all, drop-cons, drop_at, drop-drop, length-take-le, get_or-set_same, get_or-set_other}
use borrow.Author.Tests.{eq-eqb}
use borrow.Rule.Slice.PartMut.{mid_of, put_mid, mid_len, same_len_mid}
use Rattle.model.specs.Occurrence.{Position}
use Rattle.model.specs.RuleText.{fold_flag, one_of, some_below}
use Rattle.model.specs.NumberedAnswers.{rule_positions}
use Rattle.model.specs.Codes.{set_bytes, in_set, share, codes_of, fitting, named_twice, set_wrong, sets_wrong, codes_wrong}
use Rattle.model.proofs.Truth.{T-to, T_false, and_intro, or_false_left, or_false_right}
use Rattle.model.proofs.Below.{some_out}
use Rattle.model.proofs.Fitting.{fitting-length, fitting-reverse}
use Rattle.shift_and.specs.Masks.{admits_mask}
use Rattle.shift_and_wide.specs.Wides.{word_of}
use Rattle.shift_and_wide.proofs.Masks.{word_or}
use Rattle.rule_table.specs.Tables.{plane_of, table_of, row_of, Counted, PlaneFilled, Filled}
use Rattle.rule_table.proofs.FillLaws.{zero_word, entry_at, plane_is, none_above, planes_below, four_planes, row-length, counted-length, plane_put}
use Rattle.rule_table.proofs.Encoded.{plane_at}
use Rattle.std.specs.Slice.Iter.{iter_rest, chunks_exact_rest, chunks_exact_size}
use Rattle.std.specs.Iterator.Adapters.{zip_first, zip_second}
use Rattle.std.specs.declared.slice.ChunksExact.{ChunksExact}
use Rattle.std.specs.declared.slice.Iter.{Iter}
use Rattle.std.specs.declared.iter.Zip.{Zip}
use Rattle.std.proofs.lemmas.List.{take_at}
use Rattle.code_list.proofs.CodeLists.{sets-long, named_once, sets_right}
use Rattle.code_table.specs.CodeTables.{union_below, set_at, PlaneFittable, PlaneFits, WordFittable, WordFits, TableFittable, TableFits, PlaneReadable, PlaneFitted, Readable, Fitted}
use Rattle.code_table.proofs.CodeMasks.{share_mask, share_zero, share-more, plain_entry, code-entry}

-- ---- `union_of`

pub record Uniting (plane set : List ℕ) (union x : ℕ) : Type 0 where
  pub within : x ≤ 256
  pub is : union ≡ union_below (in_set set) plane x

module _ (plane set : List ℕ) where
  pub uniting : Uniting plane set 0 0
  unfolding union_below
  uniting = record { within = omega arith; is = refl }

  module _ (union x : ℕ) (g : Uniting plane set union x) where
    more : (b : Bool) → b ≡ in_set set x → cond b (bit_or union (get_or plane x 0)) union ≡ union_below (in_set set) plane (x + 1)
    unfolding union_below
    more b e = ap₂ (λ (c : Bool) (u : ℕ). cond c (bit_or u (get_or plane x 0)) u) e g.is ∙ ap (union_below (in_set set) plane) (sym (add-one x))

    module _ (l : x < 256) (b : Bool) (e : b ≡ in_set set x) where
      pub unite_turn : b ≡ true → Uniting plane set (bit_or union (get_or plane x 0)) (x + 1)
      unite_turn t = record { within = omega arith; is = sym (ap (λ (c : Bool). cond c (bit_or union (get_or plane x 0)) union) t) ∙ more b e }

      pub unite_pass : b ≡ false → Uniting plane set union (x + 1)
      unite_pass f = record { within = omega arith; is = sym (ap (λ (c : Bool). cond c (bit_or union (get_or plane x 0)) union) f) ∙ more b e }

    pub unite_over : 256 ≤ x → union ≡ union_below (in_set set) plane 256
    unite_over h = let w = g.within in let z : x ≡ 256 = omega arith in g.is ∙ ap (union_below (in_set set) plane) z

-- two planes that agree on a set
union_same : (s : ℕ → Bool) (t u : List ℕ) (n : ℕ) → ((x : ℕ) → x < n → s x ≡ true → get_or t x 0 ≡ get_or u x 0) → union_below s t n ≡ union_below s u n
unfolding union_below
union_same s t u zero h = refl
union_same s t u (suc n) h = go (s n) refl (union_same s t u n (λ x l. h x (omega arith)))
  where
    go : (b : Bool) → s n ≡ b → union_below s t n ≡ union_below s u n → cond b (bit_or (union_below s t n) (get_or t n 0)) (union_below s t n) ≡ cond b (bit_or (union_below s u n) (get_or u n 0)) (union_below s u n)
    go true q ih = ap₂ bit_or ih (h n (omega arith) q)
    go false q ih = ih

-- ---- codes that 15 does not refuse

one-append : (xs : List ℕ) (y c : ℕ) → one_of (xs ++ (y ∷ [])) c ≡ (one_of xs c || eqb c y)
one-append [] y c = or-false (eqb c y)
one-append (x ∷ xs) y c = go (eqb c x) (one-append xs y c)
  where
    go : (b : Bool) → one_of (xs ++ (y ∷ [])) c ≡ (one_of xs c || eqb c y) → (b || one_of (xs ++ (y ∷ [])) c) ≡ ((b || one_of xs c) || eqb c y)
    go true ih = refl
    go false ih = ih

-- the first k codes and one more
one_more : (codes : List ℕ) (k c : ℕ) → k < length codes → one_of (take (k + 1) codes) c ≡ (one_of (take k codes) c || eqb c (get_or codes k 0))
one_more codes k c l = ap (λ (j : ℕ). one_of (take j codes) c) (add-one k) ∙ ap (λ (xs : List ℕ). one_of xs c) (take-suc codes k 0 l) ∙ one-append (take k codes) (get_or codes k 0) c

-- no code: none of the first k either
none-taken : (codes : List ℕ) (k c : ℕ) → one_of codes c ≡ false → one_of (take k codes) c ≡ false
none-taken [] zero c e = refl
none-taken [] (suc k) c e = refl
none-taken (d ∷ ds) zero c e = refl
none-taken (d ∷ ds) (suc k) c e = ap₂ (λ (a b : Bool). a || b) (or_false_left (eqb c d) (one_of ds c) e) (none-taken ds k c (or_false_right (eqb c d) (one_of ds c) e))

is_one : (codes : List ℕ) (k : ℕ) → k < length codes → one_of codes (get_or codes k 0) ≡ true
is_one [] k l = absurd (not-suc-le-zero l)
is_one (d ∷ ds) zero l = ap (λ (b : Bool). b || one_of ds d) (eq-eqb d d refl)
is_one (d ∷ ds) (suc k) l = go (eqb (get_or ds k 0) d) (is_one ds k (le_of_suc-le-suc l))
  where
    go : (b : Bool) → one_of ds (get_or ds k 0) ≡ true → (b || one_of ds (get_or ds k 0)) ≡ true
    go true h = refl
    go false h = h

not-true : {A : Type 0} → true ≡ false → A
not-true e = absurd (T-to e tt)

-- "a code is named twice": not these
apart : (codes : List ℕ) (j k : ℕ) → named_twice codes ≡ false → j < k → k < length codes → get_or codes j 0 ≢ get_or codes k 0
apart [] j k n l h = absurd (not-suc-le-zero h)
apart (c ∷ cs) zero zero n l h = absurd (not-suc-le-zero l)
apart (c ∷ cs) zero (suc k) n l h = λ e. not-true (sym (ap (one_of cs) e ∙ is_one cs k (le_of_suc-le-suc h)) ∙ or_false_left (one_of cs c) (named_twice cs) n)
apart (c ∷ cs) (suc j) zero n l h = absurd (not-suc-le-zero l)
apart (c ∷ cs) (suc j) (suc k) n l h = apart cs j k (or_false_right (one_of cs c) (named_twice cs) n) (le_of_suc-le-suc l) (le_of_suc-le-suc h)

-- where a code stands
code-place : (codes : List ℕ) (c : ℕ) → one_of codes c ≡ true → (k : ℕ) × (k < length codes) × (get_or codes k 0 ≡ c)
code-place [] c e = not-true (sym e)
code-place (d ∷ ds) c e = go (eqb c d) refl (code-place ds c)
  where
    go : (b : Bool) → eqb c d ≡ b → (one_of ds c ≡ true → (k : ℕ) × (k < length ds) × (get_or ds k 0 ≡ c)) → (k : ℕ) × (k < suc (length ds)) × (get_or (d ∷ ds) k 0 ≡ c)
    go true q ih = (0, omega arith, sym (eqb→eq c d (T-to (sym q) tt)))
    go false q ih =
        let r = ih (sym (ap (λ (b : Bool). b || one_of ds c) q) ∙ e) in
        let l = r.1 in
        (suc r.0, omega arith, r.2)

module _ (codes sets : List ℕ) (fine : codes_wrong codes sets ≡ false) where
  -- "a set .. holds a code": none does
  set-holds-none : (k : ℕ) → k < length codes → share (in_set (set_at sets k)) (one_of codes) ≡ false
  set-holds-none k l = go codes sets k l (sets_right codes sets fine)
    where
      go : (cs ss : List ℕ) (k : ℕ) → k < length cs → sets_wrong codes (codes_of cs ss) ≡ false → share (in_set (take set_bytes (drop (set_bytes * k) ss))) (one_of codes) ≡ false
      go [] ss k l e = absurd (not-suc-le-zero l)
      go (c ∷ cs) ss zero l e =
          or_false_right (not (some_below (in_set (take set_bytes ss)) 256)) (share (in_set (take set_bytes ss)) (one_of codes))
          (or_false_left (set_wrong codes (take set_bytes ss)) (sets_wrong codes (codes_of cs (drop set_bytes ss))) e)
      go (c ∷ cs) ss (suc k) l e =
          let z : set_bytes + set_bytes * k ≡ set_bytes * suc k = omega arith in
          ap (λ (xs : List ℕ). share (in_set (take set_bytes xs)) (one_of codes)) (sym (drop-drop (set_bytes * k) set_bytes ss ∙ ap (λ (j : ℕ). drop j ss) z))
          ∙ go cs (drop set_bytes ss) k (le_of_suc-le-suc l) (or_false_right (set_wrong codes (take set_bytes ss)) (sets_wrong codes (codes_of cs (drop set_bytes ss))) e)

  pub no_code_in : (k x : ℕ) → k < length codes → x < 256 → in_set (set_at sets k) x ≡ true → one_of codes x ≡ false
  no_code_in k x l h e =
      T_false (one_of codes x) λ t.
      T-to (set-holds-none k l) (some_out (λ y. in_set (set_at sets k) y && one_of codes y) 256 x h (and_intro (in_set (set_at sets k) x) (one_of codes x) (T-to (sym e) tt) t))

-- ---- `fit_plane`: the entries of the first k codes are unions

pub record Fitting (codes sets t₀ t : List ℕ) (k : ℕ) : Type 0 where
  pub within : k ≤ length codes
  pub long : length t ≡ 256
  pub plain : (x : ℕ) → x < 256 → one_of (take k codes) x ≡ false → get_or t x 0 ≡ get_or t₀ x 0
  pub code : (j : ℕ) → j < k → get_or t (get_or codes j 0) 0 ≡ union_below (in_set (set_at sets j)) t₀ 256

-- what the loop goes on with: the codes from k on, and their sets
pub record FittingOn (codes sets t₀ t : List ℕ) (k : ℕ) (it : Zip (Iter ℕ) (ChunksExact ℕ)) : Type 0 where
  pub fitting : Fitting codes sets t₀ t k
  pub codes-left : iter_rest (zip_first it) ≡ drop k codes
  pub size : chunks_exact_size (zip_second it) ≡ set_bytes
  pub sets-left : chunks_exact_rest (zip_second it) ≡ drop (set_bytes * k) sets

module _ (codes sets t₀ : List ℕ) (q : PlaneFittable codes sets t₀) where
  pub fit_begun : (it : Zip (Iter ℕ) (ChunksExact ℕ)) → iter_rest (zip_first it) ≡ codes → chunks_exact_size (zip_second it) ≡ set_bytes → chunks_exact_rest (zip_second it) ≡ sets
      → FittingOn codes sets t₀ t₀ 0 it
  fit_begun it a z b = record {
    fitting = record { within = omega arith; long = q.long; plain = λ x l e. refl; code = λ j l. absurd (not-suc-le-zero l) };
    codes-left = a;
    size = z;
    sets-left = b;
  }

  module _ (t : List ℕ) (k : ℕ) (it : Zip (Iter ℕ) (ChunksExact ℕ)) (on : FittingOn codes sets t₀ t k it) where
    abbrev g : Fitting codes sets t₀ t k
    g = on.fitting

    over : length codes ≤ k → PlaneFits codes sets t₀ t
    over h = let w = g.within in record {
      long = g.long;
      plain = λ x l e. g.plain x l (none-taken codes k x e);
      code = λ j l. g.code j (omega arith);
    }

    -- the codes end, and their sets with them
    pub fit_over : (length (iter_rest (zip_first it)) ≡ 0) ⊎ (length (chunks_exact_rest (zip_second it)) < chunks_exact_size (zip_second it)) → PlaneFits codes sets t₀ t
    fit_over (inl e) = over (omega (arith, length-drop k codes, ap length on.codes-left, e))
    fit_over (inr l) = over (omega (arith, l, on.size, ap length on.sets-left, length-drop (set_bytes * k) sets, sets-long codes sets q.fine))

    module _ (it' : Zip (Iter ℕ) (ChunksExact ℕ)) (c : ℕ) (e : iter_rest (zip_first it) ≡ c ∷ iter_rest (zip_first it')) (set-k : List ℕ)
        (z : chunks_exact_size (zip_second it') ≡ chunks_exact_size (zip_second it)) (es : chunks_exact_rest (zip_second it) ≡ set-k ++ chunks_exact_rest (zip_second it'))
        (n : length set-k ≡ chunks_exact_size (zip_second it)) where
      l : k < length codes
      l = omega (arith, length-drop k codes, ap length (sym on.codes-left ∙ e))

      next : get_or codes k 0 ∷ drop (suc k) codes ≡ c ∷ iter_rest (zip_first it')
      next = sym (drop-cons codes k 0 l) ∙ sym on.codes-left ∙ e

      ec : c ≡ get_or codes k 0
      ec = sym (ap (λ (xs : List ℕ). get_or xs 0 0) next)

      set_is : set-k ≡ set_at sets k
      set_is = sym (take_at set-k (chunks_exact_rest (zip_second it')) set_bytes (n ∙ on.size)) ∙ ap (take set_bytes) (sym es ∙ on.sets-left)

      module _ (u : ℕ) (eu : u ≡ union_below (in_set set-k) t 256) (bytes : (i : ℕ) → get_or codes i 0 < 256) where
        union_is : u ≡ union_below (in_set (set_at sets k)) t₀ 256
        union_is =
            eu ∙ ap (λ (s : List ℕ). union_below (in_set s) t 256) set_is
            ∙ union_same (in_set (set_at sets k)) t t₀ 256 (λ x h e. g.plain x h (none-taken codes k x (no_code_in codes sets q.fine k x l h e)))

        fitted-more : Fitting codes sets t₀ (set t c u) (k + 1)
        fitted-more = record {
          within = omega (arith, l);
          long = length-set t c u ∙ g.long;
          plain = λ x h e.
              let f : (one_of (take k codes) x || eqb x (get_or codes k 0)) ≡ false = sym (one_more codes k x l) ∙ e in
              let n : x ≢ c = λ z. not-true (sym (eq-eqb x (get_or codes k 0) (z ∙ ec)) ∙ or_false_right (one_of (take k codes) x) (eqb x (get_or codes k 0)) f) in
              get_or-set_other t c x u 0 n ∙ g.plain x h (or_false_left (one_of (take k codes) x) (eqb x (get_or codes k 0)) f);
          code = λ j h. elim (ℕ_discrete j k) [
            | yes e ↦
                ap (λ (i : ℕ). get_or (set t c u) (get_or codes i 0) 0) e ∙ ap (λ (i : ℕ). get_or (set t c u) i 0) (sym ec)
                ∙ get_or-set_same t c u 0 (omega (arith, g.long, ec, bytes k)) ∙ union_is ∙ ap (λ (i : ℕ). union_below (in_set (set_at sets i)) t₀ 256) (sym e)
            | no e ↦
                let m : j < k = omega arith in
                get_or-set_other t c (get_or codes j 0) u 0 (λ z. apart codes j k (named_once codes sets q.fine) m l (z ∙ ec)) ∙ g.code j m
          ];
        }

        on-more : FittingOn codes sets t₀ (set t c u) (k + 1) it'
        on-more = record {
          fitting = fitted-more;
          codes-left = sym (ap (drop 1) next) ∙ ap (λ (j : ℕ). drop j codes) (sym (add-one k));
          size = z ∙ on.size;
          sets-left =
              sym (drop_at set-k (chunks_exact_rest (zip_second it')) set_bytes (n ∙ on.size)) ∙ ap (drop set_bytes) (sym es ∙ on.sets-left)
              ∙ drop-drop set_bytes (set_bytes * k) sets ∙ ap (λ (j : ℕ). drop j sets) (omega arith);
        }

        -- i is that code, and j one more than k
        pub fit_turn : (i : ℕ) → i ≡ c → (j : ℕ) → k + 1 ≡ j → FittingOn codes sets t₀ (set t i u) j it'
        fit_turn i ei j ej = subst (λ (y : ℕ). FittingOn codes sets t₀ (set t y u) j it') (sym ei) (subst (λ (y : ℕ). FittingOn codes sets t₀ (set t c u) y it') ej on-more)

-- ---- a plane of a list of positions becomes that of the positions read by fit

word_union : (j : ℕ) (s : ℕ → Bool) (ps : List Position) (n : ℕ) → n ≤ 256 → word_of j (share_mask s ps n) ≡ union_below s (plane_of j ps) n
unfolding union_below
word_union j s ps zero l = ap (word_of j) (share_zero s ps) ∙ zero_word j
word_union j s ps (suc n) l = ap (word_of j) (share-more s ps n) ∙ go (s n) (word_union j s ps n (omega arith)) (entry_at j ps 256 0 n (omega arith) ∙ ap (λ (c : ℕ). word_of j (admits_mask ps c)) (zero-add n))
  where
    go : (b : Bool) → word_of j (share_mask s ps n) ≡ union_below s (plane_of j ps) n → get_or (plane_of j ps) n 0 ≡ word_of j (admits_mask ps n)
        → word_of j (cond b (bit_or (share_mask s ps n) (admits_mask ps n)) (share_mask s ps n)) ≡ cond b (bit_or (union_below s (plane_of j ps) n) (get_or (plane_of j ps) n 0)) (union_below s (plane_of j ps) n)
    go true ih e = word_or j (share_mask s ps n) (admits_mask ps n) ∙ ap₂ bit_or ih (sym e)
    go false ih e = ih

module _ (codes sets : List ℕ) (fine : codes_wrong codes sets ≡ false) (j : ℕ) (ps : List Position) where
  plane_fits : (t t' : List ℕ) → PlaneFits codes sets t t' → t ≡ plane_of j ps → t' ≡ plane_of j (fitting (codes_of codes sets) ps)
  plane_fits t t' f e = plane_is j (fitting (codes_of codes sets) ps) t' f.long λ x l. go x l (one_of codes x) refl
    where
      entry : (x : ℕ) → x < 256 → get_or t x 0 ≡ word_of j (admits_mask ps x)
      entry x l = ap (λ (u : List ℕ). get_or u x 0) e ∙ entry_at j ps 256 0 x l ∙ ap (λ (c : ℕ). word_of j (admits_mask ps c)) (zero-add x)

      go : (x : ℕ) → x < 256 → (b : Bool) → one_of codes x ≡ b → get_or t' x 0 ≡ word_of j (admits_mask (fitting (codes_of codes sets) ps) x)
      go x l false q = f.plain x l q ∙ entry x l ∙ ap (word_of j) (sym (plain_entry codes sets ps x q))
      go x l true q =
          let r = code-place codes x q in
          let k = r.0 in
          ap (λ (c : ℕ). get_or t' c 0) (sym r.2) ∙ f.code k r.1
          ∙ ap (λ (u : List ℕ). union_below (in_set (set_at sets k)) u 256) e
          ∙ sym (word_union j (in_set (set_at sets k)) ps 256 (omega arith))
          ∙ ap (word_of j) (sym (code-entry codes sets ps k r.1 (named_once codes sets fine)) ∙ ap (admits_mask (fitting (codes_of codes sets) ps)) r.2)

-- ---- `fit_word`

module _ (codes sets t : List ℕ) (word total : ℕ) (q : WordFittable codes sets t word) where
  pub word_fits : (t' : List ℕ) → PlaneFits codes sets t t' → WordFits codes sets total t t' word
  word_fits t' f = record { long = f.long; is = λ ps l e. plane_fits codes sets q.fittable.fine word ps t t' f e }

  -- no position has a bit in the word: its entries are 0
  pub word-stays : total < word * 64 → WordFits codes sets total t t word
  word-stays h = record {
    long = q.fittable.long;
    is = λ ps l e.
        let fs = fitting (codes_of codes sets) ps in
        plane_is word fs t q.fittable.long λ x k.
        ap (λ (u : List ℕ). get_or u x 0) e ∙ entry_at word ps 256 0 x k ∙ ap (λ (c : ℕ). word_of word (admits_mask ps c)) (zero-add x)
        ∙ none_above word ps x (omega arith) ∙ sym (none_above word fs x (omega (arith, fitting-length (codes_of codes sets) ps)));
  }

-- ---- `fit`: the planes below `word` are fitted, and the rest is as it was

pub record FittingTable (codes sets : List ℕ) (total : ℕ) (t₀ t : List ℕ) (word : ℕ) : Type 0 where
  pub within : word ≤ 4
  pub long : length t ≡ 1024
  pub rest : drop (word * 256) t ≡ drop (word * 256) t₀
  pub fitted : (ps : List Position) → length ps ≤ total → t₀ ≡ table_of ps → take (word * 256) t ≡ planes_below word (fitting (codes_of codes sets) ps)

module _ (codes sets : List ℕ) (total : ℕ) (t₀ : List ℕ) (q : TableFittable codes sets t₀) where
  pub table-begun : FittingTable codes sets total t₀ t₀ 0
  unfolding planes_below
  table-begun = record { within = omega arith; long = q.long; rest = refl; fitted = λ ps l e. refl }

  module _ (t : List ℕ) (word : ℕ) (g : FittingTable codes sets total t₀ t word) where
    abbrev at : ℕ
    at = word * 256

    pub table-over : 4 ≤ word → TableFits codes sets total t₀ t
    table-over h =
        let w : word ≡ 4 = omega (arith, g.within) in
        let a : 1024 ≡ at = omega (arith) in
        let l = g.long in
        record {
          long = g.long;
          is = λ ps k e.
              let fs = fitting (codes_of codes sets) ps in
              sym (take_all at t (omega arith)) ∙ g.fitted ps k e ∙ ap (λ (j : ℕ). planes_below j fs) w ∙ four_planes fs;
        }

    module _ (h : word < 4) where
      pub table-room : at + 256 ≤ length t
      table-room = omega (arith, g.long)

      part-long : length (mid_of at (at + 256 - at) t) ≡ 256
      part-long = mid_len at (at + 256) t table-room ∙ (let z : at + 256 - at ≡ 256 = omega arith in z)

      pub word-fittable : WordFittable codes sets (mid_of at (at + 256 - at) t) word
      word-fittable = record { fittable = record { fine = q.fine; long = part-long }; one = h }

      -- it is still the plane of the table that was lent
      part-is : (ps : List Position) → t₀ ≡ table_of ps → mid_of at (at + 256 - at) t ≡ plane_of word ps
      part-is ps e =
          ap₂ (λ (n : ℕ) (u : List ℕ). take n u) (let z : at + 256 - at ≡ 256 = omega arith in z) (g.rest ∙ ap (drop at) e)
          ∙ plane_at ps word h

      pub table-turn : (plane : List ℕ) → WordFits codes sets total (mid_of at (at + 256 - at) t) plane word
          → FittingTable codes sets total t₀ (put_mid at (at + 256 - at) t plane) (word + 1)
      unfolding planes_below
      table-turn plane k =
          let ks = codes_of codes sets in
          let next-at : (word + 1) * 256 ≡ at + 256 = omega arith in
          let m : length (take at t ++ plane) ≡ at + 256 = length-append (take at t) plane ∙ ap₂ ◌+◌ (length-take-le at t (omega (arith, table-room))) k.long in
          record {
            within = omega arith;
            long = same_len_mid at (at + 256 - at) t plane (k.long ∙ sym part-long) ∙ g.long;
            rest =
                ap (λ (j : ℕ). drop j (put_mid at (at + 256 - at) t plane)) next-at
                ∙ ap (drop (at + 256)) (sym (append_assoc (take at t) plane (drop (at + 256 - at) (drop at t))))
                ∙ drop_at (take at t ++ plane) (drop (at + 256 - at) (drop at t)) (at + 256) m
                ∙ ap₂ (λ (n : ℕ) (u : List ℕ). drop n u) (let z : at + 256 - at ≡ 256 = omega arith in z) g.rest
                ∙ drop-drop 256 at t₀ ∙ ap (λ (j : ℕ). drop j t₀) (sym next-at);
            fitted = λ ps l e.
                ap (λ (j : ℕ). take j (put_mid at (at + 256 - at) t plane)) next-at
                ∙ plane_put t at plane table-room k.long
                ∙ ap₂ (λ (x y : List ℕ). x ++ y) (g.fitted ps l e) (k.is ps l (part-is ps e))
                ∙ ap (λ (j : ℕ). planes_below j (fitting ks ps)) (sym (add-one word));
          }

-- ---- `fill_plane`, `fill`: of an accepted rule

pub row-fitting : (codes sets : List ℕ) (reversed : Bool) (ps : List Position) → fitting (codes_of codes sets) (row_of reversed ps) ≡ row_of reversed (fitting (codes_of codes sets) ps)
row-fitting codes sets true ps = fitting-reverse (codes_of codes sets) ps
row-fitting codes sets false ps = refl

module _ (flag : ℕ) (rule codes sets : List ℕ) (total : ℕ) (reversed : Bool) where
  abbrev row : List Position
  row = row_of reversed (rule_positions (fold_flag flag) rule)

  row_within : Counted flag rule total → length row ≤ total
  row_within k = omega (arith, row-length reversed (rule_positions (fold_flag flag) rule), counted-length flag rule total k)

  module _ (plane₀ : List ℕ) (word : ℕ) (q : PlaneReadable flag rule codes sets total plane₀ word) (plane : List ℕ) (f : PlaneFilled flag rule reversed plane word) where
    pub plane_fittable : WordFittable codes sets plane word
    plane_fittable = record { fittable = record { fine = q.fine; long = f.long }; one = q.fillable.one }

    pub plane_fitted : (plane' : List ℕ) → WordFits codes sets total plane plane' word → PlaneFitted flag rule codes sets reversed plane' word
    plane_fitted plane' k = record {
      long = k.long;
      is = k.is row (row_within q.fillable.rule-counted) f.is ∙ ap (plane_of word) (row-fitting codes sets reversed (rule_positions (fold_flag flag) rule));
    }

  module _ (table₀ : List ℕ) (q : Readable flag rule codes sets total table₀) (table : List ℕ) (f : Filled flag rule reversed table) where
    pub table-fittable : TableFittable codes sets table
    table-fittable = record { fine = q.fine; long = f.long }

    pub table_fitted : (table' : List ℕ) → TableFits codes sets total table table' → Fitted flag rule codes sets reversed table'
    table_fitted table' k = record {
      long = k.long;
      is = k.is row (row_within q.fillable.rule-counted) f.is ∙ ap table_of (row-fitting codes sets reversed (rule_positions (fold_flag flag) rule));
    }
