-- What a piece lets out and what of it is held, byte by byte and reference by reference, for every length limit of a form: what a feed meets at its next
-- byte with nothing held, and what held bytes become when a piece follows. What is let out is said of tokens (`out-..`), and each law of the text
-- (`let_out_..`) is one reading of such a law. (The two laws over any cut are `held_cut` and `tokens_cut` of `Decoding`.) Assumes nothing.
use mathlib.Core.Path.{◌≡◌, refl, sym, ap, subst, ◌∙◌}
use mathlib.Core.Bool.{Bool, true, false}
use mathlib.Core.List.{List, [], ◌∷◌, ◌++◌, append-nil}
use Prim.Native.Nat.{ℕ, zero, suc, pred, ◌-◌, ◌≤◌}
use native.Mathlib.Omega.{arith}
use native.Mathlib.Decide.{dec_le}
use lib.Dec.{T}
use lib.ListN.{length, take, drop, length-append, take-append-drop, length-take}
use lib.Seq.{take_at, take_all, drop-append_seam}
use Rattle.model.specs.Occurrence.{all}
use Rattle.model.specs.References.{Found, none, found, reference_at, utf8, Token, byte_token, byte_tokens, tokens_from, joined, not_amp, can_grow, held_tail, without_tail, out_tokens, let_out}
use Rattle.model.proofs.Truth.{T-to, T_false, and_left, and_right}
use Rattle.model.proofs.Forms.{FormPrefix, not_none, form_shape}
use Rattle.model.proofs.Borders.{Reference, ref_into, ref_out, ref_size, ref_local, ref_more, ref_plain, ref_growing, grow_head, grow_tail, shape_later}
use Rattle.model.proofs.Decoding.{tokens_none, tokens-found, tail_true, tail_false, tail-joined, held_cut, tokens_cut, growing_length}

module _ (limit : ℕ) where
  -- ---- a tail, and what stands before it

  held-short : (xs : List ℕ) → length (held_tail limit xs) ≤ length xs
  held-short [] = omega arith
  held-short (c ∷ cs) = go (can_grow limit (c ∷ cs)) refl (held-short cs)
    where
      go : (b : Bool) → can_grow limit (c ∷ cs) ≡ b → length (held_tail limit cs) ≤ length cs → length (held_tail limit (c ∷ cs)) ≤ suc (length cs)
      go true q ih = omega (arith, ap length (tail_true limit c cs q))
      go false q ih = omega (arith, ap length (tail_false limit c cs q))

  -- Nothing stands before a list that is all held, and it lets nothing out.
  pub out_held : (xs : List ℕ) → held_tail limit xs ≡ xs → out_tokens limit xs ≡ []
  out_held xs e =
      let n : length xs - length (held_tail limit xs) ≡ 0 = omega (arith, ap length e) in
      ap (λ (i : ℕ). tokens_from limit 0 (take i xs)) n

  pub all_held : (xs : List ℕ) → held_tail limit xs ≡ xs → let_out limit xs ≡ []
  all_held xs e = ap joined (out_held xs e)

  none-held : (xs : List ℕ) → held_tail limit xs ≡ [] → out_tokens limit xs ≡ tokens_from limit 0 xs
  none-held xs e =
      let n : length xs ≡ length xs - length (held_tail limit xs) = omega (arith, ap length e) in
      ap (tokens_from limit 0) (ap (λ (l : List ℕ). take (length xs - length (held_tail limit xs)) l) (sym (append-nil xs)) ∙ take_at xs [] (length xs - length (held_tail limit xs)) n)

  -- ---- what a feed meets at its next byte, with nothing held

  -- The rest can still grow: all of it is held.
  pub held_open : (c : ℕ) (cs : List ℕ) → can_grow limit (c ∷ cs) ≡ true → held_tail limit (c ∷ cs) ≡ c ∷ cs
  held_open c cs q = tail_true limit c cs q

  pub out_open : (c : ℕ) (cs : List ℕ) → can_grow limit (c ∷ cs) ≡ true → out_tokens limit (c ∷ cs) ≡ []
  out_open c cs q = out_held (c ∷ cs) (tail_true limit c cs q)

  without_next : (c : ℕ) (cs : List ℕ) → can_grow limit (c ∷ cs) ≡ false → without_tail limit (c ∷ cs) ≡ c ∷ without_tail limit cs
  without_next c cs q =
      let e = tail_false limit c cs q in
      let n : length (c ∷ cs) - length (held_tail limit (c ∷ cs)) ≡ suc (length cs - length (held_tail limit cs)) = omega (arith, ap length e, held-short cs) in
      ap (λ (i : ℕ). take i (c ∷ cs)) n

  -- No reference there, and the rest cannot grow: the byte is let out, and reading goes on after it.
  pub held_none : (c : ℕ) (cs : List ℕ) → can_grow limit (c ∷ cs) ≡ false → held_tail limit (c ∷ cs) ≡ held_tail limit cs
  held_none c cs q = tail_false limit c cs q

  pub out_none : (c : ℕ) (cs : List ℕ) → can_grow limit (c ∷ cs) ≡ false → reference_at limit (c ∷ cs) ≡ none → out_tokens limit (c ∷ cs) ≡ byte_token c ∷ out_tokens limit cs
  out_none c cs q r =
      let w = without_tail limit cs in
      let j : (c ∷ w) ++ held_tail limit cs ≡ c ∷ cs = ap (λ (l : List ℕ). c ∷ l) (tail-joined limit cs) in
      ap (tokens_from limit 0) (without_next c cs q) ∙ tokens_none limit c w (go (reference_at limit (c ∷ w)) refl j)
    where
      go : (f : Found) → reference_at limit (c ∷ without_tail limit cs) ≡ f → (c ∷ without_tail limit cs) ++ held_tail limit cs ≡ c ∷ cs → reference_at limit (c ∷ without_tail limit cs) ≡ none
      go none e j = e
      go (found n k) e j =
          not_none (sym r ∙ ap (reference_at limit) (sym j) ∙ ref_more limit (c ∷ without_tail limit cs) (held_tail limit cs) n k e)

  -- A byte that is not `&`.
  pub grow_plain : (c : ℕ) (cs : List ℕ) → T (not_amp c) → can_grow limit (c ∷ cs) ≡ false
  grow_plain c cs t = T_false (can_grow limit (c ∷ cs)) (λ g. subst (λ (x : ℕ). T (not_amp x)) (grow_head limit c cs g) t)

  pub held_plain : (c : ℕ) (cs : List ℕ) → T (not_amp c) → held_tail limit (c ∷ cs) ≡ held_tail limit cs
  held_plain c cs t = held_none c cs (grow_plain c cs t)

  pub out_plain : (c : ℕ) (cs : List ℕ) → T (not_amp c) → out_tokens limit (c ∷ cs) ≡ byte_token c ∷ out_tokens limit cs
  out_plain c cs t = out_none c cs (grow_plain c cs t) (ref_plain limit c cs t)

  -- A run of such bytes.
  pub held-run : (xs ys : List ℕ) → T (all not_amp xs) → held_tail limit (xs ++ ys) ≡ held_tail limit ys
  held-run [] ys t = refl
  held-run (c ∷ xs) ys t = held_plain c (xs ++ ys) (and_left (not_amp c) (all not_amp xs) t) ∙ held-run xs ys (and_right (not_amp c) (all not_amp xs) t)

  pub out_run : (xs ys : List ℕ) → T (all not_amp xs) → out_tokens limit (xs ++ ys) ≡ byte_tokens xs ++ out_tokens limit ys
  out_run [] ys t = refl
  out_run (c ∷ xs) ys t =
      out_plain c (xs ++ ys) (and_left (not_amp c) (all not_amp xs) t) ∙ ap (λ (l : List Token). byte_token c ∷ l) (out_run xs ys (and_right (not_amp c) (all not_amp xs) t))

  -- A legal reference: its token, and reading goes on after it.
  spent : (s : List ℕ) (k : ℕ) → k ≡ length s → tokens_from limit k s ≡ []
  spent [] k e = refl
  spent (c ∷ s) zero e = absurd (omega arith)
  spent (c ∷ s) (suc k) e = spent s k (omega arith)

  -- A whole reference holds nothing back.
  whole : (f : List ℕ) (n k : ℕ) → Reference limit f n k → k ≡ length f → (held_tail limit f ≡ []) × (out_tokens limit f ≡ record { takes = k; gives = utf8 n } ∷ [])
  whole [] n k x e = absurd (omega (arith, (ref_size limit [] n k (ref_out limit [] n k x)).0))
  whole (c ∷ s) n k x e =
      let r = ref_out limit (c ∷ s) n k x in
      let p = x.prefix in
      let g : can_grow limit (c ∷ s) ≡ false = T_false (can_grow limit (c ∷ s)) (λ t. not_none (sym (ref_growing limit (c ∷ s) t) ∙ r)) in
      let j : p.spelling ≡ c ∷ s = alone p p.rest p.joined (omega (arith, p.size)) in
      let a : T (all not_amp s) = shape_later c s (form_shape p.form) j in
      let h : held_tail limit (c ∷ s) ≡ [] = held_none c s g ∙ ap (held_tail limit) (sym (append-nil s)) ∙ held-run s [] a in
      (h, none-held (c ∷ s) h ∙ tokens-found limit c s n k r ∙ ap (λ (l : List Token). record { takes = k; gives = utf8 n } ∷ l) (spent s (pred k) (omega arith)))
    where
      alone : {m : ℕ} (p : FormPrefix (c ∷ s) m k) (rest : List ℕ) → c ∷ s ≡ p.spelling ++ rest → length p.spelling ≡ length (c ∷ s) → p.spelling ≡ c ∷ s
      alone p [] j z = sym (j ∙ append-nil p.spelling)
      alone p (d ∷ rest) j z = absurd (omega (arith, ap length j, length-append p.spelling (d ∷ rest)))

  -- A list that begins with a reference is a whole one and the rest.
  record Whole (cs : List ℕ) (n k : ℕ) : Type 0 where
    front : List ℕ
    joined : cs ≡ front ++ drop k cs
    holds : held_tail limit front ≡ []
    gives : out_tokens limit front ≡ record { takes = k; gives = utf8 n } ∷ []

  reference : (cs : List ℕ) (n k : ℕ) → reference_at limit cs ≡ found n k → Whole cs n k
  reference cs n k r =
      let x = ref_into limit cs n k r in
      let p = x.prefix in
      let f = p.spelling in
      let w = whole f n k
      (record {
        number = x.number;
        prefix = record { spelling = f; rest = []; joined = sym (append-nil f); form = p.form; size = p.size };
        short = x.short;
        is-legal = x.is-legal;
      })
      (sym p.size) in
      let d : drop k cs ≡ p.rest = ap (drop k) p.joined ∙ ap (λ (i : ℕ). drop i (f ++ p.rest)) (sym p.size) ∙ drop-append_seam f p.rest in
      record { front = f; joined = p.joined ∙ ap (λ (l : List ℕ). f ++ l) (sym d); holds = w.0; gives = w.1 }

  pub held_reference : (cs : List ℕ) (n k : ℕ) → reference_at limit cs ≡ found n k → held_tail limit cs ≡ held_tail limit (drop k cs)
  held_reference cs n k r =
      let x = reference cs n k r in
      ap (held_tail limit) x.joined ∙ held_cut limit x.front (drop k cs) ∙ ap (λ (l : List ℕ). held_tail limit (l ++ drop k cs)) x.holds

  pub out_reference : (cs : List ℕ) (n k : ℕ) → reference_at limit cs ≡ found n k → out_tokens limit cs ≡ record { takes = k; gives = utf8 n } ∷ out_tokens limit (drop k cs)
  out_reference cs n k r =
      let x = reference cs n k r in
      ap (out_tokens limit) x.joined
      ∙ tokens_cut limit x.front (drop k cs)
      ∙ ap (λ (l : List ℕ). out_tokens limit x.front ++ out_tokens limit (l ++ drop k cs)) x.holds
      ∙ ap (λ (l : List Token). l ++ out_tokens limit (drop k cs)) x.gives

  -- ---- the first `limit` bytes decide: what a reader of a small buffer needs

  pub reference_front : (cs : List ℕ) → reference_at limit (take limit cs) ≡ reference_at limit cs
  reference_front cs = go (reference_at limit cs) refl (reference_at limit (take limit cs)) refl
    where
      a : List ℕ
      a = take limit cs

      join : a ++ drop limit cs ≡ cs
      join = take-append-drop limit cs

      go : (f : Found) → reference_at limit cs ≡ f → (g : Found) → reference_at limit a ≡ g → reference_at limit a ≡ reference_at limit cs
      go none q none p = p ∙ sym q
      go none q (found n k) p = not_none (sym q ∙ ap (reference_at limit) (sym join) ∙ ref_more limit a (drop limit cs) n k p)
      go (found n k) q g p =
          let x = ref_into limit cs n k q in
          let z = (ref_size limit cs n k q).1 in
          let l = x.short in
          ref_local limit a (drop limit cs) n k (ap (reference_at limit) join ∙ q) (omega (arith, length-take limit cs)) ∙ sym q

  pub grow_front : (cs : List ℕ) → can_grow limit (take limit cs) ≡ can_grow limit cs
  grow_front cs = go (dec_le limit (length cs))
    where
      never : (xs : List ℕ) → limit ≤ length xs → can_grow limit xs ≡ false
      never xs l = T_false (can_grow limit xs) (λ t. let g = growing_length limit xs t in omega arith)

      go : Dec (limit ≤ length cs) → can_grow limit (take limit cs) ≡ can_grow limit cs
      go (yes l) = never (take limit cs) (omega (arith, length-take limit cs)) ∙ sym (never cs l)
      go (no l) = ap (can_grow limit) (take_all limit cs (omega arith))

  -- ---- held bytes: `&`, and then none

  pub held_grows : (c : ℕ) (s : List ℕ) → held_tail limit (c ∷ s) ≡ c ∷ s → can_grow limit (c ∷ s) ≡ true
  held_grows c s e = go (can_grow limit (c ∷ s)) refl
    where
      go : (b : Bool) → can_grow limit (c ∷ s) ≡ b → can_grow limit (c ∷ s) ≡ true
      go true q = q
      go false q = absurd (omega (arith, ap length (sym (tail_false limit c s q) ∙ e), held-short s))

  held-plain_later : (c : ℕ) (s : List ℕ) → held_tail limit (c ∷ s) ≡ c ∷ s → T (all not_amp s)
  held-plain_later c s e = grow_tail limit c s (T-to (sym (held_grows c s e)) tt)

  -- ---- held bytes and a piece, where the held bytes are such a tail

  -- They become a reference with the piece's first bytes: `out_reference`. They can still grow with all of it: `out_open`. Else they are let out as
  -- they came, and reading goes on with the piece.
  pub held-passed : (h ys : List ℕ) → held_tail limit h ≡ h → can_grow limit (h ++ ys) ≡ false → held_tail limit (h ++ ys) ≡ held_tail limit ys
  held-passed [] ys e g = refl
  held-passed (c ∷ s) ys e g =
      held_none c (s ++ ys) g ∙ held-run s ys (held-plain_later c s e)

  pub out_passed : (h ys : List ℕ) → held_tail limit h ≡ h → can_grow limit (h ++ ys) ≡ false → reference_at limit (h ++ ys) ≡ none → out_tokens limit (h ++ ys) ≡ byte_tokens h ++ out_tokens limit ys
  out_passed [] ys e g r = refl
  out_passed (c ∷ s) ys e g r =
      out_none c (s ++ ys) g r ∙ ap (λ (l : List Token). byte_token c ∷ l) (out_run s ys (held-plain_later c s e))
