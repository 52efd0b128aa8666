-- Two bytes tell that no form begins, and bytes where none does are let out as they came. Assumes nothing.
use mathlib.Core.Path.{◌≡◌, refl, sym, ap, subst, ◌∙◌}
use mathlib.Core.Bool.{Bool, true, false, not, ◌&&◌, ◌||◌}
use mathlib.Core.List.{List, [], ◌∷◌, ◌++◌, append-nil}
use Prim.Native.Nat.{ℕ, zero, suc, ◌+◌, ◌-◌, ◌≤◌, ◌<◌}
use native.Mathlib.Nat.{add-zero}
use native.Mathlib.Omega.{arith}
use lib.Dec.{T, eqb}
use lib.ListN.{length, take, drop, get_or, drop_of_length-le, length-drop, take-append-drop}
use lib.Seq.{drop-cons, drop-drop, take_all}
use borrow.Author.Tests.{ne_eqb, eqb-false, eqb-true}
use Rattle.model.specs.References.{form_limit, none, reference_at, Token, byte_token, byte_tokens, not_amp, can_grow, held_tail, out_tokens}
use Rattle.model.proofs.Truth.{or_false_left, or_false_right, T-to}
use Rattle.model.proofs.Decoding.{byte_tokens-append}
use Rattle.model.proofs.Cuts.{held_none, out_none, held_plain, out_plain}
use Rattle.byte_search.specs.BlockTests.{NoneBefore, same}
use Rattle.byte_search.proofs.BlockLaws.{miss_join}
use Rattle.reference_search.specs.Candidates.{may_follow_amp, candidate_at, LiteralEnd}

-- ---- on from place to place

-- where no `&` stands, none stands that may begin a form
pub no_amp : (text : List ℕ) (j : ℕ) → same text 38 j ≡ false → candidate_at text j ≡ false
no_amp text j e = ap (λ (b : Bool). b && may_follow_amp (get_or text (j + 1) 0)) e

module _ (text : List ℕ) {i₀ end i at r : ℕ} where
  -- on by blocks without any `&`, and then byte by byte, or by a block at this test
  pub amp_bytewise : NoneBefore (candidate_at text) i₀ end i → NoneBefore (same text 38) i end at → NoneBefore (candidate_at text) at end r → NoneBefore (candidate_at text) i₀ end r
  amp_bytewise g s m = miss_join g (miss_join (record { fore = s.fore; within = s.within; none = λ j p q. no_amp text j (s.none j p q) }) m)

  pub amp_looked : NoneBefore (candidate_at text) i₀ end i → NoneBefore (same text 38) i end at → 64 ≤ end - at → NoneBefore (candidate_at text) at (at + 64) r
      → NoneBefore (candidate_at text) i₀ end r
  amp_looked g s h m = amp_bytewise g s (record { fore = m.fore; within = omega (arith, m.within); none = m.none })

-- ---- no form begins

turned : (d x : ℕ) → eqb d x ≡ false → eqb x d ≡ false
turned d x e = ne_eqb x d (λ q. eqb-false d x e (sym q))

module _ (d : ℕ) (cs : List ℕ) (e : may_follow_amp d ≡ false) where
  q : eqb d 113 ≡ false
  q = or_false_right (eqb d 35 || eqb d 97 || eqb d 103 || eqb d 108) (eqb d 113) e

  hagl : (eqb d 35 || eqb d 97 || eqb d 103 || eqb d 108) ≡ false
  hagl = or_false_left (eqb d 35 || eqb d 97 || eqb d 103 || eqb d 108) (eqb d 113) e

  l : eqb d 108 ≡ false
  l = or_false_right (eqb d 35 || eqb d 97 || eqb d 103) (eqb d 108) hagl

  hag : (eqb d 35 || eqb d 97 || eqb d 103) ≡ false
  hag = or_false_left (eqb d 35 || eqb d 97 || eqb d 103) (eqb d 108) hagl

  g : eqb d 103 ≡ false
  g = or_false_right (eqb d 35 || eqb d 97) (eqb d 103) hag

  ha : (eqb d 35 || eqb d 97) ≡ false
  ha = or_false_left (eqb d 35 || eqb d 97) (eqb d 103) hag

  a : eqb d 97 ≡ false
  a = or_false_right (eqb d 35) (eqb d 97) ha

  hash : eqb d 35 ≡ false
  hash = or_false_left (eqb d 35) (eqb d 97) ha

  no_growth : can_grow form_limit (38 ∷ d ∷ cs) ≡ false
  no_growth = rw (a, l, g, q, turned d 35 hash)

  no_reference : reference_at form_limit (38 ∷ d ∷ cs) ≡ none
  no_reference = rw (turned d 97 a, turned d 108 l, turned d 103 g, turned d 113 q, turned d 35 hash)

-- a byte at which none begins goes out as it came
module _ (c d : ℕ) (cs : List ℕ) where
  go_out : (b : Bool) → eqb c 38 ≡ b → (b && may_follow_amp d) ≡ false
      → (out_tokens form_limit (c ∷ d ∷ cs) ≡ byte_token c ∷ out_tokens form_limit (d ∷ cs)) × (held_tail form_limit (c ∷ d ∷ cs) ≡ held_tail form_limit (d ∷ cs))
  go_out false e z =
      let t : T (not_amp c) = T-to (ap not (sym e)) tt in
      (out_plain form_limit c (d ∷ cs) t, held_plain form_limit c (d ∷ cs) t)
  go_out true e z =
      let k : c ≡ 38 = eqb-true c 38 e in
      let gr : can_grow form_limit (c ∷ d ∷ cs) ≡ false = ap (λ (c : ℕ). can_grow form_limit (c ∷ d ∷ cs)) k ∙ no_growth d cs z in
      let rf : reference_at form_limit (c ∷ d ∷ cs) ≡ none = ap (λ (c : ℕ). reference_at form_limit (c ∷ d ∷ cs)) k ∙ no_reference d cs z in
      (out_none form_limit c (d ∷ cs) gr rf, held_none form_limit c (d ∷ cs) gr)

-- ---- a run of them

module _ (text : List ℕ) where
  record Out (i n : ℕ) : Type 0 where
    lets_out : out_tokens form_limit (drop i text) ≡ byte_tokens (take n (drop i text)) ++ out_tokens form_limit (drop (i + n) text)
    holds : held_tail form_limit (drop i text) ≡ held_tail form_limit (drop (i + n) text)

  outs : (n i : ℕ) → i + n < length text → ((k : ℕ) → i ≤ k → k < i + n → candidate_at text k ≡ false) → Out i n
  outs zero i h f = record { lets_out = rw add-zero; holds = rw add-zero }
  outs (suc n) i h f =
      let c = get_or text i 0 in
      let d = get_or text (suc i) 0 in
      let u : drop i text ≡ c ∷ drop (suc i) text = drop-cons text i 0 (omega arith) in
      let v : drop (suc i) text ≡ d ∷ drop (suc (suc i)) text = drop-cons text (suc i) 0 (omega arith) in
      let w : drop i text ≡ c ∷ d ∷ drop (suc (suc i)) text = u ∙ ap (λ (l : List ℕ). c ∷ l) v in
      let z : (eqb c 38 && may_follow_amp d) ≡ false = ap (λ (k : ℕ). eqb c 38 && may_follow_amp (get_or text k 0)) (omega arith) ∙ f i (omega arith) (omega arith) in
      let o = go_out c d (drop (suc (suc i)) text) (eqb c 38) refl z in
      let r = outs n (suc i) (omega arith) (λ k a b. f k (omega arith) (omega arith)) in
      let s : suc i + n ≡ i + suc n = omega arith in
      record {
        lets_out =
            ap (out_tokens form_limit) w ∙ o.0 ∙ ap (λ (l : List ℕ). byte_token c ∷ out_tokens form_limit l) (sym v)
            ∙ ap (λ (l : List Token). byte_token c ∷ l) r.lets_out
            ∙ ap (λ (k : ℕ). byte_token c ∷ (byte_tokens (take n (drop (suc i) text)) ++ out_tokens form_limit (drop k text))) s
            ∙ ap (λ (l : List ℕ). byte_tokens (take (suc n) l) ++ out_tokens form_limit (drop (i + suc n) text)) (sym u);
        holds = ap (held_tail form_limit) w ∙ o.1 ∙ ap (held_tail form_limit) (sym v) ∙ r.holds ∙ ap (λ (k : ℕ). held_tail form_limit (drop k text)) s;
      }

  module _ {i e : ℕ} (h : i < length text) (m : NoneBefore (candidate_at text) i (length text - 1) e) where
    so_far : LiteralEnd text i e
    so_far =
        let a = m.fore in
        let b = m.within in
        let k : i + (e - i) ≡ e = omega arith in
        let o = outs (e - i) i (omega arith) (λ k a b. m.none k a (omega arith)) in
        record {
          fore = a;
          fits = omega arith;
          lets_out = o.lets_out ∙ ap (λ (k : ℕ). byte_tokens (take (e - i) (drop i text)) ++ out_tokens form_limit (drop k text)) k;
          holds = o.holds ∙ ap (λ (k : ℕ). held_tail form_limit (drop k text)) k;
        }

    pub verbatim_amp : e < length text - 1 → LiteralEnd text i e
    verbatim_amp l = so_far

    module _ (last : length text - 1 ≤ e) where
      at_last : e ≡ length text - 1
      at_last = let b = m.within in omega arith

      -- a `&` at the end may still grow
      pub verbatim_last : get_or text (length text - 1) 0 ≡ 38 → LiteralEnd text i (length text - 1)
      verbatim_last z = subst (LiteralEnd text i) at_last so_far

      pub verbatim_all : (get_or text (length text - 1) 0 ≡ 38 → ⊥) → LiteralEnd text i (length text)
      verbatim_all z =
          let o = so_far in
          let n : e < length text = omega arith in
          let u : drop e text ≡ get_or text e 0 ∷ drop (suc e) text = drop-cons text e 0 n in
          let past : length text ≤ suc e = omega (arith, at_last) in
          let none : drop (suc e) text ≡ [] = drop_of_length-le text past in
          let one : drop e text ≡ get_or text e 0 ∷ [] = u ∙ ap (λ (l : List ℕ). get_or text e 0 ∷ l) none in
          let t : T (not_amp (get_or text e 0)) = T-to (ap not (sym (ne_eqb (get_or text e 0) 38 (λ q. z (ap (λ (k : ℕ). get_or text k 0) (sym at_last) ∙ q))))) tt in
          let whole : length text ≤ length text = omega arith in
          let w : drop (length text) text ≡ [] = drop_of_length-le text whole in
          let all : take (length text - i) (drop i text) ≡ drop i text = take_all (length text - i) (drop i text) (omega (arith, length-drop i text)) in
          let there : i + (e - i) ≡ e = omega (arith, m.fore) in
          let join : take (e - i) (drop i text) ++ drop e text ≡ drop i text =
          ap (λ (l : List ℕ). take (e - i) (drop i text) ++ l) (sym (drop-drop (e - i) i text ∙ ap (λ (k : ℕ). drop k text) there)) ∙ take-append-drop (e - i) (drop i text) in
          record {
            fore = omega arith;
            fits = omega arith;
            lets_out =
                o.lets_out
                ∙ ap (λ (l : List ℕ). byte_tokens (take (e - i) (drop i text)) ++ out_tokens form_limit l) one
                ∙ ap (λ (l : List Token). byte_tokens (take (e - i) (drop i text)) ++ l) (out_plain form_limit (get_or text e 0) [] t ∙ sym (ap byte_tokens one))
                ∙ sym (byte_tokens-append (take (e - i) (drop i text)) (drop e text))
                ∙ ap byte_tokens (join ∙ sym all)
                ∙ sym (append-nil (byte_tokens (take (length text - i) (drop i text))))
                ∙ ap (λ (l : List ℕ). byte_tokens (take (length text - i) (drop i text)) ++ out_tokens form_limit l) (sym w);
            holds = o.holds ∙ ap (held_tail form_limit) one ∙ held_plain form_limit (get_or text e 0) [] t ∙ ap (held_tail form_limit) (sym w);
          }
