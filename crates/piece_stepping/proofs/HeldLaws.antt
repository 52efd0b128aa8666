-- Held bytes and the head of a piece, and then the rest of it. On plain values. Assumes nothing.
use mathlib.Core.Path.{◌≡◌, refl, sym, ap, subst, ◌∙◌}
use mathlib.Core.List.{List, [], ◌∷◌, ◌++◌, append-nil}
use Prim.Native.Nat.{ℕ, ◌+◌, ◌-◌, ◌≤◌}
use native.Mathlib.Omega.{arith}
use lib.ListN.{length, take, drop, length-append, length-drop}
use lib.Seq.{take_all, sets-eq, length-sets, take-append_seam}
use borrow.Rule.Slice.PartMut.{mid_of}
use Rattle.model.specs.References.{form_limit, held_most, utf8, Token, byte_tokens, joined, out_tokens}
use Rattle.model.proofs.Places.{place-taken}
use Rattle.entry_list.proofs.MarkLaws.{marked-none, marked_reference}
use Rattle.model.proofs.Decoding.{joined_bytes, joined-run, taken-bytes, held-length, utf8_four}
use Rattle.reference_reader.specs.Utf8.{Put}
use Rattle.piece_decoder.specs.declared.held.Held.{Held}
use Rattle.piece_decoder.specs.declared.held.HeldOutcome.TheVariants.{Completed, Literal, Pending}
use Rattle.piece_decoder.specs.declared.held.Resolved.{Resolved}
use Rattle.piece_decoder.specs.Held.{held_of, NothingHeld, TopUpIs, CompletedIs, LiteralIs, PendingIs, ResolvedIs}
use Rattle.piece_stepping.specs.declared.Progress.{Progress}
use Rattle.piece_stepping.specs.Stepping.{tokens_of, tail_of, Runner, SteppedBy, Space, Laid, LaidFits, LaidStepped, code_token, CodeFits, RestStepped, Holds, RestFedBy, FedBy}
use Rattle.piece_stepping.proofs.Steps.{stepped-none, stepped-append, space-left}

-- "at most 31 bytes" are held, so a buffer for a form takes them all
tail-few : (xs : List ℕ) → length (tail_of xs) ≤ held_most form_limit
unfolding tail_of
tail-few xs = held-length form_limit xs

-- ---- the rest of a piece, and its end is held

module _ {S : Type 0} (R : Runner S) (g : Progress S) (piece : List ℕ) (from : ℕ) (ends : List ℕ) where
  pub rest-fed : (r : Progress S) (kept : ℕ) (ends' : List ℕ) → RestStepped R g piece from ends r kept ends'
      → (none : Held) → NothingHeld none → (j : Held) → TopUpIs none (mid_of kept (length piece - kept) piece) j
      → RestFedBy R g piece from ends r j ends'
  rest-fed r kept ends' w none z j y =
      let fits = w.fits in
      let rest : mid_of kept (length piece - kept) piece ≡ drop kept piece = take_all (length piece - kept) (drop kept piece) (omega (arith, length-drop kept piece)) in
      let tl : tail_of (drop from piece) ≡ drop kept piece = w.holds in
      let n = tail-few (drop from piece) in
      let e : held_of j ≡ tail_of (drop from piece) =
      y.is ∙ ap (λ (l : List ℕ). take form_limit (l ++ mid_of kept (length piece - kept) piece)) z.is ∙ ap (take form_limit) rest ∙ take_all form_limit (drop kept piece) (omega (arith, ap length tl)) ∙ sym tl in
      let k : j.len ≡ length (tail_of (drop from piece)) = y.size ∙ ap length e in
      let a = w.few in
      record {
        steps = w.steps;
        held = record { is = e; size = k; few = omega arith; long = y.long };
        few = omega (arith, ap length tl, length-drop kept piece);
      }

-- ---- a reference of k bytes: its bytes stand in a buffer of four, beside its mark

module _ (code k : ℕ) (l l' : List ℕ) (n : ℕ) (long : length l ≡ 4) (p : Put l code n l') where
  code-bytes : take n l' ≡ utf8 code
  code-bytes =
      let c = p.count in
      let e : l' ≡ utf8 code ++ drop (0 + length (utf8 code)) l = p.list ∙ sets-eq (utf8 code) l 0 (omega (arith, utf8_four code)) in
      rw (c, e) (take-append_seam (utf8 code) (drop (0 + length (utf8 code)) l))

  pub code-long : (n ≤ 4) × (length l' ≡ 4)
  code-long = let c = p.count in (omega (arith, utf8_four code), ap length p.list ∙ length-sets l 0 (utf8 code) ∙ long)

  -- it takes no more bytes than it gives
  pub code-order : CodeFits code k → n ≤ k
  code-order f = let a = f.few in let c = p.count in omega arith

  code_laid : CodeFits code k → Laid (code_token code k) (take n l') (0 ∷ n ∷ (k - n) ∷ []) 1
  code_laid f =
      let t : Token = record { takes = k; gives = utf8 code } in
      let c = p.count in
      let o = code-order f in
      record {
        text-is = code-bytes ∙ sym (append-nil (utf8 code));
        marked = marked_reference [] 0 [] (marked-none []) t (0 ∷ n ∷ (k - n) ∷ []) (λ i h. absurd (omega arith)) refl (omega arith) (omega arith);
      }

  pub code_fits : CodeFits code k → {S : Type 0} (g : Progress S) (m : ℕ) → Space g k m → (raw : ℕ) → raw ≡ g.raw → LaidFits (take n l') (0 ∷ n ∷ (k - n) ∷ []) 1 raw
  code_fits f g m s raw e =
      let r = s.raw-small in
      let x = code_laid f in
      record {
        inside = omega arith;
        small = λ q a b.
            let l : q ≤ length (joined (code_token code k)) = omega (arith, ap length x.text-is) in
            omega (arith, x.marked.within q a l, place-taken (code_token code k) q a l);
      }

  pub coded : {S : Type 0} (R : Runner S) (g : Progress S) (ends : List ℕ) (r : Progress S) (ends' : List ℕ) → CodeFits code k
      → LaidStepped R g (take n l') (0 ∷ n ∷ (k - n) ∷ []) 1 k ends r ends' → SteppedBy R g (code_token code k) ends r ends'
  coded R g ends r ends' f x = x.steps (code_token code k) (code_laid f) (omega arith)

-- ---- held bytes

-- what becomes of them, said of numbers
module _ (h : Held) (piece : List ℕ) (x : Resolved) (cr : ResolvedIs h piece x) where
  h_long : length (held_of h) ≡ h.len
  h_long = cr.joins.held

  module _ (code taken : ℕ) (e : x.case ≡ Completed code taken) where
    completed : CompletedIs (held_of h) piece code taken
    completed = rw e at cr.is

module _ {S : Type 0} (R : Runner S) (g : Progress S) (h : Held) (piece ends : List ℕ) (x : Resolved) (cr : ResolvedIs h piece x) where
  module _ (code taken : ℕ) (e : x.case ≡ Completed code taken) where
    pub fed_completed : (s : Progress S) (ends₁ : List ℕ) → SteppedBy R g (code_token code (h.len + taken)) ends s ends₁
        → (r : Progress S) (k : Held) (ends' : List ℕ) → RestFedBy R s piece taken ends₁ r k ends' → FedBy R g h piece ends r k ends'
    unfolding tokens_of tail_of
    fed_completed s ends₁ a r k ends' w =
        let c = completed h piece x cr code taken e in
        let f = c.few in
        let n = h_long h piece x cr in
        let t : Token = record { takes = h.len + taken; gives = utf8 code } in
        let o : tokens_of (held_of h ++ piece) ≡ (t ∷ []) ++ tokens_of (drop taken piece) =
        c.lets_out ∙ ap (λ (i : ℕ). record { takes = i + taken; gives = utf8 code } ∷ out_tokens form_limit (drop taken piece)) n in
        let q = w.few in
        record {
          steps =
              subst (λ (l : List Token). SteppedBy R g l ends r ends') (sym o)
              (stepped-append R g (t ∷ []) (tokens_of (drop taken piece)) ends s ends₁ r ends' a w.steps);
          held = subst (Holds k) (sym c.holds) w.held;
          few = omega (arith, ap (λ (l : List Token). length (joined l)) o, length-append (utf8 code) (joined (tokens_of (drop taken piece))), n);
        }

  module _ (e : x.case ≡ Literal) where
    passed : LiteralIs (held_of h) piece
    passed = rw e at cr.is

    pub fed_literal : (s : Progress S) (ends₁ : List ℕ) → SteppedBy R g (byte_tokens (held_of h)) ends s ends₁
        → (r : Progress S) (k : Held) (ends' : List ℕ) → RestFedBy R s piece 0 ends₁ r k ends' → FedBy R g h piece ends r k ends'
    unfolding tokens_of tail_of
    fed_literal s ends₁ a r k ends' w =
        let c = passed in
        let o : tokens_of (held_of h ++ piece) ≡ byte_tokens (held_of h) ++ tokens_of piece = c.lets_out in
        let q = w.few in
        let j : joined (byte_tokens (held_of h) ++ tokens_of piece) ≡ held_of h ++ joined (tokens_of piece) = joined-run (held_of h) (tokens_of piece) in
        record {
          steps =
              subst (λ (l : List Token). SteppedBy R g l ends r ends') (sym o)
              (stepped-append R g (byte_tokens (held_of h)) (tokens_of piece) ends s ends₁ r ends' a w.steps);
          held = subst (Holds k) (sym c.holds) w.held;
          few = omega (arith, ap (λ (l : List Token). length (joined l)) o, ap length j, length-append (held_of h) (joined (tokens_of piece)), h_long h piece x cr);
        }

  pub after_literal : Space g (h.len + length piece) (length ends) → (s : Progress S) (ends₁ : List ℕ) → SteppedBy R g (byte_tokens (held_of h)) ends s ends₁ → Space s (length piece - 0) (length ends₁)
  after_literal sp s ends₁ y =
      let n = h_long h piece x cr in
      let b = held_of h in
      space-left R g (byte_tokens b) ends s ends₁ y (omega (arith, ap length (joined_bytes b), taken-bytes b)) (h.len + length piece) (length piece - 0) sp (omega (arith, taken-bytes b))

  module _ (e : x.case ≡ Pending) where
    growing : PendingIs (held_of h) piece x.joined
    growing = rw e at cr.is

    pub fed_pending : FedBy R g h piece ends g x.joined ends
    unfolding tokens_of tail_of
    fed_pending =
        let c = growing in
        let o : tokens_of (held_of h ++ piece) ≡ [] = c.lets_out in
        let j = cr.joins in
        let z : x.joined.len ≡ length (held_of h ++ piece) = j.size ∙ ap length c.is in
        record {
          steps = subst (λ (l : List Token). SteppedBy R g l ends g ends) (sym o) (stepped-none R g ends);
          held = record { is = c.is ∙ sym c.holds; size = z ∙ ap length (sym c.holds); few = c.fine.few; long = j.long };
          few = omega (arith, ap (λ (l : List Token). length (joined l)) o, length-append (held_of h) piece, h_long h piece x cr);
        }
