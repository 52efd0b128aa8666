-- Held bytes and the head of a piece: joined, and read once. On plain values. Assumes nothing.
use mathlib.Core.Path.{◌≡◌, refl, sym, ap, subst, ◌∙◌}
use mathlib.Core.Bool.{true}
use mathlib.Core.List.{List, [], ◌∷◌, ◌++◌, append-nil, append_assoc}
use Prim.Native.Nat.{ℕ, suc, ◌+◌, ◌-◌, ◌≤◌, ◌<◌}
use native.Mathlib.Numerals.{add-one}
use native.Mathlib.Decide.{dec_le}
use native.Mathlib.Omega.{arith}
use lib.ListN.{length, take, drop, get_or, set, length-append, length-take, length-set, drop_of_length-le}
use lib.Seq.{drop-cons, take_all, take-suc-set, take-append-add, drop-append-add, length-take-le}
use Rattle.model.specs.References.{form_limit, held_most, found, reference_at, utf8, can_grow, held_tail, out_tokens}
use Rattle.model.proofs.Truth.{T-to}
use Rattle.model.proofs.Forms.{not_none}
use Rattle.model.proofs.Borders.{ref_into, ref_local, ref_growing}
use Rattle.model.proofs.Decoding.{growing_length}
use Rattle.reference_reader.specs.declared.Reference.{Reference}
use Rattle.reference_reader.specs.declared.Reference.TheVariants.{Decoded, Literal, Incomplete}
use Rattle.piece_decoder.specs.declared.held.Held.{Held}
use Rattle.piece_decoder.specs.declared.held.HeldOutcome.TheVariants.{Completed, Literal as LetOut, Pending}
use Rattle.reference_reader.specs.Reader.{reading, Moves, ReadIs}
use Rattle.piece_decoder.specs.Held.{held_of, HeldFine, TopUpIs, ResolvedIs}
use Rattle.model.proofs.Cuts.{out_reference, held_reference, out_passed, held-passed, out_open, held_open, held_grows}
use Rattle.reference_reader.proofs.Readings.{reading-front, decoded_told, literal_told, incomplete_told}

-- ---- `top_up`

pub record Topping (h : Held) (piece t : List ℕ) (n i : ℕ) : Type 0 where
  pub long : length t ≡ form_limit
  pub within : i ≤ length piece
  pub few : n ≤ form_limit
  pub held : length (held_of h) ≡ h.len
  pub is : take n t ++ take (form_limit - n) (drop i piece) ≡ take form_limit (held_of h ++ piece)

module _ (h : Held) (piece : List ℕ) where
  pub topping : length h.bytes ≡ form_limit → h.len ≤ held_most form_limit → Topping h piece h.bytes h.len 0
  topping long few =
      let l : length (held_of h) ≡ h.len = length-take-le h.len h.bytes (omega arith) in
      let e : length (held_of h) + (form_limit - h.len) ≡ form_limit = omega arith in
      record {
        long = long;
        within = omega arith;
        few = omega arith;
        held = l;
        is = sym (take-append-add (held_of h) piece (form_limit - h.len)) ∙ ap (λ (k : ℕ). take k (held_of h ++ piece)) e;
      }

  module _ {t : List ℕ} {n i : ℕ} (g : Topping h piece t n i) where
    size_is : n ≡ length (take n t)
    size_is = let l = g.long in let f = g.few in sym (length-take-le n t (omega arith))

    -- the piece is at its end
    pub topped_short : n < form_limit → i ≡ length piece → TopUpIs h piece (record { bytes = t; len = n })
    topped_short k e =
        let m : length piece ≤ i = omega arith in
        let d : drop i piece ≡ [] = drop_of_length-le piece m in
        let z : take (form_limit - n) (drop i piece) ≡ [] = ap (take (form_limit - n)) d ∙ take_all (form_limit - n) [] (omega arith) in
        record { is = sym (append-nil (take n t)) ∙ ap (λ (l : List ℕ). take n t ++ l) (sym z) ∙ g.is; long = g.long; few = g.few; size = size_is; held = g.held }

    -- the array is full
    pub topped_full : form_limit ≤ n → TopUpIs h piece (record { bytes = t; len = n })
    topped_full k =
        let f = g.few in
        let e : form_limit - n ≡ 0 = omega arith in
        record { is = sym (append-nil (take n t)) ∙ ap (λ (k : ℕ). take n t ++ take k (drop i piece)) (sym e) ∙ g.is; long = g.long; few = f; size = size_is; held = g.held }

    pub top_up_turn : n < form_limit → (i ≡ length piece → ⊥) → Topping h piece (set t n (get_or piece i 0)) (n + 1) (i + 1)
    top_up_turn k e =
        let w = g.within in
        let l = g.long in
        let lt : i < length piece = omega arith in
        let m : form_limit - n ≡ suc (form_limit - suc n) = omega arith in
        let q : take (form_limit - n) (drop i piece) ≡ get_or piece i 0 ∷ take (form_limit - suc n) (drop (suc i) piece) =
        ap (λ (k : ℕ). take k (drop i piece)) m ∙ ap (take (suc (form_limit - suc n))) (drop-cons piece i 0 lt) in
        let p : take (suc n) (set t n (get_or piece i 0)) ≡ take n t ++ (get_or piece i 0 ∷ []) = take-suc-set t n (get_or piece i 0) (omega arith) in
        record {
          long = length-set t n (get_or piece i 0) ∙ l;
          within = omega arith;
          few = omega arith;
          held = g.held;
          is =
              rw (add-one n, add-one i)
              (ap (λ (l : List ℕ). l ++ take (form_limit - suc n) (drop (suc i) piece)) p
              ∙ append_assoc (take n t) (get_or piece i 0 ∷ []) (take (form_limit - suc n) (drop (suc i) piece))
              ∙ ap (λ (l : List ℕ). take n t ++ l) (sym q)
              ∙ g.is);
        }

-- ---- `resolve_held`

-- a reference is no shorter than what was held
longer : (xs ys : List ℕ) (n k : ℕ) → held_tail form_limit xs ≡ xs → reference_at form_limit (xs ++ ys) ≡ found n k → length xs ≤ k
longer [] ys n k e q = omega arith
longer (c ∷ xs) ys n k e q = go (dec_le k (length (c ∷ xs)))
  where
    go : Dec (k ≤ length (c ∷ xs)) → length (c ∷ xs) ≤ k
    go (yes l) = not_none (sym (ref_growing form_limit (c ∷ xs) (T-to (sym (held_grows form_limit c xs e)) tt)) ∙ ref_local form_limit (c ∷ xs) ys n k q l)
    go (no l) = omega arith

-- what can grow is held whole, lets nothing out, and is short of a form
record Grows (xs : List ℕ) : Type 0 where
  holds : held_tail form_limit xs ≡ xs
  lets_out : out_tokens form_limit xs ≡ []
  short : length xs < form_limit

grows_whole : (xs : List ℕ) → can_grow form_limit xs ≡ true → Grows xs
grows_whole [] q = record { holds = refl; lets_out = refl; short = omega arith }
grows_whole (c ∷ xs) q =
    record { holds = held_open form_limit c xs q; lets_out = out_open form_limit c xs q; short = growing_length form_limit (c ∷ xs) (T-to (sym q) tt) }

module _ (h : Held) (piece : List ℕ) (fine : HeldFine h) (j : Held) (x : TopUpIs h piece j) (r : Reference) (y : ReadIs (held_of j) r) where
  abbrev whole : List ℕ
  whole = held_of h ++ piece

  read_whole : r ≡ reading form_limit whole
  read_whole = y.is ∙ ap (reading form_limit) x.is ∙ reading-front form_limit whole

  module _ (code k : ℕ) (e : r ≡ Decoded code k) where
    told : reference_at form_limit whole ≡ found code k
    told = decoded_told form_limit whole code k (sym e ∙ read_whole)

    moving : Moves (held_of j) (Decoded code k)
    moving = subst (Moves (held_of j)) e y.moves

    pub resolved_moves : h.len ≤ k
    resolved_moves = let q = longer (held_of h) piece code k fine.tail told in let l = x.held in omega arith

    pub resolved_completed : ResolvedIs h piece (record { case = Completed code (k - h.len); joined = j })
    resolved_completed =
        let m₁ = moving.1 in
        let m₂ = moving.2 in
        let q = resolved_moves in
        let l = x.held in
        let z : k ≡ length (held_of h) + (k - h.len) = omega arith in
        let after : drop k whole ≡ drop (k - h.len) piece = ap (λ (i : ℕ). drop i whole) z ∙ drop-append-add (held_of h) piece (k - h.len) in
        record {
          joins = x;
          is = record {
            lets_out =
                out_reference form_limit whole code k told
                ∙ ap (λ (l : List ℕ). record { takes = k; gives = utf8 code } ∷ out_tokens form_limit l) after
                ∙ ap (λ (n : ℕ). record { takes = n; gives = utf8 code } ∷ out_tokens form_limit (drop (k - h.len) piece)) z;
            holds = held_reference form_limit whole code k told ∙ ap (held_tail form_limit) after;
            fits = omega (arith, ap length x.is, length-take form_limit whole, length-append (held_of h) piece);
            few = omega arith;
            short = omega (arith, (ref_into form_limit whole code k told).short);
            small = moving.3;
          };
        }

  pub resolved_literal : r ≡ Literal → ResolvedIs h piece (record { case = LetOut; joined = j })
  resolved_literal e =
      let q = literal_told form_limit whole (sym e ∙ read_whole) in
      record {
        joins = x;
        is = record {
          lets_out = out_passed form_limit (held_of h) piece fine.tail q.1 q.0;
          holds = held-passed form_limit (held_of h) piece fine.tail q.1;
        };
      }

  pub resolved_pending : r ≡ Incomplete → ResolvedIs h piece (record { case = Pending; joined = j })
  resolved_pending e =
      let g = grows_whole whole (incomplete_told form_limit whole (sym e ∙ read_whole)).1 in
      let s = g.short in
      let a : held_of j ≡ whole = x.is ∙ take_all form_limit whole (omega arith) in
      record {
        joins = x;
        is = record {
          lets_out = g.lets_out;
          holds = g.holds;
          is = a;
          fine = record { few = omega (arith, x.size, ap length a); tail = rw a g.holds };
        };
      }
