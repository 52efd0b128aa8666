-- The chunks of a piece: literal bytes where they stand, and a part through the room. On plain values. Assumes nothing.
use mathlib.Core.Path.{◌≡◌, sym, ap, ◌∙◌}
use mathlib.Core.Bool.{Bool, true, false, true≢false}
use mathlib.Core.List.{List, ◌++◌, append_assoc}
use Prim.Native.Nat.{ℕ, ◌+◌, ◌-◌, ◌≤◌, ◌<◌}
use native.Mathlib.Nat.{zero-add}
use native.Mathlib.Omega.{arith}
use lib.Dec.{ltb}
use lib.ListN.{length, take, drop, length-drop, take-append-drop}
use lib.Seq.{sets, length-sets, drop-drop, drop-append-le, length-take-le, take_all}
use borrow.Rule.Slice.PartMut.{mid_of}
use borrow.Author.Tests.{ltb-false}
use Rattle.model.specs.References.{form_limit, Token, joined, held_tail, out_tokens}
use Rattle.model.proofs.LentLists.{front-sets}
use Rattle.model.proofs.Decoding.{taken-bytes, held_cut, tokens_cut, held-length}
use Rattle.reference_search.specs.Candidates.{LiteralEnd}
use Rattle.piece_decoder.specs.declared.MarkedDecoded.{MarkedDecoded}
use Rattle.piece_decoder.specs.Chunks.{HandsOn, MarkedIs, chunk_size, PartEnd, InPlaceIs, ChunkIs}
use Rattle.piece_decoder.proofs.TokenLaws.{hands_none}

-- ---- `literal_chunk`

pub stays : (piece : List ℕ) (i : ℕ) → i < length piece → InPlaceIs piece i i
stays piece i h =
    let z : i - i ≡ 0 = omega arith in
    record { after = omega arith; hands_on = rw z (hands_none piece i (omega arith)) }

pub goes_on : (piece : List ℕ) (i e : ℕ) → LiteralEnd piece i e → InPlaceIs piece i e
goes_on piece i e v =
    let a = v.fore in
    let f = v.fits in
    let bytes : List ℕ = take (e - i) (drop i piece) in
    let n : length bytes ≡ e - i = length-take-le (e - i) (drop i piece) (omega (arith, length-drop i piece)) in
    record {
      after = a;
      hands_on = record { lets_out = v.lets_out; holds = v.holds; takes = omega (arith, taken-bytes bytes); fits = f };
    }

-- ---- `decode_chunk`

module _ (piece : List ℕ) (i : ℕ) (h : i < length piece) (room : List ℕ) (size : length room ≡ chunk_size)
    (k : ℕ) (p : PartEnd i (length piece) k) (f : MarkedDecoded) (room' marks' : List ℕ) (y : MarkedIs (mid_of i (k - i) piece) room f room' marks') where
  abbrev part : List ℕ
  part = take (k - i) (drop i piece)

  part-long : length part ≡ k - i
  part-long = let a = p.fits in length-take-le (k - i) (drop i piece) (omega (arith, length-drop i piece))

  part-rest : part ++ drop k piece ≡ drop i piece
  part-rest =
      let a = p.after in
      let e : i + (k - i) ≡ k = omega arith in
      ap (λ (l : List ℕ). part ++ l) (sym (drop-drop (k - i) i piece ∙ ap (λ (j : ℕ). drop j piece) e)) ∙ take-append-drop (k - i) (drop i piece)

  -- the rest of the part, and of the piece
  still : drop f.read part ++ drop k piece ≡ drop (i + f.read) piece
  still =
      sym (drop-append-le f.read part (drop k piece) y.hands_on.fits)
      ∙ ap (drop f.read) part-rest
      ∙ drop-drop f.read i piece

  within : i + f.read ≤ k
  within = let a = p.after in omega (arith, y.hands_on.fits, part-long)

  hands : HandsOn piece i y.tokens (i + f.read)
  hands =
      let a = p.fits in
      let ts : List Token = y.tokens in
      let q : List ℕ = drop f.read part in
      let w : List ℕ = drop k piece in
      let o : List ℕ → List Token = out_tokens form_limit in
      let t : List ℕ → List ℕ = held_tail form_limit in
      record {
        lets_out =
            ap o (sym part-rest)
            ∙ tokens_cut form_limit part w
            ∙ ap (λ (l : List ℕ). o part ++ o (l ++ w)) y.hands_on.holds
            ∙ ap (λ (l : List Token). l ++ o (t q ++ w)) y.hands_on.lets_out
            ∙ append_assoc ts (o q) (o (t q ++ w))
            ∙ ap (λ (l : List Token). ts ++ l) (sym (tokens_cut form_limit q w) ∙ ap o still);
        holds =
            ap t (sym part-rest)
            ∙ held_cut form_limit part w
            ∙ ap (λ (l : List ℕ). t (l ++ w)) y.hands_on.holds
            ∙ sym (held_cut form_limit q w)
            ∙ ap t still;
        takes = omega (arith, y.hands_on.takes);
        fits = omega (arith, within);
      }

  chunk : (held : Bool) → (held ≡ false → i < i + f.read) → (held ≡ true → held_tail form_limit (drop (i + f.read) piece) ≡ drop (i + f.read) piece)
      → ChunkIs piece i room (record { read = i + f.read; written = f.written; marks = f.marks; held = held }) room' marks'
  chunk held go all =
      let text : List ℕ = joined y.tokens in
      let w : f.written ≡ length text = y.written in
      let c = y.few in
      let s = p.small in
      record {
        tokens = y.tokens;
        hands_on = hands;
        text = ap (take f.written) y.list ∙ ap (λ (n : ℕ). take n (sets room 0 text)) (w ∙ sym (zero-add (length text))) ∙ front-sets room 0 text (omega (arith, within));
        marked = y.marked;
        few = omega arith;
        few-marks = y.few-marks;
        marks-long = y.marks-long;
        within = omega (arith, within);
        long = ap length y.list ∙ length-sets room 0 text;
        moves = go;
        all_held = all;
      }

  pub part-full : f.full ≡ true → ChunkIs piece i room (record { read = i + f.read; written = f.written; marks = f.marks; held = false }) room' marks'
  part-full e = chunk false (λ q. omega (arith, y.moves e)) (λ q. absurd (true≢false (sym q)))

  pub part-more : f.full ≡ false → k < length piece → ChunkIs piece i room (record { read = i + f.read; written = f.written; marks = f.marks; held = false }) room' marks'
  part-more e l =
      chunk false
      (λ q. omega (arith, p.full l, part-long, held-length form_limit (drop f.read part), ap length (y.all_held e), length-drop f.read part))
      (λ q. absurd (true≢false (sym q)))

  pub part-last : f.full ≡ false → length piece ≤ k → ChunkIs piece i room (record { read = i + f.read; written = f.written; marks = f.marks; held = ltb (i + f.read) k }) room' marks'
  part-last e l =
      let whole : part ≡ drop i piece = take_all (k - i) (drop i piece) (omega (arith, length-drop i piece)) in
      let z : drop f.read part ≡ drop (i + f.read) piece = ap (drop f.read) whole ∙ drop-drop f.read i piece in
      chunk (ltb (i + f.read) k)
      (λ q. let b = ltb-false (i + f.read) k q in let a = p.after in omega arith)
      (λ q. sym (ap (held_tail form_limit) z) ∙ y.all_held e ∙ z)
