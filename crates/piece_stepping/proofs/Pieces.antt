-- A piece with nothing held: part by part, and all of it. On plain values. Assumes nothing.
use mathlib.Core.Path.{◌≡◌, refl, sym, ap, subst, ◌∙◌}
use mathlib.Core.Bool.{Bool, true, false, true≢false}
use mathlib.Core.List.{List, [], ◌++◌, append-nil, append_assoc}
use Prim.Native.Nat.{ℕ, ◌+◌, ◌-◌, ◌≤◌, ◌<◌}
use native.Mathlib.Omega.{arith}
use lib.ListN.{length, take, drop, length-append, length-take, drop_of_length-le}
use borrow.Rule.Slice.PartMut.{mid_of}
use Rattle.model.specs.References.{form_limit, Token, byte_tokens, joined}
use Rattle.model.proofs.Decoding.{joined-append, joined_bytes, taken-bytes}
use Rattle.model.proofs.Places.{place-taken}
use Rattle.model.proofs.Cuts.{out_held}
use Rattle.piece_decoder.specs.declared.Chunk.{Chunk}
use Rattle.piece_decoder.specs.Chunks.{InPlaceIs, ChunkIs}
use Rattle.piece_stepping.specs.declared.Progress.{Progress}
use Rattle.piece_stepping.specs.Stepping.{tokens_of, tail_of, Runner, SteppedBy, Space, LaidFits, LaidStepped, PartStepped, RestStepped}
use Rattle.piece_stepping.proofs.Steps.{stepped-none, stepped-append, space-left}

-- ---- a part of a piece: the text of its tokens is stepped over

module _ {S : Type 0} (R : Runner S) (g : Progress S) (piece : List ℕ) (i : ℕ) (ends : List ℕ) where
  -- through a room
  pub room-stepped : (room : List ℕ) (f : Chunk) (room' marks' : List ℕ) → ChunkIs piece i room f room' marks'
      → (took : ℕ) → took ≡ f.read - i → (s : Progress S) (ends' : List ℕ) → LaidStepped R g (mid_of 0 (f.written - 0) room') marks' f.marks took ends s ends'
      → PartStepped R g piece i ends s f.read f.held ends'
  unfolding tokens_of tail_of
  room-stepped room f room' marks' x took e s ends' y =
      let o = x.hands_on in
      let ts = x.tokens in
      let z : f.written - 0 ≡ f.written = omega arith in
      let t = o.takes in
      let c = x.few in
      let w = x.within in
      let n : length (joined ts) ≡ f.written = omega (arith, ap length x.text, length-take f.written room', x.long) in
      record {
        tokens = ts;
        steps = y.steps ts (record { text-is = ap (λ (n : ℕ). take n room') z ∙ x.text; marked = x.marked }) (omega arith);
        lets_out = o.lets_out;
        holds = o.holds;
        fits = o.fits;
        takes = t;
        few = omega arith;
        moves = x.moves;
        all_held = x.all_held;
      }

  -- where it stands
  pub place-stepped : (e : ℕ) → InPlaceIs piece i e → i < e → (s : Progress S) (ends' : List ℕ) → SteppedBy R g (byte_tokens (mid_of i (e - i) piece)) ends s ends'
      → PartStepped R g piece i ends s e false ends'
  unfolding tokens_of tail_of
  place-stepped e x h s ends' y =
      let o = x.hands_on in
      let bytes : List ℕ = take (e - i) (drop i piece) in
      record {
        tokens = byte_tokens bytes;
        steps = y;
        lets_out = o.lets_out;
        holds = o.holds;
        fits = o.fits;
        takes = o.takes;
        few = omega (arith, ap length (joined_bytes bytes), taken-bytes bytes);
        moves = λ q. h;
        all_held = λ q. absurd (true≢false (sym q));
      }

-- and a chunk's marks are small enough
module _ {S : Type 0} (g : Progress S) (piece : List ℕ) (i m : ℕ) (space : Space g (length piece - i) m) (room : List ℕ) (f : Chunk) (room' marks' : List ℕ) (x : ChunkIs piece i room f room' marks') where
  written_is : length (mid_of 0 (f.written - 0) room') ≡ f.written
  written_is = let w = x.within in omega (arith, length-take (f.written - 0) room', x.long)

  text-is : f.written ≡ length (joined x.tokens)
  text-is = let w = x.within in omega (arith, ap length x.text, length-take f.written room', x.long)

  pub chunk_fits : (raw : ℕ) → raw ≡ g.raw → LaidFits (mid_of 0 (f.written - 0) room') marks' f.marks raw
  chunk_fits raw e =
      let o = x.hands_on.fits in
      let t = x.hands_on.takes in
      let s = space.raw-small in
      record {
        inside = x.few-marks;
        small = λ q a b.
            let l : q ≤ length (joined x.tokens) = omega (arith, written_is, text-is) in
            omega (arith, x.marked.within q a l, place-taken x.tokens q a l);
      }

-- ---- the rest of a piece

pub record Resting {S : Type 0} (R : Runner S) (g₀ : Progress S) (piece : List ℕ) (from : ℕ) (ends₀ : List ℕ) (g : Progress S) (i : ℕ) (ends : List ℕ) : Type 0 where
  pub done : List Token
  pub steps : SteppedBy R g₀ done ends₀ g ends
  pub lets_out : tokens_of (drop from piece) ≡ done ++ tokens_of (drop i piece)
  pub holds : tail_of (drop from piece) ≡ tail_of (drop i piece)
  pub within : i ≤ length piece
  pub few : length (joined done) + from ≤ i
  pub long : length ends ≡ length ends₀
  pub space : Space g (length piece - i) (length ends)

tail_nil : tail_of [] ≡ []
unfolding tail_of
tail_nil = refl

-- a list that is all held lets nothing out
pub held-silent : (xs : List ℕ) → tail_of xs ≡ xs → tokens_of xs ≡ []
unfolding tokens_of tail_of
held-silent xs e = out_held form_limit xs e

module _ {S : Type 0} (R : Runner S) (g₀ : Progress S) (piece : List ℕ) (from : ℕ) (ends₀ : List ℕ) where
  pub resting : from ≤ length piece → Space g₀ (length piece - from) (length ends₀) → Resting R g₀ piece from ends₀ g₀ from ends₀
  resting w s =
      record { done = []; steps = stepped-none R g₀ ends₀; lets_out = refl; holds = refl; within = w; few = omega arith; long = refl; space = s }

  module _ {g : Progress S} {i : ℕ} {ends : List ℕ} (w : Resting R g₀ piece from ends₀ g i ends) {r : Progress S} {read : ℕ} {held : Bool} {ends' : List ℕ}
      (x : PartStepped R g piece i ends r read held ends') where
    both : SteppedBy R g₀ (w.done ++ x.tokens) ends₀ r ends'
    both = stepped-append R g₀ w.done x.tokens ends₀ g ends r ends' w.steps x.steps

    out_both : tokens_of (drop from piece) ≡ (w.done ++ x.tokens) ++ tokens_of (drop read piece)
    out_both = w.lets_out ∙ ap (λ (l : List Token). w.done ++ l) x.lets_out ∙ sym (append_assoc w.done x.tokens (tokens_of (drop read piece)))

    few-both : length (joined (w.done ++ x.tokens)) + from ≤ read
    few-both =
        let a = w.few in
        let b = x.few in
        let c = x.takes in
        omega (arith, ap length (joined-append w.done x.tokens), length-append (joined w.done) (joined x.tokens))

    pub rest_open : held ≡ true → RestStepped R g₀ piece from ends₀ r read ends'
    rest_open e =
        let a = x.all_held e in
        let o : tokens_of (drop from piece) ≡ w.done ++ x.tokens =
        out_both ∙ ap (λ (l : List Token). (w.done ++ x.tokens) ++ l) (held-silent (drop read piece) a) ∙ append-nil (w.done ++ x.tokens) in
        record {
          steps = subst (λ (l : List Token). SteppedBy R g₀ l ends₀ r ends') (sym o) both;
          holds = w.holds ∙ x.holds ∙ a;
          fits = x.fits;
          few = omega (arith, ap (λ (l : List Token). length (joined l)) o, few-both);
        }

    pub rest-turn : held ≡ false → Resting R g₀ piece from ends₀ r read ends'
    rest-turn e =
        let t = x.takes in
        let f = x.fits in
        record {
          done = w.done ++ x.tokens;
          steps = both;
          lets_out = out_both;
          holds = w.holds ∙ x.holds;
          within = f;
          few = few-both;
          long = x.steps.long ∙ w.long;
          space = space-left R g x.tokens ends r ends' x.steps x.few (length piece - i) (length piece - read) w.space (omega arith);
        }

  module _ {g : Progress S} {i : ℕ} {ends : List ℕ} (w : Resting R g₀ piece from ends₀ g i ends) where
    pub rest_over : length piece ≤ i → RestStepped R g₀ piece from ends₀ g i ends
    rest_over h =
        let n : drop i piece ≡ [] = drop_of_length-le piece h in
        let o : tokens_of (drop from piece) ≡ w.done =
        w.lets_out ∙ ap (λ (l : List ℕ). w.done ++ tokens_of l) n ∙ ap (λ (l : List Token). w.done ++ l) (held-silent [] tail_nil) ∙ append-nil w.done in
        let f = w.few in
        record {
          steps = subst (λ (l : List Token). SteppedBy R g₀ l ends₀ g ends) (sym o) w.steps;
          holds = w.holds ∙ ap tail_of n ∙ tail_nil ∙ sym n;
          fits = w.within;
          few = omega (arith, ap (λ (l : List Token). length (joined l)) o);
        }
