-- Tokens decoded into a buffer: some of them, and all that raw bytes let out. On plain values. Assumes nothing.
use mathlib.Core.Path.{◌≡◌, refl, sym, ap, subst, ◌∙◌}
use mathlib.Core.Bool.{true, false, true≢false}
use mathlib.Core.List.{List, [], ◌∷◌, ◌++◌, append-nil, append_assoc}
use Prim.Native.Nat.{ℕ, zero, suc, ◌+◌, ◌-◌, ◌≤◌, ◌<◌}
use native.Mathlib.Nat.{add-zero, zero-add}
use native.Mathlib.Numerals.{add-one}
use native.Mathlib.Omega.{arith}
use lib.ListN.{length, take, drop, get_or, set, length-append, length-drop, drop_of_length-le, take-append-drop}
use lib.Seq.{sets, length-sets, drop-cons, drop-drop, length-take-le, take_all}
use mir.Val.{Fits}
use mir.Syntax.{w64}
use borrow.Rule.Slice.PartMut.{put_mid, mid_of}
use Rattle.model.specs.References.{form_limit, none, found, reference_at, utf8, Token, byte_token, byte_tokens, joined, can_grow, held_tail, out_tokens}
use Rattle.model.proofs.LentLists.{sets-append, sets-from}
use Rattle.model.proofs.Borders.{ref_into}
use Rattle.model.proofs.Decoding.{form_four, joined-append, joined_bytes, taken-append, taken-bytes}
use Rattle.model.proofs.Cuts.{out_reference, held_reference, out_none, held_none, held_open, out_run, held-run, out_held}
use Rattle.literal_run.specs.LiteralRuns.{LiteralsCopied}
use Rattle.reference_reader.specs.declared.Reference.{Reference}
use Rattle.reference_reader.specs.declared.Reference.TheVariants.{Decoded, Literal, Incomplete}
use Rattle.reference_reader.specs.Reader.{reading, Moves, ReadIs}
use Rattle.reference_reader.specs.Utf8.{PutFine, Put}
use Rattle.reference_reader.proofs.Readings.{decoded_told, literal_told, incomplete_told}
use Rattle.piece_decoder.specs.declared.TokenRead.{TokenRead}
use Rattle.piece_decoder.specs.Chunks.{HandsOn, TokenIs, TokensDecodedIs}

-- ---- tokens handed on: none, and some after others

pub hands_none : (piece : List ℕ) (i : ℕ) → i ≤ length piece → HandsOn piece i [] i
hands_none piece i h = record { lets_out = refl; holds = refl; takes = add-zero i; fits = h }

pub hands_join : (piece : List ℕ) (i j k : ℕ) (ts us : List Token) → HandsOn piece i ts j → HandsOn piece j us k → HandsOn piece i (ts ++ us) k
hands_join piece i j k ts us x y =
    let a = x.takes in
    let b = y.takes in
    record {
      lets_out = x.lets_out ∙ ap (λ (l : List Token). ts ++ l) y.lets_out ∙ sym (append_assoc ts us (out_tokens form_limit (drop k piece)));
      holds = x.holds ∙ y.holds;
      takes = omega (arith, taken-append ts us);
      fits = y.fits;
    }

-- ---- `decode_amp`, `decode_token`

-- every form has four bytes at least
reference_four : (cs : List ℕ) (n k : ℕ) → reference_at form_limit cs ≡ found n k → 4 ≤ k
reference_four cs n k q = let p = (ref_into form_limit cs n k q).prefix in omega (arith, form_four p.form, p.size)

module _ (raw out : List ℕ) (i at : ℕ) (h : i < length raw) (wide : at + length raw ≤ length out + i) where
  rest-is : mid_of i (length raw - i) raw ≡ drop i raw
  rest-is = take_all (length raw - i) (drop i raw) (omega (arith, length-drop i raw))

  room-left : length (mid_of at (length out - at) out) ≡ length out - at
  room-left = length-take-le (length out - at) (drop at out) (omega (arith, length-drop at out))

  -- a run of plain bytes
  pub token-run : (get_or raw i 0 ≡ 38 → ⊥) → (n : ℕ) (part : List ℕ) → LiteralsCopied (mid_of i (length raw - i) raw) (mid_of at (length out - at) out) n part
      → TokenIs raw i out at (record { read = i + n; written = at + n; held = false; reference = false }) (put_mid at (length out - at) out part)
  token-run z n part x =
      let d = drop i raw in
      let y : LiteralsCopied d (mid_of at (length out - at) out) n part = subst (λ (l : List ℕ). LiteralsCopied l (mid_of at (length out - at) out) n part) rest-is x in
      let u = y.run in
      let f = u.fits in
      let l : length d ≡ length raw - i = length-drop i raw in
      let t : length (take n d) ≡ n = length-take-le n d f in
      let j : joined (byte_tokens (take n d)) ≡ take n d = joined_bytes (take n d) in
      let first : get_or d 0 0 ≡ get_or raw i 0 = ap (λ (l : List ℕ). get_or l 0 0) (drop-cons raw i 0 h) in
      let some : 0 < n = positive n (λ e. z (sym first ∙ (subst (λ (j : ℕ). get_or d j 0 ≡ 38) e (u.stops (omega arith))))) in
      record {
        tokens = byte_tokens (take n d);
        hands_on =
            record {
              lets_out =
                  ap (out_tokens form_limit) (sym (take-append-drop n d))
                  ∙ out_run form_limit (take n d) (drop n d) u.plain
                  ∙ ap (λ (l : List ℕ). byte_tokens (take n d) ++ out_tokens form_limit l) (drop-drop n i raw);
              holds = ap (held_tail form_limit) (sym (take-append-drop n d)) ∙ held-run form_limit (take n d) (drop n d) u.plain ∙ ap (held_tail form_limit) (drop-drop n i raw);
              takes = omega (arith, taken-bytes (take n d));
              fits = omega arith;
            };
        written = omega (arith, ap length j);
        few = omega arith;
        list = rw y.list (sets-from out at (take n d) (omega arith)) ∙ ap (sets out at) (sym j);
        plain = λ e. ap byte_tokens (sym j);
        single = λ e. absurd (true≢false (sym e));
        long = λ e. absurd (true≢false (sym e));
        held_plain = λ e. refl;
        moves = λ e. omega arith;
        all_held = λ e. absurd (true≢false (sym e));
      }
    where
      positive : (n : ℕ) → (n ≡ 0 → ⊥) → 0 < n
      positive zero f = absurd (f refl)
      positive (suc n) f = omega arith

  module _ (r : Reference) (x : ReadIs (mid_of i (length raw - i) raw) r) where
    read_rest : r ≡ reading form_limit (drop i raw)
    read_rest = x.is ∙ ap (reading form_limit) rest-is

    -- a legal reference
    module _ (code k : ℕ) (e : r ≡ Decoded code k) where
      moving : Moves (drop i raw) (Decoded code k)
      moving = subst (λ (l : List ℕ). Moves l (Decoded code k)) rest-is (subst (Moves (mid_of i (length raw - i) raw)) e x.moves)

      pub code_fits : PutFine (mid_of at (length out - at) out) code
      code_fits =
          let m = moving in
          let m₁ = m.1 in
          let m₂ = m.2 in
          record { small = m.3; room = omega (arith, room-left, length-drop i raw) }

      pub code-after : Fits w64 (length raw) → Fits w64 (i + k)
      code-after f = let m = moving.1 in omega (arith, length-drop i raw)

      pub token-decoded : (n : ℕ) (part : List ℕ) → Put (mid_of at (length out - at) out) code n part
          → TokenIs raw i out at (record { read = i + k; written = at + n; held = false; reference = true }) (put_mid at (length out - at) out part)
      token-decoded n part p =
          let m = moving in
          let m₀ = m.0 in
          let m₁ = m.1 in
          let m₂ = m.2 in
          let c = p.count in
          let q = decoded_told form_limit (drop i raw) code k (sym e ∙ read_rest) in
          let j : utf8 code ++ [] ≡ utf8 code = append-nil (utf8 code) in
          record {
            tokens = record { takes = k; gives = utf8 code } ∷ [];
            hands_on =
                record {
                  lets_out =
                      out_reference form_limit (drop i raw) code k q
                      ∙ ap (λ (l : List ℕ). record { takes = k; gives = utf8 code } ∷ out_tokens form_limit l) (drop-drop k i raw);
                  holds = held_reference form_limit (drop i raw) code k q ∙ ap (held_tail form_limit) (drop-drop k i raw);
                  takes = omega arith;
                  fits = omega (arith, length-drop i raw);
                };
            written = omega (arith, ap length j);
            few = omega arith;
            list = rw p.list (sets-from out at (utf8 code) (omega (arith, length-drop i raw))) ∙ ap (sets out at) (sym j);
            plain = λ e. absurd (true≢false e);
            single = λ e. record { token = record { takes = k; gives = utf8 code }; is = refl };
            long = λ e. let z = reference_four (drop i raw) code k q in omega arith;
            held_plain = λ e. absurd (true≢false (sym e));
            moves = λ e. omega arith;
            all_held = λ e. absurd (true≢false (sym e));
          }

    -- a byte that begins no form
    pub token_literal : r ≡ Literal → TokenIs raw i out at (record { read = i + 1; written = at + 1; held = false; reference = false }) (set out at (get_or raw i 0))
    token_literal e =
        let f = literal_told form_limit (drop i raw) (sym e ∙ read_rest) in
        let c = drop-cons raw i 0 h in
        let gr : can_grow form_limit (get_or raw i 0 ∷ drop (suc i) raw) ≡ false = ap (can_grow form_limit) (sym c) ∙ f.1 in
        let rf : reference_at form_limit (get_or raw i 0 ∷ drop (suc i) raw) ≡ none = ap (reference_at form_limit) (sym c) ∙ f.0 in
        record {
          tokens = byte_token (get_or raw i 0) ∷ [];
          hands_on =
              record {
                lets_out =
                    ap (out_tokens form_limit) c
                    ∙ out_none form_limit (get_or raw i 0) (drop (suc i) raw) gr rf
                    ∙ ap (λ (j : ℕ). byte_token (get_or raw i 0) ∷ out_tokens form_limit (drop j raw)) (sym (add-one i));
                holds = ap (held_tail form_limit) c ∙ held_none form_limit (get_or raw i 0) (drop (suc i) raw) gr ∙ ap (λ (j : ℕ). held_tail form_limit (drop j raw)) (sym (add-one i));
                takes = refl;
                fits = omega arith;
              };
          written = refl;
          few = omega arith;
          list = refl;
          plain = λ e. refl;
          single = λ e. absurd (true≢false (sym e));
          long = λ e. absurd (true≢false (sym e));
          held_plain = λ e. refl;
          moves = λ e. omega arith;
          all_held = λ e. absurd (true≢false (sym e));
        }

    -- all the rest can still grow
    pub token_incomplete : r ≡ Incomplete → TokenIs raw i out at (record { read = i; written = at; held = true; reference = false }) out
    token_incomplete e =
        let f = incomplete_told form_limit (drop i raw) (sym e ∙ read_rest) in
        let c = drop-cons raw i 0 h in
        record {
          tokens = [];
          hands_on = hands_none raw i (omega arith);
          written = sym (add-zero at);
          few = omega arith;
          list = refl;
          plain = λ e. refl;
          single = λ e. absurd (true≢false (sym e));
          long = λ e. absurd (true≢false (sym e));
          held_plain = λ e. refl;
          moves = λ e. absurd (true≢false e);
          all_held = λ e. ap (held_tail form_limit) c ∙ held_open form_limit (get_or raw i 0) (drop (suc i) raw) (ap (can_grow form_limit) (sym c) ∙ f.1) ∙ sym c;
        }

-- ---- `decode_tokens`

pub record Writing (raw out₀ out : List ℕ) (i at : ℕ) : Type 0 where
  pub done : List Token
  pub hands_on : HandsOn raw 0 done i
  pub count : at ≡ length (joined done)
  pub few : at ≤ i
  pub list : out ≡ sets out₀ 0 (joined done)
  pub long : length out ≡ length out₀

module _ (raw out₀ : List ℕ) where
  abbrev pub begun : Writing raw out₀ out₀ 0 0
  begun = record { done = []; hands_on = hands_none raw 0 (omega arith); count = refl; few = omega arith; list = refl; long = refl }

  -- nothing more is let out, so the tokens so far are all
  pub all-tokens : {out : List ℕ} {i at : ℕ} (g : Writing raw out₀ out i at) → held_tail form_limit (drop i raw) ≡ drop i raw → out_tokens form_limit raw ≡ g.done
  all-tokens {out} {i} {at} g a = g.hands_on.lets_out ∙ ap (λ (l : List Token). g.done ++ l) (out_held form_limit (drop i raw) a) ∙ append-nil g.done

  pub all-written : {out : List ℕ} {i at : ℕ} → Writing raw out₀ out i at → held_tail form_limit (drop i raw) ≡ drop i raw
      → TokensDecodedIs raw out₀ (record { read = i; written = at }) out
  all-written {out} {i} {at} g a =
      let x = g.hands_on in
      let o = all-tokens g a in
      record {
        list = g.list ∙ ap (λ (l : List Token). sets out₀ 0 (joined l)) (sym o);
        written = g.count ∙ ap (λ (l : List Token). length (joined l)) (sym o);
        holds = sym (x.holds ∙ a);
        fits = x.fits;
        few = g.few;
      }

  module _ {out : List ℕ} {i at : ℕ} (g : Writing raw out₀ out i at) where
    module _ {r : TokenRead} {out' : List ℕ} (x : TokenIs raw i out at r out') where
      abbrev pub further : Writing raw out₀ out' r.read r.written
      further =
          let f = x.few in
          let k = g.few in
          let c = g.count in
          let w = x.written in
          let j : joined (g.done ++ x.tokens) ≡ joined g.done ++ joined x.tokens = joined-append g.done x.tokens in
          let e : out' ≡ sets out₀ 0 (joined (g.done ++ x.tokens)) =
          x.list
          ∙ ap (λ (l : List ℕ). sets l at (joined x.tokens)) g.list
          ∙ ap (λ (k : ℕ). sets (sets out₀ 0 (joined g.done)) k (joined x.tokens)) (c ∙ sym (zero-add (length (joined g.done))))
          ∙ sym (sets-append out₀ 0 (joined g.done) (joined x.tokens))
          ∙ ap (sets out₀ 0) (sym j) in
          record {
            done = g.done ++ x.tokens;
            hands_on = hands_join raw 0 i r.read g.done x.tokens g.hands_on x.hands_on;
            count = omega (arith, ap length j, length-append (joined g.done) (joined x.tokens));
            few = omega arith;
            list = e;
            long = ap length e ∙ length-sets out₀ 0 (joined (g.done ++ x.tokens));
          }

      pub turn : r.held ≡ false → Writing raw out₀ out' r.read r.written
      turn e = further

      pub stopped : r.held ≡ true → TokensDecodedIs raw out₀ (record { read = r.read; written = r.written }) out'
      stopped e = all-written further (x.all_held e)

      pub less : r.held ≡ false → length raw - r.read < length raw - i
      less e = let m = x.moves e in omega (arith, x.hands_on.fits)

    pub over : length raw ≤ i → TokensDecodedIs raw out₀ (record { read = i; written = at }) out
    over stop =
        let n : drop i raw ≡ [] = drop_of_length-le raw stop in
        all-written g (ap (held_tail form_limit) n ∙ sym n)
