-- Stepping over tokens from where a call stands: one run of them, none, and one run after another. On plain values. Assumes nothing.
use mathlib.Core.Path.{◌≡◌, refl, sym, ap, ap₂, subst, ◌∙◌}
use mathlib.Core.List.{List, [], ◌++◌}
use Prim.Native.Nat.{ℕ, ◌+◌, ◌-◌, ◌*◌, ◌^◌, ◌≤◌, ◌<◌}
use native.Mathlib.Nat.{add-zero}
use native.Mathlib.Omega.{arith}
use lib.ListN.{length, take, drop, length-append, length-take, length-drop}
use lib.Seq.{sets, length-sets}
use mir.Val.{Fits}
use mir.Syntax.{w64}
use borrow.Rule.Slice.PartMut.{put_mid, mid_of}
use Rattle.model.specs.References.{Token, byte_tokens, taken, joined}
use Rattle.model.specs.RawPlaces.{entries_by, flat, pair_numbers}
use Rattle.model.proofs.LentLists.{sets-append, sets-from, put_rest}
use Rattle.model.proofs.Decoding.{joined-append, joined_bytes, taken-append, taken-bytes}
use Rattle.model.proofs.Places.{Rises, placed-length, flat_append, flat-length, entries_append}
use Rattle.entry_list.specs.Pairing.{even_place, uneven_place, EvenFits, UnevenFits, Paired}
use Rattle.entry_list.proofs.Runs as Runs
use Rattle.piece_stepping.specs.declared.Progress.{Progress}
use Rattle.piece_stepping.specs.declared.Scanned.{Scanned}
use Rattle.piece_stepping.specs.Stepping.{Runner, TextScanned, entries_from, PairsRan, SteppedBy, Space, LaidFits, LaidRan, LaidStepped}

module _ {S : Type 0} (R : Runner S) where
  -- ---- a run, and then its ends as pairs

  module _ (d : S) (at : ℕ) (text list : List ℕ) (room : pair_numbers * length text ≤ length list) (r : Scanned S) (list₁ : List ℕ) (x : TextScanned R d at text list r list₁) where
    pub even-fits : (raw : ℕ) → raw + length text < 2 ^ 32 → EvenFits at raw r.count list₁
    even-fits raw h = Runs.even-fits at (length text) (R.ends d at text) list list₁ r.count (R.ends-rise d at text) x.count x.few room x.list raw h

    pub uneven_fits : (raw : ℕ) (marks : List ℕ) (m : ℕ) → LaidFits text marks m raw → UnevenFits at raw marks m r.count list₁
    uneven_fits raw marks m f = Runs.uneven_fits at (length text) (R.ends d at text) list list₁ r.count (R.ends-rise d at text) x.count x.few room x.list raw marks m f.inside f.small

    -- bytes that go out as they came
    pub even-ran : (raw : ℕ) (list₂ : List ℕ) → Paired (even_place at raw) r.count list₁ list₂ → PairsRan R d at raw (byte_tokens text) list r.d r.count list₂
    even-ran raw list₂ p =
        let j : joined (byte_tokens text) ≡ text = joined_bytes text in
        let l = Runs.pairs-even at (length text) (R.ends d at text) list list₁ r.count (R.ends-rise d at text) x.count x.few room x.list raw text refl list₂ p in
        record {
          state = x.state ∙ ap (R.after d) (sym j);
          count = x.count ∙ ap (λ (t : List ℕ). length (R.ends d at t)) (sym j);
          few = omega (arith, ap length j);
          list-is = l ∙ ap (λ (t : List ℕ). sets list 0 (flat (entries_by at raw (byte_tokens text) (R.ends d at t)))) (sym j);
        }

    -- a text with its marks
    pub uneven_ran : (raw : ℕ) (marks : List ℕ) (m : ℕ) (list₂ : List ℕ) → Paired (uneven_place at raw marks m) r.count list₁ list₂ → LaidRan R d at raw text marks m list r.d r.count list₂
    uneven_ran raw marks m list₂ p =
        record {
          few = x.few;
          long = p.long ∙ ap length x.list ∙ length-sets list 0 (R.ends d at text);
          ran = λ ts y.
              let j = y.text-is in
              let l = Runs.pairs_uneven at (length text) (R.ends d at text) list list₁ r.count (R.ends-rise d at text) x.count x.few room x.list raw marks m ts y.marked (ap length j) list₂ p in
              record {
                state = x.state ∙ ap (R.after d) j;
                count = x.count ∙ ap (λ (t : List ℕ). length (R.ends d at t)) j;
                few = omega (arith, ap length j);
                list-is = l ∙ ap (λ (t : List ℕ). sets list 0 (flat (entries_by at raw ts (R.ends d at t)))) j;
              };
        }

  -- ---- after the pairs stored

  entries_long : (d : S) (at raw : ℕ) (ts : List Token) → length (flat (entries_from R d at raw ts)) ≡ pair_numbers * length (R.ends d at (joined ts))
  entries_long d at raw ts =
      flat-length (entries_from R d at raw ts) ∙ ap (λ (k : ℕ). pair_numbers * k) (placed-length _ (R.ends d at (joined ts)))

  module _ (g : Progress S) (ends : List ℕ) where
    ran-stepped : (ts : List Token) → pair_numbers * (g.count + length (joined ts)) ≤ length ends → (d' : S) (n : ℕ) (part : List ℕ)
        → PairsRan R g.d g.at g.raw ts (mid_of (pair_numbers * g.count) (length ends - pair_numbers * g.count) ends) d' n part
        → (at' raw' : ℕ) → at' ≡ g.at + length (joined ts) → raw' ≡ g.raw + taken ts
        → SteppedBy R g ts ends (record { d = d'; at = at'; raw = raw'; count = g.count + n }) (put_mid (pair_numbers * g.count) (length ends - pair_numbers * g.count) ends part)
    ran-stepped ts room d' n part x at' raw' a r =
        let c = x.count in
        let f = x.few in
        let F : List ℕ = flat (entries_from R g.d g.at g.raw ts) in
        let w : pair_numbers * g.count + length F ≤ length ends = omega (arith, entries_long g.d g.at g.raw ts) in
        let l : put_mid (pair_numbers * g.count) (length ends - pair_numbers * g.count) ends part ≡ sets ends (pair_numbers * g.count) F =
        ap (put_mid (pair_numbers * g.count) (length ends - pair_numbers * g.count) ends) x.list-is ∙ sets-from ends (pair_numbers * g.count) F w in
        record {
          state = x.state;
          place = a;
          raw-place = r;
          count = rw c;
          few = omega arith;
          long = ap length l ∙ length-sets ends (pair_numbers * g.count) F;
          list = l;
        }

    pub stepped-bytes : (text : List ℕ) → Space g (length text) (length ends) → (d' : S) (n : ℕ) (part : List ℕ)
        → PairsRan R g.d g.at g.raw (byte_tokens text) (mid_of (pair_numbers * g.count) (length ends - pair_numbers * g.count) ends) d' n part
        → SteppedBy R g (byte_tokens text) ends (record { d = d'; at = g.at + length text; raw = g.raw + length text; count = g.count + n }) (put_mid (pair_numbers * g.count) (length ends - pair_numbers * g.count) ends part)
    stepped-bytes text s d' n part x =
        let j = ap length (joined_bytes text) in
        let r = s.room in
        ran-stepped (byte_tokens text) (omega arith) d' n part x (g.at + length text) (g.raw + length text) (omega arith) (omega (arith, taken-bytes text))

    pub stepped_laid : (text marks : List ℕ) (m took : ℕ) → Space g (length text) (length ends) → (d' : S) (n : ℕ) (part : List ℕ)
        → LaidRan R g.d g.at g.raw text marks m (mid_of (pair_numbers * g.count) (length ends - pair_numbers * g.count) ends) d' n part
        → LaidStepped R g text marks m took ends (record { d = d'; at = g.at + length text; raw = g.raw + took; count = g.count + n }) (put_mid (pair_numbers * g.count) (length ends - pair_numbers * g.count) ends part)
    stepped_laid text marks m took s d' n part x =
        let r = s.room in
        record {
          steps = λ ts y e.
              let j = ap length y.text-is in
              ran-stepped ts (omega arith) d' n part (x.ran ts y) (g.at + length text) (g.raw + took) (omega arith) (omega arith);
          long =
              let a : ℕ = pair_numbers * g.count in
              omega (arith, ap length (put_rest ends a part), length-append (take a ends) part, length-take a ends, x.long, length-take (length ends - a) (drop a ends), length-drop a ends);
        }

  -- ---- none, and one run after another

  pub stepped-none : (g : Progress S) (ends : List ℕ) → SteppedBy R g [] ends g ends
  stepped-none g ends =
      let n = R.ends-none g.d g.at in
      record {
        state = sym (R.after_none g.d);
        place = sym (add-zero _);
        raw-place = sym (add-zero _);
        count = omega (arith, ap length n);
        few = omega arith;
        long = refl;
        list = sym (ap (λ (es : List ℕ). sets ends (pair_numbers * g.count) (flat (entries_by g.at g.raw [] es))) n);
      }

  pub stepped-append : (g : Progress S) (xs ys : List Token) (ends : List ℕ) (h : Progress S) (ends' : List ℕ) (k : Progress S) (ends'' : List ℕ)
      → SteppedBy R g xs ends h ends' → SteppedBy R h ys ends' k ends'' → SteppedBy R g (xs ++ ys) ends k ends''
  stepped-append g xs ys ends h ends' k ends'' a b =
      let j = joined-append xs ys in
      let l = length-append (joined xs) (joined ys) in
      let p = a.place in
      let q = a.raw-place in
      let E : List ℕ = R.ends g.d g.at (joined xs) in
      let F : List ℕ = R.ends h.d h.at (joined ys) in
      let e : R.ends g.d g.at (joined (xs ++ ys)) ≡ E ++ F =
      ap (R.ends g.d g.at) j
      ∙ R.ends-append g.d g.at (joined xs) (joined ys)
      ∙ ap₂ (λ (d : S) (i : ℕ). E ++ R.ends d i (joined ys)) (sym a.state) (sym p) in
      let up : Rises (g.at + length (joined xs)) (h.at + length (joined ys)) F =
      subst (λ (i : ℕ). Rises i (h.at + length (joined ys)) F) p (R.ends-rise h.d h.at (joined ys)) in
      let es : entries_from R g.d g.at g.raw (xs ++ ys) ≡ entries_from R g.d g.at g.raw xs ++ entries_from R h.d h.at h.raw ys =
      ap (entries_by g.at g.raw (xs ++ ys)) e
      ∙ entries_append g.at g.raw xs ys E F (h.at + length (joined ys)) (R.ends-rise g.d g.at (joined xs)) up
      ∙ ap₂ (λ (i r : ℕ). entries_from R g.d g.at g.raw xs ++ entries_by i r ys F) (sym p) (sym q) in
      let X : List ℕ = flat (entries_from R g.d g.at g.raw xs) in
      let Y : List ℕ = flat (entries_from R h.d h.at h.raw ys) in
      let c = a.count in
      let c' = b.count in
      let p' = b.place in
      let q' = b.raw-place in
      let f = a.few in
      let f' = b.few in
      let at : pair_numbers * h.count ≡ pair_numbers * g.count + length X = omega (arith, entries_long g.d g.at g.raw xs) in
      record {
        state = b.state ∙ ap (λ (d : S). R.after d (joined ys)) a.state ∙ sym (ap (R.after g.d) j ∙ R.after-append g.d (joined xs) (joined ys));
        place = omega (arith, ap length j);
        raw-place = omega (arith, taken-append xs ys);
        count = omega (arith, ap length e, length-append E F);
        few = omega (arith, ap length j);
        long = b.long ∙ a.long;
        list =
            b.list
            ∙ ap₂ (λ (m : List ℕ) (i : ℕ). sets m i Y) a.list at
            ∙ sym (sets-append ends (pair_numbers * g.count) X Y)
            ∙ ap (sets ends (pair_numbers * g.count)) (sym (ap flat es ∙ flat_append (entries_from R g.d g.at g.raw xs) (entries_from R h.d h.at h.raw ys)));
      }

  -- room for what is left
  pub space-left : (g : Progress S) (ts : List Token) (ends : List ℕ) (r : Progress S) (ends' : List ℕ) → SteppedBy R g ts ends r ends' → length (joined ts) ≤ taken ts
      → (k k' : ℕ) → Space g k (length ends) → taken ts + k' ≤ k → Space r k' (length ends')
  space-left g ts ends r ends' x few k k' s h =
      let a = x.few in
      let p = x.place in
      let q = x.raw-place in
      let l = x.long in
      let s₀ = s.room in
      let s₁ = s.small in
      let s₂ = s.raw-small in
      let s₃ = s.count_small in
      record { room = omega arith; count_small = omega arith; small = omega arith; raw-small = omega arith }

-- a count of pairs, as a number of 64 bits
pub stored_bytes : {S : Type 0} (g : Progress S) (c n m : ℕ) (text : List ℕ) → Space g (length text) m → c ≡ g.count → n ≤ length (joined (byte_tokens text)) → Fits w64 (c + n)
stored_bytes g c n m text s e h = let k = s.count_small in omega (arith, ap length (joined_bytes text))
