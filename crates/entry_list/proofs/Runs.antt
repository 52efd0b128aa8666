-- A run left its ends at the front of the list; then they become pairs. On plain values, for every automaton. Assumes nothing.
use mathlib.Core.Path.{◌≡◌, sym, ap, ap₂, ◌∙◌}
use mathlib.Core.List.{List, ◌++◌}
use Prim.Native.Nat.{ℕ, suc, ◌+◌, ◌-◌, ◌*◌, ◌^◌, ◌≤◌, ◌<◌}
use native.Mathlib.Omega.{arith}
use lib.ListN.{length, get_or, take, drop, get_or-append}
use lib.Seq.{sets, sets-eq, length-sets, take_at}
use Rattle.model.specs.References.{Token, byte_tokens, joined}
use Rattle.model.specs.RawPlaces.{places_by, Entry, place_in, placed, entries_by, flat}
use Rattle.model.proofs.Places.{Rises, placed_same}
use Rattle.entry_list.specs.Marks.{mark_numbers, marked_place, Marked}
use Rattle.model.proofs.LentLists.{sets_over}
use Rattle.entry_list.specs.Pairing.{even_place, uneven_place, Paired, EvenFits, RisingEnds, UnevenFits}
use Rattle.entry_list.proofs.Spread.{pairs-length}
use Rattle.entry_list.proofs.Links.{even_is, uneven_is, rises_index}

module _ (at : ℕ) (n : ℕ) (E list list₁ : List ℕ) (k : ℕ) (rises : Rises at (at + n) E) (count : k ≡ length E) (few : k ≤ n) (room : 2 * n ≤ length list) (is : list₁ ≡ sets list 0 E) where
  pub pairs-long : length list₁ ≡ length list
  pairs-long = ap length is ∙ length-sets list 0 E

  shown : list₁ ≡ E ++ drop (0 + length E) list
  shown = is ∙ sets-eq E list 0 (omega arith)

  -- the ends, where the run left them
  pub run_ends : take k list₁ ≡ E
  run_ends = ap (take k) shown ∙ take_at E (drop (0 + length E) list) k (sym count)

  pub run_end : (j : ℕ) → j < k → get_or list₁ j 0 ≡ get_or E j 0
  run_end j h = ap (λ (l : List ℕ). get_or l j 0) shown ∙ get_or-append E (drop (0 + length E) list) 0 j (omega arith)

  pub run_rises : RisingEnds at n k list₁
  run_rises =
      let r = rises_index E at n rises in
      record {
        past = λ j h. let a = r.past j (omega arith) in omega (arith, run_end j h);
        near = λ j h. let a = r.near j (omega arith) in omega (arith, run_end j h);
        rise = λ j h. let a = r.rise j (omega arith) in let l : j < k = omega arith in omega (arith, run_end j l, run_end (suc j) h);
      }

  pub even-fits : (raw : ℕ) → raw + n < 2 ^ 32 → EvenFits at raw k list₁
  even-fits raw h =
      record {
        room = omega (arith, pairs-long);
        all = λ j l. let a = run_rises.past j l in let b = run_rises.near j l in record { past = a; small = omega arith };
      }

  pub uneven_fits : (raw : ℕ) (marks : List ℕ) (m : ℕ) → mark_numbers * m ≤ length marks → ((q : ℕ) → 1 ≤ q → q ≤ n → raw + marked_place marks m q < 2 ^ 32) → UnevenFits at raw marks m k list₁
  uneven_fits raw marks m h s =
      record {
        room = omega (arith, pairs-long);
        past = run_rises.past;
        rise = run_rises.rise;
        inside = h;
        small = λ j l. let a = run_rises.past j l in let b = run_rises.near j l in s (get_or list₁ j 0 - at) (omega arith) (omega arith);
      }

  -- pairs over the ends, by a raw count that is the model's
  pairs_by : (p q : ℕ → ℕ) → ((e : ℕ) → at < e → e ≤ at + n → p e ≡ q e) → (list₂ : List ℕ) → Paired p k list₁ list₂ → list₂ ≡ sets list 0 (flat (placed q E))
  pairs_by p q same list₂ x =
      let F : List ℕ = flat (placed p E) in
      let m : length F ≡ length E * 2 = pairs-length p E in
      x.list
      ∙ ap₂ (λ (l es : List ℕ). sets l 0 (flat (placed p es))) is run_ends
      ∙ sets_over list E F (omega arith) (omega arith)
      ∙ ap (λ (es : List Entry). sets list 0 (flat es)) (placed_same p q E at (at + n) rises same)

  pub pairs-even : (raw : ℕ) (text : List ℕ) → n ≡ length text → (list₂ : List ℕ) → Paired (even_place at raw) k list₁ list₂ → list₂ ≡ sets list 0 (flat (entries_by at raw (byte_tokens text) E))
  pairs-even raw text c = pairs_by (even_place at raw) (place_in at (places_by raw (byte_tokens text))) (λ e h l. even_is at raw text e h (omega arith))

  pub pairs_uneven : (raw : ℕ) (marks : List ℕ) (m : ℕ) (ts : List Token) → Marked marks m ts → n ≡ length (joined ts)
      → (list₂ : List ℕ) → Paired (uneven_place at raw marks m) k list₁ list₂ → list₂ ≡ sets list 0 (flat (entries_by at raw ts E))
  pairs_uneven raw marks m ts x c = pairs_by (uneven_place at raw marks m) (place_in at (places_by raw ts)) (λ e h l. uneven_is ts at raw marks m e x h (omega arith))
