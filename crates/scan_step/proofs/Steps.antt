-- What the lowest word alone does from a value's state is what the four do. On plain values. Assumes nothing.
use mathlib.Core.Path.{◌≡◌, sym, ap, ap₂, subst, ◌∙◌}
use mathlib.Core.List.{List, ◌++◌}
use Prim.Native.Nat.{ℕ, ◌+◌, ◌*◌}
use native.Mathlib.Omega.{arith}
use lib.ListN.{length, take}
use lib.Seq.{sets, take-take, length-take-le}
use Rattle.model.specs.References.{Token, joined}
use Rattle.model.specs.RawPlaces.{entries_by, flat, pair_numbers}
use Rattle.piece_decoder.specs.declared.held.Held.{Held}
use Rattle.prefilter.specs.declared.Prefilter.{Prefilter}
use Rattle.prefilter.specs.Soundness.{PrefilterSound}
use Rattle.shift_and.specs.Automaton.{Automaton}
use Rattle.shift_and_step.specs.declared.Masks.{Masks}
use Rattle.shift_and_step.specs.Stepping.{automaton_of, TableFits}
use Rattle.shift_and_wide.specs.declared.Wide.{Wide}
use Rattle.shift_and_wide.specs.Wides.{low}
use Rattle.piece_stepping.specs.declared.Progress.{Progress}
use Rattle.piece_stepping.specs.Stepping.{tokens_of, SteppedBy}
use Rattle.word_scanners.specs.Runners.{one_word, four_words}
use Rattle.rule_part.specs.RulePart.{table_length, rule_length}
use Rattle.scan_value.specs.Value.{rule_of, table_in, low_masks_in, state_in, read_in, decoded_in, automaton_in, held_in}
use Rattle.scan_step.specs.Stepping.{start_at, LowFine, FedFrom}

low-table : (s : List ℕ) → take 256 s ≡ take 256 (table_in s)
low-table s = sym (take-take 256 table_length (rule_of s) (omega arith) ∙ take-take 256 rule_length s (omega arith))

module _ (s : List ℕ) (p : Prefilter) (k n : ℕ) (f : LowFine s p k n) (m : Masks) (em : m ≡ low_masks_in s) where
  pub low-table-fits : TableFits (take 256 s) m
  low-table-fits = subst (TableFits (take 256 s)) (sym em) (record { long = length-take-le 256 s (omega (arith, f.fine.possible.long)); top = f.low.top })

  pub low_sound : PrefilterSound (take 256 s) m.repeats m.optional m.top p
  low_sound =
      subst (λ (m : Masks). PrefilterSound (take 256 s) m.repeats m.optional m.top p) (sym em)
      (subst (λ (t : List ℕ). PrefilterSound t (low_masks_in s).repeats (low_masks_in s).optional (low_masks_in s).top p) (sym (low-table s)) f.low.planned)

  module _ (piece ends : List ℕ) (d : Wide) (ed : d ≡ state_in s) where
    One : Automaton
    One = automaton_of (take 256 (table_in s)) (low_masks_in s)

    pub low-stepped : (r : Progress ℕ) (h : Held) (ends' : List ℕ) → FedFrom (one_word (automaton_of (take 256 s) m)) d.w0 s piece ends r h ends' → (y : Wide) → y ≡ low r.d
        → FedFrom (four_words (automaton_in s)) (state_in s) s piece ends (record { d = y; at = r.at; raw = r.raw; count = r.count }) h ends'
    unfolding One
    low-stepped r h ends' z y ey =
        let ts : List Token = tokens_of (held_in s ++ piece) in
        let a : automaton_of (take 256 s) m ≡ One = ap₂ automaton_of (low-table s) em in
        let st : SteppedBy (one_word One) (start_at s (state_in s).w0) ts ends r ends' =
        subst (λ (A : Automaton). SteppedBy (one_word A) (start_at s (state_in s).w0) ts ends r ends') a
        (subst (λ (e : Wide). SteppedBy (one_word (automaton_of (take 256 s) m)) (start_at s e.w0) ts ends r ends') ed z.steps) in
        let es = f.low.reports (decoded_in s) (joined ts) in
        record {
          steps = record {
            state = ey ∙ ap low st.state ∙ sym (f.low.runs (joined ts));
            place = st.place;
            raw-place = st.raw-place;
            count = st.count ∙ ap (λ (l : List ℕ). 0 + length l) (sym es);
            few = st.few;
            long = st.long;
            list = st.list ∙ ap (λ (e : List ℕ). sets ends (pair_numbers * 0) (flat (entries_by (decoded_in s) (read_in s) ts e))) (sym es);
          };
          held = z.held;
          few = z.few;
        }
