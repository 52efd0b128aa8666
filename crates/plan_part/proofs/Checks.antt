-- What the checks of a plan's part find. On plain values. Assumes nothing.
use mathlib.Core.Path.{◌≡◌, refl, sym, ap, ◌∙◌}
use mathlib.Core.Bool.{Bool, true, false, true≢false}
use mathlib.Core.List.{List, [], ◌∷◌}
use Prim.Native.Nat.{ℕ, ◌+◌, ◌*◌, ◌/◌, ◌≤◌, ◌<◌}
use native.Mathlib.Omega.{arith}
use lib.Dec.{ltb, ltb→lt}
use lib.ListN.{length, take}
use lib.Seq.{length-take-le}
use borrow.Author.Tests.{ltb-false, lt-ltb, le-ltb, le-leb, lt-leb}
use Rattle.model.specs.NumberedAnswers.{text_limit}
use Rattle.model.specs.References.{form_limit, held_most, can_grow, held_tail}
use Rattle.model.specs.RawPlaces.{pair_numbers}
use Rattle.model.proofs.Truth.{T_false, T-to}
use Rattle.model.proofs.Forms.{not_none}
use Rattle.model.proofs.Borders.{ref_growing}
use Rattle.reference_reader.specs.declared.Reference.{Reference}
use Rattle.reference_reader.specs.declared.Reference.TheVariants.{Decoded, Literal, Incomplete}
use Rattle.answers.specs.declared.Refusal.TheVariants.{TooShort, TooMuch, AlreadyFinished}
use Rattle.piece_decoder.specs.declared.held.Held.{Held}
use Rattle.reference_reader.specs.Reader.{ReadIs}
use Rattle.piece_decoder.specs.Held.{held_of}
use Rattle.model.proofs.Cuts.{held_open}
use Rattle.reference_reader.proofs.Readings.{decoded_told, literal_told, incomplete_told}
use Rattle.plan_part.specs.PlanPart.{plan_length, finished_of, raw_of, decoded_of, held_count_of, held_bytes_of, is_tail, possible_plan, PlanPossibleIs, LoadFine, LoadIs, HeldFits, plan_refusal, PlanLetsIn, PlanTurnsDown}

-- ---- `tail_fits`

not_empty : (xs : List ℕ) → (length xs ≡ 0 → ⊥) → is_tail xs ≡ can_grow form_limit xs
unfolding is_tail
not_empty [] n = absurd (n refl)
not_empty (c ∷ xs) n = refl

-- such bytes are a tail
pub is-tail : (xs : List ℕ) → is_tail xs ≡ true → held_tail form_limit xs ≡ xs
unfolding is_tail
is-tail [] e = refl
is-tail (c ∷ xs) e = held_open form_limit c xs e

module _ (h : Held) where
  pub tail_none : h.len ≡ 0 → true ≡ is_tail (held_of h)
  unfolding is_tail
  tail_none e = sym (ap (λ (n : ℕ). is_tail (take n h.bytes)) e)

  module _ (f : HeldFits h) (some : h.len ≡ 0 → ⊥) (r : Reference) (x : ReadIs (held_of h) r) where
    tested : is_tail (held_of h) ≡ can_grow form_limit (held_of h)
    tested = not_empty (held_of h) (λ e. some (sym (length-take-le h.len h.bytes (omega (arith, f.long, f.few))) ∙ e))

    pub tail-decoded : (code k : ℕ) → r ≡ Decoded code k → false ≡ is_tail (held_of h)
    tail-decoded code k e =
        let g = decoded_told form_limit (held_of h) code k (sym e ∙ x.is) in
        sym (tested ∙ T_false (can_grow form_limit (held_of h)) (λ t. not_none (sym (ref_growing form_limit (held_of h) t) ∙ g)))

    pub tail_literal : r ≡ Literal → false ≡ is_tail (held_of h)
    tail_literal e = sym (tested ∙ (literal_told form_limit (held_of h) (sym e ∙ x.is)).1)

    pub tail_incomplete : r ≡ Incomplete → true ≡ is_tail (held_of h)
    tail_incomplete e = sym (tested ∙ (incomplete_told form_limit (held_of h) (sym e ∙ x.is)).1)

    pub tail_other : (r ≡ Incomplete → ⊥) → false ≡ is_tail (held_of h)
    tail_other n = go r refl
      where
        go : (q : Reference) → r ≡ q → false ≡ is_tail (held_of h)
        go (Decoded code k) e = tail-decoded code k e
        go Literal e = tail_literal e
        go Incomplete e = absurd (n e)

-- ---- `possible`, `refused`: a law for each rung

module _ (p : List ℕ) where
  impossible : false ≡ possible_plan p → PlanPossibleIs p false
  impossible e = record { is = e; says = λ z. absurd (true≢false (sym z)) }

  pub finished-over : 1 < finished_of p → PlanPossibleIs p false
  unfolding possible_plan
  finished-over z = impossible (simp (lt-leb _ _ z))

  module _ (e : finished_of p ≤ 1) where
    pub raw-over : text_limit < raw_of p → PlanPossibleIs p false
    unfolding possible_plan
    raw-over z = impossible (simp (le-leb _ _ e, lt-leb _ _ z))

    module _ (f : raw_of p ≤ text_limit) where
      pub decoded-over : text_limit < decoded_of p → PlanPossibleIs p false
      unfolding possible_plan
      decoded-over z = impossible (simp (le-leb _ _ e, le-leb _ _ f, lt-leb _ _ z))

      module _ (g : decoded_of p ≤ text_limit) where
        pub held-over : held_most form_limit < held_count_of p → PlanPossibleIs p false
        unfolding possible_plan
        held-over z = impossible (simp (le-leb _ _ e, le-leb _ _ f, le-leb _ _ g, lt-leb _ _ z))

        module _ (h : held_count_of p ≤ held_most form_limit) where
          pub counts-over : raw_of p < decoded_of p + held_count_of p → PlanPossibleIs p false
          unfolding possible_plan
          counts-over z = impossible (simp (le-leb _ _ e, le-leb _ _ f, le-leb _ _ g, le-leb _ _ h, lt-leb _ _ z))

          module _ (i : decoded_of p + held_count_of p ≤ raw_of p) (a : length p ≡ plan_length) where
            pub can_load : LoadFine p
            can_load = record { long = a; few = h }

            pub by_tail : (l : Held) → LoadIs p l → (r : Bool) → r ≡ is_tail (held_of l) → PlanPossibleIs p r
            unfolding possible_plan
            by_tail l y r q =
                let t : r ≡ is_tail (held_bytes_of p) = q ∙ ap is_tail y.is in
                record {
                  is = simp (le-leb _ _ e, le-leb _ _ f, le-leb _ _ g, le-leb _ _ h, le-leb _ _ i) t;
                  says = λ y. record { long = a; raw = f; sum = i; few = h; tail = is-tail (held_bytes_of p) (sym t ∙ y) };
                }

module _ (p : List ℕ) (m n : ℕ) where
  pub already_finished_lem : 0 < finished_of p → PlanTurnsDown p m n AlreadyFinished
  unfolding plan_refusal
  already_finished_lem a = record { is = simp (lt-ltb _ _ a) }

  module _ (a : finished_of p ≤ 0) where
    pub too_much_lem : ltb text_limit (raw_of p + m) ≡ true → PlanTurnsDown p m n TooMuch
    unfolding plan_refusal
    too_much_lem b = record { is = simp (le-ltb _ _ a, b) }

    module _ (b : ltb text_limit (raw_of p + m) ≡ false) where
      -- what the list holds in pairs is compared with the pairs that are needed
      in_pairs : (t : Bool) → ltb (n / pair_numbers) (m + held_most form_limit) ≡ t → ltb n (pair_numbers * (m + held_most form_limit)) ≡ t
      in_pairs true c =
          let l = ltb→lt (n / pair_numbers) (m + held_most form_limit) (T-to (sym c) tt) in
          let k : n < pair_numbers * (m + held_most form_limit) = omega arith in
          lt-ltb _ _ k
      in_pairs false c =
          let l = ltb-false (n / pair_numbers) (m + held_most form_limit) c in
          let k : pair_numbers * (m + held_most form_limit) ≤ n = omega arith in
          le-ltb _ _ k

      pub too_short_lem : ltb (n / pair_numbers) (m + held_most form_limit) ≡ true → PlanTurnsDown p m n TooShort
      unfolding plan_refusal
      too_short_lem c = record { is = simp (le-ltb _ _ a, b, in_pairs true c) }

      pub accepted : ltb (n / pair_numbers) (m + held_most form_limit) ≡ false → PlanLetsIn p m n
      unfolding plan_refusal
      accepted c =
          record {
            is = simp (le-ltb _ _ a, b, in_pairs false c);
            accepts = record { going = omega arith; small = ltb-false _ _ b; room = ltb-false _ _ (in_pairs false c) };
          }
