-- The loop of `front_steps`. On plain values. Assumes nothing.
use mathlib.Core.Path.{◌≡◌, refl, sym, ap, ◌∙◌}
use mathlib.Core.Bool.{Bool}
use mathlib.Core.List.{List, ◌∷◌, ◌++◌}
use Prim.Native.Nat.{ℕ, zero, suc, ◌+◌, ◌-◌, ◌^◌, ◌≤◌, ◌<◌}
use native.Mathlib.Omega.{arith}
use lib.ListN.{length, take, drop}
use Rattle.model.specs.RuleText.{position_limit}
use Rattle.model.specs.Spelling.{Spelled, spelled_from}
use Rattle.model.specs.Rewriter.{dots, from_front, front_done}
use Rattle.answers.specs.declared.Refusal.{Refusal}
use Rattle.rule_element.specs.declared.Element.{Element}
use Rattle.std.specs.Prelude.{Ok, Err}
use Rattle.rule_element.specs.Reading.{kind_of, size_of, ElementMoves, ReadsElement}
use Rattle.rule_element.proofs.RuleReading.{spelled-end, Found, moved, element-found, elements_never, elements-after}
use Rattle.std.specs.Prelude.{Option, None, Some}
use Rattle.rule_rewriter.specs.Rewriting.{step_of, ReadableFrom, Readable, FrontIs}
use Rattle.rule_rewriter.proofs.StepLaws.{step_few, front_by, front_by_lem}

-- ---- the next element of a rule that can be read to its end

module _ (fold : Bool) (s : List ℕ) (at used : ℕ) (g : ReadableFrom fold s at used) (l : at < length s) where
  pub reads_on : {A : Type 0} (x : Refusal) → ReadsElement fold used s at (Err x) → A
  reads_on x r = elements_never fold s at used g.left g.rest l x r

  module _ (element : Element) (next : ℕ) (rc : ReadsElement fold used s at (Ok (element, next))) where
    pub next-moves : ElementMoves used s at element next
    next-moves = moved fold used s at l element next rc

    pub next-found : Found fold used s at l element next rc
    next-found = element-found fold used s at l element next rc

    pub next_less : length s - next < length s - at
    next_less = omega (arith, next-moves.ahead, next-moves.inside)

    pub next-room : (n : ℕ) → n ≡ size_of element.kind → used + n < 2 ^ 32
    next-room n en = omega (arith, next-moves.room)

    pub next-readable : (n : ℕ) → n ≡ size_of element.kind → ReadableFrom fold s next (used + n)
    next-readable n en =
        let a = elements-after fold s at used g.left g.rest l element next rc in
        rw en (record { left = a.0; rest = a.1; within = next-moves.room; inside = next-moves.inside })

    -- its step is that of the model's element
    pub same_step : step_of element.kind ≡ step_of (kind_of fold next-found.kind)
    same_step = ap (λ (y : Element). step_of y.kind) next-found.is-element

-- ---- the loop: the front steps so far left what stands from `at` on

pub record Fronting (fold : Bool) (s : List ℕ) (at used : ℕ) : Type 0 where
  pub readable : ReadableFrom fold s at used
  pub is : from_front (spelled_from fold 0 at (drop at s)) ≡ front_done fold s

module _ (fold : Bool) (s : List ℕ) where
  pub front-begun : Readable fold s → Fronting fold s 0 0
  front-begun h = record { readable = h; is = refl }

  module _ (at used : ℕ) (g : Fronting fold s at used) where
    pub front-within : used ≤ position_limit
    front-within = g.readable.within

    pub front-over : length s ≤ at → FrontIs fold s (record { dots = 0; from = at; used = used })
    front-over h =
        let d = spelled-end fold used s at h in
        record { readable = g.readable; is = sym g.is ∙ ap from_front d ∙ sym d; few = omega arith }

    module _ (l : at < length s) where
      pub front_never : (x : Refusal) → ReadsElement fold used s at (Err x) → FrontIs fold s (record { dots = 0; from = at; used = used })
      front_never x r = reads_on fold s at used g.readable l x r

      module _ (element : Element) (next : ℕ) (rc : ReadsElement fold used s at (Ok (element, next))) (x : Option ℕ) (ex : x ≡ step_of element.kind) where
        abbrev found : Found fold used s at l element next rc
        found = next-found fold s at used g.readable l element next rc

        abbrev first : Spelled
        first = record { element = record { kind = found.kind; often = found.often }; place = at; bytes = take (next - at) (drop at s) }

        abbrev rest : List Spelled
        rest = spelled_from fold 0 next (drop next s)

        pub front_less : length s - next < length s - at
        front_less = next_less fold s at used g.readable l element next rc

        pub front-room : (n : ℕ) → n ≡ size_of element.kind → used + n < 2 ^ 32
        front-room n en = next-room fold s at used g.readable l element next rc n en

        -- what the step leaves
        left : (y : Option ℕ) → x ≡ y → front_done fold s ≡ front_by y rest (from_front rest) (first ∷ rest)
        left y ey =
            sym g.is ∙ ap from_front found.spells ∙ front_by_lem fold first rest
            ∙ ap (λ (z : Option ℕ). front_by z rest (from_front rest) (first ∷ rest)) (sym (same_step fold s at used g.readable l element next rc) ∙ sym ex ∙ ey)

        pub front-stays : x ≡ None → FrontIs fold s (record { dots = 0; from = at; used = used })
        front-stays ey = record { readable = g.readable; is = left None ey ∙ sym found.spells; few = omega arith }

        module _ (a : ℕ) (ey : x ≡ Some a) (n : ℕ) (en : n ≡ size_of element.kind) where
          pub front-again : a ≤ 0 → Fronting fold s next (used + n)
          front-again z =
              let e₀ : a ≡ 0 = omega arith in
              record { readable = next-readable fold s at used g.readable l element next rc n en; is = sym (left (Some 0) (ey ∙ ap Some e₀)) }

          pub front-done : 0 < a → FrontIs fold s (record { dots = a; from = next; used = used + n })
          front-done z = record {
            readable = next-readable fold s at used g.readable l element next rc n en;
            is = left (Some a) ey ∙ some a z;
            few = step_few element.kind (next-moves fold s at used g.readable l element next rc).fits a (sym ey ∙ ex);
          }
            where
              some : (a : ℕ) → 0 < a → front_by (Some a) rest (from_front rest) (first ∷ rest) ≡ dots a ++ rest
              some zero z = absurd (omega arith)
              some (suc a) z = refl
