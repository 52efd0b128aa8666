-- The loop of `back_steps`. On plain values. Assumes nothing.
use mathlib.Core.Path.{◌≡◌, refl, sym, ap, ap₂, ◌∙◌}
use mathlib.Core.Bool.{Bool}
use mathlib.Core.List.{List, [], ◌∷◌, ◌++◌, append_assoc, append-nil, reverse}
use Prim.Native.Nat.{ℕ, zero, suc, ◌+◌, ◌-◌, ◌^◌, ◌≤◌, ◌<◌}
use native.Mathlib.Omega.{arith}
use lib.ListN.{length, take, drop}
use lib.Seq.{take-add, drop-append-le, length-take-le, slice_empty}
use Rattle.model.specs.Occurrence.{stretch}
use Rattle.model.specs.RuleText.{position_limit}
use Rattle.model.specs.Spelling.{Spelled, spelled_from, text_by}
use Rattle.model.specs.Rewriter.{dots, from_front, from_back}
use Rattle.answers.specs.declared.Refusal.{Refusal}
use Rattle.rule_element.specs.declared.Element.{Element}
use Rattle.std.specs.Prelude.{Ok, Err}
use Rattle.rule_element.specs.Reading.{size_of, ElementMoves, ReadsElement}
use Rattle.rule_element.proofs.RuleReading.{spelled-end, Found}
use Rattle.rule_spelling.proofs.OuterLaws.{dots-reverse}
use Rattle.std.specs.Prelude.{Option, None, Some}
use Rattle.rule_rewriter.specs.declared.Cut.{Cut}
use Rattle.rule_rewriter.specs.Rewriting.{step_of, cut_by, dot_bytes, ReadableFrom, BackIs}
use Rattle.rule_rewriter.proofs.StepLaws.{step_few, back_by, back_by_lem}
use Rattle.rule_rewriter.proofs.FrontLaws.{reads_on, next-moves, next-found, next_less, next-room, next-readable, same_step}

-- ---- texts that are joined

pub text-append : (ss ts : List Spelled) → text_by (ss ++ ts) ≡ text_by ss ++ text_by ts
text-append [] ts = refl
text-append (s ∷ ss) ts = ap (λ (l : List ℕ). s.bytes ++ l) (text-append ss ts) ∙ sym (append_assoc s.bytes (text_by ss) (text_by ts))

dots-text : (n : ℕ) → text_by (dots n) ≡ dot_bytes n
dots-text zero = refl
dots-text (suc n) = ap (λ (l : List ℕ). 46 ∷ l) (dots-text n)

dots-back : (n : ℕ) → from_back (dots n) ≡ dots n
dots-back n = ap (λ (l : List Spelled). reverse (from_front l)) (dots-reverse n) ∙ ap reverse (front n) ∙ dots-reverse n
  where
    front : (n : ℕ) → from_front (dots n) ≡ dots n
    front zero = refl
    front (suc n) = refl

-- a stretch, and the bytes after it
stretch-on : (s : List ℕ) (from at next : ℕ) → from ≤ at → at ≤ next → at ≤ length s → stretch s from at ++ take (next - at) (drop at s) ≡ stretch s from next
stretch-on s from at next h k l =
    let m : length (take at s) ≡ at = length-take-le at s l in
    let e : at + (next - at) ≡ next = omega arith in
    sym (drop-append-le from (take at s) (take (next - at) (drop at s)) (omega arith)) ∙ sym (ap (drop from) (take-add at (next - at) s)) ∙ ap (λ (i : ℕ). drop from (take i s)) e

-- ---- the loop: what the back steps leave where the rule ends at `at`

pub record Backing (fold : Bool) (s : List ℕ) (from at used : ℕ) (cut : Cut) : Type 0 where
  pub readable : ReadableFrom fold s at used
  pub ahead : from ≤ at
  pub done : List Spelled
  pub joined : done ++ spelled_from fold 0 at (drop at s) ≡ spelled_from fold 0 from (drop from s)
  pub text : text_by done ≡ stretch s from at
  pub left : (d : ℕ) → text_by (from_back (dots d ++ done)) ≡ dot_bytes d ++ (stretch s from cut.to ++ dot_bytes cut.dots)
  pub ordered : from ≤ cut.to
  pub behind : cut.to ≤ at
  pub few : cut.dots ≤ position_limit

module _ (fold : Bool) (s : List ℕ) (from : ℕ) where
  pub back-begun : (before : ℕ) → ReadableFrom fold s from before → Backing fold s from from before (record { to = from; dots = 0 })
  back-begun before h = record {
    readable = h;
    ahead = omega arith;
    done = [];
    joined = refl;
    text = sym (slice_empty from s);
    left = λ d.
        ap (λ (l : List Spelled). text_by (from_back l)) (append-nil (dots d)) ∙ ap text_by (dots-back d) ∙ dots-text d
        ∙ sym (append-nil (dot_bytes d)) ∙ ap (λ (l : List ℕ). dot_bytes d ++ (l ++ [])) (sym (slice_empty from s));
    ordered = omega arith;
    behind = omega arith;
    few = omega arith;
  }

  module _ (at used : ℕ) (cut : Cut) (g : Backing fold s from at used cut) where
    pub back-within : used ≤ position_limit
    back-within = g.readable.within

    pub back-over : length s ≤ at → BackIs fold s from cut
    back-over h =
        let e : g.done ≡ spelled_from fold 0 from (drop from s) = sym (append-nil g.done) ∙ sym (ap (λ (l : List Spelled). g.done ++ l) (spelled-end fold used s at h)) ∙ g.joined in
        let i = g.readable.inside in
        record {
          is = λ d. sym (ap (λ (l : List Spelled). text_by (from_back (dots d ++ l))) e) ∙ g.left d;
          ordered = g.ordered;
          inside = omega (arith, g.behind);
          few = g.few;
        }

    module _ (l : at < length s) where
      pub back_never : (x : Refusal) → ReadsElement fold used s at (Err x) → BackIs fold s from cut
      back_never x r = reads_on fold s at used g.readable l x r

      module _ (element : Element) (next : ℕ) (rc : ReadsElement fold used s at (Ok (element, next))) where
        abbrev found : Found fold used s at l element next rc
        found = next-found fold s at used g.readable l element next rc

        moves : ElementMoves used s at element next
        moves = next-moves fold s at used g.readable l element next rc

        abbrev last : Spelled
        last = record { element = record { kind = found.kind; often = found.often }; place = at; bytes = take (next - at) (drop at s) }

        pub back_less : length s - next < length s - at
        back_less = next_less fold s at used g.readable l element next rc

        pub back-room : (n : ℕ) → n ≡ size_of element.kind → used + n < 2 ^ 32
        back-room n en = next-room fold s at used g.readable l element next rc n en

        text-next : text_by (g.done ++ (last ∷ [])) ≡ stretch s from next
        text-next =
            let a = moves.ahead in
            text-append g.done (last ∷ []) ∙ ap₂ (λ (x y : List ℕ). x ++ y) g.text (append-nil (take (next - at) (drop at s)))
            ∙ stretch-on s from at next g.ahead (omega arith) g.readable.inside

        -- with dots before them
        dotted-text : (d : ℕ) (ts : List Spelled) → text_by (dots d ++ ts) ≡ dot_bytes d ++ text_by ts
        dotted-text d ts = text-append (dots d) ts ∙ ap (λ (x : List ℕ). x ++ text_by ts) (dots-text d)

        -- what a step leaves
        left_by : (x : Option ℕ) (c : Cut) → c ≡ cut_by x at next cut → (d : ℕ)
            → text_by (back_by x (dots d ++ g.done) (from_back (dots d ++ g.done)) ((dots d ++ g.done) ++ (last ∷ []))) ≡ dot_bytes d ++ (stretch s from c.to ++ dot_bytes c.dots)
        left_by None c ec d =
            ap text_by (append_assoc (dots d) g.done (last ∷ [])) ∙ dotted-text d (g.done ++ (last ∷ []))
            ∙ ap (λ (x : List ℕ). dot_bytes d ++ x) (text-next ∙ sym (append-nil (stretch s from next)))
            ∙ sym (ap (λ (y : Cut). dot_bytes d ++ (stretch s from y.to ++ dot_bytes y.dots)) ec)
        left_by (Some zero) c ec d = g.left d ∙ sym (ap (λ (y : Cut). dot_bytes d ++ (stretch s from y.to ++ dot_bytes y.dots)) ec)
        left_by (Some (suc a)) c ec d =
            ap text_by (append_assoc (dots d) g.done (dots (suc a))) ∙ dotted-text d (g.done ++ dots (suc a))
            ∙ ap (λ (x : List ℕ). dot_bytes d ++ x) (text-append g.done (dots (suc a)) ∙ ap₂ (λ (x y : List ℕ). x ++ y) g.text (dots-text (suc a)))
            ∙ sym (ap (λ (y : Cut). dot_bytes d ++ (stretch s from y.to ++ dot_bytes y.dots)) ec)

        -- and where it cuts
        record CutFits (c : Cut) : Type 0 where
          pub ordered : from ≤ c.to
          pub behind : c.to ≤ next
          pub few : c.dots ≤ position_limit

        cut_fits : (x : Option ℕ) → x ≡ step_of element.kind → (c : Cut) → c ≡ cut_by x at next cut → CutFits c
        cut_fits None ex c ec = let a = moves.ahead in let h = g.ahead in rw ec (record { ordered = omega arith; behind = omega arith; few = omega arith })
        cut_fits (Some zero) ex c ec = let a = moves.ahead in let h = g.behind in rw ec (record { ordered = g.ordered; behind = omega arith; few = g.few })
        cut_fits (Some (suc a)) ex c ec = let b = moves.ahead in rw ec (record { ordered = g.ahead; behind = omega arith; few = step_few element.kind moves.fits (suc a) ex })

        pub back-turn : (c : Cut) → c ≡ cut_by (step_of element.kind) at next cut → (n : ℕ) → n ≡ size_of element.kind → Backing fold s from next (used + n) c
        back-turn c ec n en =
            let f = cut_fits (step_of element.kind) refl c ec in
            let a = moves.ahead in
            let h = g.ahead in
            record {
              readable = next-readable fold s at used g.readable l element next rc n en;
              ahead = omega arith;
              done = g.done ++ (last ∷ []);
              joined = append_assoc g.done (last ∷ []) (spelled_from fold 0 next (drop next s)) ∙ sym (ap (λ (x : List Spelled). g.done ++ x) found.spells) ∙ g.joined;
              text = text-next;
              left = λ d.
                  ap (λ (x : List Spelled). text_by (from_back x)) (sym (append_assoc (dots d) g.done (last ∷ [])))
                  ∙ ap text_by (back_by_lem fold last (dots d ++ g.done))
                  ∙ ap (λ (x : Option ℕ). text_by (back_by x (dots d ++ g.done) (from_back (dots d ++ g.done)) ((dots d ++ g.done) ++ (last ∷ [])))) (sym (same_step fold s at used g.readable l element next rc))
                  ∙ left_by (step_of element.kind) c ec d;
              ordered = f.ordered;
              behind = f.behind;
              few = f.few;
            }
