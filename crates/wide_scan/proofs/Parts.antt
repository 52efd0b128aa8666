-- A run in parts, each by the lowest word alone where that is quiet: one law for each `return`. Assumes nothing.
use mathlib.Core.Path.{◌≡◌, refl, sym, ap, subst, ◌∙◌}
use mathlib.Core.Bool.{Bool, true}
use Rattle.std.specs.Prelude.{Option, None, Some}
use mathlib.Core.List.{List, [], ◌∷◌, ◌++◌, append-nil}
use Prim.Native.Nat.{ℕ, ◌+◌, ◌-◌, ◌≤◌}
use native.Mathlib.Nat.{add-zero}
use native.Mathlib.Omega.{arith}
use lib.Dec.{eqb}
use lib.ListN.{length, take, drop, length-drop, take-append-drop, drop_of_length-le}
use lib.Seq.{length-sets, length-take-le, take-add}
use borrow.Author.Tests.{eqb-true}
use Rattle.shift_and_step.specs.declared.Masks.{Masks}
use Rattle.shift_and_step.specs.Stepping.{automaton_of, TableFits}
use Rattle.prefilter.specs.declared.Prefilter.{Prefilter}
use Rattle.prefilter.specs.Soundness.{PrefilterSound}
use Rattle.shift_and.specs.Automaton.{ends_in}
use Rattle.shift_and_scan.specs.declared.ScanResult.{ScanResult}
use Rattle.shift_and_scan.specs.Scanning.{Scanned}
use Rattle.shift_and_wide.specs.declared.Wide.{Wide}
use Rattle.shift_and_wide.specs.declared.WideMasks.{WideMasks}
use Rattle.shift_and_wide.specs.Wides.{low}
use Rattle.shift_and_wide.specs.Stepping.{state_after_w, ends_in_w, wide_automaton_of}
use Rattle.wide_scan.specs.declared.WideRun.{WideRun}
use Rattle.wide_scan.specs.Running.{WideStepped, AttemptIs, PartFits, PartIs, PartEnd}
use Rattle.wide_prefilter.proofs.Ways.{low-top}
use Rattle.wide_prefilter.specs.Choosing.{QuietIs, low_masks, LowSound}
use Rattle.wide_scan.proofs.Steps.{stepped-none, stepped-append}
use Rattle.wide_scan.proofs.Quiet.{QuietRun, quiet_run}

-- ---- the lowest word

length_none : (l : List ℕ) → length l ≡ 0 → l ≡ []
length_none [] e = refl
length_none (x ∷ xs) e = absurd (omega arith)

pub alone-is : (t : List ℕ) (m : WideMasks) (d : Wide) (text room : List ℕ) (q : Bool) (one : Masks) (r : ScanResult) (room' : List ℕ) (y : Wide) (p : Prefilter)
    → LowSound t m p → QuietIs d q → q ≡ true → one ≡ low_masks 63 m → Scanned (automaton_of (take 256 t) one) d.w0 0 text room r room' → y ≡ low r.d → eqb r.count 0 ≡ true
    → AttemptIs t m d text (Some y) room room'
alone-is t m d text room q one r room' y p o i eq eo s ey ez =
    let f = o.low in
    let k = i.says eq in
    let s' = subst (λ (x : Masks). Scanned (automaton_of (take 256 t) x) d.w0 0 text room r room') eo s in
    let run : (at : ℕ) → QuietRun t m d.w0 at text =
    λ at. quiet_run t m f.again f.free f.even f.above text d.w0 at 0 k.1 (length_none _ (omega (arith, s'.count, eqb-true r.count 0 ez))) in
    let state : y ≡ state_after_w (wide_automaton_of t m) d text = ey ∙ ap low s'.state ∙ sym (run 0).state ∙ ap (λ (x : Wide). state_after_w (wide_automaton_of t m) x text) (sym k.0) in
    record {
      state = λ x e. (cc);
      none = λ x e at. ap (λ (x : Wide). ends_in_w (wide_automaton_of t m) x at text) k.0 ∙ (run at).ends;
      long = ap length s'.list ∙ length-sets room 0 (ends_in (automaton_of (take 256 t) (low_masks 63 m)) d.w0 0 text);
    }

pub alone_not : (t : List ℕ) (m : WideMasks) (d : Wide) (text room room' : List ℕ) → length room' ≡ length room → AttemptIs t m d text None room room'
alone_not t m d text room room' l = record { state = λ y e. absurd (none≢some e); none = λ y e. absurd (none≢some e); long = l }
  where
    none≢some : {y : Wide} → ◌≡◌ {A = Option Wide} None (Some y) → ⊥
    none≢some e = cc

-- ---- what the run of one word asks

pub low-table : (t : List ℕ) (m : WideMasks) (p : Prefilter) (one : Masks) → one ≡ low_masks 63 m → LowSound t m p → TableFits (take 256 t) one
low-table t m p one e h = record { long = length-take-le 256 t (omega (arith, h.long)); top = low-top m one e }

pub planned-low : (t : List ℕ) (m : WideMasks) (p : Prefilter) (one : Masks) → one ≡ low_masks 63 m → LowSound t m p
    → PrefilterSound (take 256 t) one.repeats one.optional one.top p
planned-low t m p one e h = subst (λ (x : Masks). PrefilterSound (take 256 t) x.repeats x.optional x.top p) (sym e) h.planned

-- ---- parts

pub part-alone : (t : List ℕ) (m : WideMasks) (g : WideRun) (text ends room : List ℕ) (y : Wide) (room' : List ℕ) → AttemptIs t m g.d text (Some y) room room'
    → PartIs t m g text ends room (record { d = y; at = g.at + length text; count = g.count }) ends room'
part-alone t m g text ends room y room' x =
    let n = x.none y refl g.at in
    record {
      steps = record {
        state = x.state y refl;
        place = refl;
        count = rw n (sym (add-zero g.count));
        few = omega arith;
        long = refl;
        list = rw n;
      };
      same = x.long;
    }

-- On the way: the first i bytes are done.
pub record Parting (t : List ℕ) (m : WideMasks) (p : Prefilter) (g : WideRun) (text ends₀ ends room : List ℕ) (s : WideRun) (i : ℕ) : Type 0 where
  pub steps : WideStepped (wide_automaton_of t m) g (take i text) ends₀ s ends
  pub within : i ≤ length text
  pub size : length room ≡ 1024
  pub whole : PartFits t m p g (length text) (length ends₀)

pub parting : (t : List ℕ) (m : WideMasks) (p : Prefilter) (g : WideRun) (text ends room : List ℕ) → PartFits t m p g (length text) (length ends) → length room ≡ 1024
    → Parting t m p g text ends ends room g 0
parting t m p g text ends room h e = record { steps = stepped-none (wide_automaton_of t m) g ends; within = omega arith; size = e; whole = h }

module _ {t : List ℕ} {m : WideMasks} {p : Prefilter} {g : WideRun} {text ends₀ ends room : List ℕ} {s : WideRun} {i k : ℕ}
    (o : Parting t m p g text ends₀ ends room s i) (e : PartEnd i (length text) k) where
  first-length : length (take i text) ≡ i
  first-length = length-take-le i text o.within

  part_length : length (take (k - i) (drop i text)) ≡ k - i
  part_length = length-take-le (k - i) (drop i text) (let l = length-drop i text in let f = e.fits in omega arith)

  pub part-fits : PartFits t m p s (length (take (k - i) (drop i text))) (length ends)
  part-fits = record {
    plan = o.whole.plan;
    top = o.whole.top;
    space = omega (arith, part_length, first-length, o.steps.few, o.steps.long, o.whole.space, e.fits, e.after);
    fits = omega (arith, part_length, first-length, o.steps.place, o.whole.fits, e.fits, e.after);
  }

  pub part_room : length (take (k - i) (drop i text)) ≤ length room
  part_room = omega (arith, part_length, o.size, e.small)

  pub part-next : {u : WideRun} {ends' room' : List ℕ} → PartIs t m s (take (k - i) (drop i text)) ends room u ends' room' → Parting t m p g text ends₀ ends' room' u k
  part-next {u} {ends'} {room'} x =
      let q : i + (k - i) ≡ k = omega (arith, e.after) in
      record {
        steps =
            subst (λ (xs : List ℕ). WideStepped (wide_automaton_of t m) g xs ends₀ u ends') (sym (take-add i (k - i) text) ∙ ap (λ (n : ℕ). take n text) q)
            (stepped-append (wide_automaton_of t m) g (take i text) (take (k - i) (drop i text)) ends₀ s ends u ends' o.steps x.steps);
        within = e.fits;
        size = x.same ∙ o.size;
        whole = o.whole;
      }

pub parted : (t : List ℕ) (m : WideMasks) (p : Prefilter) (g : WideRun) (text ends₀ ends room : List ℕ) (s : WideRun) (i : ℕ)
    → Parting t m p g text ends₀ ends room s i → length text ≤ i → WideStepped (wide_automaton_of t m) g text ends₀ s ends
parted t m p g text ends₀ ends room s i o l = subst (λ (xs : List ℕ). WideStepped (wide_automaton_of t m) g xs ends₀ s ends) (sym (append-nil (take i text)) ∙ ap (λ (ys : List ℕ). take i text ++ ys) (sym (drop_of_length-le text l)) ∙ take-append-drop i text) o.steps
