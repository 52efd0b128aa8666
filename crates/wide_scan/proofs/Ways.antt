-- Which way a run takes: one law for each `return`. Assumes nothing.
use mathlib.Core.Path.{◌≡◌, sym, subst}
use mathlib.Core.List.{List}
use Prim.Native.Nat.{ℕ, ◌+◌, ◌^◌, ◌≤◌, ◌<◌}
use native.Mathlib.Omega.{arith}
use lib.ListN.{length, take}
use lib.Seq.{length-take-le}
use Rattle.std.specs.Prelude.{Some}
use Rattle.prefilter.specs.declared.Prefilter.{Prefilter}
use Rattle.shift_and_wide.specs.declared.WideMasks.{WideMasks}
use Rattle.shift_and_wide.specs.Stepping.{wide_automaton_of}
use Rattle.wide_scan.specs.declared.WideRun.{WideRun}
use Rattle.wide_prefilter.specs.declared.WidePrefilter.{WidePrefilter}
use Rattle.wide_scan.specs.Running.{WideStepped, PartFits, TextFits, RuleSteps, RuleFits}
use Rattle.rule_part.specs.RulePart.{entries_of, masks_of, automaton_of_rule}
use Rattle.wide_prefilter.proofs.Ways.{entries_long}

-- ---- parts

pub parts_fit : (t : List ℕ) (m : WideMasks) (p : WidePrefilter) (filter : Prefilter) (g : WideRun) (len listed : ℕ) → TextFits t m p → p.parts ≡ Some filter → g.count + len ≤ listed → g.at + len < 2 ^ 32
    → PartFits t m filter g len listed
parts_fit t m p filter g len listed f w space fits = record { plan = f.planned.parts filter w; top = f.fits.top; space = space; fits = fits }

-- ---- by the rule's part

pub text-fits : (r : List ℕ) (p : WidePrefilter) (m : WideMasks) → RuleFits r p → m ≡ masks_of r → TextFits (entries_of r) m p
text-fits r p m f e =
    subst (λ (m : WideMasks). TextFits (entries_of r) m p) (sym e) (record { fits = record { long = length-take-le 1024 r (omega (arith, f.steps.long)); top = f.steps.top }; planned = f.planned })

pub steps-top : (r : List ℕ) (m : WideMasks) → RuleSteps r → m ≡ masks_of r → m.top < 256
steps-top r m f e = subst (λ (m : WideMasks). m.top < 256) (sym e) f.top

pub steps-long : (r : List ℕ) → RuleSteps r → length (take 1024 r) ≡ 1024
steps-long r f = entries_long r f.long

pub stepped-rule : (r : List ℕ) (m : WideMasks) (g : WideRun) (text ends : List ℕ) (u : WideRun) (ends' : List ℕ) → m ≡ masks_of r
    → WideStepped (wide_automaton_of (entries_of r) m) g text ends u ends' → WideStepped (automaton_of_rule r) g text ends u ends'
stepped-rule r m g text ends u ends' e s = subst (λ (m : WideMasks). WideStepped (wide_automaton_of (entries_of r) m) g text ends u ends') e s
