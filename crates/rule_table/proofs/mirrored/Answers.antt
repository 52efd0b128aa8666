-- The goals of `mirrored` that want a law of this crate.
use Rattle.std.proofs.Common.{ℕ, ◌≡◌, ◌+◌, ◌-◌, ◌≤◌, ◌<◌, arith, subst}
use Rattle.std.proofs.Math.Nat.{sub-zero}
use Rattle.rule_table.proofs.Encoded.{Mirroring, mirror-begun, mirror-turn, mirror-over}
use Rattle.rule_table.proofs.mirrored.Goals as goal

pub loop-init : goal.loop-init
loop-init c = rw sub-zero (mirror-begun _ _ c.requires _ c.no_bits-to.ensures)

pub loop-preserved : goal.loop-preserved
loop-preserved c =
    let h : 0 < c.args.n - c.loop.counter = omega arith in
    let e : c.args.n - c.loop.counter - 1 ≡ c.args.n - (c.loop.counter + 1) = omega arith in
    let m : Mirroring c.halved-from.result c.args.n c.doubled-to.result c.halved-from-in-loop.result (c.args.n - c.loop.counter - 1) = search mirror-turn in
    subst (λ (left : ℕ). Mirroring c.halved-from.result c.args.n c.doubled-to.result c.halved-from-in-loop.result left) e m

pub returns : goal.returns
returns c = let h : c.args.n - c.loop.counter ≤ 0 = omega arith in search mirror-over
