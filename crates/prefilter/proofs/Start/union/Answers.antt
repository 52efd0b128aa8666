-- The goals of `union` that want a law of this crate.
use Rattle.std.proofs.Common.{◌≡◌, rules, arith, bit_or}
use Rattle.std.specs.List.{fold, slice_range}
use Rattle.prefilter.proofs.Unions.{union_is}
use Rattle.prefilter.proofs.Start.union.Goals as goal

pub returns : goal.returns
returns c =
    let e : c.fold.result ≡ fold bit_or 0 (slice_range c.args.self.now.table.now c.min.result c.args.hi) = search rules in
    union_is _ _ _ _ _ (omega arith) e
