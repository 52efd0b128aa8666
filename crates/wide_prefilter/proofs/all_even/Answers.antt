-- The goals of `all_even` that want a law of this crate.
use Rattle.std.proofs.Common.{◌≡◌, rules, bit_or}
use Rattle.std.specs.List.{fold}
use Rattle.wide_prefilter.proofs.Ways.{even-over}
use Rattle.wide_prefilter.proofs.all_even.Goals as goal

pub returns : goal.returns
returns c =
    let e : c.fold.result ≡ fold bit_or 0 c.args.plane.now = search rules in
    search even-over
