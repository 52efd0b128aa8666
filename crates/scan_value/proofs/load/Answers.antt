-- The goals of `load` that want a law of this crate.
use Rattle.scan_value.proofs.Checks.{loadable, loaded}
use Rattle.scan_value.proofs.load.Goals as goal

pub load-requires : goal.load-requires
load-requires c = search loadable

pub returns : goal.returns
returns c = search loaded
