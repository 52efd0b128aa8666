-- The goals of `match_name` that want a law of this crate.
use Rattle.reference_reader.proofs.Numbers.{matching, matched_short, matched_differs, matched_same, matched_whole}
use Rattle.reference_reader.proofs.match_name.Goals as goal

pub loop-i-init : goal.loop-i-init
loop-i-init c = search matching

pub returns-then-i-s : goal.returns-then-i-s
returns-then-i-s c = search matched_short

pub returns-then-name-i : goal.returns-then-name-i
returns-then-name-i c = search matched_differs

pub loop-i-preserved : goal.loop-i-preserved
loop-i-preserved c = search matched_same

pub returns : goal.returns
returns c = search matched_whole
