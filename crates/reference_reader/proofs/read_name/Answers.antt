-- The goals of `read_name` that want a law of this crate.
use Rattle.reference_reader.proofs.Readings.{whole_amp, prefix_amp, whole_lt, prefix_lt, whole_gt, prefix_gt, whole_apos, prefix_apos, whole_quot, prefix_quot, no_name}
use Rattle.reference_reader.proofs.read_name.Goals as goal

pub returns-in-Whole : goal.returns-in-Whole
returns-in-Whole c = search whole_amp

pub returns-in-Prefix : goal.returns-in-Prefix
returns-in-Prefix c = search prefix_amp

pub returns-in-Whole-lt : goal.returns-in-Whole-lt
returns-in-Whole-lt c = search whole_lt

pub returns-in-Prefix-lt : goal.returns-in-Prefix-lt
returns-in-Prefix-lt c = search prefix_lt

pub returns-in-Whole-gt : goal.returns-in-Whole-gt
returns-in-Whole-gt c = search whole_gt

pub returns-in-Prefix-gt : goal.returns-in-Prefix-gt
returns-in-Prefix-gt c = search prefix_gt

pub returns-in-Whole-apos : goal.returns-in-Whole-apos
returns-in-Whole-apos c = search whole_apos

pub returns-in-Prefix-apos : goal.returns-in-Prefix-apos
returns-in-Prefix-apos c = search prefix_apos

pub returns-in-Whole-quot : goal.returns-in-Whole-quot
returns-in-Whole-quot c = search whole_quot

pub returns-in-Prefix-quot : goal.returns-in-Prefix-quot
returns-in-Prefix-quot c = search prefix_quot

pub returns : goal.returns
returns c = search no_name
