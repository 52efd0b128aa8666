-- The goals of `read_number` that want a law of this crate.
use Rattle.reference_reader.proofs.Numbers.{numbering, number_broken, number-empty, number-ends, number-turn, number_bare, number_bare_full, number_open, number-full}
use Rattle.reference_reader.proofs.read_number.Goals as goal

pub loop-i-init : goal.loop-i-init
loop-i-init c = search numbering

pub returns-then-c-ne59 : goal.returns-then-c-ne59
returns-then-c-ne59 c = search number_broken

pub returns-then-i-from : goal.returns-then-i-from
returns-then-i-from c = search number-empty

pub returns-then-d-eq16 : goal.returns-then-d-eq16
returns-then-d-eq16 c = search number-ends

pub loop-i-preserved : goal.loop-i-preserved
loop-i-preserved c = search number-turn

pub returns-then-s-le-FORM_LIMIT : goal.returns-then-s-le-FORM_LIMIT
returns-then-s-le-FORM_LIMIT c = search number_bare

pub returns-then-i-from-2 : goal.returns-then-i-from-2
returns-then-i-from-2 c = search number_bare_full

pub returns-then-s-le-FORM_LIMIT-2 : goal.returns-then-s-le-FORM_LIMIT-2
returns-then-s-le-FORM_LIMIT-2 c = search number_open

pub returns : goal.returns
returns c = search number-full
