-- The goals of `repeat_count` that want a law of this crate.
use Rattle.rule_parser.proofs.ElementMasks.{repeat_byte, repeat_any, repeat_class, repeat_gap}
use Rattle.rule_parser.proofs.repeat_count.Goals as goal

pub returns-in-Byte : goal.returns-in-Byte
returns-in-Byte c = search repeat_byte

pub returns-in-Any : goal.returns-in-Any
returns-in-Any c = search repeat_any

pub returns-in-Class : goal.returns-in-Class
returns-in-Class c = search repeat_class

pub returns-in-Gap : goal.returns-in-Gap
returns-in-Gap c = search repeat_gap
