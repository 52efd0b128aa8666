-- The goals of `optional_count` that want a law of this crate.
use borrow.Author.Rules.{rules}
use Rattle.rule_parser.proofs.ElementMasks.{optional-byte, optional-any, optional-class, optional-gap, gap-order}
use Rattle.rule_parser.proofs.optional_count.Goals as goal

pub overflow_sub-result : goal.overflow_sub-result
overflow_sub-result c = search (gap-order, rules)

pub returns-in-Byte : goal.returns-in-Byte
returns-in-Byte c = search optional-byte

pub returns-in-Any : goal.returns-in-Any
returns-in-Any c = search optional-any

pub returns-in-Class : goal.returns-in-Class
returns-in-Class c = search optional-class

pub returns-in-Gap : goal.returns-in-Gap
returns-in-Gap c = search optional-gap
