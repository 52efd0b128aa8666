-- The goals of `try_one_word` that want a law of this crate.
use Rattle.wide_scan.proofs.Parts.{low-table, planned-low, alone-is}
use borrow.Author.Rules.{rules}
use Rattle.wide_scan.proofs.try_one_word.Goals as goal

pub scan_text-r-requires : goal.scan_text-r-requires
scan_text-r-requires c = search (rules, low-table, planned-low)

pub returns-then-none : goal.returns-then-none
returns-then-none c = search alone-is
