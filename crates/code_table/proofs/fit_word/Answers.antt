-- The goals of `fit_word` that want a law of this crate.
use Rattle.code_table.proofs.FitLaws.{word_fits, word-stays}
use Rattle.code_table.proofs.fit_word.Goals as goal

pub returns-then-word-total : goal.returns-then-word-total
returns-then-word-total c = search word_fits

pub returns-else-word-total : goal.returns-else-word-total
returns-else-word-total c = search word-stays
