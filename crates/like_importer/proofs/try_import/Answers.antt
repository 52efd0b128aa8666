-- The goals of `try_import` that want a law of this crate.
use Rattle.like_importer.proofs.ImportLaws.{import_short, import_over, import_ready, import_items_lem}
use Rattle.like_importer.proofs.try_import.Goals as goal

pub returns-then-out-lt-RULE_LIMIT : goal.returns-then-out-lt-RULE_LIMIT
returns-then-out-lt-RULE_LIMIT c = search import_short

pub returns-then-pattern-gt-TEXT_LIMIT : goal.returns-then-pattern-gt-TEXT_LIMIT
returns-then-pattern-gt-TEXT_LIMIT c = search import_over

pub import_items-requires : goal.import_items-requires
import_items-requires c = search (import_ready, c.in_ok-m.ensures)

pub returns : goal.returns
returns c = search (import_items_lem, c.in_ok-m.ensures)
