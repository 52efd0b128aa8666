-- The goals of `import_items` that want a law of this crate.
use Rattle.like_importer.proofs.ImportLaws.{import_none, import_long, past-small, import_many, import_empty, import_writable, import_done}
use Rattle.like_importer.proofs.import_items.Goals as goal

pub returns-then-m-eq0 : goal.returns-then-m-eq0
returns-then-m-eq0 c = search import_none

pub returns-then-m-gt-RULE_LIMIT : goal.returns-then-m-gt-RULE_LIMIT
returns-then-m-gt-RULE_LIMIT c = search import_long

pub overflow_cast-m : goal.overflow_cast-m
overflow_cast-m c = search past-small

pub returns-then-m : goal.returns-then-m
returns-then-m c = search import_many

pub returns-then-not-m : goal.returns-then-not-m
returns-then-not-m c = search import_empty

pub write-requires : goal.write-requires
write-requires c = search import_writable

pub returns : goal.returns
returns c = search import_done
