-- The goals of `part_from` that want a law of this crate.
use Rattle.window_search.proofs.Shows.{shown-at, shown_dead, shown_open}
use Rattle.window_search.proofs.part_from.Goals as goal

pub returns-in-At : goal.returns-in-At
returns-in-At g c = search shown-at

pub returns-in-Dead : goal.returns-in-Dead
returns-in-Dead g c = search shown_dead

pub returns-in-Open : goal.returns-in-Open
returns-in-Open g c = search shown_open
