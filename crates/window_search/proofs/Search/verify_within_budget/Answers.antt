-- The goals of `verify_within_budget` that want a law of this crate.
use Rattle.std.proofs.Common.{arith, refl}
use Rattle.window_search.proofs.Tries.{at_low, at_sum, checked_at, dead_low, dead_sum, checked_dead, checked_over}
use Rattle.window_search.proofs.Search.verify_within_budget.Goals as goal

pub overflow_sub-read : goal.overflow_sub-read
overflow_sub-read g c = search at_low

pub overflow_add-read : goal.overflow_add-read
overflow_add-read g c = omega (arith, at_sum c.in-At.ensures c.allowed-stop.ensures refl)

pub returns-in-At : goal.returns-in-At
returns-in-At g c = search checked_at

pub overflow_sub-read-in-Dead : goal.overflow_sub-read-in-Dead
overflow_sub-read-in-Dead g c = search dead_low

pub overflow_add-read-in-Dead : goal.overflow_add-read-in-Dead
overflow_add-read-in-Dead g c = omega (arith, dead_sum c.in-Dead.ensures c.allowed-stop.ensures refl)

pub returns-in-Dead : goal.returns-in-Dead
returns-in-Dead g c = search checked_dead

pub returns-in-Open : goal.returns-in-Open
returns-in-Open g c = search checked_over
