-- The goals of `held.top_up` that want a law of this crate.
use Rattle.std.proofs.Common.{◌≡◌, length, rules}
use Rattle.piece_decoder.proofs.HeldLaws.{topping, topped_short, topped_full, top_up_turn}
use Rattle.model.specs.References.{form_limit}
use Rattle.piece_decoder.proofs.held.top_up.Goals as goal

-- the array has room for a whole form
pub loop-n-init : goal.loop-n-init
loop-n-init c = let long : length c.args.h.bytes ≡ form_limit = search rules in search topping

pub returns-then-i-piece : goal.returns-then-i-piece
returns-then-i-piece c = search topped_short

pub loop-n-preserved : goal.loop-n-preserved
loop-n-preserved c = search top_up_turn

pub returns : goal.returns
returns c = topped_full _ _ c.loop-n.invariant c.loop-n-test.false
