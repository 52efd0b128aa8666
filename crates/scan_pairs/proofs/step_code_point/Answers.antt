-- The goals of `step_code_point` that want a law.
use mathlib.Core.Path.{refl}
use native.Mathlib.Omega.{arith}
use lib.ListN.{length-take}
use Rattle.model.proofs.Decoding.{utf8_four}
use Rattle.piece_stepping.proofs.HeldLaws.{code-long, code_fits, coded}
use borrow.Author.Rules.{rules}
use Rattle.scan_pairs.proofs.step_code_point.Goals as goal

pub put_utf8-n-requires : goal.put_utf8-n-requires
put_utf8-n-requires g c = record { small = search rules; room = omega (arith, utf8_four c.args.code) }

pub slice_bounds-t-end : goal.slice_bounds-t-end
slice_bounds-t-end g c = let q = code-long c.args.code c.args.k _ _ _ refl c.put_utf8-n.ensures in
    omega arith

pub slice_bounds-step_decoded-end : goal.slice_bounds-step_decoded-end
slice_bounds-step_decoded-end g c = let q = code-long c.args.code c.args.k _ _ _ refl c.put_utf8-n.ensures in
    simp length-take (omega arith)

pub step_decoded-requires-clause-laid_fits : goal.step_decoded-requires-clause-laid_fits
step_decoded-requires-clause-laid_fits g c = search code_fits

pub returns : goal.returns
returns g c = search coded
