-- The goals of `fill_plane` that want a law of this crate.
use Rattle.code_table.proofs.FitLaws.{plane_fittable, plane_fitted}
use Rattle.code_table.proofs.fill_plane.Goals as goal

pub fit_word-requires : goal.fit_word-requires
fit_word-requires c = search plane_fittable

pub returns : goal.returns
returns c = search plane_fitted
