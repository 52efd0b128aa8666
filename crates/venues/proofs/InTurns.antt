-- Note 13, one theorem, `in_turns`: of any host and whatever happens, as it happened. About the very contracts of `offer`, `turn`, `open`, `feed` and `finish`. Assumes nothing.
use mathlib.Core.List.{List}
use Rattle.agreement.proofs.MadeCalls.{made-is-plain}
use Rattle.venues.specs.Venues.{Host, Event, Happens, calls_to, InTurns}
use Rattle.venues.proofs.Served.{within_8}
use Rattle.venues.proofs.Pieces.{in_order}
use Rattle.venues.proofs.Apart.{handed-on, answers-same}

pub in_turns : (h : Host) (es : List Event) → Happens h es → InTurns h es
in_turns h es m = record {
  within_8 = within_8 es h m;
  in_order = λ f. in_order f es h m;
  handed-on = handed-on es h m;
  alone = λ f cs n e. answers-same (h.scans f) (calls_to f es) cs (handed-on es h m f) n e;
  plain = λ f flag rule codes sets bytes code-bytes s₀ o opens ok.
      made-is-plain flag rule codes sets bytes code-bytes s₀ o (h.scans f) opens ok (calls_to f es) (handed-on es h m f);
}
