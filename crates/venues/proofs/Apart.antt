-- Scans that are called among each other: each feed's calls are handed on among themselves, and answer as they would alone. Assumes nothing.
use mathlib.Core.Path.{◌≡◌, refl, sym, ap, subst, ◌∙◌}
use mathlib.Core.Bool.{Bool, true, false, cond}
use mathlib.Core.List.{List, [], ◌∷◌, ◌++◌}
use Prim.Native.Nat.{ℕ, ◌*◌}
use lib.Dec.{eqb, eqb→eq}
use lib.ListN.{take}
use Rattle.model.specs.PlainScan as Plain
use Rattle.model.specs.RawPlaces.{pair_numbers, pairs_of}
use Rattle.model.specs.PlainScan.{Call, refused, reported}
use Rattle.model.proofs.Truth.{T-to}
use Rattle.answers.specs.declared.Answer.{Answer}
use Rattle.scan.specs.Calls.{run_from}
use Rattle.agreement.specs.Agreement.{Made, Met, HandedOn, calls_of, entries_of, Agrees, AllAgree}
use Rattle.agreement.proofs.MadeCalls.{agree}
use Rattle.venues.specs.Venues.{Host, Event, offers, idles, serves, finishes, next, Happens, calls_to, SameAnswers}

-- a call on one feed's scan, its own or another's
one : (h : Host) (c : Made) (g f : ℕ) → Met (h.scans g) c → (rest : List Made) → HandedOn (cond (eqb g f) c.value (h.scans f)) rest
    → HandedOn (h.scans f) (cond (eqb g f) (c ∷ []) [] ++ rest)
one h c g f m rest = go (eqb g f) refl
  where
    go : (b : Bool) → eqb g f ≡ b → HandedOn (cond b c.value (h.scans f)) rest → HandedOn (h.scans f) (cond b (c ∷ []) [] ++ rest)
    go true q x = (subst (λ (k : ℕ). Met (h.scans k) c) (eqb→eq g f (T-to (sym q) tt)) m, x)
    go false q x = x

pub handed-on : (es : List Event) (h : Host) → Happens h es → (f : ℕ) → HandedOn (h.scans f) (calls_to f es)
handed-on [] h m f = tt
handed-on (offers g q r ∷ es) h m f = handed-on es (next h (offers g q r)) m.1 f
handed-on (idles r ∷ es) h m f = handed-on es (next h (idles r)) m.1 f
handed-on (serves r c ∷ es) h m f = one h c r.feed f m.0.3 (calls_to f es) (handed-on es (next h (serves r c)) m.1 f)
handed-on (finishes g c ∷ es) h m f = one h c g f m.0.1 (calls_to f es) (handed-on es (next h (finishes g c)) m.1 f)

-- ---- the same answers

same : (c d : Made) (a : Plain.Answer) → Agrees c a → Agrees d a → (c.answer ≡ d.answer) × (entries_of c ≡ entries_of d)
same c d (refused n) x y =
    let none : (e : Made) → Agrees e (refused n) → entries_of e ≡ [] = λ e z. ap (λ (r : Answer). pairs_of (take (pair_numbers * r.count) e.list)) z in
    (x ∙ sym y, none c x ∙ sym (none d y))
same c d (reported es) x y = (x.0 ∙ sym y.0, x.1 ∙ sym y.1)

all_same : (cs ds : List Made) (rest : List Plain.Answer) → AllAgree cs rest → AllAgree ds rest → SameAnswers cs ds
all_same [] [] rest x y = tt
all_same [] (d ∷ ds) [] x y = y
all_same [] (d ∷ ds) (a ∷ rest) x y = x
all_same (c ∷ cs) [] [] x y = x
all_same (c ∷ cs) [] (a ∷ rest) x y = y
all_same (c ∷ cs) (d ∷ ds) [] x y = absurd x
all_same (c ∷ cs) (d ∷ ds) (a ∷ rest) x y = let s = same c d a x.0 y.0 in (s.0, s.1, all_same cs ds rest x.1 y.1)

-- Lists of the same calls from one scan value, whatever it is.
pub answers-same : (s : List ℕ) (cs ds : List Made) → HandedOn s cs → HandedOn s ds → calls_of ds ≡ calls_of cs → SameAnswers cs ds
answers-same s cs ds m n e = all_same cs ds (run_from s (calls_of cs)) (agree cs s m) (subst (λ (l : List Call). AllAgree ds (run_from s l)) e (agree ds s n))
