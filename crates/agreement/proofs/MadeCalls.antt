-- Calls as they were made, each handed what the one before it left: number, count and as many entries of the lent list are the plain scan's. Assumes nothing.
use mathlib.Core.Path.{◌≡◌, refl, sym, ap, ap₂, subst, ◌∙◌}
use mathlib.Core.Bool.{Bool, true, false, cond}
use mathlib.Core.Logic.{inl, inr}
use mathlib.Core.List.{List, [], ◌∷◌, ◌++◌}
use Prim.Native.Nat.{ℕ, zero, suc, ◌*◌}
use lib.Dec.{eqb}
use native.Mathlib.Omega.{arith}
use borrow.Author.Tests.{ne_eqb}
use lib.ListN.{length, take, drop}
use lib.Seq.{take-append_seam}
use Rattle.model.specs.NumberedAnswers.{overwrite}
use Rattle.model.specs.Occurrence.{Position}
use Rattle.model.specs.RefusalNumbers.{already_finished}
use Rattle.model.specs.RawPlaces.{Entry, pair_numbers, flat, pairs_of}
use Rattle.model.proofs.Places.{flat-length, flat-pairs}
use Rattle.model.specs.PlainScan as Plain
use Rattle.model.specs.PlainScan.{Call, piece_of, list_of, refused, reported, Kept, refusal, refusal_for, new_entries, scan_from, plain_scan, reported_entries, kept_after}
use Rattle.answers.specs.declared.Answer.{Answer}
use Rattle.answers.specs.Answers.{refusing, counting}
use Rattle.answers.specs.declared.Opened.{Opened}
use Rattle.scan_open.specs.Opening.{OpenIs}
use Rattle.scan.specs.Calls.{number_of, after, CallIs, run_from, Bytes, PiecesAreBytes}
use Rattle.scan.specs.Calls as Calls
use Rattle.scan.proofs.PlainScan.{scan_is-plain}
use Rattle.agreement.specs.Agreement.{Request, feeding, finishing, Made, MetBy, HandedOn, call_by, calls_of, entries_of, AllAgree, reported_by, Finishes, Finished}

-- ---- from the contracts to the definitions that they cite

met-is : (q : Request) (s lent : List ℕ) (r : Answer) (s' lent' : List ℕ) → MetBy q s lent r s' lent' → CallIs s (call_by q (length lent)) lent r s' lent'
met-is (feeding piece) s lent r s' lent' m = m.1
met-is finishing s lent r s' lent' m = m

met-bytes : (q : Request) (s lent : List ℕ) (r : Answer) (s' lent' : List ℕ) → MetBy q s lent r s' lent' → Bytes (piece_of (call_by q (length lent)))
met-bytes (feeding piece) s lent r s' lent' m = m.0
met-bytes finishing s lent r s' lent' m = tt

pub pieces_are_bytes : (cs : List Made) (s : List ℕ) → HandedOn s cs → PiecesAreBytes (calls_of cs)
pieces_are_bytes [] s m = tt
pieces_are_bytes (c ∷ cs) s m = (met-bytes c.request s c.lent c.answer c.value c.list m.0, pieces_are_bytes cs c.value m.1)

-- The answers are those of a run from the scan value, whatever it is.
pub agree : (cs : List Made) (s : List ℕ) → HandedOn s cs → AllAgree cs (run_from s (calls_of cs))
agree [] s m = tt
agree (c ∷ cs) s m = go (number_of s call) refl (agree cs)
  where
    call : Call
    call = call_by c.request (length c.lent)

    go : (n : ℕ) → number_of s call ≡ n → ((s : List ℕ) → HandedOn s cs → AllAgree cs (run_from s (calls_of cs))) → AllAgree (c ∷ cs) (run_from s (call ∷ calls_of cs))
    go zero q ih =
        let es = Calls.entries_of s call in
        let x : CallIs s call c.lent c.answer c.value c.list = met-is c.request s c.lent c.answer c.value c.list m.0 in
        let t : eqb (number_of s call) 0 ≡ true = ap (λ (n : ℕ). eqb n 0) q in
        let a : c.answer ≡ counting (length es) 0 = x.answers ∙ ap (λ (b : Bool). cond b (counting (length es) 0) (refusing (number_of s call) 0)) t in
        let v : c.value ≡ after s call = x.leaves ∙ ap (λ (b : Bool). cond b (after s call) s) t in
        let l : c.list ≡ overwrite c.lent (flat es) = x.lists ∙ ap (λ (b : Bool). cond b (overwrite c.lent (flat es)) c.lent) t in
        let k : entries_of c ≡ es =
        ap₂ (λ (n : ℕ) (y : List ℕ). pairs_of (take n y)) (ap (λ (r : Answer). pair_numbers * r.count) a ∙ sym (flat-length es)) l
        ∙ ap pairs_of (take-append_seam (flat es) (drop (length (flat es)) c.lent))
        ∙ flat-pairs es in
        rw (q, run_from) ((a, k), subst (λ (s : List ℕ). AllAgree cs (run_from s (calls_of cs))) v (ih c.value m.1))
    go (suc n) q ih =
        let x : CallIs s call c.lent c.answer c.value c.list = met-is c.request s c.lent c.answer c.value c.list m.0 in
        let t : eqb (number_of s call) 0 ≡ false = ne_eqb (number_of s call) 0 (λ z. omega arith) in
        let a : c.answer ≡ refusing (suc n) 0 =
        x.answers ∙ ap (λ (b : Bool). cond b (counting (length (Calls.entries_of s call)) 0) (refusing (number_of s call) 0)) t ∙ ap (λ (k : ℕ). refusing k 0) q in
        let v : c.value ≡ s = x.leaves ∙ ap (λ (b : Bool). cond b (after s call) s) t in
        rw (q, run_from) (a, subst (λ (s : List ℕ). AllAgree cs (run_from s (calls_of cs))) v (ih c.value m.1))

-- From what an accepted opening gave.
pub made-is-plain : (flag : ℕ) (rule codes sets : List ℕ) → Bytes rule → Bytes codes → (s₀ : List ℕ) (o : Opened) (s : List ℕ) → OpenIs flag rule codes sets s₀ o s → o.number ≡ 0
    → (cs : List Made) → HandedOn s cs → AllAgree cs (plain_scan flag rule codes sets (calls_of cs))
made-is-plain flag rule codes sets bytes code-bytes s₀ o s opens ok cs m =
    subst (AllAgree cs) (scan_is-plain flag rule codes sets bytes code-bytes (calls_of cs) (pieces_are_bytes cs s m) s₀ o s opens ok) (agree cs s m)

-- ---- the pairs

pub reported_entries_lem : (cs : List Made) (rest : List Plain.Answer) → AllAgree cs rest → reported_by cs ≡ reported_entries rest
reported_entries_lem [] rest x = none rest x
  where
    none : (rest : List Plain.Answer) → AllAgree [] rest → [] ≡ reported_entries rest
    none [] x = refl
    none (a ∷ rest) x = absurd x
reported_entries_lem (c ∷ cs) rest x = go rest x (reported_entries_lem cs)
  where
    go : (rest : List Plain.Answer) → AllAgree (c ∷ cs) rest → ((rest : List Plain.Answer) → AllAgree cs rest → reported_by cs ≡ reported_entries rest)
        → reported_by (c ∷ cs) ≡ reported_entries rest
    go [] x ih = absurd x
    go (refused n ∷ rest) x ih = ap (λ (k : ℕ). pairs_of (take (pair_numbers * k) c.list) ++ reported_by cs) (ap (λ (r : Answer). r.count) x.0) ∙ ih rest x.1
    go (reported es ∷ rest) x ih = ap₂ (λ (a b : List Entry). a ++ b) x.0.1 (ih rest x.1)

-- ---- a finish that answered 0 is the plain scan's accepted finish

stays-finished : (limit : ℕ) (cs : List Call) (k : Kept) → k.finished ≡ true → (kept_after limit k cs).finished ≡ true
stays-finished limit [] k f = f
stays-finished limit (c ∷ cs) k f = go (refusal limit k.finished (length k.taken) c) refl (stays-finished limit cs k f)
  where
    go : (r : ℕ) → refusal limit k.finished (length k.taken) c ≡ r → (kept_after limit k cs).finished ≡ true → (kept_after limit k (c ∷ cs)).finished ≡ true
    go zero q ih =
        let e : refusal limit k.finished (length k.taken) c ≡ already_finished = ap (λ (b : Bool). refusal_for limit b (length k.taken) (length (piece_of c)) (list_of c)) f in
        absurd (omega arith)
    go (suc n) q ih = rw (q, kept_after) ih

finish-sets : (limit : ℕ) (q : Request) (n lent : ℕ) (cs : List Call) (k : Kept) → Finishes q n → (kept_after limit (Plain.after (call_by q lent) k) cs).finished ≡ true
finish-sets limit (feeding piece) n lent cs k x = absurd x
finish-sets limit finishing n lent cs k x = stays-finished limit cs (Plain.after (call_by finishing lent) k) refl

finish-number : (q : Request) (n : ℕ) → Finishes q n → n ≡ 0
finish-number (feeding piece) n x = absurd x
finish-number finishing n x = x

pub finished-is : (limit : ℕ) (ps : List Position) (cs : List Made) (k : Kept) → AllAgree cs (scan_from limit ps k (calls_of cs)) → Finished cs
    → (kept_after limit k (calls_of cs)).finished ≡ true
finished-is limit ps [] k x f = absurd f
finished-is limit ps (c ∷ cs) k x f = go (refusal limit k.finished (length k.taken) call) refl f (finished-is limit ps cs)
  where
    call : Call
    call = call_by c.request (length c.lent)

    go : (r : ℕ) → refusal limit k.finished (length k.taken) call ≡ r → Finished (c ∷ cs)
        → ((k : Kept) → AllAgree cs (scan_from limit ps k (calls_of cs)) → Finished cs → (kept_after limit k (calls_of cs)).finished ≡ true)
        → (kept_after limit k (call ∷ calls_of cs)).finished ≡ true
    go zero q (inl y) ih = rw (q, kept_after) (finish-sets limit c.request c.answer.number (length c.lent) (calls_of cs) k y)
    go zero q (inr y) ih =
        let z : AllAgree (c ∷ cs) (reported (new_entries limit ps k call) ∷ scan_from limit ps (Plain.after call k) (calls_of cs)) = rw (q, scan_from) at x in
        rw (q, kept_after) (ih (Plain.after call k) z.1 y)
    go (suc n) q y ih =
        let z : AllAgree (c ∷ cs) (refused (suc n) ∷ scan_from limit ps k (calls_of cs)) = rw (q, scan_from) at x in
        rw (q, kept_after) (later z y)
      where
        later : AllAgree (c ∷ cs) (refused (suc n) ∷ scan_from limit ps k (calls_of cs)) → Finished (c ∷ cs) → (kept_after limit k (calls_of cs)).finished ≡ true
        later z (inl y) = let e = ap (λ (r : Answer). r.number) z.0 in let d = finish-number c.request c.answer.number y in absurd (omega arith)
        later z (inr y) = ih k z.1 y
