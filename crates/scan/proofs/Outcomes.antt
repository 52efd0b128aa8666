-- What a feed and a finish answer and leave. On plain values. Assumes nothing.
use mathlib.Core.Path.{◌≡◌, sym, ap, ap₂, ◌∙◌}
use mathlib.Core.Bool.{true, false}
use mathlib.Core.List.{List}
use Prim.Native.Nat.{ℕ, ◌+◌, ◌*◌, ◌≤◌}
use native.Mathlib.Nat.{zero-add, add-zero}
use native.Mathlib.Omega.{arith}
use lib.Dec.{eqb}
use lib.ListN.{length}
use lib.Seq.{sets}
use borrow.Author.Tests.{eq-eqb, ne_eqb}
use Rattle.model.specs.NumberedAnswers.{overwrite}
use Rattle.model.specs.References.{joined}
use Rattle.model.specs.RawPlaces.{flat, pair_numbers}
use Rattle.model.specs.PlainScan.{Call, feed, finish, piece_of, list_of}
use Rattle.model.proofs.LentLists.{sets-overwrite}
use Rattle.model.proofs.Decoding.{joined_bytes}
use Rattle.model.proofs.Places.{placed-length, flat-length}
use Rattle.shift_and_wide.specs.Stepping.{ends_in_w}
use Rattle.answers.specs.declared.Answer.{Answer}
use Rattle.piece_decoder.specs.declared.held.Held.{Held}
use Rattle.answers.specs.declared.Refusal.{Refusal}
use Rattle.answers.specs.declared.Refusal.TheVariants.{RuleEmpty, RuleLong, ClassFault, GapFault, MarkFault, ByteFault, TooManyPositions, AdmitsEmpty, TooShort, TooMuch, Impossible, AlreadyFinished, LikeFault, CodesFault, OuterGap, OfferFault}
use Rattle.answers.specs.declared.Refused.{Refused}
use Rattle.answers.specs.Answers.{number_of, refused_at, refusing, counting}
use Rattle.piece_decoder.specs.Held.{held_of, NothingHeld}
use Rattle.piece_stepping.specs.declared.Progress.{Progress}
use Rattle.piece_stepping.specs.Stepping.{SteppedBy}
use Rattle.scan_piece.specs.declared.Fed.{Fed}
use Rattle.shift_and_wide.specs.declared.Wide.{Wide}
use Rattle.word_scanners.specs.Runners.{four_words}
use Rattle.scan_value.specs.Value.{automaton_in, state_in, raw_in, decoded_in, held_in, Fine, LetsIn, TurnsDown, written}
use Rattle.scan_step.specs.Stepping.{start_of, PieceStepped, TailStepped}
use Rattle.scan.specs.Calls.{number_of as number_of_call, out_of, tail_after, finished_after, entries_of, Taken, CallIs}

-- ---- `feed_accepted`, `finish_accepted`

-- stepping from a scan value's state over what a call lets out, said of the value
module _ (s ends : List ℕ) (c : Call) (u : Progress Wide) (ends' : List ℕ) (x : SteppedBy (four_words (automaton_in s)) (start_of s) (out_of s c) ends u ends') where
  count-is : u.count ≡ length (entries_of s c)
  count-is = x.count ∙ zero-add _ ∙ sym (placed-length _ (ends_in_w (automaton_in s) (state_in s) (decoded_in s) (joined (out_of s c))))

  lists_are : pair_numbers * length (joined (out_of s c)) ≤ length ends → ends' ≡ overwrite ends (flat (entries_of s c))
  lists_are h =
      let f = x.few in
      let l : length (flat (entries_of s c)) ≡ pair_numbers * length (entries_of s c) = flat-length (entries_of s c) in
      let z : pair_numbers * 0 ≡ 0 = omega arith in
      x.list ∙ ap (λ (i : ℕ). sets ends i (flat (entries_of s c))) z ∙ sets-overwrite ends (flat (entries_of s c)) (omega (arith, count-is))

  taken : pair_numbers * length (joined (out_of s c)) ≤ length ends → (s' : List ℕ) → s' ≡ written s u.d (finished_after c) (raw_in s + length (piece_of c)) u.at (tail_after s c)
      → (r : Answer) → r ≡ counting u.count 0 → Taken s c ends r s' ends'
  taken h s' e r q = record { answers = q ∙ ap (λ (n : ℕ). counting n 0) count-is; leaves = e ∙ rw (x.state, x.place); lists = lists_are h }

-- a feed that was stepped, and stored
module _ (s piece ends : List ℕ) (fine : Fine s (length piece) (length ends)) (f : Fed Wide) (ends' : List ℕ) (y : PieceStepped s piece ends f ends') where
  pub feed-stored : (raw : ℕ) → raw ≡ raw_in s → (s' : List ℕ) → s' ≡ written s f.state.d 0 (raw + length piece) f.state.at (held_of f.held)
      → (a : Answer) → a ≡ counting f.state.count 0 → Taken s (feed piece (length ends)) ends a s' ends'
  feed-stored raw er s' e a q =
      let r = fine.accepts.room in
      let k = fine.possible.plan.few in
      taken s ends (feed piece (length ends)) f.state ends' y.steps (omega (arith, y.few)) s'
      (e ∙ ap₂ (λ (r : ℕ) (h : List ℕ). written s f.state.d 0 (r + length piece) f.state.at h) er y.held.is) a q

module _ (s ends : List ℕ) (fine : Fine s 0 (length ends)) (u : Progress Wide) (ends' : List ℕ) (y : TailStepped s ends u ends') where
  pub finish-stored : (raw : ℕ) → raw ≡ raw_in s → (n : Held) → NothingHeld n → (s' : List ℕ) → s' ≡ written s u.d 1 raw u.at (held_of n) → (a : Answer) → a ≡ counting u.count 0 → Taken s (finish (length ends)) ends a s' ends'
  finish-stored raw er n x s' e a q =
      let r = fine.accepts.room in
      let k = fine.possible.plan.few in
      taken s ends (finish (length ends)) u ends' y.steps (omega (arith, y.few, ap length (joined_bytes (held_in s)))) s'
      (e ∙ ap₂ (λ (r : ℕ) (h : List ℕ). written s u.d 1 r u.at h) (er ∙ sym (add-zero (raw_in s))) x.is) a q

-- no refusal has the number 0
number_positive : (x : Refusal) → number_of x ≡ 0 → ⊥
number_positive RuleEmpty e = omega arith
number_positive RuleLong e = omega arith
number_positive ClassFault e = omega arith
number_positive GapFault e = omega arith
number_positive MarkFault e = omega arith
number_positive ByteFault e = omega arith
number_positive TooManyPositions e = omega arith
number_positive AdmitsEmpty e = omega arith
number_positive TooShort e = omega arith
number_positive TooMuch e = omega arith
number_positive Impossible e = omega arith
number_positive AlreadyFinished e = omega arith
number_positive LikeFault e = omega arith
number_positive CodesFault e = omega arith
number_positive OuterGap e = omega arith
number_positive OfferFault e = omega arith

-- `feed` and `finish`
module _ (s ends : List ℕ) (c : Call) where
  call-refused : (x : Refusal) → TurnsDown s (length (piece_of c)) (list_of c) x → (e : Refused) → e ≡ refused_at x 0 → (r : Answer) → r ≡ refusing (number_of e.refusal) e.place → CallIs s c ends r s ends
  call-refused x f e ee r q =
      let t : eqb (number_of_call s c) 0 ≡ false = ne_eqb (number_of_call s c) 0 (λ z. number_positive x (sym f.is ∙ z)) in
      record { answers = rw t (q ∙ ap (λ (y : Refused). refusing (number_of y.refusal) y.place) ee ∙ ap (λ (n : ℕ). refusing n 0) (sym f.is)); leaves = rw t; lists = rw t }

  call-taken : LetsIn s (length (piece_of c)) (list_of c) → (r : Answer) (s' ends' : List ℕ) → Taken s c ends r s' ends' → CallIs s c ends r s' ends'
  call-taken f r s' ends' x =
      let t : eqb (number_of_call s c) 0 ≡ true = eq-eqb (number_of_call s c) 0 f.is in
      record { answers = rw t x.answers; leaves = rw t x.leaves; lists = rw t x.lists }

module _ (s piece ends : List ℕ) where
  pub feed-refused : (x : Refusal) → TurnsDown s (length piece) (length ends) x → (e : Refused) → e ≡ refused_at x 0 → (r : Answer) → r ≡ refusing (number_of e.refusal) e.place → CallIs s (feed piece (length ends)) ends r s ends
  feed-refused = call-refused s ends (feed piece (length ends))

  pub feed-let_in : LetsIn s (length piece) (length ends) → Fine s (length piece) (length ends)
  feed-let_in f = f.fine

  pub feed-done : LetsIn s (length piece) (length ends) → (r : Answer) (s' ends' : List ℕ) → Taken s (feed piece (length ends)) ends r s' ends' → CallIs s (feed piece (length ends)) ends r s' ends'
  feed-done = call-taken s ends (feed piece (length ends))

module _ (s ends : List ℕ) where
  pub finish-refused : (x : Refusal) → TurnsDown s 0 (length ends) x → (e : Refused) → e ≡ refused_at x 0 → (r : Answer) → r ≡ refusing (number_of e.refusal) e.place → CallIs s (finish (length ends)) ends r s ends
  finish-refused = call-refused s ends (finish (length ends))

  pub finish-let_in : LetsIn s 0 (length ends) → Fine s 0 (length ends)
  finish-let_in f = f.fine

  pub finish-done : LetsIn s 0 (length ends) → (r : Answer) (s' ends' : List ℕ) → Taken s (finish (length ends)) ends r s' ends' → CallIs s (finish (length ends)) ends r s' ends'
  finish-done = call-taken s ends (finish (length ends))
