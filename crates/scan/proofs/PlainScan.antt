-- THE THEOREM OF THE SCAN. Over any list of feeds and finishes, from the opening of an accepted rule with accepted codes on, every answer is the plain scan's. About the very
-- definitions that the contracts of `open`, `feed` and `finish` cite. Assumes nothing.
use mathlib.Core.Path.{◌≡◌, refl, sym, ap, ap₂, subst, ◌∙◌}
use mathlib.Core.Bool.{Bool, true, false, cond}
use mathlib.Core.Logic.{inl, inr}
use mathlib.Core.List.{List, [], ◌∷◌, ◌++◌, append-nil}
use Prim.Native.Nat.{ℕ, zero, suc, ◌+◌, ◌-◌, ◌≤◌, ◌<◌}
use native.Mathlib.Numerals.{add-one}
use native.Mathlib.Omega.{arith}
use lib.Dec.{eqb, ltb, nltb→le, ltb→lt}
use lib.ListN.{length, get_or, length-append}
use Rattle.model.specs.Occurrence.{Position, cons_if, all, shortest}
use Rattle.model.specs.RefusalNumbers.{impossible}
use Rattle.model.specs.RuleText.{fold_flag, position_limit, is_byte, Element, positions}
use Rattle.model.specs.NumberedAnswers.{text_limit, Parsed, refused as turned_down, accepted, positions_by}
use Rattle.model.specs.Codes.{codes_of, fitting, smudged, parse_with}
use Rattle.model.specs.References.{form_limit, held_most, Token, byte_tokens, joined, held_tail, without_tail}
use Rattle.model.specs.RawPlaces.{Entry, entries_by}
use Rattle.model.specs.PlainScan.{Call, feed, finish, Answer, refused, reported, piece_of, list_of, refusal, refusal_for, nothing_kept, scan_from, plain_scan}
use Rattle.model.proofs.Fitting.{smudged_ok}
use Rattle.model.proofs.CodeLaws.{coded_refusal}
use Rattle.model.proofs.Truth.{branch, and_left, and_right, and_intro}
use Rattle.model.proofs.Decoding.{joined_bytes, decode-length, held-length, tail-joined, held_cut}
use Rattle.model.proofs.Scans as Scans
use Rattle.model.proofs.Scans.{Scanner, opened, through, finishes, moved, reports, scanner_from}
use Rattle.shift_and.specs.Masks.{Encodes}
use Rattle.shift_and_wide.specs.declared.Wide.{Wide}
use Rattle.shift_and_wide.specs.Stepping.{WideAutomaton, numbered, step_on_w, opening_state_w, accepts_w, state_after_w, ends_in_w}
use Rattle.shift_and_wide.proofs.Instances.{Fits, wide-is-plain}
use Rattle.rule_table.specs.Tables.{table_of}
use Rattle.rule_table.proofs.Encoded.{table-long, table_fits, table_encodes}
use Rattle.code_table.proofs.FittedMasks.{smudged-past}
use Rattle.piece_stepping.specs.Stepping.{tokens_of, tail_of}
use Rattle.rule_part.specs.RulePart.{automaton_of_rule, state_of}
use Rattle.rule_part.proofs.RuleFields.{rule-possible, fields_automaton, fields_state}
use Rattle.plan_part.specs.PlanPart.{finished_of, raw_of, decoded_of, held_bytes_of, plan_fields, plan_refusal}
use Rattle.plan_part.proofs.Readback.{held-count, fields_long as plan-fields-long, fields_finished, fields_raw, fields_decoded, fields_held, fields_possible}
use Rattle.scan_value.specs.Value.{scan_length, rule_of, plan_of, positions_in, automaton_in, state_in, finished_in, raw_in, read_in, decoded_in, held_in, possible, number_for}
use Rattle.scan_value.proofs.Readback.{value-rule, value-plan, value-possible, written-automaton, written-state, written-finished, written-raw, written-decoded, written_held, written-long, written-possible}
use Rattle.scan.specs.Calls.{number_of, out_of, tail_after, finished_after, entries_of, after, run_from, Bytes, PiecesAreBytes}
use Rattle.answers.specs.declared.Opened.{Opened}
use Rattle.answers.specs.Answers.{refusing_rule, accepting_rule}
use Rattle.scan_open.specs.Opening.{masks_for, automaton_for, opening_rule, opening_of, answer_by, left_by, OpenIs}
use Rattle.scan_open.proofs.Opens.{opening-long, value-length}

-- ---- bytes, tails, sizes

bytes_below : (xs : List ℕ) → Bytes xs → (i : ℕ) → get_or xs i 0 < 256
bytes_below [] b i = omega arith
bytes_below (x ∷ xs) b zero = ltb→lt x 256 (and_left (is_byte x) (all is_byte xs) b)
bytes_below (x ∷ xs) b (suc i) = bytes_below xs (and_right (is_byte x) (all is_byte xs) b) i

bytes-append : (xs ys : List ℕ) → Bytes xs → Bytes ys → Bytes (xs ++ ys)
bytes-append [] ys a b = b
bytes-append (x ∷ xs) ys a b = and_intro (is_byte x) (all is_byte (xs ++ ys)) (and_left (is_byte x) (all is_byte xs) a) (bytes-append xs ys (and_right (is_byte x) (all is_byte xs) a) b)

bytes_right : (xs ys : List ℕ) → Bytes (xs ++ ys) → Bytes ys
bytes_right [] ys a = a
bytes_right (x ∷ xs) ys a = bytes_right xs ys (and_right (is_byte x) (all is_byte (xs ++ ys)) a)

bytes-tail : (xs : List ℕ) → Bytes xs → Bytes (tail_of xs)
unfolding tail_of
bytes-tail xs b = bytes_right (without_tail form_limit xs) (held_tail form_limit xs) (subst Bytes (sym (tail-joined form_limit xs)) b)

tail-tail : (xs : List ℕ) → held_tail form_limit (tail_of xs) ≡ tail_of xs
unfolding tail_of
tail-tail xs = sym (ap (held_tail form_limit) (sym (append-nil xs)) ∙ held_cut form_limit xs [] ∙ ap (held_tail form_limit) (append-nil (held_tail form_limit xs)))

tail-few : (xs : List ℕ) → length (tail_of xs) ≤ held_most form_limit
unfolding tail_of
tail-few xs = held-length form_limit xs

no_longer : (xs : List ℕ) → length (joined (tokens_of xs)) + length (tail_of xs) ≤ length xs
unfolding tokens_of tail_of
no_longer xs =
    omega (arith, decode-length form_limit (without_tail form_limit xs), ap length (tail-joined form_limit xs), length-append (without_tail form_limit xs) (held_tail form_limit xs))

-- ---- a scan value and the model's scanner on the same words

flag_number : Bool → ℕ
flag_number true = 1
flag_number false = 0

module _ (A : WideAutomaton) (some : 1 ≤ A.top) (few : A.top ≤ position_limit) where
  step : Wide → ℕ → Wide
  step d c = step_on_w A d c

  Top : Wide → Bool
  Top d = accepts_w A d

  runs : (out : List ℕ) (d : Wide) → state_after_w A d out ≡ Scans.run form_limit Wide step Top d out
  unfolding state_after_w step
  runs [] d = refl
  runs (c ∷ out) d = runs out (step d c)

  ends-run : (out : List ℕ) (d : Wide) (at : ℕ) → ends_in_w A d at out ≡ Scans.ends_in form_limit Wide step Top d at out
  unfolding ends_in_w step Top
  ends-run [] d at = refl
  ends-run (c ∷ out) d at =
      ap₂ (λ (i : ℕ) (l : List ℕ). cons_if (accepts_w A (step d c)) i l) (add-one at)
      (ends-run out (step d c) (at + 1) ∙ ap (λ (i : ℕ). Scans.ends_in form_limit Wide step Top (step d c) i out) (add-one at))

  record Mirrors (s : List ℕ) (k : Scanner Wide) : Type 0 where
    long : length s ≡ scan_length
    automaton : automaton_in s ≡ A
    possible-is : possible s ≡ true
    state : state_in s ≡ k.state
    finished : finished_in s ≡ flag_number k.finished
    raw : raw_in s ≡ k.taken
    decoded : decoded_in s ≡ k.decoded
    held : held_in s ≡ k.held
    bytes : Bytes (held_in s)
    sum : decoded_in s + length (held_in s) ≤ raw_in s

  -- what a call lets out and holds is the scanner's
  out_is : (s : List ℕ) (h : List ℕ) → held_in s ≡ h → (c : Call) → out_of s c ≡ (through form_limit h c).out
  unfolding tokens_of
  out_is s h e (feed piece n) = ap (λ (h : List ℕ). tokens_of (h ++ piece)) e
  out_is s h e (finish n) = ap byte_tokens e

  tail-is : (s : List ℕ) (h : List ℕ) → held_in s ≡ h → (c : Call) → tail_after s c ≡ (through form_limit h c).held
  unfolding tail_of
  tail-is s h e (feed piece n) = ap (λ (h : List ℕ). tail_of (h ++ piece)) e
  tail-is s h e (finish n) = refl

  after-bytes : (s : List ℕ) → Bytes (held_in s) → (c : Call) → Bytes (piece_of c) → Bytes (tail_after s c)
  after-bytes s h (feed piece n) b = bytes-tail (held_in s ++ piece) (bytes-append (held_in s) piece h b)
  after-bytes s h (finish n) b = tt

  after_tail : (s : List ℕ) (c : Call) → held_tail form_limit (tail_after s c) ≡ tail_after s c
  after_tail s (feed piece n) = tail-tail (held_in s ++ piece)
  after_tail s (finish n) = refl

  after-few : (s : List ℕ) (c : Call) → length (tail_after s c) ≤ held_most form_limit
  after-few s (feed piece n) = tail-few (held_in s ++ piece)
  after-few s (finish n) = omega arith

  after-sum : (s : List ℕ) → decoded_in s + length (held_in s) ≤ raw_in s → (c : Call) → decoded_in s + length (joined (out_of s c)) + length (tail_after s c) ≤ raw_in s + length (piece_of c)
  after-sum s a (feed piece n) = omega (arith, no_longer (held_in s ++ piece), length-append (held_in s) piece)
  after-sum s a (finish n) = omega (arith, ap length (joined_bytes (held_in s)))

  finished-is : (c : Call) → finished_after c ≡ flag_number (finishes form_limit Wide step Top c)
  unfolding flag_number
  finished-is (feed piece n) = refl
  finished-is (finish n) = refl

  finished-one : (c : Call) → finished_after c ≤ 1
  finished-one (feed piece n) = omega arith
  finished-one (finish n) = omega arith

  flag_test : (b : Bool) → ltb 0 (flag_number b) ≡ b
  unfolding flag_number
  flag_test true = refl
  flag_test false = refl

  module _ (s : List ℕ) (k : Scanner Wide) (x : Mirrors s k) (c : Call) where
    mirror-moved : Bytes (piece_of c) → raw_in s + length (piece_of c) ≤ text_limit → Mirrors (after s c) (moved form_limit Wide step Top k c)
    mirror-moved b limit =
        let out = (through form_limit k.held c).out in
        let D = state_after_w (automaton_in s) (state_in s) (joined (out_of s c)) in
        let F = finished_after c in
        let R = raw_in s + length (piece_of c) in
        let C = decoded_in s + length (joined (out_of s c)) in
        let H = tail_after s c in
        let short = after-few s c in
        let top : positions_in s ≡ A.top = ap (λ (q : WideAutomaton). q.top) x.automaton in
        let by = after-bytes s x.bytes c b in
        let sum = after-sum s x.sum c in
        let o = out_is s k.held x.held c in
        let hd : held_in (after s c) ≡ H = written_held s x.long D F R C H short (bytes_below H by) in
        let r = written-raw s x.long D F R C H in
        let d = written-decoded s x.long D F R C H in
        record {
          long = written-long s x.long D F R C H;
          automaton = written-automaton s x.long D F R C H ∙ x.automaton;
          possible-is = written-possible s x.long D F R C H short (bytes_below H by) (after_tail s c) (omega (arith, top)) (omega (arith, top)) (finished-one c) limit sum;
          state =
              written-state s x.long D F R C H
              ∙ ap (λ (a : WideAutomaton). state_after_w a (state_in s) (joined (out_of s c))) x.automaton
              ∙ ap₂ (λ (d : Wide) (out : List Token). state_after_w A d (joined out)) x.state o
              ∙ runs (joined out) k.state;
          finished = written-finished s x.long D F R C H ∙ finished-is c;
          raw = r ∙ ap (λ (i : ℕ). i + length (piece_of c)) x.raw;
          decoded = d ∙ ap₂ (λ (i : ℕ) (out : List Token). i + length (joined out)) x.decoded o;
          held = hd ∙ tail-is s k.held x.held c;
          bytes = subst Bytes (sym hd) by;
          sum = omega (arith, ap length hd);
        }

    ends_are : ends_in_w (automaton_in s) (state_in s) (decoded_in s) (joined (out_of s c)) ≡ Scans.ends_in form_limit Wide step Top k.state k.decoded (joined (through form_limit k.held c).out)
    ends_are =
        ap (λ (a : WideAutomaton). ends_in_w a (state_in s) (decoded_in s) (joined (out_of s c))) x.automaton
        ∙ ap₂ (λ (d : Wide) (at : ℕ). ends_in_w A d at (joined (out_of s c))) x.state x.decoded
        ∙ ap (λ (out : List Token). ends_in_w A k.state k.decoded (joined out)) (out_is s k.held x.held c)
        ∙ ends-run (joined (through form_limit k.held c).out) k.state k.decoded

    -- the raw bytes read
    read_is : read_in s ≡ k.taken - length k.held
    read_is = omega (arith, x.raw, ap length x.held, held-count (plan_of s))

    entries_are : entries_of s c ≡ reports form_limit Wide step Top k c
    entries_are =
        ap (entries_by (decoded_in s) (read_in s) (out_of s c)) ends_are
        ∙ ap₂ (λ (i r : ℕ). entries_by i r (out_of s c) (Scans.ends_in form_limit Wide step Top k.state k.decoded (joined (through form_limit k.held c).out))) x.decoded read_is
        ∙ ap (λ (out : List Token). entries_by k.decoded (k.taken - length k.held) out (Scans.ends_in form_limit Wide step Top k.state k.decoded (joined (through form_limit k.held c).out))) (out_is s k.held x.held c)

    numbers : number_of s c ≡ refusal form_limit k.finished k.taken c
    unfolding number_for plan_refusal
    numbers =
        ap (λ (b : Bool). cond b (refusal_for form_limit (ltb 0 (finished_in s)) (raw_in s) (length (piece_of c)) (list_of c)) impossible) x.possible-is
        ∙ ap₂ (λ (b : Bool) (n : ℕ). refusal_for form_limit b n (length (piece_of c)) (list_of c)) (ap (ltb 0) x.finished ∙ flag_test k.finished) x.raw

    -- an accepted call is within the limit
    within : refusal form_limit k.finished k.taken c ≡ 0 → raw_in s + length (piece_of c) ≤ text_limit
    within e =
        let r = x.raw in
        branch k.finished e (λ t q. absurd (omega arith)) λ t e.
        branch (ltb text_limit (k.taken + length (piece_of c))) e (λ t q. absurd (omega arith)) λ t e.
        let l = nltb→le text_limit (k.taken + length (piece_of c)) t in omega arith

  run_zero : (s : List ℕ) (c : Call) (cs : List Call) → number_of s c ≡ 0 → run_from s (c ∷ cs) ≡ reported (entries_of s c) ∷ run_from (after s c) cs
  run_zero s c cs q = rw (q, run_from)

  run_suc : (s : List ℕ) (c : Call) (cs : List Call) (n : ℕ) → number_of s c ≡ suc n → run_from s (c ∷ cs) ≡ refused (suc n) ∷ run_from s cs
  run_suc s c cs n q = rw (q, run_from)

  scanner_zero : (k : Scanner Wide) (c : Call) (cs : List Call) → refusal form_limit k.finished k.taken c ≡ 0
      → scanner_from form_limit Wide step Top k (c ∷ cs) ≡ reported (reports form_limit Wide step Top k c) ∷ scanner_from form_limit Wide step Top (moved form_limit Wide step Top k c) cs
  scanner_zero k c cs q = rw (q, scanner_from)

  scanner_suc : (k : Scanner Wide) (c : Call) (cs : List Call) (n : ℕ) → refusal form_limit k.finished k.taken c ≡ suc n
      → scanner_from form_limit Wide step Top k (c ∷ cs) ≡ refused (suc n) ∷ scanner_from form_limit Wide step Top k cs
  scanner_suc k c cs n q = rw (q, scanner_from)

  runs_agree : (cs : List Call) (s : List ℕ) (k : Scanner Wide) → PiecesAreBytes cs → Mirrors s k → run_from s cs ≡ scanner_from form_limit Wide step Top k cs
  runs_agree [] s k b x = refl
  runs_agree (c ∷ cs) s k b x = go (refusal form_limit k.finished k.taken c) refl (λ s k. runs_agree cs s k b.1)
    where
      go : (r : ℕ) → refusal form_limit k.finished k.taken c ≡ r → ((s : List ℕ) (k : Scanner Wide) → Mirrors s k → run_from s cs ≡ scanner_from form_limit Wide step Top k cs)
          → run_from s (c ∷ cs) ≡ scanner_from form_limit Wide step Top k (c ∷ cs)
      go zero q ih =
          run_zero s c cs (numbers s k x c ∙ q)
          ∙ ap₂ (λ (a : List Entry) (l : List Answer). reported a ∷ l) (entries_are s k x c) (ih (after s c) (moved form_limit Wide step Top k c) (mirror-moved s k x c b.0 (within s k x c q)))
          ∙ sym (scanner_zero k c cs q)
      go (suc n) q ih =
          run_suc s c cs n (numbers s k x c ∙ q)
          ∙ ap (λ (l : List Answer). refused (suc n) ∷ l) (ih s k x)
          ∙ sym (scanner_suc k c cs n q)

-- ---- from the opening on

module _ (ps : List Position) where
  opening-rule : rule_of (opening_of ps) ≡ opening_rule ps
  unfolding opening_of
  opening-rule = value-rule (opening_rule ps) (plan_fields 0 0 0 []) (opening-long ps) (plan-fields-long 0 0 0 [])

  opening-plan : plan_of (opening_of ps) ≡ plan_fields 0 0 0 []
  unfolding opening_of
  opening-plan = value-plan (opening_rule ps) (plan_fields 0 0 0 []) (opening-long ps) (plan-fields-long 0 0 0 [])

  opening-automaton : automaton_of_rule (opening_rule ps) ≡ automaton_for ps
  unfolding opening_rule
  opening-automaton = fields_automaton (table_of ps) (masks_for ps) (opening_state_w (automaton_for ps)) (table-long ps)

  opening-state : state_of (opening_rule ps) ≡ opening_state_w (automaton_for ps)
  unfolding opening_rule
  opening-state = fields_state (table_of ps) (masks_for ps) (opening_state_w (automaton_for ps)) (table-long ps)

  module _ (some : 1 ≤ length ps) (few : length ps ≤ position_limit) where
    opening-possible : possible (opening_of ps) ≡ true
    unfolding opening_of
    opening-possible =
        let top = ap (λ (a : WideAutomaton). a.top) opening-automaton in
        value-possible (opening_rule ps) (plan_fields 0 0 0 []) (opening-long ps) (plan-fields-long 0 0 0 [])
        (rule-possible (opening_rule ps) (omega arith) (omega arith))
        (fields_possible 0 0 0 [] (omega arith) (λ i. omega arith) refl (omega arith) (omega arith) (omega arith))

    opening-mirrors : Mirrors (automaton_for ps) some few (opening_of ps) (opened (opening_state_w (automaton_for ps)))
    unfolding flag_number
    opening-mirrors =
        let none : held_in (opening_of ps) ≡ [] = ap held_bytes_of opening-plan ∙ fields_held 0 0 0 [] (omega arith) (λ i. omega arith) in
        let decoded : decoded_in (opening_of ps) ≡ 0 = ap decoded_of opening-plan ∙ fields_decoded 0 0 0 [] in
        record {
          long = value-length ps;
          automaton = ap automaton_of_rule opening-rule ∙ opening-automaton;
          possible-is = opening-possible;
          state = ap state_of opening-rule ∙ opening-state;
          finished = ap finished_of opening-plan ∙ fields_finished 0 0 0 [];
          raw = ap raw_of opening-plan ∙ fields_raw 0 0 0 [];
          decoded = decoded;
          held = none;
          bytes = subst Bytes (sym none) tt;
          sum = omega (arith, ap length none);
        }

    from-opening : Fits (automaton_for ps) → Encodes (numbered (automaton_for ps)) ps → (cs : List Call) → PiecesAreBytes cs
        → run_from (opening_of ps) cs ≡ scan_from form_limit ps nothing_kept cs
    unfolding step Top
    from-opening f e cs b =
        runs_agree (automaton_for ps) some few cs (opening_of ps) (opened (opening_state_w (automaton_for ps))) b opening-mirrors
        ∙ wide-is-plain (automaton_for ps) f ps e form_limit cs

-- What an opening with number 0 was of, and what it left.
pub record OpenedWith (flag : ℕ) (rule codes sets s' : List ℕ) : Type 0 where
  pub elements : List Element
  pub parses : parse_with (fold_flag flag) rule codes sets ≡ accepted elements
  pub leaves : s' ≡ opening_of (fitting (codes_of codes sets) (positions (fold_flag flag) elements))

module _ (flag : ℕ) (rule codes sets s : List ℕ) (r : Opened) (s' : List ℕ) where
  by_length : (b : Bool) (es : List Element) → parse_with (fold_flag flag) rule codes sets ≡ accepted es
      → r ≡ cond b (accepting_rule (length (positions (fold_flag flag) es)) (shortest (positions (fold_flag flag) es))) (refusing_rule impossible 0)
      → s' ≡ cond b (opening_of (fitting (codes_of codes sets) (positions (fold_flag flag) es))) s → r.number ≡ 0 → OpenedWith flag rule codes sets s'
  by_length true es e a l z = record { elements = es; parses = e; leaves = l }
  by_length false es e a l z = absurd (omega (arith, sym (ap (λ (o : Opened). o.number) a) ∙ z))

  by_rule : (x : Parsed) → parse_with (fold_flag flag) rule codes sets ≡ x → r ≡ answer_by flag (length s) x → s' ≡ left_by flag codes sets s x → r.number ≡ 0 → OpenedWith flag rule codes sets s'
  by_rule (turned_down n p) e a l z =
      let q : n ≡ 0 = sym (ap (λ (o : Opened). o.number) a) ∙ z in
      elim (coded_refusal (fold_flag flag) rule codes sets n p e) [ inl (inl r) ↦ let l = r.0 in absurd (omega arith) | inl (inr r) ↦ absurd (omega arith) | inr r ↦ let l = r.0 in absurd (omega arith) ]
  by_rule (accepted es) e a l z = by_length (eqb (length s) scan_length) es e a l z

  pub opened_with : OpenIs flag rule codes sets s r s' → r.number ≡ 0 → OpenedWith flag rule codes sets s'
  opened_with o z = by_rule (parse_with (fold_flag flag) rule codes sets) refl o.answers o.leaves z

module _ (flag : ℕ) (rule codes sets : List ℕ) (bytes : Bytes rule) (code-bytes : Bytes codes) (cs : List Call) (pieces : PiecesAreBytes cs) where
  accepted-opens : (es : List Element) → parse_with (fold_flag flag) rule codes sets ≡ accepted es
      → run_from (opening_of (fitting (codes_of codes sets) (positions (fold_flag flag) es))) cs ≡ plain_scan flag rule codes sets cs
  accepted-opens es e =
      let ps = smudged (fold_flag flag) rule codes sets in
      let is = smudged_ok (fold_flag flag) rule codes sets es bytes e in
      let ok = is.rule-is in
      let past = smudged-past codes sets code-bytes flag rule false in
      let q : fitting (codes_of codes sets) (positions (fold_flag flag) es) ≡ ps = sym (ap (λ (x : Parsed). fitting (codes_of codes sets) (positions_by (fold_flag flag) x)) is.parses) in
      ap (λ (ps : List Position). run_from (opening_of ps) cs) q
      ∙ from-opening ps ok.some ok.few (table_fits ps past) (table_encodes ps past ok.few) cs pieces

  -- "every answer, refusal or ends": from what an accepted opening left, each call handed what the one before it left.
  pub scan_is-plain : (s : List ℕ) (r : Opened) (s' : List ℕ) → OpenIs flag rule codes sets s r s' → r.number ≡ 0 → run_from s' cs ≡ plain_scan flag rule codes sets cs
  scan_is-plain s r s' o z = let w = opened_with flag rule codes sets s r s' o z in ap (λ (s : List ℕ). run_from s cs) w.leaves ∙ accepted-opens w.elements w.parses
