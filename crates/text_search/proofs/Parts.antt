-- The parts of a search, and the whole. On plain values. Assumes nothing.
use mathlib.Core.Path.{◌≡◌, refl, sym, ap, ap₂, subst, ◌∙◌}
use mathlib.Core.Bool.{Bool, true, false}
use mathlib.Core.List.{List, reverse}
use Prim.Native.Nat.{ℕ, ◌^◌, ◌≤◌, ◌<◌}
use native.Mathlib.Omega.{arith}
use lib.Dec.{T}
use lib.ListN.{length, take, length-reverse}
use borrow.Author.Tests.{eq-eqb, ne_eqb, lt-ltb, le-ltb}
use Rattle.model.specs.Occurrence.{Position, all, shortest, starts}
use Rattle.model.specs.RuleText.{fold_flag, position_limit, is_byte}
use Rattle.model.specs.NumberedAnswers.{text_limit, rule_positions, whole_refusal, overwrite}
use Rattle.model.specs.Codes.{codes_of, smudged, codes_wrong}
use Rattle.model.specs.WindowSearch.{windows}
use Rattle.model.proofs.Accepted.{RuleOk, shortest-length}
use Rattle.model.proofs.Fitting.{fitting-length, fitting-shortest, smudged_ok}
use Rattle.answers.specs.declared.Answer.{Answer}
use Rattle.answers.specs.declared.Refusal.{Refusal}
use Rattle.answers.specs.declared.Refusal.TheVariants.{TooShort, TooMuch}
use Rattle.answers.specs.declared.Refused.{Refused}
use Rattle.answers.specs.Answers.{number_of, refused_at, refusing, counting}
use Rattle.shift_and.specs.Automaton.{word_bits, Automaton}
use Rattle.shift_and.specs.Masks.{Encodes}
use Rattle.shift_and_step.specs.declared.Masks.{Masks}
use Rattle.shift_and_step.specs.Stepping.{automaton_of, TableFits}
use Rattle.shift_and_wide.specs.declared.Wide.{Wide}
use Rattle.shift_and_wide.specs.declared.WideMasks.{WideMasks}
use Rattle.shift_and_wide.specs.Wides.{number, words_of}
use Rattle.shift_and_wide.specs.Stepping.{WideAutomaton, wide_automaton_of, numbered, WideTableFits}
use Rattle.rule_parser.specs.declared.Prepared.{Prepared}
use Rattle.rule_parser.specs.Preparing.{PreparedRule}
use Rattle.rule_table.specs.Tables.{table_of, row_of, mirror, PlaneFillable, Fillable}
use Rattle.rule_table.proofs.Encoded.{EncodesWide, encodes_lowest, table-long, lowest_plane, may_fill, may_fill_plane, positions_are, shortest-is}
use Rattle.rule_codes.specs.RuleCodes.{PreparedWith, RefusedWith}
use Rattle.rule_codes.proofs.CodedRules.{accepted_with}
use Rattle.code_table.specs.CodeTables.{PlaneFitted, Fitted}
use Rattle.code_table.proofs.FittedMasks.{encodes_forwards, encodes_reversed}
use Rattle.window_search.specs.declared.Found.{Found}
use Rattle.window_search.specs.Searching.{RuleOf, SearchFits, SearchedIs}
use Rattle.text_search.specs.declared.BothMasks.{BothMasks}
use Rattle.text_search.specs.Searching.{SearchIs, WholeFits, WholeRefused, PreparedIs, low_masks, Ready, ReadyLow, FoundIs, WorkIs}

-- ---- `whole`

module _ (text lent : ℕ) where
  pub whole_too_much : text_limit < text → WholeRefused text lent TooMuch
  whole_too_much h = record { is = rw (lt-ltb _ _ h); some = λ z. omega arith }

  module _ (h : text ≤ text_limit) where
    pub whole_too_short : lent < text → WholeRefused text lent TooShort
    whole_too_short l = record { is = rw (le-ltb _ _ h, lt-ltb _ _ l); some = λ z. omega arith }

    pub whole_fits : text ≤ lent → WholeFits text lent
    whole_fits l = record { is = rw (le-ltb _ _ h, le-ltb _ _ l); small = h; room = l }

-- ---- `masks_of`

pub both-masks : (p : Prepared) (R A : Wide) → R ≡ words_of (mirror (number p.repeats) p.positions) → A ≡ words_of (mirror (number p.optional) p.positions)
    → PreparedIs p (record {
      forward = record { repeats = p.repeats; optional = p.optional; top = p.positions };
      reversed = record { repeats = R; optional = A; top = p.positions };
    })
both-masks p R A er ea = record { on = refl; back = rw (er, ea) }

-- ---- a prepared rule with codes, and its tables

module _ (flag : ℕ) (rule codes sets : List ℕ) (p : Prepared) (hp : PreparedWith flag rule codes sets p) where
  abbrev fs : List Position
  fs = smudged (fold_flag flag) rule codes sets

  abbrev hr : PreparedRule flag rule p
  hr = hp.rule-is

  rule-is_ok : T (all is_byte rule) → RuleOk position_limit fs
  rule-is_ok bytes = let a = accepted_with flag rule codes sets p hp in (smudged_ok (fold_flag flag) rule codes sets a.elements bytes a.parses_with).rule-is

  -- fit changes neither count
  fits-positions : p.positions ≡ length fs
  fits-positions = positions_are flag rule p hr ∙ sym (fitting-length (codes_of codes sets) (rule_positions (fold_flag flag) rule))

  fits-shortest : p.shortest ≡ shortest fs
  fits-shortest = shortest-is flag rule p hr ∙ sym (fitting-shortest (codes_of codes sets) (rule_positions (fold_flag flag) rule))

  size_small : shortest fs < 2 ^ 32
  size_small = let n = hr.few in omega (arith, shortest-length fs, fits-positions)

  module _ (q : BothMasks) (x : PreparedIs p q) where
    -- the tables' sizes
    wide-on-fits : (forward : List ℕ) → length forward ≡ 1024 → WideTableFits forward q.forward
    wide-on-fits forward l = let n = hr.few in record { long = l; top = omega (arith, ap (λ (m : WideMasks). m.top) x.on) }

    wide-back-fits : (reversed : List ℕ) → length reversed ≡ 1024 → WideTableFits reversed q.reversed
    wide-back-fits reversed l = let n = hr.few in record { long = l; top = omega (arith, ap (λ (m : WideMasks). m.top) x.back) }

    module _ (low : p.positions < word_bits) where
      low-on-fits : (plane : List ℕ) → length plane ≡ 256 → TableFits plane (low_masks q.forward)
      low-on-fits plane l = record { long = l; top = omega (arith, ap (λ (m : WideMasks). m.top) x.on) }

      low-back-fits : (plane : List ℕ) → length plane ≡ 256 → TableFits plane (low_masks q.reversed)
      low-back-fits plane l = record { long = l; top = omega (arith, ap (λ (m : WideMasks). m.top) x.back) }

    -- its automata are those of the positions, read by fit: in four words
    module _ (code-bytes : T (all is_byte codes)) where
      wide-on : (forward : List ℕ) → Fitted flag rule codes sets false forward → EncodesWide forward q.forward fs
      wide-on forward f = subst (λ (m : WideMasks). EncodesWide forward m fs) (sym x.on) (encodes_forwards flag rule p hr codes sets code-bytes forward f)

      wide_back : (reversed : List ℕ) → Fitted flag rule codes sets true reversed → EncodesWide reversed q.reversed (reverse fs)
      wide_back reversed b =
          subst (λ (m : WideMasks). EncodesWide reversed m (reverse fs)) (sym x.back)
          (encodes_reversed flag rule p hr codes sets code-bytes reversed b (words_of (mirror (number p.repeats) p.positions)) (words_of (mirror (number p.optional) p.positions)) refl refl)

      -- in one
      module _ (low : p.positions < word_bits) where
        fitted : (reversed : Bool) → Fitted flag rule codes sets reversed (table_of (row_of reversed fs))
        fitted reversed = record { long = table-long (row_of reversed fs); is = refl }

        low_plane : (reversed : Bool) (plane : List ℕ) → PlaneFitted flag rule codes sets reversed plane 0 → take 256 (table_of (row_of reversed fs)) ≡ plane
        low_plane reversed plane f = lowest_plane (row_of reversed fs) ∙ sym f.is

        low-onward : (plane : List ℕ) → PlaneFitted flag rule codes sets false plane 0 → Encodes (automaton_of plane (low_masks q.forward)) fs
        low-onward plane f =
            subst (λ (t : List ℕ). Encodes (automaton_of t (low_masks q.forward)) fs) (low_plane false plane f)
            (encodes_lowest (table_of fs) q.forward fs (wide-on (table_of fs) (fitted false)) (omega (arith, fits-positions)))

        low-backward : (plane : List ℕ) → PlaneFitted flag rule codes sets true plane 0 → Encodes (automaton_of plane (low_masks q.reversed)) (reverse fs)
        low-backward plane b =
            subst (λ (t : List ℕ). Encodes (automaton_of t (low_masks q.reversed)) (reverse fs)) (low_plane true plane b)
            (encodes_lowest (table_of (reverse fs)) q.reversed (reverse fs) (wide_back (table_of (reverse fs)) (fitted true)) (omega (arith, fits-positions, length-reverse fs)))

  -- either way
  module _ (bytes : T (all is_byte rule)) where
    rule_of_lem : (F B : Automaton) → Encodes F fs → Encodes B (reverse fs) → RuleOf fs F B p.shortest
    rule_of_lem F B on back =
        let ok = rule-is_ok bytes in
        record {
          mirrors = record { inhabited = ok.inhabited; some = ok.not_empty; is-shortest = fits-shortest; backward = back };
          onward = on;
        }

    some_size : 1 ≤ p.shortest
    some_size = let ok = rule-is_ok bytes in omega (arith, ok.not_empty, fits-shortest)

    small_size : p.shortest < 2 ^ 32
    small_size = omega (arith, size_small, fits-shortest)

-- what was found, said of the rule
found : (flag : ℕ) (rule codes sets : List ℕ) (F B : Automaton) (size : ℕ) → RuleOf (smudged (fold_flag flag) rule codes sets) F B size → (text list : List ℕ) (g : Found) (list' : List ℕ)
    → SearchedIs F B size text list g list' → FoundIs flag rule codes sets text list g list'
found flag rule codes sets F B size o text list g list' y =
    let m = y.means (smudged (fold_flag flag) rule codes sets) o in
    record { few = y.few; tries = y.tries; count = m.count; windows_are = m.windows; lists = m.list; long = y.long }

-- ---- `search_low`, `search_wide`

pub search-fits : (flag : ℕ) (rule codes sets : List ℕ) (p : Prepared) (text listed : ℕ) → Ready flag rule codes sets p text listed → SearchFits text listed
search-fits flag rule codes sets p text listed r = record { small = r.small; room = r.room }

pub few-positions : (flag : ℕ) (rule codes sets : List ℕ) (p : Prepared) (text listed : ℕ) → Ready flag rule codes sets p text listed → p.positions ≤ position_limit
few-positions flag rule codes sets p text listed r = r.prepares.rule-is.few

module _ (flag : ℕ) (rule codes sets : List ℕ) (p : Prepared) (text listed : ℕ) (r : Ready flag rule codes sets p text listed) where
  pub fillable : (table : List ℕ) → length table ≡ 1024 → Fillable flag rule p.positions table
  fillable table l = may_fill flag rule p r.prepares.rule-is table l

  pub codes_accepted : codes_wrong codes sets ≡ false
  codes_accepted = r.prepares.codes_fine

  pub size-some : 1 ≤ p.shortest
  size-some = some_size flag rule codes sets p r.prepares r.bytes

  pub size-small : p.shortest < 2 ^ 32
  size-small = small_size flag rule codes sets p r.prepares r.bytes

  module _ (q : BothMasks) (x : PreparedIs p q) where
    pub on-fits : (forward : List ℕ) → length forward ≡ 1024 → WideTableFits forward q.forward
    on-fits = wide-on-fits flag rule codes sets p r.prepares q x

    pub back-fits : (reversed : List ℕ) → length reversed ≡ 1024 → WideTableFits reversed q.reversed
    back-fits = wide-back-fits flag rule codes sets p r.prepares q x

    pub wide-found : {forward reversed : List ℕ} → Fitted flag rule codes sets false forward → Fitted flag rule codes sets true reversed
        → {F B : WideAutomaton} → F ≡ wide_automaton_of forward q.forward → B ≡ wide_automaton_of reversed q.reversed
        → (tx l₀ : List ℕ) (g : Found) (l : List ℕ) → SearchedIs (numbered F) (numbered B) p.shortest tx l₀ g l → FoundIs flag rule codes sets tx l₀ g l
    wide-found {forward} {reversed} f b {F} {B} ef eb =
        let on = (wide-on flag rule codes sets p r.prepares q x r.code-bytes forward f).numbers in
        let back = (wide_back flag rule codes sets p r.prepares q x r.code-bytes reversed b).numbers in
        found flag rule codes sets (numbered F) (numbered B) p.shortest
        (rule_of_lem flag rule codes sets p r.prepares r.bytes (numbered F) (numbered B)
        (subst (λ (A : WideAutomaton). Encodes (numbered A) (smudged (fold_flag flag) rule codes sets)) (sym ef) on)
        (subst (λ (A : WideAutomaton). Encodes (numbered A) (reverse (smudged (fold_flag flag) rule codes sets))) (sym eb) back))

module _ (flag : ℕ) (rule codes sets : List ℕ) (p : Prepared) (text listed : ℕ) (r : ReadyLow flag rule codes sets p text listed) where
  pub low-fillable : (plane : List ℕ) → length plane ≡ 256 → PlaneFillable flag rule p.positions plane 0
  low-fillable plane l = may_fill_plane flag rule p r.ready.prepares.rule-is plane 0 l (omega arith)

  pub low_codes_accepted : codes_wrong codes sets ≡ false
  low_codes_accepted = r.ready.prepares.codes_fine

  pub low-search-fits : SearchFits text listed
  low-search-fits = record { small = r.ready.small; room = r.ready.room }

  pub low-few : p.positions ≤ position_limit
  low-few = r.ready.prepares.rule-is.few

  pub low-size-some : 1 ≤ p.shortest
  low-size-some = size-some flag rule codes sets p text listed r.ready

  pub low-size-small : p.shortest < 2 ^ 32
  low-size-small = size-small flag rule codes sets p text listed r.ready

  module _ (q : BothMasks) (x : PreparedIs p q) where
    pub low-on-reads : {m : Masks} → m ≡ low_masks q.forward → (plane : List ℕ) → length plane ≡ 256 → TableFits plane m
    low-on-reads e plane l = subst (λ (m : Masks). TableFits plane m) (sym e) (low-on-fits flag rule codes sets p r.ready.prepares q x r.low plane l)

    pub low-back-reads : {m : Masks} → m ≡ low_masks q.reversed → (plane : List ℕ) → length plane ≡ 256 → TableFits plane m
    low-back-reads e plane l = subst (λ (m : Masks). TableFits plane m) (sym e) (low-back-fits flag rule codes sets p r.ready.prepares q x r.low plane l)

    pub low-found : {forward reversed : List ℕ} → PlaneFitted flag rule codes sets false forward 0 → PlaneFitted flag rule codes sets true reversed 0
        → {mf mb : Masks} → mf ≡ low_masks q.forward → mb ≡ low_masks q.reversed → {F B : Automaton} → F ≡ automaton_of forward mf → B ≡ automaton_of reversed mb
        → (tx l₀ : List ℕ) (g : Found) (l : List ℕ) → SearchedIs F B p.shortest tx l₀ g l → FoundIs flag rule codes sets tx l₀ g l
    low-found {forward} {reversed} f b em eb {F} {B} ef eg =
        let on = low-onward flag rule codes sets p r.ready.prepares q x r.ready.code-bytes r.low forward f in
        let back = low-backward flag rule codes sets p r.ready.prepares q x r.ready.code-bytes r.low reversed b in
        found flag rule codes sets F B p.shortest
        (rule_of_lem flag rule codes sets p r.ready.prepares r.ready.bytes F B
        (subst (λ (A : Automaton). Encodes A (smudged (fold_flag flag) rule codes sets)) (sym (ef ∙ ap (automaton_of forward) em)) on)
        (subst (λ (A : Automaton). Encodes A (reverse (smudged (fold_flag flag) rule codes sets))) (sym (eg ∙ ap (automaton_of reversed) eb)) back))

-- ---- `search_found`, `search_accepted`

pub ready-low : (flag : ℕ) (rule codes sets : List ℕ) (p : Prepared) (text listed : ℕ) → Ready flag rule codes sets p text listed → p.positions < 64 → ReadyLow flag rule codes sets p text listed
ready-low flag rule codes sets p text listed r h = record { ready = r; low = h }

pub work_done : (flag : ℕ) (rule codes sets text list : List ℕ) (g : Found) (list' : List ℕ) → FoundIs flag rule codes sets text list g list'
    → (a : Answer) → a ≡ counting g.count g.windows → WorkIs flag rule codes sets text list a list'
work_done flag rule codes sets text list g list' y a e = record { answers = e ∙ ap₂ counting y.count y.windows_are; lists = y.lists }

-- ---- `search`

module _ (flag : ℕ) (rule codes sets text list : List ℕ) where
  pub search-refused : (e : Refused) → RefusedWith flag rule codes sets e → SearchIs flag rule codes sets text list (refusing (number_of e.refusal) e.place) list
  search-refused e r = record { answers = rw r.is; lists = rw r.is }

  module _ (p : Prepared) (hp : PreparedWith flag rule codes sets p) where
    pub search_not_whole : (x : Refusal) → WholeRefused (length text) (length list) x → (e : Refused) → e ≡ refused_at x 0 → SearchIs flag rule codes sets text list (refusing (number_of e.refusal) e.place) list
    search_not_whole x w e ee =
        let i = w.is in
        let b = ne_eqb (whole_refusal (length text) (length list)) 0 (λ q. w.some (sym i ∙ q)) in
        rw ee (record { answers = rw (hp.parses, b) (ap (λ (n : ℕ). refusing n 0) (sym i)); lists = rw (hp.parses, b) })

    module _ (w : WholeFits (length text) (length list)) where
      pub search-ready : T (all is_byte rule) → T (all is_byte codes) → Ready flag rule codes sets p (length text) (length list)
      search-ready bytes code-bytes = let s = w.small in record { bytes = bytes; code-bytes = code-bytes; prepares = hp; small = omega arith; room = w.room }

      pub search-done : (a : Answer) (list' : List ℕ) → WorkIs flag rule codes sets text list a list' → SearchIs flag rule codes sets text list a list'
      search-done a list' x =
          let h = accepted_with flag rule codes sets p hp in
          let b = eq-eqb (whole_refusal (length text) (length list)) 0 w.is in
          record {
            answers = rw (h.parses_with, b) (x.answers ∙ ap (λ (ps : List Position). counting (length (starts ps text)) (length (windows ps text))) h.fits_are);
            lists = rw (h.parses_with, b) (x.lists ∙ ap (λ (ps : List Position). overwrite list (starts ps text)) h.fits_are);
          }
