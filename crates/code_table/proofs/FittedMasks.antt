-- An accepted rule's table, read by fit, and its masks are those of its positions read by fit (`Encodes`), forwards and reversed. Assumes nothing.
use mathlib.Core.Path.{◌≡◌, refl, sym, ap, ap₂, subst, ◌∙◌}
use mathlib.Core.Bool.{Bool, true, false, ◌||◌}
use mathlib.Core.List.{List, [], ◌∷◌, reverse}
use Prim.Native.Nat.{ℕ, ◌≤◌}
use native.Mathlib.Omega.{arith}
use lib.Dec.{T, ltb→lt}
use lib.ListN.{length, length-reverse}
use borrow.Author.Tests.{ne_eqb}
use Rattle.model.specs.Occurrence.{Position, all}
use Rattle.model.specs.RuleText.{fold_flag, position_limit, one_of, is_byte}
use Rattle.model.specs.NumberedAnswers.{rule_positions}
use Rattle.model.specs.Codes.{codes_of, fitting, smudged}
use Rattle.model.proofs.Truth.{and_left, and_right}
use Rattle.model.proofs.Fitting.{fits-plain, fitting-length}
use Rattle.shift_and.specs.Masks.{mask}
use Rattle.shift_and.proofs.MaskLaws.{mask_fits}
use Rattle.shift_and_wide.specs.declared.Wide.{Wide}
use Rattle.shift_and_wide.specs.declared.WideMasks.{WideMasks}
use Rattle.shift_and_wide.specs.Wides.{number, words_of}
use Rattle.shift_and_wide.proofs.Masks.{number-words}
use Rattle.rule_parser.specs.declared.Prepared.{Prepared}
use Rattle.rule_parser.specs.Preparing.{PreparedRule}
use Rattle.rule_table.specs.Tables.{row_of, mirror}
use Rattle.rule_table.proofs.FillLaws.{Every, row-length}
use Rattle.rule_table.proofs.Encoded.{BytesAlone, rule-bytes, masks_of, EncodesWide, encodes_table, mirror-mask, is-answer, positions_are, few}
use Rattle.code_table.specs.CodeTables.{Fitted}
use Rattle.code_table.proofs.CodeMasks.{fitting-optional, fitting-repeats}
use Rattle.code_table.proofs.FitLaws.{row-fitting}

-- no number from 256 on fits
no_code-past : (codes : List ℕ) (c : ℕ) → T (all is_byte codes) → 256 ≤ c → one_of codes c ≡ false
no_code-past [] c b h = refl
no_code-past (d ∷ ds) c b h =
    let l = ltb→lt d 256 (and_left (is_byte d) (all is_byte ds) b) in
    ap₂ (λ (x y : Bool). x || y) (ne_eqb c d (λ e. absurd (omega arith))) (no_code-past ds c (and_right (is_byte d) (all is_byte ds) b) h)

module _ (codes sets : List ℕ) (bytes : T (all is_byte codes)) where
  pub fitting-past : (ps : List Position) → BytesAlone ps → BytesAlone (fitting (codes_of codes sets) ps)
  fitting-past ps a c h = go ps (a c h)
    where
      go : (ps : List Position) → Every (λ p. p.set c) false ps → Every (λ p. p.set c) false (fitting (codes_of codes sets) ps)
      go [] e = tt
      go (p ∷ ps) e = (fits-plain codes sets p.set c (no_code-past codes c bytes h) ∙ e.0, go ps e.1)

  pub smudged-past : (flag : ℕ) (rule : List ℕ) (reversed : Bool) → BytesAlone (row_of reversed (smudged (fold_flag flag) rule codes sets))
  smudged-past flag rule reversed =
      subst (λ (ps : List Position). BytesAlone ps) (row-fitting codes sets reversed (rule_positions (fold_flag flag) rule))
      (fitting-past (row_of reversed (rule_positions (fold_flag flag) rule)) (rule-bytes flag rule reversed))

same_masks : {r r' o o' : Wide} {n n' : ℕ} → r ≡ r' → o ≡ o' → n ≡ n' → ◌≡◌ {A = WideMasks} (record { repeats = r; optional = o; top = n }) (record { repeats = r'; optional = o'; top = n' })
same_masks a b c = rw (a, b, c)

-- fit changes no mask
pub fitting_masks : (codes sets : List ℕ) (ps : List Position) → masks_of (fitting (codes_of codes sets) ps) ≡ masks_of ps
fitting_masks codes sets ps =
    let ks = codes_of codes sets in
    same_masks (ap words_of (fitting-repeats ks ps)) (ap words_of (fitting-optional ks ps)) (fitting-length ks ps)

module _ (flag : ℕ) (rule : List ℕ) (p : Prepared) (hp : PreparedRule flag rule p) (codes sets : List ℕ) (bytes : T (all is_byte codes)) where
  abbrev ps : List Position
  ps = rule_positions (fold_flag flag) rule

  abbrev fs : List Position
  fs = smudged (fold_flag flag) rule codes sets

  pub fitted_few : length fs ≤ position_limit
  fitted_few = omega (arith, fitting-length (codes_of codes sets) ps, few flag rule p hp)

  -- the table that `fill` makes, and the masks of the rule's row of positions
  encodes_row : (reversed : Bool) (table : List ℕ) → Fitted flag rule codes sets reversed table → (m : WideMasks) → m ≡ masks_of (row_of reversed ps) → EncodesWide table m (row_of reversed fs)
  encodes_row reversed table t m e =
      encodes_table (row_of reversed fs) (smudged-past codes sets bytes flag rule reversed) (omega (arith, row-length reversed fs, fitted_few)) table m t.is
      (e ∙ sym (fitting_masks codes sets (row_of reversed ps)) ∙ ap masks_of (row-fitting codes sets reversed ps))

  -- forwards: `prepare`'s masks
  pub encodes_forwards : (table : List ℕ) → Fitted flag rule codes sets false table → EncodesWide table (record { repeats = p.repeats; optional = p.optional; top = p.positions }) fs
  encodes_forwards table t = encodes_row false table t _ (ap (λ (y : Prepared). record { repeats = y.repeats; optional = y.optional; top = y.positions }) (is-answer flag rule p hp))

  -- reversed: the mirrored masks
  pub encodes_reversed : (table : List ℕ) → Fitted flag rule codes sets true table → (R A : Wide) → R ≡ words_of (mirror (number p.repeats) p.positions) → A ≡ words_of (mirror (number p.optional) p.positions)
      → EncodesWide table (record { repeats = R; optional = A; top = p.positions }) (reverse fs)
  encodes_reversed table t R A er ea = encodes_row true table t _
      (same_masks (er ∙ mirrored_mask (λ q. q.repeats) p.repeats (ap (λ (y : Prepared). y.repeats) (is-answer flag rule p hp)))
      (ea ∙ mirrored_mask (λ q. q.optional) p.optional (ap (λ (y : Prepared). y.optional) (is-answer flag rule p hp)))
      (positions_are flag rule p hp ∙ sym (length-reverse ps)))
    where
      mirrored_mask : (f : Position → Bool) (x : Wide) → x ≡ words_of (mask f ps) → words_of (mirror (number x) p.positions) ≡ words_of (mask f (reverse ps))
      mirrored_mask f x e = ap words_of (ap₂ mirror (ap number e ∙ number-words (mask f ps) (mask_fits 256 f ps (omega (arith, few flag rule p hp)))) (positions_are flag rule p hp) ∙ mirror-mask f ps)
