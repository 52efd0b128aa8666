-- The table of a rule's positions, read by fit. Assumes nothing.
use Rattle.std.specs.Prelude.{◌≡◌, Bool, false, cond, List, ℕ, zero, suc, ◌*◌, ◌≤◌, ◌<◌, length, get_or, take, drop}
use Rattle.std.specs.Int.Bits.{bit_or}
use Rattle.model.specs.Occurrence.{Position}
use Rattle.model.specs.RuleText.{fold_flag, one_of}
use Rattle.model.specs.Codes.{set_bytes, in_set, codes_of, fitting, smudged, codes_wrong}
use Rattle.rule_table.specs.Tables.{plane_of, table_of, row_of, PlaneFillable, Fillable}

-- the union of the entries of those bytes below n that are in a set
unfoldable pub union_below : (ℕ → Bool) → (plane : List ℕ) (n : ℕ) → ℕ
union_below s t zero = 0
union_below s t (suc n) = cond (s n) (bit_or (union_below s t n) (get_or t n 0)) (union_below s t n)

-- the set of the k-th code
abbrev pub set_at : (sets : List ℕ) (k : ℕ) → List ℕ
set_at sets k = take set_bytes (drop (set_bytes * k) sets)

-- ---- one plane, of any table

pub record PlaneFittable (codes sets plane : List ℕ) : Type 0 where
  pub fine : codes_wrong codes sets ≡ false
  pub long : length plane ≡ 256

-- The entry of each code is the union of those of its set's bytes, and no other entry changes.
pub record PlaneFits (codes sets t t' : List ℕ) : Type 0 where
  pub long : length t' ≡ 256
  pub plain : (x : ℕ) → x < 256 → one_of codes x ≡ false → get_or t' x 0 ≡ get_or t x 0
  pub code : (k : ℕ) → k < length codes → get_or t' (get_or codes k 0) 0 ≡ union_below (in_set (set_at sets k)) t 256

-- ---- the plane of a word, and all four, of a list of at most `total` positions

pub record WordFittable (codes sets plane : List ℕ) (word : ℕ) : Type 0 where
  pub fittable : PlaneFittable codes sets plane
  pub one : word < 4

pub record WordFits (codes sets : List ℕ) (total : ℕ) (t t' : List ℕ) (word : ℕ) : Type 0 where
  pub long : length t' ≡ 256
  pub is : (ps : List Position) → length ps ≤ total → t ≡ plane_of word ps → t' ≡ plane_of word (fitting (codes_of codes sets) ps)

pub record TableFittable (codes sets table : List ℕ) : Type 0 where
  pub fine : codes_wrong codes sets ≡ false
  pub long : length table ≡ 1024

pub record TableFits (codes sets : List ℕ) (total : ℕ) (t t' : List ℕ) : Type 0 where
  pub long : length t' ≡ 1024
  pub is : (ps : List Position) → length ps ≤ total → t ≡ table_of ps → t' ≡ table_of (fitting (codes_of codes sets) ps)

-- ---- what `fill_plane` and `fill` ask and ensure: of an accepted rule and accepted codes

pub record PlaneReadable (flag : ℕ) (rule codes sets : List ℕ) (total : ℕ) (plane : List ℕ) (word : ℕ) : Type 0 where
  pub fillable : PlaneFillable flag rule total plane word
  pub fine : codes_wrong codes sets ≡ false

pub record PlaneFitted (flag : ℕ) (rule codes sets : List ℕ) (reversed : Bool) (plane : List ℕ) (word : ℕ) : Type 0 where
  pub long : length plane ≡ 256
  pub is : plane ≡ plane_of word (row_of reversed (smudged (fold_flag flag) rule codes sets))

pub record Readable (flag : ℕ) (rule codes sets : List ℕ) (total : ℕ) (table : List ℕ) : Type 0 where
  pub fillable : Fillable flag rule total table
  pub fine : codes_wrong codes sets ≡ false

pub record Fitted (flag : ℕ) (rule codes sets : List ℕ) (reversed : Bool) (table : List ℕ) : Type 0 where
  pub long : length table ≡ 1024
  pub is : table ≡ table_of (row_of reversed (smudged (fold_flag flag) rule codes sets))
