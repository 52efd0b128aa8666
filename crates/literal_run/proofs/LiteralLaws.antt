-- Runs of plain bytes, copied by blocks of 32, by a part of one, and byte by byte. On plain values. Assumes nothing.
use mathlib.Core.Path.{◌≡◌, sym, ap, subst, ◌∙◌}
use mathlib.Core.Bool.{false, not}
use mathlib.Core.List.{List, ◌++◌}
use Prim.Native.Nat.{ℕ, zero, suc, ◌+◌, ◌-◌, ◌≤◌, ◌<◌}
use native.Mathlib.Nat.{add-zero, zero-add}
use native.Mathlib.Omega.{arith}
use lib.Dec.{T}
use lib.ListN.{length, take, drop, get_or, set, length-drop}
use lib.Seq.{sets, length-sets, take-add, drop-cons, drop-drop, length-take-le}
use borrow.Author.Tests.{ne_eqb}
use Rattle.model.specs.Occurrence.{all}
use Rattle.model.specs.References.{not_amp}
use Rattle.model.proofs.Truth.{and_intro, T-to}
use Rattle.model.proofs.Shares.{all_append}
use Rattle.model.proofs.LentLists.{sets-append}
use Rattle.byte_search.specs.BlockTests.{NoneBefore, same}
use Rattle.literal_run.specs.LiteralRuns.{Copied, RestCopied, LiteralsCopied}

-- k places where a block has no `&` are plain bytes
pub missed_plain : (s : List ℕ) (k i : ℕ) → i + k ≤ length s → ((j : ℕ) → j < k → same s 38 (i + j) ≡ false) → T (all not_amp (take k (drop i s)))
missed_plain s zero i h f = tt
missed_plain s (suc k) i h f =
    subst (λ (l : List ℕ). T (all not_amp (take (suc k) l))) (sym (drop-cons s i 0 (omega arith)))
    (and_intro (not_amp (get_or s i 0)) (all not_amp (take k (drop (suc i) s))) (T-to (ap not (sym first)) tt) (missed_plain s k (suc i) (omega arith) rest))
  where
    first : same s 38 i ≡ false
    first = rw (add-zero i) at (f 0 (omega arith))

    rest : (j : ℕ) → j < k → same s 38 (suc i + j) ≡ false
    rest j l = let e : i + suc j ≡ suc i + j = omega arith in rw e at (f (suc j) (omega arith))

-- ---- the loops of `copy_blocks` and `copy_bytes`

pub record Copying (raw : List ℕ) (i₀ : ℕ) (out₀ out : List ℕ) (i : ℕ) : Type 0 where
  pub fits : i ≤ length raw
  pub long : length out ≡ length out₀
  pub copied : Copied raw i₀ out₀ i out

module _ (raw : List ℕ) (i₀ : ℕ) (out₀ : List ℕ) where
  module _ {out : List ℕ} {i : ℕ} where
    -- k bytes more
    copied_more : Copied raw i₀ out₀ i out → (k : ℕ) → i + k ≤ length raw → T (all not_amp (take k (drop i raw)))
        → Copied raw i₀ out₀ (i + k) (sets out i (take k (drop i raw)))
    copied_more x k h t =
        let n = x.count in
        let d = drop i₀ raw in
        let e = x.end in
        let f = x.fits in
        let l : length (take n d) ≡ n = length-take-le n d (omega (arith, length-drop i₀ raw)) in
        let a : i₀ + length (take n d) ≡ i = omega arith in
        let b : take k (drop n d) ≡ take k (drop i raw) = ap (take k) (drop-drop n i₀ raw) ∙ ap (λ (j : ℕ). take k (drop j raw)) (sym e) in
        let c : take (n + k) d ≡ take n d ++ take k (drop i raw) = take-add n k d ∙ ap (λ (l : List ℕ). take n d ++ l) b in
        record {
          count = n + k;
          end = omega arith;
          fits = h;
          plain = subst (λ (l : List ℕ). T (all not_amp l)) (sym c) (all_append not_amp (take n d) (take k (drop i raw)) x.plain t);
          list =
              ap (λ (l : List ℕ). sets l i (take k (drop i raw))) x.list
              ∙ ap (λ (j : ℕ). sets (sets out₀ i₀ (take n d)) j (take k (drop i raw))) (sym a)
              ∙ sym (sets-append out₀ i₀ (take n d) (take k (drop i raw)))
              ∙ ap (sets out₀ i₀) (sym c);
        }

    module _ (g : Copying raw i₀ out₀ out i) where
      copying_more : (k : ℕ) → i + k ≤ length raw → T (all not_amp (take k (drop i raw)))
          → (out' : List ℕ) → out' ≡ sets out i (take k (drop i raw)) → Copying raw i₀ out₀ out' (i + k)
      copying_more k h t out' e =
          record {
            fits = h;
            long = ap length e ∙ length-sets out i (take k (drop i raw)) ∙ g.long;
            copied = subst (Copied raw i₀ out₀ (i + k)) (sym e) (copied_more g.copied k h t);
          }

      pub copy_block : 32 ≤ length raw - i → NoneBefore (same raw 38) i (i + 32) (i + 32)
          → (out' : List ℕ) → out' ≡ sets out i (take 32 (drop i raw)) → Copying raw i₀ out₀ out' (i + 32)
      copy_block h x out' q = copying_more 32 (omega arith) (missed_plain raw 32 i (omega arith) (λ j l. x.none (i + j) (omega arith) (omega arith))) out' q

      pub copy_byte : i < length raw → (get_or raw i 0 ≡ 38 → ⊥) → Copying raw i₀ out₀ (set out i (get_or raw i 0)) (i + 1)
      copy_byte h n =
          copying_more 1 (omega arith) (missed_plain raw 1 i (omega arith) one) (set out i (get_or raw i 0))
          (sym (ap (λ (l : List ℕ). sets out i (take 1 l)) (drop-cons raw i 0 h)))
        where
          one : (j : ℕ) → j < 1 → same raw 38 (i + j) ≡ false
          one j l = let e : i + j ≡ i = omega arith in rw e (ne_eqb (get_or raw i 0) 38 n)

-- ---- `copy_last_block`, `copy_literals`

pub near-copied : (raw out : List ℕ) (i j : ℕ) → i + 64 ≤ length raw → NoneBefore (same raw 38) i (i + 64) j → get_or raw j 0 ≡ 38
    → (out' : List ℕ) → out' ≡ sets out i (take (j - i) (drop i raw)) → RestCopied raw i out j out'
near-copied raw out i j h m e out' q =
    let a = m.fore in
    let b = m.within in
    record {
      copied =
          record {
            count = j - i;
            end = omega arith;
            fits = omega arith;
            plain = missed_plain raw (j - i) i (omega arith) (λ k l. m.none (i + k) (omega arith) (omega arith));
            list = q;
          };
      stops = λ l. e;
    }

pub run-copied : (raw out : List ℕ) (i : ℕ) (out₁ : List ℕ) → Copied raw 0 out i out₁ → (r : ℕ) (out' : List ℕ) → RestCopied raw i out₁ r out' → LiteralsCopied raw out r out'
run-copied raw out i out₁ x r out' y =
    let z = y.copied in
    let w : Copied raw 0 out (i + z.count) (sets out₁ i (take z.count (drop i raw))) =
    copied_more raw 0 out x z.count (rw (← z.end) z.fits) z.plain in
    let e : r ≡ w.count = z.end ∙ w.end ∙ zero-add w.count in
    record {
      run = record { fits = z.fits; plain = subst (λ (n : ℕ). T (all not_amp (take n raw))) (sym e) w.plain; stops = y.stops };
      list = z.list ∙ w.list ∙ ap (λ (n : ℕ). sets out 0 (take n raw)) (sym e);
    }
