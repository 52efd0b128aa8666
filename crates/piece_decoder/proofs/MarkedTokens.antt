-- Tokens decoded with their marks. On plain values. Assumes nothing.
use mathlib.Core.Path.{◌≡◌, refl, sym, ap, subst, ◌∙◌}
use mathlib.Core.Bool.{Bool, true, false, true≢false}
use mathlib.Core.List.{List, [], ◌++◌}
use Prim.Native.Nat.{ℕ, suc, ◌+◌, ◌-◌, ◌*◌, ◌≤◌, ◌<◌}
use native.Mathlib.Omega.{arith}
use lib.ListN.{length, drop, get_or, set, length-set, length-append, drop_of_length-le}
use lib.Seq.{get_or-set_same, get_or-set_other}
use Rattle.model.specs.References.{form_limit, Token, taken, joined, held_tail}
use Rattle.entry_list.specs.Marks.{mark_numbers, Marked}
use Rattle.entry_list.proofs.MarkLaws.{marked-none, marked-bytes, marked_reference}
use Rattle.piece_decoder.specs.declared.TokenRead.{TokenRead}
use Rattle.piece_decoder.specs.Chunks.{TokenIs, NoteFits, NotedIs, MarkedIs, chunk_size, mark_limit, marks_size}
use Rattle.piece_decoder.proofs.TokenLaws.{Writing, begun, further}

-- ---- `note`

module _ (marks : List ℕ) (m at written read : ℕ) (f : NoteFits marks m at written read) where
  pub noted_none : (b : Bool) → b ≡ false → NotedIs marks m b at written read m marks
  noted_none b q =
      subst (λ (b : Bool). NotedIs marks m b at written read m marks) (sym q)
      (record {
        none = λ e. refl;
        kept = λ e. refl;
        one = λ e. absurd (true≢false (sym e));
        same = λ i h. refl;
        start = λ e. absurd (true≢false (sym e));
        after = λ e. absurd (true≢false (sym e));
        ahead = λ e. absurd (true≢false (sym e));
        long = refl;
      })

  noted : (marks' : List ℕ) → marks' ≡ set (set (set marks (mark_numbers * m) at) (mark_numbers * m + 1) written) (mark_numbers * m + 2) (read - written)
      → NotedIs marks m true at written read (m + 1) marks'
  noted marks' e =
      let r = f.room in
      let o = f.order in
      let a : ℕ = mark_numbers * m in
      let l₁ : List ℕ = set marks a at in
      let l₂ : List ℕ = set l₁ (a + 1) written in
      let n₁ : length l₁ ≡ length marks = length-set marks a at in
      let n₂ : length l₂ ≡ length l₁ = length-set l₁ (a + 1) written in
      let n₃ : length marks' ≡ length l₂ = ap length e ∙ length-set l₂ (a + 2) (read - written) in
      let g₂ : (i : ℕ) → (i ≡ a + 2 → ⊥) → get_or marks' i 0 ≡ get_or l₂ i 0 = λ i h. ap (λ (l : List ℕ). get_or l i 0) e ∙ get_or-set_other l₂ (a + 2) i (read - written) 0 h in
      let g₁ : (i : ℕ) → (i ≡ a + 1 → ⊥) → get_or l₂ i 0 ≡ get_or l₁ i 0 = λ i h. get_or-set_other l₁ (a + 1) i written 0 h in
      let g₀ : (i : ℕ) → (i ≡ a → ⊥) → get_or l₁ i 0 ≡ get_or marks i 0 = λ i h. get_or-set_other marks a i at 0 h in
      record {
        none = λ e. absurd (true≢false e);
        kept = λ e. absurd (true≢false e);
        one = λ e. omega arith;
        same = λ i h. g₂ i (λ z. omega arith) ∙ g₁ i (λ z. omega arith) ∙ g₀ i (λ z. omega arith);
        start = λ q. g₂ a (λ z. omega arith) ∙ g₁ a (λ z. omega arith) ∙ get_or-set_same marks a at 0 (omega arith);
        after = λ q. g₂ (a + 1) (λ z. omega arith) ∙ get_or-set_same l₁ (a + 1) written 0 (omega arith);
        ahead = λ q. omega (arith, ap (λ (l : List ℕ). get_or l (a + 2) 0) e, get_or-set_same l₂ (a + 2) (read - written) 0 (omega arith));
        long = n₃ ∙ n₂ ∙ n₁;
      }

  pub noted_one : (b : Bool) → b ≡ true → NotedIs marks m b at written read (m + 1) (set (set (set marks (mark_numbers * m) at) (mark_numbers * m + 1) written) (mark_numbers * m + 2) (read - written))
  noted_one b q =
      subst (λ (b : Bool). NotedIs marks m b at written read (m + 1) (set (set (set marks (mark_numbers * m) at) (mark_numbers * m + 1) written) (mark_numbers * m + 2) (read - written))) (sym q)
      (noted (set (set (set marks (mark_numbers * m) at) (mark_numbers * m + 1) written) (mark_numbers * m + 2) (read - written)) refl)

-- ---- `decode_marked`

pub record Marking (raw out₀ out marks : List ℕ) (i at m : ℕ) : Type 0 where
  pub writing : Writing raw out₀ out i at
  pub marked : Marked marks m writing.done
  pub few : 4 * m ≤ i
  pub within : m ≤ mark_limit
  pub long : length marks ≡ marks_size

module _ (raw out₀ : List ℕ) (short : length raw ≤ chunk_size) where
  pub marking : (marks₀ : List ℕ) → length marks₀ ≡ marks_size → Marking raw out₀ out₀ marks₀ 0 0 0
  marking marks₀ l = record { writing = begun raw out₀; marked = marked-none marks₀; few = omega arith; within = omega arith; long = l }

  -- what was written so far, as an answer
  told : (out marks : List ℕ) (i at m : ℕ) (full : Bool) (w : Writing raw out₀ out i at) → Marked marks m w.done → m ≤ mark_limit → length marks ≡ marks_size → (full ≡ true → 0 < i) → (full ≡ false → held_tail form_limit (drop i raw) ≡ drop i raw)
      → MarkedIs raw out₀ (record { read = i; written = at; marks = m; full = full }) out marks
  told out marks i at m full w k c l go all =
      record {
        tokens = w.done;
        hands_on = w.hands_on;
        written = w.count;
        few = w.few;
        list = w.list;
        marked = k;
        few-marks = omega arith;
        marks-long = l;
        moves = go;
        all_held = all;
      }

  module _ (out marks : List ℕ) (i at m : ℕ) (g : Marking raw out₀ out marks i at m) where
    pub marking_room : length raw ≤ length out₀ → at + length raw ≤ length out + i
    marking_room h = let a = g.writing.few in let b = g.writing.long in omega arith

    module _ (h : i < length raw) (t : TokenRead) (out' : List ℕ) (x : TokenIs raw i out at t out') where
      at-is : at ≡ length (joined g.writing.done)
      at-is = g.writing.count

      pub note_fits : m < mark_limit → NoteFits marks m at t.written t.read
      note_fits some =
          let l = g.long in
          let w = x.written in
          let k = x.few in
          let n = g.writing.few in
          let b = x.hands_on.fits in
          record { room = omega arith; before = omega arith; order = omega arith; small = omega arith }

      -- bytes that stay bring no mark
      plain-marked : t.reference ≡ false → Marked marks m (g.writing.done ++ x.tokens)
      plain-marked e = subst (λ (l : List Token). Marked marks m (g.writing.done ++ l)) (sym (x.plain e)) (marked-bytes marks m g.writing.done g.marked (joined x.tokens))

      one-marked : t.reference ≡ true → (r : ℕ) (marks' : List ℕ) → NotedIs marks m t.reference at t.written t.read r marks' → Marked marks' (suc m) (g.writing.done ++ x.tokens)
      one-marked e r marks' n =
          let s = x.single e in
          let k = s.token in
          let j : length (joined x.tokens) ≡ length k.gives = omega (arith, ap (λ (l : List Token). length (joined l)) s.is, length-append k.gives []) in
          let q : taken x.tokens ≡ k.takes = omega (arith, ap taken s.is) in
          let w = x.written in
          let c = at-is in
          let u = x.hands_on.takes in
          let v = g.writing.hands_on.takes in
          let y = n.ahead e in
          subst (λ (l : List Token). Marked marks' (suc m) (g.writing.done ++ l)) (sym s.is)
          (marked_reference marks m g.writing.done g.marked k marks' n.same (n.start e ∙ at-is) (omega (arith, n.after e)) (omega arith))

      pub mark-turn : m < mark_limit → t.held ≡ false → (r : ℕ) (marks' : List ℕ) → NotedIs marks m t.reference at t.written t.read r marks' → Marking raw out₀ out' marks' t.read t.written r
      mark-turn some held r marks' n = go t.reference refl
        where
          go : (b : Bool) → t.reference ≡ b → Marking raw out₀ out' marks' t.read t.written r
          go false e =
              let z = n.none e in
              let a = g.few in
              let o = x.moves held in
              record {
                writing = further raw out₀ g.writing x;
                marked = subst (λ (k : ℕ). Marked marks' k (g.writing.done ++ x.tokens)) (sym z) (subst (λ (l : List ℕ). Marked l m (g.writing.done ++ x.tokens)) (sym (n.kept e)) (plain-marked e));
                few = omega arith;
                within = omega arith;
                long = n.long ∙ g.long;
              }
          go true e =
              let z = n.one e in
              let a = g.few in
              let o = x.long e in
              record {
                writing = further raw out₀ g.writing x;
                marked = subst (λ (k : ℕ). Marked marks' k (g.writing.done ++ x.tokens)) (sym z) (one-marked e r marks' n);
                few = omega arith;
                within = omega arith;
                long = n.long ∙ g.long;
              }

      pub mark_stopped : t.held ≡ true → MarkedIs raw out₀ (record { read = t.read; written = t.written; marks = m; full = false }) out' marks
      mark_stopped held = told out' marks t.read t.written m false (further raw out₀ g.writing x) (plain-marked (x.held_plain held)) g.within g.long (λ e. absurd (true≢false (sym e))) (λ e. x.all_held held)

    pub mark-full : mark_limit ≤ m → MarkedIs raw out₀ (record { read = i; written = at; marks = m; full = true }) out marks
    mark-full all = let a = g.few in told out marks i at m true g.writing g.marked g.within g.long (λ e. omega arith) (λ e. absurd (true≢false e))

    pub mark-over : length raw ≤ i → MarkedIs raw out₀ (record { read = i; written = at; marks = m; full = false }) out marks
    mark-over stop =
        let n : drop i raw ≡ [] = drop_of_length-le raw stop in
        told out marks i at m false g.writing g.marked g.within g.long (λ e. absurd (true≢false (sym e))) (λ e. ap (held_tail form_limit) n ∙ sym n)
