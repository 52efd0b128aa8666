-- The laws of `write`, `import_items` and `import_like`. On plain values. Assumes nothing.
use mathlib.Core.Path.{◌≡◌, refl, sym, ap, ap₂, subst, ◌∙◌}
use mathlib.Core.Bool.{Bool, true, false, not}
use mathlib.Core.List.{List, [], ◌∷◌, ◌++◌}
use Prim.Native.Nat.{ℕ, ◌+◌, ◌-◌, ◌^◌, ◌≤◌, ◌<◌}
use native.Mathlib.Omega.{arith}
use lib.Dec.{eqb, ltb}
use lib.ListN.{length, take, drop, length-append, take-append-drop, drop_of_length-le}
use lib.Seq.{sets, length-sets}
use borrow.Author.Tests.{lt-ltb, le-ltb, eq-eqb, ne_eqb}
use Rattle.std.specs.Prelude.{Option, None, Some, Result}
use Rattle.std.proofs.lemmas.Result.{MatchResult-weaker}
use Rattle.model.specs.RuleText.{rule_limit, position_limit}
use Rattle.model.specs.NumberedAnswers.{text_limit, Parsed, refused, accepted, overwrite, TextAnswer, turns_down, text_buffer}
use Rattle.model.specs.Like.{LikeItem, LikePattern, misspelt, pattern, add_item, like_from, like, like_text, import_text, import_items, imported}
use Rattle.model.proofs.LentLists.{sets-append, sets-overwrite}
use Rattle.rule_spelling.specs.LikeRules.{like_elements, singles, past_place, like_parsed}
use Rattle.rule_spelling.proofs.LikeRules.{text-append, like_parses}
use Rattle.answers.specs.declared.Text.{Text}
use Rattle.answers.specs.declared.Refusal.{Refusal}
use Rattle.answers.specs.declared.Refusal.TheVariants.{RuleEmpty, RuleLong, TooManyPositions, AdmitsEmpty, TooShort, TooMuch, LikeFault}
use Rattle.answers.specs.declared.Refused.{Refused}
use Rattle.answers.specs.Answers.{number_of, refused_at, refusing_text, written_text}
use Rattle.text_writer.specs.Writing.{text_answer}
use Rattle.text_writer.proofs.WriteLaws.{answered}
use Rattle.like_importer.specs.declared.Item.{Item}
use Rattle.like_importer.specs.declared.Measure.{Measure}
use Rattle.like_importer.specs.Importing.{spelling, ItemRead, Reads, ReadsItem, Measures, MeasuredIs, MisspeltIs, PutIs, Writable, WrittenIs, Importable, ItemsImported, ItemsTried, ImportIs, ImportTried}

-- ---- `write`

pattern_inj : {is js : List LikeItem} → pattern is ≡ pattern js → is ≡ js
pattern_inj e = cc

not_misspelt : {A : Type 0} {k : ℕ} {is : List LikeItem} → misspelt k ≡ pattern is → A
not_misspelt e = let z : ◌≡◌ {A = ℕ} 0 1 = cc in absurd (omega arith)

-- the items from `at` on are still to be written, at `end`
pub record Writing (s out₀ : List ℕ) (at : ℕ) (out : List ℕ) (end : ℕ) : Type 0 where
  pub left : List LikeItem
  pub reads : like_from false at (drop at s) ≡ pattern left
  pub list : (is : List LikeItem) → like s ≡ pattern is → sets out end (like_text left) ≡ overwrite out₀ (like_text is)
  pub room : end + length (like_text left) ≤ length out
  pub long : length out ≡ length out₀

module _ (s out₀ : List ℕ) where
  pub write_begun : Writable s (length out₀) → Writing s out₀ 0 out₀ 0
  write_begun h = record {
    left = h.items;
    reads = h.reads;
    list = λ is e. let q = pattern_inj (sym h.reads ∙ e) in sets-overwrite out₀ (like_text h.items) h.room ∙ ap (λ (l : List LikeItem). overwrite out₀ (like_text l)) q;
    room = omega (arith, h.room);
    long = refl;
  }

  module _ (at : ℕ) (out : List ℕ) (end : ℕ) (g : Writing s out₀ at out end) where
    pub write_over : length s ≤ at → WrittenIs s out₀ out
    write_over h =
        let d = drop_of_length-le s h in
        let q : [] ≡ g.left = pattern_inj (sym (ap (like_from false at) d) ∙ g.reads) in
        record { list = λ is e. ap (λ (l : List LikeItem). sets out end (like_text l)) q ∙ g.list is e }

    module _ (a : Option (Item × ℕ)) (ha : ReadsItem s at a) where
      pub write_never : a ≡ None → WrittenIs s out₀ out
      write_never e = let b : Reads s at None = subst (Reads s at) e ha.is in not_misspelt (sym b ∙ g.reads)

      module _ (x : Item) (next : ℕ) (e : a ≡ Some (x, next)) where
        read : ItemRead s at x next
        read = subst (Reads s at) e ha.is

        pub write_less : at < length s → length s - next < length s - at
        write_less l = omega (arith, read.ahead, read.inside)

        -- what is left after it
        after : (p : LikePattern) → like_from false next (drop next s) ≡ p → (is : List LikeItem) × (like_from false next (drop next s) ≡ pattern is) × (g.left ≡ read.item ∷ is)
        after (misspelt k) q = not_misspelt (sym (read.reads ∙ ap (add_item read.item) q) ∙ g.reads)
        after (pattern is) q = (is, q, pattern_inj (sym g.reads ∙ read.reads ∙ ap (add_item read.item) q))

        abbrev rest : List LikeItem
        rest = (after (like_from false next (drop next s)) refl).0

        text-is : like_text g.left ≡ spelling x ++ like_text rest
        text-is = ap like_text (after (like_from false next (drop next s)) refl).2 ∙ ap (λ (l : List ℕ). l ++ like_text rest) read.spells.text

        pub write_room : end + length (spelling x) ≤ length out
        write_room = let z = ap length text-is in omega (arith, g.room, length-append (spelling x) (like_text rest))

        pub write_turn : (end' : ℕ) (out' : List ℕ) → PutIs x out end end' out' → Writing s out₀ next out' end'
        write_turn end' out' h =
            let z = ap length text-is in
            let k : length out' ≡ length out = ap length h.list ∙ length-sets out end (spelling x) in
            record {
              left = rest;
              reads = (after (like_from false next (drop next s)) refl).1;
              list = λ is e.
                  ap₂ (λ (o : List ℕ) (n : ℕ). sets o n (like_text rest)) h.list h.end
                  ∙ sym (sets-append out end (spelling x) (like_text rest))
                  ∙ sym (ap (sets out end) text-is)
                  ∙ g.list is e;
              room = omega (arith, g.room, h.end, length-append (spelling x) (like_text rest));
              long = k ∙ g.long;
            }

-- ---- `import_items`

-- a part of the items has no longer text
part-short : (k : ℕ) (is : List LikeItem) → past_place k is ≤ length (like_text is)
part-short k is =
    let z = ap (λ (l : List LikeItem). length (like_text l)) (sym (take-append-drop k is)) in
    omega (arith, ap length (text-append (take k is) (drop k is)), length-append (like_text (take k is)) (like_text (drop k is)))

module _ (s : List ℕ) (m : Measure) (out : List ℕ) (h : Importable s m (length out)) where
  abbrev is : List LikeItem
  is = h.items

  abbrev ms : Measures is m
  ms = h.measures

  -- by what the text parses to
  by_parsed : (p : Parsed) → like_parsed is ≡ p → (t : Text) → t ≡ text_answer (import_text (like_text is) p) → (out' : List ℕ) → out' ≡ text_buffer (import_text (like_text is) p) out → ItemsImported s out t out'
  by_parsed p q =
      answered (import_items (like s)) (import_text (like_text is) p)
      (ap import_items h.reads ∙ ap (import_text (like_text is)) (like_parses false is ∙ q)) out

  refuses : (x : Refusal) (k : ℕ) → like_parsed is ≡ refused (number_of x) k → (e : Refused) → e ≡ refused_at x k → ItemsImported s out (refusing_text (number_of e.refusal) e.place) out
  refuses x k q e ee = rw ee (by_parsed (refused (number_of x) k) q (refusing_text (number_of x) k) refl out refl)

  pub import_none : m.length ≡ 0 → (e : Refused) → e ≡ refused_at RuleEmpty 0 → ItemsImported s out (refusing_text (number_of e.refusal) e.place) out
  import_none z = refuses RuleEmpty 0 (rw (eq-eqb (length (like_text is)) 0 (sym ms.long ∙ z)))

  module _ (n0 : m.length ≡ 0 → ⊥) where
    some-text : eqb (length (like_text is)) 0 ≡ false
    some-text = ne_eqb (length (like_text is)) 0 (λ z. n0 (ms.long ∙ z))

    pub import_long : rule_limit < m.length → (e : Refused) → e ≡ refused_at RuleLong rule_limit → ItemsImported s out (refusing_text (number_of e.refusal) e.place) out
    import_long l = refuses RuleLong rule_limit (rw (some-text, lt-ltb rule_limit (length (like_text is)) (omega (arith, ms.long))))

    module _ (l : m.length ≤ rule_limit) where
      short-text : ltb rule_limit (length (like_text is)) ≡ false
      short-text = le-ltb rule_limit (length (like_text is)) (omega (arith, ms.long))

      pub past-small : m.past < 2 ^ 32
      past-small = omega (arith, ms.past, ms.long, part-short position_limit is)

      pub import_many : position_limit < m.items → (e : Refused) → e ≡ refused_at TooManyPositions m.past → ItemsImported s out (refusing_text (number_of e.refusal) e.place) out
      import_many k = refuses TooManyPositions m.past (rw (some-text, short-text, lt-ltb position_limit (length is) (omega (arith, ms.items))) (ap (refused (number_of TooManyPositions)) (sym ms.past)))

      module _ (k : m.items ≤ position_limit) where
        few-items : ltb position_limit (length is) ≡ false
        few-items = le-ltb position_limit (length is) (omega (arith, ms.items))

        -- whether no item must have a byte
        none_by : (b : Bool) → not m.some ≡ b → eqb (singles is) 0 ≡ b
        none_by b e = twice (eqb (singles is) 0) ∙ sym (ap not ms.some) ∙ e
          where
            twice : (x : Bool) → x ≡ not (not x)
            twice true = refl
            twice false = refl

        pub import_empty : not m.some ≡ true → (e : Refused) → e ≡ refused_at AdmitsEmpty m.length → ItemsImported s out (refusing_text (number_of e.refusal) e.place) out
        import_empty e = refuses AdmitsEmpty m.length (rw (some-text, short-text, few-items, none_by true e) (ap (refused (number_of AdmitsEmpty)) (sym ms.long)))

        pub import_writable : Writable s (length out)
        import_writable = record { items = is; reads = h.reads; room = omega (arith, ms.long, h.long) }

        pub import_done : not m.some ≡ false → (out' : List ℕ) → WrittenIs s out out' → ItemsImported s out (written_text m.length) out'
        import_done e out' w =
            by_parsed (accepted (like_elements is)) (rw (some-text, short-text, few-items, none_by false e))
            (written_text m.length) (ap written_text ms.long) out' (w.list is h.reads)

-- ---- `import_like`

module _ (s out : List ℕ) where
  by_answer : (x : TextAnswer) → imported s (length out) ≡ x → (t : Text) → t ≡ text_answer x → (out' : List ℕ) → out' ≡ text_buffer x out → ImportIs s out t out'
  by_answer x e = answered (imported s (length out)) x e out

  refuses_call : (x : Refusal) (k : ℕ) → imported s (length out) ≡ turns_down (number_of x) k → (e : Refused) → e ≡ refused_at x k → ImportIs s out (refusing_text (number_of e.refusal) e.place) out
  refuses_call x k q e ee = rw ee (by_answer (turns_down (number_of x) k) q (refusing_text (number_of x) k) refl out refl)

  pub import_short : length out < rule_limit → (e : Refused) → e ≡ refused_at TooShort 0 → ImportIs s out (refusing_text (number_of e.refusal) e.place) out
  import_short l = refuses_call TooShort 0 (rw (lt-ltb (length out) rule_limit l))

  module _ (l : rule_limit ≤ length out) where
    pub import_over : text_limit < length s → (e : Refused) → e ≡ refused_at TooMuch 0 → ImportIs s out (refusing_text (number_of e.refusal) e.place) out
    import_over h = refuses_call TooMuch 0 (rw (le-ltb (length out) rule_limit l, lt-ltb text_limit (length s) h))

    module _ (h : length s ≤ text_limit) where
      by_pattern : imported s (length out) ≡ import_items (like s)
      by_pattern = rw (le-ltb (length out) rule_limit l, le-ltb text_limit (length s) h)

      pub import_misspelt : (e : Refused) → MisspeltIs s e → ImportIs s out (refusing_text (number_of e.refusal) e.place) out
      import_misspelt e r = refuses_call LikeFault e.place (by_pattern ∙ ap import_items r.is) e (ap (λ (x : Refusal). refused_at x e.place) r.fault)

      module _ (m : Measure) (r : MeasuredIs s m) where
        pub import_ready : Importable s m (length out)
        import_ready = record { items = r.items; reads = r.reads; measures = r.measures; long = l }

        by_items : (t : Text) (out' : List ℕ) → ItemsImported s out t out' → ImportIs s out t out'
        by_items t out' i = record { answers = i.answers ∙ sym (ap text_answer by_pattern); buffer = i.buffer ∙ sym (ap (λ (x : TextAnswer). text_buffer x out) by_pattern) }

        pub import_items_lem : (r : Result ℕ Refused) (out' : List ℕ) → ItemsTried s out r out' → ImportTried s out r out'
        import_items_lem r out' i = MatchResult-weaker r i (λ n. by_items (written_text n) out') (λ e. by_items (refusing_text (number_of e.refusal) e.place) out')
