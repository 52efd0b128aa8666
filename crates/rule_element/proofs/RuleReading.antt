-- The elements of a rule, one after the other, as the model reads them, and what `read_element` found there. On plain values. Assumes nothing.
use mathlib.Core.Path.{◌≡◌, refl, sym, ap, ap₂, ◌∙◌}
use mathlib.Core.List.{List, [], ◌∷◌}
use mathlib.Core.Bool.{Bool, true, false}
use Prim.Native.Nat.{ℕ, zero, suc, pred, ◌+◌, ◌-◌, ◌≤◌, ◌<◌}
use native.Mathlib.Omega.{arith}
use native.Mathlib.Nat.{add-zero, add-suc, suc-add}
use lib.ListN.{length, get_or, take, drop, drop_of_length-le}
use lib.Seq.{drop-cons, drop-drop}
use lib.Dec.{leb}
use Rattle.std.specs.Prelude.{Result, Ok, Err}
use Rattle.answers.specs.declared.Refusal.{Refusal}
use Rattle.answers.specs.Answers.{number_of}
use Rattle.model.specs.RefusalNumbers.{too_many_positions}
use Rattle.model.specs.RuleText as Model
use Rattle.model.specs.RuleText.{position_limit, bad, good, kind_at, often_after, mark_bytes}
use Rattle.model.specs.Spelling.{Spelled, spelled_from}
use Rattle.model.specs.NumberedAnswers.{Parsed, refused, accepted, add_element, elements_from}
use Rattle.model.proofs.Accepted.{elements-bad, elements-over as elements-past, elements-good, spelled-good, accepted_inj, not_refused}
use Rattle.rule_element.specs.declared.Element.{Element}
use Rattle.rule_element.specs.Reading.{kind_of, often_of, size_of, bytes_of, element_of, read_by, ElementMoves, ReadsElement}
use Rattle.rule_element.proofs.Elements.{size_same, bytes_same}

-- ---- the model's reading, element by element

-- bytes that belong to an element already read are dropped
elements_skip : (fold : Bool) (k place used : ℕ) (cs : List ℕ) → elements_from position_limit fold k place used cs ≡ elements_from position_limit fold 0 (place + k) used (drop k cs)
elements_skip fold zero place used cs = ap (λ (p : ℕ). elements_from position_limit fold 0 p used cs) (sym (add-zero place))
elements_skip fold (suc k) place used [] = refl
elements_skip fold (suc k) place used (c ∷ cs) = elements_skip fold k (suc place) used cs ∙ ap (λ (p : ℕ). elements_from position_limit fold 0 p used (drop k cs)) (suc-add place k ∙ sym (add-suc place k))

spelled_skip : (fold : Bool) (k place : ℕ) (cs : List ℕ) → spelled_from fold k place cs ≡ spelled_from fold 0 (place + k) (drop k cs)
spelled_skip fold zero place cs = ap (λ (p : ℕ). spelled_from fold 0 p cs) (sym (add-zero place))
spelled_skip fold (suc k) place [] = refl
spelled_skip fold (suc k) place (c ∷ cs) = spelled_skip fold k (suc place) cs ∙ ap (λ (p : ℕ). spelled_from fold 0 p (drop k cs)) (suc-add place k ∙ sym (add-suc place k))

module _ (fold : Bool) (used : ℕ) (s : List ℕ) (at : ℕ) where
  pub elements-end : length s ≤ at → elements_from position_limit fold 0 at used (drop at s) ≡ accepted []
  elements-end h = ap (elements_from position_limit fold 0 at used) (drop_of_length-le s h)

  pub spelled-end : length s ≤ at → spelled_from fold 0 at (drop at s) ≡ []
  spelled-end h = ap (spelled_from fold 0 at) (drop_of_length-le s h)

  module _ (h : at < length s) where
    here : drop at s ≡ get_or s at 0 ∷ drop (suc at) s
    here = drop-cons s at 0 h

    elements-turn : (d : Model.Kind) (n : ℕ) → kind_at fold (drop at s) ≡ good d n → leb (used + Model.size d) position_limit ≡ true → 1 ≤ n → (o : Model.Often) → o ≡ often_after d (drop (at + n) s)
        → elements_from position_limit fold 0 at used (drop at s)
        ≡ add_element (record { kind = d; often = o }) (elements_from position_limit fold 0 (at + n + mark_bytes o) (used + Model.size d) (drop (at + n + mark_bytes o) s))
    elements-turn d n q r l o eo =
        let e : often_after d (drop n (get_or s at 0 ∷ drop (suc at) s)) ≡ o =
        ap (λ (x : List ℕ). often_after d (drop n x)) (sym here) ∙ ap (often_after d) (drop-drop n at s) ∙ sym eo in
        let p : suc at + (pred n + mark_bytes o) ≡ at + n + mark_bytes o = omega arith in
        ap (elements_from position_limit fold 0 at used) here
        ∙ elements-good position_limit fold (get_or s at 0) (drop (suc at) s) at used n d (ap (kind_at fold) (sym here) ∙ q) r
        ∙ ap (λ (y : Model.Often). add_element (record { kind = d; often = y }) (elements_from position_limit fold (pred n + mark_bytes y) (suc at) (used + Model.size d) (drop (suc at) s))) e
        ∙ ap (add_element (record { kind = d; often = o }))
        (elements_skip fold (pred n + mark_bytes o) (suc at) (used + Model.size d) (drop (suc at) s)
        ∙ ap (elements_from position_limit fold 0 (suc at + (pred n + mark_bytes o)) (used + Model.size d)) (drop-drop (pred n + mark_bytes o) (suc at) s)
        ∙ ap (λ (j : ℕ). elements_from position_limit fold 0 j (used + Model.size d) (drop j s)) p)

    spelled-turn : (d : Model.Kind) (n : ℕ) → kind_at fold (drop at s) ≡ good d n → 1 ≤ n → (o : Model.Often) → o ≡ often_after d (drop (at + n) s)
        → spelled_from fold 0 at (drop at s)
        ≡ record { element = record { kind = d; often = o }; place = at; bytes = take (n + mark_bytes o) (drop at s) } ∷ spelled_from fold 0 (at + n + mark_bytes o) (drop (at + n + mark_bytes o) s)
    spelled-turn d n q l o eo =
        let e : often_after d (drop n (get_or s at 0 ∷ drop (suc at) s)) ≡ o =
        ap (λ (x : List ℕ). often_after d (drop n x)) (sym here) ∙ ap (often_after d) (drop-drop n at s) ∙ sym eo in
        let p : suc at + (pred n + mark_bytes o) ≡ at + n + mark_bytes o = omega arith in
        ap (spelled_from fold 0 at) here
        ∙ spelled-good fold (get_or s at 0) (drop (suc at) s) at n d (ap (kind_at fold) (sym here) ∙ q)
        ∙ ap (λ (y : Model.Often). record { element = record { kind = d; often = y }; place = at; bytes = take (n + mark_bytes y) (get_or s at 0 ∷ drop (suc at) s) } ∷ spelled_from fold (pred n + mark_bytes y) (suc at) (drop (suc at) s)) e
        ∙ ap₂ (λ (x : List ℕ) (ss : List Spelled). record { element = record { kind = d; often = o }; place = at; bytes = take (n + mark_bytes o) x } ∷ ss) (sym here)
        (spelled_skip fold (pred n + mark_bytes o) (suc at) (drop (suc at) s)
        ∙ ap (spelled_from fold 0 (suc at + (pred n + mark_bytes o))) (drop-drop (pred n + mark_bytes o) (suc at) s)
        ∙ ap (λ (j : ℕ). spelled_from fold 0 j (drop j s)) p)

    -- what `read_element` found, read back into the model's
    pub element-refused : (x : Refusal) → ReadsElement fold used s at (Err x) → elements_from position_limit fold 0 at used (drop at s) ≡ refused (number_of x) at
    element-refused x r = go (kind_at fold (drop at s)) refl
      where
        go : (k : Model.ReadKind) → kind_at fold (drop at s) ≡ k → elements_from position_limit fold 0 at used (drop at s) ≡ refused (number_of x) at
        go (bad m) q =
            let f : ◌≡◌ {A = Result (Model.Element × ℕ) ℕ} (Err m) (Err (number_of x)) = sym (ap (read_by used s at) q) ∙ r in
            let z : m ≡ number_of x = cc in
            ap (elements_from position_limit fold 0 at used) here ∙ elements-bad position_limit fold (get_or s at 0) (drop (suc at) s) at used m (ap (kind_at fold) (sym here) ∙ q) ∙ ap (λ (y : ℕ). refused y at) z
        go (good d m) q = room (leb (used + Model.size d) position_limit) refl
          where
            room : (b : Bool) → leb (used + Model.size d) position_limit ≡ b → elements_from position_limit fold 0 at used (drop at s) ≡ refused (number_of x) at
            room true b =
                let o = often_after d (drop (at + m) s) in
                let f : ◌≡◌ {A = Result (Model.Element × ℕ) ℕ} (Ok (record { kind = d; often = o }, at + m + mark_bytes o)) (Err (number_of x)) = sym (ap (read_by used s at) q ∙ rw b) ∙ r in
                absurd (cc)
            room false b =
                let f : ◌≡◌ {A = Result (Model.Element × ℕ) ℕ} (Err too_many_positions) (Err (number_of x)) = sym (ap (read_by used s at) q ∙ rw b) ∙ r in
                let z : too_many_positions ≡ number_of x = cc in
                ap (elements_from position_limit fold 0 at used) here ∙ elements-past position_limit fold (get_or s at 0) (drop (suc at) s) at used m d (ap (kind_at fold) (sym here) ∙ q) b ∙ ap (λ (y : ℕ). refused y at) z

    module _ (element : Element) (next : ℕ) (rc : ReadsElement fold used s at (Ok (element, next))) where
      pub record Found : Type 0 where
        pub kind : Model.Kind
        pub often : Model.Often
        pub is-element : element ≡ element_of fold (record { kind = kind; often = often })
        pub turn : elements_from position_limit fold 0 at used (drop at s) ≡ add_element (record { kind = kind; often = often }) (elements_from position_limit fold 0 next (used + size_of element.kind) (drop next s))
        pub spells : spelled_from fold 0 at (drop at s) ≡ record { element = record { kind = kind; often = often }; place = at; bytes = take (next - at) (drop at s) } ∷ spelled_from fold 0 next (drop next s)

      pub moved : ElementMoves used s at element next
      moved = rc.moves

      pub element-found : Found
      element-found = go (kind_at fold (drop at s)) refl
        where
          go : (x : Model.ReadKind) → kind_at fold (drop at s) ≡ x → Found
          go (bad m) q =
              let f : ◌≡◌ {A = Result (Model.Element × ℕ) ℕ} (Err m) (Ok (rc.model, next)) = sym (ap (read_by used s at) q) ∙ rc.is in
              absurd (cc)
          go (good d m) q = room (leb (used + Model.size d) position_limit) refl
            where
              room : (b : Bool) → leb (used + Model.size d) position_limit ≡ b → Found
              room false b =
                  let f : ◌≡◌ {A = Result (Model.Element × ℕ) ℕ} (Err too_many_positions) (Ok (rc.model, next)) = sym (ap (read_by used s at) q ∙ rw b) ∙ rc.is in
                  absurd (cc)
              room true b =
                  let o = often_after d (drop (at + m) s) in
                  let f : ◌≡◌ {A = Result (Model.Element × ℕ) ℕ} (Ok (rc.model, next)) (Ok (record { kind = d; often = o }, at + m + mark_bytes o)) = sym rc.is ∙ ap (read_by used s at) q ∙ rw b in
                  let p : ◌≡◌ {A = Model.Element × ℕ} (rc.model, next) (record { kind = d; often = o }, at + m + mark_bytes o) = cc in
                  let x : element ≡ record { kind = kind_of fold d; often = often_of o } = rc.element-is ∙ ap (λ (y : Model.Element × ℕ). element_of fold y.0) p in
                  let n : next ≡ at + m + mark_bytes o = ap (λ (y : Model.Element × ℕ). y.1) p in
                  let mark : bytes_of element.often ≡ mark_bytes o = ap (λ (y : Element). bytes_of y.often) x ∙ bytes_same o in
                  let size : size_of element.kind ≡ Model.size d = ap (λ (y : Element). size_of y.kind) x ∙ size_same fold d in
                  let l : 1 ≤ m = omega (arith, moved.ahead) in
                  record {
                    kind = d;
                    often = o;
                    is-element = x;
                    turn = elements-turn d m q b l o refl
                        ∙ sym (ap₂ (λ (j u : ℕ). add_element (record { kind = d; often = o }) (elements_from position_limit fold 0 j u (drop j s))) n (ap (λ (y : ℕ). used + y) size));
                    spells =
                        spelled-turn d m q l o refl
                        ∙ sym (ap₂ (λ (i j : ℕ). record { element = record { kind = d; often = o }; place = at; bytes = take i (drop at s) } ∷ spelled_from fold 0 j (drop j s)) (let z : next - at ≡ m + mark_bytes o = omega arith in z) n);
                  }

-- ---- the elements of an accepted rule

module _ (f : Bool) (s : List ℕ) (at used : ℕ) (left : List Model.Element) (rest : elements_from position_limit f 0 at used (drop at s) ≡ accepted left) where
  pub elements-over : length s ≤ at → left ≡ []
  elements-over h = accepted_inj (sym rest ∙ elements-end f used s at h)

  module _ (h : at < length s) where
    -- an accepted rule has no element that is refused
    pub elements_never : {A : Type 0} (x : Refusal) → ReadsElement f used s at (Err x) → A
    elements_never x r = not_refused (sym (element-refused f used s at h x r) ∙ rest)

    module _ (element : Element) (to : ℕ) (rc : ReadsElement f used s at (Ok (element, to))) where
      -- one is read, and these stand after it
      pub elements-after : let x = element-found f used s at h element to rc in
          (fs : List Model.Element) × (elements_from position_limit f 0 to (used + size_of element.kind) (drop to s) ≡ accepted fs) × (record { kind = x.kind; often = x.often } ∷ fs ≡ left)
      elements-after = go (elements_from position_limit f 0 to (used + size_of element.kind) (drop to s)) refl
        where
          go : let x = element-found f used s at h element to rc in
              (y : Parsed) → elements_from position_limit f 0 to (used + size_of element.kind) (drop to s) ≡ y
              → (fs : List Model.Element) × (elements_from position_limit f 0 to (used + size_of element.kind) (drop to s) ≡ accepted fs) × (record { kind = x.kind; often = x.often } ∷ fs ≡ left)
          go (accepted fs) q = let x = element-found f used s at h element to rc in (fs, q, accepted_inj (sym (x.turn ∙ ap (add_element (record { kind = x.kind; often = x.often })) q) ∙ rest))
          go (refused n p) q = let x = element-found f used s at h element to rc in not_refused (sym (x.turn ∙ ap (add_element (record { kind = x.kind; often = x.often })) q) ∙ rest)
