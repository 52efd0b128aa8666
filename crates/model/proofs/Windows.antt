-- The window search: the shift is the least move of its definition, no move passes over a start in any text with that window, and every start of an
-- occurrence is a window of the sequence. Assumes nothing.
use mathlib.Core.Path.{◌≡◌, refl, sym, ap, subst, ◌∙◌}
use mathlib.Core.Bool.{Bool, true, false, not}
use mathlib.Core.Logic.{◌⊎◌, inl, inr, ◌↔◌}
use mathlib.Core.List.{List, [], ◌∷◌, ◌++◌, Memᴰ}
use Prim.Native.Nat.{ℕ, zero, suc, ◌+◌, ◌-◌, ◌≤◌, ◌<◌}
use native.Mathlib.Nat.{suc-add, zero-add, add-zero}
use native.Mathlib.Decide.{dec_le}
use native.Mathlib.Omega.{arith}
use borrow.Author.Tests.{le-leb, lt-leb}
use lib.Dec.{T, leb}
use lib.ListN.{length, take, drop, length-append, take-append-drop}
use lib.Seq.{take-take, drop-drop, take-nil, length-slice}
use Rattle.model.specs.Occurrence.{Position, Share, one, empty, longer, Occurs, done, next, stretch, StartsAt, shortest, one_if}
use Rattle.model.specs.WindowSearch.{window_at, Begins, Inhabited, is_beginning, least_from, shift, ShiftIs, windows_from, windows, WindowsAre}
use Rattle.model.proofs.Shares.{occurs-to}
use Rattle.model.proofs.Decided.{beginning_decided}

-- ---- an occurrence has at least the shortest length

share-length : {p : Position} {xs : List ℕ} → Share p xs → one_if (not p.optional) ≤ length xs
share-length {p} (one h) = go p.optional
  where
    go : (b : Bool) → one_if (not b) ≤ 1
    go true = omega arith
    go false = omega arith
share-length {p} (empty h) = go p.optional h
  where
    go : (b : Bool) → T b → one_if (not b) ≤ 0
    go true t = omega arith
    go false t = absurd t
share-length {p} (longer {cs = cs} r h k) = go p.optional
  where
    go : (b : Bool) → one_if (not b) ≤ suc (length cs)
    go true = omega arith
    go false = omega arith

pub occurs-length : {ps : List Position} {xs : List ℕ} → Occurs ps xs → shortest ps ≤ length xs
occurs-length done = omega arith
occurs-length (next {p = p} {ps = ps} {xs = xs} {ys = ys} s h) =
    let a = share-length s in
    let b = occurs-length h in
    omega (arith, length-append xs ys)

-- Row 8: the empty string is admitted exactly when every position is optional

pub admits_empty_lem : (ps : List Position) → Occurs ps [] ↔ (shortest ps ≡ 0)
admits_empty_lem ps = (λ o. let l = occurs-length o in omega arith, into ps)
  where
    into : (ps : List Position) → shortest ps ≡ 0 → Occurs ps []
    into [] e = done
    into (p ∷ ps) e = go p.optional refl (into ps)
      where
        go : (b : Bool) → p.optional ≡ b → (shortest ps ≡ 0 → Occurs ps []) → Occurs (p ∷ ps) []
        go true q ih =
            let z : one_if (not p.optional) ≡ 0 = ap (λ (b : Bool). one_if (not b)) q in
            next {xs = []} (empty (subst (λ (x : Bool). T x) (sym q) tt)) (ih (omega arith))
        go false q ih = let z : one_if (not p.optional) ≡ 1 = ap (λ (b : Bool). one_if (not b)) q in absurd (omega arith)

-- ---- lists

pub take-drop : (n k : ℕ) (l : List ℕ) → take n (drop k l) ≡ drop k (take (k + n) l)
take-drop n zero l = ap (λ (i : ℕ). take i l) (sym (zero-add n))
take-drop n (suc k) [] = take-nil n ∙ sym (ap (λ (l : List ℕ). drop (suc k) l) (take-nil (suc k + n)))
take-drop n (suc k) (x ∷ l) = take-drop n k l ∙ sym (ap (λ (i : ℕ). drop (suc k) (take i (x ∷ l))) (suc-add k n))

-- The window's bytes from i on are the stretch from w + i to the window's end.
window_part : (m w i : ℕ) (text : List ℕ) → drop i (take m (drop w text)) ≡ stretch text (w + i) (w + m)
window_part m w i text = ap (λ (l : List ℕ). drop i l) (take-drop m w text) ∙ drop-drop i w (take (w + m) text)

-- A stretch from s to e has the stretch from s to any earlier end as its beginning.
stretch-begins : (text : List ℕ) (s a e : ℕ) → s ≤ a → a ≤ e → stretch text s e ≡ stretch text s a ++ drop (a - s) (stretch text s e)
stretch-begins text s a e h k =
    let r : s + (a - s) ≡ a = omega arith in
    sym (take-append-drop (a - s) (stretch text s e))
    ∙ ap (λ (l : List ℕ). l ++ drop (a - s) (stretch text s e))
    (take-drop (a - s) s (take e text) ∙ ap (λ (i : ℕ). drop s (take i (take e text))) r ∙ ap (λ (l : List ℕ). drop s l) (take-take a e text k))

-- ---- an occurrence that starts in a window begins with the window's bytes from there on

pub start-begins : (ps : List Position) (text : List ℕ) (w i : ℕ) → i ≤ shortest ps → StartsAt ps text (w + i) → Begins ps (drop i (window_at ps text w))
start-begins ps text w i h (e, o) =
    let m = shortest ps in
    let n = length-slice (w + i) e text o.inside in
    let l = occurs-length o.occurs in
    let g = o.ordered in
    let k : w + m ≤ e = omega arith in (
      drop (w + m - (w + i)) (stretch text (w + i) e),
      occurs-to
          (stretch-begins text (w + i) (w + m) e (omega arith) k
          ∙ ap (λ (x : List ℕ). x ++ drop (w + m - (w + i)) (stretch text (w + i) e)) (sym (window_part m w i text)))
          o.occurs,
    )

-- ---- the least number that passes a test

least_true : (f : ℕ → Bool) (i n e : ℕ) → f i ≡ true → least_from f i (suc n) e ≡ i
least_true f i n e q = rw (q, least_from)

least_false : (f : ℕ → Bool) (i n e : ℕ) → f i ≡ false → least_from f i (suc n) e ≡ least_from f (suc i) n e
least_false f i n e q = rw (q, least_from)

-- Before it nothing passes.
pub least-before : (f : ℕ → Bool) (n i e k : ℕ) → i ≤ k → k < i + n → k < least_from f i n e → T (f k) → ⊥
least-before f zero i e k h b l t = omega arith
least-before f (suc n) i e k h b l t = go (f i) refl (least-before f n (suc i) e k)
  where
    go : (b : Bool) → f i ≡ b → (suc i ≤ k → k < suc i + n → k < least_from f (suc i) n e → T (f k) → ⊥) → ⊥
    go true q ih = omega (arith, least_true f i n e q)
    go false q ih =
        let later : suc i ≤ k → ⊥ = λ j. ih j (omega arith) (omega (arith, least_false f i n e q)) t in
        let same : k ≡ i = omega arith in
        subst (λ (x : Bool). T x) (ap f same ∙ q) t

-- It is one of the numbers, and passes; or it is the other number.
pub least-is : (f : ℕ → Bool) (n i e : ℕ)
    → ((i ≤ least_from f i n e) × (least_from f i n e < i + n) × T (f (least_from f i n e))) ⊎ (least_from f i n e ≡ e)
least-is f zero i e = inr refl
least-is f (suc n) i e = go (f i) refl (least-is f n (suc i) e)
  where
    go : (b : Bool) → f i ≡ b → ((suc i ≤ least_from f (suc i) n e) × (least_from f (suc i) n e < suc i + n) × T (f (least_from f (suc i) n e))) ⊎ (least_from f (suc i) n e ≡ e)
        → ((i ≤ least_from f i (suc n) e) × (least_from f i (suc n) e < i + suc n) × T (f (least_from f i (suc n) e))) ⊎ (least_from f i (suc n) e ≡ e)
    go true q ih =
        let r = least_true f i n e q in
        inl (omega arith, omega arith, subst (λ (x : Bool). T x) (sym (ap f r ∙ q)) tt)
    go false q (inl ih) =
        let r = least_false f i n e q in
        let a = ih.0 in
        let b = ih.1 in
        inl (omega arith, omega arith, subst (λ (x : ℕ). T (f x)) (sym r) ih.2)
    go false q (inr ih) = inr (least_false f i n e q ∙ ih)

-- ---- the shift

module _ (ps : List Position) (inhabited : Inhabited ps) (some : 1 ≤ shortest ps) where
  pub shift_is : (window : List ℕ) → ShiftIs ps window (shift ps window)
  shift_is window = go (least-is at (shortest ps - 1) 1 (shortest ps))
    where
      at : ℕ → Bool
      at j = is_beginning ps (drop j window)

      before : (i : ℕ) → 1 ≤ i → i < shift ps window → shift ps window ≤ shortest ps → Begins ps (drop i window) → ⊥
      before i a b m s = least-before at (shortest ps - 1) 1 (shortest ps) i a (omega arith) b ((beginning_decided ps (drop i window) inhabited).1 s)

      go : ((1 ≤ shift ps window) × (shift ps window < 1 + (shortest ps - 1)) × T (at (shift ps window))) ⊎ (shift ps window ≡ shortest ps) → ShiftIs ps window (shift ps window)
      go (inl r) =
          let a = r.0 in
          let b = r.1 in
          record { least = a; most = omega arith; begins = λ l. (beginning_decided ps (drop (shift ps window) window) inhabited).0 r.2; none_before = λ i x y s. before i x y (omega arith) s }
      go (inr r) = record { least = omega arith; most = omega arith; begins = λ l. absurd (omega arith); none_before = λ i x y s. before i x y (omega arith) s }

  -- "The move from w, the last one too, passes over the starts strictly between w and w plus its shift, and none of these begins an occurrence in any
  -- text with this window at w."
  pub no_start-passed : (window text : List ℕ) (w : ℕ) → window_at ps text w ≡ window → (i : ℕ) → 1 ≤ i → i < shift ps window → StartsAt ps text (w + i) → ⊥
  no_start-passed window text w e i a b s =
      let j = shift_is window in
      let m = j.most in
      j.none_before i a b (subst (λ (l : List ℕ). Begins ps (drop i l)) e (start-begins ps text w i (omega arith) s))

  -- ---- the sequence of windows has every start

  start_fits : (text : List ℕ) (s : ℕ) → StartsAt ps text s → s + shortest ps ≤ length text
  start_fits text s (e, o) =
      let n = length-slice s e text o.inside in
      let l = occurs-length o.occurs in
      let g = o.ordered in
      let i = o.inside in
      omega arith

  windows_true : (text : List ℕ) (n w : ℕ) → leb (w + shortest ps) (length text) ≡ true
      → windows_from (suc n) ps text w ≡ w ∷ windows_from n ps text (w + shift ps (window_at ps text w))
  windows_true text n w q = rw (q, windows_from)

  windows_false : (text : List ℕ) (n w : ℕ) → leb (w + shortest ps) (length text) ≡ false → windows_from (suc n) ps text w ≡ []
  windows_false text n w q = rw (q, windows_from)

  windows-past : (text : List ℕ) (n w : ℕ) → length text < w → windows_from n ps text w ≡ []
  windows-past text zero w l = refl
  windows-past text (suc n) w l =
      windows_false text n w (lt-leb (w + shortest ps) (length text) (omega arith))

  -- The bound does not matter, if it is large enough.
  pub windows-bound : (text : List ℕ) → (n n' w : ℕ) → length text < w + n → length text < w + n' → windows_from n ps text w ≡ windows_from n' ps text w
  windows-bound text zero n' w a b = sym (windows-past text n' w (omega arith))
  windows-bound text (suc n) zero w a b = windows-past text (suc n) w (omega arith)
  windows-bound text (suc n) (suc n') w a b = go (leb (w + shortest ps) (length text)) refl (windows-bound text n n' (w + shift ps (window_at ps text w)))
    where
      j : ℕ
      j = shift ps (window_at ps text w)

      go : (x : Bool) → leb (w + shortest ps) (length text) ≡ x
          → (length text < w + j + n → length text < w + j + n' → windows_from n ps text (w + j) ≡ windows_from n' ps text (w + j))
          → windows_from (suc n) ps text w ≡ windows_from (suc n') ps text w
      go true q ih =
          let r = (shift_is (window_at ps text w)).least in
          windows_true text n w q ∙ ap (λ (l : List ℕ). w ∷ l) (ih (omega arith) (omega arith)) ∙ sym (windows_true text n' w q)
      go false q ih = windows_false text n w q ∙ sym (windows_false text n' w q)

  -- So the sequence from any window goes on as document 01 says.
  pub windows-next : (text : List ℕ) (w : ℕ) → w + shortest ps ≤ length text
      → windows_from (suc (length text)) ps text w ≡ w ∷ windows_from (suc (length text)) ps text (w + shift ps (window_at ps text w))
  windows-next text w l =
      let r = (shift_is (window_at ps text w)).least in
      windows_true text (length text) w (le-leb (w + shortest ps) (length text) l)
      ∙ ap (λ (x : List ℕ). w ∷ x)
      (windows-bound text (length text) (suc (length text)) (w + shift ps (window_at ps text w)) (omega arith) (omega arith))

  pub windows_stop : (text : List ℕ) (w : ℕ) → length text < w + shortest ps → windows_from (suc (length text)) ps text w ≡ []
  windows_stop text w l =
      windows_false text (length text) w (lt-leb (w + shortest ps) (length text) (omega arith))

  -- The windows are those of the sentence.
  windows_are_from : (text : List ℕ) (n w : ℕ) → length text < w + n → WindowsAre ps text w (windows_from n ps text w)
  windows_are_from text zero w l = omega arith
  windows_are_from text (suc n) w l = go (dec_le (w + shortest ps) (length text)) (windows_are_from text n (w + shift ps (window_at ps text w)))
    where
      j : ℕ
      j = shift ps (window_at ps text w)

      go : Dec (w + shortest ps ≤ length text) → (length text < w + j + n → WindowsAre ps text (w + j) (windows_from n ps text (w + j))) → WindowsAre ps text w (windows_from (suc n) ps text w)
      go (yes h) ih =
          let r = (shift_is (window_at ps text w)).least in
          let i : length text < w + j + n = omega arith in
          rw (windows_true text n w (le-leb (w + shortest ps) (length text) h)) (refl, h, ih i)
      go (no h) ih =
          let l : length text < w + shortest ps = omega arith in
          rw (windows_false text n w (lt-leb (w + shortest ps) (length text) l)) l

  pub windows_are : (text : List ℕ) → WindowsAre ps text 0 (windows ps text)
  windows_are text = windows_are_from text (suc (length text)) 0 (omega arith)

  windows_have : (text : List ℕ) → (n w s : ℕ) → length text < w + n → w ≤ s → StartsAt ps text s → Memᴰ s (windows_from n ps text w)
  windows_have text zero w s b a o = let f = start_fits text s o in absurd (omega arith)
  windows_have text (suc n) w s b a o =
      let f = start_fits text s o in
      let q : leb (w + shortest ps) (length text) ≡ true = le-leb (w + shortest ps) (length text) (omega arith) in
      let r = (shift_is (window_at ps text w)).least in
      let ih = windows_have text n (w + shift ps (window_at ps text w)) s in
      rw (windows_true text n w q)
      (elim (dec_le s w) [
        | yes le ↦ (let same : s ≡ w = omega arith in Memᴰ.head same)
        | no gt ↦ Memᴰ.tail (ih (omega arith) (elim (dec_le (w + shift ps (window_at ps text w)) s) [
          | yes k ↦ k
          | no k ↦ absurd (no_start-passed (window_at ps text w) text w refl (s - w) (omega arith) (omega arith) (subst (λ (x : ℕ). StartsAt ps text x) (between w s a) o))
        ]) o)
      ])
    where
      between : (w s : ℕ) → w ≤ s → s ≡ w + (s - w)
      between w s a = omega arith

  -- Every start of an occurrence is one of the windows tried.
  pub starts_are_windows : (text : List ℕ) → (s : ℕ) → StartsAt ps text s → Memᴰ s (windows ps text)
  starts_are_windows text s o = windows_have text (suc (length text)) 0 s (omega arith) (omega arith) o

  -- And it is one whose bytes begin a string that the rule admits, so that it is verified.
  pub starts_are_verified : (text : List ℕ) (s : ℕ) → StartsAt ps text s → T (is_beginning ps (window_at ps text s))
  starts_are_verified text s o =
      (beginning_decided ps (window_at ps text s) inhabited).1 (start-begins ps text s 0 (omega arith) (subst (λ (x : ℕ). StartsAt ps text x) (sym (add-zero s)) o))
