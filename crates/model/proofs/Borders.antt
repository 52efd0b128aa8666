-- References and growing tails in a list that is cut in two. What is said of a legal reference goes through `legal` alone. Assumes nothing.
use mathlib.Core.Path.{◌≡◌, refl, sym, ap, subst, ◌∙◌}
use mathlib.Core.Bool.{not}
use mathlib.Core.List.{List, [], ◌∷◌, ◌++◌, append_assoc, append-nil, cons≢nil, tail-eq_of_cons-eq, head-eq_of_cons-eq, append-ne-nil_of_right_ne-nil}
use Prim.Native.Nat.{ℕ, ◌≤◌, ◌<◌}
use native.Mathlib.Omega.{arith}
use lib.Dec.{T, eqb}
use lib.ListN.{length, length-append}
use Rattle.model.specs.Occurrence.{all}
use Rattle.model.specs.References.{Found, none, found, form_at, legal, legal_by, reference_at, not_amp, CanGrow, can_grow}
use Rattle.model.proofs.Truth.{and_left, and_right}
use Rattle.model.proofs.Shares.{cut_first, cut_later, all_append, all_left, all_right, all_mono}
use Rattle.model.proofs.Forms.{FormPrefix, form_into, form_out, inner, Shape, form_shape, grow_into, grow_out, not_none, found-bytes}

-- ---- `&` stands first in a form and nowhere else; `;` last and nowhere else

inner-not_amp : (c : ℕ) → T (inner c) → T (not_amp c)
inner-not_amp c t = and_left (not (eqb c 38)) (not (eqb c 59)) t

shape_first : {f : List ℕ} (c : ℕ) (s : List ℕ) → Shape f → f ≡ c ∷ s → c ≡ 38
shape_first c s h e = head-eq_of_cons-eq (sym e ∙ h.shaped)

pub shape_later : {f : List ℕ} (c : ℕ) (s : List ℕ) → Shape f → f ≡ c ∷ s → T (all not_amp s)
shape_later c s h e =
    subst (λ (l : List ℕ). T (all not_amp l)) (tail-eq_of_cons-eq (sym h.shaped ∙ e))
    (all_append not_amp h.middle (59 ∷ []) (all_mono inner not_amp inner-not_amp h.middle h.inside) tt)

semi_last : (m m' : List ℕ) (z : ℕ) (zs : List ℕ) → m ++ (59 ∷ z ∷ zs) ≡ m' ++ (59 ∷ []) → T (all inner m') → ⊥
semi_last [] [] z zs e h = cons≢nil (tail-eq_of_cons-eq e)
semi_last [] (c ∷ m') z zs e h = subst (λ (x : ℕ). T (inner x)) (sym (head-eq_of_cons-eq e)) (and_left (inner c) (all inner m') h)
semi_last (c ∷ m) [] z zs e h = append-ne-nil_of_right_ne-nil m {t = 59 ∷ z ∷ zs} cons≢nil (tail-eq_of_cons-eq e)
semi_last (c ∷ m) (d ∷ m') z zs e h = semi_last m m' z zs (tail-eq_of_cons-eq e) (and_right (inner d) (all inner m') h)

-- No form is another form and more.
form-once : {f g : List ℕ} (z : ℕ) (zs : List ℕ) → Shape f → Shape g → g ≡ f ++ (z ∷ zs) → ⊥
form-once z zs a b e =
    semi_last a.middle b.middle z zs
    (tail-eq_of_cons-eq
    (ap (λ (l : List ℕ). 38 ∷ l) (sym (append_assoc a.middle (59 ∷ []) (z ∷ zs))) ∙ ap (λ (l : List ℕ). l ++ (z ∷ zs)) (sym a.shaped) ∙ sym e ∙ b.shaped))
    b.inside

-- ---- references

-- A legal reference has as many bytes as its form.
pub legal-size : (m j n k : ℕ) → legal m j ≡ found n k → j ≡ k
legal-size m j n k e = found-bytes e

module _ (limit : ℕ) where
  -- A reference is a form that is legal: its number m is made of the bytes there, and n is what it is decoded as.
  pub record Reference (cs : List ℕ) (n k : ℕ) : Type 0 where
    pub number : ℕ
    pub prefix : FormPrefix cs number k
    pub short : k ≤ limit
    pub is-legal : legal number k ≡ found n k

  pub ref_into : (cs : List ℕ) (n k : ℕ) → reference_at limit cs ≡ found n k → Reference cs n k
  ref_into cs n k e = go (form_at limit cs) refl e
    where
      go : (f : Found) → form_at limit cs ≡ f → legal_by f ≡ found n k → Reference cs n k
      go none q e = not_none e
      go (found m j) q e =
          let s = legal-size m j n k e in
          let p = form_into limit cs m k (q ∙ ap (found m) s) in
          record { number = m; prefix = p.0; short = p.1; is-legal = ap (legal m) (sym s) ∙ e }

  pub ref_out : (cs : List ℕ) (n k : ℕ) → Reference cs n k → reference_at limit cs ≡ found n k
  ref_out cs n k r = ap legal_by (form_out limit cs r.number k r.prefix r.short) ∙ r.is-legal

  pub ref_size : (cs : List ℕ) (n k : ℕ) → reference_at limit cs ≡ found n k → (1 ≤ k) × (k ≤ length cs)
  ref_size cs n k e =
      let p = (ref_into cs n k e).prefix in
      let s = form_shape p.form in
      let z = p.size in
      (omega (arith, ap length s.shaped), omega (arith, ap length p.joined, length-append p.spelling p.rest))

  -- A reference that ends in the first part is one of the first part; and one of the first part is one of the whole.
  pub ref_local : (s b : List ℕ) (n k : ℕ) → reference_at limit (s ++ b) ≡ found n k → k ≤ length s → reference_at limit s ≡ found n k
  ref_local s b n k e l =
      let r = ref_into (s ++ b) n k e in
      let p = r.prefix in
      let z = p.size in
      let c = cut_first p.spelling p.rest s b p.joined (omega arith) in
      ref_out s n k
      (record {
        number = r.number;
        prefix = record { spelling = p.spelling; rest = c.0; joined = c.1; form = p.form; size = p.size };
        short = r.short;
        is-legal = r.is-legal;
      })

  pub ref_more : (s b : List ℕ) (n k : ℕ) → reference_at limit s ≡ found n k → reference_at limit (s ++ b) ≡ found n k
  ref_more s b n k e =
      let r = ref_into s n k e in
      let p = r.prefix in
      ref_out (s ++ b) n k
      (record {
        number = r.number;
        prefix = record {
          spelling = p.spelling;
          rest = p.rest ++ b;
          joined = ap (λ (l : List ℕ). l ++ b) p.joined ∙ append_assoc p.spelling p.rest b;
          form = p.form;
          size = p.size;
        };
        short = r.short;
        is-legal = r.is-legal;
      })

  -- A reference across the cut: the first part can grow, and the second does not begin with `&`.
  pub ref_across : (c : ℕ) (s b : List ℕ) (n k : ℕ) → reference_at limit ((c ∷ s) ++ b) ≡ found n k → length (c ∷ s) < k
      → T (can_grow limit (c ∷ s)) × ((d : ℕ) (t : List ℕ) → b ≡ d ∷ t → T (not_amp d))
  ref_across c s b n k e l =
      let r = ref_into ((c ∷ s) ++ b) n k e in
      let p = r.prefix in
      let z = p.size in
      let short = r.short in
      let a = cut_later p.spelling p.rest (c ∷ s) b p.joined (omega arith) in
      let y = a.0 in
      let ys = a.1 in (
        grow_out limit c s y ys p.form a.2 (omega arith),
        λ d t q.
            let plain : T (all not_amp (s ++ (y ∷ ys))) = shape_later c (s ++ (y ∷ ys)) (form_shape p.form) a.2 in
            let first : y ≡ d = head-eq_of_cons-eq (sym a.3 ∙ q) in
            subst (λ (x : ℕ). T (not_amp x)) first (and_left (not_amp y) (all not_amp ys) (all_right not_amp s (y ∷ ys) plain)),
      )

  pub ref_first : (c : ℕ) (cs : List ℕ) (n k : ℕ) → reference_at limit (c ∷ cs) ≡ found n k → c ≡ 38
  ref_first c cs n k e =
      let p = (ref_into (c ∷ cs) n k e).prefix in
      let s = form_shape p.form in
      head-eq_of_cons-eq (p.joined ∙ ap (λ (l : List ℕ). l ++ p.rest) s.shaped)

  -- No reference begins with another byte than `&`, and none stands in a list that can grow.
  none_unless : (cs : List ℕ) → ((n k : ℕ) → reference_at limit cs ≡ found n k → ⊥) → reference_at limit cs ≡ none
  none_unless cs f = go (reference_at limit cs) refl
    where
      go : (r : Found) → reference_at limit cs ≡ r → reference_at limit cs ≡ none
      go none q = q
      go (found n k) q = absurd (f n k q)

  pub ref_plain : (c : ℕ) (cs : List ℕ) → T (not_amp c) → reference_at limit (c ∷ cs) ≡ none
  ref_plain c cs t = none_unless (c ∷ cs) (λ n k e. subst (λ (x : ℕ). T (not_amp x)) (ref_first c cs n k e) t)

  pub ref_growing : (h : List ℕ) → T (can_grow limit h) → reference_at limit h ≡ none
  ref_growing h t = none_unless h λ n k e.
      let p = (ref_into h n k e).prefix in
      let g = grow_into limit h t in
      go p.spelling p.rest (form_shape p.form) g p.joined
    where
      go : (f rest : List ℕ) → Shape f → CanGrow limit h → h ≡ f ++ rest → ⊥
      go f [] a g e = form-once g.more g.rest a (form_shape g.form) (ap (λ (l : List ℕ). l ++ (g.more ∷ g.rest)) (e ∙ append-nil f))
      go f (z ∷ zs) a g e =
          form-once z (zs ++ (g.more ∷ g.rest)) a (form_shape g.form)
          (ap (λ (l : List ℕ). l ++ (g.more ∷ g.rest)) e ∙ append_assoc f (z ∷ zs) (g.more ∷ g.rest))

  -- ---- what can grow

  pub grow_less : (c : ℕ) (s t : List ℕ) → T (can_grow limit ((c ∷ s) ++ t)) → T (can_grow limit (c ∷ s))
  grow_less c s [] h = subst (λ (l : List ℕ). T (can_grow limit l)) (append-nil (c ∷ s)) h
  grow_less c s (y ∷ t) h =
      let g = grow_into limit ((c ∷ s) ++ (y ∷ t)) h in
      grow_out limit c s y (t ++ (g.more ∷ g.rest)) g.form (append_assoc (c ∷ s) (y ∷ t) (g.more ∷ g.rest)) g.short

  pub grow_head : (c : ℕ) (s : List ℕ) → T (can_grow limit (c ∷ s)) → c ≡ 38
  grow_head c s h = let g = grow_into limit (c ∷ s) h in shape_first c (s ++ (g.more ∷ g.rest)) (form_shape g.form) refl

  pub grow_tail : (c : ℕ) (s : List ℕ) → T (can_grow limit (c ∷ s)) → T (all not_amp s)
  grow_tail c s h =
      let g = grow_into limit (c ∷ s) h in
      all_left not_amp s (g.more ∷ g.rest) (shape_later c (s ++ (g.more ∷ g.rest)) (form_shape g.form) refl)
