-- Forms: the tests `form_at` and `can_grow` against the spellings of `Form`. The length limit is a parameter throughout. Assumes nothing.
use mathlib.Core.Path.{◌≡◌, refl, sym, ap, subst, ◌∙◌}
use mathlib.Core.Bool.{Bool, true, false, not, cond, ◌&&◌, ◌||◌}
use mathlib.Core.Logic.{◌↔◌}
use mathlib.Core.List.{List, [], ◌∷◌, ◌++◌, append_assoc, append-nil, nil≢cons, cons≢nil, tail-eq_of_cons-eq, head-eq_of_cons-eq}
use Prim.Native.Nat.{ℕ, suc, ◌+◌, ◌*◌, ◌≤◌}
use native.Mathlib.Omega.{arith}
use lib.Dec.{T, leb, eqb, leb→le, le→leb, eqb→eq, eqb_refl, not_T}
use lib.ListN.{length, drop, length-append}
use lib.Seq.{drop-append_seam}
use Rattle.model.specs.Ascii.{ascii}
use Rattle.model.specs.Occurrence.{all}
use Rattle.model.specs.References.{is_hexadecimal, digit_value, digits_from, Form, amp, lt, gt, apos, quot, decimal, hexadecimal, Found, none, found, number_from, begins_with, spelt, within, form_at, CanGrow, shorter_of, grows_name, lacking, grows_number, can_grow}
use Rattle.model.specs.RuleText.{is_decimal}
use Rattle.model.proofs.Truth.{and_intro, and_left, and_right, or_left, or_right, T-to, T_true, branch, cond_true, cond_false}
use Rattle.model.proofs.Shares.{all_mono}

-- ---- a list that begins with given bytes

pub begins_with_lem : (bs cs : List ℕ) → T (begins_with bs cs) → cs ≡ bs ++ drop (length bs) cs
begins_with_lem [] cs t = refl
begins_with_lem (b ∷ bs) [] t = absurd t
begins_with_lem (b ∷ bs) (c ∷ cs) t =
    let e = eqb→eq b c (and_left (eqb b c) (begins_with bs cs) t) in
    let r = begins_with_lem bs cs (and_right (eqb b c) (begins_with bs cs) t) in
    cc

-- ---- digits up to a `;`

record Digits (ok : ℕ → Bool) (base value bytes digits : ℕ) (cs : List ℕ) (n k : ℕ) : Type 0 where
  ds : List ℕ
  rest : List ℕ
  joined : cs ≡ ds ++ (59 ∷ rest)
  are_digits : T (all ok ds)
  number : digits_from base value ds ≡ n
  size : k ≡ suc (bytes + length ds)
  some : 1 ≤ digits + length ds

pub number_true : (ok : ℕ → Bool) (base value bytes digits c : ℕ) (cs : List ℕ) → ok c ≡ true
    → number_from ok base value bytes digits (c ∷ cs) ≡ number_from ok base (value * base + digit_value c) (suc bytes) (suc digits) cs
number_true ok base value bytes digits c cs q = rw (q, number_from)

pub number_false : (ok : ℕ → Bool) (base value bytes digits c : ℕ) (cs : List ℕ) → ok c ≡ false
    → number_from ok base value bytes digits (c ∷ cs) ≡ cond (eqb c 59 && leb 1 digits) (found value (suc bytes)) none
number_false ok base value bytes digits c cs q = rw (q, number_from)

pub not_none : {A : Type 0} {n k : ℕ} → none ≡ found n k → A
not_none e = let z : ◌≡◌ {A = ℕ} 0 1 = cc in absurd (omega arith)

pub found_number : {n m k j : ℕ} → found n k ≡ found m j → n ≡ m
found_number e = cc

pub found-bytes : {n m k j : ℕ} → found n k ≡ found m j → k ≡ j
found-bytes e = cc

number_into : (ok : ℕ → Bool) (base : ℕ) (cs : List ℕ) (value bytes digits n k : ℕ)
    → number_from ok base value bytes digits cs ≡ found n k → Digits ok base value bytes digits cs n k
number_into ok base [] value bytes digits n k e = not_none e
number_into ok base (c ∷ cs) value bytes digits n k e = go (ok c) refl (number_into ok base cs)
  where
    go : (b : Bool) → ok c ≡ b
        → ((value bytes digits n k : ℕ) → number_from ok base value bytes digits cs ≡ found n k → Digits ok base value bytes digits cs n k)
        → Digits ok base value bytes digits (c ∷ cs) n k
    go true q ih =
        let r = ih (value * base + digit_value c) (suc bytes) (suc digits) n k (sym (number_true ok base value bytes digits c cs q) ∙ e) in
        let z = r.size in
        record {
          ds = c ∷ r.ds;
          rest = r.rest;
          joined = ap (λ (l : List ℕ). c ∷ l) r.joined;
          are_digits = and_intro (ok c) (all ok r.ds) (T-to (sym q) tt) r.are_digits;
          number = r.number;
          size = omega arith;
          some = omega arith;
        }
    go false q ih =
        branch (eqb c 59 && leb 1 digits) (sym (number_false ok base value bytes digits c cs q) ∙ e)
        (λ t f.
        let z = found-bytes f in
        let l = leb→le 1 digits (and_right (eqb c 59) (leb 1 digits) t) in
        record {
          ds = [];
          rest = cs;
          joined = ap (λ (b : ℕ). b ∷ cs) (eqb→eq c 59 (and_left (eqb c 59) (leb 1 digits) t));
          are_digits = tt;
          number = found_number f;
          size = omega arith;
          some = omega arith;
        })
        (λ t f. not_none f)

number_out : (ok : ℕ → Bool) (base : ℕ) → ok 59 ≡ false → (ds rest : List ℕ) (value bytes digits : ℕ) → T (all ok ds) → 1 ≤ digits + length ds
    → number_from ok base value bytes digits (ds ++ (59 ∷ rest)) ≡ found (digits_from base value ds) (suc (bytes + length ds))
number_out ok base semi [] rest value bytes digits a s =
    let l : 1 ≤ digits = omega arith in
    let z : bytes ≡ bytes + 0 = omega arith in
    number_false ok base value bytes digits 59 rest semi
    ∙ cond_true (eqb 59 59 && leb 1 digits) (found value (suc bytes)) none (le→leb 1 digits l)
    ∙ ap (λ (i : ℕ). found value (suc i)) z
number_out ok base semi (d ∷ ds) rest value bytes digits a s =
    let z : suc bytes + length ds ≡ bytes + suc (length ds) = omega arith in
    number_true ok base value bytes digits d (ds ++ (59 ∷ rest)) (T_true (ok d) (and_left (ok d) (all ok ds) a))
    ∙ number_out ok base semi ds rest (value * base + digit_value d) (suc bytes) (suc digits) (and_right (ok d) (all ok ds) a) (omega arith)
    ∙ ap (λ (i : ℕ). found (digits_from base (value * base + digit_value d) ds) (suc i)) z

-- ---- `spelt` and `form_at`: which form begins a list

pub record FormPrefix (cs : List ℕ) (n k : ℕ) : Type 0 where
  pub spelling : List ℕ
  pub rest : List ℕ
  pub joined : cs ≡ spelling ++ rest
  pub form : Form spelling n
  pub size : length spelling ≡ k

prefix_to : {cs : List ℕ} {n m k j : ℕ} → FormPrefix cs n k → found n k ≡ found m j → FormPrefix cs m j
prefix_to {cs} f e = mathlib.Core.Path.subst₂ (λ (a b : ℕ). FormPrefix cs a b) (found_number e) (found-bytes e) f

pub named : (name cs : List ℕ) (n : ℕ) → Form name n → T (begins_with name cs) → FormPrefix cs n (length name)
named name cs n f t = record { spelling = name; rest = drop (length name) cs; joined = begins_with_lem name cs t; form = f; size = refl }

by_number : (mark : List ℕ) (ok : ℕ → Bool) (base : ℕ) (cs : List ℕ) (n k : ℕ)
    → ((d : ℕ) (ds : List ℕ) → T (all ok (d ∷ ds)) → Form (mark ++ (d ∷ ds) ++ (59 ∷ [])) (digits_from base 0 (d ∷ ds)))
    → T (begins_with mark cs) → Digits ok base 0 (length mark) 0 (drop (length mark) cs) n k → FormPrefix cs n k
by_number mark ok base cs n k make t r = go r.ds r.joined r.are_digits r.number r.size r.some
  where
    go : (ds : List ℕ) → drop (length mark) cs ≡ ds ++ (59 ∷ r.rest) → T (all ok ds) → digits_from base 0 ds ≡ n → k ≡ suc (length mark + length ds) → 1 ≤ 0 + length ds → FormPrefix cs n k
    go [] j a v z s = absurd (omega arith)
    go (d ∷ ds) j a v z s = record {
      spelling = mark ++ (d ∷ ds) ++ (59 ∷ []);
      rest = r.rest;
      joined =
          begins_with_lem mark cs t
          ∙ ap (λ (l : List ℕ). mark ++ l) j
          ∙ sym (append_assoc (mark ++ (d ∷ ds)) (59 ∷ []) r.rest ∙ append_assoc mark (d ∷ ds) (59 ∷ r.rest));
      form = subst (λ (i : ℕ). Form (mark ++ (d ∷ ds) ++ (59 ∷ [])) i) v (make d ds a);
      size = omega (arith, length-append (mark ++ (d ∷ ds)) (59 ∷ []), length-append mark (d ∷ ds));
    }

spelt_into : (cs : List ℕ) (n k : ℕ) → spelt cs ≡ found n k → FormPrefix cs n k
spelt_into cs n k e =
    branch (begins_with (ascii "&amp;") cs) e (λ t q. prefix_to (named (ascii "&amp;") cs 38 amp t) q) λ t e.
    branch (begins_with (ascii "&lt;") cs) e (λ t q. prefix_to (named (ascii "&lt;") cs 60 lt t) q) λ t e.
    branch (begins_with (ascii "&gt;") cs) e (λ t q. prefix_to (named (ascii "&gt;") cs 62 gt t) q) λ t e.
    branch (begins_with (ascii "&apos;") cs) e (λ t q. prefix_to (named (ascii "&apos;") cs 39 apos t) q) λ t e.
    branch (begins_with (ascii "&quot;") cs) e (λ t q. prefix_to (named (ascii "&quot;") cs 34 quot t) q) λ t e.
    branch (begins_with (ascii "&#x") cs) e
    (λ t q. by_number (ascii "&#x") is_hexadecimal 16 cs n k hexadecimal t (number_into is_hexadecimal 16 (drop 3 cs) 0 3 0 n k q)) λ t e.
    branch (begins_with (ascii "&#") cs) e
    (λ t q. by_number (ascii "&#") is_decimal 10 cs n k decimal t (number_into is_decimal 10 (drop 2 cs) 0 2 0 n k q)) λ t q.
    not_none q

not_x : (d : ℕ) → T (is_decimal d) → T (not (eqb 120 d && true))
not_x d t = not_T (eqb 120 d && true) (λ h. absurd (subst (λ (c : ℕ). T (is_decimal c)) (sym (eqb→eq 120 d (and_left (eqb 120 d) true h))) t))

spelt_out : (f rest : List ℕ) (n : ℕ) → Form f n → spelt (f ++ rest) ≡ found n (length f)
spelt_out f rest n amp = refl
spelt_out f rest n lt = refl
spelt_out f rest n gt = refl
spelt_out f rest n apos = refl
spelt_out f rest n quot = refl
spelt_out f rest n (decimal d ds a) =
    let cs = d ∷ ds ++ (59 ∷ []) ++ rest in
    let l : suc (2 + length (d ∷ ds)) ≡ length (ascii "&#" ++ (d ∷ ds) ++ (59 ∷ [])) = omega (arith, length-append (d ∷ ds) (59 ∷ [])) in
    cond_false (eqb 120 d && true) (number_from is_hexadecimal 16 0 3 0 (ds ++ (59 ∷ []) ++ rest)) (number_from is_decimal 10 0 2 0 cs) (not_x d (and_left (is_decimal d) (all is_decimal ds) a))
    ∙ ap (λ (l : List ℕ). number_from is_decimal 10 0 2 0 l) (append_assoc (d ∷ ds) (59 ∷ []) rest)
    ∙ number_out is_decimal 10 refl (d ∷ ds) rest 0 2 0 a (omega arith)
    ∙ ap (λ (i : ℕ). found (digits_from 10 0 (d ∷ ds)) i) l
spelt_out f rest n (hexadecimal d ds a) =
    let l : suc (3 + length (d ∷ ds)) ≡ length (ascii "&#x" ++ (d ∷ ds) ++ (59 ∷ [])) = omega (arith, length-append (d ∷ ds) (59 ∷ [])) in
    ap (λ (l : List ℕ). number_from is_hexadecimal 16 0 3 0 l) (append_assoc (d ∷ ds) (59 ∷ []) rest)
    ∙ number_out is_hexadecimal 16 refl (d ∷ ds) rest 0 3 0 a (omega arith)
    ∙ ap (λ (i : ℕ). found (digits_from 16 0 (d ∷ ds)) i) l

-- The theorem for `form_at`, both ways.
pub form_into : (limit : ℕ) (cs : List ℕ) (n k : ℕ) → form_at limit cs ≡ found n k → FormPrefix cs n k × (k ≤ limit)
form_into limit cs n k e = go (spelt cs) refl e
  where
    go : (f : Found) → spelt cs ≡ f → within limit f ≡ found n k → FormPrefix cs n k × (k ≤ limit)
    go none q e = not_none e
    go (found m j) q e =
        branch (leb j limit) e
        (λ t g. (prefix_to (spelt_into cs m j q) g, let z = found-bytes g in let l = leb→le j limit t in omega arith))
        (λ t g. not_none g)

pub form_out : (limit : ℕ) (cs : List ℕ) (n k : ℕ) → FormPrefix cs n k → k ≤ limit → form_at limit cs ≡ found n k
form_out limit cs n k f h =
    let e : spelt cs ≡ found n k =
    ap spelt f.joined ∙ spelt_out f.spelling f.rest n f.form ∙ ap (λ (i : ℕ). found n i) f.size in
    ap (within limit) e ∙ cond_true (leb k limit) (found n k) none (le→leb k limit h)

-- ---- the shape of a form: `&`, bytes that are neither `&` nor `;`, and `;`

abbrev pub inner : ℕ → Bool
inner c = not (eqb c 38) && not (eqb c 59)

pub record Shape (f : List ℕ) : Type 0 where
  pub middle : List ℕ
  pub shaped : f ≡ 38 ∷ (middle ++ (59 ∷ []))
  pub inside : T (all inner middle)

-- A byte in a set that lacks b is not b.
lacks : (ok : ℕ → Bool) (b c : ℕ) → (T (ok b) → ⊥) → T (ok c) → T (not (eqb c b))
lacks ok b c f t = not_T (eqb c b) (λ h. f (subst (λ (x : ℕ). T (ok x)) (eqb→eq c b h) t))

digit_inner : (ok : ℕ → Bool) → (T (ok 38) → ⊥) → (T (ok 59) → ⊥) → (c : ℕ) → T (ok c) → T (inner c)
digit_inner ok f g c t = and_intro (not (eqb c 38)) (not (eqb c 59)) (lacks ok 38 c f t) (lacks ok 59 c g t)

pub form_shape : {f : List ℕ} {n : ℕ} → Form f n → Shape f
form_shape amp = record { middle = ascii "amp"; shaped = refl; inside = tt }
form_shape lt = record { middle = ascii "lt"; shaped = refl; inside = tt }
form_shape gt = record { middle = ascii "gt"; shaped = refl; inside = tt }
form_shape apos = record { middle = ascii "apos"; shaped = refl; inside = tt }
form_shape quot = record { middle = ascii "quot"; shaped = refl; inside = tt }
form_shape (decimal d ds a) = record { middle = 35 ∷ d ∷ ds; shaped = refl; inside = all_mono is_decimal inner (digit_inner is_decimal (λ x. x) (λ x. x)) (d ∷ ds) a }
form_shape (hexadecimal d ds a) = record { middle = 35 ∷ 120 ∷ d ∷ ds; shaped = refl; inside = all_mono is_hexadecimal inner (digit_inner is_hexadecimal (λ x. x) (λ x. x)) (d ∷ ds) a }

-- ---- `can_grow`

shorter_into : (cs name : List ℕ) → T (shorter_of cs name) → (y : ℕ) × (ys : List ℕ) × (name ≡ cs ++ (y ∷ ys))
shorter_into [] [] t = absurd t
shorter_into (c ∷ cs) [] t = absurd t
shorter_into [] (b ∷ bs) t = (b, bs, refl)
shorter_into (c ∷ cs) (b ∷ bs) t =
    let r = shorter_into cs bs (and_right (eqb c b) (shorter_of cs bs) t) in
    let e = eqb→eq c b (and_left (eqb c b) (shorter_of cs bs) t) in
    let q = r.2 in
    (r.0, r.1, cc)

shorter_out : (cs name : List ℕ) (y : ℕ) (ys : List ℕ) → name ≡ cs ++ (y ∷ ys) → T (shorter_of cs name)
shorter_out [] [] y ys e = absurd (nil≢cons e)
shorter_out (c ∷ cs) [] y ys e = absurd (nil≢cons e)
shorter_out [] (b ∷ bs) y ys e = tt
shorter_out (c ∷ cs) (b ∷ bs) y ys e =
    and_intro (eqb c b) (shorter_of cs bs) (subst (λ (x : ℕ). T (eqb c x)) (sym (head-eq_of_cons-eq e)) (eqb_refl c)) (shorter_out cs bs y ys (tail-eq_of_cons-eq e))

either : (a b : Bool) → T (a || b) → {P : Type 0} → (T a → P) → (T b → P) → P
either true b t f g = f tt
either false b t f g = g t

name_grows : (limit : ℕ) (name cs : List ℕ) (n : ℕ) → Form name n → T (grows_name limit name cs) → CanGrow limit cs
name_grows limit name cs n f t =
    let r = shorter_into cs name (and_left (shorter_of cs name) (leb (length name) limit) t) in
    let e = r.2 in
    let l = leb→le (length name) limit (and_right (shorter_of cs name) (leb (length name) limit) t) in
    record {
      more = r.0;
      rest = r.1;
      number = n;
      form = subst (λ (x : List ℕ). Form x n) e f;
      short = subst (λ (x : List ℕ). length x ≤ limit) e l;
    }

number_grows : (limit : ℕ) (mark : List ℕ) (ok : ℕ → Bool) (base : ℕ) (cs : List ℕ)
    → ((d : ℕ) (ds : List ℕ) → T (all ok (d ∷ ds)) → Form (mark ++ (d ∷ ds) ++ (59 ∷ [])) (digits_from base 0 (d ∷ ds)))
    → T (ok 48) → T (grows_number limit mark ok cs) → CanGrow limit cs
number_grows limit mark ok base cs make zero_ok t =
    let a = begins_with mark cs in
    let b = all ok (drop (length mark) cs) in
    let c = leb (length cs + lacking (drop (length mark) cs)) limit in
    let u = and_left (a && b) c t in
    go (drop (length mark) cs) (begins_with_lem mark cs (and_left a b u)) (and_right a b u)
    (leb→le (length cs + lacking (drop (length mark) cs)) limit (and_right (a && b) c t))
  where
    go : (ds : List ℕ) → cs ≡ mark ++ ds → T (all ok ds) → length cs + lacking ds ≤ limit → CanGrow limit cs
    go [] e h l = record {
      more = 48;
      rest = 59 ∷ [];
      number = digits_from base 0 (48 ∷ []);
      form =
          subst (λ (x : List ℕ). Form x (digits_from base 0 (48 ∷ [])))
          (append_assoc mark (48 ∷ []) (59 ∷ []) ∙ ap (λ (x : List ℕ). x ++ (48 ∷ 59 ∷ [])) (sym (e ∙ append-nil mark)))
          (make 48 [] (and_intro (ok 48) true zero_ok tt));
      short = omega (arith, length-append cs (48 ∷ 59 ∷ []));
    }
    go (d ∷ ds) e h l = record {
      more = 59;
      rest = [];
      number = digits_from base 0 (d ∷ ds);
      form = subst (λ (x : List ℕ). Form (x ++ (59 ∷ [])) (digits_from base 0 (d ∷ ds))) (sym e) (make d ds h);
      short = omega (arith, length-append cs (59 ∷ []));
    }

pub grow_into : (limit : ℕ) (cs : List ℕ) → T (can_grow limit cs) → CanGrow limit cs
grow_into limit [] t = absurd t
grow_into limit (c ∷ cs) t =
    let xs = c ∷ cs in
    let G = grows_number limit (ascii "&#x") is_hexadecimal xs in
    let F = grows_number limit (ascii "&#") is_decimal xs in
    let E = grows_name limit (ascii "&quot;") xs in
    let D = grows_name limit (ascii "&apos;") xs in
    let C = grows_name limit (ascii "&gt;") xs in
    let B = grows_name limit (ascii "&lt;") xs in
    let A = grows_name limit (ascii "&amp;") xs in
    either A (B || (C || (D || (E || (F || G))))) t (name_grows limit (ascii "&amp;") xs 38 amp) λ t.
    either B (C || (D || (E || (F || G)))) t (name_grows limit (ascii "&lt;") xs 60 lt) λ t.
    either C (D || (E || (F || G))) t (name_grows limit (ascii "&gt;") xs 62 gt) λ t.
    either D (E || (F || G)) t (name_grows limit (ascii "&apos;") xs 39 apos) λ t.
    either E (F || G) t (name_grows limit (ascii "&quot;") xs 34 quot) λ t.
    either F G t (number_grows limit (ascii "&#") is_decimal 10 xs decimal tt) (number_grows limit (ascii "&#x") is_hexadecimal 16 xs hexadecimal tt)

-- The digits of a form up to a place before its `;`.
digits_before : (ok : ℕ → Bool) (ds cs : List ℕ) (y : ℕ) (ys : List ℕ) → ds ++ (59 ∷ []) ≡ cs ++ (y ∷ ys) → T (all ok ds) → T (all ok cs)
digits_before ok ds [] y ys e h = tt
digits_before ok [] (c ∷ cs) y ys e h = absurd (mathlib.Core.List.append-ne-nil_of_right_ne-nil cs {t = y ∷ ys} cons≢nil (sym (tail-eq_of_cons-eq e)))
digits_before ok (d ∷ ds) (c ∷ cs) y ys e h =
    and_intro (ok c) (all ok cs) (subst (λ (x : ℕ). T (ok x)) (head-eq_of_cons-eq e) (and_left (ok d) (all ok ds) h))
    (digits_before ok ds cs y ys (tail-eq_of_cons-eq e) (and_right (ok d) (all ok ds) h))

-- Each of the seven tests makes `can_grow` pass.
module _ (limit : ℕ) (c : ℕ) (cs : List ℕ) where
  pub grow_amp : T (grows_name limit (ascii "&amp;") (c ∷ cs)) → T (can_grow limit (c ∷ cs))
  grow_amp t = or_left (grows_name limit (ascii "&amp;") (c ∷ cs)) _ t

  pub grow_lt : T (grows_name limit (ascii "&lt;") (c ∷ cs)) → T (can_grow limit (c ∷ cs))
  grow_lt t = or_right (grows_name limit (ascii "&amp;") (c ∷ cs)) _ (or_left (grows_name limit (ascii "&lt;") (c ∷ cs)) _ t)

  pub grow_gt : T (grows_name limit (ascii "&gt;") (c ∷ cs)) → T (can_grow limit (c ∷ cs))
  grow_gt t = or_right (grows_name limit (ascii "&amp;") (c ∷ cs)) _ (or_right (grows_name limit (ascii "&lt;") (c ∷ cs)) _ (or_left (grows_name limit (ascii "&gt;") (c ∷ cs)) _ t))

  pub grow_apos : T (grows_name limit (ascii "&apos;") (c ∷ cs)) → T (can_grow limit (c ∷ cs))
  grow_apos t = or_right (grows_name limit (ascii "&amp;") (c ∷ cs)) _ (or_right (grows_name limit (ascii "&lt;") (c ∷ cs)) _ (or_right (grows_name limit (ascii "&gt;") (c ∷ cs)) _ (or_left (grows_name limit (ascii "&apos;") (c ∷ cs)) _ t)))

  pub grow_quot : T (grows_name limit (ascii "&quot;") (c ∷ cs)) → T (can_grow limit (c ∷ cs))
  grow_quot t = or_right (grows_name limit (ascii "&amp;") (c ∷ cs)) _ (or_right (grows_name limit (ascii "&lt;") (c ∷ cs)) _ (or_right (grows_name limit (ascii "&gt;") (c ∷ cs)) _ (or_right (grows_name limit (ascii "&apos;") (c ∷ cs)) _ (or_left (grows_name limit (ascii "&quot;") (c ∷ cs)) _ t))))

  pub grow_decimal : T (grows_number limit (ascii "&#") is_decimal (c ∷ cs)) → T (can_grow limit (c ∷ cs))
  grow_decimal t = or_right (grows_name limit (ascii "&amp;") (c ∷ cs)) _ (or_right (grows_name limit (ascii "&lt;") (c ∷ cs)) _ (or_right (grows_name limit (ascii "&gt;") (c ∷ cs)) _ (or_right (grows_name limit (ascii "&apos;") (c ∷ cs)) _ (or_right (grows_name limit (ascii "&quot;") (c ∷ cs)) _ (or_left (grows_number limit (ascii "&#") is_decimal (c ∷ cs)) _ t)))))

  pub grow_hexadecimal : T (grows_number limit (ascii "&#x") is_hexadecimal (c ∷ cs)) → T (can_grow limit (c ∷ cs))
  grow_hexadecimal t = or_right (grows_name limit (ascii "&amp;") (c ∷ cs)) _ (or_right (grows_name limit (ascii "&lt;") (c ∷ cs)) _ (or_right (grows_name limit (ascii "&gt;") (c ∷ cs)) _ (or_right (grows_name limit (ascii "&apos;") (c ∷ cs)) _ (or_right (grows_name limit (ascii "&quot;") (c ∷ cs)) _ (or_right (grows_number limit (ascii "&#") is_decimal (c ∷ cs)) _ t)))))

  name_out : (name : List ℕ) (y : ℕ) (ys : List ℕ) → name ≡ (c ∷ cs) ++ (y ∷ ys) → length name ≤ limit → T (grows_name limit name (c ∷ cs))
  name_out name y ys e l = and_intro (shorter_of (c ∷ cs) name) (leb (length name) limit) (shorter_out (c ∷ cs) name y ys e) (le→leb (length name) limit l)

-- `&` alone, where any form fits.
grow_first : (limit c : ℕ) → c ≡ 38 → 4 ≤ limit → T (can_grow limit (c ∷ []))
grow_first limit c e l =
    grow_lt limit c []
    (and_intro (eqb c 38 && true) (leb 4 limit) (and_intro (eqb c 38) true (subst (λ (x : ℕ). T (eqb c x)) e (eqb_refl c)) tt) (le→leb 4 limit l))

number_out_grows : (limit : ℕ) (mark : List ℕ) (ok : ℕ → Bool) (cs : List ℕ)
    → T (all ok cs) → length mark + length cs + lacking cs ≤ limit → T (grows_number limit mark ok (mark ++ cs))
number_out_grows limit mark ok cs a l =
    let e : drop (length mark) (mark ++ cs) ≡ cs = drop-append_seam mark cs in
    and_intro (begins_with mark (mark ++ cs) && all ok (drop (length mark) (mark ++ cs))) (leb (length (mark ++ cs) + lacking (drop (length mark) (mark ++ cs))) limit)
    (and_intro (begins_with mark (mark ++ cs)) (all ok (drop (length mark) (mark ++ cs))) (begins_self mark cs) (rw e a))
    (le→leb (length (mark ++ cs) + lacking (drop (length mark) (mark ++ cs))) limit (rw (e, length-append mark cs) l))
  where
    begins_self : (bs cs : List ℕ) → T (begins_with bs (bs ++ cs))
    begins_self [] cs = tt
    begins_self (b ∷ bs) cs = and_intro (eqb b b) (begins_with bs (bs ++ cs)) (eqb_refl b) (begins_self bs cs)

-- Room: what a stretch of digits lacks fits where more of the form fits.
room : (limit k : ℕ) (cs : List ℕ) (y : ℕ) (ys : List ℕ) → k + length (cs ++ (y ∷ ys)) ≤ limit → k + 2 ≤ limit → k + length cs + lacking cs ≤ limit
room limit k [] y ys l m = omega arith
room limit k (c ∷ cs) y ys l m = omega (arith, length-append cs (y ∷ ys))

pub grow_out : (limit : ℕ) (c : ℕ) (cs : List ℕ) (y : ℕ) (ys : List ℕ) {f : List ℕ} {n : ℕ}
    → Form f n → f ≡ (c ∷ cs) ++ (y ∷ ys) → length f ≤ limit → T (can_grow limit (c ∷ cs))
grow_out limit c cs y ys amp e l = grow_amp limit c cs (name_out limit c cs (ascii "&amp;") y ys e l)
grow_out limit c cs y ys lt e l = grow_lt limit c cs (name_out limit c cs (ascii "&lt;") y ys e l)
grow_out limit c cs y ys gt e l = grow_gt limit c cs (name_out limit c cs (ascii "&gt;") y ys e l)
grow_out limit c cs y ys apos e l = grow_apos limit c cs (name_out limit c cs (ascii "&apos;") y ys e l)
grow_out limit c cs y ys quot e l = grow_quot limit c cs (name_out limit c cs (ascii "&quot;") y ys e l)
grow_out limit c [] y ys (decimal d ds a) e l = grow_first limit c (sym (head-eq_of_cons-eq e)) (omega (arith, length-append ds (59 ∷ [])))
grow_out limit c (c₂ ∷ cs) y ys (decimal d ds a) e l =
    let e₂ : (d ∷ ds) ++ (59 ∷ []) ≡ cs ++ (y ∷ ys) = tail-eq_of_cons-eq (tail-eq_of_cons-eq e) in
    let n = length-append ds (59 ∷ []) in
    let r = room limit 2 cs y ys (omega (arith, ap length e₂)) (omega arith) in
    let g = grow_decimal limit 38 (35 ∷ cs) (number_out_grows limit (ascii "&#") is_decimal cs (digits_before is_decimal (d ∷ ds) cs y ys e₂ a) r) in
    let q₁ = head-eq_of_cons-eq e in
    let q₂ = head-eq_of_cons-eq (tail-eq_of_cons-eq e) in
    let q : 38 ∷ 35 ∷ cs ≡ c ∷ c₂ ∷ cs = cc in
    subst (λ (x : List ℕ). T (can_grow limit x)) {x = 38 ∷ 35 ∷ cs} {y = c ∷ c₂ ∷ cs} q g
grow_out limit c [] y ys (hexadecimal d ds a) e l = grow_first limit c (sym (head-eq_of_cons-eq e)) (omega (arith, length-append ds (59 ∷ [])))
grow_out limit c (c₂ ∷ []) y ys (hexadecimal d ds a) e l =
    let n = length-append ds (59 ∷ []) in
    let g = grow_decimal limit 38 (35 ∷ []) (number_out_grows limit (ascii "&#") is_decimal [] tt (omega arith)) in
    let q₁ = head-eq_of_cons-eq e in
    let q₂ = head-eq_of_cons-eq (tail-eq_of_cons-eq e) in
    let q : 38 ∷ 35 ∷ [] ≡ c ∷ c₂ ∷ [] = cc in
    subst (λ (x : List ℕ). T (can_grow limit x)) q g
grow_out limit c (c₂ ∷ c₃ ∷ cs) y ys (hexadecimal d ds a) e l =
    let e₂ : (d ∷ ds) ++ (59 ∷ []) ≡ cs ++ (y ∷ ys) = tail-eq_of_cons-eq (tail-eq_of_cons-eq (tail-eq_of_cons-eq e)) in
    let n = length-append ds (59 ∷ []) in
    let r = room limit 3 cs y ys (omega (arith, ap length e₂)) (omega arith) in
    let g = grow_hexadecimal limit 38 (35 ∷ 120 ∷ cs) (number_out_grows limit (ascii "&#x") is_hexadecimal cs (digits_before is_hexadecimal (d ∷ ds) cs y ys e₂ a) r) in
    let q₁ = head-eq_of_cons-eq e in
    let q₂ = head-eq_of_cons-eq (tail-eq_of_cons-eq e) in
    let q₃ = head-eq_of_cons-eq (tail-eq_of_cons-eq (tail-eq_of_cons-eq e)) in
    let q : 38 ∷ 35 ∷ 120 ∷ cs ≡ c ∷ c₂ ∷ c₃ ∷ cs = cc in
    subst (λ (x : List ℕ). T (can_grow limit x)) {x = 38 ∷ 35 ∷ 120 ∷ cs} {y = c ∷ c₂ ∷ c₃ ∷ cs} q g

-- The theorem for `can_grow`.
pub grows : (limit : ℕ) (c : ℕ) (cs : List ℕ) → T (can_grow limit (c ∷ cs)) ↔ CanGrow limit (c ∷ cs)
grows limit c cs = (grow_into limit (c ∷ cs), λ g. grow_out limit c cs g.more g.rest g.form refl g.short)
