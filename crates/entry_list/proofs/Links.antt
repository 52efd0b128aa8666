-- The raw counts by which pairs are made are those of the model; and ends that rise, by index. On plain values. Assumes nothing.
use mathlib.Core.Path.{◌≡◌, sym, ap, ◌∙◌}
use mathlib.Core.List.{List, [], ◌∷◌}
use Prim.Native.Nat.{ℕ, zero, suc, pred, ◌+◌, ◌-◌, ◌≤◌, ◌<◌}
use native.Mathlib.Omega.{arith}
use lib.ListN.{length, get_or}
use Rattle.model.specs.References.{Token, byte_tokens, joined}
use Rattle.model.specs.RawPlaces.{places_by, place_in}
use Rattle.model.proofs.Places.{Rises, rises_le, places_bytes, places_shift}
use Rattle.entry_list.specs.Marks.{marked_place, Marked}
use Rattle.entry_list.specs.Pairing.{even_place, uneven_place, RisingEnds}

pub even_is : (at raw : ℕ) (text : List ℕ) (e : ℕ) → at < e → e ≤ at + length text → even_place at raw e ≡ place_in at (places_by raw (byte_tokens text)) e
even_is at raw text e h l =
    let k : raw + (e - at) ≡ raw + suc (pred e - at) = omega arith in
    k ∙ sym (places_bytes text raw (pred e - at) (omega arith))

-- marks tell places that count from 0, and so do those of the tokens
pub uneven_is : (ts : List Token) (at raw : ℕ) (marks : List ℕ) (count e : ℕ) → Marked marks count ts → at < e → e ≤ at + length (joined ts)
    → uneven_place at raw marks count e ≡ place_in at (places_by raw ts) e
uneven_is ts at raw marks count e x h l =
    let w : marked_place marks count (e - at) ≡ get_or (places_by 0 ts) (pred (e - at) - 0) 0 = x.within (e - at) (omega arith) (omega arith) in
    let k : pred (e - at) - 0 ≡ pred e - at = omega arith in
    let z : get_or (places_by (raw + 0) ts) (pred e - at) 0 ≡ raw + get_or (places_by 0 ts) (pred e - at) 0 = places_shift ts raw 0 (pred e - at) (omega arith) in
    let r : raw + 0 ≡ raw = omega arith in
    omega (arith, w, ap (λ (i : ℕ). get_or (places_by 0 ts) i 0) k, z, ap (λ (i : ℕ). get_or (places_by i ts) (pred e - at) 0) r)

-- ---- ends that rise, by index

pub rises_past : (es : List ℕ) (at last : ℕ) → Rises at last es → (j : ℕ) → j < length es → at < get_or es j 0
rises_past [] at last r j h = absurd (omega arith)
rises_past (e ∷ es) at last r zero h = r.0
rises_past (e ∷ es) at last r (suc j) h = let a = r.0 in let b = rises_past es e last r.1 j (omega arith) in omega arith

pub rises_near : (es : List ℕ) (at last : ℕ) → Rises at last es → (j : ℕ) → j < length es → get_or es j 0 ≤ last
rises_near [] at last r j h = absurd (omega arith)
rises_near (e ∷ es) at last r zero h = rises_le es e last r.1
rises_near (e ∷ es) at last r (suc j) h = rises_near es e last r.1 j (omega arith)

pub rises_on : (es : List ℕ) (at last : ℕ) → Rises at last es → (j : ℕ) → suc j < length es → get_or es j 0 ≤ get_or es (suc j) 0
rises_on [] at last r j h = absurd (omega arith)
rises_on (e ∷ es) at last r zero h = let a = rises_past es e last r.1 0 (omega arith) in omega arith
rises_on (e ∷ es) at last r (suc j) h = rises_on es e last r.1 j (omega arith)

pub rises_index : (es : List ℕ) (at n : ℕ) → Rises at (at + n) es → RisingEnds at n (length es) es
rises_index es at n r = record { past = rises_past es at (at + n) r; near = rises_near es at (at + n) r; rise = rises_on es at (at + n) r }
