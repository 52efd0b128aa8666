-- A scan by a prefilter, turn by turn: a skip over what may be skipped, then a loop. Assumes nothing.
use Rattle.std.proofs.Common.{◌≡◌, ℕ, zero, suc, ◌+◌, ◌-◌, ◌^◌, ◌<◌, ◌≤◌, Bool, false, List, [], length, drop, add-zero, zero-add, arith, drop_of_length-le}
use lib.Seq.{sets}
use Rattle.byte_search.specs.BlockTests.{NoneBefore}
use Rattle.shift_and_step.specs.declared.Masks.{Masks}
use Rattle.shift_and_loop.specs.declared.Cursor.{Cursor}
use Rattle.shift_and.specs.Automaton.{state_after, ends_in}
use Rattle.shift_and_step.specs.Stepping.{automaton_of}
use Rattle.shift_and_loop.specs.Loops.{LoopProgress, Advanced, Skippable, HasRoom}
use Rattle.shift_and_loop.proofs.LoopLaws.{begun, advanced, skipped_on, joined, pass_none, pass_more}
use Rattle.shift_and_scan.specs.Scanning.{Scanned, SegmentEnd}

-- places that a test misses, where each that it misses may be passed over
pub pass_missed : {t : List ℕ} {m : Masks} {d : ℕ} {text : List ℕ} (f : ℕ → Bool) {i end r : ℕ} → end ≤ length text
    → ((k : ℕ) → k < end → f k ≡ false → Skippable t m d text k (k + 1)) → NoneBefore f i end r → Skippable t m d text i r
pass_missed {t} {m} {d} {text} f {i} {end} {r} w one g =
    let e : i + (r - i) ≡ r = omega arith in
    rw e at (go (r - i) (omega arith))
  where
    go : (n : ℕ) → i + n ≤ r → Skippable t m d text i (i + n)
    go zero l = rw add-zero (pass_none t m d text i (omega arith))
    go (suc n) l =
        let last : Skippable t m d text (i + n) (i + n + 1) = one (i + n) (omega arith) (g.none (i + n) (omega arith) (omega arith)) in
        let e : i + n + 1 ≡ i + suc n = omega arith in
        rw e at (pass_more (go n (omega arith)) last)

-- a run that has come to the end of the text from its front
pub over : {t : List ℕ} {m : Masks} {text ends₀ ends : List ℕ} {d₀ base d at n i : ℕ} → LoopProgress t m text ends₀ d₀ base 0 0 ends d at n i
    → length text ≤ i → length text ≤ length ends₀ → Scanned (automaton_of t m) d₀ base text ends₀ (record { d = d; count = n }) ends
unfolding state_after ends_in
over {t} {m} {text} {ends₀} {ends} {d₀} {base} {d} {at} {n} {i} g stop room =
    let none : drop i text ≡ [] = drop_of_length-le text stop in
    let s : d ≡ state_after (automaton_of t m) d₀ text = rw none at g.state in
    let k : n + 0 ≡ length (ends_in (automaton_of t m) d₀ base text) = rw (none, zero-add) at g.count in
    let l : ends ≡ sets ends₀ 0 (ends_in (automaton_of t m) d₀ base text) = rw none at g.list in
    let k' : n ≡ length (ends_in (automaton_of t m) d₀ base text) = omega arith in
    record { state = s; count = k'; few = omega arith; list = l }

-- ---- a segment: turns of a skip, then a loop

-- there is room at each place that a scan comes to
room_of : {t : List ℕ} {m : Masks} {text ends₀ ends : List ℕ} {d₀ at₀ n₀ i₀ d at n i until : ℕ} → LoopProgress t m text ends₀ d₀ at₀ n₀ i₀ ends d at n i
    → n₀ ≤ i₀ → at₀ + length text < 2 ^ 32 + i₀ → length text ≤ length ends₀ → i < until → until ≤ length text
    → HasRoom (record { d = d; at = at; n = n; i = i }) until text ends
room_of g behind fits room l w = record {
  left = l;
  within = w;
  room = omega (arith, g.long);
  behind = omega (arith, g.few);
  fits = omega (arith, g.place);
}

-- on the way from a place with room
pub record SegmentInvariant (t : List ℕ) (m : Masks) (until : ℕ) (text ends₀ : List ℕ) (d₀ at₀ n₀ i₀ : ℕ) (ends : List ℕ) (d at n i : ℕ) : Type 0 where
  pub going : LoopProgress t m text ends₀ d₀ at₀ n₀ i₀ ends d at n i
  pub begin : HasRoom (record { d = d₀; at = at₀; n = n₀; i = i₀ }) until text ends₀

pub begin : {t : List ℕ} {m : Masks} {until : ℕ} {text ends₀ : List ℕ} {s : Cursor} → HasRoom s until text ends₀
    → SegmentInvariant t m until text ends₀ s.d s.at s.n s.i ends₀ s.d s.at s.n s.i
begin {t} {m} {until} {text} {ends₀} {s} o = record { going = begun t m text ends₀ s.d s.at s.n s.i (omega (arith, o.left, o.within)); begin = o }

module _ {t : List ℕ} {m : Masks} {until : ℕ} {text ends₀ ends : List ℕ} {d₀ at₀ n₀ i₀ d at n i : ℕ} (g : SegmentInvariant t m until text ends₀ d₀ at₀ n₀ i₀ ends d at n i) where
  pub segment_stopped : until ≤ i → Advanced t m text ends₀ d₀ at₀ n₀ i₀ (record { d = d; at = at; n = n; i = i }) ends
  segment_stopped s = advanced g.going (omega (arith, g.begin.left))

  module _ {j : ℕ} (p : Skippable t m d text i j) where
    skip_progress : LoopProgress t m text ends₀ d₀ at₀ n₀ i₀ ends d (at + (j - i)) n j
    skip_progress = skipped_on g.going p (omega (arith, p.fore))

    -- the pass comes to the stretch's end
    pub segment_over : until ≤ j → Advanced t m text ends₀ d₀ at₀ n₀ i₀ (record { d = d; at = at + (j - i); n = n; i = j }) ends
    segment_over s = advanced skip_progress (omega (arith, g.begin.left))

    -- or the loop has room
    pub segment_room : j < until → HasRoom (record { d = d; at = at + (j - i); n = n; i = j }) until text ends
    segment_room l = room_of skip_progress g.begin.behind g.begin.fits g.begin.room l g.begin.within

    -- and leads on
    pub turn : {r : Cursor} {ends' : List ℕ} → Advanced t m text ends d (at + (j - i)) n j r ends'
        → SegmentInvariant t m until text ends₀ d₀ at₀ n₀ i₀ ends' r.d r.at r.n r.i
    turn w = record { going = joined skip_progress w.going; begin = g.begin }

-- ---- a probe and then a run: a short segment, then a long one; and a scan of them

pub reach_room : {s : Cursor} {near : ℕ} {text ends : List ℕ} → HasRoom s (length text) text ends → SegmentEnd s.i (length text) near → HasRoom s near text ends
reach_room o f = record { left = f.ahead; within = f.within; room = o.room; behind = o.behind; fits = o.fits }

module _ {t : List ℕ} {m : Masks} {text ends ends₁ : List ℕ} {s r : Cursor} (o : HasRoom s (length text) text ends)
    (w : Advanced t m text ends s.d s.at s.n s.i r ends₁) where
  pub second-room : r.i < length text → HasRoom r (length text) text ends₁
  second-room l = room_of w.going o.behind o.fits o.room l (omega arith)

pub both : {t : List ℕ} {m : Masks} {text ends ends₁ ends₂ : List ℕ} {d at n i : ℕ} {r r' : Cursor} → Advanced t m text ends d at n i r ends₁
    → Advanced t m text ends₁ r.d r.at r.n r.i r' ends₂ → Advanced t m text ends d at n i r' ends₂
both w v = record { moves = omega (arith, w.moves, v.moves); going = joined w.going v.going }

module _ {t : List ℕ} {m : Masks} {text ends₀ ends : List ℕ} {d₀ base d at n i : ℕ} (g : LoopProgress t m text ends₀ d₀ base 0 0 ends d at n i) where
  pub probe_room : base + length text < 2 ^ 32 → length text ≤ length ends₀ → i < length text → HasRoom (record { d = d; at = at; n = n; i = i }) (length text) text ends
  probe_room fits room l = room_of g (omega arith) (omega arith) room l (omega arith)

  pub probes_on : {r : Cursor} {ends₁ : List ℕ} → Advanced t m text ends d at n i r ends₁ → LoopProgress t m text ends₀ d₀ base 0 0 ends₁ r.d r.at r.n r.i
  probes_on w = joined g w.going
