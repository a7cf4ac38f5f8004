-- What is learnt leaves a sound consist and a sound brake sound. Assumes nothing.
use mathlib.Core.Path.{◌≡◌, refl, ap}
use mathlib.Core.Bool.{true, false, not}
use mathlib.Core.List.{List, [], ◌∷◌}
use Prim.Native.Nat.{ℕ, ◌≤◌}
use borrow.Author.Tests.{le-leb, not-false}
use Rattle.bits.specs.Ranges.{inside, Within}
use Rattle.bits.proofs.Ranges.{inside_within}
use Rattle.consist.specs.declared.Consist.{Consist}
use Rattle.consist.specs.Consist.{fields_of, ranges, in_range, out_of_range, too_light, sound_blocks, is_sound}
use Rattle.consist.proofs.Sound as consist
use Rattle.brake.specs.declared.Brake.{Brake}
use Rattle.brake.specs.Sound.{Sound}
use Rattle.trend.specs.Result.{Learnt, Nothing, Time}
use Rattle.learn.specs.declared.Learner.{Learner}
use Rattle.learn.specs.declared.Shown.{Shown}
use Rattle.learn.specs.Kept.{taught_of}
use Rattle.learn.specs.Suffices.{LearntInRange}
use Rattle.learn.proofs.Sound.{learnt_in_range}
use Rattle.sampling.specs.Learning.{timed, in_force}

within_inside : (rs : List (ℕ × ℕ)) (fs : List ℕ) → Within rs fs → inside rs fs ≡ true
within_inside [] [] h = refl
within_inside [] (f ∷ fs) h = absurd h
within_inside (r ∷ rs) [] h = absurd h
within_inside (r ∷ rs) (f ∷ fs) h = rw (le-leb r.0 f h.0, le-leb f r.1 h.1) (within_inside rs fs h.2)

-- a time inside the consist's range takes the place of another
timed_range : (c : Consist) (ms : ℕ) → out_of_range c ≡ false → 1000 ≤ ms → ms ≤ 240000 → out_of_range (timed c ms) ≡ false
unfolding in_range
timed_range c ms h least most =
    let (a, b, (d, e, (f, g, (i, j, (k, l, (_, _, rest)))))) = inside_within ranges (fields_of c) (not-false (in_range c) h) in
    ap not (within_inside ranges (fields_of (timed c ms)) (a, b, (d, e, (f, g, (i, j, (k, l, (least, most, rest)))))))

timed_sound : (c : Consist) (ms : ℕ) → is_sound c ≡ true → 1000 ≤ ms → ms ≤ 240000 → is_sound (timed c ms) ≡ true
unfolding too_light sound_blocks
timed_sound c ms h least most =
    let (range, light, blocks) = consist.is_sound_lem c h in
    consist.sound_is (timed c ms) (timed_range c ms range least most) light blocks

-- whatever is taught
pub in_force_sound : (c : Consist) (l : Learner) (s : Shown) → is_sound c ≡ true → is_sound (in_force c (taught_of l s).learnt) ≡ true
unfolding LearntInRange
in_force_sound c l s h = by (taught_of l s).learnt refl
  where
    by : (r : Learnt) → (taught_of l s).learnt ≡ r → is_sound (in_force c r) ≡ true
    by Nothing e = h
    by (Time ms) e = let (least, most) = learnt_in_range l s ms e in timed_sound c ms h least most

-- the brake's invariant reads the set pressure alone
pub brake_in_force : (c : Consist) (k : Brake) (r : Learnt) → Sound c k → Sound (in_force c r) k
brake_in_force c k Nothing h = h
brake_in_force c k (Time ms) h = record {
  a = h.a;
  b = h.b;
  equalization = h.equalization;
  fall = h.fall;
  hold = h.hold;
  front = h.front;
  rear = h.rear;
  time = h.time;
  heard = h.heard;
  balance = h.balance;
}
