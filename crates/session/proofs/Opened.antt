-- An open session, as facts. Assumes nothing.
use mathlib.Core.Path.{◌≡◌}
use mathlib.Core.Bool.{Bool, true, false, not, ◌&&◌, ◌||◌, true≢false}
use Prim.Native.Nat.{◌≤◌, ◌<◌}
use native.Mathlib.Omega.{arith}
use native.Mathlib.Nat.{pos_of_ne-zero}
use lib.Dec.{leb, eqb}
use borrow.Author.Tests.{leb-true, eqb-true, eqb-false, ne_eqb, not-true}
use Rattle.bits.proofs.Ranges.{and-true_left, and-true_right}
use Rattle.consist.specs.Consist as consist
use Rattle.consist.specs.Sound as sound
use Rattle.consist.proofs.Sound as consist_sound
use Rattle.targets.specs.Targets as targets
use Rattle.brake.specs.Brake.{at_opening, is_at_opening}
use Rattle.brake.specs.Sound as brake
use Rattle.brake.proofs.Tested as brake_tested
use Rattle.learn.specs.Stage as learn
use Rattle.learn.specs.Sound as learner
use Rattle.learn.proofs.Tested as learner_tested
use Rattle.session.specs.declared.Session.{Session}
use Rattle.session.specs.Session.{is_fresh, is_behind, is_open}

-- an open session, as facts
pub record Opened (x : Session) : Type 0 where
  pub opened : x.opened ≡ true
  pub tested : consist.is_sound x.consist ≡ true
  pub consist : sound.Sound x.consist
  pub brake : brake.Sound x.consist x.brake
  pub learner : learner.Sound x.learner
  pub cause : x.cause ≤ targets.most
  pub emergency : x.emergency ≤ targets.most
  pub behind : 0 < x.emergency → 0 < x.cause
  pub fresh : x.brake.sampled ≡ false → (x.brake ≡ at_opening x.consist x.brake.choice) × (x.learner ≡ learn.at_opening) × (x.cause ≡ 0) × (x.emergency ≡ 0)

-- one of two
other : (a b : Bool) → a || b ≡ true → a ≡ false → b ≡ true
other true b h e = absurd (true≢false e)
other false b h e = h

all_three : (a b c : Bool) → a && b && c ≡ true → (a ≡ true) × (b ≡ true) × (c ≡ true)
all_three a b c h =
    let two = and-true_left (a && b) c h in
    (and-true_left a b two, and-true_right a b two, and-true_right (a && b) c h)

all_four : (a b c d : Bool) → a && b && c && d ≡ true → (a ≡ true) × (b ≡ true) × (c ≡ true) × (d ≡ true)
all_four a b c d h =
    let (both, third, fourth) = all_three (a && b) c d h in
    (and-true_left a b both, and-true_right a b both, third, fourth)

all_six : (a b c d e f : Bool) → a && b && c && d && e && f ≡ true → (a ≡ true) × (b ≡ true) × (c ≡ true) × (d ≡ true) × (e ≡ true) × (f ≡ true)
all_six a b c d e f h =
    let (three, fourth, fifth, sixth) = all_four (a && b && c) d e f h in
    let (first, second, third) = all_three a b c three in
    (first, second, third, fourth, fifth, sixth)

-- where an emergency stands, a penalty does
is_behind_lem : (x : Session) → is_behind x ≡ true → 0 < x.emergency → 0 < x.cause
is_behind_lem x h some =
    let stands = other (eqb x.emergency 0) (not (eqb x.cause 0)) h (ne_eqb x.emergency 0 (λ e. omega arith)) in
    pos_of_ne-zero (eqb-false x.cause 0 (not-true _ stands))

pub opened : (x : Session) → is_open x ≡ true → Opened x
unfolding is_open
opened x h =
    let c = x.consist in
    let k = x.brake in
    let l = x.learner in
    let held = x.opened && consist.is_sound c && brake.is_sound c k && learner.is_sound l && leb x.cause targets.most && leb x.emergency targets.most in
    let (all, behind, fresh) = all_three held (is_behind x) (k.sampled || is_fresh x) h in
    let (opened, tested, sound, learning, cause, emergency) = all_six x.opened (consist.is_sound c) (brake.is_sound c k) (learner.is_sound l) (leb x.cause targets.most) (leb x.emergency targets.most) all in
    let facts = consist_sound.is_sound_lem c tested in
    record {
      opened = opened;
      tested = tested;
      consist = consist_sound.sound c facts.0 facts.1 facts.2;
      brake = (brake_tested.sound_is c k).0 sound;
      learner = learner_tested.sound_of l learning;
      cause = leb-true x.cause targets.most cause;
      emergency = leb-true x.emergency targets.most emergency;
      behind = is_behind_lem x behind;
      fresh = λ e.
          let (brake, learner, none, neither) =
          all_four (is_at_opening c k) (learn.is_at_opening l) (eqb x.cause 0) (eqb x.emergency 0) (other k.sampled (is_fresh x) fresh e) in
          (brake_tested.is_at_opening_lem c k brake e, learner_tested.at_opening_of l learner, eqb-true x.cause 0 none, eqb-true x.emergency 0 neither);
    }
