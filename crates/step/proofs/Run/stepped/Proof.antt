-- `step::Run::stepped` meets its contract: each part of a step is what the definition says. Assumes nothing.
-- A walk, of which a must-fail edit changes a line: tried without, and as answers to its goals, and it did not close.
use mathlib.Core.Path.{◌≡◌}
use Prim.Native.Nat.{ℕ, ◌+◌, ◌*◌, ◌/◌, ◌≤◌, ◌<◌}
use native.Mathlib.Omega.{arith}
use lib.IntN.{pos, ◌-ℤ◌}
use Rattle.whole.specs.Floor.{cut}
use Rattle.whole.specs.Root.{root_of}
use Rattle.whole.proofs.Roots.{root_pos}
use Rattle.consist.specs.declared.Consist.{Consist}
use Rattle.track.specs.declared.Under.{Under}
use Rattle.step.specs.declared.Run.{Run}
use Rattle.step.specs.Curve.{force_at}
use Rattle.step.specs.Step.{even, carrying, loss, step_time, step_of}
use Rattle.step.specs.Range.{root_most}
use Rattle.step.proofs.Bounds.{force_most, root_most_lem, time_most_lem}
use borrow.Author.Rules.{rules}
use Rattle.step.proofs.Run.stepped.Statement.{statement}
use Rattle.step.proofs.Run.stepped.Tie as tie

rooted : (c : tie.After-isqrt-s) → (0 < c.isqrt-s.result) × (c.isqrt-s.result ≤ root_most)
rooted c =
    let q = c.args.self.q in
    rw c.isqrt-s.ensures (root_pos q c.requires.some, root_most_lem q c.requires.slow)

isqrt-requires : tie.Need-isqrt-s-requires
isqrt-requires c κs = search rules

force-requires : tie.Need-force-f-requires
force-requires c κs = search rules

slowed-requires : tie.Need-slowed-q-requires
slowed-requires c κs =
    let s = c.before.before in
    let a = s.args in
    record {
      force = rw c.force-f.ensures (force_most a.load.rated a.curve _ s.requires.rated s.requires.applied.curve);
      root = (rooted c.before).1;
      squared = s.requires.slow;
      grade = s.requires.grade;
      curvature = s.requires.curvature;
    }

add-head : tie.Need-overflow_add-head
add-head c = search rules

mul-clock : tie.Need-overflow_mul-clock
mul-clock c = omega (arith, rooted c.before.before.before)

div-clock : tie.Need-nonzero_div-clock
div-clock c = omega (arith, rooted c.before.before.before)

add-clock : tie.Need-overflow_add-clock
unfolding step_time
add-clock c =
    let b = c.before.before.before.before in
    omega (arith, b.requires.applied.clock, time_most_lem b.isqrt-s.result (rooted b).0)

-- from the root, the force and what is left of q, by the calls
together : (c : Consist) (force : ℕ → ℕ) (u : Under) (r : Run) (s f q : ℕ) → s ≡ root_of r.q → f ≡ force r.clock
    → q ≡ cut (pos r.q -ℤ loss c f s r.q u.grade u.curvature)
    → record { head = r.head + 16; clock = r.clock + 12000000 / (11 * s); q = q } ≡ step_of c force (even u) r
unfolding step_of step_time
together c force u r s f q root forced left = rw (left, forced, root)

returns : tie.Need-returns
returns c =
    let b = c.before.before in
    let root = b.isqrt-s in
    let forced = b.force-f in
    let a = b.args in
    together (carrying a.load) (force_at a.load.rated a.curve) a.u a.self root.result forced.result b.slowed-q.result root.ensures forced.ensures b.slowed-q.ensures

pub stepped_spec : {M : Type 1} → statement M
stepped_spec = tie.close (tie.spec isqrt-requires force-requires slowed-requires add-head mul-clock div-clock add-clock returns)
