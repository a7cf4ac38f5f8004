use mathlib.Core.Path.{◌≡◌, refl, sym, ap, ◌∙◌}
use mathlib.Core.Bool.{Bool, true, false, ◌&&◌, ◌||◌, false≢true, true≢false}
use Prim.Native.Nat.{ℕ, ◌≤◌, ◌<◌}
use native.Mathlib.Omega.{arith}
use mathlib.Core.List.{List}
use lib.Dec.{leb, ltb, eqb}
use borrow.Author.Tests.{ltb-true, leb-true, eqb-false}
use Rattle.consist.specs.declared.Consist.{Consist}
use Rattle.track.specs.declared.Track.{Track}
use Rattle.track.specs.declared.Under.{Under}
use Rattle.shares.specs.Shares.{ground_under}
use Rattle.shares.specs.Bounds.{GentleGround}
use Rattle.shares.proofs.Bounds.{gentle_ground}
use Rattle.step.specs.Curve.{force_at}
use Rattle.step.specs.declared.Run.{Run}
use Rattle.step.specs.Step.{steps_most, ground_of, even, opposing, loss, step_of, load_of, carrying}
use Rattle.step.proofs.Gain.{gains, under_bound, gentle_no_steeper}
use Rattle.walk.specs.declared.Band.{Band}
use Rattle.walk.specs.Marks.{Marked, Quiet}
use Rattle.walk.proofs.Arrivals.{walk_begins, unmarked, answer_ended, walks_on}
use Rattle.walk.proofs.predict.Goals.{then-not-lies_in, else-not-lies_in}
use Rattle.walk.proofs.predict.Goals as goal

carried : {r : Run} {speeds before arrivals arrivals' : List ℕ} {band band' : Band} → arrivals' ≡ arrivals → band' ≡ band
    → Marked r speeds before arrivals → Quiet speeds arrivals band → Marked r speeds before arrivals' × Quiet speeds arrivals' band'
carried e f m o = rw (e, f) (m, o)

in_band : (b : Band) (q : ℕ) → (ltb b.low q && leb q b.high) ≡ true → (b.low < q) × (q ≤ b.high)
in_band b q h = by (ltb b.low q) (leb q b.high) refl refl h
  where
    by : (l m : Bool) → ltb b.low q ≡ l → leb q b.high ≡ m → (l && m) ≡ true → (b.low < q) × (q ≤ b.high)
    by true true e f h = (ltb-true _ _ e, leb-true _ _ f)
    by true false e f h = absurd (false≢true h)
    by false m e f h = absurd (false≢true h)

-- neither test holds
neither : (q n : ℕ) → (eqb q 0 || eqb n steps_most) ≡ false → (q ≡ 0 → ⊥) × (n ≡ steps_most → ⊥)
neither q n h = by (eqb q 0) (eqb n steps_most) refl refl h
  where
    by : (a b : Bool) → eqb q 0 ≡ a → eqb n steps_most ≡ b → (a || b) ≡ false → (q ≡ 0 → ⊥) × (n ≡ steps_most → ⊥)
    by true b e f h = absurd (true≢false h)
    by false true e f h = absurd (true≢false h)
    by false false e f h = (eqb-false q 0 e, eqb-false n steps_most f)

-- the step over the ground under the train is the step over the track
over_track : (c : Consist) (force : ℕ → ℕ) (t : Track) (r r' : Run) (u : Under)
    → r' ≡ step_of (carrying (load_of c)) force (even u) r → u ≡ ground_under t r.head c.length c.weight c.blocks → r' ≡ step_of c force (ground_of t c) r
unfolding step_of opposing loss
over_track c force t r r' u e f = e ∙ ap (λ (x : Under). step_of c force (even x) r) f

pub loop-band-init : goal.loop-band-init
loop-band-init c =
    let a = c.args in
    (rw c.started-run.ensures (walk_begins a.c _ _ a.head a.speed a.speeds), c.quiet_band-band.ensures)

pub returns-then-run-n : goal.returns-then-run-n
returns-then-run-n c =
    let i = c.loop-band.invariant in
    let marks : Marked c.loop-band.run c.args.speeds c.loop-band.arrivals c.if-not-lies_in.arrivals × Quiet c.args.speeds c.if-not-lies_in.arrivals c.if-not-lies_in.band =
    elim c.if-not-lies_in.branch [
      | then-not-lies_in w ↦ carried w.arrivals-is w.band-is w.mark_all.ensures w.quiet_band-band-then-not-lies_in.ensures
      | else-not-lies_in w ↦
          let (low, high) = in_band c.loop-band.band c.loop-band.run.q (sym c.lies_in.ensures ∙ w.if-not-lies_in.false) in
          carried w.arrivals-is w.band-is (unmarked _ _ _ _ i.0.size i.1 low high) i.1
    ] in
    c.ended.ensures ∙ answer_ended (omega arith) i.0 marks.0 c.requires.head c.if-run-n.true

pub stepped-run-requires : goal.stepped-run-requires
unfolding GentleGround
stepped-run-requires c =
    let t = c.args.c in
    let r = c.loop-band.run in
    let w = c.loop-band.invariant.0 in
    let under_is : c.under-under.result ≡ ground_under c.args.route.track.now r.head t.length t.weight t.blocks = c.under-under.ensures in
    let averaged = gentle_ground c.args.route.track.now r.head t.length t.weight t.blocks c.requires.track c.requires.blocks in
    let goes_on = neither r.q c.loop-band.n c.if-run-n.false in
    record {
      rated = c.requires.rated;
      applied = record { curve = c.requires.curve; clock = omega (arith, w.clock_most, w.steps) };
      grade = rw under_is (omega (arith, averaged.grade));
      curvature = rw under_is (omega (arith, averaged.curvature));
      head = omega (arith, w.head_is, w.steps, c.requires.head);
      some = omega (arith, goes_on.0);
      slow = under_bound c.args.speed c.loop-band.n r.q c.requires.speed w.steps w.square_most;
    }

pub loop-band-preserved : goal.loop-band-preserved
loop-band-preserved c =
    let a = c.args in
    let i = c.loop-band.invariant in
    let r = c.loop-band.run in
    let t = a.route.track.now in
    let force = force_at a.c.rated a.curve in
    let goes_on = neither r.q c.loop-band.n c.if-run-n.false in
    let marks : Marked r a.speeds c.loop-band.arrivals c.if-not-lies_in.arrivals × Quiet a.speeds c.if-not-lies_in.arrivals c.if-not-lies_in.band =
    elim c.if-not-lies_in.branch [
      | then-not-lies_in w ↦ carried w.arrivals-is w.band-is w.mark_all.ensures w.quiet_band-band-then-not-lies_in.ensures
      | else-not-lies_in w ↦
          let (low, high) = in_band c.loop-band.band r.q (sym c.lies_in.ensures ∙ w.if-not-lies_in.false) in
          carried w.arrivals-is w.band-is (unmarked _ _ _ _ i.0.size i.1 low high) i.1
    ] in (
      rw (over_track a.c force t r _ _ c.stepped-run.ensures c.under-under.ensures)
          (walks_on (omega arith) i.0 marks.0 c.requires.head (omega (arith, goes_on.0)) (omega (arith, i.0.steps, goes_on.1))
          (gains a.c force (ground_of t a.c) c.requires.limited (gentle_no_steeper t a.c c.requires.track c.requires.blocks) r)),
      marks.1,
    )
