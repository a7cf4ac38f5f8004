-- Document 02's R-3, "Learn the application time", over a run: points always fall, so that learning which comes to its end always gives a time.
-- A statement; proofs/Learnt.antt proves it.
use Rattle.std.specs.Prelude.{◌≡◌, List, ◌∷◌, ℕ, ◌≤◌}
use Rattle.trend.specs.Points.{Point}
use Rattle.learn.specs.Learn.{falling, done}
use Rattle.learn.specs.Suffices.{Completes}
use Rattle.sampling.specs.Learning.{timed}
use Rattle.sampling.specs.Sample.{sample_in}
use Rattle.sampling.specs.Laws.{Lent}
use Rattle.demands.specs.Machine.{Call}
use Rattle.demands.specs.History.{Begun, course_of, train_in, shown_to, nothing, since, standing_after}

-- what is learnt by the last sample l: the time in force, inside the consist's range, is all that changes of the consist, and learning is done
pub record Learns (c : Begun) (l : Lent) (h : List Lent) : Type 0 where
  pub ms : ℕ
  pub least : 1000 ≤ ms
  pub most : ms ≤ 240000
  pub serves : train_in c (l ∷ h) ≡ timed (train_in c h) ms
  pub ends : (course_of c (l ∷ h)).learning ≡ done

-- whatever was called: where the samples h left points, and the last sample l ends learning
unfoldable pub RunsLearn : Type 0
RunsLearn =
    (ks : List Call) (c : Begun) (l : Lent) (h : List Lent) (fell init p : ℕ) (last : Point) (before : List Point)
    → standing_after nothing ks ≡ since c (l ∷ h)
    → (course_of c h).learning ≡ falling fell init last before
    → Completes (shown_to (course_of c h) (sample_in l.sample)) fell init last before p
    → Learns c l h
