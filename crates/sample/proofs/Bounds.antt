-- A judged sample's fields are within their bounds. Assumes nothing.
use mathlib.Core.Path.{◌≡◌, sym, ap, subst, ◌∙◌}
use mathlib.Core.Bool.{false}
use Rattle.hundredths.specs.Reading.{most_speed, most_psi}
use Rattle.hundredths.specs.declared.Rounding.TheVariants.{Up, Down}
use Rattle.hundredths.proofs.Accepted.{hundredths_most}
use Rattle.sample.specs.declared.Rear.{Rear}
use Rattle.sample.specs.declared.Rear.TheVariants.{Present, Lost}
use Rattle.sample.specs.declared.RawSample.{RawSample}
use Rattle.sample.specs.Sample.{too_wide, bad_rear, bad_reading, rear_in_hundredths, sample_of}
use Rattle.sample.specs.Bounds.{RearBounded, Bounded, JudgedBounded}
use Rattle.sample.proofs.Answers.{narrow, each_good, laid_narrow, laid_out, judged_accepted}

rear_bounded : (r : Rear) → bad_rear r ≡ false → RearBounded (rear_in_hundredths r)
rear_bounded (Present x) h = hundredths_most Down most_psi x h
rear_bounded Lost h = tt

bounded : (raw : RawSample) → too_wide raw ≡ false → bad_reading raw ≡ false → Bounded (sample_of raw)
bounded raw w b =
    let n = narrow raw w in
    let g = each_good raw b in
    record {
      time = n.0;
      head = n.1;
      speed = hundredths_most Up most_speed raw.speed g.0;
      front = hundredths_most Down most_psi raw.front g.1;
      rear = rear_bounded raw.rear g.2;
    }

pub judged_bounded : JudgedBounded
unfolding JudgedBounded
judged_bounded s raw x l h =
    let j = judged_accepted raw x h in
    subst Bounded (sym j.1) (bounded raw (ap too_wide (laid_out s raw l).raw_is ∙ laid_narrow s) j.0)
