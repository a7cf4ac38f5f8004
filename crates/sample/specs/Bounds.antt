-- What a judged sample holds, for its callers. A statement; proofs/Bounds.antt proves it.
use Rattle.std.specs.Prelude.{◌≡◌, List, ℕ, ◌*◌, ◌^◌, ◌≤◌, ◌<◌}
use Rattle.hundredths.specs.Reading.{most_speed, most_psi}
use Rattle.refusal.specs.Verdict.{Accepted}
use Rattle.sample.specs.declared.RawSample.{RawSample}
use Rattle.sample.specs.declared.RearPressure.{RearPressure}
use Rattle.sample.specs.declared.RearPressure.TheVariants.{Present, Lost}
use Rattle.sample.specs.declared.Sample.{Sample}
use Rattle.sample.specs.Sample.{lay_out, judge_sample}

abbrev pub RearBounded : RearPressure → Type 0
RearBounded (Present p) = p ≤ 100 * most_psi
RearBounded Lost = Unit

pub record Bounded (x : Sample) : Type 0 where
  pub time : x.time < 2 ^ 24
  pub head : x.head < 2 ^ 24
  pub speed : x.speed ≤ 100 * most_speed
  pub front : x.front ≤ 100 * most_psi
  pub rear : RearBounded x.rear

unfoldable pub JudgedBounded : Type 0
JudgedBounded = (s : List ℕ) (raw : RawSample) (x : Sample) → lay_out s ≡ (Accepted, raw) → judge_sample raw ≡ (Accepted, x) → Bounded x
