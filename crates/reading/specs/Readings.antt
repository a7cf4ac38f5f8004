-- What a sample brings, counted from the one before. Definitions only.
use Rattle.std.specs.Prelude.{ℕ, ◌+◌, ◌-◌, ◌/◌, Bool, false, cond, ◌||◌, leb, ltb, ℤ, pos, neg_ℤ, ◌-ℤ◌}
use Rattle.std.specs.Int.Signed.{lt_z, le_z}
use Rattle.whole.specs.Floor.{floor_div}
use Rattle.consist.specs.declared.Consist.{Consist}
use Rattle.sample.specs.declared.RearPressure.{RearPressure}
use Rattle.sample.specs.declared.RearPressure.TheVariants.{Present, Lost}
use Rattle.brake.specs.declared.Choice.{Choice}
use Rattle.brake.specs.declared.Choice.TheVariants.{FiveSeconds, Everlasting}
use Rattle.brake.specs.Rear.{Heard, Never, At}
use Rattle.brake.specs.declared.Brake.{Brake}
use Rattle.reading.specs.declared.Reading.{Reading}

-- "A first sample counts rate 0 and 0 seconds elapsed." The seconds are those since the last accepted sample.
unfoldable pub elapsed_of : Brake → ℕ → ℕ
elapsed_of k time = cond k.sampled (time - k.last_time) 0

-- "Otherwise rate is (front minus last front) divided by the elapsed seconds, down."
unfoldable pub rate_of : Brake → ℕ → ℕ → ℤ
rate_of k time front = cond k.sampled (floor_div (pos front -ℤ pos k.last_front) (pos (elapsed_of k time))) (pos 0)

-- R-7: "since the last present value"; of this sample on, a present rear's time, else as it was
unfoldable pub heard_after : Heard → ℕ → RearPressure → Heard
heard_after heard time (Present rear) = At time
heard_after heard time Lost = heard

-- a value is kept, but "when more than 5 seconds have passed since the last present value, or there was none yet"
unfoldable pub is_kept : Heard → ℕ → Bool
is_kept Never time = false
is_kept (At at) time = leb time (at + 5)

-- what a lost rear counts as. By default, "as equal to front" where none is kept; the value that is kept is held as last rear.
-- By the old choice "A lost rear counts as the last rear, or as front in the first sample".
unfoldable pub lost_rear : Choice → Brake → ℕ → ℕ → ℕ
lost_rear FiveSeconds k time front = cond (is_kept k.heard time) k.last_rear front
lost_rear Everlasting k time front = cond k.sampled k.last_rear front

unfoldable pub rear_taken : Brake → ℕ → ℕ → RearPressure → ℕ
rear_taken k time front (Present rear) = rear
rear_taken k time front Lost = lost_rear k.choice k time front

-- "Nominal = set minus half of (front minus rear), the half down; the difference is 0 where rear is higher, and nominal is not below 0":
-- a difference of natural numbers is 0 where it would be below 0
unfoldable pub nominal_of : ℕ → ℕ → ℕ → ℕ
nominal_of set front rear = set - (front - rear) / 2

-- "Application means rate below -100 or hold minus front above 300."
unfoldable pub application : ℤ → ℕ → ℕ → Bool
application rate hold front = lt_z rate (neg_ℤ (pos 100)) || ltb 300 (hold - front)

-- "Release means rate above 100."
unfoldable pub release : ℤ → Bool
release rate = lt_z (pos 100) rate

-- "emergency on a fall of 15 psi in a second or faster": "rate is -1,500 or lower"
unfoldable pub emergency : ℤ → Bool
emergency rate = le_z rate (neg_ℤ (pos 1500))

-- what the rules read of a sample
unfoldable pub reading_of : Consist → Brake → ℕ → ℕ → RearPressure → Reading
reading_of c k time front rear = record {
  elapsed = elapsed_of k time;
  front = front;
  rear = rear_taken k time front rear;
  nominal = nominal_of c.set front (rear_taken k time front rear);
  application = application (rate_of k time front) k.hold front;
  release = release (rate_of k time front);
  emergency = emergency (rate_of k time front);
}
