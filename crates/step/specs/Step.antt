-- One step of 16 ft: "In each step, from the values at its start". Definitions only.
use Rattle.std.specs.Prelude.{ℕ, ◌+◌, ◌*◌, ◌/◌, ℤ, pos, ◌+ℤ◌, ◌-ℤ◌, ◌*ℤ◌}
use Rattle.whole.specs.Floor.{floor_div, cut}
use Rattle.whole.specs.Root.{root_of}
use Rattle.blocks.specs.declared.Blocks.{Blocks}
use Rattle.blocks.specs.Blocks.{none}
use Rattle.consist.specs.declared.Consist.{Consist}
use Rattle.track.specs.declared.Track.{Track}
use Rattle.track.specs.declared.Under.{Under}
use Rattle.shares.specs.Shares.{ground_under}
use Rattle.step.specs.declared.Load.{Load}
use Rattle.step.specs.declared.Run.{Run}

-- "Steps of 16 ft, at most 2,048"
abbrev pub steps_most : ℕ
steps_most = 2048

-- G and C by the head's location
pub record Ground : Type 0 where
  pub grade : ℕ → ℤ
  pub curvature : ℕ → ℕ

-- under a train with this length, weight and blocks
abbrev pub ground_for : Track → (length weight : ℕ) → Blocks → Ground
ground_for t length weight b = record {
  grade = λ h. (ground_under t h length weight b).grade;
  curvature = λ h. (ground_under t h length weight b).curvature;
}

abbrev pub ground_of : Track → Consist → Ground
ground_of t c = ground_for t c.length c.weight c.blocks

-- these averages wherever the head is
abbrev pub even : Under → Ground
even u = record { grade = λ h. u.grade; curvature = λ h. u.curvature }

-- "Opposing force in millionths of a lb: 1,000,000 F + 600,000 W + 20,000,000 n + 100 W s + 7 N q + 200,000 W G + 8,000 W C"
-- Document 02's R-11: "the force takes 2,000 W G in place of 200,000 W G"
unfoldable pub opposing : Consist → ℕ → ℕ → ℕ → ℤ → ℕ → ℤ
opposing c f s q g k =
    pos (1000000 * f + 600000 * c.weight + 20000000 * c.axles + 100 * (c.weight * s) + 7 * (c.cars * q))
    +ℤ pos (2000 * c.weight) *ℤ g
    +ℤ pos (8000 * (c.weight * k))

-- "q loses 1,449 × that / (605,000 W), down, rounded here only"; "It may gain."
unfoldable pub loss : Consist → ℕ → ℕ → ℕ → ℤ → ℕ → ℤ
loss c f s q g k = floor_div (pos 1449 *ℤ opposing c f s q g k) (pos (605000 * c.weight))

-- "t gains 12,000,000 / (11 s) ms, down."
unfoldable pub step_time : ℕ → ℕ
step_time s = 12000000 / (11 * s)

-- the step, under a brake force that is a function of t; a q below zero counts as zero. "s = whole square root of q." "Head gains 16."
unfoldable pub step_of : Consist → (ℕ → ℕ) → Ground → Run → Run
step_of c force terrain r = record {
  head = r.head + 16;
  clock = r.clock + step_time (root_of r.q);
  q = cut (pos r.q -ℤ loss c (force r.clock) (root_of r.q) r.q (terrain.grade r.head) (terrain.curvature r.head));
}

-- ---- what a step reads of a consist

abbrev pub load_of : Consist → Load
load_of c = record { cars = c.cars; axles = c.axles; weight = c.weight; rated = c.rated }

-- a consist with this load, and nothing else
abbrev pub carrying : Load → Consist
carrying l = record {
  cars = l.cars;
  axles = l.axles;
  weight = l.weight;
  length = 0;
  rated = l.rated;
  application = 0;
  recharge = 0;
  set = 0;
  offset = 0;
  blocks = none;
}
