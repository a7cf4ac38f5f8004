-- "Consist, 16 bytes", and the blocks that may follow it: the layout, its reader and its writer. Definitions only.
use Rattle.std.specs.Prelude.{ℕ, ◌+◌, ◌*◌, List, [], ◌∷◌, ◌++◌, Bool, not, ◌&&◌, length, get_or, take, drop, ltb}
use Rattle.bits.specs.Bytes.{fields_in, bytes_from}
use Rattle.bits.specs.Ranges.{inside}
use Rattle.refusal.specs.Lowest.{Rule, lowest}
use Rattle.refusal.specs.Written.{no_room, written}
use Rattle.refusal.specs.declared.Refusal.TheVariants.{WrongLength, OutOfRange, TooLight, NoRoom, BrokenBlocks}
use Rattle.refusal.specs.Verdict.{Verdict, Refused}
use Rattle.refusal.specs.declared.Refusal.{Refusal}
use Rattle.refusal.specs.Steps.{kept}
use Rattle.blocks.specs.declared.Blocks.{Blocks}
use Rattle.blocks.specs.Blocks as blocks
use Rattle.consist.specs.declared.Consist.{Consist}

-- 16 bytes before the blocks
abbrev pub size : ℕ
size = 16

-- and with them
abbrev pub size_of : Consist → ℕ
size_of c = size + blocks.size * c.blocks.count

-- cars, axles, weight, length in feet, rated brake force in lb, application time in ms, recharge per second, set pressure, target offset in feet
abbrev pub fields_of : Consist → List ℕ
fields_of c =
    c.cars ∷ c.axles ∷ c.weight ∷ c.length ∷ c.rated ∷ c.application ∷ c.recharge ∷ c.set ∷ c.offset ∷ []

abbrev pub widths : List ℕ
widths = 9 ∷ 11 ∷ 15 ∷ 15 ∷ 24 ∷ 18 ∷ 10 ∷ 14 ∷ 12 ∷ []

abbrev pub ranges : List (ℕ × ℕ)
ranges =
    (1, 250) ∷ (2, 2000) ∷ (10, 30000) ∷ (50, 20000) ∷ (0, 10000000) ∷ (1000, 240000) ∷ (1, 1000) ∷ (7000, 11000) ∷ (0, 4000) ∷ []

abbrev pub of_fields : List ℕ → Consist
of_fields fs = record {
  cars = get_or fs 0 0;
  axles = get_or fs 1 0;
  weight = get_or fs 2 0;
  length = get_or fs 3 0;
  rated = get_or fs 4 0;
  application = get_or fs 5 0;
  recharge = get_or fs 6 0;
  set = get_or fs 7 0;
  offset = get_or fs 8 0;
  blocks = blocks.none;
}

-- a consist with other blocks, and with none
abbrev pub with_blocks : Consist → Blocks → Consist
with_blocks c b = record {
  cars = c.cars;
  axles = c.axles;
  weight = c.weight;
  length = c.length;
  rated = c.rated;
  application = c.application;
  recharge = c.recharge;
  set = c.set;
  offset = c.offset;
  blocks = b;
}

abbrev pub alone : Consist → Consist
alone c = with_blocks c blocks.none

-- the consist that bytes stand for, and the bytes of a consist: those before its blocks, and all
unfoldable pub consist_in : List ℕ → Consist
consist_in s = with_blocks (of_fields (fields_in widths (take size s))) (blocks.lay_of (drop size s))

unfoldable pub front_of : Consist → List ℕ
front_of c = bytes_from size widths (fields_of c)

unfoldable pub bytes_of : Consist → List ℕ
bytes_of c = front_of c ++ blocks.bytes_of c.blocks

unfoldable pub in_range : Consist → Bool
in_range c = inside ranges (fields_of c)

-- 4: a consist field out of its range
abbrev pub out_of_range : Consist → Bool
out_of_range c = not (in_range c)

-- 5: weight under 10 tons a car
abbrev pub tons_a_car : ℕ
tons_a_car = 10

unfoldable pub too_light : Consist → Bool
too_light c = ltb c.weight (tons_a_car * c.cars)

-- 13: blocks that break their rules, as bytes behind a consist's 16 and as a value
unfoldable pub broken_behind : List ℕ → Bool
broken_behind s = blocks.is_broken (drop size s) (consist_in s).length (consist_in s).weight

unfoldable pub sound_blocks : Consist → Bool
sound_blocks c = blocks.is_sound c.blocks c.length c.weight

abbrev pub broken_blocks : Consist → Bool
broken_blocks c = not (sound_blocks c)

-- none of these
unfoldable pub is_sound : Consist → Bool
is_sound c = in_range c && not (too_light c) && sound_blocks c

-- what a reader and a writer refuse alike
abbrev pub rules : Consist → List Rule
rules c = (out_of_range c, OutOfRange) ∷ (too_light c, TooLight) ∷ []

-- the consist of an answer that refuses
abbrev pub none : Consist
none = of_fields []

-- the lowest refusal, or the consist
abbrev pub answer : Verdict → Consist → Verdict × Consist
answer v c = (v, kept v c none)

abbrev pub refused_with : Refusal → Verdict × Consist
refused_with r = answer (Refused r) none

-- 2: "a consist under 16 bytes"
unfoldable pub too_short : List ℕ → Bool
too_short s = ltb (length s) size

abbrev pub read_rules : List ℕ → List Rule
read_rules s = (too_short s, WrongLength) ∷ rules (consist_in s) ++ (broken_behind s, BrokenBlocks) ∷ []

unfoldable pub read_consist : List ℕ → Verdict × Consist
read_consist s = answer (lowest (read_rules s)) (consist_in s)

-- "Writers refuse what the reader would, with its number, touching nothing, and never touch bytes past the record."
abbrev pub write_rules : Consist → List ℕ → List Rule
write_rules c out = rules c ++ (no_room (size_of c) out, NoRoom) ∷ (broken_blocks c, BrokenBlocks) ∷ []

unfoldable pub write_consist : Consist → List ℕ → Verdict × List ℕ
write_consist c out = written (lowest (write_rules c out)) (bytes_of c) out
