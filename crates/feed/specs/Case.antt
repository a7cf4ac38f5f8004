-- The case of document 01 as one feed, "Whole output", and feeds that are refused or end early. Its proof is `computed` of proofs/Case.antt.
use Rattle.std.specs.Prelude.{◌≡◌, List, [], ◌∷◌, ◌++◌, ℕ, take, set}
use Rattle.brake.specs.declared.Choice.TheVariants.{FiveSeconds, Everlasting}
use Rattle.feed.specs.Output.{output_of}

-- 10 cars, 40 axles, 1,000 tons, 600 ft, 200,000 lb, 30,000 ms, recharge 50, set 9,000, offset 500
abbrev pub consist : List ℕ
consist = 5 ∷ 2 ∷ 128 ∷ 125 ∷ 0 ∷ 150 ∷ 0 ∷ 195 ∷ 80 ∷ 7 ∷ 83 ∷ 0 ∷ 202 ∷ 50 ∷ 129 ∷ 244 ∷ []

-- level profile 0 to 40,000
abbrev pub profile : List ℕ
profile = 0 ∷ 0 ∷ 0 ∷ 0 ∷ 0 ∷ 0 ∷ 0 ∷ 156 ∷ 64 ∷ 0 ∷ 0 ∷ 0 ∷ []

-- one target 5,531 at speed 0
abbrev pub targets : List ℕ
targets = 0 ∷ 21 ∷ 155 ∷ 0 ∷ 0 ∷ []

-- a sample at head 5,000, front and rear 90.0, with its time and the first two bytes of its speed
abbrev pub sample : ℕ → ℕ → ℕ → List ℕ
sample time a b = 83 ∷ 0 ∷ 0 ∷ time ∷ 128 ∷ 0 ∷ 19 ∷ 136 ∷ a ∷ b ∷ 0 ∷ 0 ∷ 66 ∷ 180 ∷ 0 ∷ 0 ∷ 66 ∷ 180 ∷ 0 ∷ 0 ∷ []

-- no blocks, two records of profile, one target
abbrev pub opening : List ℕ
opening = consist ++ 0 ∷ 0 ∷ 2 ∷ profile ++ 1 ∷ targets

-- blocks (02, R-1): one of 600 ft and 1,000 tons; and two, of 200 ft and 700 tons and of 400 ft and 300 tons
abbrev pub block : List ℕ
block = 4 ∷ 176 ∷ 15 ∷ 160 ∷ []

abbrev pub blocks : List ℕ
blocks = 1 ∷ 144 ∷ 10 ∷ 240 ∷ 3 ∷ 32 ∷ 4 ∷ 176 ∷ []

-- 0, 5,000, 0.0
abbrev pub first : List ℕ
first = sample 0 0 0

-- 1, 5,000, 1.0
abbrev pub second : List ℕ
second = sample 1 63 128

-- 2, 5,001, 0.0: the last byte of its head is another
abbrev pub third : List ℕ
third = set (sample 2 0 0) 7 137

-- `0 0 0 0 5000`
abbrev pub first_line : List ℕ
first_line = 48 ∷ 32 ∷ 48 ∷ 32 ∷ 48 ∷ 32 ∷ 48 ∷ 32 ∷ 53 ∷ 48 ∷ 48 ∷ 48 ∷ 10 ∷ []

-- `1 0 1 1 5032`
abbrev pub second_line : List ℕ
second_line = 49 ∷ 32 ∷ 48 ∷ 32 ∷ 49 ∷ 32 ∷ 49 ∷ 32 ∷ 53 ∷ 48 ∷ 51 ∷ 50 ∷ 10 ∷ []

-- `2 0 1 1 5001`
abbrev pub third_line : List ℕ
third_line = 50 ∷ 32 ∷ 48 ∷ 32 ∷ 49 ∷ 32 ∷ 49 ∷ 32 ∷ 53 ∷ 48 ∷ 48 ∷ 49 ∷ 10 ∷ []

-- and of each sample's second record (02, R-5), "bit, cause and location zero" before the penalty: `0 0 0 0 0`
abbrev pub first_emergency : List ℕ
first_emergency = 48 ∷ 32 ∷ 48 ∷ 32 ∷ 48 ∷ 32 ∷ 48 ∷ 32 ∷ 48 ∷ 10 ∷ []

-- `1 0 0 0 5032`
abbrev pub second_emergency : List ℕ
second_emergency = 49 ∷ 32 ∷ 48 ∷ 32 ∷ 48 ∷ 32 ∷ 48 ∷ 32 ∷ 53 ∷ 48 ∷ 51 ∷ 50 ∷ 10 ∷ []

-- `2 0 0 0 5001`
abbrev pub third_emergency : List ℕ
third_emergency = 50 ∷ 32 ∷ 48 ∷ 32 ∷ 48 ∷ 32 ∷ 48 ∷ 32 ∷ 53 ∷ 48 ∷ 48 ∷ 49 ∷ 10 ∷ []

-- what each sample prints
abbrev pub first_lines : List ℕ
first_lines = first_line ++ first_emergency

abbrev pub second_lines : List ℕ
second_lines = second_line ++ second_emergency

abbrev pub third_lines : List ℕ
third_lines = third_line ++ third_emergency

-- `x` and a digit, here by its character: 50 is `2`
abbrev pub crossed : ℕ → List ℕ
crossed digit = 120 ∷ 32 ∷ digit ∷ 10 ∷ []

-- `x 13`
abbrev pub thirteen : List ℕ
thirteen = 120 ∷ 32 ∷ 49 ∷ 51 ∷ 10 ∷ []

pub record Case : Type 0 where
  pub whole_output : output_of FiveSeconds (opening ++ first ++ second ++ third) ≡ first_lines ++ second_lines ++ third_lines
  -- no rear is lost in it, so that the old choice prints the same
  pub by_old_choice : output_of Everlasting (opening ++ first ++ second ++ third) ≡ first_lines ++ second_lines ++ third_lines
  -- the last 5 bytes do not come: `x 2`
  pub short_sample : output_of FiveSeconds (opening ++ first ++ second ++ take 15 third) ≡ first_lines ++ second_lines ++ crossed 50
  -- the first sample again, refused `x 9`, does not end the run
  pub goes_on : output_of FiveSeconds (opening ++ first ++ first ++ second) ≡ first_lines ++ crossed 57 ++ second_lines
  -- no samples, no output
  pub no_samples : output_of FiveSeconds opening ≡ []
  -- no bytes at all: `x 2`
  pub no_consist : output_of FiveSeconds [] ≡ crossed 50
  -- a profile of 1 record: `x 6`
  pub one_record : output_of FiveSeconds (consist ++ 0 ∷ 0 ∷ 1 ∷ profile ++ 1 ∷ targets ++ first) ≡ crossed 54
  -- 9 targets: `x 7`
  pub nine_targets : output_of FiveSeconds (consist ++ 0 ∷ 0 ∷ 2 ∷ profile ++ 9 ∷ targets ++ first) ≡ crossed 55
  -- on level track blocks change nothing
  pub level_blocks : output_of FiveSeconds (consist ++ 2 ∷ blocks ++ 0 ∷ 2 ∷ profile ++ 1 ∷ targets ++ first ++ second ++ third) ≡ first_lines ++ second_lines ++ third_lines
  -- no count, 65 blocks, one of two missing: `x 13`
  pub no_count : output_of FiveSeconds consist ≡ thirteen
  pub too_many_blocks : output_of FiveSeconds (consist ++ 65 ∷ blocks) ≡ thirteen
  pub short_blocks : output_of FiveSeconds (consist ++ 2 ∷ block) ≡ thirteen
  -- one whose length and weight are not the consist's: `x 13`
  pub wrong_sums : output_of FiveSeconds (consist ++ 1 ∷ take 4 blocks ++ 0 ∷ 2 ∷ profile ++ 1 ∷ targets ++ first) ≡ thirteen
  -- 96 tons for 10 cars, whatever follows: `x 5`
  pub too_light_first : output_of FiveSeconds (set consist 3 12 ++ 65 ∷ blocks) ≡ crossed 53
