-- Figures of the lines and of the counts, as one statement. Its proof is `figures` of proofs/Figures.antt.
use Rattle.std.specs.Prelude.{◌≡◌, true, false, [], ◌∷◌}
use Rattle.refusal.specs.declared.Refusal.TheVariants.{BrokenProfile, NoRoom, BrokenBlocks}
use Rattle.opening.specs.Opening.{Bytes, Broken, blocks_ahead, profile_ahead, targets_ahead}
use Rattle.line.specs.Line.{decimal, decision_text, refusal_text}
use Rattle.feed.specs.Case.{first_line, second_emergency, crossed, thirteen}

pub record Figures : Type 0 where
  -- `0 0 0 0 5000`, of 01's case
  pub first_line_lem : decision_text (record { emergency = false; time = 0; state = 0; penalty = false; cause = 0; stop = 5000 }) ≡ first_line
  -- `1 0 0 0 5032`, the second record "alike"
  pub second_record : decision_text (record { emergency = true; time = 1; state = 0; penalty = false; cause = 0; stop = 5032 }) ≡ second_emergency
  -- `x 6`, `x 12` and `x 13`
  pub one_digit : refusal_text BrokenProfile ≡ crossed 54
  pub two_digits : refusal_text NoRoom ≡ 120 ∷ 32 ∷ 49 ∷ 50 ∷ 10 ∷ []
  pub last_number : refusal_text BrokenBlocks ≡ thirteen
  -- the no-stop value
  pub largest : decimal 16777215 ≡ 49 ∷ 54 ∷ 55 ∷ 55 ∷ 55 ∷ 50 ∷ 49 ∷ 53 ∷ []
  -- 257 records are announced with the high byte first, 258 and 1 are none, nor is a single byte
  pub most_records : profile_ahead (1 ∷ 1 ∷ []) ≡ Bytes 1542
  pub too_many : profile_ahead (1 ∷ 2 ∷ []) ≡ Broken
  pub too_few : profile_ahead (0 ∷ 1 ∷ []) ≡ Broken
  pub cut_short : profile_ahead (2 ∷ []) ≡ Broken
  -- 64 blocks are announced, 65 are none
  pub no_blocks : blocks_ahead (0 ∷ []) ≡ Bytes 0
  pub most_blocks : blocks_ahead (64 ∷ []) ≡ Bytes 256
  pub more_blocks : blocks_ahead (65 ∷ []) ≡ Broken
  pub missing_count : blocks_ahead [] ≡ Broken
  pub no_targets : targets_ahead (0 ∷ []) ≡ Bytes 0
  pub eight : targets_ahead (8 ∷ []) ≡ Bytes 40
  pub nine : targets_ahead (9 ∷ []) ≡ Broken
  pub missing : targets_ahead [] ≡ Broken
