-- Lines lie within the bytes that they are put into, at their end. Assumes nothing.
use mathlib.Core.Path.{◌≡◌, ap, ◌∙◌}
use Prim.Native.Nat.{ℕ, ◌-◌, ◌≤◌}
use native.Mathlib.Omega.{arith}
use mathlib.Core.List.{List, ◌++◌, append-nil}
use lib.ListN.{length, replicate, take, drop, drop_of_length-le}
use lib.Seq.{length-take-le, drop_at}
use Rattle.refusal.specs.declared.Refusal.{Refusal}
use Rattle.refusal.specs.Verdict.{Verdict}
use Rattle.line.specs.Line.{refusal_text, sample_text, put_before, put_last, room}
use Rattle.line.proofs.Fits.{refusal_fits, sample_fits}
use Rattle.line.proofs.Put.{put_at}

-- lines that are put into zeros begin within them, and there are as many bytes as before
module _ (n : ℕ) (now : List ℕ) where
  pub within : (text : List ℕ) → length text ≤ room → (n, now) ≡ put_last text (replicate room 0) → (n ≤ length now) × (length now ≡ room)
  within text h e = let p = put_at room (replicate room 0) (omega arith) text n now h e in (omega arith, p.1)

  pub refusal_within : (r : Refusal) → (n, now) ≡ put_last (refusal_text r) (replicate room 0) → (n ≤ length now) × (length now ≡ room)
  refusal_within r = within (refusal_text r) (omega (arith, refusal_fits r))

  pub sample_within : (v : Verdict) (s : List ℕ) → (n, now) ≡ put_last (sample_text v s) (replicate room 0) → (n ≤ length now) × (length now ≡ room)
  sample_within v s = within (sample_text v s) (sample_fits v s)

  -- and nothing stands behind them
  pub put_is : (text : List ℕ) → length text ≤ room → (n, now) ≡ put_last text (replicate room 0) → drop n now ≡ text
  unfolding put_before
  put_is text h e =
      let out = replicate room 0 in
      let from = room - length text in
      let inside : length (take from out) ≡ from = length-take-le from out (omega arith) in
      ap (λ (p : ℕ × List ℕ). drop p.0 p.1) e ∙ drop_at (take from out) (text ++ drop room out) from inside
      ∙ ap (λ (l : List ℕ). text ++ l) (drop_of_length-le out {i = room} (omega arith)) ∙ append-nil text
