-- Each public call is as defined: its contract says so, told by number and value, and different answers are told differently. Assumes nothing.
use mathlib.Core.Path.{◌≡◌, refl, sym, ap, ◌∙◌}
use mathlib.Core.List.{List}
use Prim.Native.Nat.{ℕ}
use Rattle.std.specs.Prelude.{Result, Ok, Err}
use Rattle.refusal.specs.Number.{answer_of}
use Rattle.refusal.specs.declared.Refusal.{Refusal}
use Rattle.session.specs.declared.Session.{Session}
use Rattle.session.specs.Session.{Answer}
use Rattle.held.proofs.Answers.{read_tells}
use Rattle.refusal.specs.Verdict.{Verdict}
use Rattle.refusal.proofs.Numbers.{told_one, result_is}
use Rattle.consist.specs.declared.Consist.{Consist}
use Rattle.sample.specs.declared.RawSample.{RawSample}
use Rattle.sample.specs.declared.Sample.{Sample}
use Rattle.sample.specs.Sample.{read_sample}
use Rattle.sample.proofs.Told as sample_told
use Rattle.decision.specs.declared.Decision.{Decision}
use Rattle.sampling.proofs.Computing.{computing}
use Rattle.session.proofs.Told as session_told
use Rattle.lent.specs.Lent.{Sampled}
use Rattle.writes.specs.Written.{consist_written, manifest_written, profile_written, targets_written}
use Rattle.tells.specs.Judged.{consist_judged, profile_judged, targets_judged, sample_judged}
use Rattle.refusal.proofs as refusal
use Rattle.consist.proofs as consist
use Rattle.profile.proofs as profile
use Rattle.targets.proofs as targets
use Rattle.sample.proofs as sample
use Rattle.decision.proofs as decision
use Rattle.session.proofs as session
use Rattle.sampling.proofs as sampling
use Rattle.held.proofs as held
use Rattle.stored.proofs as stored
use Rattle.lent.proofs as lent
use Rattle.writes.proofs as writes
use Rattle.tells.proofs as tells
use Rattle.buongilach.proofs as library
use Rattle.buongilach.proofs.records as records
use Rattle.demands.specs.Calls.{PublicCall, PlainCall, Calls}

-- a contract without a `requires` asks `Unit`
module _ {L : Type 0} {Given Answer Exit : L → Type 0} {Statement : Type 1 → Type 2} {Post : (l : L) → Given l → Answer l → Exit l → Type 0} where
  call : {Lent : Type 0} {lent : (l : L) → Exit l → Lent} {defined : (l : L) → Given l → Answer l × Lent} → ((M : Type 1) → Statement M)
      → ((l : L) (a : Given l) (r : Answer l) (x : Exit l) → Post l a r x → ◌≡◌ {A = Answer l × Lent} (r, lent l x) (defined l a))
      → PublicCall Statement (λ l a. Unit {0}) Post lent defined
  call met is = record { met = met; asks_nothing = λ l a. tt; is = is; one = λ l a r₁ r₂ x₁ x₂ p q. is l a r₁ x₁ p ∙ sym (is l a r₂ x₂ q) }

  plain : {defined : (l : L) → Given l → Answer l} → ((M : Type 1) → Statement M)
      → ((l : L) (a : Given l) (r : Answer l) (x : Exit l) → Post l a r x → r ≡ defined l a)
      → PlainCall Statement (λ l a. Unit {0}) Post defined
  plain met is = call met (λ l a r x p. ap (λ (y : Answer l). (y, tt)) (is l a r x p))

pub calls : Calls
unfolding computing read_sample consist_written manifest_written consist_judged profile_written profile_judged targets_written targets_judged sample_judged
calls = record {
  refusal_unless = plain (λ M. refusal.unless.Met.met) (λ l a r x p. p);
  refusal_number = plain (λ M. refusal.Refusal.number.Met.met) (λ l a r x p. p);
  refusal_verdict_number = plain (λ M. refusal.verdict_number.Met.met) (λ l a r x p. p);
  consist_read = plain (λ M. consist.read.Met.met) (λ l a r x p. result_is _ _ _ (told_one _ _ p));
  consist_is_sound = plain (λ M. consist.is_sound.Met.met) (λ l a r x p. p);
  consist_write = call (λ M. consist.write.Met.met) (λ l a r x p. told_one _ _ p);
  profile_judge = plain (λ M. profile.judge.Met.met) (λ l a r x p. result_is _ _ _ (told_one _ _ p));
  profile_segment_at = plain (λ M. profile.segment_at.Met.met) (λ l a r x p. p);
  profile_write = call (λ M. profile.write.Met.met) (λ l a r x p. told_one _ _ p);
  targets_judge = plain (λ M. targets.judge.Met.met) (λ l a r x p. result_is _ _ _ (told_one _ _ p));
  targets_target_at = plain (λ M. targets.target_at.Met.met) (λ l a r x p. p);
  targets_write = call (λ M. targets.write.Met.met) (λ l a r x p. told_one _ _ p);
  sample_lay_out = plain (λ M. sample.lay_out.Met.met) (λ l a r x p. result_is _ _ _ (sample_told.answer_one _ _ p));
  sample_judge = plain (λ M. sample.judge.Met.met) (λ l a r x p. result_is _ _ _ (sample_told.judged_one _ _ p));
  sample_read = plain (λ M. sample.read.Met.met) (λ l a r x p. result_is _ _ _ (sample_told.answer_one _ _ p));
  sample_write = call (λ M. sample.write.Met.met) (λ l a r x p. told_one _ _ p);
  decision_read = plain (λ M. decision.read.Met.met) (λ l a r x p. result_is _ _ _ (told_one _ _ p));
  decision_write = call (λ M. decision.write.Met.met) (λ l a r x p. told_one _ _ p);
  session_none = plain (λ M. session.none.Met.met) (λ l a r x p. session_told.session_one _ _ p);
  session_is_open = plain (λ M. session.is_open.Met.met) (λ l a r x p. p);
  session_open = call (λ M. session.open.Met.met) (λ l a r x p. ap {B = Verdict × Session} (λ (y : Answer). (y.verdict, y.session)) (session_told.answer_one _ _ p));
  session_sample = call (λ M. sampling.sample.Met.met) (λ l a r x p. ap {B = Verdict × (Session × List ℕ)} (λ (y : Answer × List ℕ). (y.0.verdict, (y.0.session, y.1))) (session_told.call_one _ _ p));
  held_read = plain (λ M. held.read.Met.met) (λ l a r x p. result_is _ _ _ (read_tells _ _ p));
  held_read_start = plain (λ M. held.read_start.Met.met) (λ l a r x p. result_is _ _ _ (read_tells _ _ p));
  stored_write = call (λ M. stored.write.Met.met) (λ l a r x p. told_one _ _ p);
  lent_open = call (λ M. lent.open.Met.met) (λ l a r x p. p);
  lent_sample = call (λ M. lent.sample.Met.met) (λ l a r x p. ap {B = ℕ × (List ℕ × List ℕ)} (λ ((n, x, d) : Sampled). (n, (x, d))) p);
  lent_is_open = plain (λ M. lent.is_open.Met.met) (λ l a r x p. p);
  lent_application = plain (λ M. lent.application.Met.met) (λ l a r x p. p);
  writes_consist = call (λ M. writes.consist.Met.met) (λ l a r x p. p);
  writes_manifest = call (λ M. writes.manifest.Met.met) (λ l a r x p. p);
  writes_profile = call (λ M. writes.profile.Met.met) (λ l a r x p. p);
  writes_targets = call (λ M. writes.targets.Met.met) (λ l a r x p. p);
  writes_sample = call (λ M. writes.sample.Met.met) (λ l a r x p. p);
  tells_consist = plain (λ M. tells.consist.Met.met) (λ l a r x p. p);
  tells_profile = plain (λ M. tells.profile.Met.met) (λ l a r x p. p);
  tells_targets = plain (λ M. tells.targets.Met.met) (λ l a r x p. p);
  tells_sample = plain (λ M. tells.sample.Met.met) (λ l a r x p. p);
  tells_decision = call (λ M. tells.decision.Met.met) (λ l a r x p. p);
  buongilach_open = call (λ M. library.buongilach_open.Met.met) (λ l a r x p. p);
  buongilach_open_with = call (λ M. library.buongilach_open_with.Met.met) (λ l a r x p. p);
  buongilach_sample = call (λ M. library.buongilach_sample.Met.met) (λ l a r x p. ap {B = ℕ × (List ℕ × List ℕ)} (λ ((n, x, d) : Sampled). (n, (x, d))) p);
  buongilach_is_open = plain (λ M. library.buongilach_is_open.Met.met) (λ l a r x p. p);
  buongilach_application = plain (λ M. library.buongilach_application.Met.met) (λ l a r x p. p);
  buongilach_write_consist = call (λ M. records.buongilach_write_consist.Met.met) (λ l a r x p. p);
  buongilach_write_manifest = call (λ M. records.buongilach_write_manifest.Met.met) (λ l a r x p. p);
  buongilach_judge_consist = plain (λ M. records.buongilach_judge_consist.Met.met) (λ l a r x p. p);
  buongilach_write_profile = call (λ M. records.buongilach_write_profile.Met.met) (λ l a r x p. p);
  buongilach_judge_profile = plain (λ M. records.buongilach_judge_profile.Met.met) (λ l a r x p. p);
  buongilach_write_targets = call (λ M. records.buongilach_write_targets.Met.met) (λ l a r x p. p);
  buongilach_judge_targets = plain (λ M. records.buongilach_judge_targets.Met.met) (λ l a r x p. p);
  buongilach_write_sample = call (λ M. records.buongilach_write_sample.Met.met) (λ l a r x p. p);
  buongilach_judge_sample = plain (λ M. records.buongilach_judge_sample.Met.met) (λ l a r x p. p);
  buongilach_read_decision = call (λ M. records.buongilach_read_decision.Met.met) (λ l a r x p. p);
  buongilach_version = plain (λ M. library.buongilach_version.Met.met) (λ l a r x p. p);
}
