-- Each public call once: its contract, as the check reads it from the source, is one equation with a definition, and no second answer satisfies it.
-- Statements; proofs/Calls.antt proves them.
use Rattle.std.specs.Prelude.{◌≡◌, Result, Ok, Err, List, [], ◌∷◌, ℕ}
use Rattle.refusal.specs.Number.{number_of, number_of_verdict, told, result_of}
use Rattle.refusal.specs.Steps.{step_of}
use Rattle.refusal.specs.Verdict.{Verdict, Accepted, Refused}
use Rattle.refusal.specs.declared.Refusal.{Refusal}
use Rattle.session.specs.declared.Session.{Session}
use Rattle.consist.specs.Consist.{is_sound, of_fields, read_consist, write_consist}
use Rattle.profile.specs.Profile.{judge_profile, segment_at, write_profile}
use Rattle.targets.specs.Targets.{judge_targets, target_at, write_targets}
use Rattle.sample.specs.Sample.{lay_out, judge_sample, read_sample, write_sample}
use Rattle.decision.specs.Decision.{read_decision, write_decision}
use Rattle.brake.specs.declared.Choice.TheVariants.{FiveSeconds}
use Rattle.brake.specs.Rear.{choice_of}
use Rattle.session.specs.Session.{none_open, is_open}
use Rattle.session.specs.Open.{open_of}
use Rattle.sampling.specs.Sample.{sample_call}
use Rattle.held.specs.Held.{record_at, read_session, write_session}
use Rattle.lent.specs.Lent.{open_bytes, sample_bytes, is_open_bytes, application_bytes}
use Rattle.writes.specs.Written.{write_manifest, sample_fields, sample_written}
use Rattle.tells.specs.Judged.{decision_as_read}
use Rattle.buongilach.specs.Version.{version}
use Rattle.refusal.proofs as refusal
use Rattle.consist.proofs as consist
use Rattle.profile.proofs as profile
use Rattle.targets.proofs as targets
use Rattle.sample.proofs as sample
use Rattle.decision.proofs as decision
use Rattle.session.proofs as session
use Rattle.sampling.proofs as sampling
use Rattle.held.proofs as held
use Rattle.stored.proofs as stored
use Rattle.lent.proofs as lent
use Rattle.writes.proofs as writes
use Rattle.tells.proofs as tells
use Rattle.buongilach.proofs as library
use Rattle.buongilach.proofs.records as records

-- `l` are a call's lifetimes, `a` is what it is given, `r` its answer, `x` what it was given, after the call
module _ {L : Type 0} {Given Answer Exit : L → Type 0} (Statement : Type 1 → Type 2)
    (Asked : (l : L) → Given l → Type 0) (Post : (l : L) → Given l → Answer l → Exit l → Type 0) where
  -- a call that is lent something to be written: `lent` is every byte of it, after the call; answer and bytes are as `defined`
  pub record PublicCall {Lent : Type 0} (lent : (l : L) → Exit l → Lent) (defined : (l : L) → Given l → Answer l × Lent) : Type 2 where
    -- the code meets the contract: where it is given what the contract asks, it ends, is nowhere undefined, and leaves what the contract says
    pub met : (M : Type 1) → Statement M
    -- "No input may break it": the contract asks nothing, so there is no `requires`
    pub asks_nothing : (l : L) (a : Given l) → Asked l a
    -- what the contract allows is as defined: "the answer, the session and every lent byte afterwards, refusals as well"
    pub is : (l : L) (a : Given l) (r : Answer l) (x : Exit l) → Post l a r x → ◌≡◌ {A = Answer l × Lent} (r, lent l x) (defined l a)
    -- "Show that no second answer satisfies it": of the same input, two that the contract allows are one
    pub one : (l : L) (a : Given l) (r₁ r₂ : Answer l) (x₁ x₂ : Exit l) → Post l a r₁ x₁ → Post l a r₂ x₂
        → ◌≡◌ {A = Answer l × Lent} (r₁, lent l x₁) (r₂, lent l x₂)

  -- a call that is lent nothing to be written; what is lent to be read, it can't change
  abbrev pub PlainCall : ((l : L) → Given l → Answer l) → Type 2
  PlainCall defined = PublicCall {Lent = Unit {0}} (λ l x. tt) (λ l a. (defined l a, tt))

-- `now` are the bytes of a slice, or its numbers
pub record Calls : Type 2 where
  -- whether a step of a reader or a writer goes on
  pub refusal_unless : PlainCall refusal.unless.Statement.statement refusal.unless.Reads.Asked refusal.unless.Reads.Post
      (λ l (broken, _). step_of broken)
  -- the number that a refusal, and a verdict, carries
  pub refusal_number : PlainCall refusal.Refusal.number.Statement.statement refusal.Refusal.number.Reads.Asked refusal.Refusal.number.Reads.Post
      (λ l (r, _). number_of r)
  pub refusal_verdict_number : PlainCall refusal.verdict_number.Statement.statement refusal.verdict_number.Reads.Asked refusal.verdict_number.Reads.Post
      (λ l (v, _). number_of_verdict v)
  -- the consist: reader, test, writer
  pub consist_read : PlainCall consist.read.Statement.statement consist.read.Reads.Asked consist.read.Reads.Post
      (λ l (s, _). result_of (read_consist s.now))
  pub consist_is_sound : PlainCall consist.is_sound.Statement.statement consist.is_sound.Reads.Asked consist.is_sound.Reads.Post
      (λ l (c, _). is_sound c)
  pub consist_write : PublicCall consist.write.Statement.statement consist.write.Reads.Asked consist.write.Reads.Post
      (λ l (_, (out, _)). out.now) (λ l (c, (out, _)). write_consist c out.now)
  -- the profile: judge, one record, writer
  pub profile_judge : PlainCall profile.judge.Statement.statement profile.judge.Reads.Asked profile.judge.Reads.Post
      (λ l (p, _). result_of (judge_profile p.now))
  pub profile_segment_at : PlainCall profile.segment_at.Statement.statement profile.segment_at.Reads.Asked profile.segment_at.Reads.Post
      (λ l (p, (k, _)). segment_at p.now k)
  pub profile_write : PublicCall profile.write.Statement.statement profile.write.Reads.Asked profile.write.Reads.Post
      (λ l (_, (_, (_, (out, _)))). out.now)
      (λ l (starts, (grades, (curvatures, (out, _)))). write_profile starts.now grades.now curvatures.now out.now)
  -- the targets: judge, one record, writer
  pub targets_judge : PlainCall targets.judge.Statement.statement targets.judge.Reads.Asked targets.judge.Reads.Post
      (λ l (t, _). result_of (judge_targets t.now))
  pub targets_target_at : PlainCall targets.target_at.Statement.statement targets.target_at.Reads.Asked targets.target_at.Reads.Post
      (λ l (t, (k, _)). target_at t.now k)
  pub targets_write : PublicCall targets.write.Statement.statement targets.write.Reads.Asked targets.write.Reads.Post
      (λ l (_, (_, (out, _))). out.now) (λ l (locations, (speeds, (out, _))). write_targets locations.now speeds.now out.now)
  -- the sample: layout, judgement of the readings, reader, writer
  pub sample_lay_out : PlainCall sample.lay_out.Statement.statement sample.lay_out.Reads.Asked sample.lay_out.Reads.Post
      (λ l (s, _). result_of (lay_out s.now))
  pub sample_judge : PlainCall sample.judge.Statement.statement sample.judge.Reads.Asked sample.judge.Reads.Post
      (λ l (raw, _). result_of (judge_sample raw))
  pub sample_read : PlainCall sample.read.Statement.statement sample.read.Reads.Asked sample.read.Reads.Post
      (λ l (s, _). result_of (read_sample s.now))
  pub sample_write : PublicCall sample.write.Statement.statement sample.write.Reads.Asked sample.write.Reads.Post
      (λ l (_, (out, _)). out.now) (λ l (raw, (out, _)). write_sample raw out.now)
  -- the decision: reader, writer
  pub decision_read : PlainCall decision.read.Statement.statement decision.read.Reads.Asked decision.read.Reads.Post
      (λ l (s, _). result_of (read_decision s.now))
  pub decision_write : PublicCall decision.write.Statement.statement decision.write.Reads.Asked decision.write.Reads.Post
      (λ l (_, (out, _)). out.now) (λ l (d, (out, _)). write_decision d out.now)
  -- the session: before any opening, the test; lent, an opening and a sample
  pub session_none : PlainCall session.none.Statement.statement session.none.Reads.Asked session.none.Reads.Post
      (λ l _. none_open)
  pub session_is_open : PlainCall session.is_open.Statement.statement session.is_open.Reads.Asked session.is_open.Reads.Post
      (λ l (x, _). is_open x)
  pub session_open : PublicCall session.open.Statement.statement session.open.Reads.Asked session.open.Reads.Post
      (λ l (x, _). x.now)
      (λ l (x, (s, (choice, _))). let a = open_of x.now s.now choice in (a.verdict, a.session))
  pub session_sample : PublicCall sampling.sample.Statement.statement sampling.sample.Reads.Asked sampling.sample.Reads.Post
      {Lent = Session × List ℕ} (λ l (x, (_, (_, (_, (out, _))))). (x.now, out.now))
      (λ l (x, (s, (p, (t, (out, _))))). let a = sample_call x.now s.now p.now t.now out.now in (a.0.verdict, (a.0.session, a.1)))
  -- the session's record: reader, of all bytes and of those that others begin with; writer
  pub held_read : PlainCall held.read.Statement.statement held.read.Reads.Asked held.read.Reads.Post
      (λ l (s, _). result_of (read_session s.now))
  pub held_read_start : PlainCall held.read_start.Statement.statement held.read_start.Reads.Asked held.read_start.Reads.Post
      (λ l (s, _). result_of (read_session (record_at s.now)))
  pub stored_write : PublicCall stored.write.Statement.statement stored.write.Reads.Asked stored.write.Reads.Post
      (λ l (_, (out, _)). out.now) (λ l (x, (out, _)). write_session x out.now)
  -- the session in lent bytes: an opening, a sample, the test, the time in force
  pub lent_open : PublicCall lent.open.Statement.statement lent.open.Reads.Asked lent.open.Reads.Post
      (λ l (session, _). session.now) (λ l (session, (consist, (choice, _))). open_bytes consist.now session.now choice)
  pub lent_sample : PublicCall lent.sample.Statement.statement lent.sample.Reads.Asked lent.sample.Reads.Post
      {Lent = List ℕ × List ℕ} (λ l (session, (_, (_, (_, (decision, _))))). (session.now, decision.now))
      (λ l (session, (s, (p, (t, (decision, _))))). let (n, x, d) = sample_bytes session.now s.now p.now t.now decision.now in (n, (x, d)))
  pub lent_is_open : PlainCall lent.is_open.Statement.statement lent.is_open.Reads.Asked lent.is_open.Reads.Post
      (λ l (session, _). is_open_bytes session.now)
  pub lent_application : PlainCall lent.application.Statement.statement lent.application.Reads.Asked lent.application.Reads.Post
      (λ l (session, _). application_bytes session.now)
  -- each record from numbers, written; where the definition is one above, its verdict is told as a number
  pub writes_consist : PublicCall writes.consist.Statement.statement writes.consist.Reads.Asked writes.consist.Reads.Post
      (λ l (_, (_, (_, (_, (_, (_, (_, (_, (_, (out, _)))))))))). out.now)
      (λ l (cars, (axles, (weight, (length, (rated, (application, (recharge, (set, (offset, (out, _)))))))))).
      told (write_consist (of_fields (cars ∷ axles ∷ weight ∷ length ∷ rated ∷ application ∷ recharge ∷ set ∷ offset ∷ [])) out.now))
  pub writes_manifest :
      PublicCall writes.manifest.Statement.statement writes.manifest.Reads.Asked writes.manifest.Reads.Post
      (λ l (_, (_, (_, (_, (_, (_, (_, (_, (_, (_, (_, (out, _)))))))))))). out.now)
      (λ l (cars, (axles, (weight, (length, (rated, (application, (recharge, (set, (offset, (lengths, (weights, (out, _)))))))))))).
      told (write_manifest (of_fields (cars ∷ axles ∷ weight ∷ length ∷ rated ∷ application ∷ recharge ∷ set ∷ offset ∷ [])) lengths.now weights.now out.now))
  pub writes_profile : PublicCall writes.profile.Statement.statement writes.profile.Reads.Asked writes.profile.Reads.Post
      (λ l (_, (_, (_, (out, _)))). out.now)
      (λ l (starts, (grades, (curvatures, (out, _)))). told (write_profile starts.now grades.now curvatures.now out.now))
  pub writes_targets : PublicCall writes.targets.Statement.statement writes.targets.Reads.Asked writes.targets.Reads.Post
      (λ l (_, (_, (out, _))). out.now) (λ l (locations, (speeds, (out, _))). told (write_targets locations.now speeds.now out.now))
  pub writes_sample : PublicCall writes.sample.Statement.statement writes.sample.Reads.Asked writes.sample.Reads.Post
      (λ l (_, (_, (_, (_, (_, (_, (out, _))))))). out.now)
      (λ l (time, (head, (speed, (front, (present, (rear, (out, _))))))). sample_written (sample_fields time present head speed front rear) out.now)
  -- each record told as numbers: judged, and a decision read
  pub tells_consist : PlainCall tells.consist.Statement.statement tells.consist.Reads.Asked tells.consist.Reads.Post
      (λ l (s, _). (told (read_consist s.now)).0)
  pub tells_profile : PlainCall tells.profile.Statement.statement tells.profile.Reads.Asked tells.profile.Reads.Post
      (λ l (p, _). (told (judge_profile p.now)).0)
  pub tells_targets : PlainCall tells.targets.Statement.statement tells.targets.Reads.Asked tells.targets.Reads.Post
      (λ l (t, _). (told (judge_targets t.now)).0)
  pub tells_sample : PlainCall tells.sample.Statement.statement tells.sample.Reads.Asked tells.sample.Reads.Post
      (λ l (s, _). (told (read_sample s.now)).0)
  pub tells_decision : PublicCall tells.decision.Statement.statement tells.decision.Reads.Asked tells.decision.Reads.Post
      (λ l (_, (numbers, _)). numbers.now) (λ l (s, (numbers, _)). decision_as_read s.now numbers.now)
  -- for C, each as above: the session in lent bytes
  pub buongilach_open : PublicCall library.buongilach_open.Statement.statement library.buongilach_open.Reads.Asked library.buongilach_open.Reads.Post
      (λ l (session, _). session.now) (λ l (session, (consist, _)). open_bytes consist.now session.now FiveSeconds)
  pub buongilach_open_with :
      PublicCall library.buongilach_open_with.Statement.statement library.buongilach_open_with.Reads.Asked library.buongilach_open_with.Reads.Post
      (λ l (session, _). session.now) (λ l (session, (consist, (everlasting, _))). open_bytes consist.now session.now (choice_of everlasting))
  pub buongilach_sample : PublicCall library.buongilach_sample.Statement.statement library.buongilach_sample.Reads.Asked library.buongilach_sample.Reads.Post
      {Lent = List ℕ × List ℕ} (λ l (session, (_, (_, (_, (decision, _))))). (session.now, decision.now))
      (λ l (session, (s, (p, (t, (decision, _))))). let (n, x, d) = sample_bytes session.now s.now p.now t.now decision.now in (n, (x, d)))
  pub buongilach_is_open : PlainCall library.buongilach_is_open.Statement.statement library.buongilach_is_open.Reads.Asked library.buongilach_is_open.Reads.Post
      (λ l (session, _). is_open_bytes session.now)
  pub buongilach_application :
      PlainCall library.buongilach_application.Statement.statement library.buongilach_application.Reads.Asked library.buongilach_application.Reads.Post
      (λ l (session, _). application_bytes session.now)
  -- the records, written, judged, and a decision read
  pub buongilach_write_consist :
      PublicCall records.buongilach_write_consist.Statement.statement records.buongilach_write_consist.Reads.Asked records.buongilach_write_consist.Reads.Post
      (λ l (_, (_, (_, (_, (_, (_, (_, (_, (_, (out, _)))))))))). out.now)
      (λ l (cars, (axles, (weight, (length, (rated, (application, (recharge, (set, (offset, (out, _)))))))))).
      told (write_consist (of_fields (cars ∷ axles ∷ weight ∷ length ∷ rated ∷ application ∷ recharge ∷ set ∷ offset ∷ [])) out.now))
  pub buongilach_write_manifest :
      PublicCall records.buongilach_write_manifest.Statement.statement records.buongilach_write_manifest.Reads.Asked records.buongilach_write_manifest.Reads.Post
      (λ l (_, (_, (_, (_, (_, (_, (_, (_, (_, (_, (_, (out, _)))))))))))). out.now)
      (λ l (cars, (axles, (weight, (length, (rated, (application, (recharge, (set, (offset, (lengths, (weights, (out, _)))))))))))).
      told (write_manifest (of_fields (cars ∷ axles ∷ weight ∷ length ∷ rated ∷ application ∷ recharge ∷ set ∷ offset ∷ [])) lengths.now weights.now out.now))
  pub buongilach_judge_consist :
      PlainCall records.buongilach_judge_consist.Statement.statement records.buongilach_judge_consist.Reads.Asked records.buongilach_judge_consist.Reads.Post
      (λ l (s, _). (told (read_consist s.now)).0)
  pub buongilach_write_profile :
      PublicCall records.buongilach_write_profile.Statement.statement records.buongilach_write_profile.Reads.Asked records.buongilach_write_profile.Reads.Post
      (λ l (_, (_, (_, (out, _)))). out.now)
      (λ l (starts, (grades, (curvatures, (out, _)))). told (write_profile starts.now grades.now curvatures.now out.now))
  pub buongilach_judge_profile :
      PlainCall records.buongilach_judge_profile.Statement.statement records.buongilach_judge_profile.Reads.Asked records.buongilach_judge_profile.Reads.Post
      (λ l (p, _). (told (judge_profile p.now)).0)
  pub buongilach_write_targets :
      PublicCall records.buongilach_write_targets.Statement.statement records.buongilach_write_targets.Reads.Asked records.buongilach_write_targets.Reads.Post
      (λ l (_, (_, (out, _))). out.now) (λ l (locations, (speeds, (out, _))). told (write_targets locations.now speeds.now out.now))
  pub buongilach_judge_targets :
      PlainCall records.buongilach_judge_targets.Statement.statement records.buongilach_judge_targets.Reads.Asked records.buongilach_judge_targets.Reads.Post
      (λ l (t, _). (told (judge_targets t.now)).0)
  pub buongilach_write_sample :
      PublicCall records.buongilach_write_sample.Statement.statement records.buongilach_write_sample.Reads.Asked records.buongilach_write_sample.Reads.Post
      (λ l (_, (_, (_, (_, (_, (_, (out, _))))))). out.now)
      (λ l (time, (head, (speed, (front, (present, (rear, (out, _))))))). sample_written (sample_fields time present head speed front rear) out.now)
  pub buongilach_judge_sample :
      PlainCall records.buongilach_judge_sample.Statement.statement records.buongilach_judge_sample.Reads.Asked records.buongilach_judge_sample.Reads.Post
      (λ l (s, _). (told (read_sample s.now)).0)
  pub buongilach_read_decision :
      PublicCall records.buongilach_read_decision.Statement.statement records.buongilach_read_decision.Reads.Asked records.buongilach_read_decision.Reads.Post
      (λ l (_, (numbers, _)). numbers.now) (λ l (s, (numbers, _)). decision_as_read s.now numbers.now)
  -- and the version
  pub buongilach_version : PlainCall library.buongilach_version.Statement.statement library.buongilach_version.Reads.Asked library.buongilach_version.Reads.Post
      (λ l _. version)
