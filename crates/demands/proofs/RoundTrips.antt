-- The round trips, from what each record's crate proves. Assumes nothing.
use mathlib.Core.Path.{◌≡◌, refl, sym, ap, subst, ◌∙◌}
use mathlib.Core.Bool.{true}
use mathlib.Core.List.{List, ◌∷◌, ◌++◌}
use Prim.Native.Nat.{ℕ, ◌*◌, ◌≤◌, ◌<◌}
use native.Mathlib.Omega.{arith}
use lib.Dec.{eqb}
use lib.ListN.{length, take, drop, get_or}
use lib.Seq.{ext_get_or, drop_at}
use lib.IntN.{pos}
use borrow.Author.Tests.{eqb-true, not-false}
use Rattle.bits.specs.Bytes.{Bytes}
use Rattle.bits.proofs.Ranges.{and-true_left}
use Rattle.blocks.specs.Blocks.{of_lists}
use Rattle.bits.specs.Tables.{up_to}
use Rattle.bits.proofs.UpTo.{length-up_to, get_or_up_to}
use Rattle.refusal.specs.declared.Refusal.TheVariants.{WrongLength}
use Rattle.refusal.specs.Verdict.{Verdict, Accepted, Refused}
use Rattle.refusal.specs.Lowest.{Rule, lowest}
use Rattle.refusal.specs.Number.{told}
use Rattle.refusal.specs.Written.{written}
use Rattle.refusal.proofs.Order.{accepted, append_accepted, written_accepted}
use Rattle.refusal.proofs.Numbers.{verdict_accepted}
use Rattle.record.specs.Record.{wrong_length}
use Rattle.consist.specs.declared.Consist.{Consist}
use Rattle.consist.specs.Consist as consist
use Rattle.consist.proofs.Bytes as consist_bytes
use Rattle.consist.specs.RoundTrip as consist_trip
use Rattle.consist.proofs.RoundTrip as consist_back
use Rattle.profile.specs.declared.Segment.{Segment}
use Rattle.table.specs.Table as table
use Rattle.table.proofs.Writing.{length-bytes_of}
use Rattle.profile.specs.Profile.{size as profile_size, segments, segment_of, starts_in, grades_in, curvatures_in, judge_profile, write_rules as profile_rules, write_profile}
use Rattle.laws.specs.ProfileTrip as profile_trip
use Rattle.laws.proofs.ProfileTrip as profile_back
use Rattle.laws.proofs.ProfileTrip.{written_lengths}
use Rattle.targets.specs.declared.Target.{Target}
use Rattle.targets.specs.Targets.{size as targets_size, targets, target_of, judge_targets, locations_in, speeds_in, write_rules as targets_rules, write_targets}
use Rattle.targets.specs.RoundTrip as targets_trip
use Rattle.targets.proofs.RoundTrip as targets_back
use Rattle.targets.proofs.Sound as targets_sound
use Rattle.sample.specs.Sample.{size as sample_size, of_fields, bytes_of, read_sample, write_rules, write_sample}
use Rattle.laws.specs.SampleTrip as sample_trip
use Rattle.laws.proofs.SampleTrip as sample_back
use Rattle.decision.specs.Decision.{read_decision, write_decision}
use Rattle.decision.specs.Decision as decision
use Rattle.decision.specs.RoundTrip as decision_trip
use Rattle.decision.proofs.RoundTrip as decision_back
use Rattle.held.specs.Held as held
use Rattle.laws.specs.HeldTrip as held_trip
use Rattle.laws.proofs.HeldTrip as held_back
use Rattle.held.proofs.Answers.{size_of_lem}
use Rattle.writes.specs.Written.{size_with, are_listed, manifest_of, manifest_rules, write_manifest, sample_write_rules, sample_written}
use Rattle.writes.proofs.Listed.{listed_count, listed_writes}
use Rattle.tells.specs.Judged.{decision_numbers, numbers_of, decision_rules, decision_as_read}
use Rattle.demands.specs.RoundTrips.{ReadsBack, RoundTrip, Segments, RoundTrips}

-- ---- bytes past the record

written_past : (n : ℕ) (v : Verdict) (bytes out : List ℕ) → length bytes ≡ n → drop n (written v bytes out).1 ≡ drop n out
written_past n Accepted bytes out h = drop_at bytes _ n h ∙ ap (λ (m : ℕ). drop m out) h
written_past n (Refused r) bytes out h = refl

-- ---- a record

-- what reads as a value is written back by its writer; c stands for the value
module _ {A C : Type 0} (value : C → A) (read : List ℕ → Verdict × A) (bytes : A → List ℕ) (rules : A → List ℕ → List Rule) where
  abbrev write : A → List ℕ → Verdict × List ℕ
  write a out = written (lowest (rules a out)) (bytes a) out

  -- of as many bytes as its value says
  of_any_size : (size : A → ℕ) → ((a : A) → length (bytes a) ≡ size a)
      → ((c : C) (out : List ℕ) → (write (value c) out).0 ≡ Accepted → read (take (size (value c)) (write (value c) out).1) ≡ (Accepted, value c))
      → ((s out : List ℕ) → Bytes s → length s ≤ length out → (read s).0 ≡ Accepted → write (read s).1 out ≡ (Accepted, s ++ drop (length s) out))
      → RoundTrip (λ c. size (value c)) (λ s c. read s ≡ (Accepted, value c)) (λ c. write (value c))
  of_any_size size long there back = record {
    reads_back = record {
      written_reads_back = there;
      past = λ c out. written_past (size (value c)) (lowest (rules (value c) out)) (bytes (value c)) out (long (value c));
    };
    accepted_writes_back = λ s out c b room h.
        ap (λ (x : Verdict × A). write x.1 out) (sym h) ∙ back s out b room (ap (λ (x : Verdict × A). x.0) h);
  }

  -- of n bytes
  of_size : (n : ℕ) → ((a : A) → length (bytes a) ≡ n) → ((s : List ℕ) → (read s).0 ≡ Accepted → length s ≡ n)
      → ((c : C) (out : List ℕ) → (write (value c) out).0 ≡ Accepted → read (take n (write (value c) out).1) ≡ (Accepted, value c))
      → ((s out : List ℕ) → Bytes s → n ≤ length out → (read s).0 ≡ Accepted → write (read s).1 out ≡ (Accepted, s ++ drop n out))
      → RoundTrip (λ c. n) (λ s c. read s ≡ (Accepted, value c)) (λ c. write (value c))
  of_size n long size there back = of_any_size (λ a. n) long there (λ s out b room v.
      let e = size s v in
      back s out b (subst (λ (m : ℕ). m ≤ length out) e room) v ∙ ap (λ (m : ℕ). (Accepted, s ++ drop m out)) (sym e))

-- bytes that are not refused 2
right_length : (n : ℕ) (s : List ℕ) (rules : List Rule) → lowest ((wrong_length n s, WrongLength) ∷ rules) ≡ Accepted → length s ≡ n
unfolding wrong_length
right_length n s rules h = eqb-true (length s) n (not-false (eqb (length s) n) (accepted _ _ _ h).0)

-- ---- tables

-- a list is what stands at each of its places
column : {A : Type 0} (d : A) (n : ℕ) (xs : List A) (f : ℕ → A) → length xs ≡ n → ((k : ℕ) → k < n → f k ≡ get_or xs k d) → up_to n f ≡ xs
column d n xs f l same =
    let m = length-up_to f n in
    ext_get_or d (up_to n f) xs (m ∙ sym l) (λ k h.
    let b : k < n = omega (arith, m) in
    get_or_up_to f n k d b ∙ same k b)

-- ---- for C

tells : {C : Type 0} (size : C → ℕ) (Reads : List ℕ → C → Type 0) (writes : C → List ℕ → Verdict × List ℕ)
    → ReadsBack size Reads Accepted writes → ReadsBack size Reads 0 (λ c out. told (writes c out))
tells size Reads writes trip = record {
  written_reads_back = λ c out h. trip.written_reads_back c out (verdict_accepted (writes c out).0 h);
  past = trip.past;
}

-- ---- the consist from lists

-- lists that a writer accepts are as long as each other, and no longer than there are places
accepted_listed : (c : Consist) (lengths weights out : List ℕ) → lowest (manifest_rules c lengths weights out) ≡ Accepted → are_listed lengths weights ≡ true
accepted_listed c lengths weights out v =
    let right = (accepted _ _ _ (accepted _ _ _ (accepted _ _ _ (accepted _ _ _ v).1).1).1).0 in
    and-true_left (are_listed lengths weights) _ (not-false _ right)

-- as many bytes as there are lengths for
manifest_long : (c : Consist) (lengths weights : List ℕ) → are_listed lengths weights ≡ true
    → length (consist.bytes_of (manifest_of c lengths weights)) ≡ size_with (length lengths)
unfolding of_lists
manifest_long c lengths weights listed =
    consist_bytes.length_bytes (manifest_of c lengths weights) ∙ ap size_with (listed_count lengths weights listed)

manifest_past : (c : Consist) (lengths weights out : List ℕ) (v : Verdict) → lowest (manifest_rules c lengths weights out) ≡ v →
    let n = size_with (length lengths) in
    drop n (write_manifest c lengths weights out).1 ≡ drop n out
unfolding write_manifest
manifest_past c lengths weights out Accepted e =
    let n = size_with (length lengths) in
    let bytes = consist.bytes_of (manifest_of c lengths weights) in
    ap (λ (v : Verdict). drop n (written v bytes out).1) e
    ∙ written_past n Accepted bytes out (manifest_long c lengths weights (accepted_listed c lengths weights out e))
manifest_past c lengths weights out (Refused r) e =
    ap (λ (v : Verdict). drop (size_with (length lengths)) (written v (consist.bytes_of (manifest_of c lengths weights)) out).1) e

manifest_reads : (c : Consist) (lengths weights out : List ℕ) → (write_manifest c lengths weights out).0 ≡ Accepted
    → consist.read_consist (take (size_with (length lengths)) (write_manifest c lengths weights out).1) ≡ (Accepted, manifest_of c lengths weights)
unfolding write_manifest of_lists consist_trip.WrittenReadsBack
manifest_reads c lengths weights out h =
    let full = manifest_of c lengths weights in
    let listed = accepted_listed c lengths weights out (written_accepted _ (consist.bytes_of full) out h) in
    let e = listed_writes c lengths weights out listed in
    subst (λ (n : ℕ). consist.read_consist (take (size_with n) (write_manifest c lengths weights out).1) ≡ (Accepted, full))
    (listed_count lengths weights listed)
    (ap (λ (w : Verdict × List ℕ). consist.read_consist (take (consist.size_of full) w.1)) (sym e)
    ∙ consist_back.written_reads_back full out (ap (λ (w : Verdict × List ℕ). w.0) e ∙ h))

-- ---- the records

pub round_trips : RoundTrips
unfolding consist_trip.WrittenReadsBack consist_trip.AcceptedWritesBack profile_trip.WrittenReadsBack profile_trip.AcceptedWritesBack targets_trip.WrittenReadsBack targets_trip.AcceptedWritesBack sample_trip.WrittenReadsBack sample_trip.AcceptedWritesBack decision_trip.WrittenReadsBack decision_trip.AcceptedWritesBack held_trip.WrittenReadsBack held_trip.AcceptedWritesBack consist.read_consist read_sample read_decision consist.write_consist consist.bytes_of table.write write_sample bytes_of write_decision decision.bytes_of held.write_session sample_written decision_as_read
round_trips = record {
  consist = of_any_size (λ c. c) consist.read_consist consist.bytes_of consist.write_rules consist.size_of consist_bytes.length_bytes
      consist_back.written_reads_back consist_back.accepted_writes_back;
  manifest = record {
    written_reads_back = λ (c, lengths, weights) out h. manifest_reads c lengths weights out h;
    past = λ (c, lengths, weights) out. manifest_past c lengths weights out (lowest (manifest_rules c lengths weights out)) refl;
  };
  profile = record {
    reads_back = record {
      written_reads_back = λ (starts, grades, curvatures) out h.
          let n = length starts in
          let r = profile_back.written_reads_back starts grades curvatures out h in
          let l = written_lengths starts grades curvatures out h in
          let ss = column 0 n starts _ refl (λ k b. ap (λ (g : Segment). g.start) (r.records k b)) in
          let gs = column (pos 0) n grades _ l.0 (λ k b. ap (λ (g : Segment). g.grade) (r.records k b)) in
          let cs = column 0 n curvatures _ l.1 (λ k b. ap (λ (g : Segment). g.curvature) (r.records k b)) in
          let p = take (profile_size * n) (write_profile starts grades curvatures out).1 in
          ap {B = Verdict × Segments} (λ ((v, m) : Verdict × ℕ). (v, (starts_in p m, grades_in p m, curvatures_in p m))) r.judged
          ∙ (λ i. (Accepted, (ss i, gs i, cs i)));
      past = λ (starts, grades, curvatures) out.
          let f = segment_of starts grades curvatures in
          let n = length starts in
          written_past (profile_size * n) (lowest (profile_rules starts grades curvatures out)) (table.bytes_of segments n f) out (length-bytes_of segments f n);
    };
    accepted_writes_back = λ p out c b room h.
        ap (λ ((v, (starts, grades, curvatures)) : Verdict × Segments). write_profile starts grades curvatures out) (sym h)
        ∙ profile_back.accepted_writes_back p out _ b room (λ i. ((h i).0, (judge_profile p).1));
  };
  targets = record {
    reads_back = record {
      written_reads_back = λ (locations, speeds) out h.
          let n = length locations in
          let r = targets_back.written_reads_back locations speeds out h in
          let ls = column 0 n locations _ refl (λ k b. ap (λ (g : Target). g.location) (r.records k b)) in
          let ss = column 0 n speeds _ (targets_sound.written_lengths locations speeds out h) (λ k b. ap (λ (g : Target). g.speed) (r.records k b)) in
          let t = take (targets_size * n) (write_targets locations speeds out).1 in
          ap {B = Verdict × (List ℕ × List ℕ)} (λ ((v, m) : Verdict × ℕ). (v, (locations_in t m, speeds_in t m))) r.judged ∙ (λ i. (Accepted, (ls i, ss i)));
      past = λ (locations, speeds) out.
          let f = target_of locations speeds in
          let n = length locations in
          written_past (targets_size * n) (lowest (targets_rules locations speeds out)) (table.bytes_of targets n f) out (length-bytes_of targets f n);
    };
    accepted_writes_back = λ t out c b room h.
        ap (λ ((v, (locations, speeds)) : Verdict × (List ℕ × List ℕ)). write_targets locations speeds out) (sym h)
        ∙ targets_back.accepted_writes_back t out _ b room (λ i. ((h i).0, (judge_targets t).1));
  };
  sample = of_size of_fields read_sample bytes_of write_rules sample_size (λ c. refl) (λ s. right_length sample_size s _)
      sample_back.written_reads_back sample_back.accepted_writes_back;
  decision = of_size (λ d. d) read_decision decision.bytes_of decision.write_rules decision.size (λ d. refl) (λ s. right_length decision.size s _)
      decision_back.written_reads_back decision_back.accepted_writes_back;
  held = of_any_size (λ x. x) held.read_session held.bytes_of held.write_rules held.size_of size_of_lem held_back.written_reads_back
      held_back.accepted_writes_back;
  told = tells;
  -- where the writer that refuses more accepts, both write the same
  buongilach_write_sample = record {
    written_reads_back = λ fields out h.
        let raw = of_fields fields in
        let v = written_accepted _ (bytes_of raw) out (verdict_accepted _ h) in
        let e = ap (λ (w : Verdict). written w (bytes_of raw) out) (v ∙ sym (accepted _ _ _ v).1) in
        ap (λ (w : Verdict × List ℕ). read_sample (take sample_size w.1)) e
        ∙ sample_back.written_reads_back fields out (sym (ap (λ (w : Verdict × List ℕ). w.0) e) ∙ verdict_accepted _ h);
    past = λ fields out. written_past sample_size (lowest (sample_write_rules fields out)) (bytes_of (of_fields fields)) out refl;
  };
  buongilach_read_decision = record {
    written_reads_back = λ s numbers h.
        let d = decision.decision_in s in
        let v = written_accepted _ (numbers_of d) numbers (verdict_accepted _ h) in (
          d,
          ap (λ (w : Verdict). decision.answer w d) (append_accepted (decision.read_rules s) _ v),
          ap (λ (w : Verdict). take decision_numbers (written w (numbers_of d) numbers).1) v,
        );
    past = λ s numbers. written_past decision_numbers (lowest (decision_rules s numbers)) (numbers_of (decision.decision_in s)) numbers refl;
  };
}
