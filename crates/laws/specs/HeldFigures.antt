-- Figures of the session's record, as one statement. Its proof is `figures` of proofs/HeldFigures.antt.
use Rattle.std.specs.Prelude.{◌≡◌, true, List, [], ◌∷◌, ◌++◌, ℕ, take}
use Rattle.bits.specs.Bytes.{bytes_from}
use Rattle.refusal.specs.declared.Refusal.TheVariants.{NoSession}
use Rattle.refusal.specs.Verdict.{Accepted}
use Rattle.seal.specs.Seal.{sealed}
use Rattle.blocks.specs.Blocks as blocks
use Rattle.consist.specs.Consist as consist
use Rattle.consist.specs.Figures.{weighing, train}
use Rattle.brake.specs.declared.State.TheVariants.{Charged}
use Rattle.brake.specs.declared.Choice.{Choice}
use Rattle.brake.specs.declared.Choice.TheVariants.{FiveSeconds, Everlasting}
use Rattle.brake.specs.Rear.{At}
use Rattle.learn.specs.declared.Stage.TheVariants.{Falling}
use Rattle.learn.specs.declared.Learner.{Learner}
use Rattle.learn.specs.Stage.{at_opening}
use Rattle.session.specs.declared.Session.{Session}
use Rattle.session.specs.Open.{opened_with}
use Rattle.held.specs.Held.{own, mark, widths, bytes_of, answer, refused_with, read_session}

-- the session of 01's case, just opened
abbrev pub just_opened : Session
just_opened = opened_with train FiveSeconds

-- that session after three seconds at full pressure, its rear lost in the last, with this learner, by a choice and with these causes of penalty and emergency
abbrev pub learning_by : Learner → Choice → ℕ → ℕ → Session
learning_by learner choice penalty emergency = record {
  opened = true;
  consist = train;
  brake = record {
    state = Charged;
    hold = 9000;
    a = 9000;
    b = 0;
    equalization = 0;
    fall = 0;
    last_front = 9000;
    last_rear = 9000;
    last_time = 3;
    sampled = true;
    choice = choice;
    heard = At 2;
  };
  learner = learner;
  cause = penalty;
  emergency = emergency;
}

abbrev pub standing_by : Choice → ℕ → ℕ → Session
standing_by = learning_by at_opening

abbrev pub standing : ℕ → ℕ → Session
standing penalty emergency = standing_by FiveSeconds penalty emergency

-- a learner with so many points, the last a second after the first, and these sums
abbrev pub learning : (count times squares pressures products : ℕ) → Learner
learning count times squares pressures products = record {
  stage = Falling;
  since = 1;
  init = 1;
  last = 1;
  pressure = 8600;
  sums = record { count = count; times = times; squares = squares; pressures = pressures; products = products };
}

abbrev pub with_sums : (count times squares pressures products : ℕ) → Session
with_sums count times squares pressures products = learning_by (learning count times squares pressures products) FiveSeconds 0 0

-- the bytes of one just opened, with mark, causes, choice, state, when the rear was last present, A, the train's weight, and stage and since of the learner left open
abbrev pub body_learning : (stage since m cause emergency choice state heard a weight : ℕ) → List ℕ
body_learning stage since m cause emergency choice state heard a weight =
    bytes_from own widths (m ∷ cause ∷ emergency ∷ 0 ∷ choice ∷ state ∷ heard ∷ 9000 ∷ a ∷ 0 ∷ 0 ∷ 0 ∷ 0 ∷ 0 ∷ 0 ∷ stage ∷ since ∷ 0 ∷ 0 ∷ 0 ∷ 0 ∷ 0 ∷ 0 ∷ 0 ∷ 0 ∷ []) ++ consist.front_of (weighing weight)

abbrev pub body_heard : (m cause emergency choice state heard a weight : ℕ) → List ℕ
body_heard = body_learning 0 0

-- by default, and with no present rear yet
abbrev pub body : ℕ → ℕ → ℕ → ℕ → ℕ → ℕ → List ℕ
body m cause emergency state a weight = body_heard m cause emergency 0 state 0 a weight

abbrev pub bytes : ℕ → ℕ → ℕ → ℕ → ℕ → ℕ → List ℕ
bytes m cause emergency state a weight = sealed (body m cause emergency state a weight)

-- the session of that train as two blocks, 200 ft with 300 tons and 400 ft with 700, just opened
abbrev pub two_blocks : List ℕ
two_blocks = 1 ∷ 144 ∷ 4 ∷ 176 ∷ 3 ∷ 32 ∷ 10 ∷ 240 ∷ []

abbrev pub manifest : Session
manifest = opened_with (consist.with_blocks train (blocks.lay_of two_blocks)) FiveSeconds

-- its bytes, with mark and what is behind the front left open
abbrev pub with_behind : ℕ → List ℕ → List ℕ
with_behind m behind = bytes m 0 0 0 9000 1000 ++ behind

pub record Figures : Type 0 where
  pub written : bytes_of just_opened ≡ 70 ∷ 85 ∷ 0 ∷ 0 ∷ 0 ∷ 0 ∷ 0 ∷ 35 ∷ 40 ∷ 35 ∷ 40 ∷ 0 ∷ 0 ∷ 0 ∷ 0 ∷ 0 ∷ 0 ∷ 0 ∷ 0 ∷ 0 ∷ 0 ∷ 0 ∷ 0 ∷ 0 ∷ 0 ∷ 0 ∷ 0 ∷ 0 ∷ 0 ∷ 0 ∷ 0 ∷ 0 ∷ 0 ∷ 0 ∷ 0 ∷ 0 ∷ 0 ∷ 0 ∷ 0 ∷ 0 ∷ 0 ∷ 0 ∷ 0 ∷ 0 ∷ 0 ∷ 0 ∷ 5 ∷ 2 ∷ 128 ∷ 125 ∷ 0 ∷ 150 ∷ 0 ∷ 195 ∷ 80 ∷ 7 ∷ 83 ∷ 0 ∷ 202 ∷ 50 ∷ 129 ∷ 244 ∷ 6 ∷ 169 ∷ 105 ∷ 244 ∷ []
  pub read : read_session (bytes mark 0 0 0 9000 1000) ≡ answer Accepted just_opened
  -- the penalty's cause 2 and the emergency's 3 in one byte, and a sample accepted in state 0
  pub both_written : bytes_of (standing 2 3) ≡ 70 ∷ 85 ∷ 35 ∷ 128 ∷ 0 ∷ 0 ∷ 3 ∷ 35 ∷ 40 ∷ 35 ∷ 40 ∷ 0 ∷ 0 ∷ 0 ∷ 0 ∷ 0 ∷ 0 ∷ 35 ∷ 40 ∷ 35 ∷ 40 ∷ 0 ∷ 0 ∷ 3 ∷ 0 ∷ 0 ∷ 0 ∷ 0 ∷ 0 ∷ 0 ∷ 0 ∷ 0 ∷ 0 ∷ 0 ∷ 0 ∷ 0 ∷ 0 ∷ 0 ∷ 0 ∷ 0 ∷ 0 ∷ 0 ∷ 0 ∷ 0 ∷ 0 ∷ 0 ∷ 5 ∷ 2 ∷ 128 ∷ 125 ∷ 0 ∷ 150 ∷ 0 ∷ 195 ∷ 80 ∷ 7 ∷ 83 ∷ 0 ∷ 202 ∷ 50 ∷ 129 ∷ 244 ∷ 7 ∷ 232 ∷ 170 ∷ 61 ∷ []
  pub both_read : read_session (bytes_of (standing 2 3)) ≡ answer Accepted (standing 2 3)
  pub penalty_alone : read_session (bytes_of (standing 2 0)) ≡ answer Accepted (standing 2 0)
  -- an emergency without a penalty, and one of a ninth target
  pub emergency_alone : read_session (bytes_of (standing 0 3)) ≡ refused_with NoSession
  pub emergency_nine : read_session (bytes_of (standing 2 9)) ≡ refused_with NoSession
  -- the everlasting choice in its bit, and when the rear was last present
  pub choice_written : bytes_of (standing_by Everlasting 2 3) ≡ 70 ∷ 85 ∷ 35 ∷ 192 ∷ 0 ∷ 0 ∷ 3 ∷ 35 ∷ 40 ∷ 35 ∷ 40 ∷ 0 ∷ 0 ∷ 0 ∷ 0 ∷ 0 ∷ 0 ∷ 35 ∷ 40 ∷ 35 ∷ 40 ∷ 0 ∷ 0 ∷ 3 ∷ 0 ∷ 0 ∷ 0 ∷ 0 ∷ 0 ∷ 0 ∷ 0 ∷ 0 ∷ 0 ∷ 0 ∷ 0 ∷ 0 ∷ 0 ∷ 0 ∷ 0 ∷ 0 ∷ 0 ∷ 0 ∷ 0 ∷ 0 ∷ 0 ∷ 0 ∷ 5 ∷ 2 ∷ 128 ∷ 125 ∷ 0 ∷ 150 ∷ 0 ∷ 195 ∷ 80 ∷ 7 ∷ 83 ∷ 0 ∷ 202 ∷ 50 ∷ 129 ∷ 244 ∷ 8 ∷ 40 ∷ 184 ∷ 253 ∷ []
  pub choice_read : read_session (bytes_of (standing_by Everlasting 2 3)) ≡ answer Accepted (standing_by Everlasting 2 3)
  pub opened_by_choice : read_session (sealed (body_heard mark 0 0 1 0 0 9000 1000)) ≡ answer Accepted (opened_with train Everlasting)
  -- no sample was accepted, and the rear was present
  pub heard_unsampled : read_session (sealed (body_heard mark 0 0 0 0 1 9000 1000)) ≡ refused_with NoSession
  -- the rear was present at a time past 24 bits
  pub heard_late : read_session (sealed (body_heard mark 0 0 0 0 16777217 9000 1000)) ≡ refused_with NoSession
  -- the mark of a record without learning
  pub other_mark : read_session (bytes 0x4355 0 0 0 9000 1000) ≡ refused_with NoSession
  pub state_six : read_session (bytes mark 0 0 6 9000 1000) ≡ refused_with NoSession
  -- a state's number in more than three bits
  pub state_eight : read_session (bytes mark 0 0 8 9000 1000) ≡ refused_with NoSession
  pub state_most : read_session (bytes mark 0 0 31 9000 1000) ≡ refused_with NoSession
  pub a_above_set : read_session (bytes mark 0 0 0 9001 1000) ≡ refused_with NoSession
  -- no sample was accepted, and A is not as an opening gives it, or a penalty stands
  pub a_below_set : read_session (bytes mark 0 0 0 8999 1000) ≡ refused_with NoSession
  pub a_cause : read_session (bytes mark 1 0 0 9000 1000) ≡ refused_with NoSession
  -- a consist that its reader refuses
  pub a_ton_less : read_session (bytes mark 0 0 0 9000 99) ≡ refused_with NoSession
  pub a_byte_less : read_session (take 65 (bytes mark 0 0 0 9000 1000)) ≡ refused_with NoSession
  -- a check word of zeros
  pub not_sealed : read_session (body mark 0 0 0 9000 1000 ++ 0 ∷ 0 ∷ 0 ∷ 0 ∷ []) ≡ refused_with NoSession
  -- two points: (0, 8700) and (1, 8600)
  pub learning_written : bytes_of (with_sums 2 1 1 17300 8600) ≡ 70 ∷ 85 ∷ 0 ∷ 128 ∷ 0 ∷ 0 ∷ 3 ∷ 35 ∷ 40 ∷ 35 ∷ 40 ∷ 0 ∷ 0 ∷ 0 ∷ 0 ∷ 0 ∷ 0 ∷ 35 ∷ 40 ∷ 35 ∷ 40 ∷ 0 ∷ 0 ∷ 3 ∷ 48 ∷ 0 ∷ 0 ∷ 16 ∷ 1 ∷ 0 ∷ 18 ∷ 25 ∷ 128 ∷ 16 ∷ 0 ∷ 2 ∷ 0 ∷ 0 ∷ 0 ∷ 64 ∷ 67 ∷ 148 ∷ 0 ∷ 0 ∷ 33 ∷ 152 ∷ 5 ∷ 2 ∷ 128 ∷ 125 ∷ 0 ∷ 150 ∷ 0 ∷ 195 ∷ 80 ∷ 7 ∷ 83 ∷ 0 ∷ 202 ∷ 50 ∷ 129 ∷ 244 ∷ 10 ∷ 147 ∷ 229 ∷ 216 ∷ []
  pub learning_read : read_session (bytes_of (with_sums 2 1 1 17300 8600)) ≡ answer Accepted (with_sums 2 1 1 17300 8600)
  -- 256 points with the greatest sums, and a unit more of each
  pub sums_most : read_session (bytes_of (with_sums 256 153344 91853056 4096000 2453504000)) ≡ answer Accepted (with_sums 256 153344 91853056 4096000 2453504000)
  pub a_257th : read_session (bytes_of (with_sums 257 153344 91853056 4096000 2453504000)) ≡ refused_with NoSession
  pub times_more : read_session (bytes_of (with_sums 256 153345 91853056 4096000 2453504000)) ≡ refused_with NoSession
  pub squares_more : read_session (bytes_of (with_sums 256 153344 91853057 4096000 2453504000)) ≡ refused_with NoSession
  pub pressures_more : read_session (bytes_of (with_sums 256 153344 91853056 4096001 2453504000)) ≡ refused_with NoSession
  pub products_more : read_session (bytes_of (with_sums 256 153344 91853056 4096000 2453504001)) ≡ refused_with NoSession
  -- no sample was accepted, and the learner does not wait, or the front fell; a fifth stage
  pub fresh_and_done : read_session (sealed (body_learning 4 0 mark 0 0 0 0 0 9000 1000)) ≡ refused_with NoSession
  pub fresh_and_fallen : read_session (sealed (body_learning 0 1 mark 0 0 0 0 0 9000 1000)) ≡ refused_with NoSession
  pub stage_five : read_session (sealed (body_learning 5 0 mark 0 0 0 0 0 9000 1000)) ≡ refused_with NoSession
  -- blocks stand behind the front, and the mark tells how many
  pub manifest_written : bytes_of manifest ≡ 70 ∷ 2 ∷ 0 ∷ 0 ∷ 0 ∷ 0 ∷ 0 ∷ 35 ∷ 40 ∷ 35 ∷ 40 ∷ 0 ∷ 0 ∷ 0 ∷ 0 ∷ 0 ∷ 0 ∷ 0 ∷ 0 ∷ 0 ∷ 0 ∷ 0 ∷ 0 ∷ 0 ∷ 0 ∷ 0 ∷ 0 ∷ 0 ∷ 0 ∷ 0 ∷ 0 ∷ 0 ∷ 0 ∷ 0 ∷ 0 ∷ 0 ∷ 0 ∷ 0 ∷ 0 ∷ 0 ∷ 0 ∷ 0 ∷ 0 ∷ 0 ∷ 0 ∷ 0 ∷ 5 ∷ 2 ∷ 128 ∷ 125 ∷ 0 ∷ 150 ∷ 0 ∷ 195 ∷ 80 ∷ 7 ∷ 83 ∷ 0 ∷ 202 ∷ 50 ∷ 129 ∷ 244 ∷ 6 ∷ 86 ∷ 86 ∷ 45 ∷ 1 ∷ 144 ∷ 4 ∷ 176 ∷ 3 ∷ 32 ∷ 10 ∷ 240 ∷ 2 ∷ 98 ∷ 8 ∷ 240 ∷ []
  pub manifest_read : read_session (with_behind 0x4602 (sealed two_blocks)) ≡ answer Accepted manifest
  -- another count, or none written as 0, as blocks that are not there, or as a 65th
  pub count_other : read_session (with_behind 0x4603 (sealed two_blocks)) ≡ refused_with NoSession
  pub count_0 : read_session (with_behind 0x4600 []) ≡ refused_with NoSession
  pub none_sealed : read_session (with_behind mark (sealed [])) ≡ refused_with NoSession
  pub count_65 : read_session (with_behind 0x4641 []) ≡ refused_with NoSession
  -- a check word of zeros, a spare bit, and a ton less than the train's weight
  pub blocks_not_sealed : read_session (with_behind 0x4602 (two_blocks ++ 0 ∷ 0 ∷ 0 ∷ 0 ∷ [])) ≡ refused_with NoSession
  pub spare_bit : read_session (with_behind 0x4602 (sealed (1 ∷ 144 ∷ 4 ∷ 177 ∷ 3 ∷ 32 ∷ 10 ∷ 240 ∷ []))) ≡ refused_with NoSession
  pub a_ton_off : read_session (with_behind 0x4602 (sealed (1 ∷ 144 ∷ 4 ∷ 172 ∷ 3 ∷ 32 ∷ 10 ∷ 240 ∷ []))) ≡ refused_with NoSession
