-- "What is written reads back the same, and what is accepted would be written with the same bits." Statements; proofs/HeldTrip.antt proves them.
use Rattle.std.specs.Prelude.{◌≡◌, true, ℕ, ◌≤◌, List, ◌++◌, length, take, drop}
use Rattle.bits.specs.Bytes.{Bytes}
use Rattle.refusal.specs.Verdict.{Accepted}
use Rattle.session.specs.declared.Session.{Session}
use Rattle.session.specs.Session.{is_open}
use Rattle.held.specs.Held.{size_of, bytes_of, answer, read_session, write_session}

unfoldable pub WrittenReadsBack : Type 0
WrittenReadsBack =
    (x : Session) (out : List ℕ) → (write_session x out).0 ≡ Accepted → read_session (take (size_of x) (write_session x out).1) ≡ answer Accepted x

unfoldable pub AcceptedWritesBack : Type 0
AcceptedWritesBack =
    (s out : List ℕ) → Bytes s → length s ≤ length out → (read_session s).0 ≡ Accepted → write_session (read_session s).1 out ≡ (Accepted, s ++ drop (length s) out)

-- the bytes tell open sessions apart
unfoldable pub BytesTell : Type 0
BytesTell = (x y : Session) → is_open x ≡ true → is_open y ≡ true → bytes_of x ≡ bytes_of y → x ≡ y
