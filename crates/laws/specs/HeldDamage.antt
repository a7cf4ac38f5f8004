-- Bytes that differ from an open session's record in one place, or in two, are no open session's. A statement; proofs/HeldDamage.antt proves it.
use Rattle.std.specs.Prelude.{◌≡◌, true, ℕ, ◌≤◌, List}
use Rattle.bits.specs.Bytes.{Bytes}
use Rattle.seal.specs.Apart.{apart}
use Rattle.session.specs.declared.Session.{Session}
use Rattle.session.specs.Session.{is_open}
use Rattle.held.specs.Held.{bytes_of, record_at, no_session}

-- in its front or in its blocks, in a check word or in the count that tells how many bytes it has; as a record, and as a session buffer that begins so
unfoldable pub DamageSeen : Type 0
DamageSeen =
    (x : Session) (s : List ℕ) → is_open x ≡ true → Bytes s → 1 ≤ apart (bytes_of x) s → apart (bytes_of x) s ≤ 2
    → (no_session s ≡ true) × (no_session (record_at s) ≡ true)
