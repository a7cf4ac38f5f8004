-- A buffer of fewer bytes than the longest record begins with no session. Assumes nothing.
use mathlib.Core.Path.{◌≡◌, ap, ◌∙◌}
use mathlib.Core.Bool.{true}
use mathlib.Core.List.{List, []}
use Prim.Native.Nat.{ℕ, ◌<◌}
use native.Mathlib.Omega.{arith}
use lib.ListN.{length}
use Rattle.refusal.specs.declared.Refusal.TheVariants.{NoSession}
use Rattle.held.specs.Held.{most, record_at, refused_with, read_told, read_session}
use Rattle.held.proofs.Sizes.{no_buffer}
use Rattle.held.proofs.Answers.{too_short, read_is}

no_bytes : read_session [] ≡ refused_with NoSession
no_bytes = read_is [] true (too_short [] (omega arith))

pub none_at_start : (s : List ℕ) → length s < most → read_told (read_session (record_at s)) ≡ read_told (refused_with NoSession)
none_at_start s h = ap read_told (ap read_session (no_buffer s h) ∙ no_bytes)
