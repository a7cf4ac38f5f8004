-- The case of document 01: its bytes, as crate feed has them, and its session. Definitions only.
use Rattle.std.specs.Prelude.{List, ℕ, replicate}
use Rattle.decision.specs.Decision.{both_size}
use Rattle.brake.specs.declared.Choice.TheVariants.{FiveSeconds}
use Rattle.session.specs.declared.Session.{Session}
use Rattle.session.specs.Session.{none_open}
use Rattle.session.specs.Open.{open_of}
use Rattle.sampling.specs.Sample.{sample_call}
pub use Rattle.feed.specs.Case.{consist, profile, targets, sample}

abbrev pub out : List ℕ
out = replicate both_size 0

-- after the sample 0, 5,000, 0.0
abbrev pub standing : Session
standing = (sample_call (open_of none_open consist FiveSeconds).session (sample 0 0 0) profile targets out).0.session
