use mathlib.Core.Path.{refl}
use native.Mathlib.Omega.{arith}
use lib.ListN.{length}
use borrow.Author.Tests.{lt-leb}
use Rattle.seal.specs.Seal.{is_sealed}
use Rattle.seal.proofs.Seals.{read}
use Rattle.seal.proofs.is_sealed.Goals as goal

pub returns-then-s-lt-SIZE : goal.returns-then-s-lt-SIZE
unfolding is_sealed
returns-then-s-lt-SIZE c = rw (lt-leb 4 (length c.args.s.now) c.if-s-lt-SIZE.true) refl

pub returns : goal.returns
returns c =
    read c.args.s.now (omega arith) _ _ (λ i. omega (arith, c.shared_slice_known-1.given i)) c.word.ensures c.check_word-c.ensures
