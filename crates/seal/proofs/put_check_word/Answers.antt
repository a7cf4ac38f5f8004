use native.Mathlib.Omega.{arith}
use Rattle.seal.proofs.Seals.{put}
use Rattle.seal.proofs.put_check_word.Goals as goal

pub returns : goal.returns
returns c =
    put c.args.out.now (omega arith) _ _ c.put_word.ensures c.check_word-c.ensures
