use Rattle.std.proofs.Common.{[], ◌∷◌}
use Rattle.writes.proofs.Told.{told_of}
use Rattle.writes.proofs.Listed.{manifest_told}
use Rattle.writes.proofs.manifest.Goals as goal

pub returns : goal.returns
returns c =
    let a = c.args in
    let fields = a.cars ∷ a.axles ∷ a.weight ∷ a.length ∷ a.rated ∷ a.application ∷ a.recharge ∷ a.set ∷ a.offset ∷ [] in
    told_of c.verdict_number.ensures
    (manifest_told fields a.out.now _ c.none.ensures _ a.lengths.now a.weights.now c.write_manifest.ensures)
