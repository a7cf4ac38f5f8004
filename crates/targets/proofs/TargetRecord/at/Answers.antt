use Rattle.std.proofs.Common.{ap}
use Rattle.table.specs.Table.{record_at}
use Rattle.table.proofs.Records.{fields_at_lem}
use Rattle.targets.specs.Targets.{of_fields, targets}
use Rattle.targets.proofs.Sound.{facts}
use Rattle.targets.proofs.TargetRecord.at.Goals as goal

pub returns : goal.returns
unfolding record_at
returns c = rw (c.field.ensures.0, c.field-2.ensures.0) (ap of_fields (fields_at_lem targets facts _ _ _ c.record-s.ensures))
