use Rattle.std.proofs.Common.{◌∙◌, ap, eqb, ℕ}
use Rattle.table.specs.Table.{clean_at}
use Rattle.table.proofs.Records.{fields_at_lem}
use Rattle.profile.specs.Profile.{spare_zero, segments}
use Rattle.profile.proofs.Sound.{facts}
use Rattle.profile.proofs.SegmentRecord.is_clean_at.Goals as goal

pub returns : goal.returns
unfolding clean_at
returns c = ap (λ (x : ℕ). eqb x 0) c.field.ensures.0 ∙ ap spare_zero (fields_at_lem segments facts _ _ _ c.record.ensures)
