use Rattle.std.proofs.Common.{ap, w16}
use mir.Facts.{to_z-of_z}
use borrow.Author.Rules.{sfits_of}
use Rattle.table.specs.Table.{record_at}
use Rattle.table.proofs.Records.{fields_at_lem}
use Rattle.profile.specs.Profile.{of_fields, segments}
use Rattle.profile.proofs.Sound.{facts}
use Rattle.profile.proofs.SegmentRecord.at.Goals as goal

pub returns : goal.returns
unfolding record_at
returns c =
    let grade = c.grade_of in
    rw (c.field.ensures.0, to_z-of_z {w = w16} {z = grade.result} (sfits_of grade.type_inv), grade.ensures, c.field-2.ensures.0, c.field-3.ensures.0)
    (ap of_fields (fields_at_lem segments facts _ _ _ c.record-s.ensures))
