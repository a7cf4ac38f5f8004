use Rattle.std.proofs.Common.{◌≡◌, rules, w16}
use mir.Val.{to_z, of_z}
use Rattle.profile.proofs.Grade.{in_eleven}
use Rattle.profile.proofs.Sound.{ranged}
use Rattle.profile.proofs.SegmentRecord.put_at.Goals as goal

pub grade_bits-requires : goal.grade_bits-requires
grade_bits-requires c =
    let g = c.args.self.now in
    let z : to_z w16 (of_z w16 g.grade) ≡ g.grade = search rules in
    rw z (in_eleven g.grade (ranged g c.requires.0).grade)
