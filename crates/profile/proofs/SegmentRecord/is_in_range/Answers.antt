use Rattle.std.proofs.Common.{◌≡◌, refl, rules, w16}
use mir.Val.{to_z, of_z}
use Rattle.profile.specs.Profile.{in_range}
use Rattle.profile.proofs.Grade.{both_ends}
use Rattle.profile.proofs.SegmentRecord.is_in_range.Goals as goal

pub returns : goal.returns
unfolding in_range
returns c =
    let g = c.args.self.now in
    let z : to_z w16 (of_z w16 g.grade) ≡ g.grade = search rules in
    rw (z, both_ends g.grade) refl
