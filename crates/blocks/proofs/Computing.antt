-- A name for every definition that blocks compute through: a proof that says `unfolding computing` unfolds them all. Assumes nothing.
use Rattle.table.specs.Table.{part_at}
use Rattle.blocks.specs.Blocks.{none, sum_to, placed, place_right, each_right, sums_right, is_sound, lay_of, spare_zero, is_laid_out, is_broken, bytes_to, bytes_of, of_lists}

unfoldable pub computing : Unit {0}
unfolding part_at none sum_to placed place_right each_right sums_right is_sound lay_of spare_zero is_laid_out is_broken bytes_to bytes_of of_lists
computing = tt
