-- A name for every definition that a table computes through: a proof that says `unfolding computing` unfolds them all. Assumes nothing.
use Rattle.refusal.specs.Lowest.{lowest}
use Rattle.table.specs.Table.{part_at, counted, good, lawful, record_at, clean_at, lawful_in, judge, bytes_of, write}

unfoldable pub computing : Unit {0}
unfolding lowest part_at counted good lawful record_at clean_at lawful_in judge bytes_of write
computing = tt
