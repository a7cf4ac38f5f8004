-- Whole trips, of the Rattle program or the C library on either side. Assumes nothing.
use Rattle.trips.specs.Trips.{Agreement, InHundredths, EitherSide, Trip13}
use Rattle.demands.proofs.Contracts.{value_lawful, program_does, bytes_lawful, library_does}
use Rattle.trips.proofs.Faster.{MeansFaster, hundredths_mean_faster, bytes_mean_faster}
use Rattle.trips.proofs.Trips.{whole_trip}

either_side : (Agree : Agreement) → MeansFaster Agree → EitherSide Agree
either_side Agree means = record {
  programs = λ m m' met met'. whole_trip Agree means _ _ value_lawful value_lawful m m' (program_does m met) (program_does m' met');
  program_first = λ m m' met met'. whole_trip Agree means _ _ value_lawful bytes_lawful m m' (program_does m met) (library_does m' met');
  library_first = λ m m' met met'. whole_trip Agree means _ _ bytes_lawful value_lawful m m' (library_does m met) (program_does m' met');
  libraries = λ m m' met met'. whole_trip Agree means _ _ bytes_lawful bytes_lawful m m' (library_does m met) (library_does m' met');
}

pub trip_13 : Trip13
trip_13 = record { in_hundredths = either_side InHundredths hundredths_mean_faster; in_bytes = either_side _ bytes_mean_faster }
