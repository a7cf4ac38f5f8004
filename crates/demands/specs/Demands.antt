-- What is demanded of a machine that meets its contracts, and that the Rattle program and the C library are such machines. Statements;
-- proofs/Demands.antt proves them.
use Rattle.demands.specs.Machine.{Machine, Holding, Unopened, Does}
use Rattle.demands.specs.Program.{by_value, our_program}
use Rattle.demands.specs.Program as program
use Rattle.demands.specs.Library.{in_bytes, our_library}
use Rattle.demands.specs.Library as library
use Rattle.demands.specs.Demand2.{Demand2}
use Rattle.demands.specs.Demand3.{Demand3, Emergency3}
use Rattle.demands.specs.Useless.{NotUseless}

-- of the machines whose contracts `Meets` says; `ours`, from any state that is before an opening, is one
pub record Demands {S T : Type 0} (h : Holding S T) (Meets : Machine S T → Type 0) (ours : S → Machine S T) : Type 0 where
  pub meets : (z : S) → Unopened h z → Meets (ours z)
  -- and there is no other: what the contracts allow is what is defined
  pub begins : (m : Machine S T) → Meets m → Unopened h m.none
  pub does : (m : Machine S T) → Meets m → Does h m
  pub demand_2 : (m : Machine S T) → Meets m → Demand2 h m
  pub demand_3 : (m m' : Machine S T) → Meets m → Meets m' → Demand3 h m m'
  pub emergency_3 : (m m' : Machine S T) → Meets m → Meets m' → Emergency3 h m m'
  pub not_useless : (m : Machine S T) → Meets m → NotUseless h m

abbrev pub Program : Type 0
Program = Demands by_value program.Meets our_program

abbrev pub Library : Type 0
Library = Demands in_bytes library.Meets our_library
