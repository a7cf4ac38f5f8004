-- What is demanded of the Rattle program and of the C library, each from what it does. Assumes nothing.
use Rattle.demands.specs.Machine.{Machine, Holding, Unopened, Does}
use Rattle.demands.specs.Demands.{Demands, Program, Library}
use Rattle.demands.proofs.Carried.{Lawful}
use Rattle.demands.proofs.Machine.{demand_2, demand_3}
use Rattle.demands.proofs.Emergency.{emergency_3}
use Rattle.demands.proofs.Useless.{not_useless}
use Rattle.demands.proofs.Contracts.{value_lawful, program_meets, program_begins, program_does, bytes_lawful, library_meets, library_does}

demands : {S T : Type 0} (h : Holding S T) (Meets : Machine S T → Type 0) (ours : S → Machine S T) → Lawful h → ((z : S) → Unopened h z → Meets (ours z))
    → ((m : Machine S T) → Meets m → Unopened h m.none) → ((m : Machine S T) → Meets m → Does h m) → Demands h Meets ours
demands h Meets ours w meets begins does = record {
  meets = meets;
  begins = begins;
  does = does;
  demand_2 = λ m met. demand_2 h w m (does m met) (begins m met);
  demand_3 = λ m m' met met'. demand_3 h w m m' (does m met) (does m' met');
  emergency_3 = λ m m' met met'. emergency_3 h w m m' (does m met) (does m' met');
  not_useless = λ m met. not_useless h w m (does m met) (begins m met) (demand_2 h w m (does m met) (begins m met));
}

pub program : Program
program = demands _ _ _ value_lawful program_meets program_begins program_does

pub library : Library
library = demands _ _ _ bytes_lawful library_meets (λ m met. met.none) library_does
