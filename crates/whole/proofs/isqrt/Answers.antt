-- `whole::isqrt` meets its contract. Assumes nothing.
use mathlib.Core.Path.{◌≡◌}
use Prim.Native.Nat.{ℕ, ◌+◌, ◌*◌, ◌-◌, ◌/◌, ◌%◌, ◌^◌}
use native.Mathlib.Omega.{arith}
use lib.Pow.{pow-add, shl_exact}
use Rattle.whole.specs.declared.LongHand.{LongHand}
use Rattle.whole.specs.Root.{root_of}
use Rattle.whole.specs.LongHand.{number, Worked, Enough, Underway}
use Rattle.whole.proofs.Roots.{root_unique}
use Rattle.whole.proofs.isqrt.Goals as goal

-- nothing is taken yet
started : (q n m : ℕ) → m ≡ n → Enough q n → Underway q m (q * 2 ^ (64 - 2 * n) % 2 ^ 64) (record { root = 0; rest = 0 })
started q n m same e = rw same (omega (arith, shl_exact (2 * n) (64 - 2 * n) 64 e.all (omega arith)))

-- a pair is brought down
turned : (q n m ahead : ℕ) (h r : LongHand) → Underway q n ahead h → n ≡ m + 1 → Worked (4 * number h + ahead / 2 ^ 62) r → Underway q m (ahead * 4 % 2 ^ 64) r
turned q n m ahead h r u some w =
    let e : 64 - 2 * m ≡ 64 - 2 * n + 2 = omega arith in
    let up : q * 2 ^ (64 - 2 * m) ≡ 4 * (q * 2 ^ (64 - 2 * n)) = rw (e, pow-add 2 (64 - 2 * n) 2) (omega arith) in
    omega arith

-- none is left
closed : (q n ahead : ℕ) (h : LongHand) → Underway q n ahead h → n ≡ 0 → h.root ≡ root_of q
closed q n ahead h u none = root_unique q h.root (omega (arith, rw none at u))

pub loop-done-init : goal.loop-done-init
loop-done-init c = started c.args.q c.turns-turns.result _ (omega arith) c.turns-turns.ensures

pub loop-done-preserved : goal.loop-done-preserved
loop-done-preserved c =
    let l = c.loop-done in
    turned _ _ _ l.ahead l.so_far c.turn-so_far.result l.invariant (omega arith) c.turn-so_far.ensures

pub returns : goal.returns
returns c = let l = c.loop-done in closed _ _ l.ahead l.so_far l.invariant (omega arith)
