-- No more bytes are announced than the longest list has. Assumes nothing.
use mathlib.Core.Path.{◌≡◌, refl, ap}
use Prim.Native.Nat.{ℕ, ◌*◌, ◌≤◌}
use native.Mathlib.Omega.{arith}
use native.Mathlib.Nat.{mul-le-mul_left}
use mathlib.Core.Bool.{Bool, true, false, ◌&&◌, cond}
use mathlib.Core.List.{List}
use lib.ListN.{length}
use lib.Dec.{leb, eqb}
use borrow.Author.Tests.{leb-true}
use Rattle.bits.specs.Bytes.{num}
use Rattle.bits.proofs.Ranges.{and-true_right}
use Rattle.table.specs.Table.{counted}
use Rattle.blocks.specs.Blocks as blocks
use Rattle.profile.specs.Profile as profile
use Rattle.targets.specs.Targets as targets
use Rattle.opening.specs.declared.Section.{Section}
use Rattle.opening.specs.declared.Section.TheVariants.{Blocks, Profile, Targets}
use Rattle.opening.specs.Opening.{Part, Bytes, Broken, bytes_in, blocks_count_size, profile_count_size, targets_count_size, blocks_ahead, profile_ahead, targets_ahead, announced}
use Rattle.opening.specs.Section.{ahead_of, room_of}

ahead_fits : (width : ℕ) (counted : ℕ → Bool) (most size : ℕ) (s : List ℕ) → ((n : ℕ) → counted n ≡ true → n ≤ most)
    → bytes_in (announced width counted size s) ≤ size * most
ahead_fits width counted most size s h = by (eqb (length s) width) (counted (num s)) refl
  where
    by : (a b : Bool) → counted (num s) ≡ b → bytes_in (cond (a && b) (Bytes (size * num s)) Broken) ≤ size * most
    by true true e = mul-le-mul_left size (h (num s) e)
    by true false e = omega arith
    by false b e = omega arith

-- a range of counts
ranged : (least most n : ℕ) → leb least n && leb n most ≡ true → n ≤ most
ranged least most n e = leb-true n most (and-true_right (leb least n) (leb n most) e)

announced_fits : (section : Section) (s : List ℕ) → bytes_in (ahead_of section s) ≤ room_of section
unfolding blocks_ahead profile_ahead targets_ahead counted
announced_fits Blocks s = ahead_fits blocks_count_size (λ n. leb n blocks.most) blocks.most blocks.size s (λ n. leb-true n blocks.most)
announced_fits Profile s = ahead_fits profile_count_size profile.counted profile.most profile.size s (ranged profile.fewest profile.most)
announced_fits Targets s = ahead_fits targets_count_size targets.counted targets.most targets.size s (ranged targets.fewest targets.most)

pub room : (section : Section) (part : Part) (s : List ℕ) → part ≡ ahead_of section s → bytes_in part ≤ room_of section
room section part s e = omega (arith, ap bytes_in e, announced_fits section s)
