-- 100,000 X / Y, rounded up, from 100 X / Y, down, and what that leaves. Assumes nothing.
use mathlib.Core.Path.{◌≡◌, sym, ap, ◌∙◌}
use Prim.Native.Nat.{ℕ, ◌+◌, ◌*◌, ◌-◌, ◌≤◌, ◌<◌}
use native.Mathlib.Nat.{div-add-mod'}
use native.Mathlib.Omega.{arith}
use lib.IntN.{ℤ, pos, negsuc, neg_ℤ, nat_abs, ◌+ℤ◌, ◌-ℤ◌, ◌*ℤ◌}
use lib.Signed.{◌<ℤ◌}
use Rattle.whole.specs.Floor.{floor_div, cut}
use Rattle.whole.specs.Ceiling.{ceil_div}
use Rattle.whole.proofs.Parts.{up, dn, AtMost, Below, up_mono, dn_mono, parts_eq, add_parts, sub_parts, neg_up, neg_dn, times_up, times_dn}
use Rattle.whole.proofs.Order.{lt_parts}
use Rattle.whole.proofs.Size.{abs_add, abs_times}
use Rattle.whole.proofs.Floors.{floor_low, floor_high, floor_parts}
use Rattle.whole.proofs.Ceilings.{ceil_ge, ceil_least}
use Rattle.trend.specs.Result.{rounded_up, time_of}

neg_neg : (z : ℤ) → neg_ℤ (neg_ℤ z) ≡ z
neg_neg z = parts_eq (neg_ℤ (neg_ℤ z)) z (omega (arith, neg_up z, neg_dn z, neg_up (neg_ℤ z), neg_dn (neg_ℤ z)))

ceil_under : (a b : ℕ) → 0 < b → ceil_div a b * b < a + b
unfolding ceil_div
ceil_under a b h = omega (arith, div-add-mod' (a + (b - 1)) b)

-- what 100 X / Y leaves
abbrev pub rest_of : (x y q : ℤ) → ℤ
rest_of x y q = pos 100 *ℤ x -ℤ y *ℤ q

-- in thousandths of Y, up
abbrev pub thousandths : (x y q : ℤ) → ℕ
thousandths x y q = ceil_div (1000 * cut (rest_of x y q)) (cut y)

-- by a quotient that is 100 X / Y, down
pub record Divided (x y q : ℤ) : Type 0 where
  pub some : AtMost (pos 0) (rest_of x y q)
  pub less : cut (rest_of x y q) < cut y
  pub most : thousandths x y q ≤ 1000
  pub up : pos 1000 *ℤ q +ℤ pos (thousandths x y q) ≡ rounded_up (pos 100000 *ℤ x) y

module _ (x : ℤ) (k : ℕ) (h : 0 < k) where
  abbrev q : ℤ
  q = floor_div (pos 100 *ℤ x) (pos k)

  abbrev r : ℤ
  r = rest_of x (pos k) q

  abbrev u : ℕ
  u = thousandths x (pos k) q

  -- 100 X is k times the quotient and the rest
  rest_is : 100 * up x + k * dn q + dn r ≡ 100 * dn x + k * up q + up r
  rest_is = omega (arith, sub_parts (pos 100 *ℤ x) (pos k *ℤ q), times_up 100 x, times_dn 100 x, times_up k q, times_dn k q)

  rest_some : AtMost (pos 0) r
  rest_some = omega (arith, rest_is, floor_low (pos 100 *ℤ x) k h, times_up 100 x, times_dn 100 x)

  rest_none : dn r ≤ 0
  rest_none = dn_mono (pos 0) r rest_some

  rest_less : up r < k
  rest_less = omega (arith, rest_is, rest_none, floor_high (pos 100 *ℤ x) k h, times_up 100 x, times_dn 100 x)

  thousandths_most : u ≤ 1000
  thousandths_most = ceil_least (1000 * up r) k 1000 h (omega (arith, rest_less))

  abbrev rounded : ℤ
  rounded = pos 1000 *ℤ q +ℤ pos u

  rounded_is : up rounded + 1000 * dn q ≡ 1000 * up q + u + dn rounded
  rounded_is = omega (arith, add_parts (pos 1000 *ℤ q) (pos u), times_up 1000 q, times_dn 1000 q)

  rounded_up_lem : rounded ≡ rounded_up (pos 100000 *ℤ x) (pos k)
  rounded_up_lem =
      let w : ℤ = pos 100000 *ℤ x in
      let e = ap (λ (n : ℕ). k * n) rounded_is in
      let low = ceil_ge (1000 * up r) k h in
      let high = ceil_under (1000 * up r) k h in
      let whole = rest_is in
      let none = rest_none in
      let above = times_up 100000 x in
      let below = times_dn 100000 x in
      let negated_up = neg_up w in
      let negated_dn = neg_dn w in
      sym (neg_neg rounded)
      ∙ ap neg_ℤ
      (floor_parts (neg_ℤ w) k (neg_ℤ rounded) h
      (rw (neg_up rounded, neg_dn rounded) (omega arith))
      (rw (neg_up rounded, neg_dn rounded) (omega arith)))

pub divided : (x y q : ℤ) → pos 0 <ℤ y → q ≡ floor_div (pos 100 *ℤ x) y → Divided x y q
divided x (pos k) q l e =
    let h : 0 < k = omega (arith, lt_parts l) in
    rw e
    record {
      some = rest_some x k h;
      less = rest_less x k h;
      most = thousandths_most x k h;
      up = rounded_up_lem x k h;
    }
divided x (negsuc k) q l e = absurd (omega (arith, lt_parts l))

-- ---- the time, by the quotient
module _ {x y q : ℤ} (d : Divided x y q) where
  -- it is from 1,000 times the quotient to 1,000 above that
  between : let z = rounded_up (pos 100000 *ℤ x) y in (1000 * up q + dn z ≤ up z + 1000 * dn q) × (up z + 1000 * dn q ≤ 1000 * up q + dn z + 1000)
  between =
      rw (sym d.up)
      (omega (arith, d.most, add_parts (pos 1000 *ℤ q) (pos (thousandths x y q)), times_up 1000 q, times_dn 1000 q))

  pub rounded_most : nat_abs q ≤ 1000 → nat_abs (rounded_up (pos 100000 *ℤ x) y) ≤ 1001000
  rounded_most h =
      rw (sym d.up)
      (omega (arith, h, d.most, abs_add (pos 1000 *ℤ q) (pos (thousandths x y q)), abs_times 1000 q))

  module _ (init : ℕ) where
    abbrev ms : ℤ
    ms = pos (1000 * (init + 1)) +ℤ rounded_up (pos 100000 *ℤ x) y

    pub far_above : AtMost (pos 240) q → 240000 ≡ time_of init x y
    unfolding time_of
    far_above h = omega (arith, h, between, add_parts (pos (1000 * (init + 1))) (rounded_up (pos 100000 *ℤ x) y))

    pub far_below : init < 600 → Below q (negsuc 999) → 1000 ≡ time_of init x y
    unfolding time_of
    far_below t h =
        omega (
          arith,
          up_mono ms (pos 0)
              (omega (arith, t, h, between, add_parts (pos (1000 * (init + 1))) (rounded_up (pos 100000 *ℤ x) y))),
        )
