-- 000, 3.7: T_APPLY, "the result rounded up to a ms and held inside the consist's range". Definitions only.
use Rattle.std.specs.Prelude.{Option, Some, None, ℕ, suc, ◌+◌, ◌*◌, min, max, cond, leb, ℤ, pos, neg_ℤ, ◌+ℤ◌, ◌-ℤ◌, ◌*ℤ◌}
use Rattle.std.specs.Int.Signed.{lt_z}
use Rattle.whole.specs.Floor.{floor_div, cut}
use Rattle.trend.specs.declared.Sums.{Sums}
use Rattle.trend.specs.Line.{slope_top, intercept_top, bottom}

-- what was learnt of the application time, in ms
abbrev pub Learnt : Type 0
Learnt = Option ℕ

pattern abbrev pub Nothing : Learnt
Nothing = None

pattern abbrev pub Time : ℕ → Learnt
Time ms = Some ms

-- as a number: 0 where nothing is learnt, else one more than the ms
abbrev pub learnt_number : Learnt → ℕ
learnt_number Nothing = 0
learnt_number (Time ms) = suc ms

-- X = B − E Z: "ARP_EQU − I_N−1", in Zths, the other way round
unfoldable pub dividend : (equ : ℕ) → Sums → ℤ
dividend equ s = intercept_top s -ℤ pos equ *ℤ bottom s

-- Y: "Slope_FINAL = 1.1 × Slope_TOT,N−1 − 0.0933 if p_N ≥ ARP_EQU, Slope_TOT,N−1 if p_N < ARP_EQU", in hundredths of Zths, the other way round
unfoldable pub divisor : (equ p : ℕ) → Sums → ℤ
divisor equ p s = cond (leb equ p) (pos 933 *ℤ bottom s -ℤ pos 110 *ℤ slope_top s) (neg_ℤ (pos 100 *ℤ slope_top s))

-- z / k, "rounded up", where k is above 0
abbrev pub rounded_up : ℤ → ℤ → ℤ
rounded_up z k = neg_ℤ (floor_div (neg_ℤ z) k)

-- "held inside the consist's range"
abbrev pub in_range : ℤ → ℕ
in_range z = max 1000 (min 240000 (cut z))

-- "T_APPLY = (ARP_EQU − I_N−1) / Slope_FINAL + t_INIT + 1", in ms
unfoldable pub time_of : (init : ℕ) (x y : ℤ) → ℕ
time_of init x y = in_range (pos (1000 * (init + 1)) +ℤ rounded_up (pos 100000 *ℤ x) y)

-- there is no result where Slope_FINAL does not fall
unfoldable pub result_of : (init equ p : ℕ) → Sums → Learnt
result_of init equ p s = let y = divisor equ p s in cond (lt_z (pos 0) y) (Time (time_of init (dividend equ s) y)) Nothing
