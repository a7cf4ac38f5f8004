-- What is not below 0.0 has minus zero's bits or lower ones.
use mathlib.Core.Path.{◌≡◌, refl, sym, ap, ◌∙◌, subst}
use mathlib.Core.Bool.{Bool, true, false, ◌&&◌, true≢false}
use Prim.Native.Nat.{ℕ, zero, suc, ◌*◌, ◌≤◌}
use native.Mathlib.Nat.{mul-one, zero-mul, zero-div, mul-pos, zero-lt-suc, ne_of_lt}
use native.Mathlib.Omega.{arith}
use lib.Dec.{T, leb, lit≤}
use lib.Ieee.{Float, nan, inf, fin, up, binary32, fits, of_bits, to_bits, size, le, lt, eq}
use lib.Ieee.Bits.{to_bits-lt}
use lib.Ieee.Fits.{up_pos}
use borrow.Author.Rules.{rules}
use borrow.Author.Tests.{le-leb, ne_eqb}
use Rattle.hundredths.proofs.in_range.Goals as goal

sign_low : (x : Float) → T (fits binary32 x) → le (of_bits binary32 0) x ≡ true → to_bits binary32 x ≤ 0x8000_0000
unfolding to_bits size of_bits le lt eq fits
sign_low nan held h = lit≤ tt
sign_low (inf true) held h = absurd (true≢false (sym h))
sign_low (inf false) held h = lit≤ tt
sign_low (fin false zero e) held h = omega (arith, to_bits-lt binary32 (fin true zero e) held)
sign_low (fin false (suc m) e) held h = omega (arith, to_bits-lt binary32 (fin true (suc m) e) held)
sign_low (fin true zero e) held h = simp (zero-mul, zero-div) (lit≤ tt)
sign_low (fin true (suc m) e) held h =
    absurd (true≢false (sym h ∙ simp (mul-one, zero-mul, ne_eqb 0 (suc m * up e) (ne_of_lt (mul-pos (zero-lt-suc m) (up_pos e))))))

-- a test that holds wherever the first does adds nothing to it
also : (a b : Bool) → (a ≡ true → b ≡ true) → (a && b) ≡ a
also true b f = f refl
also false b f = refl

pub returns : goal.returns
returns c =
    let x = c.args.x in
    -- an f32 is a value that its format holds
    let held : T (fits binary32 x) = subst T (sym c.well_formed.0.1) tt in
    let low : le (of_bits binary32 0) x ≡ true → leb c.bits_of.result 0x8000_0000 ≡ true = λ h. ap (λ (b : ℕ). leb b 0x8000_0000) c.bits_of.ensures ∙ le-leb (to_bits binary32 x) 0x8000_0000 (sign_low x held h) in
    ap (λ (t : Bool). t && le x c.args.most) (also (le (of_bits binary32 0) x) (leb c.bits_of.result 0x8000_0000) low)
