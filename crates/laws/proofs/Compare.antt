-- A train that is no slower, under a brake force that is no greater, is never short of the other: while both walk, its q is no lower and its
-- clock no later, so that where it stays at or below a speed the other does. With q greater by e, the square root is greater by at most e, so q loses
-- at most e more. Assumes nothing.
use mathlib.Core.Path.{◌≡◌, refl, sym, ap, ◌∙◌}
use mathlib.Core.Bool.{Bool, true, false, true≢false}
use Prim.Native.Nat.{ℕ, zero, suc, ◌+◌, ◌*◌, ◌-◌, ◌≤◌, ◌<◌}
use native.Mathlib.Nat.{le_refl, le_trans, mul-le-mul, mul-le-mul_left, mul-le-mul_right}
use native.Mathlib.Omega.{arith}
use lib.Dec.{leb}
use lib.IntN.{ℤ, pos, ◌+ℤ◌, ◌-ℤ◌, ◌*ℤ◌}
use borrow.Author.Tests.{leb-true, leb-false}
use Rattle.whole.specs.Floor.{cut}
use Rattle.whole.specs.Root.{root_of}
use Rattle.whole.proofs.Parts.{up, dn, up_mono, add_parts, sub_parts, times_up, times_dn}
use Rattle.whole.proofs.Floors.{floor_grows}
use Rattle.whole.proofs.Roots.{root_mono, root_grows, root_pos}
use Rattle.consist.specs.declared.Consist.{Consist}
use Rattle.step.specs.declared.Run.{Run}
use Rattle.step.specs.Step.{steps_most, Ground, opposing, loss, step_time, step_of}
use Rattle.walk.specs.Walk.{Arrival, at, never, arrival_by, stays, walk_to, arrival_for}
use Rattle.laws.specs.Compare.{NotShort, Weaker, Alike, Heavy, Ahead, StaysAhead, NeverShort}
use Rattle.walk.proofs.Equations.{stays_ended, stays_cut, stays_above, stays_on, walk_at, walk_cut, walk_on}
use Rattle.laws.proofs.Forces.{div-le}

-- ---- what q loses

-- the force that no grade makes, of a squared speed greater by e
drag : (W N n F F' s s' q e : ℕ) → F ≤ F' → s ≤ s' + e → 10 * N ≤ W →
    1449 * (1000000 * F + 600000 * W + 20000000 * n + 100 * (W * s) + 7 * (N * (q + e)))
    ≤ 1449 * (1000000 * F' + 600000 * W + 20000000 * n + 100 * (W * s') + 7 * (N * q)) + 605000 * W * e
drag W N n F F' s s' q e f h l = omega (arith, mul-le-mul_left W h, mul-le-mul_right e l)

-- grade and curvature add the same to both
same_ground : (x y e k : ℕ) (z : ℤ) → 1449 * x ≤ 1449 * y + e →
    let a = pos 1449 *ℤ (pos x +ℤ z +ℤ pos k) in let b = pos 1449 *ℤ (pos y +ℤ z +ℤ pos k) in up a + dn b ≤ up b + dn a + e
same_ground x y e k z h =
    let a : ℤ = pos x +ℤ z +ℤ pos k in
    let b : ℤ = pos y +ℤ z +ℤ pos k in
    omega (
      arith,
      times_up 1449 a,
      times_dn 1449 a,
      times_up 1449 b,
      times_dn 1449 b,
      add_parts (pos x +ℤ z) (pos k),
      add_parts (pos x) z,
      add_parts (pos y +ℤ z) (pos k),
      add_parts (pos y) z,
    )

module _ (c d : Consist) (heavy : Heavy c) (alike : Alike c d) (F F' s s' q e k : ℕ) (g : ℤ) (f : F ≤ F') (h : s ≤ s' + e) where
  loss_grows : up (loss c F s (q + e) g k) + dn (loss d F' s' q g k) ≤ up (loss d F' s' q g k) + dn (loss c F s (q + e) g k) + e
  unfolding loss opposing
  loss_grows =
      rw (← alike.weight, ← alike.cars, ← alike.axles)
      (floor_grows (pos 1449 *ℤ opposing c F s (q + e) g k) (pos 1449 *ℤ opposing c F' s' q g k) (605000 * c.weight) e (omega (arith, heavy.some))
      (same_ground _ _ (605000 * c.weight * e) (8000 * (c.weight * k)) (pos (2000 * c.weight) *ℤ g)
      (drag c.weight c.cars c.axles F F' s s' q e f h heavy.enough)))

  keeps_more : cut (pos q -ℤ loss d F' s' q g k) ≤ cut (pos (q + e) -ℤ loss c F s (q + e) g k)
  keeps_more =
      let l : ℤ = loss c F s (q + e) g k in
      let m : ℤ = loss d F' s' q g k in
      up_mono (pos q -ℤ m) (pos (q + e) -ℤ l) (omega (arith, loss_grows, sub_parts (pos q) m, sub_parts (pos (q + e)) l))

-- ---- a step

time_falls : (p q : ℕ) → 0 < p → p ≤ q → step_time (root_of q) ≤ step_time (root_of p)
unfolding step_time
time_falls p q h l =
    div-le 12000000 12000000 (11 * root_of q) (11 * root_of p) (le_refl _) (omega (arith, root_pos p h)) (omega (arith, root_mono p q l))

pub stays_ahead : StaysAhead
unfolding StaysAhead step_of
stays_ahead c d f g ground r s heavy alike weaker ahead some =
    let e : ℕ = r.q - s.q in
    let eq : r.q ≡ s.q + e = omega arith in
    record {
      head = ap (λ (n : ℕ). n + 16) ahead.head;
      clock = omega (arith, ahead.clock, time_falls s.q r.q some ahead.q);
      q =
          rw (ahead.head, eq)
          (keeps_more c d heavy alike (f r.clock) (g s.clock) (root_of (s.q + e)) (root_of s.q) s.q e (ground.curvature s.head)
          (ground.grade s.head) (le_trans (weaker.first_grows _ _ ahead.clock) (weaker.below _)) (root_grows s.q e));
    }

-- ---- the walk

-- q is 0, where the walk has ended, or above it
pub ended_or_on : {P : Type 0} (q : ℕ) → (q ≡ 0 → P) → (0 < q → P) → P
ended_or_on {P} q ended on = by (leb q 0) refl
  where
    by : (b : Bool) → leb q 0 ≡ b → P
    by true e = ended (omega (arith, leb-true q 0 e))
    by false e = on (leb-false q 0 e)

-- no walk arrives short of its start
verdict_from : (h m : ℕ) (b : Bool) (rest : Arrival) → h ≤ m → NotShort rest (at h) → NotShort (arrival_by b m rest) (at h)
verdict_from h m true rest l r = l
verdict_from h m false rest l r = r

pub walk_from : (c : Consist) (f : ℕ → ℕ) (ground : Ground) (limit n : ℕ) (r : Run) (h : ℕ) → h ≤ r.head →
    NotShort (walk_to c f ground limit n r) (at h)
unfolding walk_to step_of
walk_from c f ground limit zero r h l = verdict_from h r.head (stays c f ground limit zero r) never l tt
walk_from c f ground limit (suc n) r h l =
    verdict_from h r.head (stays c f ground limit (suc n) r) _ l (walk_from c f ground limit n (step_of c f ground r) h (omega arith))

module _ (c d : Consist) (f g : ℕ → ℕ) (ground : Ground) (limit : ℕ) (heavy : Heavy c) (alike : Alike c d) (weaker : Weaker f g) where
  next : (r s : Run) → Ahead r s → 0 < s.q → Ahead (step_of c f ground r) (step_of d g ground s)
  unfolding StaysAhead
  next r s ahead some = stays_ahead c d f g ground r s heavy alike weaker ahead some

  -- if the first stays at or below the limit, so does the second
  both_stay : (n : ℕ) (r s : Run) → Ahead r s → stays c f ground limit n r ≡ true → stays d g ground limit n s ≡ true
  both_stay zero r s ahead e =
      ended_or_on s.q (stays_ended d g ground limit s zero) (λ some. absurd (true≢false (sym e ∙ stays_cut c f ground limit r (omega arith))))
  both_stay (suc n) r s ahead e =
      ended_or_on s.q (stays_ended d g ground limit s (suc n))
      (λ some. by some (both_stay n (step_of c f ground r) (step_of d g ground s) (next r s ahead some)) (leb r.q limit) refl)
    where
      by : 0 < s.q → (stays c f ground limit n (step_of c f ground r) ≡ true → stays d g ground limit n (step_of d g ground s) ≡ true) →
          (b : Bool) → leb r.q limit ≡ b → stays d g ground limit (suc n) s ≡ true
      by some after true h =
          let l : r.q ≤ limit = leb-true _ _ h in
          stays_on d g ground limit s n some (omega arith) ∙ after (sym (stays_on c f ground limit r n (omega arith) l) ∙ e)
      by some after false h = absurd (true≢false (sym e ∙ stays_above c f ground limit r (suc n) (leb-false _ _ h)))

  abbrev InOrder : ℕ → Run → Run → Type 0
  InOrder n r s = NotShort (walk_to c f ground limit n r) (walk_to d g ground limit n s)

  -- at one step, given the order where neither stays
  at_arrival : (n : ℕ) (r s : Run) → Ahead r s
      → (stays c f ground limit n r ≡ false → stays d g ground limit n s ≡ false → InOrder n r s) → InOrder n r s
  at_arrival n r s ahead on = by (stays d g ground limit n s) (stays c f ground limit n r) refl refl
    where
      by : (b a : Bool) → stays d g ground limit n s ≡ b → stays c f ground limit n r ≡ a → InOrder n r s
      by true a e k = rw (walk_at d g ground limit s n e) (walk_from c f ground limit n r s.head (omega arith))
      by false true e k = absurd (true≢false (sym (both_stay n r s ahead k) ∙ e))
      by false false e k = on k e

  -- a run that does not stay has not ended
  not_ended : (n : ℕ) (s : Run) → stays d g ground limit n s ≡ false → 0 < s.q
  not_ended n s e = ended_or_on s.q (λ z. absurd (true≢false (sym (stays_ended d g ground limit s n z) ∙ e))) (λ some. some)

  in_order : (n : ℕ) (r s : Run) → Ahead r s → InOrder n r s
  in_order zero r s ahead =
      at_arrival zero r s ahead (λ k e. let some = not_ended zero s e in rw (walk_cut c f ground limit r (omega (arith, ahead.q, some))) tt)
  in_order (suc n) r s ahead =
      at_arrival (suc n) r s ahead
      (λ k e. rw (walk_on c f ground limit r n k, walk_on d g ground limit s n e) (in_order n _ _ (next r s ahead (not_ended (suc n) s e))))

pub never_short : NeverShort
unfolding NeverShort arrival_for
never_short c d f g ground head v w u heavy alike weaker l =
    in_order c d f g ground (u * u) heavy alike weaker steps_most _ _ (record { head = refl; q = mul-le-mul l l; clock = le_refl 0 })
