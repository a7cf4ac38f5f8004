-- What a loop that judges record after record needs, what the judge answers, and what it tells of the records. Assumes nothing.
use mathlib.Core.Path.{◌≡◌, refl, sym, ap, ap₂, subst, ◌∙◌}
use mathlib.Core.Bool.{Bool, true, false, not, ◌&&◌, ◌||◌, and_assoc}
use mathlib.Core.List.{List, [], ◌∷◌}
use Prim.Native.Nat.{ℕ, zero, suc, ◌+◌, ◌-◌, ◌*◌, ◌%◌, ◌≤◌, ◌<◌}
use native.Mathlib.Nat.{not-suc-le-zero, le_antisymm, div-add-mod}
use native.Mathlib.Numerals.{add-one}
use native.Mathlib.Decide.{ℕ_discrete}
use native.Mathlib.Omega.{arith}
use lib.Dec.{leb, ltb, eqb, eqb-suc-zero}
use lib.ListN.{length}
use borrow.Author.Tests.{leb-true, ltb-true, eqb-true, not-true, not-false}
use Rattle.bits.proofs.Ranges.{and-true_left, and-true_right}
use Rattle.refusal.specs.Lowest.{lowest}
use Rattle.refusal.specs.Steps.{kept}
use Rattle.refusal.specs.Verdict.{Verdict, Accepted}
use Rattle.refusal.proofs.Order.{accepted}
use Rattle.refusal.proofs.Steps.{first_of, in_order}
use Rattle.table.specs.Table.{every, Table, counted, rises, good, closed, lawful, count, record_at, clean_at, lawful_in, judge_rules, answer, judge}

-- ---- of every number below n

pub every_at : (n k : ℕ) (f : ℕ → Bool) → k < n → every n f ≡ true → f k ≡ true
every_at zero k f h e = absurd (not-suc-le-zero h)
every_at (suc n) k f h e = by (ℕ_discrete k n) (λ l. every_at n k f l (and-true_left (every n f) (f n) e))
  where
    by : Dec (k ≡ n) → (k < n → f k ≡ true) → f k ≡ true
    by (yes p) r = ap f p ∙ and-true_right (every n f) (f n) e
    by (no p) r = r (omega arith)

pub every_same : (n : ℕ) (f g : ℕ → Bool) → ((k : ℕ) → k < n → f k ≡ g k) → every n f ≡ every n g
every_same zero f g h = refl
every_same (suc n) f g h = ap₂ ◌&&◌ (every_same n f g (λ k l. h k (omega arith))) (h n (omega arith))

-- numbers that rise from each to the next rise from each to every later one
rise_all : (n : ℕ) (f : ℕ → ℕ) → ((k : ℕ) → suc k < n → f k < f (suc k)) → (k m : ℕ) → k < m → m < n → f k < f m
rise_all n f h k zero l b = absurd (not-suc-le-zero l)
rise_all n f h k (suc m) l b = by (ℕ_discrete k m) (λ i. rise_all n f h k m i (omega arith))
  where
    by : Dec (k ≡ m) → (k < m → f k < f m) → f k < f (suc m)
    by (yes e) r = subst (λ (i : ℕ). f i < f (suc m)) (sym e) (h m b)
    by (no e) r = omega (arith, r (omega arith), h m b)

module _ {A : Type 0} (t : Table A) where
  -- ---- how many there are, and the last

  pub counted_range : (n : ℕ) → counted t n ≡ true → (t.fewest ≤ n) × (n ≤ t.most)
  unfolding counted
  counted_range n h =
      let a = leb t.fewest n in
      let b = leb n t.most in
      (leb-true t.fewest n (and-true_left a b h), leb-true n t.most (and-true_right a b h))

  pub closed_last : (n : ℕ) (f : ℕ → A) → 0 < n → t.ends (f (n - 1)) ≡ closed t n f
  closed_last zero f h = absurd (not-suc-le-zero h)
  closed_last (suc n) f h = ap (λ (i : ℕ). t.ends (f i)) (omega arith)

  -- ---- a loop over n records

  module _ (n : ℕ) (f : ℕ → A) (right : ℕ → Bool) where
    -- the key of the record before record k
    abbrev pub key_before : ℕ → ℕ
    key_before zero = 0
    key_before (suc k) = t.key (f k)

    -- the first k are judged
    pub record Judged (k : ℕ) (all : Bool) (before : ℕ) : Type 0 where
      pub within : k ≤ n
      pub so_far : all ≡ every k (good t f right)
      pub last_key : before ≡ key_before k

    good_is : (k : ℕ) → good t f right k ≡ right k && (t.in_range (f k) && (eqb k 0 || ltb (key_before k) (t.key (f k))))
    unfolding good
    good_is zero = refl
    good_is (suc k) = rw (eqb-suc-zero k)

    -- and one more, which is g
    pub judged_next : (k : ℕ) (all : Bool) (before : ℕ) (g : A) (a b : Bool) → Judged k all before → k < n → g ≡ f k → a ≡ right k
        → b ≡ (t.in_range g && (eqb k 0 || ltb before (t.key g))) → Judged (k + 1) (all && (a && b)) (t.key g)
    judged_next k all before g a b j l is h e = rw (add-one k) (record {
      within = l;
      so_far = ap₂ ◌&&◌ j.so_far (ap₂ ◌&&◌ h (e ∙ ap₂ (λ (x : A) (y : ℕ). t.in_range x && (eqb k 0 || ltb y (t.key x))) is j.last_key) ∙ sym (good_is k));
      last_key = ap t.key is;
    })

    -- the rules in the order in which they are tested: a wrong number of records, which `a` and b find, or a right one and all of them judged
    pub lawful_wrong : (a : Bool) {b : Bool} → b ≡ a && counted t n → not b ≡ true → a && lawful t n f right ≡ false
    unfolding lawful
    lawful_wrong a {b} h e = sym (and_assoc a (counted t n) _) ∙ rw (sym h ∙ not-true b e)

    pub lawful_judged : (a : Bool) {b : Bool} → b ≡ a && counted t n → not b ≡ false → (k : ℕ) (all : Bool) (before : ℕ) (last : Bool) → Judged k all before → n ≤ k
        → last ≡ closed t n f → a && lawful t n f right ≡ all && last
    unfolding lawful
    lawful_judged a {b} h e k all before last j l is =
        sym (and_assoc a (counted t n) _)
        ∙ rw (sym h ∙ not-false b e) (ap₂ ◌&&◌ (ap (λ (i : ℕ). every i (good t f right)) (le_antisymm l j.within) ∙ sym j.so_far) (sym is))

    -- ---- what is lawful, said of the records

    pub record Sound : Type 0 where
      pub fewest : t.fewest ≤ n
      pub most : n ≤ t.most
      pub clean : (k : ℕ) → k < n → right k ≡ true
      pub each : (k : ℕ) → k < n → t.in_range (f k) ≡ true
      pub rising : (k m : ℕ) → k < m → m < n → t.key (f k) < t.key (f m)
      pub last : closed t n f ≡ true

    pub lawful_sound : lawful t n f right ≡ true → Sound
    unfolding lawful good
    lawful_sound h =
        let c = counted_range n (and-true_left (counted t n) _ h) in
        let rest = and-true_right (counted t n) (every n (good t f right) && closed t n f) h in
        let one : (k : ℕ) → k < n → right k && (t.in_range (f k) && rises t f k) ≡ true =
        λ k l. every_at n k (good t f right) l (and-true_left (every n (good t f right)) (closed t n f) rest) in
        let two : (k : ℕ) → k < n → t.in_range (f k) && rises t f k ≡ true = λ k l. and-true_right (right k) _ (one k l) in
        record {
          fewest = c.0;
          most = c.1;
          clean = λ k l. and-true_left (right k) _ (one k l);
          each = λ k l. and-true_left (t.in_range (f k)) (rises t f k) (two k l);
          rising = rise_all n (λ k. t.key (f k)) (λ k l. ltb-true _ _ (and-true_right (t.in_range (f (suc k))) (rises t f (suc k)) (two (suc k) l)));
          last = and-true_right (every n (good t f right)) (closed t n f) rest;
        }

  -- the rules look at the first n records only
  module _ (f g : ℕ → A) (r s : ℕ → Bool) where
    good_same : (n : ℕ) → ((k : ℕ) → k < n → f k ≡ g k) → ((k : ℕ) → k < n → r k ≡ s k) → (k : ℕ) → k < n → good t f r k ≡ good t g s k
    unfolding good
    good_same n same bits zero l = ap₂ (λ (b : Bool) (x : A). b && (t.in_range x && true)) (bits zero l) (same zero l)
    good_same n same bits (suc k) l =
        ap₂ ◌&&◌ (bits (suc k) l) (ap₂ (λ (x y : A). t.in_range y && ltb (t.key x) (t.key y)) (same k (omega arith)) (same (suc k) l))

    closed_same : (n : ℕ) → ((k : ℕ) → k < n → f k ≡ g k) → closed t n f ≡ closed t n g
    closed_same zero same = refl
    closed_same (suc n) same = ap t.ends (same n (omega arith))

    pub lawful_same : (n : ℕ) → ((k : ℕ) → k < n → f k ≡ g k) → ((k : ℕ) → k < n → r k ≡ s k) → lawful t n f r ≡ lawful t n g s
    unfolding lawful
    lawful_same n same bits =
        ap₂ (λ (a b : Bool). counted t n && (a && b)) (every_same n (good t f r) (good t g s) (good_same n same bits)) (closed_same n same)

  -- ---- the judge

  pub judge_is : (s : List ℕ) (b : Bool) → lawful_in t s ≡ b → judge t s ≡ answer t (first_of ((not b, t.broken) ∷ [])) (count t s)
  unfolding judge
  judge_is s b h = rw (in_order (judge_rules t s) tt, h)

  pub judged_lawful : (s : List ℕ) (n : ℕ) → judge t s ≡ (Accepted, n) → (lawful_in t s ≡ true) × (count t s ≡ n)
  unfolding judge
  judged_lawful s n h =
      let v : lowest (judge_rules t s) ≡ Accepted = ap (λ (x : Verdict × ℕ). x.0) h in
      (not-false (lawful_in t s) (accepted _ _ _ v).0, ap (λ (x : Verdict). kept x (count t s) 0) (sym v) ∙ ap (λ (x : Verdict × ℕ). x.1) h)

  pub judged_whole : (s : List ℕ) (n : ℕ) → judge t s ≡ (Accepted, n) → (length s ≡ t.size * n) × (lawful t n (record_at t s) (clean_at t s) ≡ true)
  unfolding lawful_in
  judged_whole s n h =
      let k = judged_lawful s n h in
      let a = eqb (length s % t.size) 0 in
      let w = eqb-true (length s % t.size) 0 (and-true_left a (lawful t (count t s) (record_at t s) (clean_at t s)) k.0) in
      subst (λ (m : ℕ). (length s ≡ t.size * m) × (lawful t m (record_at t s) (clean_at t s) ≡ true)) k.1
      (omega (arith, div-add-mod (length s) t.size), and-true_right a _ k.0)

  pub judged_sound : (s : List ℕ) (n : ℕ) → judge t s ≡ (Accepted, n) → Sound n (record_at t s) (clean_at t s)
  judged_sound s n h = lawful_sound n (record_at t s) (clean_at t s) (judged_whole s n h).1
