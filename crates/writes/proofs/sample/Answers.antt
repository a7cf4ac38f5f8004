-- 3 first, then the sample's writer.
use mathlib.Core.Path.{◌≡◌, refl, sym, ap, ◌∙◌}
use mathlib.Core.Bool.{Bool, true, false, not, ◌&&◌}
use mathlib.Core.List.{List}
use Prim.Native.Nat.{ℕ}
use lib.Dec.{eqb}
use Rattle.refusal.specs.Number.{told}
use Rattle.refusal.specs.Written.{written}
use Rattle.refusal.specs.declared.Refusal.TheVariants.{WrongMark}
use Rattle.refusal.specs.Verdict.{Verdict}
use Rattle.refusal.proofs.Order.{given, passed}
use Rattle.refusal.proofs.Steps.{on_unless, off_unless}
use Rattle.sample.specs.declared.RawSample.{RawSample}
use Rattle.sample.specs.Sample.{rear_of, of_fields, bytes_of, lost_not_zero, write_rules, write_sample}
use Rattle.bits.specs.Fields.{bit}
use Rattle.writes.specs.Written.{sample_fields, sample_written}
use Rattle.writes.proofs.Told.{told_of}
use Rattle.writes.proofs.sample.Goals as goal

-- "when lost, the bit is 0"
lost : (b : Bool) → eqb (bit (not b)) 0 ≡ b
lost true = refl
lost false = refl

module _ (present rear time head speed front : ℕ) where
  abbrev fields : List ℕ
  fields = sample_fields time present head speed front rear

  -- the test of the code is that of the fields
  tested : lost_not_zero fields ≡ (eqb present 0 && not (eqb rear 0))
  tested = ap (λ (b : Bool). b && not (eqb rear 0)) (lost (eqb present 0))

pub returns-in_default : goal.returns-in_default
unfolding sample_written
returns-in_default c =
    let a = c.args in
    let fs = fields a.present a.rear a.time a.head a.speed a.front in
    told_of c.number.ensures
    (sym
    (ap (λ (v : Verdict). told (written v (bytes_of (of_fields fs)) a.out.now))
    (given _ WrongMark (write_rules (of_fields fs) a.out.now) tt
    (tested a.present a.rear a.time a.head a.speed a.front ∙ off_unless _ (sym c.in_default.is ∙ c.unless.ensures)))))

pub returns : goal.returns
unfolding sample_written write_sample
returns c =
    let a = c.args in
    let fs = fields a.present a.rear a.time a.head a.speed a.front in
    let raw = of_fields fs in
    let is_raw : _ ≡ raw = (λ i. record {
      time = a.time;
      head = a.head;
      speed = c.float_of.ensures i;
      front = c.float_of-2.ensures i;
      rear = (c.rear_of.ensures ∙ sym (ap (λ (b : Bool). rear_of b a.rear) (lost (eqb a.present 0)))) i;
    }) in
    told_of c.verdict_number.ensures
    (c.write.ensures
    ∙ ap (λ (x : RawSample). told (write_sample x a.out.now)) is_raw
    ∙ sym
    (ap (λ (v : Verdict). told (written v (bytes_of raw) a.out.now))
    (passed _ WrongMark (write_rules raw a.out.now) (tested a.present a.rear a.time a.head a.speed a.front ∙ on_unless _ (sym c.in-Some.is ∙ c.unless.ensures)))))
