use Rattle.std.proofs.Common.{◌∙◌, ◌*◌, ◌/◌, Bool, ℕ, [], cond, length, take, drop, sym, ap}
use Rattle.std.proofs.lemmas.Bool.{lt-ltb, le-ltb}
use native.Mathlib.Nat.{add-sub_cancel_left}
use Rattle.bits.specs.Tables.{part}
use Rattle.table.specs.Table.{part_at}
use Rattle.table.proofs.record.Goals as goal

pub returns-then-k-s : goal.returns-then-k-s
unfolding part_at
returns-then-k-s c =
    let a = c.args in
    ap (λ (n : ℕ). take n (drop (a.size * a.k) a.s.now)) (add-sub_cancel_left (a.size * a.k) a.size)
    ∙ sym (ap (λ (b : Bool). cond b (part a.size a.s.now a.k) []) (lt-ltb a.k (length a.s.now / a.size) c.if-k-s.true))

pub returns-else-k-s : goal.returns-else-k-s
unfolding part_at
returns-else-k-s c = sym (ap (λ (b : Bool). cond b (part c.args.size c.args.s.now c.args.k) []) (le-ltb c.args.k (length c.args.s.now / c.args.size) c.if-k-s.false))
