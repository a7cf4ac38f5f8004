use Rattle.std.proofs.Common.{◌≡◌, ◌∙◌, ◌*◌, ◌≤◌, length, ltb, sym, ap, subst, true, ℕ, arith}
use Rattle.std.proofs.lemmas.Bool.{ltb-false, not-true, not-false}
use Rattle.refusal.specs.Number.{told}
use Rattle.refusal.proofs.Steps.{on_unless, off_unless}
use Rattle.table.proofs.Keeping.{kept_is, fits}
use Rattle.table.proofs.Writing.{put_none, put_ranged, put_inside, put_next, broken_is, no_room_is, put_all_of}
use Rattle.table.proofs.rows.write.Goals as goal

pub returns-in_default : goal.returns-in_default
returns-in_default g c =
    let t = g.T.Item.Record.layout in
    let no = off_unless _ (sym c.in_default.is ∙ c.unless.ensures) in
    rw (c.broken.ensures) (ap told (broken_is t _ c.requires.laws _ _ _ (sym (kept_is t _ _ _ _ c.requires.spotless) ∙ sym c.keep.ensures ∙ not-true _ no)))

pub overflow_mul-SIZE : goal.overflow_mul-SIZE
overflow_mul-SIZE g c =
    let yes = on_unless _ (sym c.in-Some.is ∙ c.unless.ensures) in
    rw (c.SIZE.ensures, c.count-n.ensures) (record { fits = omega (arith, fits g.T.Item.Record.layout g.met.T.Item.Record.sizes _ _ _ _ (sym c.keep.ensures ∙ not-false _ yes)) })

pub returns-in_default-unless : goal.returns-in_default-unless
returns-in_default-unless g c =
    let t = g.T.Item.Record.layout in
    let yes = on_unless _ (sym c.in-Some.is ∙ c.unless.ensures) in
    let no = off_unless _ (sym c.in_default-unless.is ∙ c.unless-2.ensures) in
    let size : c.SIZE.result ≡ t.size = c.SIZE.ensures ∙ sym g.met.T.Item.Record.sizes.is in
    rw (← c.count-n.ensures)
    (ap told
    (no_room_is t _ c.requires.laws _ _ _ (rw (c.count-n.ensures) (sym (kept_is t _ _ _ _ c.requires.spotless) ∙ sym c.keep.ensures ∙ not-false _ yes))
    (subst (λ (x : ℕ). ltb (length c.args.out.now) (x * c.count-n.result) ≡ true) size no)))

pub loop-k-init : goal.loop-k-init
loop-k-init g c =
    let t = g.T.Item.Record.layout in
    let kept = on_unless _ (sym c.in-Some.is ∙ c.unless.ensures) in
    let room = on_unless _ (sym c.in-Some-unless.is ∙ c.unless-2.ensures) in
    let size : c.SIZE.result ≡ t.size = c.SIZE.ensures ∙ sym g.met.T.Item.Record.sizes.is in
    put_none t _ _ _ _ (rw (c.count-n.ensures) (sym (kept_is t _ _ _ _ c.requires.spotless) ∙ sym c.keep.ensures ∙ not-false _ kept))
    (subst (λ (x : ℕ). x * c.count-n.result ≤ length c.args.out.now) size (ltb-false _ _ room))

pub put_at-requires : goal.put_at-requires
put_at-requires g c =
    let t = g.T.Item.Record.layout in
    (ap t.in_range c.row.ensures ∙ put_ranged t _ c.loop-k.invariant c.loop-k-test.true, subst (λ (x : ℕ). x * c.loop-k.k ≤ length c.loop-k.out) g.met.T.Item.Record.sizes.is (put_inside t _ c.loop-k.invariant))

pub loop-k-preserved : goal.loop-k-preserved
loop-k-preserved g c =
    let t = g.T.Item.Record.layout in
    rw (c.put_at.ensures) (put_next t _ c.requires.laws c.loop-k.invariant c.loop-k-test.true (λ i. grind arith) _ c.row.ensures)

pub returns : goal.returns
returns g c =
    let t = g.T.Item.Record.layout in
    rw (← c.count-n.ensures) (ap told (put_all_of t _ c.requires.laws c.loop-k.invariant c.loop-k-test.false))
