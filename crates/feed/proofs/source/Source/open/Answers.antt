use Rattle.std.proofs.Common.{rules, sym, []}
use Rattle.std.proofs.lemmas.Result.{err_from_is_err_and}
use lib.Seq.{length-take-le}
use Rattle.feed.proofs.Known.{known_as, known_then}
use Rattle.feed.proofs.Opens.{open_is, behind, alone_refused, blocks_refused, all_refused, all_opened}
use Rattle.feed.proofs.source.Source.open.Goals as goal

pub returns-in_err-open-clause-bytes : goal.returns-in_err-open-clause-bytes
returns-in_err-open-clause-bytes g c =
    let p = err_from_is_err_and c.from_residual.result c.from_residual.ensures.1 in
    let alone = open_is c.none-x.result _ _ _ c.args.choice c.none-x.ensures c.in_err-open.ensures in
    rw (p.1, p.2) (known_as _ _ _ _ _ c.fill-n.ensures.bytes (λ xs f. alone_refused c.args.choice xs _ _ _ _ f c.fill-n.ensures.count.0 _ _ alone))

pub returns-in_err-m-clause-bytes : goal.returns-in_err-m-clause-bytes
returns-in_err-m-clause-bytes g c =
    let p = err_from_is_err_and c.from_residual-in_err-m.result c.from_residual-in_err-m.ensures.1 in
    let alone = open_is c.none-x.result _ _ _ c.args.choice c.none-x.ensures c.in_ok-open.ensures in
    rw (p.1, p.2) (known_then _ _ _ _ _ _ _ _ c.fill-n.ensures.bytes c.in_err-m.ensures.bytes (λ xs f q. blocks_refused c.args.choice xs _ _ _ _ f c.fill-n.ensures.count.0 _ alone _ [] _ q))

pub slice_bounds-s-end-4 : goal.slice_bounds-s-end-4
slice_bounds-s-end-4 g c = behind 256 _ c.fill-n.new.s _ _ (search rules) c.in_ok-m.ensures.fits

pub slice_bounds-open-end-2 : goal.slice_bounds-open-end-2
slice_bounds-open-end-2 g c = sym (length-take-le _ _ (behind 256 _ c.fill-n.new.s _ _ (search rules) c.in_ok-m.ensures.fits))

pub returns-in_err-open-2-clause-bytes : goal.returns-in_err-open-2-clause-bytes
returns-in_err-open-2-clause-bytes g c =
    let p = err_from_is_err_and c.from_residual-in_err-open-2.result c.from_residual-in_err-open-2.ensures.1 in
    let alone = open_is c.none-x.result _ _ _ c.args.choice c.none-x.ensures c.in_ok-open.ensures in
    let all = open_is c.none-x-2.result _ _ _ c.args.choice c.none-x-2.ensures c.in_err-open-2.ensures in
    rw (p.1, p.2) (known_then _ _ _ _ _ _ _ _ c.fill-n.ensures.bytes c.in_ok-m.ensures.bytes
    (λ xs f q. all_refused c.args.choice xs _ _ _ _ f c.fill-n.ensures.count.0 _ alone _ _ _ (search rules) c.in_ok-m.ensures.fits q 256 _ _ all))

pub returns-clause-bytes : goal.returns-clause-bytes
returns-clause-bytes g c =
    let alone = open_is c.none-x.result _ _ _ c.args.choice c.none-x.ensures c.in_ok-open.ensures in
    let all = open_is c.none-x-2.result _ _ _ c.args.choice c.none-x-2.ensures c.in_ok-open-2.ensures in
    known_then _ _ _ _ _ _ _ _ c.fill-n.ensures.bytes c.in_ok-m.ensures.bytes
    (λ xs f q. all_opened c.args.choice xs _ _ _ _ f c.fill-n.ensures.count.0 _ alone _ _ _ (search rules) c.in_ok-m.ensures.fits q 256 _ all)
