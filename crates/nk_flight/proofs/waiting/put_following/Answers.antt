use Rattle.std.proofs.Common.{◌≡◌, ◌+◌, ◌-◌, ◌∙◌, ap, length, arith}
use Rattle.std.specs.List.{concat}
use Rattle.nk_flight.proofs.Blocks.{last_grown, one_more}
use Rattle.nk_flight.proofs.waiting.put_following.Goals as goal

pub returns-in_ok-append-clause-ok : goal.returns-in_ok-append-clause-ok
returns-in_ok-append-clause-ok c =
    let count : (c.len-count.result - 1) + 1 ≡ length c.args.blocks.now.items =
    omega (arith, c.if-count-gt0.true, c.len-count.ensures, c.args.blocks.now.ok.0) in
    last_grown c.args.blocks.now.items (c.len-count.result - 1) c.index_mut.result.now c.append.new.self c.args.places.items count c.index_mut.ensures.value c.in_ok-append.ensures.ok

pub returns-in_ok-push-clause-ok : goal.returns-in_ok-push-clause-ok
returns-in_ok-push-clause-ok c =
    ap concat c.in_ok-push.ensures.items ∙ one_more c.args.blocks.now.items c.args.places.items
