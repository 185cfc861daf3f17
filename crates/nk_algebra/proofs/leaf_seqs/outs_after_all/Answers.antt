use Rattle.std.proofs.Common.{◌∙◌, ◌++◌, ◌-◌, ap, map, arith}
use Rattle.std.proofs.lemmas.List.{get_or_default}
use Rattle.nk_store.specs.declared.node.Out.{Out}
use Rattle.nk_apply.specs.Seqs.{no_out, out_after, outs_made}
use Rattle.nk_apply.specs.Unions.{in_turn}
use Rattle.nk_algebra.proofs.LeavesAtOnce.{turn_more}
use Rattle.nk_algebra.proofs.leaf_seqs.outs_after_all.Goals as goal

pub loop-i-preserved : goal.loop-i-preserved
loop-i-preserved c =
    turn_more (outs_made c.args.firsts.now c.args.seconds.now) c.loop-i.i c.args.to c.loop-i.all c.push_after.new.all
    (in_turn (outs_made c.args.firsts.now c.args.seconds.now) c.args.from (c.args.to - c.args.from)) c.loop-i-test.true c.loop-i.invariant
    (c.in_ok-push_after.ensures
    ∙ ap (λ (o : Out). c.loop-i.all ++ map (out_after o.act) c.args.seconds.now)
    (get_or_default c.args.firsts.now c.loop-i.i c.index-firsts-i.result no_out (omega (arith, c.loop-i-test.true, c.requires.within))))
