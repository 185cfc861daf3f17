use Rattle.std.proofs.Common.{◌-◌, arith}
use Rattle.std.proofs.lemmas.Result.{IfOk-weaker}
use Rattle.nk_apply.proofs.OverPlaces.{outs_made_all}
use Rattle.nk_algebra.proofs.leaf_seqs.seq_two_leaves.Goals as goal

pub returns-clause-ok : goal.returns-clause-ok
returns-clause-ok c = IfOk-weaker c.seq_blocks.result _ _
    (λ d h. outs_made_all c.args.st.now c.seq_blocks.new.st c.args.a c.args.b (c.out_count-n.result - 0) d (omega (arith, c.out_count-n.ensures.count)) c.out_count-n.ensures.outs h) c.seq_blocks.ensures.ok
