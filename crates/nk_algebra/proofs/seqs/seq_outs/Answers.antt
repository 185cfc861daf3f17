use Rattle.std.proofs.Common.{◌-◌, ◌∙◌, sym, arith}
use Rattle.std.proofs.lemmas.Result.{IfOk-weaker}
use Rattle.nk_apply.proofs.OverPlaces.{outs_made_all, no_outs_made}
use Rattle.nk_algebra.proofs.seqs.seq_outs.Goals as goal

pub returns-then-n-eq0-clause-ok : goal.returns-then-n-eq0-clause-ok
returns-then-n-eq0-clause-ok c = IfOk-weaker c.empty.result _ _
    (λ d h. no_outs_made c.args.st.now c.empty.new.st c.args.a c.args.b d (sym c.out_count-n.ensures.count ∙ c.if-n-eq0.true) c.out_count-n.ensures.outs h) c.empty.ensures.ok

pub returns-clause-ok : goal.returns-clause-ok
returns-clause-ok c = IfOk-weaker c.seq_some.result _ _
    (λ d h. outs_made_all c.args.st.now c.seq_some.new.st c.args.a c.args.b (c.out_count-n.result - 0) d (omega (arith, c.out_count-n.ensures.count)) c.out_count-n.ensures.outs h) c.seq_some.ensures.ok
