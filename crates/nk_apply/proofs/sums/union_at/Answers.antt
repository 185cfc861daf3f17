use Rattle.std.proofs.Common.{length, arith}
use Rattle.std.proofs.lemmas.Result.{IfOk-weaker}
use Rattle.nk_apply.proofs.PartSums.{sum_all}
use Rattle.nk_apply.proofs.sums.union_at.Goals as goal

pub returns-clause-ok : goal.returns-clause-ok
returns-clause-ok c =
    IfOk-weaker c.case.result _ _
    (λ r h. sum_all c.args.st.now c.all_parts.new.st c.case.new.self c.args.f c.args.ds.now c.in_ok-parts.parts (length c.args.ds.now) r c.laws.ensures.nodes c.requires.ids c.requires.first c.requires.field
    (omega arith) c.in_ok-parts.ensures.ok h) c.case.ensures.ok
