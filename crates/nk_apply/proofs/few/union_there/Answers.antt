use Rattle.std.proofs.Common.{◌+◌, arith}
use Rattle.std.proofs.lemmas.Result.{IfOk-weaker}
use Rattle.nk_apply.proofs.Intervals.{cofactors_ids, cofactors_long, cofactors_later, cofactors_leaves}
use Rattle.nk_apply.proofs.few.union_there.Goals as goal

pub union_many-requires-clause-ids : goal.union_many-requires-clause-ids
union_many-requires-clause-ids c =
    cofactors_ids c.args.st.now c.args.f c.args.v c.args.ds.now c.args.children.now c.laws.ensures.nodes c.requires.ids c.requires.first c.requires.field c.requires.children

pub union_many-requires-clause-some : goal.union_many-requires-clause-some
union_many-requires-clause-some c =
    let long = cofactors_long c.args.st.now c.args.f c.args.v c.args.ds.now c.args.children.now c.requires.children in
    omega (arith, c.requires.some, long)

pub returns-clause-later : goal.returns-clause-later
returns-clause-later c = IfOk-weaker c.union_many.result _ _
    (λ r h.
    let k = h (c.args.f + 1) (omega (arith, c.requires.field)) (cofactors_later c.args.st.now c.args.f c.args.v c.args.ds.now c.args.children.now c.laws.ensures.nodes c.requires.ids c.requires.first c.requires.field c.requires.children) in
    omega (arith, k)) c.union_many.ensures.later

pub returns-clause-ok : goal.returns-clause-ok
returns-clause-ok c = IfOk-weaker c.union_many.result _ _
    (λ r h. cofactors_leaves c.args.st.now c.union_many.new.st c.args.f c.args.v c.args.ds.now c.args.children.now r c.requires.children h) c.union_many.ensures.ok
