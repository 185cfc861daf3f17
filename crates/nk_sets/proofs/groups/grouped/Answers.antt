use Rattle.std.proofs.Common.{sym, subst}
use Rattle.std.specs.List.Sorted.{IsPermutation}
use Rattle.std.proofs.lemmas.Result.{IfOk-weaker}
use Rattle.nk_sets.proofs.Stretches.{stretches_moved}
use Rattle.nk_sets.proofs.Grouping.{by_out_united}
use Rattle.nk_sets.proofs.groups.grouped.Goals as goal

pub united-requires-clause-stretches : goal.united-requires-clause-stretches
united-requires-clause-stretches c =
    stretches_moved c.args.st.now c.args.f c.args.ss c.as_slice.result.now (subst (IsPermutation c.args.ss) (sym c.as_slice.ensures) c.in_order-ordered.ensures) c.requires.stretches.stretches

pub returns-clause-ok : goal.returns-clause-ok
returns-clause-ok c =
    IfOk-weaker c.united.result _ _
    (λ made u. by_out_united c.args.st.now c.united.new.st c.args.f c.args.d c.args.ss c.as_slice.result.now made c.united.ensures.grows c.requires.stretches
    (subst (IsPermutation c.args.ss) (sym c.as_slice.ensures) c.in_order-ordered.ensures) u) c.united.ensures.ok
