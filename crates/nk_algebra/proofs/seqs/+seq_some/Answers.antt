use Rattle.std.proofs.Common.{◌+◌, ◌-◌, ◌/◌, ◌≤◌, arith}
use Rattle.std.proofs.lemmas.Result.{IfOk-weaker}
use Rattle.nk_store.specs.StoreState.{look}
use Rattle.nk_apply.specs.Seqs.{outs_of, out_made}
use Rattle.nk_apply.proofs.OverPlaces.{one_made, halves_made, out_strict, outs_made_grown}
use Rattle.nk_algebra.proofs.seqs.+seq_some.Goals as goal

pub returns-then-to-from-eq1-clause-ok : goal.returns-then-to-from-eq1-clause-ok
returns-then-to-from-eq1-clause-ok t c = IfOk-weaker c.after_at.result _ _
    (λ d h. one_made (out_made (outs_of c.args.st.now c.args.a) (look c.args.st.now c.args.b)) c.after_at.new.st c.args.from (c.args.to - c.args.from) d c.if-to-from-eq1.true h) c.after_at.ensures.ok

pub returns-clause-ok : goal.returns-clause-ok
returns-clause-ok t c =
    let middle = c.args.from + (c.args.to - c.args.from) / 2 in
    let low : c.args.from ≤ middle = omega arith in
    let high : middle ≤ c.args.to = omega (arith, c.requires.some) in
    let made = out_made (outs_of c.args.st.now c.args.a) (look c.args.st.now c.args.b) in
    IfOk-weaker c.union_later.result _ _ (λ r u. halves_made made c.seq_some.new.st c.seq_some-2.new.st c.union_later.new.st c.args.from middle c.args.to c.in_ok-left.left c.in_ok-right.right r
    (out_strict (outs_of c.args.st.now c.args.a) (look c.args.st.now c.args.b)) low high c.seq_some-2.ensures.grows c.in_ok-left.ensures.ok
    (outs_made_grown c.args.st.now c.seq_some.new.st c.seq_some-2.new.st c.args.a c.args.b middle (c.args.to - middle) c.in_ok-right.right c.seq_some.ensures.grows c.requires.left c.requires.right c.in_ok-right.ensures.ok) u) c.union_later.ensures.ok
