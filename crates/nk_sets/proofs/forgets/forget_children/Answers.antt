use Rattle.std.proofs.Common.{subst, sym}
use Rattle.nk_apply.specs.Unions.{AreIds}
use Rattle.nk_sets.proofs.Forgetting.{kid_ids, here_forgotten}
use Rattle.nk_sets.proofs.forgets.forget_children.Goals as goal

pub union_all-requires : goal.union_all-requires
union_all-requires c =
    let known = c.requires.children in
    subst (AreIds c.args.st.now) (sym known.2)
    (kid_ids c.args.st.now c.args.s c.args.f known.0 c.requires.set known.1 c.laws-before.ensures.still)

pub returns-clause-ok : goal.returns-clause-ok
returns-clause-ok c =
    let known = c.requires.children in
    here_forgotten c.args.st.now c.args.s c.args.f known.0 c.requires.set known.1 c.laws-before.ensures.still
    c.union_all.new.st c.args.ds.now c.in_ok-r.r c.union_all.ensures.grows known.2 c.in_ok-r.ensures.ok (c.laws-after.ensures.reduced c.in_ok-r.r c.in_ok-r.ensures.ok.id)
