use Rattle.std.proofs.Common.{◌∙◌, ap, subst, get_or}
use Rattle.std.specs.Prelude.{slice_set}
use Rattle.nk_store.specs.StoreState.{HasLeaves, look}
use Rattle.nk_apply.specs.Leaves.{merged}
use Rattle.nk_compact.proofs.MetSets.{entry_put}
use Rattle.nk_compact.proofs.met.put_entry.Goals as goal

pub returns-clause-under : goal.returns-clause-under
returns-clause-under c = λ base before first id k.
    entry_put base c.args.st.now c.union.new.st before c.args.all.now c.put.new.self c.args.s c.args.packets c.in_ok-d.d first c.union.ensures.grows id c.requires.place
    (subst (λ n. HasLeaves c.union.new.st c.in_ok-d.d (λ pk. merged (look c.args.st.now n pk) (look c.args.st.now c.args.packets pk)))
    (c.id_at.ensures ∙ ap (λ i. get_or c.args.all.now i 0) c.place-place.ensures) c.in_ok-d.ensures.ok)
    (c.put.ensures ∙ ap (λ i. slice_set c.args.all.now i c.in_ok-d.d) c.place-place.ensures) k
