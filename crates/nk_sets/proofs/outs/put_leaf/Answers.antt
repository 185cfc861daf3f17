use Rattle.std.proofs.Common.{sym, subst, refl, map}
use Rattle.std.proofs.lemmas.Result.{on_ok_weaker}
use Rattle.nk_store.specs.StoreState.{IsNodeOf, IsLeaf}
use Rattle.nk_sets.specs.Outs.{out_with_packets}
use Rattle.nk_sets.proofs.ByOut.{leaf_by_out}
use Rattle.nk_sets.proofs.outs.put_leaf.Goals as goal

pub returns-clause-ok : goal.returns-clause-ok
returns-clause-ok c =
    let outs = c.as_slice.result.now in
    let es = map (out_with_packets c.in_ok-packets.packets) outs in
    on_ok_weaker c.put_each.result
    (λ h. (
      es,
      leaf_by_out c.identity.new.st c.args.d outs c.in_ok-packets.packets es (c.identity.ensures.grows.ids c.args.d c.requires.id)
          (subst (IsLeaf c.identity.new.st c.args.d) (sym c.as_slice.ensures) (subst (IsNodeOf c.identity.new.st c.args.d) c.in-Leaf.is c.view.ensures.means))
          c.in_ok-packets.ensures.ok c.in_ok-packets.ensures.later c.in_ok-packets.ensures.predicate refl,
      h,
    )) c.put_each.ensures
