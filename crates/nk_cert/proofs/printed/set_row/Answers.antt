use Rattle.std.proofs.Common.{sym, subst, ◌∙◌}
use Rattle.nk_policy.specs.Tree.{tree_of}
use Rattle.nk_sets.specs.PacketSets.{IsSet}
use Rattle.nk_sets.specs.PolicyOf.{IsPolicyOf}
use Rattle.nk_cert.proofs.Making.{packets_set}
use Rattle.nk_cert.proofs.printed.set_row.Goals as goal

pub set_pol-requires : goal.set_pol-requires
set_pol-requires c =
    subst (IsSet c.args.st.now) (sym c.packets_under-packets.ensures) (packets_set c.args.st.now c.args.visited.now c.args.none c.args.set c.requires.packets c.requires.none)

pub returns : goal.returns
returns c = record {
  positions = c.from_vec.ensures ∙ c.in_ok-members.ensures.items ∙ c.members.ensures.is;
  set = packets_set c.args.st.now c.args.visited.now c.args.none c.args.set c.requires.packets c.requires.none;
  predicate = subst (λ d. IsPolicyOf c.args.st.now d (tree_of c.in_ok-predicate.predicate)) c.packets_under-packets.ensures c.in_ok-predicate.ensures;
}
