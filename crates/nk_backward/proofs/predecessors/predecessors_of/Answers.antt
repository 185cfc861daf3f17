use Rattle.std.proofs.Common.{sym, subst}
use Rattle.std.specs.List.Sorted.{IsPermutation}
use Rattle.nk_backward.proofs.Joining.{diagrams_moved}
use Rattle.nk_backward.proofs.Preceding.{predecessors_made}
use Rattle.nk_backward.proofs.predecessors.predecessors_of.Goals as goal

pub joined_all-requires : goal.joined_all-requires
joined_all-requires c = record {
  ids = diagrams_moved c.marked_all.new.st c.in_ok-marked.marked c.as_slice.result.now (subst (λ ds. IsPermutation c.in_ok-marked.marked ds) (sym c.as_slice.ensures) c.in_order-ordered.ensures) c.in_ok-marked.ensures.ok.ids;
}

pub returns-clause-ok : goal.returns-clause-ok
returns-clause-ok c =
    predecessors_made c.args.st.now c.marked_all.new.st c.joined_all.new.st c.args.ts.now c.in_ok-places.places c.in_ok-marked.marked c.as_slice.result.now c.in_ok-into.into.entries c.marked_all.ensures.grows c.joined_all.ensures.grows c.requires.suits_store c.in_ok-places.ensures
    c.in_ok-marked.ensures.ok (subst (λ ds. IsPermutation c.in_ok-marked.marked ds) (sym c.as_slice.ensures) c.in_order-ordered.ensures) c.in_ok-into.ensures.ok
