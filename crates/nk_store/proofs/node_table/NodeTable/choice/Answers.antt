use Rattle.std.proofs.Common.{◌∙◌, ◌≤◌, sym, subst, slice_index}
use Rattle.nk_store.specs.Nodes.{child_at}
use Rattle.nk_store.specs.StoreState.{HasLeaves, look, root_field}
use Rattle.nk_store.proofs.Stores.{IsSound, case_single, case_fits, case_has_leaves}
use Rattle.nk_store.proofs.node_table.NodeTable.choice.Goals as goal

pub returns-then-len-eq1-clause-ok : goal.returns-then-len-eq1-clause-ok
returns-then-len-eq1-clause-ok c = (case_single c.args.self.now c.args.field c.args.parts c.in_ok-kept.kept c.at.result.now c.requires c.in_ok-kept.ensures (sym c.len.ensures ∙ c.if-len-eq1.true) c.at.ensures).0

pub returns-then-len-eq1-clause-later : goal.returns-then-len-eq1-clause-later
returns-then-len-eq1-clause-later c = (case_single c.args.self.now c.args.field c.args.parts c.in_ok-kept.kept c.at.result.now c.requires c.in_ok-kept.ensures (sym c.len.ensures ∙ c.if-len-eq1.true) c.at.ensures).1

pub place-requires : goal.place-requires
place-requires c = case_fits c.args.self.now c.args.field c.args.parts c.in_ok-kept.kept c.requires c.in_ok-kept.ensures (λ e. c.if-len-eq1.false (c.len.ensures ∙ e))

both : (c : goal.After-_nodes-1) →
    HasLeaves c.place.new.self c.in_ok-d.d (λ pk. look c.args.self.now (child_at 0 c.args.parts (slice_index pk c.args.field)) pk) × (c.args.field ≤ root_field c.place.new.self c.in_ok-d.d)
both c = case_has_leaves c.args.self.now c.place.new.self c.in_ok-d.d c.args.field c.args.parts c.in_ok-kept.kept c.place.ensures.grows
    (subst IsSound c.self-2.view_is c.self-2.invariant) c.requires c.in_ok-kept.ensures c.in_ok-d.ensures.ok.0 c.in_ok-d.ensures.ok.1

pub returns-clause-ok : goal.returns-clause-ok
returns-clause-ok c = (both c).0

pub returns-clause-later : goal.returns-clause-later
returns-clause-later c = (both c).1
