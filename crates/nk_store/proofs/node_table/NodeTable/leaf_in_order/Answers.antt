use Rattle.std.proofs.lemmas.Result.{IfOk-weaker}
use Rattle.nk_store.proofs.Stores.{leaf_has_outs, leaf_root_field}
use Rattle.nk_store.proofs.node_table.NodeTable.leaf_in_order.Goals as goal

pub returns-clause-ok : goal.returns-clause-ok
returns-clause-ok c = IfOk-weaker c.place.result _ _ (λ d h. leaf_has_outs c.place.new.self d c.args.outs h.0 h.1) c.place.ensures.ok

pub returns-clause-later : goal.returns-clause-later
returns-clause-later c = IfOk-weaker c.place.result _ _ (λ d h. leaf_root_field c.place.new.self d c.args.outs h.1) c.place.ensures.ok
