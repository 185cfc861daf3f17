use Rattle.nk_backward.proofs.Joining.{joined_put}
use Rattle.nk_backward.proofs.predecessors.join_set.Goals as goal

pub returns-clause-ok : goal.returns-clause-ok
returns-clause-ok c =
    joined_put c.args.st.now c.with_found.new.st c.args.into.now.entries c.insert.new.self.entries c.args.t c.args.d c.in_ok-all.all c.with_found.ensures.grows c.requires.into c.in_ok-all.ensures.ok (λ q. c.in_ok-insert.ensures.updates.0 q)
