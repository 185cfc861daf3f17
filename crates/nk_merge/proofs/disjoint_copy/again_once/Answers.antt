use Rattle.std.proofs.Common.{◌∙◌, sym}
use Rattle.nk_merge.proofs.Doubling.{made_more}
use Rattle.nk_merge.proofs.disjoint_copy.again_once.Goals as goal

pub returns-in-Some-clause-ok : goal.returns-in-Some-clause-ok
returns-in-Some-clause-ok c = (c.requires.made c.args.state c.in-Some.r (sym c.known.ensures ∙ c.in-Some.is)).leaves

pub returns-clause-made : goal.returns-clause-made
returns-clause-made c =
    made_more c.args.st.now c.retarget.new.st c.args.table.now c.args.state c.in_ok-r.r c.args.made.now c.insert.new.self
    c.retarget.ensures.grows c.requires.state c.requires.made c.in_ok-r.ensures.ok c.in_ok-insert.ensures.found
