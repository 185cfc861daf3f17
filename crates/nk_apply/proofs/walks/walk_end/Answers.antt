use Rattle.std.proofs.Common.{◌∙◌, sym}
use Rattle.nk_apply.proofs.MadeOf.{entries_grow, entries_put, made_now, on_any}
use Rattle.nk_apply.proofs.walks.walk_end.Goals as goal

pub returns-then-is_quick-clause-seen : goal.returns-then-is_quick-clause-seen
returns-then-is_quick-clause-seen g c =
    on_any c.change.result _ (entries_grow (g.M.NodeMap.taken c.args.m.now) (g.M.NodeMap.made c.args.m.now) (g.M.NodeMap.first c.args.m.now) c.args.st.now c.change.new.st c.args.seen.now c.change.ensures.grows c.requires.seen)

pub returns-in-Some-clause-ok : goal.returns-in-Some-clause-ok
returns-in-Some-clause-ok g c = (c.requires.seen c.args.d c.in-Some.r (sym c.known.ensures ∙ c.in-Some.is)).leaves

pub returns-in-Some-clause-later : goal.returns-in-Some-clause-later
returns-in-Some-clause-later g c = (c.requires.seen c.args.d c.in-Some.r (sym c.known.ensures ∙ c.in-Some.is)).later

pub returns-clause-seen : goal.returns-clause-seen
returns-clause-seen g c =
    entries_put (g.M.NodeMap.taken c.args.m.now) (g.M.NodeMap.made c.args.m.now) (g.M.NodeMap.first c.args.m.now) c.change-2.new.st c.args.d c.in_ok-r.r c.args.seen.now c.insert.new.self (entries_grow (g.M.NodeMap.taken c.args.m.now) (g.M.NodeMap.made c.args.m.now) (g.M.NodeMap.first c.args.m.now) c.args.st.now c.change-2.new.st c.args.seen.now c.change-2.ensures.grows c.requires.seen)
    (made_now (g.M.NodeMap.taken c.args.m.now) (g.M.NodeMap.made c.args.m.now) (g.M.NodeMap.first c.args.m.now) c.args.st.now c.change-2.new.st c.args.d c.in_ok-r.r c.change-2.ensures.grows c.requires.id c.in_ok-r.ensures.ok c.in_ok-r.ensures.later)
    c.in_ok-insert.ensures.found
