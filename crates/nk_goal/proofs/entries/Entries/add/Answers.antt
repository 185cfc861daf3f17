use Rattle.std.proofs.Common.{◌∙◌, sym, subst}
use Rattle.std.proofs.lemmas.Result.{on_ok_weaker}
use Rattle.nk_store.proofs.Stores.{grows_same}
use Rattle.nk_determ.specs.Pairs.{Once}
use Rattle.nk_goal.specs.Entries.{IsAdded}
use Rattle.nk_goal.proofs.Adding.{found_set, joined_some, joined_none, added_put}
use Rattle.nk_goal.proofs.Placing.{packets_at_place, no_packets}
use Rattle.nk_goal.proofs.entries.Entries.add.Goals as goal

pub union-requires-clause-left : goal.union-requires-clause-left
union-requires-clause-left c =
    let found = packets_at_place c.args.t c.self.inside.pairs.items c.args.self.now c.in-Some.place c.index.result.now c.self.view_is (sym c.place.ensures.place ∙ c.in-Some.is) c.index.ensures in
    (found_set c.args.st.now c.args.self.now c.args.t c.index.result.now.1 found c.requires.pairs).id

pub returns-in_ok-all-in-Some-clause-ok : goal.returns-in_ok-all-in-Some-clause-ok
returns-in_ok-all-in-Some-clause-ok c =
    let once = subst Once c.self.view_is c.self.invariant.once in
    let found = packets_at_place c.args.t c.self.inside.pairs.items c.args.self.now c.in-Some.place c.index.result.now c.self.view_is (sym c.place.ensures.place ∙ c.in-Some.is) c.index.ensures in
    subst (IsAdded c.args.st.now c.args.self.now c.args.t c.args.y c.union.new.st) (sym c.replace.ensures)
    (added_put c.args.st.now c.union.new.st c.args.self.now c.args.t c.args.y c.in_ok-all-in-Some.all c.union.ensures.grows c.requires.pairs once
    (joined_some c.args.st.now c.union.new.st c.args.self.now c.args.t c.args.y c.index.result.now.1 c.in_ok-all-in-Some.all once c.requires.pairs found c.requires.packets c.in_ok-all-in-Some.ensures.ok c.in_ok-all-in-Some.ensures.predicate))

pub returns-in-None-clause-ok : goal.returns-in-None-clause-ok
returns-in-None-clause-ok c =
    let once = subst Once c.self.view_is c.self.invariant.once in
    let missing = no_packets c.args.t c.args.self.now 0 (sym c.place.ensures.place ∙ c.in-None.is) in
    on_ok_weaker c.push.result
    (λ is. subst (IsAdded c.args.st.now c.args.self.now c.args.t c.args.y c.args.st.now) (sym is)
    (added_put c.args.st.now c.args.st.now c.args.self.now c.args.t c.args.y c.args.y (grows_same c.args.st.now) c.requires.pairs once
    (joined_none c.args.st.now c.args.self.now c.args.t c.args.y missing c.requires.packets))) c.push.ensures.ok
