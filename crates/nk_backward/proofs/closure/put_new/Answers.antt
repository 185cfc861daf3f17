use Rattle.nk_store.proofs.Stores.{grows_on}
use Rattle.nk_backward.proofs.Gaining.{sets_on, put_none, put_some}
use Rattle.nk_backward.proofs.closure.put_new.Goals as goal

pub returns-then-is_empty-clause-ok : goal.returns-then-is_empty-clause-ok
returns-then-is_empty-clause-ok c =
    put_none c.args.st.now c.unvisited.new.st c.args.s c.args.y c.in_ok-rest.rest c.args.back.now c.args.next.now c.unvisited.ensures.grows c.requires.back c.requires.once c.requires.next c.requires.next_once c.in_ok-rest.ensures.ok (c.is_empty.ensures.yes c.if-is_empty.true)

pub add-requires-clause-pairs : goal.add-requires-clause-pairs
add-requires-clause-pairs c = sets_on c.args.st.now c.unvisited.new.st c.args.back.now c.unvisited.ensures.grows c.requires.back

pub add-requires-2-clause-pairs : goal.add-requires-2-clause-pairs
add-requires-2-clause-pairs c = sets_on c.args.st.now c.add.new.st c.args.next.now (grows_on _ _ _ c.unvisited.ensures.grows c.add.ensures.grows) c.requires.next

pub returns-clause-ok : goal.returns-clause-ok
returns-clause-ok c =
    put_some c.args.st.now c.unvisited.new.st c.add.new.st c.add-2.new.st c.args.s c.args.y c.in_ok-rest.rest c.args.back.now c.args.next.now c.add.new.self c.add-2.new.self c.unvisited.ensures.grows c.add.ensures.grows c.add-2.ensures.grows
    c.requires.back c.requires.next c.in_ok-rest.ensures.ok (c.is_empty.ensures.no c.if-is_empty.false) c.in_ok-add.ensures.ok c.in_ok-add-2.ensures.ok
