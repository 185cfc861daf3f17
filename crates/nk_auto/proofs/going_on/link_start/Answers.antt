use Rattle.std.proofs.Common.{subst}
use Rattle.nk_policy.specs.Policy.{dup, link, test}
use Rattle.nk_store.proofs.Stores.{grows_on}
use Rattle.nk_auto.specs.Continued.{IsContinued}
use Rattle.nk_auto.proofs.Going.{continued_grow, dup_continued, link_begins}
use Rattle.nk_auto.proofs.going_on.link_start.Goals as goal

pub returns-clause-ok : goal.returns-clause-ok
returns-clause-ok c = λ b n next id.
    let st = c.after_test-2.new.st in
    let d = c.in_ok-d.d in
    let at_dup = c.in_ok-at_dup.at_dup in
    let first = dup_continued c.recorded.new.st at_dup c.from.result at_dup c.in_ok-at_dup.ensures.ok c.in_ok-at_dup.ensures.ok.id in
    let grown = grows_on _ _ _ c.after_test.ensures.grows c.after_test-2.ensures.grows in
    let made = link_begins st at_dup c.in_ok-at_port.at_port d next at_dup c.from-3.result c.from-2.result b n c.from.result
    (continued_grow c.recorded.new.st st at_dup (dup c.from.result) at_dup grown first)
    (continued_grow c.after_test.new.st st c.in_ok-at_port.at_port (test 1 c.from-2.result) at_dup c.after_test-2.ensures.grows c.in_ok-at_port.ensures.ok)
    c.in_ok-d.ensures.ok
    ((grows_on _ _ _ c.recorded.ensures.grows grown).ids next id) in
    subst (λ x. IsContinued st d (link x c.args.m b n c.args.l) next) c.from-3.ensures
    (subst (λ x. IsContinued st d (link c.from-3.result x b n c.args.l) next) c.from-2.ensures
    (subst (λ x. IsContinued st d (link c.from-3.result c.from-2.result b n x) next) c.from.ensures made))
