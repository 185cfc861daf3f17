use Rattle.std.proofs.Common.{◌+◌, subst}
use Rattle.nk_policy.specs.Policy.{dup, assign, seq_of, part, no_part}
use Rattle.nk_store.proofs.Stores.{grows_on}
use Rattle.nk_auto.specs.Continued.{IsContinued}
use Rattle.nk_auto.proofs.Going.{continued_grow, dup_continued, link_ends}
use Rattle.nk_auto.proofs.going_on.link_rest.Goals as goal

pub returns-clause-ok : goal.returns-clause-ok
returns-clause-ok c = λ next id.
    let st = c.after_set-2.new.st in
    let d = c.in_ok-d.d in
    let at_dup = c.in_ok-at_dup.at_dup in
    let l = c.from.result in
    let first = dup_continued c.recorded.new.st at_dup (l + 1) at_dup c.in_ok-at_dup.ensures.ok c.in_ok-at_dup.ensures.ok.id in
    let grown = grows_on _ _ _ c.after_set.ensures.grows c.after_set-2.ensures.grows in
    let made = link_ends st at_dup c.in_ok-at_port.at_port d next at_dup c.from-3.result c.from-2.result l
    (continued_grow c.recorded.new.st st at_dup (dup (l + 1)) at_dup grown first)
    (continued_grow c.after_set.new.st st c.in_ok-at_port.at_port (assign 1 c.from-2.result) at_dup c.after_set-2.ensures.grows c.in_ok-at_port.ensures.ok)
    c.in_ok-d.ensures.ok
    ((grows_on _ _ _ c.recorded.ensures.grows grown).ids next id) in
    subst (λ x. IsContinued st d (seq_of (part (assign 0 x) (part (assign 1 c.args.n) (part (dup (c.args.l + 1)) no_part)))) next) c.from-3.ensures
    (subst (λ x. IsContinued st d (seq_of (part (assign 0 c.from-3.result) (part (assign 1 x) (part (dup (c.args.l + 1)) no_part)))) next) c.from-2.ensures
    (subst (λ x. IsContinued st d (seq_of (part (assign 0 c.from-3.result) (part (assign 1 c.from-2.result) (part (dup (x + 1)) no_part)))) next) c.from.ensures made))
