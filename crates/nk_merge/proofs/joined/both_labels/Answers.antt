use Rattle.std.proofs.Common.{◌+◌, ◌<◌, ◌++◌, ◌∙◌, get_or, sym, ap, subst, arith, []}
use Rattle.std.specs.Prelude.{All, map}
use Rattle.std.specs.List.Sorted.{IsStrictlyIncreasing}
use Rattle.nk_merge.proofs.Raising.{raised_fit, both_are, both_ascend}
use Rattle.nk_merge.proofs.joined.both_labels.Goals as goal

pub push_raised-requires : goal.push_raised-requires
push_raised-requires c =
    subst (λ xs. All (λ l. l + 1 < 18446744073709551616) xs) (sym c.members.ensures.is)
    (raised_fit c.args.count 1 18446744073709551616 (get_or c.args.ss.now c.args.s []) c.requires.first_places (omega (arith, c.requires.few)))

pub push_raised-requires-2 : goal.push_raised-requires-2
push_raised-requires-2 c =
    subst (λ xs. All (λ l. l + c.args.count < 18446744073709551616) xs) (sym c.members-2.ensures.is)
    (raised_fit c.args.count c.args.count 18446744073709551616 (get_or c.args.ss.now c.args.t []) c.requires.second_places (omega (arith, c.requires.few)))

pub returns-clause-is : goal.returns-clause-is
returns-clause-is c =
    c.in_ok-push_raised-2.ensures
    ∙ ap (λ r. r ++ map (λ l. l + c.args.count) c.members-2.result.now) (c.in_ok-push_raised.ensures ∙ ap (λ r. r ++ map (λ l. l + 1) c.members.result.now) c.new-labels.ensures)
    ∙ ap (λ xs. map (λ l. l + 1) c.members.result.now ++ map (λ l. l + c.args.count) xs) c.members-2.ensures.is
    ∙ ap (λ xs. map (λ l. l + 1) xs ++ map (λ l. l + c.args.count) (get_or c.args.ss.now c.args.t [])) c.members.ensures.is
    ∙ both_are c.args.count (get_or c.args.ss.now c.args.s []) (get_or c.args.ss.now c.args.t []) c.requires.second_places

pub returns-clause-ascend : goal.returns-clause-ascend
returns-clause-ascend c =
    let is =
    c.in_ok-push_raised-2.ensures
    ∙ ap (λ r. r ++ map (λ l. l + c.args.count) c.members-2.result.now) (c.in_ok-push_raised.ensures ∙ ap (λ r. r ++ map (λ l. l + 1) c.members.result.now) c.new-labels.ensures) in
    subst IsStrictlyIncreasing (sym is)
    (both_ascend c.args.count c.members.result.now c.members-2.result.now
    (subst (λ xs. All (λ l. l < c.args.count) (map (λ l. l + 1) xs)) (sym c.members.ensures.is) c.requires.first_places)
    c.members.ensures.ascend c.members-2.ensures.ascend)
