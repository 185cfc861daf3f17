use Rattle.std.proofs.Common.{◌≡◌, ◌∙◌, ◌++◌, ap, cond, eqb, reverse, None, Some, subst}
use Rattle.std.specs.Map.{lookup}
use Rattle.nk_apply.proofs.Memos.{few_put, more_put, put_there}
use Rattle.nk_apply.proofs.memo.Memo.insert.Goals as goal

pub returns-then-is_next_few-clause-found : goal.returns-then-is_next_few-clause-found
returns-then-is_next_few-clause-found g c = λ q.
    ap (λ few. lookup (eqb q) (reverse few ++ c.self.inside.more.entries)) c.in_ok-push.ensures.ok
    ∙ few_put c.args.d c.args.r c.self.inside.few c.self.inside.more.entries q
    ∙ ap (λ es. cond (eqb c.args.d q) (Some c.args.r) (lookup (eqb q) es)) c.self.view_is

pub returns-then-is_next_few-clause-there : goal.returns-then-is_next_few-clause-there
returns-then-is_next_few-clause-there g c =
    put_there c.args.d c.args.r c.args.self.now (reverse c.push.new.self ++ c.self.inside.more.entries) (returns-then-is_next_few-clause-found g c)

pub returns-clause-found : goal.returns-clause-found
returns-clause-found g c = λ q.
    more_put c.args.d c.args.r (reverse c.self.inside.few) c.self.inside.more.entries c.insert.new.self.entries
    (subst (λ es. lookup (eqb c.args.d) (reverse es) ≡ None) c.as_slice.ensures (c.is_next_few.ensures c.if-is_next_few.false))
    (λ k. c.in_ok-insert.ensures.updates.0 k) q
    ∙ ap (λ es. cond (eqb c.args.d q) (Some c.args.r) (lookup (eqb q) es)) c.self.view_is

pub returns-clause-there : goal.returns-clause-there
returns-clause-there g c =
    put_there c.args.d c.args.r c.args.self.now (reverse c.self.inside.few ++ c.insert.new.self.entries) (returns-clause-found g c)
