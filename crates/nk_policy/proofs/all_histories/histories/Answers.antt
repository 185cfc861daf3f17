use Rattle.std.proofs.Common.{◌≡◌, sym, subst, rules}
use Rattle.std.specs.Prelude.{◌↔◌, Contains}
use Rattle.nk_policy.specs.Histories.{histories_of}
use Rattle.nk_policy.specs.Meaning.{Gives}
use Rattle.nk_policy.specs.Tree.{tree_of}
use Rattle.nk_policy.proofs.HistoryLists.{histories_are}
use Rattle.nk_policy.proofs.all_histories.histories.Goals as goal

pub returns-clause-exactly : goal.returns-clause-exactly
returns-clause-exactly c = λ h.
    let list : c.push_histories.new.out.items ≡ histories_of (tree_of c.args.p.now) c.args.pk.now = search rules in
    subst
    (λ hs. Contains hs h ↔ Gives (tree_of c.args.p.now) c.args.pk.now h.records h.last)
    (sym list)
    (histories_are (tree_of c.args.p.now) c.requires.flat c.args.pk.now h)
