use Rattle.std.proofs.Common.{rules, ◌≡◌, ◌∙◌, sym, false}
use Rattle.nk_policy.specs.Tree.{tree_of}
use Rattle.nk_static.specs.Links.{links_of}
use Rattle.nk_static.proofs.Shown.{nothing_shown}
use Rattle.nk_static.proofs.faults.first_static_fault.Goals as goal

pub returns-then-not-holds_leaf : goal.returns-then-not-holds_leaf
returns-then-not-holds_leaf c =
    let none : c.holds_leaf.result ≡ false = search rules in
    sym (nothing_shown c.args.tag (links_of c.args.links.now) (tree_of c.args.p.now) (sym c.holds_leaf.ensures ∙ none))
