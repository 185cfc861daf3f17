use Rattle.std.proofs.Common.{◌∙◌, ◌++◌, ◌∷◌, [], sym, ap}
use Rattle.std.specs.Prelude.{map}
use Rattle.nk_policy.specs.Tree.{tree_of}
use Rattle.nk_sets.proofs.Printing.{mapped_push, conditions_none, conditions_one}
use Rattle.nk_sets.proofs.predicate.push_condition.Goals as goal

pub returns-then-eq : goal.returns-then-eq
returns-then-eq c =
    conditions_none c.args.st.now c.laws-laws.ensures.sound c.args.f c.args.other c.args.first c.args.last c.args.c (map tree_of c.args.conditions.now.items) c.requires.other c.requires.child (sym c.eq.ensures ∙ c.if-eq.true)

pub returns : goal.returns
returns c =
    conditions_one c.args.st.now c.laws-laws.ensures.sound c.args.f c.args.other c.args.first c.args.last c.args.c (map tree_of c.args.conditions.now.items) (map tree_of c.push.new.self.items) c.requires.other c.requires.child (sym c.eq.ensures ∙ c.if-eq.false)
    (ap (λ l. map tree_of l) c.in_ok-push.ensures.items ∙ mapped_push tree_of c.args.conditions.now.items _ ∙ ap (λ x. map tree_of c.args.conditions.now.items ++ x ∷ []) c.within.ensures)
