use Rattle.std.proofs.Common.{sym, ap, ◌∙◌}
use Rattle.nk_policy.specs.Policy.{seq_of}
use Rattle.nk_policy.specs.Tree.{trees_of}
use Rattle.nk_policy.proofs.Trees.{tree_of_seq}
use Rattle.nk_deriv.proofs.Steps.{turn_drop_first, turn_drop_second, turn_of}
use Rattle.nk_deriv.proofs.turns.followed_by.Goals as goal

pub returns-then-p_drops : goal.returns-then-p_drops
returns-then-p_drops c = turn_drop_first _ _ _ c.dropping.ensures (sym c.is_drop-p_drops.ensures ∙ c.if-p_drops.true)

pub returns-then-q_drops : goal.returns-then-q_drops
returns-then-q_drops c = turn_drop_second _ _ _ c.dropping-then-q_drops.ensures (sym c.is_drop-q_drops.ensures ∙ c.if-q_drops.true)

pub returns : goal.returns
returns c =
    turn_of _ _ _ c.in_ok-steps.steps.items c.in_ok-push_steps.ensures.0
    (tree_of_seq c.new.result ∙ ap (λ t. seq_of (trees_of t)) (ap (λ v. v.items) c.new.ensures ∙ c.in_ok-push_steps.ensures.1))
    c.in_ok-steps.ensures c.in_ok-push_steps.ensures.2
