use Rattle.std.proofs.Common.{ℕ, Some, ap, ◌∙◌}
use Rattle.std.proofs.lemmas.Option.{IfSome_then}
use Rattle.nk_apply.proofs.walks.made_before.Goals as goal

pub returns-in-Some : goal.returns-in-Some
returns-in-Some c = IfSome_then c.made_by.result c.made_by.ensures (λ r e. c.in-Some.is ∙ ap (λ (x : ℕ × ℕ). Some x) e)
