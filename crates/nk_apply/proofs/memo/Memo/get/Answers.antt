use Rattle.std.proofs.Common.{◌∙◌, ap, eqb, option_copied, reverse, sym}
use Rattle.std.specs.Map.{lookup}
use Rattle.nk_apply.proofs.Memos.{found_first, found_then}
use Rattle.nk_apply.proofs.memo.Memo.get.Goals as goal

pub returns-in-Some : goal.returns-in-Some
returns-in-Some g c =
    sym (found_first c.args.d c.in-Some.r.now (reverse c.self.inside.few) c.self.inside.more.entries
    (ap (λ es. lookup (eqb c.args.d) (reverse es)) (sym c.as_slice.ensures) ∙ sym c.latest.ensures ∙ ap option_copied c.in-Some.is))
    ∙ ap (lookup (eqb c.args.d)) c.self.view_is

pub returns-in-None : goal.returns-in-None
returns-in-None g c =
    c.hashed.ensures
    ∙ sym (found_then c.args.d (reverse c.self.inside.few) c.self.inside.more.entries
    (ap (λ es. lookup (eqb c.args.d) (reverse es)) (sym c.as_slice.ensures) ∙ sym c.latest.ensures ∙ ap option_copied c.in-None.is))
    ∙ ap (lookup (eqb c.args.d)) c.self.view_is
