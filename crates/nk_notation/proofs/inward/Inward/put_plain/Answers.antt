use Rattle.std.proofs.Common.{rules, sym, ◌∙◌}
use Rattle.nk_notation.proofs.Plain.{plain_kept}
use Rattle.nk_notation.proofs.inward.Inward.put_plain.Goals as goal

-- the word is kept
pub returns-then-is_plain : goal.returns-then-is_plain
returns-then-is_plain c =
    rw (plain_kept c.args.self.now c.args.text.now (sym c.is_plain.ensures ∙ c.if-is_plain.true)) (search rules)
