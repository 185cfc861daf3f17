use Rattle.std.proofs.Common.{true, false, sym, ◌∙◌}
use Rattle.nk_tabtext.proofs.Heads.{version_is}
use Rattle.nk_tabtext.proofs.rules.version.Goals as goal

pub returns-then-some_table : goal.returns-then-some_table
returns-then-some_table c =
    version_is c.args.t.now c.switches.result.now true (sym c.if-some_table.true ∙ c.some_table.ensures) c.switches.ensures.numbers

pub returns-else-some_table : goal.returns-else-some_table
returns-else-some_table c =
    version_is c.args.t.now c.switches.result.now false (sym c.if-some_table.false ∙ c.some_table.ensures) c.switches.ensures.numbers
