use Rattle.std.proofs.Common.{sym, ap, ◌∙◌}
use Rattle.nk_names.specs.InMemory.{known_in}
use Rattle.nk_names.specs.ProgramOf.{program_of_names}
use Rattle.nk_names.proofs.Going.{program_has_lets}
use Rattle.nk_names.proofs.reader.ProgramReader.finish.Goals as goal

pub program_in-requires : goal.program_in-requires
program_in-requires c =
    program_has_lets c.requires.written.0 (program_of_names c.in-Sound.names) c.requires.written.2
    (sym c.requires.written.1 ∙ sym c.self.view_is ∙ ap known_in c.in-Sound.is)
