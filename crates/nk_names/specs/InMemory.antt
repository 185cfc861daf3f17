-- What a reader of declarations keeps in memory says.
use Rattle.std.specs.Prelude.{Ok, Err}
use Rattle.std.specs.declared.result.Result.{Result}
use Rattle.nk_names.specs.declared.fault.NamesError.{NamesError}
use Rattle.nk_names.specs.declared.fault.NamesError.TheVariants.{Fault}
use Rattle.nk_names.specs.declared.reader.Known.{Known}
use Rattle.nk_names.specs.declared.reader.Known.TheVariants as known
use Rattle.nk_names.specs.ProgramOf.{DeclaredProgram, program_of_names}

abbrev pub known_in : Known → Result DeclaredProgram NamesError
known_in (known.Sound names) = Ok (program_of_names names)
known_in (known.Faulty k line) = Err (Fault k line)
