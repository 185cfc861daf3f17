-- A table text's declarations are checked as those of any text.
use Rattle.std.proofs.Common.{refl}
use Rattle.nk_tabtext.specs.Alike.{DeclaresAlike}

pub declares_alike : DeclaresAlike
declares_alike ds = refl
