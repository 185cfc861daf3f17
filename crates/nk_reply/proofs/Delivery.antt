-- A source or a sink that no call was made on keeps its bytes.
use Rattle.std.proofs.Common.{ℕ, List, refl}
use Rattle.std.specs.declared.option.Option.{Option}
use Rattle.std.specs.Prelude.{Some, None}
use Rattle.std.specs.Io.KnownBytes.{Keeps}

-- its bytes are the same before and after
pub Keeps-same : (o : Option (List ℕ)) → Keeps o o
Keeps-same None = tt
Keeps-same (Some x) = refl
