-- A value or the first fault: what goes on where there is no fault so far.
use Rattle.std.specs.Prelude.{Option, Some, None, Ok, Err}
use Rattle.std.specs.declared.result.Result.{Result}
use Rattle.std.specs.Option.{option_or}

-- the first fault, else the second
abbrev pub first_of : {E : Type 0} → Option E → Option E → Option E
first_of first second = option_or first second

-- the value, unless there is a fault
abbrev pub unless : {E X : Type 0} → Option E → X → Result X E
unless None x = Ok x
unless (Some e) x = Err e

-- the rest, where there is no fault so far
abbrev pub and_then : {X Y E : Type 0} → Result X E → (X → Result Y E) → Result Y E
and_then (Ok x) rest = rest x
and_then (Err e) rest = Err e
