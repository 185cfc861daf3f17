-- What adding a switch or a link answers, unless memory runs out.
use Rattle.std.specs.Prelude.{◌≡◌, ◌≢◌, ℕ, List, Result, Ok, Err, not, is_some, if◌then◌else◌}
use Rattle.nk_topo.specs.declared.topo.TopoError.{TopoError}
use Rattle.nk_topo.specs.declared.topo.TopoError.TheVariants.{NoMemory, SwitchTwice, PortTwice, NoSuchPort, SourceTwice, TargetTwice}
use Rattle.nk_topo.specs.declared.topo.LinkEnd.TheVariants.{Source, Target}
use Rattle.nk_topo.specs.Topology.{Topology, Link, is_switch, is_port, is_target, link_from, has_double}

-- the answer is this one, or that memory ran out
abbrev pub TopoReturns : Result (Unit {0}) TopoError → Result (Unit {0}) TopoError → Type 0
TopoReturns result answer = result ≢ Err NoMemory → result ≡ answer

-- of a new switch: the switch is declared already, or else a port is given twice, or else it is added
abbrev pub switch_answer : Topology → ℕ → List ℕ → Result (Unit {0}) TopoError
switch_answer t n ports =
    if is_switch t n then Err SwitchTwice else if has_double ports then Err PortTwice else Ok tt

-- Of a new link, the first that holds: the port where it begins isn't declared, nor that where it ends; a link begins
-- there, or ends there already. Else it is added.
abbrev pub link_answer : Topology → Link → Result (Unit {0}) TopoError
link_answer t l =
    if not (is_port t l.from_switch l.from_port) then Err (NoSuchPort Source)
    else if not (is_port t l.to_switch l.to_port) then Err (NoSuchPort Target)
    else if is_some (link_from t l.from_switch l.from_port) then Err SourceTwice
    else if is_target t l.to_switch l.to_port then Err TargetTwice
    else Ok tt
