-- What declarations say, one after the other in the order of the text: fields with the tag, switches with their ports, and
-- links; or the first fault, with the line of the name or number that is at fault.
use Rattle.std.specs.Prelude.{◌≡◌, ℕ, ◌==◌, not, nat_lt, nat_le, Bool, false, ⊤, Option, Some, None, Ok, Err, is_some, if◌then◌else◌, unwrap_or, List, [], ◌∷◌, ◌++◌, length, map, slice_index}
use Rattle.std.specs.declared.result.Result.{Result}
use Rattle.std.specs.List.{list_any}
use Rattle.nk_field.specs.Packet.{FieldTable, built_in, field_named, with_field}
use Rattle.nk_topo.specs.Topology.{Topology, Link, has_double, no_topology, is_switch, is_port, is_target, link_from, with_switch, with_link}
use Rattle.nk_lex.specs.declared.ident.Ident.{Ident}
use Rattle.nk_lex.specs.declared.ident.Number.{Number}
use Rattle.nk_lex.specs.Faults.{and_then, first_of, unless}
use Rattle.nk_declare.specs.declared.fault.DeclareFault.{DeclareFault}
use Rattle.nk_declare.specs.declared.fault.DeclareFault.TheVariants as fault
use Rattle.nk_declare.specs.declared.fault.DeclareError.{DeclareError}
use Rattle.nk_declare.specs.declared.fault.DeclareError.TheVariants.{Fault, NoMemory}

-- a declaration: a field's name and its largest value, the tag, a switch and its ports, or a link from a switch and a port to
-- a switch and a port
pub data NetworkDeclaration : Type 0 where
  field : Ident → Number → NetworkDeclaration
  tag : Ident → NetworkDeclaration
  switch : Number → (ports : List Number) → NetworkDeclaration
  link : Number → Number → Number → Number → NetworkDeclaration

-- what is declared
pub record DeclaredValue : Type 0 where
  pub fields : FieldTable
  pub topo : Topology

-- before the first declaration
abbrev pub nothing_declared : DeclaredValue
nothing_declared = record { fields = built_in; topo = no_topology }

-- ---- faults

-- a fault, or none
abbrev pub MaybeFault : Type 0
MaybeFault = Option DeclareError

-- the fault of this kind, where a test passes
abbrev pub fault_if : Bool → DeclareFault → ℕ → MaybeFault
fault_if wrong k line = if wrong then Some (Fault k line) else None

-- a number above a bound
abbrev pub above : ℕ → Number → MaybeFault
above most n = fault_if (nat_lt most n.value) fault.ValueOutOfRange n.line

-- the four numbers of a link, which are a switch and a port, twice
abbrev pub links_ends : Number → Number → Number → Number → MaybeFault
links_ends a m b n = first_of (first_of (first_of (above 65535 a) (above 65535 m)) (above 65535 b)) (above 65535 n)

-- the index of the field with this name, 0 where there is none, and its largest value
abbrev pub place_of_field : FieldTable → Ident → ℕ
place_of_field fields w = unwrap_or (field_named fields w.text) 0

abbrev pub most_in : FieldTable → Ident → ℕ
most_in fields w = slice_index fields.maxima (place_of_field fields w)

-- whether an index is given, and is not below `low`
abbrev pub is_from : (low : ℕ) → Option ℕ → Bool
is_from low None = false
is_from low (Some f) = nat_le low f

-- a field: its name is new, and there is room for it
abbrev pub field_fault : FieldTable → Ident → MaybeFault
field_fault fields w =
    first_of
    (fault_if (is_some (field_named fields w.text)) fault.FieldTwice w.line)
    (fault_if (nat_le 18 (length fields.maxima)) fault.TooManyFields w.line)

-- the tag: there is none so far, and it is a declared field, after the switch and the port
abbrev pub tag_fault : FieldTable → Ident → MaybeFault
tag_fault fields w =
    first_of
    (fault_if (is_some fields.tag) fault.TagTwice w.line)
    (fault_if (not (is_from 2 (field_named fields w.text))) fault.TagUnknown w.line)

-- a port after others of its switch: in range, and none of them
abbrev pub port_fault : (before : List ℕ) → Number → MaybeFault
port_fault before p =
    first_of (above 65535 p) (fault_if (list_any (λ q. p.value == q) before) fault.PortTwice p.line)

-- ports: each in range, and none twice
abbrev pub ports_fault : (before : List ℕ) → List Number → MaybeFault
ports_fault before [] = None
ports_fault before (p ∷ ps) = first_of (port_fault before p) (ports_fault (before ++ p.value ∷ []) ps)

-- these are the numbers, each once
abbrev pub AreSeen : List ℕ → (seen : List ℕ) → Type 0
AreSeen numbers seen = (has_double numbers ≡ false) × ((n : ℕ) → list_any (λ q. n == q) numbers ≡ list_any (λ q. n == q) seen)

-- a switch's number: in range and new
abbrev pub number_fault : Topology → Number → MaybeFault
number_fault topo n = first_of (above 65535 n) (fault_if (is_switch topo n.value) fault.SwitchTwice n.line)

-- a switch: in range and new, then its ports
abbrev pub switch_fault : Topology → Number → List Number → MaybeFault
switch_fault topo n ps = first_of (number_fault topo n) (ports_fault [] ps)

-- a link from port m of switch a to port n of switch b: its numbers are in range, its ends are ports, no other link has
-- its source, and none has its target
abbrev pub link_fault : Topology → Number → Number → Number → Number → MaybeFault
link_fault topo a m b n =
    first_of
    (links_ends a m b n)
    (first_of
    (first_of
    (fault_if (not (is_port topo a.value m.value)) fault.NoSuchPort m.line)
    (fault_if (not (is_port topo b.value n.value)) fault.NoSuchPort n.line))
    (first_of
    (fault_if (is_some (link_from topo a.value m.value)) fault.SourceTwice m.line)
    (fault_if (is_target topo b.value n.value) fault.TargetTwice n.line)))

-- ---- what is declared

-- the numbers
abbrev pub values_of : List Number → List ℕ
values_of ps = map (λ p. p.value) ps

-- the link with these four numbers
abbrev pub link_with : Number → Number → Number → Number → Link
link_with a m b n = record { from_switch = a.value; from_port = m.value; to_switch = b.value; to_port = n.value }

-- what is declared after one more declaration
abbrev pub declared_with : DeclaredValue → NetworkDeclaration → Result DeclaredValue DeclareError
declared_with s (field w n) = unless (field_fault s.fields w) (record s { fields = with_field s.fields w.text n.value })
declared_with s (tag w) =
    unless (tag_fault s.fields w) (record s { fields = record s.fields { tag = field_named s.fields w.text } })
declared_with s (switch n ps) =
    unless (switch_fault s.topo n ps) (record s { topo = with_switch s.topo n.value (values_of ps) })
declared_with s (link a m b n) = unless (link_fault s.topo a m b n) (record s { topo = with_link s.topo (link_with a m b n) })

-- what is declared after these declarations
abbrev pub declared_after : List NetworkDeclaration → DeclaredValue → Result DeclaredValue DeclareError
declared_after [] s = Ok s
declared_after (d ∷ ds) s = and_then (declared_with s d) (declared_after ds)

-- what these declarations declare
abbrev pub declared_by : List NetworkDeclaration → Result DeclaredValue DeclareError
declared_by ds = declared_after ds nothing_declared

-- ---- what a call answers

-- this is the first fault; memory may run out at any point
abbrev pub IsFirstFault : DeclareError → MaybeFault → Type 0
IsFirstFault NoMemory first = ⊤
IsFirstFault (Fault k line) first = first ≡ Some (Fault k line)

-- this is the answer's fault; memory may run out at any point
abbrev pub IsDeclareFault : {X : Type 0} → DeclareError → Result X DeclareError → Type 0
IsDeclareFault NoMemory wanted = ⊤
IsDeclareFault (Fault k line) wanted = wanted ≡ Err (Fault k line)

-- what is returned is what is wanted, seen so, or that memory ran out
abbrev pub DeclareReturns : {X Y : Type 0} → (X → Y) → Result X DeclareError → Result Y DeclareError → Type 0
DeclareReturns view (Ok x) wanted = wanted ≡ Ok (view x)
DeclareReturns view (Err e) wanted = IsDeclareFault e wanted
