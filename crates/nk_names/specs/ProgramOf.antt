-- The program of a text: what its declarations make one after the other, in the order of the text, or the first fault.
-- A name means what stands above it.
use Rattle.std.specs.Prelude.{◌≡◌, ℕ, not, nat_lt, ⊤, Ok, Err, is_some, is_none, unwrap_or, option_map, map, List, [], ◌∷◌, ◌++◌}
use Rattle.std.specs.declared.result.Result.{Result}
use Rattle.nk_field.specs.Packet.{FieldTable, built_in}
use Rattle.nk_topo.specs.Topology.{Topology, no_topology}
use Rattle.nk_policy.specs.Policy.{Policy, depth_of, size_of, is_predicate, marked_from, sum_of, no_part}
use Rattle.nk_lex.specs.declared.ident.Ident.{Ident}
use Rattle.nk_lex.specs.declared.ident.Number.{Number}
use Rattle.nk_lex.specs.Faults.{and_then, first_of, unless}
use Rattle.nk_declare.specs.declared.fault.DeclareError.{DeclareError}
use Rattle.nk_declare.specs.declared.fault.DeclareError.TheVariants as refused
use Rattle.nk_declare.specs.Declarations.{DeclaredValue, declared_with, link_fault, link_with}
use Rattle.nk_declare.specs.Declarations as declare
use Rattle.nk_grammar.specs.File.{Declaration, field, tag, switch, declared_link, definition, fabric, virtual_link}
use Rattle.nk_grammar.specs.Tree.{Tree}
use Rattle.nk_names.specs.declared.names.Names.{Names}
use Rattle.nk_names.specs.ProgramValue.{VirtualLink}
use Rattle.nk_names.specs.declared.Program.{Program}
use Rattle.nk_names.specs.declared.fault.FaultKind.{FaultKind}
use Rattle.nk_names.specs.declared.fault.FaultKind.TheVariants as kind
use Rattle.nk_names.specs.declared.fault.NamesError.{NamesError}
use Rattle.nk_names.specs.declared.fault.NamesError.TheVariants.{Fault, NoMemory}
use Rattle.nk_names.specs.Meant.{Lets, policy_among, MaybeTextFault, text_fault_if, policy_for, unknown_in, misplaced_in}

-- what a program says: its fields, its topology, the policies of its names, its fabrics by their names, and its virtual links
pub record DeclaredProgram : Type 0 where
  pub fields : FieldTable
  pub topo : Topology
  pub lets : Lets
  pub fabrics : Lets
  pub virtuals : List VirtualLink

-- before the first declaration
abbrev pub empty_program : DeclaredProgram
empty_program = record { fields = built_in; topo = no_topology; lets = []; fabrics = []; virtuals = [] }

-- a declaration's fault as a program's
abbrev pub text_fault_of : DeclareError → NamesError
text_fault_of refused.NoMemory = NoMemory
text_fault_of (refused.Fault k line) = Fault (kind.Common k) line

-- A policy that is given a name: the name is none of those taken; then the policy's names and numbers, then its complements,
-- then its depth, then its size.
abbrev pub named_fault : FieldTable → Lets → (taken : Lets) → Ident → Tree → (line : ℕ) → MaybeTextFault
named_fault fields lets taken w t line =
    first_of
    (text_fault_if (is_some (policy_among taken w.text)) kind.LetTwice w.line)
    (first_of
    (unknown_in fields lets t)
    (first_of
    (misplaced_in fields lets t)
    (first_of
    (text_fault_if (nat_lt 256 (depth_of (policy_for fields lets t))) kind.TooDeep line)
    (text_fault_if (nat_lt 1048576 (size_of (policy_for fields lets t))) kind.TooLarge line))))

-- a policy of a name, which is new among the policies
abbrev pub let_fault : FieldTable → Lets → Ident → Tree → (line : ℕ) → MaybeTextFault
let_fault fields lets w t line = named_fault fields lets lets w t line

-- the switches and ports, with the virtual links for links
abbrev pub virtual_topology : Topology → List VirtualLink → Topology
virtual_topology topo virtuals = record topo { links = map (λ k. k.ends) virtuals }

-- a virtual link from port m of switch a to port n of switch b: as a link among virtual links alone, then its fabric's name
abbrev pub virtual_fault : Topology → (fabrics : Lets) → List VirtualLink → Number → Number → Number → Number → Ident → MaybeTextFault
virtual_fault topo fabrics virtuals a m b n w =
    first_of
    (option_map text_fault_of (link_fault (virtual_topology topo virtuals) a m b n))
    (text_fault_if (is_none (policy_among fabrics w.text)) kind.UnknownName w.line)

-- the virtual link over the fabric of the name; a name of no fabric is at fault, and counts as `drop` here
abbrev pub virtual_over : (fabrics : Lets) → Number → Number → Number → Number → Ident → VirtualLink
virtual_over fabrics a m b n w =
    record { ends = link_with a m b n; fabric = unwrap_or (policy_among fabrics w.text) (sum_of no_part) }

-- the predicate of a certificate's row, whose word `row` stands on the line: its names and numbers, then whether it is a
-- predicate, then its depth; a `~` over no predicate makes the whole row no predicate
abbrev pub predicate_fault : FieldTable → Lets → Tree → (line : ℕ) → MaybeTextFault
predicate_fault fields lets t line =
    first_of
    (unknown_in fields lets t)
    (first_of
    (text_fault_if (not (is_predicate (policy_for fields lets t))) kind.NotAPredicate line)
    (text_fault_if (nat_lt 256 (depth_of (policy_for fields lets t))) kind.TooDeep line))

-- the policy of a row, where no name of a policy is known
abbrev pub row_policy : FieldTable → Tree → (line : ℕ) → Result Policy NamesError
row_policy fields t line = unless (predicate_fault fields [] t line) (marked_from (policy_for fields [] t) 1)

-- the fields and the topology
abbrev pub declared_part : DeclaredProgram → DeclaredValue
declared_part s = record { fields = s.fields; topo = s.topo }

-- what is said with these fields and this topology, or the declaration's fault
abbrev pub program_beside : DeclaredProgram → Result DeclaredValue DeclareError → Result DeclaredProgram NamesError
program_beside s (Ok d) = Ok (record s { fields = d.fields; topo = d.topo })
program_beside s (Err e) = Err (text_fault_of e)

-- what is said after one more declaration: fields, the tag, switches and links are declared as in any text
abbrev pub program_declaring : DeclaredProgram → Declaration → Result DeclaredProgram NamesError
program_declaring s (field w n) = program_beside s (declared_with (declared_part s) (declare.field w n))
program_declaring s (tag w) = program_beside s (declared_with (declared_part s) (declare.tag w))
program_declaring s (switch n ps) = program_beside s (declared_with (declared_part s) (declare.switch n ps))
program_declaring s (declared_link a m b n) = program_beside s (declared_with (declared_part s) (declare.link a m b n))
program_declaring s (definition w t line) =
    unless
    (let_fault s.fields s.lets w t line)
    (record s { lets = s.lets ++ (w.text, marked_from (policy_for s.fields s.lets t) 1) ∷ [] })
program_declaring s (fabric w t line) =
    unless
    (named_fault s.fields s.lets s.fabrics w t line)
    (record s { fabrics = s.fabrics ++ (w.text, marked_from (policy_for s.fields s.lets t) 1) ∷ [] })
program_declaring s (virtual_link a m b n w) =
    unless
    (virtual_fault s.topo s.fabrics s.virtuals a m b n w)
    (record s { virtuals = s.virtuals ++ virtual_over s.fabrics a m b n w ∷ [] })

-- what is said after these declarations
abbrev pub program_after : List Declaration → DeclaredProgram → Result DeclaredProgram NamesError
program_after [] s = Ok s
program_after (d ∷ ds) s = and_then (program_declaring s d) (program_after ds)

-- the program of a text's declarations
abbrev pub program_of : List Declaration → Result DeclaredProgram NamesError
program_of ds = program_after ds empty_program

-- what is said so far by the parts in memory
abbrev pub program_of_names : Names → DeclaredProgram
program_of_names names = record {
  fields = names.declared.fields;
  topo = names.declared.topo;
  lets = names.lets.entries.items;
  fabrics = names.fabrics.entries.items;
  virtuals = names.virtuals;
}

-- what a program in memory says
abbrev pub program_by : Program → DeclaredProgram
program_by p = record { fields = p.fields; topo = p.topo; lets = p.lets; fabrics = p.fabrics; virtuals = p.virtuals }

-- a text has this fault; memory may run out at any point
abbrev pub IsNamesFault : {X : Type 0} → NamesError → Result X NamesError → Type 0
IsNamesFault NoMemory wanted = ⊤
IsNamesFault (Fault k line) wanted = wanted ≡ Err (Fault k line)

-- what is returned is what is wanted, seen so, or that memory ran out
abbrev pub NamesReturns : {X Y : Type 0} → (X → Y) → Result X NamesError → Result Y NamesError → Type 0
NamesReturns view (Ok x) wanted = wanted ≡ Ok (view x)
NamesReturns view (Err e) wanted = IsNamesFault e wanted
