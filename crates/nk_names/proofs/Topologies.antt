-- The topology of a text's program has numbers that a text can declare, and each switch a port.
use Rattle.std.proofs.Common.{◌≡◌, ◌≤◌, List, [], ◌∷◌, Ok, length, sym, subst, arith}
use Rattle.std.specs.Prelude.{map, ⊤}
use Rattle.std.specs.List.{AllByRecursion}
use Rattle.nk_declare.specs.Declarations.{declared_with}
use Rattle.nk_declare.specs.Declarations as declare
use Rattle.nk_declare.proofs.Kept.{unless_ok, AreFit, fit_declarable, numbers_kept}
use Rattle.nk_grammar.specs.File.{Declaration, field, tag, switch, declared_link, Written, written_switch, declared}
use Rattle.nk_grammar.specs.Answer.{IsParse}
use Rattle.nk_grammar.proofs.Answering.{answers}
use Rattle.nk_names.specs.ProgramOf.{DeclaredProgram, empty_program, declared_part, program_declaring}
use Rattle.nk_names.specs.Topologies.{DeclaresDeclarable}
use Rattle.nk_names.proofs.Beside.{beside_is, all_said}

-- a switch, if it is one, with a port
abbrev HasPort : Declaration → Type 0
HasPort (switch n ps) = 1 ≤ length ps
HasPort d = ⊤

-- as the grammar has it
ports_written : (ws : List Written) → AllByRecursion HasPort (map declared ws)
ports_written [] = tt
ports_written (written_switch n p ps ∷ ws) = (omega arith, ports_written ws)
ports_written (w ∷ ws) = (tt, ports_written ws)

-- one more declaration
one_said : (s t : DeclaredProgram) (d : Declaration) → AreFit s.topo → HasPort d → program_declaring s d ≡ Ok t → AreFit t.topo
one_said s t (field w n) h has e =
    let r = beside_is s (declared_with (declared_part s) (declare.field w n)) t e in
    subst (λ x. AreFit x.topo) r.2 (numbers_kept (declared_part s) r.0 (declare.field w n) h tt r.1)
one_said s t (tag w) h has e =
    let r = beside_is s (declared_with (declared_part s) (declare.tag w)) t e in
    subst (λ x. AreFit x.topo) r.2 (numbers_kept (declared_part s) r.0 (declare.tag w) h tt r.1)
one_said s t (switch n ps) h has e =
    let r = beside_is s (declared_with (declared_part s) (declare.switch n ps)) t e in
    subst (λ x. AreFit x.topo) r.2 (numbers_kept (declared_part s) r.0 (declare.switch n ps) h has r.1)
one_said s t (declared_link a m b n) h has e =
    let r = beside_is s (declared_with (declared_part s) (declare.link a m b n)) t e in
    subst (λ x. AreFit x.topo) r.2 (numbers_kept (declared_part s) r.0 (declare.link a m b n) h tt r.1)
one_said s t d h has e = let r = unless_ok _ _ t e in subst (λ x. AreFit x.topo) r.1 h

pub declares_declarable : DeclaresDeclarable
declares_declarable ts ds s read said =
    let answer : IsParse ts (Ok ds) = subst (IsParse ts) read (answers ts) in
    let none : AreFit empty_program.topo = λ r i. absurd i in
    fit_declarable s.topo
    (all_said (λ x. AreFit x.topo) HasPort one_said ds empty_program s none
    (subst (AllByRecursion HasPort) (sym answer.0.2) (ports_written answer.0.0)) said)
