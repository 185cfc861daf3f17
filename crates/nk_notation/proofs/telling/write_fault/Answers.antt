use Rattle.std.proofs.Common.{◌≡◌, ◌++◌, ap, sym, ◌∙◌, append_assoc, decimal}
use Rattle.std.specs.Prelude.{codes}
use Rattle.nk_number_forms.specs.Faults.{notation_fault_line, message_of}
use Rattle.nk_number_forms.specs.declared.fault.Fault.{Fault}
use Rattle.nk_notation.proofs.WrittenBytes.{failed_as, first_failed, then_written, written_as}
use Rattle.nk_notation.proofs.telling.write_fault.Goals as goal

-- the line of a fault in two parts
in_parts : (f : Fault) → (codes "line " ++ decimal f.line) ++ (codes ": " ++ message_of f.cause ++ codes "\n") ≡ notation_fault_line f
in_parts f =
    sym (append_assoc (codes "line " ++ decimal f.line) (codes ": " ++ message_of f.cause) (codes "\n"))
    ∙ ap (λ l. l ++ codes "\n") (sym (append_assoc (codes "line " ++ decimal f.line) (codes ": ") (message_of f.cause)))

pub returns-in-Ok : goal.returns-in-Ok
returns-in-Ok g c =
    written_as c.write_cause.result _ _ (notation_fault_line c.args.fault) (in_parts c.args.fault)
    (then_written c.write_cause.result _ _ _ _ _ _ (codes "line " ++ decimal c.args.fault.line)
    (codes ": " ++ message_of c.args.fault.cause ++ codes "\n") c.in-Ok.ensures c.write_cause.ensures)

pub returns-in-Err : goal.returns-in-Err
returns-in-Err g c =
    failed_as _ _ (notation_fault_line c.args.fault) (in_parts c.args.fault)
    (first_failed _ (codes "line " ++ decimal c.args.fault.line) (codes ": " ++ message_of c.args.fault.cause ++ codes "\n") c.in-Err.ensures)
