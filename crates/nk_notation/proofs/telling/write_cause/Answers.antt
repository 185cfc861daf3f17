use Rattle.std.proofs.Common.{◌≡◌, ◌++◌, List, ℕ, ap, rules}
use Rattle.std.specs.Prelude.{codes}
use Rattle.nk_number_forms.specs.Faults.{message_of}
use Rattle.nk_notation.proofs.WrittenBytes.{failed_as, first_failed, then_written, written_as}
use Rattle.nk_notation.proofs.telling.write_cause.Goals as goal

pub returns-in-Ok : goal.returns-in-Ok
returns-in-Ok g c =
    let message : c.as_bytes.result.now ≡ message_of c.args.cause = search rules in
    written_as c.write.result _ (codes ": " ++ c.as_bytes.result.now ++ codes "\n") (codes ": " ++ message_of c.args.cause ++ codes "\n")
    (ap (λ (m : List ℕ). codes ": " ++ m ++ codes "\n") message)
    (then_written c.write.result _ _ _ _ _ _ (codes ": " ++ c.as_bytes.result.now) (codes "\n") c.in-Ok.ensures c.write.ensures)

pub returns-in-Err : goal.returns-in-Err
returns-in-Err g c =
    let message : c.as_bytes.result.now ≡ message_of c.args.cause = search rules in
    failed_as _ (codes ": " ++ c.as_bytes.result.now ++ codes "\n") (codes ": " ++ message_of c.args.cause ++ codes "\n")
    (ap (λ (m : List ℕ). codes ": " ++ m ++ codes "\n") message)
    (first_failed _ (codes ": " ++ c.as_bytes.result.now) (codes "\n") c.in-Err.ensures)
