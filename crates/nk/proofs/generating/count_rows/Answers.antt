use Rattle.std.proofs.Common.{◌∙◌, ap, subst, sym}
use Rattle.std.proofs.lemmas.List.{length-map}
use Rattle.nk_cert.specs.Values.{certificate_value, held_row_value}
use Rattle.nk_bisim.specs.Answers.{IsComparison}
use Rattle.nk.specs.Generating.{rows_line}
use Rattle.nk.proofs.Jobs.{rows_counted}
use Rattle.nk.proofs.generating.count_rows.Goals as goal

pub returns-in_ok-rows_message-in-Ok-Related : goal.returns-in_ok-rows_message-in-Ok-Related
returns-in_ok-rows_message-in-Ok-Related c =
    let found = c.in-Ok-Related.ensures in
    let related = subst (λ r. IsComparison c.args.program.now.fields found.0 found.1 r) c.in-Ok-Related.field-0-is found.4 in
    rows_counted c.certificates_of_policies_are_read.ensures.read c.args.program.now c.args.left.now c.args.right.now
    c.in_ok-rows_message-in-Ok-Related.field-0.items found.0 found.1 c.requires.is (record { left_is = found.2; right_is = found.3 })
    (certificate_value c.in-Ok-Related.certificate) related
    (c.in_ok-rows_message-in-Ok-Related.ensures ∙ ap rows_line (c.len.ensures ∙ sym (length-map c.in-Ok-Related.certificate.rows held_row_value)))
