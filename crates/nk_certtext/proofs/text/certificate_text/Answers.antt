use Rattle.std.proofs.Common.{◌++◌, ap, ◌∙◌, codes}
use Rattle.nk_certtext.proofs.Printing.{whole}
use Rattle.nk_certtext.proofs.text.certificate_text.Goals as goal

pub returns : goal.returns
returns c =
    whole c.args.fields.now c.args.c.now c.as_slice.result.now c.extend_from_slice.new.self.items c.push_predicate.new.out.items c.push_rows.new.out.items
    (c.in_ok-extend_from_slice.ensures.items ∙ ap (λ l. l ++ codes "certificate\nrow start") c.new-out.ensures.items)
    c.in_ok-push_predicate.ensures c.in_ok-push_rows.ensures c.as_slice.ensures
