use Rattle.std.proofs.Common.{◌∙◌, ap, sym, Some, string_bytes}
use Rattle.nk_field.proofs.FieldTables.{place_is}
use Rattle.nk_field.proofs.fields.Fields.find.Goals as goal

pub returns-in-Some : goal.returns-in-Some
returns-in-Some c =
    ap Some c.new.ensures ∙ sym c.in-Some.is ∙ c.place_of.ensures.is
    ∙ place_is string_bytes c.as_slice.result.now c.self.inside.names.items c.args.name.now c.args.self.now
    c.as_slice.ensures.value (ap (λ t. t.names) c.self.view_is)

pub returns-in-None : goal.returns-in-None
returns-in-None c =
    sym c.in-None.is ∙ c.place_of.ensures.is
    ∙ place_is string_bytes c.as_slice.result.now c.self.inside.names.items c.args.name.now c.args.self.now
    c.as_slice.ensures.value (ap (λ t. t.names) c.self.view_is)
