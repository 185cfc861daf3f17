use Rattle.std.proofs.Common.{◌≡◌, ◌∙◌, sym, ap, subst, map, length, ◌<◌, string_bytes, ◌++◌, ◌∷◌, []}
use Rattle.std.specs.Prelude.{IsNone}
use Rattle.std.proofs.lemmas.List.{map-append}
use Rattle.nk_field.specs.Packet.{IsFieldTable, field_named}
use Rattle.nk_field.proofs.FieldTables.{table, same_table, with_field_is}
use Rattle.nk_field.proofs.fields.Fields.append.Goals as goal

pub invariant_of-self-2 : goal.invariant_of-self-2
invariant_of-self-2 c =
    let inside =
    table (map string_bytes c.self.inside.names.items) c.self.inside.maxima.items c.self.inside.tag in
    let named : c.push-2.new.self.items ≡ c.self.inside.names.items ++ c.in_ok-name.name ∷ [] =
    (rw c.unwrap.ensures at c.push-2.ensures.items)
    ∙ ap (λ xs. xs ++ c.in_ok-name.name ∷ []) c.in_ok-reserve.ensures.items in
    let ranged : c.push.new.self.items ≡ c.self.inside.maxima.items ++ c.args.max ∷ [] =
    c.in_ok-push.ensures.items in
    let names : map string_bytes c.push-2.new.self.items ≡ inside.names ++ c.args.name.now ∷ [] =
    ap (map string_bytes) named ∙ map-append string_bytes c.self.inside.names.items (c.in_ok-name.name ∷ [])
    ∙ ap (λ b. map string_bytes c.self.inside.names.items ++ b ∷ []) c.in_ok-name.ensures.ok in
    let none : IsNone (field_named inside c.args.name.now) =
    subst (λ t. IsNone (field_named t c.args.name.now)) (sym c.self.view_is) c.requires.new in
    let room : length c.self.inside.maxima.items < 18 =
    subst (λ t. length t.maxima < 18) (sym c.self.view_is) c.requires.room in
    subst IsFieldTable (sym (same_table _ _ _ _ c.self.inside.tag names ranged))
    (with_field_is inside c.args.name.now c.args.max c.self.invariant none room)
