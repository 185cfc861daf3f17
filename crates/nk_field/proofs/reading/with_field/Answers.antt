use Rattle.std.proofs.Common.{sym}
use Rattle.nk_field.proofs.Items.{item_gives, item_fails}
use Rattle.nk_field.proofs.reading.with_field.Goals as goal

pub returns-in-Some-value_in-clause-on : goal.returns-in-Some-value_in-clause-on
returns-in-Some-value_in-clause-on c =
    item_gives c.args.fields.now c.args.f c.args.at.read c.and_value.result.read c.in-Some-value_in.n c.args.items.now c.in-Some.item.now c.args.at.packet c.and_value.result.packet
    (sym c.if-is_the_tag.ensures) c.in-Some.ensures.lookup.3.0 c.in-Some.ensures.lookup.1 c.in-Some-value_in.ensures c.and_value.ensures.read c.and_value.ensures.packet

pub returns-in-None-value_in-clause-on : goal.returns-in-None-value_in-clause-on
returns-in-None-value_in-clause-on c =
    item_fails c.args.fields.now c.args.f c.args.at.read c.args.items.now c.in-Some.item.now c.args.at.packet
    (sym c.if-is_the_tag.ensures) c.in-Some.ensures.lookup.3.0 c.in-Some.ensures.lookup.1 c.in-None-value_in.ensures
