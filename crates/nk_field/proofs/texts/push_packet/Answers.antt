use Rattle.std.proofs.Common.{length, arith, ap, ◌∙◌, ◌++◌}
use Rattle.nk_field.specs.Texts.{packet_bytes}
use Rattle.nk_field.proofs.Printing.{further, packet_begins, packet_step}
use Rattle.nk_field.proofs.texts.push_packet.Goals as goal

pub loop-place-init : goal.loop-place-init
loop-place-init c =
    packet_begins c.args.fields.now c.args.with_tag c.args.p.now c.push_item.new.out.items c.args.out.now.items c.declared-place-end.ensures.is c.in_ok-push_item.ensures

pub loop-place-preserved : goal.loop-place-preserved
loop-place-preserved c =
    packet_step c.args.fields.now c.args.with_tag c.args.p.now c.loop-place.out.items c.push_further.new.out.items
    (c.args.out.now.items ++ packet_bytes c.args.fields.now c.args.with_tag c.args.p.now) c.loop-place.place (length c.args.fields.now.maxima)
    (omega (arith, c.declared-place-end.ensures.count, c.loop-place-test.true))
    (c.in_ok-push_further.ensures ∙ ap (λ f. c.loop-place.out.items ++ further c.args.fields.now c.args.with_tag c.args.p.now f) c.new.ensures)
    c.loop-place.invariant
