use Rattle.std.proofs.Common.{arith, length}
use Rattle.std.specs.Prelude.{map}
use Rattle.nk_field.proofs.Items.{read_begins, read_step, read_fault, too_many_refs, all_read_refs}
use Rattle.nk_field.proofs.reading.packet_in.Goals as goal

pub loop-place-init : goal.loop-place-init
loop-place-init c = record { few = omega arith; same = read_begins c.args.fields.now (map (λ i. i.now) c.args.items.now) c.zero.result c.zero.ensures }

pub loop-place-preserved : goal.loop-place-preserved
loop-place-preserved c = record {
  few = omega (arith, c.in-Ok.ensures.few, c.new.ensures);
  same =
      read_step c.args.fields.now (map (λ i. i.now) c.args.items.now) c.new.result c.loop-place.place (length c.args.fields.now.maxima)
      c.loop-place.reading.read c.in-Ok.next.read c.loop-place.reading.packet c.in-Ok.next.packet _ c.new.ensures
      (omega (arith, c.declared-place-end.ensures.count, c.loop-place-test.true)) c.in-Ok.ensures.on c.loop-place.invariant.same;
}

pub returns-then-reading-items : goal.returns-then-reading-items
returns-then-reading-items c =
    too_many_refs c.args.fields.now c.args.items.now c.loop-place.place (length c.args.fields.now.maxima) c.loop-place.reading.read c.loop-place.reading.packet _
    (omega (arith, c.declared-place-end.ensures.count, c.loop-place-test.false)) c.if-reading-items.true c.loop-place.invariant.same

pub returns : goal.returns
returns c =
    all_read_refs c.args.fields.now c.args.items.now c.loop-place.place (length c.args.fields.now.maxima) c.loop-place.reading.read c.loop-place.reading.packet _
    (omega (arith, c.declared-place-end.ensures.count, c.loop-place-test.false)) c.if-reading-items.false c.loop-place.invariant.same

pub returns-in-Err : goal.returns-in-Err
returns-in-Err c =
    read_fault c.args.fields.now (map (λ i. i.now) c.args.items.now) c.new.result c.loop-place.place (length c.args.fields.now.maxima)
    c.loop-place.reading.read c.loop-place.reading.packet c.in-Err.fault _ c.new.ensures
    (omega (arith, c.declared-place-end.ensures.count, c.loop-place-test.true)) c.in-Err.ensures.on c.loop-place.invariant.same
