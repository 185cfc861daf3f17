use Rattle.std.proofs.Common.{arith, ◌∙◌, sym, ap, ◌+◌, min, drop, ◌<◌, ◌≡◌, subst}
use Rattle.std.specs.Prelude.{slice_index}
use Rattle.nk_extract.specs.RuleTree.{priority_of, bit_of}
use Rattle.nk_store.proofs.Children.{rest_is}
use Rattle.nk_extract.proofs.Walks.{clamped}
use Rattle.nk_extract.proofs.row.priority.Goals as goal

pub loop-f-preserved : goal.loop-f-preserved
loop-f-preserved c = record {
  small = omega (arith, c.min-all.ensures);
  made =
      let width = c.args.frame.now.width in
      let tag = c.args.frame.now.tag.0 in
      let f = c.loop-f-item.result.0 in
      let rest = drop (c.loop-f.f-index + 1) c.args.matches.now in
      let bit : slice_index c.args.frame.now.bits c.place.result ≡ bit_of width tag f = ap (slice_index c.args.frame.now.bits) c.place.ensures.is ∙ c.requires f (subst (λ k. k < 18) c.place.ensures.is c.place.ensures.below) in
      let sum : c.min-all.result ≡ min (min 4294967295 (c.loop-f.all + bit_of width tag f)) 65535 = omega (arith, c.min-all.ensures, c.saturating_add.ensures, bit) in
      ap (λ n. min 65535 (n + priority_of width tag rest)) sum
      ∙ clamped c.loop-f.all (bit_of width tag f) (priority_of width tag rest)
      ∙ sym (ap (λ l. min 65535 (c.loop-f.all + priority_of width tag l)) (rest_is c.args.matches.now c.loop-f.f-index c.loop-f-item.result c.loop-f-test.true c.loop-f-item.is))
      ∙ c.loop-f.invariant.made;
}
