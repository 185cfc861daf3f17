use Rattle.std.proofs.Common.{◌≡◌, ◌+◌, ◌∙◌, [], sym, subst, ap, arith, length, get_or}
use Rattle.std.specs.Prelude.{All, map}
use Rattle.std.proofs.lemmas.List.{get_or_default}
use Rattle.nk_group.specs.declared.switch_tags.SwitchTags.{SwitchTags}
use Rattle.nk_group.specs.Tagged.{set_of_tag}
use Rattle.nk_compile.specs.Comings.{first_end, HasComing, with_end}
use Rattle.nk_compile.proofs.ComingEnds.{coming_on, switches_on, numbers_ascend}
use Rattle.nk_compile.proofs.switch_tags.tags_at_switches.Goals as goal

pub add_tag-requires-clause-ascend : goal.add_tag-requires-clause-ascend
add_tag-requires-clause-ascend c = numbers_ascend c.args.topo.now c.switches-switches.ensures.is c.switches-switches.result.now c.switches-switches.ensures.numbers

pub loop-s-preserved : goal.loop-s-preserved
loop-s-preserved c =
    let i = c.loop-s.s-index in
    let added = c.in_ok-add_tag.ensures ∙ ap (λ t. with_end c.end_of.result (t + 1) c.loop-s.all.items) c.loop-s.invariant.tag in
    let end : first_end c.args.ends.now (set_of_tag c.args.ss.now c.args.tags.now i) ≡ c.end_of.result =
    sym (c.end_of.ensures ∙ ap (first_end c.args.ends.now) (c.members.ensures.is ∙ ap (λ n. get_or c.args.ss.now n []) (c.s-item.is ∙ get_or_default c.args.tags.now i c.s-item.result 0 c.loop-s-test.true))) in
    record {
      tag = ap (λ t. t + 1) c.loop-s.invariant.tag;
      switches = ap (map (λ (s : SwitchTags). s.switch)) added ∙ switches_on c.end_of.result (i + 1) c.loop-s.all.items ∙ c.loop-s.invariant.switches;
      coming =
          subst (All (HasComing c.args.ends.now c.args.ss.now c.args.tags.now (i + 1))) (sym added)
          (coming_on c.args.ends.now c.args.ss.now c.args.tags.now i c.end_of.result c.loop-s.all.items end c.loop-s.invariant.coming);
    }

pub returns-clause-coming : goal.returns-clause-coming
returns-clause-coming c =
    let all : c.loop-s.s-index ≡ length c.args.tags.now = omega (arith, c.loop-s-test.false, c.loop-s.auto.s-index-end) in
    subst (λ n. All (HasComing c.args.ends.now c.args.ss.now c.args.tags.now n) c.loop-s.all.items) all c.loop-s.invariant.coming
