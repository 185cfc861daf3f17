use Rattle.std.proofs.Common.{◌≡◌, ℕ, ◌≤◌, [], ◌∷◌, ◌++◌, arith, refl, ap, ◌∙◌, get_or}
use Rattle.std.proofs.lemmas.List.{get_or_default}
use Rattle.std.proofs.lemmas.List.Elements.{All-more}
use Rattle.nk_compile.proofs.ChildLemmas.{parts_step, parts_end, are_filled}
use Rattle.nk_compile.proofs.children.all_parts.Goals as goal

pub loop-i-preserved : goal.loop-i-preserved
loop-i-preserved c =
    let cs = c.args.children.now in
    let l = c.loop-i-test.true in
    let r = c.index-children-i.result in
    let x = get_or cs c.loop-i.i r in
    let same = get_or_default cs c.loop-i.i c.index-children-i-in-loop-i.result r l in
    let put : c.push.new.self ≡ c.push_below.new.parts ++ (x.0, x.1) ∷ [] = c.in_ok-push.ensures.ok ∙ ap (λ (e : ℕ × ℕ). c.push_below.new.parts ++ (x.0, e.1) ∷ []) same in
    record {
      whole = parts_step c.max-high.result c.args.other c.loop-i.next c.loop-i.i x r cs c.loop-i.parts c.push_below.new.parts c.push.new.self _ l refl
          c.in_ok-push_below.ensures put c.loop-i.invariant.whole;
      small = All-more (λ (e : ℕ × ℕ). e.0 ≤ 65535) cs c.loop-i.i r l c.loop-i.invariant.small (omega (arith, c.index-children-i.element_fits.fits));
    }

pub returns-clause-parts : goal.returns-clause-parts
returns-clause-parts c =
    (are_filled c.args.st.now c.args.f c.max-high.result c.args.other c.loop-i.i c.args.children.now c.push_to.new.parts c.requires.field c.max-high.ensures c.requires.high
    c.requires.ascend c.requires.other c.requires.children c.loop-i-test.false c.loop-i.invariant.small
    (parts_end c.max-high.result c.args.other c.loop-i.next c.loop-i.i c.args.children.now c.loop-i.parts c.push_to.new.parts _ c.loop-i-test.false c.in_ok-push_to.ensures c.loop-i.invariant.whole)).parts

pub returns-clause-child : goal.returns-clause-child
returns-clause-child c =
    (are_filled c.args.st.now c.args.f c.max-high.result c.args.other c.loop-i.i c.args.children.now c.push_to.new.parts c.requires.field c.max-high.ensures c.requires.high
    c.requires.ascend c.requires.other c.requires.children c.loop-i-test.false c.loop-i.invariant.small
    (parts_end c.max-high.result c.args.other c.loop-i.next c.loop-i.i c.args.children.now c.loop-i.parts c.push_to.new.parts _ c.loop-i-test.false c.in_ok-push_to.ensures c.loop-i.invariant.whole)).child
