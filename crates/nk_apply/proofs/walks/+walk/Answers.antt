use Rattle.std.proofs.Common.{◌≡◌, ℕ, ◌+◌, ◌∙◌, Option, Some, sym, subst, ap, arith, get_or}
use Rattle.std.specs.Prelude.{IfSome}
use Rattle.std.proofs.lemmas.Option.{IfSome_then}
use Rattle.std.proofs.lemmas.Result.{IfOk-weaker}
use Rattle.nk_store.proofs.Stores.{grows_on}
use Rattle.nk_store.specs.Nodes.{child_at}
use Rattle.nk_store.specs.StoreState.{look, root_field, AreParts}
use Rattle.nk_apply.proofs.Built.{Built, built_parts, built_leaf}
use Rattle.nk_apply.specs.MadeOf.{IsMadeOf}
use Rattle.nk_apply.proofs.MadeOf.{made_grows, entries_grow, entries_put, made_now, on_any}
use Rattle.nk_apply.proofs.Turned.{turned, turned_push, turned_past, turned_made, set_within}
use Rattle.nk_apply.proofs.walks.+walk.Goals as goal

pub walk_case-returns-in-Some-clause-ok : goal.walk_case-returns-in-Some-clause-ok
walk_case-returns-in-Some-clause-ok g t c = (c.requires.seen c.args.d c.in-Some.r (sym c.known.ensures ∙ c.in-Some.is)).leaves

pub walk_case-returns-in-Some-clause-later : goal.walk_case-returns-in-Some-clause-later
walk_case-returns-in-Some-clause-later g t c = (c.requires.seen c.args.d c.in-Some.r (sym c.known.ensures ∙ c.in-Some.is)).later

pub walk_case-returns-clause-seen : goal.walk_case-returns-clause-seen
walk_case-returns-clause-seen g t c =
    entries_put (g.M.NodeMap.taken c.args.m.now) (g.M.NodeMap.made c.args.m.now) (g.M.NodeMap.first c.args.m.now) c.walk_node.new.st c.args.d c.in_ok-r.r c.walk_node.new.seen c.insert.new.self c.in_ok-r.ensures.seen
    (made_now (g.M.NodeMap.taken c.args.m.now) (g.M.NodeMap.made c.args.m.now) (g.M.NodeMap.first c.args.m.now) c.args.st.now c.walk_node.new.st c.args.d c.in_ok-r.r c.walk_node.ensures.grows c.requires.id c.in_ok-r.ensures.ok c.in_ok-r.ensures.later)
    c.in_ok-insert.ensures.found

pub walk_node-returns-clause-ok : goal.walk_node-returns-clause-ok
walk_node-returns-clause-ok g t c =
    IfOk-weaker c.case.result _ _
    (λ r h. turned_made (g.M.NodeMap.taken c.args.m.now) (g.M.NodeMap.made c.args.m.now c.args.st.now.maxes) c.args.st.now c.walk_parts.new.st c.case.new.self c.args.g c.args.d r c.in_ok-parts.parts c.requires.split
    (λ pk. c.laws.ensures.same c.args.g pk c.requires.before) c.in_ok-parts.ensures.ok h) c.case.ensures.ok

pub walk_node-returns-clause-later : goal.walk_node-returns-clause-later
walk_node-returns-clause-later g t c =
    let least = c.laws.ensures.least (root_field c.args.st.now c.args.d) in
    IfOk-weaker c.case.result _ _ (λ r h. omega (arith, least, c.requires.first, h)) c.case.ensures.later

pub walk_node-returns-clause-seen : goal.walk_node-returns-clause-seen
walk_node-returns-clause-seen g t c =
    on_any c.case.result _ (entries_grow (g.M.NodeMap.taken c.args.m.now) (g.M.NodeMap.made c.args.m.now) (g.M.NodeMap.first c.args.m.now) c.walk_parts.new.st c.case.new.self c.walk_parts.new.seen c.case.ensures.grows c.in_ok-parts.ensures.seen)

pub walk_parts-returns-then-end-max-clause-parts : goal.walk_parts-returns-then-end-max-clause-parts
walk_parts-returns-then-end-max-clause-parts g t c =
    let beyond = c.laws.ensures.following c.args.g (root_field c.loop-parts.st c.part_near-end.result.1) c.requires.before c.part_near-end.ensures.child.later in
    let all = turned_push (g.M.NodeMap.taken c.args.m.now) (g.M.NodeMap.made c.args.m.now) c.args.st.now c.loop-parts.st c.walk_part.new.st c.args.g c.args.d c.loop-parts.from c.loop-parts.parts c.part_near-end.result c.in_ok-to.to c.loop-parts.invariant.built c.loop-parts.invariant.grows c.walk_part.ensures.grows c.requires.id c.requires.split c.part_near-end.ensures c.in_ok-to.ensures.ok (omega (arith, beyond, c.in_ok-to.ensures.later)) in
    subst (AreParts c.walk_part.new.st c.args.g) (sym c.in_ok-push.ensures.ok)
    (built_parts (turned (g.M.NodeMap.taken c.args.m.now) (g.M.NodeMap.made c.args.m.now c.args.st.now.maxes) c.args.st.now c.args.g c.args.d) c.walk_part.new.st c.args.g c.part_near-end.result.0 _ all c.requires.field
    (c.if-end-max.true ∙ c.max-max.ensures ∙ ap (λ ms. get_or ms c.args.g 0) (sym (grows_on _ _ _ c.loop-parts.invariant.grows c.walk_part.ensures.grows).maxes)))

pub walk_parts-returns-then-end-max-clause-ok : goal.walk_parts-returns-then-end-max-clause-ok
walk_parts-returns-then-end-max-clause-ok g t c = λ v pk w.
    let beyond = c.laws.ensures.following c.args.g (root_field c.loop-parts.st c.part_near-end.result.1) c.requires.before c.part_near-end.ensures.child.later in
    let all = turned_push (g.M.NodeMap.taken c.args.m.now) (g.M.NodeMap.made c.args.m.now) c.args.st.now c.loop-parts.st c.walk_part.new.st c.args.g c.args.d c.loop-parts.from c.loop-parts.parts c.part_near-end.result c.in_ok-to.to c.loop-parts.invariant.built c.loop-parts.invariant.grows c.walk_part.ensures.grows c.requires.id c.requires.split c.part_near-end.ensures c.in_ok-to.ensures.ok (omega (arith, beyond, c.in_ok-to.ensures.later)) in
    ap (λ ps. look c.walk_part.new.st (child_at 0 ps v) pk) c.in_ok-push.ensures.ok
    ∙ built_leaf (turned (g.M.NodeMap.taken c.args.m.now) (g.M.NodeMap.made c.args.m.now c.args.st.now.maxes) c.args.st.now c.args.g c.args.d) c.walk_part.new.st c.args.g c.part_near-end.result.0 _ all
    (turned_past (g.M.NodeMap.taken c.args.m.now) (g.M.NodeMap.made c.args.m.now c.args.st.now.maxes) c.args.st.now c.args.g c.args.d c.part_near-end.result.0 c.requires.split (c.if-end-max.true ∙ c.max-max.ensures)) v pk w

pub walk_parts-loop-parts-preserved : goal.walk_parts-loop-parts-preserved
walk_parts-loop-parts-preserved g t c =
    let beyond = c.laws.ensures.following c.args.g (root_field c.loop-parts.st c.part_near-end.result.1) c.requires.before c.part_near-end.ensures.child.later in
    let all = turned_push (g.M.NodeMap.taken c.args.m.now) (g.M.NodeMap.made c.args.m.now) c.args.st.now c.loop-parts.st c.walk_part.new.st c.args.g c.args.d c.loop-parts.from c.loop-parts.parts c.part_near-end.result c.in_ok-to.to c.loop-parts.invariant.built c.loop-parts.invariant.grows c.walk_part.ensures.grows c.requires.id c.requires.split c.part_near-end.ensures c.in_ok-to.ensures.ok (omega (arith, beyond, c.in_ok-to.ensures.later)) in
    record {
      grows = grows_on _ _ _ c.loop-parts.invariant.grows c.walk_part.ensures.grows;
      seen = c.in_ok-to.ensures.seen;
      before = IfSome_then c.loop-parts.last c.loop-parts.invariant.last
          (λ x k. made_grows (g.M.NodeMap.taken c.args.m.now) (g.M.NodeMap.made c.args.m.now) (g.M.NodeMap.first c.args.m.now) c.loop-parts.st c.walk_part.new.st x.0 x.1 c.walk_part.ensures.grows k);
      last = made_now (g.M.NodeMap.taken c.args.m.now) (g.M.NodeMap.made c.args.m.now) (g.M.NodeMap.first c.args.m.now) c.loop-parts.st c.walk_part.new.st c.part_near-end.result.1 c.in_ok-to.to c.walk_part.ensures.grows
          c.part_near-end.ensures.child.id c.in_ok-to.ensures.ok c.in_ok-to.ensures.later;
      within = set_within c.args.st.now c.loop-parts.st c.args.g c.args.d c.loop-parts.from c.max-max.result c.part_near-end.result c.part_near-end.ensures c.loop-parts.invariant.grows c.max-max.ensures c.if-end-max.false;
      built = subst (Built (turned (g.M.NodeMap.taken c.args.m.now) (g.M.NodeMap.made c.args.m.now c.args.st.now.maxes) c.args.st.now c.args.g c.args.d) c.walk_part.new.st c.args.g (c.part_near-end.result.0 + 1)) (sym c.in_ok-push.ensures.ok) all;
    }

pub walk_node-returns-clause-grows : goal.walk_node-returns-clause-grows
walk_node-returns-clause-grows g t c = grows_on _ _ _ c.walk_parts.ensures.grows c.case.ensures.grows

pub walk_parts-returns-in_err-to-clause-grows : goal.walk_parts-returns-in_err-to-clause-grows
walk_parts-returns-in_err-to-clause-grows g t c = grows_on _ _ _ c.loop-parts.invariant.grows c.walk_part.ensures.grows

pub walk_parts-returns-in_err-push-clause-grows : goal.walk_parts-returns-in_err-push-clause-grows
walk_parts-returns-in_err-push-clause-grows g t c = grows_on _ _ _ c.loop-parts.invariant.grows c.walk_part.ensures.grows

pub walk_parts-returns-then-end-max-clause-grows : goal.walk_parts-returns-then-end-max-clause-grows
walk_parts-returns-then-end-max-clause-grows g t c = grows_on _ _ _ c.loop-parts.invariant.grows c.walk_part.ensures.grows

pub walk_part-returns-in-Some-clause-ok : goal.walk_part-returns-in-Some-clause-ok
walk_part-returns-in-Some-clause-ok g t c =
    let P = λ (x : ℕ × ℕ). IsMadeOf (g.M.NodeMap.taken c.args.m.now) (g.M.NodeMap.made c.args.m.now) (g.M.NodeMap.first c.args.m.now) c.args.st.now x.0 x.1 in
    let is = subst (λ (o : Option ℕ). IfSome o (λ r. c.args.before ≡ Some (c.args.d, r))) c.in-Some.is c.made_before.ensures in
    (subst (λ (o : Option (ℕ × ℕ)). IfSome o P) is c.requires.before).leaves

pub walk_part-returns-in-Some-clause-later : goal.walk_part-returns-in-Some-clause-later
walk_part-returns-in-Some-clause-later g t c =
    let P = λ (x : ℕ × ℕ). IsMadeOf (g.M.NodeMap.taken c.args.m.now) (g.M.NodeMap.made c.args.m.now) (g.M.NodeMap.first c.args.m.now) c.args.st.now x.0 x.1 in
    let is = subst (λ (o : Option ℕ). IfSome o (λ r. c.args.before ≡ Some (c.args.d, r))) c.in-Some.is c.made_before.ensures in
    (subst (λ (o : Option (ℕ × ℕ)). IfSome o P) is c.requires.before).later
