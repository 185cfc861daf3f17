use Rattle.std.proofs.Common.{ℕ, ◌↔◌, ◌∙◌, [], ap, sym, subst, map, get_or, Contains}
use Rattle.nk_apply.specs.Unions.{AreIds}
use Rattle.nk_steps.proofs.Alike.{ids_alike, unions_alike}
use Rattle.nk_reach.proofs.OneSided.{labels_ids, alone_leaves, alones_on}
use Rattle.nk_reach.proofs.sides.OneSideGoal.bad.Goals as goal

pub union_all-requires : goal.union_all-requires
union_all-requires c =
    let set = get_or c.args.ss.now c.args.s [] in
    let is = c.in_ok-picked.ensures ∙ ap (λ xs. map (λ l. get_or xs l 0) c.members.result.now) c.as_slice.ensures ∙ ap (λ ys. map (λ l. get_or c.args.self.now.ends l 0) ys) c.members.ensures.is in
    subst (AreIds c.args.st.now) (sym c.as_slice-2.ensures)
    (ids_alike c.args.st.now c.each_once-ds.result c.in_ok-picked.picked (λ d. (c.each_once-ds.ensures.members d).0)
    (subst (AreIds c.args.st.now) (sym is) (labels_ids c.args.st.now c.args.self.now.ends set c.requires.fits.ids c.requires.places)))

pub alone_once-requires-clause-seen : goal.alone_once-requires-clause-seen
alone_once-requires-clause-seen c = alones_on c.args.st.now c.union_all.new.st c.args.self.now.seen.entries c.union_all.ensures.grows c.requires.fits.made

pub returns-clause-ok : goal.returns-clause-ok
returns-clause-ok c =
    let set = get_or c.args.ss.now c.args.s [] in
    let is = c.in_ok-picked.ensures ∙ ap (λ xs. map (λ l. get_or xs l 0) c.members.result.now) c.as_slice.ensures ∙ ap (λ ys. map (λ l. get_or c.args.self.now.ends l 0) ys) c.members.ensures.is in
    let same = subst (λ xs. (d : ℕ) → Contains xs d ↔ Contains c.in_ok-picked.picked d) (sym c.as_slice-2.ensures) c.each_once-ds.ensures.members in
    alone_leaves c.args.st.now c.union_all.new.st c.alone_once.new.st c.args.self.now.ends set c.in_ok-picked.picked c.in_ok-ends.ends c.in_ok-r.r is
    (record {
      id = c.in_ok-ends.ensures.ok.id;
      leaf = λ pk w. c.in_ok-ends.ensures.ok.leaf pk w ∙ unions_alike c.args.st.now c.as_slice-2.result.now c.in_ok-picked.picked pk c.laws.ensures.tidy same;
    })
    c.in_ok-r.ensures.ok

pub returns-clause-fits : goal.returns-clause-fits
returns-clause-fits c = record {
  ids = λ i l. c.alone_once.ensures.grows.ids (get_or c.args.self.now.ends i 0) (c.union_all.ensures.grows.ids (get_or c.args.self.now.ends i 0) (c.requires.fits.ids i l));
  made = c.in_ok-r.ensures.seen;
}
