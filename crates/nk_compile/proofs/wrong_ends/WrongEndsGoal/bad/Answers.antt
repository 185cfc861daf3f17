use Rattle.std.proofs.Common.{◌∙◌, [], sym, subst, ap, get_or, length}
use Rattle.std.specs.Prelude.{map}
use Rattle.std.proofs.lemmas.Result.{IfOk-weaker}
use Rattle.nk_apply.specs.Unions.{AreIds, unions}
use Rattle.nk_compile.proofs.EndsOfStates.{picked_ids, picked_is}
use Rattle.nk_compile.proofs.wrong_ends.WrongEndsGoal.bad.Goals as goal

pub union_all-requires : goal.union_all-requires
union_all-requires c =
    let g = c.args.self.now in
    subst (λ ds. AreIds c.args.st.now ds) (sym c.as_slice-2.ensures)
    (picked_ids c.args.st.now g.set g.states g.ends (get_or c.args.ss.now c.args.s []) c.in_ok-picked.picked c.requires.fits c.requires.places
    (c.in_ok-picked.ensures ∙ ap (λ es. map (λ l. get_or es l 0) c.members.result.now) c.as_slice.ensures ∙ ap (map (λ l. get_or g.ends l 0)) c.members.ensures.is))

pub returns-clause-ok : goal.returns-clause-ok
returns-clause-ok c =
    let g = c.args.self.now in
    IfOk-weaker c.union_all.result _ _ (λ d made. record {
      id = made.id;
      leaf = λ pk w. made.leaf pk w ∙ ap (λ ds. unions c.args.st.now ds 0 (length ds) pk) c.as_slice-2.ensures
          ∙ picked_is c.args.st.now g.set g.states g.ends (get_or c.args.ss.now c.args.s []) pk c.in_ok-picked.picked c.requires.fits w c.requires.places
          (c.in_ok-picked.ensures ∙ ap (λ es. map (λ l. get_or es l 0) c.members.result.now) c.as_slice.ensures ∙ ap (map (λ l. get_or g.ends l 0)) c.members.ensures.is);
    }) c.union_all.ensures.ok
