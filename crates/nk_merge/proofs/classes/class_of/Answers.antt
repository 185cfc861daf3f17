use Rattle.std.proofs.Common.{◌≡◌, ℕ, ◌<◌, ⊎_elim, [], length, get_or, sym, subst, ◌∙◌, arith}
use Rattle.std.specs.Prelude.{slice_index}
use Rattle.std.proofs.lemmas.List.{get_or_default}
use Rattle.nk_store.proofs.Stores.{grows_on}
use Rattle.nk_determ.proofs.Interned.{sets_on}
use Rattle.nk_merge.specs.Alike.{labels_after, AreAlike}
use Rattle.nk_merge.proofs.Numbering.{last_or_before}
use Rattle.nk_merge.proofs.Sorting.{sets_alike_back, sets_alike_on}
use Rattle.nk_merge.proofs.classes.class_of.Goals as goal

pub returns-then-branch-clause-yes : goal.returns-then-branch-clause-yes
returns-then-branch-clause-yes c = λ _.
    let lt : c.loop-c.c < length c.args.firsts.now = c.loop-c-test.true in
    let at : ℕ = slice_index c.args.firsts.now c.loop-c.c in
    let within : at < length c.args.tags.now = c.requires.firsts c.loop-c.c 0 lt in
    let is : c.index-tags-firsts.result ≡ slice_index c.args.tags.now at = c.index-tags-firsts.is ∙ get_or_default c.args.tags.now at c.index-tags-firsts.result 0 within in
    sets_alike_back c.args.st.now c.loop-c.st c.args.ss.now c.loop-c.ss c.args.states.now (slice_index c.args.tags.now at) c.args.s
    c.loop-c.invariant.grows c.loop-c.invariant.sets c.requires.disjoint.states_are (c.requires.known at 0 within) c.requires.tag (c.requires.places at 0 within) c.requires.tag_places
    (subst (λ (z : ℕ). AreAlike c.loop-c.st c.args.states.now (labels_after (get_or c.loop-c.ss z [])) (labels_after (get_or c.loop-c.ss c.args.s []))) is (c.in_ok-are_alike.ensures.yes c.if-branch.true))

pub loop-c-preserved : goal.loop-c-preserved
loop-c-preserved c =
    let lt : c.loop-c.c < length c.args.firsts.now = c.loop-c-test.true in
    let at : ℕ = slice_index c.args.firsts.now c.loop-c.c in
    let within : at < length c.args.tags.now = c.requires.firsts c.loop-c.c 0 lt in
    let is : c.index-tags-firsts.result ≡ slice_index c.args.tags.now at = c.index-tags-firsts.is ∙ get_or_default c.args.tags.now at c.index-tags-firsts.result 0 within in
    record {
      grows = grows_on _ _ _ c.loop-c.invariant.grows c.are_alike.ensures.grows;
      sets = sets_on _ _ _ c.loop-c.invariant.sets c.are_alike.ensures.sets;
      disjoint = c.in_ok-are_alike.ensures.disjoint;
      rows = c.are_alike.ensures.rows ∙ c.loop-c.invariant.rows;
      none = λ b less h.
          ⊎_elim
          (λ before. c.loop-c.invariant.none b before h)
          (λ here.
          c.in_ok-are_alike.ensures.no c.if-branch.false
          (subst (λ (z : ℕ). AreAlike c.loop-c.st c.args.states.now (labels_after (get_or c.loop-c.ss z [])) (labels_after (get_or c.loop-c.ss c.args.s []))) (sym is)
          (sets_alike_on c.args.st.now c.loop-c.st c.args.ss.now c.loop-c.ss c.args.states.now (slice_index c.args.tags.now at) c.args.s
          c.loop-c.invariant.grows c.loop-c.invariant.sets c.requires.disjoint.states_are (c.requires.known at 0 within) c.requires.tag (c.requires.places at 0 within) c.requires.tag_places
          (subst (λ (k : ℕ). AreAlike c.args.st.now c.args.states.now (labels_after (get_or c.args.ss.now (slice_index c.args.tags.now (slice_index c.args.firsts.now k)) [])) (labels_after (get_or c.args.ss.now c.args.s []))) here h))))
          (last_or_before c.loop-c.c b (omega (arith, less)));
    }
