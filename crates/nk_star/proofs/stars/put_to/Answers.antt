use Rattle.std.proofs.Common.{◌≤◌, ◌∷◌, [], ◌++◌, length, ◌∙◌, ap, subst, arith}
use Rattle.nk_store.specs.StoreState.{HasLeaves, look}
use Rattle.nk_apply.specs.Leaves.{merged}
use Rattle.nk_apply.specs.Unions.{unions}
use Rattle.nk_star.proofs.Blocks.{put_together}
use Rattle.nk_star.proofs.stars.put_to.Goals as goal

pub returns-clause-ok : goal.returns-clause-ok
returns-clause-ok c =
    let few : c.min-kept.result ≤ length c.args.all.now = omega (arith, c.split_at.ensures.back_len, c.split_at.ensures.front_len) in
    put_together c.args.st.now c.from_the_last.new.st c.args.all.now c.push.new.self c.min-kept.result c.in_ok-last.last c.args.new
    c.from_the_last.ensures.grows c.laws.ensures.tidy c.laws-2.ensures.tidy c.requires.ids few
    (c.in_ok-push.ensures.ok ∙ ap (λ xs. xs ++ c.in_ok-last.last ∷ []) (c.from_vec-next.ensures ∙ c.in_ok-from_slice.ensures.items ∙ c.split_at.ensures.front))
    (subst (λ xs. HasLeaves c.from_the_last.new.st c.in_ok-last.last (λ pk. merged (unions c.args.st.now xs 0 (length xs) pk) (look c.args.st.now c.args.new pk))) c.split_at.ensures.back c.in_ok-last.ensures.ok)
