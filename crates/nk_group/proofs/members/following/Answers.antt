use Rattle.std.proofs.Common.{◌≡◌, ℕ, ◌+◌, ◌<◌, List, arith, get_or, length, subst, sym}
use Rattle.std.specs.Prelude.{All, map}
use Rattle.std.proofs.lemmas.List.{get_or-map, length-map}
use Rattle.nk_group.proofs.members.following.Goals as goal

pub overflow_add-l : goal.overflow_add-l
overflow_add-l c =
    let xs : List ℕ = c.members-l-items.result.now in
    let i : ℕ = c.loop-l.l-index in
    let long : i < length (map (λ n. n + 1) xs) = subst (λ n. i < n) (sym (length-map xs (λ n. n + 1))) c.loop-l-test.true in
    let place : get_or (map (λ n. n + 1) xs) i 0 < c.args.count = (subst (λ (l : List ℕ). All (λ n. n < c.args.count) (map (λ n. n + 1) l)) (sym c.members-l-items.ensures.is) c.requires.places) i 0 long in
    let at : get_or (map (λ n. n + 1) xs) i 0 ≡ get_or xs i 0 + 1 = get_or-map (λ n. n + 1) xs i 0 0 c.loop-l-test.true in
    omega (arith, place, at, c.ranges.count.fits)
