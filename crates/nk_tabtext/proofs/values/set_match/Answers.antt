use Rattle.std.proofs.Common.{◌≡◌, ap, arith, length, subst, sym, ◌∙◌}
use Rattle.std.proofs.Math.ListN.{set}
use Rattle.nk_tabtext.specs.Progress.{match_set}
use Rattle.nk_tabtext.proofs.Setting.{before, set_nowhere, set_there}
use Rattle.nk_tabtext.proofs.values.set_match.Goals as goal

pub returns-then-place-len : goal.returns-then-place-len
returns-then-place-len c =
    let e : c.place_of-place.result ≡ before c.args.m.0 c.args.before.now.items = c.place_of-place.ensures.is ∙ ap (before c.args.m.0) c.as_slice.ensures.value in
    subst (λ k. set c.args.before.now.items k c.args.m ≡ match_set c.args.m c.args.before.now.items) (sym e)
    (set_there c.args.m c.args.before.now.items (omega (arith, ap length c.as_slice.ensures.value, e)))

pub returns-else-place-len : goal.returns-else-place-len
returns-else-place-len c =
    let e : c.place_of-place.result ≡ before c.args.m.0 c.args.before.now.items = c.place_of-place.ensures.is ∙ ap (before c.args.m.0) c.as_slice.ensures.value in
    set_nowhere c.args.m c.args.before.now.items (omega (arith, ap length c.as_slice.ensures.value, e))
