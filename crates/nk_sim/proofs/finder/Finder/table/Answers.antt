use Rattle.std.proofs.Common.{◌≡◌, ◌∙◌, ap, sym, None, Some}
use Rattle.std.specs.Prelude.{slice_get, slice_index_or}
use Rattle.std.specs.Option.{option_and_then}
use Rattle.nk_sim.proofs.Finding.{lent_at}
use Rattle.nk_sim.proofs.finder.Finder.table.Goals as goal

pub returns-in-Some : goal.returns-in-Some
returns-in-Some c =
    let ts = c.args.tables.now in
    let there : slice_index_or c.args.self.now.places.items c.args.switch None ≡ Some c.in-Some.place =
    ap (λ l. slice_index_or l c.args.switch None) (sym c.as_slice.ensures.value) ∙ sym c.in-Some.ensures in
    lent_at ts c.in-Some.place c.get.result c.get.ensures.lookup
    ∙ ap (option_and_then (slice_get ts)) (sym there)
    ∙ c.requires c.args.switch

pub returns-in-None : goal.returns-in-None
returns-in-None c =
    let ts = c.args.tables.now in
    let there : slice_index_or c.args.self.now.places.items c.args.switch None ≡ None =
    ap (λ l. slice_index_or l c.args.switch None) (sym c.as_slice.ensures.value) ∙ sym c.in-None.ensures in
    ap (option_and_then (slice_get ts)) (sym there) ∙ c.requires c.args.switch
