use Rattle.std.proofs.Common.{◌∙◌, sym, ap, option_map}
use Rattle.nk_names.specs.Shape.{shape_of}
use Rattle.nk_names.proofs.Places.{shape_at, no_policy}
use Rattle.nk_names.proofs.lets.Lets.shape.Goals as goal

pub returns-in-Some : goal.returns-in-Some
returns-in-Some c =
    shape_at c.args.name.now c.args.self.now.entries.items c.args.self.now.shapes.items c.in-Some.place c.index.result.now c.args.self.now.shaped (sym c.place.ensures.place ∙ c.in-Some.is) c.index.ensures

pub returns-in-None : goal.returns-in-None
returns-in-None c =
    ap (option_map shape_of) (sym (no_policy c.args.name.now c.args.self.now.entries.items 0 (sym c.place.ensures.place ∙ c.in-None.is)))
