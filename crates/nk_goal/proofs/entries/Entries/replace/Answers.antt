use Rattle.std.proofs.Common.{◌≡◌, ◌∙◌, ◌<◌, length, sym, ap, subst, nat_eq, slice_set}
use Rattle.std.specs.List.{position_from}
use Rattle.nk_determ.specs.Pairs.{Once}
use Rattle.nk_goal.specs.Entries.{ArePlaced, with_packets}
use Rattle.nk_goal.proofs.Placing.{found_here}
use Rattle.nk_goal.proofs.Adding.{put_once}
use Rattle.nk_goal.proofs.entries.Entries.replace.Goals as goal

pub index_mut-requires : goal.index_mut-requires
index_mut-requires c = subst (λ n. c.args.place < n) (sym (c.self.inside.pairs.ok.0 ∙ ap length c.self.view_is)) (found_here c.args.t c.args.self.now c.args.place c.requires).within

pub invariant_of-self : goal.invariant_of-self
invariant_of-self c =
    let found = found_here c.args.t c.args.self.now c.args.place c.requires in
    let put : slice_set c.self.inside.pairs.items c.args.place (c.args.t, c.args.y) ≡ with_packets c.args.self.now c.args.t c.args.y = ap (λ l. slice_set l c.args.place (c.args.t, c.args.y)) c.self.view_is ∙ found.put c.args.y in
    subst (ArePlaced c.self.inside.places.entries) (sym put) (record {
      once = put_once c.args.self.now c.args.t c.args.y (subst Once c.self.view_is c.self.invariant.once);
      placed = λ q. c.self.invariant.placed q ∙ ap (position_from (λ p. nat_eq q p.0) 0) c.self.view_is ∙ sym (found.stay c.args.y q 0);
    })

pub returns : goal.returns
returns c = ap (λ l. slice_set l c.args.place (c.args.t, c.args.y)) c.self.view_is ∙ (found_here c.args.t c.args.self.now c.args.place c.requires).put c.args.y
