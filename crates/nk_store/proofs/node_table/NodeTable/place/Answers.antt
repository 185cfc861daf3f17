use Rattle.std.proofs.Common.{◌≡◌, subst, sym}
use Rattle.std.proofs.lemmas.Result.{IfOk-weaker}
use Rattle.nk_store.specs.StoreState.{StoreState}
use Rattle.nk_store.specs.Nodes.{Fits}
use Rattle.nk_store.proofs.Stores.{bare}
use Rattle.nk_store.proofs.Table.{fields_kept, put, put_sound, put_grows, placed}
use Rattle.nk_store.proofs.node_table.NodeTable.place.Goals as goal

pub invariant_of-self-2 : goal.invariant_of-self-2
invariant_of-self-2 c = (
  fields_kept (bare c.self.inside.maxes c.self.inside.width c.self.inside.tag c.self.inside.answers) _ _ c.self.invariant.0,
  put_sound c.self.inside.maxes c.self.inside.nodes c.intern.new.self c.args.node (put _ _ _ c.in_ok-place.ensures.keys) c.self.invariant.1
      (subst (λ (s : StoreState). Fits s.maxes s.nodes c.args.node) (sym c.self.view_is) c.requires),
)

pub returns-clause-grows : goal.returns-clause-grows
returns-clause-grows c = put_grows c.args.self.now (bare c.self.inside.maxes c.self.inside.width c.self.inside.tag c.self.inside.answers) c.self.inside.nodes c.intern.new.self c.args.node (put _ _ _ c.in_ok-place.ensures.keys) c.self.view_is

pub returns-clause-ok : goal.returns-clause-ok
returns-clause-ok c =
    let s = c.in_ok-place.ensures.stored in
    IfOk-weaker c.new.result (λ d. d ≡ c.in_ok-place.place) _
    (λ d is. rw is (placed (bare c.self.inside.maxes c.self.inside.width c.self.inside.tag c.self.inside.answers) c.intern.new.self c.in_ok-place.place s.0 c.args.node s.1 s.2))
    c.new.ensures
