use Rattle.std.proofs.Common.{OnOk, sym, subst}
use Rattle.std.proofs.lemmas.Result.{on_ok_weaker}
use Rattle.nk_store.specs.StoreState.{StoreState, Grows}
use Rattle.nk_store.specs.Keys.{key_of}
use Rattle.nk_store.specs.KeptAnswers.{IsKeptAnswer}
use Rattle.nk_store.proofs.Kept.{IsFound, Keeps, kept_after, leaf_kept, recalled_kept, recalled_others}
use Rattle.nk_store.proofs.store.Store.keep.Goals as goal

keeps : (c : goal.After-keep) → Keeps c.self.inside.table c.keep.new.self
keeps c = kept_after c.self.inside.table c.keep.new.self c.args.operation c.args.a c.args.b c.args.d c.keep.result c.laws.ensures.canonical c.self.invariant.0
    (subst (λ (s : StoreState). IsKeptAnswer s c.args.operation c.args.a c.args.b c.args.d) (sym c.self.view_is) c.requires) c.keep.ensures.ok c.keep.ensures.found c.keep.ensures.err

pub invariant_of-self : goal.invariant_of-self
invariant_of-self c = (
  (keeps c).answers,
  leaf_kept c.self.inside.table c.keep.new.self _ c.self.inside.empty (keeps c).grows c.self.invariant.1,
  leaf_kept c.self.inside.table c.keep.new.self _ c.self.inside.identity (keeps c).grows c.self.invariant.2,
)

pub returns-clause-kept : goal.returns-clause-kept
returns-clause-kept c = on_ok_weaker c.keep.result (recalled_kept c.self.inside.table c.keep.new.self c.args.operation c.args.a c.args.b c.args.d) c.keep.ensures.found

pub returns-clause-others : goal.returns-clause-others
returns-clause-others c =
    let key = key_of c.args.operation c.args.a c.args.b in
    on_ok_weaker c.keep.result (recalled_others c.args.self.now c.keep.new.self key c.args.d)
    (subst (λ (s : StoreState). OnOk c.keep.result (IsFound s.kept c.keep.new.self.kept key c.args.d)) c.self.view_is c.keep.ensures.found)

pub returns-clause-grows : goal.returns-clause-grows
returns-clause-grows c = subst (λ (s : StoreState). Grows s c.keep.new.self) c.self.view_is (keeps c).grows
