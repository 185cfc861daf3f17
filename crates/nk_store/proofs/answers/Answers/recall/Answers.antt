use Rattle.std.proofs.Common.{sym, ◌∙◌, ap}
use Rattle.std.specs.Map.{lookup}
use Rattle.nk_store.specs.declared.operation.Key.{Key}
use Rattle.nk_store.specs.Keys.{key_eq, key_of}
use Rattle.nk_store.proofs.KeyOrder.{lookup_arranged}
use Rattle.nk_store.proofs.answers.Answers.recall.Goals as goal

pub returns : goal.returns
returns c =
    let key = key_of c.args.operation c.args.a c.args.b in
    c.copied.ensures ∙ c.get.ensures.value ∙ ap (λ (k : Key). lookup (key_eq k) c.self.inside.answers.entries) c.key.ensures
    ∙ sym (lookup_arranged c.self.inside.answers.entries key) ∙ ap (λ answers. lookup (key_eq key) answers) c.self.view_is
