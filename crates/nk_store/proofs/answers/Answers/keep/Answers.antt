use Rattle.std.proofs.Common.{◌≡◌, cond, Some, subst, ◌∙◌, ap}
use Rattle.std.specs.Map.{lookup}
use Rattle.nk_store.specs.declared.operation.Key.{Key}
use Rattle.nk_store.specs.Keys.{key_eq, key_of, with_answer}
use Rattle.nk_store.proofs.KeyOrder.{arranged_put, found_arranged}
use Rattle.nk_store.proofs.answers.Answers.keep.Goals as goal

-- what is found in the map once the answer is kept
found : (c : goal.In_ok-insert) → (q : Key) →
    lookup (key_eq q) c.insert.new.self.entries ≡ cond (key_eq (key_of c.args.operation c.args.a c.args.b) q) (Some c.args.d) (lookup (key_eq q) c.self.inside.answers.entries)
found c = λ q.
    subst (λ (k : Key). lookup (key_eq q) c.insert.new.self.entries ≡ cond (key_eq k q) (Some c.args.d) (lookup (key_eq q) c.self.inside.answers.entries)) c.key.ensures
    (c.in_ok-insert.ensures.updates.0 q)

pub returns-clause-answers : goal.returns-clause-answers
returns-clause-answers c =
    let key = key_of c.args.operation c.args.a c.args.b in
    arranged_put c.self.inside.answers.entries c.insert.new.self.entries key c.args.d (found c) ∙ ap (λ answers. with_answer answers key c.args.d) c.self.view_is

pub returns-clause-found : goal.returns-clause-found
returns-clause-found c = λ q.
    let key = key_of c.args.operation c.args.a c.args.b in
    found_arranged c.self.inside.answers.entries c.insert.new.self.entries key c.args.d (found c) q
    ∙ ap (λ answers. cond (key_eq key q) (Some c.args.d) (lookup (key_eq q) answers)) c.self.view_is
