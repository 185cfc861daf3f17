use Rattle.std.proofs.Common.{◌≡◌, ℕ, ◌∙◌, ◌++◌, ◌∷◌, [], Some, cond, length, sym, ap, subst, nat_eq, arith}
use Rattle.std.specs.List.{position_from}
use Rattle.std.specs.Map.{lookup}
use Rattle.std.proofs.lemmas.Grind.{common_steps}
use Rattle.nk_determ.specs.Pairs.{Once}
use Rattle.nk_goal.proofs.Placing.{put_last, placed_new}
use Rattle.nk_goal.proofs.Adding.{put_once}
use Rattle.nk_goal.proofs.entries.Entries.push.Goals as goal

pub invariant_of-self-2 : goal.invariant_of-self-2
invariant_of-self-2 c =
    let before = c.args.self.now in
    let pair : ℕ × ℕ = (c.args.t, c.args.y) in
    let after : c.push.new.self.items ≡ c.self.inside.pairs.items ++ pair ∷ [] = grind (arith, common_steps) in
    let pairs : c.push.new.self.items ≡ before ++ pair ∷ [] = after ∙ ap (λ l. l ++ pair ∷ []) c.self.view_is in
    let count : c.len.result ≡ length before = c.len.ensures ∙ c.reserve.new.self.ok.0 ∙ ap length (c.in_ok-reserve.ensures.items ∙ c.self.view_is) in
    record {
      once = subst Once (sym (pairs ∙ put_last c.args.t c.args.y before 0 c.requires)) (put_once before c.args.t c.args.y (subst Once c.self.view_is c.self.invariant.once));
      placed = λ q.
          c.in_ok-insert.ensures.updates.0 q
          ∙ ap (λ k. cond (nat_eq c.args.t q) (Some k) (lookup (nat_eq q) c.self.inside.places.entries)) count
          ∙ ap (λ o. cond (nat_eq c.args.t q) (Some (length before)) o) (c.self.invariant.placed q ∙ ap (position_from (λ p. nat_eq q p.0) 0) c.self.view_is)
          ∙ sym (placed_new c.args.t c.args.y q before c.requires)
          ∙ ap (position_from (λ p. nat_eq q p.0) 0) (sym pairs);
    }

pub returns-clause-ok : goal.returns-clause-ok
returns-clause-ok c =
    let pair : ℕ × ℕ = (c.args.t, c.args.y) in
    let after : c.push.new.self.items ≡ c.self.inside.pairs.items ++ pair ∷ [] = grind (arith, common_steps) in
    after ∙ ap (λ l. l ++ pair ∷ []) c.self.view_is ∙ put_last c.args.t c.args.y c.args.self.now 0 c.requires
