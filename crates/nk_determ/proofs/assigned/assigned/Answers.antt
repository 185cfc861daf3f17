use Rattle.std.proofs.Common.{List, ℕ, sym, subst}
use Rattle.std.proofs.lemmas.List.Sorted.{IsNonDecreasingBy-from_sort}
use Rattle.nk_determ.specs.Unchanged.{leaf_values, HasValues}
use Rattle.nk_determ.proofs.Collected.{moved_items}
use Rattle.nk_determ.proofs.assigned.assigned.Goals as goal

pub returns-clause-has : goal.returns-clause-has
returns-clause-has c =
    moved_items (leaf_values c.args.f) c.into_vec-values.result.items c.sort_unstable.new.self.items c.args.st.now c.args.d c.sort_unstable.ensures.permutation
    (subst (λ (xs : List ℕ). HasValues c.args.f xs c.args.st.now c.args.d) (sym c.into_vec-values.ensures) c.in_ok-found.ensures)

pub returns-clause-sorted : goal.returns-clause-sorted
returns-clause-sorted c = IsNonDecreasingBy-from_sort (λ n. n) c.sort_unstable.new.self.items c.sort_unstable.ensures.sorted
