use Rattle.std.proofs.Common.{◌≡◌, ℕ, ◌+◌, ◌∙◌, [], List, get_or, ap}
use Rattle.std.specs.Prelude.{map, slice_index}
use Rattle.nk_merge.proofs.Seeing.{after_ids, union_does}
use Rattle.nk_merge.proofs.together.diagram_after.Goals as goal

pub union_all-requires : goal.union_all-requires
union_all-requires c =
    let labels : List ℕ = get_or c.args.ss.now c.args.s [] in
    let is : c.as_slice.result.now ≡ map (λ l. slice_index c.args.states.now (l + 1)) labels =
    c.as_slice.ensures ∙ c.in_ok-ds.ensures ∙ ap (λ (xs : List ℕ). map (λ l. slice_index c.args.states.now (l + 1)) xs) c.members.ensures.is in
    after_ids c.args.states.now labels c.as_slice.result.now c.requires.places is c.args.st.now c.requires.states

pub returns-clause-does : goal.returns-clause-does
returns-clause-does c =
    let labels : List ℕ = get_or c.args.ss.now c.args.s [] in
    let is : c.as_slice.result.now ≡ map (λ l. slice_index c.args.states.now (l + 1)) labels =
    c.as_slice.ensures ∙ c.in_ok-ds.ensures ∙ ap (λ (xs : List ℕ). map (λ l. slice_index c.args.states.now (l + 1)) xs) c.members.ensures.is in
    union_does c.args.st.now c.union_all.new.st c.args.states.now labels c.as_slice.result.now c.in_ok-d.d c.union_all.ensures.grows c.requires.states c.requires.places is c.in_ok-d.ensures.ok
