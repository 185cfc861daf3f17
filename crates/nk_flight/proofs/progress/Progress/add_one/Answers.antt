use Rattle.std.proofs.Common.{◌≡◌, ℕ, ◌∙◌, ◌<◌, ◌≤◌, List, ap, sym, subst, length, arith, Contains}
use Rattle.std.specs.Prelude.{slice_index, slice_index_or}
use Rattle.std.proofs.lemmas.List.{get_or_default}
use Rattle.nk_flight.specs.Progresses.{ProgressState, progress_at}
use Rattle.nk_flight.specs.Updates.{done_by, one_more_event}
use Rattle.nk_flight.proofs.Counting.{once_few, twice_few, progress_then, one_more_then}
use Rattle.nk_flight.proofs.progress.Progress.add_one.Goals as goal

-- the switch is one of those that are counted, its number is in range, and so many steps it has done
is_there : (ns counts : List ℕ) (p : ProgressState) (at sw s : ℕ) → at ≡ sw → sw < 65536 → length counts ≡ 65536 → progress_at ns counts ≡ p
    → Contains p.switches sw → done_by p.done sw < 3 → s ≡ slice_index_or counts at s → (at < 65536) × Contains ns at × (s ≡ slice_index counts at) × (s < 3)
is_there ns counts p at sw s same less room view there few held =
    let small : at < 65536 = omega (arith, same, less) in
    let within : at < length counts = omega (arith, small, room) in
    let is : s ≡ slice_index counts at = held ∙ sym (get_or_default counts at 0 s within) in
    let here : slice_index counts at < 3 = subst (λ j. slice_index counts j < 3) (sym same) (subst (λ (q : ProgressState). done_by q.done sw < 3) (sym view) few) in (
      small,
      subst (Contains ns) (sym same) (subst (λ (q : ProgressState). Contains q.switches sw) (sym view) there),
      is,
      omega (arith, is, here),
    )

pub counted-self-inside-requires : goal.counted-self-inside-requires
counted-self-inside-requires c =
    let inside = c.self.inside in
    let v = c.self.invariant in
    let s = c.index-steps.result.now in
    let less : c.args.switch < 65536 = omega (arith, c.ranges.switch.fits) in
    let is = is_there inside.switches.items inside.done.items c.args.self.now c.from-at.result c.args.switch s c.from-at.ensures less v.room c.self.view_is c.requires.there c.requires.few c.index-steps.ensures in
    once_few inside.done.items inside.switches.items c.from-at.result v.room is.0 v.distinct is.1 inside.once s _ v.ones is.2
    (subst (λ l. length l ≤ _) c.as_slice.ensures.value c.are_few.ensures)

pub counted-self-inside-requires-2 : goal.counted-self-inside-requires-2
counted-self-inside-requires-2 c =
    let inside = c.self.inside in
    let v = c.self.invariant in
    let s = c.index-steps.result.now in
    let less : c.args.switch < 65536 = omega (arith, c.ranges.switch.fits) in
    let is = is_there inside.switches.items inside.done.items c.args.self.now c.from-at.result c.args.switch s c.from-at.ensures less v.room c.self.view_is c.requires.there c.requires.few c.index-steps.ensures in
    twice_few inside.done.items inside.switches.items c.from-at.result v.room is.0 v.distinct is.1 inside.twice s _ v.twos is.2
    (subst (λ l. length l ≤ _) c.as_slice.ensures.value c.are_few.ensures)

pub invariant_of-self : goal.invariant_of-self
invariant_of-self c =
    let inside = c.self.inside in
    let v = c.self.invariant in
    let s = c.index-steps.result.now in
    let less : c.args.switch < 65536 = omega (arith, c.ranges.switch.fits) in
    let is = is_there inside.switches.items inside.done.items c.args.self.now c.from-at.result c.args.switch s c.from-at.ensures less v.room c.self.view_is c.requires.there c.requires.few c.index-steps.ensures in
    progress_then inside.done.items inside.switches.items c.from-at.result v.room is.0 v.distinct is.1 inside.once inside.twice s
    c.counted-self-inside.result c.counted-self-inside-2.result v.most is.3 v.ones v.twos is.2 c.counted-self-inside.ensures c.counted-self-inside-2.ensures

pub returns-clause-counts : goal.returns-clause-counts
returns-clause-counts c = λ n.
    let inside = c.self.inside in
    let v = c.self.invariant in
    let s = c.index-steps.result.now in
    let less : c.args.switch < 65536 = omega (arith, c.ranges.switch.fits) in
    let is = is_there inside.switches.items inside.done.items c.args.self.now c.from-at.result c.args.switch s c.from-at.ensures less v.room c.self.view_is c.requires.there c.requires.few c.index-steps.ensures in
    one_more_then inside.done.items inside.switches.items c.from-at.result v.room is.0 v.distinct is.1 s is.2 n
    ∙ ap (λ sw. one_more_event sw (done_by inside.done.items) n) c.from-at.ensures
    ∙ ap (λ (p : ProgressState). one_more_event c.args.switch (done_by p.done) n) c.self.view_is
