use Rattle.std.proofs.Common.{◌≡◌, ◌+◌, [], ◌∷◌, ◌++◌, take, append_assoc, sym, ap, subst, ◌∙◌}
use Rattle.std.proofs.lemmas.List.{take_more, take_all}
use Rattle.nk_store.proofs.Stores.{grows_on}
use Rattle.nk_auto.specs.OfParts.{AreOfParts}
use Rattle.nk_auto.proofs.OfParts.{one_more_state}
use Rattle.nk_auto.proofs.by_parts.push_states.Goals as goal

pub loop-entry-preserved : goal.loop-entry-preserved
loop-entry-preserved c =
    let before = c.loop-entry.invariant.pushed in
    let entry = c.entry-item.result in
    let entries = c.args.entries.now in
    let i = c.loop-entry.entry-index in
    let d = c.in_ok-d.d in
    let more : take (i + 1) entries ≡ take i entries ++ entry ∷ [] = take_more entries i entry c.loop-entry-test.true ∙ ap (λ e. take i entries ++ e ∷ []) (sym c.entry-item.is) in
    record {
      grows = grows_on _ _ _ c.loop-entry.invariant.grows c.state_of_part.ensures.grows;
      pushed = (
        before.0 ++ d ∷ [],
        c.in_ok-push.ensures.ok ∙ ap (λ states. states ++ d ∷ []) before.1 ∙ append_assoc c.args.states.now before.0 (d ∷ []),
        subst (λ es. AreOfParts c.state_of_part.new.st (before.0 ++ d ∷ []) es) (sym more)
            (one_more_state c.loop-entry.st c.state_of_part.new.st before.0 (take i entries) d entry c.state_of_part.ensures.grows before.2 c.in_ok-d.ensures.ok),
      );
    }

pub returns-clause-pushed : goal.returns-clause-pushed
returns-clause-pushed c =
    let made = c.loop-entry.invariant.pushed in
    (made.0, made.1, subst (λ es. AreOfParts c.loop-entry.st made.0 es) (take_all c.loop-entry.entry-index c.args.entries.now c.loop-entry-test.false) made.2)
