use Rattle.std.proofs.Common.{◌≡◌, ◌+◌, suc, true, false, ◌∷◌, [], ◌++◌, ◌∙◌, sym, ap, subst, arith, length, length-append, ◌<◌}
use Rattle.nk_store.specs.StoreState.{look}
use Rattle.nk_store.proofs.Stores.{grows_on}
use Rattle.nk_apply.specs.Leaves.{merged}
use Rattle.nk_apply.specs.Seqs.{seq_leaf}
use Rattle.nk_apply.specs.Unions.{AreIds, unions}
use Rattle.nk_star.specs.Steps.{rounds, AreTogether}
use Rattle.nk_star.proofs.Room.{room}
use Rattle.nk_star.proofs.Rounds.{IsFresh, leaves_on, room_falls}
use Rattle.nk_star.proofs.Leads.{suits_before}
use Rattle.nk_star.proofs.Blocks.{together_one, together_on, added_of, added_fresh, added_last, added_below, added_more}
use Rattle.nk_star.proofs.stars.last_round.Goals as goal

pub loop-rounds-init : goal.loop-rounds-init
loop-rounds-init c =
    let D = look c.args.st.now c.args.d in
    let st = c.identity.new.st in
    let fresh = c.in_ok-fresh.fresh in
    let first : AreTogether st c.push.new.self (λ pk. rounds D 0 pk) =
    subst (λ xs. AreTogether st xs (λ pk. rounds D 0 pk)) (sym (c.in_ok-push.ensures.ok ∙ ap (λ xs. xs ++ fresh ∷ []) c.new-all.ensures)) (together_one st fresh (λ pk. rounds D 0 pk) c.in_ok-fresh.ensures.ok) in
    let begun : IsFresh st fresh D 0 = record { id = c.in_ok-fresh.ensures.ok.id; enough = λ pk w. ap (λ xs. merged (rounds D 0 pk) (seq_leaf xs D pk)) (c.in_ok-fresh.ensures.ok.leaf pk w) } in
    let none : length c.new-rounds.result ≡ 0 = ap (λ xs. length xs) c.new-rounds.ensures in
    record {
      grows = grows_on _ _ _ c.empty.ensures.grows c.identity.ensures.grows;
      nothing = leaves_on c.empty.new.st st c.in_ok-nothing.nothing (λ pk. []) c.identity.ensures.grows c.in_ok-nothing.ensures.ok;
      all = subst (λ n. AreTogether st c.push.new.self (λ pk. rounds D n pk)) (sym none) first;
      fresh = subst (λ n. IsFresh st fresh D n) (sym none) begun;
    }

pub missing_all-requires-clause-ids : goal.missing_all-requires-clause-ids
missing_all-requires-clause-ids c = subst (λ xs. AreIds c.seq.new.st xs) (sym c.as_slice.ensures) (together_on c.loop-rounds.st c.seq.new.st c.loop-rounds.all _ c.seq.ensures.grows c.loop-rounds.invariant.all).ids

pub seq-requires-clause-left : goal.seq-requires-clause-left
seq-requires-clause-left c = c.loop-rounds.invariant.fresh.id

pub seq-requires-clause-right : goal.seq-requires-clause-right
seq-requires-clause-right c = c.loop-rounds.invariant.grows.ids c.args.d c.requires.id

pub returns-then-same-clause-ok : goal.returns-then-same-clause-ok
returns-then-same-clause-ok c =
    let D = look c.args.st.now c.args.d in
    let n = length c.loop-rounds.rounds in
    let before = c.loop-rounds.invariant in
    let st = c.missing_all.new.st in
    let grown = grows_on _ _ _ c.seq.ensures.grows c.missing_all.ensures.grows in
    let added = added_of c.args.st.now c.loop-rounds.st c.seq.new.st st c.args.d c.loop-rounds.fresh c.in_ok-more.more c.in_ok-new.new n c.loop-rounds.all
    c.as_slice.result.now c.as_slice.ensures before.grows c.requires.id c.seq.ensures.grows before.all before.fresh c.in_ok-more.ensures.ok c.in_ok-new.ensures.ok in
    let nothing = leaves_on c.loop-rounds.st st c.in_ok-nothing.nothing (λ pk. []) grown before.nothing in
    let all = together_on c.loop-rounds.st st c.loop-rounds.all (λ pk. rounds D n pk) grown before.all in
    added_last st c.union_all.new.st c.in_ok-new.new c.in_ok-nothing.nothing c.in_ok-last.last n D added nothing (c.same.ensures.yes c.if-same.true) c.laws.ensures.tidy
    (record { id = c.in_ok-last.ensures.ok.id; leaf = λ pk w. c.in_ok-last.ensures.ok.leaf pk w ∙ ap (λ xs. unions st xs 0 (length xs) pk) c.as_slice-then-same.ensures ∙ all.leaf pk w })

pub loop-rounds-smaller : goal.loop-rounds-smaller
loop-rounds-smaller c =
    let D = look c.args.st.now c.args.d in
    let n = length c.loop-rounds.rounds in
    let before = c.loop-rounds.invariant in
    let st = c.missing_all.new.st in
    let grown = grows_on _ _ _ c.seq.ensures.grows c.missing_all.ensures.grows in
    let added = added_of c.args.st.now c.loop-rounds.st c.seq.new.st st c.args.d c.loop-rounds.fresh c.in_ok-more.more c.in_ok-new.new n c.loop-rounds.all
    c.as_slice.result.now c.as_slice.ensures before.grows c.requires.id c.seq.ensures.grows before.all before.fresh c.in_ok-more.ensures.ok c.in_ok-new.ensures.ok in
    let nothing = leaves_on c.loop-rounds.st st c.in_ok-nothing.nothing (λ pk. []) grown before.nothing in
    let longer : length c.push-in-loop-rounds.new.self ≡ n + 1 = ap (λ xs. length xs) c.in_ok-push-2.ensures.ok ∙ length-append c.loop-rounds.rounds (c.in_ok-new.new ∷ []) in
    let whole = grows_on _ _ _ before.grows grown in
    let below = added_below st c.in_ok-new.new c.in_ok-nothing.nothing n D c.requires.ends (suits_before c.args.st.now st c.args.d whole c.requires.id c.laws.ensures.tidy) added nothing
    (λ agree. let k : false ≡ true = sym c.if-same.false ∙ c.same.ensures.canonical agree in cc) in
    room_falls c.loop-rounds.st c.put_to.new.st n (length c.push-in-loop-rounds.new.self) (grows_on _ _ _ grown c.put_to.ensures.grows).maxes longer
    (subst (λ ms. n < room ms) (sym c.put_to.ensures.grows.maxes) below)

pub loop-rounds-preserved : goal.loop-rounds-preserved
loop-rounds-preserved c =
    let D = look c.args.st.now c.args.d in
    let n = length c.loop-rounds.rounds in
    let before = c.loop-rounds.invariant in
    let st = c.missing_all.new.st in
    let grown = grows_on _ _ _ c.seq.ensures.grows c.missing_all.ensures.grows in
    let added = added_of c.args.st.now c.loop-rounds.st c.seq.new.st st c.args.d c.loop-rounds.fresh c.in_ok-more.more c.in_ok-new.new n c.loop-rounds.all
    c.as_slice.result.now c.as_slice.ensures before.grows c.requires.id c.seq.ensures.grows before.all before.fresh c.in_ok-more.ensures.ok c.in_ok-new.ensures.ok in
    let all = together_on c.loop-rounds.st st c.loop-rounds.all (λ pk. rounds D n pk) grown before.all in
    let longer : length c.push-in-loop-rounds.new.self ≡ suc n = ap (λ xs. length xs) c.in_ok-push-2.ensures.ok ∙ length-append c.loop-rounds.rounds (c.in_ok-new.new ∷ []) ∙ omega arith in
    record {
      grows = grows_on _ _ _ before.grows (grows_on _ _ _ grown c.put_to.ensures.grows);
      nothing = leaves_on c.loop-rounds.st c.put_to.new.st c.in_ok-nothing.nothing (λ pk. []) (grows_on _ _ _ grown c.put_to.ensures.grows) before.nothing;
      all = subst (λ m. AreTogether c.put_to.new.st c.in_ok-next.next (λ pk. rounds D m pk)) (sym longer)
          (added_more st c.put_to.new.st c.in_ok-new.new c.loop-rounds.all c.as_slice-in-loop-rounds.result.now c.in_ok-next.next n D c.as_slice-in-loop-rounds.ensures c.laws.ensures.tidy added all c.in_ok-next.ensures.ok);
      fresh = subst (λ m. IsFresh c.put_to.new.st c.in_ok-new.new D m) (sym longer) (added_fresh st c.put_to.new.st c.in_ok-new.new D n c.put_to.ensures.grows added);
    }

pub put_to-requires-clause-ids : goal.put_to-requires-clause-ids
put_to-requires-clause-ids c = subst (λ xs. AreIds c.missing_all.new.st xs) (sym c.as_slice-in-loop-rounds.ensures) (together_on c.loop-rounds.st c.missing_all.new.st c.loop-rounds.all _ (grows_on _ _ _ c.seq.ensures.grows c.missing_all.ensures.grows) c.loop-rounds.invariant.all).ids

pub union_all-requires : goal.union_all-requires
union_all-requires c = subst (λ xs. AreIds c.missing_all.new.st xs) (sym c.as_slice-then-same.ensures) (together_on c.loop-rounds.st c.missing_all.new.st c.loop-rounds.all _ (grows_on _ _ _ c.seq.ensures.grows c.missing_all.ensures.grows) c.loop-rounds.invariant.all).ids

pub same-requires-clause-right : goal.same-requires-clause-right
same-requires-clause-right c = (grows_on _ _ _ c.seq.ensures.grows c.missing_all.ensures.grows).ids c.in_ok-nothing.nothing c.loop-rounds.invariant.nothing.id
