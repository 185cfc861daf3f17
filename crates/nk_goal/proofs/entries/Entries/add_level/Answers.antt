use Rattle.std.proofs.Common.{ℕ, ◌<◌, length, take, sym, subst, arith}
use Rattle.std.specs.Prelude.{OnErr}
use Rattle.std.specs.declared.result.Result.{Result}
use Rattle.std.specs.declared.result.Result.TheVariants.{Ok, Err}
use Rattle.nk_store.proofs.Stores.{grows_on}
use Rattle.nk_sets.specs.PacketSets.{IsSet}
use Rattle.nk_goal.specs.Entries.{IsMerged}
use Rattle.nk_goal.proofs.Places.{each_at}
use Rattle.nk_sets.proofs.SetLemmas.{set_grows}
use Rattle.nk_goal.proofs.Adding.{take_more, merged_push, merged_on}
use Rattle.nk_goal.proofs.entries.Entries.add_level.Goals as goal

pub add-requires-clause-packets : goal.add-requires-clause-packets
add-requires-clause-packets c =
    let l : c.loop-k.k < length c.args.level.now = omega (arith, c.loop-k-test.true, c.len-k-end.ensures) in
    set_grows c.args.st.now c.loop-k.st c.at.result.now.1 c.loop-k.invariant.grows (each_at (λ p. IsSet c.args.st.now p.1) c.args.level.now c.loop-k.k c.at.result.now c.requires.level l c.at.ensures)

pub loop-k-preserved : goal.loop-k-preserved
loop-k-preserved c =
    let l : c.loop-k.k < length c.args.level.now = omega (arith, c.loop-k-test.true, c.len-k-end.ensures) in
    record {
      grows = grows_on _ _ _ c.loop-k.invariant.grows c.add.ensures.grows;
      merged = subst (λ q. IsMerged c.args.st.now c.args.self.now q c.add.new.st c.add.new.self) (sym (take_more c.args.level.now c.loop-k.k c.at.result.now l c.at.ensures))
          (merged_push c.args.st.now c.loop-k.st c.add.new.st c.args.self.now _ c.loop-k.self c.add.new.self c.at.result.now c.loop-k.invariant.merged c.loop-k.invariant.grows
          (each_at (λ p. IsSet c.args.st.now p.1) c.args.level.now c.loop-k.k c.at.result.now c.requires.level l c.at.ensures) c.in_ok-add.ensures.ok);
    }

pub returns-in_err-add-clause-grows : goal.returns-in_err-add-clause-grows
returns-in_err-add-clause-grows c = grows_on _ _ _ c.loop-k.invariant.grows c.add.ensures.grows

-- what holds whatever a call answers
on_error : {T E : Type 0} (r : Result T E) (P : Type 0) → P → OnErr r P
on_error (Ok x) P h = tt
on_error (Err e) P h = h

pub returns-in_err-add-clause-err : goal.returns-in_err-add-clause-err
returns-in_err-add-clause-err c =
    let first = take c.loop-k.k c.args.level.now in
    on_error c.from_residual.result ((k : ℕ) × IsMerged c.args.st.now c.args.self.now (take k c.args.level.now) c.add.new.st c.add.new.self) (
      c.loop-k.k,
      subst (IsMerged c.args.st.now c.args.self.now first c.add.new.st) (sym c.in_err-add.ensures.err)
          (merged_on c.args.st.now c.loop-k.st c.add.new.st c.args.self.now first c.loop-k.self c.loop-k.invariant.merged c.add.ensures.grows),
    )
