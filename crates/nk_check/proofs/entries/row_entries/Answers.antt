use Rattle.std.proofs.Common.{◌≡◌, ℕ, true, List, sym, subst, arith}
use Rattle.nk_policy.specs.Tree.{tree_of}
use Rattle.nk_policy.specs.Policy.{is_predicate}
use Rattle.nk_policy.specs.declared.policy.Pol.{Pol}
use Rattle.nk_store.proofs.Stores.{grows_on, grows_same}
use Rattle.nk_determ.proofs.Interned.{sets_on}
use Rattle.nk_goal.proofs.Growing.{sets_refl}
use Rattle.nk_cert.specs.Values.{row_values}
use Rattle.nk_check.specs.Judged.{IsEntryOf}
use Rattle.nk_check.proofs.RowSets.{AreEntriesUpTo, no_entries, one_entry_more, all_entries, rows_count, row_from}
use Rattle.nk_check.proofs.entries.row_entries.Goals as goal

pub loop-row-init : goal.loop-row-init
loop-row-init c = record {
  grows = grows_same c.args.st.now;
  sets = sets_refl c.args.ss.now;
  made = subst (AreEntriesUpTo c.args.st.now c.args.ss.now c.args.count (row_values c.args.rows.now) 0) (sym c.new-entries.ensures) (no_entries c.args.st.now c.args.ss.now c.args.count (row_values c.args.rows.now));
}

pub row_entry-requires : goal.row_entry-requires
row_entry-requires c =
    subst (λ (r : List ℕ × Pol). is_predicate (tree_of r.1) ≡ true) (sym c.row-item.is) (c.requires c.loop-row.row-index c.row-item.result c.loop-row-test.true)

pub loop-row-preserved : goal.loop-row-preserved
loop-row-preserved c =
    let is = row_from c.args.rows.now c.loop-row.row-index c.row-item.result c.as_slice.result.now c.loop-row-test.true c.row-item.is c.as_slice.ensures in
    record {
      grows = grows_on _ _ _ c.loop-row.invariant.grows c.row_entry.ensures.grows;
      sets = sets_on _ _ _ c.loop-row.invariant.sets c.row_entry.ensures.sets;
      made = one_entry_more c.loop-row.st c.row_entry.new.st c.loop-row.ss c.row_entry.new.ss c.args.count (row_values c.args.rows.now) c.loop-row.row-index c.loop-row.entries c.push.new.self c.in_ok-entry.entry
          c.row_entry.ensures.grows c.row_entry.ensures.sets c.loop-row.invariant.made
          (subst (λ r. IsEntryOf c.row_entry.new.st c.row_entry.new.ss c.args.count r c.in_ok-entry.entry) (sym is) c.in_ok-entry.ensures.ok) c.in_ok-push.ensures.ok;
    }

pub returns-clause-ok : goal.returns-clause-ok
returns-clause-ok c =
    let n = rows_count c.args.rows.now in
    all_entries c.loop-row.st c.loop-row.ss c.args.count (row_values c.args.rows.now) c.loop-row.row-index c.loop-row.entries
    (omega (arith, n, c.loop-row-test.false, c.loop-row.auto.row-index-end)) c.loop-row.invariant.made
