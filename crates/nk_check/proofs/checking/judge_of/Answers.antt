use Rattle.std.proofs.Common.{length, subst}
use Rattle.nk_store.proofs.Stores.{grows_on}
use Rattle.nk_policy.specs.Tree.{tree_of}
use Rattle.nk_goal.specs.Entries.{IsMerged}
use Rattle.nk_goal.proofs.Growing.{sets_refl, packets_of}
use Rattle.nk_cert.specs.Values.{row_values}
use Rattle.nk_check.specs.Judged.{IsStartEntryOf, AreEntriesOf}
use Rattle.nk_check.proofs.RowSets.{entries_on, entry_pairs, told_by_all}
use Rattle.nk_check.proofs.Standing.{start_on}
use Rattle.nk_check.proofs.checking.judge_of.Goals as goal

pub add_level-requires-clause-level : goal.add_level-requires-clause-level
add_level-requires-clause-level c =
    packets_of c.row_entries.new.st c.row_entries.new.ss c.len-2.result c.in_ok-entries.entries
    (entry_pairs c.row_entries.new.st c.row_entries.new.ss c.len-2.result (row_values c.as_slice.result.now) c.in_ok-entries.entries c.in_ok-entries.ensures.ok)

pub returns-clause-ok : goal.returns-clause-ok
returns-clause-ok c =
    let start = subst (λ n. IsStartEntryOf c.start_entry.new.st c.start_entry.new.ss n (tree_of c.args.certificate.now.start) c.in_ok-start.start) c.len.ensures c.in_ok-start.ensures.ok in
    let sized = subst (λ n. AreEntriesOf c.row_entries.new.st c.row_entries.new.ss n (row_values c.as_slice.result.now) c.in_ok-entries.entries) c.len-2.ensures c.in_ok-entries.ensures.ok in
    let later = subst (λ rs. AreEntriesOf c.row_entries.new.st c.row_entries.new.ss (length c.args.both.states) (row_values rs) c.in_ok-entries.entries) c.as_slice.ensures sized in
    record {
      start_is = start_on c.start_entry.new.st c.add_level.new.st c.start_entry.new.ss c.row_entries.new.ss (length c.args.both.states) (tree_of c.args.certificate.now.start) c.in_ok-start.start
          (grows_on _ _ _ c.row_entries.ensures.grows c.add_level.ensures.grows) c.row_entries.ensures.sets start;
      later = entries_on c.row_entries.new.st c.add_level.new.st c.row_entries.new.ss c.row_entries.new.ss (length c.args.both.states) (row_values c.args.certificate.now.rows) c.in_ok-entries.entries
          c.add_level.ensures.grows (sets_refl c.row_entries.new.ss) later;
      all = told_by_all c.row_entries.new.st c.add_level.new.st c.row_entries.new.ss (length c.args.both.states) (row_values c.args.certificate.now.rows) c.in_ok-entries.entries c.add_level.new.self
          c.add_level.ensures.grows later
          (subst (λ m. IsMerged c.row_entries.new.st m c.in_ok-entries.entries c.add_level.new.st c.add_level.new.self) c.new-told.ensures c.in_ok-add_level.ensures.ok);
    }
