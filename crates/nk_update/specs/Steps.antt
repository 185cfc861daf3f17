-- The plan of an update: the four tables of each switch, and the tables in which each switch has done so many steps.
use Rattle.std.specs.Prelude.{◌≡◌, ℕ, zero, suc, ◌++◌, length, map, filter, List}
use Rattle.nk_table.specs.declared.Tables.{Tables}
use Rattle.nk_table.specs.declared.Table.{Table}
use Rattle.nk_table.specs.declared.Row.{Row}
use Rattle.nk_table.specs.declared.Group.{Group}
use Rattle.nk_table.specs.Rules.{rows_of, groups_at_switch}
use Rattle.nk_update.specs.declared.plans.Plan.{Plan}
use Rattle.nk_update.specs.declared.plans.PlanTables.{PlanTables}
use Rattle.nk_update.specs.Plans.{Pair, tag_digits, is_tagged_row, numbered_on, plan_row_on, plan_table, switches_of}

-- the tables of a switch before the first plan step and after each of the three
abbrev pub plan_steps_of : (old new : Tables) (tag sw : ℕ) → PlanTables
plan_steps_of old new tag sw = record {
  switch = sw;
  before = plan_table old new tag 0 sw;
  added = plan_table old new tag 1 sw;
  replaced = plan_table old new tag 2 sw;
  removed = plan_table old new tag 3 sw;
}

-- the plan: those of each declared switch, with the fields, the topology and the greatest of the old tags
abbrev pub plan_of : Pair → Plan
plan_of p = record {
  fields = p.old.fields;
  topo = p.old.topo;
  old_tags = p.old_tags;
  switches = map (plan_steps_of p.old p.new p.tag) (switches_of p.old);
}

-- the table of a switch after so many plan steps
abbrev pub table_after : ℕ → PlanTables → Table
table_after zero s = s.before
table_after (suc zero) s = s.added
table_after (suc (suc zero)) s = s.replaced
table_after (suc (suc (suc n))) s = s.removed

-- the tables of all switches after so many plan steps at each
abbrev pub tables_after : Plan → ℕ → Tables
tables_after plan steps = record { fields = plan.fields; topo = plan.topo; tables = map (table_after steps) plan.switches }

-- the rows that ask for another tag than 0
abbrev pub tagged_rows : (digits tag : ℕ) → List Row → List Row
tagged_rows digits tag rows = filter (is_tagged_row digits tag) rows

-- rows whose groups are numbered after the old ones of a switch; such groups
abbrev pub rows_after_step : (old : Tables) (sw : ℕ) → List Row → List Row
rows_after_step old sw rows = map (plan_row_on (length (groups_at_switch old.tables sw))) rows

abbrev pub groups_following : (old : Tables) (sw : ℕ) → List Group → List Group
groups_following old sw groups = map (numbered_on (length (groups_at_switch old.tables sw))) groups

-- The four tables of a switch: the old one; with the new tagged rows and all new groups; with the new rows of tag 0 in the
-- old ones' place; and without the old tagged rows and groups.
pub record AreFourTables (old new : Tables) (tag sw : ℕ) (s : PlanTables) : Type 0 where
  pub switch : s.switch ≡ sw
  pub before_rows : s.before.rows ≡ rows_of old.tables sw
  pub before_groups : s.before.groups ≡ groups_at_switch old.tables sw
  pub added_rows : s.added.rows ≡ rows_of old.tables sw ++ rows_after_step old sw (tagged_rows (tag_digits old tag) tag (rows_of new.tables sw))
  pub added_groups : s.added.groups ≡ groups_at_switch old.tables sw ++ groups_following old sw (groups_at_switch new.tables sw)
  pub replaced_rows : s.replaced.rows ≡ tagged_rows (tag_digits old tag) tag (rows_of old.tables sw) ++ rows_after_step old sw (rows_of new.tables sw)
  pub replaced_groups : s.replaced.groups ≡ groups_at_switch old.tables sw ++ groups_following old sw (groups_at_switch new.tables sw)
  pub removed_rows : s.removed.rows ≡ rows_after_step old sw (rows_of new.tables sw)
  pub removed_groups : s.removed.groups ≡ groups_following old sw (groups_at_switch new.tables sw)
