-- What is printed of tables ascends: groups by number, matches and assignments by field.
use Rattle.std.specs.Prelude.{ℕ, ◌+◌, ◌≤◌, ◌<◌, List, [], ◌∷◌, All, AllPairs, ⊤}
use Rattle.nk_field.specs.Act.{AscendsFrom}
use Rattle.nk_table.specs.declared.Tables.{Tables}
use Rattle.nk_table.specs.declared.Table.{Table}
use Rattle.nk_table.specs.declared.Target.{Target}
use Rattle.nk_table.specs.declared.Target.TheVariants as does

-- the fields of matches ascend, from low on
abbrev pub MatchesAscend : ℕ → List (ℕ × ℕ × ℕ) → Type 0
MatchesAscend low [] = Unit {0}
MatchesAscend low (m ∷ ms) = (low ≤ m.0) × MatchesAscend (m.0 + 1) ms

-- a bucket's assignments to declared fields ascend
abbrev pub IsTargetInOrder : Target → Type 0
IsTargetInOrder (does.Bucket b) = AscendsFrom 2 b.sets
IsTargetInOrder (does.Group n) = ⊤
IsTargetInOrder does.Discard = ⊤

-- the groups, matches and assignments of a table ascend; no row matches the switch
pub record IsTableInOrder (t : Table) : Type 0 where
  pub groups : AllPairs (λ g h. g.number < h.number) t.groups
  pub buckets : All (λ g. All (λ b. AscendsFrom 2 b.sets) g.buckets) t.groups
  pub matches : All (λ r. MatchesAscend 1 r.matches) t.rows
  pub targets : All (λ r. IsTargetInOrder r.target) t.rows

-- those of each table do
abbrev pub AreInOrder : Tables → Type 0
AreInOrder t = All IsTableInOrder t.tables
