-- Tables for an old and for a new policy, and the tables that stand at a switch while the new ones take the old ones' place,
-- by three plan steps at each switch: the first adds the new tagged rows, the second replaces the rows of tag 0, the third
-- removes the old tagged rows. (It is a two-phase update: Reitblatt et al., Abstractions for Network Update, SIGCOMM 2012.)
use Rattle.std.specs.Prelude.{◌≡◌, ℕ, zero, suc, ◌+◌, ◌≤◌, ◌<◌, ◌==◌, ◌&&◌, ◌⊎◌, nat_le, Bool, true, false, if◌then◌else◌, Option, Some, None, List, [], ◌∷◌, ◌++◌, length, map, filter, slice_index, All, Contains}
use Rattle.nk_prefix.specs.Prefix.{digits_of}
use Rattle.nk_topo.specs.Topology.{numbers_of}
use Rattle.nk_table.specs.declared.Tables.{Tables}
use Rattle.nk_table.specs.declared.Table.{Table}
use Rattle.nk_table.specs.declared.Row.{Row}
use Rattle.nk_table.specs.declared.Group.{Group}
use Rattle.nk_table.specs.declared.Target.{Target}
use Rattle.nk_table.specs.declared.Target.TheVariants as target
use Rattle.nk_table.specs.Rules.{rows_of, groups_at_switch}

-- the old tables and the new ones; the greatest of the old tags; the place of the tag
pub record Pair : Type 0 where
  pub old : Tables
  pub new : Tables
  pub old_tags : ℕ
  pub tag : ℕ

-- the place of the tag, 0 where there is none
abbrev pub place_of : Option ℕ → ℕ
place_of None = 0
place_of (Some f) = f

-- these two tables, and the greatest of the old tags
abbrev pub pair_of : Tables → Tables → ℕ → Pair
pair_of old new old_tags = record { old = old; new = new; old_tags = old_tags; tag = place_of old.fields.tag }

-- how many binary digits the greatest value of the field at a place has, as of the tag
abbrev pub tag_digits : Tables → ℕ → ℕ
tag_digits t tag = digits_of (slice_index t.fields.maxima tag)

-- the value that matches ask of the field at a place in all of its digits, if they do
abbrev pub asked_of : (digits f : ℕ) → List (ℕ × ℕ × ℕ) → Option ℕ
asked_of digits f [] = None
asked_of digits f (m ∷ ms) = if (m.0 == f) && nat_le digits m.2 then Some m.1 else asked_of digits f ms

-- the row matches the tag exactly, and the value is one of the old tags or 0; of the new tags or 0
abbrev pub HasOldTag : Pair → Row → Type 0
HasOldTag p r = (v : ℕ) × (asked_of (tag_digits p.old p.tag) p.tag r.matches ≡ Some v) × (v ≤ p.old_tags)

abbrev pub HasNewTag : Pair → Row → Type 0
HasNewTag p r = (v : ℕ) × (asked_of (tag_digits p.old p.tag) p.tag r.matches ≡ Some v) × ((v ≡ 0) ⊎ (p.old_tags < v))

-- a row that names a group names one of so many, numbered from 1
abbrev pub NamesOneOf : ℕ → Target → Type 0
NamesOneOf n (target.Group g) = (1 ≤ g) × (g ≤ n)
NamesOneOf n (target.Bucket b) = Unit {0}
NamesOneOf n target.Discard = Unit {0}

-- groups are numbered from n on, in order, without gaps
abbrev pub AreNumberedFrom : ℕ → List Group → Type 0
AreNumberedFrom n [] = Unit {0}
AreNumberedFrom n (g ∷ gs) = (g.number ≡ n) × AreNumberedFrom (n + 1) gs

-- the groups of each switch are numbered from 1, and its rows name none but these
pub record NumbersInOrder (t : Tables) : Type 0 where
  pub groups : (sw : ℕ) → AreNumberedFrom 1 (groups_at_switch t.tables sw)
  pub named : (sw : ℕ) → All (λ (r : Row). NamesOneOf (length (groups_at_switch t.tables sw)) r.target) (rows_of t.tables sw)

-- the declared switches
abbrev pub switches_of : Tables → List ℕ
switches_of t = numbers_of t.topo

-- none but declared switches have rows
abbrev pub HasRowsWhereDeclared : Tables → Type 0
HasRowsWhereDeclared t = (sw : ℕ) → ¬ Contains (switches_of t) sw → rows_of t.tables sw ≡ []

-- What two tables must meet: the same fields, with a tag, and topology; each row matches the tag exactly, in the old tables
-- with a value up to the old tags, in the new ones with 0 or a greater one; groups are numbered in order, and rows name none
-- but these; and none but declared switches have rows.
pub record IsPlannable (p : Pair) : Type 0 where
  pub fields : p.new.fields ≡ p.old.fields
  pub topo : p.new.topo ≡ p.old.topo
  pub tag : p.old.fields.tag ≡ Some p.tag
  pub old_rows : (sw : ℕ) → All (HasOldTag p) (rows_of p.old.tables sw)
  pub new_rows : (sw : ℕ) → All (HasNewTag p) (rows_of p.new.tables sw)
  pub old_numbers : NumbersInOrder p.old
  pub new_numbers : NumbersInOrder p.new
  pub old_switches : HasRowsWhereDeclared p.old
  pub new_switches : HasRowsWhereDeclared p.new

-- the tag that is asked for is not 0
abbrev pub is_tagged : Option ℕ → Bool
is_tagged None = false
is_tagged (Some zero) = false
is_tagged (Some (suc n)) = true

abbrev pub is_tagged_row : (digits f : ℕ) → Row → Bool
is_tagged_row digits f r = is_tagged (asked_of digits f r.matches)

-- After so many plan steps, whether an old row still stands: a tagged one until the third, one of tag 0 until the second.
abbrev pub old_stands : (digits f steps : ℕ) → Row → Bool
old_stands digits f steps r = if is_tagged_row digits f r then nat_le steps 2 else nat_le steps 1

-- whether a new row stands: a tagged one from the first on, one of tag 0 from the second
abbrev pub new_stands : (digits f steps : ℕ) → Row → Bool
new_stands digits f steps r = if is_tagged_row digits f r then nat_le 1 steps else nat_le 2 steps

-- group numbers that go on after n groups
abbrev pub numbered_on : ℕ → Group → Group
numbered_on n g = record { number = g.number + n; buckets = g.buckets }

abbrev pub target_on : ℕ → Target → Target
target_on n (target.Bucket b) = target.Bucket b
target_on n (target.Group g) = target.Group (g + n)
target_on n target.Discard = target.Discard

abbrev pub plan_row_on : ℕ → Row → Row
plan_row_on n r = record { priority = r.priority; matches = r.matches; target = target_on n r.target }

-- The rows of a switch after so many plan steps: the old ones that still stand, and the new ones that stand already, whose
-- groups are numbered on after the old ones.
abbrev pub rows_at : (old new : Tables) (tag steps sw : ℕ) → List Row
rows_at old new tag steps sw =
    filter (old_stands (tag_digits old tag) tag steps) (rows_of old.tables sw)
    ++ map (plan_row_on (length (groups_at_switch old.tables sw))) (filter (new_stands (tag_digits old tag) tag steps) (rows_of new.tables sw))

-- its groups: the old ones until the third step, the new ones, with their numbers after those, from the first on
abbrev pub groups_at : (old new : Tables) (steps sw : ℕ) → List Group
groups_at old new steps sw =
    (if nat_le steps 2 then groups_at_switch old.tables sw else [])
    ++ (if nat_le 1 steps then map (numbered_on (length (groups_at_switch old.tables sw))) (groups_at_switch new.tables sw) else [])

-- the switch's table after so many plan steps
abbrev pub plan_table : (old new : Tables) (tag steps sw : ℕ) → Table
plan_table old new tag steps sw = record { switch = sw; groups = groups_at old new steps sw; rows = rows_at old new tag steps sw }
