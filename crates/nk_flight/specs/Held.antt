-- An update in flight as it is held.
use Rattle.std.specs.Prelude.{◌≡◌, ℕ, ◌<◌, ◌≤◌, Option, List, length, All}
use Rattle.nk_table.specs.declared.Tables.{Tables}
use Rattle.nk_flight.specs.declared.hops.Hop.{Hop}
use Rattle.nk_flight.specs.declared.copies.Left.{Left}
use Rattle.nk_flight.specs.declared.versions.Version.{Version}
use Rattle.nk_flight.specs.Flights.{state_of}
use Rattle.nk_flight.specs.Trails.{AreHops, copies_at}
use Rattle.nk_flight.specs.Updates.{Stages, UpdateValue, has_old_tag, switches_in}
use Rattle.nk_flight.specs.Progresses.{ProgressState, how_many}

-- the tables of each stage
abbrev pub stages_at : Tables → Tables → Tables → Tables → ℕ → Stages
stages_at before added replaced removed old_tags = record { before = before; added = added; replaced = replaced; removed = removed; old_tags = old_tags }

-- all have the same fields
pub record HaveOneFrame (g : Stages) : Type 0 where
  pub added : g.added.fields ≡ g.before.fields
  pub replaced : g.replaced.fields ≡ g.before.fields
  pub removed : g.removed.fields ≡ g.before.fields

-- the update of these tables, progress, packets, hops, places of copies, histories and versions
abbrev pub update_at : Stages → ProgressState → List (List ℕ) → List Hop → List ℕ → List Left → List (Option Version) → UpdateValue
update_at g progress pks hs places ls vs = record {
  stages = g;
  flight = state_of g.before pks (copies_at g.before.fields hs places) ls;
  done = progress.done;
  versions = vs;
}

-- Hops go on from one another, each of a number that was given, each copy has one, copies are no more than hops, each
-- injection has a place for its version, the switches are the declared ones, and so many copies have an old tag.
pub record IsUpdateHeld (g : Stages) (progress : ProgressState) (pks : List (List ℕ)) (hs : List Hop) (places : List ℕ) (vs : List (Option Version)) (tagged : ℕ) : Type 0 where
  pub switches : progress.switches ≡ switches_in g
  pub hops : AreHops hs
  pub numbered : All (λ (h : Hop). (1 ≤ h.number) × (h.number ≤ length pks)) hs
  pub there : All (λ i. i < length hs) places
  pub few : length places ≤ length hs
  pub versions : length vs ≡ length pks
  pub old_copies : tagged ≡ how_many (has_old_tag g) (copies_at g.before.fields hs places)
