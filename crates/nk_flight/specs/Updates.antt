-- Packets in flight while new tables take the old ones' place: packets come in, copies are handled and plan steps are done,
-- in whatever order.
use Rattle.std.specs.Prelude.{◌≡◌, ◌≤◌, ℕ, zero, suc, ◌+◌, ◌==◌, ◌&&◌, nat_le, not, Bool, true, false, if◌then◌else◌, Option, Some, None, List, [], ◌∷◌, ◌++◌, slice_get, slice_index, slice_index_or, remove, map, sum, length, All}
use Rattle.std.specs.List.{list_all, flat_map}
use Rattle.std.specs.List.Sorted.{IsPermutation}
use Rattle.nk_topo.specs.Topology.{is_switch, numbers_of}
use Rattle.nk_table.specs.declared.Tables.{Tables}
use Rattle.nk_table.specs.Hops.{Copy, left_after}
use Rattle.nk_update.specs.declared.plans.Plan.{Plan}
use Rattle.nk_update.specs.Plans.{Pair, place_of}
use Rattle.nk_update.specs.Steps.{tables_after}
use Rattle.nk_update.specs.Tags.{IsEntering}
use Rattle.nk_flight.specs.declared.copies.Flying.{Flying}
use Rattle.nk_flight.specs.declared.copies.Left.{Left}
use Rattle.nk_flight.specs.declared.versions.Version.{Version}
use Rattle.nk_flight.specs.declared.versions.Version.TheVariants.{Old, New}
use Rattle.nk_flight.specs.Flights.{FlightState, nothing_in_flight, injected, flying_next, left_next}
use Rattle.nk_flight.specs.Owed.{flying_from, left_from, with_crossings, owed_by}

-- the tables by which all switches go before the first plan step and after each of the three; the greatest of the old tags
pub record Stages : Type 0 where
  pub before : Tables
  pub added : Tables
  pub replaced : Tables
  pub removed : Tables
  pub old_tags : ℕ

-- those of a plan
abbrev pub stages_of : Plan → Stages
stages_of plan = record {
  before = tables_after plan 0;
  added = tables_after plan 1;
  replaced = tables_after plan 2;
  removed = tables_after plan 3;
  old_tags = plan.old_tags;
}

-- the tables after so many plan steps
abbrev pub stage_after : Stages → ℕ → Tables
stage_after g zero = g.before
stage_after g (suc zero) = g.added
stage_after g (suc (suc zero)) = g.replaced
stage_after g (suc (suc (suc n))) = g.removed

-- a flight; for each switch how many of its plan steps are done; and for each injection, by its number, its version, if it
-- has stepped
pub record UpdateState : Type 0 where
  pub flight : FlightState
  pub done : ℕ → ℕ
  pub versions : ℕ → Option Version

-- before the first injection and the first plan step
abbrev pub at_the_start : Stages → UpdateState
at_the_start g = record { flight = nothing_in_flight g.before; done = λ sw. 0; versions = λ n. None }

-- An update in flight as a value: its tables, the flight, of which the tables are those before the first plan step, how many
-- steps each switch has done, by its number, and the version of each injection, the first one first.
pub record UpdateValue : Type 0 where
  pub stages : Stages
  pub flight : FlightState
  pub done : List ℕ
  pub versions : List (Option Version)

-- the count of a switch, and the version of an injection, by its number
abbrev pub done_by : List ℕ → ℕ → ℕ
done_by counts sw = slice_index counts sw

abbrev pub version_by : List (Option Version) → ℕ → Option Version
version_by vs zero = None
version_by vs (suc n) = slice_index_or vs n None

-- its state
abbrev pub state_in : UpdateValue → UpdateState
state_in u = record { flight = u.flight; done = done_by u.done; versions = version_by u.versions }

-- the update after an event: its tables are as before, and this is its state
abbrev pub Becomes : UpdateValue → UpdateValue → UpdateState → Type 0
Becomes old new s = (new.stages ≡ old.stages) × (state_in new ≡ s)

-- the value of the packet's tag
abbrev pub tag_of_copy : Stages → List ℕ → ℕ
tag_of_copy g pk = slice_index pk (place_of g.before.fields.tag)

-- it is one of the old tags
abbrev pub is_old_tag : Stages → List ℕ → Bool
is_old_tag g pk = nat_le 1 (tag_of_copy g pk) && nat_le (tag_of_copy g pk) g.old_tags

abbrev pub has_old_tag : Stages → Flying → Bool
has_old_tag g f = is_old_tag g f.packet

-- the declared switches, and whether each of them has done so many plan steps
abbrev pub switches_in : Stages → List ℕ
switches_in g = numbers_of g.before.topo

abbrev pub all_have_done : Stages → ℕ → (ℕ → ℕ) → Bool
all_have_done g n done = list_all (λ sw. nat_le n (done sw)) (switches_in g)

-- how many plan steps the declared switches have done together
abbrev pub steps_done : Stages → UpdateState → ℕ
steps_done g s = sum (map s.done (switches_in g))

-- Whether a switch with so many steps done may do the next: the second needs the first done at every switch, the third the
-- second at every switch and no copy in flight with an old tag.
abbrev pub may_go_on : Stages → UpdateState → ℕ → Bool
may_go_on g s zero = true
may_go_on g s (suc zero) = all_have_done g 1 s.done
may_go_on g s (suc (suc zero)) = all_have_done g 2 s.done && list_all (λ f. not (has_old_tag g f)) s.flight.flying
may_go_on g s (suc (suc (suc n))) = false

-- whether a switch may do its next plan step: it is declared, and the step's needs are met
abbrev pub may_plan : Stages → UpdateState → ℕ → Bool
may_plan g s sw = is_switch g.before.topo sw && may_go_on g s (s.done sw)

-- a plan step adds one to the switch's own count, and changes nothing else
abbrev pub one_more_event : ℕ → (ℕ → ℕ) → ℕ → ℕ
one_more_event sw done n = if n == sw then done n + 1 else done n

abbrev pub planned : Stages → ℕ → UpdateState → UpdateState
planned g sw s = if may_plan g s sw then record s { done = one_more_event sw s.done } else s

-- The version of an injection whose copy is handled where so many plan steps are done: that of its first step, which is old
-- before the switch's second plan step, and else new.
abbrev pub noted : Option Version → ℕ → Version
noted (Some v) steps = v
noted None steps = if nat_le steps 1 then Old else New

abbrev pub noting : ℕ → Version → (ℕ → Option Version) → ℕ → Option Version
noting number v versions n = if n == number then Some v else versions n

-- how many plan steps are done where a copy waits
abbrev pub steps_at : UpdateState → Flying → ℕ
steps_at s f = s.done (slice_index f.packet 0)

-- One copy is handled, which was taken out of the others, by the tables that the plan steps at its switch left there.
abbrev pub handled_there : Stages → UpdateState → Option Flying → List Flying → UpdateState
handled_there g s None others = s
handled_there g s (Some f) others =
    let there = stage_after g (steps_at s f) in
    record s {
      flight = record s.flight {
        flying = others ++ flying_next there f;
        left = s.flight.left ++ left_next there f;
      };
      versions = noting f.number (noted (s.versions f.number) (steps_at s f)) s.versions;
    }

-- the copy at a place is handled; where there is none all stays
abbrev pub moved : Stages → ℕ → UpdateState → UpdateState
moved g i s = handled_there g s (slice_get s.flight.flying i) (remove s.flight.flying i)

-- what can happen: a packet is injected, the copy at a place is handled, or a switch does its next plan step, if it may
pub data UpdateEvent : Type 0 where
  inject : (pk : List ℕ) → UpdateEvent
  move : (i : ℕ) → UpdateEvent
  plan : (sw : ℕ) → UpdateEvent

abbrev pub after_update : Stages → UpdateEvent → UpdateState → UpdateState
after_update g (inject pk) s = record s { flight = injected pk s.flight }
after_update g (move i) s = moved g i s
after_update g (plan sw) s = planned g sw s

-- the event handles no copy of this injection
abbrev pub HandlesNoneOf : ℕ → UpdateState → UpdateEvent → Type 0
HandlesNoneOf n s (inject pk) = Unit {0}
HandlesNoneOf n s (move i) = (f : Flying) → slice_get s.flight.flying i ≡ Some f → ¬ (f.number ≡ n)
HandlesNoneOf n s (plan sw) = Unit {0}

-- after events, the first one first
abbrev pub after_updates : Stages → List UpdateEvent → UpdateState → UpdateState
after_updates g [] s = s
after_updates g (e ∷ es) s = after_updates g es (after_update g e s)

-- each packet that is injected enters: it is in range on a declared port with tag 0
abbrev pub AreEntering : Tables → List UpdateEvent → Type 0
AreEntering t [] = Unit {0}
AreEntering t (inject pk ∷ es) = IsEntering t pk × AreEntering t es
AreEntering t (move i ∷ es) = AreEntering t es
AreEntering t (plan sw ∷ es) = AreEntering t es

-- the tables by which a version goes
abbrev pub tables_by : Pair → Version → Tables
tables_by p Old = p.old
tables_by p New = p.new

-- the histories of k crossings of one injection: those that have left, then those that its copies owe by some tables
abbrev pub left_or_owed_by : Tables → FlightState → ℕ → ℕ → List Copy
left_or_owed_by t s n k = with_crossings k (left_from n s.left) ++ flat_map (owed_by t k) (flying_from n s.flying)

-- What holds of an injection by its version. Before its first step there is its packet's copy alone, without records, and
-- nothing has left. Later what has left and what its copies owe are the histories that leave that version's tables, each as
-- often.
abbrev pub ByVersion : Pair → FlightState → ℕ → List ℕ → Option Version → Type 0
ByVersion p s n pk None = (flying_from n s.flying ≡ record { records = []; packet = pk } ∷ []) × (left_from n s.left ≡ [])
ByVersion p s n pk (Some v) = (k : ℕ) → IsPermutation (left_after (tables_by p v) k pk) (left_or_owed_by (tables_by p v) s n k)

-- the injection of this number has come in, and it has a version
abbrev pub HasVersion : UpdateState → ℕ → Type 0
HasVersion s n = (1 ≤ n) × (n ≤ length s.flight.packets) × ((v : Version) × (s.versions n ≡ Some v))

-- each history that has left is of such an injection
abbrev pub HaveVersions : UpdateState → Type 0
HaveVersions s = All (λ (l : Left). HasVersion s l.number) s.flight.left
