-- An update that is drawn: each injection keeps to one policy.
use Rattle.std.proofs.Common.{◌≡◌, ℕ, ◌+◌, Some, None, List, [], ◌∷◌, sym, subst}
use Rattle.std.specs.Prelude.{slice_get}
use Rattle.nk_field.specs.Packet.{IsPacket, IsUntagged}
use Rattle.nk_topo.specs.Topology.{IsLocated}
use Rattle.nk_names.specs.declared.Program.{Program}
use Rattle.nk_names.specs.Accepted.{IsStartPacket}
use Rattle.nk_update.specs.Plans.{Pair, pair_of}
use Rattle.nk_update.specs.Steps.{plan_of}
use Rattle.nk_update.specs.Tags.{IsEntering}
use Rattle.nk_compile.specs.declared.pair.TablePair.{TablePair}
use Rattle.nk_compile.specs.PairAnswers.{IsCompiledPair}
use Rattle.nk_flight.specs.declared.versions.Version.{Version}
use Rattle.nk_flight.specs.Owed.{flying_from, left_from, with_crossings}
use Rattle.nk_flight.specs.Once.{all_erased}
use Rattle.nk_flight.specs.Updates.{Stages, UpdateEvent, UpdateState, AreEntering, stages_of, tables_by, at_the_start, after_updates}
use Rattle.nk_flight.specs.UpdateDraws.{after_turns, drawn_events}
use Rattle.nk_flight.proofs.Drawing.{turns_are_updates, turns_enter}
use Rattle.nk_schedules.specs.Schedules.{IsEachOnceOf, IsNoOther, policy_by}
use Rattle.nk_schedules.proofs.Updated.{each_by_policy, none_but_its_policy, one_copy}

module _ (program : Program) (old new : List ℕ) (r : TablePair) (both : IsCompiledPair program old new r) where
  abbrev pair : Pair
  pair = pair_of r.old r.new r.old_tags

  abbrev stages : Stages
  stages = stages_of (plan_of pair)

  -- the tables have the program's fields and topology
  enters : (pk : List ℕ) → IsStartPacket program.fields program.topo pk → IsEntering r.old pk
  enters pk start = record {
    packet = subst (λ f. IsPacket f pk) (sym both.printed_old.same_fields) start.packet;
    located = subst (λ t. IsLocated t pk) (sym both.printed_old.same_topology) start.located;
    untagged = subst (λ f. IsUntagged f pk) (sym both.printed_old.same_fields) start.untagged;
  }

  module _ (seed turns : ℕ) (pk : List ℕ) where
    abbrev drawn : UpdateState
    drawn = after_turns stages seed turns pk (at_the_start stages)

    abbrev events : List UpdateEvent
    events = drawn_events stages seed turns pk (at_the_start stages)

    same : drawn ≡ after_updates stages events (at_the_start stages)
    same = turns_are_updates stages seed turns pk (at_the_start stages)

    all_enter : IsStartPacket program.fields program.topo pk → AreEntering r.old events
    all_enter start = turns_enter r.old stages seed turns pk (at_the_start stages) (enters pk start)

  pub each_by_policy_drawn : (seed turns i k : ℕ) (pk : List ℕ) (v : Version) → IsStartPacket program.fields program.topo pk
      → slice_get (drawn seed turns pk).flight.packets i ≡ Some pk → (drawn seed turns pk).versions (i + 1) ≡ Some v
      → IsEachOnceOf (policy_by both.p both.q v) pk (tables_by pair v) k
      (all_erased (tables_by pair v) (with_crossings k (left_from (i + 1) (drawn seed turns pk).flight.left))) (flying_from (i + 1) (drawn seed turns pk).flight.flying)
  each_by_policy_drawn seed turns i k pk v start =
      subst (λ (s : UpdateState). slice_get s.flight.packets i ≡ Some pk → s.versions (i + 1) ≡ Some v
      → IsEachOnceOf (policy_by both.p both.q v) pk (tables_by pair v) k
      (all_erased (tables_by pair v) (with_crossings k (left_from (i + 1) s.flight.left))) (flying_from (i + 1) s.flight.flying))
      (sym (same seed turns pk))
      (λ e is. each_by_policy program old new r both (events seed turns pk) i k pk v (all_enter seed turns pk start) e start is)

  pub none_but_its_policy_drawn : (seed turns i : ℕ) (pk : List ℕ) (v : Version) → IsStartPacket program.fields program.topo pk
      → slice_get (drawn seed turns pk).flight.packets i ≡ Some pk → (drawn seed turns pk).versions (i + 1) ≡ Some v
      → IsNoOther (policy_by both.p both.q v) pk (all_erased (tables_by pair v) (left_from (i + 1) (drawn seed turns pk).flight.left))
  none_but_its_policy_drawn seed turns i pk v start =
      subst (λ (s : UpdateState). slice_get s.flight.packets i ≡ Some pk → s.versions (i + 1) ≡ Some v
      → IsNoOther (policy_by both.p both.q v) pk (all_erased (tables_by pair v) (left_from (i + 1) s.flight.left)))
      (sym (same seed turns pk))
      (λ e is. none_but_its_policy program old new r both (events seed turns pk) i pk v (all_enter seed turns pk start) e start is)

  pub one_copy_drawn : (seed turns i : ℕ) (pk : List ℕ) → IsStartPacket program.fields program.topo pk
      → slice_get (drawn seed turns pk).flight.packets i ≡ Some pk → (drawn seed turns pk).versions (i + 1) ≡ None
      → (flying_from (i + 1) (drawn seed turns pk).flight.flying ≡ record { records = []; packet = pk } ∷ []) × (left_from (i + 1) (drawn seed turns pk).flight.left ≡ [])
  one_copy_drawn seed turns i pk start =
      subst (λ (s : UpdateState). slice_get s.flight.packets i ≡ Some pk → s.versions (i + 1) ≡ None
      → (flying_from (i + 1) s.flight.flying ≡ record { records = []; packet = pk } ∷ []) × (left_from (i + 1) s.flight.left ≡ []))
      (sym (same seed turns pk))
      (λ e is. one_copy program old new r both (events seed turns pk) i pk (all_enter seed turns pk start) e is)
