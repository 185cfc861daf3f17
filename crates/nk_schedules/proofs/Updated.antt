-- An update from one policy to another: each packet keeps to one of them.
use Rattle.std.proofs.Common.{◌≡◌, ℕ, ◌+◌, Some, None, List, [], ◌∷◌, subst}
use Rattle.std.specs.Prelude.{slice_get}
use Rattle.nk_names.specs.declared.Program.{Program}
use Rattle.nk_names.specs.Accepted.{IsStartPacket}
use Rattle.nk_table.specs.Hops.{left_after}
use Rattle.nk_update.specs.Plans.{Pair, pair_of}
use Rattle.nk_update.specs.Steps.{plan_of}
use Rattle.nk_compile.specs.declared.pair.TablePair.{TablePair}
use Rattle.nk_compile.specs.Carries.{Carries}
use Rattle.nk_compile.specs.PairAnswers.{IsCompiledPair}
use Rattle.nk_flight.specs.declared.versions.Version.{Version}
use Rattle.nk_flight.specs.declared.versions.Version.TheVariants.{Old, New}
use Rattle.nk_flight.specs.Owed.{flying_from, left_from, with_crossings}
use Rattle.nk_flight.specs.Once.{all_erased}
use Rattle.nk_flight.specs.Updates.{UpdateEvent, UpdateState, AreEntering, ByVersion, stages_of, tables_by, at_the_start, after_updates}
use Rattle.nk_flight.proofs.Mixture.{no_mixture}
use Rattle.nk_flight.proofs.Noting.{each_by_version}
use Rattle.nk_schedules.specs.Schedules.{IsEachOnceOf, IsNoOther, policy_by}
use Rattle.nk_schedules.proofs.Carried.{leave_once, of_policy, none_else}

module _ (program : Program) (old new : List ℕ) (r : TablePair) (both : IsCompiledPair program old new r) where
  abbrev pub pair : Pair
  pair = pair_of r.old r.new r.old_tags

  abbrev pub after : List UpdateEvent → UpdateState
  after es = after_updates (stages_of (plan_of pair)) es (at_the_start (stages_of (plan_of pair)))

  -- the tables of a version carry its policy
  carries_by : (v : Version) → Carries program (policy_by both.p both.q v) (tables_by pair v)
  carries_by Old = both.carries_old
  carries_by New = both.carries_new

  -- each of its policy's histories has left once, or is owed by one copy alone
  pub each_by_policy : (es : List UpdateEvent) (i k : ℕ) (pk : List ℕ) (v : Version) → AreEntering r.old es
      → slice_get (after es).flight.packets i ≡ Some pk → IsStartPacket program.fields program.topo pk → (after es).versions (i + 1) ≡ Some v
      → IsEachOnceOf (policy_by both.p both.q v) pk (tables_by pair v) k
      (all_erased (tables_by pair v) (with_crossings k (left_from (i + 1) (after es).flight.left))) (flying_from (i + 1) (after es).flight.flying)
  each_by_policy es i k pk v enter e start is =
      let t = tables_by pair v in
      let p = policy_by both.p both.q v in
      of_policy program p t k pk (all_erased t (with_crossings k (left_from (i + 1) (after es).flight.left))) (flying_from (i + 1) (after es).flight.flying)
      (carries_by v) start
      (each_by_version pair both.plannable both.tags es enter i pk e v is k (all_erased t (left_after t k pk)) (leave_once program p t k pk (carries_by v) start))

  -- nothing else has left
  pub none_but_its_policy : (es : List UpdateEvent) (i : ℕ) (pk : List ℕ) (v : Version) → AreEntering r.old es
      → slice_get (after es).flight.packets i ≡ Some pk → IsStartPacket program.fields program.topo pk → (after es).versions (i + 1) ≡ Some v
      → IsNoOther (policy_by both.p both.q v) pk (all_erased (tables_by pair v) (left_from (i + 1) (after es).flight.left))
  none_but_its_policy es i pk v enter e start is =
      none_else (policy_by both.p both.q v) (tables_by pair v) pk (left_from (i + 1) (after es).flight.left) (flying_from (i + 1) (after es).flight.flying)
      (λ k. each_by_policy es i k pk v enter e start is)

  -- before its first step it is one copy
  pub one_copy : (es : List UpdateEvent) (i : ℕ) (pk : List ℕ) → AreEntering r.old es → slice_get (after es).flight.packets i ≡ Some pk
      → (after es).versions (i + 1) ≡ None
      → (flying_from (i + 1) (after es).flight.flying ≡ record { records = []; packet = pk } ∷ []) × (left_from (i + 1) (after es).flight.left ≡ [])
  one_copy es i pk enter e is =
      subst (ByVersion pair (after es).flight (i + 1) pk) is (no_mixture pair both.plannable both.tags es enter i pk e)
