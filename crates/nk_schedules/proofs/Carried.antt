-- Flights through tables that carry a policy.
use Rattle.std.proofs.Common.{◌≡◌, ℕ, ◌+◌, Some, List, refl, sym, subst}
use Rattle.std.specs.Prelude.{◌==◌, slice_get, Contains}
use Rattle.nk_field.proofs.Lists.{In, in_from_contains, contains_from_in, in_mapped, from_mapped}
use Rattle.nk_policy.specs.Policy.{Policy}
use Rattle.nk_names.specs.declared.Program.{Program}
use Rattle.nk_names.specs.Accepted.{IsStartPacket}
use Rattle.nk_table.specs.declared.Tables.{Tables}
use Rattle.nk_table.specs.Hops.{Copy, left_after}
use Rattle.nk_compile.specs.Carries.{Carries}
use Rattle.nk_flight.specs.Flights.{Event, nothing_in_flight, after_events}
use Rattle.nk_flight.specs.Owed.{flying_from, crossings, left_from, with_crossings, erased_copy}
use Rattle.nk_flight.specs.Once.{all_erased, LeaveOnce, IsEachOnce}
use Rattle.nk_flight.proofs.Clauses.{once_in_flight, all_no_dup, in_kept}
use Rattle.nk_flight.proofs.Once.{no_dup_from_doubles, doubles_from_no_dup}
use Rattle.nk_flight.proofs.Owing.{eq_true}
use Rattle.nk_schedules.specs.Schedules.{IsOf, IsEachOnceOf, IsNoOther}

-- what leaves the tables leaves once
pub leave_once : (program : Program) (p : Policy) (t : Tables) (k : ℕ) (pk : List ℕ) → Carries program p t → IsStartPacket program.fields program.topo pk
    → LeaveOnce t k pk (all_erased t (left_after t k pk))
leave_once program p t k pk carries start = record { once = carries.once k pk start; exactly = λ h. (λ c. c, λ c. c) }

-- where each history that leaves the tables has left once, or is owed by one copy, so has each of the policy's
pub of_policy : (program : Program) (p : Policy) (t : Tables) (k : ℕ) (pk : List ℕ) (left copies : List Copy) → Carries program p t → IsStartPacket program.fields program.topo pk
    → IsEachOnce t k (all_erased t (left_after t k pk)) left copies → IsEachOnceOf p pk t k left copies
of_policy program p t k pk left copies carries start each =
    let all = all_erased t (left_after t k pk) in
    let given : (h : Copy) → Contains all h → IsOf p pk k h = λ h. (carries.exactly k pk start h.records h.packet).0 in
    let leaves : (h : Copy) → IsOf p pk k h → Contains all h = λ h. (carries.exactly k pk start h.records h.packet).1 in
    record {
      known = λ h c. given h (each.known h c);
      once = each.once;
      each = λ h o. each.each h (leaves h o);
      due = λ j c is h o. given h (each.due j c is h o);
      due_once = each.due_once;
    }

-- where this holds for each number of crossings, nothing else has left
pub none_else : (p : Policy) (t : Tables) (pk : List ℕ) (hs copies : List Copy)
    → ((k : ℕ) → IsEachOnceOf p pk t k (all_erased t (with_crossings k hs)) copies) → IsNoOther p pk (all_erased t hs)
none_else p t pk hs copies each = record {
  known = λ h c.
      let m = from_mapped (erased_copy t) hs h (in_from_contains (all_erased t hs) h c) in
      let k = crossings m.0 in
      let kept = with_crossings k hs in
      let there : In kept m.0 = in_kept (λ d. crossings d == k) hs m.0 m.1 (eq_true k k refl) in
      let here : In (all_erased t kept) h = subst (In (all_erased t kept)) (sym m.2) (in_mapped (erased_copy t) kept m.0 there) in
      ((each k).known h (contains_from_in (all_erased t kept) h here)).0;
  once = doubles_from_no_dup (all_erased t hs) (all_no_dup t hs (λ k. no_dup_from_doubles (all_erased t (with_crossings k hs)) (each k).once));
}

-- each of the policy's histories has left once, or is owed by one copy alone
pub each_once_of : (program : Program) (p : Policy) (t : Tables) (es : List Event) (i k : ℕ) (pk : List ℕ) → Carries program p t
    → slice_get (after_events es (nothing_in_flight t)).packets i ≡ Some pk → IsStartPacket program.fields program.topo pk
    → IsEachOnceOf p pk t k (all_erased t (with_crossings k (left_from (i + 1) (after_events es (nothing_in_flight t)).left))) (flying_from (i + 1) (after_events es (nothing_in_flight t)).flying)
each_once_of program p t es i k pk carries e start =
    let s = after_events es (nothing_in_flight t) in
    of_policy program p t k pk (all_erased t (with_crossings k (left_from (i + 1) s.left))) (flying_from (i + 1) s.flying) carries start
    (once_in_flight t es i k pk (all_erased t (left_after t k pk)) e (leave_once program p t k pk carries start))

-- nothing else has left
pub no_other : (program : Program) (p : Policy) (t : Tables) (es : List Event) (i : ℕ) (pk : List ℕ) → Carries program p t
    → slice_get (after_events es (nothing_in_flight t)).packets i ≡ Some pk → IsStartPacket program.fields program.topo pk
    → IsNoOther p pk (all_erased t (left_from (i + 1) (after_events es (nothing_in_flight t)).left))
no_other program p t es i pk carries e start =
    let s = after_events es (nothing_in_flight t) in
    none_else p t pk (left_from (i + 1) s.left) (flying_from (i + 1) s.flying) (λ k. each_once_of program p t es i k pk carries e start)
