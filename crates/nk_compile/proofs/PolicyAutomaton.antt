-- What the tables of a policy begin with: nothing seen that stands against it, and its automaton.
use Rattle.std.proofs.Common.{◌≡◌, ℕ, ◌+◌, ◌<◌, List, sym, subst, Some, None}
use Rattle.std.specs.Prelude.{slice_index}
use Rattle.nk_field.specs.Packet.{FieldTable, IsFieldTable}
use Rattle.nk_topo.specs.Topology.{Topology, IsTopology}
use Rattle.nk_policy.specs.Policy.{Policy, marked_from}
use Rattle.nk_policy.specs.Ranges.{IsInRange}
use Rattle.nk_names.specs.Complements.{NegatesPredicates}
use Rattle.nk_store.specs.StoreState.{StoreState, Grows, IsOver}
use Rattle.nk_store.proofs.InRange.{over_grown}
use Rattle.nk_auto.specs.Automaton.{IsAutomaton}
use Rattle.nk_auto.specs.Continued.{IsFit}
use Rattle.nk_compile.specs.Ready.{IsBegun}
use Rattle.nk_compile.specs.Refusals.{static_refusal_with}
use Rattle.nk_compile.proofs.ProgramFits.{fit}
use Rattle.nk_compile.proofs.CompileErrors.{is_clear}

pub begun_is : (fields : FieldTable) (topo : Topology) (tag : ℕ) (p : Policy) (first new : StoreState) (states slice : List ℕ) →
    IsFieldTable fields → fields.tag ≡ Some tag → IsTopology topo → marked_from p 1 ≡ p → static_refusal_with tag topo p ≡ None →
    IsOver fields first → Grows first new → (IsFit first.maxes p → IsAutomaton new states 1 p) → slice ≡ states →
    NegatesPredicates p → IsInRange p fields → slice_index fields.maxima tag + 1 < 18446744073709551616 →
    IsBegun fields topo tag p new slice
begun_is fields topo tag p first new states slice table is topology numbered none over grows auto same complements range room = record {
  clear = is_clear fields topo tag p table is topology numbered none;
  seen = none;
  over = over_grown fields first new over grows;
  automaton = subst (λ l. IsAutomaton new l 1 p) (sym same) (auto (fit fields first tag table over is p complements range));
  room = room;
}
