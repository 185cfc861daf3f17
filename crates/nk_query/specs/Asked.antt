-- Queries as they are asked by name, the questions about policies that they stand for, and when such a question breaks.
use Rattle.std.specs.Prelude.{◌≡◌, ◌&&◌, ◌⊎◌, ℕ, Bool, List, Some, None}
use Rattle.nk_field.specs.declared.packet.Packet.{Packet}
use Rattle.nk_field.specs.Packet.{FieldTable, IsPacket}
use Rattle.nk_field.specs.Order.{Found, IsLeast}
use Rattle.nk_policy.specs.Policy.{Policy, is_predicate}
use Rattle.nk_names.specs.declared.Program.{Program}
use Rattle.nk_names.specs.Named.{policy_named}
use Rattle.nk_query.specs.Queries.{BreaksApart, BreaksWaypoint}
use Rattle.nk_query.specs.Questions.{apart_question, waypoint_question}

-- a query by the names of its policies, in the order of the command
pub data Asked : Type 0 where
  apart : (name from target : List ℕ) → Asked
  waypoint : (name from middle target : List ℕ) → Asked

-- a query by its policies, in the order of the command
pub data Question : Type 0 where
  apart_of : (p from target : Policy) → Question
  waypoint_of : (p from middle target : Policy) → Question

-- each name is that policy's
abbrev pub NamesQuestion : Program → Asked → Question → Type 0
NamesQuestion program (apart name from target) (apart_of p a b) =
    (policy_named program name ≡ Some p)
    × (policy_named program from ≡ Some a)
    × (policy_named program target ≡ Some b)
NamesQuestion program (waypoint name from middle target) (waypoint_of p a m b) =
    (policy_named program name ≡ Some p)
    × (policy_named program from ≡ Some a)
    × (policy_named program middle ≡ Some m)
    × (policy_named program target ≡ Some b)
NamesQuestion program (apart name from target) (waypoint_of p a m b) = ⊥
NamesQuestion program (waypoint name from middle target) (apart_of p a b) = ⊥

-- one of the names is no policy's
abbrev pub LacksName : Program → Asked → Type 0
LacksName program (apart name from target) =
    (policy_named program name ≡ None)
    ⊎ ((policy_named program from ≡ None)
    ⊎ (policy_named program target ≡ None))
LacksName program (waypoint name from middle target) =
    (policy_named program name ≡ None)
    ⊎ ((policy_named program from ≡ None)
    ⊎ ((policy_named program middle ≡ None)
    ⊎ (policy_named program target ≡ None)))

-- all but the first are predicates
abbrev pub rest_are_predicates : Question → Bool
rest_are_predicates (apart_of p from target) = is_predicate from && is_predicate target
rest_are_predicates (waypoint_of p from middle target) = is_predicate from && is_predicate middle && is_predicate target

-- the policy whose histories are those that break
abbrev pub question_policy : Question → Policy
question_policy (apart_of p from target) = apart_question p from target
question_policy (waypoint_of p from middle target) = waypoint_question p from middle target

-- the history breaks the query
abbrev pub BreaksQuestion : Question → Packet → List Packet → Packet → Type 0
BreaksQuestion (apart_of p from target) pk w last = BreaksApart p from target pk w last
BreaksQuestion (waypoint_of p from middle target) pk w last = BreaksWaypoint p from middle target pk w last

-- no history from a packet in range does
abbrev pub NoneBreaks : FieldTable → Question → Type 0
NoneBreaks fields question =
    (pk : Packet) (w : List Packet) (last : Packet) → IsPacket fields pk → BreaksQuestion question pk w last → ⊥

-- it starts from a packet in range, and breaks
abbrev pub IsBreaking : FieldTable → Question → Found → Type 0
IsBreaking fields question found =
    IsPacket fields found.start × BreaksQuestion question found.start found.records found.last

-- it is the least of all that do
abbrev pub IsLeastBreak : FieldTable → Question → Found → Type 0
IsLeastBreak fields question found = IsLeast (IsBreaking fields question) found
