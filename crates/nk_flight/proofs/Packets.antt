-- In a drawn update one packet comes in, again and again.
use Rattle.std.proofs.Common.{◌≡◌, ℕ, zero, suc, refl, sym, subst, List, [], ◌∷◌, ◌++◌, length}
use Rattle.std.specs.Prelude.{◌%◌, map, slice_index_or, All}
use Rattle.std.specs.List.{range_with_len}
use Rattle.std.proofs.lemmas.List.Elements.{All-nil, All-cons, All-append}
use Rattle.nk_flight.specs.Draws.{draw}
use Rattle.nk_flight.specs.Updates.{Stages, UpdateState, UpdateEvent, inject, move, plan, at_the_start, after_update}
use Rattle.nk_flight.specs.UpdateDraws.{those_that_may, actions, action_at, after_turns}
use Rattle.nk_flight.proofs.Entering.{moved_packets, planned_packets}

module _ (pk : List ℕ) where
  -- where the event is an injection, it is one of this packet
  abbrev Injects : UpdateEvent → Type 0
  Injects (inject q) = q ≡ pk
  Injects (move i) = Unit {0}
  Injects (plan sw) = Unit {0}

  abbrev EachInjects : List UpdateEvent → Type 0
  EachInjects [] = Unit {0}
  EachInjects (e ∷ es) = Injects e × EachInjects es

  both_inject : (es fs : List UpdateEvent) → EachInjects es → EachInjects fs → EachInjects (es ++ fs)
  both_inject [] fs a b = b
  both_inject (e ∷ es) fs a b = (a.0, both_inject es fs a.1 b)

  moves_inject : (ns : List ℕ) → EachInjects (map move ns)
  moves_inject [] = tt
  moves_inject (n ∷ ns) = (tt, moves_inject ns)

  plans_inject : (ns : List ℕ) → EachInjects (map plan ns)
  plans_inject [] = tt
  plans_inject (n ∷ ns) = (tt, plans_inject ns)

  one_injects : (es : List UpdateEvent) (k : ℕ) (d : UpdateEvent) → EachInjects es → Injects d → Injects (slice_index_or es k d)
  one_injects [] k d a b = b
  one_injects (e ∷ es) zero d a b = a.0
  one_injects (e ∷ es) (suc k) d a b = one_injects es k d a.1 b

  module _ (g : Stages) where
    action_injects : (x : ℕ) (s : UpdateState) → Injects (action_at x g pk s)
    action_injects x s =
        let moves = map move (range_with_len 0 (length s.flight.flying)) in
        let plans = map plan (those_that_may g s) in
        let rest = both_inject moves plans (moves_inject (range_with_len 0 (length s.flight.flying))) (plans_inject (those_that_may g s)) in
        one_injects (actions g pk s) (x % length (actions g pk s)) (inject pk) (refl, rest) refl

    event_keeps : (e : UpdateEvent) (s : UpdateState) → Injects e → All (λ q. q ≡ pk) s.flight.packets → All (λ q. q ≡ pk) (after_update g e s).flight.packets
    event_keeps (inject q) s i h = All-append (λ q. q ≡ pk) s.flight.packets (q ∷ []) h (All-cons (λ q. q ≡ pk) q [] i (All-nil (λ q. q ≡ pk)))
    event_keeps (move n) s i h = subst (λ pks. All (λ q. q ≡ pk) pks) (sym (moved_packets g n s)) h
    event_keeps (plan sw) s i h = subst (λ pks. All (λ q. q ≡ pk) pks) (sym (planned_packets g sw s)) h

    pub turns_inject : (seed turns : ℕ) → All (λ q. q ≡ pk) (after_turns g seed turns pk (at_the_start g)).flight.packets
    turns_inject seed zero = All-nil (λ q. q ≡ pk)
    turns_inject seed (suc n) =
        let s = after_turns g seed n pk (at_the_start g) in
        event_keeps (action_at (draw seed (suc n)) g pk s) s (action_injects (draw seed (suc n)) s) (turns_inject seed n)
