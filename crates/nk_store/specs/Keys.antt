-- By what kept answers are found.
use Rattle.std.specs.Prelude.{ℕ, Bool, List, [], ◌∷◌}
use Rattle.std.specs.declared.cmp.Ordering.{Ordering}
use Rattle.std.specs.Ordering.{nat_cmp, ordering_then, match_ordering}
use Rattle.nk_store.specs.declared.operation.Operation.{Operation}
use Rattle.nk_store.specs.declared.operation.Key.{Key}
use Rattle.nk_store.specs.contracts.operation.KeyPartialEq.TheImpl.{ghosts}
use Rattle.nk_store.specs.Digests.{operation_number}

-- whether two keys are one
abbrev pub key_eq : Key → Key → Bool
key_eq k q = ghosts.eq k q

-- what an answer on two diagrams is found by
abbrev pub key_of : Operation → ℕ → ℕ → Key
key_of operation a b = record { operation = operation; left = a; right = b }

-- the order of keys: by the operation, then by the diagrams
abbrev pub key_cmp : Key → Key → Ordering
key_cmp k q = ordering_then (nat_cmp (operation_number k.operation) (operation_number q.operation)) (ordering_then (nat_cmp k.left q.left) (nat_cmp k.right q.right))

-- the answers with one more put in: in place of the answer of its key, if there is one, else before those of later keys
abbrev pub with_answer : List (Key × ℕ) → Key → ℕ → List (Key × ℕ)
with_answer [] k d = (k, d) ∷ []
with_answer (e ∷ es) k d = match_ordering (key_cmp k e.0) ((k, d) ∷ e ∷ es) ((e.0, d) ∷ es) (e ∷ with_answer es k d)

-- the answers in the order of their keys, of several with one key the first
abbrev pub arranged : List (Key × ℕ) → List (Key × ℕ)
arranged [] = []
arranged (e ∷ es) = with_answer (arranged es) e.0 e.1
