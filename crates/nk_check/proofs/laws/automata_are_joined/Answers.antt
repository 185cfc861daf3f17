use Rattle.nk_cert.proofs.Joining.{either_state, joined_automaton}
use Rattle.nk_check.proofs.laws.automata_are_joined.Goals as goal

pub returns-clause-start : goal.returns-clause-start
returns-clause-start c = λ st left right d p q l r id both. either_state st left right d p q l r id both

pub returns-clause-states : goal.returns-clause-states
returns-clause-states c = λ st of_left of_right states p q numbered a b start joined.
    joined_automaton st of_left of_right states p q numbered a b start joined
