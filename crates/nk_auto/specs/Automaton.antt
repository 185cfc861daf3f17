-- The automaton of a policy, as diagrams.
pub use Rattle.nk_determ.specs.Automaton.{IsState, IsAutomaton}
