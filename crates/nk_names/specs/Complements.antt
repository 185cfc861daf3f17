-- Policies in which each complement is of a predicate.
pub use Rattle.nk_policy.specs.Complements.{NegatesPredicates, AllNegatePredicates}
