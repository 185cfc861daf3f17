-- What is said of a query that is refused.
use Rattle.std.specs.Prelude.{◌≡◌, ℕ, List, codes}
use Rattle.nk_query.specs.declared.error.QueryError.{QueryError}
use Rattle.nk_query.specs.declared.error.QueryError.TheVariants as query

-- the line of why a query is refused. Want of memory is no refusal.
abbrev pub TellsQuery : QueryError → List ℕ → Type 0
TellsQuery query.NoPolicy text = text ≡ codes "refused C1: no policy\n"
TellsQuery query.NotAPredicate text = text ≡ codes "refused C14: not a predicate\n"
TellsQuery query.TooLarge text = text ≡ codes "refused C13: expanded too large\n"
TellsQuery query.NoMemory text = ⊥
