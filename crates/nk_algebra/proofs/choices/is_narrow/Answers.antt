use Rattle.nk_algebra.proofs.Cuts.{first_each}
use Rattle.nk_algebra.proofs.choices.is_narrow.Goals as goal

pub unchanged_to-end-requires-clause-first : goal.unchanged_to-end-requires-clause-first
unchanged_to-end-requires-clause-first c = first_each c.args.st.now c.args.f c.earliest-g.result c.args.parts.now c.earliest-g.ensures
