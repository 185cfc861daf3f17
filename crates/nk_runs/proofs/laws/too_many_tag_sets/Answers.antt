use Rattle.nk_runs.proofs.TagSets.{many_tags}
use Rattle.nk_runs.proofs.laws.too_many_tag_sets.Goals as goal

pub returns : goal.returns
returns c = λ old new ss states set start bad ls p a d tidy from differ grown levels least h.
    many_tags old new ss states set start bad ls p a d tidy from levels differ grown least h
