use Rattle.nk_runs.proofs.TagSets.{tags_are_odd, are_tags}
use Rattle.nk_runs.proofs.laws.tag_sets_are_numbered.Goals as goal

pub returns-clause-exactly : goal.returns-clause-exactly
returns-clause-exactly c = λ old new ss states set start bad ls p a d tidy no from grown levels labels.
    tags_are_odd old new ss states set start bad ls p a d tidy from levels no grown labels

pub returns-clause-tags : goal.returns-clause-tags
returns-clause-tags c = λ old new ss states set start bad ls r p a d tidy no from differ grown levels numbers.
    are_tags old new ss states set start bad ls p a d tidy from levels no differ grown r numbers
