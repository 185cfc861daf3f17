use Rattle.nk_algebra.proofs.again.second_calls.Goals as goal

pub returns : goal.returns
returns c = λ operation a b d first before after again kept grows gives. gives d (grows.kept operation a b d kept)
