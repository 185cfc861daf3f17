use Rattle.nk_merge.proofs.Lawful.{gives_members}
use Rattle.nk_merge.proofs.laws.a_set_gives_what_its_members_give.Goals as goal

pub returns : goal.returns
returns c = λ st states ok tidy set x w y p r. gives_members st states ok tidy set x w y p r
