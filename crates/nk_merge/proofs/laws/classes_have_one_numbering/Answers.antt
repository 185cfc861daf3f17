use Rattle.nk_merge.specs.Alike.{AreTagsAlike}
use Rattle.nk_merge.proofs.Numbering.{numbers_fixed}
use Rattle.nk_merge.proofs.laws.classes_have_one_numbering.Goals as goal

pub returns : goal.returns
returns c = λ st states ss tags count a b k l. numbers_fixed (AreTagsAlike st states ss tags) count a b k l
