use Rattle.nk_openflow_commands.proofs.OneAnswer.{one_answer}
use Rattle.nk_openflow_commands.proofs.laws.an_input_has_one_answer.Goals as goal

pub returns : goal.returns
returns c = one_answer
