use Rattle.std.proofs.Common.{subst}
use Rattle.std.proofs.lemmas.Result.{IfOk-weaker}
use Rattle.nk_input.specs.ReadText.{IsOfBytes, IsReadOf}
use Rattle.nk.proofs.generating.job_over.Goals as goal

-- the text declares the program
pub returns-in-Program : goal.returns-in-Program
returns-in-Program c =
    let of : IsOfBytes c.args.bytes.items c.in-Program.program = subst (IsReadOf c.args.bytes.items) c.in-Program.is c.in_ok-program.ensures in
    IfOk-weaker c.job_of_program.result _ _ (λ s h. h c.args.bytes.items (record {
      tokens = of.tokens;
      cut = of.cut;
      declarations = of.of.declarations;
      read = of.of.read;
      means = of.of.of.means;
    })) c.job_of_program.ensures
