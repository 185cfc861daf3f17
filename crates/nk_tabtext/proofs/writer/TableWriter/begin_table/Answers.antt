use Rattle.std.proofs.Common.{refl, arith}
use Rattle.nk_tabtext.proofs.Rowing.{table_begun}
use Rattle.nk_tabtext.proofs.writer.TableWriter.begin_table.Goals as goal

pub returns : goal.returns
returns c = λ fields topo tables w.
    table_begun fields topo tables c.args.switch c.args.self.now _ w refl refl c.in_ok-switch_line.ensures (omega (arith, c.len-self.ensures, c.switch_line.new.out.ok)) refl
