use Rattle.nk_tabtext.proofs.Writing.{at_end}
use Rattle.nk_tabtext.proofs.writer.TableWriter.end.Goals as goal

pub returns : goal.returns
returns c = λ fields topo tables w is same. at_end fields topo tables is same c.args.self.prefixes c.args.self.text.items w.prefixes w.text
