use Rattle.nk_tabtext.proofs.Rowing.{on_four, starts_within, table_ended}
use Rattle.nk_tabtext.proofs.writer.TableWriter.end_table.Goals as goal

pub returns : goal.returns
returns c = λ fields topo tables sw rows w.
    on_four c.put_groups.result _ _ _ _ _
    (λ same kept stay put. table_ended fields topo tables sw rows c.args.groups.now c.args.self.now c.put_groups.new.self w same kept stay put)
    c.put_groups.ensures.fields c.put_groups.ensures.prefixes c.put_groups.ensures.last
    (c.put_groups.ensures.text (starts_within fields topo tables sw rows c.args.self.now w))
