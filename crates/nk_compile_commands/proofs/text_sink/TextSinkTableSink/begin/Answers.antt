use Rattle.nk_compile_commands.proofs.text_sink.TextSinkTableSink.begin.Goals as goal

pub returns : goal.returns
returns c = (c.new.ensures.empty, λ fields topo before w. c.in_ok-begin_table.ensures fields topo before w)
