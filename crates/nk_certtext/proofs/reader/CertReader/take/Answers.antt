use Rattle.std.proofs.Common.{inl}
use Rattle.nk_certtext.proofs.Taken.{taken_on}
use Rattle.nk_certtext.proofs.reader.CertReader.take.Goals as goal

pub returns-clause-tokens : goal.returns-clause-tokens
returns-clause-tokens c = λ ts h. taken_on ts c.args.self.now c.put.new.self c.args.token.now c.put.result h (c.put.ensures.taken ts h.declarations h.rows)

pub returns-clause-unmended : goal.returns-clause-unmended
returns-clause-unmended c = λ ts h n.
    c.put.ensures.stopped ((c.a_certified_reader_stops_at_the_first_fault.ensures ts h.declarations h.rows c.args.self.now.grammar h.read).1 (inl n))
