use Rattle.nk_words.specs.Words.{command_of}
use Rattle.nk_one_answer.proofs.Answers.{one_answer, one_fixed}
use Rattle.nk_one_answer.proofs.laws.there_is_one_answer.Goals as goal

pub returns-clause-command : goal.returns-clause-command
returns-clause-command c = λ k bytes a b h i.
    one_answer c.fields_of_texts_have_names.ensures c.one_certificate_is_printed.ensures c.one_thing_is_found.ensures.at_most c.declared_fields_are_writable.ensures
    c.switches_have_packets.ensures.texts c.a_packet_has_one_trace.ensures k bytes a b h i

pub returns-clause-words : goal.returns-clause-words
returns-clause-words c = λ words bytes a b h i.
    one_answer c.fields_of_texts_have_names.ensures c.one_certificate_is_printed.ensures c.one_thing_is_found.ensures.at_most c.declared_fields_are_writable.ensures
    c.switches_have_packets.ensures.texts c.a_packet_has_one_trace.ensures (command_of words) bytes a b h i

pub returns-clause-runs : goal.returns-clause-runs
returns-clause-runs c = λ words source other bytes a b s o h i.
    one_fixed c.fields_of_texts_have_names.ensures c.one_certificate_is_printed.ensures c.one_thing_is_found.ensures.at_most c.declared_fields_are_writable.ensures
    c.switches_have_packets.ensures.texts c.a_packet_has_one_trace.ensures (command_of words) source other bytes a b s o h i
