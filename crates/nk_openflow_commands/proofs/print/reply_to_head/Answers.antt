use Rattle.std.proofs.Common.{◌≡◌, false, map, string_bytes, subst, sym}
use Rattle.nk_reply.specs.Meant.{IsMeantBy}
use Rattle.nk_reply.specs.Reply.{answer_in}
use Rattle.nk_reply.specs.Use.{use_of}
use Rattle.nk_openflow_commands.specs.Answer.{IsLinesAnswer}
use Rattle.nk_openflow_commands.specs.Ends.{IsFlowsMeantTo, reads}
use Rattle.nk_openflow_commands.proofs.Asked.{asked_is, mapping_words_are}
use Rattle.nk_openflow_commands.proofs.print.reply_to_head.Goals as goal

-- a word is at fault
pub returns-in-Some-clause-meant : goal.returns-in-Some-clause-meant
returns-in-Some-clause-meant g c =
    subst (λ q. IsFlowsMeantTo q (map (λ w. string_bytes w) c.args.words.now)
    (use_of g.S.Source.left g.S.Source.faults c.args.source.now c.args.source.now) (answer_in c.reply_to_fault.result))
    (sym (asked_is c.args.head.now c.args.words.now _ c.in-Some.ensures))
    (c.reply_to_fault.ensures (g.S.Source.left c.args.source.now) (g.S.Source.faults c.args.source.now))

-- none is
pub returns-in-None-clause-meant : goal.returns-in-None-clause-meant
returns-in-None-clause-meant g c =
    let source = use_of g.S.Source.left g.S.Source.faults c.args.source.now c.reply_to_source.new.source in
    subst (λ q. IsFlowsMeantTo q (map (λ w. string_bytes w) c.args.words.now) source (answer_in c.reply_to_source.result))
    (sym (asked_is c.args.head.now c.args.words.now _ c.in-None.ensures))
    (subst (λ ws. IsMeantBy (IsLinesAnswer c.args.head.now ws) source (answer_in c.reply_to_source.result))
    (sym (mapping_words_are c.args.head.now c.args.words.now)) c.reply_to_source.ensures)

-- the input is asked for
pub returns-in-None-clause-unread : goal.returns-in-None-clause-unread
returns-in-None-clause-unread g c = λ e.
    let asks = subst (λ q. reads q ≡ false) (asked_is c.args.head.now c.args.words.now _ c.in-None.ensures) e in
    absurd (cc)
