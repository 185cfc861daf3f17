use Rattle.std.proofs.Common.{◌≡◌, ◌∙◌, sym, subst, None, Some}
use Rattle.std.specs.Prelude.{IfOk, slice_index}
use Rattle.nk_sim.specs.Emitted.{table_of}
use Rattle.nk_sim.proofs.Emitting.{none_sent, sent_by_first}
use Rattle.nk_sim.proofs.sending.emit.Goals as goal

pub returns-in-Some : goal.returns-in-Some
returns-in-Some c =
    let t = c.args.t.now in
    let pk = c.args.p.now in
    let tb = c.in-Some.found.now in
    let first : table_of t.tables (slice_index pk 0) ≡ Some tb = sym (c.in-Some.ensures ∙ (λ i. table_of (c.as_slice.ensures i) (c.get.ensures i))) in
    subst (λ l. IfOk c.sent_by_table.result (λ sent. sent.items ≡ l)) (sym (sent_by_first t pk tb first)) c.sent_by_table.ensures

pub returns-in-None : goal.returns-in-None
returns-in-None c =
    let t = c.args.t.now in
    let pk = c.args.p.now in
    let none : table_of t.tables (slice_index pk 0) ≡ None = sym (c.in-None.ensures ∙ (λ i. table_of (c.as_slice.ensures i) (c.get.ensures i))) in
    c.new.ensures.items ∙ sym (none_sent t pk none)
