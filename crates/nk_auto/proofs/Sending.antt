-- Where diagrams send packets that are made of others.
pub use Rattle.nk_determ.proofs.Sending.{out_of, sends_on, sends_back, sent_in_range, seq_sends, sends_seq, union_sends, sends_left, sends_right, unions_has, has_unions}
