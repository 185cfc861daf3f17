-- The tables that are made of two policies, and why there are none.
use Rattle.std.specs.Prelude.{⊤}
use Rattle.nk_field.specs.Packet.{FieldTable}
use Rattle.nk_topo.specs.Topology.{Topology}
use Rattle.nk_policy.specs.Policy.{Policy}
use Rattle.nk_policy.specs.Labels.{IsTagSet, AtMost}
use Rattle.nk_names.specs.Accepted.{IsStartPacket, IsCompilable, most_tags}
use Rattle.nk_compile.specs.declared.pair.TablePair.{TablePair}
use Rattle.nk_compile.specs.declared.refusal.CompileError.{CompileError}
use Rattle.nk_compile.specs.declared.refusal.CompileError.TheVariants.{NoMemory, Refused}
use Rattle.nk_compile.specs.Counted.{HasTagSets}
use Rattle.nk_compile.specs.NumberedAfter.{IsTableAfter}
use Rattle.nk_compile.specs.PairAnswers.{FitTogether, IsPairReason}
use Rattle.nk_compile.specs.WholeTable.{IsTableOf}

-- the tables of two policies, the new one's tags after the old one's
pub record IsMadePair (fields : FieldTable) (topo : Topology) (p q : Policy) (r : TablePair) : Type 0 where
  pub compilable_old : IsCompilable fields topo p
  pub compilable_new : IsCompilable fields topo q
  pub few_old : AtMost (most_tags fields fields.tag) (IsTagSet p (IsStartPacket fields topo))
  pub few_new : AtMost (most_tags fields fields.tag) (IsTagSet q (IsStartPacket fields topo))
  pub fit : FitTogether fields topo p q
  pub old_tags : HasTagSets fields topo p r.old_tags
  pub printed_old : IsTableOf fields topo (IsStartPacket fields topo) p r.old
  pub printed_new : IsTableAfter r.old_tags fields topo (IsStartPacket fields topo) q r.new

-- the reason for which two policies are refused; running out of memory says nothing
abbrev pub IsPairError : FieldTable → Topology → Policy → Policy → CompileError → Type 0
IsPairError fields topo p q NoMemory = ⊤
IsPairError fields topo p q (Refused r) = IsPairReason fields topo p q r
