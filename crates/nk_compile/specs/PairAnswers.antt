-- What compiling two policies for an update answers: the tables of both, the new one's tags numbered after the old one's.
use Rattle.std.specs.Prelude.{◌≡◌, ℕ, ◌+◌, ◌≤◌, ◌⊎◌, ⊤, Some, None, Result, Ok, Err, List}
use Rattle.nk_field.specs.Packet.{FieldTable}
use Rattle.nk_topo.specs.Topology.{Topology}
use Rattle.nk_policy.specs.Policy.{Policy}
use Rattle.nk_policy.specs.Labels.{IsTagSet, AtLeast}
use Rattle.nk_names.specs.declared.Program.{Program}
use Rattle.nk_names.specs.Accepted.{IsStartPacket, IsAccepted, most_tags}
use Rattle.nk_names.specs.Named.{policy_named}
use Rattle.nk_update.specs.Plans.{IsPlannable, pair_of}
use Rattle.nk_update.specs.Tags.{HaveTheirTags}
use Rattle.nk_compile.specs.declared.pair.TablePair.{TablePair}
use Rattle.nk_compile.specs.declared.refusal.CompileError.{CompileError}
use Rattle.nk_compile.specs.declared.refusal.CompileError.TheVariants.{NoMemory, Refused}
use Rattle.nk_compile.specs.declared.refusal.Refusal.{Refusal}
use Rattle.nk_compile.specs.declared.refusal.Refusal.TheVariants.{NoPolicy, NoTag, TooManyTags}
use Rattle.nk_compile.specs.Carries.{Carries}
use Rattle.nk_compile.specs.Counted.{HasTagSets}
use Rattle.nk_compile.specs.NumberedAfter.{IsTableAfter}
use Rattle.nk_compile.specs.OffEdge.{EndsOnEdges}
use Rattle.nk_compile.specs.Refusals.{static_refusal, IsReason}
use Rattle.nk_compile.specs.WholeTable.{IsTableOf}

-- the tags of both together are no more than the tag has values above 0
abbrev pub FitTogether : FieldTable → Topology → Policy → Policy → Type 0
FitTogether fields topo p q =
    (m : ℕ) × (n : ℕ) × HasTagSets fields topo p m × HasTagSets fields topo q n × (m + n ≤ most_tags fields fields.tag)

-- the tables of an old and a new policy: both are printed, the new one's tags after the old one's; each carries its policy;
-- and they can be planned, since their rows and the copies that cross links keep to their own tags
pub record IsCompiledPair (program : Program) (old new : List ℕ) (r : TablePair) : Type 0 where
  pub p : Policy
  pub q : Policy
  pub named_old : policy_named program old ≡ Some p
  pub named_new : policy_named program new ≡ Some q
  pub accepted_old : IsAccepted program p
  pub accepted_new : IsAccepted program q
  pub fit : FitTogether program.fields program.topo p q
  pub old_tags : HasTagSets program.fields program.topo p r.old_tags
  pub printed_old : IsTableOf program.fields program.topo (IsStartPacket program.fields program.topo) p r.old
  pub printed_new : IsTableAfter r.old_tags program.fields program.topo (IsStartPacket program.fields program.topo) q r.new
  pub carries_old : Carries program p r.old
  pub carries_new : Carries program q r.new
  pub plannable : IsPlannable (pair_of r.old r.new r.old_tags)
  pub tags : HaveTheirTags (pair_of r.old r.new r.old_tags)

-- nothing stands against the policy but perhaps the number of its tags
abbrev pub IsUnopposed : FieldTable → Topology → Policy → Type 0
IsUnopposed fields topo p = (static_refusal fields topo p ≡ None) × EndsOnEdges fields topo p

-- why two policies have no tables: no tag is declared; what stands against the old one, or, where nothing does, against the
-- new one; or, where nothing stands against either, the tags of both together are more than the tag has values above 0
abbrev pub IsPairReason : FieldTable → Topology → Policy → Policy → Refusal → Type 0
IsPairReason fields topo p q NoPolicy = ⊥
IsPairReason fields topo p q NoTag = fields.tag ≡ None
IsPairReason fields topo p q (TooManyTags found) =
    IsUnopposed fields topo p
    × IsUnopposed fields topo q
    × (found ≡ most_tags fields fields.tag + 1)
    × ((m : ℕ) × (n : ℕ) × AtLeast m (IsTagSet p (IsStartPacket fields topo)) × AtLeast n (IsTagSet q (IsStartPacket fields topo)) × (m + n ≡ found))
IsPairReason fields topo p q r = IsReason fields topo p r ⊎ (IsUnopposed fields topo p × IsReason fields topo q r)

-- why two names are refused: one is no policy's, or their policies are refused
abbrev pub IsPairRefused : Program → List ℕ → List ℕ → Refusal → Type 0
IsPairRefused program old new NoPolicy = (policy_named program old ≡ None) ⊎ (policy_named program new ≡ None)
IsPairRefused program old new r =
    (p : Policy)
    × (q : Policy)
    × (policy_named program old ≡ Some p)
    × (policy_named program new ≡ Some q)
    × IsPairReason program.fields program.topo p q r

-- the tables, or why there are none; memory may run out at any point
abbrev pub IsPairAnswer : Program → List ℕ → List ℕ → Result TablePair CompileError → Type 0
IsPairAnswer program old new (Ok r) = IsCompiledPair program old new r
IsPairAnswer program old new (Err NoMemory) = ⊤
IsPairAnswer program old new (Err (Refused r)) = IsPairRefused program old new r
