-- What compiling a policy with few tags answers: its merged tables, and what tells any two classes of tag sets apart.
use Rattle.std.specs.Prelude.{◌≡◌, ℕ, ◌+◌, ◌<◌, ◌≤◌, ◌⊎◌, ◌↔◌, ⊤, Some, None, Result, Ok, Err, List, map, slice_get, slice_index, Contains, All, AllPairs}
use Rattle.nk_field.specs.Order.{Found, IsLeast}
use Rattle.nk_field.specs.Packet.{FieldTable, IsPacket}
use Rattle.nk_topo.specs.Topology.{Topology}
use Rattle.nk_policy.specs.Policy.{Policy}
use Rattle.nk_policy.specs.Tags.{AreTags}
use Rattle.nk_names.specs.declared.Program.{Program}
use Rattle.nk_names.specs.Accepted.{IsStartPacket, IsCompilable, most_tags}
use Rattle.nk_names.specs.Named.{policy_named}
use Rattle.nk_compile.specs.declared.refusal.CompileError.{CompileError}
use Rattle.nk_compile.specs.declared.refusal.CompileError.TheVariants.{NoMemory, Refused}
use Rattle.nk_compile.specs.declared.refusal.Refusal.{Refusal}
use Rattle.nk_compile.specs.declared.refusal.Refusal.TheVariants.{NoPolicy, TooManyTags}
use Rattle.nk_compile.specs.Carries.{Carries}
use Rattle.nk_compile.specs.OffEdge.{EndsOnEdges}
use Rattle.nk_compile.specs.Refusals.{static_refusal, found_from, IsReason}
use Rattle.nk_compact.specs.declared.compact.DistinguishingHistory.{DistinguishingHistory}
use Rattle.nk_compact.specs.declared.compact.Compact.{Compact}
use Rattle.nk_compact.specs.MergedTable.{GivesAfter, AreTagClasses, IsOfClass, IsFirstPlace, IsMergedTable}

-- from a packet in range the state of the first tag set gives the history, and that of the second one doesn't
abbrev pub IsOfFirstSetAlone : FieldTable → Policy → List ℕ → List ℕ → Found → Type 0
IsOfFirstSetAlone fields p s t f =
    IsPacket fields f.start × GivesAfter p s f.start f.records f.last × (GivesAfter p t f.start f.records f.last → ⊥)

-- so it is, and it is the least of all histories that the state of one of both gives alone
abbrev pub IsLeastAlone : FieldTable → Policy → List ℕ → List ℕ → Found → Type 0
IsLeastAlone fields p s t f =
    IsOfFirstSetAlone fields p s t f × IsLeast (λ g. IsOfFirstSetAlone fields p s t g ⊎ IsOfFirstSetAlone fields p t s g) f

-- some tag set is of the class
abbrev pub IsClass : List ℕ → ℕ → Type 0
IsClass classes c = (i : ℕ) × IsOfClass classes c i

-- the first tag set of a class
abbrev pub IsFirstSet : List (List ℕ) → List ℕ → ℕ → List ℕ → Type 0
IsFirstSet tags classes c s = (i : ℕ) × IsFirstPlace (IsOfClass classes c) i × (slice_get tags i ≡ Some s)

-- what tells two classes apart: the least history that the state of one of both gives alone, and which of both
pub record IsDistinguishingHistory (fields : FieldTable) (p : Policy) (tags : List (List ℕ)) (classes : List ℕ) (a : DistinguishingHistory) : Type 0 where
  pub s : List ℕ
  pub t : List ℕ
  pub of_first : IsFirstSet tags classes a.first s
  pub of_second : IsFirstSet tags classes a.second t
  pub least : ((a.alone ≡ a.first) × IsLeastAlone fields p s t (found_from a.start a.history)) ⊎ ((a.alone ≡ a.second) × IsLeastAlone fields p t s (found_from a.start a.history))

-- the two classes
abbrev pub classes_distinguished : DistinguishingHistory → ℕ × ℕ
classes_distinguished a = (a.first, a.second)

-- exactly one for each two classes, the first below the second, by the first and then by the second
pub record AreDistinguishingHistories (fields : FieldTable) (p : Policy) (tags : List (List ℕ)) (classes : List ℕ) (aparts : List DistinguishingHistory) : Type 0 where
  pub exactly : (i j : ℕ) → Contains {X = ℕ × ℕ} (map classes_distinguished aparts) (i, j) ↔ ((i < j) × IsClass classes i × IsClass classes j)
  pub in_order : AllPairs (λ (a b : DistinguishingHistory). (a.first < b.first) ⊎ ((a.first ≡ b.first) × (a.second < b.second))) aparts
  pub each : All (IsDistinguishingHistory fields p tags classes) aparts

-- the merged tables of a compilable policy, by its tag sets and their classes, which are no more than the tag has values above 0,
-- and what tells any two of these apart
pub record IsCompactOf (fields : FieldTable) (topo : Topology) (p : Policy) (c : Compact) : Type 0 where
  pub tags : List (List ℕ)
  pub classes : List ℕ
  pub compilable : IsCompilable fields topo p
  pub merged : IsMergedTable fields topo (IsStartPacket fields topo) p tags classes c.tables
  pub few : (i : ℕ) → slice_index classes i ≤ most_tags fields fields.tag
  pub apart : AreDistinguishingHistories fields p tags classes c.aparts

-- the tag sets have so many classes, or more
abbrev pub HaveTagClasses : FieldTable → Topology → Policy → ℕ → Type 0
HaveTagClasses fields topo p n =
    (tags : List (List ℕ)) × (classes : List ℕ) × AreTags p (IsStartPacket fields topo) tags × AreTagClasses fields p tags classes × IsClass classes n

-- why a policy is refused: as where nothing is merged, but for the number of tags, which are those of classes
abbrev pub IsCompactReason : FieldTable → Topology → Policy → Refusal → Type 0
IsCompactReason fields topo p (TooManyTags found) =
    (static_refusal fields topo p ≡ None) × EndsOnEdges fields topo p × (found ≡ most_tags fields fields.tag + 1) × HaveTagClasses fields topo p found
IsCompactReason fields topo p r = IsReason fields topo p r

-- the reason for which a policy is refused; running out of memory says nothing
abbrev pub IsCompactError : FieldTable → Topology → Policy → CompileError → Type 0
IsCompactError fields topo p NoMemory = ⊤
IsCompactError fields topo p (Refused r) = IsCompactReason fields topo p r

-- why the name is refused: it is no policy's, or its policy is refused
abbrev pub IsCompactRefused : Program → List ℕ → Refusal → Type 0
IsCompactRefused program name NoPolicy = policy_named program name ≡ None
IsCompactRefused program name r = (p : Policy) × (policy_named program name ≡ Some p) × IsCompactReason program.fields program.topo p r

-- the merged tables that compiling the name gives, which carry its policy, with what tells their tags apart
abbrev pub IsCompacted : Program → List ℕ → Compact → Type 0
IsCompacted program name c =
    (p : Policy) × (policy_named program name ≡ Some p) × IsCompactOf program.fields program.topo p c × Carries program p c.tables

-- these, or why there are none; memory may run out at any point
abbrev pub AnswersCompact : Program → List ℕ → Result Compact CompileError → Type 0
AnswersCompact program name (Ok c) = IsCompacted program name c
AnswersCompact program name (Err NoMemory) = ⊤
AnswersCompact program name (Err (Refused r)) = IsCompactRefused program name r

-- the tag sets have no more classes than the tag has values above 0
abbrev pub HasFewClasses : FieldTable → Topology → Policy → Type 0
HasFewClasses fields topo p =
    (tags : List (List ℕ)) × (classes : List ℕ) × AreTags p (IsStartPacket fields topo) tags × AreTagClasses fields p tags classes
    × ((i : ℕ) → slice_index classes i ≤ most_tags fields fields.tag)

-- the name's policy can be compiled with these tags
abbrev pub AcceptsCompact : Program → List ℕ → Type 0
AcceptsCompact program name =
    (p : Policy) × (policy_named program name ≡ Some p) × IsCompilable program.fields program.topo p × HasFewClasses program.fields program.topo p
