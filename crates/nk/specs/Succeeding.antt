-- Which status is exactly the answer to which bytes, by command: what `Done` stands for, and what `Differs` does.
use Rattle.std.specs.Prelude.{◌≡◌, ◌⊎◌, ◌≤◌, ◌+◌, ℕ, ⊤, Bool, true, false, List, length, codes, Some, None, Ok, slice_index, map, All}
use Rattle.nk_field.specs.declared.packet.Packet.{Packet}
use Rattle.nk_field.specs.Texts.{packet_of}
use Rattle.nk_topo.specs.Topology.{is_port}
use Rattle.nk_policy.specs.After.{drop_policy}
use Rattle.nk_policy.specs.Policy.{Policy, marked_from, dups_of, size_of}
use Rattle.nk_names.specs.declared.Program.{Program}
use Rattle.nk_names.specs.ProgramOf.{program_by}
use Rattle.nk_names.specs.Accepted.{IsAccepted}
use Rattle.nk_names.specs.Named.{policy_named}
use Rattle.nk_gen.specs.Text.{generated}
use Rattle.nk_table.specs.declared.Tables.{Tables}
use Rattle.nk_tabtext.specs.Values.{tables_of}
use Rattle.nk_compile.specs.Headline.{IsAcceptedByName}
use Rattle.nk_compile.specs.PairAnswers.{FitTogether}
use Rattle.nk_compact.specs.Compacted.{AcceptsCompact}
use Rattle.nk_cert.specs.Certificates.{CertificateValue, IsCertificate}
use Rattle.nk_cert.specs.Equality.{AreSame}
use Rattle.nk_query.specs.Asked.{Asked, apart, waypoint, Question, NoneBreaks}
use Rattle.nk_query.specs.Answers.{IsNamedQuestion, asked_policy}
use Rattle.nk_static.specs.StaticFaults.{static_fault_of}
use Rattle.nk_virtual.specs.Physical.{physical}
use Rattle.nk_virtual.specs.Reasons.{IsUsable}
use Rattle.nk_words.specs.Words.{command_of}
use Rattle.nk_words.specs.declared.words.Command.{Command}
use Rattle.nk_words.specs.declared.words.Command.TheVariants.{Compile, Trace, Equal, Check, Fly}
use Rattle.nk_words.specs.declared.words.Command.TheVariants.{Apart, Waypoint, CheckApart, CheckWaypoint, Gen, Job, Update, Compact, Virtual}
use Rattle.nk_reply.specs.declared.status.Status.{Status}
use Rattle.nk_reply.specs.declared.status.Status.TheVariants.{Done, Differs, NoMemory}
use Rattle.nk_reply.specs.Answer.{limit}
use Rattle.nk.specs.Answer.{reads}
use Rattle.nk_verify_commands.specs.CertifiedText.{HoldsCertificate}
use Rattle.nk_verify_commands.specs.Comparing.{AreNamed}
use Rattle.nk_input.specs.ProgramText.{Declares}
use Rattle.nk_reply.specs.Use.{HasRisen, Use}

-- the bytes are a program's text, and the program accepts its policy of this name
pub record AcceptsNamed (name bytes : List ℕ) : Type 0 where
  pub program : Program
  pub declared : Declares bytes (program_by program)
  pub accepted : IsAcceptedByName program name

-- the bytes are a program's text, and the program accepts its policy of this name where tag sets whose states give the same histories share
-- a tag
pub record AcceptsMerged (name bytes : List ℕ) : Type 0 where
  pub program : Program
  pub declared : Declares bytes (program_by program)
  pub accepted : AcceptsCompact program name

-- The bytes are a program's text with a tag and with a policy of this name. Nothing is seen of the fabrics over the declared links,
-- and each carries its virtual link; nothing is seen of the policy over the virtual links. Its physical policy has at most 1,048,576
-- elements, and the program accepts it.
pub record AcceptsVirtual (name bytes : List ℕ) : Type 0 where
  pub program : Program
  pub declared : Declares bytes (program_by program)
  pub policy : Policy
  pub named : policy_named program name ≡ Some policy
  pub tag : ℕ
  pub tag_declared : program.fields.tag ≡ Some tag
  pub usable : All (IsUsable program.fields program.topo tag) program.virtuals
  pub plain : static_fault_of tag (map (λ k. k.ends) program.virtuals) policy ≡ None
  pub small : size_of (physical program.virtuals policy) ≤ 1048576
  pub accepted : IsAccepted program (marked_from (physical program.virtuals policy) 1)

-- The bytes are a program's text, the program accepts both of its policies of these names, the tags of both together are no
-- more than the tag has values above 0, and the word gives a packet at one of the program's ports.
pub record AcceptsUpdate (old new word bytes : List ℕ) : Type 0 where
  pub program : Program
  pub declared : Declares bytes (program_by program)
  pub old_policy : Policy
  pub new_policy : Policy
  pub named : AreNamed program old new old_policy new_policy
  pub accepted_old : IsAccepted program old_policy
  pub accepted_new : IsAccepted program new_policy
  pub fit : FitTogether program.fields program.topo old_policy new_policy
  pub packet : Packet
  pub given : packet_of program.fields word ≡ Ok packet
  pub at_port : is_port program.topo (slice_index packet 0) (slice_index packet 1) ≡ true

-- the bytes are a program's text, and it has policies of both names, of which this holds
pub record HavePolicies (left right bytes : List ℕ) (Property : Program → Policy → Policy → Type 0) : Type 0 where
  pub program : Program
  pub declared : Declares bytes (program_by program)
  pub left_policy : Policy
  pub right_policy : Policy
  pub named : AreNamed program left right left_policy right_policy
  pub holds : Property program left_policy right_policy

-- the bytes are a program's text with a certificate, and it has policies of both names, of which and of the certificate this holds
pub record HaveCertified (left right bytes : List ℕ) (Property : Program → Policy → Policy → CertificateValue → Type 0) : Type 0 where
  pub program : Program
  pub certificate : CertificateValue
  pub held : HoldsCertificate bytes (program_by program) certificate
  pub left_policy : Policy
  pub right_policy : Policy
  pub named : AreNamed program left right left_policy right_policy
  pub holds : Property program left_policy right_policy certificate

-- the bytes are a program's text, and of the question of these names, which can be made, this holds
pub record HasQuestion (asked : Asked) (bytes : List ℕ) (Property : Program → Question → Type 0) : Type 0 where
  pub program : Program
  pub declared : Declares bytes (program_by program)
  pub question : Question
  pub named : IsNamedQuestion program asked question
  pub holds : Property program question

-- so it is of a text with a certificate
pub record HasCertifiedQuestion (asked : Asked) (bytes : List ℕ) (Property : Program → Question → CertificateValue → Type 0) : Type 0 where
  pub program : Program
  pub certificate : CertificateValue
  pub held : HoldsCertificate bytes (program_by program) certificate
  pub question : Question
  pub named : IsNamedQuestion program asked question
  pub holds : Property program question certificate

-- the bytes are a program's text that accepts its policies `go` and `cast`, and this holds of its policies `go` and `same`
pub record HasJob (bytes : List ℕ) (Property : Program → Policy → Policy → Type 0) : Type 0 where
  pub go : AcceptsNamed (codes "go") bytes
  pub cast : AcceptsNamed (codes "cast") bytes
  pub compared : HavePolicies (codes "go") (codes "same") bytes Property

-- the bytes are a table text, and the word gives a packet at one of its ports
pub record HasLocated (word bytes : List ℕ) : Type 0 where
  pub tables : Tables
  pub declared : tables_of bytes ≡ Ok tables
  pub packet : Packet
  pub given : packet_of tables.fields word ≡ Ok packet
  pub at_port : is_port tables.topo (slice_index packet 0) (slice_index packet 1) ≡ true

-- the policies give the same histories on every packet
abbrev pub GiveSame : Program → Policy → Policy → Type 0
GiveSame program p q = AreSame program.fields p q

-- it is a certificate of the two, the dups of the right one numbered on from the left one's
abbrev pub AreCertified : Program → Policy → Policy → CertificateValue → Type 0
AreCertified program p q c = IsCertificate program.fields p (marked_from q (1 + dups_of p)) c

-- no history breaks the query
abbrev pub IsUnbroken : Program → Question → Type 0
IsUnbroken program question = NoneBreaks program.fields question

-- it is a certificate of the question and `drop`
abbrev pub IsCertified : Program → Question → CertificateValue → Type 0
IsCertified program question c = IsCertificate program.fields (asked_policy question) drop_policy c

-- the command is done over these bytes
abbrev pub IsDone : Command → List ℕ → Type 0
IsDone (Compile name) bytes = AcceptsNamed name bytes
IsDone (Trace hops packet) bytes = HasLocated packet bytes
IsDone (Fly seed steps packet) bytes = HasLocated packet bytes
IsDone (Equal left right) bytes = HavePolicies left right bytes GiveSame
IsDone (Check left right) bytes = HaveCertified left right bytes AreCertified
IsDone (Apart name from target) bytes = HasQuestion (apart name from target) bytes IsUnbroken
IsDone (Waypoint name from middle target) bytes = HasQuestion (waypoint name from middle target) bytes IsUnbroken
IsDone (CheckApart name from target) bytes = HasCertifiedQuestion (apart name from target) bytes IsCertified
IsDone (CheckWaypoint name from middle target) bytes = HasCertifiedQuestion (waypoint name from middle target) bytes IsCertified
IsDone (Gen size seed) bytes = ⊤
IsDone (Job size seed) bytes = HasJob (generated size seed) GiveSame
IsDone (Update old new seed steps packet) bytes = AcceptsUpdate old new packet bytes
IsDone (Compact name) bytes = AcceptsMerged name bytes
IsDone (Virtual name) bytes = AcceptsVirtual name bytes

-- the command differs over these bytes: the policies don't give the same histories, some history breaks the query, or what the
-- text holds is no certificate
abbrev pub IsOtherwise : Command → List ℕ → Type 0
IsOtherwise (Compile name) bytes = ⊥
IsOtherwise (Trace hops packet) bytes = ⊥
IsOtherwise (Fly seed steps packet) bytes = ⊥
IsOtherwise (Equal left right) bytes = HavePolicies left right bytes (λ program p q. ¬ GiveSame program p q)
IsOtherwise (Check left right) bytes = HaveCertified left right bytes (λ program p q c. ¬ AreCertified program p q c)
IsOtherwise (Apart name from target) bytes = HasQuestion (apart name from target) bytes (λ program x. ¬ IsUnbroken program x)
IsOtherwise (Waypoint name from middle target) bytes =
    HasQuestion (waypoint name from middle target) bytes (λ program x. ¬ IsUnbroken program x)
IsOtherwise (CheckApart name from target) bytes =
    HasCertifiedQuestion (apart name from target) bytes (λ program x c. ¬ IsCertified program x c)
IsOtherwise (CheckWaypoint name from middle target) bytes =
    HasCertifiedQuestion (waypoint name from middle target) bytes (λ program x c. ¬ IsCertified program x c)
IsOtherwise (Gen size seed) bytes = ⊥
IsOtherwise (Job size seed) bytes = HasJob (generated size seed) (λ program p q. ¬ GiveSame program p q)
IsOtherwise (Update old new seed steps packet) bytes = ⊥
IsOtherwise (Compact name) bytes = ⊥
IsOtherwise (Virtual name) bytes = ⊥

-- the status is `Done` exactly where the command is done over these bytes, and `Differs` exactly where it differs, but for want of
-- memory
pub record IsStatusOf (command : Command) (bytes : List ℕ) (s : Status) : Type 0 where
  pub done : IsDone command bytes → (s ≡ Done) ⊎ (s ≡ NoMemory)
  pub done_only : s ≡ Done → IsDone command bytes
  pub differs : IsOtherwise command bytes → (s ≡ Differs) ⊎ (s ≡ NoMemory)
  pub differs_only : s ≡ Differs → IsOtherwise command bytes

-- the bytes are all that the source tells to have left, at most as many as an input has, where the command reads; else any
abbrev pub IsOffered : Bool → Use → List ℕ → Type 0
IsOffered true source bytes = (source.old ≡ Some bytes) × (length bytes ≤ limit)
IsOffered false source bytes = ⊤

-- where the words are a command, these bytes are given to it, and no count rose
abbrev pub Succeeds : List (List ℕ) → Use → Use → Use → Status → Type 0
Succeeds words source out err s = (command : Command) (bytes : List ℕ)
    → command_of words ≡ Some command → IsOffered (reads command) source bytes
    → ¬ HasRisen source → ¬ HasRisen out → ¬ HasRisen err → IsStatusOf command bytes s
