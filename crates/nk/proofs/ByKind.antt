-- Which outcome is the answer to which bytes: the conditions of `Done` and of `Differs` exclude each other and every refusal.
use Rattle.std.proofs.Common.{◌≡◌, ◌+◌, ℕ, List, refl, sym, subst, ◌∙◌, Bool, true, false, MatchBool}
use Rattle.std.specs.Prelude.{codes, Ok, Err, slice_index}
use Rattle.std.specs.declared.result.Result.{Result}
use Rattle.nk_field.specs.Packet.{FieldTable}
use Rattle.nk_field.specs.Texts.{packet_of}
use Rattle.nk_field.specs.declared.packet.Packet.{Packet}
use Rattle.nk_field.specs.declared.reading.PacketError.{PacketError}
use Rattle.nk_field.specs.declared.reading.PacketError.TheVariants as reading
use Rattle.nk_topo.specs.Topology.{is_port}
use Rattle.nk_policy.specs.After.{drop_policy}
use Rattle.nk_policy.specs.Policy.{Policy, marked_from, dups_of}
use Rattle.nk_names.specs.declared.Program.{Program}
use Rattle.nk_names.specs.ProgramOf.{program_by}
use Rattle.nk_table.specs.declared.Tables.{Tables}
use Rattle.nk_tabtext.specs.Values.{tables_of}
use Rattle.nk_tabgrammar.specs.declared.written.ReadError.{ReadError}
use Rattle.nk_tabgrammar.specs.declared.written.ReadError.TheVariants as text
use Rattle.nk_cert.specs.Certificates.{CertificateValue, IsCertificate}
use Rattle.nk_cert.specs.Equality.{AreSame}
use Rattle.nk_cert.specs.Verdicts.{RowPart, valid, invalid, IsFinding}
use Rattle.nk_check.proofs.Findings.{one_finding}
use Rattle.nk_query.specs.Asked.{Asked, NoneBreaks}
use Rattle.nk_query.specs.Answers.{asked_policy}
use Rattle.nk_compile.proofs.ReasonByName.{never_refused}
use Rattle.nk_check.proofs.OneAlone.{no_difference}
use Rattle.nk_verify_commands.specs.Asking.{IsAskAnswer}
use Rattle.nk_verify_commands.specs.CertifiedText.{HoldsCertificate}
use Rattle.nk_verify_commands.specs.Checking.{IsCheckAnswer}
use Rattle.nk_verify_commands.specs.Comparing.{IsEqualAnswer}
use Rattle.nk_compile_commands.specs.Compiling.{IsCompileAnswer}
use Rattle.nk_trace_commands.specs.Following.{TableOutcome, ToPacket, ToTables}
use Rattle.nk_verify_commands.specs.Judging.{IsJudgeAnswer}
use Rattle.nk_reply.specs.Outcome.{Outcome, done, differs, text_refused, policy_refused}
use Rattle.nk_input.specs.ProgramText.{Declares}
use Rattle.nk.specs.Succeeding.{AcceptsNamed, HavePolicies, HaveCertified, HasQuestion, HasCertifiedQuestion, HasLocated, GiveSame, AreCertified, IsUnbroken, IsCertified}
use Rattle.nk_trace_commands.specs.Tracing.{ToLocated}
use Rattle.nk_trace_commands.specs.Flying.{ToFlown}
use Rattle.nk.proofs.Alike.{of_named, never_lacking, of_question, never_caused}
use Rattle.nk_input.proofs.OneText.{declares_once, no_fault}
use Rattle.nk.proofs.OneCertifiedText.{holds_once, certificate_once, no_certified_fault}

-- an outcome, where two conditions are those of `Done` and of `Differs`
abbrev pub Kind : Outcome → Type 0 → Type 0 → Type 0
Kind (done t) D X = D × ¬ X
Kind (differs t) D X = X × ¬ D
Kind o D X = (¬ D) × (¬ X)

-- ---- compile

pub compile_kind : (name bytes : List ℕ) (o : Outcome) → IsCompileAnswer name bytes o → Kind o (AcceptsNamed name bytes) ⊥
compile_kind name bytes (text_refused t) h = (λ d. no_fault bytes (program_by d.program) t d.declared h, λ x. x)
compile_kind name bytes (done t) h =
    let made = h.2 in (
      record {
        program = made.program;
        declared = subst (Declares bytes) (sym made.says) h.1;
        accepted = (made.compiled.0, made.compiled.1, made.compiled.2);
      },
      λ x. x,
    )
compile_kind name bytes (differs t) h = absurd h.2
compile_kind name bytes (policy_refused t) h =
    let r = h.2 in (
      λ d. never_refused d.program r.program (declares_once bytes (program_by d.program) h.0 d.declared h.1 ∙ sym r.says) name r.reason d.accepted r.refused,
      λ x. x,
    )

-- ---- equal

module _ (left right bytes : List ℕ) where
  -- of what holds of both policies in two programs of the text
  both_policies : (P : FieldTable → Policy → Policy → Type 0) (H K : Program → Policy → Policy → Type 0)
      → (d : HavePolicies left right bytes H) → (x : HavePolicies left right bytes K)
      → P d.program.fields d.left_policy d.right_policy → P x.program.fields x.left_policy x.right_policy
  both_policies P H K d x h =
      of_named d.program x.program (declares_once bytes (program_by d.program) (program_by x.program) d.declared x.declared) P left right
      d.left_policy d.right_policy x.left_policy x.right_policy d.named x.named h

  abbrev pub Same : Type 0
  Same = HavePolicies left right bytes GiveSame

  abbrev pub Other : Type 0
  Other = HavePolicies left right bytes (λ program p q. ¬ GiveSame program p q)

  pub not_both : Same → Other → ⊥
  not_both d x = x.holds (both_policies AreSame GiveSame (λ program p q. ¬ GiveSame program p q) d x d.holds)

  pub equal_kind : (o : Outcome) → IsEqualAnswer left right bytes o → Kind o Same Other
  equal_kind (text_refused t) h = (λ d. no_fault bytes (program_by d.program) t d.declared h, λ x. no_fault bytes (program_by x.program) t x.declared h)
  equal_kind (done t) h =
      let s = h.2 in
      let d : Same = record {
        program = s.program;
        declared = subst (Declares bytes) (sym s.says) h.1;
        left_policy = s.left_policy;
        right_policy = s.right_policy;
        named = s.named;
        holds = s.tells.related.same;
      } in
      (d, not_both d)
  equal_kind (differs t) h =
      let s = h.2 in
      let x : Other = record {
        program = s.program;
        declared = subst (Declares bytes) (sym s.says) h.1;
        left_policy = s.left_policy;
        right_policy = s.right_policy;
        named = s.named;
        holds = λ same. no_difference s.program.fields s.left_policy s.right_policy s.side s.found same s.least.0;
      } in
      (x, λ d. not_both d x)
  equal_kind (policy_refused t) h =
      let l = h.2 in (
        λ d. never_lacking d.program l.program (declares_once bytes (program_by d.program) h.0 d.declared h.1 ∙ sym l.says) left right d.left_policy d.right_policy d.named l.lacks,
        λ x. never_lacking x.program l.program (declares_once bytes (program_by x.program) h.0 x.declared h.1 ∙ sym l.says) left right x.left_policy x.right_policy x.named l.lacks,
      )

-- ---- check

valid_invalid : (row : ℕ) (part : RowPart) → valid ≡ invalid row part → ⊥
valid_invalid row part e = cc

-- a certificate has no row that fails
never_fails : (fields : FieldTable) (p q : Policy) (c : CertificateValue) (row : ℕ) (part : RowPart)
    → IsFinding fields p q c (invalid row part) → IsCertificate fields p q c → ⊥
never_fails fields p q c row part h k = valid_invalid row part (one_finding fields p q c valid (invalid row part) k h)

module _ (left right bytes : List ℕ) where
  abbrev pub Shown : Type 0
  Shown = HaveCertified left right bytes AreCertified

  abbrev pub Failing : Type 0
  Failing = HaveCertified left right bytes (λ program p q c. ¬ AreCertified program p q c)

  not_both_certified : Shown → Failing → ⊥
  not_both_certified d x =
      x.holds
      (subst (λ c. IsCertificate x.program.fields x.left_policy (marked_from x.right_policy (1 + dups_of x.left_policy)) c)
      (certificate_once bytes (program_by d.program) (program_by x.program) d.certificate x.certificate d.held x.held)
      (of_named d.program x.program (holds_once bytes (program_by d.program) (program_by x.program) d.certificate x.certificate d.held x.held)
      (λ fields p q. IsCertificate fields p (marked_from q (1 + dups_of p)) d.certificate) left right
      d.left_policy d.right_policy x.left_policy x.right_policy d.named x.named d.holds))

  pub check_kind : (o : Outcome) → IsCheckAnswer left right bytes o → Kind o Shown Failing
  check_kind (text_refused t) h = (
    λ d. no_certified_fault bytes (program_by d.program) d.certificate t d.held h,
    λ x. no_certified_fault bytes (program_by x.program) x.certificate t x.held h,
  )
  check_kind (done t) h =
      let f = h.3.found in
      let d : Shown = record {
        program = f.program;
        certificate = h.1;
        held = subst (λ s. HoldsCertificate bytes s h.1) (sym f.says) h.2;
        left_policy = f.left_policy;
        right_policy = f.right_policy;
        named = f.named;
        holds = f.is;
      } in
      (d, not_both_certified d)
  check_kind (differs t) h =
      let v = h.3 in
      let f = v.found in
      let x : Failing = record {
        program = f.program;
        certificate = h.1;
        held = subst (λ s. HoldsCertificate bytes s h.1) (sym f.says) h.2;
        left_policy = f.left_policy;
        right_policy = f.right_policy;
        named = f.named;
        holds = never_fails f.program.fields f.left_policy (marked_from f.right_policy (1 + dups_of f.left_policy)) h.1 v.row v.in_part f.is;
      } in
      (x, λ d. not_both_certified d x)
  check_kind (policy_refused t) h =
      let l = h.3 in (
        λ d. never_lacking d.program l.program (holds_once bytes (program_by d.program) h.0 d.certificate h.1 d.held h.2 ∙ sym l.says) left right d.left_policy d.right_policy d.named l.lacks,
        λ x. never_lacking x.program l.program (holds_once bytes (program_by x.program) h.0 x.certificate h.1 x.held h.2 ∙ sym l.says) left right x.left_policy x.right_policy x.named l.lacks,
      )

-- ---- apart and waypoint

module _ (asked : Asked) (bytes : List ℕ) where
  abbrev pub Held : Type 0
  Held = HasQuestion asked bytes IsUnbroken

  abbrev pub Broken : Type 0
  Broken = HasQuestion asked bytes (λ program x. ¬ IsUnbroken program x)

  not_both_asked : Held → Broken → ⊥
  not_both_asked d x =
      x.holds
      (of_question d.program x.program (declares_once bytes (program_by d.program) (program_by x.program) d.declared x.declared)
      NoneBreaks asked d.question x.question d.named x.named d.holds)

  pub ask_kind : (o : Outcome) → IsAskAnswer asked bytes o → Kind o Held Broken
  ask_kind (text_refused t) h = (λ d. no_fault bytes (program_by d.program) t d.declared h, λ x. no_fault bytes (program_by x.program) t x.declared h)
  ask_kind (done t) h =
      let s = h.2 in
      let d : Held = record {
        program = s.program;
        declared = subst (Declares bytes) (sym s.says) h.1;
        question = s.question;
        named = s.named;
        holds = s.none;
      } in
      (d, not_both_asked d)
  ask_kind (differs t) h =
      let s = h.2 in
      let x : Broken = record {
        program = s.program;
        declared = subst (Declares bytes) (sym s.says) h.1;
        question = s.question;
        named = s.named;
        holds = λ none. none s.found.start s.found.records s.found.last s.least.0.0 s.least.0.1;
      } in
      (x, λ d. not_both_asked d x)
  ask_kind (policy_refused t) h =
      let l = h.2 in (
        λ d. never_caused d.program l.program (declares_once bytes (program_by d.program) h.0 d.declared h.1 ∙ sym l.says) asked d.question l.cause t d.named l.is l.told,
        λ x. never_caused x.program l.program (declares_once bytes (program_by x.program) h.0 x.declared h.1 ∙ sym l.says) asked x.question l.cause t x.named l.is l.told,
      )

-- ---- check_apart and check_waypoint

module _ (asked : Asked) (bytes : List ℕ) where
  abbrev pub Proved : Type 0
  Proved = HasCertifiedQuestion asked bytes IsCertified

  abbrev pub Unproved : Type 0
  Unproved = HasCertifiedQuestion asked bytes (λ program x c. ¬ IsCertified program x c)

  not_both_judged : Proved → Unproved → ⊥
  not_both_judged d x =
      x.holds
      (subst (λ c. IsCertificate x.program.fields (asked_policy x.question) drop_policy c)
      (certificate_once bytes (program_by d.program) (program_by x.program) d.certificate x.certificate d.held x.held)
      (of_question d.program x.program (holds_once bytes (program_by d.program) (program_by x.program) d.certificate x.certificate d.held x.held)
      (λ fields q. IsCertificate fields (asked_policy q) drop_policy d.certificate) asked d.question x.question d.named x.named d.holds))

  pub judge_kind : (o : Outcome) → IsJudgeAnswer asked bytes o → Kind o Proved Unproved
  judge_kind (text_refused t) h = (
    λ d. no_certified_fault bytes (program_by d.program) d.certificate t d.held h,
    λ x. no_certified_fault bytes (program_by x.program) x.certificate t x.held h,
  )
  judge_kind (done t) h =
      let f = h.3.found in
      let d : Proved = record {
        program = f.program;
        certificate = h.1;
        held = subst (λ s. HoldsCertificate bytes s h.1) (sym f.says) h.2;
        question = f.question;
        named = f.named;
        holds = f.is;
      } in
      (d, not_both_judged d)
  judge_kind (differs t) h =
      let v = h.3 in
      let f = v.found in
      let x : Unproved = record {
        program = f.program;
        certificate = h.1;
        held = subst (λ s. HoldsCertificate bytes s h.1) (sym f.says) h.2;
        question = f.question;
        named = f.named;
        holds = never_fails f.program.fields (asked_policy f.question) drop_policy h.1 v.row v.in_part f.is;
      } in
      (x, λ d. not_both_judged d x)
  judge_kind (policy_refused t) h =
      let l = h.3 in (
        λ d. never_caused d.program l.program (holds_once bytes (program_by d.program) h.0 d.certificate h.1 d.held h.2 ∙ sym l.says) asked d.question l.cause t d.named l.is l.told,
        λ x. never_caused x.program l.program (holds_once bytes (program_by x.program) h.0 x.certificate h.1 x.held h.2 ∙ sym l.says) asked x.question l.cause t x.named l.is l.told,
      )

-- ---- trace and fly

-- an outcome that is no refusal
abbrev IsTelling : Outcome → Type 0
IsTelling (done t) = Unit {0}
IsTelling (differs t) = Unit {0}
IsTelling (text_refused t) = ⊥
IsTelling (policy_refused t) = ⊥

text_is : (o : Outcome) (y : List ℕ) → IsTelling o → o ≡ text_refused y → ⊥
text_is o y h e = subst IsTelling e h

policy_is : (o : Outcome) (y : List ℕ) → IsTelling o → o ≡ policy_refused y → ⊥
policy_is o y h e = subst IsTelling e h

-- a packet at a port
record IsLocated (tells : TableOutcome) (word bytes : List ℕ) (o : Outcome) : Type 0 where
  located : HasLocated word bytes
  told : tells located.tables located.packet o

module _ (tells : TableOutcome) (word bytes : List ℕ) where
  by_port : (t : Tables) (pk : Packet) (o : Outcome) (b : Bool) → is_port t.topo (slice_index pk 0) (slice_index pk 1) ≡ b
      → tables_of bytes ≡ Ok t → packet_of t.fields word ≡ Ok pk → IsTelling o → (y : List ℕ)
      → MatchBool b (tells t pk o) (o ≡ policy_refused y) → IsLocated tells word bytes o
  by_port t pk o true at declared given telling y h = record {
    located = record { tables = t; declared = declared; packet = pk; given = given; at_port = at };
    told = h;
  }
  by_port t pk o false at declared given telling y h = absurd (policy_is o y telling h)

  by_packet : (t : Tables) (o : Outcome) (r : Result Packet PacketError) → packet_of t.fields word ≡ r
      → tables_of bytes ≡ Ok t → IsTelling o → ToPacket tells t r o → IsLocated tells word bytes o
  by_packet t o (Ok pk) given declared telling h = by_port t pk o _ refl declared given telling _ h
  by_packet t o (Err (reading.BadPacket n)) given declared telling h = absurd (policy_is o _ telling h)
  by_packet t o (Err reading.NoMemory) given declared telling h = absurd h

  -- what is told is told of a packet at a port
  by_tables : (o : Outcome) (r : Result Tables ReadError) → tables_of bytes ≡ r → IsTelling o → ToTables tells r word o → IsLocated tells word bytes o
  by_tables o (Ok t) declared telling h = by_packet t o _ refl declared telling h
  by_tables o (Err text.NoMemory) declared telling h = absurd h
  by_tables o r declared telling h = absurd (text_is o _ telling h)

  -- of a packet at a port the answer is what is told of it
  told_there : (o : Outcome) (d : HasLocated word bytes) → ToTables tells (tables_of bytes) word o → tells d.tables d.packet o
  told_there o d h =
      let at = subst (λ r. ToTables tells r word o) d.declared h in
      let of = subst (λ r. ToPacket tells d.tables r o) d.given at in
      subst (λ b. MatchBool b (tells d.tables d.packet o) (o ≡ policy_refused (codes "refused C10: off port\n"))) d.at_port of

pub trace_kind : (hops : ℕ) (word bytes : List ℕ) (o : Outcome) → ToTables (ToLocated hops) (tables_of bytes) word o → Kind o (HasLocated word bytes) ⊥
trace_kind hops word bytes (done t) h = ((by_tables (ToLocated hops) word bytes (done t) (tables_of bytes) refl tt h).located, λ x. x)
trace_kind hops word bytes (differs t) h = absurd (by_tables (ToLocated hops) word bytes (differs t) (tables_of bytes) refl tt h).told
trace_kind hops word bytes (text_refused t) h = (λ d. told_there (ToLocated hops) word bytes (text_refused t) d h, λ x. x)
trace_kind hops word bytes (policy_refused t) h = (λ d. told_there (ToLocated hops) word bytes (policy_refused t) d h, λ x. x)

pub fly_kind : (seed steps : ℕ) (word bytes : List ℕ) (o : Outcome) → ToTables (ToFlown seed steps) (tables_of bytes) word o → Kind o (HasLocated word bytes) ⊥
fly_kind seed steps word bytes (done t) h = ((by_tables (ToFlown seed steps) word bytes (done t) (tables_of bytes) refl tt h).located, λ x. x)
fly_kind seed steps word bytes (differs t) h =
    absurd (never_flown (by_tables (ToFlown seed steps) word bytes (differs t) (tables_of bytes) refl tt h).told)
  where
    never_flown : {y : List ℕ} → differs t ≡ done y → ⊥
    never_flown e = cc
fly_kind seed steps word bytes (text_refused t) h = (λ d. never_flown (told_there (ToFlown seed steps) word bytes (text_refused t) d h), λ x. x)
  where
    never_flown : {y : List ℕ} → text_refused t ≡ done y → ⊥
    never_flown e = cc
fly_kind seed steps word bytes (policy_refused t) h = (λ d. never_flown (told_there (ToFlown seed steps) word bytes (policy_refused t) d h), λ x. x)
  where
    never_flown : {y : List ℕ} → policy_refused t ≡ done y → ⊥
    never_flown e = cc
