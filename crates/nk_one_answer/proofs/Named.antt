-- What is answered of a name, of two names and of a query, over the bytes of a text, is one.
use Rattle.std.proofs.Common.{◌≡◌, ℕ, ⊎_elim, List, sym, ap, subst, ◌∙◌}
use Rattle.std.specs.Prelude.{codes}
use Rattle.nk_field.specs.Packet.{FieldTable, IsFieldTable}
use Rattle.nk_names.specs.declared.Program.{Program}
use Rattle.nk_names.specs.ProgramOf.{DeclaredProgram, program_by}
use Rattle.nk_names.specs.ReadBack.{DeclaresWritable}
use Rattle.nk_tabtext.specs.Text.{table_bytes}
use Rattle.nk_cert.specs.Certificates.{CertificateValue}
use Rattle.nk_cert.specs.Verdicts.{Finding, valid, invalid}
use Rattle.nk_certtext.specs.Text.{cert_bytes}
use Rattle.nk_query.specs.Asked.{Asked}
use Rattle.nk_query.specs.declared.error.QueryError.{QueryError}
use Rattle.nk_query.specs.declared.error.QueryError.TheVariants as query
use Rattle.nk_uniqueness.specs.Packets.{HavePackets}
use Rattle.nk_uniqueness.specs.Queried.{Queried, holding, breaking, IsFoundOfNamed}
use Rattle.nk_uniqueness.specs.Texts.{TextsHavePackets}
use Rattle.nk_uniqueness.specs.Told.{Told, certified, alone, IsToldFor, IsFoundFor}
use Rattle.nk_names.proofs.Alike.{fields_alike}
use Rattle.nk_uniqueness.proofs.Asking.{one_cause, one_told_of_named, one_found_of_named}
use Rattle.nk_compile.proofs.ReasonByName.{never_refused, one_refusal}
use Rattle.nk_uniqueness.proofs.ByName.{one_compiled}
use Rattle.nk_uniqueness.proofs.Comparing.{OnePrinted, OneFinding, one_told_for, none_told, one_found_for, none_found}
use Rattle.nk_verify_commands.specs.Asking.{IsHeldQuery, IsBroken, LacksQuestion, IsAskAnswer, broken_lines}
use Rattle.nk_verify_commands.specs.CertifiedText.{HoldsCertificate, HasCertifiedFault}
use Rattle.nk_verify_commands.specs.Checking.{IsValid, IsInvalid, IsFound, IsCheckAnswer, invalid_line}
use Rattle.nk_verify_commands.specs.Comparing.{IsSame, IsDifference, LacksPolicy, IsEqualAnswer, difference_lines}
use Rattle.nk_compile_commands.specs.Compiling.{IsCompiledText, IsRefusal, IsCompileAnswer}
use Rattle.nk_verify_commands.specs.Judging.{IsValidFor, IsInvalidFor, IsJudgeAnswer}
use Rattle.nk_verify_commands.specs.Judging.{IsFoundForAsked}
use Rattle.nk_verify_commands.specs.Messages.{TellsQuery}
use Rattle.nk_compile_commands.specs.Messages.{refusal_line}
use Rattle.nk_reply.specs.Outcome.{Outcome, done}
use Rattle.nk_input.specs.ProgramText.{Declares, HasFault}
use Rattle.nk.proofs.Alike.{never_caused}
use Rattle.nk_input.proofs.OneText.{declares_once, no_fault, one_fault}
use Rattle.nk.proofs.OneCertifiedText.{holds_once, certificate_once, no_certified_fault, one_certified_fault}
use Rattle.nk_one_answer.proofs.Outcomes.{AreApart, IsKind, one_kind}

-- a text declares this, of which that is so
abbrev pub Declared : List ℕ → (DeclaredProgram → List ℕ → Type 0) → List ℕ → Type 0
Declared bytes P text = (said : DeclaredProgram) × Declares bytes said × P said text

-- a text with a certificate declares this, and of both that is so
abbrev Certified : List ℕ → (DeclaredProgram → CertificateValue → List ℕ → Type 0) → List ℕ → Type 0
Certified bytes P text = (said : DeclaredProgram) × (c : CertificateValue) × HoldsCertificate bytes said c × P said c text

-- programs that say what the text declares say the same
pub alike : (bytes : List ℕ) (s t : DeclaredProgram) → Declares bytes s → Declares bytes t → (program other : Program)
    → program_by program ≡ s → program_by other ≡ t → program_by program ≡ program_by other
alike bytes s t d k program other h e = h ∙ declares_once bytes s t d k ∙ sym e

certified_alike : (bytes : List ℕ) (s t : DeclaredProgram) (c e : CertificateValue) → HoldsCertificate bytes s c → HoldsCertificate bytes t e → (program other : Program)
    → program_by program ≡ s → program_by other ≡ t → program_by program ≡ program_by other
certified_alike bytes s t c e d k program other h f = h ∙ holds_once bytes s t c e d k ∙ sym f

-- their fields are a field table
pub table_of : DeclaresWritable → (bytes : List ℕ) (s : DeclaredProgram) → Declares bytes s → (program : Program) → program_by program ≡ s → IsFieldTable program.fields
table_of law bytes s d program says =
    subst (λ (t : DeclaredProgram). IsFieldTable t.fields) (sym says) (law bytes d.tokens d.declarations s d.cut d.read d.means).table

-- and packets can be at their switches
pub packets_of : TextsHavePackets → (bytes : List ℕ) (s : DeclaredProgram) → Declares bytes s → (program : Program) → program_by program ≡ s → HavePackets program.fields program.topo
packets_of law bytes s d program says =
    subst (λ (t : DeclaredProgram). HavePackets t.fields t.topo) (sym says) (law bytes d.tokens d.declarations s d.cut d.read d.means)

-- ---- compile

module _ (packets : TextsHavePackets) (name bytes : List ℕ) where
  abbrev Made : List ℕ → Type 0
  Made = Declared bytes (λ said text. IsCompiledText said name text)

  abbrev Kept : List ℕ → Type 0
  Kept = Declared bytes (λ said text. IsRefusal said name text)

  abbrev Nothing : List ℕ → Type 0
  Nothing = Declared bytes (λ said text. ⊥)

  one_made : (x y : List ℕ) → Made x → Made y → x ≡ y
  one_made x y h k =
      let m = h.2 in
      let n = k.2 in
      let same = alike bytes h.0 k.0 h.1 k.1 m.program n.program m.says n.says in
      let tables = one_compiled m.program n.program same name m.tables n.tables (packets_of packets bytes h.0 h.1 m.program m.says) m.compiled n.compiled in
      m.printed ∙ ap table_bytes tables ∙ sym n.printed

  one_kept : (x y : List ℕ) → Kept x → Kept y → x ≡ y
  one_kept x y h k =
      let m = h.2 in
      let n = k.2 in
      let same = alike bytes h.0 k.0 h.1 k.1 m.program n.program m.says n.says in
      let fields : m.program.fields ≡ n.program.fields = fields_alike m.program n.program same in
      let reason : m.reason ≡ n.reason = one_refusal m.program n.program same name m.reason n.reason m.refused n.refused in
      m.told ∙ ap (λ f. refusal_line f m.reason) fields ∙ ap (refusal_line n.program.fields) reason ∙ sym n.told

  made_kept : (x y : List ℕ) → Made x → Kept y → ⊥
  made_kept x y h k =
      let m = h.2 in
      let n = k.2 in
      let same = alike bytes h.0 k.0 h.1 k.1 m.program n.program m.says n.says in
      never_refused m.program n.program same name n.reason (m.compiled.0, m.compiled.1, m.compiled.2) n.refused

  compiled_apart : AreApart (HasFault bytes) Made Nothing Kept
  compiled_apart = record {
    one_fault = one_fault bytes;
    one_held = one_made;
    one_other = λ x y h k. absurd h.2;
    one_lacking = one_kept;
    held_fault = λ x y h k. no_fault bytes h.0 y h.1 k;
    other_fault = λ x y h k. h.2;
    lacking_fault = λ x y h k. no_fault bytes h.0 y h.1 k;
    held_other = λ x y h k. k.2;
    held_lacking = made_kept;
    other_lacking = λ x y h k. h.2;
  }

  compiled_kind : (o : Outcome) → IsCompileAnswer name bytes o → IsKind (HasFault bytes) Made Nothing Kept o
  compiled_kind (done t) h = h
  compiled_kind o h = h

  pub one_compile : (o p : Outcome) → IsCompileAnswer name bytes o → IsCompileAnswer name bytes p → o ≡ p
  one_compile o p h k = one_kind (HasFault bytes) Made Nothing Kept compiled_apart o p (compiled_kind o h) (compiled_kind p k)

-- ---- equal

-- the text of what is told
abbrev told_text : FieldTable → Told → List ℕ
told_text fields (certified c) = cert_bytes fields c
told_text fields (alone side f) = difference_lines fields side f

-- whether it is a certificate
abbrev IsShown : Told → Type 0
IsShown (certified c) = Unit {0}
IsShown (alone side f) = ⊥

module _ (printed : OnePrinted) (writable : DeclaresWritable) (left right bytes : List ℕ) where
  -- what is told by a program that says what the text declares
  record TellsIn (told : Told) (text : List ℕ) : Type 0 where
    said : DeclaredProgram
    declared : Declares bytes said
    program : Program
    says : program_by program ≡ said
    is : IsToldFor program left right told
    written : text ≡ told_text program.fields told

  one_telling : (a b : Told) (x y : List ℕ) → TellsIn a x → TellsIn b y → (a ≡ b) × (x ≡ y)
  one_telling a b x y h k =
      let same = alike bytes h.said k.said h.declared k.declared h.program k.program h.says k.says in
      let table = table_of writable bytes h.said h.declared h.program h.says in
      let e : a ≡ b = one_told_for h.program k.program same left right printed table a b h.is k.is in
      (e, h.written ∙ ap (λ f. told_text f a) (fields_alike h.program k.program same) ∙ ap (told_text k.program.fields) e ∙ sym k.written)

  abbrev SameText : List ℕ → Type 0
  SameText = Declared bytes (λ said text. IsSame said left right text)

  abbrev OtherText : List ℕ → Type 0
  OtherText = Declared bytes (λ said text. IsDifference said left right text)

  abbrev LackingText : List ℕ → Type 0
  LackingText = Declared bytes (λ said text. LacksPolicy said left right text)

  same_told : (x : List ℕ) (h : SameText x) → TellsIn (certified h.2.tells.certificate) x
  same_told x h =
      let s = h.2 in
      record {
        said = h.0;
        declared = h.1;
        program = s.program;
        says = s.says;
        is = (s.left_policy, s.right_policy, s.named.left_is, s.named.right_is, s.tells.related);
        written = s.tells.told;
      }

  other_told : (x : List ℕ) (h : OtherText x) → TellsIn (alone h.2.side h.2.found) x
  other_told x h =
      let s = h.2 in
      record {
        said = h.0;
        declared = h.1;
        program = s.program;
        says = s.says;
        is = (s.left_policy, s.right_policy, s.named.left_is, s.named.right_is, s.least);
        written = s.told;
      }

  told_lacking : (a : Told) (x y : List ℕ) → TellsIn a x → LackingText y → ⊥
  told_lacking a x y h k =
      let l = k.2 in
      none_told h.program l.program (alike bytes h.said k.0 h.declared k.1 h.program l.program h.says l.says) left right a h.is l.lacks

  compared_apart : AreApart (HasFault bytes) SameText OtherText LackingText
  compared_apart = record {
    one_fault = one_fault bytes;
    one_held = λ x y h k. (one_telling _ _ x y (same_told x h) (same_told y k)).1;
    one_other = λ x y h k. (one_telling _ _ x y (other_told x h) (other_told y k)).1;
    one_lacking = λ x y h k. h.2.told ∙ sym k.2.told;
    held_fault = λ x y h k. no_fault bytes h.0 y h.1 k;
    other_fault = λ x y h k. no_fault bytes h.0 y h.1 k;
    lacking_fault = λ x y h k. no_fault bytes h.0 y h.1 k;
    held_other = λ x y h k. subst IsShown (one_telling _ _ x y (same_told x h) (other_told y k)).0 tt;
    held_lacking = λ x y h k. told_lacking _ x y (same_told x h) k;
    other_lacking = λ x y h k. told_lacking _ x y (other_told x h) k;
  }

  compared_kind : (o : Outcome) → IsEqualAnswer left right bytes o → IsKind (HasFault bytes) SameText OtherText LackingText o
  compared_kind (done t) h = h
  compared_kind o h = h

  pub one_equal : (o p : Outcome) → IsEqualAnswer left right bytes o → IsEqualAnswer left right bytes p → o ≡ p
  one_equal o p h k = one_kind (HasFault bytes) SameText OtherText LackingText compared_apart o p (compared_kind o h) (compared_kind p k)

-- ---- check

-- the text of what is found
abbrev finding_text : Finding → List ℕ
finding_text valid = codes "valid\n"
finding_text (invalid row part) = invalid_line row part

abbrev IsValidFinding : Finding → Type 0
IsValidFinding valid = Unit {0}
IsValidFinding (invalid row part) = ⊥

module _ (finding : OneFinding) (left right bytes : List ℕ) where
  record FindsIn (v : Finding) (text : List ℕ) : Type 0 where
    said : DeclaredProgram
    certificate : CertificateValue
    held : HoldsCertificate bytes said certificate
    program : Program
    says : program_by program ≡ said
    is : IsFoundFor program left right certificate v
    written : text ≡ finding_text v

  one_find : (v w : Finding) (x y : List ℕ) → FindsIn v x → FindsIn w y → (v ≡ w) × (x ≡ y)
  one_find v w x y h k =
      let same = certified_alike bytes h.said k.said h.certificate k.certificate h.held k.held h.program k.program h.says k.says in
      let cert = certificate_once bytes h.said k.said h.certificate k.certificate h.held k.held in
      let e : v ≡ w =
      one_found_for h.program k.program same left right finding h.certificate v w h.is
      (subst (λ c. IsFoundFor k.program left right c w) (sym cert) k.is) in
      (e, h.written ∙ ap finding_text e ∙ sym k.written)

  abbrev ValidText : List ℕ → Type 0
  ValidText = Certified bytes (λ said c text. IsValid said left right c text)

  abbrev InvalidText : List ℕ → Type 0
  InvalidText = Certified bytes (λ said c text. IsInvalid said left right c text)

  abbrev LackingBoth : List ℕ → Type 0
  LackingBoth = Certified bytes (λ said c text. LacksPolicy said left right text)

  found_in : (said : DeclaredProgram) (c : CertificateValue) (v : Finding) (x : List ℕ) → HoldsCertificate bytes said c → IsFound said left right c v → x ≡ finding_text v → FindsIn v x
  found_in said c v x held f written = record {
    said = said;
    certificate = c;
    held = held;
    program = f.program;
    says = f.says;
    is = (f.left_policy, f.right_policy, f.named.left_is, f.named.right_is, f.is);
    written = written;
  }

  valid_found : (x : List ℕ) → ValidText x → FindsIn valid x
  valid_found x h = found_in h.0 h.1 valid x h.2 h.3.found h.3.told

  invalid_found : (x : List ℕ) (h : InvalidText x) → FindsIn (invalid h.3.row h.3.in_part) x
  invalid_found x h = found_in h.0 h.1 (invalid h.3.row h.3.in_part) x h.2 h.3.found h.3.told

  found_lacking : (v : Finding) (x y : List ℕ) → FindsIn v x → LackingBoth y → ⊥
  found_lacking v x y h k =
      let l = k.3 in
      none_found h.program l.program
      (certified_alike bytes h.said k.0 h.certificate k.1 h.held k.2 h.program l.program h.says l.says) left right h.certificate v h.is l.lacks

  checked_apart : AreApart (HasCertifiedFault bytes) ValidText InvalidText LackingBoth
  checked_apart = record {
    one_fault = one_certified_fault bytes;
    one_held = λ x y h k. (one_find _ _ x y (valid_found x h) (valid_found y k)).1;
    one_other = λ x y h k. (one_find _ _ x y (invalid_found x h) (invalid_found y k)).1;
    one_lacking = λ x y h k. h.3.told ∙ sym k.3.told;
    held_fault = λ x y h k. no_certified_fault bytes h.0 h.1 y h.2 k;
    other_fault = λ x y h k. no_certified_fault bytes h.0 h.1 y h.2 k;
    lacking_fault = λ x y h k. no_certified_fault bytes h.0 h.1 y h.2 k;
    held_other = λ x y h k. subst IsValidFinding (one_find _ _ x y (valid_found x h) (invalid_found y k)).0 tt;
    held_lacking = λ x y h k. found_lacking _ x y (valid_found x h) k;
    other_lacking = λ x y h k. found_lacking _ x y (invalid_found x h) k;
  }

  checked_kind : (o : Outcome) → IsCheckAnswer left right bytes o → IsKind (HasCertifiedFault bytes) ValidText InvalidText LackingBoth o
  checked_kind (done t) h = h
  checked_kind o h = h

  pub one_check : (o p : Outcome) → IsCheckAnswer left right bytes o → IsCheckAnswer left right bytes p → o ≡ p
  one_check o p h k = one_kind (HasCertifiedFault bytes) ValidText InvalidText LackingBoth checked_apart o p (checked_kind o h) (checked_kind p k)

-- ---- why a query isn't asked

told_once : (cause : QueryError) (x y : List ℕ) → TellsQuery cause x → TellsQuery cause y → x ≡ y
told_once query.NoMemory x y h k = absurd h
told_once cause x y h k = h ∙ sym k

untold : (cause : QueryError) (x : List ℕ) → cause ≡ query.NoMemory → TellsQuery cause x → ⊥
untold cause x e h = subst (λ c. TellsQuery c x) e h

one_lack : (asked : Asked) (s t : DeclaredProgram) (x y : List ℕ) → s ≡ t → LacksQuestion s asked x → LacksQuestion t asked y → x ≡ y
one_lack asked s t x y e h k =
    ⊎_elim
    (λ n. absurd (untold h.cause x n h.told))
    (λ r.
    ⊎_elim
    (λ n. absurd (untold k.cause y n k.told))
    (λ same. told_once h.cause x y h.told (subst (λ c. TellsQuery c y) (sym same) k.told))
    r)
    (one_cause h.program k.program (h.says ∙ e ∙ sym k.says) asked h.cause k.cause h.is k.is)

-- ---- apart and waypoint

abbrev queried_text : FieldTable → Queried → List ℕ
queried_text fields (holding c) = cert_bytes fields c
queried_text fields (breaking f) = broken_lines fields f

abbrev IsHolding : Queried → Type 0
IsHolding (holding c) = Unit {0}
IsHolding (breaking f) = ⊥

module _ (printed : OnePrinted) (writable : DeclaresWritable) (asked : Asked) (bytes : List ℕ) where
  abbrev HeldText : List ℕ → Type 0
  HeldText = Declared bytes (λ said text. IsHeldQuery said asked text)

  abbrev BrokenText : List ℕ → Type 0
  BrokenText = Declared bytes (λ said text. IsBroken said asked text)

  abbrev UnaskedText : List ℕ → Type 0
  UnaskedText = Declared bytes (λ said text. LacksQuestion said asked text)

  one_held_text : (x y : List ℕ) → HeldText x → HeldText y → x ≡ y
  one_held_text x y h k =
      let m = h.2 in
      let n = k.2 in
      let same = alike bytes h.0 k.0 h.1 k.1 m.program n.program m.says n.says in
      let e =
      one_told_of_named m.program n.program same printed (table_of writable bytes h.0 h.1 m.program m.says) asked
      (holding m.tells.certificate) (holding n.tells.certificate)
      (m.question, m.named, (m.none, m.tells.related)) (n.question, n.named, (n.none, n.tells.related)) in
      m.tells.told
      ∙ ap (λ f. cert_bytes f m.tells.certificate) (fields_alike m.program n.program same)
      ∙ ap (queried_text n.program.fields) e
      ∙ sym n.tells.told

  one_broken_text : (x y : List ℕ) → BrokenText x → BrokenText y → x ≡ y
  one_broken_text x y h k =
      let m = h.2 in
      let n = k.2 in
      let same = alike bytes h.0 k.0 h.1 k.1 m.program n.program m.says n.says in
      let e =
      one_told_of_named m.program n.program same printed (table_of writable bytes h.0 h.1 m.program m.says) asked
      (breaking m.found) (breaking n.found) (m.question, m.named, m.least) (n.question, n.named, n.least) in
      m.told
      ∙ ap (λ f. broken_lines f m.found) (fields_alike m.program n.program same)
      ∙ ap (queried_text n.program.fields) e
      ∙ sym n.told

  held_broken : (x y : List ℕ) → HeldText x → BrokenText y → ⊥
  held_broken x y h k =
      let m = h.2 in
      let n = k.2 in
      let same = alike bytes h.0 k.0 h.1 k.1 m.program n.program m.says n.says in
      let e =
      one_told_of_named m.program n.program same printed (table_of writable bytes h.0 h.1 m.program m.says) asked
      (holding m.tells.certificate) (breaking n.found)
      (m.question, m.named, (m.none, m.tells.related)) (n.question, n.named, n.least) in
      subst IsHolding e tt

  held_unasked : (x y : List ℕ) → HeldText x → UnaskedText y → ⊥
  held_unasked x y h k =
      let m = h.2 in
      let n = k.2 in
      never_caused m.program n.program (alike bytes h.0 k.0 h.1 k.1 m.program n.program m.says n.says) asked m.question n.cause y m.named n.is n.told

  broken_unasked : (x y : List ℕ) → BrokenText x → UnaskedText y → ⊥
  broken_unasked x y h k =
      let m = h.2 in
      let n = k.2 in
      never_caused m.program n.program (alike bytes h.0 k.0 h.1 k.1 m.program n.program m.says n.says) asked m.question n.cause y m.named n.is n.told

  asked_apart : AreApart (HasFault bytes) HeldText BrokenText UnaskedText
  asked_apart = record {
    one_fault = one_fault bytes;
    one_held = one_held_text;
    one_other = one_broken_text;
    one_lacking = λ x y h k. one_lack asked h.0 k.0 x y (declares_once bytes h.0 k.0 h.1 k.1) h.2 k.2;
    held_fault = λ x y h k. no_fault bytes h.0 y h.1 k;
    other_fault = λ x y h k. no_fault bytes h.0 y h.1 k;
    lacking_fault = λ x y h k. no_fault bytes h.0 y h.1 k;
    held_other = held_broken;
    held_lacking = held_unasked;
    other_lacking = broken_unasked;
  }

  asked_kind : (o : Outcome) → IsAskAnswer asked bytes o → IsKind (HasFault bytes) HeldText BrokenText UnaskedText o
  asked_kind (done t) h = h
  asked_kind o h = h

  pub one_ask : (o p : Outcome) → IsAskAnswer asked bytes o → IsAskAnswer asked bytes p → o ≡ p
  one_ask o p h k = one_kind (HasFault bytes) HeldText BrokenText UnaskedText asked_apart o p (asked_kind o h) (asked_kind p k)

-- ---- check_apart and check_waypoint

module _ (finding : OneFinding) (asked : Asked) (bytes : List ℕ) where
  record FindsOf (v : Finding) (text : List ℕ) : Type 0 where
    said : DeclaredProgram
    certificate : CertificateValue
    held : HoldsCertificate bytes said certificate
    found : IsFoundForAsked said asked certificate v
    written : text ≡ finding_text v

  one_find_of : (v w : Finding) (x y : List ℕ) → FindsOf v x → FindsOf w y → (v ≡ w) × (x ≡ y)
  one_find_of v w x y h k =
      let m = h.found in
      let n = k.found in
      let same = certified_alike bytes h.said k.said h.certificate k.certificate h.held k.held m.program n.program m.says n.says in
      let cert = certificate_once bytes h.said k.said h.certificate k.certificate h.held k.held in
      let e : v ≡ w =
      one_found_of_named m.program n.program same finding asked h.certificate v w (m.question, m.named, m.is)
      (subst (λ c. IsFoundOfNamed n.program asked c w) (sym cert) (n.question, n.named, n.is)) in
      (e, h.written ∙ ap finding_text e ∙ sym k.written)

  abbrev JudgedText : List ℕ → Type 0
  JudgedText = Certified bytes (λ said c text. IsValidFor said asked c text)

  abbrev FailedText : List ℕ → Type 0
  FailedText = Certified bytes (λ said c text. IsInvalidFor said asked c text)

  abbrev UnjudgedText : List ℕ → Type 0
  UnjudgedText = Certified bytes (λ said c text. LacksQuestion said asked text)

  judged_found : (x : List ℕ) → JudgedText x → FindsOf valid x
  judged_found x h = record { said = h.0; certificate = h.1; held = h.2; found = h.3.found; written = h.3.told }

  failed_found : (x : List ℕ) (h : FailedText x) → FindsOf (invalid h.3.row h.3.in_part) x
  failed_found x h = record { said = h.0; certificate = h.1; held = h.2; found = h.3.found; written = h.3.told }

  found_unjudged : (v : Finding) (x y : List ℕ) → FindsOf v x → UnjudgedText y → ⊥
  found_unjudged v x y h k =
      let m = h.found in
      let n = k.3 in
      never_caused m.program n.program
      (certified_alike bytes h.said k.0 h.certificate k.1 h.held k.2 m.program n.program m.says n.says) asked m.question n.cause y m.named n.is n.told

  judged_apart : AreApart (HasCertifiedFault bytes) JudgedText FailedText UnjudgedText
  judged_apart = record {
    one_fault = one_certified_fault bytes;
    one_held = λ x y h k. (one_find_of _ _ x y (judged_found x h) (judged_found y k)).1;
    one_other = λ x y h k. (one_find_of _ _ x y (failed_found x h) (failed_found y k)).1;
    one_lacking = λ x y h k. one_lack asked h.0 k.0 x y (holds_once bytes h.0 k.0 h.1 k.1 h.2 k.2) h.3 k.3;
    held_fault = λ x y h k. no_certified_fault bytes h.0 h.1 y h.2 k;
    other_fault = λ x y h k. no_certified_fault bytes h.0 h.1 y h.2 k;
    lacking_fault = λ x y h k. no_certified_fault bytes h.0 h.1 y h.2 k;
    held_other = λ x y h k. subst IsValidFinding (one_find_of _ _ x y (judged_found x h) (failed_found y k)).0 tt;
    held_lacking = λ x y h k. found_unjudged _ x y (judged_found x h) k;
    other_lacking = λ x y h k. found_unjudged _ x y (failed_found x h) k;
  }

  judged_kind : (o : Outcome) → IsJudgeAnswer asked bytes o → IsKind (HasCertifiedFault bytes) JudgedText FailedText UnjudgedText o
  judged_kind (done t) h = h
  judged_kind o h = h

  pub one_judge : (o p : Outcome) → IsJudgeAnswer asked bytes o → IsJudgeAnswer asked bytes p → o ≡ p
  one_judge o p h k = one_kind (HasCertifiedFault bytes) JudgedText FailedText UnjudgedText judged_apart o p (judged_kind o h) (judged_kind p k)
