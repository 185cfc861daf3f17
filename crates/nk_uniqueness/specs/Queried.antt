-- What asking a query tells, as a plain value.
use Rattle.nk_field.specs.Order.{Found}
use Rattle.nk_field.specs.Packet.{FieldTable}
use Rattle.nk_policy.specs.After.{drop_policy}
use Rattle.nk_names.specs.declared.Program.{Program}
use Rattle.nk_witness.specs.Finds.{found_of}
use Rattle.nk_cert.specs.Certificates.{CertificateValue}
use Rattle.nk_cert.specs.Values.{certificate_value}
use Rattle.nk_cert.specs.Verdicts.{Finding, IsFinding}
use Rattle.nk_bisim.specs.Answers.{IsRelated}
use Rattle.nk_query.specs.Asked.{Asked, Question, NoneBreaks, IsLeastBreak}
use Rattle.nk_query.specs.Answers.{IsNamedQuestion, asked_policy}
use Rattle.nk_query.specs.declared.query.Answer.{Answer}
use Rattle.nk_query.specs.declared.query.Answer.TheVariants.{Holds, Breaks}

-- a certificate that the query holds, or a history that breaks it
pub data Queried : Type 0 where
  holding : CertificateValue → Queried
  breaking : Found → Queried

-- what asking in memory tells
abbrev pub queried_by : Answer → Queried
queried_by (Holds c) = holding (certificate_value c)
queried_by (Breaks f) = breaking (found_of f)

-- what is told of a question is so: no history breaks, and the certificate is the printed one of the question and `drop`; or it is
-- the least history that breaks
abbrev pub IsToldOf : FieldTable → Question → Queried → Type 0
IsToldOf fields x (holding c) = NoneBreaks fields x × IsRelated fields (asked_policy x) drop_policy c
IsToldOf fields x (breaking f) = IsLeastBreak fields x f

-- what is told of the query of these names is so
abbrev pub IsToldOfNamed : Program → Asked → Queried → Type 0
IsToldOfNamed program asked told =
    (x : Question) × IsNamedQuestion program asked x × IsToldOf program.fields x told

-- this is found of a certificate for the question of these names and `drop`
abbrev pub IsFoundOfNamed : Program → Asked → CertificateValue → Finding → Type 0
IsFoundOfNamed program asked c found =
    (x : Question) × IsNamedQuestion program asked x × IsFinding program.fields (asked_policy x) drop_policy c found
