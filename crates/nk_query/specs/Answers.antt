-- What is answered to a query: the question, whether a history breaks it, and what is found of a certificate that none does.
use Rattle.std.specs.Prelude.{◌≡◌, ◌+◌, ◌<◌, ◌≤◌, ◌^◌, true, false, ⊤, Result, Ok, Err}
use Rattle.nk_field.specs.Packet.{FieldTable}
use Rattle.nk_policy.specs.Policy.{Policy, size_of, dups_of, marked_from}
use Rattle.nk_policy.specs.Ranges.{IsOverFields}
use Rattle.nk_policy.specs.After.{drop_policy}
use Rattle.nk_policy.specs.Tree.{tree_of}
use Rattle.nk_policy.specs.declared.policy.Pol.{Pol}
use Rattle.nk_names.specs.Complements.{NegatesPredicates}
use Rattle.nk_names.specs.declared.Program.{Program}
use Rattle.nk_witness.specs.Finds.{found_of}
use Rattle.nk_cert.specs.Certificates.{CertificateValue}
use Rattle.nk_cert.specs.Equality.{on_left}
use Rattle.nk_cert.specs.Verdicts.{Finding, valid, IsFinding}
use Rattle.nk_cert.specs.Values.{certificate_value, finding_of}
use Rattle.nk_cert.specs.declared.certificate.Verdict.{Verdict}
use Rattle.nk_cert.specs.Comparison.{whose, IsRelated}
use Rattle.nk_query.specs.Asked.{Asked, apart, waypoint, Question, NamesQuestion, LacksName, rest_are_predicates, question_policy, NoneBreaks, IsLeastBreak}
use Rattle.nk_query.specs.declared.query.Query.{Query}
use Rattle.nk_query.specs.declared.query.Query.TheVariants.{Apart, Waypoint}
use Rattle.nk_query.specs.declared.query.Answer.{Answer}
use Rattle.nk_query.specs.declared.query.Answer.TheVariants.{Holds, Breaks}
use Rattle.nk_query.specs.declared.error.QueryError.{QueryError}
use Rattle.nk_query.specs.declared.error.QueryError.TheVariants.{NoMemory, NoPolicy, NotAPredicate, TooLarge}

-- the query that is held
abbrev pub asked_in : Query → Asked
asked_in (Apart name from target) = apart name.now from.now target.now
asked_in (Waypoint name from middle target) = waypoint name.now from.now middle.now target.now

-- The question can be made: the policies that have to be are predicates, and its policy has at most 1,048,576 elements.
pub record CanBeAsked (x : Question) : Type 0 where
  pub predicates : rest_are_predicates x ≡ true
  pub small : size_of (question_policy x) ≤ 1048576

-- The question of these names, which can be made.
pub record IsNamedQuestion (program : Program) (asked : Asked) (x : Question) : Type 0 where
  pub names : NamesQuestion program asked x
  pub can : CanBeAsked x

-- the question's policy, its dups numbered from 1
abbrev pub asked_policy : Question → Policy
asked_policy x = marked_from (question_policy x) 1

-- why there is no question of these policies: one that has to be isn't a predicate, or else its policy has more elements; want
-- of memory may come at any
abbrev pub IsHindrance : Question → QueryError → Type 0
IsHindrance x NoMemory = ⊤
IsHindrance x NoPolicy = ⊥
IsHindrance x NotAPredicate = rest_are_predicates x ≡ false
IsHindrance x TooLarge = (rest_are_predicates x ≡ true) × (1048576 < size_of (question_policy x))

-- why a query isn't answered: one of its names is no policy's, or else the question that they name is hindered so
abbrev pub IsHindranceByName : Program → Asked → QueryError → Type 0
IsHindranceByName program asked NoMemory = ⊤
IsHindranceByName program asked NoPolicy = LacksName program asked
IsHindranceByName program asked NotAPredicate = (x : Question) × NamesQuestion program asked x × IsHindrance x NotAPredicate
IsHindranceByName program asked TooLarge = (x : Question) × NamesQuestion program asked x × IsHindrance x TooLarge

-- what is made of a question about policies
abbrev pub MakesQuestion : Question → Result Pol QueryError → Type 0
MakesQuestion x (Ok q) = CanBeAsked x × (tree_of q ≡ asked_policy x)
MakesQuestion x (Err e) = IsHindrance x e

-- what is made of a query: exactly the policy of the question of these names, or the cause that there is none
abbrev pub IsQuestion : Program → Asked → Result Pol QueryError → Type 0
IsQuestion program asked (Ok q) =
    (x : Question) × IsNamedQuestion program asked x × (tree_of q ≡ asked_policy x)
IsQuestion program asked (Err e) = IsHindranceByName program asked e

-- The policy can be compared with others over these fields.
pub record IsFitFor (fields : FieldTable) (q : Policy) : Type 0 where
  pub numbered : marked_from q 1 ≡ q
  pub few : 1 + dups_of q < 2 ^ 32
  pub over : IsOverFields fields q
  pub complements : NegatesPredicates q

-- no history breaks, and this is the printed certificate of the question and `drop`; or this is the least history that breaks, told
-- as the left one's, which is the question's
abbrev pub IsQueryResult : FieldTable → Question → Answer → Type 0
IsQueryResult fields x (Holds c) =
    NoneBreaks fields x × IsRelated fields (asked_policy x) drop_policy (certificate_value c)
IsQueryResult fields x (Breaks f) = IsLeastBreak fields x (found_of f) × (whose f.side ≡ on_left)

-- what asking a query answers
abbrev pub IsAsked : Program → Asked → Result Answer QueryError → Type 0
IsAsked program asked (Ok a) = (x : Question) × IsNamedQuestion program asked x × IsQueryResult program.fields x a
IsAsked program asked (Err e) = IsHindranceByName program asked e

-- of a certificate that no history breaks: it is one for the question and `drop`, so none does; or a row fails first
pub record IsJudgedFor (fields : FieldTable) (x : Question) (c : CertificateValue) (finding : Finding) : Type 0 where
  pub finds : IsFinding fields (asked_policy x) drop_policy c finding
  pub shows : finding ≡ valid → NoneBreaks fields x

-- what checking such a certificate answers
abbrev pub IsQueryChecked : Program → Asked → CertificateValue → Result Verdict QueryError → Type 0
IsQueryChecked program asked c (Ok v) =
    (x : Question) × IsNamedQuestion program asked x × IsJudgedFor program.fields x c (finding_of v)
IsQueryChecked program asked c (Err e) = IsHindranceByName program asked e
