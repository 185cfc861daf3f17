-- What is printed for two policies that do the same is read back, and a certificate shows that they do.
use Rattle.std.proofs.Common.{◌≡◌, ◌+◌, ◌<◌, ◌^◌, ℕ, List, refl, sym, subst, arith}
use Rattle.std.specs.Prelude.{codes}
use Rattle.nk_field.specs.declared.packet.Packet.{Packet}
use Rattle.nk_field.specs.Packet.{FieldTable}
use Rattle.nk_lex.specs.Joined.{joined}
use Rattle.nk_grammar.specs.Certified.{certified}
use Rattle.nk_policy.specs.Policy.{Policy, marked_from, dups_of}
use Rattle.nk_policy.specs.After.{drop_policy}
use Rattle.nk_policy.specs.Meaning.{Way}
use Rattle.nk_policy.specs.Ranges.{IsInRange}
use Rattle.nk_policy.proofs.Remade.{marked_dups, marked_ways}
use Rattle.nk_names.specs.declared.Program.{Program}
use Rattle.nk_names.specs.ProgramOf.{program_by}
use Rattle.nk_names.specs.ProgramValue.{IsProgram}
use Rattle.nk_names.proofs.Good.{few_dups, marked_again, over_in_range, over_marked}
use Rattle.nk_cert.specs.Certificates.{CertificateValue, IsCertificate}
use Rattle.nk_cert.specs.Equality.{AreSame}
use Rattle.nk_cert.specs.Together.{AreNumbered}
use Rattle.nk_check.proofs.Moved.{numbered_on}
use Rattle.nk_cert.proofs.Named.{let_named, few_of_both}
use Rattle.nk_certtext.specs.Printed.{ReadsPrintedFor}
use Rattle.nk_certtext.specs.Text.{cert_bytes}
use Rattle.nk_bisim.specs.Answers.{IsRelated}
use Rattle.nk_query.specs.Asked.{Asked, Question, NoneBreaks, question_policy}
use Rattle.nk_query.specs.Answers.{IsNamedQuestion, asked_policy}
use Rattle.nk_verify_commands.specs.Asking.{IsHeldQuery}
use Rattle.nk_verify_commands.specs.CertifiedText.{HoldsCertificate}
use Rattle.nk_verify_commands.specs.Checking.{IsValid}
use Rattle.nk_verify_commands.specs.Comparing.{AreNamed, IsSame, TellsRelated}

-- a certificate shows equality, whoever made it
abbrev pub ShowsEquality : Type 0
ShowsEquality = (fields : FieldTable) (p q : Policy) → AreNumbered p q → IsInRange p fields → IsInRange q fields
    → (c : CertificateValue) → IsCertificate fields p q c → AreSame fields p q

-- the right policy, its dups numbered on from the left one's
abbrev pub right_on : Policy → Policy → Policy
right_on p q = marked_from q (1 + dups_of p)

numbered : (p q : Policy) → marked_from p 1 ≡ p → AreNumbered p (right_on p q)
numbered p q once = numbered_on p q (right_on p q) (1 + dups_of p) once refl refl

-- the printed certificate of two policies is read back after each text of the program
tells_related : ReadsPrintedFor → (program : Program) (p q : Policy) → marked_from p 1 ≡ p → 1 + dups_of p + dups_of q < 2 ^ 32
    → (c : CertificateValue) (text : List ℕ) → IsRelated program.fields p q c → text ≡ cert_bytes program.fields c
    → TellsRelated program p q text
tells_related reads program p q once few c text related told = record {
  certificate = c;
  related = related;
  told = told;
  read = λ bytes d.
      let few_on : 1 + dups_of p + dups_of (right_on p q) < 2 ^ 32 = omega (arith, few, marked_dups q (1 + dups_of p)) in
      let back = reads bytes d.tokens d.declarations (program_by program) p (right_on p q) c d.cut d.read d.means
      (record { numbered = numbered p q once; few = few_on }) related.printed in
      subst (λ (t : List ℕ). HoldsCertificate (joined bytes t) (program_by program) c) (sym told)
      (record {
        tokens = back.tokens;
        cut = back.cut;
        written = certified d.declarations back.rows;
        read = back.read;
        means = d.means;
        makes = back.made;
      });
}

-- no history breaks a query, and what is printed says so
pub is_held : ReadsPrintedFor → (program : Program) (asked : Asked) (x : Question) (c : CertificateValue) (text : List ℕ)
    → IsNamedQuestion program asked x → NoneBreaks program.fields x → IsRelated program.fields (asked_policy x) drop_policy c
    → text ≡ cert_bytes program.fields c → IsHeldQuery (program_by program) asked text
is_held reads program asked x c text named none related told = record {
  program = program;
  says = refl;
  question = x;
  named = named;
  none = none;
  tells = tells_related reads program (asked_policy x) drop_policy once few c text related told;
}
  where
    once : marked_from (asked_policy x) 1 ≡ asked_policy x
    once = marked_again (question_policy x) 1 1

    few : 1 + dups_of (asked_policy x) + dups_of drop_policy < 2 ^ 32
    few =
        let a = few_dups (question_policy x) in
        let b = marked_dups (question_policy x) 1 in
        let nothing : dups_of drop_policy ≡ 0 = refl in
        omega (arith, a, b, named.can.small, nothing)

module _ (program : Program) (left right : List ℕ) (p q : Policy) (ok : IsProgram program.fields program.topo program.lets)
    (named : AreNamed program left right p q) where
  once : marked_from p 1 ≡ p
  once = (let_named program left p ok named.left_is).numbered

  -- so it is for two names
  pub is_same : ReadsPrintedFor → (c : CertificateValue) (text : List ℕ)
      → IsRelated program.fields p q c → text ≡ cert_bytes program.fields c → IsSame (program_by program) left right text
  is_same reads c text related told = record {
    program = program;
    says = refl;
    left_policy = p;
    right_policy = q;
    named = named;
    tells =
        let few = few_of_both program.fields p q (let_named program left p ok named.left_is) (let_named program right q ok named.right_is) in
        tells_related reads program p q once few c text related told;
  }

  -- policies with a certificate give the same histories
  same_shown : ShowsEquality → (c : CertificateValue) → IsCertificate program.fields p (right_on p q) c → AreSame program.fields p q
  same_shown law c shows = λ pk within w y.
      let left_in = over_in_range program.fields p (let_named program left p ok named.left_is).over in
      let right_in = over_in_range program.fields (right_on p q) (over_marked program.fields q (1 + dups_of p) (let_named program right q ok named.right_is).over) in
      let e = law program.fields p (right_on p q) (numbered p q once) left_in right_in c shows pk within w y in
      let ways = marked_ways (λ x. x) q (1 + dups_of p) in (
        λ g. subst (λ (R : Way Packet). R pk w y) ways (e.0 g),
        λ g. e.1 (subst (λ (R : Way Packet). R pk w y) (sym ways) g),
      )

  -- so a certificate that is one is valid
  pub is_valid : ShowsEquality → (c : CertificateValue) (text : List ℕ) → IsCertificate program.fields p (right_on p q) c
      → text ≡ codes "valid\n" → IsValid (program_by program) left right c text
  is_valid law c text shows told = record {
    found = record {
      program = program;
      says = refl;
      left_policy = p;
      right_policy = q;
      named = named;
      is = shows;
    };
    same = same_shown law c shows;
    told = told;
  }
