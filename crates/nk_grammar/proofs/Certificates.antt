-- Texts with a certificate: tokens in front of it.
use Rattle.std.proofs.Common.{◌≡◌, ℕ, List, [], Bool, true, false, refl, Option}
use Rattle.std.specs.Prelude.{Some, None, Ok, Err, nat_le, if◌then◌else◌}
use Rattle.std.specs.declared.result.Result.{Result}
use Rattle.nk_grammar.specs.declared.decl.GrammarError.{GrammarError}
use Rattle.nk_grammar.specs.declared.decl.GrammarError.TheVariants as error
use Rattle.nk_grammar.specs.FileMachine.{Reading, judged, open_count}
use Rattle.nk_grammar.specs.Certified.{Row}
use Rattle.nk_grammar.specs.CertifiedMachine.{Certifying, certifying, declaring, judged_certified, still_declaring}

-- what a reading comes to, before a certificate
abbrev pub as_declaring : List Row → Result Reading GrammarError → Result Certifying GrammarError
as_declaring rs (Ok r) = Ok (certifying (declaring r) [] rs)
as_declaring rs (Err e) = Err e

-- before a certificate a token is judged as it is without one
pub declaring_judged : (rs : List Row) (at : ℕ) (o : Option Reading) → judged_certified at (still_declaring rs o) ≡ as_declaring rs (judged at o)
declaring_judged rs at None = refl
declaring_judged rs at (Some r) = by_test (nat_le (open_count r) 256)
  where
    by_test : (b : Bool) → (if b then Ok (certifying (declaring r) [] rs) else Err (error.TooDeep at)) ≡ as_declaring rs (if b then Ok r else Err (error.TooDeep at))
    by_test true = refl
    by_test false = refl
