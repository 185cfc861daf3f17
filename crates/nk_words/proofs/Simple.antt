-- The commands are ones of which `clap` says exactly what it reads.
use Rattle.std.proofs.Common.{◌≡◌, ◌==◌, ◌&&◌, ◌∙◌, Bool, true, false, List, [], ◌∷◌, length, refl, ap, inl, inr, None}
use Rattle.std.proofs.Common.{arith}
use Rattle.std.proofs.lemmas.Bool.Decides.{nat_tests}
use Rattle.std.specs.declared.result.Result.{Result}
use Rattle.clap.specs.Walk.{Text}
use Rattle.clap.specs.Kinds.{HasKind, Kinds}
use Rattle.clap.specs.Values.{kind_of}
use Rattle.clap.specs.declared.error.Error.{Error}
use Rattle.clap.specs.declared.error.kind.ErrorKind.TheVariants.{OutOfMemory}
use Rattle.clap.specs.declared.parser.matches.ArgMatches.{ArgMatches}
use Rattle.clap.specs.Simple.{App, HasMatchesOf, is_simple, subcommand_of, subcommand_rows_of}
use Rattle.clap.specs.Faults.{fault_of, is_free_app, is_simple_and_free}
use Rattle.clap.specs.Simple.{built}
use Rattle.nk_words.specs.declared.words.Command.{Command}
use Rattle.nk_words.specs.declared.words.WordsError.{WordsError}
use Rattle.nk_words.specs.App.{nk_app, nk_without_generation, nk_without_queries}
use Rattle.nk_words.specs.Words.{Reads, command_found, command_of}

-- `clap` tells of these commands exactly what it reads and refuses
nk_simple : is_simple_and_free nk_app ≡ true
unfolding nk_app nk_without_generation nk_without_queries
nk_simple = refl

-- the first of two tests that are both true
left : (a b : Bool) → (a && b) ≡ true → a ≡ true
left true b h = refl
left false b h = h

-- where `clap` finds matches, the command is the one in them
pub found : (a : App) (words : List Text) (m : ArgMatches) (r : Result Command WordsError)
    → a ≡ nk_app → (is_simple_and_free a ≡ true → fault_of a words ≡ []) → HasMatchesOf a words m
    → Reads (command_found (subcommand_rows_of m)) r → Reads (command_of words) r
found a words m r e faultless has reads =
    let none : fault_of nk_app words ≡ []
    = rw (← e) (faultless (ap is_simple_and_free e ∙ nk_simple)) in
    let rows : subcommand_rows_of m ≡ subcommand_of nk_app words
    = (has (left (is_simple a) (is_free_app (built a)) (ap is_simple_and_free e ∙ nk_simple))).1
    ∙ ap (λ x. subcommand_of x words) e in
    rw (none, ← rows) reads

-- an error that isn't running out of memory has a kind, so there is a fault
some_kind : (ks : Kinds) (e : Error) → (kind_of e ≡ OutOfMemory → ⊥) → HasKind ks e → (length ks == 0) ≡ false
some_kind [] e n (inl h) = absurd (n h)
some_kind [] e n (inr h) = absurd h
some_kind (k ∷ ks) e n h = grind (arith, nat_tests)

-- where it refuses the words, they are no command
pub refused : (a : App) (words : List Text) (e : Error) → a ≡ nk_app
    → (is_simple_and_free a ≡ true → HasKind (fault_of a words) e) → (kind_of e ≡ OutOfMemory → ⊥)
    → command_of words ≡ None
refused a words e same kinds n =
    let has : HasKind (fault_of nk_app words) e
    = rw (← same) (kinds (ap is_simple_and_free same ∙ nk_simple)) in
    rw (some_kind (fault_of nk_app words) e n has) refl
