-- What the code's reader of texts is to the machine.
use Rattle.std.specs.Prelude.{◌≡◌, ℕ, Bool, true, false, List, [], ◌∷◌, Option, Some, None, Ok, Err, ⊤}
use Rattle.std.specs.declared.result.Result.{Result}
use Rattle.nk_grammar.specs.declared.decl.Decl.{Decl}
use Rattle.nk_grammar.specs.declared.decl.GrammarError.{GrammarError}
use Rattle.nk_grammar.specs.declared.decl.GrammarError.TheVariants as error
use Rattle.nk_grammar.specs.declared.decl.Stage.{Stage}
use Rattle.nk_grammar.specs.declared.decl.Stage.TheVariants as stage
use Rattle.nk_grammar.specs.declared.text.Reader.{Reader}
use Rattle.nk_grammar.specs.Terminal.{Terminal}
use Rattle.nk_grammar.specs.Machine.{State, step}
use Rattle.nk_grammar.specs.Reader.{reader_state}
use Rattle.nk_grammar.specs.File.{Declaration, declaration_of}
use Rattle.nk_grammar.specs.FileMachine.{ParseReturns, judged, read_one, reading, Phase, between, name_wanted, field_named, switch_read, switch_numbered, port_wanted, port_read, link_read, by_wanted, policy_named, in_policy}

-- what stands before the next token
abbrev pub phase_of : Stage → State → Phase
phase_of stage.Between s = between
phase_of (stage.Name k) s = name_wanted k
phase_of (stage.FieldNamed w) s = field_named w
phase_of stage.Switch s = switch_read
phase_of (stage.SwitchNumbered n) s = switch_numbered n
phase_of (stage.Ports n ps) s = port_wanted n ps.items
phase_of (stage.PortRead n ps) s = port_read n ps.items
phase_of (stage.Link k q) s = link_read k q
phase_of (stage.By a m b n) s = by_wanted a m b n
phase_of (stage.PolicyNamed k w line) s = policy_named k w line
phase_of (stage.Policy k w line) s = in_policy k w line s

-- a policy is read
abbrev pub IsInPolicy : Stage → Type 0
IsInPolicy (stage.Policy k w line) = ⊤
IsInPolicy s = ⊥

-- what a reader is to the machine, which keeps the declarations too
abbrev pub phase_in : Reader → Phase
phase_in r = phase_of r.stage (reader_state r.policy)

-- the declaration that is done, if one is
abbrev pub declaration_done : Option Decl → List Declaration
declaration_done None = []
declaration_done (Some d) = declaration_of d ∷ []

-- where memory ran out, nothing changed
abbrev pub StaysWithoutMemory : {X V : Type 0} → Result X GrammarError → V → V → Type 0
StaysWithoutMemory (Err error.NoMemory) old new = new ≡ old
StaysWithoutMemory r old new = ⊤

-- the token is taken as the machine takes it, or nothing changes where memory ran out
abbrev pub TakesTerminal : Phase → Phase → ℕ → Terminal → Result (Option Decl) GrammarError → Type 0
TakesTerminal old new line t result =
    ParseReturns (λ d. reading new (declaration_done d)) result (judged line (read_one (reading old []) t))
    × StaysWithoutMemory result old new

-- if a policy is read, it doesn't go on with the token
abbrev pub StopsPolicy : Phase → Terminal → Type 0
StopsPolicy (in_policy k w line s) t = step s t ≡ None
StopsPolicy p t = ⊤

-- the token is taken so, inside a policy, and completes nothing; or no policy goes on with it, and nothing changed
abbrev pub TakesInside : Phase → Phase → ℕ → Terminal → Result Bool GrammarError → Type 0
TakesInside old new line t (Ok true) = TakesTerminal old new line t (Ok None)
TakesInside old new line t (Ok false) = (new ≡ old) × StopsPolicy old t
TakesInside old new line t (Err e) = TakesTerminal old new line t (Err e)
