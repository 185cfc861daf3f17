-- What the code's reader of policies is to the machine.
use Rattle.std.specs.Prelude.{◌≡◌, ◌<◌, ℕ, List, [], ◌∷◌, Bool, true, false, Option, Some, None, Ok, Err, vec_capacity, vec_len, ⊤}
use Rattle.std.specs.declared.result.Result.{Result}
use Rattle.nk_grammar.specs.declared.ast.Ast.{Ast}
use Rattle.nk_grammar.specs.declared.frame.Frame.{Frame}
use Rattle.nk_grammar.specs.declared.frame.Frame.TheVariants as frame
use Rattle.nk_grammar.specs.declared.reader.PolicyReader.{PolicyReader}
use Rattle.nk_grammar.specs.Tree.{Trees, with_part, tree_of, trees_of}
use Rattle.nk_grammar.specs.Machine.{Open, group, negation, State, state, HasNoNegation}

-- what a frame of the code is to the machine
abbrev pub open_of : Frame → Open
open_of (frame.Group ts us) = group (trees_of ts.items) (trees_of us.items)
open_of (frame.Negation b line) = negation line

-- what is open, the innermost first, from a list that has it last
abbrev pub stack_on : List Open → List Frame → List Open
stack_on fs [] = fs
stack_on fs (x ∷ xs) = stack_on (open_of x ∷ fs) xs

-- what is open, from the code's list
abbrev pub stack_of : List Frame → List Open
stack_of xs = stack_on [] xs

-- what is open in a reader, the innermost first
abbrev pub stack_in : PolicyReader → List Open
stack_in r = stack_of r.frames.items

-- the terms that are done in a reader
abbrev pub terms_in : PolicyReader → Trees
terms_in r = trees_of r.terms.items

-- the parts, and the last one after them where it stands apart
abbrev pub with_last : Trees → Option Ast → Trees
with_last us None = us
with_last us (Some p) = with_part us (tree_of p)

-- the factors that are done in a reader
abbrev pub factors_in : PolicyReader → Trees
factors_in r = with_last (trees_of r.factors.items) r.last

-- what a reader is to the machine
abbrev pub reader_state : PolicyReader → State
reader_state r = state r.place (stack_in r) (terms_in r) (factors_in r)

-- one more factor and one more term have room in a reader
abbrev pub HasRoom : PolicyReader → Type 0
HasRoom r = (vec_len r.terms < vec_capacity r.terms) × (vec_len r.factors < vec_capacity r.factors)

-- the innermost `~` is closed, if one is the innermost that is open
abbrev pub PopsNegation : {B : Type 0} → Option (B × ℕ) → List Open → List Open → Type 0
PopsNegation (Some p) old new = old ≡ negation p.1 ∷ new
PopsNegation None old new = (new ≡ old) × HasNoNegation new

-- a parenthesis is open
abbrev pub encloses : List Open → Bool
encloses [] = false
encloses (group ts us ∷ fs) = true
encloses (negation line ∷ fs) = encloses fs

-- the token was taken as the machine takes it, or the machine refuses it and nothing changed
abbrev pub Follows : Bool → Option State → State → State → Type 0
Follows true wanted old new = wanted ≡ Some new
Follows false wanted old new = (wanted ≡ None) × (new ≡ old)

-- so, unless memory ran out
abbrev pub FollowsOk : {E : Type 0} → Result Bool E → Option State → State → State → Type 0
FollowsOk (Ok taken) wanted old new = Follows taken wanted old new
FollowsOk (Err e) wanted old new = ⊤
