-- What the checks of a declaration leave known.
use Rattle.std.proofs.Common.{◌≡◌, ℕ, ◌≤◌, Bool, true, false, cond, Option, Some, None, Ok, Err, not, List, [], ◌∷◌, ◌++◌, ◌||◌, refl, sym, ap, subst, ◌∙◌, arith}
use Rattle.std.specs.declared.result.Result.{Result}
use Rattle.std.specs.Prelude.{nat_lt, nat_eq, ◌==◌, IsErrAnd, MatchResult}
use Rattle.std.specs.List.{list_any}
use Rattle.std.proofs.lemmas.List.Folds.{list_any-append}
use Rattle.nk_topo.specs.Topology.{has_double}
use Rattle.nk_lex.specs.declared.ident.Number.{Number}
use Rattle.nk_lex.specs.Faults.{first_of}
use Rattle.nk_declare.specs.declared.fault.DeclareFault.{DeclareFault}
use Rattle.nk_declare.specs.declared.fault.DeclareFault.TheVariants as fault
use Rattle.nk_declare.specs.declared.fault.DeclareError.{DeclareError}
use Rattle.nk_declare.specs.declared.fault.DeclareError.TheVariants.{Fault, NoMemory}
use Rattle.nk_declare.specs.Declarations.{MaybeFault, fault_if, above, port_fault, IsFirstFault}

-- of faults that have no first there is none
pub none_both : {E : Type 0} (a b : Option E) → first_of a b ≡ None → (a ≡ None) × (b ≡ None)
none_both None b h = (refl, h)
none_both (Some e) b h = absurd cc

-- a fault that isn't there is no fault
pub not_wrong : (b : Bool) (k : DeclareFault) (line : ℕ) → fault_if b k line ≡ None → b ≡ false
not_wrong true k line h = absurd cc
not_wrong false k line h = refl

-- a number that isn't above a bound is at most it
pub in_bound : (most : ℕ) (n : Number) → above most n ≡ None → n.value ≤ most
in_bound most n h = at_most most n.value (not_wrong (nat_lt most n.value) fault.ValueOutOfRange n.line h)
  where
    at_most : (m k : ℕ) → nat_lt m k ≡ false → k ≤ m
    at_most m k h = grind (arith, h)

-- the fault that is there is the first one
pub is_first : (e : DeclareError) (o : MaybeFault) → o ≡ Some e → IsFirstFault e o
is_first NoMemory o h = tt
is_first (Fault k line) o h = h

-- a test that fails twice over
not_not : (b : Bool) → not (not b) ≡ b
not_not true = refl
not_not false = refl

-- a port in range is at fault where it stands before
pub one_refused : (before : List ℕ) (p : Number) (b : Bool) → above 65535 p ≡ None → b ≡ list_any (λ q. p.value == q) before
    → port_fault before p ≡ fault_if b fault.PortTwice p.line
one_refused before p b in_range is =
    ap (λ a. first_of a (fault_if (list_any (λ q. p.value == q) before) fault.PortTwice p.line)) in_range
    ∙ ap (λ c. fault_if c fault.PortTwice p.line) (sym is)

-- whether a port stands before, by what was seen
pub stands_before : (new : Bool) (v n : ℕ) (seen before : List ℕ)
    → new ≡ not (list_any (nat_eq n) seen) → ((q : ℕ) → list_any (λ r. q == r) before ≡ list_any (λ r. q == r) seen) → n ≡ v
    → not new ≡ list_any (λ q. v == q) before
stands_before new v n seen before added same is =
    ap not added ∙ not_not (list_any (nat_eq n) seen) ∙ sym (same n) ∙ ap (λ k. list_any (λ q. k == q) before) is

-- what was seen with one more number
pub seen_more : (before seen all : List ℕ) (v n : ℕ) → n ≡ v
    → ((q : ℕ) → list_any (λ r. q == r) before ≡ list_any (λ r. q == r) seen)
    → ((q : ℕ) → list_any (nat_eq q) all ≡ cond (nat_eq n q) true (list_any (nat_eq q) seen))
    → (q : ℕ) → list_any (λ r. q == r) (before ++ v ∷ []) ≡ list_any (λ r. q == r) all
seen_more before seen all v n is same more q =
    list_any-append (λ r. q == r) before (v ∷ [])
    ∙ ap (λ a. a || ((q == v) || false)) (same q)
    ∙ either (list_any (nat_eq q) seen) (q == v) (n == q) (turned q v ∙ ap (λ k. k == q) (sym is))
    ∙ sym (more q)
  where
    turned : (a b : ℕ) → (a == b) ≡ (b == a)
    turned a b = grind arith

    either : (a b c : Bool) → b ≡ c → (a || (b || false)) ≡ cond c true a
    either true true c h = ap (λ d. cond d true true) h
    either true false c h = ap (λ d. cond d true true) h
    either false true c h = ap (λ d. cond d true false) h
    either false false c h = ap (λ d. cond d true false) h

-- one more number that doesn't stand before
pub once_more : (xs : List ℕ) (p : ℕ) → has_double xs ≡ false → list_any (λ q. p == q) xs ≡ false → has_double (xs ++ p ∷ []) ≡ false
once_more [] p h n = refl
once_more (x ∷ xs) p h n =
    let a = neither (list_any (λ m. m == x) xs) (has_double xs) h in
    let b = neither (p == x) (list_any (λ q. p == q) xs) n in
    ap (λ c. c || has_double (xs ++ p ∷ [])) (list_any-append (λ m. m == x) xs (p ∷ []))
    ∙ ap (λ c. (c || ((p == x) || false)) || has_double (xs ++ p ∷ [])) a.0
    ∙ ap (λ c. (c || false) || has_double (xs ++ p ∷ [])) b.0
    ∙ once_more xs p a.1 b.1
  where
    neither : (a b : Bool) → (a || b) ≡ false → (a ≡ false) × (b ≡ false)
    neither true b e = absurd cc
    neither false b e = (refl, e)

-- what a refusal answers
pub refused_with : {X : Type 0} (r : Result X DeclareError) (e : DeclareError) (P : X → Type 0) (Q : DeclareError → Type 0)
    → IsErrAnd r (λ x. x ≡ e) → Q e → MatchResult r P Q
refused_with (Ok x) e P Q h q = absurd h
refused_with (Err d) e P Q h q = subst Q (sym h) q
