-- One more token, where declarations are read.
use Rattle.std.proofs.Common.{◌≡◌, ℕ, List, [], ◌∷◌, ◌++◌, Bool, true, false, refl, sym, ap, subst, ◌∙◌, Some, None, append_assoc, append-nil}
use Rattle.std.specs.Prelude.{Ok, Err, ◌==◌, if◌then◌else◌}
use Rattle.std.specs.declared.result.Result.{Result}
use Rattle.nk_lex.specs.declared.kind.Kind.{Kind}
use Rattle.nk_lex.specs.declared.kind.Kind.TheVariants as kind
use Rattle.nk_lex.specs.declared.token.Token.{Token}
use Rattle.nk_lex.specs.declared.ident.Ident.{Ident}
use Rattle.nk_lex.specs.declared.ident.Number.{Number}
use Rattle.nk_lex.specs.Faults.{and_then, first_of, unless}
use Rattle.nk_topo.specs.Topology.{Topology, is_switch, with_switch}
use Rattle.nk_declare.proofs.Checks.{none_both}
use Rattle.nk_declare.specs.declared.fault.DeclareError.{DeclareError}
use Rattle.nk_declare.specs.declared.fault.DeclareError.TheVariants as refused
use Rattle.nk_declare.specs.declared.fault.DeclareFault.{DeclareFault}
use Rattle.nk_declare.specs.declared.fault.DeclareFault.TheVariants as fault
use Rattle.nk_declare.specs.Declarations.{DeclaredValue, MaybeFault, above, declared_with, fault_if, nothing_declared, ports_fault, switch_fault, values_of}
use Rattle.nk_declare.specs.Declarations as declare
use Rattle.nk_tabgrammar.specs.declared.written.Declaration.TheVariants as declared
use Rattle.nk_tabgrammar.specs.declared.written.WrittenTable.{WrittenTable}
use Rattle.nk_tabgrammar.specs.declared.written.WrittenTables.{WrittenTables}
use Rattle.nk_tabgrammar.specs.declared.written.ReadError.{ReadError}
use Rattle.nk_lex.specs.declared.quad.Quad.{Quad}
use Rattle.nk_lex.specs.declared.quad.Quad.TheVariants as quad
use Rattle.nk_lex.specs.declared.quad.QuadNext.TheVariants as next
use Rattle.nk_tabgrammar.specs.declared.stage.Stage.TheVariants as stage
use Rattle.nk_tabgrammar.specs.declared.stage.Declaring.TheVariants as declaring
use Rattle.nk_tabgrammar.specs.Terminal.{mark, kind_place, table_terminal_of}
use Rattle.nk_tabgrammar.specs.Machine.{begin_table_text, table_link_on, next_table_reading, opened, table_reading, with_declaration}
use Rattle.nk_tabgrammar.specs.declared.states.LinkState.TheVariants as link
use Rattle.nk_tabgrammar.specs.declared.states.State.{State}
use Rattle.nk_tabgrammar.specs.declared.states.State.TheVariants as state
use Rattle.nk_tabgrammar.specs.declared.states.Tells.{Tells}
use Rattle.nk_tabgrammar.specs.declared.states.Tells.TheVariants as tells
use Rattle.nk_tabgrammar.specs.States as states
use Rattle.nk_tabgrammar.specs.States.{MaybeStep, after_token, state_of_stage}
use Rattle.nk_declare.specs.Declarations.{number_fault, port_fault}
use Rattle.nk_tabtext.specs.Values.{read_of, version_fault}
use Rattle.nk_tabtext.specs.Progress.{DeclaringValue, PartialValue, KnownValue, declares_of, finished, first_partial, known_after, known_of, number_of_token, switch_ends_told, unless_declared, with_declaring, word_of_token}
use Rattle.nk_tabtext.proofs.AddedParts.{then_assoc, then_same}
use Rattle.nk_tabtext.proofs.Stages.{TablesSoFar, so_far, declared_so, tabled_so, declaration_more, no_table_more}
use Rattle.nk_tabtext.proofs.Fitting.{Closes, Declares, Fits, Gives, Linked, Parts, Ported, Real, gives_declaring, gives_more, gives_on, gives_still, gives_unless, gives_with, ports_so, switch_so}
use Rattle.nk_tabtext.proofs.Going.{Both, Follows, both_if, both_last, both_through, by_token, none_if}

-- ---- faults of declarations

first_none : (o : MaybeFault) → first_of o None ≡ o
first_none None = refl
first_none (Some e) = refl

first_assoc : (a b c : MaybeFault) → first_of a (first_of b c) ≡ first_of (first_of a b) c
first_assoc None b c = refl
first_assoc (Some e) b c = refl

real_none : Real None
real_none = record { real = tt }

real_first : (a b : MaybeFault) → Real a → Real b → Real (first_of a b)
real_first None b ra rb = rb
real_first (Some e) b ra rb = ra

real_if : (b : Bool) (k : DeclareFault) (line : ℕ) → Real (fault_if b k line)
real_if true k line = record { real = tt }
real_if false k line = record { real = tt }

two_real : (b c : Bool) (k l : DeclareFault) (m n : ℕ) → Real (first_of (fault_if b k m) (fault_if c l n))
two_real b c k l m n = real_first (fault_if b k m) (fault_if c l n) (real_if b k m) (real_if c l n)

real_port : (before : List ℕ) (p : Number) → Real (port_fault before p)
real_port before p = two_real _ _ _ _ _ _

real_number : (topo : Topology) (n : Number) → Real (number_fault topo n)
real_number topo n = two_real _ _ _ _ _ _

real_ports : (before : List ℕ) (ps : List Number) → Real (ports_fault before ps)
real_ports before [] = real_none
real_ports before (p ∷ ps) = real_first (port_fault before p) (ports_fault (before ++ p.value ∷ []) ps) (real_port before p) (real_ports (before ++ p.value ∷ []) ps)

-- a declaration's answer, where it isn't running out of memory
abbrev IsRealAnswer : Result DeclaredValue DeclareError → Type 0
IsRealAnswer (Err refused.NoMemory) = ⊥
IsRealAnswer r = Unit {0}

real_answer : (o : MaybeFault) (s : DeclaredValue) → Real o → IsRealAnswer (unless o s)
real_answer None s r = tt
real_answer (Some refused.NoMemory) s r = absurd r.real
real_answer (Some (refused.Fault k line)) s r = tt

real_with : (s : DeclaredValue) (d : declare.NetworkDeclaration) → IsRealAnswer (declared_with s d)
real_with s (declare.field w n) = real_answer _ _ (two_real _ _ _ _ _ _)
real_with s (declare.tag w) = real_answer _ _ (two_real _ _ _ _ _ _)
real_with s (declare.switch n ps) = real_answer _ _ (real_first (number_fault s.topo n) (ports_fault [] ps) (real_number s.topo n) (real_ports [] ps))
real_with s (declare.link a m b n) =
    real_answer _ _ (real_first _ _ (real_first _ _ (real_first _ _ (two_real _ _ _ _ _ _) (real_if _ _ _)) (real_if _ _ _))
    (real_first _ _ (two_real _ _ _ _ _ _) (two_real _ _ _ _ _ _)))

-- ---- a declaration is whole

gives_said : (x : WrittenTables) (p : PartialValue) (r r' : Result DeclaredValue DeclareError) → r' ≡ r → IsRealAnswer r → p.version ≡ x.version.value
    → finished p.tables p.filling ≡ [] → Parts p [] [] []
    → Gives (and_then (read_of r) (λ s. Ok (so_far s [] [] [] [] []))) (Declares x) (known_of (with_declaring p (declares_of p.declaring r')))
gives_said x p r r' e real version none parts =
    subst (λ a. Gives (and_then (read_of r) (λ s. Ok (so_far s [] [] [] [] []))) (Declares x) (known_of (with_declaring p (declares_of p.declaring a)))) (sym e) (on r real)
  where
    on : (a : Result DeclaredValue DeclareError) → IsRealAnswer a
        → Gives (and_then (read_of a) (λ s. Ok (so_far s [] [] [] [] []))) (Declares x) (known_of (with_declaring p (declares_of p.declaring a)))
    on (Ok s) h =
        record { version = version; said = refl; tables = none; parts = record { buckets = parts.buckets; matches = parts.matches; sets = parts.sets } }
    on (Err refused.NoMemory) h = absurd h
    on (Err (refused.Fault k line)) h = refl

-- what is declared stays, whatever is told of the next one
same_declares : (x : WrittenTables) (v : TablesSoFar) (p : PartialValue) (e : DeclaringValue) → Declares x v p → e.said ≡ p.declaring.said → Declares x v (record p { declaring = e })
same_declares x v p e d said = record {
  version = d.version;
  said = said ∙ d.said;
  tables = d.tables;
  parts = record { buckets = d.parts.buckets; matches = d.parts.matches; sets = d.parts.sets };
}

then_ok : {X : Type 0} (r : Result X ReadError) → r ≡ and_then r (λ x. Ok x)
then_ok (Ok x) = refl
then_ok (Err e) = refl

-- a declaration begins, or the first table
begins : (x : WrittenTables) (c : WrittenTable) (k : KnownValue) (tl : Tells) (t : Token) (l : Kind) → Fits stage.Between x c (known_after k tl t)
    → Both (Follows k t) (begin_table_text x c (mark l)) (states.begin_state l tl)
begins x c k tl t l h =
    both_if (Follows k t) (kind_place kind.Field == kind_place l) (table_reading (stage.Declared declaring.Field) x c) (state.Field, tl) _ _ (refl, h)
    (both_if (Follows k t) (kind_place kind.Tag == kind_place l) (table_reading (stage.Declared declaring.Tag) x c) (state.Tag, tl) _ _ (refl, h)
    (both_if (Follows k t) (kind_place kind.Switch == kind_place l) (table_reading (stage.Declared declaring.Switch) x c) (state.Switch, tl) _ _ (refl, h)
    (both_if (Follows k t) (kind_place kind.Link == kind_place l) (table_reading (stage.Declared (declaring.Link quad.Start)) x c) (state.Link link.Start, tl) _ _
    (refl, (h.0, gives_with (declared_so x) (Declares x) (λ v p. Declares x v p × Linked quad.Start p.declaring) (known_after k tl t) (λ v p d. (d, tt)) h.1))
    (both_last (Follows k t) (kind_place kind.Table == kind_place l) (table_reading stage.Table x c) (state.Table, tl) (
      refl,
      gives_more (declared_so x) (tabled_so x) (λ v. so_far v.said [] [] [] [] []) (Declares x) (λ v p. Closes x v.tables v p) (known_after k tl t)
          (no_table_more x h.0) (λ v p d. record { version = d.version; said = d.said; tables = d.tables; parts = d.parts }) h.1,
    )))))

pub step_start : (x : WrittenTables) (c : WrittenTable) (k : KnownValue) (t : Token) → Fits stage.Start x c k
    → Both (Follows k t) (next_table_reading stage.Start x c (table_terminal_of t)) (after_token state.Start t.kind)
step_start x c k t h =
    by_token (Follows k t) (next_table_reading stage.Start x c) (after_token state.Start) t tt tt
    (λ l m. both_last (Follows k t) (kind_place kind.Tables == kind_place l) (table_reading stage.Version x c) (state.Version, tells.Nothing)
    (refl, ap (λ a. known_after a tells.Nothing t) h))

pub step_version : (x : WrittenTables) (c : WrittenTable) (k : KnownValue) (t : Token) → Fits stage.Version x c k
    → Both (Follows k t) (next_table_reading stage.Version x c (table_terminal_of t)) (after_token state.Version t.kind)
step_version x c k t h =
    by_token (Follows k t) (next_table_reading stage.Version x c) (after_token state.Version) t tt (
      refl,
      (
        refl,
        subst (λ a. Gives (declared_so (opened (number_of_token t))) (Declares (opened (number_of_token t))) (known_after a tells.Version t)) (sym h)
            (gives_unless (Declares (opened (number_of_token t))) (version_fault (number_of_token t)) (so_far nothing_declared [] [] [] [] []) (record first_partial { version = t.value })
            (record { version = refl; said = refl; tables = refl; parts = record { buckets = refl; matches = refl; sets = refl } })),
      ),
    )
    (λ l m. none_if (Follows k t) _ _ m.numbered)

pub step_between : (x : WrittenTables) (c : WrittenTable) (k : KnownValue) (t : Token) → Fits stage.Between x c k
    → Both (Follows k t) (next_table_reading stage.Between x c (table_terminal_of t)) (after_token state.Between t.kind)
step_between x c k t h =
    by_token (Follows k t) (next_table_reading stage.Between x c) (after_token state.Between) t tt tt
    (λ l m. begins x c k tells.Nothing t l (h.0, gives_still (declared_so x) (Declares x) (Declares x) k t (λ v p d. d) h.1))

-- ---- fields and the tag

pub step_field : (x : WrittenTables) (c : WrittenTable) (k : KnownValue) (t : Token) → Fits (stage.Declared declaring.Field) x c k
    → Both (Follows k t) (next_table_reading (stage.Declared declaring.Field) x c (table_terminal_of t)) (after_token state.Field t.kind)
step_field x c k t h =
    by_token (Follows k t) (next_table_reading (stage.Declared declaring.Field) x c) (after_token state.Field) t (
      refl,
      (
        h.0,
        gives_on (declared_so x) (declared_so x) (λ v. Ok v) (Declares x) (λ v p. Declares x v p × (p.declaring.name ≡ word_of_token t)) k tells.FieldName t
            (then_ok (declared_so x)) (λ v p d. (same_declares x v p (record p.declaring { name = word_of_token t }) d refl, refl)) h.1,
      ),
    )
    tt (λ l m. none_if (Follows k t) _ _ m.named)

pub step_named : (x : WrittenTables) (c : WrittenTable) (w : Ident) (k : KnownValue) (t : Token) → Fits (stage.Declared (declaring.FieldNamed w)) x c k
    → Both (Follows k t) (next_table_reading (stage.Declared (declaring.FieldNamed w)) x c (table_terminal_of t)) (after_token state.FieldNamed t.kind)
step_named x c w k t h =
    by_token (Follows k t) (next_table_reading (stage.Declared (declaring.FieldNamed w)) x c) (after_token state.FieldNamed) t tt (
      refl,
      (
        h.0,
        gives_on (declared_so x) (declared_so (with_declaration x (declared.Field w (number_of_token t)))) (λ v. and_then (read_of (declared_with v.said (declare.field w (number_of_token t)))) (λ s. Ok (so_far s [] [] [] [] [])))
            (λ v p. Declares x v p × (p.declaring.name ≡ w)) (Declares (with_declaration x (declared.Field w (number_of_token t)))) k tells.FieldMax t
            (declaration_more x (declared.Field w (number_of_token t)))
            (λ v p d. gives_said (with_declaration x (declared.Field w (number_of_token t))) p (declared_with v.said (declare.field w (number_of_token t))) (declared_with p.declaring.said (declare.field p.declaring.name (number_of_token t)))
            (ap (λ s. declared_with s (declare.field p.declaring.name (number_of_token t))) d.0.said ∙ ap (λ y. declared_with v.said (declare.field y (number_of_token t))) d.1)
            (real_with v.said (declare.field w (number_of_token t))) d.0.version d.0.tables d.0.parts) h.1,
      ),
    )
    (λ l m. none_if (Follows k t) _ _ m.numbered)

pub step_tag : (x : WrittenTables) (c : WrittenTable) (k : KnownValue) (t : Token) → Fits (stage.Declared declaring.Tag) x c k
    → Both (Follows k t) (next_table_reading (stage.Declared declaring.Tag) x c (table_terminal_of t)) (after_token state.Tag t.kind)
step_tag x c k t h =
    by_token (Follows k t) (next_table_reading (stage.Declared declaring.Tag) x c) (after_token state.Tag) t (
      refl,
      (
        h.0,
        gives_on (declared_so x) (declared_so (with_declaration x (declared.Tag (word_of_token t)))) (λ v. and_then (read_of (declared_with v.said (declare.tag (word_of_token t)))) (λ s. Ok (so_far s [] [] [] [] [])))
            (Declares x) (Declares (with_declaration x (declared.Tag (word_of_token t)))) k tells.Tag t
            (declaration_more x (declared.Tag (word_of_token t)))
            (λ v p d. gives_said (with_declaration x (declared.Tag (word_of_token t))) p (declared_with v.said (declare.tag (word_of_token t))) (declared_with p.declaring.said (declare.tag (word_of_token t)))
            (ap (λ s. declared_with s (declare.tag (word_of_token t))) d.said)
            (real_with v.said (declare.tag (word_of_token t))) d.version d.tables d.parts) h.1,
      ),
    )
    tt (λ l m. none_if (Follows k t) _ _ m.named)

-- ---- switches

-- a number that is no switch's
new_switch : (topo : Topology) (n : Number) → number_fault topo n ≡ None → is_switch topo n.value ≡ false
new_switch topo n e = by (is_switch topo n.value) ((none_both (above 65535 n) (fault_if (is_switch topo n.value) fault.SwitchTwice n.line) e).1)
  where
    by : (b : Bool) → fault_if b fault.SwitchTwice n.line ≡ None → b ≡ false
    by true q = absurd cc
    by false q = refl

pub step_switch : (x : WrittenTables) (c : WrittenTable) (k : KnownValue) (t : Token) → Fits (stage.Declared declaring.Switch) x c k
    → Both (Follows k t) (next_table_reading (stage.Declared declaring.Switch) x c (table_terminal_of t)) (after_token state.Switch t.kind)
step_switch x c k t h =
    by_token (Follows k t) (next_table_reading (stage.Declared declaring.Switch) x c) (after_token state.Switch) t tt (
      refl,
      (
        h.0,
        gives_on (declared_so x) (switch_so x (number_of_token t)) (λ v. unless_declared (number_fault v.said.topo (number_of_token t)) v) (Declares x) (Ported x (number_of_token t) []) k tells.Switch t refl
            (λ v p d. gives_declaring (Ported x (number_of_token t) []) (number_fault v.said.topo (number_of_token t)) (number_fault p.declaring.said.topo (number_of_token t)) v p
            (record p.declaring { switch = t.value; ports = [] }) (ap (λ s. number_fault s.topo (number_of_token t)) (sym d.said)) (real_number v.said.topo (number_of_token t))
            (λ e. (same_declares x v p (record p.declaring { switch = t.value; ports = [] }) d refl, refl, refl, new_switch v.said.topo (number_of_token t) e))) h.1,
      ),
    )
    (λ l m. none_if (Follows k t) _ _ m.numbered)

pub step_numbered : (x : WrittenTables) (c : WrittenTable) (n : Number) (k : KnownValue) (t : Token) → Fits (stage.Declared (declaring.SwitchNumbered n)) x c k
    → Both (Follows k t) (next_table_reading (stage.Declared (declaring.SwitchNumbered n)) x c (table_terminal_of t)) (after_token state.SwitchNumbered t.kind)
step_numbered x c n k t h =
    by_token (Follows k t) (next_table_reading (stage.Declared (declaring.SwitchNumbered n)) x c) (after_token state.SwitchNumbered) t tt tt
    (λ l m. both_last (Follows k t) (kind_place kind.Ports == kind_place l) (table_reading (stage.Declared (declaring.FirstPort n)) x c) (state.FirstPort, tells.Nothing)
    (refl, (h.0, gives_still (switch_so x n) (Ported x n []) (Ported x n []) k t (λ v p d. d) h.1)))

-- one more port

values_more : (ps : List Number) (q : Number) → values_of (ps ++ q ∷ []) ≡ values_of ps ++ q.value ∷ []
values_more [] q = refl
values_more (p ∷ ps) q = ap (λ l. p.value ∷ l) (values_more ps q)

ports_more : (before : List ℕ) (ps : List Number) (q : Number) → ports_fault before (ps ++ q ∷ []) ≡ first_of (ports_fault before ps) (port_fault (before ++ values_of ps) q)
ports_more before [] q = first_none (port_fault before q) ∙ ap (λ l. port_fault l q) (sym (append-nil before))
ports_more before (p ∷ ps) q =
    ap (first_of (port_fault before p)) (ports_more (before ++ p.value ∷ []) ps q)
    ∙ first_assoc (port_fault before p) (ports_fault (before ++ p.value ∷ []) ps) (port_fault ((before ++ p.value ∷ []) ++ values_of ps) q)
    ∙ ap (λ l. first_of (first_of (port_fault before p) (ports_fault (before ++ p.value ∷ []) ps)) (port_fault l q)) (append_assoc before (p.value ∷ []) (values_of ps))

unless_first : (a b : MaybeFault) (v : TablesSoFar) → unless_declared (first_of a b) v ≡ and_then (unless_declared a v) (λ u. unless_declared b u)
unless_first None b v = refl
unless_first (Some e) b v = refl

first_port : (x : WrittenTables) (n q : Number) → ports_so x n (q ∷ []) ≡ and_then (switch_so x n) (λ v. unless_declared (port_fault [] q) v)
first_port x n q =
    then_same (declared_so x) _ _ (λ v. ap (λ o. unless_declared (first_of (number_fault v.said.topo n) o) v) (first_none (port_fault [] q)) ∙ unless_first (number_fault v.said.topo n) (port_fault [] q) v)
    ∙ sym (then_assoc (declared_so x) (λ v. unless_declared (number_fault v.said.topo n) v) (λ v. unless_declared (port_fault [] q) v))

more_port : (x : WrittenTables) (n : Number) (ps : List Number) (q : Number) → ports_so x n (ps ++ q ∷ []) ≡ and_then (ports_so x n ps) (λ v. unless_declared (port_fault (values_of ps) q) v)
more_port x n ps q =
    then_same (declared_so x) _ _ (λ v. ap (λ o. unless_declared (first_of (number_fault v.said.topo n) o) v) (ports_more [] ps q)
    ∙ ap (λ o. unless_declared o v) (first_assoc (number_fault v.said.topo n) (ports_fault [] ps) (port_fault (values_of ps) q))
    ∙ unless_first (switch_fault v.said.topo n ps) (port_fault (values_of ps) q) v)
    ∙ sym (then_assoc (declared_so x) (λ v. unless_declared (switch_fault v.said.topo n ps) v) (λ v. unless_declared (port_fault (values_of ps) q) v))

-- what is known of one more port
port_gives : (x : WrittenTables) (n : Number) (ps : List ℕ) (v : TablesSoFar) (p : PartialValue) (t : Token) → Ported x n ps v p
    → Gives (unless_declared (port_fault ps (number_of_token t)) v) (Ported x n (ps ++ t.value ∷ []))
    (known_of (with_declaring p (unless_declared (port_fault p.declaring.ports (number_of_token t)) (record p.declaring { ports = p.declaring.ports ++ t.value ∷ [] }))))
port_gives x n ps v p t d =
    gives_declaring (Ported x n (ps ++ t.value ∷ [])) (port_fault ps (number_of_token t)) (port_fault p.declaring.ports (number_of_token t)) v p
    (record p.declaring { ports = p.declaring.ports ++ t.value ∷ [] }) (ap (λ l. port_fault l (number_of_token t)) (sym d.2)) (real_port ps (number_of_token t))
    (λ e. (same_declares x v p (record p.declaring { ports = p.declaring.ports ++ t.value ∷ [] }) d.0 refl, d.1, ap (λ l. l ++ t.value ∷ []) d.2, d.3))

pub step_first_port : (x : WrittenTables) (c : WrittenTable) (n : Number) (k : KnownValue) (t : Token) → Fits (stage.Declared (declaring.FirstPort n)) x c k
    → Both (Follows k t) (next_table_reading (stage.Declared (declaring.FirstPort n)) x c (table_terminal_of t)) (after_token state.FirstPort t.kind)
step_first_port x c n k t h =
    by_token (Follows k t) (next_table_reading (stage.Declared (declaring.FirstPort n)) x c) (after_token state.FirstPort) t tt (
      refl,
      (
        h.0,
        gives_on (switch_so x n) (ports_so x n (number_of_token t ∷ [])) (λ v. unless_declared (port_fault [] (number_of_token t)) v) (Ported x n []) (Ported x n (t.value ∷ [])) k tells.Port t
            (first_port x n (number_of_token t)) (λ v p d. port_gives x n [] v p t d) h.1,
      ),
    )
    (λ l m. none_if (Follows k t) _ _ m.numbered)

pub step_next_port : (x : WrittenTables) (c : WrittenTable) (n q : Number) (qs : List Number) (k : KnownValue) (t : Token) → Fits (stage.Declared (declaring.NextPort n q qs)) x c k
    → Both (Follows k t) (next_table_reading (stage.Declared (declaring.NextPort n q qs)) x c (table_terminal_of t)) (after_token state.NextPort t.kind)
step_next_port x c n q qs k t h =
    by_token (Follows k t) (next_table_reading (stage.Declared (declaring.NextPort n q qs)) x c) (after_token state.NextPort) t tt (
      refl,
      (
        h.0,
        gives_on (ports_so x n (q ∷ qs)) (ports_so x n ((q ∷ qs) ++ number_of_token t ∷ [])) (λ v. unless_declared (port_fault (values_of (q ∷ qs)) (number_of_token t)) v)
            (Ported x n (values_of (q ∷ qs))) (Ported x n (values_of ((q ∷ qs) ++ number_of_token t ∷ []))) k tells.Port t
            (more_port x n (q ∷ qs) (number_of_token t))
            (λ v p d. subst (λ l. Gives (unless_declared (port_fault (values_of (q ∷ qs)) (number_of_token t)) v) (Ported x n l)
            (known_of (with_declaring p (unless_declared (port_fault p.declaring.ports (number_of_token t)) (record p.declaring { ports = p.declaring.ports ++ t.value ∷ [] })))))
            (sym (values_more (q ∷ qs) (number_of_token t))) (port_gives x n (values_of (q ∷ qs)) v p t d)) h.1,
      ),
    )
    (λ l m. none_if (Follows k t) _ _ m.numbered)

-- the switch is whole

ends_said : (d : DeclaringValue) (s : DeclaredValue) (n : ℕ) (ps : List ℕ) → d.said ≡ s → d.switch ≡ n → d.ports ≡ ps → is_switch s.topo n ≡ false
    → (switch_ends_told d).said ≡ record s { topo = with_switch s.topo n ps }
ends_said d s n ps a b e new =
    ap (λ q. (if q then d else record d { said = record d.said { topo = with_switch d.said.topo d.switch d.ports } }).said)
    (ap (λ u. is_switch u.topo d.switch) a ∙ ap (λ m. is_switch s.topo m) b ∙ new)
    ∙ ap (λ (u : DeclaredValue). record u { topo = with_switch u.topo d.switch d.ports }) a
    ∙ ap (λ m. record s { topo = with_switch s.topo m d.ports }) b
    ∙ ap (λ l. record s { topo = with_switch s.topo n l }) e

abbrev pub with_ports : DeclaredValue → Number → List ℕ → DeclaredValue
with_ports s n ps = record s { topo = with_switch s.topo n.value ps }

pub switch_more : (x : WrittenTables) (n q : Number) (qs : List Number)
    → declared_so (with_declaration x (declared.Switch n q qs)) ≡ and_then (ports_so x n (q ∷ qs)) (λ v. Ok (so_far (with_ports v.said n (values_of (q ∷ qs))) [] [] [] [] []))
switch_more x n q qs =
    declaration_more x (declared.Switch n q qs)
    ∙ then_same (declared_so x) _ _ (λ v. on v (switch_fault v.said.topo n (q ∷ qs)))
    ∙ sym (then_assoc (declared_so x) (λ v. unless_declared (switch_fault v.said.topo n (q ∷ qs)) v) (λ v. Ok (so_far (with_ports v.said n (values_of (q ∷ qs))) [] [] [] [] [])))
  where
    on : (v : TablesSoFar) (o : MaybeFault) → and_then (read_of (unless o (with_ports v.said n (values_of (q ∷ qs))))) (λ s. Ok (so_far s [] [] [] [] []))
        ≡ and_then (unless_declared o v) (λ u. Ok (so_far (with_ports u.said n (values_of (q ∷ qs))) [] [] [] [] []))
    on v None = refl
    on v (Some e) = refl

pub switch_ends : (x : WrittenTables) (n q : Number) (qs : List Number) (v : TablesSoFar) (p : PartialValue) → Ported x n (values_of (q ∷ qs)) v p
    → Declares (with_declaration x (declared.Switch n q qs)) (so_far (with_ports v.said n (values_of (q ∷ qs))) [] [] [] [] []) (record p { declaring = switch_ends_told p.declaring })
switch_ends x n q qs v p d = record {
  version = d.0.version;
  said = ends_said p.declaring v.said n.value (values_of (q ∷ qs)) d.0.said d.1 d.2 d.3;
  tables = d.0.tables;
  parts = record { buckets = d.0.parts.buckets; matches = d.0.parts.matches; sets = d.0.parts.sets };
}

pub step_port : (x : WrittenTables) (c : WrittenTable) (n q : Number) (qs : List Number) (k : KnownValue) (t : Token) → Fits (stage.Declared (declaring.PortRead n q qs)) x c k
    → Both (Follows k t) (next_table_reading (stage.Declared (declaring.PortRead n q qs)) x c (table_terminal_of t)) (after_token state.PortRead t.kind)
step_port x c n q qs k t h =
    by_token (Follows k t) (next_table_reading (stage.Declared (declaring.PortRead n q qs)) x c) (after_token state.PortRead) t tt tt
    (λ l m. both_if (Follows k t) (kind_place kind.Comma == kind_place l) (table_reading (stage.Declared (declaring.NextPort n q qs)) x c) (state.NextPort, tells.Nothing) _ _
    (refl, (h.0, gives_still (ports_so x n (q ∷ qs)) (Ported x n (values_of (q ∷ qs))) (Ported x n (values_of (q ∷ qs))) k t (λ v p d. d) h.1))
    (begins (with_declaration x (declared.Switch n q qs)) c k tells.SwitchEnds t l (
      h.0,
      gives_on (ports_so x n (q ∷ qs)) (declared_so (with_declaration x (declared.Switch n q qs))) (λ v. Ok (so_far (with_ports v.said n (values_of (q ∷ qs))) [] [] [] [] []))
          (Ported x n (values_of (q ∷ qs))) (Declares (with_declaration x (declared.Switch n q qs))) k tells.SwitchEnds t (switch_more x n q qs) (λ v p d. switch_ends x n q qs v p d) h.1,
    )))

-- ---- links

abbrev Links : WrittenTables → Quad → TablesSoFar → PartialValue → Type 0
Links x q v p = Declares x v p × Linked q p.declaring

-- a link goes on without a number
link_goes : (x : WrittenTables) (c : WrittenTable) (q r : Quad) (b : Bool) (st : State) (k : KnownValue) (t : Token)
    → st ≡ state_of_stage (stage.Declared (declaring.Link r)) → ((d : DeclaringValue) → Linked q d → Linked r d) → Fits (stage.Declared (declaring.Link q)) x c k
    → Both (Follows k t) (table_link_on x c (if b then next.Going r else next.Refused)) (if b then Some (st, tells.Nothing) else None)
link_goes x c q r b st k t e step h =
    both_through (Follows k t) (table_link_on x c) (λ (z : MaybeStep). z) b (next.Going r) next.Refused (Some (st, tells.Nothing)) None
    (e, (h.0, gives_still (declared_so x) (Links x q) (Links x r) k t (λ v p d. (d.0, step p.declaring d.1)) h.1)) tt

pub step_link : (x : WrittenTables) (c : WrittenTable) (q : Quad) (k : KnownValue) (t : Token) → Fits (stage.Declared (declaring.Link q)) x c k
    → Both (Follows k t) (next_table_reading (stage.Declared (declaring.Link q)) x c (table_terminal_of t)) (after_token (state_of_stage (stage.Declared (declaring.Link q))) t.kind)
step_link x c quad.Start k t h =
    by_token (Follows k t) (next_table_reading (stage.Declared (declaring.Link quad.Start)) x c) (after_token (state.Link link.Start)) t tt (
      refl,
      (
        h.0,
        gives_on (declared_so x) (declared_so x) (λ v. Ok v) (Links x quad.Start) (Links x (quad.Switch (number_of_token t))) k tells.LinkSwitch t (then_ok (declared_so x))
            (λ v p d. (same_declares x v p (record p.declaring { from_switch = number_of_token t }) d.0 refl, refl)) h.1,
      ),
    )
    (λ l m. none_if (Follows k t) _ _ m.numbered)
step_link x c (quad.Switch a) k t h =
    by_token (Follows k t) (next_table_reading (stage.Declared (declaring.Link (quad.Switch a))) x c) (after_token (state.Link link.Switch)) t tt tt
    (λ l m. link_goes x c (quad.Switch a) (quad.SwitchColon a) (kind_place kind.Colon == kind_place l) (state.Link link.SwitchColon) k t refl (λ d y. y) h)
step_link x c (quad.SwitchColon a) k t h =
    by_token (Follows k t) (next_table_reading (stage.Declared (declaring.Link (quad.SwitchColon a))) x c) (after_token (state.Link link.SwitchColon)) t tt (
      refl,
      (
        h.0,
        gives_on (declared_so x) (declared_so x) (λ v. Ok v) (Links x (quad.SwitchColon a)) (Links x (quad.Port a (number_of_token t))) k tells.LinkPort t (then_ok (declared_so x))
            (λ v p d. (same_declares x v p (record p.declaring { from_port = number_of_token t }) d.0 refl, (d.1, refl))) h.1,
      ),
    )
    (λ l m. none_if (Follows k t) _ _ m.numbered)
step_link x c (quad.Port a n) k t h =
    by_token (Follows k t) (next_table_reading (stage.Declared (declaring.Link (quad.Port a n))) x c) (after_token (state.Link link.Port)) t tt tt
    (λ l m. link_goes x c (quad.Port a n) (quad.Arrow a n) (kind_place kind.Arrow == kind_place l) (state.Link link.Arrow) k t refl (λ d y. y) h)
step_link x c (quad.Arrow a n) k t h =
    by_token (Follows k t) (next_table_reading (stage.Declared (declaring.Link (quad.Arrow a n))) x c) (after_token (state.Link link.Arrow)) t tt (
      refl,
      (
        h.0,
        gives_on (declared_so x) (declared_so x) (λ v. Ok v) (Links x (quad.Arrow a n)) (Links x (quad.ToSwitch a n (number_of_token t))) k tells.LinkToSwitch t (then_ok (declared_so x))
            (λ v p d. (same_declares x v p (record p.declaring { to_switch = number_of_token t }) d.0 refl, (d.1.0, d.1.1, refl))) h.1,
      ),
    )
    (λ l m. none_if (Follows k t) _ _ m.numbered)
step_link x c (quad.ToSwitch a n b) k t h =
    by_token (Follows k t) (next_table_reading (stage.Declared (declaring.Link (quad.ToSwitch a n b))) x c) (after_token (state.Link link.ToSwitch)) t tt tt
    (λ l m. link_goes x c (quad.ToSwitch a n b) (quad.ToColon a n b) (kind_place kind.Colon == kind_place l) (state.Link link.ToColon) k t refl (λ d y. y) h)
step_link x c (quad.ToColon a n b) k t h =
    by_token (Follows k t) (next_table_reading (stage.Declared (declaring.Link (quad.ToColon a n b))) x c) (after_token (state.Link link.ToColon)) t tt (
      refl,
      (
        h.0,
        gives_on (declared_so x) (declared_so (with_declaration x (declared.Link a n b (number_of_token t)))) (λ v. and_then (read_of (declared_with v.said (declare.link a n b (number_of_token t)))) (λ s. Ok (so_far s [] [] [] [] [])))
            (Links x (quad.ToColon a n b)) (Declares (with_declaration x (declared.Link a n b (number_of_token t)))) k tells.LinkToPort t
            (declaration_more x (declared.Link a n b (number_of_token t)))
            (λ v p d. gives_said (with_declaration x (declared.Link a n b (number_of_token t))) p (declared_with v.said (declare.link a n b (number_of_token t)))
            (declared_with p.declaring.said (declare.link p.declaring.from_switch p.declaring.from_port p.declaring.to_switch (number_of_token t)))
            (ap (λ s. declared_with s (declare.link p.declaring.from_switch p.declaring.from_port p.declaring.to_switch (number_of_token t))) d.0.said
            ∙ ap (λ y. declared_with v.said (declare.link y p.declaring.from_port p.declaring.to_switch (number_of_token t))) d.1.0
            ∙ ap (λ y. declared_with v.said (declare.link a y p.declaring.to_switch (number_of_token t))) d.1.1
            ∙ ap (λ y. declared_with v.said (declare.link a n y (number_of_token t))) d.1.2)
            (real_with v.said (declare.link a n b (number_of_token t))) d.0.version d.0.tables d.0.parts) h.1,
      ),
    )
    (λ l m. none_if (Follows k t) _ _ m.numbered)
