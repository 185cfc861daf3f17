-- What is known of the first tokens of a text fits what is written so far, at each stage of reading.
use Rattle.std.proofs.Common.{◌≡◌, ℕ, List, [], ◌∷◌, false, refl, sym, subst, Some, None}
use Rattle.std.specs.Prelude.{Ok, Err}
use Rattle.std.specs.declared.result.Result.{Result}
use Rattle.nk_lex.specs.declared.token.Token.{Token}
use Rattle.nk_lex.specs.declared.ident.Ident.{Ident}
use Rattle.nk_lex.specs.declared.ident.Number.{Number}
use Rattle.nk_lex.specs.Faults.{and_then}
use Rattle.nk_table.specs.declared.Bucket.{Bucket}
use Rattle.nk_table.specs.declared.Row.{Row}
use Rattle.nk_table.specs.declared.Table.{Table}
use Rattle.nk_topo.specs.Topology.{is_switch}
use Rattle.nk_declare.specs.declared.fault.DeclareError.TheVariants as refused
use Rattle.nk_declare.specs.Declarations.{MaybeFault, place_of_field, most_in, switch_fault, values_of}
use Rattle.nk_tabgrammar.specs.declared.written.WrittenTable.{WrittenTable}
use Rattle.nk_tabgrammar.specs.declared.written.WrittenTables.{WrittenTables}
use Rattle.nk_tabgrammar.specs.declared.written.ReadError.{ReadError}
use Rattle.nk_tabgrammar.specs.declared.written.ReadError.TheVariants as error
use Rattle.nk_lex.specs.declared.quad.Quad.{Quad}
use Rattle.nk_lex.specs.declared.quad.Quad.TheVariants as quad
use Rattle.nk_tabgrammar.specs.declared.stage.Place.{Place}
use Rattle.nk_tabgrammar.specs.declared.stage.Place.TheVariants as place
use Rattle.nk_tabgrammar.specs.declared.stage.Owner.{Owner}
use Rattle.nk_tabgrammar.specs.declared.stage.Owner.TheVariants as owner
use Rattle.nk_tabgrammar.specs.declared.stage.Stage.{Stage}
use Rattle.nk_tabgrammar.specs.declared.stage.Stage.TheVariants as stage
use Rattle.nk_tabgrammar.specs.declared.stage.Declaring.{Declaring}
use Rattle.nk_tabgrammar.specs.declared.stage.Declaring.TheVariants as declaring
use Rattle.nk_tabgrammar.specs.declared.stage.Grouping.{Grouping}
use Rattle.nk_tabgrammar.specs.declared.stage.Grouping.TheVariants as grouping
use Rattle.nk_tabgrammar.specs.declared.stage.InRow.{InRow}
use Rattle.nk_tabgrammar.specs.declared.stage.InRow.TheVariants as in_row
use Rattle.nk_tabgrammar.specs.declared.states.Tells.{Tells}
use Rattle.nk_tabgrammar.specs.declared.states.Tells.TheVariants as tells
use Rattle.nk_declare.specs.Declarations.{number_fault}
use Rattle.nk_tabtext.specs.Values.{FaultLine, checked, unless_at}
use Rattle.nk_tabtext.specs.Progress.{DeclaringValue, FillingValue, PartialValue, KnownValue, Sound, Faulty, finished, first_partial, known_after, known_of, told, unless_declared, with_declaring, with_filling, with_filled}
use Rattle.nk_tabtext.proofs.Stages.{TablesSoFar, Value, declared_so, tabled_so, grouped_so, rowed_so, numbered_so, filled_so, matched_so, assigned_so, named_so, left_so, called_so, tested_so}

-- ---- what is known, by what is said

-- what is said is known so, and a fault is known by its line
abbrev pub Gives : {X : Type 0} → Result X ReadError → (X → PartialValue → Type 0) → KnownValue → Type 0
Gives (Ok v) R (Sound p) = R v p
Gives (Err (error.TableFault l)) R (Faulty m) = l ≡ m
Gives r R k = ⊥

-- a token that tells nothing
pub gives_still : {X : Type 0} (r : Result X ReadError) (R S : X → PartialValue → Type 0) (k : KnownValue) (t : Token)
    → ((v : X) (p : PartialValue) → R v p → S v p) → Gives r R k → Gives r S (known_after k tells.Nothing t)
gives_still (Ok v) R S (Sound p) t step h = step v p h
gives_still (Err (error.TableFault l)) R S (Faulty m) t step h = h
gives_still r R S k t step h = absurd h

-- a result that gives this gives what follows from it
pub gives_with : {X : Type 0} (r : Result X ReadError) (R S : X → PartialValue → Type 0) (k : KnownValue)
    → ((v : X) (p : PartialValue) → R v p → S v p) → Gives r R k → Gives r S k
gives_with (Ok v) R S (Sound p) step h = step v p h
gives_with (Err (error.TableFault l)) R S (Faulty m) step h = h
gives_with r R S k step h = absurd h

-- a result that is made of another one's value gives what follows for the value that is made
pub gives_more : {X Y : Type 0} (r : Result X ReadError) (q : Result Y ReadError) (f : X → Y) (R : X → PartialValue → Type 0) (S : Y → PartialValue → Type 0) (k : KnownValue)
    → q ≡ and_then r (λ v. Ok (f v)) → ((v : X) (p : PartialValue) → R v p → S (f v) p) → Gives r R k → Gives q S k
gives_more {X = X} {Y = Y} r q f R S k e step h = subst (λ a. Gives a S k) (sym e) (on r k h)
  where
    on : (a : Result X ReadError) (l : KnownValue) → Gives a R l → Gives (and_then a (λ v. Ok (f v))) S l
    on (Ok v) (Sound p) g = step v p g
    on (Err (error.TableFault m)) (Faulty n) g = g
    on a l g = absurd g

-- a token that tells something
pub gives_on : {X Y : Type 0} (r : Result X ReadError) (q : Result Y ReadError) (f : X → Result Y ReadError) (R : X → PartialValue → Type 0) (S : Y → PartialValue → Type 0)
    (k : KnownValue) (tl : Tells) (t : Token)
    → q ≡ and_then r f → ((v : X) (p : PartialValue) → R v p → Gives (f v) S (known_of (told tl p t))) → Gives r R k → Gives q S (known_after k tl t)
gives_on {X = X} {Y = Y} r q f R S k tl t e step h = subst (λ a. Gives a S (known_after k tl t)) (sym e) (on r k h)
  where
    on : (a : Result X ReadError) (l : KnownValue) → Gives a R l → Gives (and_then a f) S (known_after l tl t)
    on (Ok v) (Sound p) g = step v p g
    on (Err (error.TableFault m)) (Faulty n) g = g
    on a l g = absurd g

module _ {Y : Type 0} (S : Y → PartialValue → Type 0) where
  pub gives_unless : (o : FaultLine) (y : Y) (p : PartialValue) → S y p → Gives (checked o (Ok y)) S (known_of (unless_at o p))
  gives_unless None y p s = s
  gives_unless (Some l) y p s = refl

  -- a rule of a table
  pub gives_filling : (o o' : FaultLine) (y : Y) (p : PartialValue) (f : FillingValue) → o ≡ o' → S y (record p { filling = f })
      → Gives (checked o (Ok y)) S (known_of (with_filling p (unless_at o' f)))
  gives_filling o o' y p f e s = subst (λ a. Gives (checked o (Ok y)) S (known_of (with_filling p (unless_at a f)))) e (on o)
    where
      on : (a : FaultLine) → Gives (checked a (Ok y)) S (known_of (with_filling p (unless_at a f)))
      on None = s
      on (Some l) = refl

  pub gives_table : (o o' : FaultLine) (y : Y) (p : PartialValue) (f : FillingValue) (ts : List (ℕ × Table)) → o ≡ o' → S y (record p { filling = f; tables = ts })
      → Gives (checked o (Ok y)) S (known_of (with_filled p (unless_at o' (f, ts))))
  gives_table o o' y p f ts e s = subst (λ a. Gives (checked o (Ok y)) S (known_of (with_filled p (unless_at a (f, ts))))) e (on o)
    where
      on : (a : FaultLine) → Gives (checked a (Ok y)) S (known_of (with_filled p (unless_at a (f, ts))))
      on None = s
      on (Some l) = refl

-- a fault of declarations, which isn't running out of memory
abbrev pub IsReal : MaybeFault → Type 0
IsReal None = Unit {0}
IsReal (Some refused.NoMemory) = ⊥
IsReal (Some (refused.Fault k line)) = Unit {0}

pub record Real (o : MaybeFault) : Type 0 where
  pub real : IsReal o

module _ {Y : Type 0} (S : Y → PartialValue → Type 0) where
  pub gives_declaring : (o o' : MaybeFault) (y : Y) (p : PartialValue) (d : DeclaringValue) → o ≡ o' → Real o → (o ≡ None → S y (record p { declaring = d }))
      → Gives (unless_declared o y) S (known_of (with_declaring p (unless_declared o' d)))
  gives_declaring o o' y p d e real s = subst (λ a. Gives (unless_declared o y) S (known_of (with_declaring p (unless_declared a d)))) e (on o real.real s)
    where
      on : (a : MaybeFault) → IsReal a → (a ≡ None → S y (record p { declaring = d })) → Gives (unless_declared a y) S (known_of (with_declaring p (unless_declared a d)))
      on None r g = g refl
      on (Some refused.NoMemory) r g = absurd r
      on (Some (refused.Fault k line)) r g = refl

-- ---- what fits

-- the buckets, matches and assignments that are read
pub record Parts (p : PartialValue) (bs : List Bucket) (ms : List (ℕ × ℕ × ℕ)) (ss : List (ℕ × ℕ)) : Type 0 where
  pub buckets : p.filling.buckets ≡ bs
  pub matches : p.filling.matches ≡ ms
  pub sets : p.filling.sets ≡ ss

-- no table is read
pub record Closes (x : WrittenTables) (ts : List (ℕ × Table)) (v : TablesSoFar) (p : PartialValue) : Type 0 where
  pub version : p.version ≡ x.version.value
  pub said : p.declaring.said ≡ v.said
  pub tables : finished p.tables p.filling ≡ ts
  pub parts : Parts p [] [] []

-- a table is read
pub record Opens (x : WrittenTables) (c : WrittenTable) (rs : List Row) (v : TablesSoFar) (p : PartialValue) : Type 0 where
  pub version : p.version ≡ x.version.value
  pub said : p.declaring.said ≡ v.said
  pub tables : p.tables ≡ v.tables
  pub switch : p.filling.switch ≡ Some c.switch.value
  pub groups : p.filling.groups ≡ v.groups
  pub rows : p.filling.rows ≡ rs

abbrev pub Declares : WrittenTables → TablesSoFar → PartialValue → Type 0
Declares x v p = Closes x [] v p

-- a switch that is declared
abbrev pub Ported : WrittenTables → Number → List ℕ → TablesSoFar → PartialValue → Type 0
Ported x n ps v p =
    Declares x v p × (p.declaring.switch ≡ n.value) × (p.declaring.ports ≡ ps) × (is_switch v.said.topo n.value ≡ false)

-- a link that is declared
abbrev pub Linked : Quad → DeclaringValue → Type 0
Linked quad.Start d = Unit {0}
Linked (quad.Switch a) d = d.from_switch ≡ a
Linked (quad.SwitchColon a) d = d.from_switch ≡ a
Linked (quad.Port a m) d = (d.from_switch ≡ a) × (d.from_port ≡ m)
Linked (quad.Arrow a m) d = (d.from_switch ≡ a) × (d.from_port ≡ m)
Linked (quad.ToSwitch a m b) d = (d.from_switch ≡ a) × (d.from_port ≡ m) × (d.to_switch ≡ b)
Linked (quad.ToColon a m b) d = (d.from_switch ≡ a) × (d.from_port ≡ m) × (d.to_switch ≡ b)

-- groups are read
abbrev pub Groups : WrittenTables → WrittenTable → TablesSoFar → PartialValue → Type 0
Groups x c v p = Opens x c [] v p × Parts p [] [] []

-- rows are read
abbrev pub Rows : WrittenTables → WrittenTable → TablesSoFar → PartialValue → Type 0
Rows x c v p = Opens x c v.rows v p × Parts p [] [] []

-- matches are read
abbrev pub Matches : WrittenTables → WrittenTable → Number → TablesSoFar → PartialValue → Type 0
Matches x c q v p = Opens x c v.rows v p × Parts p [] v.matches [] × (p.filling.priority ≡ q.value)

-- a bucket is read
abbrev pub Owns : WrittenTables → WrittenTable → Owner → List (ℕ × ℕ) → TablesSoFar → PartialValue → Type 0
Owns x c (owner.First n) ss v p = Opens x c [] v p × Parts p [] [] ss × (p.filling.number ≡ n.value)
Owns x c (owner.Next g) ss v p = Opens x c [] v p × Parts p v.buckets [] ss × (p.filling.number ≡ g.number.value)
Owns x c (owner.Row q ms) ss v p = Opens x c v.rows v p × Parts p [] v.matches ss × (p.filling.priority ≡ q.value)

-- groups stand before rows
abbrev pub NoRows : Owner → WrittenTable → Type 0
NoRows (owner.First n) c = c.rows ≡ []
NoRows (owner.Next g) c = c.rows ≡ []
NoRows (owner.Row q ms) c = Unit {0}

-- the field is told
abbrev pub IsField : Ident → TablesSoFar → PartialValue → Type 0
IsField w v p = (p.filling.field ≡ place_of_field v.said.fields w) × (p.filling.max ≡ most_in v.said.fields w)

abbrev pub ports_so : WrittenTables → Number → List Number → Value
ports_so x n ps = and_then (declared_so x) (λ v. unless_declared (switch_fault v.said.topo n ps) v)

abbrev pub switch_so : WrittenTables → Number → Value
switch_so x n = and_then (declared_so x) (λ v. unless_declared (number_fault v.said.topo n) v)

abbrev pub FitsDeclaring : Declaring → WrittenTables → KnownValue → Type 0
FitsDeclaring (declaring.FieldNamed w) x k = Gives (declared_so x) (λ v p. Declares x v p × (p.declaring.name ≡ w)) k
FitsDeclaring (declaring.SwitchNumbered n) x k = Gives (switch_so x n) (Ported x n []) k
FitsDeclaring (declaring.FirstPort n) x k = Gives (switch_so x n) (Ported x n []) k
FitsDeclaring (declaring.NextPort n q qs) x k = Gives (ports_so x n (q ∷ qs)) (Ported x n (values_of (q ∷ qs))) k
FitsDeclaring (declaring.PortRead n q qs) x k = Gives (ports_so x n (q ∷ qs)) (Ported x n (values_of (q ∷ qs))) k
FitsDeclaring (declaring.Link q) x k = Gives (declared_so x) (λ v p. Declares x v p × Linked q p.declaring) k
FitsDeclaring d x k = Gives (declared_so x) (Declares x) k

abbrev pub FitsGrouping : Grouping → WrittenTables → WrittenTable → KnownValue → Type 0
FitsGrouping grouping.Group x c k = Gives (grouped_so x c) (Groups x c) k
FitsGrouping (grouping.GroupNumbered n) x c k = Gives (numbered_so x c n) (Owns x c (owner.First n) []) k
FitsGrouping (grouping.FirstBucket n) x c k = Gives (numbered_so x c n) (Owns x c (owner.First n) []) k
FitsGrouping (grouping.BucketRead g) x c k = Gives (filled_so x c g) (Owns x c (owner.Next g) []) k

abbrev pub FitsBucket : Owner → Place → WrittenTables → WrittenTable → KnownValue → Type 0
FitsBucket o (place.Sets ps) x c k = Gives (assigned_so x c o ps) (λ v p. Owns x c o v.sets v p) k
FitsBucket o (place.Named ps w) x c k = Gives (named_so x c o ps w) (λ v p. Owns x c o v.sets v p × IsField w v p) k
FitsBucket o (place.Assigned ps w) x c k = Gives (named_so x c o ps w) (λ v p. Owns x c o v.sets v p × IsField w v p) k
FitsBucket o (place.Out ps) x c k = Gives (assigned_so x c o ps) (λ v p. Owns x c o v.sets v p) k
FitsBucket o (place.Left ps e) x c k = Gives (left_so x c o ps e) (λ v p. Owns x c o v.sets v p × (p.filling.exit ≡ v.out)) k

abbrev pub Tested : WrittenTables → WrittenTable → Number → Ident → Number → TablesSoFar → PartialValue → Type 0
Tested x c q w n v p = Matches x c q v p × IsField w v p × (p.filling.value ≡ n)

abbrev pub FitsRow : InRow → WrittenTables → WrittenTable → KnownValue → Type 0
FitsRow in_row.Row x c k = Gives (rowed_so x c) (Rows x c) k
FitsRow (in_row.RowNumbered q) x c k = Gives (matched_so x c q []) (Matches x c q) k
FitsRow (in_row.Matches q ms) x c k = Gives (matched_so x c q ms) (Matches x c q) k
FitsRow (in_row.MatchNamed q ms w) x c k = Gives (called_so x c q ms w) (λ v p. Matches x c q v p × IsField w v p) k
FitsRow (in_row.MatchTested q ms w) x c k = Gives (called_so x c q ms w) (λ v p. Matches x c q v p × IsField w v p) k
FitsRow (in_row.MatchValued q ms w n) x c k = Gives (tested_so x c q ms w n) (Tested x c q w n) k
FitsRow (in_row.MatchSlashed q ms w n) x c k = Gives (tested_so x c q ms w n) (Tested x c q w n) k
FitsRow (in_row.Target q ms) x c k = Gives (matched_so x c q ms) (Matches x c q) k
FitsRow (in_row.TargetGroup q ms) x c k = Gives (matched_so x c q ms) (Matches x c q) k

-- what is known fits what is written so far
abbrev pub Fits : Stage → WrittenTables → WrittenTable → KnownValue → Type 0
Fits stage.Start x c k = k ≡ Sound first_partial
Fits stage.Version x c k = k ≡ Sound first_partial
Fits stage.Between x c k = (x.tables ≡ []) × Gives (declared_so x) (Declares x) k
Fits (stage.Declared d) x c k = (x.tables ≡ []) × FitsDeclaring d x k
Fits stage.Table x c k = Gives (tabled_so x) (λ v p. Closes x v.tables v p) k
Fits stage.Groups x c k = (c.rows ≡ []) × Gives (grouped_so x c) (Groups x c) k
Fits (stage.Grouped g) x c k = (c.rows ≡ []) × FitsGrouping g x c k
Fits (stage.InBucket o l) x c k = NoRows o c × FitsBucket o l x c k
Fits stage.Rows x c k = Gives (rowed_so x c) (Rows x c) k
Fits (stage.InRow r) x c k = FitsRow r x c k
