-- The states are the stages without what these keep.
use Rattle.std.proofs.Common.{◌≡◌, ℕ, Bool, true, false, List, Option, refl, sym, ap, subst}
use Rattle.std.specs.Prelude.{Some, None, is_some, if◌then◌else◌, option_map}
use Rattle.nk_lex.specs.declared.kind.Kind.{Kind}
use Rattle.nk_lex.specs.declared.kind.Kind.TheVariants as kind
use Rattle.nk_lex.specs.declared.token.Token.{Token}
use Rattle.nk_lex.specs.declared.ident.Ident.{Ident}
use Rattle.nk_lex.specs.declared.ident.Number.{Number}
use Rattle.nk_tabgrammar.specs.declared.states.BucketState.{BucketState}
use Rattle.nk_tabgrammar.specs.declared.states.State.{State}
use Rattle.nk_tabgrammar.specs.declared.states.State.TheVariants as state
use Rattle.nk_tabgrammar.specs.declared.states.Tells.{Tells}
use Rattle.nk_tabgrammar.specs.declared.states.Tells.TheVariants as tells
use Rattle.nk_tabgrammar.specs.declared.written.Way.TheVariants as way
use Rattle.nk_tabgrammar.specs.declared.written.WrittenBucket.{WrittenBucket}
use Rattle.nk_tabgrammar.specs.declared.written.WrittenMatch.{WrittenMatch}
use Rattle.nk_tabgrammar.specs.declared.written.WrittenTable.{WrittenTable}
use Rattle.nk_tabgrammar.specs.declared.written.WrittenTables.{WrittenTables}
use Rattle.nk_lex.specs.declared.quad.Quad.{Quad}
use Rattle.nk_lex.specs.declared.quad.Quad.TheVariants as quad
use Rattle.nk_tabgrammar.specs.declared.stage.Place.{Place}
use Rattle.nk_tabgrammar.specs.declared.stage.Place.TheVariants as place
use Rattle.nk_tabgrammar.specs.declared.stage.Owner.{Owner}
use Rattle.nk_tabgrammar.specs.declared.stage.Owner.TheVariants as owner
use Rattle.nk_tabgrammar.specs.declared.stage.Stage.{Stage}
use Rattle.nk_tabgrammar.specs.declared.stage.Stage.TheVariants as stage
use Rattle.nk_tabgrammar.specs.declared.stage.Declaring.TheVariants as declaring
use Rattle.nk_tabgrammar.specs.declared.stage.Grouping.TheVariants as grouping
use Rattle.nk_tabgrammar.specs.declared.stage.InRow.TheVariants as in_row
use Rattle.nk_tabgrammar.specs.Terminal.{Terminal, name, number, mark, is_mark, table_terminal_from, table_terminal_of, with_table_name, with_table_number}
use Rattle.nk_tabgrammar.specs.Machine.{Reading, begin_table_text, begin_group, begin_match, begin_row, begin_target, bucket_done, bucket_on, table_link_on, next_table_reading, place_step, table_quad_step, read_table_token, table_text_ended, written_at_end}
use Rattle.nk_tabgrammar.specs.States.{MaybeStep, after_token, after_in, after_table_link, at_end, bucket_state, in_bucket, is_kind, link_state, or_else, state_of_stage, step_if}
use Rattle.nk_tabgrammar.specs.States as states

-- a token is a name, a number, or a mark of another kind
pub by_kind : (P : Kind → Terminal → Type 0) → ((w : Ident) → P kind.Name (name w)) → ((n : Number) → P kind.Number (number n))
    → ((k : Kind) → is_kind kind.Name k ≡ false → is_kind kind.Number k ≡ false → P k (mark k))
    → (t : Token) → P t.kind (table_terminal_of t)
by_kind P w n m t = by t.kind t.line t.value t.text
  where
    by : (k : Kind) (line value : ℕ) (text : List ℕ) → P k (table_terminal_from k line value text)
    by kind.Name line value text = w (record { text = text; line = line })
    by kind.Number line value text = n (record { value = value; line = line })
    by kind.Field line value text = m kind.Field refl refl
    by kind.Tag line value text = m kind.Tag refl refl
    by kind.Switch line value text = m kind.Switch refl refl
    by kind.Ports line value text = m kind.Ports refl refl
    by kind.Link line value text = m kind.Link refl refl
    by kind.Let line value text = m kind.Let refl refl
    by kind.Certificate line value text = m kind.Certificate refl refl
    by kind.Row line value text = m kind.Row refl refl
    by kind.Start line value text = m kind.Start refl refl
    by kind.Id line value text = m kind.Id refl refl
    by kind.Drop line value text = m kind.Drop refl refl
    by kind.Dup line value text = m kind.Dup refl refl
    by kind.Tables line value text = m kind.Tables refl refl
    by kind.Table line value text = m kind.Table refl refl
    by kind.Group line value text = m kind.Group refl refl
    by kind.Out line value text = m kind.Out refl refl
    by kind.In line value text = m kind.In refl refl
    by kind.Virtual line value text = m kind.Virtual refl refl
    by kind.Fabric line value text = m kind.Fabric refl refl
    by kind.By line value text = m kind.By refl refl
    by kind.Plus line value text = m kind.Plus refl refl
    by kind.Semicolon line value text = m kind.Semicolon refl refl
    by kind.Star line value text = m kind.Star refl refl
    by kind.Tilde line value text = m kind.Tilde refl refl
    by kind.OpenParen line value text = m kind.OpenParen refl refl
    by kind.CloseParen line value text = m kind.CloseParen refl refl
    by kind.Equal line value text = m kind.Equal refl refl
    by kind.Assign line value text = m kind.Assign refl refl
    by kind.FatArrow line value text = m kind.FatArrow refl refl
    by kind.Arrow line value text = m kind.Arrow refl refl
    by kind.Colon line value text = m kind.Colon refl refl
    by kind.Comma line value text = m kind.Comma refl refl
    by kind.Slash line value text = m kind.Slash refl refl
    by kind.DotDot line value text = m kind.DotDot refl refl
    by kind.OpenBracket line value text = m kind.OpenBracket refl refl
    by kind.CloseBracket line value text = m kind.CloseBracket refl refl

-- what the machine comes to has the state that a step has
abbrev Leads : Option Reading → MaybeStep → Type 0
Leads o s = option_map (λ r. state_of_stage r.stage) o ≡ option_map (λ p. p.0) s

-- a token of a kind, a name or a number may come
module _ {A B : Type 0} (g : A → Option Reading) (h : B → MaybeStep) (t : Token) where
  by_mark : (k : Kind) → is_kind k kind.Name ≡ false → is_kind k kind.Number ≡ false → (one other : A) (x y : B)
      → Leads (g one) (h x) → Leads (g other) (h y)
      → Leads (g (if is_mark k (table_terminal_of t) then one else other)) (h (if is_kind k t.kind then x else y))
  by_mark k no_name no_number one other x y taken refused =
      by_kind (λ l t. Leads (g (if is_mark k t then one else other)) (h (if is_kind k l then x else y)))
      (λ w. fails (is_kind k kind.Name) no_name) (λ n. fails (is_kind k kind.Number) no_number) (λ l _ _. passes (is_kind k l)) t
    where
      fails : (b : Bool) → b ≡ false → Leads (g other) (h (if b then x else y))
      fails b e = subst (λ c. Leads (g other) (h (if c then x else y))) (sym e) refused

      passes : (b : Bool) → Leads (g (if b then one else other)) (h (if b then x else y))
      passes true = taken
      passes false = refused

  by_name : (other : A) (f : Ident → A) (x y : B) → ((w : Ident) → Leads (g (f w)) (h x)) → Leads (g other) (h y)
      → Leads (g (with_table_name (table_terminal_of t) other f)) (h (if is_kind kind.Name t.kind then x else y))
  by_name other f x y taken refused =
      by_kind (λ l t. Leads (g (with_table_name t other f)) (h (if is_kind kind.Name l then x else y)))
      taken (λ n. refused) (λ l e _. subst (λ c. Leads (g other) (h (if c then x else y))) (sym e) refused) t

  by_number : (other : A) (f : Number → A) (x y : B) → ((n : Number) → Leads (g (f n)) (h x)) → Leads (g other) (h y)
      → Leads (g (with_table_number (table_terminal_of t) other f)) (h (if is_kind kind.Number t.kind then x else y))
  by_number other f x y taken refused =
      by_kind (λ l t. Leads (g (with_table_number t other f)) (h (if is_kind kind.Number l then x else y)))
      (λ w. refused) taken (λ l _ e. subst (λ c. Leads (g other) (h (if c then x else y))) (sym e) refused) t

-- a mark, a name or a number before a rest, and alone
module _ {A : Type 0} (g : A → Option Reading) (t : Token) where
  mark_or : (k : Kind) → is_kind k kind.Name ≡ false → is_kind k kind.Number ≡ false → (one other : A) (s : State) (e : Tells) (rest : MaybeStep)
      → Leads (g one) (Some (s, e)) → Leads (g other) rest
      → Leads (g (if is_mark k (table_terminal_of t) then one else other)) (or_else (step_if k t.kind s e) rest)
  mark_or k a b one other s e rest taken refused = by_mark g (λ o. or_else o rest) t k a b one other (Some (s, e)) None taken refused

  mark_only : (k : Kind) → is_kind k kind.Name ≡ false → is_kind k kind.Number ≡ false → (one other : A) (s : State) (e : Tells)
      → Leads (g one) (Some (s, e)) → Leads (g other) None
      → Leads (g (if is_mark k (table_terminal_of t) then one else other)) (step_if k t.kind s e)
  mark_only k a b one other s e taken refused = by_mark g (λ o. o) t k a b one other (Some (s, e)) None taken refused

  name_or : (other : A) (f : Ident → A) (s : State) (e : Tells) (rest : MaybeStep)
      → ((w : Ident) → Leads (g (f w)) (Some (s, e))) → Leads (g other) rest
      → Leads (g (with_table_name (table_terminal_of t) other f)) (or_else (step_if kind.Name t.kind s e) rest)
  name_or other f s e rest taken refused = by_name g (λ o. or_else o rest) t other f (Some (s, e)) None taken refused

  name_only : (other : A) (f : Ident → A) (s : State) (e : Tells)
      → ((w : Ident) → Leads (g (f w)) (Some (s, e))) → Leads (g other) None
      → Leads (g (with_table_name (table_terminal_of t) other f)) (step_if kind.Name t.kind s e)
  name_only other f s e taken refused = by_name g (λ o. o) t other f (Some (s, e)) None taken refused

  number_only : (other : A) (f : Number → A) (s : State) (e : Tells)
      → ((n : Number) → Leads (g (f n)) (Some (s, e))) → Leads (g other) None
      → Leads (g (with_table_number (table_terminal_of t) other f)) (step_if kind.Number t.kind s e)
  number_only other f s e taken refused = by_number g (λ o. o) t other f (Some (s, e)) None taken refused

-- what is answered itself
abbrev same : Option Reading → Option Reading
same o = o

-- a declaration or a table begins
begins : (x : WrittenTables) (c : WrittenTable) (e : Tells) (t : Token) → Leads (begin_table_text x c (table_terminal_of t)) (states.begin_state t.kind e)
begins x c e t =
    mark_or same t kind.Field refl refl _ _ _ _ _ refl
    (mark_or same t kind.Tag refl refl _ _ _ _ _ refl
    (mark_or same t kind.Switch refl refl _ _ _ _ _ refl
    (mark_or same t kind.Link refl refl _ _ _ _ _ refl
    (mark_only same t kind.Table refl refl _ _ _ _ refl refl))))

-- a row or a table begins
row_begins : (x : WrittenTables) (c : WrittenTable) (e : Tells) (t : Token) → Leads (begin_row x c (table_terminal_of t)) (states.begin_row t.kind e)
row_begins x c e t =
    mark_or same t kind.Row refl refl _ _ _ _ _ refl (mark_only same t kind.Table refl refl _ _ _ _ refl refl)

-- a group, a row or a table begins
group_begins : (x : WrittenTables) (c : WrittenTable) (e : Tells) (t : Token) → Leads (begin_group x c (table_terminal_of t)) (states.begin_group t.kind e)
group_begins x c e t = mark_or same t kind.Group refl refl _ _ _ _ _ refl (row_begins x c e t)

-- a match or the arrow begins
match_begins : (x : WrittenTables) (c : WrittenTable) (p : Number) (ms : List WrittenMatch) (t : Token)
    → Leads (begin_match x c p ms (table_terminal_of t)) (states.begin_match t.kind)
match_begins x c p ms t =
    name_or same t _ _ _ _ _ (λ w. refl) (mark_only same t kind.Arrow refl refl _ _ _ _ refl refl)

-- a target begins
target_begins : (x : WrittenTables) (c : WrittenTable) (p : Number) (ms : List WrittenMatch) (t : Token)
    → Leads (begin_target x c p ms (table_terminal_of t)) (states.begin_target t.kind)
target_begins x c p ms t =
    mark_or same t kind.OpenBracket refl refl _ _ _ _ _ refl
    (mark_or same t kind.Group refl refl _ _ _ _ _ refl (mark_only same t kind.Drop refl refl _ _ _ _ refl refl))

-- a link
link_follows : (x : WrittenTables) (c : WrittenTable) (q : Quad) (t : Token)
    → Leads (table_link_on x c (table_quad_step q (table_terminal_of t))) (after_table_link (link_state q) t.kind)
link_follows x c quad.Start t = number_only (table_link_on x c) t _ _ _ _ (λ a. refl) refl
link_follows x c (quad.Switch a) t = mark_only (table_link_on x c) t kind.Colon refl refl _ _ _ _ refl refl
link_follows x c (quad.SwitchColon a) t = number_only (table_link_on x c) t _ _ _ _ (λ m. refl) refl
link_follows x c (quad.Port a m) t = mark_only (table_link_on x c) t kind.Arrow refl refl _ _ _ _ refl refl
link_follows x c (quad.Arrow a m) t = number_only (table_link_on x c) t _ _ _ _ (λ b. refl) refl
link_follows x c (quad.ToSwitch a m b) t = mark_only (table_link_on x c) t kind.Colon refl refl _ _ _ _ refl refl
link_follows x c (quad.ToColon a m b) t = number_only (table_link_on x c) t _ _ _ _ (λ n. refl) refl

-- a bucket
module _ (x : WrittenTables) (c : WrittenTable) (o : Owner) (at : BucketState → State) (whole : State) (e : Tells) (t : Token)
    (is : (p : Place) → in_bucket o (bucket_state p) ≡ at (bucket_state p))
    (ends : (b : WrittenBucket) → state_of_stage (bucket_done x c o b).stage ≡ whole) where
  abbrev into : Option (BucketState × Tells) → MaybeStep
  into p = option_map (λ p. (at p.0, p.1)) p

  bucket_follows : (p : Place) → Leads (bucket_on x c o (place_step p (table_terminal_of t))) (after_in at whole e (bucket_state p) t.kind)
  bucket_follows (place.Sets ps) =
      by_name (bucket_on x c o) into t _ _ _ _ (λ w. ap Some (is (place.Named ps w)))
      (by_mark (bucket_on x c o) into t kind.Out refl refl _ _ _ _ (ap Some (is (place.Out ps))) refl)
  bucket_follows (place.Named ps w) =
      by_mark (bucket_on x c o) into t kind.Assign refl refl _ _ _ _ (ap Some (is (place.Assigned ps w))) refl
  bucket_follows (place.Assigned ps w) =
      by_number (bucket_on x c o) into t _ _ _ _ (λ n. ap Some (is (place.Sets ps))) refl
  bucket_follows (place.Out ps) =
      by_number (bucket_on x c o) into t _ _ _ _ (λ n. ap Some (is (place.Left ps (way.Port n))))
      (by_mark (bucket_on x c o) into t kind.In refl refl _ _ _ _ (ap Some (is (place.Left ps way.Back))) refl)
  bucket_follows (place.Left ps w) = mark_or (bucket_on x c o) t kind.CloseBracket refl refl _ _ _ _ None (ap Some (ends _)) refl

owned_follows : (x : WrittenTables) (c : WrittenTable) (o : Owner) (p : Place) (t : Token)
    → Leads (bucket_on x c o (place_step p (table_terminal_of t))) (after_token (in_bucket o (bucket_state p)) t.kind)
owned_follows x c (owner.First n) p t = bucket_follows x c (owner.First n) state.InGroup state.BucketRead tells.GroupBucket t (λ p. refl) (λ b. refl) p
owned_follows x c (owner.Next g) p t = bucket_follows x c (owner.Next g) state.InGroup state.BucketRead tells.GroupBucket t (λ p. refl) (λ b. refl) p
owned_follows x c (owner.Row n ms) p t = bucket_follows x c (owner.Row n ms) state.InRow state.Rows tells.RowBucket t (λ p. refl) (λ b. refl) p

-- one more token
stage_follows : (s : Stage) (x : WrittenTables) (c : WrittenTable) (t : Token)
    → Leads (next_table_reading s x c (table_terminal_of t)) (after_token (state_of_stage s) t.kind)
stage_follows stage.Start x c t = mark_only same t kind.Tables refl refl _ _ _ _ refl refl
stage_follows stage.Between x c t = begins x c tells.Nothing t
stage_follows (stage.Declared declaring.Field) x c t = name_only same t _ _ _ _ (λ w. refl) refl
stage_follows (stage.Declared declaring.Tag) x c t = name_only same t _ _ _ _ (λ w. refl) refl
stage_follows (stage.Declared (declaring.SwitchNumbered n)) x c t = mark_only same t kind.Ports refl refl _ _ _ _ refl refl
stage_follows (stage.Declared (declaring.FirstPort n)) x c t = number_only same t _ _ _ _ (λ p. refl) refl
stage_follows (stage.Declared (declaring.NextPort n p ps)) x c t = number_only same t _ _ _ _ (λ q. refl) refl
stage_follows (stage.Declared (declaring.PortRead n p ps)) x c t =
    mark_or same t kind.Comma refl refl _ _ _ _ _ refl (begins _ c tells.SwitchEnds t)
stage_follows (stage.Declared (declaring.Link q)) x c t = link_follows x c q t
stage_follows stage.Groups x c t = group_begins x c tells.Nothing t
stage_follows (stage.Grouped (grouping.GroupNumbered n)) x c t = mark_only same t kind.Equal refl refl _ _ _ _ refl refl
stage_follows (stage.Grouped (grouping.FirstBucket n)) x c t = mark_only same t kind.OpenBracket refl refl _ _ _ _ refl refl
stage_follows (stage.Grouped (grouping.BucketRead g)) x c t =
    mark_or same t kind.OpenBracket refl refl _ _ _ _ _ refl (group_begins x _ tells.GroupEnds t)
stage_follows (stage.InBucket o p) x c t = owned_follows x c o p t
stage_follows stage.Rows x c t = row_begins x c tells.Nothing t
stage_follows (stage.InRow in_row.Row) x c t = number_only same t _ _ _ _ (λ p. refl) refl
stage_follows (stage.InRow (in_row.RowNumbered p)) x c t = mark_only same t kind.Colon refl refl _ _ _ _ refl refl
stage_follows (stage.InRow (in_row.Matches p ms)) x c t = match_begins x c p ms t
stage_follows (stage.InRow (in_row.MatchNamed p ms w)) x c t = mark_only same t kind.Equal refl refl _ _ _ _ refl refl
stage_follows (stage.InRow (in_row.MatchValued p ms w n)) x c t =
    mark_or same t kind.Slash refl refl _ _ _ _ _ refl (match_begins x c p _ t)
stage_follows (stage.InRow (in_row.MatchSlashed p ms w n)) x c t = number_only same t _ _ _ _ (λ l. refl) refl
stage_follows (stage.InRow (in_row.Target p ms)) x c t = target_begins x c p ms t
stage_follows s x c t = number_only same t _ _ _ _ (λ n. refl) refl

-- the end
end_follows : (s : Stage) (x : WrittenTables) (c : WrittenTable) → is_some (table_text_ended s x c) ≡ is_some (at_end (state_of_stage s))
end_follows (stage.Declared declaring.Field) x c = refl
end_follows (stage.Grouped grouping.Group) x c = refl
end_follows (stage.InBucket (owner.First n) p) x c = refl
end_follows (stage.InRow in_row.Row) x c = refl
end_follows s x c = refl

-- the states are the stages
pub follows : (r : Reading)
    → ((t : Token) → option_map (λ s. state_of_stage s.stage) (read_table_token r (table_terminal_of t)) ≡ option_map (λ p. p.0) (after_token (state_of_stage r.stage) t.kind))
    × (is_some (written_at_end r) ≡ is_some (at_end (state_of_stage r.stage)))
follows r = (stage_follows r.stage r.text r.table, end_follows r.stage r.text r.table)
