-- Each state can be completed to a text.
use Rattle.std.proofs.Common.{◌≡◌, subst, List, [], ◌∷◌, ◌++◌, refl, sym, ◌∙◌, ap, append_assoc, append-nil}
use Rattle.std.specs.Prelude.{None, Some}
use Rattle.nk_lex.specs.declared.kind.Kind.TheVariants as kind
use Rattle.nk_lex.specs.declared.ident.Ident.{Ident}
use Rattle.nk_lex.specs.declared.ident.Number.{Number}
use Rattle.nk_tabgrammar.specs.declared.written.Pair.{Pair}
use Rattle.nk_tabgrammar.specs.declared.written.Declaration.{Declaration}
use Rattle.nk_tabgrammar.specs.declared.written.Declaration.TheVariants as declared
use Rattle.nk_tabgrammar.specs.declared.written.Way.{Way}
use Rattle.nk_tabgrammar.specs.declared.written.Way.TheVariants as way
use Rattle.nk_tabgrammar.specs.declared.written.WrittenMatch.{WrittenMatch}
use Rattle.nk_tabgrammar.specs.declared.written.WrittenBucket.{WrittenBucket}
use Rattle.nk_tabgrammar.specs.declared.written.WrittenTarget.{WrittenTarget}
use Rattle.nk_tabgrammar.specs.declared.written.WrittenTarget.TheVariants as target
use Rattle.nk_tabgrammar.specs.declared.written.WrittenGroup.{WrittenGroup}
use Rattle.nk_tabgrammar.specs.declared.written.WrittenTable.{WrittenTable}
use Rattle.nk_tabgrammar.specs.declared.written.WrittenTables.{WrittenTables}
use Rattle.nk_lex.specs.declared.quad.Quad.TheVariants as quad
use Rattle.nk_tabgrammar.specs.declared.stage.Place.TheVariants as place
use Rattle.nk_tabgrammar.specs.declared.stage.Owner.{Owner}
use Rattle.nk_tabgrammar.specs.declared.stage.Owner.TheVariants as owner
use Rattle.nk_tabgrammar.specs.declared.stage.Stage.{Stage}
use Rattle.nk_tabgrammar.specs.declared.stage.Stage.TheVariants as stage
use Rattle.nk_tabgrammar.specs.declared.stage.Declaring.TheVariants as declaring
use Rattle.nk_tabgrammar.specs.declared.stage.Grouping.TheVariants as grouping
use Rattle.nk_tabgrammar.specs.declared.stage.InRow.TheVariants as in_row
use Rattle.nk_tabgrammar.specs.Terminal.{Terminal, name, number, mark}
use Rattle.nk_tabgrammar.specs.Spelling.{TableTextGoesOn}
use Rattle.nk_tabgrammar.specs.Machine.{Reading, table_reading, opened, opened_table, no_number, with_declaration, with_table_row, with_table_match, row_written, bucket_done, next_table_reading, table_text_ended}
use Rattle.nk_tabgrammar.proofs.Spelled.{Fits, IsAt, Leads, leads, ends, spelled}

-- a state that can be completed
abbrev Completes : Reading → Type 0
Completes r = Fits r.stage r.text r.table → TableTextGoesOn (spelled r.stage r.text r.table)

-- one that may end
ended : (s : Stage) (x : WrittenTables) (c : WrittenTable) (y : WrittenTables) → table_text_ended s x c ≡ Some y → Completes (table_reading s x c)
ended s x c y e = λ h. ([], y, append-nil (spelled s x c) ∙ ends s x c y h e)

-- one that a token completes
by_token : (s : Stage) (x : WrittenTables) (c : WrittenTable) (t : Terminal) (r : Reading) → next_table_reading s x c t ≡ Some r → Completes r → Completes (table_reading s x c)
by_token s x c t r e go = λ h.
    let at : IsAt (spelled s x c ++ t ∷ []) r = subst (λ o. Leads o (spelled s x c ++ t ∷ [])) e (leads s x c t h) in
    let g = go at.1 in
    (t ∷ g.0, g.1, sym (append_assoc (spelled s x c) (t ∷ []) g.0) ∙ ap (λ l. l ++ g.0) at.0 ∙ g.2)

-- some name
a_word : Ident
a_word = record { text = []; line = 0 }

module _ (x : WrittenTables) (c : WrittenTable) where
  between : Completes (table_reading stage.Between x c)
  between = ended stage.Between x c _ refl

  groups : Completes (table_reading stage.Groups x c)
  groups = ended stage.Groups x c _ refl

  rows : Completes (table_reading stage.Rows x c)
  rows = ended stage.Rows x c _ refl

  port_read : (n p : Number) (ps : List Number) → Completes (table_reading (stage.Declared (declaring.PortRead n p ps)) x c)
  port_read n p ps = ended (stage.Declared (declaring.PortRead n p ps)) x c _ refl

  bucket_read : (g : WrittenGroup) → Completes (table_reading (stage.Grouped (grouping.BucketRead g)) x c)
  bucket_read g = ended (stage.Grouped (grouping.BucketRead g)) x c _ refl

-- one more declaration
declared_more : (x : WrittenTables) (c : WrittenTable) (d : Declaration) → Completes (table_reading stage.Between (with_declaration x d) c)
declared_more x c d = between (with_declaration x d) c

-- one more row
row_more : (x : WrittenTables) (c : WrittenTable) (p : Number) (ms : List WrittenMatch) (t : WrittenTarget) → Completes (table_reading stage.Rows x (with_table_row c (row_written p ms t)))
row_more x c p ms t = rows x (with_table_row c (row_written p ms t))

module _ (x : WrittenTables) (c : WrittenTable) where
  field_named : (w : Ident) → Completes (table_reading (stage.Declared (declaring.FieldNamed w)) x c)
  field_named w = by_token (stage.Declared (declaring.FieldNamed w)) x c (number no_number) _ refl (declared_more x c (declared.Field w no_number))

  field : Completes (table_reading (stage.Declared declaring.Field) x c)
  field = by_token (stage.Declared declaring.Field) x c (name a_word) _ refl (field_named a_word)

  tag : Completes (table_reading (stage.Declared declaring.Tag) x c)
  tag = by_token (stage.Declared declaring.Tag) x c (name a_word) _ refl (declared_more x c (declared.Tag a_word))

  first_port : (n : Number) → Completes (table_reading (stage.Declared (declaring.FirstPort n)) x c)
  first_port n = by_token (stage.Declared (declaring.FirstPort n)) x c (number n) _ refl (port_read x c n n [])

  next_port : (n p : Number) (ps : List Number) → Completes (table_reading (stage.Declared (declaring.NextPort n p ps)) x c)
  next_port n p ps = by_token (stage.Declared (declaring.NextPort n p ps)) x c (number n) _ refl (port_read x c n p (ps ++ n ∷ []))

  switch_numbered : (n : Number) → Completes (table_reading (stage.Declared (declaring.SwitchNumbered n)) x c)
  switch_numbered n = by_token (stage.Declared (declaring.SwitchNumbered n)) x c (mark kind.Ports) _ refl (first_port n)

  switch : Completes (table_reading (stage.Declared declaring.Switch) x c)
  switch = by_token (stage.Declared declaring.Switch) x c (number no_number) _ refl (switch_numbered no_number)

  to_colon : (a m b : Number) → Completes (table_reading (stage.Declared (declaring.Link (quad.ToColon a m b))) x c)
  to_colon a m b = by_token (stage.Declared (declaring.Link (quad.ToColon a m b))) x c (number a) _ refl (declared_more x c (declared.Link a m b a))

  to_switch : (a m b : Number) → Completes (table_reading (stage.Declared (declaring.Link (quad.ToSwitch a m b))) x c)
  to_switch a m b = by_token (stage.Declared (declaring.Link (quad.ToSwitch a m b))) x c (mark kind.Colon) _ refl (to_colon a m b)

  arrow : (a m : Number) → Completes (table_reading (stage.Declared (declaring.Link (quad.Arrow a m))) x c)
  arrow a m = by_token (stage.Declared (declaring.Link (quad.Arrow a m))) x c (number a) _ refl (to_switch a m a)

  port : (a m : Number) → Completes (table_reading (stage.Declared (declaring.Link (quad.Port a m))) x c)
  port a m = by_token (stage.Declared (declaring.Link (quad.Port a m))) x c (mark kind.Arrow) _ refl (arrow a m)

  switch_colon : (a : Number) → Completes (table_reading (stage.Declared (declaring.Link (quad.SwitchColon a))) x c)
  switch_colon a = by_token (stage.Declared (declaring.Link (quad.SwitchColon a))) x c (number a) _ refl (port a a)

  link_switch : (a : Number) → Completes (table_reading (stage.Declared (declaring.Link (quad.Switch a))) x c)
  link_switch a = by_token (stage.Declared (declaring.Link (quad.Switch a))) x c (mark kind.Colon) _ refl (switch_colon a)

  link_start : Completes (table_reading (stage.Declared (declaring.Link quad.Start)) x c)
  link_start = by_token (stage.Declared (declaring.Link quad.Start)) x c (number no_number) _ refl (link_switch no_number)

  table : Completes (table_reading stage.Table x c)
  table = by_token stage.Table x c (number no_number) _ refl (groups x (opened_table no_number))

  done : (o : Owner) (b : WrittenBucket) → Completes (bucket_done x c o b)
  done (owner.First n) b = bucket_read x c (record { number = n; first = b; more = [] })
  done (owner.Next g) b = bucket_read x c (record g { more = g.more ++ b ∷ [] })
  done (owner.Row p ms) b = row_more x c p ms (target.Bucket b)

  left : (o : Owner) (ps : List Pair) (e : Way) → Completes (table_reading (stage.InBucket o (place.Left ps e)) x c)
  left o ps e = by_token (stage.InBucket o (place.Left ps e)) x c (mark kind.CloseBracket) _ refl (done o (record { sets = ps; way = e }))

  out : (o : Owner) (ps : List Pair) → Completes (table_reading (stage.InBucket o (place.Out ps)) x c)
  out o ps = by_token (stage.InBucket o (place.Out ps)) x c (mark kind.In) _ refl (left o ps way.Back)

  sets : (o : Owner) (ps : List Pair) → Completes (table_reading (stage.InBucket o (place.Sets ps)) x c)
  sets o ps = by_token (stage.InBucket o (place.Sets ps)) x c (mark kind.Out) _ refl (out o ps)

  assigned : (o : Owner) (ps : List Pair) (w : Ident) → Completes (table_reading (stage.InBucket o (place.Assigned ps w)) x c)
  assigned o ps w = by_token (stage.InBucket o (place.Assigned ps w)) x c (number no_number) _ refl (sets o (ps ++ record { name = w; number = no_number } ∷ []))

  named : (o : Owner) (ps : List Pair) (w : Ident) → Completes (table_reading (stage.InBucket o (place.Named ps w)) x c)
  named o ps w = by_token (stage.InBucket o (place.Named ps w)) x c (mark kind.Assign) _ refl (assigned o ps w)

  first_bucket : (n : Number) → Completes (table_reading (stage.Grouped (grouping.FirstBucket n)) x c)
  first_bucket n = by_token (stage.Grouped (grouping.FirstBucket n)) x c (mark kind.OpenBracket) _ refl (sets (owner.First n) [])

  group_numbered : (n : Number) → Completes (table_reading (stage.Grouped (grouping.GroupNumbered n)) x c)
  group_numbered n = by_token (stage.Grouped (grouping.GroupNumbered n)) x c (mark kind.Equal) _ refl (first_bucket n)

  group : Completes (table_reading (stage.Grouped grouping.Group) x c)
  group = by_token (stage.Grouped grouping.Group) x c (number no_number) _ refl (group_numbered no_number)

  target_group : (p : Number) (ms : List WrittenMatch) → Completes (table_reading (stage.InRow (in_row.TargetGroup p ms)) x c)
  target_group p ms = by_token (stage.InRow (in_row.TargetGroup p ms)) x c (number p) _ refl (row_more x c p ms (target.Group p))

  target_wanted : (p : Number) (ms : List WrittenMatch) → Completes (table_reading (stage.InRow (in_row.Target p ms)) x c)
  target_wanted p ms = by_token (stage.InRow (in_row.Target p ms)) x c (mark kind.Drop) _ refl (row_more x c p ms target.Discard)

  matches : (p : Number) (ms : List WrittenMatch) → Completes (table_reading (stage.InRow (in_row.Matches p ms)) x c)
  matches p ms = by_token (stage.InRow (in_row.Matches p ms)) x c (mark kind.Arrow) _ refl (target_wanted p ms)

  match_slashed : (p : Number) (ms : List WrittenMatch) (w : Ident) (n : Number) → Completes (table_reading (stage.InRow (in_row.MatchSlashed p ms w n)) x c)
  match_slashed p ms w n = by_token (stage.InRow (in_row.MatchSlashed p ms w n)) x c (number p) _ refl (matches p (with_table_match ms w n (Some p)))

  match_valued : (p : Number) (ms : List WrittenMatch) (w : Ident) (n : Number) → Completes (table_reading (stage.InRow (in_row.MatchValued p ms w n)) x c)
  match_valued p ms w n = by_token (stage.InRow (in_row.MatchValued p ms w n)) x c (mark kind.Arrow) _ refl (target_wanted p (with_table_match ms w n None))

  match_tested : (p : Number) (ms : List WrittenMatch) (w : Ident) → Completes (table_reading (stage.InRow (in_row.MatchTested p ms w)) x c)
  match_tested p ms w = by_token (stage.InRow (in_row.MatchTested p ms w)) x c (number p) _ refl (match_valued p ms w p)

  match_named : (p : Number) (ms : List WrittenMatch) (w : Ident) → Completes (table_reading (stage.InRow (in_row.MatchNamed p ms w)) x c)
  match_named p ms w = by_token (stage.InRow (in_row.MatchNamed p ms w)) x c (mark kind.Equal) _ refl (match_tested p ms w)

  row_numbered : (p : Number) → Completes (table_reading (stage.InRow (in_row.RowNumbered p)) x c)
  row_numbered p = by_token (stage.InRow (in_row.RowNumbered p)) x c (mark kind.Colon) _ refl (matches p [])

  row : Completes (table_reading (stage.InRow in_row.Row) x c)
  row = by_token (stage.InRow in_row.Row) x c (number no_number) _ refl (row_numbered no_number)

  version : Completes (table_reading stage.Version x c)
  version = by_token stage.Version x c (number no_number) _ refl (between (opened no_number) c)

  start : Completes (table_reading stage.Start x c)
  start = by_token stage.Start x c (mark kind.Tables) _ refl version

-- each state can be completed
pub completes : (s : Stage) (x : WrittenTables) (c : WrittenTable) → Completes (table_reading s x c)
completes stage.Start x c = start x c
completes stage.Version x c = version x c
completes stage.Between x c = between x c
completes (stage.Declared declaring.Field) x c = field x c
completes (stage.Declared (declaring.FieldNamed w)) x c = field_named x c w
completes (stage.Declared declaring.Tag) x c = tag x c
completes (stage.Declared declaring.Switch) x c = switch x c
completes (stage.Declared (declaring.SwitchNumbered n)) x c = switch_numbered x c n
completes (stage.Declared (declaring.FirstPort n)) x c = first_port x c n
completes (stage.Declared (declaring.NextPort n p ps)) x c = next_port x c n p ps
completes (stage.Declared (declaring.PortRead n p ps)) x c = port_read x c n p ps
completes (stage.Declared (declaring.Link quad.Start)) x c = link_start x c
completes (stage.Declared (declaring.Link (quad.Switch a))) x c = link_switch x c a
completes (stage.Declared (declaring.Link (quad.SwitchColon a))) x c = switch_colon x c a
completes (stage.Declared (declaring.Link (quad.Port a m))) x c = port x c a m
completes (stage.Declared (declaring.Link (quad.Arrow a m))) x c = arrow x c a m
completes (stage.Declared (declaring.Link (quad.ToSwitch a m b))) x c = to_switch x c a m b
completes (stage.Declared (declaring.Link (quad.ToColon a m b))) x c = to_colon x c a m b
completes stage.Table x c = table x c
completes stage.Groups x c = groups x c
completes (stage.Grouped grouping.Group) x c = group x c
completes (stage.Grouped (grouping.GroupNumbered n)) x c = group_numbered x c n
completes (stage.Grouped (grouping.FirstBucket n)) x c = first_bucket x c n
completes (stage.Grouped (grouping.BucketRead g)) x c = bucket_read x c g
completes (stage.InBucket o (place.Sets ps)) x c = sets x c o ps
completes (stage.InBucket o (place.Named ps w)) x c = named x c o ps w
completes (stage.InBucket o (place.Assigned ps w)) x c = assigned x c o ps w
completes (stage.InBucket o (place.Out ps)) x c = out x c o ps
completes (stage.InBucket o (place.Left ps e)) x c = left x c o ps e
completes stage.Rows x c = rows x c
completes (stage.InRow in_row.Row) x c = row x c
completes (stage.InRow (in_row.RowNumbered p)) x c = row_numbered x c p
completes (stage.InRow (in_row.Matches p ms)) x c = matches x c p ms
completes (stage.InRow (in_row.MatchNamed p ms w)) x c = match_named x c p ms w
completes (stage.InRow (in_row.MatchTested p ms w)) x c = match_tested x c p ms w
completes (stage.InRow (in_row.MatchValued p ms w n)) x c = match_valued x c p ms w n
completes (stage.InRow (in_row.MatchSlashed p ms w n)) x c = match_slashed x c p ms w n
completes (stage.InRow (in_row.Target p ms)) x c = target_wanted x c p ms
completes (stage.InRow (in_row.TargetGroup p ms)) x c = target_group x c p ms
