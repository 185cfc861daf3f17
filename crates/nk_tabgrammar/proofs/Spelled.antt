-- What is read so far is spelled by the state that it leads to.
use Rattle.std.proofs.Common.{◌≡◌, subst, List, [], ◌∷◌, ◌++◌, Bool, true, false, refl, sym, ◌∙◌, ap, append_assoc, append-nil, Option}
use Rattle.std.specs.Prelude.{Some, None, option_and_then, if◌then◌else◌}
use Rattle.std.specs.List.{flat_map}
use Rattle.nk_lex.specs.declared.kind.Kind.{Kind}
use Rattle.nk_lex.specs.declared.kind.Kind.TheVariants as kind
use Rattle.nk_lex.specs.declared.ident.Ident.{Ident}
use Rattle.nk_lex.specs.declared.ident.Number.{Number}
use Rattle.nk_tabgrammar.specs.declared.written.Pair.{Pair}
use Rattle.nk_tabgrammar.specs.declared.written.Declaration.{Declaration}
use Rattle.nk_tabgrammar.specs.declared.written.Declaration.TheVariants as declared
use Rattle.nk_tabgrammar.specs.declared.written.WrittenMatch.{WrittenMatch}
use Rattle.nk_tabgrammar.specs.declared.written.WrittenBucket.{WrittenBucket}
use Rattle.nk_tabgrammar.specs.declared.written.WrittenTarget.TheVariants as target
use Rattle.nk_tabgrammar.specs.declared.written.WrittenRow.{WrittenRow}
use Rattle.nk_tabgrammar.specs.declared.written.WrittenGroup.{WrittenGroup}
use Rattle.nk_tabgrammar.specs.declared.written.WrittenTable.{WrittenTable}
use Rattle.nk_tabgrammar.specs.declared.written.WrittenTables.{WrittenTables}
use Rattle.nk_lex.specs.declared.quad.Quad.{Quad}
use Rattle.nk_lex.specs.declared.quad.Quad.TheVariants as quad
use Rattle.nk_tabgrammar.specs.declared.stage.Place.{Place}
use Rattle.nk_tabgrammar.specs.declared.stage.Place.TheVariants as place
use Rattle.nk_tabgrammar.specs.declared.stage.Owner.{Owner}
use Rattle.nk_tabgrammar.specs.declared.stage.Owner.TheVariants as owner
use Rattle.nk_tabgrammar.specs.declared.stage.Stage.{Stage}
use Rattle.nk_tabgrammar.specs.declared.stage.Stage.TheVariants as stage
use Rattle.nk_tabgrammar.specs.declared.stage.Declaring.TheVariants as declaring
use Rattle.nk_tabgrammar.specs.declared.stage.Grouping.TheVariants as grouping
use Rattle.nk_tabgrammar.specs.declared.stage.InRow.TheVariants as in_row
use Rattle.nk_tabgrammar.specs.Terminal.{Terminal, name, number, mark, is_mark, with_table_name, with_table_number}
use Rattle.nk_tabgrammar.specs.Spelling.{spell_port, spell_table_declaration, spell_match, spell_set, way_token, spell_bucket, spell_matches, spell_table_row, spell_group, spell_table, spell_text}
use Rattle.nk_tabgrammar.specs.Machine.{Reading, with_declaration, with_table, with_group, with_table_row, with_table_match, match_of, row_written, table_quad_step, table_link_on, place_step, bucket_done, bucket_on, begin_table_text, begin_row, begin_group, begin_match, next_table_reading, read_table_token, read_table_tokens, first_table_reading, table_text_ended}
use Rattle.nk_tabgrammar.proofs.Marks.{mark_is}

-- the tokens of a part of a link
abbrev spell_quad : Quad → List Terminal
spell_quad quad.Start = []
spell_quad (quad.Switch a) = number a ∷ []
spell_quad (quad.SwitchColon a) = number a ∷ mark kind.Colon ∷ []
spell_quad (quad.Port a m) = number a ∷ mark kind.Colon ∷ number m ∷ []
spell_quad (quad.Arrow a m) = number a ∷ mark kind.Colon ∷ number m ∷ mark kind.Arrow ∷ []
spell_quad (quad.ToSwitch a m b) = number a ∷ mark kind.Colon ∷ number m ∷ mark kind.Arrow ∷ number b ∷ []
spell_quad (quad.ToColon a m b) = number a ∷ mark kind.Colon ∷ number m ∷ mark kind.Arrow ∷ number b ∷ mark kind.Colon ∷ []

-- a bucket up to its assignments
abbrev spell_sets : List Pair → List Terminal
spell_sets ps = mark kind.OpenBracket ∷ flat_map spell_set ps

-- the tokens of a part of a bucket
abbrev spell_place : Place → List Terminal
spell_place (place.Sets ps) = spell_sets ps
spell_place (place.Named ps w) = spell_sets ps ++ name w ∷ []
spell_place (place.Assigned ps w) = spell_sets ps ++ name w ∷ mark kind.Assign ∷ []
spell_place (place.Out ps) = spell_sets ps ++ mark kind.Out ∷ []
spell_place (place.Left ps e) = spell_sets ps ++ mark kind.Out ∷ way_token e ∷ []

-- what stands before a bucket
abbrev spell_owner : Owner → List Terminal
spell_owner (owner.First n) = mark kind.Group ∷ number n ∷ mark kind.Equal ∷ []
spell_owner (owner.Next g) = spell_group g
spell_owner (owner.Row p ms) = spell_matches p ms ++ mark kind.Arrow ∷ []

-- a text whose last table is read
abbrev within : WrittenTables → WrittenTable → List Terminal
within x c = spell_text x ++ spell_table c

-- the tokens that lead to a state
abbrev pub spelled : Stage → WrittenTables → WrittenTable → List Terminal
spelled stage.Start x c = []
spelled stage.Version x c = mark kind.Tables ∷ []
spelled stage.Between x c = spell_text x
spelled (stage.Declared declaring.Field) x c = spell_text x ++ mark kind.Field ∷ []
spelled (stage.Declared (declaring.FieldNamed w)) x c = spell_text x ++ mark kind.Field ∷ name w ∷ []
spelled (stage.Declared declaring.Tag) x c = spell_text x ++ mark kind.Tag ∷ []
spelled (stage.Declared declaring.Switch) x c = spell_text x ++ mark kind.Switch ∷ []
spelled (stage.Declared (declaring.SwitchNumbered n)) x c = spell_text x ++ mark kind.Switch ∷ number n ∷ []
spelled (stage.Declared (declaring.FirstPort n)) x c = spell_text x ++ mark kind.Switch ∷ number n ∷ mark kind.Ports ∷ []
spelled (stage.Declared (declaring.NextPort n p ps)) x c = (spell_text x ++ spell_table_declaration (declared.Switch n p ps)) ++ mark kind.Comma ∷ []
spelled (stage.Declared (declaring.PortRead n p ps)) x c = spell_text x ++ spell_table_declaration (declared.Switch n p ps)
spelled (stage.Declared (declaring.Link q)) x c = spell_text x ++ mark kind.Link ∷ spell_quad q
spelled stage.Table x c = spell_text x ++ mark kind.Table ∷ []
spelled stage.Groups x c = within x c
spelled (stage.Grouped grouping.Group) x c = within x c ++ mark kind.Group ∷ []
spelled (stage.Grouped (grouping.GroupNumbered n)) x c = within x c ++ mark kind.Group ∷ number n ∷ []
spelled (stage.Grouped (grouping.FirstBucket n)) x c = within x c ++ mark kind.Group ∷ number n ∷ mark kind.Equal ∷ []
spelled (stage.Grouped (grouping.BucketRead g)) x c = within x c ++ spell_group g
spelled (stage.InBucket o p) x c = (within x c ++ spell_owner o) ++ spell_place p
spelled stage.Rows x c = within x c
spelled (stage.InRow in_row.Row) x c = within x c ++ mark kind.Row ∷ []
spelled (stage.InRow (in_row.RowNumbered p)) x c = within x c ++ mark kind.Row ∷ number p ∷ []
spelled (stage.InRow (in_row.Matches p ms)) x c = within x c ++ spell_matches p ms
spelled (stage.InRow (in_row.MatchNamed p ms w)) x c = (within x c ++ spell_matches p ms) ++ name w ∷ []
spelled (stage.InRow (in_row.MatchTested p ms w)) x c = (within x c ++ spell_matches p ms) ++ name w ∷ mark kind.Equal ∷ []
spelled (stage.InRow (in_row.MatchValued p ms w n)) x c = within x c ++ spell_matches p (with_table_match ms w n None)
spelled (stage.InRow (in_row.MatchSlashed p ms w n)) x c = (within x c ++ spell_matches p (with_table_match ms w n None)) ++ mark kind.Slash ∷ []
spelled (stage.InRow (in_row.Target p ms)) x c = (within x c ++ spell_matches p ms) ++ mark kind.Arrow ∷ []
spelled (stage.InRow (in_row.TargetGroup p ms)) x c = (within x c ++ spell_matches p ms) ++ mark kind.Arrow ∷ mark kind.Group ∷ []

-- before a bucket of a group no row is read
abbrev OwnerFits : Owner → WrittenTable → Type 0
OwnerFits (owner.First n) c = c.rows ≡ []
OwnerFits (owner.Next g) c = c.rows ≡ []
OwnerFits (owner.Row p ms) c = Unit {0}

-- while declarations are read there is no table, and while groups are there is no row
abbrev pub Fits : Stage → WrittenTables → WrittenTable → Type 0
Fits stage.Between x c = x.tables ≡ []
Fits (stage.Declared d) x c = x.tables ≡ []
Fits stage.Groups x c = c.rows ≡ []
Fits (stage.Grouped g) x c = c.rows ≡ []
Fits (stage.InBucket o p) x c = OwnerFits o c
Fits s x c = Unit {0}

-- these tokens lead to the state
abbrev pub IsAt : List Terminal → Reading → Type 0
IsAt ts r = (ts ≡ spelled r.stage r.text r.table) × Fits r.stage r.text r.table

-- these tokens lead to the state, if there is one
abbrev pub Leads : Option Reading → List Terminal → Type 0
Leads None ts = Unit {0}
Leads (Some r) ts = IsAt ts r

-- one more at the end
flat_more : {X : Type 0} (f : X → List Terminal) (xs : List X) (x : X) → flat_map f (xs ++ x ∷ []) ≡ flat_map f xs ++ f x
flat_more f [] x = append-nil (f x)
flat_more f (y ∷ ys) x = ap (λ l. f y ++ l) (flat_more f ys x) ∙ sym (append_assoc (f y) (flat_map f ys) (f x))

-- a declaration, after a text without tables
pub declaration_pushed : (x : WrittenTables) (d : Declaration) → x.tables ≡ []
    → spell_text x ++ spell_table_declaration d ≡ spell_text (with_declaration x d)
declaration_pushed x d none =
    ap (λ l. mark kind.Tables ∷ number x.version ∷ l)
    (ap (λ l. (flat_map spell_table_declaration x.declarations ++ flat_map spell_table l) ++ spell_table_declaration d) none
    ∙ ap (λ l. l ++ spell_table_declaration d) (append-nil (flat_map spell_table_declaration x.declarations))
    ∙ sym (flat_more spell_table_declaration x.declarations d)
    ∙ sym (append-nil (flat_map spell_table_declaration (x.declarations ++ d ∷ [])))
    ∙ ap (λ l. flat_map spell_table_declaration (x.declarations ++ d ∷ []) ++ flat_map spell_table l) (sym none))

-- a table
pub table_pushed : (x : WrittenTables) (c : WrittenTable) → within x c ≡ spell_text (with_table x c)
table_pushed x c =
    ap (λ l. mark kind.Tables ∷ number x.version ∷ l)
    (append_assoc (flat_map spell_table_declaration x.declarations) (flat_map spell_table x.tables) (spell_table c)
    ∙ ap (λ l. flat_map spell_table_declaration x.declarations ++ l) (sym (flat_more spell_table x.tables c)))

-- a group, in a table without rows
pub group_pushed : (x : WrittenTables) (c : WrittenTable) (g : WrittenGroup) → c.rows ≡ []
    → within x c ++ spell_group g ≡ within x (with_group c g)
group_pushed x c g none =
    append_assoc (spell_text x) (spell_table c) (spell_group g)
    ∙ ap (λ l. spell_text x ++ mark kind.Table ∷ number c.switch ∷ l)
    (ap (λ l. (flat_map spell_group c.groups ++ flat_map spell_table_row l) ++ spell_group g) none
    ∙ ap (λ l. l ++ spell_group g) (append-nil (flat_map spell_group c.groups))
    ∙ sym (flat_more spell_group c.groups g)
    ∙ sym (append-nil (flat_map spell_group (c.groups ++ g ∷ [])))
    ∙ ap (λ l. flat_map spell_group (c.groups ++ g ∷ []) ++ flat_map spell_table_row l) (sym none))

-- a row
pub row_pushed : (x : WrittenTables) (c : WrittenTable) (r : WrittenRow)
    → within x c ++ spell_table_row r ≡ within x (with_table_row c r)
row_pushed x c r =
    append_assoc (spell_text x) (spell_table c) (spell_table_row r)
    ∙ ap (λ l. spell_text x ++ mark kind.Table ∷ number c.switch ∷ l)
    (append_assoc (flat_map spell_group c.groups) (flat_map spell_table_row c.rows) (spell_table_row r)
    ∙ ap (λ l. flat_map spell_group c.groups ++ l) (sym (flat_more spell_table_row c.rows r)))

-- a number, a name or a token of a kind may come
module _ {A : Type 0} (g : A → Option Reading) (t : Terminal) (us : List Terminal) where
  via_number : (other : A) (f : Number → A) → ((n : Number) → Leads (g (f n)) (us ++ number n ∷ []))
      → Leads (g other) (us ++ t ∷ []) → Leads (g (with_table_number t other f)) (us ++ t ∷ [])
  via_number other f e l = by t l
    where
      by : (t : Terminal) → Leads (g other) (us ++ t ∷ []) → Leads (g (with_table_number t other f)) (us ++ t ∷ [])
      by (name w) l = l
      by (number n) l = e n
      by (mark k) l = l

  via_name : (other : A) (f : Ident → A) → ((w : Ident) → Leads (g (f w)) (us ++ name w ∷ []))
      → Leads (g other) (us ++ t ∷ []) → Leads (g (with_table_name t other f)) (us ++ t ∷ [])
  via_name other f e l = by t l
    where
      by : (t : Terminal) → Leads (g other) (us ++ t ∷ []) → Leads (g (with_table_name t other f)) (us ++ t ∷ [])
      by (name w) l = e w
      by (number n) l = l
      by (mark k) l = l

  via_mark : (k : Kind) (then_one other : A) → Leads (g then_one) (us ++ mark k ∷ [])
      → Leads (g other) (us ++ t ∷ []) → Leads (g (if is_mark k t then then_one else other)) (us ++ t ∷ [])
  via_mark k then_one other e l = by (is_mark k t) refl
    where
      by : (b : Bool) → is_mark k t ≡ b → Leads (g (if b then then_one else other)) (us ++ t ∷ [])
      by true h = subst (λ s. Leads (g then_one) (us ++ s ∷ [])) (sym (mark_is k t h)) e
      by false h = l

-- what is answered itself
abbrev same : Option Reading → Option Reading
same o = o

-- a declaration or a table begins
begins : (x : WrittenTables) (c : WrittenTable) (t : Terminal) → x.tables ≡ [] → Leads (begin_table_text x c t) (spell_text x ++ t ∷ [])
begins x c t h =
    via_mark same t (spell_text x) kind.Field _ _ (refl, h)
    (via_mark same t (spell_text x) kind.Tag _ _ (refl, h)
    (via_mark same t (spell_text x) kind.Switch _ _ (refl, h)
    (via_mark same t (spell_text x) kind.Link _ _ (refl, h)
    (via_mark same t (spell_text x) kind.Table _ _ (refl, tt) tt))))

-- a row or a table begins
row_begins : (x : WrittenTables) (c : WrittenTable) (t : Terminal) → Leads (begin_row x c t) (within x c ++ t ∷ [])
row_begins x c t =
    via_mark same t (within x c) kind.Row _ _ (refl, tt)
    (via_mark same t (within x c) kind.Table _ _ (ap (λ l. l ++ mark kind.Table ∷ []) (table_pushed x c), tt) tt)

-- a group, a row or a table begins
group_begins : (x : WrittenTables) (c : WrittenTable) (t : Terminal) → c.rows ≡ [] → Leads (begin_group x c t) (within x c ++ t ∷ [])
group_begins x c t h = via_mark same t (within x c) kind.Group _ _ (refl, h) (row_begins x c t)

-- a match or the arrow begins
match_begins : (x : WrittenTables) (c : WrittenTable) (p : Number) (ms : List WrittenMatch) (t : Terminal)
    → Leads (begin_match x c p ms t) ((within x c ++ spell_matches p ms) ++ t ∷ [])
match_begins x c p ms t =
    via_name same t (within x c ++ spell_matches p ms) _ _ (λ w. (refl, tt))
    (via_mark same t (within x c ++ spell_matches p ms) kind.Arrow _ _ (refl, tt) tt)

-- matches and one more, with what stands after them
match_pushed : (a : List Terminal) (p : Number) (ms : List WrittenMatch) (w : Ident) (n : Number) (l : Option Number) (us : List Terminal)
    → (a ++ spell_matches p (with_table_match ms w n l)) ++ us ≡ (a ++ spell_matches p ms) ++ (spell_match (match_of w n l) ++ us)
match_pushed a p ms w n l us =
    ap (λ z. (a ++ mark kind.Row ∷ number p ∷ mark kind.Colon ∷ z) ++ us) (flat_more spell_match ms (match_of w n l))
    ∙ ap (λ z. z ++ us) (sym (append_assoc a (spell_matches p ms) (spell_match (match_of w n l))))
    ∙ append_assoc (a ++ spell_matches p ms) (spell_match (match_of w n l)) us

-- tokens after others after others
regroup : (xs ys zs us : List Terminal) → (xs ++ (ys ++ zs)) ++ us ≡ xs ++ (ys ++ (zs ++ us))
regroup xs ys zs us = append_assoc xs (ys ++ zs) us ∙ ap (λ l. xs ++ l) (append_assoc ys zs us)

-- a bucket that is whole
bucket_ends : (x : WrittenTables) (c : WrittenTable) (o : Owner) (b : WrittenBucket) → OwnerFits o c
    → IsAt ((within x c ++ spell_owner o) ++ spell_bucket b) (bucket_done x c o b)
bucket_ends x c (owner.First n) b h = (
  append_assoc (within x c) (spell_owner (owner.First n)) (spell_bucket b)
      ∙ ap (λ l. within x c ++ mark kind.Group ∷ number n ∷ mark kind.Equal ∷ l) (sym (append-nil (spell_bucket b))),
  h,
)
bucket_ends x c (owner.Next g) b h = (
  append_assoc (within x c) (spell_group g) (spell_bucket b)
      ∙ ap (λ l. within x c ++ mark kind.Group ∷ number g.number ∷ mark kind.Equal ∷ l)
      (append_assoc (spell_bucket g.first) (flat_map spell_bucket g.more) (spell_bucket b)
      ∙ ap (λ l. spell_bucket g.first ++ l) (sym (flat_more spell_bucket g.more b))),
  h,
)
bucket_ends x c (owner.Row p ms) b h = (
  regroup (within x c) (spell_matches p ms) (mark kind.Arrow ∷ []) (spell_bucket b)
      ∙ row_pushed x c (row_written p ms (target.Bucket b)),
  tt,
)

-- one more token of a bucket
bucket_leads : (x : WrittenTables) (c : WrittenTable) (o : Owner) (p : Place) (t : Terminal) → OwnerFits o c
    → Leads (bucket_on x c o (place_step p t)) (((within x c ++ spell_owner o) ++ spell_place p) ++ t ∷ [])
bucket_leads x c o (place.Sets ps) t h =
    let a = within x c ++ spell_owner o in
    via_name (bucket_on x c o) t (a ++ spell_sets ps) _ _ (λ w. (append_assoc a (spell_sets ps) (name w ∷ []), h))
    (via_mark (bucket_on x c o) t (a ++ spell_sets ps) kind.Out _ _ (append_assoc a (spell_sets ps) (mark kind.Out ∷ []), h) tt)
bucket_leads x c o (place.Named ps w) t h =
    let a = within x c ++ spell_owner o in
    via_mark (bucket_on x c o) t (a ++ (spell_sets ps ++ name w ∷ [])) kind.Assign _ _
    (regroup a (spell_sets ps) (name w ∷ []) (mark kind.Assign ∷ []), h) tt
bucket_leads x c o (place.Assigned ps w) t h =
    let a = within x c ++ spell_owner o in
    via_number (bucket_on x c o) t (a ++ (spell_sets ps ++ name w ∷ mark kind.Assign ∷ [])) _ _
    (λ n. (
      regroup a (spell_sets ps) (name w ∷ mark kind.Assign ∷ []) (number n ∷ [])
          ∙ ap (λ l. a ++ mark kind.OpenBracket ∷ l) (sym (flat_more spell_set ps (record { name = w; number = n }))),
      h,
    )) tt
bucket_leads x c o (place.Out ps) t h =
    let a = within x c ++ spell_owner o in
    via_number (bucket_on x c o) t (a ++ (spell_sets ps ++ mark kind.Out ∷ [])) _ _
    (λ n. (regroup a (spell_sets ps) (mark kind.Out ∷ []) (number n ∷ []), h))
    (via_mark (bucket_on x c o) t (a ++ (spell_sets ps ++ mark kind.Out ∷ [])) kind.In _ _
    (regroup a (spell_sets ps) (mark kind.Out ∷ []) (mark kind.In ∷ []), h) tt)
bucket_leads x c o (place.Left ps e) t h =
    let a = within x c ++ spell_owner o in
    let b : WrittenBucket = record { sets = ps; way = e } in
    via_mark (bucket_on x c o) t (a ++ (spell_sets ps ++ mark kind.Out ∷ way_token e ∷ [])) kind.CloseBracket _ _
    (subst (λ l. IsAt l (bucket_done x c o b)) (sym (regroup a (spell_sets ps) (mark kind.Out ∷ way_token e ∷ []) (mark kind.CloseBracket ∷ [])))
    (bucket_ends x c o b h)) tt

-- one more token of a link
link_leads : (x : WrittenTables) (c : WrittenTable) (q : Quad) (t : Terminal) → x.tables ≡ []
    → Leads (table_link_on x c (table_quad_step q t)) ((spell_text x ++ mark kind.Link ∷ spell_quad q) ++ t ∷ [])
link_leads x c quad.Start t h =
    via_number (table_link_on x c) t (spell_text x ++ mark kind.Link ∷ spell_quad quad.Start) _ _
    (λ a. (append_assoc (spell_text x) (mark kind.Link ∷ spell_quad quad.Start) (number a ∷ []), h)) tt
link_leads x c (quad.Switch a) t h =
    via_mark (table_link_on x c) t (spell_text x ++ mark kind.Link ∷ spell_quad (quad.Switch a)) kind.Colon _ _
    (append_assoc (spell_text x) (mark kind.Link ∷ spell_quad (quad.Switch a)) (mark kind.Colon ∷ []), h) tt
link_leads x c (quad.SwitchColon a) t h =
    via_number (table_link_on x c) t (spell_text x ++ mark kind.Link ∷ spell_quad (quad.SwitchColon a)) _ _
    (λ m. (append_assoc (spell_text x) (mark kind.Link ∷ spell_quad (quad.SwitchColon a)) (number m ∷ []), h)) tt
link_leads x c (quad.Port a m) t h =
    via_mark (table_link_on x c) t (spell_text x ++ mark kind.Link ∷ spell_quad (quad.Port a m)) kind.Arrow _ _
    (append_assoc (spell_text x) (mark kind.Link ∷ spell_quad (quad.Port a m)) (mark kind.Arrow ∷ []), h) tt
link_leads x c (quad.Arrow a m) t h =
    via_number (table_link_on x c) t (spell_text x ++ mark kind.Link ∷ spell_quad (quad.Arrow a m)) _ _
    (λ b. (append_assoc (spell_text x) (mark kind.Link ∷ spell_quad (quad.Arrow a m)) (number b ∷ []), h)) tt
link_leads x c (quad.ToSwitch a m b) t h =
    via_mark (table_link_on x c) t (spell_text x ++ mark kind.Link ∷ spell_quad (quad.ToSwitch a m b)) kind.Colon _ _
    (append_assoc (spell_text x) (mark kind.Link ∷ spell_quad (quad.ToSwitch a m b)) (mark kind.Colon ∷ []), h) tt
link_leads x c (quad.ToColon a m b) t h =
    via_number (table_link_on x c) t (spell_text x ++ mark kind.Link ∷ spell_quad (quad.ToColon a m b)) _ _
    (λ n. (append_assoc (spell_text x) (mark kind.Link ∷ spell_quad (quad.ToColon a m b)) (number n ∷ []) ∙ declaration_pushed x (declared.Link a m b n) h, h)) tt

-- one more token
pub leads : (s : Stage) (x : WrittenTables) (c : WrittenTable) (t : Terminal) → Fits s x c
    → Leads (next_table_reading s x c t) (spelled s x c ++ t ∷ [])
leads stage.Start x c t h = via_mark same t [] kind.Tables _ _ (refl, tt) tt
leads stage.Version x c t h = via_number same t (mark kind.Tables ∷ []) _ _ (λ n. (refl, refl)) tt
leads stage.Between x c t h = begins x c t h
leads (stage.Declared declaring.Field) x c t h = via_name same t (spell_text x ++ mark kind.Field ∷ []) _ _ (λ w. (append_assoc (spell_text x) (mark kind.Field ∷ []) (name w ∷ []), h)) tt
leads (stage.Declared (declaring.FieldNamed w)) x c t h =
    via_number same t (spell_text x ++ mark kind.Field ∷ name w ∷ []) _ _ (λ n. (append_assoc (spell_text x) (mark kind.Field ∷ name w ∷ []) (number n ∷ []) ∙ declaration_pushed x (declared.Field w n) h, h)) tt
leads (stage.Declared declaring.Tag) x c t h =
    via_name same t (spell_text x ++ mark kind.Tag ∷ []) _ _ (λ w. (append_assoc (spell_text x) (mark kind.Tag ∷ []) (name w ∷ []) ∙ declaration_pushed x (declared.Tag w) h, h)) tt
leads (stage.Declared declaring.Switch) x c t h = via_number same t (spell_text x ++ mark kind.Switch ∷ []) _ _ (λ n. (append_assoc (spell_text x) (mark kind.Switch ∷ []) (number n ∷ []), h)) tt
leads (stage.Declared (declaring.SwitchNumbered n)) x c t h =
    via_mark same t (spell_text x ++ mark kind.Switch ∷ number n ∷ []) kind.Ports _ _ (append_assoc (spell_text x) (mark kind.Switch ∷ number n ∷ []) (mark kind.Ports ∷ []), h) tt
leads (stage.Declared (declaring.FirstPort n)) x c t h =
    via_number same t (spell_text x ++ mark kind.Switch ∷ number n ∷ mark kind.Ports ∷ []) _ _ (λ p. (append_assoc (spell_text x) (mark kind.Switch ∷ number n ∷ mark kind.Ports ∷ []) (number p ∷ []), h)) tt
leads (stage.Declared (declaring.NextPort n p ps)) x c t h =
    via_number same t ((spell_text x ++ spell_table_declaration (declared.Switch n p ps)) ++ mark kind.Comma ∷ []) _ _
    (λ q. (
      append_assoc (spell_text x ++ spell_table_declaration (declared.Switch n p ps)) (mark kind.Comma ∷ []) (number q ∷ [])
          ∙ append_assoc (spell_text x) (spell_table_declaration (declared.Switch n p ps)) (mark kind.Comma ∷ number q ∷ [])
          ∙ ap (λ l. spell_text x ++ mark kind.Switch ∷ number n ∷ mark kind.Ports ∷ number p ∷ l) (sym (flat_more spell_port ps q)),
      h,
    )) tt
leads (stage.Declared (declaring.PortRead n p ps)) x c t h =
    via_mark same t (spell_text x ++ spell_table_declaration (declared.Switch n p ps)) kind.Comma _ _ (refl, h)
    (subst (λ l. Leads (begin_table_text (with_declaration x (declared.Switch n p ps)) c t) (l ++ t ∷ [])) (sym (declaration_pushed x (declared.Switch n p ps) h))
    (begins (with_declaration x (declared.Switch n p ps)) c t h))
leads (stage.Declared (declaring.Link q)) x c t h = link_leads x c q t h
leads stage.Table x c t h = via_number same t (spell_text x ++ mark kind.Table ∷ []) _ _ (λ n. (append_assoc (spell_text x) (mark kind.Table ∷ []) (number n ∷ []), refl)) tt
leads stage.Groups x c t h = group_begins x c t h
leads (stage.Grouped grouping.Group) x c t h = via_number same t (within x c ++ mark kind.Group ∷ []) _ _ (λ n. (append_assoc (within x c) (mark kind.Group ∷ []) (number n ∷ []), h)) tt
leads (stage.Grouped (grouping.GroupNumbered n)) x c t h =
    via_mark same t (within x c ++ mark kind.Group ∷ number n ∷ []) kind.Equal _ _ (append_assoc (within x c) (mark kind.Group ∷ number n ∷ []) (mark kind.Equal ∷ []), h) tt
leads (stage.Grouped (grouping.FirstBucket n)) x c t h =
    via_mark same t (within x c ++ mark kind.Group ∷ number n ∷ mark kind.Equal ∷ []) kind.OpenBracket _ _ (refl, h) tt
leads (stage.Grouped (grouping.BucketRead g)) x c t h =
    via_mark same t (within x c ++ spell_group g) kind.OpenBracket _ _ (refl, h)
    (subst (λ l. Leads (begin_group x (with_group c g) t) (l ++ t ∷ [])) (sym (group_pushed x c g h))
    (group_begins x (with_group c g) t h))
leads (stage.InBucket o p) x c t h = bucket_leads x c o p t h
leads stage.Rows x c t h = row_begins x c t
leads (stage.InRow in_row.Row) x c t h = via_number same t (within x c ++ mark kind.Row ∷ []) _ _ (λ p. (append_assoc (within x c) (mark kind.Row ∷ []) (number p ∷ []), tt)) tt
leads (stage.InRow (in_row.RowNumbered p)) x c t h =
    via_mark same t (within x c ++ mark kind.Row ∷ number p ∷ []) kind.Colon _ _ (append_assoc (within x c) (mark kind.Row ∷ number p ∷ []) (mark kind.Colon ∷ []), tt) tt
leads (stage.InRow (in_row.Matches p ms)) x c t h = match_begins x c p ms t
leads (stage.InRow (in_row.MatchNamed p ms w)) x c t h =
    via_mark same t ((within x c ++ spell_matches p ms) ++ name w ∷ []) kind.Equal _ _ (append_assoc (within x c ++ spell_matches p ms) (name w ∷ []) (mark kind.Equal ∷ []), tt) tt
leads (stage.InRow (in_row.MatchTested p ms w)) x c t h =
    via_number same t ((within x c ++ spell_matches p ms) ++ name w ∷ mark kind.Equal ∷ []) _ _
    (λ n. (
      append_assoc (within x c ++ spell_matches p ms) (name w ∷ mark kind.Equal ∷ []) (number n ∷ [])
          ∙ sym (match_pushed (within x c) p ms w n None [])
          ∙ append-nil (within x c ++ spell_matches p (with_table_match ms w n None)),
      tt,
    )) tt
leads (stage.InRow (in_row.MatchValued p ms w n)) x c t h =
    via_mark same t (within x c ++ spell_matches p (with_table_match ms w n None)) kind.Slash _ _ (refl, tt)
    (match_begins x c p (with_table_match ms w n None) t)
leads (stage.InRow (in_row.MatchSlashed p ms w n)) x c t h =
    let us = within x c ++ spell_matches p (with_table_match ms w n None) in
    via_number same t (us ++ mark kind.Slash ∷ []) _ _
    (λ l. (
      append_assoc us (mark kind.Slash ∷ []) (number l ∷ [])
          ∙ match_pushed (within x c) p ms w n None (mark kind.Slash ∷ number l ∷ [])
          ∙ sym (match_pushed (within x c) p ms w n (Some l) [])
          ∙ append-nil (within x c ++ spell_matches p (with_table_match ms w n (Some l))),
      tt,
    )) tt
leads (stage.InRow (in_row.Target p ms)) x c t h =
    let us = (within x c ++ spell_matches p ms) ++ mark kind.Arrow ∷ [] in
    via_mark same t us kind.OpenBracket _ _ (ap (λ l. l ++ mark kind.OpenBracket ∷ []) (append_assoc (within x c) (spell_matches p ms) (mark kind.Arrow ∷ [])), tt)
    (via_mark same t us kind.Group _ _ (append_assoc (within x c ++ spell_matches p ms) (mark kind.Arrow ∷ []) (mark kind.Group ∷ []), tt)
    (via_mark same t us kind.Drop _ _ (
      append_assoc (within x c ++ spell_matches p ms) (mark kind.Arrow ∷ []) (mark kind.Drop ∷ [])
          ∙ append_assoc (within x c) (spell_matches p ms) (mark kind.Arrow ∷ mark kind.Drop ∷ [])
          ∙ row_pushed x c (row_written p ms target.Discard),
      tt,
    ) tt))
leads (stage.InRow (in_row.TargetGroup p ms)) x c t h =
    via_number same t ((within x c ++ spell_matches p ms) ++ mark kind.Arrow ∷ mark kind.Group ∷ []) _ _
    (λ n. (
      append_assoc (within x c ++ spell_matches p ms) (mark kind.Arrow ∷ mark kind.Group ∷ []) (number n ∷ [])
          ∙ append_assoc (within x c) (spell_matches p ms) (mark kind.Arrow ∷ mark kind.Group ∷ number n ∷ [])
          ∙ row_pushed x c (row_written p ms (target.Group n)),
      tt,
    )) tt

-- nothing is something
pub none_some : {A : Type 0} (x : A) → ◌≡◌ {A = Option A} None (Some x) → ⊥
none_some x e = cc

-- what is there is one thing
pub some_same : {A : Type 0} (x y : A) → ◌≡◌ {A = Option A} (Some x) (Some y) → x ≡ y
some_same x y e = cc

-- all tokens
pub fronts : (us ts : List Terminal) (r r' : Reading) → IsAt ts r → read_table_tokens us r ≡ Some r' → IsAt (ts ++ us) r'
fronts [] ts r r' h e = subst (λ x. IsAt x r') (sym (append-nil ts)) (subst (IsAt ts) (some_same r r' e) h)
fronts (t ∷ us) ts r r' h e =
    by_step (read_table_token r t) (subst (λ l. Leads (read_table_token r t) (l ++ t ∷ [])) (sym h.0) (leads r.stage r.text r.table t h.1)) e (λ s k f. fronts us (ts ++ t ∷ []) s r' k f)
  where
    by_step : (o : Option Reading) → Leads o (ts ++ t ∷ []) → option_and_then (read_table_tokens us) o ≡ Some r'
        → ((s : Reading) → IsAt (ts ++ t ∷ []) s → read_table_tokens us s ≡ Some r' → IsAt ((ts ++ t ∷ []) ++ us) r')
        → IsAt (ts ++ t ∷ us) r'
    by_step None l e go = absurd (none_some r' e)
    by_step (Some s) l e go = subst (λ x. IsAt x r') (append_assoc ts (t ∷ []) us) (go s l e)

-- the tokens of a state that is reached are its front
pub front_of : (ts : List Terminal) (r : Reading) → read_table_tokens ts first_table_reading ≡ Some r → IsAt ts r
front_of ts r e = fronts ts [] first_table_reading r (refl, tt) e

-- what may end is spelled
pub ends : (s : Stage) (x : WrittenTables) (c : WrittenTable) (y : WrittenTables) → Fits s x c → table_text_ended s x c ≡ Some y
    → spelled s x c ≡ spell_text y
ends stage.Between x c y h e = ap spell_text (some_same x y e)
ends (stage.Declared (declaring.PortRead n p ps)) x c y h e = declaration_pushed x (declared.Switch n p ps) h ∙ ap spell_text (some_same _ y e)
ends stage.Groups x c y h e = table_pushed x c ∙ ap spell_text (some_same _ y e)
ends (stage.Grouped (grouping.BucketRead g)) x c y h e = group_pushed x c g h ∙ table_pushed x (with_group c g) ∙ ap spell_text (some_same _ y e)
ends stage.Rows x c y h e = table_pushed x c ∙ ap spell_text (some_same _ y e)
ends s x c y h e = absurd (none_some y e)
