-- What may come next in a table text, without what was read, and what a token tells there; and that this is what the reading
-- machine does, but for what it keeps.
use Rattle.std.specs.Prelude.{◌≡◌, ◌==◌, Bool, Option, Some, None, if◌then◌else◌, is_some, option_map}
use Rattle.nk_lex.specs.declared.kind.Kind.{Kind}
use Rattle.nk_lex.specs.declared.kind.Kind.TheVariants as kind
use Rattle.nk_tabgrammar.specs.declared.states.LinkState.{LinkState}
use Rattle.nk_tabgrammar.specs.declared.states.LinkState.TheVariants as link
use Rattle.nk_tabgrammar.specs.declared.states.BucketState.{BucketState}
use Rattle.nk_tabgrammar.specs.declared.states.BucketState.TheVariants as bucket
use Rattle.nk_tabgrammar.specs.declared.states.RowState.{RowState}
use Rattle.nk_tabgrammar.specs.declared.states.RowState.TheVariants as row
use Rattle.nk_tabgrammar.specs.declared.states.State.{State}
use Rattle.nk_tabgrammar.specs.declared.states.State.TheVariants as state
use Rattle.nk_tabgrammar.specs.declared.states.Tells.{Tells}
use Rattle.nk_tabgrammar.specs.declared.states.Tells.TheVariants as tells
use Rattle.nk_lex.specs.declared.quad.Quad.{Quad}
use Rattle.nk_lex.specs.declared.quad.Quad.TheVariants as quad
use Rattle.nk_tabgrammar.specs.declared.stage.Place.{Place}
use Rattle.nk_tabgrammar.specs.declared.stage.Place.TheVariants as place
use Rattle.nk_tabgrammar.specs.declared.stage.Owner.{Owner}
use Rattle.nk_tabgrammar.specs.declared.stage.Owner.TheVariants as owner
use Rattle.nk_tabgrammar.specs.declared.stage.Stage.{Stage}
use Rattle.nk_tabgrammar.specs.declared.stage.Stage.TheVariants as stage
use Rattle.nk_tabgrammar.specs.declared.stage.Declaring.TheVariants as declaring
use Rattle.nk_tabgrammar.specs.declared.stage.Grouping.TheVariants as grouping
use Rattle.nk_tabgrammar.specs.declared.stage.InRow.TheVariants as in_row
use Rattle.nk_lex.specs.declared.token.Token.{Token}
use Rattle.nk_tabgrammar.specs.Terminal.{kind_place, table_terminal_of}
use Rattle.nk_tabgrammar.specs.Machine.{Reading, read_table_token, written_at_end}

-- what may come after a token, and what the token tells; none where no text goes on with it
abbrev pub MaybeStep : Type 0
MaybeStep = Option (State × Tells)

-- whether two kinds are the same
abbrev pub is_kind : Kind → Kind → Bool
is_kind k l = kind_place k == kind_place l

-- this step, if the kind is the wanted one
abbrev pub step_if : Kind → Kind → State → Tells → MaybeStep
step_if wanted k s t = if is_kind wanted k then Some (s, t) else None

-- the first that is there
abbrev pub or_else : MaybeStep → MaybeStep → MaybeStep
or_else (Some p) other = Some p
or_else None other = other

-- a declaration or a table begins
abbrev pub begin_state : Kind → Tells → MaybeStep
begin_state k t =
    or_else (step_if kind.Field k state.Field t)
    (or_else (step_if kind.Tag k state.Tag t)
    (or_else (step_if kind.Switch k state.Switch t)
    (or_else (step_if kind.Link k (state.Link link.Start) t) (step_if kind.Table k state.Table t))))

-- a row or a table begins
abbrev pub begin_row : Kind → Tells → MaybeStep
begin_row k t = or_else (step_if kind.Row k (state.Row row.Row) t) (step_if kind.Table k state.Table t)

-- a group, a row or a table begins
abbrev pub begin_group : Kind → Tells → MaybeStep
begin_group k t = or_else (step_if kind.Group k state.Group t) (begin_row k t)

-- a link
abbrev pub after_table_link : LinkState → Kind → MaybeStep
after_table_link link.Start k = step_if kind.Number k (state.Link link.Switch) tells.LinkSwitch
after_table_link link.Switch k = step_if kind.Colon k (state.Link link.SwitchColon) tells.Nothing
after_table_link link.SwitchColon k = step_if kind.Number k (state.Link link.Port) tells.LinkPort
after_table_link link.Port k = step_if kind.Arrow k (state.Link link.Arrow) tells.Nothing
after_table_link link.Arrow k = step_if kind.Number k (state.Link link.ToSwitch) tells.LinkToSwitch
after_table_link link.ToSwitch k = step_if kind.Colon k (state.Link link.ToColon) tells.Nothing
after_table_link link.ToColon k = step_if kind.Number k state.Between tells.LinkToPort

-- a bucket, but the bracket that ends it
abbrev pub after_open : BucketState → Kind → Option (BucketState × Tells)
after_open bucket.Sets k =
    if is_kind kind.Name k then Some (bucket.Named, tells.SetName)
    else if is_kind kind.Out k then Some (bucket.Out, tells.Nothing) else None
after_open bucket.Named k = if is_kind kind.Assign k then Some (bucket.Assigned, tells.Nothing) else None
after_open bucket.Assigned k = if is_kind kind.Number k then Some (bucket.Sets, tells.SetValue) else None
after_open bucket.Out k =
    if is_kind kind.Number k then Some (bucket.Left, tells.OutPort)
    else if is_kind kind.In k then Some (bucket.Left, tells.OutBack) else None
after_open bucket.Left k = None

-- the bracket
abbrev pub closing : BucketState → Kind → State → Tells → MaybeStep
closing bucket.Left k s t = step_if kind.CloseBracket k s t
closing b k s t = None

-- a bucket, that is whole in this state and tells this then
abbrev pub after_in : (BucketState → State) → State → Tells → BucketState → Kind → MaybeStep
after_in at whole t b k = or_else (closing b k whole t) (option_map (λ p. (at p.0, p.1)) (after_open b k))

-- a match or the arrow
abbrev pub begin_match : Kind → MaybeStep
begin_match k =
    or_else (step_if kind.Name k (state.Row row.Named) tells.MatchName) (step_if kind.Arrow k (state.Row row.Target) tells.Nothing)

-- a target
abbrev pub begin_target : Kind → MaybeStep
begin_target k =
    or_else (step_if kind.OpenBracket k (state.InRow bucket.Sets) tells.Nothing)
    (or_else (step_if kind.Group k (state.Row row.TargetGroup) tells.Nothing) (step_if kind.Drop k state.Rows tells.RowDrop))

-- a row
abbrev pub after_row : RowState → Kind → MaybeStep
after_row row.Row k = step_if kind.Number k (state.Row row.Numbered) tells.Row
after_row row.Numbered k = step_if kind.Colon k (state.Row row.Matches) tells.Nothing
after_row row.Matches k = begin_match k
after_row row.Named k = step_if kind.Equal k (state.Row row.Tested) tells.Nothing
after_row row.Tested k = step_if kind.Number k (state.Row row.Valued) tells.MatchValue
after_row row.Valued k = or_else (step_if kind.Slash k (state.Row row.Slashed) tells.Nothing) (begin_match k)
after_row row.Slashed k = step_if kind.Number k (state.Row row.Matches) tells.MatchLength
after_row row.Target k = begin_target k
after_row row.TargetGroup k = step_if kind.Number k state.Rows tells.RowGroup

-- the word `tables`, a declaration, a table's number or a group, but where something may end
abbrev pub after_plain : State → Kind → MaybeStep
after_plain state.Start k = step_if kind.Tables k state.Version tells.Nothing
after_plain state.Version k = step_if kind.Number k state.Between tells.Version
after_plain state.Field k = step_if kind.Name k state.FieldNamed tells.FieldName
after_plain state.FieldNamed k = step_if kind.Number k state.Between tells.FieldMax
after_plain state.Tag k = step_if kind.Name k state.Between tells.Tag
after_plain state.Switch k = step_if kind.Number k state.SwitchNumbered tells.Switch
after_plain state.SwitchNumbered k = step_if kind.Ports k state.FirstPort tells.Nothing
after_plain state.FirstPort k = step_if kind.Number k state.PortRead tells.Port
after_plain state.NextPort k = step_if kind.Number k state.PortRead tells.Port
after_plain state.Table k = step_if kind.Number k state.Groups tells.Table
after_plain state.Group k = step_if kind.Number k state.GroupNumbered tells.Group
after_plain state.GroupNumbered k = step_if kind.Equal k state.FirstBucket tells.Nothing
after_plain state.FirstBucket k = step_if kind.OpenBracket k (state.InGroup bucket.Sets) tells.Nothing
after_plain s k = None

-- one more token
abbrev pub after_token : State → Kind → MaybeStep
after_token state.Between k = begin_state k tells.Nothing
after_token state.PortRead k = or_else (step_if kind.Comma k state.NextPort tells.Nothing) (begin_state k tells.SwitchEnds)
after_token (state.Link at) k = after_table_link at k
after_token state.Groups k = begin_group k tells.Nothing
after_token state.BucketRead k =
    or_else (step_if kind.OpenBracket k (state.InGroup bucket.Sets) tells.Nothing) (begin_group k tells.GroupEnds)
after_token (state.InGroup at) k = after_in state.InGroup state.BucketRead tells.GroupBucket at k
after_token state.Rows k = begin_row k tells.Nothing
after_token (state.Row at) k = after_row at k
after_token (state.InRow at) k = after_in state.InRow state.Rows tells.RowBucket at k
after_token s k = after_plain s k

-- what the end tells, where the text may end
abbrev pub at_end : State → Option Tells
at_end state.Between = Some tells.Nothing
at_end state.Groups = Some tells.Nothing
at_end state.Rows = Some tells.Nothing
at_end state.PortRead = Some tells.SwitchEnds
at_end state.BucketRead = Some tells.GroupEnds
at_end s = None

-- ---- the machine without what it keeps

abbrev pub link_state : Quad → LinkState
link_state quad.Start = link.Start
link_state (quad.Switch a) = link.Switch
link_state (quad.SwitchColon a) = link.SwitchColon
link_state (quad.Port a m) = link.Port
link_state (quad.Arrow a m) = link.Arrow
link_state (quad.ToSwitch a m b) = link.ToSwitch
link_state (quad.ToColon a m b) = link.ToColon

abbrev pub bucket_state : Place → BucketState
bucket_state (place.Sets ps) = bucket.Sets
bucket_state (place.Named ps w) = bucket.Named
bucket_state (place.Assigned ps w) = bucket.Assigned
bucket_state (place.Out ps) = bucket.Out
bucket_state (place.Left ps e) = bucket.Left

abbrev pub in_bucket : Owner → BucketState → State
in_bucket (owner.First n) at = state.InGroup at
in_bucket (owner.Next g) at = state.InGroup at
in_bucket (owner.Row p ms) at = state.InRow at

abbrev pub state_of_stage : Stage → State
state_of_stage stage.Start = state.Start
state_of_stage stage.Version = state.Version
state_of_stage stage.Between = state.Between
state_of_stage (stage.Declared declaring.Field) = state.Field
state_of_stage (stage.Declared (declaring.FieldNamed w)) = state.FieldNamed
state_of_stage (stage.Declared declaring.Tag) = state.Tag
state_of_stage (stage.Declared declaring.Switch) = state.Switch
state_of_stage (stage.Declared (declaring.SwitchNumbered n)) = state.SwitchNumbered
state_of_stage (stage.Declared (declaring.FirstPort n)) = state.FirstPort
state_of_stage (stage.Declared (declaring.NextPort n p ps)) = state.NextPort
state_of_stage (stage.Declared (declaring.PortRead n p ps)) = state.PortRead
state_of_stage (stage.Declared (declaring.Link q)) = state.Link (link_state q)
state_of_stage stage.Table = state.Table
state_of_stage stage.Groups = state.Groups
state_of_stage (stage.Grouped grouping.Group) = state.Group
state_of_stage (stage.Grouped (grouping.GroupNumbered n)) = state.GroupNumbered
state_of_stage (stage.Grouped (grouping.FirstBucket n)) = state.FirstBucket
state_of_stage (stage.Grouped (grouping.BucketRead g)) = state.BucketRead
state_of_stage (stage.InBucket o p) = in_bucket o (bucket_state p)
state_of_stage stage.Rows = state.Rows
state_of_stage (stage.InRow in_row.Row) = state.Row row.Row
state_of_stage (stage.InRow (in_row.RowNumbered p)) = state.Row row.Numbered
state_of_stage (stage.InRow (in_row.Matches p ms)) = state.Row row.Matches
state_of_stage (stage.InRow (in_row.MatchNamed p ms w)) = state.Row row.Named
state_of_stage (stage.InRow (in_row.MatchTested p ms w)) = state.Row row.Tested
state_of_stage (stage.InRow (in_row.MatchValued p ms w n)) = state.Row row.Valued
state_of_stage (stage.InRow (in_row.MatchSlashed p ms w n)) = state.Row row.Slashed
state_of_stage (stage.InRow (in_row.Target p ms)) = state.Row row.Target
state_of_stage (stage.InRow (in_row.TargetGroup p ms)) = state.Row row.TargetGroup

-- at each stage a token goes on exactly where the states do, and to the stage's state; and texts end at the same ones
abbrev pub FollowStages : Type 0
FollowStages =
    (r : Reading)
    → ((t : Token) → option_map (λ s. state_of_stage s.stage) (read_table_token r (table_terminal_of t)) ≡ option_map (λ p. p.0) (after_token (state_of_stage r.stage) t.kind))
    × (is_some (written_at_end r) ≡ is_some (at_end (state_of_stage r.stage)))
