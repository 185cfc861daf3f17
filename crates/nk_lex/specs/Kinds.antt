-- The kind of a name.
use Rattle.std.specs.Prelude.{ℕ, List, codes, if◌then◌else◌}
use Rattle.std.specs.Str.{bytes_eq}
use Rattle.nk_lex.specs.declared.kind.Kind.{Kind}
use Rattle.nk_lex.specs.declared.kind.Kind.TheVariants as kind

-- a keyword's kind, or a name
abbrev pub kind_of_name : List ℕ → Kind
kind_of_name name = if bytes_eq name (codes "field") then kind.Field
    else if bytes_eq name (codes "tag") then kind.Tag
    else if bytes_eq name (codes "switch") then kind.Switch
    else if bytes_eq name (codes "ports") then kind.Ports
    else if bytes_eq name (codes "link") then kind.Link
    else if bytes_eq name (codes "let") then kind.Let
    else if bytes_eq name (codes "certificate") then kind.Certificate
    else if bytes_eq name (codes "row") then kind.Row
    else if bytes_eq name (codes "start") then kind.Start
    else if bytes_eq name (codes "id") then kind.Id
    else if bytes_eq name (codes "drop") then kind.Drop
    else if bytes_eq name (codes "dup") then kind.Dup
    else if bytes_eq name (codes "tables") then kind.Tables
    else if bytes_eq name (codes "table") then kind.Table
    else if bytes_eq name (codes "group") then kind.Group
    else if bytes_eq name (codes "out") then kind.Out
    else if bytes_eq name (codes "in") then kind.In
    else if bytes_eq name (codes "virtual") then kind.Virtual
    else if bytes_eq name (codes "fabric") then kind.Fabric
    else if bytes_eq name (codes "by") then kind.By
    else kind.Name
