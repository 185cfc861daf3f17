-- The words for what is wrong with a declaration.
use Rattle.std.specs.Prelude.{ℕ, List, codes}
use Rattle.nk_declare.specs.declared.fault.DeclareFault.{DeclareFault}
use Rattle.nk_declare.specs.declared.fault.DeclareFault.TheVariants as fault

abbrev pub declaration_fault_message : DeclareFault → List ℕ
declaration_fault_message fault.FieldTwice = codes "field twice"
declaration_fault_message fault.TooManyFields = codes "too many fields"
declaration_fault_message fault.TagTwice = codes "tag twice"
declaration_fault_message fault.TagUnknown = codes "tag unknown"
declaration_fault_message fault.SwitchTwice = codes "switch twice"
declaration_fault_message fault.PortTwice = codes "port twice"
declaration_fault_message fault.NoSuchPort = codes "no such port"
declaration_fault_message fault.SourceTwice = codes "source twice"
declaration_fault_message fault.TargetTwice = codes "target twice"
declaration_fault_message fault.ValueOutOfRange = codes "value out of range"
