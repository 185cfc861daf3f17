-- What a reader of table texts keeps in memory says.
use Rattle.std.specs.Prelude.{ℕ}
use Rattle.nk_declare.specs.InMemory.{declared_in}
use Rattle.nk_tabgrammar.specs.declared.states.State.{State}
use Rattle.nk_tabtext.specs.declared.declaring.Declaring.{Declaring}
use Rattle.nk_tabtext.specs.declared.filling.Filling.{Filling}
use Rattle.nk_tabtext.specs.declared.partial.Partial.{Partial}
use Rattle.nk_tabtext.specs.declared.reading.Known.{Known}
use Rattle.nk_tabtext.specs.declared.reading.Known.TheVariants as known
use Rattle.nk_tabtext.specs.Progress.{DeclaringValue, FillingValue, PartialValue, KnownValue, Progress, Sound, Faulty, Stopped}

abbrev pub declaring_in : Declaring → DeclaringValue
declaring_in d = record {
  said = declared_in d.said;
  name = d.name;
  switch = d.switch;
  ports = d.ports;
  from_switch = d.from_switch;
  from_port = d.from_port;
  to_switch = d.to_switch;
}

abbrev pub filling_in : Filling → FillingValue
filling_in f = record {
  switch = f.switch;
  groups = f.groups.entries;
  rows = f.rows.items;
  number = f.number;
  buckets = f.buckets.items;
  priority = f.priority;
  matches = f.matches.items;
  field = f.field;
  max = f.max;
  value = f.value;
  sets = f.sets;
  exit = f.exit;
}

abbrev pub partial_in : Partial → PartialValue
partial_in p = record {
  version = p.version;
  declaring = declaring_in p.declaring;
  tables = p.tables.entries;
  filling = filling_in p.filling;
}

abbrev pub known_names_in : Known → KnownValue
known_names_in (known.Sound p) = Sound (partial_in p)
known_names_in (known.Faulty line) = Faulty line
known_names_in (known.Stopped line) = Stopped line

abbrev pub table_progress_of : State → ℕ → Known → Progress
table_progress_of s line k = record { state = s; line = line; known = known_names_in k }
