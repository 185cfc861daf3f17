-- The command that the words give, by `clap`'s own functions of the words.
use Rattle.std.specs.Prelude.{◌≡◌, ◌==◌, ◌≤◌, ℕ, List, map, length, codes, Option, Some, None, option_map}
use Rattle.std.specs.Prelude.{option_and_then, if◌then◌else◌, ⊤, String, string_bytes, Ok, Err}
use Rattle.std.specs.Global.{Global}
use Rattle.std.specs.declared.result.Result.{Result}
use Rattle.std.specs.Str.{bytes_eq}
use Rattle.clap.specs.Walk.{Row, Text, first_of}
use Rattle.clap.specs.Simple.{subcommand_of}
use Rattle.clap.specs.Faults.{fault_of}
use Rattle.nk_words.specs.declared.words.Command.{Command}
use Rattle.nk_words.specs.declared.words.Command.TheVariants.{Compile, Trace, Equal, Check, Fly}
use Rattle.nk_words.specs.declared.words.Command.TheVariants.{Apart, Waypoint, CheckApart, CheckWaypoint, Gen, Job, Update, Compact, Virtual}
use Rattle.nk_words.specs.declared.words.WordsError.{WordsError}
use Rattle.nk_words.specs.declared.words.WordsError.TheVariants.{NoMemory, Usage}
use Rattle.nk_words.specs.App.{nk_app}
use Rattle.nk_words.specs.Number.{number_between}

-- the words as texts
abbrev pub texts : List (String Global) → List Text
texts words = map (λ w. string_bytes w) words

-- the number of an argument, from the least one to the largest one
abbrev pub argument_number : Text → ℕ → ℕ → List Row → Option ℕ
argument_number id least largest rows = option_and_then (number_between least largest) (first_of id rows)

-- the command `compile NAME`, from what was found of its argument
abbrev pub compile_of : List Row → Option Command
compile_of rows = option_map (λ name. Compile name) (first_of (codes "NAME") rows)

-- the command `trace HOPS PACKET`, from what was found of its arguments
abbrev pub trace_of : List Row → Option Command
trace_of rows = option_and_then (λ hops. option_map (λ packet. Trace hops packet) (first_of (codes "PACKET") rows))
    (argument_number (codes "HOPS") 0 65535 rows)

-- the command `equal LEFT RIGHT`, from what was found of its arguments
abbrev pub equal_of : List Row → Option Command
equal_of rows = option_and_then (λ left. option_map (λ right. Equal left right) (first_of (codes "RIGHT") rows))
    (first_of (codes "LEFT") rows)

-- the command `check LEFT RIGHT`, from what was found of its arguments
abbrev pub check_of : List Row → Option Command
check_of rows = option_and_then (λ left. option_map (λ right. Check left right) (first_of (codes "RIGHT") rows))
    (first_of (codes "LEFT") rows)

-- the command `fly SEED STEPS PACKET`, from what was found of its arguments
abbrev pub fly_of : List Row → Option Command
fly_of rows =
    option_and_then (λ seed. option_and_then (λ steps. option_map (λ packet. Fly seed steps packet)
    (first_of (codes "PACKET") rows)) (argument_number (codes "STEPS") 0 1000000 rows))
    (argument_number (codes "SEED") 1 2147483646 rows)

-- the texts of the arguments `NAME A B`, from what was found of them
abbrev pub three_texts : List Row → Option (List ℕ × List ℕ × List ℕ)
three_texts rows =
    option_and_then (λ name. option_and_then (λ from. option_map (λ target. (name, from, target)) (first_of (codes "B") rows))
    (first_of (codes "A") rows)) (first_of (codes "NAME") rows)

-- the texts of the arguments `NAME A W B`, from what was found of them
abbrev pub four_texts : List Row → Option (List ℕ × List ℕ × List ℕ × List ℕ)
four_texts rows = option_and_then (λ t. option_map (λ middle. (t.0, t.1, middle, t.2)) (first_of (codes "W") rows)) (three_texts rows)

-- the commands `apart NAME A B` and `check_apart NAME A B`
abbrev pub apart_of : List Row → Option Command
apart_of rows = option_map (λ t. Apart t.0 t.1 t.2) (three_texts rows)

abbrev pub check_apart_of : List Row → Option Command
check_apart_of rows = option_map (λ t. CheckApart t.0 t.1 t.2) (three_texts rows)

-- the commands `waypoint NAME A W B` and `check_waypoint NAME A W B`
abbrev pub waypoint_of : List Row → Option Command
waypoint_of rows = option_map (λ t. Waypoint t.0 t.1 t.2 t.3) (four_texts rows)

abbrev pub check_waypoint_of : List Row → Option Command
check_waypoint_of rows = option_map (λ t. CheckWaypoint t.0 t.1 t.2 t.3) (four_texts rows)

-- the numbers of the arguments `SIZE SEED`, from what was found of them
abbrev pub network_numbers : List Row → Option (ℕ × ℕ)
network_numbers rows = option_and_then (λ size. option_map (λ seed. (size, seed)) (argument_number (codes "SEED") 1 2147483646 rows))
    (argument_number (codes "SIZE") 2 1000 rows)

-- the commands `gen SIZE SEED` and `job SIZE SEED`
abbrev pub gen_of : List Row → Option Command
gen_of rows = option_map (λ n. Gen n.0 n.1) (network_numbers rows)

abbrev pub job_of : List Row → Option Command
job_of rows = option_map (λ n. Job n.0 n.1) (network_numbers rows)

-- the command `update OLD NEW SEED STEPS PACKET`, from what was found of its arguments
abbrev pub update_of : List Row → Option Command
update_of rows =
    option_and_then (λ old. option_and_then (λ new. option_and_then (λ seed. option_and_then (λ steps.
    option_map (λ packet. Update old new seed steps packet) (first_of (codes "PACKET") rows))
    (argument_number (codes "STEPS") 0 1000000 rows)) (argument_number (codes "SEED") 1 2147483646 rows))
    (first_of (codes "NEW") rows)) (first_of (codes "OLD") rows)

-- the command `compact NAME`, from what was found of its argument
abbrev pub compact_of : List Row → Option Command
compact_of rows = option_map (λ name. Compact name) (first_of (codes "NAME") rows)

-- the command `virtual NAME`, from what was found of its argument
abbrev pub virtual_of : List Row → Option Command
virtual_of rows = option_map (λ name. Virtual name) (first_of (codes "NAME") rows)

-- the command of this name, from what was found of its arguments
abbrev pub command_with : Text → List Row → Option Command
command_with name rows = if bytes_eq name (codes "compile") then compile_of rows
    else if bytes_eq name (codes "trace") then trace_of rows
    else if bytes_eq name (codes "equal") then equal_of rows
    else if bytes_eq name (codes "check") then check_of rows
    else if bytes_eq name (codes "fly") then fly_of rows
    else if bytes_eq name (codes "apart") then apart_of rows
    else if bytes_eq name (codes "waypoint") then waypoint_of rows
    else if bytes_eq name (codes "check_apart") then check_apart_of rows
    else if bytes_eq name (codes "check_waypoint") then check_waypoint_of rows
    else if bytes_eq name (codes "gen") then gen_of rows
    else if bytes_eq name (codes "job") then job_of rows
    else if bytes_eq name (codes "update") then update_of rows
    else if bytes_eq name (codes "compact") then compact_of rows
    else if bytes_eq name (codes "virtual") then virtual_of rows else None

-- the command of the subcommand that was found
abbrev pub command_found : Option (Text × List Row) → Option Command
command_found = option_and_then (λ p. command_with p.0 p.1)

-- the command that the words give, where `clap` finds no fault in them
abbrev pub command_of : List Text → Option Command
command_of words =
    if length (fault_of nk_app words) == 0 then command_found (subcommand_of nk_app words) else None

-- what was read, and Usage only where there is nothing to read
abbrev pub Reads : {X : Type 0} → Option X → Result X WordsError → Type 0
Reads o (Ok x) = o ≡ Some x
Reads o (Err NoMemory) = ⊤
Reads o (Err Usage) = o ≡ None

-- the command's numbers are within their limits
abbrev pub IsWithinLimits : Command → Type 0
IsWithinLimits (Trace hops packet) = hops ≤ 65535
IsWithinLimits (Fly seed steps packet) = (1 ≤ seed) × (seed ≤ 2147483646) × (steps ≤ 1000000)
IsWithinLimits (Update old new seed steps packet) = (1 ≤ seed) × (seed ≤ 2147483646) × (steps ≤ 1000000)
IsWithinLimits (Gen size seed) = (2 ≤ size) × (size ≤ 1000) × (1 ≤ seed) × (seed ≤ 2147483646)
IsWithinLimits (Job size seed) = (2 ≤ size) × (size ≤ 1000) × (1 ≤ seed) × (seed ≤ 2147483646)
IsWithinLimits c = ⊤
