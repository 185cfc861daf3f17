-- The commands, as `clap` sees them.
use Rattle.std.specs.Prelude.{true, List, [], ◌∷◌, map, codes}
use Rattle.std.specs.Borrow.{Bor}
use Rattle.clap.specs.Walk.{Rule, Text}
use Rattle.clap.specs.Simple.{App, Shape, new_rule, new_shape, with_subcommand}

-- an argument that is wanted
abbrev pub wanted_argument : Text → Rule
wanted_argument id = record (new_rule id) { required = true }

-- a command with arguments of these names, each of which is wanted
abbrev pub leaf_shape : Text → List Text → Shape
leaf_shape name arguments = record (new_shape name) { rules = map wanted_argument arguments }

-- an application with arguments of these names alone, each of which is wanted
abbrev pub leaf_app : Text → List Text → App
leaf_app name arguments = record { top = leaf_shape name arguments; subs = [] }

-- an application with one more subcommand, from its name and the names of its arguments
abbrev pub with_leaf : App → Bor Text × Bor (List (Bor Text)) → App
with_leaf a l = with_subcommand a (leaf_shape l.0.now (map (λ t. t.now) l.1.now))

-- the program without its commands: a command is wanted, and help and version are switched off
abbrev pub nk_top : App
nk_top = record {
  top = record (new_shape (codes "nk")) {
    no_binary_name = true;
    disable_help_flag = true;
    disable_help_subcommand = true;
    disable_version_flag = true;
    subcommand_required = true;
  };
  subs = [];
}

-- with the commands about one policy's tables and about two policies
unfoldable pub nk_without_queries : App
nk_without_queries = with_subcommand
    (with_subcommand
    (with_subcommand
    (with_subcommand
    (with_subcommand nk_top (leaf_shape (codes "compile") (codes "NAME" ∷ [])))
    (leaf_shape (codes "trace") (codes "HOPS" ∷ codes "PACKET" ∷ [])))
    (leaf_shape (codes "equal") (codes "LEFT" ∷ codes "RIGHT" ∷ [])))
    (leaf_shape (codes "check") (codes "LEFT" ∷ codes "RIGHT" ∷ [])))
    (leaf_shape (codes "fly") (codes "SEED" ∷ codes "STEPS" ∷ codes "PACKET" ∷ []))

-- with these and the commands about queries
unfoldable pub nk_without_generation : App
nk_without_generation = with_subcommand
    (with_subcommand
    (with_subcommand
    (with_subcommand nk_without_queries (leaf_shape (codes "apart") (codes "NAME" ∷ codes "A" ∷ codes "B" ∷ [])))
    (leaf_shape (codes "waypoint") (codes "NAME" ∷ codes "A" ∷ codes "W" ∷ codes "B" ∷ [])))
    (leaf_shape (codes "check_apart") (codes "NAME" ∷ codes "A" ∷ codes "B" ∷ [])))
    (leaf_shape (codes "check_waypoint") (codes "NAME" ∷ codes "A" ∷ codes "W" ∷ codes "B" ∷ []))

-- with all of its commands
unfoldable pub nk_app : App
nk_app = with_subcommand
    (with_subcommand
    (with_subcommand
    (with_subcommand
    (with_subcommand nk_without_generation (leaf_shape (codes "gen") (codes "SIZE" ∷ codes "SEED" ∷ [])))
    (leaf_shape (codes "job") (codes "SIZE" ∷ codes "SEED" ∷ [])))
    (leaf_shape (codes "update") (codes "OLD" ∷ codes "NEW" ∷ codes "SEED" ∷ codes "STEPS" ∷ codes "PACKET" ∷ [])))
    (leaf_shape (codes "compact") (codes "NAME" ∷ [])))
    (leaf_shape (codes "virtual") (codes "NAME" ∷ []))
