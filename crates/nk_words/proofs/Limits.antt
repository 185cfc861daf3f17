-- The numbers of a command that the words give are within their limits.
use Rattle.std.proofs.Common.{◌≡◌, ◌≤◌, ◌==◌, ℕ, List, Bool, true, false, length, subst, refl, arith, Some, None, cond}
use Rattle.std.specs.Prelude.{codes, nat_lt, nat_le, Option, option_map, option_and_then, Result, Ok, Err, IfOk}
use Rattle.std.specs.Char.{is_ascii_digit}
use Rattle.std.specs.List.{list_all}
use Rattle.std.specs.Str.{bytes_eq}
use Rattle.std.specs.Str.Parse.{digits_value}
use Rattle.std.proofs.lemmas.Bool.Decides.{nat_tests}
use Rattle.clap.specs.Walk.{Row, Text, first_of}
use Rattle.clap.specs.Simple.{subcommand_of}
use Rattle.clap.specs.Faults.{fault_of}
use Rattle.nk_words.specs.declared.words.Command.{Command}
use Rattle.nk_words.specs.declared.words.Command.TheVariants.{Compile, Trace, Equal, Check, Fly}
use Rattle.nk_words.specs.declared.words.Command.TheVariants.{Apart, Waypoint, CheckApart, CheckWaypoint, Gen, Job, Update, Compact, Virtual}
use Rattle.nk_words.specs.declared.words.WordsError.{WordsError}
use Rattle.nk_words.specs.App.{nk_app}
use Rattle.nk_words.specs.Number.{is_number_upto, number_between}
use Rattle.nk_words.specs.Words.{IsWithinLimits, Reads, command_found, command_of, command_with, fly_of, four_texts}
use Rattle.nk_words.specs.Words.{network_numbers, argument_number, three_texts, trace_of, update_of}
use Rattle.nk_words.proofs.Numbers.{both}

-- equal options have equal values
same_some : {X : Type 0} (x y : X) → Some x ≡ Some y → x ≡ y
same_some x y h = cc

-- a number that a word is, is within the limits
between : (least largest : ℕ) (word : List ℕ) (n : ℕ) → number_between least largest word ≡ Some n → (least ≤ n) × (n ≤ largest)
between least largest word n = by_test (is_number_upto largest word) refl
  where
    at_least : (b : Bool) → nat_le least (digits_value 10 word) ≡ b → digits_value 10 word ≤ largest
        → cond b (Some (digits_value 10 word)) None ≡ Some n → (least ≤ n) × (n ≤ largest)
    at_least true low high h =
        let e = same_some (digits_value 10 word) n h in
        subst (λ m. (least ≤ m) × (m ≤ largest)) e (grind (arith, nat_tests, low), high)
    at_least false low high h = cc

    by_test : (b : Bool) → is_number_upto largest word ≡ b
        → option_and_then (λ m. cond (nat_le least m) (Some m) None) (cond b (Some (digits_value 10 word)) None) ≡ Some n
        → (least ≤ n) × (n ≤ largest)
    by_test true e h =
        let p = both (list_all is_ascii_digit word) _ e in
        let q = both (nat_lt 0 (length word)) _ p.1 in
        let high : digits_value 10 word ≤ largest = grind (arith, nat_tests, q.1) in
        at_least (nat_le least (digits_value 10 word)) refl high h
    by_test false e h = cc

-- what holds of each value that there can be holds where there is one
mapped : {X : Type 0} (f : X → Command) (c : Command) (o : Option X) → ((x : X) → o ≡ Some x → IsWithinLimits (f x))
    → option_map f o ≡ Some c → IsWithinLimits c
mapped f c None all h = cc
mapped f c (Some x) all h = subst IsWithinLimits (same_some (f x) c h) (all x refl)

-- what holds of the command of each value that there can be holds where there is one
joined : {X : Type 0} (f : X → Option Command) (c : Command) (o : Option X)
    → ((x : X) → o ≡ Some x → f x ≡ Some c → IsWithinLimits c) → option_and_then f o ≡ Some c → IsWithinLimits c
joined f c None all h = cc
joined f c (Some x) all h = all x refl h

-- a number that an argument is, is within the limits
number_within : (id : Text) (least largest : ℕ) (rows : List Row) (n : ℕ) → argument_number id least largest rows ≡ Some n
    → (least ≤ n) × (n ≤ largest)
number_within id least largest rows n = by_word (first_of id rows)
  where
    by_word : (o : Option Text) → option_and_then (number_between least largest) o ≡ Some n → (least ≤ n) × (n ≤ largest)
    by_word None h = cc
    by_word (Some word) h = between least largest word n h

-- so are the numbers of a network
network_within : (rows : List Row) (p : ℕ × ℕ) → network_numbers rows ≡ Some p
    → (2 ≤ p.0) × (p.0 ≤ 1000) × (1 ≤ p.1) × (p.1 ≤ 2147483646)
network_within rows p = by_size (argument_number (codes "SIZE") 2 1000 rows) refl
  where
    by_seed : (size : ℕ) → (2 ≤ size) × (size ≤ 1000) → (o : Option ℕ) → argument_number (codes "SEED") 1 2147483646 rows ≡ o
        → option_map (λ seed. (size, seed)) o ≡ Some p → (2 ≤ p.0) × (p.0 ≤ 1000) × (1 ≤ p.1) × (p.1 ≤ 2147483646)
    by_seed size s None e h = cc
    by_seed size s (Some seed) e h =
        let t = number_within (codes "SEED") 1 2147483646 rows seed e in
        subst (λ (q : ℕ × ℕ). (2 ≤ q.0) × (q.0 ≤ 1000) × (1 ≤ q.1) × (q.1 ≤ 2147483646)) (same_some (size, seed) p h)
        (s.0, s.1, t.0, t.1)

    by_size : (o : Option ℕ) → argument_number (codes "SIZE") 2 1000 rows ≡ o
        → option_and_then (λ size. option_map (λ seed. (size, seed)) (argument_number (codes "SEED") 1 2147483646 rows)) o ≡ Some p
        → (2 ≤ p.0) × (p.0 ≤ 1000) × (1 ≤ p.1) × (p.1 ≤ 2147483646)
    by_size None e h = cc
    by_size (Some size) e h =
        by_seed size (number_within (codes "SIZE") 2 1000 rows size e) (argument_number (codes "SEED") 1 2147483646 rows) refl h

trace_within : (rows : List Row) (c : Command) → trace_of rows ≡ Some c → IsWithinLimits c
trace_within rows c h =
    joined (λ hops. option_map (λ packet. Trace hops packet) (first_of (codes "PACKET") rows)) c (argument_number (codes "HOPS") 0 65535 rows)
    (λ hops e. mapped (λ packet. Trace hops packet) c (first_of (codes "PACKET") rows)
    (λ packet f. (number_within (codes "HOPS") 0 65535 rows hops e).1)) h

fly_within : (rows : List Row) (c : Command) → fly_of rows ≡ Some c → IsWithinLimits c
fly_within rows c h =
    joined
    (λ seed. option_and_then (λ steps. option_map (λ packet. Fly seed steps packet) (first_of (codes "PACKET") rows))
    (argument_number (codes "STEPS") 0 1000000 rows))
    c (argument_number (codes "SEED") 1 2147483646 rows)
    (λ seed e. joined (λ steps. option_map (λ packet. Fly seed steps packet) (first_of (codes "PACKET") rows)) c
    (argument_number (codes "STEPS") 0 1000000 rows)
    (λ steps f. mapped (λ packet. Fly seed steps packet) c (first_of (codes "PACKET") rows)
    (λ packet g.
    let s = number_within (codes "SEED") 1 2147483646 rows seed e in
    (s.0, s.1, (number_within (codes "STEPS") 0 1000000 rows steps f).1))))
    h

update_within : (rows : List Row) (c : Command) → update_of rows ≡ Some c → IsWithinLimits c
update_within rows c h =
    joined
    (λ old. option_and_then (λ new. option_and_then (λ seed. option_and_then (λ steps.
    option_map (λ packet. Update old new seed steps packet) (first_of (codes "PACKET") rows))
    (argument_number (codes "STEPS") 0 1000000 rows)) (argument_number (codes "SEED") 1 2147483646 rows)) (first_of (codes "NEW") rows))
    c (first_of (codes "OLD") rows)
    (λ old d. joined
    (λ new. option_and_then (λ seed. option_and_then (λ steps.
    option_map (λ packet. Update old new seed steps packet) (first_of (codes "PACKET") rows))
    (argument_number (codes "STEPS") 0 1000000 rows)) (argument_number (codes "SEED") 1 2147483646 rows))
    c (first_of (codes "NEW") rows)
    (λ new e. joined
    (λ seed. option_and_then (λ steps. option_map (λ packet. Update old new seed steps packet) (first_of (codes "PACKET") rows))
    (argument_number (codes "STEPS") 0 1000000 rows))
    c (argument_number (codes "SEED") 1 2147483646 rows)
    (λ seed f. joined (λ steps. option_map (λ packet. Update old new seed steps packet) (first_of (codes "PACKET") rows)) c
    (argument_number (codes "STEPS") 0 1000000 rows)
    (λ steps g. mapped (λ packet. Update old new seed steps packet) c (first_of (codes "PACKET") rows)
    (λ packet i.
    let s = number_within (codes "SEED") 1 2147483646 rows seed f in
    (s.0, s.1, (number_within (codes "STEPS") 0 1000000 rows steps g).1))))))
    h

-- one of two commands, by a test
either : (c : Command) (b : Bool) (x y : Option Command) → (x ≡ Some c → IsWithinLimits c) → (y ≡ Some c → IsWithinLimits c)
    → cond b x y ≡ Some c → IsWithinLimits c
either c true x y f g h = f h
either c false x y f g h = g h

-- a command of any name
with_within : (name : Text) (rows : List Row) (c : Command) → command_with name rows ≡ Some c → IsWithinLimits c
with_within name rows c =
    either c (bytes_eq name (codes "compile")) _ _ (mapped (λ x. Compile x) c (first_of (codes "NAME") rows) (λ x e. tt))
    (either c (bytes_eq name (codes "trace")) _ _ (trace_within rows c)
    (either c (bytes_eq name (codes "equal")) _ _
    (joined (λ x. option_map (λ y. Equal x y) (first_of (codes "RIGHT") rows)) c (first_of (codes "LEFT") rows)
    (λ x e. mapped (λ y. Equal x y) c (first_of (codes "RIGHT") rows) (λ y f. tt)))
    (either c (bytes_eq name (codes "check")) _ _
    (joined (λ x. option_map (λ y. Check x y) (first_of (codes "RIGHT") rows)) c (first_of (codes "LEFT") rows)
    (λ x e. mapped (λ y. Check x y) c (first_of (codes "RIGHT") rows) (λ y f. tt)))
    (either c (bytes_eq name (codes "fly")) _ _ (fly_within rows c)
    (either c (bytes_eq name (codes "apart")) _ _ (mapped (λ t. Apart t.0 t.1 t.2) c (three_texts rows) (λ t e. tt))
    (either c (bytes_eq name (codes "waypoint")) _ _ (mapped (λ t. Waypoint t.0 t.1 t.2 t.3) c (four_texts rows) (λ t e. tt))
    (either c (bytes_eq name (codes "check_apart")) _ _ (mapped (λ t. CheckApart t.0 t.1 t.2) c (three_texts rows) (λ t e. tt))
    (either c (bytes_eq name (codes "check_waypoint")) _ _
    (mapped (λ t. CheckWaypoint t.0 t.1 t.2 t.3) c (four_texts rows) (λ t e. tt))
    (either c (bytes_eq name (codes "gen")) _ _ (mapped (λ n. Gen n.0 n.1) c (network_numbers rows) (network_within rows))
    (either c (bytes_eq name (codes "job")) _ _ (mapped (λ n. Job n.0 n.1) c (network_numbers rows) (network_within rows))
    (either c (bytes_eq name (codes "update")) _ _ (update_within rows c)
    (either c (bytes_eq name (codes "compact")) _ _ (mapped (λ x. Compact x) c (first_of (codes "NAME") rows) (λ x e. tt))
    (either c (bytes_eq name (codes "virtual")) _ _ (mapped (λ x. Virtual x) c (first_of (codes "NAME") rows) (λ x e. tt))
    (λ h. cc))))))))))))))

-- the command that the words give
pub command_within : (words : List Text) (c : Command) → command_of words ≡ Some c → IsWithinLimits c
command_within words c =
    either c (length (fault_of nk_app words) == 0) (command_found (subcommand_of nk_app words)) None
    (λ h. joined (λ p. command_with p.0 p.1) c (subcommand_of nk_app words) (λ p e. with_within p.0 p.1 c) h) (λ h. cc)

-- and so what is read of them
pub read_within : (words : List Text) (r : Result Command WordsError) → Reads (command_of words) r → IfOk r IsWithinLimits
read_within words (Ok c) h = command_within words c h
read_within words (Err e) h = tt
