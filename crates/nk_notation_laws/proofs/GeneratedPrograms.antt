-- The texts of generated programs have plain numbers.
use Rattle.std.proofs.Common.{◌≡◌, ◌<◌, ◌≤◌, ◌+◌, ◌*◌, ◌%◌, ◌==◌, ◌&&◌, ◌||◌, ℕ, zero, suc, Bool, true, false, not, cond, List, [], ◌∷◌, ◌++◌, decimal, refl, sym, subst, ◌∙◌, arith, append_assoc, append-nil, drop}
use Rattle.std.proofs.lemmas.List.Elements.{All-append, All-cons, All-head, All-map, All-nil, All-tail, All-weaker}
use Rattle.std.proofs.lemmas.Nat.{mod_below}
use Rattle.std.specs.Prelude.{All, codes, fold, nat_le, slice_index, take}
use Rattle.std.specs.List.{enumerate_from, flat_map, join_by, list_all, range_with_len}
use Rattle.std.specs.Fmt.{digits}
use Rattle.nk_lex.specs.Lex.{largest}
use Rattle.nk_lex.specs.Spelling.{IsName}
use Rattle.nk_lex.proofs.Digits.{both_pass}
use Rattle.nk_gen.specs.Draws.{all_draws, chord_draws, draws, home_draws, key}
use Rattle.nk_gen.specs.Network.{branch, branches, chord_from, chords, home_of, homes, is_end, ring, ring_link, switches, tree, with_chord}
use Rattle.nk_gen.specs.Text.{cast_line, field_lines, generated, go_line, home_line, home_test, hop_line, kind_lines, let_line, link_line, link_lines, literal, literals, policy_lines, same_line, switch_line}
use Rattle.nk_notation.specs.Inward.{text_start}
use Rattle.nk_notation.specs.Lexemes.{begins_word}
use Rattle.nk_notation.proofs.WrittenForms.{un_not}
use Rattle.nk_notation_laws.specs.Laws.{IsLeftByIn, PrintedProgramsAreLeft}
use Rattle.nk_notation_laws.proofs.Pieces.{left_word}
use Rattle.nk_notation_laws.proofs.PlainTexts.{left_byte, left_equals, left_name, left_nothing, nothing_still}
use Rattle.nk_notation_laws.proofs.PrintedPolicies.{GoesOn, goes_nothing, plus_on, runs_link, runs_on, runs_set, runs_test}
use Rattle.nk_notation_laws.proofs.PrintedTables.{Free, Gap, Runs, ends_free, field_free, free_each, free_free, free_nothing, free_runs, gap_end, runs_gap, runs_name, runs_number}

-- ---- how large the numbers are

ranged : (a n top : ℕ) → a + n ≤ top + 1 → All (λ k. k ≤ top) (range_with_len a n)
ranged a zero top h = All-nil (λ (k : ℕ). k ≤ top)
ranged a (suc n) top h = All-cons (λ (k : ℕ). k ≤ top) a (range_with_len (a + 1) n) (omega (arith, h)) (ranged (a + 1) n top (omega (arith, h)))

numbered : (a n top : ℕ) (xs : List ℕ) → a + n ≤ top + 1 → All (λ s. s.0 ≤ top) (enumerate_from a (take n xs))
numbered a zero top xs h = All-nil (λ (s : ℕ × ℕ). s.0 ≤ top)
numbered a (suc n) top [] h = All-nil (λ (s : ℕ × ℕ). s.0 ≤ top)
numbered a (suc n) top (x ∷ xs) h =
    All-cons (λ (s : ℕ × ℕ). s.0 ≤ top) (a, x) (enumerate_from (a + 1) (take n xs)) (omega (arith, h)) (numbered (a + 1) n top xs (omega (arith, h)))

all_each : {A B : Type 0} (P : A → Type 0) (Q : B → Type 0) (f : A → List B) → ((x : A) → P x → All Q (f x)) → (xs : List A) → All P xs → All Q (flat_map f xs)
all_each P Q f g [] h = All-nil Q
all_each P Q f g (x ∷ xs) h = All-append Q (f x) (flat_map f xs) (g x (All-head P x xs h)) (all_each P Q f g xs (All-tail P x xs h))

-- what a function takes
abbrev Taken : {A B : Type 0} → (A → B) → Type 0
Taken {A} f = A

abbrev Link : Type 0
Link = Taken link_line

abbrev Home : Type 0
Home = Taken home_test

abbrev IsSmall : Link → Type 0
IsSmall l = (l.from_switch ≤ largest) × (l.from_port ≤ largest) × (l.to_switch ≤ largest) × (l.to_port ≤ largest)

ring_small : (size i : ℕ) → i ≤ 1000 → IsSmall (ring_link size i)
ring_small size i le = (omega (arith, le), omega arith, next (i == size), omega arith)
  where
    next : (t : Bool) → cond t 1 (i + 1) ≤ largest
    next true = omega arith
    next false = omega (arith, le)

ring_all : (size : ℕ) → size ≤ 1000 → All IsSmall (ring size)
ring_all size le =
    All-map IsSmall (ring_link size) (switches size)
    (All-weaker (λ (i : ℕ). i ≤ 1000) (λ i. IsSmall (ring_link size i)) (ring_small size) (switches size) (ranged 1 size 1000 (omega (arith, le))))

chord_small : (earlier : List Link) (i j : ℕ) → i ≤ largest → j ≤ largest → All IsSmall (chord_from earlier i j)
chord_small earlier i j li lj = there (i == j || is_end earlier j)
  where
    there : (t : Bool) → All IsSmall (cond t [] (record { from_switch = i; from_port = 3; to_switch = j; to_port = 4 } ∷ []))
    there true = All-nil IsSmall
    there false = All-cons IsSmall (record { from_switch = i; from_port = 3; to_switch = j; to_port = 4 }) [] (li, omega arith, lj, omega arith) (All-nil IsSmall)

chords_from : (size : ℕ) → 0 < size → size ≤ 1000 → (earlier : List Link) (ss : List (ℕ × ℕ)) → All IsSmall earlier → All (λ s. s.0 ≤ 1000) ss → All IsSmall (fold (with_chord size) earlier ss)
chords_from size lt le earlier [] h hs = h
chords_from size lt le earlier (s ∷ ss) h hs =
    let i : s.0 ≤ 1000 = All-head (λ (x : ℕ × ℕ). x.0 ≤ 1000) s ss hs in
    let below = mod_below s.1 size lt in
    chords_from size lt le (with_chord size earlier s) ss
    (All-append IsSmall earlier (chord_from earlier s.0 (1 + s.1 % size)) h (chord_small earlier s.0 (1 + s.1 % size) (omega (arith, i)) (omega (arith, below, le))))
    (All-tail (λ (x : ℕ × ℕ). x.0 ≤ 1000) s ss hs)

chords_all : (size seed : ℕ) → size ≤ 1000 → All IsSmall (chords size seed)
chords_all zero seed le = All-nil IsSmall
chords_all (suc n) seed le =
    chords_from (suc n) (omega arith) le [] (enumerate_from 1 (chord_draws (suc n) seed)) (All-nil IsSmall)
    (numbered 1 (suc n) 1000 (drop (suc n) (all_draws (suc n) seed)) (omega (arith, le)))

branch_small : (size i port j : ℕ) → i ≤ largest → port ≤ largest → j ≤ largest → All IsSmall (branch size i port j)
branch_small size i port j li lp lj = there (nat_le j size)
  where
    there : (t : Bool) → All IsSmall (cond t (record { from_switch = i; from_port = port; to_switch = j; to_port = 7 } ∷ []) [])
    there true = All-cons IsSmall (record { from_switch = i; from_port = port; to_switch = j; to_port = 7 }) [] (li, lp, lj, omega arith) (All-nil IsSmall)
    there false = All-nil IsSmall

branches_small : (size i : ℕ) → i ≤ 1000 → All IsSmall (branches size i)
branches_small size i le =
    All-append IsSmall (branch size i 5 (2 * i)) (branch size i 6 (2 * i + 1))
    (branch_small size i 5 (2 * i) (omega (arith, le)) (omega arith) (omega (arith, le))) (branch_small size i 6 (2 * i + 1) (omega (arith, le)) (omega arith) (omega (arith, le)))

tree_all : (size : ℕ) → size ≤ 1000 → All IsSmall (tree size)
tree_all size le = all_each (λ (i : ℕ). i ≤ 1000) IsSmall (branches size) (branches_small size) (switches size) (ranged 1 size 1000 (omega (arith, le)))

abbrev IsSmallHome : Home → Type 0
IsSmallHome h = (h.switch ≤ largest) × (h.destination ≤ largest)

home_small : (s : ℕ × ℕ) → s.0 ≤ 1000 → IsSmallHome (home_of s)
home_small s le = let below = mod_below s.1 1000 (omega arith) in (omega (arith, le), omega (arith, le, below))

homes_all : (size seed : ℕ) → size ≤ 1000 → All IsSmallHome (homes size seed)
homes_all size seed le =
    All-map IsSmallHome home_of (enumerate_from 1 (home_draws size seed))
    (All-weaker (λ (s : ℕ × ℕ). s.0 ≤ 1000) (λ s. IsSmallHome (home_of s)) home_small (enumerate_from 1 (home_draws size seed)) (numbered 1 size 1000 (all_draws size seed) (omega (arith, le))))

draw_small : (seed n i : ℕ) → slice_index (draws seed n) i ≤ largest
draw_small seed zero i = omega arith
draw_small seed (suc n) zero = let below = mod_below (48271 * seed) 2147483647 (omega arith) in omega (arith, below)
draw_small seed (suc n) (suc i) = draw_small ((48271 * seed) % 2147483647) n i

-- ---- the pieces of the text

-- bytes that belong to no word
marks : (w : List ℕ) → list_all (λ b. not (b == 35) && not (begins_word b)) w ≡ true → Free w
marks [] h = free_nothing
marks (b ∷ w) h = λ rest next.
    let all = both_pass (not (b == 35) && not (begins_word b)) (list_all (λ x. not (x == 35) && not (begins_word x)) w) h in
    let here = both_pass (not (b == 35)) (not (begins_word b)) all.0 in
    left_byte b (w ++ rest) (un_not (b == 35) here.0) (un_not (begins_word b) here.1) (marks w all.1 rest next)

gap_semicolon : Gap (codes ";")
gap_semicolon = (marks (codes ";") refl, λ rest. refl)

gap_equals : Gap (codes " = ")
gap_equals = ((λ rest next. left_byte 32 (61 ∷ 32 ∷ rest) refl refl (left_equals [] (32 ∷ rest) refl nothing_still refl (left_byte 32 rest refl refl next))), λ rest. refl)

-- a name and what ends it
said : (w g : List ℕ) → IsName w → Gap g → Free (w ++ g)
said w g name gap = runs_gap w g (runs_name w name) gap

let_free : (name policy : List ℕ) → IsName name → Runs policy → Free (let_line name policy)
let_free name policy h runs =
    let front = codes "let " ++ name in
    runs_gap (front ++ codes " = " ++ policy) (codes "\n")
    (free_runs (front ++ codes " = ") policy (runs_gap front (codes " = ") (free_runs (codes "let ") name (left_word (codes "let") (refl, refl) refl) (runs_name name h)) gap_equals) runs)
    gap_end

more_on : {A : Type 0} (P : A → Type 0) (f : A → List ℕ) → ((x : A) → P x → Runs (f x)) → (xs : List A) → All P xs → GoesOn (flat_map (λ y. codes " + " ++ f y) xs)
more_on P f g [] h = goes_nothing
more_on P f g (x ∷ xs) h = plus_on (f x) (flat_map (λ y. codes " + " ++ f y) xs) (g x (All-head P x xs h)) (more_on P f g xs (All-tail P x xs h))

sum_runs : {A : Type 0} (P : A → Type 0) (f : A → List ℕ) → ((x : A) → P x → Runs (f x)) → (xs : List A) → All P xs → Runs (join_by f (codes " + ") xs)
sum_runs P f g [] h = λ rest stops next. next
sum_runs P f g (x ∷ xs) h = runs_on (f x) (flat_map (λ y. codes " + " ++ f y) xs) (g x (All-head P x xs h)) (more_on P f g xs (All-tail P x xs h))

literal_runs : (l : Link) → IsSmall l → Runs (literal l)
literal_runs l h = runs_link l.from_switch l.from_port l.to_switch l.to_port h.0 h.1 h.2 h.3

literals_run : (ls : List Link) → All IsSmall ls → Runs (literals ls)
literals_run [] h = λ rest stops next. left_name (codes "drop") rest (refl, refl) refl stops next
literals_run (l ∷ ls) h = sum_runs IsSmall literal literal_runs (l ∷ ls) h

link_small : (l : Link) → IsSmall l → Free (link_line l)
link_small l h = ends_free l.from_switch l.from_port l.to_switch l.to_port h.0 h.1 h.2 h.3

switch_name : IsName (codes "sw")
switch_name = ((refl, refl), refl)

port_name : IsName (codes "pt")
port_name = ((refl, refl), refl)

home_runs : (h : Home) → IsSmallHome h → Runs (home_test h)
home_runs h small =
    let front = codes "sw=" ++ decimal h.switch in
    let there = runs_test (codes "dst") h.destination ((refl, refl), refl) small.1 in
    subst Runs (sym (again front (decimal h.destination))) (free_runs (front ++ codes ";") (codes "dst=" ++ decimal h.destination) (runs_gap front (codes ";") (runs_test (codes "sw") h.switch switch_name small.0) gap_semicolon) there)
  where
    again : (v d : List ℕ) → v ++ codes ";dst=" ++ d ≡ v ++ codes ";" ++ (codes "dst=" ++ d)
    again v d = append_assoc v (codes ";dst=") d ∙ sym (append_assoc v (codes ";") (codes "dst=" ++ d))

switch_free : (i : ℕ) → i ≤ 1000 → Free (switch_line i)
unfolding digits
switch_free i le =
    let front = codes "switch " ++ decimal i in
    runs_gap front (codes " ports 1,2,3,4,5,6,7,9\n") (free_runs (codes "switch ") (decimal i) (left_word (codes "switch") (refl, refl) refl) (runs_number i (omega (arith, le)))) (ports, λ rest. refl)
  where
    one : (n : ℕ) → n ≤ largest → Free (decimal n ++ codes ",")
    one n small = runs_gap (decimal n) (codes ",") (runs_number n small) (marks (codes ",") refl, λ rest. refl)

    ports : Free (codes " ports 1,2,3,4,5,6,7,9\n")
    ports =
        free_free (codes " ports ") (codes "1,2,3,4,5,6,7,9\n")
        (free_free (codes " ") (codes "ports ") (marks (codes " ") refl) (left_word (codes "ports") (refl, refl) refl))
        (free_free (codes "1,") (codes "2,3,4,5,6,7,9\n") (one 1 (omega arith))
        (free_free (codes "2,") (codes "3,4,5,6,7,9\n") (one 2 (omega arith))
        (free_free (codes "3,") (codes "4,5,6,7,9\n") (one 3 (omega arith))
        (free_free (codes "4,") (codes "5,6,7,9\n") (one 4 (omega arith))
        (free_free (codes "5,") (codes "6,7,9\n") (one 5 (omega arith))
        (free_free (codes "6,") (codes "7,9\n") (one 6 (omega arith))
        (free_free (codes "7,") (codes "9\n") (one 7 (omega arith)) (runs_gap (codes "9") (codes "\n") (runs_number 9 (omega arith)) gap_end))))))))

-- the lines of the fields and of the tag
fields_free : Free field_lines
unfolding digits
fields_free =
    free_free (codes "field dst 281474976710655\n") (codes "field key 281474976710655\nfield vlan 65535\ntag vlan\n") (field_free (codes "dst") 281474976710655 ((refl, refl), refl) (omega arith))
    (free_free (codes "field key 281474976710655\n") (codes "field vlan 65535\ntag vlan\n") (field_free (codes "key") 281474976710655 ((refl, refl), refl) (omega arith))
    (free_free (codes "field vlan 65535\n") (codes "tag vlan\n") (field_free (codes "vlan") 65535 ((refl, refl), refl) (omega arith))
    (free_free (codes "tag ") (codes "vlan\n") (left_word (codes "tag") (refl, refl) refl) (said (codes "vlan") (codes "\n") ((refl, refl), refl) gap_end))))

-- ---- the policies

home_name : IsName (codes "home")
home_name = ((refl, refl), refl)

hop_name : IsName (codes "hop")
hop_name = ((refl, refl), refl)

set_port : (n : ℕ) (g : List ℕ) → n ≤ largest → Gap g → Free (codes "pt:=" ++ decimal n ++ g)
set_port n g le gap = runs_gap (codes "pt:=" ++ decimal n) g (runs_set (codes "pt") n port_name le) gap

test_port : (n : ℕ) → n ≤ largest → Free (codes "pt=" ++ decimal n ++ codes ";")
test_port n le = runs_gap (codes "pt=" ++ decimal n) (codes ";") (runs_test (codes "pt") n port_name le) gap_semicolon

gap_plus : Gap (codes " + ")
gap_plus = (marks (codes " + ") refl, λ rest. refl)

hop_free : Free hop_line
unfolding digits
hop_free =
    let_free (codes "hop") (codes "pt:=1;ring + pt:=3;chord") hop_name
    (free_runs (codes "pt:=1;ring + pt:=3;") (codes "chord")
    (free_free (codes "pt:=1;") (codes "ring + pt:=3;") (set_port 1 (codes ";") (omega arith) gap_semicolon)
    (free_free (codes "ring + ") (codes "pt:=3;") (said (codes "ring") (codes " + ") ((refl, refl), refl) gap_plus) (set_port 3 (codes ";") (omega arith) gap_semicolon)))
    (runs_name (codes "chord") ((refl, refl), refl)))

-- where the hops end
at_home : Free (codes "home;pt:=9\n")
unfolding digits
at_home = free_free (codes "home;") (codes "pt:=9\n") (said (codes "home") (codes ";") home_name gap_semicolon) (set_port 9 (codes "\n") (omega arith) gap_end)

home_hop : (g : List ℕ) → Gap g → Free (codes "home;hop" ++ g)
home_hop g gap = free_free (codes "home;") (codes "hop" ++ g) (said (codes "home") (codes ";") home_name gap_semicolon) (said (codes "hop") g hop_name gap)

hops : Free (codes ";(~home;hop)*;home;pt:=9\n")
hops =
    free_free (codes ";(~") (codes "home;hop)*;home;pt:=9\n") (marks (codes ";(~") refl)
    (free_free (codes "home;hop)*;") (codes "home;pt:=9\n") (home_hop (codes ")*;") (marks (codes ")*;") refl, λ rest. refl)) at_home)

same_hops : Free (codes ";(id + ~home;hop;(~home;hop)*);home;pt:=9\n")
same_hops =
    free_free (codes ";(") (codes "id + ~home;hop;(~home;hop)*);home;pt:=9\n") (marks (codes ";(") refl)
    (free_free (codes "id + ~") (codes "home;hop;(~home;hop)*);home;pt:=9\n")
    (runs_gap (codes "id") (codes " + ~") (λ rest stops next. left_name (codes "id") rest (refl, refl) refl stops next) (marks (codes " + ~") refl, λ rest. refl))
    (free_free (codes "home;hop;(~") (codes "home;hop)*);home;pt:=9\n") (home_hop (codes ";(~") (marks (codes ";(~") refl, λ rest. refl))
    (free_free (codes "home;hop)*);") (codes "home;pt:=9\n") (home_hop (codes ")*);") (marks (codes ")*);") refl, λ rest. refl)) at_home)))

-- a policy that sets the key
keyed : (name tail : List ℕ) (k : ℕ) → IsName name → k ≤ largest → Gap tail → Free (codes "let " ++ name ++ codes " = " ++ (codes "pt=9;key:=" ++ decimal k ++ tail))
unfolding digits
keyed name tail k h le gap =
    let front = codes "let " ++ name in
    free_free (front ++ codes " = ") (codes "pt=9;key:=" ++ decimal k ++ tail)
    (runs_gap front (codes " = ") (free_runs (codes "let ") name (left_word (codes "let") (refl, refl) refl) (runs_name name h)) gap_equals)
    (free_free (codes "pt=9;") (codes "key:=" ++ decimal k ++ tail) (test_port 9 (omega arith))
    (runs_gap (codes "key:=" ++ decimal k) tail (runs_set (codes "key") k ((refl, refl), refl) le) gap))

go_free : (k : ℕ) → k ≤ largest → Free (go_line k)
go_free k le = keyed (codes "go") (codes ";(~home;hop)*;home;pt:=9\n") k ((refl, refl), refl) le (hops, λ rest. refl)

same_free : (k : ℕ) → k ≤ largest → Free (same_line k)
same_free k le = keyed (codes "same") (codes ";(id + ~home;hop;(~home;hop)*);home;pt:=9\n") k ((refl, refl), refl) le (same_hops, λ rest. refl)

cast_free : Free cast_line
unfolding digits
cast_free =
    let tree_name : IsName (codes "tree") = ((refl, refl), refl) in
    let_free (codes "cast") (codes "sw=1;pt=9;(pt:=5;tree + pt:=6;tree)*;pt:=9") ((refl, refl), refl)
    (free_runs (codes "sw=1;pt=9;(pt:=5;tree + pt:=6;tree)*;") (codes "pt:=9")
    (free_free (codes "sw=1;") (codes "pt=9;(pt:=5;tree + pt:=6;tree)*;") (runs_gap (codes "sw=1") (codes ";") (runs_test (codes "sw") 1 switch_name (omega arith)) gap_semicolon)
    (free_free (codes "pt=9;") (codes "(pt:=5;tree + pt:=6;tree)*;") (test_port 9 (omega arith))
    (free_free (codes "(") (codes "pt:=5;tree + pt:=6;tree)*;") (marks (codes "(") refl)
    (free_free (codes "pt:=5;") (codes "tree + pt:=6;tree)*;") (set_port 5 (codes ";") (omega arith) gap_semicolon)
    (free_free (codes "tree + ") (codes "pt:=6;tree)*;") (said (codes "tree") (codes " + ") tree_name gap_plus)
    (free_free (codes "pt:=6;") (codes "tree)*;") (set_port 6 (codes ";") (omega arith) gap_semicolon)
    (said (codes "tree") (codes ")*;") tree_name (marks (codes ")*;") refl, λ rest. refl))))))))
    (runs_set (codes "pt") 9 port_name (omega arith)))

policies_free : (k : ℕ) → k ≤ largest → Free (policy_lines k)
policies_free k le =
    free_free (hop_line ++ go_line k ++ same_line k) cast_line (free_free (hop_line ++ go_line k) (same_line k) (free_free hop_line (go_line k) hop_free (go_free k le)) (same_free k le)) cast_free

-- ---- the whole text

links_free : (size seed : ℕ) → size ≤ 1000 → Free (link_lines size seed)
links_free size seed le =
    free_free (flat_map link_line (ring size) ++ flat_map link_line (chords size seed)) (flat_map link_line (tree size))
    (free_free (flat_map link_line (ring size)) (flat_map link_line (chords size seed)) (free_each IsSmall link_line link_small (ring size) (ring_all size le))
    (free_each IsSmall link_line link_small (chords size seed) (chords_all size seed le)))
    (free_each IsSmall link_line link_small (tree size) (tree_all size le))

kinds_free : (size seed : ℕ) → size ≤ 1000 → Free (kind_lines size seed)
kinds_free size seed le =
    let a = let_line (codes "ring") (literals (ring size)) in
    let b = let_line (codes "chord") (literals (chords size seed)) in
    let c = let_line (codes "tree") (literals (tree size)) in
    free_free (a ++ b) c
    (free_free a b (let_free (codes "ring") (literals (ring size)) ((refl, refl), refl) (literals_run (ring size) (ring_all size le)))
    (let_free (codes "chord") (literals (chords size seed)) ((refl, refl), refl) (literals_run (chords size seed) (chords_all size seed le))))
    (let_free (codes "tree") (literals (tree size)) ((refl, refl), refl) (literals_run (tree size) (tree_all size le)))

program_free : (size seed : ℕ) → size ≤ 1000 → Free (generated size seed)
program_free size seed le =
    let a = flat_map switch_line (switches size) in
    let b = link_lines size seed in
    let c = home_line size seed in
    let d = kind_lines size seed in
    let k = key size seed in
    free_free (field_lines ++ a ++ b ++ c ++ d) (policy_lines k)
    (free_free (field_lines ++ a ++ b ++ c) d
    (free_free (field_lines ++ a ++ b) c
    (free_free (field_lines ++ a) b
    (free_free field_lines a fields_free (free_each (λ (i : ℕ). i ≤ 1000) switch_line switch_free (switches size) (ranged 1 size 1000 (omega (arith, le)))))
    (links_free size seed le))
    (let_free (codes "home") (join_by home_test (codes " + ") (homes size seed)) home_name (sum_runs IsSmallHome home_test home_runs (homes size seed) (homes_all size seed le))))
    (kinds_free size seed le))
    (policies_free k (draw_small seed (2 * size + 1) (2 * size)))

pub programs_left : PrintedProgramsAreLeft
programs_left = λ size seed le. subst IsLeftByIn (append-nil (generated size seed)) (program_free size seed le [] left_nothing text_start refl)
