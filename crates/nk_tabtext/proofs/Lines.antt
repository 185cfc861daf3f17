-- The lexemes of the printed text, line by line: their bytes, that they stand apart, and what they spell.
use Rattle.std.proofs.Common.{◌≡◌, ◌≤◌, ◌+◌, ℕ, List, [], ◌∷◌, ◌++◌, Bool, true, false, length, refl, sym, ◌∙◌, ap, append_assoc, decimal, codes, map}
use Rattle.std.specs.Prelude.{⊤, if◌then◌else◌, Option, Some, None}
use Rattle.std.specs.List.{flat_map, AllByRecursion}
use Rattle.nk_lex.specs.declared.kind.Kind.TheVariants as kind
use Rattle.nk_lex.specs.Kinds.{kind_of_name}
use Rattle.nk_lex.specs.Lex.{largest}
use Rattle.nk_lex.specs.Spelling.{Sign, Lexeme, IsName, IsApart, AreSeparate, sign_bytes, sign_kind, text_of, tokens_from}
use Rattle.nk_field.specs.Packet.{FieldTable}
use Rattle.nk_table.specs.declared.Bucket.{Bucket}
use Rattle.nk_table.specs.declared.Exit.{Exit}
use Rattle.nk_table.specs.declared.Exit.TheVariants as exit
use Rattle.nk_lex.specs.declared.ident.Ident.{Ident}
use Rattle.nk_lex.specs.declared.ident.Number.{Number}
use Rattle.nk_tabgrammar.specs.declared.written.Pair.{Pair}
use Rattle.nk_tabgrammar.specs.declared.written.WrittenMatch.{WrittenMatch}
use Rattle.nk_tabgrammar.specs.declared.written.Way.{Way}
use Rattle.nk_tabgrammar.specs.declared.written.Way.TheVariants as way
use Rattle.nk_tabgrammar.specs.declared.written.WrittenBucket.{WrittenBucket}
use Rattle.nk_tabgrammar.specs.Terminal.{Terminal, name, number, mark, table_terminal_from}
use Rattle.nk_tabgrammar.specs.Spelling.{spell_length, spell_match, spell_set, way_token, spell_bucket}
use Rattle.nk_tabtext.specs.Text.{is_tag, is_exact, name_of, length_text, match_text, set_text, where_same, matches_text, sets_text, exit_text, bucket_text}
use Rattle.nk_tabgrammar.specs.Answer.{table_terminals}
use Rattle.nk_tabtext.proofs.Keyed.{kept_where, set_field, sets_where, matches_where, all_where}

-- ---- lists one after the other

module _ {X : Type 0} where
  pub left3 : (a b c r : List X) → ((a ++ b) ++ c) ++ r ≡ a ++ (b ++ (c ++ r))
  left3 a b c r = append_assoc (a ++ b) c r ∙ append_assoc a b (c ++ r)

  pub left4 : (a b c d r : List X) → (((a ++ b) ++ c) ++ d) ++ r ≡ a ++ (b ++ (c ++ (d ++ r)))
  left4 a b c d r = append_assoc ((a ++ b) ++ c) d r ∙ left3 a b c (d ++ r)

  pub left5 : (a b c d e r : List X) → ((((a ++ b) ++ c) ++ d) ++ e) ++ r ≡ a ++ (b ++ (c ++ (d ++ (e ++ r))))
  left5 a b c d e r = append_assoc (((a ++ b) ++ c) ++ d) e r ∙ left4 a b c d (e ++ r)

  pub left6 : (a b c d e f r : List X) → (((((a ++ b) ++ c) ++ d) ++ e) ++ f) ++ r ≡ a ++ (b ++ (c ++ (d ++ (e ++ (f ++ r)))))
  left6 a b c d e f r = append_assoc ((((a ++ b) ++ c) ++ d) ++ e) f r ∙ left5 a b c d e (f ++ r)

  pub left8 : (a b c d e f g h r : List X) → (((((((a ++ b) ++ c) ++ d) ++ e) ++ f) ++ g) ++ h) ++ r
      ≡ a ++ (b ++ (c ++ (d ++ (e ++ (f ++ (g ++ (h ++ r)))))))
  left8 a b c d e f g h r =
      append_assoc ((((((a ++ b) ++ c) ++ d) ++ e) ++ f) ++ g) h r
      ∙ append_assoc (((((a ++ b) ++ c) ++ d) ++ e) ++ f) g (h ++ r) ∙ left6 a b c d e f (g ++ (h ++ r))

  pub left9 : (a b c d e f g h i r : List X) → ((((((((a ++ b) ++ c) ++ d) ++ e) ++ f) ++ g) ++ h) ++ i) ++ r
      ≡ a ++ (b ++ (c ++ (d ++ (e ++ (f ++ (g ++ (h ++ (i ++ r))))))))
  left9 a b c d e f g h i r = append_assoc (((((((a ++ b) ++ c) ++ d) ++ e) ++ f) ++ g) ++ h) i r ∙ left8 a b c d e f g h (i ++ r)

-- ---- terminals of lexemes

-- the terminals of lexemes, the first one on this line
abbrev pub terminals_on : ℕ → List Lexeme → List Terminal
terminals_on line [] = []
terminals_on line (Lexeme.space ∷ xs) = terminals_on line xs
terminals_on line (Lexeme.line_feed ∷ xs) = terminals_on (line + 1) xs
terminals_on line (Lexeme.word w ∷ xs) = table_terminal_from (kind_of_name w) line 0 w ∷ terminals_on line xs
terminals_on line (Lexeme.numeral n ∷ xs) = table_terminal_from kind.Number line n [] ∷ terminals_on line xs
terminals_on line (Lexeme.sign s ∷ xs) = table_terminal_from (sign_kind s) line 0 [] ∷ terminals_on line xs

pub of_tokens : (xs : List Lexeme) (line at : ℕ) → table_terminals (tokens_from line at xs) ≡ terminals_on line xs
of_tokens [] line at = refl
of_tokens (Lexeme.space ∷ xs) line at = of_tokens xs line (at + 1)
of_tokens (Lexeme.line_feed ∷ xs) line at = of_tokens xs (line + 1) (at + 1)
of_tokens (Lexeme.word w ∷ xs) line at = ap (λ l. table_terminal_from (kind_of_name w) line 0 w ∷ l) (of_tokens xs line (at + length w))
of_tokens (Lexeme.numeral n ∷ xs) line at = ap (λ l. table_terminal_from kind.Number line n [] ∷ l) (of_tokens xs line (at + length (decimal n)))
of_tokens (Lexeme.sign s ∷ xs) line at = ap (λ l. table_terminal_from (sign_kind s) line 0 [] ∷ l) (of_tokens xs line (at + length (sign_bytes s)))

-- a name and a number on a line
abbrev pub word_on : ℕ → List ℕ → Ident
word_on line w = record { text = w; line = line }

abbrev pub number_on : ℕ → ℕ → Number
number_on line n = record { value = n; line = line }

-- a name's terminal
pub named : (line : ℕ) (w : List ℕ) → IsName w → table_terminal_from (kind_of_name w) line 0 w ≡ name (word_on line w)
named line w h = ap (λ k. table_terminal_from k line 0 w) h.1

-- the first terminal and the others
pub put : (x y : Terminal) (xs ys : List Terminal) → x ≡ y → xs ≡ ys → x ∷ xs ≡ y ∷ ys
put x y xs ys e f = ap (λ z. z ∷ xs) e ∙ ap (λ l. y ∷ l) f

-- ---- matches and assignments

-- an assignment that a text can write
abbrev pub IsShown : FieldTable → ℕ × ℕ → Type 0
IsShown fs m = IsName (name_of fs m.0) × (m.1 ≤ largest)

abbrev pub AreShown : FieldTable → List (ℕ × ℕ) → Type 0
AreShown fs ss = AllByRecursion (IsShown fs) ss

-- as it is written
abbrev pub written_pair : FieldTable → ℕ → ℕ × ℕ → Pair
written_pair fs line m = record { name = word_on line (name_of fs m.0); number = number_on line m.1 }

-- a match that a text can write
abbrev pub IsMatchShown : FieldTable → ℕ × ℕ × ℕ → Type 0
IsMatchShown fs m = IsName (name_of fs m.0) × (m.1 ≤ largest) × (m.2 ≤ largest)

abbrev pub AreMatchesShown : FieldTable → List (ℕ × ℕ × ℕ) → Type 0
AreMatchesShown fs ms = AllByRecursion (IsMatchShown fs) ms

-- as it is written, its length where not all digits count
abbrev pub written_length : Bool → ℕ → ℕ → Option Number
written_length true line n = None
written_length false line n = Some (number_on line n)

abbrev pub written_match : FieldTable → ℕ → ℕ × ℕ × ℕ → WrittenMatch
written_match fs line m = record {
  name = word_on line (name_of fs m.0);
  number = number_on line m.1;
  length = written_length (is_exact fs m) line m.2;
}

-- their lexemes
abbrev lex_length : Bool → ℕ → List Lexeme → List Lexeme
lex_length true n r = r
lex_length false n r = Lexeme.sign Sign.slash ∷ Lexeme.numeral n ∷ r

abbrev pub lex_matches : FieldTable → List (ℕ × ℕ × ℕ) → List Lexeme → List Lexeme
lex_matches fs [] r = r
lex_matches fs (m ∷ ms) r =
    Lexeme.word (name_of fs m.0) ∷ Lexeme.sign Sign.equal ∷ Lexeme.numeral m.1
    ∷ lex_length (is_exact fs m) m.2 (Lexeme.space ∷ lex_matches fs ms r)

abbrev pub lex_sets : FieldTable → List (ℕ × ℕ) → List Lexeme → List Lexeme
lex_sets fs [] r = r
lex_sets fs (m ∷ ms) r =
    Lexeme.word (name_of fs m.0) ∷ Lexeme.sign Sign.becomes ∷ Lexeme.numeral m.1 ∷ Lexeme.space ∷ lex_sets fs ms r

-- their bytes
length_bytes : (b : Bool) (n : ℕ) (r : List Lexeme) → text_of (lex_length b n r) ≡ (if b then [] else codes "/" ++ decimal n) ++ text_of r
length_bytes true n r = refl
length_bytes false n r = sym (append_assoc (codes "/") (decimal n) (text_of r))

pub matches_bytes : (fs : FieldTable) (flag : Bool) (ms : List (ℕ × ℕ × ℕ)) (r : List Lexeme)
    → text_of (lex_matches fs (matches_where fs flag ms) r) ≡ matches_text fs flag ms ++ text_of r
matches_bytes fs flag [] r = refl
matches_bytes fs flag (m ∷ ms) r = by (is_tag fs m.0) flag (matches_bytes fs flag ms r)
  where
    rest : List ℕ
    rest = matches_text fs flag ms

    there : text_of (lex_matches fs (matches_where fs flag ms) r) ≡ rest ++ text_of r
        → text_of (lex_matches fs (m ∷ matches_where fs flag ms) r) ≡ (match_text fs m ++ rest) ++ text_of r
    there e =
        ap (λ l. name_of fs m.0 ++ (codes "=" ++ (decimal m.1 ++ l)))
        (length_bytes (is_exact fs m) m.2 (Lexeme.space ∷ lex_matches fs (matches_where fs flag ms) r) ∙ ap (λ l. length_text fs m ++ (codes " " ++ l)) e)
        ∙ sym (left5 (name_of fs m.0) (codes "=") (decimal m.1) (length_text fs m) (codes " ") (rest ++ text_of r))
        ∙ sym (append_assoc (match_text fs m) rest (text_of r))

    by : (a b : Bool) → text_of (lex_matches fs (matches_where fs flag ms) r) ≡ rest ++ text_of r
        → text_of (lex_matches fs (kept_where a b m (matches_where fs flag ms)) r) ≡ (where_same a b (match_text fs m) ++ rest) ++ text_of r
    by true true e = there e
    by true false e = e
    by false true e = e
    by false false e = there e

sets_bytes : (fs : FieldTable) (flag : Bool) (ms : List (ℕ × ℕ)) (r : List Lexeme)
    → text_of (lex_sets fs (sets_where fs flag ms) r) ≡ sets_text fs flag ms ++ text_of r
sets_bytes fs flag [] r = refl
sets_bytes fs flag (m ∷ ms) r = by (is_tag fs m.0) flag (sets_bytes fs flag ms r)
  where
    rest : List ℕ
    rest = sets_text fs flag ms

    there : text_of (lex_sets fs (sets_where fs flag ms) r) ≡ rest ++ text_of r
        → text_of (lex_sets fs (m ∷ sets_where fs flag ms) r) ≡ (set_text fs m ++ rest) ++ text_of r
    there e =
        ap (λ l. name_of fs m.0 ++ (codes ":=" ++ (decimal m.1 ++ (codes " " ++ l)))) e
        ∙ sym (left4 (name_of fs m.0) (codes ":=") (decimal m.1) (codes " ") (rest ++ text_of r))
        ∙ sym (append_assoc (set_text fs m) rest (text_of r))

    by : (a b : Bool) → text_of (lex_sets fs (sets_where fs flag ms) r) ≡ rest ++ text_of r
        → text_of (lex_sets fs (kept_where a b m (sets_where fs flag ms)) r) ≡ (where_same a b (set_text fs m) ++ rest) ++ text_of r
    by true true e = there e
    by true false e = e
    by false true e = e
    by false false e = there e

-- a space may stand before anything
pub space_apart : (r : List Lexeme) → IsApart Lexeme.space r
space_apart [] = tt
space_apart (y ∷ ys) = refl

-- and a line feed
pub feed_apart : (r : List Lexeme) → IsApart Lexeme.line_feed r
feed_apart [] = tt
feed_apart (y ∷ ys) = refl

-- and a bracket that opens
open_apart : (r : List Lexeme) → IsApart (Lexeme.sign Sign.open_bracket) r
open_apart [] = tt
open_apart (Lexeme.space ∷ ys) = refl
open_apart r = refl

-- they stand apart
value_apart : (b : Bool) (v n : ℕ) (r : List Lexeme) → IsApart (Lexeme.numeral v) (lex_length b n (Lexeme.space ∷ r))
value_apart true v n r = refl
value_apart false v n r = refl

length_apart : (b : Bool) (n : ℕ) (r : List Lexeme) → n ≤ largest → AreSeparate r → AreSeparate (lex_length b n (Lexeme.space ∷ r))
length_apart true n r h a = (tt, space_apart r, a)
length_apart false n r h a = (tt, refl, (h, refl, (tt, space_apart r, a)))

pub matches_apart : (fs : FieldTable) (ms : List (ℕ × ℕ × ℕ)) (r : List Lexeme) → AreMatchesShown fs ms → AreSeparate r → AreSeparate (lex_matches fs ms r)
matches_apart fs [] r h a = a
matches_apart fs (m ∷ ms) r h a = (
  h.0.0.0,
  refl,
  (
    tt,
    refl,
    (
      h.0.1,
      value_apart (is_exact fs m) m.1 m.2 (lex_matches fs ms r),
      length_apart (is_exact fs m) m.2 (lex_matches fs ms r) h.0.2 (matches_apart fs ms r h.1 a),
    ),
  ),
)

sets_apart : (fs : FieldTable) (ms : List (ℕ × ℕ)) (r : List Lexeme) → AreShown fs ms → AreSeparate r → AreSeparate (lex_sets fs ms r)
sets_apart fs [] r h a = a
sets_apart fs (m ∷ ms) r h a =
    (h.0.0.0, refl, (tt, refl, (h.0.1, refl, (tt, space_apart (lex_sets fs ms r), sets_apart fs ms r h.1 a))))

-- they spell
length_spelled : (b : Bool) (line n : ℕ) (r : List Lexeme)
    → terminals_on line (lex_length b n (Lexeme.space ∷ r)) ≡ spell_length (written_length b line n) ++ terminals_on line r
length_spelled true line n r = refl
length_spelled false line n r = refl

pub matches_spelled : (fs : FieldTable) (line : ℕ) (ms : List (ℕ × ℕ × ℕ)) (r : List Lexeme) → AreMatchesShown fs ms
    → terminals_on line (lex_matches fs ms r) ≡ flat_map spell_match (map (written_match fs line) ms) ++ terminals_on line r
matches_spelled fs line [] r h = refl
matches_spelled fs line (m ∷ ms) r h =
    let l = spell_length (written_length (is_exact fs m) line m.2) in
    let rest = flat_map spell_match (map (written_match fs line) ms) in
    put _ _ _ _ (named line (name_of fs m.0) h.0.0)
    (ap (λ x. mark kind.Equal ∷ number (number_on line m.1) ∷ x)
    (length_spelled (is_exact fs m) line m.2 (lex_matches fs ms r)
    ∙ ap (λ x. l ++ x) (matches_spelled fs line ms r h.1)
    ∙ sym (append_assoc l rest (terminals_on line r))))

sets_spelled : (fs : FieldTable) (line : ℕ) (ms : List (ℕ × ℕ)) (r : List Lexeme) → AreShown fs ms
    → terminals_on line (lex_sets fs ms r) ≡ flat_map spell_set (map (written_pair fs line) ms) ++ terminals_on line r
sets_spelled fs line [] r h = refl
sets_spelled fs line (m ∷ ms) r h =
    put _ _ _ _ (named line (name_of fs m.0) h.0.0)
    (ap (λ l. mark kind.Assign ∷ number (number_on line m.1) ∷ l) (sets_spelled fs line ms r h.1))

-- ---- buckets

-- a bucket that a text can write
abbrev pub IsExitShown : Exit → Type 0
IsExitShown exit.Back = ⊤
IsExitShown (exit.Port n) = n ≤ largest

abbrev pub IsBucketShown : FieldTable → Bucket → Type 0
IsBucketShown fs b = AreShown fs b.sets × IsExitShown b.exit

-- the pairs in the order of a bucket's text
abbrev pub bucket_order : FieldTable → List (ℕ × ℕ) → List (ℕ × ℕ)
bucket_order fs ss = sets_where fs false ss ++ sets_where fs true ss

abbrev pub written_way : ℕ → Exit → Way
written_way line exit.Back = way.Back
written_way line (exit.Port n) = way.Port (number_on line n)

abbrev pub written_bucket : FieldTable → ℕ → Bucket → WrittenBucket
written_bucket fs line b = record { sets = map (written_pair fs line) (bucket_order fs b.sets); way = written_way line b.exit }

-- an exit and the bracket after it
abbrev lex_exit : Exit → List Lexeme → List Lexeme
lex_exit exit.Back r = Lexeme.word (codes "out") ∷ Lexeme.space ∷ Lexeme.word (codes "in") ∷ Lexeme.sign Sign.close_bracket ∷ r
lex_exit (exit.Port n) r = Lexeme.word (codes "out") ∷ Lexeme.space ∷ Lexeme.numeral n ∷ Lexeme.sign Sign.close_bracket ∷ r

abbrev pub lex_bucket : FieldTable → Bucket → List Lexeme → List Lexeme
lex_bucket fs b r =
    Lexeme.sign Sign.open_bracket ∷ lex_sets fs (sets_where fs false b.sets) (lex_sets fs (sets_where fs true b.sets) (lex_exit b.exit r))

exit_bytes : (e : Exit) (r : List Lexeme) → text_of (lex_exit e r) ≡ exit_text e ++ (codes "]" ++ text_of r)
exit_bytes exit.Back r = refl
exit_bytes (exit.Port n) r = sym (append_assoc (codes "out ") (decimal n) (codes "]" ++ text_of r))

pub bucket_bytes : (fs : FieldTable) (b : Bucket) (r : List Lexeme) → text_of (lex_bucket fs b r) ≡ bucket_text fs b ++ text_of r
bucket_bytes fs b r =
    ap (λ l. codes "[" ++ l) (sets_bytes fs false b.sets (lex_sets fs (sets_where fs true b.sets) (lex_exit b.exit r))
    ∙ ap (λ l. sets_text fs false b.sets ++ l) (sets_bytes fs true b.sets (lex_exit b.exit r)
    ∙ ap (λ l. sets_text fs true b.sets ++ l) (exit_bytes b.exit r)))
    ∙ sym (left5 (codes "[") (sets_text fs false b.sets) (sets_text fs true b.sets) (exit_text b.exit) (codes "]") (text_of r))

-- nothing makes a bracket that closes longer
close_apart : (r : List Lexeme) → IsApart (Lexeme.sign Sign.close_bracket) r
close_apart [] = tt
close_apart (Lexeme.space ∷ ys) = refl
close_apart r = refl

exit_apart : (e : Exit) (r : List Lexeme) → IsExitShown e → AreSeparate r → AreSeparate (lex_exit e r)
exit_apart exit.Back r h a = ((refl, refl), refl, (tt, refl, ((refl, refl), refl, (tt, close_apart r, a))))
exit_apart (exit.Port n) r h a = ((refl, refl), refl, (tt, refl, (h, refl, (tt, close_apart r, a))))

pub bucket_apart : (fs : FieldTable) (b : Bucket) (r : List Lexeme) → IsBucketShown fs b → AreSeparate r → AreSeparate (lex_bucket fs b r)
bucket_apart fs b r h a = (
  tt,
  open_apart (lex_sets fs (sets_where fs false b.sets) (lex_sets fs (sets_where fs true b.sets) (lex_exit b.exit r))),
  sets_apart fs (sets_where fs false b.sets) (lex_sets fs (sets_where fs true b.sets) (lex_exit b.exit r)) (all_where set_field (IsShown fs) fs false b.sets h.0)
      (sets_apart fs (sets_where fs true b.sets) (lex_exit b.exit r) (all_where set_field (IsShown fs) fs true b.sets h.0) (exit_apart b.exit r h.1 a)),
)

exit_spelled : (line : ℕ) (e : Exit) (r : List Lexeme)
    → terminals_on line (lex_exit e r) ≡ mark kind.Out ∷ way_token (written_way line e) ∷ mark kind.CloseBracket ∷ terminals_on line r
exit_spelled line exit.Back r = refl
exit_spelled line (exit.Port n) r = refl

-- parts one after the other
pub flat_joined : {X : Type 0} (f : X → List Terminal) (xs ys : List X) → flat_map f (xs ++ ys) ≡ flat_map f xs ++ flat_map f ys
flat_joined f [] ys = refl
flat_joined f (x ∷ xs) ys = ap (λ l. f x ++ l) (flat_joined f xs ys) ∙ sym (append_assoc (f x) (flat_map f xs) (flat_map f ys))

pub map_joined : {X Y : Type 0} (f : X → Y) (xs ys : List X) → map f (xs ++ ys) ≡ map f xs ++ map f ys
map_joined f [] ys = refl
map_joined f (x ∷ xs) ys = ap (λ l. f x ∷ l) (map_joined f xs ys)

-- what two parts spell
pub parts_spelled : {X Y : Type 0} (f : X → List Terminal) (g : Y → X) (xs ys : List Y) (r : List Terminal)
    → flat_map f (map g xs) ++ (flat_map f (map g ys) ++ r) ≡ flat_map f (map g (xs ++ ys)) ++ r
parts_spelled f g xs ys r =
    sym (append_assoc (flat_map f (map g xs)) (flat_map f (map g ys)) r)
    ∙ ap (λ l. l ++ r) (sym (flat_joined f (map g xs) (map g ys)))
    ∙ ap (λ l. flat_map f l ++ r) (sym (map_joined g xs ys))

pub bucket_spelled : (fs : FieldTable) (line : ℕ) (b : Bucket) (r : List Lexeme) → IsBucketShown fs b
    → terminals_on line (lex_bucket fs b r) ≡ spell_bucket (written_bucket fs line b) ++ terminals_on line r
bucket_spelled fs line b r h =
    let fw = sets_where fs false b.sets in
    let tw = sets_where fs true b.sets in
    let pair = written_pair fs line in
    let last = mark kind.Out ∷ way_token (written_way line b.exit) ∷ mark kind.CloseBracket ∷ [] in
    ap (λ l. mark kind.OpenBracket ∷ l)
    (sets_spelled fs line fw (lex_sets fs tw (lex_exit b.exit r)) (all_where set_field (IsShown fs) fs false b.sets h.0)
    ∙ ap (λ l. flat_map spell_set (map pair fw) ++ l) (sets_spelled fs line tw (lex_exit b.exit r) (all_where set_field (IsShown fs) fs true b.sets h.0))
    ∙ parts_spelled spell_set pair fw tw (terminals_on line (lex_exit b.exit r))
    ∙ ap (λ l. flat_map spell_set (map pair (bucket_order fs b.sets)) ++ l) (exit_spelled line b.exit r)
    ∙ sym (append_assoc (flat_map spell_set (map pair (bucket_order fs b.sets))) last (terminals_on line r)))
