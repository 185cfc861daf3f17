-- Words that `out` writes, as `in` reads them.
use Rattle.std.proofs.Common.{◌≡◌, ◌<◌, ◌≤◌, ◌+◌, ◌-◌, ◌==◌, inl, ℕ, zero, suc, Bool, true, false, not, cond, List, [], ◌∷◌, ◌++◌, length, take, drop, decimal, refl, sym, ap, subst, ◌∙◌, arith, append_assoc, length-append}
use Rattle.std.proofs.lemmas.Bool.{eqb-true, ltb-true}
use Rattle.std.proofs.lemmas.Nat.{pow_pos}
use Rattle.std.specs.Prelude.{Option, None, Some, Ok, codes}
use Rattle.std.specs.List.{list_all}
use Rattle.nk_lex.proofs.Digits.{StopsAt, both_pass}
use Rattle.nk_number_forms.specs.Forms.{address_block_size, address_text, first_byte, has_dots, has_ones_after, last_byte, place_of_dots}
use Rattle.nk_number_forms.specs.Numbers.{number_within}
use Rattle.nk_notation.specs.declared.context.TextKind.{TextKind}
use Rattle.nk_notation.specs.declared.inward.Inward.{Inward}
use Rattle.nk_notation.specs.declared.inward.Place.{Place}
use Rattle.nk_notation.specs.declared.outward.Form.{Form}
use Rattle.nk_notation.specs.declared.outward.Form.TheVariants as form
use Rattle.nk_notation.specs.declared.outward.Spot.{Spot}
use Rattle.nk_notation.specs.declared.outward.Spot.TheVariants as spot
use Rattle.nk_notation.specs.Inward.{after_word, is_tables, kind_after, place_after, run_in, word_in}
use Rattle.nk_notation.specs.Lexemes.{is_run_byte, longest_word}
use Rattle.nk_notation.specs.Outward.{NamedForms, ends_out, form_text, held, interval_out, is_block, largest_in_form, length_below, length_of, named_spot, range_out}
use Rattle.nk_notation.proofs.Addresses.{take_all}
use Rattle.nk_notation.proofs.Cuts.{IsWordFront}
use Rattle.nk_notation.proofs.ReadBack.{drop_more, prefixes_back, ranges_back, within_is}
use Rattle.nk_notation.proofs.WrittenForms.{address_all, all_cons, un_not}
use Rattle.nk_notation_laws.proofs.Held.{IsOut, HeldStops, bare_past, past, reads_held}
use Rattle.nk_notation_laws.proofs.Places.{Follows, after_equals, equals_nameless, follows_other, no_field, no_size}
use Rattle.nk_notation_laws.proofs.ReadsWords.{Reads, reads_word}
use Rattle.nk_notation_laws.proofs.RunsAgain.{all_two, decimal_run, digit_run, dot_nameless, is_nameless}
use Rattle.nk_notation_laws.proofs.Shapes.{joined, split_dots}
use Rattle.nk_notation_laws.proofs.Spots.{AreNames, IsBare, IsKnown, IsSpotKnown, known_word, last_fits, named_bare, nameless_fits}
use Rattle.nk_notation_laws.proofs.ValuesBack.{ComesBack, address_short, form_runs, form_short, form_small}
use Rattle.nk_notation_laws.proofs.WordsAgain.{WordComes, decimal_short, nameless_front, one, plain_equals, plain_run, plain_word, range, range_is, range_run, run_apart, word_comes}

-- a word that `in` leaves in a text, it leaves where no more sizes are due
kept_by : (p : Place) (w : List ℕ) → WordComes p w w → (r : Inward) → Follows p r.place → (word_in r w ≡ Ok w) × Follows (place_after p w) (place_after r.place w)
unfolding first_byte
kept_by p w (one front stops step) = step
kept_by p w (range n m ln lm e is) = let apart : 61 ≡ 32 = sym e ∙ ap first_byte (is ∙ range_is n m) in absurd (omega (arith, apart))

pub kept_step : (r0 : Inward) (w : List ℕ) → IsWordFront w → word_in r0 w ≡ Ok w → (r : Inward) → Follows r0.place r.place
    → (word_in r w ≡ Ok w) × Follows (place_after r0.place w) (place_after r.place w)
kept_step r0 w front h = kept_by r0.place w (word_comes r0 w w front h)

follows_bare : (s : Spot) (p q : Place) → IsBare s → Follows p q → Follows p (past s q)
follows_bare s p q bare f = subst (Follows p) (sym (bare_past s q bare)) f

-- a word that stays
pub emit_kept : (fields : NamedForms) (k : TextKind) (s : Spot) (r0 : Inward) (w written read : List ℕ) → IsWordFront w → length w ≤ longest_word → word_in r0 w ≡ Ok w
    → StopsAt is_run_byte written → HeldStops s (w ++ written) → IsSpotKnown s k
    → Reads false (IsOut (kind_after k w) (named_spot fields w) (after_word r0 w).place) written read
    → Reads false (IsOut k s r0.place) (held s ++ (w ++ written)) (held s ++ (w ++ read))
unfolding after_word
emit_kept fields k s r0 w written read front le kept stops hs known rest =
    let N = named_spot fields w in
    reads_held k s r0.place (w ++ written) (w ++ read) hs known
    (reads_word (IsOut k spot.Nothing r0.place) (IsOut (kind_after k w) N (after_word r0 w).place) w w written read front le stops
    (λ r o.
    let h = kept_step r0 w front kept r o.follows in (
      h.0,
      record {
        follows = follows_bare N (place_after r0.place w) (place_after r.place w) (named_bare fields w) h.1;
        kind = ap (λ x. kind_after x w) o.kind;
        last = last_fits fields w;
      },
    ))
    rest)

-- a word that is written for another, where a field's name stands before
after_other_word : (fields : NamedForms) (k : TextKind) (p : Place) (v w : List ℕ) (r : Inward) → AreNames fields → IsKnown k → r.kind ≡ k → is_nameless w ≡ true
    → Follows p (place_after r.place v) → IsOut (kind_after k w) (named_spot fields w) p (after_word r v)
unfolding after_word
after_other_word fields k p v w r names known kind odd f = record {
  follows = follows_bare (named_spot fields w) p (place_after r.place v) (named_bare fields w) f;
  kind = ap (λ x. kind_after x v) kind ∙ known_word k v known ∙ sym (known_word k w known);
  last = nameless_fits fields w (last_byte v) names odd;
}

-- a value after `=`
pub emit_value : (fields : NamedForms) (k : TextKind) (s : Spot) (r0 : Inward) (v w written read : List ℕ) → AreNames fields → IsKnown k → ComesBack (is_tables k) v w
    → StopsAt is_run_byte written
    → Reads false (IsOut (kind_after k (61 ∷ w)) (named_spot fields (61 ∷ w)) (after_word r0 (61 ∷ w)).place) written read
    → Reads false (IsOut k s r0.place) (61 ∷ v ++ written) (61 ∷ w ++ read)
unfolding after_word
emit_value fields k s r0 v w written read names known c stops rest =
    reads_word (IsOut k s r0.place) (IsOut (kind_after k (61 ∷ w)) (named_spot fields (61 ∷ w)) (after_word r0 (61 ∷ w)).place) (61 ∷ v) (61 ∷ w) written read
    (refl, c.runs) (omega (arith, c.short)) stops
    (λ r o. (
      plain_word r (61 ∷ v) (61 ∷ w) (no_size r.place (61 ∷ v) (equals_nameless v))
          (plain_equals r v ∙ ap (λ x. run_in (is_tables x) (not (r.last == 58)) (codes "=") v) o.kind ∙ c.back (not (r.last == 58))),
      after_other_word fields k (place_after r0.place (61 ∷ w)) (61 ∷ v) (61 ∷ w) r names known o.kind (equals_nameless w) (inl (after_equals r.place v)),
    ))
    rest

-- a range in a form
abbrev pub two_forms : (f : Form) (x y : ℕ) → List ℕ
two_forms f x y = form_text f x ++ 46 ∷ 46 ∷ form_text f y

forms_runs : (f : Form) (x y : ℕ) → x ≤ largest_in_form f → y ≤ largest_in_form f → list_all is_run_byte (two_forms f x y) ≡ true
forms_runs f x y lx ly =
    all_two is_run_byte (form_text f x) (46 ∷ 46 ∷ form_text f y) (form_runs f x lx)
    (all_cons is_run_byte 46 (46 ∷ form_text f y) refl (all_cons is_run_byte 46 (form_text f y) refl (form_runs f y ly)))

forms_short : (f : Form) (x y : ℕ) → x ≤ largest_in_form f → y ≤ largest_in_form f → length (two_forms f x y) ≤ longest_word
forms_short f x y lx ly = omega (arith, length-append (form_text f x) (46 ∷ 46 ∷ form_text f y), form_short f x lx, form_short f y ly)

forms_word : (f : Form) (x y : ℕ) (r : Inward) → x ≤ largest_in_form f → y ≤ largest_in_form f → word_in r (two_forms f x y) ≡ Ok (range_run x y)
forms_word f x y r lx ly =
    let v = form_text f x ++ 46 ∷ 46 ∷ form_text f y in
    plain_word r v (range_run x y) (no_size r.place v (dot_nameless (form_text f x) (46 ∷ form_text f y)))
    (plain_run r v (run_apart v (forms_runs f x y lx ly))
    ∙ ap (run_in (is_tables r.kind) false []) (sym (append_assoc (form_text f x) (codes "..") (form_text f y)))
    ∙ ranges_back f x y lx ly (is_tables r.kind) false []
    ∙ ap Ok (append_assoc (decimal x) (codes "..") (decimal y)))

range_runs_by : (x y : ℕ) (f : Form) → x ≤ largest_in_form f → y ≤ largest_in_form f → list_all is_run_byte (range_run x y) ≡ true
range_runs_by x y f lx ly =
    all_two is_run_byte (decimal x) (46 ∷ 46 ∷ decimal y) (decimal_run x (form_small f x lx))
    (all_cons is_run_byte 46 (46 ∷ decimal y) refl (all_cons is_run_byte 46 (decimal y) refl (decimal_run y (form_small f y ly))))

emit_forms : (fields : NamedForms) (k : TextKind) (f : Form) (r0 : Inward) (x y : ℕ) (written read : List ℕ) → AreNames fields → IsKnown k
    → x ≤ largest_in_form f → y ≤ largest_in_form f → StopsAt is_run_byte written
    → Reads false (IsOut (kind_after k (range_run x y)) (named_spot fields (range_run x y)) (after_word r0 (range_run x y)).place) written read
    → Reads false (IsOut k (spot.Range f) r0.place) (32 ∷ 105 ∷ 110 ∷ 32 ∷ two_forms f x y ++ written) (32 ∷ 105 ∷ 110 ∷ 32 ∷ range_run x y ++ read)
unfolding after_word held
emit_forms fields k f r0 x y written read names known lx ly stops rest =
    let v = form_text f x ++ 46 ∷ 46 ∷ form_text f y in
    let w = range_run x y in
    let vo = dot_nameless (form_text f x) (46 ∷ form_text f y) in
    let wo = dot_nameless (decimal x) (46 ∷ decimal y) in
    reads_held k (spot.Range f) r0.place (v ++ written) (w ++ read) tt known
    (reads_word (IsOut k spot.Nothing r0.place) (IsOut (kind_after k w) (named_spot fields w) (after_word r0 w).place) v w written read
    (nameless_front v (forms_runs f x y lx ly) vo) (forms_short f x y lx ly) stops
    (λ r o. (
      forms_word f x y r lx ly,
      after_other_word fields k (place_after r0.place w) v w r names known o.kind wo
          (follows_other r0.place r.place w v o.follows (run_apart w (range_runs_by x y f lx ly)) (run_apart v (forms_runs f x y lx ly)) (no_field w wo) (no_field v vo)),
    ))
    rest)

-- a range that is a prefix
abbrev or_zero : Option ℕ → ℕ
or_zero None = 0
or_zero (Some n) = n

length_by : (m x y k : ℕ) (t : Bool) → is_block x y m ≡ t → (length_below m x y ≡ Some k → (k < m) × (is_block x y k ≡ true)) → cond t (Some m) (length_below m x y) ≡ Some k
    → (k < suc m) × (is_block x y k ≡ true)
length_by m x y k true e next h =
    let same : m ≡ k = ap or_zero h in
    (omega (arith, same), subst (λ j. is_block x y j ≡ true) same e)
length_by m x y k false e next h =
    let n = next h in
    (omega (arith, n.0), n.1)

length_is : (m x y k : ℕ) → length_below m x y ≡ Some k → (k < m) × (is_block x y k ≡ true)
unfolding length_below
length_is zero x y k h = absurd cc
length_is (suc m) x y k h = length_by m x y k (is_block x y m) refl (λ e. length_is m x y k e) h

-- the range of the addresses of a prefix
record IsPrefix (x y k : ℕ) : Type 0 where
  few : k ≤ 32
  block : y ≡ x + (address_block_size k - 1)
  ones : has_ones_after x k ≡ false

is_prefix : (x y k : ℕ) → length_below 33 x y ≡ Some k → IsPrefix x y k
is_prefix x y k h =
    let l = length_is 33 x y k h in
    let parts = both_pass (y + 1 == x + address_block_size k) (not (has_ones_after x k)) l.1 in
    let e : y + 1 ≡ x + address_block_size k = eqb-true (y + 1) (x + address_block_size k) parts.0 in record {
      few = omega (arith, l.0);
      block = omega (arith, e, pow_pos (32 - k));
      ones = un_not (has_ones_after x k) parts.1;
    }

-- only addresses outside table texts are written so
record IsBlock (tables : Bool) (f : Form) (x y k : ℕ) : Type 0 where
  plain : tables ≡ false
  address : f ≡ form.Address
  prefix : IsPrefix x y k

block_is : (tables : Bool) (f : Form) (x y k : ℕ) → length_of tables f x y ≡ Some k → IsBlock tables f x y k
unfolding length_of
block_is false form.Address x y k h = record { plain = refl; address = refl; prefix = is_prefix x y k h }
block_is tables f x y k h = absurd cc

abbrev block_run : (x k : ℕ) → List ℕ
block_run x k = address_text x ++ 47 ∷ decimal k

block_runs : (x k : ℕ) → x ≤ 4294967295 → k ≤ 32 → list_all is_run_byte (block_run x k) ≡ true
block_runs x k le few =
    all_two is_run_byte (address_text x) (47 ∷ decimal k) (address_all is_run_byte digit_run refl x (omega (arith, le))) (all_cons is_run_byte 47 (decimal k) refl (decimal_run k (omega (arith, few))))

block_short : (x k : ℕ) → x ≤ 4294967295 → k ≤ 32 → length (61 ∷ block_run x k) ≤ longest_word
block_short x k le few = omega (arith, length-append (address_text x) (47 ∷ decimal k), address_short x le, decimal_short k (omega (arith, few)))

block_word : (x y k : ℕ) (r : Inward) → x ≤ 4294967295 → IsPrefix x y k → is_tables r.kind ≡ false → (r.last == 58) ≡ false
    → word_in r (61 ∷ block_run x k) ≡ Ok (32 ∷ 105 ∷ 110 ∷ 32 ∷ range_run x y)
block_word x y k r le b tables last =
    let v = block_run x k in
    plain_word r (61 ∷ v) (32 ∷ 105 ∷ 110 ∷ 32 ∷ range_run x y) (no_size r.place (61 ∷ v) (equals_nameless v))
    (plain_equals r v
    ∙ ap (λ t. run_in t (not (r.last == 58)) (codes "=") v) tables
    ∙ ap (λ t. run_in false (not t) (codes "=") v) last
    ∙ ap (run_in false true (codes "=")) (sym (append_assoc (address_text x) (codes "/") (decimal k)))
    ∙ (prefixes_back x k (omega (arith, le)) b.few b.ones true (codes "=")).0
    ∙ ap Ok (range_is x (x + (address_block_size k - 1)))
    ∙ ap (λ n. Ok (32 ∷ 105 ∷ 110 ∷ 32 ∷ range_run x n)) (sym b.block))

emit_block : (fields : NamedForms) (k : TextKind) (f : Form) (r0 : Inward) (x y l : ℕ) (written read : List ℕ) → AreNames fields → IsKnown k
    → x ≤ 4294967295 → is_tables k ≡ false → IsPrefix x y l → StopsAt is_run_byte written
    → Reads false (IsOut (kind_after k (range_run x y)) (named_spot fields (range_run x y)) (after_word r0 (range_run x y)).place) written read
    → Reads false (IsOut k (spot.Range f) r0.place) (61 ∷ block_run x l ++ written) (32 ∷ 105 ∷ 110 ∷ 32 ∷ range_run x y ++ read)
unfolding after_word
emit_block fields k f r0 x y l written read names known le tables b stops rest =
    let v = block_run x l in
    let w = range_run x y in
    let from : Place → Type 0 = λ p. Follows (place_after r0.place w) p in
    reads_word (IsOut k (spot.Range f) r0.place) (IsOut (kind_after k w) (named_spot fields w) (after_word r0 w).place) (61 ∷ v) (32 ∷ 105 ∷ 110 ∷ 32 ∷ w) written read
    (refl, block_runs x l le b.few) (block_short x l le b.few) stops
    (λ r o. (
      block_word x y l r le b (ap is_tables o.kind ∙ tables) o.last,
      after_other_word fields k (place_after r0.place w) (61 ∷ v) w r names known o.kind (dot_nameless (decimal x) (46 ∷ decimal y)) (inl (after_equals r.place v)),
    ))
    rest

-- a range, in any form or as a prefix
emit_interval : (fields : NamedForms) (k : TextKind) (f : Form) (r0 : Inward) (x y : ℕ) (written read : List ℕ) → AreNames fields → IsKnown k
    → x ≤ largest_in_form f → y ≤ largest_in_form f → StopsAt is_run_byte written
    → Reads false (IsOut (kind_after k (range_run x y)) (named_spot fields (range_run x y)) (after_word r0 (range_run x y)).place) written read
    → (o : Option ℕ) → length_of (is_tables k) f x y ≡ o
    → Reads false (IsOut k (spot.Range f) r0.place) (interval_out f x y o ++ written) (32 ∷ 105 ∷ 110 ∷ 32 ∷ range_run x y ++ read)
unfolding interval_out largest_in_form
emit_interval fields k f r0 x y written read names known lx ly stops rest None e =
    subst (λ v. Reads false (IsOut k (spot.Range f) r0.place) (v ++ written) (32 ∷ 105 ∷ 110 ∷ 32 ∷ range_run x y ++ read))
    (sym (joined (codes " in ") (form_text f x) (codes "..") (form_text f y)))
    (emit_forms fields k f r0 x y written read names known lx ly stops rest)
emit_interval fields k f r0 x y written read names known lx ly stops rest (Some l) e =
    let b = block_is (is_tables k) f x y l e in
    let le : x ≤ 4294967295 = subst (λ g. x ≤ largest_in_form g) b.address lx in
    subst (λ v. Reads false (IsOut k (spot.Range f) r0.place) (v ++ written) (32 ∷ 105 ∷ 110 ∷ 32 ∷ range_run x y ++ read))
    (sym (joined (codes "=") (address_text x) (codes "/") (decimal l)))
    (emit_block fields k f r0 x y l written read names known le b.plain b.prefix stops rest)

-- what stands after ` in `
abbrev pub ReadsRange : NamedForms → TextKind → Form → Inward → (w v written read : List ℕ) → Type 0
ReadsRange fields k f r0 w v written read = Reads false (IsOut k (spot.Range f) r0.place) (v ++ written) (32 ∷ 105 ∷ 110 ∷ 32 ∷ w ++ read)

abbrev pub ReadsAfter : NamedForms → TextKind → Inward → (w written read : List ℕ) → Type 0
ReadsAfter fields k r0 w written read = Reads false (IsOut (kind_after k w) (named_spot fields w) (after_word r0 w).place) written read

emit_same : (fields : NamedForms) (k : TextKind) (f : Form) (r0 : Inward) (w written read : List ℕ) → IsKnown k → IsWordFront w → length w ≤ longest_word → word_in r0 w ≡ Ok w
    → StopsAt is_run_byte written → ReadsAfter fields k r0 w written read → ReadsRange fields k f r0 w (codes " in " ++ w) written read
unfolding held
emit_same fields k f r0 w written read known front le kept stops rest = emit_kept fields k (spot.Range f) r0 w written read front le kept stops tt known rest

ends_by : (fields : NamedForms) (k : TextKind) (f : Form) (r0 : Inward) (w a b written read : List ℕ) → AreNames fields → IsKnown k → IsWordFront w → length w ≤ longest_word → word_in r0 w ≡ Ok w
    → w ≡ a ++ 46 ∷ 46 ∷ b → StopsAt is_run_byte written → ReadsAfter fields k r0 w written read
    → (o p : Option ℕ) → number_within (largest_in_form f) a ≡ o → number_within (largest_in_form f) b ≡ p
    → ReadsRange fields k f r0 w (ends_out (is_tables k) f w o p) written read
unfolding ends_out
ends_by fields k f r0 w a b written read names known front le kept are stops rest None None ea eb = emit_same fields k f r0 w written read known front le kept stops rest
ends_by fields k f r0 w a b written read names known front le kept are stops rest None (Some y) ea eb = emit_same fields k f r0 w written read known front le kept stops rest
ends_by fields k f r0 w a b written read names known front le kept are stops rest (Some x) None ea eb = emit_same fields k f r0 w written read known front le kept stops rest
ends_by fields k f r0 w a b written read names known front le kept are stops rest (Some x) (Some y) ea eb =
    let ix = within_is (largest_in_form f) a x ea in
    let iy = within_is (largest_in_form f) b y eb in
    let same : w ≡ range_run x y = are ∙ ap (λ v. v ++ 46 ∷ 46 ∷ b) ix.0 ∙ ap (λ v. decimal x ++ 46 ∷ 46 ∷ v) iy.0 in
    subst (λ v. ReadsRange fields k f r0 v (interval_out f x y (length_of (is_tables k) f x y)) written read) (sym same)
    (emit_interval fields k f r0 x y written read names known ix.1 iy.1 stops (subst (λ v. ReadsAfter fields k r0 v written read) same rest) (length_of (is_tables k) f x y) refl)

range_by : (fields : NamedForms) (k : TextKind) (f : Form) (r0 : Inward) (w written read : List ℕ) → AreNames fields → IsKnown k → IsWordFront w → length w ≤ longest_word → word_in r0 w ≡ Ok w
    → StopsAt is_run_byte written → ReadsAfter fields k r0 w written read → (t : Bool) → has_dots w ≡ t
    → ReadsRange fields k f r0 w (cond t (ends_out (is_tables k) f w (number_within (largest_in_form f) (take (place_of_dots w) w)) (number_within (largest_in_form f) (drop (place_of_dots w + 2) w))) (codes " in " ++ w)) written read
range_by fields k f r0 w written read names known front le kept stops rest false e = emit_same fields k f r0 w written read known front le kept stops rest
range_by fields k f r0 w written read names known front le kept stops rest true e =
    let s = split_dots w (ltb-true (place_of_dots w) (length w) e) in
    let here : place_of_dots w ≡ length s.front = ap place_of_dots s.are ∙ s.dots s.rest in
    let a : take (place_of_dots w) w ≡ s.front = ap (λ n. take n w) here ∙ ap (take (length s.front)) s.are ∙ take_all s.front (46 ∷ 46 ∷ s.rest) in
    let b : drop (place_of_dots w + 2) w ≡ s.rest = ap (λ n. drop (n + 2) w) here ∙ ap (drop (length s.front + 2)) s.are ∙ drop_more s.front 46 46 s.rest in
    let most = largest_in_form f in
    ends_by fields k f r0 w s.front s.rest written read names known front le kept s.are stops rest
    (number_within most (take (place_of_dots w) w)) (number_within most (drop (place_of_dots w + 2) w)) (ap (number_within most) (sym a)) (ap (number_within most) (sym b))

pub emit_range : (fields : NamedForms) (k : TextKind) (f : Form) (r0 : Inward) (w written read : List ℕ) → AreNames fields → IsKnown k → IsWordFront w → length w ≤ longest_word → word_in r0 w ≡ Ok w
    → StopsAt is_run_byte written → ReadsAfter fields k r0 w written read → ReadsRange fields k f r0 w (range_out (is_tables k) f w) written read
unfolding range_out
emit_range fields k f r0 w written read names known front le kept stops rest = range_by fields k f r0 w written read names known front le kept stops rest (has_dots w) refl
