-- Where the plain rows choose buckets, the rows with their groups do: the row above all others is looked up, and its
-- target names its buckets.
use Rattle.std.proofs.Common.{◌≡◌, ℕ, ◌<◌, ◌≤◌, Bool, true, false, cond, ⊎_elim, Some, List, [], ◌∷◌, ◌++◌, refl, sym, ap, subst, ◌∙◌, arith}
use Rattle.std.specs.Prelude.{◌&&◌, nat_lt, filter}
use Rattle.std.specs.List.{list_all, AllByRecursion}
use Rattle.std.proofs.lemmas.Bool.Decides.{nat_tests}
use Rattle.nk_table.specs.declared.Group.{Group}
use Rattle.nk_table.specs.declared.Plain.{Plain}
use Rattle.nk_table.specs.declared.Row.{Row}
use Rattle.nk_table.specs.Rules.{agrees, highest, buckets_of_row}
use Rattle.nk_extract.specs.Chosen.{agrees_with, matching}
use Rattle.nk_extract.proofs.Lists.{every_append}
use Rattle.nk_group.specs.Groups.{rows_after, groups_of, AreKept, GroupsKeepTheChoice}
use Rattle.nk_group.proofs.Kept.{groups_keep_buckets}

-- rows that match a packet keep theirs
kept_matching :
    (maxima : List ℕ) (gs : List Group) (ps : List Plain) (rs : List Row) (pk : List ℕ) → AreKept gs ps rs
    → AreKept gs (matching maxima ps pk) (filter (agrees maxima pk) rs)
kept_matching maxima gs [] [] pk k = tt
kept_matching maxima gs [] (r ∷ rs) pk k = absurd k
kept_matching maxima gs (p ∷ ps) [] pk k = absurd k
kept_matching maxima gs (p ∷ ps) (r ∷ rs) pk k =
    subst (λ b. AreKept gs (matching maxima (p ∷ ps) pk) (cond b (r ∷ filter (agrees maxima pk) rs) (filter (agrees maxima pk) rs))) (sym (ap (agrees_with maxima pk) k.1))
    (by (agrees_with maxima pk p.matches) (kept_matching maxima gs ps rs pk k.3))
  where
    by :
        (b : Bool) → AreKept gs (matching maxima ps pk) (filter (agrees maxima pk) rs)
        → AreKept gs (cond b (p ∷ matching maxima ps pk) (matching maxima ps pk)) (cond b (r ∷ filter (agrees maxima pk) rs) (filter (agrees maxima pk) rs))
    by true h = (k.0, k.1, k.2, h)
    by false h = h

-- whether rows are below a priority
abbrev below : ℕ → Row → Bool
below n r = nat_lt r.priority n

-- a lesser number passes
lower : (m n : ℕ) → m < n → nat_lt m n ≡ true
lower m n h = grind (arith, nat_tests, h)

-- another one fails
not_lower : (m n : ℕ) → n ≤ m → nat_lt m n ≡ false
not_lower m n h = grind (arith, nat_tests, h)

-- rows that are below pass
all_below : (n : ℕ) (rs : List Row) → AllByRecursion (λ r. r.priority < n) rs → list_all (below n) rs ≡ true
all_below n [] e = refl
all_below n (r ∷ rs) e = ap (λ b. b && list_all (below n) rs) (lower r.priority n e.0) ∙ all_below n rs e.1

-- the rows kept for lower ones are lower
kept_lower :
    (gs : List Group) (n : ℕ) (ps : List Plain) (rs : List Row) → AreKept gs ps rs
    → AllByRecursion (λ p. p.priority < n) ps → AllByRecursion (λ r. r.priority < n) rs
kept_lower gs n [] [] k e = tt
kept_lower gs n [] (r ∷ rs) k e = absurd k
kept_lower gs n (p ∷ ps) [] k e = absurd k
kept_lower gs n (p ∷ ps) (r ∷ rs) k e = (subst (λ z. z < n) (sym k.0) e.0, kept_lower gs n ps rs k.3 e.1)

-- a test that fails
and_false : (a b : Bool) → b ≡ false → a && b ≡ false
and_false true b e = e
and_false false b e = refl

-- a row that isn't below n stands among those kept for a list with one
one_above :
    (gs : List Group) (n : ℕ) (a : List Plain) (p : Plain) (b : List Plain) (rs : List Row)
    → AreKept gs (a ++ p ∷ b) rs → n ≤ p.priority → list_all (below n) rs ≡ false
one_above gs n [] p b [] k h = absurd k
one_above gs n [] p b (r ∷ rs) k h = ap (λ c. c && list_all (below n) rs) (not_lower r.priority n (subst (λ z. n ≤ z) (sym k.0) h))
one_above gs n (y ∷ a) p b [] k h = absurd k
one_above gs n (y ∷ a) p b (r ∷ rs) k h = and_false (below n r) (list_all (below n) rs) (one_above gs n a p b rs k.3 h)

-- it fails with rows before it
fails_after :
    (n : ℕ) (pre rs : List Row) → list_all (below n) rs ≡ false → list_all (below n) (pre ++ rs) ≡ false
fails_after n [] rs h = h
fails_after n (q ∷ pre) rs h = and_false (below n q) (list_all (below n) (pre ++ rs)) (fails_after n pre rs h)

-- the row kept for one above all others is the highest, and has its buckets
highest_is :
    (gs : List Group) (pre : List Row) (a : List Plain) (p : Plain) (b : List Plain) (rs : List Row)
    → AllByRecursion (λ r. r.priority < p.priority) pre → AllByRecursion (λ q. q.priority < p.priority) a
    → AllByRecursion (λ q. q.priority < p.priority) b → AreKept gs (a ++ p ∷ b) rs
    → buckets_of_row gs (highest pre rs) ≡ p.buckets
highest_is gs pre [] p b [] e f g k = absurd k
highest_is gs pre [] p b (r ∷ rs) e f g k =
    let top : list_all (below r.priority) (pre ++ rs) ≡ true =
    ap (λ n. list_all (below n) (pre ++ rs)) k.0
    ∙ all_below p.priority (pre ++ rs) (every_append (λ (z : Row). z.priority < p.priority) pre rs e (kept_lower gs p.priority b rs k.3 g)) in
    ap (λ c. buckets_of_row gs (cond c (Some r) (highest (pre ++ r ∷ []) rs))) top ∙ k.2
highest_is gs pre (y ∷ a) p b [] e f g k = absurd k
highest_is gs pre (y ∷ a) p b (r ∷ rs) e f g k =
    let less : r.priority < p.priority = subst (λ z. z < p.priority) (sym k.0) f.0 in
    let not_top : list_all (below r.priority) (pre ++ rs) ≡ false = fails_after r.priority pre rs (one_above gs r.priority a p b rs k.3 (omega (arith, less))) in
    ap (λ c. buckets_of_row gs (cond c (Some r) (highest (pre ++ r ∷ []) rs))) not_top
    ∙ highest_is gs (pre ++ r ∷ []) a p b rs (every_append (λ (z : Row). z.priority < p.priority) pre (r ∷ []) e (less, tt)) f.1 g k.3

-- no row is kept for none
none_kept : (gs : List Group) (rs : List Row) → AreKept gs [] rs → rs ≡ []
none_kept gs [] k = refl
none_kept gs (r ∷ rs) k = absurd k

-- the rows with their groups choose what the plain rows do
pub groups_keep_the_choice : GroupsKeepTheChoice
groups_keep_the_choice maxima ps pk buckets c =
    let k = kept_matching maxima (groups_of ps) ps (rows_after [] ps) pk (groups_keep_buckets ps) in
    ⊎_elim
    (λ t.
    highest_is (groups_of ps) [] t.1.before t.0 t.1.after (filter (agrees maxima pk) (rows_after [] ps)) tt t.1.lower_before t.1.lower_after
    (subst (λ l. AreKept (groups_of ps) l (filter (agrees maxima pk) (rows_after [] ps))) t.1.is k)
    ∙ t.2)
    (λ n.
    ap (λ l. buckets_of_row (groups_of ps) (highest [] l)) (none_kept (groups_of ps) (filter (agrees maxima pk) (rows_after [] ps)) (subst (λ l. AreKept (groups_of ps) l (filter (agrees maxima pk) (rows_after [] ps))) n.0 k))
    ∙ sym n.1)
    c
