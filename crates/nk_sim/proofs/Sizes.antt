-- Packets keep their length, and each crossing adds two records.
use Rattle.std.proofs.Common.{◌≡◌, ◌<◌, ◌+◌, ℕ, zero, suc, Bool, true, false, Option, None, Some, List, [], ◌∷◌, ◌++◌, length, refl, subst, ◌∙◌, arith, length-append, length-set}
use Rattle.std.specs.Prelude.{◌==◌, All, filter_map, slice_index, slice_set, if◌then◌else◌}
use Rattle.std.specs.List.{flat_map, cons_option}
use Rattle.std.proofs.lemmas.List.Elements.{All-nil, All-cons, All-head, All-tail, All-append, All-map}
use Rattle.nk_field.specs.declared.history.History.{History}
use Rattle.nk_field.specs.Act.{applied}
use Rattle.nk_field.specs.Packet.{erased, without}
use Rattle.nk_topo.specs.Topology.{is_edge, link_from}
use Rattle.nk_table.specs.declared.Tables.{Tables}
use Rattle.nk_table.specs.declared.Bucket.{Bucket}
use Rattle.nk_table.specs.declared.Exit.{Exit}
use Rattle.nk_table.specs.declared.Exit.TheVariants.{Back, Port}
use Rattle.nk_table.specs.Rules.{row_for, groups_at_switch, buckets_of_row, sent, sent_by, sent_for}
use Rattle.nk_table.specs.Hops.{Copy, crossing, across, leaving, next_of, left_of, moved_to, waiting, left_after}
use Rattle.nk_sim.specs.Traces.{as_history, histories_after, histories_before}

-- a packet of this length
abbrev pub Long : ℕ → List ℕ → Type 0
Long n y = length y ≡ n

-- what holds of all that each element makes holds of all
pub all_joined : {X Y : Type 0} (P : X → Type 0) (Q : Y → Type 0) (f : X → List Y) → ((x : X) → P x → All Q (f x)) → (xs : List X) → All P xs → All Q (flat_map f xs)
all_joined P Q f e [] h = All-nil Q
all_joined P Q f e (x ∷ xs) h =
    All-append Q (f x) (flat_map f xs) (e x (All-head P x xs h)) (all_joined P Q f e xs (All-tail P x xs h))

-- assignments keep the length
applied_long : (sets : List (ℕ × ℕ)) (pk : List ℕ) → length (applied sets pk) ≡ length pk
applied_long [] pk = refl
applied_long (s ∷ ss) pk = applied_long ss (slice_set pk s.0 s.1) ∙ length-set pk s.0 s.1

-- a packet that is sent, if one is
abbrev AsLong : ℕ → Option (List ℕ) → Type 0
AsLong n None = Unit {0}
AsLong n (Some y) = length y ≡ n

exit_long : (n : ℕ) (pk : List ℕ) (e : Exit) (x : List ℕ) → length x ≡ n → AsLong n (sent pk e x)
exit_long n pk Back x h = h
exit_long n pk (Port p) x h = by (p == slice_index pk 1)
  where
    by : (b : Bool) → AsLong n (if b then None else Some (slice_set x 1 p))
    by true = tt
    by false = length-set x 1 p ∙ h

cons_long : (n : ℕ) (o : Option (List ℕ)) (ys : List (List ℕ)) → AsLong n o → All (Long n) ys → All (Long n) (cons_option o ys)
cons_long n None ys h rest = rest
cons_long n (Some y) ys h rest = All-cons (Long n) y ys h rest

buckets_long : (pk : List ℕ) (bs : List Bucket) → All (Long (length pk)) (filter_map (sent_by pk) bs)
buckets_long pk [] = All-nil (Long (length pk))
buckets_long pk (b ∷ bs) =
    cons_long (length pk) (sent_by pk b) (filter_map (sent_by pk) bs) (exit_long (length pk) pk b.exit (applied b.sets pk) (applied_long b.sets pk)) (buckets_long pk bs)

-- what is sent is as long
pub sent_long : (t : Tables) (n : ℕ) (pk : List ℕ) → length pk ≡ n → All (Long n) (sent_for t pk)
sent_long t n pk e =
    let sw = slice_index pk 0 in
    subst (λ m. All (Long m) (sent_for t pk)) e (buckets_long pk (buckets_of_row (groups_at_switch t.tables sw) (row_for t sw pk)))

-- so is it with tag 0
without_long : (o : Option ℕ) (y : List ℕ) → length (without o y) ≡ length y
without_long None y = refl
without_long (Some f) y = length-set y f 0

-- a copy of so many records, and packets of this length
abbrev pub IsSized : ℕ → ℕ → Copy → Type 0
IsSized n m c = (length c.records ≡ m) × All (Long n) c.records × (length c.packet ≡ n)

-- a crossing adds two records
crossing_sized : (t : Tables) (n m : ℕ) (w : List (List ℕ)) (y : List ℕ) (o : Option (ℕ × ℕ)) → length w ≡ m → All (Long n) w → length y ≡ n
    → All (IsSized n (m + 2)) (crossing t w y o)
crossing_sized t n m w y None e h l = All-nil (IsSized n (m + 2))
crossing_sized t n m w y (Some to) e h l =
    let z : List ℕ = moved_to to y in
    let lz : length z ≡ n = length-set (slice_set y 0 to.0) 1 to.1 ∙ length-set y 0 to.0 ∙ l in
    let two : List (List ℕ) = erased t.fields y ∷ erased t.fields z ∷ [] in
    let c : Copy = record { records = w ++ two; packet = z } in
    let count : length (w ++ two) ≡ m + 2 = omega (arith, length-append w two, e) in
    let both : All (Long n) two =
    All-cons (Long n) (erased t.fields y) (erased t.fields z ∷ []) (without_long t.fields.tag y ∙ l)
    (All-cons (Long n) (erased t.fields z) [] (without_long t.fields.tag z ∙ lz) (All-nil (Long n))) in
    All-cons (IsSized n (m + 2)) c [] (count, All-append (Long n) w two h both, lz) (All-nil (IsSized n (m + 2)))

-- and what a copy leads to has two more
next_sized : (t : Tables) (n m : ℕ) (c : Copy) → IsSized n m c → All (IsSized n (m + 2)) (next_of t c)
next_sized t n m c h =
    all_joined (Long n) (IsSized n (m + 2)) (across t c.records)
    (λ y l. crossing_sized t n m c.records y (link_from t.topo (slice_index y 0) (slice_index y 1)) h.0 h.1 l)
    (sent_for t c.packet) (sent_long t n c.packet h.2)

-- the copies that wait
pub waiting_sized : (t : Tables) (k : ℕ) (pk : List ℕ) → All (IsSized (length pk) (k + k)) (waiting t k pk)
waiting_sized t zero pk =
    let c : Copy = record { records = []; packet = pk } in
    All-cons (IsSized (length pk) (zero + zero)) c [] (refl, All-nil (Long (length pk)), refl) (All-nil (IsSized (length pk) (zero + zero)))
waiting_sized t (suc k) pk =
    let more : (k + k) + 2 ≡ suc k + suc k = omega arith in
    subst (λ m. All (IsSized (length pk) m) (waiting t (suc k) pk)) more
    (all_joined (IsSized (length pk) (k + k)) (IsSized (length pk) ((k + k) + 2)) (next_of t) (next_sized t (length pk) (k + k)) (waiting t k pk) (waiting_sized t k pk))

-- a copy that leaves
leaving_sized : (n m : ℕ) (w : List (List ℕ)) (y : List ℕ) (b : Bool) → IsSized n m record { records = w; packet = y }
    → All (IsSized n m) (if b then record { records = w; packet = y } ∷ [] else [])
leaving_sized n m w y true h = All-cons (IsSized n m) record { records = w; packet = y } [] h (All-nil (IsSized n m))
leaving_sized n m w y false h = All-nil (IsSized n m)

left_sized : (t : Tables) (n m : ℕ) (c : Copy) → IsSized n m c → All (IsSized n m) (left_of t c)
left_sized t n m c h =
    all_joined (Long n) (IsSized n m) (leaving t c.records)
    (λ y l. leaving_sized n m c.records y (is_edge t.topo (slice_index y 0) (slice_index y 1)) (h.0, h.1, l))
    (sent_for t c.packet) (sent_long t n c.packet h.2)

-- a history of so many records, and packets of this length
abbrev pub IsHistorySized : ℕ → ℕ → History → Type 0
IsHistorySized n m h = (length h.records ≡ m) × All (λ p. length p ≡ n) h.records × (length h.last ≡ n)

-- the histories that leave after k crossings have two records of each
pub after_sized : (t : Tables) (k : ℕ) (pk : List ℕ) → All (IsHistorySized (length pk) (k + k)) (histories_after t k pk)
after_sized t k pk =
    All-map (IsHistorySized (length pk) (k + k)) as_history (left_after t k pk)
    (all_joined (IsSized (length pk) (k + k)) (IsSized (length pk) (k + k)) (left_of t) (left_sized t (length pk) (k + k)) (waiting t k pk) (waiting_sized t k pk))

-- those that left before have fewer
pub before_shorter : (t : Tables) (k : ℕ) (pk : List ℕ) → All (λ (h : History). length h.records < k + k) (histories_before t k pk)
before_shorter t zero pk = All-nil (λ (h : History). length h.records < zero + zero)
before_shorter t (suc k) pk =
    All-append (λ (h : History). length h.records < suc k + suc k) (histories_before t k pk) (histories_after t k pk)
    (λ i d lt. let less = before_shorter t k pk i d lt in omega (arith, less))
    (λ i d lt. let size = after_sized t k pk i d lt in omega (arith, size.0))
