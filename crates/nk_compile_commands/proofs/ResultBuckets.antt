-- The buckets of a bucket list assign declared fields values in range, and leave by ports in range.
use Rattle.std.proofs.Common.{◌≡◌, ◌≢◌, ℕ, zero, suc, ◌+◌, ◌≤◌, Bool, true, false, cond, inl, inr, ⊎_elim, Some, List, [], ◌∷◌, length, refl, sym, subst, arith}
use Rattle.std.specs.Prelude.{◌==◌, Contains, filter, slice_index}
use Rattle.std.proofs.lemmas.Option.{slice_get_within}
use Rattle.nk_field.specs.Packet.{FieldTable, IsFieldTable, IsPacket, IsValue}
use Rattle.nk_field.proofs.Lists.{In, contains_from_in, from_mapped}
use Rattle.nk_field.proofs.Ascending.{all_from_members}
use Rattle.nk_policy.specs.Policy.{Policy}
use Rattle.nk_policy.specs.Meaning.{Runs}
use Rattle.nk_policy.specs.Ranges.{IsInRange}
use Rattle.nk_policy.proofs.InRange.{ways_keep, records_keep, after_in_range}
use Rattle.nk_policy.proofs.LabelSteps.{gives_is_runs}
use Rattle.nk_policy.proofs.Parity.{no_records}
use Rattle.nk_store.specs.Intervals.{counted}
use Rattle.nk_table.specs.declared.Bucket.{Bucket}
use Rattle.nk_table.specs.declared.Exit.TheVariants.{Back, Port}
use Rattle.nk_tabtext.specs.ReadBack.{IsExit, IsPrintableBucket}
use Rattle.nk_extract.specs.RuleTree.{put}
use Rattle.nk_extract.specs.Buckets.{changes, bucket_of}
use Rattle.nk_compile.specs.PrintedTable.{IsOfTag, IsResult, IsBucketList}
use Rattle.nk_compile_commands.proofs.Climbs.{Climbs, climbs_within, put_ascends, in_put, differs, changes_climb}
use Rattle.nk_compile.proofs.ProgramFits.{fronts}

-- a list that isn't empty has a member
some_member : (xs : List ℕ) → xs ≢ [] → (l : ℕ) × Contains xs l
some_member [] h = absurd (h refl)
some_member (x ∷ xs) h = (x, contains_from_in (x ∷ xs) x (inl refl))

-- ---- results

-- what a tag stands for sets fields to values in range
state_in_range :
    (fields : FieldTable) (p : Policy) (tags : List (List ℕ)) (t : ℕ) (s : Policy) → IsInRange p fields
    → IsOfTag p tags t s → IsInRange s fields
state_in_range fields p tags zero s h e = subst (λ q. IsInRange q fields) (sym e) h
state_in_range fields p tags (suc t) s h e = subst (λ q. IsInRange q fields) (sym e.4) (after_in_range fields p (e.1 + 1) h)

-- a result is in range
result_in_range :
    (fields : FieldTable) (p : Policy) (tags : List (List ℕ)) (t : ℕ) (pk x : List ℕ) (t' : ℕ) → IsInRange p fields
    → IsPacket fields pk → IsResult p tags t pk x t' → IsPacket fields x
result_in_range fields p tags t pk x zero h ok r =
    let v = (gives_is_runs r.0 pk [] x).0 r.2 in
    let run = subst (λ w. Runs r.0 pk w x) (no_records v.0 v.1) v.2 in
    ways_keep fields r.0 (state_in_range fields p tags t r.0 h r.1) pk [] x run ok
result_in_range fields p tags t pk x (suc t') h ok r =
    let m = some_member r.0 r.2 in
    let c = (r.3.1 m.0).0 m.1 in
    records_keep fields c.0 (state_in_range fields p tags t c.0 h c.1) pk [] x m.0 c.2 ok

-- it goes on with one of the tags
result_tag :
    (p : Policy) (tags : List (List ℕ)) (t : ℕ) (pk x : List ℕ) (t' : ℕ) → IsResult p tags t pk x t' → t' ≤ length tags
result_tag p tags t pk x zero r = omega arith
result_tag p tags t pk x (suc t') r = let lt = slice_get_within tags t' r.0 r.1 in omega (arith, lt)

-- ---- their buckets

exit_ok : (b : Bool) (n : ℕ) → n ≤ 65535 → IsExit (cond b Back (Port n))
exit_ok true n le = tt
exit_ok false n le = le

-- the bucket of a result
bucket_ok :
    (fields : FieldTable) (tag : ℕ) → IsFieldTable fields → fields.tag ≡ Some tag → (pk x : List ℕ) (t' : ℕ)
    → IsPacket fields x → t' ≤ slice_index fields.maxima tag
    → IsPrintableBucket fields (bucket_of (length fields.maxima) tag pk x t')
bucket_ok fields tag table is pk x t' ok le =
    let width = length fields.maxima in
    let place = table.tag_past_port tag is in
    let set = changes width tag pk x in
    let climbs : Climbs width tag 2 set = changes_climb width tag pk x width 0 2 (omega arith) (inr (omega arith)) in
    let port = ok.within 1 in
    let most = (fronts fields.maxima 65535 65535 table.built_in_maxima).1 in
    record {
      ascend = put_ascends width tag t' 2 set place.0 climbs;
      values = all_from_members (λ (s : ℕ × ℕ). IsValue fields s.0 s.1) (put (tag, t') set) (λ s i.
          ⊎_elim
          (λ e. subst (λ (q : ℕ × ℕ). IsValue fields q.0 q.1) (sym e) (place.1, le))
          (λ j.
          let f = from_mapped (λ (g : ℕ). (g, slice_index x g)) (filter (differs tag pk x) (counted 0 width)) s j in
          (climbs_within width tag 2 set s climbs j, subst (λ (q : ℕ × ℕ). q.1 ≤ slice_index fields.maxima q.0) (sym f.2) (ok.within f.0)))
          (in_put (tag, t') set s i));
      exit = exit_ok (slice_index pk 1 == slice_index x 1) (slice_index x 1) (subst (λ n. slice_index x 1 ≤ n) most port);
    }

-- each bucket of results whose tags have these numbers
pub numbered_ok :
    (number : ℕ → ℕ) (fields : FieldTable) (tag : ℕ) (p : Policy) (tags : List (List ℕ)) (t : ℕ) (pk : List ℕ) (b : Bucket)
    → IsFieldTable fields → fields.tag ≡ Some tag → IsInRange p fields
    → ((t' : ℕ) → t' ≤ length tags → number t' ≤ slice_index fields.maxima tag)
    → IsPacket fields pk → (x : List ℕ) (t' : ℕ) → IsResult p tags t pk x t'
    → b ≡ bucket_of (length fields.maxima) tag pk x (number t') → IsPrintableBucket fields b
numbered_ok number fields tag p tags t pk b table is range many ok x t' result e =
    subst (IsPrintableBucket fields) (sym e)
    (bucket_ok fields tag table is pk x (number t') (result_in_range fields p tags t pk x t' range ok result)
    (many t' (result_tag p tags t pk x t' result)))

-- each bucket of a packet's bucket list
pub buckets_ok :
    (fields : FieldTable) (tag : ℕ) (p : Policy) (tags : List (List ℕ)) (t : ℕ) (pk : List ℕ) (buckets : List Bucket)
    → IsFieldTable fields → fields.tag ≡ Some tag → IsInRange p fields → length tags ≤ slice_index fields.maxima tag
    → IsPacket fields pk → IsBucketList (length fields.maxima) tag p tags t pk buckets
    → (b : Bucket) → In buckets b → IsPrintableBucket fields b
buckets_ok fields tag p tags t pk buckets table is range many ok list b i =
    let r = (list.exactly b).0 (contains_from_in buckets b i) in
    numbered_ok (λ n. n) fields tag p tags t pk b table is range (λ t' low. omega (arith, low, many)) ok r.0 r.1 r.2 r.3
