-- Tags that stand for no set, before those of tag sets: the places of sets with labels, and the numbers that are given.
use Rattle.std.proofs.Common.{◌≡◌, ℕ, zero, suc, ◌<◌, inl, inr, Some, List, [], ◌∷◌, ◌++◌, length, get_or, refl, sym, ap, ◌∙◌, arith}
use Rattle.std.specs.Prelude.{All, AllPairs, slice_get, replicate}
use Rattle.nk_field.specs.Packet.{FieldTable}
use Rattle.nk_field.proofs.Lists.{In}
use Rattle.nk_topo.specs.Topology.{Topology}
use Rattle.nk_policy.specs.Policy.{Policy}
use Rattle.nk_table.specs.declared.Tables.{Tables}
use Rattle.nk_determ.specs.Sets.{SetsGrow}
use Rattle.nk_group.proofs.Growing.{set_kept}
use Rattle.nk_compile.specs.NumberedAfter.{tags_after, IsTableAfter}
use Rattle.nk_compile.specs.Ready.{sets_of}
use Rattle.nk_compile.specs.WholeTable.{IsTableOf}
use Rattle.nk_compile.proofs.Reached.{same_some}
use Rattle.nk_compile.proofs.TagPlaces.{one_place}

-- a set with labels that stands among them is one of the sets
pub following_in : (first : ℕ) (sets : List (List ℕ)) (s : List ℕ) → (s ≡ [] → ⊥) → In (tags_after first sets) s → In sets s
following_in zero sets s some i = i
following_in (suc n) sets s some (inl e) = absurd (some e)
following_in (suc n) sets s some (inr i) = following_in n sets s some i

-- and it has one place
pub after_once :
    (R : List ℕ → List ℕ → Type 0) → ((s : List ℕ) → R s s → ⊥) → (first : ℕ) (sets : List (List ℕ)) → AllPairs R sets
    → (i j : ℕ) (s : List ℕ) → (s ≡ [] → ⊥) → slice_get (tags_after first sets) i ≡ Some s
    → slice_get (tags_after first sets) j ≡ Some s → i ≡ j
after_once R never zero sets h i j s some e f = one_place R never sets h i j s e f
after_once R never (suc n) sets h zero j s some e f = absurd (some (sym (same_some [] s e)))
after_once R never (suc n) sets h (suc i) zero s some e f = absurd (some (sym (same_some [] s f)))
after_once R never (suc n) sets h (suc i) (suc j) s some e f = ap suc (after_once R never n sets h i j s some e f)

-- known sets keep their labels while sets grow
sets_kept : (ss more : List (List ℕ)) (tags : List ℕ) → SetsGrow ss more → All (λ s. s < length ss) tags → sets_of more tags ≡ sets_of ss tags
sets_kept ss more [] g known = refl
sets_kept ss more (t ∷ ts) g known =
    ap (λ s. s ∷ sets_of more ts) (set_kept ss more t g (known 0 0 (omega arith)))
    ∙ ap (λ l. get_or ss t [] ∷ l) (sets_kept ss more ts g (λ k d lt. known (suc k) d (omega (arith, lt))))

-- so many numbers of a set without labels, and these after
pub padded_sets : (ss more : List (List ℕ)) (none first : ℕ) (tags : List ℕ) → SetsGrow ss more → All (λ s. s < length ss) tags → get_or more none [] ≡ []
    → sets_of more (replicate first none ++ tags) ≡ tags_after first (sets_of ss tags)
padded_sets ss more none zero tags g known e = sets_kept ss more tags g known
padded_sets ss more none (suc n) tags g known e =
    ap (λ s. s ∷ sets_of more (replicate n none ++ tags)) e
    ∙ ap (λ (l : List (List ℕ)). [] ∷ l) (padded_sets ss more none n tags g known e)

-- they are known
pub padded_known : (n none first : ℕ) (tags : List ℕ) → none < n → All (λ s. s < n) tags → All (λ s. s < n) (replicate first none ++ tags)
padded_known n none zero tags a known k d lt = known k d lt
padded_known n none (suc f) tags a known zero d lt = a
padded_known n none (suc f) tags a known (suc k) d lt = padded_known n none f tags a known k d (omega (arith, lt))

-- after no tags the tables are those of the policy alone
pub table_alone : (fields : FieldTable) (topo : Topology) (Start : List ℕ → Type 0) (p : Policy) (t : Tables)
    → IsTableAfter 0 fields topo Start p t → IsTableOf fields topo Start p t
table_alone fields topo Start p t k = record {
  tag = k.tag;
  tags = k.tags;
  tag_declared = k.tag_declared;
  in_order = k.in_order;
  same_fields = k.same_fields;
  same_topology = k.same_topology;
  switches = k.switches;
  each = k.each;
}
