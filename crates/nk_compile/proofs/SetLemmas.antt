-- Sets of packets in stores that grow.
use Rattle.std.proofs.Common.{◌≡◌, ℕ, Bool, true, false, not, ◌<◌, List, refl, sym, ap, subst, ◌∙◌}
use Rattle.nk_store.specs.Nodes.{InRange}
use Rattle.nk_store.specs.StoreState.{StoreState, look, Grows}
use Rattle.nk_compile.specs.PacketSets.{has_some_out, IsSetInRange, IsConstantSet, IsChildSet}

-- what is in the old store's set is in the grown one's
pub set_grows :
    (old new : StoreState) (d : ℕ) (test : List ℕ → Bool) → Grows old new → IsSetInRange old d test → IsSetInRange new d test
set_grows old new d test g s = record {
  id = g.ids d s.id;
  at = λ pk r. ap has_some_out (g.leaves d pk s.id) ∙ s.at pk (subst (λ m. InRange m pk) g.maxes r);
}

-- the set of all packets or of none is so in the grown store
pub constant_grows : (old new : StoreState) (d : ℕ) (all : Bool) → Grows old new → IsConstantSet old d all → IsConstantSet new d all
constant_grows old new d all g k = record {
  set = set_grows old new d (λ pk. all) g k.set;
  root_field_is = g.root_fields d k.set.id ∙ k.root_field_is;
}

-- a child is one in the grown store
pub child_set_grows : (old new : StoreState) (f d : ℕ) (test : List ℕ → Bool) → Grows old new → IsChildSet old f d test → IsChildSet new f d test
child_set_grows old new f d test g k = record {
  set = set_grows old new d test g k.set;
  later = subst (λ n. f < n) (sym (g.root_fields d k.set.id)) k.later;
}

-- a complement's complement
twice_not : (b : Bool) → not (not b) ≡ b
twice_not true = refl
twice_not false = refl

-- the set itself, by two complements
pub set_twice : (old mid new : StoreState) (a others d : ℕ) → Grows old mid → Grows mid new → IsSetInRange mid others (λ pk. not (has_some_out (look old a pk))) →
    IsSetInRange new d (λ pk. not (has_some_out (look mid others pk))) → IsSetInRange new d (λ pk. has_some_out (look old a pk))
set_twice old mid new a others d g h one two = record {
  id = two.id;
  at = λ pk r. two.at pk r ∙ ap not (one.at pk (subst (λ m. InRange m pk) h.maxes r)) ∙ twice_not (has_some_out (look old a pk));
}
