-- Entries of one out put together.
use Rattle.std.proofs.Common.{◌≡◌, ℕ, inl, inr, sym, ◌∙◌, subst, arith, List, [], ◌∷◌, ◌++◌, length, get_or, Contains}
use Rattle.std.specs.List.Sorted.{IsPermutation}
use Rattle.std.proofs.lemmas.Bool.Decides.{leb_tells}
use Rattle.std.proofs.lemmas.List.Sorted.{IsPermutation-sym}
use Rattle.nk_store.specs.declared.node.Out.{Out}
use Rattle.nk_store.specs.Leaves.{Suits}
use Rattle.nk_store.specs.StoreState.{StoreState, IsStorePacket, root_field, Grows}
use Rattle.nk_sets.specs.declared.groups.Stretch.{Stretch}
use Rattle.nk_sets.specs.declared.outs.OutPackets.{OutPackets}
use Rattle.nk_sets.specs.Outs.{AreLater, IsByOut, piece, AreStretches, AreOfDiagram, AreUnited, IsRunOf, IsNone}
use Rattle.nk_sets.proofs.Kept.{packet_on, packet_back}
use Rattle.nk_sets.proofs.OutEntries.{all_suit_on, later_on, gives_on, gives_back, suits_push, later_push, any_old, any_new, any_back}
use Rattle.nk_sets.proofs.Stretches.{stretches_on, has_at_on, has_at_back, any_moved}

-- the set of no packets stays so as the store grows
pub none_on : (a b : StoreState) (d : ℕ) → Grows a b → IsNone a d → IsNone b d
none_on a b d g n = record { leaves = record { id = g.ids d n.leaves.id; leaf = λ pk w. g.leaves d pk n.leaves.id ∙ n.leaves.leaf pk w }; later = g.root_fields d n.leaves.id ∙ n.later }

-- one run more put together
pub united_push : (a st new : StoreState) (f : ℕ) (ss : List Stretch) (from to : ℕ) (made : List OutPackets) (o : Out) (p : ℕ) → AreStretches a f ss → o ≡ (piece ss from).out → Grows a st → Grows st new →
    IsRunOf st f ss from to new p → AreUnited a f ss from st made → AreUnited a f ss to new (made ++ record { out = o; packets = p } ∷ [])
united_push a st new f ss from to made o p k is g h run u =
    let e : OutPackets = record { out = o; packets = p } in
    let at_st : AreStretches st f ss = stretches_on a st f ss g k in
    let suits : Suits new.maxes o = subst (λ (ms : List ℕ). Suits ms o) (sym h.maxes) (subst (Suits st.maxes) (sym is) (at_st from (omega (arith, run.later, run.within))).suits) in
    record {
      suits_store = suits_push new made e (all_suit_on st new made h u.suits_store) (record { suits = suits; packets = run.packets });
      later = later_push new f made e (later_on st new f made h u.suits_store u.later) run.first;
      from = λ x q w v. elim (any_back new made e x q v) [
        | inl was ↦
            let z = u.from x q w (gives_back st new made 0 (length made) x q h u.suits_store (omega arith) was) in
            (z.0, z.1, omega (arith, z.2, run.later), z.3, z.4, z.5, z.6)
        | inr now ↦
            let z = has_at_back a st f ss from to (get_or x f 0) x (piece ss from).out g k run.within (run.goes x (packet_on a st x g w) now.1) in
            (z.0, omega arith, z.2, z.3 ∙ sym is ∙ now.0, z.4, z.5, z.6)
      ];
      more = λ x q w v. elim (leb_tells from v.0) [
        | inl within ↦
            any_new new made e x q (is ∙ sym (run.alike v.0 within.1 v.2) ∙ v.3)
            (run.comes x q (packet_on a st x g w) (has_at_on a st f ss from to (get_or x f 0) x q g k run.within (v.0, within.1, v.2, v.3, v.4, v.5, v.6)))
        | inr before ↦ any_old new made e x q (gives_on st new made 0 (length made) x q h u.suits_store (omega arith) (u.more x q w (v.0, v.1, before.1, v.3, v.4, v.5, v.6)))
      ];
    }

-- those of a diagram, in another order and put together, are its entries
pub by_out_united : (a new : StoreState) (f d : ℕ) (ss ts : List Stretch) (made : List OutPackets) → Grows a new → AreOfDiagram a f d ss → IsPermutation ss ts → AreUnited a f ts (length ts) new made → IsByOut new d made
by_out_united a new f d ss ts made g k p u = record {
  id = g.ids d k.id;
  suits_store = u.suits_store;
  later = let e : root_field new d ≡ f = g.root_fields d k.id ∙ k.first in subst (λ t. AreLater new t made) (sym e) u.later;
  goes = λ x o w v.
      let q : IsStorePacket a x = packet_back a new x g w in
      subst (λ (os : List Out). Contains os o) (sym (g.leaves d x k.id)) (k.goes x o q (any_moved a f ts ss x o (IsPermutation-sym ss ts p) (u.from x o q v)));
  comes = λ x o w c.
      let q : IsStorePacket a x = packet_back a new x g w in
      u.more x o q (any_moved a f ss ts x o p (k.comes x o q (subst (λ (os : List Out). Contains os o) (g.leaves d x k.id) c)));
}
