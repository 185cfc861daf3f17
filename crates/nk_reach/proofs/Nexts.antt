-- From what a level leads to, to the next level.
use Rattle.std.proofs.Common.{◌≡◌, ℕ, ◌<◌, sym, ◌∙◌, subst, List, length}
use Rattle.nk_store.specs.StoreState.{StoreState, Grows}
use Rattle.nk_determ.specs.Sets.{SetsGrow}
use Rattle.nk_determ.specs.Pairs.{Under, Named, ArePairs}
use Rattle.nk_reach.specs.Rounds.{IsNextLevel, IsRaw, IsFresh}
use Rattle.nk_sets.proofs.Kept.{packet_on}
use Rattle.nk_goal.proofs.Growing.{sets_known, sets_same, named_known, under_named, under_on, under_back, pairs_of, packets_of}

-- what a level leads to, without what was visited, is the next level
pub next_of_raw : (st mid new : StoreState) (ss nss : List (List ℕ)) (states : List ℕ) (visited last raw level : List (ℕ × ℕ)) → IsRaw st ss states last mid nss raw → IsFresh mid visited raw new level → Grows st mid → SetsGrow ss nss → ArePairs st ss (length states) visited → IsNextLevel st ss states visited last new nss level
next_of_raw st mid new ss nss states visited last raw level r f g s mp =
    let known : (i : ℕ) → Named visited i → (i < length ss) = λ i n. (named_known st ss (length states) visited i mp.each n).0 in
    let mpk = packets_of st ss (length states) visited mp.each in
    record {
      from = λ n p w. r.from n p (w.0, w.1, f.from w.0 n.1 (packet_on st mid n.1 g p) w.2);
      fresh = λ n p w v.
          let u = f.from w.0 n.1 (packet_on st mid n.1 g p) w.2 in
          let kj : (v.0 < length ss) = known v.0 (under_named st visited v.0 n.1 v.2) in
          let same : v.0 ≡ w.0 = r.differ v.0 w.0 (sets_known ss nss v.0 s kj) (named_known mid nss (length states) raw w.0 r.pairs.each (under_named mid raw w.0 n.1 u)).0 (sets_same ss nss v.0 s kj ∙ v.1 ∙ sym w.1) in
          f.unvisited w.0 n.1 (packet_on st mid n.1 g p) w.2 (subst (λ i. Under mid visited i n.1) same (under_on st mid visited v.0 n.1 g mpk v.2));
      every = λ m n p w step none.
          let q = r.every m n p w step in (
            q.0,
            q.1,
            f.every q.0 n.1 (packet_on st mid n.1 g step.packet) q.2 (λ u.
                let back = under_back st mid visited q.0 n.1 g mpk u in
                let k : (q.0 < length ss) = known q.0 (under_named st visited q.0 n.1 back) in
                none (q.0, sym (sets_same ss nss q.0 s k) ∙ q.1, back)),
          );
      pairs = record {
        each = pairs_of new nss (length states) level (λ i n. named_known mid nss (length states) raw i r.pairs.each (f.named i n)) f.packets;
        once = f.once;
      };
      filled = f.filled;
    }
