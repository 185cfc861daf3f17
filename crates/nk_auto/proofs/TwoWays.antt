-- Both ways of policies that are put together.
use Rattle.std.proofs.Common.{◌≡◌, ℕ, inl, inr, ⊎_elim, List, [], length, refl}
use Rattle.nk_policy.specs.Policy.{Policy, Policies, sum_of, seq_of, star_of, part, dups_of}
use Rattle.nk_store.specs.StoreState.{StoreState, IsId, look, Grows, HasLeaves, AreTidy}
use Rattle.nk_store.proofs.Stores.{grows_on}
use Rattle.nk_apply.specs.Leaves.{merged}
use Rattle.nk_apply.specs.Seqs.{seq_leaf}
use Rattle.nk_apply.specs.Unions.{unions}
use Rattle.nk_auto.specs.Continued.{IsFit, IsSilent, IsContinued}
use Rattle.nk_auto.specs.TwoWays.{AreWays}
use Rattle.nk_auto.proofs.Grown.{leaves_grow}
use Rattle.nk_auto.proofs.Sending.{sends_on, sends_back, seq_sends, sends_seq, union_sends, sends_left, sends_right}
use Rattle.nk_auto.proofs.Silences.{fit_before, packet_before, read_out, silent_grow, cons_silent}
use Rattle.nk_auto.proofs.Ways.{gives_in_range, dupless_records_none}
use Rattle.nk_auto.proofs.Going.{body_records, continued_grow, cons_continued, star_continued}
use Rattle.nk_auto.proofs.Sums.{AreOf, IsOnward, sum_silent, sum_continued}

-- both ways stay so in a store that grew
pub ways_grow : (old new : StoreState) (silent records nothing : ℕ) (p : Policy) → Grows old new →
    AreWays old silent records nothing p → AreWays new silent records nothing p
ways_grow old new silent records nothing p g h = record {
  silently = silent_grow old new silent p g h.silently;
  recording = continued_grow old new records p nothing g h.recording;
  none = leaves_grow old new nothing (λ pk. []) g h.none;
}

-- a policy without a dup records nothing
pub dupless_ways : (st : StoreState) (silent nothing : ℕ) (p : Policy) → dups_of p ≡ 0 → IsSilent st silent p →
    HasLeaves st nothing (λ pk. []) → AreWays st silent nothing nothing p
dupless_ways st silent nothing p dupless a h = record {
  silently = a;
  recording = record {
    id = h.id;
    next = h.id;
    sends = λ fit pk y t pk_in. (
      λ s. absurd (read_out st nothing (λ pk. []) pk y t h pk_in.0 s),
      λ s.
          ⊎_elim
          (λ q. absurd (read_out st nothing (λ pk. []) q.0 y t h (gives_in_range st.maxes p fit.1 pk q.0 q.1 pk_in).0 q.2))
          (λ q. absurd (dupless_records_none p dupless pk y t q))
          s,
    );
  };
  none = h;
}

-- what is recorded first, or the runs without a record and then a diagram
pub either_way : (st mid new : StoreState) (nothing e s k following r : ℕ) (p : Policy) → AreTidy mid → Grows st mid → Grows mid new →
    AreWays st s e nothing p → IsId st k → HasLeaves mid following (λ pk. seq_leaf (look st s pk) (look st k) pk) →
    HasLeaves new r (λ pk. merged (look mid e pk) (look mid following pk)) → IsContinued new r p k
either_way st mid new nothing e s k following r p tidy g1 g2 a ik later h = record {
  id = h.id;
  next = g2.ids k (g1.ids k ik);
  sends = λ fit pk y t pk_in.
      let before = packet_before st mid pk g1 (packet_before mid new pk g2 pk_in) in
      let fits : IsFit st.maxes p = fit_before st mid p g1 (fit_before mid new p g2 fit) in (
        λ sent.
            ⊎_elim
            (λ q. inr (body_records st nothing e p a.recording a.none fits pk y t before (sends_back st mid e pk y t g1 a.recording.id q)))
            (λ q.
            let m = seq_sends st mid s k following pk y t tidy g1 a.silently.id ik later pk_in.0 q in
            let done = (a.silently.sends fits pk m.0 m.1 before).0 m.2 in
            inl (m.0, done.1, sends_on mid new k m.0 y t g2 (g1.ids k ik) (sends_on st mid k m.0 y t g1 ik m.3)))
            (union_sends mid new e following r pk y t h pk_in.0 sent),
        λ goes.
            ⊎_elim
            (λ q.
            let sent = sends_back st mid k q.0 y t g1 ik (sends_back mid new k q.0 y t g2 (g1.ids k ik) q.2) in
            sends_right mid new e following r pk y t h pk_in.0
            (sends_seq st mid s k following pk q.0 y 0 t tidy g1 a.silently.id ik later pk_in.0 ((a.silently.sends fits pk q.0 0 before).1 (refl, q.1)) sent))
            (λ q. sends_left mid new e following r pk y t h pk_in.0 (sends_on st mid e pk y t g1 a.recording.id ((a.recording.sends fits pk y t before).1 (inr q))))
            goes,
      );
}

-- one more part in front of a sequence
pub cons_ways : (st mid uni new : StoreState) (nothing s e rest records later r d : ℕ) (p : Policy) (ps : Policies) → AreTidy mid →
    AreTidy new → Grows st mid → Grows mid uni → Grows uni new → AreWays st s e nothing p →
    AreWays st rest records nothing (seq_of ps) →
    HasLeaves mid later (λ pk. seq_leaf (look st s pk) (look st records) pk) →
    HasLeaves uni r (λ pk. merged (look mid e pk) (look mid later pk)) →
    HasLeaves new d (λ pk. seq_leaf (look uni s pk) (look uni rest) pk) → AreWays new d r nothing (seq_of (part p ps))
cons_ways st mid uni new nothing s e rest records later r d p ps tidy_mid tidy_new g1 g2 g3 a b h1 h2 h3 =
    let g12 = grows_on st mid uni g1 g2 in
    record {
      silently = cons_silent uni new s rest d p ps tidy_new g3 (silent_grow st uni s p g12 a.silently) (silent_grow st uni rest (seq_of ps) g12 b.silently) h3;
      recording =
          continued_grow uni new r (seq_of (part p ps)) nothing g3
          (cons_continued uni r records nothing p ps
          (either_way st mid uni nothing e s records later r p tidy_mid g1 g2 a b.recording.id h1 h2)
          (continued_grow st uni records (seq_of ps) nothing g12 b.recording));
      none = leaves_grow st new nothing (λ pk. []) (grows_on st uni new g12 g3) a.none;
    }

-- a star, continued by a diagram
pub star_onward : (st mid uni new : StoreState) (nothing s e k f both d : ℕ) (p : Policy) → AreTidy new → Grows st mid → Grows mid uni →
    Grows uni new → AreWays st s e nothing p → IsSilent mid f (star_of p) → IsId st k →
    HasLeaves uni both (λ pk. merged (look mid k pk) (look mid e pk)) →
    HasLeaves new d (λ pk. seq_leaf (look uni f pk) (look uni both) pk) → IsContinued new d (star_of p) k
star_onward st mid uni new nothing s e k f both d p tidy g1 g2 g3 a silent ik united h =
    star_continued mid uni new nothing e k f both d p tidy g2 g3 (continued_grow st mid e p nothing g1 a.recording)
    (leaves_grow st mid nothing (λ pk. []) g1 a.none) silent (g1.ids k ik) united h

-- diagrams of parts are so in a store that grew
of_grow : (P : StoreState → ℕ → Policy → Type 0) → ((old new : StoreState) (d : ℕ) (p : Policy) → Grows old new → P old d p → P new d p) →
    (st new : StoreState) (ids : List ℕ) (ps : Policies) → Grows st new → AreOf P st ids ps → AreOf P new ids ps
of_grow P mono st new ids ps g a = record {
  from = λ d h. let r = a.from d h in (r.0, r.1, mono st new d r.0 g r.2);
  to = λ p i. let r = a.to p i in (r.0, r.1, mono st new r.0 p g r.2);
}

-- both ways of a sum's parts together
pub sum_ways : (st mid new : StoreState) (nothing s e : ℕ) (silents alone records first : List ℕ) (ps : Policies) → alone ≡ silents →
    first ≡ records → Grows st mid → Grows mid new → HasLeaves st nothing (λ pk. []) → AreOf IsSilent st silents ps →
    AreOf (IsOnward nothing) st records ps → HasLeaves mid s (λ pk. unions st alone 0 (length alone) pk) →
    HasLeaves new e (λ pk. unions mid first 0 (length first) pk) → AreWays new s e nothing (sum_of ps)
sum_ways st mid new nothing s e silents alone records first ps same1 same2 g1 g2 none a b h1 h2 = record {
  silently = silent_grow mid new s (sum_of ps) g2 (sum_silent st mid silents alone ps s same1 g1 a h1);
  recording =
      sum_continued mid new records first ps nothing e same2 g2 (g1.ids nothing none.id)
      (of_grow (IsOnward nothing) (λ old new d p g h. continued_grow old new d p nothing g h) st mid records ps g1 b) h2;
  none = leaves_grow st new nothing (λ pk. []) (grows_on st mid new g1 g2) none;
}
