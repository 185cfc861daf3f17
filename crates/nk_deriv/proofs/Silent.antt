-- Runs without a record, and first records: of a sequence, of a star, of a link literal.
use Rattle.std.proofs.Common.{◌≡◌, ℕ, zero, suc, ◌⊎◌, inl, inr, ⊎_elim, ◌↔◌, [], refl, sym, subst}
use Rattle.nk_field.specs.declared.packet.Packet.{Packet}
use Rattle.nk_policy.specs.Policy.{Policy, Policies, seq_of, star_of, dup, no_part, part}
use Rattle.nk_policy.specs.Meaning.{Gives, Runs, rounds, way_of}
use Rattle.nk_policy.specs.Progress.{numbered, RecordsAt}
use Rattle.nk_policy.proofs.ListParts.{none_left, none_right, map_empty}
use Rattle.nk_policy.proofs.LabelSteps.{gives_is_runs}

-- what ends without a record does so as a run
pub runs_of : (p : Policy) (pk x : Packet) → Gives p pk [] x → Runs p pk [] x
runs_of p pk x g =
    let r = (gives_is_runs p pk [] x).0 g in
    subst (λ v. Runs p pk v x) (map_empty (λ s. s.0) r.0 r.1) r.2

-- and back
pub gives_of : (p : Policy) (pk x : Packet) → Runs p pk [] x → Gives p pk [] x
gives_of p pk x r = (gives_is_runs p pk [] x).1 ([], refl, r)

-- a sequence without a record: its first part, then the parts after it
pub seq_ends : (p : Policy) (ps : Policies) (pk x : Packet)
    → Gives (seq_of (part p ps)) pk [] x ↔ ((z : Packet) × Gives p pk [] z × Gives (seq_of ps) z [] x)
seq_ends p ps pk x = (
  λ g.
      (g.2, subst (λ u. Gives p pk u g.2) (none_left g.0 g.1 g.3) g.4, subst (λ v. Gives (seq_of ps) g.2 v x) (none_right g.0 g.1 g.3) g.5),
  λ g. ([], [], g.0, refl, g.1, g.2),
)

-- what a sequence records first: its first part does, or that ends and the parts after it do
pub seq_records : (p : Policy) (ps : Policies) (pk y : Packet) (l : ℕ)
    → RecordsAt (seq_of (part p ps)) pk [] y l
    ↔ (RecordsAt p pk [] y l ⊎ ((z : Packet) × Gives p pk [] z × RecordsAt (seq_of ps) z [] y l))
seq_records p ps pk y l = (
  λ r.
      ⊎_elim
      (λ a. inl a)
      (λ b.
      inr (b.2, gives_of p pk b.2 (subst (λ u. Runs p pk u b.2) (none_left b.0 b.1 b.3) b.4), subst (λ v. RecordsAt (seq_of ps) b.2 v y l) (none_right b.0 b.1 b.3) b.5))
      r,
  λ r.
      ⊎_elim
      (λ a. inl a)
      (λ b. inr ([], [], b.0, refl, runs_of p pk b.0 b.1, b.2))
      r,
)

-- no part at all keeps the packet
pub none_ends : (pk x : Packet) → Gives (seq_of no_part) pk [] x ↔ (x ≡ pk)
none_ends pk x = (λ g. g.1, λ e. (refl, e))

-- what a star records first: some rounds end, and then its policy does
pub star_records : (p : Policy) (pk y : Packet) (l : ℕ)
    → RecordsAt (star_of p) pk [] y l
    ↔ ((z : Packet) × Gives (star_of p) pk [] z × RecordsAt p z [] y l)
star_records p pk y l = (
  λ r.
      ⊎_elim
      (λ a. absurd a)
      (λ b.
      (b.2, gives_of (star_of p) pk b.2 (r.0, subst (λ u. rounds r.0 (way_of p numbered) pk u b.2) (none_left b.0 b.1 b.3) b.4), subst (λ v. RecordsAt p b.2 v y l) (none_right b.0 b.1 b.3) b.5))
      r.1,
  λ r.
      let w = runs_of (star_of p) pk r.0 r.1 in
      (w.0, inr ([], [], r.0, refl, w.1, r.2)),
)

-- rounds of a policy without a record are rounds of any other that ends where it does
rounds_as : (p q : Policy) → ((pk x : Packet) → Gives p pk [] x → Gives q pk [] x)
    → (n : ℕ) (pk x : Packet) → rounds n (way_of p (λ l x. x)) pk [] x → rounds n (way_of q (λ l x. x)) pk [] x
rounds_as p q f zero pk x r = r
rounds_as p q f (suc n) pk x r =
    let here = f pk r.2 (subst (λ u. Gives p pk u r.2) (none_left r.0 r.1 r.3) r.4) in
    let later = rounds_as p q f n r.2 x (subst (λ v. rounds n (way_of p (λ l x. x)) r.2 v x) (none_right r.0 r.1 r.3) r.5) in
    ([], [], r.2, refl, here, later)

-- so are stars
pub star_as : (p q : Policy) → ((pk x : Packet) → Gives p pk [] x → Gives q pk [] x)
    → (pk x : Packet) → Gives (star_of p) pk [] x → Gives (star_of q) pk [] x
star_as p q f pk x g = (g.0, rounds_as p q f g.0 pk x g.1)

-- rounds of what drops each packet are none
no_more : (p : Policy) → ((pk x : Packet) → Gives p pk [] x → ⊥)
    → (n : ℕ) (pk x : Packet) → rounds n (way_of p (λ l x. x)) pk [] x → x ≡ pk
no_more p none zero pk x r = r.1
no_more p none (suc n) pk x r =
    absurd (none pk r.2 (subst (λ u. Gives p pk u r.2) (none_left r.0 r.1 r.3) r.4))

-- rounds of what drops each packet keep the packet
pub no_rounds : (p : Policy) → ((pk x : Packet) → Gives p pk [] x → ⊥)
    → (pk x : Packet) → Gives (star_of p) pk [] x → x ≡ pk
no_rounds p none pk x g = no_more p none g.0 pk x g.1

-- no star at all keeps the packet
pub star_none : (p : Policy) (pk x : Packet) → x ≡ pk → Gives (star_of p) pk [] x
star_none p pk x e = (zero, (refl, e))

-- two policies and then a dup record before they end
pub dup_third_ends : (p q : Policy) (k : ℕ) (ps : Policies) (pk x : Packet)
    → Gives (seq_of (part p (part q (part (dup k) ps)))) pk [] x → ⊥
dup_third_ends p q k ps pk x g =
    let s = (seq_ends p (part q (part (dup k) ps)) pk x).0 g in
    let t = (seq_ends q (part (dup k) ps) s.0 x).0 s.2 in
    let d = (seq_ends (dup k) ps t.0 x).0 t.2 in
    let e = d.1.0 in absurd cc

-- where they record nothing themselves, they record first at that dup, where both end
pub dup_third_records : (p q : Policy) (k : ℕ) (ps : Policies)
    → ((pk y : Packet) (l : ℕ) → RecordsAt p pk [] y l → ⊥)
    → ((pk y : Packet) (l : ℕ) → RecordsAt q pk [] y l → ⊥)
    → (pk y : Packet) (l : ℕ)
    → ((k ≡ l) × Gives (seq_of (part p (part q no_part))) pk [] y)
    ↔ RecordsAt (seq_of (part p (part q (part (dup k) ps)))) pk [] y l
dup_third_records p q k ps f h pk y l = (
  λ r.
      let s = (seq_ends p (part q no_part) pk y).0 r.1 in
      let t = (seq_ends q no_part s.0 y).0 s.2 in
      let is : y ≡ t.0 = (none_ends t.0 y).0 t.2 in
      let third = (seq_records (dup k) ps t.0 y l).1 (inl (refl, is, sym r.0)) in
      let second = (seq_records q (part (dup k) ps) s.0 y l).1 (inr (t.0, t.1, third)) in
      (seq_records p (part q (part (dup k) ps)) pk y l).1 (inr (s.0, s.1, second)),
  λ r.
      ⊎_elim
      (λ s. absurd (f pk y l s))
      (λ s.
      ⊎_elim
      (λ t. absurd (h s.0 y l t))
      (λ t.
      ⊎_elim
      (λ d.
      let last = (seq_ends q no_part s.0 y).1 (t.0, t.1, (none_ends t.0 y).1 d.1) in
      (sym d.2, (seq_ends p (part q no_part) pk y).1 (s.0, s.1, last)))
      (λ d. let e = d.1.0 in absurd cc)
      ((seq_records (dup k) ps t.0 y l).0 t.2))
      ((seq_records q (part (dup k) ps) s.0 y l).0 s.2))
      ((seq_records p (part q (part (dup k) ps)) pk y l).0 r),
)

-- a sequence that begins with the policy that keeps each packet
pub id_first_ends : (ps : Policies) (pk x : Packet)
    → Gives (seq_of (part (seq_of no_part) ps)) pk [] x → Gives (seq_of ps) pk [] x
id_first_ends ps pk x g =
    let s = (seq_ends (seq_of no_part) ps pk x).0 g in
    subst (λ z. Gives (seq_of ps) z [] x) ((none_ends pk s.0).0 s.1) s.2

-- and what it records
pub id_first_records : (ps : Policies) (pk y : Packet) (l : ℕ)
    → RecordsAt (seq_of ps) pk [] y l ↔ RecordsAt (seq_of (part (seq_of no_part) ps)) pk [] y l
id_first_records ps pk y l = (
  λ r. (seq_records (seq_of no_part) ps pk y l).1 (inr (pk, (none_ends pk pk).1 refl, r)),
  λ r.
      ⊎_elim
      (λ a. absurd a)
      (λ b. subst (λ z. RecordsAt (seq_of ps) z [] y l) ((none_ends pk b.0).0 b.1) b.2)
      ((seq_records (seq_of no_part) ps pk y l).0 r),
)
