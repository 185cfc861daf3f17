-- Following the last level alone is enough.
use Rattle.std.proofs.Common.{◌≡◌, ℕ, zero, suc, ◌<◌, ◌≤◌, ◌+◌, ◌⊎◌, inl, inr, sym, subst, arith}
use Rattle.std.proofs.lemmas.Bool.Decides.{eqb_tells}
use Rattle.nk_determ.specs.Reach.{Reach, Exact}

-- what is in none of the first levels is not reached in so few steps
pub not_before : {N : Type 0} (Start : N → Type 0) (Step : N → N → Type 0) (Good : N → Type 0) (Lev : ℕ → N → Type 0) (k b : ℕ) (n : N) → Exact Start Step Good Lev k → b ≤ k → ((j : ℕ) → j < b → Lev j n → ⊥) → (j : ℕ) → j < b → Reach Start Step j n → ⊥
not_before Start Step Good Lev k zero n e l none j h r = absurd (omega (arith, h))
not_before Start Step Good Lev k (suc b) n e l none j h r =
    let before : (i : ℕ) → i < b → Reach Start Step i n → ⊥ = not_before Start Step Good Lev k b n e (omega (arith, l)) (λ i m v. none i (omega (arith, m)) v) in
    elim (eqb_tells j b) [
      | inl same ↦ none b (omega arith) (e.full b n (omega (arith, l)) (subst (λ i. Reach Start Step i n) same.1 r) before)
      | inr other ↦ before j (omega (arith, h, other.1)) r
    ]

-- the level after the first h + 1
pub record IsNext {N : Type 0} (Step : N → N → Type 0) (Good : N → Type 0) (Lev : ℕ → N → Type 0) (h : ℕ) (Next : N → Type 0) : Type 0 where
  pub from : (n : N) → Good n → Next n → (m : N) × Good m × Lev h m × Step m n
  pub fresh : (n : N) → Good n → Next n → (j : ℕ) → j < h + 1 → Lev j n → ⊥
  pub every : (m n : N) → Good m → Lev h m → Step m n → ((j : ℕ) → j < h + 1 → Lev j n → ⊥) → Next n

-- each thing that is reached is good
pub reach_good : {N : Type 0} (Start : N → Type 0) (Step : N → N → Type 0) (Good : N → Type 0) → ((n : N) → Start n → Good n) → ((m n : N) → Step m n → Good n) → (i : ℕ) (n : N) → Reach Start Step i n → Good n
reach_good Start Step Good s t zero n r = s n r
reach_good Start Step Good s t (suc i) n r = t r.0 n r.2

-- one exact level more
pub exact_push : {N : Type 0} (Start : N → Type 0) (Step : N → N → Type 0) (Good : N → Type 0) (Lev New : ℕ → N → Type 0) (Next : N → Type 0) (h : ℕ) → ((n : N) → Start n → Good n) → ((m n : N) → Step m n → Good n) → Exact Start Step Good Lev (h + 1) → IsNext Step Good Lev h Next → ((i : ℕ) (n : N) → i < h + 1 → New i n → Lev i n) → ((i : ℕ) (n : N) → i < h + 1 → Lev i n → New i n) → ((n : N) → New (h + 1) n → Next n) → ((n : N) → Next n → New (h + 1) n) → Exact Start Step Good New (h + 1 + 1)
exact_push {N} Start Step Good Lev New Next h gs gt e next back on last_back last_on =
    let up : h + 1 ≡ suc h = omega arith in
    let below : (i : ℕ) → i < h + 1 + 1 → (i ≡ h + 1 → ⊥) → i < h + 1 = λ i l ne. omega (arith, l, ne) in
    let gone : (n : N) → Next n → Good n → (j : ℕ) → j < h + 1 → Reach Start Step j n → ⊥ = λ n v g. not_before Start Step Good Lev (h + 1) (h + 1) n e (omega arith) (next.fresh n g v) in
    record {
      sound = λ i n l g v. elim (eqb_tells i (h + 1)) [
        | inl same ↦
            let w = next.from n g (last_back n (subst (λ k. New k n) same.1 v)) in
            let made : Reach Start Step (suc h) n = (w.0, e.sound h w.0 (omega arith) w.1 w.2, w.3) in
            subst (λ k. Reach Start Step k n) (sym same.1) (subst (λ k. Reach Start Step k n) (sym up) made)
        | inr other ↦ e.sound i n (below i l other.1) g (back i n (below i l other.1) v)
      ];
      first = λ i j n l g v m r. elim (eqb_tells i (h + 1)) [
        | inl same ↦ gone n (last_back n (subst (λ k. New k n) same.1 v)) g j (omega (arith, m, same.1)) r
        | inr other ↦ e.first i j n (below i l other.1) g (back i n (below i l other.1) v) m r
      ];
      full = λ i n l r none. elim (eqb_tells i (h + 1)) [
        | inl same ↦
            let q : Reach Start Step (suc h) n = subst (λ k. Reach Start Step k n) up (subst (λ k. Reach Start Step k n) same.1 r) in
            let g : Good n = gt q.0 n q.2 in
            let gm : Good q.0 = reach_good Start Step Good gs gt h q.0 q.1 in
            let was : Lev h q.0 = e.full h q.0 (omega arith) q.1 (λ j b rj. none (suc j) (omega (arith, b, same.1)) (q.0, rj, q.2)) in
            let here : New (h + 1) n = last_on n (next.every q.0 n gm was q.2 (λ j b v. none j (omega (arith, b, same.1)) (e.sound j n b g v))) in
            subst (λ k. New k n) (sym same.1) here
        | inr other ↦ on i n (below i l other.1) (e.full i n (below i l other.1) r none)
      ];
    }

-- the first level alone
pub exact_start : {N : Type 0} (Start : N → Type 0) (Step : N → N → Type 0) (Good : N → Type 0) (Lev : ℕ → N → Type 0) → ((n : N) → Good n → Lev 0 n → Start n) → ((n : N) → Start n → Lev 0 n) → Exact Start Step Good Lev 1
exact_start Start Step Good Lev back on = record {
  sound = λ i n l g v. let z : i ≡ 0 = omega (arith, l) in subst (λ k. Reach Start Step k n) (sym z) (back n g (subst (λ k. Lev k n) z v));
  first = λ i j n l g v m r. absurd (omega (arith, l, m));
  full = λ i n l r none. let z : i ≡ 0 = omega (arith, l) in subst (λ k. Lev k n) (sym z) (on n (subst (λ k. Reach Start Step k n) z r));
}

-- whether something is in one of the first b levels
pub some_before : {N : Type 0} (Good : N → Type 0) (Lev : ℕ → N → Type 0) (k : ℕ) (n : N) → Good n → ((j : ℕ) (n : N) → j < k → Good n → Lev j n ⊎ (Lev j n → ⊥)) → (b : ℕ) → b ≤ k → ((j : ℕ) × (j < b) × Lev j n) ⊎ ((j : ℕ) → j < b → Lev j n → ⊥)
some_before Good Lev k n g dec zero l = inr (λ j m v. absurd (omega (arith, m)))
some_before Good Lev k n g dec (suc b) l =
    elim (some_before Good Lev k n g dec b (omega (arith, l))) [
      | inl found ↦ inl (found.0, omega (arith, found.1), found.2)
      | inr none ↦ elim (dec b n (omega (arith, l)) g) [
        | inl here ↦ inl (b, omega arith, here)
        | inr not ↦ inr (λ j m v. elim (eqb_tells j b) [
          | inl same ↦ not (subst (λ i. Lev i n) same.1 v)
          | inr other ↦ none j (omega (arith, m, other.1)) v
        ])
      ]
    ]

-- where nothing new follows the last level, all that is reached was visited
pub complete : {N : Type 0} (Start : N → Type 0) (Step : N → N → Type 0) (Good : N → Type 0) (Lev : ℕ → N → Type 0) (h : ℕ) → ((n : N) → Start n → Good n) → ((m n : N) → Step m n → Good n) → Exact Start Step Good Lev (h + 1) → ((j : ℕ) (n : N) → j < h + 1 → Good n → Lev j n ⊎ (Lev j n → ⊥)) → ((m n : N) → Good m → Lev h m → Step m n → ((j : ℕ) → j < h + 1 → Lev j n → ⊥) → ⊥) → (i : ℕ) (n : N) → Reach Start Step i n → (j : ℕ) × (j ≤ i) × (j < h + 1) × Lev j n
complete Start Step Good Lev h gs gt e dec closed zero n r = (0, omega arith, omega arith, e.full 0 n (omega arith) r (λ j l q. absurd (omega (arith, l))))
complete Start Step Good Lev h gs gt e dec closed (suc i) n r =
    let was = complete Start Step Good Lev h gs gt e dec closed i r.0 r.1 in
    let j = was.0 in
    let g : Good n = gt r.0 n r.2 in
    let gm : Good r.0 = reach_good Start Step Good gs gt i r.0 r.1 in
    elim (eqb_tells j h) [
      | inl same ↦ elim (some_before Good Lev (h + 1) n g dec (h + 1) (omega arith)) [
        | inl found ↦ (found.0, omega (arith, found.1, was.1, same.1), found.1, found.2)
        | inr none ↦ absurd (closed r.0 n gm (subst (λ k. Lev k r.0) same.1 was.3) r.2 none)
      ]
      | inr other ↦ elim (some_before Good Lev (h + 1) n g dec (suc j) (omega (arith, was.2))) [
        | inl found ↦ (found.0, omega (arith, found.1, was.1), omega (arith, found.1, was.2), found.2)
        | inr none ↦
            let within : suc j < h + 1 = omega (arith, was.2, other.1) in
            let r1 : Reach Start Step (suc j) n = (r.0, e.sound j r.0 was.2 gm was.3, r.2) in
            (suc j, omega (arith, was.1), within, e.full (suc j) n within r1 (not_before Start Step Good Lev (h + 1) (suc j) n e (omega (arith, was.2)) none))
      ]
    ]
