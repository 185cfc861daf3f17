-- Of four kinds of answer, each with at most one text and no two at once, there is one.
use Rattle.std.proofs.Common.{◌≡◌, ℕ, List, ap}
use Rattle.nk_reply.specs.Outcome.{Outcome, done, differs, text_refused, policy_refused}

-- at most one text is so
abbrev pub Once : (List ℕ → Type 0) → Type 0
Once P = (x y : List ℕ) → P x → P y → x ≡ y

-- not both are so
abbrev pub NotBoth : (List ℕ → Type 0) → (List ℕ → Type 0) → Type 0
NotBoth P Q = (x y : List ℕ) → P x → Q y → ⊥

-- what each kind of answer needs
abbrev pub IsKind : (Fault Held Other Lacking : List ℕ → Type 0) → Outcome → Type 0
IsKind Fault Held Other Lacking (text_refused t) = Fault t
IsKind Fault Held Other Lacking (done t) = Held t
IsKind Fault Held Other Lacking (differs t) = Other t
IsKind Fault Held Other Lacking (policy_refused t) = Lacking t

pub record AreApart (Fault Held Other Lacking : List ℕ → Type 0) : Type 0 where
  pub one_fault : Once Fault
  pub one_held : Once Held
  pub one_other : Once Other
  pub one_lacking : Once Lacking
  pub held_fault : NotBoth Held Fault
  pub other_fault : NotBoth Other Fault
  pub lacking_fault : NotBoth Lacking Fault
  pub held_other : NotBoth Held Other
  pub held_lacking : NotBoth Held Lacking
  pub other_lacking : NotBoth Other Lacking

pub one_kind : (F H O L : List ℕ → Type 0) → AreApart F H O L → (o p : Outcome) → IsKind F H O L o → IsKind F H O L p → o ≡ p
one_kind F H O L a (text_refused x) (text_refused y) h k = ap text_refused (a.one_fault x y h k)
one_kind F H O L a (text_refused x) (done y) h k = absurd (a.held_fault y x k h)
one_kind F H O L a (text_refused x) (differs y) h k = absurd (a.other_fault y x k h)
one_kind F H O L a (text_refused x) (policy_refused y) h k = absurd (a.lacking_fault y x k h)
one_kind F H O L a (done x) (text_refused y) h k = absurd (a.held_fault x y h k)
one_kind F H O L a (done x) (done y) h k = ap done (a.one_held x y h k)
one_kind F H O L a (done x) (differs y) h k = absurd (a.held_other x y h k)
one_kind F H O L a (done x) (policy_refused y) h k = absurd (a.held_lacking x y h k)
one_kind F H O L a (differs x) (text_refused y) h k = absurd (a.other_fault x y h k)
one_kind F H O L a (differs x) (done y) h k = absurd (a.held_other y x k h)
one_kind F H O L a (differs x) (differs y) h k = ap differs (a.one_other x y h k)
one_kind F H O L a (differs x) (policy_refused y) h k = absurd (a.other_lacking x y h k)
one_kind F H O L a (policy_refused x) (text_refused y) h k = absurd (a.lacking_fault x y h k)
one_kind F H O L a (policy_refused x) (done y) h k = absurd (a.held_lacking y x k h)
one_kind F H O L a (policy_refused x) (differs y) h k = absurd (a.other_lacking y x k h)
one_kind F H O L a (policy_refused x) (policy_refused y) h k = ap policy_refused (a.one_lacking x y h k)
