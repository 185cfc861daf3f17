-- How an answer goes out.
use Rattle.std.specs.Prelude.{◌≡◌, ◌⊎◌, MatchBool}
use Rattle.nk_reply.specs.declared.status.Status.{Status}
use Rattle.nk_reply.specs.declared.status.Status.TheVariants.{Done, Differs, WriteFault}
use Rattle.nk_reply.specs.Answer.{Answer, goes_out}
use Rattle.nk_reply.specs.Use.{FailedAt, IsUntouched, Took, Use}

-- the sink that the answer goes to took the whole of it, and the other was not touched
abbrev pub IsSentWhole : Answer → Use → Use → Type 0
IsSentWhole a out err = MatchBool (goes_out a.status)
    (Took out a.text × IsUntouched err) (Took err a.text × IsUntouched out)

-- the sink that the answer goes to failed at it, and the other was not touched
abbrev pub FailsIn : Answer → Use → Use → Type 0
FailsIn a out err = MatchBool (goes_out a.status)
    (FailedAt out a.text × IsUntouched err) (FailedAt err a.text × IsUntouched out)

-- the answer went out whole, or its sink failed at it
abbrev pub Delivers : Answer → Use → Use → Status → Type 0
Delivers a out err s =
    ((s ≡ a.status) × IsSentWhole a out err) ⊎ ((s ≡ WriteFault) × FailsIn a out err)

-- Of two facts about `out` and `err`, the one of the sink that a run with this status leaves alone.
abbrev pub LeavesAlone : Status → Type 0 → Type 0 → Type 0
LeavesAlone Done out err = err
LeavesAlone Differs out err = err
LeavesAlone WriteFault out err = out ⊎ err
LeavesAlone s out err = out
