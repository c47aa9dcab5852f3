-- An acknowledgement that tells nothing new comes to an endpoint that said all that it may: where the stay goes on without a unit, and
-- at the front end where nothing is read, nothing is sent.
use Rattle.std.proofs.Common.{◌≡◌, None, ap}
use Rattle.lard_law_view.specs.Prelude.{ControlBlock, Sending, emitted}
use Rattle.lard_law_progress.proofs.Silence.{IsLike, IsSilent, still-silent}
use Rattle.lard_law_progress.proofs.Stays.{IsAlike}

like-of : (s t : Sending) → t ≡ s → IsLike s t
like-of s t e = record { una = ap (λ (z : Sending). z.una) e; nxt = ap (λ (z : Sending). z.nxt) e; total = ap (λ (z : Sending). z.total) e; finished = ap (λ (z : Sending). z.finished) e; wnd = ap (λ (z : Sending). z.wnd) e; mss = ap (λ (z : Sending). z.mss) e }

-- one that is alike has nothing to say either
pub alike-none : (b d : ControlBlock) → IsSilent b → IsAlike b d → emitted d ≡ None
alike-none b d h a = still-silent b d h (like-of b.send d.send a.send) a.owed a.last_window a.reset
