-- What no operation of a client changes: the number of its connection, its window and its segment size. And what it
-- holds lies in its window.
use Rattle.std.proofs.Common.{◌≡◌, ◌≤◌, ◌+◌, ◌-◌, ℕ, Bool, true, false, cond, arith, refl}
use Rattle.lard_law_view.specs.Prelude.{ClientBlock, Said, client_after_emit, client_after_timer, client_arrived, fresh_len}
use Rattle.lard_rules.proofs.Hearing.{acked, arrived-keeps, client-emit-keeps, client-timer-keeps}

abbrev pub IsLike : ClientBlock → ClientBlock → Type 0
IsLike x y = (y.c ≡ x.c) × (y.wnd ≡ x.wnd) × (y.mss ≡ x.mss) × (x.held ≤ x.wnd → y.held ≤ y.wnd)

pub alike : (x : ClientBlock) → IsLike x x
alike x = (refl, refl, refl, λ h. h)

-- ---- what it sends: it accepts nothing with that

abbrev pub IsLeft : ClientBlock → ClientBlock → Type 0
IsLeft x y = IsLike x y × (y.accepted ≡ x.accepted)

left-alike : (x : ClientBlock) → IsLeft x x
left-alike x = (alike x, refl)

pub emit-alike : (x : ClientBlock) → IsLeft x (client_after_emit x)
emit-alike x = let same = left-alike x in client-emit-keeps (IsLeft x) x same same same

pub timer-alike : (x : ClientBlock) → IsLeft x (client_after_timer x)
timer-alike x = let same = left-alike x in client-timer-keeps (IsLeft x) x same same

-- ---- a segment comes

-- what is accepted fits into what its window leaves
held-within : (holding : Bool) (held wnd n : ℕ) → n ≤ wnd - held → held ≤ wnd → held + cond holding n 0 ≤ wnd
held-within true held wnd n fits h = omega arith
held-within false held wnd n fits h = omega arith

pub arrived-alike : (x : ClientBlock) (s : Said) → IsLike x (client_arrived x s).1
arrived-alike x s = arrived-keeps x s (λ r. IsLike x r.1) (record {
  refuses = λ e. same;
  ignores = λ e. same;
  learns = λ e t plain. same;
  takes = λ e. record {
    rests = λ owed. same;
    resets = λ t. same;
    acks = λ owed c. same;
    accepts = λ c in_order going. (refl, refl, refl, held-within x.holding x.held x.wnd (fresh_len (acked x s true) s) (omega arith));
  };
}) where
  same : IsLike x x
  same = alike x
