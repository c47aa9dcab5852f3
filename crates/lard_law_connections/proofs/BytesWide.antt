-- An endpoint whose window fits a message, and its sending half.
use Rattle.lard_law_connections.specs.BytesAgreement.{IsWide}
use Rattle.lard_law_view.specs.Prelude.{ControlBlock}
use Rattle.lard_rules.proofs.Wide.{IsWideHalf}

pub half-wide : (b : ControlBlock) → IsWide b → IsWideHalf b.send
half-wide b h = record { wnd = h.wnd; wl1 = h.wl1; wl2 = h.wl2 }

pub wide-half : (b : ControlBlock) → IsWideHalf b.send → IsWide b
wide-half b h = record { wnd = h.wnd; wl1 = h.wl1; wl2 = h.wl2 }
