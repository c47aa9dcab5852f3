-- Each rule keeps how far windows reach, so it is in every run.
use Rattle.std.proofs.Common.{◌≡◌, ◌≤◌, ◌^◌, false}
use Rattle.lard_law_connections.specs.BytesAgreement.{IsTruthful}
use Rattle.lard_law_connections.proofs.BytesRuns.{states-truthful}
use Rattle.lard_law_connections.proofs.PlacesRuns.{each-placed}
use Rattle.lard_law_connections.proofs.PlacesTurns.{IsPlaced}
use Rattle.lard_base.proofs.Usable.{usable}
use Rattle.lard_law_view.specs.Prelude.{Conn, IsUntouchedLaw, MayRestOn, Move, Setting, Untouched, UntouchedRules, grown, nothing_said, packet_seen, setting, tale_at, with_leaving}
use Rattle.lard_law_view.proofs.Carried.{carried}
use Rattle.lard_law_view.proofs.Fine.{IsFine, fine}
use Rattle.lard_law_view.proofs.Guarded.{untouched-both, untouched-law, untouched-weaker}
use Rattle.lard_laws.specs.WindowsLaws.{WindowsReach}
use Rattle.lard_laws.specs.Windows.{IsReaching}
use Rattle.lard_laws.proofs.WindowsOpen as known
use Rattle.lard_laws.proofs.WindowsFrontRules.{front-rules}
use Rattle.lard_laws.proofs.WindowsNodeRules.{node-rules, stands-rule}
use Rattle.lard_laws.proofs.WindowsClientRules.{client-rules}

module _ (k : Setting) (small : k.stream ≤ 2 ^ 30) where
  abbrev Keeps : Conn → Move → Type 0
  Keeps x v = known.Keeps k small x v

  -- ---- the law

  keeps : UntouchedRules k Keeps
  keeps = record {
    client = client-rules k small;
    front = front-rules k small;
    node = node-rules k small;
    ignores = λ x from to bytes was. stands-rule k small x to (packet_seen from to bytes) nothing_said (λ c isn iss u. tt);
  }

  -- where it sits, and that it agrees
  abbrev pub Given : Conn → Type 0
  Given x = IsPlaced x × Untouched (IsTruthful k.files) x

  abbrev Wanted : Conn → Move → Type 0
  Wanted x v = MayRestOn Given x → (tale_at x).touched ≡ false → IsReaching x → IsReaching (grown x v)

  abbrev Owed : Conn → Move → Type 0
  Owed x v = IsFine x v × Keeps x v

  wanted : (x : Conn) (v : Move) → Owed x v → Wanted x v
  wanted x v owed may untouched h = owed.1
      (record { number = may.number; sound = may.sound; placed = may.given.0; truth = may.given.1 untouched; own = (owed.0 may.number may.sound).0 }) h

  reaching-law : IsUntouchedLaw k Given IsReaching
  reaching-law = record {
    begins = λ c. tt;
    moves = untouched-weaker k Owed Wanted wanted (untouched-both k IsFine Keeps (fine k).untouched keeps);
  }

-- In every state that events lead to.
pub windows-reach : WindowsReach
windows-reach config files checked =
    let k : Setting = setting config files in
    let small : k.stream ≤ 2 ^ 30 = (usable config checked).stream in
    carried config files (Given k small) (Untouched IsReaching) (λ l. untouched-law (with_leaving k l) (Given k small) IsReaching (reaching-law (with_leaving k l) small))
    (λ m r q. (each-placed config files checked m r q, states-truthful config files checked m r q))
