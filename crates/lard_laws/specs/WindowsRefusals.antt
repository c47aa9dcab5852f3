-- What the cluster refuses.
use Rattle.std.specs.Prelude.{◌≡◌, ℕ, true, false, List, Ok}
use Rattle.lard_law_view.specs.Prelude.{Client, Conn, Front, Has, Letter, Node, Place, Said, ToClient, ToCluster, decoded, seg_len}
use Rattle.lard_history.proofs.Each.{Each}

-- The number is the one that a segment of the client's acknowledges, which was sent and is no reset.
pub record IsTurnedDown (c : ℕ) (letters : List Letter) (number : ℕ) : Type 0 where
  pub bytes : List ℕ
  pub said : Said
  pub has : Has (record { from = Client c; to = Front; bytes = bytes }) letters
  pub read : decoded bytes c ToCluster ≡ Ok said
  pub acks : said.flags.ack ≡ true
  pub plain : said.flags.rst ≡ false
  pub same : number ≡ said.ack

-- A reset to the client without ACK has no symbol, and refuses a segment of the client's.
pub record IsRefusal (c : ℕ) (letters : List Letter) (s : Said) : Type 0 where
  pub bare : seg_len s ≡ 0
  pub refuses : IsTurnedDown c letters s.seq

abbrev pub BytesRefuse : ℕ → List Letter → List ℕ → Type 0
BytesRefuse c letters bytes = (s : Said) → decoded bytes c ToClient ≡ Ok s → s.flags.rst ≡ true → s.flags.ack ≡ false → IsRefusal c letters s

abbrev pub RefusesOn : ℕ → List Letter → Place → Place → List ℕ → Type 0
RefusesOn c letters Front (Client d) bytes = BytesRefuse c letters bytes
RefusesOn c letters (Node n) (Client d) bytes = BytesRefuse c letters bytes
RefusesOn c letters _ _ bytes = Unit {0}

abbrev pub RefusesLetter : ℕ → List Letter → Letter → Type 0
RefusesLetter c letters l = RefusesOn c letters l.from l.to l.bytes

abbrev pub RefusesSegments : Conn → Type 0
RefusesSegments x = Each (RefusesLetter x.c x.letters) x.letters
