-- What follows where few bytes were written: an established client sent all that it has, and an endpoint has an open window.
use Rattle.std.proofs.Common.{◌≡◌, ℕ, List, Some, refl, subst}
use Rattle.lard_law_connections.proofs.PlacesFrontRules.{has-each}
use Rattle.lard_law_view.specs.Prelude.{Client, Conn, Front, Has, Node, SpellsMessage, Station, Was}
use Rattle.lard_laws.specs.WindowsWords.{BytesFit, ForwardWas, ForwardsWere, HasFittingWords, FitsOn, WordFits}
use Rattle.lard_message.specs.declared.message.Body.TheVariants as body

-- ---- a segment that was forwarded fits as the client's do

pub forward-fits : (x : Conn) (s : Station) → x.part.station ≡ Some s → HasFittingWords x → ForwardsWere x → (n epoch : ℕ) (segment bytes : List ℕ) → Was x Front (Node n) bytes → SpellsMessage x.c epoch (body.Forward segment) bytes → BytesFit x.c s.client x.letters segment
forward-fits x s there words were n epoch segment bytes was spells =
    let has : Has (record { from = Client x.c; to = Front; bytes = segment }) x.letters = (has-each (ForwardWas x.c x.letters) (record { from = Front; to = Node n; bytes = bytes }) x.letters was were) _ segment spells refl in
    has-each (WordFits x.c s.client x.letters) (record { from = Client x.c; to = Front; bytes = segment }) x.letters has (subst (FitsOn x) there words)
