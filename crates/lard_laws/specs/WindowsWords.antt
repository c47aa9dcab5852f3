-- What the segments of a client say of it.
use Rattle.std.specs.Prelude.{◌≡◌, ◌+◌, ◌≤◌, ℕ, true, false, List, Option, Some, None, Ok}
use Rattle.lard_law_view.specs.Prelude.{Client, ClientBlock, Conn, Front, Has, Letter, Message, Node, Place, Said, Station, ToClient, ToCluster, decoded, decoded_message, is_client_open, seg_len, seq_offset, symbols}
use Rattle.lard_history.proofs.Each.{Each}
use Rattle.lard_message.specs.declared.message.Body.TheVariants as body

-- The number is the one that a segment to the client acknowledges, which was sent and is no reset.
pub record IsRefused (c : ℕ) (letters : List Letter) (number : ℕ) : Type 0 where
  pub letter : Letter
  pub said : Said
  pub has : Has letter letters
  pub to : letter.to ≡ Client c
  pub read : decoded letter.bytes c ToClient ≡ Ok said
  pub acks : said.flags.ack ≡ true
  pub plain : said.flags.rst ≡ false
  pub same : number ≡ said.ack

-- Of a segment of this client: it has no number beyond the client's symbols, nor beyond those that were sent. A client that resets is open no more; its reset has no
-- symbol, and one without ACK refuses a segment to it.
pub record FitsClient (c : ℕ) (x : ClientBlock) (letters : List Letter) (s : Said) : Type 0 where
  pub within : s.flags.rst ≡ false → seq_offset s.seq x.send.iss + seg_len s ≤ symbols x.send
  pub sent : s.flags.rst ≡ false → seq_offset s.seq x.send.iss + seg_len s ≤ x.send.nxt
  pub closed : s.flags.rst ≡ true → is_client_open x ≡ false
  pub bare : s.flags.rst ≡ true → seg_len s ≡ 0
  pub refuses : s.flags.rst ≡ true → s.flags.ack ≡ false → IsRefused c letters s.seq

abbrev pub BytesFit : ℕ → ClientBlock → List Letter → List ℕ → Type 0
BytesFit c x letters bytes = (s : Said) → decoded bytes c ToCluster ≡ Ok s → FitsClient c x letters s

abbrev pub WordFitsOn : ℕ → ClientBlock → List Letter → Place → Place → List ℕ → Type 0
WordFitsOn c x letters (Client d) Front bytes = BytesFit c x letters bytes
WordFitsOn c x letters _ _ bytes = Unit {0}

abbrev pub WordFits : ℕ → ClientBlock → List Letter → Letter → Type 0
WordFits c x letters l = WordFitsOn c x letters l.from l.to l.bytes

-- before its client opened there are none
abbrev pub IsNoWordOn : Place → Place → Type 0
IsNoWordOn (Client d) Front = ⊥
IsNoWordOn _ _ = Unit {0}

abbrev pub IsNoWord : Letter → Type 0
IsNoWord l = IsNoWordOn l.from l.to

abbrev pub FitsOn : Conn → Option Station → Type 0
FitsOn x None = Each IsNoWord x.letters
FitsOn x (Some s) = Each (WordFits x.c s.client x.letters) x.letters

abbrev pub HasFittingWords : Conn → Type 0
HasFittingWords x = FitsOn x x.part.station

-- ---- how a client starts

-- It has a window, and sends its SYN alone until it is established.
pub record Starts (x : ClientBlock) : Type 0 where
  pub window : 1 ≤ x.wnd
  pub first : x.send.una ≡ 0 → x.send.nxt ≤ 1

abbrev pub StartsOn : Option Station → Type 0
StartsOn None = Unit {0}
StartsOn (Some s) = Starts s.client

abbrev pub HasStarted : Conn → Type 0
HasStarted x = StartsOn x.part.station

-- ---- what the front end forwards

-- its bytes were a packet of the client's
abbrev pub ForwardWasOn : ℕ → List Letter → Place → Place → List ℕ → Type 0
ForwardWasOn c letters Front (Node n) bytes = (m : Message) (segment : List ℕ) → decoded_message bytes ≡ Ok m → m.body ≡ body.Forward segment → Has (record { from = Client c; to = Front; bytes = segment }) letters
ForwardWasOn c letters _ _ bytes = Unit {0}

abbrev pub ForwardWas : ℕ → List Letter → Letter → Type 0
ForwardWas c letters l = ForwardWasOn c letters l.from l.to l.bytes

abbrev pub ForwardsWere : Conn → Type 0
ForwardsWere x = Each (ForwardWas x.c x.letters) x.letters
