-- What a connection saw before a response whose content its node did not have at hand.
use Rattle.std.specs.Prelude.{◌≡◌, ℕ, List, [], ◌++◌, Ok}
use Rattle.lard_law_view.specs.Prelude.{Came, Client, Config, EachMay, Front, Has, IsReached, Machine, Node, Place, Rec, Row, Seen, Via, decoded_message, own}
use Rattle.lard_base.specs.declared.place.Via.TheVariants as via
use Rattle.lard_journal.specs.declared.rec.Rec.TheVariants as rec
use Rattle.lard_message.specs.declared.message.Body.TheVariants as body

-- Node n took connection c in this epoch, and this was seen behind that.
pub record SawBehind (past : List Seen) (n c epoch : ℕ) (it : Seen) : Type 0 where
  pub before : List Seen
  pub later : List Seen
  pub split : past ≡ before ++ later
  pub took : Has (Row (rec.Took (Node n) c (record { 0 = epoch }))) before
  pub saw : Has it later

-- its disk read a job of its own for request r
pub record WasRead (past : List Seen) (n c r : ℕ) : Type 0 where
  pub epoch : ℕ
  pub path : List ℕ
  pub read : SawBehind past n c epoch (Row (rec.Read n n c r path))

-- a content for request r came there from node m, of the epoch in which it took the connection
pub record HasCome (past : List Seen) (n m c r : ℕ) : Type 0 where
  pub epoch : ℕ
  pub file : List ℕ
  pub bytes : List ℕ
  pub came : SawBehind past n c epoch (Came (record { from = Node m; to = Node n; bytes = bytes }))
  pub reads : decoded_message bytes ≡ Ok (record { c = c; epoch = record { 0 = epoch }; body = body.Content r file })

-- the content was there before, by its way
abbrev pub WasThere : List Seen → ℕ → ℕ → ℕ → Via → Type 0
WasThere past n c r via.Own = Unit {0}
WasThere past n c r via.Cache = Unit {0}
WasThere past n c r via.Disk = WasRead past n c r
WasThere past n c r (via.Node m) = HasCome past n m c r

abbrev pub WasAtPlace : List Seen → Place → ℕ → ℕ → Via → Type 0
WasAtPlace past (Node n) c r way = WasThere past n c r way
WasAtPlace past Front c r way = Unit {0}
WasAtPlace past (Client d) c r way = Unit {0}

-- of what connection c saw
abbrev pub MayFollow : ℕ → List Seen → Rec → Type 0
MayFollow c past (rec.Served place d r code size way) = WasAtPlace past place d r way
MayFollow c past _ = Unit {0}

abbrev pub MayBeServed : List Rec → Rec → Type 0
MayBeServed past (rec.Served place c r code size way) = WasAtPlace (own c past) place c r way
MayBeServed past _ = Unit {0}

-- In every run, of each connection: also of one that the schedule touched.
abbrev pub ContentsWereThere : Type 0
ContentsWereThere = (config : Config) (files : List (List ℕ × List ℕ)) (m : Machine) → IsReached config files m → EachMay MayBeServed [] m.journal
