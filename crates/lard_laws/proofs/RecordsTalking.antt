-- Each packet between two machines of the cluster is a message: the journal tells of the packets that there are.
use Rattle.std.proofs.Common.{ℕ, zero, suc, ◌-◌, List, [], ◌∷◌, ◌++◌, false, sym, ap, ◌∙◌, subst}
use Rattle.std.specs.List.{fold}
use Rattle.lard_law_view.specs.Prelude.{Client, EachMay, Front, IsMachine, Message, Node, Packet, Place, Rec, decoded_message, lose_at, named_in, net_step}
use Rattle.lard_law_connections.specs.Places.{message_head}
use Rattle.lard_law_connections.proofs.PlacesHeads.{spelled-head}
use Rattle.lard_laws.specs.RecordsMessages.{Decodes, MayTalk, PacketsAreMessages}
use Rattle.lard_laws.proofs.RecordsHolding.{Holds, IsPacket}
use Rattle.lard_laws.proofs.RecordsLetters.{IsLetter, IsSpelled, MaySay}
use Rattle.lard_laws.proofs.RecordsReached.{run-holds}
use Rattle.lard_law_view.proofs.Carried.{reached-viewed}
use Rattle.lard_law_view.proofs.Naming.{spelled-named}
use Rattle.lard_history.proofs.Each.{Each}
use Rattle.lard_journal.specs.declared.rec.Rec.TheVariants as rec
use Rattle.lard_law_view.proofs.ByteLists.{each-before, each-behind}
use Rattle.lard_message.proofs.Whole.{again}

-- ---- one packet

decodes : (bytes : List ℕ) → IsSpelled bytes → Decodes bytes
decodes bytes h =
    let m : Message = h.message in
    record {
      message = m;
      is = h.is;
      decoded = ap decoded_message (sym h.spelled) ∙ again m h.is;
      spelled = h.spelled;
      head = ap message_head (sym h.spelled) ∙ spelled-head m h.is.epoch;
      connection = ap named_in (sym h.spelled) ∙ spelled-named m (h.is.some_connection, h.is.connection);
    }

says-decodes : (from to : Place) (bytes : List ℕ) → MaySay to from bytes → IsMachine from → IsMachine to → Decodes bytes
says-decodes Front Front bytes h a b = decodes bytes h
says-decodes Front (Node n) bytes h a b = decodes bytes h
says-decodes (Node k) Front bytes h a b = decodes bytes h
says-decodes (Node k) (Node n) bytes h a b = decodes bytes h
says-decodes (Client c) to bytes h a b = absurd a
says-decodes _ (Client d) bytes h a b = absurd b

-- ---- all that a journal tells

-- what a record says was sent
abbrev Tells : Rec → Type 0
Tells (rec.Sent k from to bytes) = IsLetter from (to, bytes)
Tells _ = Unit {0}

-- one that is lost was no other before
found-packets : (i : ℕ) (net : List Packet) → Each IsPacket (lose_at i net) → Each IsPacket net
found-packets i [] h = tt
found-packets zero (p ∷ ps) h = h
found-packets (suc i) (p ∷ ps) h = (h.0, found-packets i ps h.1)

one-told : (net : List Packet) (r : Rec) → Each IsPacket (net_step net r) → Each IsPacket net × Tells r
one-told net (rec.Sent k from to bytes) h =
    let p : Packet = record { from = from; to = to; bytes = bytes; lost = false } in
    (each-before IsPacket net (p ∷ []) h, (each-behind IsPacket net (p ∷ []) h).0.1)
one-told net (rec.Lost k) h = (found-packets (k - 1) net h, tt)
one-told net _ h = (h, tt)

all-told : (net : List Packet) (J : List Rec) → Each IsPacket (fold net_step net J) → Each IsPacket net × Each Tells J
all-told net [] h = (h, tt)
all-told net (r ∷ rs) h =
    let rest = all-told (net_step net r) rs h in
    let first = one-told net r rest.0 in
    (first.0, (first.1, rest.1))

-- ---- the law

may-talk : (past : List Rec) (r : Rec) → Tells r → MayTalk past r
may-talk past (rec.Sent k from to bytes) h = says-decodes from to bytes h.3
may-talk past _ h = tt

all-talk : (past rs : List Rec) → Each Tells rs → EachMay MayTalk past rs
all-talk past [] h = tt
all-talk past (r ∷ rs) h = (may-talk past r h.0, all-talk (past ++ r ∷ []) rs h.1)

pub packets-decode : PacketsAreMessages
packets-decode config files es m checked are given past =
    let holds : Holds m = run-holds config files es m checked are given past in
    all-talk [] m.journal (all-told [] m.journal (subst (Each IsPacket) (sym (reached-viewed config files m (es, past)).told) holds.past.packets)).1
