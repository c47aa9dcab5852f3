-- Packets that were sent before, in what a connection sees.
use Rattle.std.proofs.Common.{◌≡◌, ◌⊎◌, ℕ, Bool, true, false, cond, List, [], ◌∷◌, ◌++◌, map, Option, Some, None, ap, inl, inr, ⊎_elim, nat_eq}
use Rattle.lard_law_view.specs.Prelude.{Came, Conn, Has, Letter, Move, Packet, Place, Rec, Row, Seen, came_seen, conn_of, grown, letter, letter_of, letters_of, net_step, one_of, own, packet_at, plain, rows_of, seen_in, seen_of, seen_on, timer_rows, whose}
use Rattle.lard_law_connections.specs.Offers.{Sends, WasSentBetween}
use Rattle.lard_law_view.specs.View.{sending}
use Rattle.lard_journal.specs.declared.rec.Rec.TheVariants as rec

-- ---- of what is seen

abbrev pub SendsSeen : Place → Place → List ℕ → Seen → Type 0
SendsSeen from to bytes (Row r) = Sends from to bytes r
SendsSeen from to bytes (Came l) = ⊥

abbrev pub SentSeen : Place → Place → List ℕ → List Seen → Type 0
SentSeen from to bytes [] = ⊥
SentSeen from to bytes (s ∷ ss) = SendsSeen from to bytes s ⊎ SentSeen from to bytes ss

module _ (from to : Place) (bytes : List ℕ) where
  pub seen-before : (xs ys : List Seen) → SentSeen from to bytes xs → SentSeen from to bytes (xs ++ ys)
  seen-before [] ys h = absurd h
  seen-before (x ∷ xs) ys h = ⊎_elim (λ (a : SendsSeen from to bytes x). inl a) (λ (b : SentSeen from to bytes xs). inr (seen-before xs ys b)) h

  pub seen-behind : (xs ys : List Seen) → SentSeen from to bytes ys → SentSeen from to bytes (xs ++ ys)
  seen-behind [] ys h = h
  seen-behind (x ∷ xs) ys h = inr (seen-behind xs ys h)

  seen-either : (xs ys : List Seen) → SentSeen from to bytes (xs ++ ys) → SentSeen from to bytes xs ⊎ SentSeen from to bytes ys
  seen-either [] ys h = inr h
  seen-either (x ∷ xs) ys h = ⊎_elim (λ (a : SendsSeen from to bytes x). inl (inl a))
      (λ (b : SentSeen from to bytes (xs ++ ys)). ⊎_elim (λ (l : SentSeen from to bytes xs). inl (inr l)) (λ (r : SentSeen from to bytes ys). inr r) (seen-either xs ys b)) h

  -- ---- from what a connection sees to the journal

  plain-sends : (r : Rec) → Sends from to bytes (plain r) → Sends from to bytes r
  plain-sends (rec.Event i e) h = absurd h
  plain-sends (rec.Sent k sender goal sent) h = h
  plain-sends r h = h

  one-sends : (q : ℕ) (o : Option ℕ) (r : Rec) → SentSeen from to bytes (one_of q o (Row (plain r))) → Sends from to bytes r
  one-sends q None r h = absurd h
  one-sends q (Some c) r h = go (nat_eq c q) h where
    go : (b : Bool) → SentSeen from to bytes (cond b (Row (plain r) ∷ []) []) → Sends from to bytes r
    go true k = ⊎_elim (λ (s : Sends from to bytes (plain r)). plain-sends r s) (λ (n : ⊥). absurd n) k
    go false k = absurd k

  came-sends : (q : ℕ) (o : Option Packet) → SentSeen from to bytes (came_seen q o) → ⊥
  came-sends q None h = h
  came-sends q (Some p) h = go (conn_of p.from p.to p.bytes) h where
    go : (o : Option ℕ) → SentSeen from to bytes (one_of q o (Came (letter_of p))) → ⊥
    go None k = k
    go (Some c) k = by_bool (nat_eq c q) k where
      by_bool : (b : Bool) → SentSeen from to bytes (cond b (Came (letter_of p) ∷ []) []) → ⊥
      by_bool true i = ⊎_elim (λ (s : ⊥). s) (λ (n : ⊥). n) i
      by_bool false i = i

  of-sends : (q : ℕ) (net : List Packet) (r : Rec) → SentSeen from to bytes (seen_of q net r) → Sends from to bytes r
  of-sends q net (rec.Got k) h = absurd (came-sends q (packet_at net k) h)
  of-sends q net r h = one-sends q (whose r) r h

  on-sends : (q : ℕ) (net : List Packet) (rs : List Rec) → SentSeen from to bytes (seen_on q net rs) → WasSentBetween from to bytes rs
  on-sends q net [] h = h
  on-sends q net (r ∷ rs) h = ⊎_elim (λ (a : SentSeen from to bytes (seen_of q net r)). inl (of-sends q net r a))
      (λ (b : SentSeen from to bytes (seen_on q (net_step net r) rs)). inr (on-sends q (net_step net r) rs b))
      (seen-either (seen_of q net r) (seen_on q (net_step net r) rs) h)

  pub own-sends : (q : ℕ) (J : List Rec) → SentSeen from to bytes (own q J) → WasSentBetween from to bytes J
  unfolding own
  own-sends q J h = on-sends q [] J h

-- ---- each packet of a connection is one that it saw go out

abbrev pub AreSeen : Conn → Type 0
AreSeen x = (l : Letter) → Has l x.letters → SentSeen l.from l.to l.bytes x.seen

has-either : (l : Letter) (xs ys : List Letter) → Has l (xs ++ ys) → Has l xs ⊎ Has l ys
has-either l [] ys h = inr h
has-either l (x ∷ xs) ys h = ⊎_elim (λ (e : x ≡ l). inl (inl e)) (λ (b : Has l (xs ++ ys)). ⊎_elim (λ (i : Has l xs). inl (inr i)) (λ (j : Has l ys). inr j) (has-either l xs ys b)) h

-- a row for each that goes out
sent-rows : (place : Place) (l : Letter) (ss : List (Place × List ℕ)) → Has l (map (letter place) ss) → SentSeen l.from l.to l.bytes (map Row (map (sending place) ss))
sent-rows place l [] h = absurd h
sent-rows place l (s ∷ ss) h = ⊎_elim (λ (e : letter place s ≡ l). inl (ap (λ (k : Letter). k.from) e, ap (λ (k : Letter). k.to) e, ap (λ (k : Letter). k.bytes) e))
    (λ (b : Has l (map (letter place) ss)). inr (sent-rows place l ss b)) h

rows-before : (from to : Place) (bytes : List ℕ) (xs ys : List Rec) → SentSeen from to bytes (map Row xs) → SentSeen from to bytes (map Row (xs ++ ys))
rows-before from to bytes [] ys h = absurd h
rows-before from to bytes (x ∷ xs) ys h = ⊎_elim (λ (a : Sends from to bytes x). inl a) (λ (b : SentSeen from to bytes (map Row xs)). inr (rows-before from to bytes xs ys b)) h

rows-behind : (from to : Place) (bytes : List ℕ) (xs ys : List Rec) → SentSeen from to bytes (map Row ys) → SentSeen from to bytes (map Row (xs ++ ys))
rows-behind from to bytes [] ys h = h
rows-behind from to bytes (x ∷ xs) ys h = inr (rows-behind from to bytes xs ys h)

pub grown-seen : (x : Conn) (v : Move) → AreSeen x → AreSeen (grown x v)
grown-seen x v h l has =
    let segments : List Rec = map (sending v.place) v.said.segments in
    let messages : List Rec = map (sending v.place) v.said.messages in
    let timers : List Rec = timer_rows v.place x.c x.part v.part in
    let new : SentSeen l.from l.to l.bytes (map Row (rows_of x v)) → SentSeen l.from l.to l.bytes (x.seen ++ seen_in x v) =
    (λ i. seen-behind l.from l.to l.bytes x.seen (seen_in x v) (seen-behind l.from l.to l.bytes v.heads (map Row (rows_of x v)) i)) in
    ⊎_elim (λ (old : Has l x.letters). seen-before l.from l.to l.bytes x.seen (seen_in x v) (h l old))
    (λ (now : Has l (letters_of v)). ⊎_elim
    (λ (a : Has l (map (letter v.place) v.said.segments)). new (rows-before l.from l.to l.bytes (v.said.notes ++ segments ++ v.said.gave ++ messages) timers
    (rows-before l.from l.to l.bytes (v.said.notes ++ segments ++ v.said.gave) messages (rows-before l.from l.to l.bytes (v.said.notes ++ segments) v.said.gave
    (rows-behind l.from l.to l.bytes v.said.notes segments (sent-rows v.place l v.said.segments a))))))
    (λ (b : Has l (map (letter v.place) v.said.messages)). new (rows-before l.from l.to l.bytes (v.said.notes ++ segments ++ v.said.gave ++ messages) timers
    (rows-behind l.from l.to l.bytes (v.said.notes ++ segments ++ v.said.gave) messages (sent-rows v.place l v.said.messages b))))
    (has-either l (map (letter v.place) v.said.segments) (map (letter v.place) v.said.messages) now))
    (has-either l x.letters (letters_of v) has)
