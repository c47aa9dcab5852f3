-- A move leaves its connection counted, where its notes may stand and its place counts on.
use Rattle.std.proofs.Common.{◌≡◌, ◌⊎◌, ◌-◌, ℕ, List, [], ◌∷◌, ◌++◌, map, Option, Some, None, inl, inr, ⊎_elim, refl, sym, ap, ◌∙◌, subst}
use Rattle.std.proofs.lemmas.List.Sums.{fold-append}
use Rattle.std.specs.List.{fold}
use Rattle.lard_law_view.specs.Prelude.{Body, Came, Client, ClientBlock, Conn, EachRow, Front, IsConnNumber, IsConnSound, Kind, Letter, Message, Move, Node, Part, Place, Rec, Row, Seen, Station, Tale, Turn, TurnSaid, by_client, grown, kind_of, letter, letters_of, rows_of, seen_in, seen_step, spelled_message, stands, tale_at, tale_of, tale_step, told_on, untold, with_station}
use Rattle.lard_law_connections.specs.LimitsCounts.{BackCounts, BodyCounts, IsWithinStream, FrontCounts, CountsWhatWasServed, LetterCounts, LetterCountsOn, Served, served_by_tale}
use Rattle.lard_law_connections.proofs.LimitsRows.{CountsBy, IsMute, IsMuteSeen, MayStand, after, after_all, clients-mute, counts-append, counts-told, mute-after, mute-counts, outer-mute}
use Rattle.lard_law_connections.specs.Places.{HasEnded, Head, IsDecided, IsOffered, IsRefusalKnown, LetterMay, MaySay, message_head}
use Rattle.lard_law_connections.proofs.PlacesGrowing.{Grows, decided-grows, ended-grows}
use Rattle.lard_law_connections.proofs.PlacesHeads.{decoded-head, head, spelled-some}
use Rattle.lard_law_connections.proofs.PlacesTurns.{IsPlaced, Owes}
use Rattle.lard_law_view.proofs.Fine.{IsItsOwn}
use Rattle.lard_law_view.proofs.Saying.{NotedAt}
use Rattle.lard_law_view.proofs.Rows.{grown-told, tale_before}
use Rattle.lard_history.proofs.Each.{Each, Each-append}
use Rattle.lard_history.proofs.Lifting.{each_row-append}
use Rattle.lard_message.specs.declared.kind.Kind.TheVariants as kind
use Rattle.lard_message.specs.declared.message.Body.TheVariants as body
use Rattle.lard_rules.specs.Node.{message}
use Rattle.lard_law_view.specs.WhileUntouched.{TellsBy}
use Rattle.lard_law_view.proofs.EndpointSends.{AllTo}
use Rattle.lard_law_view.proofs.RowLists.{MayBeSeen, each_row-told}
use Rattle.lard_law_view.proofs.OfKinds.{rest_of, rest-outer, rows-are}

-- What is known of a connection and of its move beside what was served: the view has it of each rule, and the law of places.
pub record Helps (x : Conn) (v : Move) : Type 0 where
  pub number : IsConnNumber x.c
  pub sound : IsConnSound x
  pub placed : IsPlaced x
  pub owes : Owes x v
  pub own : IsItsOwn x v

-- a connection is counted, and each of its records may stand
pub record IsLimited (stream : ℕ) (x : Conn) : Type 0 where
  pub counted : CountsWhatWasServed stream x
  pub lawful : EachRow (MayBeSeen (MayStand stream x.c) x.c) [] x.seen

-- ---- what is seen before the notes tells nothing of what was served

mute-heads : (stream c : ℕ) (past ss : List Seen) → Each IsMuteSeen ss → EachRow (MayBeSeen (MayStand stream c) c) past ss
mute-heads stream c past [] h = tt
mute-heads stream c past (Row r ∷ ss) h = (one r h.0, mute-heads stream c (past ++ Row r ∷ []) ss h.1) where
  one : (r : Rec) → IsMute r → MayStand stream c (tale_of c past) r
  one r m = (mute-counts stream c (served_by_tale (tale_of c past)) (r ∷ []) (m, tt)).0
mute-heads stream c past (Came l ∷ ss) h = mute-heads stream c (past ++ Came l ∷ []) ss h.1

mute-tale : (c : ℕ) (t : Tale) (ss : List Seen) → Each IsMuteSeen ss → served_by_tale (fold (seen_step (tale_step c)) t ss) ≡ served_by_tale t
mute-tale c t [] h = refl
mute-tale c t (Row r ∷ ss) h = mute-tale c (tale_step c t r) ss h.1 ∙ one where
  one : served_by_tale (tale_step c t r) ≡ served_by_tale t
  one = (counts-told 0 c t (r ∷ []) (mute-counts 0 c (served_by_tale t) (r ∷ []) (h.0, tt))).1 ∙ mute-after (served_by_tale t) (r ∷ []) (h.0, tt)
mute-tale c t (Came l ∷ ss) h = mute-tale c t ss h.1

-- ---- packets

-- the node has decided an Offer of this epoch, or the front end is past it
abbrev pub IsOfferPast : Part → ℕ → ℕ → Type 0
IsOfferPast p n e = IsDecided e (p.nodes n).row ⊎ HasEnded e p.front.row

-- an Offer that was sent counts on, where nothing more was served, or where its node decided or the front end is past it
module _ (stream : ℕ) (w v : Served) (p q : Part) (grows : Grows p q) (old : (v ≡ w) ⊎ ((n e : ℕ) → IsOffered n e p.front.row → IsOfferPast q n e)) where
  offer-on : (n e total : ℕ) → MaySay p Front (Node n) (Some (head kind.Offer e))
      → IsDecided e (p.nodes n).row ⊎ HasEnded e p.front.row ⊎ IsWithinStream stream w total
      → IsDecided e (q.nodes n).row ⊎ HasEnded e q.front.row ⊎ IsWithinStream stream v total
  offer-on n e total said h = ⊎_elim decided (⊎_elim (λ (past : HasEnded e p.front.row). ended past) counting) h where
    Then : Type 0
    Then = IsDecided e (q.nodes n).row ⊎ HasEnded e q.front.row ⊎ IsWithinStream stream v total

    decided : IsDecided e (p.nodes n).row → Then
    decided d = inl (decided-grows e (p.nodes n).row (q.nodes n).row (grows.nodes n) d)

    ended : HasEnded e p.front.row → Then
    ended past = inr (inl (ended-grows q.nodes e p.front.row q.front.row grows.front past))

    counting : IsWithinStream stream w total → Then
    counting counts = ⊎_elim
        (λ (same : v ≡ w). inr (inr (subst (λ (u : Served). IsWithinStream stream u total) (sym same) counts)))
        (λ (all : (n e : ℕ) → IsOffered n e p.front.row → IsOfferPast q n e). ⊎_elim decided
        (λ (other : IsOffered n e p.front.row ⊎ IsRefusalKnown p n e). ⊎_elim
        (λ (offered : IsOffered n e p.front.row). ⊎_elim (λ (d : IsDecided e (q.nodes n).row). inl d) (λ (past : HasEnded e q.front.row). inr (inl past)) (all n e offered))
        (λ (known : IsRefusalKnown p n e). ended known.1) other) said)
        old

  body-on : (n e : ℕ) (b : Body) → MaySay p Front (Node n) (Some (head (kind_of b) e)) → BodyCounts stream w p n e b → BodyCounts stream v q n e b
  body-on n e (body.Offer parts) said h = offer-on n e (parts.una - 1) said h
  body-on n e _ said h = tt

  letter-on : (from to : Place) (bytes : List ℕ) → MaySay p from to (message_head bytes) → LetterCountsOn stream w p from to bytes → LetterCountsOn stream v q from to bytes
  letter-on Front (Node n) bytes said h = λ m d. body-on n m.epoch.0 m.body (subst (MaySay p Front (Node n)) (decoded-head bytes m d) said) (h m d)
  letter-on Front Front bytes said h = tt
  letter-on Front (Client c) bytes said h = tt
  letter-on (Node k) to bytes said h = tt
  letter-on (Client c) to bytes said h = tt

  pub letters-on : (ls : List Letter) → Each (LetterMay p) ls → Each (LetterCounts stream w p) ls → Each (LetterCounts stream v q) ls
  letters-on [] said h = tt
  letters-on (l ∷ ls) said h = (letter-on l.from l.to l.bytes said.0 h.0, letters-on ls said.1 h.1)

-- what a machine sends to a client, and what a node or a client sends, is no Offer
pub client-letters : (stream : ℕ) (w : Served) (p : Part) (place : Place) (c : ℕ) (ss : List (Place × List ℕ)) → AllTo (Client c) ss → Each (LetterCounts stream w p) (map (letter place) ss)
client-letters stream w p place c [] to = tt
client-letters stream w p place c (s ∷ ss) to = (subst (λ (k : Place). LetterCountsOn stream w p place k s.1) (sym to.0) (one place), client-letters stream w p place c ss to.1) where
  one : (place : Place) → LetterCountsOn stream w p place (Client c) s.1
  one Front = tt
  one (Node n) = tt
  one (Client d) = tt

pub node-letters : (stream : ℕ) (w : Served) (p : Part) (n : ℕ) (ss : List (Place × List ℕ)) → Each (LetterCounts stream w p) (map (letter (Node n)) ss)
node-letters stream w p n [] = tt
node-letters stream w p n (s ∷ ss) = (tt, node-letters stream w p n ss)

from-client : (stream : ℕ) (w : Served) (p : Part) (c : ℕ) (ss : List (Place × List ℕ)) → Each (LetterCounts stream w p) (map (letter (Client c)) ss)
from-client stream w p c [] = tt
from-client stream w p c (s ∷ ss) = (tt, from-client stream w p c ss)

-- nor is a message of another kind
pub other-letter : (stream : ℕ) (w : Served) (p : Part) (n c e : ℕ) (b : Body) → (kind_of b ≡ kind.Offer → ⊥) → LetterCountsOn stream w p Front (Node n) (message c e b)
other-letter stream w p n c e b other m d = go m.body same where
  x : Message
  x = record { c = c; epoch = record { 0 = e }; body = b }

  head_kind : Option Head → Kind
  head_kind None = kind_of b
  head_kind (Some h) = h.kind

  same : kind_of b ≡ kind_of m.body
  same = ap head_kind (sym (spelled-some x) ∙ decoded-head (spelled_message x) m d)

  go : (a : Body) → kind_of b ≡ kind_of a → BodyCounts stream w p n m.epoch.0 a
  go (body.Offer parts) is = absurd (other is)
  go _ is = tt

-- ---- a move

module _ (stream : ℕ) (x : Conn) (v : Move) where
  abbrev w : Served
  w = served_by_tale (tale_at x)

  -- what was served behind its notes
  abbrev pub served_then : Served
  served_then = after_all (served_by_tale (tale_at x)) v.said.notes

  -- The notes may stand, and behind them every place counts what was served.
  pub record MoveCounts : Type 0 where
    pub heads : Each IsMuteSeen v.heads
    pub notes : CountsBy stream x.c w v.said.notes
    pub front : FrontCounts stream served_then v.part.front.row
    pub nodes : (n : ℕ) → BackCounts stream served_then (v.part.nodes n).row
    pub old : (served_then ≡ w) ⊎ ((n e : ℕ) → IsOffered n e x.part.front.row → IsOfferPast v.part n e)
    pub letters : Each (LetterCounts stream served_then v.part) (letters_of v)

  -- nothing is served, and every place counts as it did
  pub record Idle : Type 0 where
    pub heads : Each IsMuteSeen v.heads
    pub notes : Each IsMute v.said.notes
    pub front : FrontCounts stream w v.part.front.row
    pub nodes : (n : ℕ) → BackCounts stream w (v.part.nodes n).row
    pub letters : Each (LetterCounts stream w v.part) (letters_of v)

  pub idle-counts : Idle → MoveCounts
  idle-counts i =
      let same : w ≡ served_then = sym (mute-after w v.said.notes i.notes) in
      record {
        heads = i.heads;
        notes = mute-counts stream x.c w v.said.notes i.notes;
        front = subst (λ (u : Served). FrontCounts stream u v.part.front.row) same i.front;
        nodes = λ n. subst (λ (u : Served). BackCounts stream u (v.part.nodes n).row) same (i.nodes n);
        old = inl (sym same);
        letters = subst (λ (u : Served). Each (LetterCounts stream u v.part) (letters_of v)) same i.letters;
      }

  module _ (m : MoveCounts) (help : Helps x v) (h : IsLimited stream x) where
    before : served_by_tale (tale_before x v) ≡ w
    before = mute-tale x.c (tale_at x) v.heads m.heads

    -- the records behind the notes say nothing of it
    rest-mute : Each IsMute (rest_of x v)
    rest-mute = rest-outer x v IsMute outer-mute help.own

    rows-count : CountsBy stream x.c w (rows_of x v)
    rows-count = subst (CountsBy stream x.c w) (sym (rows-are x v))
        (counts-append stream x.c w v.said.notes (rest_of x v) m.notes (mute-counts stream x.c served_then (rest_of x v) rest-mute))

    rows-after : after_all w (rows_of x v) ≡ served_then
    rows-after = ap (after_all w) (rows-are x v) ∙ fold-append after w v.said.notes (rest_of x v) ∙ mute-after served_then (rest_of x v) rest-mute

    all-told : TellsBy (MayStand stream x.c) x.c (tale_before x v) (rows_of x v) × (served_by_tale (told_on x.c (tale_before x v) (rows_of x v)) ≡ after_all (served_by_tale (tale_before x v)) (rows_of x v))
    all-told = counts-told stream x.c (tale_before x v) (rows_of x v) (subst (λ (u : Served). CountsBy stream x.c u (rows_of x v)) (sym before) rows-count)

    now : served_by_tale (tale_at (grown x v)) ≡ served_then
    now = ap served_by_tale (grown-told (tale_step x.c) untold x v) ∙ all-told.1 ∙ ap (λ (u : Served). after_all u (rows_of x v)) before ∙ rows-after

    seen-may : EachRow (MayBeSeen (MayStand stream x.c) x.c) x.seen (seen_in x v)
    seen-may = each_row-append (MayBeSeen (MayStand stream x.c) x.c) x.seen v.heads (map Row (rows_of x v)) (mute-heads stream x.c x.seen v.heads m.heads)
        (each_row-told (MayStand stream x.c) x.c (x.seen ++ v.heads) (rows_of x v)
        (subst (λ (t : Tale). TellsBy (MayStand stream x.c) x.c t (rows_of x v)) (sym (fold-append (seen_step (tale_step x.c)) untold x.seen v.heads)) all-told.0))

    pub move-limited : IsLimited stream (grown x v)
    move-limited = record {
      counted = record {
        front = subst (λ (u : Served). FrontCounts stream u v.part.front.row) (sym now) m.front;
        nodes = λ n. subst (λ (u : Served). BackCounts stream u (v.part.nodes n).row) (sym now) (m.nodes n);
        letters = subst (λ (u : Served). Each (LetterCounts stream u v.part) (x.letters ++ letters_of v)) (sym now)
            (Each-append (LetterCounts stream served_then v.part) x.letters (letters_of v)
            (letters-on stream w served_then x.part v.part help.owes.grows m.old x.letters help.placed.letters h.counted.letters) m.letters);
      };
      lawful = each_row-append (MayBeSeen (MayStand stream x.c) x.c) [] x.seen (seen_in x v) h.lawful seen-may;
    }

-- ---- a client

-- a client's turn serves nothing
pub client-counts : (stream : ℕ) (x : Conn) (heads : List Seen) (s : Station) (given : ClientBlock × Turn) → IsLimited stream x → Each IsMuteSeen heads → Each (NotedAt (Client x.c) x.c) given.1.notes
    → MoveCounts stream x (record { place = Client x.c; heads = heads; said = by_client given.1; part = with_station x.part s })
client-counts stream x heads s given h seen noted =
    let v : Move = record { place = Client x.c; heads = heads; said = by_client given.1; part = with_station x.part s } in
    let w : Served = served_by_tale (tale_at x) in
    idle-counts stream x v (record {
      heads = seen;
      notes = clients-mute x.c x.c given.1.notes noted;
      front = h.counted.front;
      nodes = h.counted.nodes;
      letters = Each-append (LetterCounts stream w v.part) (map (letter (Client x.c)) given.1.segments) [] (from-client stream w v.part x.c given.1.segments) tt;
    })

-- nothing that is kept changes, and nothing is served
pub stands-counts : (stream : ℕ) (x : Conn) (place : Place) (heads : List Seen) (s : TurnSaid) → IsLimited stream x → Each IsMuteSeen heads → Each IsMute s.notes → s.segments ≡ [] → Each (LetterCounts stream (served_by_tale (tale_at x)) x.part) (map (letter place) s.messages)
    → MoveCounts stream x (stands x place heads s)
stands-counts stream x place heads s h seen mute none letters =
    let w : Served = served_by_tale (tale_at x) in
    idle-counts stream x (stands x place heads s) (record {
      heads = seen;
      notes = mute;
      front = h.counted.front;
      nodes = h.counted.nodes;
      letters = subst (λ (l : List (Place × List ℕ)). Each (LetterCounts stream w x.part) (map (letter place) l ++ map (letter place) s.messages)) (sym none) letters;
    })
