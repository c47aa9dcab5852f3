-- What clients take in a step: of the packet that came in it, wherever it was sent.
use Rattle.std.proofs.Common.{◌≡◌, ℕ, ◌+◌, List, [], ◌∷◌, ◌++◌, map, length, Some, Ok, inl, inr, ⊎_elim, refl, sym, ap, ◌∙◌, subst}
use Rattle.std.specs.Prelude.{◌⊎◌}
use Rattle.lard_law_view.specs.Prelude.{Client, ClientGets, ClientReceives, Conn, EachMay, Event, Front, GoesBetween, HasRule, IsMachine, IsReached, IsViewed, Machine, MayTake, Move, Node, Out, Part, Place, Rec, Row, Rules, Setting, Station, TakesInOrder, ToAbort, ToClient, ToGet, ToWrite, conn, decoded, machine_step, packets_of, part_of, request, sent_records, setting_of, tale_at, timer_rows}
use Rattle.lard_base.specs.declared.event.Event.TheVariants as event
use Rattle.lard_law_connections.proofs.BytesClientMoves.{was-between}
use Rattle.lard_laws.specs.ClientsFirsts.{CountsTaken, HasOneFirst, StandsAsTold}
use Rattle.lard_laws.specs.ClientsLaws.{ClientsTakeInOrder}
use Rattle.lard_laws.proofs.ClientsAsides.{IsOfMachine, kind-machine}
use Rattle.lard_laws.proofs.ClientsBegins.{one-first}
use Rattle.lard_laws.proofs.ClientsCounts.{counts-taken, packet-known}
use Rattle.lard_laws.proofs.ClientsWriters.{stand-as-told}
use Rattle.lard_law_view.proofs.AnyShape.{SomeGift, SomeNote, SomeTimer, some-kind}
use Rattle.lard_law_view.proofs.Acts.{ActsAlone, ActsMany, IsPassing, IsStepOf, Moves, said_rows, step_acts}
use Rattle.lard_law_view.proofs.Carried.{IsOn, carried-keep}
use Rattle.lard_law_view.proofs.Fine.{IsFine, fine}
use Rattle.lard_law_view.proofs.Guarded.{both}
use Rattle.lard_law_view.proofs.Frames.{Owed, fronts-leave, nodes-leave}
use Rattle.lard_law_view.proofs.Saying.{GaveAt, NamesAll, NamesNobody, NotedAt, NotedIn, in-kind, notes-all}
use Rattle.lard_history.proofs.Each.{Each, Each-weaker, each_append}
use Rattle.lard_journal.specs.declared.rec.Rec.TheVariants as rec
use Rattle.lard_law_view.proofs.DeliveredPackets.{all-may, notes-may}
use Rattle.lard_law_view.proofs.Taking.{TakesNothing, TakesOf, hears, writes-pass, outer-nothing}
use Rattle.lard_law_view.proofs.EachClient.{ClientComes, client_goes, each-client}
use Rattle.lard_law_view.proofs.OwnRecords.{behind}
use Rattle.lard_law_view.proofs.OfKinds.{outer-behind, outer-gift, outer-gifts, outer-sents, outer-timer, outer-timers}

-- ---- records that take nothing

machine-nothing : (r : Rec) → IsOfMachine r → TakesNothing r
machine-nothing (rec.Accepted c bytes) h = let no = h.1 in absurd cc
machine-nothing (rec.Eof c) h = let no = h.1 in absurd cc
machine-nothing _ h = tt

notes-nothing : (place : Place) (c : ℕ) (rs : List Rec) → IsMachine place → Each (NotedIn place c) rs → Each TakesNothing rs
notes-nothing place c rs m e = Each-weaker (NotedIn place c) TakesNothing (λ r h. machine-nothing r (kind-machine place r m (in-kind place c r h))) rs e

-- a client notes nothing that names nobody
client-noted : (place : Place) (c d : ℕ) (rs : List Rec) → place ≡ Client d → Each (NotedIn place c) rs → Each (NotedAt place c) rs
client-noted place c d rs is h = Each-weaker (NotedIn place c) (NotedAt place c)
    (λ r k. ⊎_elim (λ (n : NotedAt place c r). n) (λ (n : NamesNobody place r). absurd (nobody r (subst (λ (p : Place). NamesNobody p r) is n))) k) rs h where
      nobody : (r : Rec) → NamesNobody (Client d) r → ⊥
      nobody _ h = h

gaves-nothing : (place : Place) (c : ℕ) (rs : List Rec) → Each (GaveAt place c) rs → Each TakesNothing rs
gaves-nothing = outer-gifts TakesNothing outer-nothing

timers-nothing : (place : Place) (c : ℕ) (p q : Part) → Each TakesNothing (timer_rows place c p q)
timers-nothing = outer-timers TakesNothing outer-nothing

-- ---- what a rule owes

-- what is known of a connection
record IsKnown (x : Conn) : Type 0 where
  first : HasOneFirst x
  told : StandsAsTold x
  counts : CountsTaken x

-- A machine acts, or the connection's client, whose notes take of the packet that came.
abbrev Takes : Conn → Move → Type 0
Takes x v = IsKnown x → IsMachine v.place ⊎ ((v.place ≡ Client x.c) × TakesOf x.c (tale_at x) v.heads v.said.notes)

ignores-takes : (c : ℕ) (from to : Place) (bytes : List ℕ) → GoesBetween c from to bytes → IsMachine to ⊎ (to ≡ Client c)
ignores-takes c from Front bytes h = inl tt
ignores-takes c from (Node n) bytes h = inl tt
ignores-takes c Front (Client d) bytes h = inr (ap Client h)
ignores-takes c (Node n) (Client d) bytes h = inr (ap Client h)
ignores-takes c (Client e) (Client d) bytes h = absurd h

client-takes : (k : Setting) (x : Conn) (s : Station) (g : ClientGets) → x.part.station ≡ Some s → ClientComes k x s g → Owed Takes x (client_goes x s g)
client-takes k x s (ToGet path) there fits number sound given = inr (refl, inl (writes-pass s.client (request path)))
client-takes k x s (ToWrite bytes) there fits number sound given = inr (refl, inl (writes-pass s.client bytes))
client-takes k x s ToAbort there comes number sound given = inr (refl, inl (tt, tt))
client-takes k x s (ClientReceives from bytes) there was number sound given = inr (
  refl,
  inr (
    record { from = from; to = Client x.c; bytes = bytes },
    refl,
    hears x.c s.client (tale_at x) from bytes (packet-known x s from bytes there sound was given.first given.told given.counts) (sound.client s there) (decoded bytes x.c ToClient) refl,
  ),
)
client-takes k x s _ there comes number sound given = inr (refl, inl tt)

owing : (k : Setting) → Rules k (Owed Takes)
owing k = record {
  untouched = record {
    client = each-client k (Owed Takes) (record { opens = λ x isn iss wnd mss rule none number sound given. inr (refl, inl tt); does = client-takes k });
    front = fronts-leave k Takes (λ x v at own number sound given. inl at.machine);
    node = nodes-leave k Takes (λ x v at own number sound given. inl at.machine);
    ignores = λ x from to bytes was number sound given. ⊎_elim (λ (m : IsMachine to). inl m) (λ (e : to ≡ Client x.c). inr (e, inl tt)) (ignores-takes x.c from to bytes (was-between x from to bytes sound was.0));
  };
  injects = λ x s bytes there rule number sound given. inr (refl, inl tt);
}

-- ---- a step

-- what is seen of notes that all name the connection are these notes
rows-same : (xs ys : List Rec) → map Row xs ≡ map Row ys → xs ≡ ys
rows-same [] [] e = refl
rows-same [] (y ∷ ys) e = absurd cc
rows-same (x ∷ xs) [] e = absurd cc
rows-same (x ∷ xs) (y ∷ ys) e =
    let first : x ≡ y = cc in
    let later : map Row xs ≡ map Row ys = cc in
    λ i. first i ∷ rows-same xs ys later i

module _ (m : Machine) (view : IsViewed m) (known : (q : ℕ) → IsKnown (conn m q)) (e : Event) (adds : List Rec) where
  abbrev P : Conn → Move → Type 0
  P x v = Owed Takes x v × IsFine x v

  abbrev begun : List Rec
  begun = rec.Event (m.events + 1) e ∷ behind e

  begun-may : EachMay MayTake m.journal begun
  begun-may = all-may m.journal begun (tt, outer-behind TakesNothing outer-nothing e)

  notes-take : (c : ℕ) (move : Move) (noted : List Rec) → Moves P m e c move noted → EachMay MayTake (m.journal ++ begun) noted
  unfolding conn
  notes-take c move noted a = ⊎_elim
      (λ (machine : IsMachine move.place). all-may (m.journal ++ begun) noted (notes-nothing move.place c noted machine a.notes))
      (λ (t : (move.place ≡ Client c) × TakesOf c (tale_at (conn m c)) move.heads move.said.notes).
      let names : NamesAll move.place = subst NamesAll (sym t.0) tt in
      let same : noted ≡ move.said.notes =
      rows-same noted move.said.notes (sym (notes-all move.place c [] noted names (client-noted move.place c c noted t.0 a.notes)) ∙ a.seen []) in
      subst (EachMay MayTake (m.journal ++ begun)) (sym same) (notes-may m.journal m.net view.told (m.events + 1) e c move.heads move.said.notes a.came t.1))
      (a.does.0 a.number (view.sound c) (known c))

  -- what a move gives up
  gave-take : (c : ℕ) (move : Move) (noted : List Rec) → Moves P m e c move noted → Each TakesNothing move.said.gave
  unfolding conn
  gave-take c move noted a = gaves-nothing move.place c move.said.gave (a.does.1 a.number (view.sound c)).0.gave

  -- behind the notes nothing is taken
  said-take : (place : Place) (notes : List Rec) (segments : List (Place × List ℕ)) (gave : List Rec) (messages : List (Place × List ℕ)) (timers : List Rec)
      → EachMay MayTake (m.journal ++ begun) notes → Each TakesNothing gave → Each TakesNothing timers
      → EachMay MayTake m.journal (rec.Event (m.events + 1) e ∷ said_rows (behind e) m.net place notes segments gave messages timers)
  said-take place notes segments gave messages timers may g t =
      let J : List Rec = m.journal in
      let S : List Rec = sent_records (length m.net + 1) place segments in
      let M : List Rec = sent_records (length (m.net ++ packets_of place segments) + 1) place messages in
      each_append MayTake J (begun ++ notes ++ S ++ gave ++ M) timers
      (each_append MayTake J (begun ++ notes ++ S ++ gave) M
      (each_append MayTake J (begun ++ notes ++ S) gave
      (each_append MayTake J (begun ++ notes) S (each_append MayTake J begun notes begun-may may) (all-may (J ++ (begun ++ notes)) S (outer-sents TakesNothing outer-nothing (length m.net + 1) place segments)))
      (all-may (J ++ (begun ++ notes ++ S)) gave g))
      (all-may (J ++ (begun ++ notes ++ S ++ gave)) M (outer-sents TakesNothing outer-nothing (length (m.net ++ packets_of place segments) + 1) place messages)))
      (all-may (J ++ (begun ++ notes ++ S ++ gave ++ M)) timers t)

  alone-takes : ActsAlone P m e adds → EachMay MayTake m.journal (rec.Event (m.events + 1) e ∷ adds)
  alone-takes a =
      let v : Move = a.move in
      subst (λ (rs : List Rec). EachMay MayTake m.journal (rec.Event (m.events + 1) e ∷ rs)) (sym a.are)
      (said-take v.place a.noted v.said.segments v.said.gave v.said.messages (timer_rows v.place a.c (part_of m a.c) v.part) (notes-take a.c v a.noted a.moves) (gave-take a.c v a.noted a.moves)
      (timers-nothing v.place a.c (part_of m a.c) v.part))

  -- several move at a machine of the cluster alone
  many-take : ActsMany P m e adds → EachMay MayTake m.journal (rec.Event (m.events + 1) e ∷ adds)
  many-take a =
      let o : Out = a.o in
      let notes : Each TakesNothing o.notes = Each-weaker (SomeNote a.place) TakesNothing (λ r h. machine-nothing r (kind-machine a.place r a.machine (some-kind a.place r h))) o.notes a.act.notes in
      subst (λ (rs : List Rec). EachMay MayTake m.journal (rec.Event (m.events + 1) e ∷ rs)) (sym a.are)
      (said-take a.place o.notes o.segments o.gave o.messages o.timers (all-may (m.journal ++ begun) o.notes notes)
      (Each-weaker (SomeGift a.place) TakesNothing (λ r h. outer-gift TakesNothing outer-nothing a.place h.0 r h.1) o.gave a.act.gave)
      (Each-weaker (SomeTimer a.place) TakesNothing (λ r h. outer-timer TakesNothing outer-nothing a.place h.0 r h.1) o.timers a.act.timers))

  step-takes : IsPassing m e adds ⊎ (ActsAlone P m e adds ⊎ ActsMany P m e adds) → EachMay MayTake m.journal (rec.Event (m.events + 1) e ∷ adds)
  step-takes (inl passing) = all-may m.journal (rec.Event (m.events + 1) e ∷ adds) (tt, passing-nothing e adds passing) where
    passing-nothing : (d : Event) (rs : List Rec) → IsPassing m d rs → Each TakesNothing rs
    passing-nothing (event.Clock ms) rs h = subst (Each TakesNothing) (sym h) (tt, tt)
    passing-nothing d rs h = subst (Each TakesNothing) (sym h) (outer-behind TakesNothing outer-nothing d)
  step-takes (inr (inl a)) = alone-takes a
  step-takes (inr (inr a)) = many-take a

-- ---- every run

taking : (k : Setting) → Rules k (λ x v. Owed Takes x v × IsFine x v)
taking k = both k (Owed Takes) IsFine (owing k) (fine k)

pub clients-take : ClientsTakeInOrder
clients-take config files m checked r = carried-keep config files (λ k. TakesInOrder k.journal) tt step m r where
  known : (k : Machine) → IsReached config files k → (q : ℕ) → IsKnown (conn k q)
  known k r q = record { first = one-first config files checked k r q; told = stand-as-told config files k r q; counts = counts-taken config files checked k r q }

  step : (k n : Machine) (e : Event) → IsOn config files k → TakesInOrder k.journal → HasRule e → machine_step k e ≡ Ok n → TakesInOrder n.journal
  step k n e on h rule is =
      let Q : Conn → Move → Type 0 = λ x v. Owed Takes x v × IsFine x v in
      let s : IsStepOf Q k n e = step_acts k n e Q on.view (taking (setting_of k)) rule is in
      subst TakesInOrder (sym s.journal) (each_append MayTake [] k.journal (rec.Event (k.events + 1) e ∷ s.adds) h (step-takes k on.view (known k on.reached) e s.adds s.acts))
