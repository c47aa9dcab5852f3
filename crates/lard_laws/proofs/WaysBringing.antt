-- Each content that a node sends stands in the step of a hit of its path, or of the job that was read for it.
use Rattle.std.proofs.Common.{◌≡◌, ℕ, ◌+◌, ◌-◌, List, [], ◌∷◌, ◌++◌, length, Option, Some, None, Result, Ok, refl, sym, ap, ◌∙◌, subst, inl, inr, ⊎_elim}
use Rattle.std.specs.Prelude.{slice_set}
use Rattle.std.proofs.lemmas.Bool.{cond_both}
use Rattle.std.specs.List.{AllByRecursion, list_any}
use Rattle.lard_law_view.specs.Prelude.{Client, Event, FilesAt, Front, Has, IsViewed, Machine, Message, MsgFault, Node, NodeSetting, NodeState, NodeTurn, Out, Packet, Place, Rec, Row, Seen, aside, decoded_message, fetched, fetched_file, file_at, has_path, is_for, machine_step, machine_told, net_step, node_acts, node_at, node_gave, node_gets, node_setting, node_step, nothing_done, packet_at, passed, plain, seen_of, seen_on, segments_sent, sent_records, to_place, whose}
use Rattle.lard_base.specs.declared.event.Event.TheVariants as event
use Rattle.lard_law_connections.proofs.Calm.{first_rows, last_rows, told-journal}
use Rattle.lard_law_connections.proofs.Happened.{deliver-is}
use Rattle.lard_law_view.proofs.AnyShape.{SomeNote, some-noted}
use Rattle.lard_law_view.proofs.Saying.{GaveAt, NamesAll, NotedIn, in-of}
use Rattle.lard_law_view.proofs.Timers.{IsTimerAt}
use Rattle.lard_laws.specs.WaysContents.{MayBring, MustBring, SendsFile}
use Rattle.lard_laws.proofs.WaysQuiet.{IsNone, SentNone}
use Rattle.lard_history.proofs.Each.{Each, Each-append, Each-weaker}
use Rattle.lard_history.proofs.Seeing.{seen-mine}
use Rattle.lard_journal.specs.declared.rec.Rec.TheVariants as rec
use Rattle.lard_message.specs.declared.message.Body.TheVariants as body
use Rattle.lard_rules.specs.declared.node.BackIn.TheVariants as back
use Rattle.lard_law_view.proofs.EndpointSends.{AllTo}
use Rattle.lard_law_view.proofs.OwnRecords.{behind}
use Rattle.lard_law_view.proofs.OfKinds.{noted-unsent, of-gift, of-timer}
use Rattle.lard_law_view.proofs.RecordKinds.{IsUnsent}

-- ---- records that send no content from a node to a node

abbrev pub SendsNone : Place → Place → List ℕ → Type 0
SendsNone (Node n) (Node m) bytes = IsNone bytes
SendsNone _ _ bytes = Unit {0}

abbrev pub IsPlain : Rec → Type 0
IsPlain (rec.Sent k from to bytes) = SendsNone from to bytes
IsPlain _ = Unit {0}

plain-sends : (files : FilesAt) (past step : List Rec) (from to : Place) (bytes : List ℕ) → SendsNone from to bytes → SendsFile files past step from to bytes
plain-sends files past step (Node n) (Node m) bytes h = λ c. absurd (h c)
plain-sends files past step _ _ bytes h = tt

plain-may : (files : FilesAt) (past step : List Rec) (r : Rec) → IsPlain r → MayBring files past step r
plain-may files past step (rec.Sent k from to bytes) h = plain-sends files past step from to bytes h
plain-may files past step _ h = tt

unsent-plain : (r : Rec) → IsUnsent r → IsPlain r
unsent-plain (rec.Sent k from to bytes) h = absurd h
unsent-plain _ h = tt

pub note-plain : (place : Place) (r : Rec) → SomeNote place r → IsPlain r
note-plain place r h = unsent-plain r (noted-unsent r (some-noted place r h))

pub gave-plain : (place : Place) (c : ℕ) (r : Rec) → GaveAt place c r → IsPlain r
gave-plain = of-gift IsPlain (λ p d epoch. tt)

pub timer-plain : (place : Place) (c : ℕ) (r : Rec) → IsTimerAt place c r → IsPlain r
timer-plain = of-timer IsPlain (λ p d kind. (tt, tt))

behind-plain : (e : Event) → Each IsPlain (behind e)
behind-plain (event.Open c isn iss wnd mss) = (tt, tt)
behind-plain (event.Deliver k) = (tt, tt)
behind-plain (event.Lose k) = (tt, tt)
behind-plain (event.Inject c bytes) = (tt, tt)
behind-plain _ = tt

-- segments to a client
pub to-client : (n c k : ℕ) (ss : List (Place × List ℕ)) → AllTo (Client c) ss → Each IsPlain (sent_records k (Node n) ss)
to-client n c k [] h = tt
to-client n c k (s ∷ ss) h = (subst (λ (to : Place). SendsNone (Node n) to s.1) (sym h.0) tt, to-client n c (k + 1) ss h.1)

none-sends : (from to : Place) (bytes : List ℕ) → IsNone bytes → SendsNone from to bytes
none-sends (Node n) (Node m) bytes h = h
none-sends _ _ bytes h = tt

pub none-plain : (k : ℕ) (from : Place) (ms : List (Place × List ℕ)) → SentNone ms → Each IsPlain (sent_records k from ms)
none-plain k from [] h = tt
none-plain k from (s ∷ ss) h = (none-sends from s.0 s.1 h.0, none-plain (k + 1) from ss h.1)

-- what the front end and clients send
pub others-plain : (k : ℕ) (from : Place) (ss : List (Place × List ℕ)) → NamesAll from → Each IsPlain (sent_records k from ss)
others-plain k from [] names = tt
others-plain k from (s ∷ ss) names = (one from names, others-plain (k + 1) from ss names) where
  one : (from : Place) → NamesAll from → SendsNone from s.0 s.1
  one Front names = tt
  one (Client d) names = tt
  one (Node n) names = absurd names

-- ---- what is seen of a note is noted

same-row : (a b : Rec) → Row a ≡ Row b → a ≡ b
same-row a b e = cc

pub noted-has : (place : Place) (c : ℕ) (net : List Packet) (r : Rec) (rs : List Rec) → Each (NotedIn place c) rs → Has (Row r) (seen_on c net rs) → Has r rs
noted-has place c net r [] notes h = absurd h
noted-has place c net r (x ∷ xs) notes h =
    let later : Has (Row r) (seen_on c (net_step net x) xs) → Has r xs = λ k. noted-has place c (net_step net x) r xs notes.1 k in
    ⊎_elim
    (λ (of : (whose x ≡ Some c) × (plain x ≡ x)).
    let row : seen_of c net x ≡ Row x ∷ [] = seen-mine c net x of.0 ∙ ap (λ (y : Rec). Row y ∷ []) of.1 in
    ⊎_elim (λ (e : Row x ≡ Row r). inl (same-row x r e)) (λ (k : Has (Row r) (seen_on c (net_step net x) xs)). inr (later k))
    (subst (λ (l : List Seen). Has (Row r) (l ++ seen_on c (net_step net x) xs)) row h))
    (λ (of : (whose x ≡ None) × ((q : ℕ) (net : List Packet) → seen_of q net x ≡ [])). inr (later (subst (λ (l : List Seen). Has (Row r) (l ++ seen_on c (net_step net x) xs)) (of.1 c net) h)))
    (in-of place c x notes.0)

-- ---- the records of a step

module _ (m : Machine) where
  abbrev pub files : FilesAt
  files = file_at m.files

  -- the journal goes on by one step, which is as it must be
  abbrev pub Good : Machine → Type 0
  Good n = (rows : List Rec) × (n.journal ≡ m.journal ++ rows) × MustBring files m.journal rows

  abbrev pub may_in : List Rec → Rec → Type 0
  may_in rows r = MayBring files m.journal rows r

  pub all-may : (rows rs : List Rec) → Each IsPlain rs → Each (may_in rows) rs
  all-may rows rs h = Each-weaker IsPlain (may_in rows) (plain-may files m.journal rows) rs h

  as-must : (rows rs : List Rec) → Each (may_in rows) rs → AllByRecursion (may_in rows) rs
  as-must rows [] h = tt
  as-must rows (r ∷ rs) h = (h.0, as-must rows rs h.1)

  pub passed-good : (w : Machine) (e : Event) (own : List Rec) → w.journal ≡ m.journal → Each IsPlain own → Good (passed w e own)
  passed-good w e own same h =
      let rows : List Rec = rec.Event (w.events + 1) e ∷ own in
      (rows, ap (λ (J : List Rec). J ++ rows) same, as-must rows rows (all-may rows rows (tt, h)))

  abbrev pub all_rows : Machine → Event → Place → Out → List Rec
  all_rows w e place o = first_rows w e ++ o.notes ++ last_rows w place o

  -- a place acts
  pub told-good : (w : Machine) (e : Event) (place : Place) (o : Out) → w.journal ≡ m.journal → Each IsPlain o.notes → Each IsPlain (sent_records (length w.net + 1) place o.segments) → Each IsPlain o.gave
      → Each (may_in (all_rows w e place o)) (sent_records (length (segments_sent w place o) + 1) place o.messages) → Each IsPlain o.timers → Good (machine_told w e (behind e) place o)
  told-good w e place o same notes segments gave messages timers =
      let rows : List Rec = all_rows w e place o in
      let P : Rec → Type 0 = may_in rows in
      let S : List Rec = sent_records (length w.net + 1) place o.segments in
      let M : List Rec = sent_records (length (segments_sent w place o) + 1) place o.messages in
      let first : Each P (first_rows w e) = all-may rows (first_rows w e) (tt, behind-plain e) in
      let last : Each P (last_rows w place o) =
      Each-append P (S ++ o.gave ++ M) o.timers (Each-append P (S ++ o.gave) M (Each-append P S o.gave (all-may rows S segments) (all-may rows o.gave gave)) messages) (all-may rows o.timers timers) in (
        rows,
        told-journal w e place o ∙ ap (λ (J : List Rec). J ++ rows) same,
        as-must rows rows (Each-append P (first_rows w e ++ o.notes) (last_rows w place o) (Each-append P (first_rows w e) o.notes first (all-may rows o.notes notes)) last),
      )

  -- ---- a node gets a Fetch

  module _ (view : IsViewed m) (k i from c epoch r : ℕ) (path file : List ℕ) (p : Packet) (at : packet_at m.net k ≡ Some p) (is_from : p.from ≡ Node from) (is_to : p.to ≡ Node i)
      (spells : decoded_message p.bytes ≡ Ok (record { c = c; epoch = record { 0 = epoch }; body = body.Fetch r path })) (known : files path ≡ Some file) where
    abbrev e : Event
    e = event.Deliver k

    abbrev ks : NodeSetting
    ks = node_setting m i

    gave-good : (t : NodeState) (o : Out) → Each IsPlain o.notes → Each IsPlain (sent_records (length m.net + 1) (Node i) o.segments) → Each IsPlain o.gave
        → Each (may_in (all_rows (record m { nodes = slice_set m.nodes (i - 1) t }) e (Node i) o)) (sent_records (length (segments_sent m (Node i) o) + 1) (Node i) o.messages) → Each IsPlain o.timers
        → Good (node_gave m e (rec.Got k ∷ []) i (t, o))
    gave-good t o notes segments gave messages timers = told-good (record m { nodes = slice_set m.nodes (i - 1) t }) e (Node i) o refl notes segments gave messages timers

    abbrev GoodFor : NodeState × Out → Type 0
    GoodFor x = Good (node_gave m e (rec.Got k ∷ []) i x)

    -- it answers out of its cache, or queues a job
    answered-good : (s : NodeState) → GoodFor (aside s (fetched_file ks s from c epoch r path))
    answered-good s = cond_both (has_path s.cache.entries path) _ _ (λ (t : NodeTurn). GoodFor (aside s t))
        (λ hit. gave-good _ _ (tt, tt) tt tt
        ((
          λ content. record {
            c = c;
            epoch = epoch;
            r = r;
            path = path;
            is = refl;
            by = inl (record { k = k; packet = p; sent = ap (λ (net : List Packet). packet_at net k) view.told ∙ at; from = is_from; to = is_to; asks = spells; got = inr (inl refl); hit = inr (inr (inl refl)) });
          },
          tt,
        )) tt)
        (λ queued. gave-good _ _ (tt, tt) tt tt tt tt)

    fetched-good : (s : NodeState) → GoodFor (fetched ks s from c epoch r path (Some file))
    fetched-good s = cond_both (list_any (is_for c epoch r) s.disk) (s, nothing_done) (aside s (fetched_file ks s from c epoch r path)) GoodFor (λ t. gave-good s nothing_done tt tt tt tt tt) (λ t. answered-good s)

    step-good : (s : NodeState) → GoodFor (node_step ks s (back.Message (Node from) p.bytes))
    step-good s =
        subst (λ (d : Result Message MsgFault). GoodFor (node_gets ks s (Node from) d)) (sym spells)
        (subst (λ (o : Option (List ℕ)). GoodFor (fetched ks s from c epoch r path o)) (sym known) (fetched-good s))

    acts-good : (o : Option NodeState) → Good (node_acts m e (rec.Got k ∷ []) i (back.Message (Node from) p.bytes) o)
    acts-good None = passed-good m e (rec.Got k ∷ []) refl (tt, tt)
    acts-good (Some s) = step-good s

    place-good : Good (to_place m k p p.to)
    place-good = subst (λ (to : Place). Good (to_place m k p to)) (sym is_to)
        (subst (λ (q : Place). Good (node_acts m e (rec.Got k ∷ []) i (back.Message q p.bytes) (node_at m.nodes i))) (sym is_from) (acts-good (node_at m.nodes i)))

    pub fetch-good : (n : Machine) → machine_step m e ≡ Ok n → Good n
    fetch-good n is = subst Good (sym (deliver-is m n k p at is)) place-good
