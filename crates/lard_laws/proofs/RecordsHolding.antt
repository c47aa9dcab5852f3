-- What holds of the whole machine between two steps, and what an act of a place makes of it.
use Rattle.std.proofs.Common.{◌≡◌, ℕ, suc, ◌+◌, ◌-◌, ◌*◌, ◌≤◌, ◌<◌, ◌^◌, List, [], ◌∷◌, ◌++◌, length, Bool, Option, Some, None, IfSome, refl, sym, ap, subst, arith, length-append}
use Rattle.std.specs.FinMap as table
use Rattle.std.specs.FinMap.{FinMap}
use Rattle.std.specs.Ordering.{nat_cmp}
use Rattle.std.specs.Prelude.{slice_set}
use Rattle.lard_law_view.specs.Prelude.{BackIn, ClientBlock, Event, FrontIn, FrontState, IsFrontSound, IsNumber, IsPlaceInRange, IsRecordInRange, Machine, MayClose, NodeState, Out, Packet, Place, Rec, Station, Turn, client_acted, file_at, front_acts, front_part, front_setting, front_step, is_client_armed, machine_told, node_at, node_gave, node_setting, node_step, packets_of, passed, segments_sent, sent_records, told_rows}
use Rattle.lard_base.specs.declared.place.Place.TheVariants as place
use Rattle.lard_base.specs.declared.place.TimerKind.TheVariants.{Tcp}
use Rattle.lard_rules.specs.Bounds as cluster
use Rattle.lard_laws.specs.Records.{IsScheduled}
use Rattle.lard_laws.proofs.RecordsFrontStep as front
use Rattle.lard_laws.proofs.RecordsFronts.{FrontKeeps}
use Rattle.lard_laws.proofs.RecordsLetters.{IsLetter, MayAsk, MaySay, conn-number}
use Rattle.lard_laws.proofs.RecordsSizes.{IsShort, IsSized, SizeFits}
use Rattle.lard_laws.proofs.RecordsNamed.{AreNamed}
use Rattle.lard_laws.proofs.RecordsNodeStep as node
use Rattle.lard_laws.proofs.RecordsNodeStep.{PlaceKeeps, place-wider}
use Rattle.lard_laws.proofs.RecordsOuts.{OutFits}
use Rattle.lard_laws.proofs.RecordsTurns.{change-range}
use Rattle.lard_law_view.proofs.Parts.{node-others, node-set}
use Rattle.lard_rules.proofs.FrontStepping.{step-stays}
use Rattle.lard_history.proofs.Each.{Each, Each-append}
use Rattle.lard_history.proofs.Seeing.{by_number}
use Rattle.lard_journal.specs.declared.rec.Rec.TheVariants as rec
use Rattle.lard_law_view.proofs.ByteLists.{bytes-index}
use Rattle.lard_law_view.proofs.ClientRange.{ClientFits, ClientKeeps, IsSent}
use Rattle.lard_rules.specs.Outs as outs
use Rattle.lard_table.proofs.Map.{get_inserted, get_other}

-- ---- what is kept

-- a client that opened keeps bytes, and has learnt a size; the front end's first number is one
abbrev pub StationKeeps : ℕ → Option Station → Type 0
StationKeeps c None = Unit {0}
StationKeeps c (Some s) = cluster.IsConnNumber c × ClientKeeps s.client × IsSized s.client × (s.iss < 2 ^ 32)

-- node n, where at most so many packets were sent
abbrev pub NodeHolds : ℕ → ℕ → NodeState → Type 0
NodeHolds most n s = IsNumber n × PlaceKeeps n most s

-- What all places keep, where so many packets were sent.
pub record Parts (most : ℕ) (cs : FinMap nat_cmp Station) (f : FrontState) (ns : List NodeState) : Type 0 where
  pub clients : (c : ℕ) → StationKeeps c (table.get cs c)
  pub front : (c : ℕ) → FrontKeeps c (front_part f c)
  pub sound : IsFrontSound f
  pub nodes : (n : ℕ) → IfSome (node_at ns n) (NodeHolds most n)

-- a packet on the way
abbrev pub IsPacket : Packet → Type 0
IsPacket p = IsPlaceInRange p.from × IsLetter p.from (p.to, p.bytes)

-- Each packet and each record is in range. There are no more events than records, and each moved the time by fewer than 2^32
-- milliseconds.
pub record Past (net : List Packet) (journal : List Rec) (passed now : ℕ) : Type 0 where
  pub packets : Each IsPacket net
  pub records : Each IsRecordInRange journal
  pub events : passed ≤ length journal
  pub time : now ≤ passed * 2 ^ 32

-- no limit is reached
pub record HasRoom (net : List Packet) (journal : List Rec) : Type 0 where
  pub packets : length net < 1000000
  pub records : length journal < 4000000

pub record Holds (m : Machine) : Type 0 where
  pub parts : Parts (length m.net) m.clients m.front m.nodes
  pub past : Past m.net m.journal m.events m.now

-- ---- more packets

node-wider : (most more n : ℕ) (o : Option NodeState) → most ≤ more → IfSome o (NodeHolds most n) → IfSome o (NodeHolds more n)
node-wider most more n None le h = tt
node-wider most more n (Some s) le h = (h.0, place-wider n most more s le h.1)

parts-wider : (most more : ℕ) (clients : FinMap nat_cmp Station) (front : FrontState) (nodes : List NodeState) → most ≤ more → Parts most clients front nodes → Parts more clients front nodes
parts-wider most more clients front nodes le h = record { clients = h.clients; front = h.front; sound = h.sound; nodes = λ n. node-wider most more n (node_at nodes n) le (h.nodes n) }

packets-length : (from : Place) (ss : List (Place × List ℕ)) → length (packets_of from ss) ≡ length ss
packets-length from [] = refl
packets-length from (s ∷ ss) = ap suc (packets-length from ss)

packets-fit : (from : Place) (ss : List (Place × List ℕ)) → IsPlaceInRange from → Each (IsLetter from) ss → Each IsPacket (packets_of from ss)
packets-fit from [] p h = tt
packets-fit from (s ∷ ss) p h = ((p, h.0), packets-fit from ss p h.1)

-- what went out, with the numbers of the packets
sents-range : (k : ℕ) (from : Place) (ss : List (Place × List ℕ)) → k + length ss < 2 ^ 64 → IsPlaceInRange from → Each (IsLetter from) ss → Each IsRecordInRange (sent_records k from ss)
sents-range k from [] few p h = tt
sents-range k from (s ∷ ss) few p h = ((omega (arith, few), p, h.0.0, bytes-index s.1 h.0.1), sents-range (k + 1) from ss (omega (arith, few)) p h.1)

-- an event stands first
some-rows : (r : Rec) (own notes S G M T : List Rec) → 1 ≤ length (r ∷ own ++ notes ++ S ++ G ++ M ++ T)
some-rows r own notes S G M T =
    let a = length-append (r ∷ own) notes in
    let b = length-append (r ∷ own ++ notes) S in
    let c = length-append (r ∷ own ++ notes ++ S) G in
    let d = length-append (r ∷ own ++ notes ++ S ++ G) M in
    let e = length-append (r ∷ own ++ notes ++ S ++ G ++ M) T in
    omega (arith, a, b, c, d, e)

-- ---- an act

module _ (w : Machine) (e : Event) (given : IsScheduled e) (past : Past w.net w.journal w.events w.now) (room : HasRoom w.net w.journal) where
  event-range : IsRecordInRange (rec.Event (w.events + 1) e)
  event-range = let counted = past.events in let few = room.records in (omega (arith, counted, few), given.0)

  -- a place did this, behind the event's own records
  pub told-holds : (own : List Rec) (from : Place) (o : Out) → Each IsRecordInRange own → IsPlaceInRange from → OutFits from o → Parts (length w.net + length o.messages) w.clients w.front w.nodes → Holds (machine_told w e own from o)
  unfolding machine_told
  told-holds own from o mine p fits parts =
      let S : List Rec = sent_records (length w.net + 1) from o.segments in
      let between : List Packet = segments_sent w from o in
      let M : List Rec = sent_records (length between + 1) from o.messages in
      let A : List Rec = rec.Event (w.events + 1) e ∷ own in
      let few = room.packets in
      let some = fits.few in
      let more = fits.few_messages in
      let a = length-append w.net (packets_of from o.segments) in
      let b = packets-length from o.segments in
      let c = length-append between (packets_of from o.messages) in
      let d = packets-length from o.messages in
      let longer = length-append w.journal (told_rows w e own from o) in
      let counted = past.events in
      let clock = past.time in
      let rows : Each IsRecordInRange (told_rows w e own from o) =
      Each-append IsRecordInRange (A ++ o.notes ++ S ++ o.gave ++ M) o.timers
      (Each-append IsRecordInRange (A ++ o.notes ++ S ++ o.gave) M
      (Each-append IsRecordInRange (A ++ o.notes ++ S) o.gave
      (Each-append IsRecordInRange (A ++ o.notes) S
      (Each-append IsRecordInRange A o.notes (event-range, mine) fits.notes)
      (sents-range (length w.net + 1) from o.segments (omega (arith, few, some)) p fits.segments))
      fits.gave)
      (sents-range (length between + 1) from o.messages (omega (arith, few, some, more, a, b)) p fits.messages))
      fits.timers in
      let one = some-rows (rec.Event (w.events + 1) e) own o.notes S o.gave M o.timers in
      record {
        parts = parts-wider (length w.net + length o.messages) (length (between ++ packets_of from o.messages)) w.clients w.front w.nodes (omega (arith, a, b, c, d)) parts;
        past = record {
          packets = Each-append IsPacket between (packets_of from o.messages) (Each-append IsPacket w.net (packets_of from o.segments) past.packets (packets-fit from o.segments p fits.segments)) (packets-fit from o.messages p fits.messages);
          records = Each-append IsRecordInRange w.journal (told_rows w e own from o) past.records rows;
          events = omega (arith, longer, counted, one);
          time = omega (arith, clock);
        };
      }

  -- no place did anything
  pub passed-holds : (own : List Rec) (net : List Packet) (now : ℕ) → Each IsRecordInRange own → Each IsPacket net → length net ≡ length w.net → now ≤ w.now + 2 ^ 32 → Parts (length w.net) w.clients w.front w.nodes
      → Holds (record (passed (record w { net = net }) e own) { now = now })
  passed-holds own net now mine packets same later parts =
      let counted = past.events in
      let clock = past.time in
      let longer = length-append w.journal (rec.Event (w.events + 1) e ∷ own) in
      record {
        parts = parts-wider (length w.net) (length net) w.clients w.front w.nodes (omega (arith, same)) parts;
        past = record {
          packets = packets;
          records = Each-append IsRecordInRange w.journal (rec.Event (w.events + 1) e ∷ own) past.records (event-range, mine);
          events = omega (arith, longer, counted);
          time = omega (arith, clock, later);
        };
      }

-- ---- the places

-- what a client sends goes to the front end, asks for nothing, and is short
client-letters : (c : ℕ) (ss : List (Place × List ℕ)) → Each IsSent ss → Each IsShort ss → Each (IsLetter (place.Client c)) ss
client-letters c [] h few = tt
client-letters c (s ∷ ss) h few = ((h.0.0, h.0.1, asks-none s.0, says-short s.0), client-letters c ss h.1 few.1) where
  says-short : (to : Place) → MaySay to (place.Client c) s.1
  says-short place.Front = few.0
  says-short (place.Node n) = few.0
  says-short (place.Client d) = tt

  asks-none : (to : Place) → MayAsk to (place.Client c) s.1
  asks-none place.Front = tt
  asks-none (place.Node n) = tt
  asks-none (place.Client d) = tt

module _ (m : Machine) (small : m.config.stream ≤ 2 ^ 30) (files : AreNamed (file_at m.files)) (holds : Holds m) (room : HasRoom m.net m.journal) (e : Event) (given : IsScheduled e) (own : List Rec) (mine : Each IsRecordInRange own) where
  -- a client did what its rule gave
  pub client-holds : (c iss : ℕ) (was : Bool) (x : ClientBlock × Turn) → cluster.IsConnNumber c → iss < 2 ^ 32 → ClientFits x → SizeFits x → Holds (client_acted m e own c iss was x)
  client-holds c iss was x conn first fits sized =
      let n : IsNumber c = conn-number c conn in
      let s : Station = record { client = x.0; iss = iss } in
      let few = fits.turn.few in
      told-holds (record m { clients = table.insert m.clients c s }) e given holds.past room own (place.Client c) (outs.out_of (place.Client c) c was (is_client_armed x.0) x.1) mine n
      (record {
        notes = fits.turn.notes;
        segments = client-letters c x.1.segments fits.turn.sent sized.1;
        few = omega (arith, few);
        gave = tt;
        messages = tt;
        few_messages = omega arith;
        timers = change-range (place.Client c) c Tcp was (is_client_armed x.0) n n;
      })
      (parts-wider (length m.net) (length m.net + 0) (table.insert m.clients c s) m.front m.nodes (omega arith)
      (record {
        clients = λ q. by_number (StationKeeps q (table.get (table.insert m.clients c s) q)) q c
            (λ same. subst (λ (i : ℕ). StationKeeps i (table.get (table.insert m.clients c s) i)) (sym same) (subst (StationKeeps c) (sym (get_inserted m.clients c s)) (conn, fits.keeps, sized.0, first)))
            (λ other. subst (StationKeeps q) (sym (get_other m.clients c q s other)) (holds.parts.clients q));
        front = holds.parts.front;
        sound = holds.parts.sound;
        nodes = holds.parts.nodes;
      }))

  -- the front end did what its step gave; where a node is closed, another one is open
  pub front-holds : (i : FrontIn) → MayClose m.front i → front.InputFits i → Holds (front_acts m e own i)
  front-holds i may fits =
      let given_is : FrontState × Out = front_step (front_setting m) m.front i in
      let step = front.step-fits (front_setting m) small files m.front holds.parts.sound holds.parts.front i may fits in
      told-holds (record m { front = given_is.0 }) e given holds.past room own place.Front given_is.1 mine tt step.1
      (parts-wider (length m.net) (length m.net + length given_is.1.messages) m.clients given_is.0 m.nodes (omega arith)
      (record {
        clients = holds.parts.clients;
        front = step.0;
        sound = (step-stays (front_setting m) m.front i may holds.parts.sound).sound;
        nodes = holds.parts.nodes;
      }))

  -- a node did what its step gave
  pub node-holds : (n : ℕ) (s : NodeState) → node_at m.nodes n ≡ Some s → length s.disk ≤ 2 ^ 30 → (i : BackIn) → node.InputFits i → Holds (node_gave m e own n (node_step (node_setting m n) s i))
  node-holds n s here short i fits =
      let its : NodeHolds (length m.net) n s = subst (λ (o : Option NodeState). IfSome o (NodeHolds (length m.net) n)) here (holds.parts.nodes n) in
      let few = room.packets in
      let x : NodeState × Out = node_step (node_setting m n) s i in
      let more : ℕ = length m.net + length x.1.messages in
      let nodes : List NodeState = slice_set m.nodes (n - 1) x.0 in
      let step = node.step-fits (node_setting m n) its.0 small files (length m.net) (omega (arith, few)) s its.1 short i fits in
      told-holds (record m { nodes = nodes }) e given holds.past room own (place.Node n) x.1 mine its.0 step.1
      (record {
        clients = holds.parts.clients;
        front = holds.parts.front;
        sound = holds.parts.sound;
        nodes = λ k. by_number (IfSome (node_at nodes k) (NodeHolds more k)) k n
            (λ same. subst (λ (j : ℕ). IfSome (node_at nodes j) (NodeHolds more j)) (sym same)
            (subst (λ (o : Option NodeState). IfSome o (NodeHolds more n)) (sym (node-set m.nodes n s x.0 here)) (its.0, step.0)))
            (λ other. subst (λ (o : Option NodeState). IfSome o (NodeHolds more k)) (sym (node-others m.nodes n k s x.0 here other)) (node-wider (length m.net) more k (node_at m.nodes k) (omega arith) (holds.parts.nodes k)));
      })
