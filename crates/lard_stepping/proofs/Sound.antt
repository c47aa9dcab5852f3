-- What each kind of step keeps of the places.
use Rattle.std.proofs.Common.{◌≡◌, ℕ, suc, zero, ◌+◌, ◌*◌, ◌^◌, ◌≤◌, List, [], ◌∷◌, ◌++◌, length, Some, slice_get, slice_set, refl, ap, ◌∙◌, subst, arith, length-append}
use Rattle.std.specs.FinMap.{FinMap}
use Rattle.std.specs.List.{AllByRecursion}
use Rattle.std.specs.Ordering.{nat_cmp}
use Rattle.std.proofs.lemmas.List.{length-set}
use Rattle.lard_back.specs.Sound.{IsNodeSound}
use Rattle.lard_base.specs.declared.event.Event.{Event}
use Rattle.lard_base.specs.declared.place.Place.{Place}
use Rattle.lard_rules.specs.Machine.{passed, machine_told, told_rows}
use Rattle.lard_rules.specs.declared.machine.Machine.{Machine}
use Rattle.lard_stepping.specs.Sound.{IsNodeFit, IsMachineSound, IsSoundTo}
use Rattle.lard_dispatch.specs.Sound.{AreBefore}
use Rattle.lard_rules.specs.declared.front.FrontState.{FrontState}
use Rattle.lard_rules.specs.FrontSound.{IsFrontSound}
use Rattle.lard_journal.specs.Inner.{turned_at}
use Rattle.lard_journal.specs.declared.rec.Rec.{Rec}
use Rattle.lard_journal.specs.declared.rec.Rec.TheVariants as rec
use Rattle.lard_net.specs.Net.{Packet}
use Rattle.lard_rules.specs.declared.node.NodeState.{NodeState}
use Rattle.lard_rules.specs.declared.places.Out.{Out}
use Rattle.lard_rules.specs.declared.places.Station.{Station}
use Rattle.lard_settling.specs.Steps.{as_inner, closing, settle_closed}

-- ---- lists of nodes

all-at : {X : Type 0} (P : X → Type 0) (xs : List X) (i : ℕ) (x : X) → AllByRecursion P xs → slice_get xs i ≡ Some x → P x
all-at P [] i x h is = cc
all-at P (y ∷ ys) zero x h is = let same : y ≡ x = cc in subst P same h.0
all-at P (y ∷ ys) (suc i) x h is = all-at P ys i x h.1 is

all-set : {X : Type 0} (P : X → Type 0) (xs : List X) (i : ℕ) (x : X) → AllByRecursion P xs → P x → AllByRecursion P (slice_set xs i x)
all-set P [] i x h p = tt
all-set P (y ∷ ys) zero x h p = (p, h.1)
all-set P (y ∷ ys) (suc i) x h p = (h.0, all-set P ys i x h.1 p)

fit-more : (a b : ℕ) (xs : List NodeState) → a ≤ b → AllByRecursion (IsNodeFit a) xs → AllByRecursion (IsNodeFit b) xs
fit-more a b [] le h = tt
fit-more a b (x ∷ xs) le h = (record { sound = h.0.sound; jobs = omega (arith, le, h.0.jobs) }, fit-more a b xs le h.1)

-- ---- a step

pub sound_more : (m : Machine) (a b : ℕ) → IsSoundTo a m → a ≤ b → IsSoundTo b m
sound_more m a b s le = record { front = s.front; clock = s.clock; count = s.count; nodes = fit-more a b m.nodes le s.nodes; events = s.events; time = s.time }

-- the step's records are the event, the notes, and others
rows-many : (m : Machine) (e : Event) (own : List Rec) (p : Place) (out : Out) → suc (length out.notes) ≤ length (told_rows m e own p out)
rows-many m e own p out = grind (arith, length-append)

pub told_sound : (m : Machine) (e : Event) (own : List Rec) (p : Place) (out : Out) → IsSoundTo (length m.journal + length out.notes) m → IsMachineSound (machine_told m e own p out)
unfolding machine_told
told_sound m e own p out s =
    let many = rows-many m e own p out in
    let grown : length (m.journal ++ told_rows m e own p out) ≡ length m.journal + length (told_rows m e own p out) = length-append m.journal (told_rows m e own p out) in
    record {
      front = s.front;
      clock = s.clock;
      count = s.count;
      nodes = fit-more (length m.journal + length out.notes) (length (m.journal ++ told_rows m e own p out)) m.nodes (omega (arith, many, grown)) s.nodes;
      events = omega (arith, many, grown, s.events);
      time = omega (arith, grown, s.time);
    }

-- where no place acts, and the time is this
pub passed_at : (m : Machine) (e : Event) (own : List Rec) (now : ℕ) → IsMachineSound m → AreBefore now m.front.dispatch.books.sets → now ≤ (length m.journal + 1) * 2 ^ 32
    → IsMachineSound (passed (record m { now = now }) e own)
passed_at m e own now s before time =
    let grown : length (m.journal ++ rec.Event (m.events + 1) e ∷ own) ≡ length m.journal + length (rec.Event (m.events + 1) e ∷ own) = length-append m.journal (rec.Event (m.events + 1) e ∷ own) in
    record {
      front = s.front;
      clock = before;
      count = s.count;
      nodes = fit-more (length m.journal) (length (m.journal ++ rec.Event (m.events + 1) e ∷ own)) m.nodes (omega (arith, grown)) s.nodes;
      events = omega (arith, grown, s.events);
      time = omega (arith, grown, time);
    }

pub passed_sound : (m : Machine) (e : Event) (own : List Rec) → IsMachineSound m → IsMachineSound (passed m e own)
passed_sound m e own s = passed_at m e own m.now s s.clock (omega (arith, s.time))

-- ---- a settle

turned-length : (i : ℕ) (J : List Rec) → length (turned_at i J) ≡ length J
turned-length i [] = refl
turned-length zero (r ∷ J) = refl
turned-length (suc i) (r ∷ J) = ap suc (turned-length i J)

-- an inner step
pub inner_sound : (m n : Machine) → IsMachineSound n → m.events ≤ length m.journal → length m.journal ≤ length n.journal → IsMachineSound (as_inner m n)
inner_sound m n s events more =
    let same : length (turned_at (length m.journal) n.journal) ≡ length n.journal = turned-length (length m.journal) n.journal in
    record {
      front = s.front;
      clock = s.clock;
      count = s.count;
      nodes = fit-more (length n.journal) (length (turned_at (length m.journal) n.journal)) n.nodes (omega (arith, same)) s.nodes;
      events = omega (arith, same, events, more);
      time = omega (arith, same, s.time);
    }

-- the closing record
pub closed_sound : (m : Machine) (rounds left : ℕ) → IsMachineSound m → IsMachineSound (settle_closed m rounds left)
closed_sound m rounds left s =
    let grown : length (m.journal ++ closing rounds left ∷ []) ≡ length m.journal + 1 = length-append m.journal (closing rounds left ∷ []) in
    record {
      front = s.front;
      clock = s.clock;
      count = s.count;
      nodes = fit-more (length m.journal) (length (m.journal ++ closing rounds left ∷ [])) m.nodes (omega (arith, grown)) s.nodes;
      events = omega (arith, grown, s.events);
      time = omega (arith, grown, s.time);
    }

-- ---- what of the machine a step changes beside

-- a client
pub clients_sound : (m : Machine) (t : FinMap nat_cmp Station) → IsMachineSound m → IsMachineSound (record m { clients = t })
clients_sound m t s = record { front = s.front; clock = s.clock; count = s.count; nodes = s.nodes; events = s.events; time = s.time }

-- a packet that is lost
pub net_sound : (m : Machine) (net : List Packet) → IsMachineSound m → IsMachineSound (record m { net = net })
net_sound m net s = record { front = s.front; clock = s.clock; count = s.count; nodes = s.nodes; events = s.events; time = s.time }

-- the front end
pub front_sound : (most : ℕ) (m : Machine) (f : FrontState) → IsSoundTo most m → IsFrontSound f → AreBefore m.now f.dispatch.books.sets → IsSoundTo most (record m { front = f })
front_sound most m f s h k = record { front = h; clock = k; count = s.count; nodes = s.nodes; events = s.events; time = s.time }

-- a node's disk has no more jobs than there are records
pub node_jobs : (m : Machine) (i : ℕ) (s : NodeState) → IsMachineSound m → slice_get m.nodes i ≡ Some s → length s.disk ≤ length m.journal
node_jobs m i s h at = (all-at (IsNodeFit (length m.journal)) m.nodes i s h.nodes at).jobs

-- a node
pub node_sound : (most more : ℕ) (m : Machine) (i : ℕ) (old new : NodeState) → IsSoundTo most m → slice_get m.nodes i ≡ Some old → IsNodeSound new
    → length new.disk ≤ length old.disk + more → IsSoundTo (most + more) (record m { nodes = slice_set m.nodes i new })
node_sound most more m i old new s at h le = record {
  front = s.front;
  clock = s.clock;
  count = length-set m.nodes i new ∙ s.count;
  nodes = all-set (IsNodeFit (most + more)) m.nodes i new (fit-more most (most + more) m.nodes (omega arith) s.nodes)
      (record { sound = h; jobs = omega (arith, le, (all-at (IsNodeFit most) m.nodes i old s.nodes at).jobs) });
  events = s.events;
  time = s.time;
}
