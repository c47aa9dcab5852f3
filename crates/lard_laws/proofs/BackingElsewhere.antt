-- Records that tell no response of a node, and queue no job: all but what nodes note.
use Rattle.std.proofs.Common.{◌≡◌, ℕ, Ok}
use Rattle.lard_law_view.specs.Prelude.{Client, Event, Front, HasRule, IsViewed, Machine, Node, Place, Rec, machine_step}
use Rattle.lard_laws.proofs.BackingHitting.{IsStill}
use Rattle.lard_law_connections.proofs.Calm.{Allows, AllowsNotes, IsCalm, every-clock}
use Rattle.lard_law_connections.proofs.Forms.{NodesStay, nodes-calm}
use Rattle.lard_law_view.proofs.Saying.{NamesAll, NamesNobody, NotedAt}
use Rattle.lard_journal.specs.declared.rec.Rec.TheVariants as rec

pub allows-still : Allows IsStill
allows-still = record {
  event = λ i e. (tt, tt);
  opened = λ c isn iss wnd mss. (tt, tt);
  injected = λ c. (tt, tt);
  got = λ k. (tt, tt);
  lost = λ k. (tt, tt);
  sent = λ k from to bytes. (tt, tt);
  gave = λ place c epoch. (tt, tt);
  armed = λ place c kind. (tt, tt);
  cleared = λ place c kind. (tt, tt);
}

named-still : (place : Place) (c : ℕ) (r : Rec) → NamesAll place → NotedAt place c r → IsStill r
named-still Front c (rec.Served (Node n) d r code size way) k h = absurd h
named-still (Client e) c (rec.Served (Node n) d r code size way) k h = absurd h
named-still Front c (rec.Queued n m d r path) k h = absurd h
named-still (Client e) c (rec.Queued n m d r path) k h = absurd h
named-still (Node m) c r k h = absurd k
named-still _ c _ k h = (tt, tt)

nobody-still : (place : Place) (r : Rec) → NamesAll place → NamesNobody place r → IsStill r
nobody-still Front (rec.Closed n) k h = (tt, tt)
nobody-still (Node n) r k h = absurd k
nobody-still _ _ k h = absurd h

note-still : AllowsNotes NamesAll IsStill
note-still = record { named = named-still; nobody = nobody-still }

-- where no node moves, nothing else is said
pub stays-still : (m : Machine) → IsViewed m → (e : Event) (n : Machine) → HasRule e → machine_step m e ≡ Ok n → NodesStay m e n → IsCalm IsStill m n
stays-still m view e n rule is stay = nodes-calm IsStill allows-still note-still m view e n rule is (every-clock IsStill (λ time. (tt, tt)) e) stay
