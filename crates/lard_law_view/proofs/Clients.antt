-- What a client does in its turn is an act on its connection.
use Rattle.std.proofs.Common.{◌≡◌, ℕ, Bool, List, [], refl, ap, ◌++◌, inr}
use Rattle.std.specs.FinMap as table
use Rattle.lard_law_view.specs.Prelude.{Client, ClientBlock, Conn, Event, IsConnNumber, Machine, Move, Rec, Seen, Station, Turn, by_client, client_acted, client_put, conn, is_client_armed, out_of, part_of, station_armed, timer_change, timer_rows, with_station}
use Rattle.lard_law_view.proofs.Heads.{Begins}
use Rattle.lard_law_view.proofs.Parts.{client-mine, client-others}
use Rattle.lard_law_view.proofs.Saying.{NotedAt, notes-all, notes-closing}
use Rattle.lard_law_view.proofs.Shapes.{Shapes}
use Rattle.lard_law_view.proofs.Turned.{IsSaid, client-segments, said-in}
use Rattle.lard_history.proofs.Each.{Each-weaker}
use Rattle.lard_journal.specs.declared.rec.Rec.TheVariants as rec
use Rattle.lard_law_view.proofs.Firsts.{HasOwn}
use Rattle.lard_law_view.proofs.OwnRecords.{behind}
use Rattle.lard_law_view.proofs.PlaceTurns as today
use Rattle.lard_law_view.proofs.PlaceTurns.{IsClientTurn}

client-note : (c : ℕ) (r : Rec) → today.NotedAt (Client c) c r → NotedAt (Client c) c r
client-note c (rec.Wrote d bytes) h = h
client-note c (rec.Accepted d bytes) h = h
client-note c (rec.Eof d) h = h
client-note c (rec.Aborted d) h = h
client-note c _ h = absurd h

pub client-said : (c : ℕ) (given : ClientBlock × Turn) → IsClientTurn c given → IsSaid (Client c) c given.1.notes given.1.segments [] [] given.1.answered
client-said c given t = record {
  notes = Each-weaker (today.NotedAt (Client c) c) (NotedAt (Client c) c) (client-note c) given.1.notes t.notes;
  segments = client-segments c given.1.segments t.to;
  gave = tt;
  messages = tt;
  counted = t.answered;
}

module _ (m : Machine) (P : Conn → Move → Type 0) (Q : Event → Machine → Type 0) (shapes : Shapes m P Q) where
  -- a client acted: its timer was so before
  pub client-acts : (e : Event) (c iss : ℕ) (was : Bool) (given : ClientBlock × Turn) (heads : List Seen) → IsConnNumber c → was ≡ station_armed (table.get m.clients c) → IsClientTurn c given → Begins m e (Client c) c heads → HasOwn e (behind e ++ given.1.notes)
      → P (conn m c) (record { place = Client c; heads = heads; said = by_client given.1; part = with_station (conn m c).part (record { client = given.0; iss = iss }) })
      → Q e (client_acted m e (behind e) c iss was given)
  unfolding conn part_of timer_rows
  client-acts e c iss was given heads number timer turn begins first does =
      let s : Station = record { client = given.0; iss = iss } in
      let said = client-said c given turn in
      shapes.one (client_put m c s) e (Client c) (out_of (Client c) c was (is_client_armed given.0) given.1) c heads given.1.notes (with_station (part_of m c) s)
      (record {
        put = record { config = refl; files = refl; net = refl; journal = refl; events = refl; answered = refl; now = refl; nodes = refl; jobs = λ h. h; remain = λ h. h };
        number = number;
        begins = begins;
        said = said-in (Client c) c given.1.notes given.1.segments [] [] given.1.answered said;
        first = first;
        closes = inr (notes-closing (Client c) c given.1.notes said.notes);
        notes = λ net. notes-all (Client c) c net given.1.notes tt said.notes;
        timers = ap (λ b. timer_change (Client c) c b (is_client_armed given.0)) timer;
        mine = client-mine m c s;
        others = λ q n. client-others m c q s n;
      }) does
