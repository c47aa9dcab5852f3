-- What the front end does by a rule is an act on the rule's connection, and where one ended, perhaps on the head of the line.
use Rattle.lard_law_view.proofs.Turned.{notes-in, said-in}
use Rattle.std.proofs.Common.{ℕ, List, [], refl, sym, arith, inr}
use Rattle.lard_law_view.specs.Prelude.{AreOwn, Conn, Event, Front, FrontDeed, FrontState, FrontTurn, IsConnNumber, Machine, Move, Seen, conn, front_deed, front_does, front_gave, front_out_of, front_part, front_timers, part_of, put_back, timer_rows}
use Rattle.lard_law_view.proofs.Fronts.{IsFrontDeed, IsFrontTurn}
use Rattle.lard_law_view.proofs.Heads.{Begins}
use Rattle.lard_law_view.proofs.Parts.{front-mine, front-others}
use Rattle.lard_law_view.proofs.Saying.{notes-all, notes-closing, own-first}
use Rattle.lard_law_view.proofs.Shapes.{IsPut, Shapes}
use Rattle.lard_law_view.proofs.Timers.{timer_rows-same}
use Rattle.lard_rules.specs.Front.{Drops, Says, Does}
use Rattle.lard_rules.proofs.FrontParts.{part_other, part_put}
use Rattle.lard_law_view.proofs.OwnRecords.{behind}

pub front-put : (m : Machine) (s : FrontState) → IsPut m (record m { front = s })
front-put m s = record { config = refl; files = refl; net = refl; journal = refl; events = refl; answered = refl; now = refl; nodes = refl; jobs = λ h. h; remain = λ h. h }

module _ (m : Machine) (P : Conn → Move → Type 0) (Q : Event → Machine → Type 0) (shapes : Shapes m P Q) (e : Event) (c : ℕ) (heads : List Seen) (number : IsConnNumber c) (begins : Begins m e Front c heads)
    (own : AreOwn e (behind e)) where
  says : (t : FrontTurn) → IsFrontTurn c t → P (conn m c) (front_does (conn m c) heads (Says t)) → Q e (front_gave m e (behind e) (m.front, front_out_of t []))
  unfolding conn
  says t of does = shapes.one (record m { front = m.front }) e Front (front_out_of t []) c heads t.notes (part_of m c)
      (record {
        put = front-put m m.front;
        number = number;
        begins = begins;
        said = said-in Front c t.notes t.segments t.gave t.messages t.answered of;
        first = own-first e Front c t.notes tt own (notes-in Front c t.notes of.notes);
        closes = inr (notes-closing Front c t.notes of.notes);
        notes = λ net. notes-all Front c net t.notes tt of.notes;
        timers = sym (timer_rows-same Front c (part_of m c));
        mine = refl;
        others = λ q n. refl;
      }) does

  -- a rule of connection c
  pub front-acts : (deed : FrontDeed) → IsFrontDeed c (front_part m.front c) deed → P (conn m c) (front_does (conn m c) heads deed) → Q e (front_gave m e (behind e) (front_deed m.front c deed))
  unfolding conn part_of timer_rows
  front-acts Drops of does = says (record { notes = []; segments = []; gave = []; messages = []; answered = 0 }) (record { notes = tt; segments = tt; gave = tt; messages = tt; counted = λ n. omega arith }) does
  front-acts (Says t) of does = says t of does
  front-acts (Does x) of does = shapes.one (record m { front = put_back m.front c x }) e Front (front_out_of x.turn (front_timers c (front_part m.front c) x.part)) c heads x.turn.notes _
      (record {
        put = front-put m (put_back m.front c x);
        number = number;
        begins = begins;
        said = said-in Front c x.turn.notes x.turn.segments x.turn.gave x.turn.messages x.turn.answered of.0;
        first = own-first e Front c x.turn.notes tt own (notes-in Front c x.turn.notes of.0.notes);
        closes = inr (notes-closing Front c x.turn.notes of.0.notes);
        notes = λ net. notes-all Front c net x.turn.notes tt of.0.notes;
        timers = refl;
        mine = front-mine m (put_back m.front c x) c x.part (part_put m.front c x.part);
        others = λ q n. front-others m (put_back m.front c x) q (part_other m.front c q x.part n);
      }) does
