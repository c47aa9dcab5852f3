-- A connection that came back, as the code has it.
use Rattle.std.specs.Prelude.{◌≡◌, ℕ, ◌++◌, List, [], ◌∷◌, Some, None}
use Rattle.std.specs.FinMap as table
use Rattle.lard_base.specs.declared.parts.EndpointParts.{EndpointParts}
use Rattle.lard_base.specs.declared.place.Place.{Place}
use Rattle.lard_base.specs.declared.place.Place.TheVariants as place
use Rattle.lard_base.specs.declared.place.TimerKind.TheVariants as kind
use Rattle.lard_base.specs.Parts.{IsValidParts}
use Rattle.lard_dispatch.specs.Books.{Dispatcher}
use Rattle.lard_dispatch.specs.Calls.{after_close, ended_answer}
use Rattle.lard_dispatch.specs.Laws.{after_calls}
use Rattle.lard_front.specs.declared.joining.Head.{Head}
use Rattle.lard_front.specs.declared.returning.Returning.{Returning}
use Rattle.lard_front.specs.Hand.{armed_of, changes, deed_turn, reads_at}
use Rattle.lard_handoff_front.specs.declared.row.FrontRow.{FrontRow}
use Rattle.lard_handoff_front.specs.Front.{next_epoch}
use Rattle.lard_handoff_front.specs.Returns.{returned_row}
use Rattle.lard_journal.specs.declared.rec.Rec.{Rec}
use Rattle.lard_journal.specs.declared.rec.Rec.TheVariants as rec
use Rattle.lard_resend.specs.Pending.{held, pending_settled}
use Rattle.lard_rules.specs.declared.front.FrontState.{FrontState}
use Rattle.lard_rules.specs.declared.front.FrontTurn.{FrontTurn}
use Rattle.lard_rules.specs.declared.places.Out.{Out}
use Rattle.lard_rules.specs.Front.{front_rest}
use Rattle.lard_rules.specs.FrontPlace.{FrontSetting, HeadTurn, back_calls, closed_note, front_env, front_out_of, front_part, head_turn, in_order, returned_turn}
use Rattle.lard_rules.specs.FrontSound.{HasOther, IsAwayAt, IsFrontSound, dispatch_standing, open_nodes_of}

-- It was at this node, and goes on from these parts in the next epoch; nothing else is done yet.
pub record CameBack (t : FrontState) (r : Returning) (from : ℕ) : Type 0 where
  pub before : FrontState
  pub row : FrontRow
  pub parts : EndpointParts
  pub sound : IsFrontSound before
  pub other : HasOther before from
  pub found : table.get before.conns r.c ≡ Some row
  pub away : IsAwayAt (open_nodes_of before.dispatch) row.epoch.0 (held before.kept r.c) (dispatch_standing before.dispatch r.c) from
  pub valid : IsValidParts parts
  pub next : r.next ≡ next_epoch row
  pub counts : r.served ≡ parts.served
  pub was : r.was ≡ armed_of (front_part before r.c)
  pub back : t ≡ record before { conns = table.insert before.conns r.c (returned_row parts row) }

-- what is known of it, and its Offer is kept no longer
abbrev pub rested_anew : FrontState → Returning → FrontState
rested_anew t r = record t {
  rests = table.insert t.rests r.c (record (front_rest None) { count = r.served });
  kept = pending_settled t.kept r.c kind.Offer 0;
}

-- its node is closed, and it is released
abbrev pub freed : FrontSetting → FrontState → Returning → ℕ → FrontState
freed k t r from = record (rested_anew t r) { dispatch = after_calls t.dispatch (back_calls from r.c k.now) }

abbrev pub freed_notes : Dispatcher → Returning → ℕ → List Rec
freed_notes d r from = rec.Took place.Front r.c r.next ∷ closed_note d from ++ rec.Released r.c ∷ []

-- what is done of the head of the line, behind connection c
pub record IsHead (new : FrontState) (x : Head) (c : ℕ) (h : HeadTurn) : Type 0 where
  pub state : new ≡ h.state
  pub turn : x.turn ≡ h.turn
  pub timers : (rs : List Rec) → in_order c x.c rs x.timers ≡ h.timers rs

-- and the head, in the room that it leaves
abbrev pub head_next : FrontSetting → FrontState → Returning → ℕ → HeadTurn
head_next k t r from = head_turn k (freed k t r from) r.c (ended_answer (after_close t.dispatch from) r.c k.now)

-- what it reads on to, behind the head
abbrev pub behind_head : Returning → List Rec → List (Place × List ℕ) → HeadTurn → FrontState × FrontTurn → FrontState × Out
behind_head r notes said h x = (x.0, front_out_of (returned_turn notes said h.turn x.1) (h.timers (changes r.c r.was (armed_of (front_part x.0 r.c)))))

abbrev pub returned_from : FrontSetting → FrontState → Returning → ℕ → List (Place × List ℕ) → FrontState × Out
returned_from k t r from said =
    let h = head_next k t r from in
    behind_head r (freed_notes t.dispatch r from) said h
    (deed_turn h.state r.c (reads_at (front_env k h.state r.c 0) (front_part h.state r.c) (table.get h.state.conns r.c)))
