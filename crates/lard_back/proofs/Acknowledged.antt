-- The end of a stay is acknowledged, or a Give is: it is not told again.
use Rattle.std.proofs.Common.{◌≡◌, ℕ, ◌==◌, not, Bool, true, false, [], Option, Some, None, is_some, Result, Ok, Err, IfOk, OnOk, sym, ap, subst, ◌∙◌}
use Rattle.std.proofs.lemmas.Bool.{and_parts, cond-true}
use Rattle.std.specs.FinMap.{get}
use Rattle.lard_back.specs.declared.hand.At.{At}
use Rattle.lard_back.specs.declared.timers.Flags.{Flags}
use Rattle.lard_back.specs.Awaiting.{awaits_answer}
use Rattle.lard_back.specs.Place.{told_at}
use Rattle.lard_back.specs.Sound.{IsAtRest, IsNodeSound, IsStaying}
use Rattle.lard_back.specs.Timers.{timer_flags}
use Rattle.lard_back.proofs.Acted.{put-sound, told-sound}
use Rattle.lard_back.proofs.Deeds.{told-did}
use Rattle.lard_base.specs.declared.errors.NoMemory.{NoMemory}
use Rattle.lard_handoff_back.specs.declared.row.BackConn.{BackConn}
use Rattle.lard_handoff_back.specs.declared.row.BackConn.TheVariants as stage
use Rattle.lard_handoff_back.specs.declared.row.BackRow.{BackRow}
use Rattle.lard_handoff_back.specs.Back.{Backs, back_acknowledged, awaits_ack, back_with_stage}
use Rattle.lard_handoff_back.specs.Row.{is_ended}
use Rattle.lard_handoff_back.specs.Table.{Table, beside_in}
use Rattle.lard_handoff_back.proofs.Putting.{row_put_in}
use Rattle.lard_rules.specs.declared.node.NodeState.{NodeState}
use Rattle.lard_rules.specs.declared.node.NodeTurn.{NodeTurn}
use Rattle.lard_rules.specs.declared.stay.Stay.{Stay}
use Rattle.lard_rules.specs.Node.{NodeDeed, Does, Drops, NodePart, gone, node_acknowledged, node_saying, told_kind}
use Rattle.lard_rules.specs.NodePlace.{NodeSetting, node_deed, node_env, node_part, node_put}
use Rattle.lard_resend.specs.Kept.{without}
use Rattle.lard_resend.specs.Pending.{pending_settled}
use Rattle.lard_resend.proofs.Lists.{list_got}
use Rattle.lard_resend.proofs.Renewed.{settled_is}
use Rattle.lard_rules.specs.declared.places.Out.{Out}
use Rattle.lard_table.proofs.Map.{put_got}
use Rattle.lard_table.specs.Table.{put_or}

-- no stay stands beside a row whose end is told, and none beside one whose end is known
acked-rest : (e : ℕ) (o : Option BackRow) (v : Option Stay) → awaits_ack e o ≡ true → IsAtRest o v → IsAtRest (gone o) v
acked-rest e None v h r = absurd cc
acked-rest e (Some row) v h r = go row.stage v (and_parts (row.epoch.0 == e) (is_ended row.stage) h).1 r where
  go : (st : BackConn) (v : Option Stay) → is_ended st ≡ true → IsStaying st v → IsStaying stage.Gone v
  go (stage.Here b) v h r = absurd cc
  go stage.Out v h r = absurd cc
  go stage.Ended None h r = tt
  go stage.Ended (Some s) h r = r
  go stage.Gone v h r = r

-- the stay is over where an answer to that is awaited
over : (back : Bool) (e : ℕ) (t : Table) (c : ℕ) → awaits_answer back e t c ≡ true → awaits_ack e (get t.rows c) ≡ true
over true e t c h = (and_parts (awaits_ack e (get t.rows c)) (is_some (beside_in t c).returned) h).0
over false e t c h = (and_parts (awaits_ack e (get t.rows c)) (not (is_some (beside_in t c).returned)) h).0

acked-row : (m : Backs) (c e : ℕ) (o : Option BackRow) (awaited : Bool) → awaits_ack e o ≡ true → awaited ≡ true → back_acknowledged m c o awaited ≡ put_or m c (gone o)
acked-row m c e None awaited h is = absurd cc
acked-row m c e (Some row) awaited h is = cond-true awaited (back_with_stage m c stage.Gone (Some row)) m is

-- the row and what is held, as they are then
abbrev pub acked : NodeState → At → Bool → NodeState
acked s at back = record s {
  conns = record s.conns { rows = back_acknowledged s.conns.rows at.c (get s.conns.rows at.c) (awaits_answer back at.epoch.0 s.conns at.c) };
  kept = pending_settled s.kept at.c (told_kind back) 0;
}

abbrev acked-part : Bool → NodePart → NodePart
acked-part back p = record p { row = gone p.row; kept = without (told_kind back) 0 p.kept }

acked-put : (s : NodeState) (at : At) (back : Bool) → IsNodeSound s → awaits_answer back at.epoch.0 s.conns at.c ≡ true → acked s at back ≡ node_put s at.c (acked-part back (node_part s at.c))
acked-put s at back sound h = λ i. record s {
  conns = ((λ j. record s.conns { rows = acked-row s.conns.rows at.c at.epoch.0 (get s.conns.rows at.c) (awaits_answer back at.epoch.0 s.conns at.c) (over back at.epoch.0 s.conns at.c h) h j })
      ∙ row_put_in s.conns at.c (gone (get s.conns.rows at.c))) i;
  stays = sym (put_got s.stays at.c) i;
  kept = settled_is s.kept at.c (told_kind back) 0 (sound.kept at.c) i;
  fetches = sym (list_got s.fetches at.c (sound.fetches at.c)) i;
}

pub acked-does : (k : NodeSetting) (s t n : NodeState) (at : At) (back : Bool) (was : Flags) (turn : NodeTurn) (out : Out) → t ≡ acked s at back → was ≡ timer_flags (node_part s at.c) → at.n ≡ k.n
    → turn ≡ node_saying [] → IsNodeSound s → awaits_answer back at.epoch.0 s.conns at.c ≡ true → (n, out) ≡ told_at t at was turn
    → (n, out) ≡ node_deed k s at.c (node_acknowledged (node_env k s at.c at.epoch.0) back (node_part s at.c))
acked-does k s t n at back was turn out is flags node quiet sound h told =
    let q : NodePart = acked-part back (node_part s at.c) in
    told
    ∙ told-did k s t at was q turn (is ∙ acked-put s at back sound h) flags node
    ∙ ap (λ (u : NodeTurn). node_deed k s at.c (Does (q, u))) quiet
    ∙ ap (node_deed k s at.c) (sym (cond-true {A = NodeDeed} (awaits_answer back at.epoch.0 s.conns at.c) (Does (q, node_saying [])) Drops h))

pub acked-by : (s t n : NodeState) (at : At) (back : Bool) (was : Flags) (turn : NodeTurn) (r : Result Out NoMemory) → t ≡ acked s at back → was ≡ timer_flags (node_part s at.c) → turn ≡ node_saying []
    → IsNodeSound s → awaits_answer back at.epoch.0 s.conns at.c ≡ true → IfOk r (λ out. (n, out) ≡ told_at t at was turn)
    → IfOk r (λ out. (k : NodeSetting) → k.n ≡ at.n → (n, out) ≡ node_deed k s at.c (node_acknowledged (node_env k s at.c at.epoch.0) back (node_part s at.c)))
acked-by s t n at back was turn (Ok out) is flags quiet sound h told = λ k node. acked-does k s t n at back was turn out is flags (sym node) quiet sound h told
acked-by s t n at back was turn (Err e) is flags quiet sound h told = tt

pub acked-sound : (s t n : NodeState) (at : At) (back : Bool) (was : Flags) (turn : NodeTurn) (r : Result Out NoMemory) → t ≡ acked s at back → IsNodeSound s
    → awaits_answer back at.epoch.0 s.conns at.c ≡ true → IfOk r (λ out. (n, out) ≡ told_at t at was turn) → OnOk r (IsNodeSound n)
acked-sound s t n at back was turn (Ok out) is sound h told =
    let q : NodePart = acked-part back (node_part s at.c) in
    let rest : IsAtRest q.row q.stay = acked-rest at.epoch.0 (get s.conns.rows at.c) (get s.stays at.c) (over back at.epoch.0 s.conns at.c h) (sound.stays at.c) in
    let put : IsNodeSound t = subst IsNodeSound (sym (is ∙ acked-put s at back sound h)) (put-sound s at.c q rest sound) in
    subst IsNodeSound (ap (λ (x : NodeState × Out). x.0) (sym told)) (told-sound t turn put)
acked-sound s t n at back was turn (Err e) is sound h told = tt
