-- What the end of a connection comes to.
use Rattle.std.proofs.Common.{◌≡◌, ℕ, Bool, true, false, cond, [], ◌∷◌, Option, Some, None, Result, Ok, Err, IfOk, ◌∙◌}
use Rattle.std.specs.FinMap as table
use Rattle.lard_base.specs.declared.ids.Epoch.{Epoch}
use Rattle.lard_base.specs.declared.place.Place.TheVariants as place
use Rattle.lard_base.specs.declared.place.TimerKind.TheVariants as kind
use Rattle.lard_dispatch.specs.Calls.{after_ended}
use Rattle.lard_endpoint.specs.declared.control.moving.Final.{Final}
use Rattle.lard_rules.specs.declared.front.FrontState.{FrontState}
use Rattle.lard_rules.specs.declared.front.FrontTurn.{FrontTurn}
use Rattle.lard_rules.specs.Front.{FrontEnv, ack_sent, front_ended_by, front_ended, front_saying}
use Rattle.lard_rules.specs.FrontPlace.{front_part}
use Rattle.lard_front.specs.declared.releasing.Released.{Released}
use Rattle.lard_front.specs.Hand.{deed_turn}
use Rattle.lard_handoff_front.specs.declared.row.FrontRow.{FrontRow}
use Rattle.lard_handoff_front.specs.declared.table.OnEnded.{OnEnded}
use Rattle.lard_handoff_front.specs.declared.table.OnEnded.TheVariants.{New, Again, Stale}
use Rattle.lard_handoff_front.specs.Front.{Fronts, end_answer, ended_with, next_epoch}
use Rattle.lard_handoff_front.specs.Front as fronts
use Rattle.lard_handoff_front.specs.Row.{is_away}
use Rattle.lard_journal.specs.declared.rec.Rec.TheVariants as rec
use Rattle.lard_resend.proofs.Renewed.{settled_is}
use Rattle.lard_resend.specs.Pending.{pending_settled}

-- a turn that was given, with the state that it leaves
pub both_are : {E : Type 0} (r : Result Released E) (new st : FrontState) (t : FrontTurn) (y : FrontState × FrontTurn)
    → IfOk r (λ x. new ≡ st) → IfOk r (λ x. x.turn ≡ t) → (st, t) ≡ y → IfOk r (λ x. (new, x.turn) ≡ y)
both_are (Ok x) new st t y a b e = (λ i. (a i, b i)) ∙ e
both_are (Err f) new st t y a b e = tt

module _ (env : FrontEnv) (s : FrontState) (from : ℕ) (epoch : Epoch) (last : Final) (n : Fronts) where
  abbrev k : ℕ
  k = env.serve.c

  abbrev After : Option FrontRow → Type 0
  After o = n ≡ fronts.front_after_ended s.conns k epoch last o

  -- an end that is new: what is left, and what is said
  abbrev left : FrontState
  left = record s { conns = n; rests = table.remove s.rests k; kept = pending_settled s.kept k kind.Offer 0; dispatch = after_ended s.dispatch k env.now }

  abbrev told : Epoch → FrontTurn
  told e = record (front_saying (ack_sent env from epoch.0)) { notes = rec.Took place.Front k e ∷ rec.Released k ∷ [] }

  pub new_is : (next : Epoch) → New next ≡ end_answer epoch.0 (table.get s.conns k) → After (table.get s.conns k) → (table.get s.kept k ≡ Some [] → ⊥)
      → (left, told next) ≡ deed_turn s k (front_ended env (front_part s k) from epoch.0 last)
  new_is next new after some = go (table.get s.conns k) new after where
    Comes : Option FrontRow → OnEnded → Type 0
    Comes o a = (left, told next) ≡ deed_turn s k (front_ended_by env (front_part s k) from epoch.0 last o a)

    by : (row : FrontRow) (a w : Bool) → New next ≡ cond {A = OnEnded} a (New (next_epoch row)) (cond w Again Stale)
        → n ≡ cond a (table.insert s.conns k (fronts.ended_row epoch last row)) s.conns → Comes (Some row) (cond a (New (next_epoch row)) (cond w Again Stale))
    by row true w new after =
        let same : next ≡ next_epoch row = cc in
        λ i. (record left { conns = after i; kept = settled_is s.kept k kind.Offer 0 some i }, told (same i))
    by row false true new after = let no : New next ≡ Again = new in absurd cc
    by row false false new after = let no : New next ≡ Stale = new in absurd cc

    go : (o : Option FrontRow) → New next ≡ end_answer epoch.0 o → After o → Comes o (end_answer epoch.0 o)
    go None new after = let no : New next ≡ Stale = new in absurd cc
    go (Some row) new after = by row (is_away epoch.0 row.stage) (ended_with epoch.0 row.ended_by) new after
