-- What the front end notes while it reads, behind what it noted before, and what nodes know of a connection that comes back.
use Rattle.std.proofs.Common.{◌≡◌, ◌≤◌, ◌≢◌, ℕ, ◌+◌, [], ◌∷◌, length, Option, Some, None, subst, sym, arith, ⊎_elim}
use Rattle.std.proofs.lemmas.Bool.{cases_eq}
use Rattle.lard_base.specs.declared.place.Via.TheVariants.{Own}
use Rattle.lard_history.proofs.Each.{Each, Each-append}
use Rattle.lard_journal.specs.declared.rec.Rec.TheVariants as rec
use Rattle.lard_law_connections.proofs.PlacesTurns.{IsPlaced}
use Rattle.lard_law_connections.specs.Places.{ArePast, IsPast, IsThere, OthersArePast, Owning, Sits, owning}
use Rattle.lard_law_view.specs.Prelude.{BackRow, Conn, Epoch, FrontRow, NodePart, Rec, ServeEnv, Service, answer, answer_code, front_reads, serving_consumed, tale_at}
use Rattle.lard_handoff_front.specs.declared.row.FrontConn.TheVariants as stage
use Rattle.lard_rules.proofs.Endings.{answered-keeps, at-fin-keeps, total_with}
use Rattle.lard_rules.proofs.FrontCases.{IsAwayWith, of-stage}
use Rattle.lard_rules.proofs.FrontReads.{reading-keeps}

-- Q is so of each note, and of each response and reset
module _ (Q : Rec → Type 0) (env : ServeEnv) (served : (r code size : ℕ) → Q (rec.Served env.place env.c r code size Own))
    (reset : (total : ℕ) → Q (rec.Reset env.place env.c total)) where
  abbrev Notes : Service → Type 0
  Notes w = Each Q w.notes

  pub reads-note : (w : Service) → Notes w → Notes (front_reads env (record { service = w; target = None })).service
  reads-note w noted = reading-keeps env Notes (λ w target. Notes w) (record {
    answers = λ v n w may some within h. answered-keeps Notes env Own v (serving_consumed n w)
        (λ t. Each-append Q w.notes (rec.Reset env.place env.c (total_with env v w) ∷ []) h (reset (total_with env v w), tt))
        (λ t. Each-append Q w.notes (rec.Served env.place env.c (w.count + 1) (answer_code env.files v) (length (answer env.files v)) Own ∷ []) h
        (served (w.count + 1) (answer_code env.files v) (length (answer env.files v)), tt));
    ends = λ n w may h. at-fin-keeps Notes (serving_consumed n w) (λ t. h) (λ t. h);
    places = λ path w may h. h;
    stops = λ w h. h;
  }) w noted

-- ---- what nodes know of it

-- the node decided nothing behind this epoch
abbrev pub IsWithin : ℕ → Option BackRow → Type 0
IsWithin e None = Unit {0}
IsWithin e (Some row) = row.epoch.0 ≤ e

abbrev pub AreWithin : ℕ → (ℕ → NodePart) → Type 0
AreWithin e nodes = (n : ℕ) → IsWithin e (nodes n).row

past-one : (e : ℕ) (o : Option BackRow) → IsPast e o → IsWithin e o
past-one e None h = tt
past-one e (Some row) h = let less = h.0 in omega (arith, less)

there-one : (n e : ℕ) (w : Owning) (o : Option BackRow) → IsThere n e w o → IsWithin e o
there-one n e w None h = absurd h
there-one n e w (Some row) h = let same = h.0 in omega (arith, same)

pub past-within : (e : ℕ) (nodes : ℕ → NodePart) → ArePast e nodes → AreWithin e nodes
past-within e nodes past n = past-one e (nodes n).row (past n)

pub within-later : (e : ℕ) (nodes : ℕ → NodePart) → AreWithin e nodes → AreWithin (e + 1) nodes
within-later e nodes within n = go (nodes n).row (within n) where
  go : (o : Option BackRow) → IsWithin e o → IsWithin (e + 1) o
  go None h = tt
  go (Some row) h = omega (arith, h)

-- while it is away, no node knows an epoch behind that of the front end
pub away-within : (x : Conn) → IsPlaced x → (row : FrontRow) (n : ℕ) (from : Epoch) → IsAwayWith x.part.front row n from → AreWithin row.epoch.0 x.part.nodes
away-within x placed row n from at = ⊎_elim
    (λ offering.
    let sits = (of-stage (Sits (owning (tale_at x)) x.part.nodes) x.part.front row (stage.Offering n from) offering placed.sits).0 in
    each sits.2 (⊎_elim (λ coming. past-one row.epoch.0 (x.part.nodes n).row coming.2)
    (λ there. there-one n row.epoch.0 (owning (tale_at x)) (x.part.nodes n).row there) sits.3))
    (λ moved.
    let sits = (of-stage (Sits (owning (tale_at x)) x.part.nodes) x.part.front row (stage.Moved n from) moved placed.sits).0 in
    each sits.2 (there-one n row.epoch.0 (owning (tale_at x)) (x.part.nodes n).row sits.3))
    at where
      each : OthersArePast n row.epoch.0 x.part.nodes → IsWithin row.epoch.0 (x.part.nodes n).row → AreWithin row.epoch.0 x.part.nodes
      each others mine m = ⊎_elim
          (λ (same : m ≡ n). subst (λ (i : ℕ). IsWithin row.epoch.0 (x.part.nodes i).row) (sym same) mine)
          (λ (other : m ≢ n). past-one row.epoch.0 (x.part.nodes m).row (others m other))
          (cases_eq m n)
