use Rattle.std.proofs.Common.{◌≡◌, ◌⊎◌, ◌<◌, ℕ, Bool, true, false, cond, nat_eq, List, [], ◌∷◌, ◌++◌, length, Some, None, inl, ⊎_elim, refl, sym, ap, ◌∙◌, subst, arith}
use Rattle.std.specs.Prelude.{codes}
use Rattle.lard_base.specs.declared.event.Event.TheVariants as event
use Rattle.lard_law_view.specs.Prelude.{Client, Front, Has, Letter, Node, Numbers, Place, Rec, Row, Verdict, letters, numbers_of, own, request, verdicts, was_reset}
use Rattle.lard_history.proofs.Seeing.{has-before}
use Rattle.lard_journal.specs.declared.rec.Rec.TheVariants as rec
use Rattle.lard_laws.specs.Due.{AwaitsContent, AwaitsDisk, AwaitsTag, HasAcknowledged, IsUnanswered, NothingIsDue}
use Rattle.lard_refusals.specs.Packets.{acknowledges_the_request}
use Rattle.lard_refusals.specs.Refusals.{three_nodes, took, two_files}
use Rattle.lard_refusals.proofs.Requests.{request-asks}
use Rattle.lard_refusals.proofs.Segments.{request-decodes, request_say}
use Rattle.lard_refusals.proofs.quiet.nothing_due_refuses.Goals as goal

-- ---- the reset comes late

-- what stands before the second step
abbrev before : List Rec
before = rec.Opened 1 1000 5000 65535 1460 ∷ rec.Wrote 1 (request (codes "/a")) ∷ took (Node 1) 1 2 ∷ rec.Hit 1 (codes "/a") ∷ rec.Sent 1 (Node 1) (Client 1) acknowledges_the_request ∷ []

acknowledged : HasAcknowledged before 1 32
unfolding letters
acknowledged = record {
  from = Node 1;
  by = refl;
  bytes = acknowledges_the_request;
  sent = inl refl;
  said = request_say;
  decodes = request-decodes;
  acks = refl;
  numbers = record { isn = 1000; iss = 5000 };
  opened = refl;
  is = refl;
  within = omega arith;
}

-- its request is among what was acknowledged
more : 0 < length (verdicts (request (codes "/a")))
more = let one : length (verdicts (request (codes "/a"))) ≡ 1 = ap (λ (vs : List Verdict). length vs) request-asks in omega (arith, one)

-- the node sent nothing but to the client
never-sent : (to : Place) (bytes : List ℕ) → (Client 1 ≡ to → ⊥) → Has (Row (rec.Sent 0 (Node 1) to bytes)) (own 1 before) → ⊥
unfolding own
never-sent to bytes other h = ⊎_elim (λ (e : Row (rec.Opened 1 1000 5000 65535 1460) ≡ Row (rec.Sent 0 (Node 1) to bytes)). cc)
    (λ (h : _). ⊎_elim (λ (e : Row (rec.Wrote 1 (request (codes "/a"))) ≡ Row (rec.Sent 0 (Node 1) to bytes)). cc)
    (λ (h : _). ⊎_elim (λ (e : Row (took (Node 1) 1 2) ≡ Row (rec.Sent 0 (Node 1) to bytes)). cc)
    (λ (h : _). ⊎_elim (λ (e : Row (rec.Sent 0 (Node 1) (Client 1) acknowledges_the_request) ≡ Row (rec.Sent 0 (Node 1) to bytes)). other (let same : Client 1 ≡ to = cc in same)) (λ (none : ⊥). none) h) h) h) h

none-out : (P : Letter → Type 0) (to : Place) (bytes : List ℕ) → (Client 1 ≡ to → ⊥) → IsUnanswered P (own 1 before) (Node 1) to bytes → ⊥
none-out P to bytes other u = never-sent to bytes other (subst (Has (Row (rec.Sent 0 (Node 1) to bytes))) (sym u.split) (has-before (Row (rec.Sent 0 (Node 1) to bytes)) u.before u.later u.sent))

pub returns-clause-reset_comes_late : goal.returns-clause-reset_comes_late
returns-clause-reset_comes_late c h =
    let awaits = h.before.1.1.1.1.1.0 1 32 refl refl refl acknowledged more in
    ⊎_elim (λ (a : AwaitsTag before 1 1 awaits.0). none-out _ Front _ (λ e. let no : Client 1 ≡ Front = e in cc) a.2.2)
    (λ (b : AwaitsDisk before 1 1 1 ⊎ AwaitsContent before 1 1 1). ⊎_elim (λ (d : AwaitsDisk before 1 1 1). d.1)
    (λ (f : AwaitsContent before 1 1 1). none-out _ (Node f.0) _ (λ e. let no : Client 1 ≡ Node f.0 = e in cc) f.2) b) awaits.2

-- ---- it comes at once

-- where the only client that opened was reset nothing is due
reset-none : (J : List Rec) → ((c : ℕ) → (b : Bool) × (n : Numbers) × (numbers_of J c ≡ cond b (Some n) None) × (was_reset J c ≡ cond b true false)) → NothingIsDue three_nodes two_files J
reset-none J known c n calm not_aborted not_reset a more =
    let k = known c in
    absurd (go k.0 k.1 (sym k.3 ∙ not_reset) (sym k.2 ∙ a.opened)) where
      go : (b : Bool) (m : Numbers) → cond b true false ≡ false → cond b (Some m) None ≡ Some a.numbers → ⊥
      go true m e f = let no : true ≡ false = e in cc
      go false m e f = let no : None ≡ Some a.numbers = f in cc

abbrev reset : List Rec
reset = rec.Opened 1 1000 5000 65535 1460 ∷ rec.Wrote 1 (request (codes "/a")) ∷ took (Node 1) 1 2 ∷ rec.Hit 1 (codes "/a") ∷ rec.Reset (Node 1) 1 120 ∷ rec.Sent 1 (Node 1) (Client 1) acknowledges_the_request ∷ []

abbrev first : Numbers
first = record { isn = 1000; iss = 5000 }

pub returns-clause-reset_comes_at_once : goal.returns-clause-reset_comes_at_once
returns-clause-reset_comes_at_once c = record {
  before = (tt, (tt, (tt, (tt, (tt, (tt, (reset-none reset (λ q. (nat_eq 1 q, first, refl, refl)), tt)))))));
  last = reset-none (reset ++ rec.Event 1 (event.Timer (Node 1) 1) ∷ []) (λ q. (nat_eq 1 q, first, refl, refl));
}
