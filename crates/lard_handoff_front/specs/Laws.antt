-- What holds of the table over its calls.
use Rattle.std.specs.Prelude.{◌≡◌, ℕ, true, Some, is_some, option_map}
use Rattle.std.specs.FinMap.{get}
use Rattle.lard_base.specs.declared.ids.Epoch.{Epoch}
use Rattle.lard_base.specs.declared.parts.EndpointParts.{EndpointParts}
use Rattle.lard_endpoint.specs.declared.control.moving.Final.{Final}
use Rattle.lard_handoff_front.specs.declared.row.FrontConn.{FrontConn}
use Rattle.lard_handoff_front.specs.declared.row.FrontRow.{FrontRow}
use Rattle.lard_handoff_front.specs.declared.table.OnEnded.TheVariants.{Again}
use Rattle.lard_handoff_front.specs.declared.table.returns.Back.TheVariants as back
use Rattle.lard_handoff_front.specs.Row.{is_away, offered_to}
use Rattle.lard_handoff_front.specs.Returns.{after_back, give_answer, refused_answer}
use Rattle.lard_handoff_front.specs.Front.{AreRows, Fronts, front_after_ended, end_answer, next_epoch, offered, with_stage}

-- An end is new once: behind it the same epoch is answered by Again, and changes nothing.
abbrev pub EndsOnce : Type 0
EndsOnce = (m : Fronts) (c : ℕ) (epoch : Epoch) (last other : Final) (row : FrontRow) → get m c ≡ Some row → is_away epoch.0 row.stage ≡ true
    → (end_answer epoch.0 (get (front_after_ended m c epoch last (get m c)) c) ≡ Again)
    × (front_after_ended (front_after_ended m c epoch last (get m c)) c epoch other (get (front_after_ended m c epoch last (get m c)) c) ≡ front_after_ended m c epoch last (get m c))

-- A connection comes back once in an epoch: behind that a refusal of the same epoch is stale, and a Give is answered again.
abbrev pub ReturnsOnce : Type 0
ReturnsOnce = (m : Fronts) (c : ℕ) (epoch : Epoch) (parts : EndpointParts) (row : FrontRow) → AreRows m → get m c ≡ Some row
    → (is_some (offered_to epoch.0 row.stage) ≡ true → refused_answer epoch.0 (get (after_back m c parts (get m c) (refused_answer epoch.0 (get m c))) c) ≡ back.Stale)
    × (is_away epoch.0 row.stage ≡ true → give_answer epoch.0 (get (after_back m c parts (get m c) (give_answer epoch.0 (get m c))) c) ≡ back.Again)

-- An epoch is offered once: an Offer takes the next one, as an end and a return do, and what sets a stage alone leaves it, so it never falls.
abbrev pub OffersOnce : Type 0
OffersOnce = (m : Fronts) (c : ℕ) (row : FrontRow) → get m c ≡ Some row
    → ((node : ℕ) → option_map (λ r. r.epoch) (get (offered m c node (get m c)) c) ≡ Some (next_epoch row))
    × ((epoch : Epoch) (last : Final) → is_away epoch.0 row.stage ≡ true → option_map (λ r. r.epoch) (get (front_after_ended m c epoch last (get m c)) c) ≡ Some (next_epoch row))
    × ((parts : EndpointParts) → option_map (λ r. r.epoch) (get (after_back m c parts (get m c) (back.New (next_epoch row))) c) ≡ Some (next_epoch row))
    × ((stage : FrontConn) → option_map (λ r. r.epoch) (get (with_stage m c stage (get m c)) c) ≡ Some row.epoch)
