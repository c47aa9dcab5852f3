-- The holders that are kept are those of the records, and one record more is noted.
use Rattle.std.proofs.Common.{◌≡◌, ℕ, nat_eq, nat_lt, ◌&&◌, cond, List, [], ◌∷◌, ◌++◌, Option, Some, None, is_none, refl, sym, ap, ◌∙◌}
use Rattle.lard_base.specs.declared.place.Place.{Place}
use Rattle.lard_base.specs.declared.place.Place.TheVariants.{Front, Node, Client}
use Rattle.lard_history.specs.Journal.{epoch_step, last_epoch, owner, owner_step}
use Rattle.lard_journal.specs.declared.rec.Rec.{Rec}
use Rattle.lard_journal.specs.declared.rec.Rec.TheVariants as rec
use Rattle.lard_audit.specs.declared.owners.Holder.{Holder}
use Rattle.lard_audit.specs.Audit.{AreOwners}
use Rattle.lard_audit.specs.Sound.{is_owner, keeps_owner, keeps_sender, may_audit_send}
use Rattle.lard_audit.specs.Network.{audit_epoch_in, owner_in, owners_step}
use Rattle.lard_audit.proofs.Kept.{either-way, holder-put, once-more}

-- the rules say the same of what is kept
pub owner-same : (owners : List (ℕ × Holder)) (J : List Rec) (r : Rec) → AreOwners owners J → keeps_owner (owner J) (last_epoch J) r ≡ keeps_owner (owner_in owners) (audit_epoch_in owners) r
owner-same owners J (rec.Took place c epoch) h = ap (λ (o : Option Place). is_none o && nat_lt (last_epoch J c) epoch.0) (h.held c) ∙ ap (λ (e : ℕ). is_none (owner_in owners c) && nat_lt e epoch.0) (h.epoch c)
owner-same owners J (rec.Gave place c epoch) h =
    ap (λ (o : Option Place). is_owner o place && nat_eq (last_epoch J c) epoch.0) (h.held c) ∙ ap (λ (e : ℕ). is_owner (owner_in owners c) place && nat_eq e epoch.0) (h.epoch c)
owner-same owners J _ h = refl

sends : (owners : List (ℕ × Holder)) (J : List Rec) (from to : Place) → AreOwners owners J → may_audit_send (owner J) from to ≡ may_audit_send (owner_in owners) from to
sends owners J Front (Client c) h = ap (λ (o : Option Place). is_owner o Front) (h.held c)
sends owners J (Node n) (Client c) h = ap (λ (o : Option Place). is_owner o (Node n)) (h.held c)
sends owners J Front Front h = refl
sends owners J Front (Node m) h = refl
sends owners J (Node n) Front h = refl
sends owners J (Node n) (Node m) h = refl
sends owners J (Client d) Front h = refl
sends owners J (Client d) (Node m) h = refl
sends owners J (Client d) (Client c) h = refl

pub sender-same : (owners : List (ℕ × Holder)) (J : List Rec) (r : Rec) → AreOwners owners J → keeps_sender (owner J) r ≡ keeps_sender (owner_in owners) r
sender-same owners J (rec.Sent k from to bytes) h = sends owners J from to h
sender-same owners J _ h = refl

pub owners-begin : (owners : List (ℕ × Holder)) → owners ≡ [] → AreOwners owners []
owners-begin owners none = record { held = λ c. sym (ap (λ (o : List (ℕ × Holder)). owner_in o c) none); epoch = λ c. sym (ap (λ (o : List (ℕ × Holder)). audit_epoch_in o c) none) }

-- a record is noted
pub owners-more : (owners : List (ℕ × Holder)) (J : List Rec) (r : Rec) → AreOwners owners J → AreOwners (owners_step owners r) (J ++ r ∷ [])
owners-more owners J (rec.Took place d e) h = record {
  held = λ c. once-more (owner_step c) None J (rec.Took place d e) ∙ ap (λ (o : Option Place). cond {A = Option Place} (nat_eq d c) (Some place) o) (h.held c)
      ∙ sym (holder-put (λ (x : Holder). x.owner) owners d c (record { owner = Some place; epoch = e.0 }));
  epoch = λ c. once-more (epoch_step c) 0 J (rec.Took place d e) ∙ ap (λ (o : ℕ). cond (nat_eq d c) e.0 o) (h.epoch c)
      ∙ sym (holder-put (λ (x : Holder). x.epoch) owners d c (record { owner = Some place; epoch = e.0 }));
}
owners-more owners J (rec.Gave place d e) h = record {
  held = λ c. once-more (owner_step c) None J (rec.Gave place d e) ∙ ap (λ (o : Option Place). cond {A = Option Place} (nat_eq d c) None o) (h.held c)
      ∙ sym (holder-put (λ (x : Holder). x.owner) owners d c (record { owner = None; epoch = audit_epoch_in owners d }));
  epoch = λ c. once-more (epoch_step c) 0 J (rec.Gave place d e) ∙ h.epoch c ∙ sym (either-way (audit_epoch_in owners) d c)
      ∙ sym (holder-put (λ (x : Holder). x.epoch) owners d c (record { owner = None; epoch = audit_epoch_in owners d }));
}
owners-more owners J r h = record {
  held = λ c. once-more (owner_step c) None J r ∙ h.held c;
  epoch = λ c. once-more (epoch_step c) 0 J r ∙ h.epoch c;
}
