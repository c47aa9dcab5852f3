-- What is kept of packets and of owners, and what each record changes of it.
use Rattle.std.specs.Prelude.{ℕ, ◌+◌, Bool, not, ◌&&◌, nat_eq, nat_le, nat_lt, List, Option, Some, None, is_some, unwrap_or}
use Rattle.indexmap.specs.IndexMap.{insert_entry}
use Rattle.lard_base.specs.declared.place.Place.{Place}
use Rattle.lard_journal.specs.declared.rec.Rec.{Rec}
use Rattle.lard_journal.specs.declared.rec.Rec.TheVariants as rec
use Rattle.lard_audit.specs.declared.owners.Holder.{Holder}
use Rattle.lard_audit.specs.declared.packets.Packets.{Packets}
use Rattle.lard_audit.specs.Register.{kept}

-- ---- packets

-- packet k was sent, and is not among the lost
abbrev pub is_audit_on_way : Packets → ℕ → Bool
is_audit_on_way p k = (nat_lt 0 k && nat_le k p.sent) && not (is_some (kept p.lost k))

abbrev pub packets_step : Packets → Rec → Packets
packets_step p (rec.Sent k from to bytes) = record p { sent = p.sent + 1 }
packets_step p (rec.Lost k) = record p { lost = insert_entry nat_eq p.lost k tt }
packets_step p _ = p

-- ---- owners

abbrev pub audit_nobody : Holder
audit_nobody = record { owner = None; epoch = 0 }

-- who holds a connection, and in which epoch it was taken last
abbrev pub holder : List (ℕ × Holder) → ℕ → Holder
holder owners c = unwrap_or (kept owners c) audit_nobody

abbrev pub owner_in : List (ℕ × Holder) → ℕ → Option Place
owner_in owners c = (holder owners c).owner

abbrev pub audit_epoch_in : List (ℕ × Holder) → ℕ → ℕ
audit_epoch_in owners c = (holder owners c).epoch

abbrev pub owners_step : List (ℕ × Holder) → Rec → List (ℕ × Holder)
owners_step owners (rec.Took place c epoch) = insert_entry nat_eq owners c (record { owner = Some place; epoch = epoch.0 })
owners_step owners (rec.Gave place c epoch) = insert_entry nat_eq owners c (record { owner = None; epoch = audit_epoch_in owners c })
owners_step owners _ = owners
