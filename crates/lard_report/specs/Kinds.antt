-- The kinds of records, by the first words of their lines.
use Rattle.std.specs.Prelude.{ℕ, List, [], ◌∷◌, Option, codes, bytes_eq}
use Rattle.std.specs.List.{find}
use Rattle.lard_report.specs.declared.kinds.Kind.{Kind}
use Rattle.lard_report.specs.declared.kinds.Kind.TheVariants.{Event, Inner, Opened, Wrote, Sent, Got, Lost, Accepted, Eof, Took, Gave, Waits, Admitted, Released, Assigned, BatchOver, Served, Hit, Queued, Read, Closed, Armed, Cleared, Reset, Aborted, Injected, Clock, Settled, Unsettled}

abbrev pub kind_name : Kind → List ℕ
kind_name Event = codes "event"
kind_name Inner = codes "inner"
kind_name Opened = codes "opened"
kind_name Wrote = codes "wrote"
kind_name Sent = codes "sent"
kind_name Got = codes "got"
kind_name Lost = codes "lost"
kind_name Accepted = codes "accepted"
kind_name Eof = codes "eof"
kind_name Took = codes "took"
kind_name Gave = codes "gave"
kind_name Waits = codes "waits"
kind_name Admitted = codes "admitted"
kind_name Released = codes "released"
kind_name Assigned = codes "assigned"
kind_name BatchOver = codes "batchover"
kind_name Served = codes "served"
kind_name Hit = codes "hit"
kind_name Queued = codes "queued"
kind_name Read = codes "read"
kind_name Closed = codes "closed"
kind_name Armed = codes "armed"
kind_name Cleared = codes "cleared"
kind_name Reset = codes "reset"
kind_name Aborted = codes "aborted"
kind_name Injected = codes "injected"
kind_name Clock = codes "clock"
kind_name Settled = codes "settled"
kind_name Unsettled = codes "unsettled"

abbrev pub record_kinds : List Kind
record_kinds =
    Event ∷ Inner ∷ Opened ∷ Wrote ∷ Sent ∷ Got ∷ Lost ∷ Accepted ∷ Eof ∷ Took ∷ Gave ∷ Waits ∷ Admitted ∷ Released ∷ Assigned ∷ BatchOver ∷ Served
    ∷ Hit ∷ Queued ∷ Read ∷ Closed ∷ Armed ∷ Cleared ∷ Reset ∷ Aborted ∷ Injected ∷ Clock ∷ Settled ∷ Unsettled ∷ []

-- the first of the kinds that has this word
abbrev pub kind_among : List Kind → List ℕ → Option Kind
kind_among of_them word = find (λ k. bytes_eq word (kind_name k)) of_them

abbrev pub record_kind : List ℕ → Option Kind
record_kind word = kind_among record_kinds word
