-- What happened in a run: the machine's journal after some events, and the laws that it obeys. A replay has such a journal, and so has a
-- generated run.
use Rattle.std.specs.Prelude.{◌≡◌, ℕ, ◌+◌, if◌then◌else◌, List, [], ◌∷◌}
use Rattle.std.specs.List.{flat_map}
use Rattle.lard_law_view.specs.Prelude.{Config, EachMay, Event, Follows, Machine, Rec, file_at, machine_start}
use Rattle.lard_settle.specs.Lawful.{IsLawful}
use Rattle.lard_laws.specs.RecordsMessages.{MayTalk}
use Rattle.lard_journal.specs.declared.rec.Rec.TheVariants as rec
use Rattle.lard_settle.specs.Enough.{MayLeaveUnsettled}
use Rattle.lard_law_settles.specs.Done.{MaySettle}
use Rattle.lard_law_settles.specs.DoneSame.{TellsTheSame}
use Rattle.lard_law_settles.specs.Rounds.{SettlesTakeRounds}
use Rattle.lard_settling.specs.Events.{LeadsTo}
use Rattle.lard_settling.specs.Order.{SettlesInOrder}
use Rattle.lard_settling.specs.Written.{is_settle, written_out}

-- ---- the steps of a journal

-- an event that is no settle does one step
abbrev pub step_of : Event → List Event
step_of e = if is_settle e then [] else e ∷ []

-- the event of the step that a record begins, of the schedule or inside a settle
abbrev pub step_told : Rec → List Event
step_told (rec.Event i e) = step_of e
step_told (rec.Inner e) = step_of e
step_told _ = []

-- those of all steps of a journal
abbrev pub steps_told : List Rec → List Event
steps_told J = flat_map step_told J

-- the events of the schedule that a journal tells of, with their numbers
abbrev pub event_told : Rec → List (ℕ × Event)
event_told (rec.Event i e) = (i, e) ∷ []
event_told _ = []

abbrev pub events_told : List Rec → List (ℕ × Event)
events_told J = flat_map event_told J

-- events with their numbers, the first of which is i
abbrev pub numbered_from : ℕ → List Event → List (ℕ × Event)
numbered_from i [] = []
numbered_from i (e ∷ es) = (i, e) ∷ numbered_from (i + 1) es

-- ---- the whole

pub record Happened (config : Config) (files : List (List ℕ × List ℕ)) (events : List Event) (journal : List Rec) : Type 0 where
  -- The journal is the machine's, after these events, and has a record of each, by number. With its settles written out it is the steps
  -- of the events that are no settles, and of those inside settles.
  pub machine : (m : Machine) × LeadsTo (machine_start config files) events m × (m.journal ≡ journal)
  pub numbered : events_told journal ≡ numbered_from 1 events
  pub follows : Follows 1 (steps_told journal) (written_out journal)
  -- The settles stand in order: between the event of one and the record that closes it stand its inner steps and what was told in them,
  -- and these stand nowhere else. The last may be open. One that left something tells as many rounds as its event names, any other no more.
  pub settles : SettlesInOrder journal
  -- Behind the event of a settle each client that holds takes, and rounds follow as long as anything is left, at most as many as it names;
  -- and the record that closes it tells how many there were, and what is left. If the last is open, what stands of it begins so.
  pub rounds : SettlesTakeRounds config.nodes [] journal
  -- A settle leaves something only where a packet was put on the way in a client's name, or a client wrote 16,383 bytes or more, or where
  -- it did fewer rounds than the bound of the journal.
  pub enough : EachMay (MayLeaveUnsettled (file_at files)) [] journal
  -- Where a settle tells that nothing is left, each connection that opened is quiet but for timers that are stalled, and complete, or in the
  -- line at a full room, unless its client aborted it, the stream limit reset it, or the schedule touched it.
  pub done : EachMay (MaySettle config (file_at files)) [] journal
  -- Who owns a connection and in which epoch, who is admitted, the loads, and what was written, served and accepted, with all else that is
  -- counted of a journal, is the same of it with its settles written out.
  pub same : TellsTheSame config (file_at files) journal (written_out journal)
  -- the laws that it obeys with its settles written out, each a field of their record
  pub laws : IsLawful config (file_at files) (written_out journal)
  -- machines of the cluster talk in messages
  pub messages : EachMay MayTalk [] (written_out journal)
