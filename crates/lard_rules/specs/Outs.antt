-- What a place's turn comes to in a step.
use Rattle.std.specs.Prelude.{ℕ, Bool, true, false, List, [], ◌∷◌}
use Rattle.lard_base.specs.declared.place.Place.{Place}
use Rattle.lard_base.specs.declared.place.TimerKind.{TimerKind}
use Rattle.lard_base.specs.declared.place.TimerKind.TheVariants.{Tcp, Offer, Ask, Fetch, Ended, Give}
use Rattle.lard_journal.specs.declared.rec.Rec.{Rec}
use Rattle.lard_journal.specs.declared.rec.Rec.TheVariants as rec
use Rattle.lard_rules.specs.declared.places.Out.{Out}
use Rattle.lard_rules.specs.declared.places.Turn.{Turn}

-- the record of a timer of one kind that changed, from its flags before and after the step
abbrev pub kind_change : Place → ℕ → TimerKind → Bool → Bool → List Rec
kind_change p c kind false false = []
kind_change p c kind false true = rec.Armed p c kind ∷ []
kind_change p c kind true false = rec.Cleared p c kind ∷ []
kind_change p c kind true true = []

-- the kinds, in the order in which their records stand
abbrev pub timer_kinds : List TimerKind
timer_kinds = Tcp ∷ Offer ∷ Ask ∷ Fetch ∷ Ended ∷ Give ∷ []

-- that of an endpoint or a client
abbrev pub timer_change : Place → ℕ → Bool → Bool → List Rec
timer_change p c was is = kind_change p c Tcp was is

-- a turn on connection c, where the timer's flag was so before the step and is so after it
abbrev pub out_of : Place → ℕ → Bool → Bool → Turn → Out
out_of place c was is turn = record {
  notes = turn.notes;
  segments = turn.segments;
  gave = [];
  messages = [];
  timers = timer_change place c was is;
  answered = turn.answered;
}

-- nothing is done
abbrev pub nothing_done : Out
nothing_done = record { notes = []; segments = []; gave = []; messages = []; timers = []; answered = 0 }
