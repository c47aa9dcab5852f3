-- A journal to which events lead is that of the machine, and obeys its laws.
use Rattle.std.proofs.Common.{◌≡◌, ℕ, Ok, List, [], refl, subst}
use Rattle.lard_law_view.specs.Prelude.{Config, EachMay, Event, Follows, IsNumber, Machine, config_check, file_at, machine_start}
use Rattle.lard_settle.specs.Lawful.{IsLawful}
use Rattle.lard_settle.proofs.Lawful.{journals-lawful}
use Rattle.lard_laws.specs.RecordsMessages.{MayTalk}
use Rattle.lard_laws.specs.Records.{IsRunFile, IsScheduled}
use Rattle.lard_laws.proofs.RecordsTalking.{packets-decode}
use Rattle.lard_laws.proofs.StepsFollowing.{follows}
use Rattle.lard_history.proofs.Each.{Each}
use Rattle.lard_law_view.proofs.ByteLists.{each-all}
use Rattle.lard_settling.specs.Events.{LeadsTo}
use Rattle.lard_law_settles.proofs.Order.{in-order}
use Rattle.lard_settle.proofs.Enough.{runs-settle}
use Rattle.lard_law_settles.proofs.DoneRuns.{runs-are-done}
use Rattle.lard_law_settles.proofs.DoneSame.{tells-the-same}
use Rattle.lard_law_settles.proofs.Rounding.{take-rounds}
use Rattle.lard_settling.specs.Written.{IsWrittenOut, written_out}
use Rattle.lard_app.specs.Happened.{Happened}
use Rattle.lard_app.proofs.Granted.{IsGrantedBy, granted-events, leads-granted}
use Rattle.lard_app.proofs.Numbering.{leads-number}
use Rattle.lard_app.proofs.Telling.{plain-events}

module _ (config : Config) (files : List (List ℕ × List ℕ)) (checked : config_check config ≡ Ok tt) (nodes : IsNumber config.nodes) (are : Each IsRunFile files) where
  pub happened : (es : List Event) (m : Machine) → Each IsScheduled es → LeadsTo (machine_start config files) es m → Happened config files es m.journal
  happened es m given leads = record {
    machine = (m, leads, refl);
    numbered = leads-number config files es m leads;
    follows = subst (λ (ds : List Event). Follows 1 ds (written_out m.journal)) (plain-events config files m w) (subst (Follows 1 w.reached.0) w.journal (follows config files w.reached.0 w.plain w.reached.1));
    laws = subst (IsLawful config (file_at files)) w.journal (journals-lawful config files w.plain checked w.reached);
    settles = in-order config files es m leads;
    rounds = take-rounds config files es m checked leads;
    enough = runs-settle config files checked (each-all IsRunFile files are) es m (each-all IsScheduled es given) leads;
    done = runs-are-done config files es m checked leads;
    same = tells-the-same config (file_at files) m.journal;
    messages = subst (EachMay MayTalk []) w.journal
        (packets-decode config files w.reached.0 w.plain checked (each-all IsRunFile files are) (each-all IsScheduled w.reached.0 (granted-events config files checked nodes are m granted)) w.reached.1);
  } where
    granted : IsGrantedBy config files m
    granted = leads-granted config files checked nodes are es m given leads

    w : IsWrittenOut config files m
    w = granted.written
