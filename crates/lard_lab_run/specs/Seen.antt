-- What the code of a lab has in hand, as the rules see it.
use Rattle.lard_lab_run.specs.declared.trial.Trial.{Trial}
use Rattle.lard_lab_run.specs.Trial.{LabProgress}

abbrev pub lab_seen : Trial → LabProgress
lab_seen r = record { policy = r.policy; reader = r.reader; config = r.config; targets = r.targets; lines = r.lines; read = r.read; lab = r.lab }
