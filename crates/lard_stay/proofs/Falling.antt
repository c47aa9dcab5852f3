-- The loop of a stay as the code takes it: each turn goes on as the rule does, and takes something away.
use Rattle.std.proofs.Common.{◌≡◌, ◌<◌, Bool, true, false, sym, ap, ◌∙◌}
use Rattle.std.proofs.lemmas.Bool.{cond-true, cond-false}
use Rattle.lard_rules.specs.declared.stay.Next.TheVariants.{Serve, Read, Stop}
use Rattle.lard_rules.specs.Loop.{Step, Done, step_of}
use Rattle.lard_rules.specs.Stay.{NodeEnv, Work, goes_on, work_left, next_of, reads_batch, stay_serves, stay_turn, turned}
use Rattle.lard_rules.proofs.Runs.{goes_done, goes_more}
use Rattle.lard_rules.proofs.StayFalling.{falls, read_falls}

-- as the code takes a turn: the first request was served
pub served : (env : NodeEnv) (w u : Work) → next_of w ≡ Serve → u ≡ stay_serves env w → goes_on env u ≡ goes_on env w
served env w u e h = ap (goes_on env) h ∙ sym (goes_more (stay_turn env) work_left (falls env) w (stay_serves env w) (ap (turned env w) e))

-- a node that stays reads the next batch
reads : (env : NodeEnv) (w : Work) → next_of w ≡ Read → env.leaving ≡ false → stay_turn env w ≡ reads_batch env false w
reads env w e stays = ap (turned env w) e ∙ cond-false {A = Step Work} env.leaving (Done w) (reads_batch env false w) stays

-- a batch was read, or none was left
pub read_on : (env : NodeEnv) (w u : Work) (more : Bool) → next_of w ≡ Read → env.leaving ≡ false → step_of more u ≡ reads_batch env false w → more ≡ true → goes_on env u ≡ goes_on env w
read_on env w u more e stays h m = sym (goes_more (stay_turn env) work_left (falls env) w u (reads env w e stays ∙ sym h ∙ ap (λ b. step_of b u) m))

pub read_less : (env : NodeEnv) (w u : Work) (more : Bool) → next_of w ≡ Read → step_of more u ≡ reads_batch env false w → more ≡ true → work_left u < work_left w
read_less env w u more e h m = read_falls env w u e (sym h ∙ ap (λ b. step_of b u) m)

pub read_last : (env : NodeEnv) (w u : Work) (more : Bool) → next_of w ≡ Read → env.leaving ≡ false → step_of more u ≡ reads_batch env false w → more ≡ false → u ≡ goes_on env w
read_last env w u more e stays h m = sym (goes_done (stay_turn env) work_left w u (reads env w e stays ∙ sym h ∙ ap (λ b. step_of b u) m))

-- a node that leaves reads none
pub left : (env : NodeEnv) (w : Work) → next_of w ≡ Read → env.leaving ≡ true → w ≡ goes_on env w
left env w e leaves = sym (goes_done (stay_turn env) work_left w w (ap (turned env w) e ∙ cond-true {A = Step Work} env.leaving (Done w) (reads_batch env false w) leaves))

-- nothing was to be done
pub stopped : (env : NodeEnv) (w : Work) → next_of w ≡ Stop → w ≡ goes_on env w
stopped env w e = sym (goes_done (stay_turn env) work_left w w (ap (turned env w) e))
