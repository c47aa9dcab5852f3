-- What the code has in hand of a stay, as the rules have it, and what holds of it between two calls.
use Rattle.std.specs.Prelude.{◌≡◌, ℕ, ◌+◌, ◌≤◌, All, Bool, true, false, length, IfSome, List}
use Rattle.lard_base.specs.declared.limits.TheConstants.{MAX_PATH_BYTES}
use Rattle.lard_cache.specs.Recency.{has_path}
use Rattle.lard_disk.specs.declared.disk.Job.{Job}
use Rattle.lard_endpoint.specs.Control.{ControlBlock}
use Rattle.lard_rules.specs.declared.stay.Asked.{Asked}
use Rattle.lard_rules.specs.declared.stay.Progress.{Progress}
use Rattle.lard_rules.specs.declared.stay.Stay.{Stay}
use Rattle.lard_rules.specs.declared.stay.Want.{Want}
use Rattle.lard_rules.specs.Stay.{NodeEnv, Work as Ruled, come_progress, read_progress}
use Rattle.lard_seq.specs.Seq.{one_if}
use Rattle.lard_serving.specs.Serving as serving
use Rattle.lard_stay.specs.declared.coming.Coming.{Coming}
use Rattle.lard_stay.specs.declared.coming.Coming.TheVariants as coming
use Rattle.lard_stay.specs.declared.work.Env.{Env}
use Rattle.lard_stay.specs.declared.work.Work.{Work}

-- what a stay rests on
abbrev pub stay_env_seen : Env → NodeEnv
stay_env_seen env = record {
  serve = serving.env_seen env.serve;
  n = env.node;
  epoch = env.epoch.0;
  cached = has_path env.cache.now.entries;
  queue = env.queue;
  leaving = env.leaving;
}

-- an endpoint and what is in hand beside it
abbrev pub work_seen : ControlBlock → Work → Ruled
work_seen b w = record {
  service = serving.service_of b w.service;
  batch = w.batch;
  asks = w.asks;
  jobs = w.jobs;
  wants = w.wants;
  asked = w.asked;
}

-- how far a request comes by what came for it
abbrev pub progress_by : Coming → Progress → Progress
progress_by coming.Job = read_progress
progress_by (coming.Content from) = come_progress from

-- ---- what fits a message

-- a path that a message may name
abbrev pub IsPath : List ℕ → Type 0
IsPath path = (1 ≤ length path) × (length path ≤ MAX_PATH_BYTES)

-- an Ask names one path at least, of a batch of at most eight requests
pub record IsAskOfStay (a : Asked) : Type 0 where
  pub some : 1 ≤ length a.paths
  pub within : length a.paths ≤ a.size
  pub few : a.size ≤ 8
  pub short : All IsPath a.paths

abbrev pub IsWant : Want → Type 0
IsWant w = IsPath w.path

-- ---- between two turns

-- a stay that is kept beside its endpoint
pub record IsStaySound (b : ControlBlock) (s : Stay) : Type 0 where
  pub within : s.served + length s.batch + length b.recv.unread ≤ b.recv.got  -- each request that was read had a byte
  pub few : length s.batch ≤ 8
  pub asks : s.asks ≤ s.served + length s.batch  -- each Ask was for a batch with a request

-- ---- between two calls

-- the same of what is in hand, whose bytes of responses are counted and whose messages can be written
pub record IsInHandSound (b : ControlBlock) (w : Work) : Type 0 where
  pub counted : serving.IsCounted b w.service
  pub within : w.service.count + length w.batch + length b.recv.unread ≤ b.recv.got
  pub few : length w.batch ≤ 8
  pub asks : w.asks ≤ w.service.count + length w.batch
  pub asked : IfSome w.asked IsAskOfStay
  pub wants : All IsWant w.wants

-- So many requests were entered into the batch: nothing was served or asked for, and each brought one job or one content to
-- fetch, if any.
pub record HasEntered (n : ℕ) (w w' : Work) : Type 0 where
  pub batch : length w'.batch ≡ length w.batch + n
  pub count : w'.service.count ≡ w.service.count
  pub answered : w'.service.answered ≡ w.service.answered
  pub over : w'.service.over ≡ w.service.over
  pub asks : w'.asks ≡ w.asks
  pub asked : w'.asked ≡ w.asked
  pub jobs : length w'.jobs ≤ length w.jobs + n
  pub wants : length w'.wants ≤ length w.wants + n
  pub short : All IsWant w.wants → All IsWant w'.wants

-- How many of the first requests for a file are started as they are read, where one was to be (`here`), and one is still to be after
-- it (`more`): none, or one, which brings a job at most.
abbrev pub StartsOne : Bool → Bool → List Job → List Job → Type 0
StartsOne false more js js' = (more ≡ false) × (js' ≡ js)
StartsOne true more js js' = length js' + one_if more ≤ length js + 1

-- An Ask was made, or none: no other Ask than one that fits a message.
pub record HasAsked (w w' : Work) : Type 0 where
  pub service : w'.service ≡ w.service
  pub batch : w'.batch ≡ w.batch
  pub jobs : w'.jobs ≡ w.jobs
  pub wants : w'.wants ≡ w.wants
  pub asks : w'.asks ≤ w.asks + 1
  pub asked : IfSome w.asked IsAskOfStay → IfSome w'.asked IsAskOfStay
