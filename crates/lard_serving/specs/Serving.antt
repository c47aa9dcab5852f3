-- What the code has in hand while it serves a connection, as the rules have it.
use Rattle.std.specs.Prelude.{ℕ, ◌+◌, ◌≤◌, List, [], Option, Some, None}
use Rattle.lard_endpoint.specs.Control.{ControlBlock}
use Rattle.lard_files.specs.Files.{file_at}
use Rattle.lard_rules.specs.Serving.{ServeEnv, Service}
use Rattle.lard_serving.specs.declared.answering.Env.{Env}
use Rattle.lard_serving.specs.declared.answering.Service.{Service as Served}

-- what serving rests on
abbrev pub env_seen : Env → ServeEnv
env_seen env = record { place = env.place; c = env.c; files = file_at env.files.now; stream = env.stream }

-- an endpoint and what was served of it
abbrev pub service_of : ControlBlock → Served → Service
service_of b w = record { block = b; count = w.count; notes = w.notes; answered = w.answered; over = w.over }

-- Each response that was queued here has a byte, and each before that a byte of its request; those of the turn are among all.
pub record IsCounted (b : ControlBlock) (w : Served) : Type 0 where
  pub responses : w.count ≤ b.send.total + b.recv.got
  pub bytes : w.answered ≤ b.send.total

-- the content that stands behind a head; nothing where none does
abbrev pub content_of : Option (List ℕ) → List ℕ
content_of None = []
content_of (Some body) = body
