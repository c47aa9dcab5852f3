-- How the front end reads the requests of a connection that it holds, until one is to be placed.
use Rattle.std.specs.Prelude.{◌≡◌, ℕ, ◌+◌, true, if◌then◌else◌, List, length, take, drop, Option, Some, None}
use Rattle.lard_answers.specs.Answers.{good_path}
use Rattle.lard_base.specs.declared.place.Via.TheVariants.{Own}
use Rattle.lard_block.specs.declared.block.Found.{Found}
use Rattle.lard_block.specs.declared.block.Found.TheVariants.{Block, More, TooLong}
use Rattle.lard_block.specs.Blocks.{cut_of}
use Rattle.lard_endpoint.specs.Control.{ControlBlock}
use Rattle.lard_endpoint.specs.Moving.{may_freeze}
use Rattle.lard_request.specs.declared.verdict.Code.TheVariants as code
use Rattle.lard_request.specs.declared.verdict.Verdict.{Verdict}
use Rattle.lard_request.specs.declared.verdict.Verdict.TheVariants.{Fault}
use Rattle.lard_request.specs.Verdict.{verdict}
use Rattle.lard_rules.specs.Loop.{Step, runs}
use Rattle.lard_rules.specs.Loop as loop
use Rattle.lard_rules.specs.Serving.{ServeEnv, Service, answered, serving_consumed, ended_at_fin, may_read}

-- What is in hand: the endpoint and what was served, and the path of the next request where it is to be placed.
pub record Reading : Type 0 where
  pub service : Service
  pub target : Option (List ℕ)

abbrev pub with_service : Reading → Service → Reading
with_service x s = record x { service = s }

-- an endpoint with a request that is to be placed may move
abbrev pub MayMove : ControlBlock → Option (List ℕ) → Type 0
MayMove b None = Unit {0}
MayMove b (Some path) = may_freeze b ≡ true

-- a good request is placed once all that was said is acknowledged, so that the endpoint may move; until then reading stops
abbrev pub targeted : List ℕ → Reading → Reading
targeted path x = if may_freeze x.service.block then record x { target = Some path } else x

-- A block is read and answered, unless it asks for a file: then it is left unread, with the empty lines before it.
abbrev pub reads_block : ServeEnv → Reading → ℕ → Verdict → Option (List ℕ) → Step Reading
reads_block env x n v None = loop.More (with_service x (answered env Own v (serving_consumed n x.service)))
reads_block env x n v (Some path) = loop.Done (targeted path x)

abbrev pub block_at : Reading → ℕ → ℕ → Verdict
block_at x skip len = verdict (take len (drop skip x.service.block.recv.unread))

-- what is found at the front of the unread bytes
abbrev pub reads_found : ServeEnv → Reading → Found → Step Reading
reads_found env x (More skip) = loop.Done (with_service x (ended_at_fin (serving_consumed skip x.service)))
reads_found env x (Block skip len) = reads_block env x (skip + len) (block_at x skip len) (good_path env.files (block_at x skip len))
reads_found env x (TooLong skip) = loop.More (with_service x (answered env Own (Fault code.FieldsTooLarge) (serving_consumed (length x.service.block.recv.unread) x.service)))

abbrev pub reading_turn : ServeEnv → Reading → Step Reading
reading_turn env x = if may_read x.service then reads_found env x (cut_of x.service.block.recv.unread) else loop.Done x

-- what falls with each turn
abbrev pub reading_left : Reading → ℕ
reading_left x = length x.service.block.recv.unread

-- block by block, until no whole block is left, or one is to be placed (RFC 9112, 9.3.2)
abbrev pub front_reads : ServeEnv → Reading → Reading
front_reads env x = runs (reading_turn env) reading_left x
