-- How many requests the batch of an Ask has, and which they are, in words of the journal.
use Rattle.std.specs.Prelude.{◌≡◌, ℕ, ◌+◌, ◌-◌, ◌*◌, ◌/◌, ◌<◌, ◌≤◌, min, nat_eq, nat_lt, if◌then◌else◌, false, List, [], ◌∷◌, ◌++◌, length, take, drop, Option, Some, None, Ok}
use Rattle.std.specs.List.{AllByRecursion, fold}
use Rattle.lard_law_view.specs.Prelude.{Body, Client, Config, EachStep, FilesAt, Front, IsReached, Machine, Message, Node, Numbers, Place, Rec, Said, Verdict, config_check, decoded_message, file_at, is_opening, is_touched, numbers_of, owner, seq_offset, served, served_step, steps, verdicts, wrote}
use Rattle.lard_law_connections.specs.Line.{line_step, nobody}
use Rattle.lard_law_connections.specs.Offers.{WasSentBetween}
use Rattle.lard_laws.specs.Ways.{good_paths}
use Rattle.lard_journal.specs.declared.rec.Rec.TheVariants as rec
use Rattle.lard_message.specs.declared.message.Body.TheVariants as body

-- ---- which requests the cluster has

-- How many responses were queued on a connection, and how many of these before a node took it last.
pub record TakeOver : Type 0 where
  pub served : ℕ
  pub taken : ℕ

abbrev pub last_taken : Place → TakeOver → ℕ
last_taken (Node n) t = t.served
last_taken Front t = t.taken
last_taken (Client d) t = t.taken

abbrev pub taken_step : ℕ → TakeOver → Rec → ℕ
taken_step c t (rec.Took place d epoch) = if nat_eq d c then last_taken place t else t.taken
taken_step c t _ = t.taken

abbrev pub take_over_step : ℕ → TakeOver → Rec → TakeOver
take_over_step c t r = record { served = served_step c t.served r; taken = taken_step c t r }

-- before anything
abbrev pub not_taken : TakeOver
not_taken = record { served = 0; taken = 0 }

abbrev pub take_over : List Rec → ℕ → TakeOver
take_over J c = fold (take_over_step c) not_taken J

-- What is told of a connection: its first numbers, what its client wrote, how many responses were queued, how many of these before a
-- node took it last, and the last segment that the cluster sent to the client.
pub record SizeMarks : Type 0 where
  pub numbers : Option Numbers
  pub wrote : List ℕ
  pub served : ℕ
  pub taken : ℕ
  pub told : Option Said

abbrev pub size_marks : List Rec → ℕ → SizeMarks
size_marks J c = record {
  numbers = numbers_of J c;
  wrote = wrote J c;
  served = served J c;
  taken = (take_over J c).taken;
  told = (fold line_step nobody J).told c;
}

-- How many symbols of the client's that segment acknowledges: its SYN, its bytes, and its FIN behind them.
abbrev pub symbols_acknowledged : Option Numbers → Option Said → ℕ
symbols_acknowledged None told = 0
symbols_acknowledged (Some n) None = 0
symbols_acknowledged (Some n) (Some s) = seq_offset s.ack n.isn

-- The requests that are complete in the bytes that were acknowledged to the client, each by the verdict on it, up to and with the
-- first that closes the connection.
abbrev pub complete : SizeMarks → List Verdict
complete m = verdicts (take (symbols_acknowledged m.numbers m.told - 1) m.wrote)

-- ---- batches

-- The batch behind so many requests: the next of these, at most eight.
abbrev pub batch_behind : ℕ → List Verdict → List Verdict
batch_behind before all = take 8 (drop before all)

-- A node reads requests in batches, the next once all of the last are answered. Where so many were read before, whole batches of
-- eight followed as far as they are answered, and behind these the last one begins.
abbrev pub batch_begins : ℕ → SizeMarks → ℕ
batch_begins upto now = upto + 8 * ((now.served - upto) / 8)

-- So many were read before, and this is told now: what was read is not answered yet, or what is answered and the rest of the last
-- batch were read, as far as requests are complete.
abbrev pub read_on : ℕ → SizeMarks → ℕ
read_on upto now = if nat_lt now.served upto then upto else now.served + (min (length (complete now)) (batch_begins upto now + 8) - now.served)

-- wherever a node has not the connection, each request is answered as it is read
abbrev pub requests_read_by : Option Place → ℕ → SizeMarks → ℕ
requests_read_by None upto now = now.served
requests_read_by (Some (Node n)) upto now = read_on upto now
requests_read_by (Some Front) upto now = now.served
requests_read_by (Some (Client d)) upto now = now.served

-- at the end of a step, where so many were read before it
abbrev pub read_at : ℕ → ℕ → List Rec → ℕ
read_at c upto J = requests_read_by (owner J c) upto (size_marks J c)

-- step by step: how many of client c were read before the step in which a journal ends
abbrev pub read_before : ℕ → ℕ → List Rec → List Rec → ℕ
read_before c upto past [] = upto
read_before c upto past (r ∷ rs) = read_before c (if is_opening r then read_at c upto past else upto) (past ++ r ∷ []) rs

-- and how many at its end
abbrev pub requests_read : List Rec → ℕ → ℕ
requests_read J c = read_at c (read_before c 0 [] J) J

-- The paths that are to be assigned, where these stand between the take-over and the batch, and those in it: the first request for a
-- file behind the take-over was assigned with the connection.
abbrev pub to_assign : List (List ℕ) → List (List ℕ) → List (List ℕ)
to_assign [] paths = drop 1 paths
to_assign (first ∷ others) paths = paths

-- So many requests, with these paths to be assigned, are the batch that is read last in a step, with which this is told: all that
-- were read before the step are answered, and the batch is not answered whole.
pub record IsOfBatch (files : FilesAt) (upto : ℕ) (now : SizeMarks) (size : ℕ) (paths : List (List ℕ)) : Type 0 where
  pub answered : upto ≤ now.served
  pub goes_on : now.served < batch_begins upto now + size
  pub size_is : size ≡ length (batch_behind (batch_begins upto now) (complete now))
  pub paths_are : paths
      ≡ to_assign (good_paths files (drop now.taken (take (batch_begins upto now) (complete now))))
      (good_paths files (batch_behind (batch_begins upto now) (complete now)))

-- ---- Asks

abbrev pub BodyIsOfBatch : FilesAt → ℕ → SizeMarks → Body → Type 0
BodyIsOfBatch files upto now (body.Ask number queue size paths) = IsOfBatch files upto now size paths
BodyIsOfBatch files upto now _ = Unit {0}

-- Of a message of a node to the front end, which was not sent there before the step: so it is of each connection that the schedule
-- did not touch.
abbrev pub AsksTo : FilesAt → List Rec → List Rec → Place → Place → List ℕ → Type 0
AsksTo files past step (Node n) Front bytes =
    (m : Message) → decoded_message bytes ≡ Ok m → is_touched past m.c ≡ false → (WasSentBetween (Node n) Front bytes past → ⊥)
    → BodyIsOfBatch files (requests_read past m.c) (size_marks (past ++ step) m.c) m.body
AsksTo files past step _ _ bytes = Unit {0}

abbrev pub MayAsk : FilesAt → List Rec → List Rec → Rec → Type 0
MayAsk files past step (rec.Sent k from to bytes) = AsksTo files past step from to bytes
MayAsk files past step _ = Unit {0}

-- Each Ask, in the step in which it is sent first, has the size and the paths of its batch.
abbrev pub MustSize : FilesAt → List Rec → List Rec → Type 0
MustSize files past step = AllByRecursion (MayAsk files past step) step

-- In every run, with a configuration that may be used.
abbrev pub BatchesHaveTheirSize : Type 0
BatchesHaveTheirSize = (config : Config) (files : List (List ℕ × List ℕ)) (m : Machine) → config_check config ≡ Ok tt → IsReached config files m
    → EachStep (MustSize (file_at files)) [] (steps m.journal)
