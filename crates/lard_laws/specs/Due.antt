-- That no response is due at the end of a step, in words of the journal: each request that the cluster acknowledged is answered, or the next one
-- of them awaits what has not come.
use Rattle.std.specs.Prelude.{◌≡◌, ◌⊎◌, ℕ, ◌+◌, ◌-◌, ◌<◌, ◌≤◌, true, false, List, ◌∷◌, ◌++◌, length, take, Option, Some, None, Ok}
use Rattle.lard_law_view.specs.Prelude.{AtEachEnd, Came, Client, Config, FilesAt, Front, Has, IsReached, Letter, Machine, Node, Numbers, Place, Rec, Row, Said, Seen, ToClient, config_check, decoded, decoded_message, file_at, has_aborted, is_cluster, is_running, is_touched, last_epoch, letters, net_of, numbers_of, own, owner, seq_add, served, verdicts, was_reset, wrote}
use Rattle.lard_base.specs.declared.place.TimerKind.TheVariants as timer
use Rattle.lard_rules.specs.Node.{message}
use Rattle.lard_counts.specs.Stores.{jobs}
use Rattle.lard_history.proofs.Each.{Each}
use Rattle.lard_journal.specs.declared.rec.Rec.TheVariants as rec
use Rattle.lard_laws.specs.BackingRequests.{IsFor}
use Rattle.lard_laws.specs.Quiet.{IsInLine}
use Rattle.lard_message.specs.declared.message.Body.TheVariants as body

-- ---- what was acknowledged

-- A segment that a place of the cluster sent to client c acknowledges so many of its symbols: its SYN, its bytes, and its FIN.
pub record HasAcknowledged (J : List Rec) (c n : ℕ) : Type 0 where
  pub from : Place
  pub by : is_cluster from ≡ true
  pub bytes : List ℕ
  pub sent : Has (record { from = from; to = Client c; bytes = bytes }) (letters c (net_of J))
  pub said : Said
  pub decodes : decoded bytes c ToClient ≡ Ok said
  pub acks : said.flags.ack ≡ true
  pub numbers : Numbers
  pub opened : numbers_of J c ≡ Some numbers
  pub is : said.ack ≡ seq_add numbers.isn n
  pub within : n ≤ 2 + length (wrote J c)

-- among the bytes of so many symbols are more requests than were answered
abbrev pub HasMoreThanServed : List Rec → ℕ → ℕ → Type 0
HasMoreThanServed J c n = served J c < length (verdicts (take (n - 1) (wrote J c)))

-- ---- what was sent and is not answered

-- it is a packet that came, of which P is so
abbrev pub CameAs : (Letter → Type 0) → Seen → Type 0
CameAs P (Row r) = ⊥
CameAs P (Came l) = P l

-- A packet was sent, and behind that came none of those that answer it.
pub record IsUnanswered (answers : Letter → Type 0) (seen : List Seen) (from to : Place) (bytes : List ℕ) : Type 0 where
  pub before : List Seen
  pub later : List Seen
  pub split : seen ≡ before ++ later
  pub sent : Has (Row (rec.Sent 0 from to bytes)) before
  pub none : Each (λ s. CameAs answers s → ⊥) later

-- a Tag for the Ask of this number, with a node for each of so many paths
pub record IsTagFor (n c epoch number count : ℕ) (l : Letter) : Type 0 where
  pub nodes : List ℕ
  pub from : l.from ≡ Front
  pub to : l.to ≡ Node n
  pub reads : decoded_message l.bytes ≡ Ok (record { c = c; epoch = record { 0 = epoch }; body = body.Tag number nodes })
  pub enough : length nodes ≡ count

-- a Content for this request, from the node that was asked for it
pub record IsContentFor (n node c epoch r : ℕ) (l : Letter) : Type 0 where
  pub file : List ℕ
  pub from : l.from ≡ Node node
  pub to : l.to ≡ Node n
  pub reads : decoded_message l.bytes ≡ Ok (record { c = c; epoch = record { 0 = epoch }; body = body.Content r file })

-- node n sent an Ask of this number for these paths, and no Tag for it came behind that
abbrev pub AskIsOut : List Seen → ℕ → ℕ → ℕ → ℕ → List (List ℕ) → Type 0
AskIsOut seen n c epoch number paths =
    (queue : ℕ) × (size : ℕ) × IsUnanswered (IsTagFor n c epoch number (length paths)) seen (Node n) Front (message c epoch (body.Ask number queue size paths))

-- node n sent a Fetch for this request and this path to another node, and no Content for it came behind that
abbrev pub FetchIsOut : List Seen → ℕ → ℕ → ℕ → ℕ → ℕ → List ℕ → Type 0
FetchIsOut seen n c epoch r node path = IsUnanswered (IsContentFor n node c epoch r) seen (Node n) (Node node) (message c epoch (body.Fetch r path))

-- ---- what is awaited

-- An Ask that names this path first awaits its Tag.
abbrev pub AwaitsTag : List Rec → ℕ → ℕ → List ℕ → Type 0
AwaitsTag J n c path = (number : ℕ) × (others : List (List ℕ)) × AskIsOut (own c J) n c (last_epoch J c) number (path ∷ others)

-- A job for this request waits at the disk of the node.
abbrev pub AwaitsDisk : List Rec → ℕ → ℕ → ℕ → Type 0
AwaitsDisk J n c r = (path : List ℕ) × Has (n, c, r, path) (jobs J n)

-- A Fetch for this request awaits its Content.
abbrev pub AwaitsContent : List Rec → ℕ → ℕ → ℕ → Type 0
AwaitsContent J n c r = (node : ℕ) × (path : List ℕ) × FetchIsOut (own c J) n c (last_epoch J c) r node path

abbrev pub AwaitsAtNode : List Rec → ℕ → ℕ → ℕ → List ℕ → Type 0
AwaitsAtNode J n c r path = AwaitsTag J n c path ⊎ (AwaitsDisk J n c r ⊎ AwaitsContent J n c r)

-- At the front end something that was sent on the connection is not acknowledged yet, or the connection is in the line, and the room is full.
abbrev pub AwaitsAtFront : Config → List Rec → ℕ → Type 0
AwaitsAtFront config J c = (is_running J Front c timer.Tcp ≡ true) ⊎ IsInLine config J c

-- Where a place has the connection, the next request is for a file, and awaits something there. While nobody has it, its Offer, or the
-- Ended of a node that gave it up, is told on.
abbrev pub NextIsAwaited : Config → FilesAt → List Rec → ℕ → Option Place → Type 0
NextIsAwaited config files J c None = (is_running J Front c timer.Offer ≡ true) ⊎ ((n : ℕ) × (is_running J (Node n) c timer.Ended ≡ true))
NextIsAwaited config files J c (Some Front) = (path : List ℕ) × IsFor files (wrote J c) (served J c + 1) path × AwaitsAtFront config J c
NextIsAwaited config files J c (Some (Node n)) = (path : List ℕ) × IsFor files (wrote J c) (served J c + 1) path × AwaitsAtNode J n c (served J c + 1) path
NextIsAwaited config files J c (Some (Client d)) = ⊥

-- ---- the law

-- Where the cluster acknowledged more requests of a client than it answered, the next response is not due, whatever its length, unless the
-- client aborted the connection, the stream limit reset it, or the schedule touched it.
abbrev pub NothingIsDue : Config → FilesAt → List Rec → Type 0
NothingIsDue config files J = (c n : ℕ) → is_touched J c ≡ false → has_aborted J c ≡ false → was_reset J c ≡ false
    → HasAcknowledged J c n → HasMoreThanServed J c n → NextIsAwaited config files J c (owner J c)

-- So it is at the end of each step.
abbrev pub AnswersWhatIsDue : Config → FilesAt → List Rec → Type 0
AnswersWhatIsDue config files J = AtEachEnd (NothingIsDue config files) J

-- In every run, with a configuration that may be used.
abbrev pub JournalsAnswerWhatIsDue : Type 0
JournalsAnswerWhatIsDue = (config : Config) (files : List (List ℕ × List ℕ)) (m : Machine) → config_check config ≡ Ok tt → IsReached config files m → AnswersWhatIsDue config (file_at files) m.journal
