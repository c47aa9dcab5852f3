-- How many packets can come of one, one after the other, as long as no unit goes: a packet that is answered causes one whose chain is
-- shorter.
use Rattle.std.specs.Prelude.{ℕ, ◌+◌, ◌==◌, ◌&&◌, ◌||◌, not, Bool, if◌then◌else◌, length, Result, Ok, Err}
use Rattle.lard_law_view.specs.Prelude.{Body, Client, Front, Letter, Message, MsgFault, Node, Place, Said, SegFault, ToClient, ToCluster, decoded, decoded_message, seq_offset}
use Rattle.lard_bound.specs.Spots.{Spot}
use Rattle.lard_message.specs.declared.message.Body.TheVariants as body

-- an acknowledgement and nothing else
abbrev pub is_plain : Said → Bool
is_plain s = (not s.flags.syn && (not s.flags.fin && not s.flags.rst)) && (s.flags.ack && (length s.payload == 0))

-- the client's own last number stands in it, so that each place takes it and answers nothing
abbrev pub is_current : Spot → Said → Bool
is_current t s = is_plain s && (seq_offset s.seq t.isn == t.last)

-- Of a client's segment at the place that has the endpoint: a reset and such an acknowledgement have no answer; of any other an
-- acknowledgement comes, of that one of the client's, and of that a Forward.
abbrev pub word_chain : Spot → Said → ℕ
word_chain t s = if s.flags.rst || is_current t s then 0 else 3

abbrev pub word_result : Spot → Result Said SegFault → ℕ
word_result t (Err fault) = 0
word_result t (Ok s) = word_chain t s

-- A segment of the cluster has an answer of the client, and that may be forwarded; a refusal has none.
abbrev pub reply_chain : Result Said SegFault → ℕ
reply_chain (Err fault) = 0
reply_chain (Ok s) = if s.flags.rst && not s.flags.ack then 0 else 2

-- what the front end tells a node
abbrev pub front_chain : Spot → ℕ → Body → ℕ
front_chain t c (body.Offer parts) = 1
front_chain t c (body.Forward segment) = word_result t (decoded segment c ToCluster)
front_chain t c _ = 0

-- what a node tells the front end
abbrev pub node_chain : Body → ℕ
node_chain (body.Ask number queue size paths) = 1
node_chain (body.Ended reason snd rcv count) = 1
node_chain (body.Give parts) = 1
node_chain _ = 0

-- what a node tells another one
abbrev pub aside_chain : Body → ℕ
aside_chain (body.Fetch r path) = 1
aside_chain _ = 0

abbrev pub of_message : (Message → ℕ) → Result Message MsgFault → ℕ
of_message f (Err fault) = 0
of_message f (Ok m) = f m

abbrev pub chain_between : Spot → ℕ → Place → Place → Letter → ℕ
chain_between t c (Client d) Front l = word_result t (decoded l.bytes c ToCluster) + 1
chain_between t c Front (Client d) l = reply_chain (decoded l.bytes c ToClient)
chain_between t c (Node n) (Client d) l = reply_chain (decoded l.bytes c ToClient)
chain_between t c Front (Node n) l = of_message (λ m. front_chain t c m.body) (decoded_message l.bytes)
chain_between t c (Node n) Front l = of_message (λ m. node_chain m.body) (decoded_message l.bytes)
chain_between t c (Node n) (Node k) l = of_message (λ m. aside_chain m.body) (decoded_message l.bytes)
chain_between t c _ _ l = 0

-- of a packet of connection c
abbrev pub chain : Spot → ℕ → Letter → ℕ
chain t c l = chain_between t c l.from l.to l

-- a job that is done may send a content
abbrev pub job_chain : ℕ
job_chain = 1
