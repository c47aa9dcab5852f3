-- Which packets surely lead to a unit, and within how many rounds, as long as none goes before.
use Rattle.std.specs.Prelude.{ℕ, zero, suc, ◌+◌, ◌==◌, ◌<◌, ◌≤◌, ◌≡◌, ◌⊎◌, ◌≢◌, Bool, true, false, length, Some, Result, Ok, Err, is_some}
use Rattle.std.specs.List.{find}
use Rattle.lard_law_view.specs.Prelude.{Body, Client, FilesAt, Front, Job, Letter, Message, MsgFault, Node, Phase, Place, Reason, Said, SegFault, ToClient, ToCluster, decoded, decoded_message, is_from, is_plain_syn, is_under, seg_len, seq_offset}
use Rattle.lard_base.specs.declared.place.Reason.TheVariants as reason
use Rattle.lard_base.specs.declared.place.TimerKind.TheVariants as kind
use Rattle.lard_bound.specs.Chains.{is_current, is_plain}
use Rattle.lard_bound.specs.Spots.{AtFront, AtNode, Awaits, Declined, Ended, EndpointSymbols, GaveBack, InLine, Left, Nowhere, OnOffer, Post, Spot}
use Rattle.lard_client.specs.declared.phase.Phase.TheVariants as phase
use Rattle.lard_message.specs.declared.message.Body.TheVariants as body

-- ---- a client's segments

-- the first of its symbols that a segment has, and the one behind its last
abbrev pub first_symbol : ℕ → Said → ℕ
first_symbol from s = seq_offset s.seq from

abbrev pub behind_of : ℕ → Said → ℕ
behind_of from s = seq_offset s.seq from + seg_len s

-- data or a FIN of which the client does not know that it was taken, from no later a symbol on
pub record Crosses (t : Spot) (s : Said) : Type 0 where
  pub acks : s.flags.ack ≡ true
  pub no_syn : s.flags.syn ≡ false
  pub no_rst : s.flags.rst ≡ false
  pub from : first_symbol t.isn s ≤ t.una
  pub to : t.una < behind_of t.isn s

-- an acknowledgement with the client's last number, of what the endpoint does not know to be taken
pub record IsNews (t : Spot) (e : EndpointSymbols) (s : Said) : Type 0 where
  pub current : is_current t s ≡ true
  pub more : e.una < seq_offset s.ack t.iss

-- At the place that has the endpoint. An acknowledgement is news at once; data is acknowledged, by an endpoint that has nothing more to
-- say, and that comes to the client in the next round. One that was aborted resets.
abbrev pub NearHeld : Spot → ℕ → EndpointSymbols → Said → Phase → Type 0
NearHeld t d e s phase.Open = (IsNews t e s × (1 ≤ d)) ⊎ (Crosses t s × (e.una ≡ e.symbols) × (2 ≤ d))
NearHeld t d e s phase.Aborted = (s.flags.rst ≡ true) × (s.seq ≡ e.awaited) × (1 ≤ d)
NearHeld t d e s phase.Reset = ⊥

-- one round more where the front end forwards it
abbrev pub NearAway : Spot → ℕ → EndpointSymbols → Said → Type 0
NearAway t zero e s = ⊥
NearAway t (suc d) e s = NearHeld t d e s t.phase

-- A connection that ended answers data by an acknowledgement of all, and behind the stream limit what has ACK by a reset, which counts
-- where the client took no more since.
abbrev pub NearEnd : Spot → ℕ → ℕ → Said → Reason → Type 0
NearEnd t d taken s reason.Closed = Crosses t s × (2 ≤ d)
NearEnd t d taken s reason.Peer = ⊥
NearEnd t d taken s reason.Limit = (s.flags.ack ≡ true) × (s.flags.rst ≡ false) × (seq_offset s.ack t.iss ≡ taken) × (2 ≤ d)

abbrev pub NearEnded : Spot → ℕ → ℕ → Said → Reason → Phase → Type 0
NearEnded t d taken s why phase.Open = NearEnd t d taken s why
NearEnded t d taken s why phase.Aborted = ⊥
NearEnded t d taken s why phase.Reset = ⊥

abbrev pub NearWord : Spot → ℕ → Said → Post → Type 0
NearWord t d s Nowhere = (is_plain_syn s ≡ true) × (1 ≤ d)
NearWord t d s (AtFront e) = NearHeld t d e s t.phase
NearWord t d s InLine = ⊥
NearWord t d s (OnOffer n k) = ⊥
NearWord t d s (Declined n k) = ⊥
NearWord t d s (AtNode told n k e a) = NearAway t d e s
NearWord t d s (Left told n k) = ⊥
NearWord t d s (GaveBack told n k) = ⊥
NearWord t d s (Ended last taken) = NearEnded t d taken s last.reason t.phase

-- ---- the cluster's segments

-- of the endpoint's symbols, from the first on that it does not know to be taken
pub record IsUntold (t : Spot) (e : EndpointSymbols) (s : Said) : Type 0 where
  pub acks : s.flags.ack ≡ true
  pub no_rst : s.flags.rst ≡ false
  pub syn : s.flags.syn ≡ (e.una == 0)  -- the SYN is the first of all symbols
  pub from : first_symbol t.iss s ≡ e.una
  pub to : e.una < behind_of t.iss s

-- an acknowledgement of what the client does not know to be taken, at the number that it awaits
pub record IsAnswer (t : Spot) (at : ℕ) (s : Said) : Type 0 where
  pub plain : is_plain s ≡ true
  pub number : first_symbol t.iss s ≡ at
  pub more : t.una < seq_offset s.ack t.isn

-- To the client: what was not acknowledged is, `back` rounds away; an acknowledgement is news at once. One that was aborted answers
-- by a reset with the number that was acknowledged.
abbrev pub NearReply : Spot → ℕ → ℕ → EndpointSymbols → Said → Phase → Type 0
NearReply t back d e s phase.Open = (IsUntold t e s × (back ≤ d)) ⊎ (IsAnswer t e.una s × (e.una ≡ e.symbols) × (1 ≤ d))
NearReply t back d e s phase.Aborted = (s.flags.ack ≡ true) × (s.flags.rst ≡ false) × (s.ack ≡ e.awaited) × (back ≤ d)
NearReply t back d e s phase.Reset = ⊥

abbrev pub NearLast : Spot → ℕ → ℕ → Said → Reason → Type 0
NearLast t d taken s reason.Closed = IsAnswer t taken s × (1 ≤ d)
NearLast t d taken s reason.Peer = ⊥
NearLast t d taken s reason.Limit = (s.flags.rst ≡ true) × (first_symbol t.iss s ≡ taken) × (1 ≤ d)

abbrev pub NearClosing : Spot → ℕ → ℕ → Said → Reason → Phase → Type 0
NearClosing t d taken s why phase.Open = NearLast t d taken s why
NearClosing t d taken s why phase.Aborted = ⊥
NearClosing t d taken s why phase.Reset = ⊥

abbrev pub NearSegment : Spot → ℕ → Said → Post → Type 0
NearSegment t d s Nowhere = ⊥
NearSegment t d s (AtFront e) = NearReply t 2 d e s t.phase
NearSegment t d s InLine = ⊥
NearSegment t d s (OnOffer n k) = ⊥
NearSegment t d s (Declined n k) = ⊥
NearSegment t d s (AtNode told n k e a) = NearReply t 3 d e s t.phase
NearSegment t d s (Left told n k) = ⊥
NearSegment t d s (GaveBack told n k) = ⊥
NearSegment t d s (Ended last taken) = NearClosing t d taken s last.reason t.phase

-- ---- messages

-- the front end does not know that its Offer was taken
abbrev pub IsUnaware : Bool → ℕ → Type 0
IsUnaware true d = ⊥
IsUnaware false d = 2 ≤ d

-- an Offer, to node k in epoch i: one that was refused is refused again
abbrev pub NearOffer : ℕ → ℕ → ℕ → Post → Type 0
NearOffer d k i (OnOffer n e) = (n ≡ k) × (e ≡ i) × (1 ≤ d)
NearOffer d k i (Declined n e) = (n ≡ k) × (e ≡ i) × (2 ≤ d)
NearOffer d k i (AtNode told n e ends a) = (n ≡ k) × (e ≡ i) × IsUnaware told d
NearOffer d k i (Left told n e) = (n ≡ k) × (e ≡ i) × IsUnaware told d
NearOffer d k i (GaveBack told n e) = (n ≡ k) × (e ≡ i) × IsUnaware told d
NearOffer d k i _ = ⊥

-- a Taken in epoch i
abbrev pub NearTaken : ℕ → ℕ → Post → Type 0
NearTaken d i (AtNode false n e ends a) = (e ≡ i) × (1 ≤ d)
NearTaken d i (Left false n e) = (e ≡ i) × (1 ≤ d)
NearTaken d i (GaveBack false n e) = (e ≡ i) × (1 ≤ d)
NearTaken d i _ = ⊥

-- a refusal of node k in epoch i, and a Give
abbrev pub NearRefused : ℕ → ℕ → ℕ → Post → Type 0
NearRefused d k i (Declined n e) = (n ≡ k) × (e ≡ i) × (1 ≤ d)
NearRefused d k i _ = ⊥

abbrev pub NearReturn : ℕ → ℕ → ℕ → Post → Type 0
NearReturn d k i (GaveBack told n e) = (n ≡ k) × (e ≡ i) × (1 ≤ d)
NearReturn d k i _ = ⊥

-- one that is still told has Given for its answer
abbrev pub NearGive : Spot → ℕ → ℕ → ℕ → Type 0
NearGive t d k i = NearReturn d k i t.post ⊎ ((t.telling k ≡ Some (i, true)) × (2 ≤ d))

-- a segment that is forwarded to node k
abbrev pub NearForward : Spot → ℕ → ℕ → ℕ → Result Said SegFault → Post → Type 0
NearForward t d k i (Ok s) (AtNode told n e ends a) = (n ≡ k) × (e ≡ i) × NearHeld t d ends s t.phase
NearForward t d k i _ _ = ⊥

-- an Ask of node k, or a Tag for it, of this number and of so many requests, while it is awaited
abbrev pub IsAwaited : ℕ → ℕ → Awaits → Type 0
IsAwaited number count a = (is_some (find (is_under kind.Ask 0) a.kept) ≡ true) × (number ≡ a.asks) × (count ≡ a.named)

abbrev pub NearAsk : ℕ → ℕ → ℕ → ℕ → ℕ → Post → Type 0
NearAsk least k i number count (AtNode told n e ends a) = (n ≡ k) × (e ≡ i) × IsAwaited number count a
NearAsk least k i number count _ = ⊥

-- the content of request r is awaited by node k from node from
abbrev pub IsWanted : ℕ → ℕ → ℕ → ℕ → Post → Type 0
IsWanted k i from r (AtNode told n e ends a) = (n ≡ k) × (e ≡ i) × (is_from from i (find (is_under kind.Fetch r) a.fetches) ≡ true)
IsWanted k i from r _ = ⊥

-- an end of a stay
abbrev pub NearEnding : Spot → ℕ → ℕ → ℕ → Post → Type 0
NearEnding t d k i (Left told n e) = (e ≡ i) × (1 ≤ d)
NearEnding t d k i (Ended last taken) = (t.telling k ≡ Some (i, false)) × (2 ≤ d)
NearEnding t d k i _ = ⊥

-- what the front end tells node k in epoch i
abbrev pub NearTold : Spot → ℕ → ℕ → ℕ → ℕ → Body → Type 0
NearTold t c d k i (body.Offer parts) = NearOffer d k i t.post
NearTold t c d k i (body.Forward segment) = NearForward t d k i (decoded segment c ToCluster) t.post
NearTold t c d k i (body.Tag number nodes) = NearAsk 1 k i number (length nodes) t.post × (1 ≤ d)
NearTold t c d k i body.EndedAck = (t.telling k ≡ Some (i, false)) × (1 ≤ d)
NearTold t c d k i body.Given = (t.telling k ≡ Some (i, true)) × (1 ≤ d)
NearTold t c d k i _ = ⊥

-- what node k tells the front end
abbrev pub NearSaid : Spot → ℕ → ℕ → ℕ → Body → Type 0
NearSaid t d k i body.Taken = NearTaken d i t.post
NearSaid t d k i body.Refused = NearRefused d k i t.post
NearSaid t d k i (body.Give parts) = NearGive t d k i
NearSaid t d k i (body.Ask number queue size paths) = NearAsk 2 k i number (length paths) t.post × (2 ≤ d)
NearSaid t d k i (body.Ended why snd rcv count) = NearEnding t d k i t.post
NearSaid t d k i _ = ⊥

-- what node n tells node k: a Fetch for itself, or a content that the other one awaits
abbrev pub NearAside : FilesAt → Spot → ℕ → ℕ → ℕ → ℕ → Body → Type 0
NearAside files t d n k i (body.Fetch r path) = IsWanted n i k r t.post × (is_some (files path) ≡ true) × (2 ≤ d)
NearAside files t d n k i (body.Content r bytes) = IsWanted k i n r t.post × (1 ≤ d)
NearAside files t d n k i _ = ⊥

abbrev pub OfMessage : (Message → Type 0) → Result Message MsgFault → Type 0
OfMessage P (Err fault) = ⊥
OfMessage P (Ok m) = P m

abbrev pub OfSegment : (Said → Type 0) → Result Said SegFault → Type 0
OfSegment P (Err fault) = ⊥
OfSegment P (Ok s) = P s

abbrev pub NearBetween : FilesAt → Spot → ℕ → ℕ → Place → Place → Letter → Type 0
NearBetween files t c d (Client b) Front l = OfSegment (λ s. NearWord t d s t.post) (decoded l.bytes c ToCluster)
NearBetween files t c d Front (Client b) l = OfSegment (λ s. NearSegment t d s t.post) (decoded l.bytes c ToClient)
NearBetween files t c d (Node n) (Client b) l = OfSegment (λ s. NearSegment t d s t.post) (decoded l.bytes c ToClient)
NearBetween files t c d Front (Node k) l = OfMessage (λ m. NearTold t c d k m.epoch.0 m.body) (decoded_message l.bytes)
NearBetween files t c d (Node k) Front l = OfMessage (λ m. NearSaid t d k m.epoch.0 m.body) (decoded_message l.bytes)
NearBetween files t c d (Node n) (Node k) l = OfMessage (λ m. NearAside files t d n k m.epoch.0 m.body) (decoded_message l.bytes)
NearBetween files t c d _ _ l = ⊥

-- a packet of connection c
abbrev pub Near : FilesAt → Spot → ℕ → ℕ → Letter → Type 0
Near files t c d l = NearBetween files t c d l.from l.to l

-- a job at node k for another node, which brings a content that is awaited
abbrev pub JobNear : FilesAt → Spot → ℕ → ℕ → Job → Type 0
JobNear files t k d job = IsWanted job.origin job.epoch.0 k job.r t.post × (job.origin ≢ k) × (2 ≤ d)
