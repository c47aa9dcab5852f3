-- No chain has five packets, and nothing is near within no rounds.
use Rattle.std.proofs.Common.{◌≡◌, ◌<◌, ◌≤◌, ◌&&◌, ◌||◌, ◌⊎◌, inl, inr, not, ℕ, Bool, true, false, Option, Some, None, Result, Ok, Err, arith}
use Rattle.std.proofs.lemmas.Bool.{cond_both}
use Rattle.lard_law_view.specs.Prelude.{Body, Client, FilesAt, Front, Letter, Machine, Message, MsgFault, Node, Packet, Phase, Place, Reason, Said, SegFault, ToClient, ToCluster, conn, conn_of, decoded, decoded_message, file_at, letter_of, packet_at}
use Rattle.lard_base.specs.declared.place.Reason.TheVariants as reason
use Rattle.lard_bound.specs.Chains.{aside_chain, chain_between, front_chain, is_current, node_chain, of_message, reply_chain, word_result}
use Rattle.lard_bound.specs.Nears.{Crosses, IsAnswer, NearReturn, IsNews, IsUntold, IsUnaware, NearAside, NearBetween, NearEnd, NearEnded, NearEnding, NearClosing, NearForward, NearGive, NearHeld, NearLast, NearOffer, NearRefused, NearReply, NearSaid, NearSegment, NearTaken, NearTold, NearWord, OfMessage, OfSegment}
use Rattle.lard_bound.specs.Progress.{NearOn, chain_on}
use Rattle.lard_bound.specs.Spots.{AtFront, AtNode, Declined, Ended, EndpointSymbols, GaveBack, InLine, Left, Nowhere, OnOffer, Post, Spot}
use Rattle.lard_client.specs.declared.phase.Phase.TheVariants as phase
use Rattle.lard_law_settles.specs.Course.{NearIn, chain_by, chain_in, chain_of}
use Rattle.lard_message.specs.declared.message.Body.TheVariants as body

-- ---- chains

module _ (t : Spot) (c : ℕ) where
  word-short : (r : Result Said SegFault) → word_result t r ≤ 3
  word-short (Err fault) = omega arith
  word-short (Ok s) = cond_both (s.flags.rst || is_current t s) 0 3 (λ (n : ℕ). n ≤ 3) (λ b. omega arith) (λ b. omega arith)

  reply-short : (r : Result Said SegFault) → reply_chain r ≤ 3
  reply-short (Err fault) = omega arith
  reply-short (Ok s) = cond_both (s.flags.rst && not s.flags.ack) 0 2 (λ (n : ℕ). n ≤ 3) (λ b. omega arith) (λ b. omega arith)

  front-short : (b : Body) → front_chain t c b ≤ 3
  front-short (body.Offer parts) = omega arith
  front-short (body.Forward segment) = word-short (decoded segment c ToCluster)
  front-short _ = omega arith

  node-short : (b : Body) → node_chain b ≤ 3
  node-short (body.Ask number queue size paths) = omega arith
  node-short (body.Ended why snd rcv count) = omega arith
  node-short _ = omega arith

  aside-short : (b : Body) → aside_chain b ≤ 3
  aside-short (body.Fetch r path) = omega arith
  aside-short _ = omega arith

  message-short : (f : Message → ℕ) → ((m : Message) → f m ≤ 3) → (r : Result Message MsgFault) → of_message f r ≤ 3
  message-short f h (Err fault) = omega arith
  message-short f h (Ok m) = h m

  low : (n : ℕ) → n ≤ 3 → n < 5
  low n h = omega (arith, h)

  between-short : (from to : Place) (l : Letter) → chain_between t c from to l < 5
  between-short (Client d) Front l = let h = word-short (decoded l.bytes c ToCluster) in omega (arith, h)
  between-short Front (Client d) l = low (reply_chain (decoded l.bytes c ToClient)) (reply-short (decoded l.bytes c ToClient))
  between-short (Node n) (Client d) l = low (reply_chain (decoded l.bytes c ToClient)) (reply-short (decoded l.bytes c ToClient))
  between-short Front (Node n) l =
      let f : Message → ℕ = λ m. front_chain t c m.body in low (of_message f (decoded_message l.bytes)) (message-short f (λ m. front-short m.body) (decoded_message l.bytes))
  between-short (Node n) Front l =
      let f : Message → ℕ = λ m. node_chain m.body in low (of_message f (decoded_message l.bytes)) (message-short f (λ m. node-short m.body) (decoded_message l.bytes))
  between-short (Node n) (Node k) l =
      let f : Message → ℕ = λ m. aside_chain m.body in low (of_message f (decoded_message l.bytes)) (message-short f (λ m. aside-short m.body) (decoded_message l.bytes))
  between-short Front Front l = omega arith
  between-short (Client d) (Client e) l = omega arith
  between-short (Client d) (Node n) l = omega arith

on-short : (o : Option Spot) (c : ℕ) (l : Letter) → chain_on o c l < 5
on-short None c l = omega arith
on-short (Some t) c l = between-short t c l.from l.to l

pub chains-are-short : (m : Machine) (k : ℕ) → chain_in m k < 5
chains-are-short m k = by-packet (packet_at m.net k) where
  of-number : (p : Packet) (o : Option ℕ) → chain_of m p o < 5
  of-number p None = omega arith
  of-number p (Some q) = on-short _ _ (letter_of p)

  by-packet : (o : Option Packet) → chain_by m o < 5
  by-packet None = omega arith
  by-packet (Some p) = of-number p (conn_of p.from p.to p.bytes)

-- ---- what is near

module _ (t : Spot) where
  none : (n : ℕ) → 1 ≤ n → n ≤ 0 → ⊥
  none n some h = omega (arith, some, h)

  held-open : (e : EndpointSymbols) (s : Said) → (IsNews t e s × (1 ≤ 0)) ⊎ (Crosses t s × (e.una ≡ e.symbols) × (2 ≤ 0)) → ⊥
  held-open e s (inl h) = none 1 (omega arith) h.1
  held-open e s (inr h) = none 2 (omega arith) h.2

  held-never : (e : EndpointSymbols) (s : Said) (ph : Phase) → NearHeld t 0 e s ph → ⊥
  held-never e s phase.Open h = held-open e s h
  held-never e s phase.Aborted h = none 1 (omega arith) h.2
  held-never e s phase.Reset h = h

  end-never : (taken : ℕ) (s : Said) (why : Reason) → NearEnd t 0 taken s why → ⊥
  end-never taken s reason.Closed h = none 2 (omega arith) h.1
  end-never taken s reason.Peer h = h
  end-never taken s reason.Limit h = none 2 (omega arith) h.3

  ended-never : (taken : ℕ) (s : Said) (why : Reason) (ph : Phase) → NearEnded t 0 taken s why ph → ⊥
  ended-never taken s why phase.Open h = end-never taken s why h
  ended-never taken s why phase.Aborted h = h
  ended-never taken s why phase.Reset h = h

  word-never : (s : Said) (p : Post) → NearWord t 0 s p → ⊥
  word-never s Nowhere h = none 1 (omega arith) h.1
  word-never s (AtFront e) h = held-never e s t.phase h
  word-never s (Ended last taken) h = ended-never taken s last.reason t.phase h
  word-never s _ h = h

  reply-open : (back : ℕ) → 1 ≤ back → (e : EndpointSymbols) (s : Said) → (IsUntold t e s × (back ≤ 0)) ⊎ (IsAnswer t e.una s × (e.una ≡ e.symbols) × (1 ≤ 0)) → ⊥
  reply-open back some e s (inl h) = none back some h.1
  reply-open back some e s (inr h) = none 1 (omega arith) h.2

  reply-never : (back : ℕ) → 1 ≤ back → (e : EndpointSymbols) (s : Said) (ph : Phase) → NearReply t back 0 e s ph → ⊥
  reply-never back some e s phase.Open h = reply-open back some e s h
  reply-never back some e s phase.Aborted h = none back some h.3
  reply-never back some e s phase.Reset h = h

  last-never : (taken : ℕ) (s : Said) (why : Reason) → NearLast t 0 taken s why → ⊥
  last-never taken s reason.Closed h = none 1 (omega arith) h.1
  last-never taken s reason.Peer h = h
  last-never taken s reason.Limit h = none 1 (omega arith) h.2

  closing-never : (taken : ℕ) (s : Said) (why : Reason) (ph : Phase) → NearClosing t 0 taken s why ph → ⊥
  closing-never taken s why phase.Open h = last-never taken s why h
  closing-never taken s why phase.Aborted h = h
  closing-never taken s why phase.Reset h = h

  segment-never : (s : Said) (p : Post) → NearSegment t 0 s p → ⊥
  segment-never s Nowhere h = h
  segment-never s (AtFront e) h = reply-never 2 (omega arith) e s t.phase h
  segment-never s InLine h = h
  segment-never s (OnOffer n k) h = h
  segment-never s (Declined n k) h = h
  segment-never s (AtNode told n k e a) h = reply-never 3 (omega arith) e s t.phase h
  segment-never s (Left told n k) h = h
  segment-never s (GaveBack told n k) h = h
  segment-never s (Ended last taken) h = closing-never taken s last.reason t.phase h

  -- ---- messages

  unaware-never : (told : Bool) → IsUnaware told 0 → ⊥
  unaware-never true h = h
  unaware-never false h = none 2 (omega arith) h

  offer-never : (k i : ℕ) (p : Post) → NearOffer 0 k i p → ⊥
  offer-never k i (OnOffer n e) h = none 1 (omega arith) h.2
  offer-never k i (Declined n e) h = none 2 (omega arith) h.2
  offer-never k i (AtNode told n e ends a) h = unaware-never told h.2
  offer-never k i (Left told n e) h = unaware-never told h.2
  offer-never k i (GaveBack told n e) h = unaware-never told h.2
  offer-never k i _ h = h

  taken-never : (i : ℕ) (p : Post) → NearTaken 0 i p → ⊥
  taken-never i (AtNode false n e ends a) h = none 1 (omega arith) h.1
  taken-never i (Left false n e) h = none 1 (omega arith) h.1
  taken-never i (GaveBack false n e) h = none 1 (omega arith) h.1
  taken-never i _ h = h

  refused-never : (k i : ℕ) (p : Post) → NearRefused 0 k i p → ⊥
  refused-never k i (Declined n e) h = none 1 (omega arith) h.2
  refused-never k i _ h = h

  given-never : (k i : ℕ) (p : Post) → NearReturn 0 k i p → ⊥
  given-never k i (GaveBack told n e) h = none 1 (omega arith) h.2
  given-never k i _ h = h

  give-never : (k i : ℕ) → NearGive t 0 k i → ⊥
  give-never k i (inl h) = given-never k i t.post h
  give-never k i (inr h) = none 2 (omega arith) h.1

  forward-never : (k i : ℕ) (r : Result Said SegFault) (p : Post) → NearForward t 0 k i r p → ⊥
  forward-never k i (Ok s) (AtNode told n e ends a) h = held-never ends s t.phase h.2
  forward-never k i (Ok s) _ h = h
  forward-never k i (Err fault) p h = h

  ending-never : (k i : ℕ) (p : Post) → NearEnding t 0 k i p → ⊥
  ending-never k i (Left told n e) h = none 1 (omega arith) h.1
  ending-never k i (Ended last taken) h = none 2 (omega arith) h.1
  ending-never k i _ h = h

  told-never : (c k i : ℕ) (b : Body) → NearTold t c 0 k i b → ⊥
  told-never c k i (body.Offer parts) h = offer-never k i t.post h
  told-never c k i (body.Forward segment) h = forward-never k i (decoded segment c ToCluster) t.post h
  told-never c k i (body.Tag number nodes) h = none 1 (omega arith) h.1
  told-never c k i body.EndedAck h = none 1 (omega arith) h.1
  told-never c k i body.Given h = none 1 (omega arith) h.1
  told-never c k i _ h = h

  said-never : (k i : ℕ) (b : Body) → NearSaid t 0 k i b → ⊥
  said-never k i body.Taken h = taken-never i t.post h
  said-never k i body.Refused h = refused-never k i t.post h
  said-never k i (body.Give parts) h = give-never k i h
  said-never k i (body.Ask number queue size paths) h = none 2 (omega arith) h.1
  said-never k i (body.Ended why snd rcv count) h = ending-never k i t.post h
  said-never k i _ h = h

  aside-never : (files : FilesAt) (n k i : ℕ) (b : Body) → NearAside files t 0 n k i b → ⊥
  aside-never files n k i (body.Fetch r path) h = none 2 (omega arith) h.2
  aside-never files n k i (body.Content r bytes) h = none 1 (omega arith) h.1
  aside-never files n k i _ h = h

message-never : (P : Message → Type 0) → ((m : Message) → P m → ⊥) → (r : Result Message MsgFault) → OfMessage P r → ⊥
message-never P never (Err fault) h = h
message-never P never (Ok m) h = never m h

of-segment-never : (P : Said → Type 0) → ((s : Said) → P s → ⊥) → (r : Result Said SegFault) → OfSegment P r → ⊥
of-segment-never P never (Err fault) h = h
of-segment-never P never (Ok s) h = never s h

between-never : (files : FilesAt) (t : Spot) (c : ℕ) (from to : Place) (l : Letter) → NearBetween files t c 0 from to l → ⊥
between-never files t c (Client d) Front l h = of-segment-never (λ s. NearWord t 0 s t.post) (λ s. word-never t s t.post) (decoded l.bytes c ToCluster) h
between-never files t c Front (Client d) l h = of-segment-never (λ s. NearSegment t 0 s t.post) (λ s. segment-never t s t.post) (decoded l.bytes c ToClient) h
between-never files t c (Node n) (Client d) l h = of-segment-never (λ s. NearSegment t 0 s t.post) (λ s. segment-never t s t.post) (decoded l.bytes c ToClient) h
between-never files t c Front (Node k) l h = message-never (λ m. NearTold t c 0 k m.epoch.0 m.body) (λ m. told-never t c k m.epoch.0 m.body) (decoded_message l.bytes) h
between-never files t c (Node k) Front l h = message-never (λ m. NearSaid t 0 k m.epoch.0 m.body) (λ m. said-never t k m.epoch.0 m.body) (decoded_message l.bytes) h
between-never files t c (Node n) (Node k) l h = message-never (λ m. NearAside files t 0 n k m.epoch.0 m.body) (λ m. aside-never t files n k m.epoch.0 m.body) (decoded_message l.bytes) h
between-never files t c Front Front l h = h
between-never files t c (Client d) (Client e) l h = h
between-never files t c (Client d) (Node n) l h = h

on-never : (files : FilesAt) (o : Option Spot) (c : ℕ) (l : Letter) → NearOn files o c 0 l → ⊥
on-never files None c l h = h
on-never files (Some t) c l h = between-never files t c l.from l.to l h

pub near-never : (m : Machine) (k : ℕ) → NearIn m 0 k → ⊥
near-never m k h = on-never (file_at m.files) _ (conn m h.c).c (letter_of h.packet) h.near
