-- What the rules of a node owe of the packets that come to it; and what its jobs send.
use Rattle.std.proofs.Common.{◌≡◌, ℕ, List, [], ◌∷◌, None, Some, refl, sym, ap, ◌∙◌, subst, inr, arith}
use Rattle.lard_base.specs.declared.event.Event.TheVariants as event
use Rattle.lard_law_view.specs.Prelude.{Conn, IsMessage, Letter, Message, Node, NodeRules, Rec, Seen, Setting, SpellsMessage, Was, content_bytes, content_said, event_seen, node_does, node_read, node_timer, nothing_said, packet_seen, stands}
use Rattle.lard_bound.specs.Chains.{aside_chain, chain, of_message}
use Rattle.lard_bound.specs.Progress.{Answers, IfCame, came_in}
use Rattle.lard_bound.specs.Spots.{spot_of}
use Rattle.lard_bound.specs.Units.{Whole}
use Rattle.lard_law_view.proofs.EachNode.{told_first}
use Rattle.lard_journal.specs.declared.rec.Rec.TheVariants as rec
use Rattle.lard_message.specs.declared.message.Body.TheVariants as body
use Rattle.lard_message.proofs.Whole.{spelled_so}
use Rattle.lard_rules.specs.Node as node
use Rattle.lard_law_progress.proofs.AnswersForm.{Owes, answers-by}
use Rattle.lard_law_progress.proofs.AnswersMessages.{content-chain, content-may, content_letter, of_conn}
use Rattle.lard_law_progress.proofs.AnswersNodeComing.{acknowledged-owes, content-owes, tagged-owes}
use Rattle.lard_law_progress.proofs.AnswersNodeForward.{forwarded-owes}
use Rattle.lard_law_progress.proofs.AnswersNodeGiven.{NodeGiven}
use Rattle.lard_law_progress.proofs.AnswersNodeOffer.{offered-owes}
use Rattle.lard_law_view.proofs.Deeds.{node-heads}

-- ---- a Fetch

module _ (k : Setting) (w : Whole) (x : Conn) (n from epoch r : ℕ) (path file bytes : List ℕ) (is : k.files path ≡ Some file) (spells : SpellsMessage x.c epoch (body.Fetch r path) bytes) (was : Was x (Node from) (Node n) bytes) where
  abbrev came : Letter
  came = record { from = Node from; to = Node n; bytes = bytes }

  -- what is read of a file that is there
  file-is : content_bytes (k.files path) ≡ file
  file-is = ap content_bytes is

  pub content-fits : NodeGiven k w x → IsMessage (of_conn x.c epoch (body.Content r (content_bytes (k.files path))))
  content-fits given =
      let fetch = (spelled_so bytes (of_conn x.c epoch (body.Fetch r path)) (given.bytes came was) spells).0 in
      subst (λ (f : List ℕ). IsMessage (of_conn x.c epoch (body.Content r f))) (sym file-is) (content-may x.c epoch r path file fetch (given.files path file is))

  -- it is answered by the content, whose chain is shorter
  pub answers-owes : Owes k w (NodeGiven k w) x (stands x (Node n) (packet_seen (Node from) (Node n) bytes) (content_said k n from x.c epoch r path))
  answers-owes may after warm late lasts =
      let o = may.given.fetched from n epoch r path bytes spells was in
      let t = spot_of k.files x.part o.0 in
      let none : chain t x.c (content_letter n from x.c epoch r (content_bytes (k.files path))) ≡ 0 = content-chain k.files t x.c epoch r n from (content_bytes (k.files path)) (content-fits may.given) in
      let one : chain t x.c came ≡ 1 = ap (of_message (λ (m : Message). aside_chain m.body)) spells in
      answers-by k w x (stands x (Node n) (packet_seen (Node from) (Node n) bytes) (content_said k n from x.c epoch r path)) came o.0 o.0 o.1 o.1 lasts
      (λ up same. record { shorter = (omega (arith, none, one), tt); leads = λ d near. inr (x.c, epoch, r, path, spells) })

  -- or a job is queued for it
  pub queues-owes : Owes k w (NodeGiven k w) x (stands x (Node n) (packet_seen (Node from) (Node n) bytes) (record nothing_said { notes = rec.Queued n from x.c r path ∷ [] }))
  queues-owes may after warm late lasts =
      let o = may.given.fetched from n epoch r path bytes spells was in
      answers-by k w x (stands x (Node n) (packet_seen (Node from) (Node n) bytes) (record nothing_said { notes = rec.Queued n from x.c r path ∷ [] })) came o.0 o.0 o.1 o.1 lasts
      (λ up same. record { shorter = tt; leads = λ d near. inr (x.c, epoch, r, path, spells) })

-- ---- all of them

pub node-answers : (k : Setting) (all : ℕ → Whole) → NodeRules k (λ x v. Owes k (all x.c) (NodeGiven k (all x.c)) x v)
node-answers k all = record {
  offered = λ x n epoch env parts bytes of spells was. offered-owes k (all x.c) x n epoch env of parts bytes spells was;
  forwarded = λ x n epoch env segment bytes of spells was. forwarded-owes k (all x.c) x n epoch env of segment bytes spells was;
  tagged = λ x n epoch number nodes env bytes of spells was. tagged-owes k (all x.c) x n epoch env of number nodes bytes spells was;
  content = λ x n from epoch r env file bytes of spells was. content-owes k (all x.c) x n epoch env of from r file bytes spells was;
  acknowledged = λ x n epoch back env bytes of spells was. acknowledged-owes k (all x.c) x n epoch env of back bytes spells was;
  read = λ x n epoch r env path of. no-packet x n (rec.Read n n x.c r path ∷ []) [] refl (node_read env (x.part.nodes n) r);
  fires = λ x s n env is of. no-packet x n [] (event_seen (event.Timer (Node n) x.c)) refl (node_timer env (x.part.nodes n));
  answers = λ x n from epoch r path file bytes is spells was. answers-owes k (all x.c) x n from epoch r path file bytes is spells was;
  queues = λ x n from epoch r path file bytes is spells was. queues-owes k (all x.c) x n from epoch r path file bytes is spells was;
  brings = λ x n from epoch r path may after warm late lasts. tt;
} where
  no-packet : (x : Conn) (n : ℕ) (rs : List Rec) (heads : List Seen) → came_in heads ≡ None → (deed : node.NodeDeed)
      → Owes k (all x.c) (NodeGiven k (all x.c)) x (told_first rs (node_does x n heads deed))
  no-packet x n rs heads none deed may after warm late lasts = subst (IfCame (Answers k (all x.c) x (told_first rs (node_does x n heads deed))))
      (sym (ap came_in (node-heads x n heads deed) ∙ none)) tt
