-- What the laws of this crate say of every rule of a node at once: what comes, what it tells again, and what it says aside for another one.
use Rattle.std.proofs.Common.{◌≡◌, ℕ, List, [], ◌∷◌, ◌++◌, map, Result, Ok, sym, ap, ◌∙◌, subst}
use Rattle.lard_law_view.specs.Prelude.{AreSent, Conn, FilesAt, Front, IsConnSound, IsWord, Kept, Letter, Node, Said, Seen, SegFault, Setting, Station, Talk, ToCluster, Verdict, again_sent, decoded, letter, letters_of, sent_of, stands}
use Rattle.lard_history.proofs.Each.{Each}
use Rattle.lard_law_connections.specs.BytesAgreement.{FrontTells, IsFair, IsOpen}
use Rattle.lard_law_connections.proofs.BytesClientMoves.{has-fair}
use Rattle.lard_law_connections.proofs.PlacesFrontRules.{has-each}
use Rattle.lard_law_view.proofs.EachNode.{Aside, Answers, Queues, Brings, HasForwarded, aside_said, aside_seen}
use Rattle.lard_message.specs.declared.message.Body.TheVariants as body
use Rattle.lard_segment.proofs.Again.{again}

-- ---- what comes

pub same-said : (a b : Said) → ◌≡◌ {A = Result Said SegFault} (Ok a) (Ok b) → a ≡ b
same-said a b e = cc

-- a segment that the front end forwards is a word of the client's
pub forwarded-word : (files : FilesAt) (x : Conn) (s : Station) (l : Talk) (pend : List Verdict) → IsOpen files x l pend s
    → (n epoch : ℕ) (heads : List Seen) (said : Said) → HasForwarded x n epoch (Ok said) heads
    → IsWord l.w said
forwarded-word files x s l pend o n epoch heads said m =
    let f : FrontTells l x.c x.part n epoch m.came.bytes (body.Forward m.segment) =
    (has-fair (IsFair l x.c x.part) (record { from = Front; to = Node n; bytes = m.came.bytes }) x.letters m.came.was o.fair) _ m.came.spells in
    let read : decoded m.segment x.c ToCluster ≡ Ok f.0 = ap (λ (b : List ℕ). decoded b x.c ToCluster) f.1 ∙ again x.c ToCluster f.0 f.2.sendable in
    subst (IsWord l.w) (same-said f.0 said (sym read ∙ sym m.read)) f.2

-- ---- what it does

-- aside a node says at most a message to another one
pub aside-letters : (P : Letter → Type 0) → ((n to : ℕ) (bytes : List ℕ) → P (record { from = Node n; to = Node to; bytes = bytes }))
    → (k : Setting) (x : Conn) (n : ℕ) (a : Aside)
    → Each P (letters_of (stands x (Node n) (aside_seen n a) (aside_said k n x.c a)))
aside-letters P inner k x n (Answers from epoch r path file bytes) = (inner n from _, tt)
aside-letters P inner k x n (Queues from epoch r path file bytes) = tt
aside-letters P inner k x n (Brings from epoch r path) = (inner n from _, tt)

-- what it tells again it told before
pub again-letters : (P : Letter → Type 0) (x : Conn) → IsConnSound x → Each P x.letters → (n : ℕ) → Each P (map (letter (Node n)) (again_sent (x.part.nodes n)))
again-letters P x sound all n = told ((x.part.nodes n).kept ++ (x.part.nodes n).fetches)
    (both (x.part.nodes n).kept (x.part.nodes n).fetches (sound.kept n) (sound.fetches n)) where
      both : (xs ys : List Kept) → AreSent x (Node n) xs → AreSent x (Node n) ys → AreSent x (Node n) (xs ++ ys)
      both [] ys f g = g
      both (q ∷ xs) ys f g = (f.0, both xs ys f.1 g)

      told : (ks : List Kept) → AreSent x (Node n) ks → Each P (map (letter (Node n)) (map sent_of ks))
      told [] sent = tt
      told (q ∷ ks) sent = (has-each P (record { from = Node n; to = q.to; bytes = q.bytes }) x.letters sent.0.1 all, told ks sent.1)
