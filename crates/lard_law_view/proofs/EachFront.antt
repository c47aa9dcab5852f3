-- One lemma for all rules of the front end, in place of one for each, by what comes to it: as `EachNode` has it for a node.
use Rattle.std.proofs.Common.{List, Option, Result, Some, ℕ, [], refl, subst, sym, ◌≡◌}
use Rattle.lard_base.specs.declared.event.Event.TheVariants as event
use Rattle.lard_law_view.specs.Prelude.{Ask, AskedBy, Body, Client, Conn, EndedBy, EndpointParts, Final, FirstChoice, Front, FrontAdmits, FrontEnv, FrontFires, FrontGets, FrontHears, FrontPart, FrontRules, FrontTurn, IsFrontEnv, Move, Node, Place, ReturnedBy, Said, Seen, SegFault, Setting, SpellsMessage, Station, TakenBy, ToCluster, Was, ask_of, back_body, decoded, event_seen, front_admitted, front_does, front_rule, packet_seen}
use Rattle.lard_message.specs.declared.message.Body.TheVariants as body
use Rattle.lard_rules.proofs.FrontCases.{IsAsGiven}

-- ---- what comes

-- a segment of its client, which opened, as it is read
pub record HasSegment (x : Conn) (env : FrontEnv) (bytes : List ℕ) (given : Result Said SegFault) (heads : List Seen) : Type 0 where
  pub station : Station
  pub there : x.part.station ≡ Some station
  pub iss_is : env.iss ≡ station.iss
  pub was : Was x (Client x.c) Front bytes
  pub read : given ≡ decoded bytes x.c ToCluster
  pub seen : heads ≡ packet_seen (Client x.c) Front bytes

-- its timer
pub record HasRung (x : Conn) (heads : List Seen) : Type 0 where
  pub station : Station
  pub there : x.part.station ≡ Some station
  pub seen : heads ≡ event_seen (event.Timer Front x.c)

-- a message of this node, in this epoch
pub record HasTold (x : Conn) (from epoch : ℕ) (b : Body) (heads : List Seen) : Type 0 where
  pub bytes : List ℕ
  pub spells : SpellsMessage x.c epoch b bytes
  pub was : Was x (Node from) Front bytes
  pub seen : heads ≡ packet_seen (Node from) Front bytes

pub record HasAsk (x : Conn) (from epoch : ℕ) (ask : Ask) (heads : List Seen) : Type 0 where
  pub number : ℕ
  pub queue : ℕ
  pub size : ℕ
  pub paths : List (List ℕ)
  pub told : HasTold x from epoch (body.Ask number queue size paths) heads
  pub is : ask ≡ ask_of x.c from number queue size paths

pub record HasEnd (x : Conn) (from epoch : ℕ) (last : Final) (heads : List Seen) : Type 0 where
  pub count : ℕ
  pub told : HasTold x from epoch (body.Ended last.reason last.snd.0 last.rcv.0 count) heads

-- it comes back from this node
abbrev pub HasBack : Conn → ℕ → ℕ → Option EndpointParts → List Seen → Type 0
HasBack x from epoch given heads = HasTold x from epoch (back_body given) heads

-- it is the head of the line, and this comes of it
pub record HasTurn (x : Conn) (env : FrontEnv) (choice : FirstChoice) (given : FrontPart × FrontTurn) (heads : List Seen) : Type 0 where
  pub is : front_admitted env x.part.front choice ≡ Some given
  pub seen : heads ≡ []

-- what is seen first where this comes to the front end, and what is known of it
abbrev pub FrontComes : Conn → FrontEnv → List Seen → FrontGets → Type 0
FrontComes x env heads (FrontHears bytes given) = HasSegment x env bytes given heads
FrontComes x env heads FrontFires = HasRung x heads
FrontComes x env heads (TakenBy from epoch) = HasTold x from epoch body.Taken heads
FrontComes x env heads (AskedBy from epoch ask) = HasAsk x from epoch ask heads
FrontComes x env heads (EndedBy from epoch last) = HasEnd x from epoch last heads
FrontComes x env heads (ReturnedBy from epoch given) = HasBack x from epoch given heads
FrontComes x env heads (FrontAdmits choice given) = HasTurn x env choice given heads

-- ---- all rules by this

abbrev pub EachFrontRule : Setting → (Conn → Move → Type 0) → Type 0
EachFrontRule k P = (x : Conn) (env : FrontEnv) (heads : List Seen) (g : FrontGets) → IsFrontEnv k x.c env → FrontComes x env heads g
    → P x (front_does x heads (front_rule env x.part.front g))

module _ (k : Setting) (P : Conn → Move → Type 0) where
  pub each-front : EachFrontRule k P → FrontRules k P
  each-front e = record {
    hears = λ x s env bytes there is iss was. e x env (packet_seen (Client x.c) Front bytes) (FrontHears bytes (decoded bytes x.c ToCluster)) is
        (record { station = s; there = there; iss_is = iss; was = was; read = refl; seen = refl });
    fires = λ x s env there is. e x env (event_seen (event.Timer Front x.c)) FrontFires is (record { station = s; there = there; seen = refl });
    taken = λ x env n epoch bytes is spells was. e x env (packet_seen (Node n) Front bytes) (TakenBy n epoch) is
        (record { bytes = bytes; spells = spells; was = was; seen = refl });
    asked = λ x env n epoch z queue size paths bytes is spells was. e x env (packet_seen (Node n) Front bytes) (AskedBy n epoch (ask_of x.c n z queue size paths)) is
        (record { number = z; queue = queue; size = size; paths = paths; told = record { bytes = bytes; spells = spells; was = was; seen = refl }; is = refl });
    ended = λ x env n epoch reason snd rcv count bytes is spells was. e x env (packet_seen (Node n) Front bytes)
        (EndedBy n epoch (record { reason = reason; snd = record { 0 = snd }; rcv = record { 0 = rcv } })) is
        (record { count = count; told = record { bytes = bytes; spells = spells; was = was; seen = refl } });
    returned = λ x env n epoch given bytes is spells was. e x env (packet_seen (Node n) Front bytes) (ReturnedBy n epoch given) is
        (record { bytes = bytes; spells = spells; was = was; seen = refl });
    admitted = λ x env choice given is e_is. e x env [] (FrontAdmits choice given) is (record { is = e_is; seen = refl });
  }

-- ---- what is seen first

module _ (x : Conn) (P : List Seen → Type 0) (packet : (from : Place) (bytes : List ℕ) → P (packet_seen from Front bytes)) (none : P [])
    (timer : P (event_seen (event.Timer Front x.c))) where
  pub of-front : (env : FrontEnv) (heads : List Seen) (g : FrontGets) → FrontComes x env heads g → P heads
  of-front env heads (FrontHears bytes given) comes = subst P (sym comes.seen) (packet (Client x.c) bytes)
  of-front env heads FrontFires comes = subst P (sym comes.seen) timer
  of-front env heads (AskedBy from epoch ask) comes = subst P (sym comes.told.seen) (packet (Node from) comes.told.bytes)
  of-front env heads (EndedBy from epoch last) comes = subst P (sym comes.told.seen) (packet (Node from) comes.told.bytes)
  of-front env heads (FrontAdmits choice given) comes = subst P (sym comes.seen) none
  of-front env heads g comes = subst P (sym comes.seen) (packet (Node _) comes.bytes)

-- what the outcomes of the rule want to know of what comes
pub admission : (x : Conn) (env : FrontEnv) (heads : List Seen) (g : FrontGets) → FrontComes x env heads g → IsAsGiven env x.part.front g
admission x env heads (FrontAdmits choice given) comes = comes.is
admission x env heads _ comes = tt
