-- A connection whose client has not opened: neither the front end nor a node keeps anything of it, so no timer of it runs.
use Rattle.std.proofs.Common.{◌≡◌, ℕ, zero, suc, true, false, List, [], ◌∷◌, length, Option, Some, None, ⊎_elim, refl, sym, ap, ◌∙◌, subst, arith}
use Rattle.std.specs.FinMap as table
use Rattle.std.proofs.lemmas.Bool.{both_ways}
use Rattle.std.proofs.lemmas.Bool.Decides.{nat_tests}
use Rattle.std.proofs.lemmas.Option.{slice_get_within}
use Rattle.lard_law_view.specs.Prelude.{Client, ClientRules, Config, Conn, Front, FrontPart, FrontRules, Has, IsLaw, IsReached, Letter, Machine, MayRestOn, Move, Node, NodeEnv, NodePart, NodeRules, NodeState, OfEach, Part, Place, Seen, Setting, Station, TimerKind, conn, front_admitted, front_armed, front_does, grown, is_no_node, kept_at, letters_of, node_armed, node_at, node_does, nothing_kept, nothing_said, packet_seen, part_of, setting, stands, with_leaving}
use Rattle.lard_law_view.proofs.EachClient.{each-client}
use Rattle.lard_law_view.proofs.EachFront.{each-front}
use Rattle.lard_law_view.proofs.EachNode.{Aside, NodeComes, aside_said, aside_seen, each-node, job_notes, node_goes, told_first}
use Rattle.lard_law_view.proofs.EachNode as each
use Rattle.lard_base.specs.declared.place.TimerKind.TheVariants.{Tcp}
use Rattle.lard_laws.specs.StepsTimers.{armed_at, client_armed}
use Rattle.lard_law_view.proofs.Carried.{carried}
use Rattle.lard_rules.specs.Front as front
use Rattle.lard_history.proofs.Each.{Each, Each-append}
use Rattle.lard_rules.specs.Node as node
use Rattle.lard_law_view.proofs.FirstSeen.{by-front-seen}
use Rattle.lard_law_settles.proofs.SettlesKeeping.{HasClient, IsThere}
use Rattle.lard_law_view.proofs.Deeds.{front-station, node-station}

-- ---- what there may be before a client opens

abbrev blank_front : FrontPart
blank_front = record { row = None; rest = None; kept = [] }

abbrev IsNodePlace : Place → Type 0
IsNodePlace (Node n) = Unit {0}
IsNodePlace _ = ⊥

abbrev GoesAmongNodes : Place → Place → Type 0
GoesAmongNodes from to = IsNodePlace from × IsNodePlace to

abbrev IsAmongNodes : Letter → Type 0
IsAmongNodes l = GoesAmongNodes l.from l.to

-- Nothing is kept of the connection, and its packets went from node to node.
record IsUntold (x : Conn) : Type 0 where
  front : x.part.front ≡ blank_front
  nodes : (n : ℕ) → x.part.nodes n ≡ nothing_kept
  letters : Each IsAmongNodes x.letters

-- so it is until its client opens
abbrev IsLate : Conn → Type 0
IsLate x = x.part.station ≡ None → IsUntold x

-- ---- what a move owes

some-none : (s : Station) → Some s ≡ None → ⊥
some-none s e = cc

was-among : (from to : Place) (bytes : List ℕ) (ls : List Letter) → Each IsAmongNodes ls → Has (record { from = from; to = to; bytes = bytes }) ls → GoesAmongNodes from to
was-among from to bytes [] all has = absurd has
was-among from to bytes (l ∷ ls) all has = ⊎_elim
    (λ (same : l ≡ record { from = from; to = to; bytes = bytes }). subst IsAmongNodes same all.0)
    (λ (more : Has (record { from = from; to = to; bytes = bytes }) ls). was-among from to bytes ls all.1 more)
    has

-- a move that leaves what is kept as it was
stays-late : (x : Conn) (v : Move) → v.part ≡ x.part → Each IsAmongNodes (letters_of v) → IsLate x → IsLate (grown x v)
stays-late x v part sent late none =
    let u : IsUntold x = late (ap (λ (p : Part). p.station) (sym part) ∙ none) in record {
      front = ap (λ (p : Part). p.front) part ∙ u.front;
      nodes = λ n. ap (λ (p : Part). p.nodes n) part ∙ u.nodes n;
      letters = Each-append IsAmongNodes x.letters (letters_of v) u.letters sent;
    }

abbrev Anything : Conn → Type 0
Anything x = Unit {0}

abbrev Owes : Conn → Move → Type 0
Owes x v = MayRestOn Anything x → IsLate x → IsLate (grown x v)

-- at a place of the cluster, on a packet that did not go from node to node
front-unheard : (x : Conn) (heads : List Seen) (d : front.FrontDeed) (from to : Place) (bytes : List ℕ) → (GoesAmongNodes from to → ⊥) → Has (record { from = from; to = to; bytes = bytes }) x.letters → Owes x (front_does x heads d)
front-unheard x heads d from to bytes never was may late none = absurd (never (was-among from to bytes x.letters (late (sym (front-station x heads d) ∙ none)).letters was))

node-unheard : (x : Conn) (n : ℕ) (heads : List Seen) (d : node.NodeDeed) (from to : Place) (bytes : List ℕ) → (GoesAmongNodes from to → ⊥) → Has (record { from = from; to = to; bytes = bytes }) x.letters → Owes x (node_does x n heads d)
node-unheard x n heads d from to bytes never was may late none = absurd (never (was-among from to bytes x.letters (late (sym (node-station x n heads d) ∙ none)).letters was))

-- at a node that keeps nothing of it, whatever is noted first
node-drops : (x : Conn) (n : ℕ) (env : NodeEnv) (heads : List Seen) (g : node.NodeGets) → node.node_rule env nothing_kept g ≡ node.Drops → Owes x (node_goes x n env heads g)
node-drops x n env heads g drops may late none =
    let still : x.part.station ≡ None = sym (node-station x n heads (node.node_rule env (x.part.nodes n) g)) ∙ none in
    let is : node.node_rule env (x.part.nodes n) g ≡ node.Drops = ap (λ (p : NodePart). node.node_rule env p g) ((late still).nodes n) ∙ drops in
    subst (λ (d : node.NodeDeed). IsUntold (grown x (told_first (job_notes x.c n g) (node_does x n heads d)))) (sym is)
    (stays-late x (told_first (job_notes x.c n g) (node_does x n heads node.Drops)) refl tt late still)

-- ---- every rule

clients : (k : Setting) → ClientRules k Owes
clients k = each-client k Owes (record {
  opens = λ x isn iss wnd mss rule absent may late none. absurd (some-none _ none);
  does = λ x s g there comes may late none. absurd (some-none _ none);
})

fronts : (k : Setting) → FrontRules k Owes
fronts k = each-front k Owes (λ x env heads g is. by-front-seen x env heads (λ ss g. Owes x (front_does x ss (front.front_rule env x.part.front g)))
    (λ from bytes g was seen. front-unheard x heads _ from Front bytes (λ never. never.1) was)
    (λ rung may late none. absurd (some-none rung.station (sym rung.there ∙ sym (front-station x _ _) ∙ none)))
    (λ choice given turn may late none. let no : None ≡ Some given = sym (ap (λ (p : FrontPart). front_admitted env p choice) (late none).front) ∙ turn.is in absurd cc) g)

node-late : (x : Conn) (n epoch : ℕ) (env : NodeEnv) (heads : List Seen) (g : node.NodeGets) → NodeComes x n epoch heads g → Owes x (node_goes x n env heads g)
node-late x n epoch env heads (node.Offered parts) comes = node-unheard x n heads _ Front (Node n) comes.bytes (λ never. never.0) comes.was
node-late x n epoch env heads (node.Forwarded given) comes = node-unheard x n heads _ Front (Node n) comes.came.bytes (λ never. never.0) comes.came.was
node-late x n epoch env heads node.Fires comes = λ may late none. absurd (some-none comes.station (sym comes.there ∙ sym (node-station x n heads _) ∙ none))
node-late x n epoch env heads (node.Acknowledged true) comes = node-drops x n env heads (node.Acknowledged true) refl
node-late x n epoch env heads (node.Acknowledged false) comes = node-drops x n env heads (node.Acknowledged false) refl
node-late x n epoch env heads g comes = node-drops x n env heads g refl

aside-late : (k : Setting) (x : Conn) (n : ℕ) (a : Aside) → Each IsAmongNodes (letters_of (stands x (Node n) (aside_seen n a) (aside_said k n x.c a)))
aside-late k x n (each.Queues from epoch r path file bytes) = tt
aside-late k x n _ = ((tt, tt), tt)

nodes : (k : Setting) → NodeRules k Owes
nodes k = each-node k Owes (record {
  does = λ x n epoch env heads g is in_its. node-late x n epoch env heads g;
  aside = λ x n a allowed may late. stays-late x (stands x (Node n) (aside_seen n a) (aside_said k n x.c a)) refl (aside-late k x n a) late;
})

late-law : (k : Setting) → IsLaw k Anything IsLate
late-law k = record {
  begins = λ c none. record { front = refl; nodes = λ n. refl; letters = tt };
  moves = record {
    untouched = record { client = clients k; front = fronts k; node = nodes k; ignores = λ x from to bytes was may late. stays-late x (stands x to (packet_seen from to bytes) nothing_said) refl tt late };
    injects = λ x s bytes there rule may late none. absurd (some-none _ none);
  };
}

late-always : (config : Config) (files : List (List ℕ × List ℕ)) → OfEach config files IsLate
late-always config files = carried config files Anything IsLate (λ l. late-law (with_leaving (setting config files) l)) (λ m r q. tt)

-- ---- timers that run

client-off : (kind : TimerKind) → client_armed None kind ≡ false
client-off Tcp = refl
client-off _ = refl

front-off : (kind : TimerKind) → front_armed blank_front kind ≡ false
front-off Tcp = refl
front-off _ = refl

node-off : (kind : TimerKind) → node_armed nothing_kept kind ≡ false
node-off Tcp = refl
node-off _ = refl

untold-off : (m : Machine) (c : ℕ) → table.get m.clients c ≡ None → IsUntold (conn m c) → (p : Place) (kind : TimerKind) → armed_at p (part_of m c) kind ≡ false
unfolding conn part_of
untold-off m c none u (Client d) kind = ap (λ (o : Option Station). client_armed o kind) none ∙ client-off kind
untold-off m c none u Front kind = ap (λ (f : FrontPart). front_armed f kind) u.front ∙ front-off kind
untold-off m c none u (Node n) kind = ap (λ (b : NodePart). node_armed b kind) (u.nodes n) ∙ node-off kind

-- a timer runs of a client that opened alone
runs-opened : (m : Machine) (c : ℕ) → IsLate (conn m c) → (p : Place) (kind : TimerKind) → armed_at p (part_of m c) kind ≡ true → HasClient m c
unfolding conn part_of
runs-opened m c late p kind on = go (table.get m.clients c) refl where
  go : (o : Option Station) → table.get m.clients c ≡ o → HasClient m c
  go (Some x) at = (x, at)
  go None at = absurd (both_ways (armed_at p (part_of m c) kind) (untold-off m c at (late at) p kind) on)

-- and at nodes that are there
pub node-counted : (ns : List NodeState) (count n : ℕ) (s : NodeState) → length ns ≡ count → node_at ns n ≡ Some s → is_no_node count n ≡ false
node-counted ns count zero s same at = let no : None ≡ Some s = at in absurd cc
node-counted ns count (suc i) s same at = let within = slice_get_within ns i s at in grind (arith, nat_tests, within, same)

runs-there : (m : Machine) (c : ℕ) → length m.nodes ≡ m.config.nodes → (p : Place) (kind : TimerKind) → armed_at p (part_of m c) kind ≡ true → IsThere m.config.nodes p
unfolding part_of
runs-there m c same Front kind on = tt
runs-there m c same (Client d) kind on = tt
runs-there m c same (Node n) kind on = go (node_at m.nodes n) refl on where
  go : (o : Option NodeState) → node_at m.nodes n ≡ o → node_armed (kept_at c o) kind ≡ true → is_no_node m.config.nodes n ≡ false
  go (Some s) at runs = node-counted m.nodes m.config.nodes n s same at
  go None at runs = absurd (both_ways (node_armed nothing_kept kind) (node-off kind) runs)

pub armed-ready : (config : Config) (files : List (List ℕ × List ℕ)) (m : Machine) → IsReached config files m → length m.nodes ≡ m.config.nodes → (p : Place) (c : ℕ) (kind : TimerKind)
    → armed_at p (part_of m c) kind ≡ true → HasClient m c × IsThere m.config.nodes p
armed-ready config files m r same p c kind on = (runs-opened m c (late-always config files m r c) p kind on, runs-there m c same p kind on)
