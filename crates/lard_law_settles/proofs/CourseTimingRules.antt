-- Of each rule: the first timer of those that are due sends what leads to a unit within three rounds.
use Rattle.std.proofs.Common.{◌≡◌, ℕ, Bool, true, List, [], ◌∷◌, Some, sym, ◌∙◌, subst}
use Rattle.lard_base.specs.declared.event.Event.TheVariants as event
use Rattle.lard_law_view.specs.Prelude.{Came, Client, ClientFires, ClientGets, ClientReceives, ClientRules, Conn, ControlBlock, Front, FrontRules, Letter, Move, Node, NodeRules, Place, Seen, Setting, Station, UntouchedRules, event_seen, front_does, front_rule, front_timer, is_clear, node_timer, stands}
use Rattle.lard_law_view.proofs.EachClient.{ClientComes, client_goes, each-client}
use Rattle.lard_law_view.proofs.EachFront.{each-front}
use Rattle.lard_law_view.proofs.EachNode.{Aside, aside_said, aside_seen, each-node, node_goes}
use Rattle.lard_law_view.proofs.EachNode as each
use Rattle.lard_bound.specs.Progress.{Lasts}
use Rattle.lard_bound.specs.Seats.{Held, Here, Waiting, seat_of, staying_of}
use Rattle.lard_bound.specs.Units.{Whole}
use Rattle.lard_law_settles.proofs.CourseOwing.{Begins, IsFirst}
use Rattle.lard_law_settles.proofs.CourseRenewing.{Renews}
use Rattle.lard_law_settles.proofs.CourseTiming.{front-begins, node-begins}
use Rattle.lard_law_settles.proofs.CourseTimingClients.{IsTimed, client-begins}
use Rattle.lard_law_settles.proofs.CourseTimingHeld.{IsSpeaking, held-begins, here-begins, waits-clear}
use Rattle.lard_law_view.proofs.FirstSeen.{by-front-seen, by-node-seen}
use Rattle.lard_law_view.proofs.Deeds.{front-heads, node-heads}

-- What is known of a connection within a settle, whose client opened.
pub record KnowsTimers (k : Setting) (x : Conn) (st : Station) : Type 0 where
  pub renews : Renews k.files x
  pub timed : IsTimed x st
  pub held : (b : ControlBlock) (count : ℕ) → seat_of x.part ≡ Held b count → IsSpeaking st b
  pub here : (told : Bool) (n e : ℕ) (b : ControlBlock) → seat_of x.part ≡ Here told n e b (staying_of (x.part.nodes n)) → IsSpeaking st b
  pub waits : (b : ControlBlock) (count : ℕ) → seat_of x.part ≡ Waiting b count → is_clear b.send ≡ true

abbrev pub TimersKnown : Setting → Conn → Type 0
TimersKnown k x = (st : Station) → x.part.station ≡ Some st → KnowsTimers k x st

-- what each rule owes
abbrev pub Timed : Setting → (ℕ → Whole) → Conn → Move → Type 0
Timed k all x v = TimersKnown k x → Lasts k (all x.c) x v → Begins k (all x.c) x v

timer-place : (q p : Place) (c : ℕ) → event_seen (event.Timer q c) ≡ event_seen (event.Timer p c) → q ≡ p
timer-place q p c e = cc

-- what comes otherwise is no timer's
no-event : (p : Place) (c : ℕ) → [] ≡ event_seen (event.Timer p c) → ⊥
no-event p c e = cc

no-packet : (l : Letter) (ss : List Seen) (p : Place) (c : ℕ) → Came l ∷ ss ≡ event_seen (event.Timer p c) → ⊥
no-packet l ss p c e = cc

module _ (k : Setting) (all : ℕ → Whole) where
  client-timed : (x : Conn) (s : Station) (g : ClientGets) → x.part.station ≡ Some s → ClientComes k x s g → Timed k all x (client_goes x s g)
  client-timed x s ClientFires is comes known lasts p heads = λ first up.
      let kn = known s is in
      let here : IsFirst x.part (Client x.c) = subst (IsFirst x.part) (sym (timer-place (Client x.c) p x.c heads)) first in
      client-begins k (all x.c) x s is kn.renews kn.timed here lasts up
  client-timed x s (ClientReceives from bytes) is was known lasts p heads = absurd (no-packet _ _ p x.c heads)
  client-timed x s _ is comes known lasts p heads = absurd cc

  clients : ClientRules k (Timed k all)
  clients = each-client k (Timed k all) (record { opens = λ x isn iss wnd mss rule none known lasts p heads. absurd cc; does = client-timed })

  -- of what comes to the front end and to a node, the timer alone
  fronts : FrontRules k (Timed k all)
  fronts = each-front k (Timed k all) (λ x env heads g of. by-front-seen x env heads (λ ss g. Timed k all x (front_does x ss (front_rule env x.part.front g)))
      (λ from bytes g was seen known lasts p e. absurd (no-packet _ _ p x.c (sym seen ∙ sym (front-heads x heads _) ∙ e)))
      (λ rung known lasts p e first up.
      let kn = known rung.station rung.there in
      let same = timer-place Front p x.c (sym (front-heads x (event_seen (event.Timer Front x.c)) (front_timer env x.part.front)) ∙ e) in
      let here : IsFirst x.part Front = subst (IsFirst x.part) (sym same) first in
      front-begins k (all x.c) x rung.station rung.there env kn.renews (held-begins k (all x.c) x rung.station rung.there kn.renews env of kn.held)
      (waits-clear k (all x.c) x rung.station rung.there kn.renews env kn.waits) here lasts up)
      (λ choice given turn known lasts p e. absurd (no-event p x.c e)) g)

  asides : (x : Conn) (n : ℕ) (a : Aside) → Timed k all x (stands x (Node n) (aside_seen n a) (aside_said k n x.c a))
  asides x n (each.Brings from epoch r path) known lasts p e = absurd (no-event p x.c e)
  asides x n _ known lasts p e = absurd (no-packet _ _ p x.c e)

  nodes : NodeRules k (Timed k all)
  nodes = each-node k (Timed k all) (record {
    does = λ x n epoch env heads g of in_its. by-node-seen x n epoch heads (λ ss g. Timed k all x (node_goes x n env ss g))
        (λ from bytes g seen known lasts p e. absurd (no-packet _ _ p x.c (sym seen ∙ sym (node-heads x n heads _) ∙ e)))
        (λ fired known lasts p e first up.
        let kn = known fired.station fired.there in
        let same = timer-place (Node n) p x.c (sym (node-heads x n (event_seen (event.Timer (Node n) x.c)) (node_timer env (x.part.nodes n))) ∙ e) in
        let here : IsFirst x.part (Node n) = subst (IsFirst x.part) (sym same) first in
        node-begins k (all x.c) x fired.station fired.there n env kn.renews
        (here-begins k (all x.c) x fired.station fired.there kn.renews n epoch env of (λ told e b. kn.here told n e b)) here lasts up)
        (λ g known lasts p e. absurd (no-event p x.c (sym (node-heads x n [] _) ∙ e))) g;
    aside = λ x n a allowed. asides x n a;
  })

  -- the rules that leave a connection untouched
  pub rules-begin : UntouchedRules k (Timed k all)
  rules-begin = record { client = clients; front = fronts; node = nodes; ignores = λ x from to bytes h known lasts p heads. absurd (no-packet _ _ p x.c heads) }
