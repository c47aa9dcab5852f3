-- A packet that is near leads further: by what its connection sends, or, where it is a Fetch, by a content or a job.
use Rattle.std.proofs.Common.{[], ◌∷◌, ◌+◌, ◌≡◌, ◌≢◌, ◌≤◌, ◌==◌, ◌&&◌, ℕ, suc, true, false, List, length, Option, Some, None, Result, Ok, Err, inl, inr, refl, sym, ap, ◌∙◌, subst, arith, eqb-true, is_some}
use Rattle.std.specs.Prelude.{◌⊎◌}
use Rattle.std.proofs.lemmas.Bool.{and_parts}
use Rattle.std.proofs.lemmas.Bool.Decides.{nat_tests}
use Rattle.lard_law_view.specs.Prelude.{Client, Dir, FilesAt, Front, Has, IsConnNumber, IsMessage, IsViewed, Job, Letter, Machine, Message, Node, NodeState, Out, Packet, Place, Said, SegFault, SpellsMessage, ToClient, ToCluster, Was, conn, conn_of, content_bytes, decoded, decoded_message, fetched, file_at, is_for, is_no_node, letter_of, letters, machine_step, node_at, node_gave, node_gets, node_setting, packet_at, packet_of, part_of}
use Rattle.lard_base.specs.declared.event.Event.TheVariants as event
use Rattle.lard_bound.specs.Nears.{IsWanted, JobNear, NearAside, NearBetween, NearSaid, NearSegment, NearTold, NearWord, OfMessage, OfSegment}
use Rattle.lard_bound.specs.Progress.{IsFetch, NearAt, NearOn, spot_at}
use Rattle.lard_bound.specs.Seats.{seat_of}
use Rattle.lard_bound.specs.Spots.{Spot}
use Rattle.lard_bound.specs.Units.{Whole}
use Rattle.lard_law_view.proofs.Naming.{decoded-names}
use Rattle.lard_law_view.proofs.Nothing.{node-there}
use Rattle.lard_law_settles.specs.CourseGame.{JobNearOn, game}
use Rattle.lard_law_settles.proofs.CourseApart.{no-message}
use Rattle.lard_law_settles.proofs.CourseFetching.{Fetches, IsHome, Outcome, Queued, Queues, Sent, content-nearer, content_of, delivered-to, gave-sends, gave-state, outcome, spot-home}
use Rattle.lard_law_settles.proofs.CourseGoing.{IsPlain}
use Rattle.lard_history.proofs.Seeing.{has-letter}
use Rattle.lard_journal.specs.declared.rec.Rec.TheVariants as rec
use Rattle.lard_message.specs.declared.message.Body.TheVariants as body
use Rattle.lard_rules.specs.Node.{message}
use Rattle.lard_rounds.specs.Rounds.{JobNearer, Nearer}

-- a node in the range is one that there is
in-range : (count n : ℕ) → 1 ≤ n → n ≤ count → is_no_node count n ≡ false
in-range count n some within = grind (arith, nat_tests, some, within)

-- a Fetch that is near goes from the node that awaits its content to one that has the file
pub record IsAsked (files : FilesAt) (t : Spot) (d e r : ℕ) (path : List ℕ) (from to : Place) : Type 0 where
  pub a : ℕ
  pub b : ℕ
  pub home : from ≡ Node a
  pub goal : to ≡ Node b
  pub wanted : IsWanted a e b r t.post
  pub file : is_some (files path) ≡ true
  pub two : 2 ≤ d

module _ (files : FilesAt) (t : Spot) (q d c e r : ℕ) (path : List ℕ) (l : Letter) (spells : decoded_message l.bytes ≡ Ok (record { c = c; epoch = record { 0 = e }; body = body.Fetch r path })) where
  abbrev mine : Message
  mine = record { c = c; epoch = record { 0 = e }; body = body.Fetch r path }

  -- no segment is one
  no-segment : (dir : Dir) (P : Said → Type 0) (o : Result Said SegFault) → decoded l.bytes q dir ≡ o → OfSegment P o → ⊥
  no-segment dir P (Err fault) is h = h
  no-segment dir P (Ok s) is h = no-message l.bytes q dir s mine is spells

  of-message : (P : Message → Type 0) → OfMessage P (decoded_message l.bytes) → P mine
  of-message P h = subst (OfMessage P) spells h

  asked : (from to : Place) → NearBetween files t q d from to l → IsAsked files t d e r path from to
  asked (Node a) (Node b) h =
      let near : NearAside files t d a b e (body.Fetch r path) = of-message (λ m. NearAside files t d a b m.epoch.0 m.body) h in
      record { a = a; b = b; home = refl; goal = refl; wanted = near.0; file = near.1; two = near.2 }
  asked (Client b) Front h = absurd (no-segment ToCluster (λ s. NearWord t d s t.post) (decoded l.bytes q ToCluster) refl h)
  asked Front (Client b) h = absurd (no-segment ToClient (λ s. NearSegment t d s t.post) (decoded l.bytes q ToClient) refl h)
  asked (Node a) (Client b) h = absurd (no-segment ToClient (λ s. NearSegment t d s t.post) (decoded l.bytes q ToClient) refl h)
  asked Front (Node k) h = absurd (of-message (λ m. NearTold t q d k m.epoch.0 m.body) h)
  asked (Node k) Front h = absurd (of-message (λ m. NearSaid t d k m.epoch.0 m.body) h)
  asked Front Front h = absurd h
  asked (Client b) (Client k) h = absurd h
  asked (Client b) (Node k) h = absurd h

some-is : (c q : ℕ) → Some c ≡ Some q → c ≡ q
some-is c q e = cc

is-for : (c e r : ℕ) (job : Job) → is_for c e r job ≡ true → (job.c ≡ c) × (job.epoch.0 ≡ e) × (job.r ≡ r)
is-for c e r job t =
    let both = and_parts (job.c == c && job.epoch.0 == e) (job.r == r) t in
    let first = and_parts (job.c == c) (job.epoch.0 == e) both.0 in
    (eqb-true job.c c first.0, eqb-true job.epoch.0 e first.1, eqb-true job.r r both.1)

file-of : (o : Option (List ℕ)) → is_some o ≡ true → (file : List ℕ) × (o ≡ Some file)
file-of None e = absurd (let no : false ≡ true = e in cc)
file-of (Some file) e = (file, refl)

module _ (Good : Machine → Type 0) (all : ℕ → Whole) (m n : Machine) (plain : IsPlain m n) (view : IsViewed m) (facts : Fetches m)
    (spots : (q : ℕ) → IsConnNumber q → spot_at (file_at m.files) (conn n q) ≡ spot_at (file_at m.files) (conn m q)) where
  -- the spot behind the step
  spot-behind : (c : ℕ) → IsConnNumber c → (t : Spot) → spot_at (file_at m.files) (conn m c) ≡ Some t → spot_at (file_at n.files) (conn n c) ≡ Some t
  spot-behind c number t is = ap (λ f. spot_at (file_at f) (conn n c)) plain.files ∙ spots c number ∙ is

  -- a job that waits leads to one
  job-nearer : (b a c e r d : ℕ) (job : Job) (z : NodeState) → node_at n.nodes b ≡ Some z → Has job z.disk → job.c ≡ c → job.epoch.0 ≡ e → job.r ≡ r → job.origin ≡ a → IsConnNumber c → (t : Spot)
      → spot_at (file_at n.files) (conn n c) ≡ Some t → IsWanted a e b r t.post → a ≢ b → 2 ≤ d → JobNearer (game all Good) n d
  job-nearer b a c e r d job z at has is-c is-e is-r is-a number t spot wanted apart two =
      let near : JobNear (file_at n.files) t b d job = (
        subst (λ (i : ℕ). IsWanted i job.epoch.0 b job.r t.post) (sym is-a) (subst (λ (i : ℕ). IsWanted a i b job.r t.post) (sym is-e) (subst (λ (i : ℕ). IsWanted a e b i t.post) (sym is-r) wanted)),
        (λ same. apart (sym is-a ∙ same)),
        two,
      ) in
      let here : spot_at (file_at n.files) (conn n job.c) ≡ Some t = ap (λ (i : ℕ). spot_at (file_at n.files) (conn n i)) is-c ∙ spot in
      record { job = (b, job); waits = (z, at, has); leads = (subst (JobNearOn n (b, job) d) (sym here) near, subst IsConnNumber (sym is-c) number) }

  -- the node that is asked has it, or queues a job
  module _ (k q e r a b d : ℕ) (path file : List ℕ) (number : IsConnNumber q) (has_file : file_at m.files path ≡ Some file) (may : IsMessage (content_of q e r file)) (apart : a ≢ b) (two : 2 ≤ suc d)
      (t : Spot) (spot : spot_at (file_at m.files) (conn m q) ≡ Some t) (wanted : IsWanted a e b r t.post) (s : NodeState) (there : node_at m.nodes b ≡ Some s) where
    abbrev given : NodeState × Out
    given = fetched (node_setting m b) s a q e r path (Some file)

    part-home : IsHome (seat_of (part_of m q)) a e b r
    unfolding conn
    part-home = spot-home (file_at m.files) (conn m q) t a e b r spot wanted

    outcome-leads : n ≡ node_gave m (event.Deliver k) (rec.Got k ∷ []) b given → Outcome (node_setting m b) s a q e r path given → Nearer (game all Good) n (length m.net) d ⊎ JobNearer (game all Good) n (suc d)
    outcome-leads step (Queued job has for same) =
        let its = is-for q e r job for in
        let state : node_at n.nodes b ≡ Some s = ap (λ (x : Machine). node_at x.nodes b) step ∙ gave-state m b s there (event.Deliver k) (rec.Got k ∷ []) given ∙ ap Some same in
        let home : IsHome (seat_of (part_of m job.c)) a job.epoch.0 b r =
        subst (λ (i : ℕ). IsHome (seat_of (part_of m i)) a job.epoch.0 b r) (sym its.0) (subst (λ (i : ℕ). IsHome (seat_of (part_of m q)) a i b r) (sym its.1) part-home) in
        let origin = facts.origins b s job there has a b r home in
        inr (job-nearer b a q e r (suc d) job s state has its.0 its.1 its.2 origin number t (spot-behind q number t spot) wanted apart two)
    outcome-leads step (Sent none one) =
        let x : Place × List ℕ = (Node a, message q e (body.Content r file)) in
        let messages : given.1.messages ≡ x ∷ [] = one ∙ ap (λ (o : Option (List ℕ)). (Node a, message q e (body.Content r (content_bytes o))) ∷ []) has_file in
        let sent : packet_at n.net (length m.net + 1) ≡ Some (packet_of (Node b) x) =
        ap (λ (z : Machine). packet_at z.net (length m.net + 1)) step ∙ gave-sends m b s there (event.Deliver k) (rec.Got k ∷ []) given x none messages in
        inl (content-nearer Good all m n plain q e r a b d file number may t (spot-behind q number t spot) wanted (omega (arith, two)) sent)
    outcome-leads step (Queues has) =
        let state : node_at n.nodes b ≡ Some given.0 = ap (λ (x : Machine). node_at x.nodes b) step ∙ gave-state m b s there (event.Deliver k) (rec.Got k ∷ []) given in
        inr (job-nearer b a q e r (suc d) (record { origin = a; c = q; epoch = record { 0 = e }; r = r; path = path }) given.0 state has refl refl refl refl number t (spot-behind q number t spot) wanted apart two)

  module _ (k q : ℕ) (p : Packet) (at : packet_at m.net k ≡ Some p) (of : conn_of p.from p.to p.bytes ≡ Some q) (number : IsConnNumber q) (is : machine_step m (event.Deliver k) ≡ Ok n) (e r : ℕ) (path : List ℕ)
      (spells : SpellsMessage q e (body.Fetch r path) p.bytes) where
    was : (a b : ℕ) → p.from ≡ Node a → p.to ≡ Node b → Was (conn m q) (Node a) (Node b) p.bytes
    unfolding conn
    was a b from to = subst (λ (l : Letter). Has l (letters q m.net)) (λ i. record { from = from i; to = to i; bytes = p.bytes }) (has-letter q k m.net p at of)

    goals : (a b : ℕ) (t : Spot) → spot_at (file_at m.files) (conn m q) ≡ Some t → IsWanted a e b r t.post → (a ≢ b) × (1 ≤ b) × (b ≤ m.config.nodes)
    unfolding conn
    goals a b t spot wanted = facts.goals q a e b r (spot-home (file_at m.files) (conn m q) t a e b r spot wanted)

    fetch-leads : (d : ℕ) (t : Spot) → spot_at (file_at m.files) (conn m q) ≡ Some t → IsAsked (file_at m.files) t (suc d) e r path p.from p.to → Nearer (game all Good) n (length m.net) d ⊎ JobNearer (game all Good) n (suc d)
    fetch-leads d t spot asked =
        let a : ℕ = asked.a in
        let b : ℕ = asked.b in
        let goal = goals a b t spot asked.wanted in
        let s = node-there m.nodes m.config.nodes b view.nodes (in-range m.config.nodes b goal.1 goal.2) in
        let file = file-of (file_at m.files path) asked.file in
        let may = facts.contents q a b e r path file.0 p.bytes (was a b asked.home asked.goal) spells file.1 in
        let gets : node_gets (node_setting m b) s.0 p.from (decoded_message p.bytes) ≡ fetched (node_setting m b) s.0 a q e r path (Some file.0) =
        ap (node_gets (node_setting m b) s.0 p.from) spells ∙ ap (λ (x : Place). node_gets (node_setting m b) s.0 x (Ok (record { c = q; epoch = record { 0 = e }; body = body.Fetch r path }))) asked.home
        ∙ ap (fetched (node_setting m b) s.0 a q e r path) file.1 in
        let step : n ≡ node_gave m (event.Deliver k) (rec.Got k ∷ []) b (fetched (node_setting m b) s.0 a q e r path (Some file.0)) =
        delivered-to m n k b p s.0 at asked.goal s.1 is ∙ ap (node_gave m (event.Deliver k) (rec.Got k ∷ []) b) gets in
        outcome-leads k q e r a b d path file.0 number file.1 may goal.0 asked.two t spot asked.wanted s.0 s.1 step (outcome (node_setting m b) s.0 a q e r path file.0)

  -- what is near and a Fetch
  pub fetches-lead : (k q d : ℕ) (p : Packet) → packet_at m.net k ≡ Some p → conn_of p.from p.to p.bytes ≡ Some q → IsConnNumber q → machine_step m (event.Deliver k) ≡ Ok n → NearAt (file_at m.files) (conn m q) (suc d) (letter_of p) → IsFetch (letter_of p)
      → Nearer (game all Good) n (length m.net) d ⊎ JobNearer (game all Good) n (suc d)
  unfolding conn
  fetches-lead k q d p at of number is near (c, e, r, path, spells) = go (spot_at (file_at m.files) (conn m q)) refl near where
    go : (o : Option Spot) → spot_at (file_at m.files) (conn m q) ≡ o → NearOn (file_at m.files) o q (suc d) (letter_of p) → Nearer (game all Good) n (length m.net) d ⊎ JobNearer (game all Good) n (suc d)
    go None spot h = absurd h
    go (Some t) spot h =
        let ask = asked (file_at m.files) t q (suc d) c e r path (letter_of p) spells p.from p.to h in
        let names = decoded-names (record { c = c; epoch = record { 0 = e }; body = body.Fetch r path }) p.bytes spells in
        let named : conn_of p.from p.to p.bytes ≡ Some c = (λ i. conn_of (ask.home i) (ask.goal i) p.bytes) ∙ names.named in
        let same : c ≡ q = some-is c q (sym named ∙ of) in
        fetch-leads k q p at of number is e r path (spells ∙ ap (λ (i : ℕ). Ok (record { c = i; epoch = record { 0 = e }; body = body.Fetch r path })) same) d t spot ask
