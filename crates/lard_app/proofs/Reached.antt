-- What the laws of the machine say of every state that a replay comes to.
use Rattle.std.proofs.Common.{◌≡◌, ℕ, false, not, List, [], length, Option, Some, None, IsSome, Ok, refl, sym, ap, ◌∙◌, subst, append-nil}
use Rattle.std.specs.FinMap as table
use Rattle.std.specs.List.{filter, fold}
use Rattle.lard_law_view.specs.Prelude.{ClientStands, Config, Machine, NodeState, Packet, Rec, Station, Tally, answered_bytes, answered_step, bytes_in, bytes_step, client_of, client_tale, config_check, conn, is_lost, is_node_closed, lost_in, lost_step, node_at, node_closed_step, numbers, numbers_of, numbers_step, own, packet_at, packet_bytes, part_of, sent_count, sent_step, tale}
use Rattle.lard_laws.proofs.ClientsTables.{client_at, clients-folded}
use Rattle.lard_laws.proofs.ClientsWriters.{clients-stand}
use Rattle.lard_laws.proofs.StepsLinking.{IsLinked, reached-linked}
use Rattle.lard_law_connections.proofs.PolicyCounted.{books-are-told, loads-are-charges}
use Rattle.lard_law_connections.proofs.StoresStored.{jobs-told}
use Rattle.lard_counts.specs.Stores.{jobs, jobs_step, no_jobs}
use Rattle.lard_law_settles.proofs.Few.{config-is}
use Rattle.lard_law_view.proofs.Carried.{reached-viewed}
use Rattle.lard_history.proofs.Tales.{numbers-tale}
use Rattle.lard_settling.specs.Written.{IsWrittenOut, written_out}
use Rattle.lard_settling.proofs.Folds.{TakesSteps, fold-written}

-- what the state keeps is what the journal says
pub record Told (m : Machine) : Type 0 where
  pub sent : sent_count m.journal ≡ length m.net
  pub bytes : packet_bytes m.journal ≡ bytes_in m.net
  pub answered : answered_bytes m.journal ≡ m.answered
  pub lost : (k : ℕ) (p : Packet) → packet_at m.net k ≡ Some p → is_lost m.journal k ≡ p.lost
  pub opened : (c : ℕ) (x : Station) → table.get m.clients c ≡ Some x → IsSome (numbers_of m.journal c)
  pub unopened : (c : ℕ) → table.get m.clients c ≡ None → numbers_of m.journal c ≡ None
  pub nodes : length m.nodes ≡ m.config.nodes
  pub jobs : (n : ℕ) (s : NodeState) → node_at m.nodes n ≡ Some s → length (jobs m.journal n) ≡ length s.disk
  pub clients : (c : ℕ) → client_of c (own c (written_out m.journal)) ≡ client_at (table.get m.clients c)
  pub open_nodes : m.front.dispatch.books.loads.open_nodes ≡ filter (λ n. not (is_node_closed m.journal n)) (numbers m.config.nodes)

-- ---- of a journal with settles

module _ (config : Config) (files : List (List ℕ × List ℕ)) (m : Machine) (w : IsWrittenOut config files m) where
  -- a fold that takes inner steps for events says the same of the journal of the run without settles
  pub same-of : {A : Type 0} (step : A → Rec → A) → TakesSteps step → (a : A) → fold step a m.journal ≡ fold step a w.plain.journal
  same-of step takes a = sym (ap (fold step a) w.journal ∙ fold-written step takes a 0 m.journal)

  is-kept : {A : Type 0} (part : Machine → A) → part m ≡ part (record w.plain { journal = m.journal; events = m.events })
  is-kept part = ap part w.same

  linked : IsLinked w.plain
  linked = reached-linked config files w.plain w.reached

  -- the client that is kept stands as is told of it
  stands : (c : ℕ) (o : Option Station) → table.get m.clients c ≡ o → ClientStands c o (client_tale (tale w.plain.journal c))
  stands c o at = subst (λ o. ClientStands c o (client_tale (tale w.plain.journal c))) (sym (is-kept (λ q. table.get q.clients c)) ∙ at) (clients-stand config files w.plain w.reached c)

  numbers-told : (c : ℕ) → numbers_of m.journal c ≡ (tale w.plain.journal c).numbers
  numbers-told c = same-of (numbers_step c) (record { events = λ a i k e. refl; inner = λ a i e. refl; settles = λ a i r. refl; settled = λ a r. refl; unsettled = λ a r l. refl }) None ∙ numbers-tale w.plain.journal c

  client-told : (c : ℕ) → client_of c (own c (written_out m.journal)) ≡ client_at (table.get m.clients c)
  unfolding conn part_of
  client-told c =
      let folded : client_of c (own c w.plain.journal) ≡ client_at (table.get w.plain.clients c) = clients-folded config files w.plain w.reached c in
      sym (ap (λ J. client_of c (own c J)) w.journal) ∙ folded ∙ sym (ap client_at (is-kept (λ q. table.get q.clients c)))

  closed-told : (n : ℕ) → is_node_closed w.plain.journal n ≡ is_node_closed m.journal n
  closed-told n =
      sym (same-of (node_closed_step n) (record { events = λ a i k e. refl; inner = λ a i e. refl; settles = λ a i r. refl; settled = λ a r. refl; unsettled = λ a r l. refl }) false)

  nodes-are : config.nodes ≡ m.config.nodes
  nodes-are = ap (λ (c : Config). c.nodes) (sym (config-is config files w.plain w.reached)) ∙ sym (is-kept (λ k. k.config.nodes))

  -- the front end's books have as open nodes those that were not closed
  open-told : config_check config ≡ Ok tt → m.front.dispatch.books.loads.open_nodes ≡ filter (λ n. not (is_node_closed m.journal n)) (numbers m.config.nodes)
  open-told checked =
      is-kept (λ k. k.front.dispatch.books.loads.open_nodes)
      ∙ ap (λ (t : Tally). t.open_nodes) (books-are-told config files w.plain checked w.reached).0
      ∙ (loads-are-charges config files w.plain checked w.reached w.plain.journal [] (sym (append-nil w.plain.journal))).2
      ∙ (λ i. filter (λ n. not (closed-told n i)) (numbers (nodes-are i)))

  pub written-told : config_check config ≡ Ok tt → Told m
  written-told checked = record {
    sent = same-of sent_step (record { events = λ a i k e. refl; inner = λ a i e. refl; settles = λ a i r. refl; settled = λ a r. refl; unsettled = λ a r l. refl }) 0 ∙ linked.is.sent ∙ sym (is-kept (λ k. length k.net));
    bytes = same-of bytes_step (record { events = λ a i k e. refl; inner = λ a i e. refl; settles = λ a i r. refl; settled = λ a r. refl; unsettled = λ a r l. refl }) 0 ∙ linked.is.bytes ∙ sym (is-kept (λ k. bytes_in k.net));
    answered = same-of answered_step (record { events = λ a i k e. refl; inner = λ a i e. refl; settles = λ a i r. refl; settled = λ a r. refl; unsettled = λ a r l. refl }) 0 ∙ linked.bytes ∙ sym (is-kept (λ k. k.answered));
    lost = λ k p at. same-of (lost_step k) (record { events = λ a i j e. refl; inner = λ a i e. refl; settles = λ a i r. refl; settled = λ a r. refl; unsettled = λ a r l. refl }) false ∙ linked.is.lost k ∙ ap lost_in (sym (is-kept (λ q. packet_at q.net k)) ∙ at);
    opened = λ c x at. subst (λ n. IsSome n) (sym (numbers-told c ∙ (stands c (Some x) at).numbers)) refl;
    unopened = λ c at. numbers-told c ∙ (stands c None at).numbers;
    nodes = is-kept (λ k. length k.nodes) ∙ (reached-viewed config files w.plain w.reached).nodes ∙ sym (is-kept (λ k. k.config.nodes));
    jobs = λ n s at. ap (λ q. length q.list) (same-of (jobs_step n) (record { events = λ a i k e. refl; inner = λ a i e. refl; settles = λ a i r. refl; settled = λ a r. refl; unsettled = λ a r l. refl }) no_jobs) ∙ (jobs-told config files w.plain w.reached n s (sym (is-kept (λ q. node_at q.nodes n)) ∙ at)).1;
    clients = client-told;
    open_nodes = open-told checked;
  }
