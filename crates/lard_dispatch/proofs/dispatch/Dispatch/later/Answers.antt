-- The places are kept first, and then each path is assigned.
use Rattle.std.proofs.Common.{◌≡◌, ℕ, ◌++◌, true, List, Some, sym, subst, ◌∙◌, ap, arith}
use Rattle.std.specs.List.{AllByRecursion}
use Rattle.lard_loads.specs.Tally.{Tally, home, open_shares}
use Rattle.lard_sets.specs.Sets.{has_place}
use Rattle.lard_costs.specs.declared.later.LaterChoice.{LaterChoice}
use Rattle.lard_dispatch.specs.Books.{Books, Dispatcher}
use Rattle.lard_dispatch.specs.Calls.{after_later, all_choices, all_touched, batch_over, later_answer, unlined}
use Rattle.lard_dispatch.specs.Sound.{AreBefore, AreServedByNodes, IsNode, IsDispatcherSound}
use Rattle.lard_dispatch.proofs.Places.{all-there, later-books, later-choices, served-places}
use Rattle.lard_dispatch.proofs.Servers.{Sets}
use Rattle.lard_dispatch.proofs.Sharing.{home-ended, nodes-ended, shares-ended}
use Rattle.lard_dispatch.proofs.Soundness.{before-later, home-node, later-kept}
use Rattle.lard_dispatch.proofs.dispatch.Dispatch.later.Goals as goal

-- its node
at_home : (c : goal.After-choices-2-1) → home c.self.inside.loads c.args.ask.now.c ≡ Some c.args.ask.now.home
at_home c = ap (λ (d : Dispatcher). home d.books.loads c.args.ask.now.c) c.self.view_is ∙ c.requires.home

nodes : (c : goal.After-choices-2-1) → c.batch_over-over.new.self.nodes ≡ c.self.inside.config.nodes
nodes c = ap (λ (t : Tally). t.nodes) c.batch_over-over.ensures.after ∙ nodes-ended c.self.inside.loads c.args.ask.now.c ∙ c.self.invariant.1.nodes

places : (c : goal.After-choices-2-1) → c.keep_places.new.sets ≡ all_touched c.self.inside.sets c.args.ask.now.paths
places c = c.in_ok-keep_places.ensures.ok ∙ ap (all_touched c.self.inside.sets) c.as_slice-paths.ensures

pub share_all-requires-clause-home : goal.share_all-requires-clause-home
share_all-requires-clause-home c =
    ap (λ (t : Tally). home t c.args.ask.now.c) c.batch_over-over.ensures.after ∙ home-ended c.self.inside.loads c.args.ask.now.c ∙ at_home c

pub share_all-requires-clause-at_node : goal.share_all-requires-clause-at_node
share_all-requires-clause-at_node c =
    let node : IsNode c.self.inside.config.nodes c.args.ask.now.home = home-node c.self.inside.config.nodes c.self.inside.loads.standings c.args.ask.now.c c.args.ask.now.home c.self.invariant.1.at_nodes (at_home c) in
    let same = nodes c in
    omega (arith, node.1, same)

pub share_all-requires-clause-served : goal.share_all-requires-clause-served
share_all-requires-clause-served c =
    subst (λ (n : ℕ). AreServedByNodes n c.keep_places.new.sets) (sym (nodes c))
    (subst (AreServedByNodes c.self.inside.config.nodes) (sym (places c)) (served-places c.self.inside.config.nodes c.self.inside.sets c.args.ask.now.paths c.self.invariant.1.served))

pub share_all-requires-clause-places : goal.share_all-requires-clause-places
share_all-requires-clause-places c =
    subst (λ (s : Sets). AllByRecursion (λ p. has_place s p ≡ true) c.args.ask.now.paths) (sym (places c)) (all-there c.self.inside.sets c.args.ask.now.paths)

pub share_all-requires-clause-over : goal.share_all-requires-clause-over
share_all-requires-clause-over c = ap (λ (t : Tally). open_shares t c.args.ask.now.c) c.batch_over-over.ensures.after ∙ shares-ended c.self.inside.loads c.args.ask.now.c

-- ---- at the end

books : (c : goal.After-from_vec) → record { loads = c.share_all.new.loads; sets = c.share_all.new.sets; line = c.self.inside.line }
    ≡ (after_later (record { config = c.self.inside.config; books = record { loads = c.self.inside.loads; sets = c.self.inside.sets; line = c.self.inside.line } }) c.args.ask.now c.args.now).books
books c =
    later-books c.self.inside.config c.args.ask.now c.args.now (record { loads = c.self.inside.loads; sets = c.self.inside.sets; line = c.self.inside.line })
    c.batch_over-over.new.self c.share_all.new.loads c.keep_places.new.sets c.share_all.new.sets c.batch_over-over.ensures.after (c.in_ok-keep_places.ensures.ok ∙ ap (all_touched c.self.inside.sets) c.as_slice-paths.ensures) c.share_all.ensures.books

pub invariant_of-self-2 : goal.invariant_of-self-2
invariant_of-self-2 c =
    let old : Dispatcher = record { config = c.self.inside.config; books = record { loads = c.self.inside.loads; sets = c.self.inside.sets; line = c.self.inside.line } } in (
      c.self.invariant.0,
      subst (λ (b : Books). IsDispatcherSound (record { config = c.self.inside.config; books = b })) (sym (books c))
          (later-kept old c.args.ask.now c.args.now c.self.invariant.1 (ap (λ (d : Dispatcher). home d.books.loads c.args.ask.now.c) c.self.view_is ∙ c.requires.home)),
    )

pub returns-clause-answer : goal.returns-clause-answer
returns-clause-answer c =
    let old : Dispatcher = record { config = c.self.inside.config; books = record { loads = c.self.inside.loads; sets = c.self.inside.sets; line = c.self.inside.line } } in
    let chosen : c.from_vec.result ≡ all_choices c.self.inside.config c.args.ask.now c.args.now c.args.ask.now.paths (batch_over old.books c.args.ask.now) =
    c.from_vec.ensures ∙ c.share_all.ensures.choices ∙ ap (λ (cs : List LaterChoice). cs ++ all_choices c.self.inside.config c.args.ask.now c.args.now c.args.ask.now.paths (unlined c.batch_over-over.new.self c.keep_places.new.sets)) c.in_ok-choices.ensures.items
    ∙ later-choices c.self.inside.config c.args.ask.now c.args.now old.books c.batch_over-over.new.self c.keep_places.new.sets c.batch_over-over.ensures.after
    (c.in_ok-keep_places.ensures.ok ∙ ap (all_touched c.self.inside.sets) c.as_slice-paths.ensures) in
    ap (λ (cs : List LaterChoice). record { over = c.batch_over-over.result; choices = cs }) chosen
    ∙ ap (λ b. record { over = b; choices = all_choices c.self.inside.config c.args.ask.now c.args.now c.args.ask.now.paths (batch_over old.books c.args.ask.now) }) c.batch_over-over.ensures.open
    ∙ ap (λ (d : Dispatcher). later_answer d c.args.ask.now c.args.now) c.self.view_is

after : (c : goal.After-from_vec) → record { config = c.self.inside.config; books = record { loads = c.share_all.new.loads; sets = c.share_all.new.sets; line = c.self.inside.line } } ≡ after_later c.args.self.now c.args.ask.now c.args.now
after c =
    ap (λ (b : Books). record { config = c.self.inside.config; books = b }) (books c)
    ∙ ap (λ (d : Dispatcher). after_later d c.args.ask.now c.args.now) c.self.view_is

pub returns-clause-ok : goal.returns-clause-ok
returns-clause-ok c = after c

pub returns-clause-clock : goal.returns-clause-clock
returns-clause-clock c = subst (λ (d : Dispatcher). AreBefore c.args.now.0 d.books.sets) (sym (after c)) (before-later c.args.self.now c.args.ask.now c.args.now c.requires.clock)
