-- One more was entered, and after the last all were.
use Rattle.std.proofs.Common.{◌≡◌, ◌+◌, ◌≤◌, length, sym, ap, ◌∙◌, arith}
use Rattle.std.proofs.lemmas.List.{length_push}
use Rattle.lard_rules.specs.Stay.{starts_at, starts_one}
use Rattle.lard_stay.specs.Work.{stay_env_seen, work_seen}
use Rattle.lard_stay.proofs.Entering.{entered_more, next_at, sound_tagged, starts-more}
use Rattle.lard_stay.proofs.coming.tag.Goals as goal
use Rattle.lard_stay.proofs.coming.tag.Goals.{then-branch, else-branch}

pub loop-entry-preserved : goal.loop-entry-preserved
loop-entry-preserved c =
    let now = c.loop-entry in
    let env = stay_env_seen c.args.env.now in
    let b = c.args.endpoint.now in
    let nodes = c.args.nodes.now in
    let done = c.in_ok-start_named.field-0 in
    let left = c.in-Some.ensures.steps.0 in
    let few = ap length left in
    let n = length_push now.yielded c.in-Some.entry in
    let at : c.if-branch.at ≡ next_at done now.at = elim c.if-branch.branch [
      | then-branch w ↦ w.at-is ∙ ap (λ d. next_at d now.at) (sym w.if-branch.true)
      | else-branch w ↦ w.at-is ∙ ap (λ d. next_at d now.at) (sym w.if-branch.false)
    ] in
    let most : c.if-branch.at ≤ now.at + 1 = elim c.if-branch.branch [ then-branch w ↦ omega (arith, w.at-is) | else-branch w ↦ omega (arith, w.at-is) ] in record {
      tagged = ap (λ k. starts_at env nodes k (now.r + 1) c.next.new.self.rest.items (work_seen b c.start_named.new.work)) at
          ∙ starts-more env nodes now.at now.r c.in-Some.entry c.next.new.self.rest.items (work_seen b now.work) done (work_seen b c.start_named.new.work)
          (c.in_ok-start_named.ensures.started b ∙ ap (λ o. starts_one env o now.r c.in-Some.entry (work_seen b now.work)) c.node_at-node.ensures)
          ∙ ap (λ es. starts_at env nodes now.at now.r es (work_seen b now.work)) (sym left) ∙ now.invariant.tagged;
      count = omega (arith, n, few, now.invariant.count);
      all = entered_more (length now.yielded) _ _ now.work c.start_named.new.work n now.invariant.all c.in_ok-start_named.ensures.one;
      within = omega (arith, n, most, now.invariant.within);
      room = omega (arith, few, now.invariant.room);
    }

pub returns-clause-sound : goal.returns-clause-sound
returns-clause-sound c =
    sound_tagged c.args.endpoint.now c.args.work.now c.loop-entry.work (length c.loop-entry.yielded) c.replace-entries.new.dest
    (ap length (c.replace-entries.ensures.after ∙ c.new.ensures))
    (omega (arith, c.loop-entry.invariant.count, c.in-None.ensures.steps.0)) c.loop-entry.invariant.all c.requires
