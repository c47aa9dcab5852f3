-- A share more, away from home.
use Rattle.std.proofs.Common.{◌≡◌, ◌+◌, ◌-◌, ◌/◌, ◌∷◌, ◌++◌, [], ℕ, Some, Option, true, false, nat_eq, length, arith, sym, ap, ◌∙◌}
use Rattle.std.proofs.Math.Nat.{div-le_self}
use Rattle.std.proofs.lemmas.List.{length-set}
use Rattle.lard_loads.specs.Running.{at_node}
use Rattle.lard_loads.specs.Slot.{is_home_at, shares_open_in}
use Rattle.lard_loads.specs.Tally.{Tally}
use Rattle.lard_loads.proofs.Batches.{HasHome, shared-away, shared-home}
use Rattle.lard_loads.proofs.Calls.{found_with, home_known, same_home, shares_known, sharing, standing-is}
use Rattle.lard_loads.proofs.Tallies.{load-most, seen_as}
use Rattle.lard_loads.proofs.loads.Loads.share.Goals as goal

pub returns-then-is_home : goal.returns-then-is_home
returns-then-is_home c =
    let home : HasHome c.index.result.now = home_known c.self.invariant c.at.ensures.within c.index.ensures c.self.view_is c.at.ensures.value c.requires.admitted in
    let at_home : nat_eq c.args.n home.node ≡ true = ap (λ (h : Option ℕ). is_home_at h c.args.n) (sym home.is) ∙ sym c.if-is_home.ensures in
    sym (shared-home c.args.self.now c.args.c c.args.n c.args.size home.node (shares_open_in c.index.result.now)
    (found_with c.self.invariant c.at.ensures.within c.index.ensures c.self.view_is c.at.ensures.value home.is) at_home)

pub push-requires : goal.push-requires
push-requires c =
    let home : HasHome c.index_mut.result.now = home_known c.self.invariant c.at-2.ensures.within c.index_mut.ensures.value c.self.view_is c.at-2.ensures.value c.requires.admitted in
    let known = shares_known c.self.invariant c.at-2.ensures.within c.index_mut.ensures.value c.self.view_is c.at-2.ensures.value home.is in
    let room = c.requires.room in
    record { room = omega (arith, known, room) }

pub raise-requires-clause-fits : goal.raise-requires-clause-fits
raise-requires-clause-fits c =
    let nodes : length c.self.inside.running ≡ c.args.self.now.nodes = ap (λ (t : Tally). t.nodes) c.self.view_is in
    let value = c.number-number.ensures.value in
    let some = c.number-number.ensures.range.0 in
    let node = c.requires.node in
    let running = c.self.invariant.running c.number-number.result some (omega (arith, nodes, value, node)) in
    let most = load-most c.self.invariant c.number-number.result in
    let part = div-le_self 840 c.args.size in
    omega (arith, running, most, part)

pub invariant_of-self : goal.invariant_of-self
invariant_of-self c =
    let home : HasHome c.index_mut.result.now = home_known c.self.invariant c.at-2.ensures.within c.index_mut.ensures.value c.self.view_is c.at-2.ensures.value c.requires.admitted in
    let nodes : length c.self.inside.running ≡ c.args.self.now.nodes = ap (λ (t : Tally). t.nodes) c.self.view_is in
    let value = c.number-number.ensures.value in
    let some = c.number-number.ensures.range.0 in
    let node = c.requires.node in
    sharing c.self.invariant c.at-2.ensures.within c.index_mut.ensures.value c.push.new.self (record { node = c.number-number.result; units = 840 / c.args.size })
    ((some, omega (arith, nodes, value, node)), div-le_self 840 c.args.size) home.is c.push.ensures.home c.push.ensures.shares c.raise.ensures

pub returns : goal.returns
returns c =
    let home : HasHome c.index_mut.result.now = home_known c.self.invariant c.at-2.ensures.within c.index_mut.ensures.value c.self.view_is c.at-2.ensures.value c.requires.admitted in
    let first : c.index.result.now.home ≡ Some home.node =
    same_home c.self.invariant c.at.ensures.within c.index.ensures c.self.view_is c.at.ensures.value
    ∙ sym (same_home c.self.invariant c.at-2.ensures.within c.index_mut.ensures.value c.self.view_is c.at-2.ensures.value) ∙ home.is in
    let away : nat_eq c.args.n home.node ≡ false = ap (λ (h : Option ℕ). is_home_at h c.args.n) (sym first) ∙ sym c.if-is_home.ensures in
    let shares : shares_open_in c.push.new.self ≡ shares_open_in c.index_mut.result.now ++ record { node = c.args.n; units = 840 / c.args.size } ∷ [] =
    c.push.ensures.shares ∙ ap (λ (k : ℕ). shares_open_in c.index_mut.result.now ++ record { node = k; units = 840 / c.args.size } ∷ []) c.number-number.ensures.value in
    seen_as c.self.invariant c.at-2.ensures.within c.index_mut.ensures.value c.push.new.self c.raise.new.self
    (ap length c.raise.ensures ∙ length-set c.self.inside.running (c.number-number.result - 1) (at_node c.self.inside.running c.number-number.result + 840 / c.args.size))
    c.self.view_is c.at-2.ensures.value (standing-is c.push.new.self (Some home.node) _ (c.push.ensures.home ∙ home.is) shares)
    ∙ sym (shared-away c.args.self.now c.args.c c.args.n c.args.size home.node (shares_open_in c.index_mut.result.now)
    (found_with c.self.invariant c.at-2.ensures.within c.index_mut.ensures.value c.self.view_is c.at-2.ensures.value home.is) away)
