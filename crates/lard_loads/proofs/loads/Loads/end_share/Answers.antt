-- The last share is closed, and its node has as much less; or there is none, and nothing is written.
use Rattle.std.proofs.Common.{◌-◌, true, false, List, length, set, ap, sym, subst, ◌∙◌}
use Rattle.std.proofs.lemmas.List.{length-set}
use Rattle.lard_loads.specs.declared.slot.Slot.{Slot}
use Rattle.lard_loads.specs.Loads.{IsTallied, tally_of}
use Rattle.lard_loads.specs.Running.{at_node}
use Rattle.lard_loads.specs.Slot.{shares_open_in}
use Rattle.lard_loads.proofs.Batches.{EndsShare, HasHome, ends_none, ends_share}
use Rattle.lard_loads.proofs.Calls.{home_known, last_in_range, now_short, share_there, standing-is, unsharing}
use Rattle.lard_loads.proofs.Tallies.{found_in, kept, seen_as}
use Rattle.lard_loads.proofs.loads.Loads.end_share.Goals as goal

-- ---- no share is open

pub invariant_of-self : goal.invariant_of-self
invariant_of-self c = subst (λ (slots : List Slot). IsTallied c.self.inside.running c.self.inside.open_nodes slots c.self.inside.admitted)
    (sym (kept c.self.invariant c.at.ensures.within c.index_mut.ensures.value c.in_default.ensures.same)) c.self.invariant

none : (c : goal.In_default) → EndsShare c.args.self.now (tally_of (length c.self.inside.running) c.self.inside.open_nodes (set c.self.inside.slots.items c.at.result c.pop.new.self)) c.args.c false
none c =
    let home : HasHome c.index_mut.result.now = home_known c.self.invariant c.at.ensures.within c.index_mut.ensures.value c.self.view_is c.at.ensures.value c.requires.admitted in
    ends_none c.args.self.now _ c.args.c home.node
    (found_in c.self.invariant c.at.ensures.within c.index_mut.ensures.value c.self.view_is c.at.ensures.value ∙ standing-is c.index_mut.result.now _ _ home.is c.in_default.ensures.none)
    (ap (tally_of (length c.self.inside.running) c.self.inside.open_nodes) (kept c.self.invariant c.at.ensures.within c.index_mut.ensures.value c.in_default.ensures.same) ∙ c.self.view_is)

pub returns-in_default-clause-open : goal.returns-in_default-clause-open
returns-in_default-clause-open c = (none c).was_open

pub returns-in_default-clause-fewer : goal.returns-in_default-clause-fewer
returns-in_default-clause-fewer c = (none c).fewer

-- ---- a share is closed

pub lower-requires-clause-some : goal.lower-requires-clause-some
lower-requires-clause-some c =
    let home : HasHome c.index_mut.result.now = home_known c.self.invariant c.at.ensures.within c.index_mut.ensures.value c.self.view_is c.at.ensures.value c.requires.admitted in
    (last_in_range c.self.invariant c.at.ensures.within c.index_mut.ensures.value c.pop.new.self c.in-Some.share home.is c.pop.ensures.home c.in-Some.ensures.last).0.0

pub lower-requires-clause-most : goal.lower-requires-clause-most
lower-requires-clause-most c =
    let home : HasHome c.index_mut.result.now = home_known c.self.invariant c.at.ensures.within c.index_mut.ensures.value c.self.view_is c.at.ensures.value c.requires.admitted in
    (last_in_range c.self.invariant c.at.ensures.within c.index_mut.ensures.value c.pop.new.self c.in-Some.share home.is c.pop.ensures.home c.in-Some.ensures.last).0.1

pub lower-requires-clause-there : goal.lower-requires-clause-there
lower-requires-clause-there c =
    let home : HasHome c.index_mut.result.now = home_known c.self.invariant c.at.ensures.within c.index_mut.ensures.value c.self.view_is c.at.ensures.value c.requires.admitted in
    share_there c.self.invariant c.at.ensures.within c.index_mut.ensures.value c.pop.new.self c.in-Some.share home.is c.pop.ensures.home c.in-Some.ensures.last

pub invariant_of-self-2 : goal.invariant_of-self-2
invariant_of-self-2 c =
    let home : HasHome c.index_mut.result.now = home_known c.self.invariant c.at.ensures.within c.index_mut.ensures.value c.self.view_is c.at.ensures.value c.requires.admitted in
    unsharing c.self.invariant c.at.ensures.within c.index_mut.ensures.value c.pop.new.self c.in-Some.share home.is c.pop.ensures.home c.in-Some.ensures.last c.lower.ensures

fewer : (c : goal.After-lower) → EndsShare c.args.self.now (tally_of (length c.lower.new.self) c.self.inside.open_nodes (set c.self.inside.slots.items c.at.result c.pop.new.self)) c.args.c true
fewer c =
    let home : HasHome c.index_mut.result.now = home_known c.self.invariant c.at.ensures.within c.index_mut.ensures.value c.self.view_is c.at.ensures.value c.requires.admitted in
    ends_share c.args.self.now _ c.args.c home.node (shares_open_in c.pop.new.self) c.in-Some.share
    (found_in c.self.invariant c.at.ensures.within c.index_mut.ensures.value c.self.view_is c.at.ensures.value ∙ standing-is c.index_mut.result.now _ _ home.is c.in-Some.ensures.last)
    (seen_as c.self.invariant c.at.ensures.within c.index_mut.ensures.value c.pop.new.self c.lower.new.self
    (ap length c.lower.ensures ∙ length-set c.self.inside.running (c.in-Some.share.node - 1) (at_node c.self.inside.running c.in-Some.share.node - c.in-Some.share.units))
    c.self.view_is c.at.ensures.value (now_short c.self.invariant c.at.ensures.within c.index_mut.ensures.value c.pop.new.self c.in-Some.share home.is c.pop.ensures.home c.in-Some.ensures.last))

pub returns-clause-open : goal.returns-clause-open
returns-clause-open c = (fewer c).was_open

pub returns-clause-fewer : goal.returns-clause-fewer
returns-clause-fewer c = (fewer c).fewer

pub returns-clause-others : goal.returns-clause-others
returns-clause-others c = (fewer c).others

pub returns-clause-admitted : goal.returns-clause-admitted
returns-clause-admitted c = (fewer c).stays
