use Rattle.std.proofs.Common.{◌+◌, ◌-◌, ◌≤◌, length, vec_len, vec_capacity}
use Rattle.lard_dispatch.proofs.Sharing.{IsSharing}
use Rattle.lard_dispatch.proofs.dispatch.share_all.Given as goal

abbrev pub invariant-loop-path : goal.invariant-loop-path
invariant-loop-path l =
    IsSharing l.config l.ask l.now l.initial.loads l.initial.sets l.initial.choices.items l.path-index l.loads l.sets l.choices.items
    × (vec_len l.choices + (length l.ask.paths - l.path-index) ≤ vec_capacity l.choices)
