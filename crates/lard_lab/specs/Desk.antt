-- Where each request of a trace goes: what the choices rest on, and what each event changes of it.
use Rattle.std.specs.Prelude.{ℕ, ◌+◌, ◌%◌, Bool, nat_le, List, [], Option, Some, None, is_some, refl, if◌then◌else◌}
use Rattle.std.specs.Coded.{Coded, code_by, coded×, coded_ℕ, coded_list}
use Rattle.lard_base.specs.contracts.config.Config as config
use Rattle.lard_base.specs.declared.config.Config.{Config}
use Rattle.lard_base.specs.contracts.ids.Millis as millis
use Rattle.lard_base.specs.declared.ids.Millis.{Millis}
use Rattle.lard_base.specs.Config.{room_of}
use Rattle.lard_loads.specs.Tally.{Tally, admitted, coded_tally, connected, home, released, tally_start}
use Rattle.lard_policy.specs.First.{first_choice, least_node, relieved}
use Rattle.lard_policy.specs.declared.first.FirstChoice.{FirstChoice}
use Rattle.lard_sets.specs.Sets.{with_member, without_member}
use Rattle.lard_sets.specs.declared.sets.ServerSet.{ServerSet}
use Rattle.lard_lab.specs.contracts.policy.Policy as policy
use Rattle.lard_lab.specs.declared.policy.Policy.{Policy}
use Rattle.lard_lab.specs.declared.policy.Policy.TheVariants.{Rr, Hash, Lard, LardR}
use Rattle.lard_lab.specs.contracts.targets.Target as target
use Rattle.lard_lab.specs.declared.targets.Target.{Target}
use Rattle.lard_lab.specs.Policy.{hash_of}
use Rattle.lard_lab.specs.Targets.{with_target}

-- What the choices rest on. A request counts as a connection of its number as long as it is open.
pub record Desk : Type 0 where
  pub policy : Policy
  pub config : Config
  pub time : Millis
  pub made : ℕ  -- how many requests were made, the full ones among them
  pub loads : Tally  -- the open ones at their nodes
  pub targets : List (List ℕ × Target)

abbrev pub coded_desk : Coded Desk
coded_desk = code_by _ (coded× policy.the_row.coded (coded× config.the_row.coded (coded× millis.the_row.coded (coded× coded_ℕ (coded× coded_tally (coded_list (coded× (coded_list coded_ℕ) target.the_row.coded)))))))
    (λ d. (d.policy, (d.config, (d.time, (d.made, (d.loads, d.targets))))))
    (λ p. record { policy = p.0; config = p.1.0; time = p.1.1.0; made = p.1.1.1.0; loads = p.1.1.1.1.0; targets = p.1.1.1.1.1 }) (λ _. refl)

-- no request and no file
abbrev pub desk_begun : Policy → Config → Desk
desk_begun policy cfg = record { policy = policy; config = cfg; time = record { 0 = 0 }; made = 0; loads = tally_start cfg.nodes; targets = [] }

-- ---- the policies

-- a choice that changes no server set
abbrev pub plain_choice : ℕ → FirstChoice
plain_choice n = record { node = n; add = None; remove = None }

-- Basic LARD: the target's server, unless that is overloaded. Where it has none, or it is, the least loaded node becomes its server.
abbrev pub served_by : Tally → Config → Option ℕ → ℕ
served_by t cfg None = least_node t
served_by t cfg (Some n) = relieved t cfg n

-- the choice for a request, after so many others
unfoldable pub choice_by : Policy → Config → Tally → Millis → ℕ → List ℕ → Target → FirstChoice
choice_by Rr cfg t now made path target = plain_choice (1 + made % cfg.nodes)
choice_by Hash cfg t now made path target = plain_choice (1 + hash_of path % cfg.nodes)
choice_by Lard cfg t now made path target = plain_choice (served_by t cfg target.server)
choice_by LardR cfg t now made path target = first_choice t target.set.members now target.set.modified cfg

-- as many requests are open as there is room for
abbrev pub is_desk_full : Desk → Bool
is_desk_full d = nat_le (room_of d.config) (admitted d.loads)

abbrev pub desk_choice : Desk → List ℕ → Target → FirstChoice
desk_choice d path target = choice_by d.policy d.config d.loads d.time d.made path target

-- where a request goes, which is nowhere where it is full
abbrev pub answer_at : Desk → List ℕ → Target → Option FirstChoice
answer_at d path target = if is_desk_full d then None else Some (desk_choice d path target)

-- ---- what a request changes

-- a node joins a set, if one does, and one leaves it
abbrev pub desk_joined : ServerSet → Option ℕ → Millis → ServerSet
desk_joined set None now = set
desk_joined set (Some n) now = record { members = with_member set.members n; modified = now }

abbrev pub desk_reduced : ServerSet → Option ℕ → Millis → ServerSet
desk_reduced set None now = set
desk_reduced set (Some n) now = record { members = without_member set.members n; modified = now }

-- what is kept of a target behind a choice for it
abbrev pub chosen_for : Target → FirstChoice → Millis → Target
chosen_for target choice now = record { size = target.size; server = Some choice.node; set = desk_reduced (desk_joined target.set choice.add now) choice.remove now }

abbrev pub desk_assigned : Desk → List ℕ → Target → FirstChoice → Desk
desk_assigned d path target choice = record d { made = d.made + 1; loads = connected d.loads (d.made + 1) choice.node; targets = with_target d.targets path (chosen_for target choice d.time) }

-- a full request has a number, and changes nothing else
abbrev pub request_passed_over : Desk → Desk
request_passed_over d = record d { made = d.made + 1 }

-- ---- what other events change

-- the request with a number is assigned and not done
abbrev pub is_request_open : Desk → ℕ → Bool
is_request_open d i = is_some (home d.loads i)

abbrev pub done_with : Desk → ℕ → Desk
done_with d i = record d { loads = released d.loads i }

abbrev pub later_by : Desk → ℕ → Desk
later_by d ms = record d { time = record { 0 = d.time.0 + ms } }
