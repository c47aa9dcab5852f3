-- No more requests are open than there is room for.
use Rattle.std.proofs.Common.{◌≡◌, ℕ, ◌+◌, ◌-◌, ◌<◌, ◌≤◌, Bool, true, false, cond, List, [], ◌∷◌, Option, Some, None, is_some, refl, ap, arith}
use Rattle.std.proofs.lemmas.Bool.Decides.{nat_tests}
use Rattle.std.specs.Cmp.{nat_cmp_total}
use Rattle.std.specs.FinMap as map
use Rattle.std.specs.FinMap.{FinMap, len-empty, len-insert, len-remove}
use Rattle.std.specs.Ordering.{nat_cmp}
use Rattle.lard_base.specs.declared.config.Config.{Config}
use Rattle.lard_base.specs.Config.{room_of}
use Rattle.lard_loads.specs.Tally.{Standing, admitted}
use Rattle.lard_policy.specs.declared.first.FirstChoice.{FirstChoice}
use Rattle.lard_lab.specs.declared.event.LabEvent.{LabEvent}
use Rattle.lard_lab.specs.declared.event.LabEvent.TheVariants.{Req, Done, Clock}
use Rattle.lard_lab.specs.declared.targets.Target.{Target}
use Rattle.lard_lab.specs.Desk.{desk_choice, is_desk_full}
use Rattle.lard_lab.specs.Lab.{State, lab_after, lab_filed, lab_opened, requested, requested_by}
use Rattle.lard_lab.specs.Laws.{RoomIsKept, lab_after_all, lab_with, with_files}
use Rattle.lard_lab.specs.Report.{File}
use Rattle.lard_lab.specs.Targets.{target_at}

pub record IsRoomy (cfg : Config) (s : State) : Type 0 where
  pub config : s.desk.config ≡ cfg
  pub within : admitted s.desk.loads ≤ room_of cfg

one-more : (m : FinMap nat_cmp Standing) (k : ℕ) (v : Standing) → map.len (map.insert m k v) ≤ map.len m + 1
one-more m k v = go (is_some (map.get m k)) (len-insert nat_cmp_total m k v) where
  go : (b : Bool) → map.len (map.insert m k v) ≡ cond b (map.len m) (map.len m + 1) → map.len (map.insert m k v) ≤ map.len m + 1
  go true e = omega (arith, e)
  go false e = omega (arith, e)

no-more : (m : FinMap nat_cmp Standing) (k : ℕ) → map.len (map.remove m k) ≤ map.len m
no-more m k = go (is_some (map.get m k)) (len-remove nat_cmp_total m k) where
  go : (b : Bool) → map.len (map.remove m k) ≡ cond b (map.len m - 1) (map.len m) → map.len (map.remove m k) ≤ map.len m
  go true e = omega (arith, e)
  go false e = omega (arith, e)

roomy-answered : (cfg : Config) (s : State) (path : List ℕ) (target : Target) (choice : FirstChoice) → IsRoomy cfg s → (full : Bool) → is_desk_full s.desk ≡ full → IsRoomy cfg (requested_by s path target (cond full None (Some choice)))
roomy-answered cfg s path target choice r true e = record { config = r.config; within = r.within }
roomy-answered cfg s path target choice r false e =
    let room : admitted s.desk.loads < room_of s.desk.config = grind (arith, nat_tests, e) in
    let same : room_of s.desk.config ≡ room_of cfg = ap room_of r.config in
    let more = one-more s.desk.loads.standings (s.desk.made + 1) (record { home = choice.node; shares = [] }) in
    record { config = r.config; within = omega (arith, room, same, more) }

roomy-requested : (cfg : Config) (s : State) (path : List ℕ) (o : Option Target) → IsRoomy cfg s → IsRoomy cfg (requested s path o)
roomy-requested cfg s path None r = r
roomy-requested cfg s path (Some target) r = roomy-answered cfg s path target (desk_choice s.desk path target) r (is_desk_full s.desk) refl

roomy-after : (cfg : Config) (s : State) (e : LabEvent) → IsRoomy cfg s → IsRoomy cfg (lab_after s e)
unfolding lab_after
roomy-after cfg s (Req path) r = roomy-requested cfg s path (target_at s.desk.targets path) r
roomy-after cfg s (Done i) r = let less = no-more s.desk.loads.standings i in let within = r.within in record { config = r.config; within = omega (arith, less, within) }
roomy-after cfg s (Clock ms) r = record { config = r.config; within = r.within }

roomy-all : (cfg : Config) (es : List LabEvent) (s : State) → IsRoomy cfg s → IsRoomy cfg (lab_after_all s es)
roomy-all cfg [] s r = r
roomy-all cfg (e ∷ es) s r = roomy-all cfg es (lab_after s e) (roomy-after cfg s e r)

roomy-files : (cfg : Config) (files : List File) (s : State) → IsRoomy cfg s → IsRoomy cfg (with_files s files)
roomy-files cfg [] s r = r
roomy-files cfg (f ∷ files) s r = roomy-files cfg files (lab_filed s f.0 f.1) (record { config = r.config; within = r.within })

pub room-kept : RoomIsKept
room-kept policy cfg files es =
    let none : map.len (map.empty {X = Standing} {R = nat_cmp}) ≡ 0 = len-empty nat_cmp Standing in
    (roomy-all cfg es (lab_with policy cfg files) (roomy-files cfg files (lab_opened policy cfg) (record { config = refl; within = omega (arith, none) }))).within
