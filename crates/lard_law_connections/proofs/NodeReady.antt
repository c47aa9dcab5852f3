-- What a connection that goes back is ready for: nothing that was read waits for its answer, a batch may be read, and the endpoint may freeze.
use Rattle.std.proofs.Common.{◌≡◌, ◌&&◌, Bool, true, false, cond, [], refl}
use Rattle.std.proofs.lemmas.Bool.{and_parts, both_ways}
use Rattle.lard_law_view.specs.Prelude.{NodeEnv, Work, is_to_read, may_freeze, may_give_back, may_read, next_of}
use Rattle.lard_rules.proofs.StayFalling.{none-left}
use Rattle.lard_rules.specs.declared.stay.Next.{Next}
use Rattle.lard_rules.specs.declared.stay.Next.TheVariants.{Read, Serve, Stop}
use Rattle.lard_rules.specs.Stay.{next_in}

pub record IsReady (env : NodeEnv) (w : Work) : Type 0 where
  pub leaves : env.leaving ≡ true
  pub none : w.batch ≡ []
  pub may : may_read w.service ≡ true
  pub freezes : may_freeze w.service.block ≡ true

reads-next : (n : Next) → is_to_read n ≡ true → n ≡ Read
reads-next Serve is = absurd (both_ways false refl is)
reads-next Read is = refl
reads-next Stop is = absurd (both_ways false refl is)

pub is-ready : (env : NodeEnv) (w : Work) → may_give_back env w ≡ true → IsReady env w
is-ready env w back = go (may_read w.service) refl reads where
  leaves : (env.leaving ≡ true) × ((is_to_read (next_of w) && may_freeze w.service.block) ≡ true)
  leaves = and_parts env.leaving (is_to_read (next_of w) && may_freeze w.service.block) back

  freezes : may_freeze w.service.block ≡ true
  freezes = (and_parts (is_to_read (next_of w)) (may_freeze w.service.block) leaves.1).1

  reads : is_to_read (next_of w) ≡ true
  reads = (and_parts (is_to_read (next_of w)) (may_freeze w.service.block) leaves.1).0

  go : (b : Bool) → may_read w.service ≡ b → is_to_read (cond b (next_in w.batch) Stop) ≡ true → IsReady env w
  go true may is = record { leaves = leaves.0; none = none-left w.batch (reads-next (next_in w.batch) is); may = may; freezes = freezes }
  go false may is = absurd (both_ways false refl is)
