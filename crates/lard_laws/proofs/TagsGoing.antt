-- In every run: Fetches go to nodes that are there, and so do connections.
use Rattle.std.proofs.Common.{◌≡◌, ℕ, false, true, List, Ok, subst, Bool}
use Rattle.lard_law_view.specs.Prelude.{Config, Conn, IsNode, IsUntouchedLaw, MayRestOn, OfEach, Setting, Untouched, config_check, conn, file_at, grown, is_row_at, part_of, setting, tale_at, with_leaving}
use Rattle.lard_law_connections.specs.Kept.{IsKeptByStage}
use Rattle.lard_law_connections.proofs.KeptRuns.{kept-law}
use Rattle.lard_law_connections.proofs.LeaversMoves.{SendersLeave}
use Rattle.lard_law_connections.proofs.LeaversSenders.{senders-leave}
use Rattle.lard_law_connections.proofs.PolicyCounted.{IsCounted, reached-counted}
use Rattle.lard_laws.proofs.TagsAgree.{Agreed, tags-name}
use Rattle.lard_laws.proofs.TagsChoices.{with-there}
use Rattle.lard_laws.proofs.TagsRuns.{connections-name-nodes, known-of}
use Rattle.lard_law_view.proofs.Carried.{carried-leaving}
use Rattle.lard_law_view.proofs.Guarded.{untouched-law, untouched-weaker}

module _ (config : Config) (files : List (List ℕ × List ℕ)) (checked : config_check config ≡ Ok tt) where
  abbrev N : ℕ → Type 0
  N = IsNode config.nodes

  -- all laws of a connection that the schedule did not touch
  pub each-agrees : OfEach config files (Untouched (Agreed N (file_at files)))
  each-agrees m r q untouched =
      let known = known-of config files checked m r q untouched in record {
        facts = known.facts;
        kept = known.kept;
        names = connections-name-nodes config files checked m r q untouched;
      }

  -- ---- where Fetches go

  abbrev Inv : Conn → Type 0
  Inv x = IsKeptByStage N (file_at files) x

  -- with what is known of it as long as it is untouched, where these nodes leave
  abbrev Now : (ℕ → Bool) → Conn → Type 0
  Now l x = Agreed N (file_at files) x × SendersLeave l x

  abbrev Given : (ℕ → Bool) → Conn → Type 0
  Given l x = Untouched (Now l) x

  going-law : (l : ℕ → Bool) → IsUntouchedLaw (with_leaving (setting config files) l) (Given l) Inv
  going-law l =
      let k : Setting = with_leaving (setting config files) l in
      let law = kept-law N k (Now l) (λ x now. (tags-name N (file_at files) x now.0, now.1)) in record {
        begins = law.begins;
        moves = untouched-weaker k (λ x v. MayRestOn (Now l) x → Inv x → Inv (grown x v)) (λ x v. MayRestOn (Given l) x → (tale_at x).touched ≡ false → Inv x → Inv (grown x v))
            (λ x v moves may untouched h. moves (record { number = may.number; sound = may.sound; given = may.given untouched }) h) law.moves.untouched;
      }

  -- each Fetch of a connection goes to a node that is there
  pub each-goes : OfEach config files (Untouched Inv)
  each-goes = carried-leaving config files Given (λ l. Untouched Inv) (λ m n e rule is x h. h) (λ l. untouched-law (with_leaving (setting config files) l) (Given l) Inv (going-law l))
      (λ m r q untouched. (each-agrees m r q untouched, senders-leave config files m r q))

  -- ---- where connections are

  -- the front end has a connection with a node that is there
  pub each-with : OfEach config files (λ x. (n e : ℕ) → is_row_at n e x.part.front.row ≡ true → N n)
  unfolding conn part_of
  each-with m r q n e at =
      let counted : IsCounted config m = reached-counted config files checked m r in
      subst (λ (c : Config). IsNode c.nodes n) counted.config_is (with-there m counted.sound q n e at)
