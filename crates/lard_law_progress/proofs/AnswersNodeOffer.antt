-- What comes of an Offer: one that is new is a unit, taken or refused, and one that was decided is answered so again.
use Rattle.std.proofs.Common.{◌≡◌, ◌≤◌, ◌==◌, ◌⊎◌, nat_lt, ◌&&◌, ℕ, suc, Bool, true, false, cond, List, [], ◌∷◌, Option, Some, None, inl, inr, refl, sym, ap, ◌∙◌, subst, arith}
use Rattle.std.proofs.lemmas.Bool.{both_ways, cond-true, eq-eqb, eqb-true}
use Rattle.std.proofs.lemmas.Bool.Decides.{nat_tests}
use Rattle.lard_law_view.specs.Prelude.{Adopt, BackRow, Conn, Ending, EndpointParts, Epoch, FilesAt, Front, FrontRow, IsMessage, IsNodeEnv, Letter, Message, Node, NodeEnv, NodePart, Part, Place, Setting, SpellsMessage, Station, Was, Work, front_rest, is_gone, kept_after, kept_refused, node_offered, node_rests, node_saying, offer_answer, offer_decision, offered_by, refused_sent, serving_settled, speaks, taken_sent, with_node}
use Rattle.lard_bound.specs.Chains.{chain, front_chain, of_message}
use Rattle.lard_bound.specs.Nears.{IsUnaware, Near, NearOffer, NearRefused, NearSaid, NearTaken, NearTold, OfMessage}
use Rattle.lard_bound.specs.Seats.{Gone, Here, Offered, Refused, Returned, SeatNow, seat_of}
use Rattle.lard_bound.specs.Spots.{AtNode, Declined, GaveBack, Left, OnOffer, Post, Spot, awaits_of, ends_of, post_of, spot_of}
use Rattle.lard_bound.specs.Seats as seats
use Rattle.lard_bound.specs.Units.{Whole}
use Rattle.lard_handoff_back.specs.declared.row.BackConn.TheVariants as back
use Rattle.lard_handoff_back.specs.declared.table.Adopt.TheVariants as adopt
use Rattle.lard_handoff_back.specs.Leaving.{is_this_epoch}
use Rattle.lard_handoff_back.specs.Table.{Beside}
use Rattle.lard_handoff_front.specs.declared.row.FrontConn.TheVariants as stage
use Rattle.lard_message.specs.declared.message.Body.TheVariants as body
use Rattle.lard_message.proofs.Whole.{spelled_so}
use Rattle.lard_rules.specs.Node.{message}
use Rattle.lard_rules.specs.Node as node
use Rattle.lard_law_progress.proofs.AnswersForm.{Replies}
use Rattle.lard_law_progress.proofs.AnswersMessages.{answer-chain, answer-may, answer-near, answer_body, answer_letter, of_conn}
use Rattle.lard_law_progress.proofs.AnswersNodeDeeds.{OwesBy, does-owes, drops-owes, says-owes}
use Rattle.lard_law_progress.proofs.AnswersNodeGiven.{NodeGiven}
use Rattle.lard_law_progress.proofs.AnswersNodeSeats.{Sits, seat-sits}
use Rattle.lard_law_progress.proofs.AnswersNodeStill.{post-is}
use Rattle.lard_law_progress.proofs.Away.{IsWith, away-here, away-over, by-ending, seat-put, seat-with}
use Rattle.lard_law_progress.proofs.Given.{IsAt}
use Rattle.lard_law_progress.proofs.NodeMessages.{new-row}
use Rattle.lard_law_progress.proofs.NodeRules.{taking}
use Rattle.lard_rules.proofs.NodeCases.{decision-new}
use Rattle.lard_rules.specs.declared.places.Ending.TheVariants as ending

-- ---- what an Offer comes to, by what the node decided before

abbrev pub decides : Bool → Part → ℕ → ℕ → Adopt
decides leaving p n e = offer_decision leaving e (p.nodes n).row (p.nodes n).beside

-- a connection that is unknown to the node
abbrev of_new : Bool → Adopt
of_new leaving = cond leaving adopt.Refuse adopt.New

unknown : (leaving : Bool) (e : ℕ) (row : Option BackRow) (b : Beside) → row ≡ None → b.refused ≡ None → offer_decision leaving e row b ≡ of_new leaving
unknown leaving e row b none open_ = λ i. offer_decision leaving e (none i) (record { refused = open_ i; returned = b.returned })

-- one that it took in this epoch, or refused
abbrev of_again : Bool → Adopt
of_again true = adopt.Again
of_again false = adopt.Refuse

not-less : (a b : ℕ) → a ≡ b → nat_lt a b ≡ false
not-less a b same = grind (arith, nat_tests, same)

known-taken : (leaving : Bool) (e : ℕ) (row : BackRow) (b : Beside) → row.epoch.0 ≡ e → b.refused ≡ None → offer_decision leaving e (Some row) b ≡ adopt.Again
known-taken leaving e row b same open_ =
    (λ i. offer_decision leaving e (Some row) (record { refused = open_ i; returned = b.returned }))
    ∙ (λ i. cond (not-less row.epoch.0 e same i && true) (cond leaving adopt.Refuse (cond (is_gone row.stage) adopt.New adopt.Stale))
    (cond (eq-eqb row.epoch.0 e same i && true) adopt.Again adopt.Stale))

known-refused : (leaving : Bool) (e : ℕ) (row : Option BackRow) (b : Beside) → row ≡ None → is_this_epoch e b.refused ≡ true
    → offer_decision leaving e row b ≡ adopt.Refuse
known-refused leaving e row b none is = (λ i. offer_decision leaving e (none i) b) ∙ go b.refused is where
  go : (o : Option Epoch) → is_this_epoch e o ≡ true → offer_decision leaving e None (record { refused = o; returned = b.returned }) ≡ adopt.Refuse
  go None t = absurd (both_ways false refl t)
  go (Some d) t =
      let below : nat_lt d.0 e ≡ false = not-less d.0 e (eqb-true d.0 e t) in
      (λ i. cond (below i) (of_new leaving) (cond (t i && true) adopt.Refuse adopt.Stale))

-- what answers it leads to a unit
abbrev NearAnswer : Bool → ℕ → ℕ → ℕ → Post → Type 0
NearAnswer true d n e z = NearTaken d e z
NearAnswer false d n e z = NearRefused d n e z

-- It is unknown to the node, or decided, and the answer is near.
abbrev IsUnmet : Bool → Part → ℕ → ℕ → Post → Type 0
IsUnmet leaving p n e z = (z ≡ OnOffer n e) × IsAt p.front n e × ((p.nodes n).row ≡ None) × (decides leaving p n e ≡ of_new leaving)

abbrev IsMet : Bool → Part → ℕ → ℕ → ℕ → Post → Type 0
IsMet leaving p d n e z = IsUnmet leaving p n e z ⊎ ((takes : Bool) × (decides leaving p n e ≡ of_again takes) × NearAnswer takes d n e z)

module _ (leaving : Bool) (files : FilesAt) (p : Part) (st : Station) (n e : ℕ)
    (fresh : (n e count : ℕ) → seat_of p ≡ Offered n e count → ((p.nodes n).row ≡ None) × ((p.nodes n).beside.refused ≡ None))
    (once : (n : ℕ) (row : BackRow) → (p.nodes n).row ≡ Some row → (p.nodes n).beside.refused ≡ None) where
  unaware : (told : Bool) (d : ℕ) → IsUnaware told (suc d) → (told ≡ false) × (1 ≤ d)
  unaware true d h = absurd h
  unaware false d h = let two : 2 ≤ suc d = h in (refl, omega (arith, two))

  -- it was taken: it is there, it ended, or is given back
  taken : (d : ℕ) (post : Bool → Post) → (1 ≤ d → NearTaken d e (post false)) → (told : Bool) (m f : ℕ) (row : BackRow) → (p.nodes m).row ≡ Some row
      → row.epoch.0 ≡ f → m ≡ n → f ≡ e → IsUnaware told (suc d) → IsMet leaving p d n e (post told)
  taken d post near told m f row there epoch same_n same_e h =
      let u = unaware told d h in
      let row_is : (p.nodes n).row ≡ Some row = subst (λ (i : ℕ). (p.nodes i).row ≡ Some row) same_n there in
      inr (
        true,
        ap (λ (o : Option BackRow). offer_decision leaving e o (p.nodes n).beside) row_is
            ∙ known-taken leaving e row (p.nodes n).beside (epoch ∙ same_e) (once n row row_is),
        subst (λ (t : Bool). NearTaken d e (post t)) (sym u.0) (near u.1),
      )

  -- one that was refused was not taken
  refused : is_this_epoch e (p.nodes n).beside.refused ≡ true → (p.nodes n).row ≡ None
  refused is = go (p.nodes n).row refl where
    go : (o : Option BackRow) → (p.nodes n).row ≡ o → o ≡ None
    go None at = refl
    go (Some row) at = absurd (both_ways (is_this_epoch e (p.nodes n).beside.refused) (ap (is_this_epoch e) (once n row at)) is)

  pub offer-met : (d : ℕ) → NearOffer (suc d) n e (spot_of files p st).post → IsMet leaving p d n e (spot_of files p st).post
  offer-met d near = subst (IsMet leaving p d n e) (sym (post-is files p st)) (go (seat_of p) refl (seat-sits p) (subst (NearOffer (suc d) n e) (post-is files p st) near)) where
    go : (z : SeatNow) → seat_of p ≡ z → Sits p z → NearOffer (suc d) n e (post_of files st.client z) → IsMet leaving p d n e (post_of files st.client z)
    go (Here told m f b s) is sits h = taken d (λ t. AtNode t m f (ends_of st.client b) (awaits_of files s)) (λ low. (h.1, low)) told m f
        (record { stage = back.Here b; epoch = record { 0 = f } }) sits.0.there refl h.0 h.1 h.2
    go (Gone told m f) is sits h = taken d (λ t. Left t m f) (λ low. (h.1, low)) told m f sits.row sits.there sits.epoch h.0 h.1 h.2
    go (Returned told m f served) is sits h = taken d (λ t. GaveBack t m f) (λ low. (h.1, low)) told m f sits.row sits.there sits.epoch h.0 h.1 h.2
    go (Offered m f count) is sits h =
        let none = subst (λ (i : ℕ). ((p.nodes i).row ≡ None) × ((p.nodes i).beside.refused ≡ None)) h.0 (fresh m f count is) in
        inl ((λ i. OnOffer (h.0 i) (h.1 i)), subst (λ (i : ℕ). IsAt p.front i e) h.0 (subst (λ (i : ℕ). IsAt p.front m i) h.1 sits), none.0, unknown leaving e (p.nodes n).row (p.nodes n).beside none.0 none.1)
    go (Refused m f count) is sits h =
        let its : is_this_epoch e (p.nodes n).beside.refused ≡ true = subst (λ (i : ℕ). is_this_epoch e (p.nodes i).beside.refused ≡ true) h.0
        (subst (λ (i : ℕ). is_this_epoch i (p.nodes m).beside.refused ≡ true) h.1 sits.1) in
        let two : 2 ≤ suc d = h.2 in
        inr (false, known-refused leaving e (p.nodes n).row (p.nodes n).beside (refused its) its, (h.0, h.1, omega (arith, two)))
    go _ is sits h = absurd h

-- ---- one that is new

module _ (files : FilesAt) (p : Part) (st : Station) (n : ℕ) (env : NodeEnv) (row : FrontRow) (front : p.front.row ≡ Some row) (with_ : IsWith false n env.epoch row.stage)
    (is_new : offer_answer env.epoch (p.nodes n).row ≡ adopt.New) (unrefused : is_this_epoch env.epoch (p.nodes n).beside.refused ≡ false)
    (before : List (Place × List ℕ)) (w : Work) where
  abbrev q : NodePart
  q = p.nodes n

  abbrev at : ℕ
  at = (front_rest p.front.rest).count

  abbrev put : Ending → Part
  put o = with_node p n (kept_after env q w o)

  was : post_of files st.client (seat_of p) ≡ OnOffer n env.epoch
  was = ap (post_of files st.client) (seat-with p n env.epoch false row front with_ ∙ (new-row n env.epoch at q q.row unrefused is_new).0)

  over-apart : (o : Option ℕ) → post_of files st.client (seats.seat_over_by false n env.epoch o) ≡ OnOffer n env.epoch → ⊥
  over-apart None f = cc
  over-apart (Some served) f = cc

  -- then it is somewhere else
  pub new-moves : spot_of files (with_node p n (node_rests env q before w).0) st ≡ spot_of files p st → ⊥
  new-moves same = by-ending env.serve w.service (λ o. post_of files st.client (seat_of (put o)) ≡ OnOffer n env.epoch → ⊥)
      (λ none post.
      let d = (speaks env.serve.c w.service.block).1 in
      let after = kept_after env q w (ending.Here d w.service.count) in
      let now = ap (post_of files st.client) (seat-put p n env.epoch false row after front with_ ∙ away-here false n env.epoch at after d refl) in
      let bad : AtNode false n env.epoch (ends_of st.client d) (awaits_of files (seats.staying_of after)) ≡ OnOffer n env.epoch = sym now ∙ post in cc)
      (λ last post.
      let after = kept_after env q w (ending.Over last) in
      let now = ap (post_of files st.client) (seat-put p n env.epoch false row after front with_ ∙ away-over false n env.epoch at after refl) in
      over-apart after.beside.returned (sym now ∙ post))
      (sym (post-is files (put (serving_settled env.serve w.service).0) st) ∙ ap (λ (s : Spot). s.post) same ∙ post-is files p st ∙ was)

-- ---- one that is refused

module _ (files : FilesAt) (p : Part) (st : Station) (n : ℕ) (env : NodeEnv) (at_ : IsAt p.front n env.epoch) (none : (p.nodes n).row ≡ None) where
  -- then it is somewhere else
  pub refused-moves : spot_of files (with_node p n (kept_refused env (p.nodes n))) st ≡ spot_of files p st → (spot_of files p st).post ≡ OnOffer n env.epoch → ⊥
  refused-moves same offered =
      let count = (front_rest p.front.rest).count in
      let after = kept_refused env (p.nodes n) in
      let seat : seat_of (with_node p n after) ≡ Refused n env.epoch count = seat-put p n env.epoch at_.told at_.row after at_.front at_.with_
      ∙ ap (seats.seat_decided at_.told n env.epoch count after) none
      ∙ cond-true (env.epoch == env.epoch) (Refused n env.epoch count) (Offered n env.epoch count) (eq-eqb env.epoch env.epoch refl) in
      let bad : Declined n env.epoch ≡ OnOffer n env.epoch =
      sym (ap (post_of files st.client) seat) ∙ sym (post-is files (with_node p n after) st) ∙ ap (λ (s : Spot). s.post) same ∙ offered in cc

-- ---- the rule

module _ (k : Setting) (w : Whole) (x : Conn) (n epoch : ℕ) (env : NodeEnv) (of : IsNodeEnv k x.c n epoch env) (parts : EndpointParts) (bytes : List ℕ)
    (spells : SpellsMessage x.c epoch (body.Offer parts) bytes) (was_sent : Was x Front (Node n) bytes) where
  abbrev qq : NodePart
  qq = x.part.nodes n

  abbrev Offers : node.NodeDeed → Type 0
  Offers deed = OwesBy k w x n Front bytes was_sent deed

  abbrev offer_letter : Letter
  offer_letter = record { from = Front; to = Node n; bytes = bytes }

  abbrev decision : Adopt
  decision = decides env.leaving x.part n env.epoch

  abbrev Met : ℕ → Post → Type 0
  Met d z = IsMet env.leaving x.part d n env.epoch z

  met : NodeGiven k w x → (st : Station) (d : ℕ) → Near k.files (spot_of k.files x.part st) x.c (suc d) offer_letter → Met d (spot_of k.files x.part st).post
  met given st d near =
      let t = spot_of k.files x.part st in
      let h : NearTold t x.c (suc d) n epoch (body.Offer parts) = subst (OfMessage (λ (m : Message). NearTold t x.c (suc d) n m.epoch.0 m.body)) spells near in
      offer-met env.leaving k.files x.part st n env.epoch given.fresh given.once d (subst (λ (e : ℕ). NearOffer (suc d) n e t.post) (sym of.epoch_is) h)

  -- ---- it is answered

  module _ (takes : Bool) where
    abbrev sent : Letter
    sent = record { from = Node n; to = Front; bytes = message env.serve.c env.epoch (answer_body takes) }

    sent-is : sent ≡ answer_letter n x.c env.epoch takes
    sent-is = λ i. record { from = Node n; to = Front; bytes = message (of.number i) env.epoch (answer_body takes) }

    may : NodeGiven k w x → IsMessage (of_conn x.c env.epoch (answer_body takes))
    may given = subst (λ (e : ℕ). IsMessage (of_conn x.c e (answer_body takes))) (sym of.epoch_is)
        (answer-may x.c epoch parts takes (spelled_so bytes (of_conn x.c epoch (body.Offer parts)) (given.bytes offer_letter was_sent) spells).0)

    -- it is, where it leads further
    answers : NodeGiven k w x → (st : Station)
        → ((d : ℕ) → Near k.files (spot_of k.files x.part st) x.c (suc d) offer_letter → NearAnswer takes d n env.epoch (spot_of k.files x.part st).post)
        → Replies k.files (spot_of k.files x.part st) x.c offer_letter (sent ∷ [])
    answers given st leads =
        let t = spot_of k.files x.part st in
        let none : chain t x.c sent ≡ 0 = ap (chain t x.c) sent-is ∙ answer-chain k.files t x.c env.epoch n takes (may given) in
        let one : chain t x.c offer_letter ≡ 1 = ap (of_message (λ (m : Message). front_chain t x.c m.body)) spells in
        record {
          shorter = (omega (arith, none, one), tt);
          leads = λ d near. inl (inl (subst (Near k.files t x.c d) (sym sent-is) (answer-near k.files t x.c env.epoch n takes (may given) d (said t d takes (leads d near)))));
        }
      where
        said : (t : Spot) (d : ℕ) (takes : Bool) → NearAnswer takes d n env.epoch t.post → NearSaid t d n env.epoch (answer_body takes)
        said t d true h = h
        said t d false h = h

  -- Taken again
  again-owes : decision ≡ adopt.Again → Offers (node.Says (taken_sent env))
  again-owes is = says-owes k w x n Front bytes was_sent (λ given. given.opened n bytes was_sent) (taken_sent env) (λ given st st_is.
      answers true given st (λ d near. go d (spot_of k.files x.part st).post (met given st d near))) where
        go : (d : ℕ) (z : Post) → Met d z → NearAnswer true d n env.epoch z
        go d z (inl new) = absurd (unlike env.leaving (sym is ∙ new.3)) where
          unlike : (l : Bool) → adopt.Again ≡ of_new l → ⊥
          unlike true f = cc
          unlike false f = cc
        go d z (inr (true, same, near)) = near
        go d z (inr (false, same, near)) = absurd (let bad : adopt.Again ≡ adopt.Refuse = sym is ∙ same in cc)

  -- Refused, and it says so again; the first time that is a unit
  refuses-owes : decision ≡ adopt.Refuse → Offers (node.Does (kept_refused env qq, node_saying (refused_sent env)))
  refuses-owes is = does-owes k w x n Front bytes was_sent (λ given. given.opened n bytes was_sent) (kept_refused env qq, node_saying (refused_sent env))
      (λ given after warm late st st_is c_is up same.
      answers false given st (λ d near. go st same d (met given st d near))) where
        go : (st : Station) → spot_of k.files (with_node x.part n (kept_refused env qq)) st ≡ spot_of k.files x.part st → (d : ℕ)
            → Met d (spot_of k.files x.part st).post → NearAnswer false d n env.epoch (spot_of k.files x.part st).post
        go st same d (inl new) = absurd (refused-moves k.files x.part st n env new.1 new.2 same new.0)
        go st same d (inr (true, known, near)) = absurd (let bad : adopt.Refuse ≡ adopt.Again = sym is ∙ known in cc)
        go st same d (inr (false, known, near)) = near

  -- what is expected is new, or decided
  passed : decision ≡ adopt.Stale → Offers node.Drops
  passed is = drops-owes k w x n Front bytes was_sent (λ given st st_is d near. go d (spot_of k.files x.part st).post (met given st d near)) where
    unlike : (l : Bool) → adopt.Stale ≡ of_new l → ⊥
    unlike true f = cc
    unlike false f = cc

    go : (d : ℕ) (z : Post) → Met d z → ⊥
    go d z (inl new) = unlike env.leaving (sym is ∙ new.3)
    go d z (inr (true, known, near)) = let bad : adopt.Stale ≡ adopt.Again = sym is ∙ known in cc
    go d z (inr (false, known, near)) = let bad : adopt.Stale ≡ adopt.Refuse = sym is ∙ known in cc

  -- it is taken: that is a unit
  takes-owes : decision ≡ adopt.New → Offers (node.Does (node_rests env qq (taken_sent env) (taking env parts)))
  takes-owes is = does-owes k w x n Front bytes was_sent (λ given. given.opened n bytes was_sent) (node_rests env qq (taken_sent env) (taking env parts))
      (λ given after warm late st st_is c_is up same.
      let new = decision-new env.leaving env.epoch qq.row qq.beside is in
      let h = given.news n epoch parts bytes spells was_sent (ap (λ (e : ℕ). offer_answer e qq.row) (sym of.epoch_is) ∙ new.0) in
      let unrefused : is_this_epoch env.epoch qq.beside.refused ≡ false = ap (λ (e : ℕ). is_this_epoch e qq.beside.refused) of.epoch_is ∙ h.3 in
      let stage_is : IsWith false n env.epoch h.0.stage = h.2 ∙ ap (λ (e : ℕ). stage.Offering n (record { 0 = e })) (sym of.epoch_is) in
      absurd (new-moves k.files x.part st n env h.0 h.1 stage_is new.0 unrefused (taken_sent env) (taking env parts) same))

  pub offered-owes : Offers (node_offered env qq parts)
  offered-owes = go decision refl where
    go : (a : Adopt) → decision ≡ a → Offers (offered_by env parts qq a)
    go adopt.New is = takes-owes is
    go adopt.Again is = again-owes is
    go adopt.Stale is = passed is
    go adopt.Refuse is = refuses-owes is
