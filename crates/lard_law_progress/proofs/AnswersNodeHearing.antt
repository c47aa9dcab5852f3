-- A node's turn on a segment that was forwarded to it, behind which no unit went and the spot is as it was: the endpoint read on and
-- nothing else, so it says what it says at once.
use Rattle.std.proofs.Common.{◌≡◌, ◌⊎◌, ◌≤◌, ◌==◌, ◌||◌, ℕ, Bool, true, false, List, [], Option, Some, None, inl, inr, ⊎_elim, refl, sym, ap, ◌∙◌, subst, arith}
use Rattle.std.proofs.lemmas.Bool.{cond-true, eqb-true}
use Rattle.std.proofs.lemmas.Bool.Decides.{nat_tests}
use Rattle.lard_law_view.specs.Prelude.{ClientBlock, ControlBlock, Ending, FilesAt, NodeEnv, NodePart, Part, Phase, Place, Said, Sending, Station, Stay, Turn, Work, cut_off, end_reason, final_of, goes_on, is_closed, may_end, node_rests, on_segment, serving_settled, speaks, spoken, with_node, work_of}
use Rattle.lard_bound.specs.Progress.{IsWarmWord}
use Rattle.lard_bound.specs.Seats.{Staying, stay_of, staying_of}
use Rattle.lard_bound.specs.Spots.{EndpointSymbols}
use Rattle.lard_bound.specs.Units.{Whole, is_stale, left_with, one_if_not}
use Rattle.lard_client.specs.declared.phase.Phase.TheVariants as phase
use Rattle.lard_law_progress.proofs.AnswersFrontGiven.{IsTalking}
use Rattle.lard_law_progress.proofs.AnswersNodeSeats.{IsHere}
use Rattle.lard_law_progress.proofs.AnswersNodeStill.{Still, left_here, no-message}
use Rattle.lard_law_progress.proofs.AnswersNodeUnits.{Unmoved, unmoved}
use Rattle.lard_law_progress.proofs.Ends.{IsSaid, heard-window, speaks-said}
use Rattle.lard_law_progress.proofs.Silence.{IsSilent}
use Rattle.lard_law_progress.proofs.Stays.{IsAlike, read_of}
use Rattle.lard_law_progress.proofs.Still.{alike-none}
use Rattle.lard_law_progress.proofs.Turns.{reset-passed, window-on}
use Rattle.lard_rules.specs.declared.places.Ending.TheVariants as ending
use Rattle.lard_rules.proofs.Saying.{speaks-done}

module _ (w : Whole) (K : ℕ) (files : FilesAt) (p : Part) (st : Station) (told : Bool) (n : ℕ) (b : ControlBlock) (env : NodeEnv) (h : IsHere p told n env.epoch b) (d0 : ControlBlock)
    (stay : Stay) (stay_is : (p.nodes n).stay ≡ Some stay) where
  abbrev x : ClientBlock
  x = st.client

  abbrev q : NodePart
  q = p.nodes n

  abbrev s0 : Staying
  s0 = record { stay = stay; kept = q.kept; fetches = q.fetches }

  s0-is : s0 ≡ staying_of q
  s0-is = λ i. record { stay = stay_of (sym stay_is i); kept = q.kept; fetches = q.fetches }

  abbrev w0 : Work
  w0 = work_of d0 stay

  abbrev pub v : Work
  v = goes_on env w0

  abbrev pub IsStill : Type 0
  IsStill = Still files p st told n b env h q [] v

  abbrev after : ControlBlock
  after = left_here files p st told n b env h q [] v

  -- What the segment made of the endpoint: its side is closed or not as before, and its window no staler.
  pub record Hears : Type 0 where
    pub shut : d0.send.finished ≡ b.send.finished
    pub stale : is_stale x d0 ≤ is_stale x b

  -- the turn, behind which nothing went
  module _ (still : IsStill) (hears : Hears) (few : read_of v ≤ w.requests) (up : left_with w K p st ≤ left_with w K (with_node p n (node_rests env q [] v).0) st) where
    un : Unmoved w K files p st told n b env h q [] w0 s0 s0-is
    un = unmoved w K files p st told n b env h q [] w0 s0 s0-is still (record { shut = hears.shut; stale = hears.stale; read = refl; costs = omega arith }) few up

    pub stale-same : is_stale x d0 ≡ is_stale x b
    stale-same = un.stale

    pub alike : IsAlike d0 v.service.block
    alike = un.idle.block

    said : IsSaid v.service.block after
    said = speaks-said env.serve.c v.service.block

    pub una-same : d0.send.una ≡ b.send.una
    una-same = sym (said.una ∙ ap (λ (z : Sending). z.una) alike.send) ∙ ap (λ (e : EndpointSymbols). e.una) still.ends

    pub no-messages : (node_rests env q [] v).1.messages ≡ []
    no-messages = no-message files p st told n b env h q [] v still un.idle.asked un.idle.wants

    settled-is : serving_settled env.serve v.service ≡ spoken env.serve v.service []
    settled-is = ap (λ (o : Option ℕ). elim o as (λ t. Ending × Turn) [ None ↦ spoken env.serve v.service [] | Some total ↦ cut_off env.serve v.service ]) still.none

    pub segments-are : (node_rests env q [] v).1.segments ≡ (speaks env.serve.c v.service.block).0
    segments-are = ap (λ (r : Ending × Turn). r.1.segments) settled-is

    -- what was reset ends, and then it is not here
    pub not-reset : d0.reset ≡ true → ⊥
    not-reset e =
        let r : after.reset ≡ true = said.reset ∙ alike.reset ∙ e in
        let may : may_end after ≡ true = ap (λ (t : Bool). t || is_closed after) r in
        let over : (serving_settled env.serve v.service).0 ≡ ending.Over (final_of after (end_reason after)) =
        ap (λ (o : Ending × Turn). o.0) settled-is ∙ cond-true (may_end after) (ending.Over (final_of after (end_reason after))) (ending.Here after v.service.count) may in
        let bad : ending.Over (final_of after (end_reason after)) ≡ ending.Here after v.service.count = sym over ∙ still.ends_here in cc

    -- an endpoint with nothing to say says nothing
    pub silent-segments : IsSilent d0 → (node_rests env q [] v).1.segments ≡ []
    silent-segments quiet =
        let none = alike-none d0 v.service.block quiet alike in
        segments-are ∙ ap (λ (r : List (Place × List ℕ) × ControlBlock). r.0) (speaks-done env.serve.c v.service.block none)

-- ---- what a segment makes of an endpoint

module _ (st : Station) (b : ControlBlock) (env : NodeEnv) (s : Said) (talk : IsTalking st b) (warm : IsWarmWord st.client s st.client.phase) where
  abbrev d : ControlBlock
  d = (on_segment b s).1

  window-came : (ph : Phase) → st.client.phase ≡ ph → (d.send.wnd ≡ b.send.wnd) ⊎ (d.send.wnd ≡ st.client.wnd)
  window-came phase.Open is = ⊎_elim (λ (e : d.send.wnd ≡ b.send.wnd). inl e) (λ (e : d.send.wnd ≡ s.wnd). inr (e ∙ subst (λ (q : Phase). IsWarmWord st.client s q) is warm)) (heard-window b s)
  window-came phase.Aborted is = inl (ap (λ (z : Sending). z.wnd) (reset-passed st.client env b s (subst (λ (q : Phase). IsWarmWord st.client s q) is warm)).0)
  window-came phase.Reset is = absurd (talk.here is)

  pub hears-stale : is_stale st.client d ≤ is_stale st.client b
  hears-stale = window-on st.client env b d.send.wnd (window-came st.client.phase refl)

  -- where the window is no fresher, it is the same
  pub same-window : is_stale st.client d ≡ is_stale st.client b → d.send.wnd ≡ b.send.wnd
  same-window same = ⊎_elim (λ (e : d.send.wnd ≡ b.send.wnd). e) (λ (e : d.send.wnd ≡ st.client.wnd). fresh d.send.wnd b.send.wnd st.client.wnd e same) (window-came st.client.phase refl) where
    itself : (a c : ℕ) → a ≡ c → (a == c) ≡ true
    itself a c e = grind (arith, nat_tests, e)

    fresh : (a c m : ℕ) → a ≡ m → one_if_not (a == m) ≡ one_if_not (c == m) → a ≡ c
    fresh a c m e h = go (c == m) refl where
      zero_ : one_if_not (a == m) ≡ 0
      zero_ = ap one_if_not (itself a m e)

      go : (t : Bool) → (c == m) ≡ t → a ≡ c
      go true f = e ∙ sym (eqb-true c m f)
      go false f = absurd (let one : one_if_not (c == m) ≡ 1 = ap one_if_not f in let z = zero_ in omega (arith, one, z, h))
