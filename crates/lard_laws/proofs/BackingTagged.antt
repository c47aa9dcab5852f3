-- Where a Tag counts, it has the number of the last Ask that was answered, and the requests that start by it are the last assigned.
use Rattle.std.proofs.Common.{◌≡◌, ◌≤◌, ◌<◌, ◌+◌, ◌-◌, ◌^◌, ◌==◌, ◌&&◌, ℕ, suc, true, List, [], ◌∷◌, ◌++◌, length, take, Option, Some, None, ⊎_elim, inl, inr, refl, sym, ap, ◌∙◌, subst, arith, eqb-true}
use Rattle.std.specs.Prelude.{is_some}
use Rattle.std.specs.List.{find}
use Rattle.std.proofs.lemmas.Bool.{and_parts}
use Rattle.std.proofs.lemmas.List.{length-append, length-map}
use Rattle.lard_law_view.specs.Prelude.{Conn, ControlBlock, FilesAt, Front, FrontRest, IsNodeEnv, Node, NodeEnv, NodePart, Setting, SpellsMessage, Station, Stay, Talk, Verdict, Was, both_of, front_rest, here, is_row_at, is_tag_awaited, is_under, named_paths, verdicts}
use Rattle.lard_base.specs.declared.place.TimerKind.TheVariants as timer
use Rattle.lard_laws.specs.Asks.{Answered, ask_tale}
use Rattle.lard_laws.proofs.AsksAsked.{with-told}
use Rattle.lard_laws.proofs.AsksMoving.{IsTold, Told}
use Rattle.lard_laws.specs.BackingTold.{files_before}
use Rattle.lard_laws.proofs.BackingNodes.{IsIt, hand-at, hand-counted}
use Rattle.lard_laws.proofs.BackingNumbers.{IsWithin, named-within}
use Rattle.lard_laws.proofs.BackingTurns.{EachNamed, named-weaker}
use Rattle.lard_law_connections.specs.BytesAgreement.{IsOpen}
use Rattle.lard_law_connections.proofs.BytesClientMoves.{has-fair}
use Rattle.lard_law_connections.proofs.BytesNodeMoves.{HasIt}
use Rattle.lard_law_connections.proofs.BytesNodeTurns.{here-or}
use Rattle.lard_law_connections.proofs.PlacesTurns.{IsPlaced}
use Rattle.lard_laws.specs.WaysState.{FrontSaysWays, GoesItsWay, IsAsking, LetterWays, StayGoes, StayWays, TagIs, given_to, marks_at}
use Rattle.lard_laws.specs.Ways.{WayMarks, good_paths}
use Rattle.lard_laws.proofs.NodeStays.{with-row}
use Rattle.lard_laws.proofs.WaysHomes.{AtHome, at-home}
use Rattle.lard_message.specs.declared.message.Body.TheVariants as body

-- ---- what the front end keeps of the last Ask

told-rest : (d : Answered) (o : Option FrontRest) → IsTold d o → ((front_rest o).asks ≡ d.last) × ((front_rest o).tag ≡ d.nodes)
told-rest d None h = absurd h
told-rest d (Some rest) h = (h.0, h.1)

-- as many assignments as paths and nodes
given-length : (paths : List (List ℕ)) (nodes : List ℕ) → length nodes ≡ length paths → length (given_to paths nodes) ≡ length paths
given-length [] nodes is = refl
given-length (path ∷ paths) [] is = absurd cc
given-length (path ∷ paths) (node ∷ nodes) is = ap suc (given-length paths nodes (omega (arith, is)))

stay-of : (o : Option ControlBlock) (t : Option Stay) (y : ControlBlock × Stay) → both_of o t ≡ Some y → t ≡ Some y.1
stay-of None t y e = let no : None ≡ Some y = e in absurd (let f : ⊥ = cc in f)
stay-of (Some b) None y e = let no : None ≡ Some y = e in absurd (let f : ⊥ = cc in f)
stay-of (Some b) (Some s) y e = let same : (b, s) ≡ y = cc in ap (λ (z : ControlBlock × Stay). Some z.1) same

-- ---- a Tag that comes

-- its assignment is among the last, so many
abbrev pub IsOfLast : FilesAt → WayMarks → ℕ → ℕ → List ℕ → Type 0
IsOfLast files m count i path = (length m.assigned ≤ files_before files m.wrote i + count) × (files_before files m.wrote i < length m.assigned)

module _ (k : Setting) (small : k.stream ≤ 2 ^ 30) (x : Conn) (s : Station) (there : x.part.station ≡ Some s) (l : Talk) (pend : List Verdict) (o : IsOpen k.files x l pend s) (n epoch : ℕ) (env : NodeEnv) (is : IsNodeEnv k x.c n epoch env) where
  abbrev files : FilesAt
  files = env.serve.files

  abbrev m : WayMarks
  m = marks_at x

  abbrev p : NodePart
  p = x.part.nodes n

  abbrev r : FrontRest
  r = front_rest x.part.front.rest

  -- what was answered of Asks
  abbrev d : Answered
  d = (ask_tale x.c x.seen).done

  abbrev It : Type 0
  It = IsIt k small x s there l pend o n epoch env is

  -- what is so of a Tag that counts
  abbrev pub IsCounted : ℕ → ControlBlock × Stay → Type 0
  IsCounted number y = (number ≡ (ask_tale x.c x.seen).done.last) × EachNamed env.serve.files (IsOfLast env.serve.files (marks_at x) (length (ask_tale x.c x.seen).done.nodes)) (y.1.served + 1) y.1.batch

  -- the front end knows the connection here, in this epoch
  module _ (it : It) (placed : IsPlaced x) where
    front-at : is_row_at n epoch x.part.front.row ≡ true
    front-at =
        let has : HasIt x l pend o.seat placed n env.epoch = (it placed).0 in
        with-row x placed n epoch has.row has.found has.at (has.same ∙ is.epoch_is)

    module _ (g : GoesItsWay files x) (told : Told x) (number : ℕ) (nodes bytes : List ℕ) (spells : SpellsMessage x.c epoch (body.Tag number nodes) bytes) (was : Was x Front (Node n) bytes) where
      tag-is : TagIs r number nodes
      tag-is =
          let f : FrontSaysWays files m x.part n epoch (body.Tag number nodes) = (has-fair (LetterWays files m x.part) (record { from = Front; to = Node n; bytes = bytes }) x.letters was g.letters) _ spells in
          f.1 front-at

      kept : (r.asks ≡ d.last) × (r.tag ≡ d.nodes)
      kept = told-rest d x.part.front.rest (with-told d x.part.front.rest x.part.front.row n epoch front-at told)

      stays : (y : ControlBlock × Stay) → here env.epoch p ≡ Some y → StayGoes files n m r y.1
      stays y held =
          let has : HasIt x l pend o.seat placed n env.epoch = (it placed).0 in
          let h : AtHome files m r n p = at-home files x g n has.row has.found has.at has.decided in
          subst (StayWays files n m r) (stay-of _ p.stay y held) h.has.stay

      by-asking : (y : ControlBlock × Stay) → here env.epoch p ≡ Some y → (q : StayGoes files n m r y.1) → (y.1.asks ≡ number) → length nodes ≡ length (named_paths files y.1.batch) → IsAsking files m r y.1 q.gone q.under → IsCounted number y
      by-asking y held q asked long (inr a) = let more = tag-is.0 in let last = a.0 in absurd (omega (arith, more, asked, last))
      by-asking y held q asked long (inl a) =
          let named : List (List ℕ) = named_paths files y.1.batch in
          let last : number ≡ r.asks = sym asked ∙ a.0 in
          let same : nodes ≡ r.tag = tag-is.1 last in
          let nodes_of : length d.nodes ≡ length named = ap length (sym kept.1 ∙ sym same) ∙ long in
          let given : length (given_to named r.tag) ≡ length named = given-length named r.tag (ap length (sym same) ∙ long) in
          let lo : ℕ = length q.gone + length q.under in
          let all : length m.assigned ≡ lo + length named =
          ap length a.1 ∙ length-append (q.gone ++ q.under) (given_to named r.tag) ∙ (λ i. length-append q.gone q.under i + given i) in
          let served : y.1.served ≡ m.served = hand-counted k small x s there l pend o n epoch env is it placed y held ∙ sym o.tale.served in
          let first : (y.1.served + 1) - 1 ≡ m.served = omega (arith, served) in
          let before : files_before files m.wrote (y.1.served + 1) ≡ length q.gone =
          ap (λ (i : ℕ). length (good_paths files (take i (verdicts m.wrote)))) first ∙ ap length (sym q.walked) ∙ length-map q.gone (λ a. a.0) in
          let within : EachNamed files (IsWithin files m n lo (length m.assigned)) (y.1.served + 1) y.1.batch =
          named-within files m n lo (length m.assigned) (y.1.served + 1) y.1.batch q.under (hand-at k small x s there l pend o n epoch env is it placed y held) q.lies (omega (arith, before)) (omega (arith, before, all)) in (
            last ∙ kept.0,
            named-weaker files (IsWithin files m n lo (length m.assigned)) (IsOfLast files m (length d.nodes)) (λ i path w. let low = w.0 in (omega (arith, low, all, nodes_of), w.1)) (y.1.served + 1) y.1.batch within,
          )

      counts-here : (y : ControlBlock × Stay) → here env.epoch p ≡ Some y → is_tag_awaited env number nodes p y.1 ≡ true → IsCounted number y
      counts-here y held e =
          let both = (and_parts (is_some (find (is_under timer.Ask 0) p.kept)) (y.1.asks == number && length nodes == length (named_paths files y.1.batch)) e).1 in
          let parts = and_parts (y.1.asks == number) (length nodes == length (named_paths files y.1.batch)) both in
          let q : StayGoes files n m r y.1 = stays y held in
          by-asking y held q (eqb-true y.1.asks number parts.0) (eqb-true (length nodes) (length (named_paths files y.1.batch)) parts.1) q.asking

  pub tag-counts : IsPlaced x → GoesItsWay files x → Told x → (number : ℕ) (nodes bytes : List ℕ) → SpellsMessage x.c epoch (body.Tag number nodes) bytes → Was x Front (Node n) bytes
      → (y : ControlBlock × Stay) → here env.epoch p ≡ Some y → is_tag_awaited env number nodes p y.1 ≡ true → IsCounted number y
  tag-counts placed g told number nodes bytes spells was y held e = ⊎_elim
      (λ (none : here env.epoch p ≡ None). let no : None ≡ Some y = sym none ∙ held in absurd cc)
      (λ (it : It). counts-here it placed g told number nodes bytes spells was y held e)
      (here-or k small x s there l pend o n env epoch is)
