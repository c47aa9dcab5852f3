-- The rounds of a generated schedule reach the bound of the journal before its settle.
use Rattle.std.proofs.Common.{◌≡◌, ◌≤◌, ℕ, ◌+◌, false, List, [], ◌∷◌, ◌++◌, All, Result, Ok, Err, length, map, refl, sym, ap, ◌∙◌, subst, arith}
use Rattle.std.specs.Prelude.{sum_by}
use Rattle.std.specs.List.{fold}
use Rattle.std.proofs.lemmas.List.Elements.{All-append, All-head, All-tail}
use Rattle.std.proofs.lemmas.List.Sums.{fold-append}
use Rattle.rand_pcg.specs.Lcg.{Lcg}
use Rattle.lard_answers.specs.Answers.{answer_bytes}
use Rattle.lard_base.specs.declared.config.Config.{Config}
use Rattle.lard_base.specs.declared.event.Event.{Event}
use Rattle.lard_base.specs.declared.event.Event.TheVariants as event
use Rattle.lard_block.specs.Blocks.{blocks}
use Rattle.lard_bound.specs.Bound.{IsOrdinary, bytes_both_ways, opener_step, openers, requests_of, settling_bound, total_of}
use Rattle.lard_rules.specs.declared.fault.StepFault.{StepFault}
use Rattle.lard_rules.specs.declared.machine.Machine.{Machine}
use Rattle.lard_rules.specs.Bounds.{HasRule}
use Rattle.lard_rules.specs.Machine.{Passes, machine_step, machine_start}
use Rattle.lard_laws.proofs.StepsFollowing.{follows}
use Rattle.lard_files.specs.Files.{file_at}
use Rattle.lard_generate.specs.declared.action.Action.{Action}
use Rattle.lard_generate.specs.declared.action.Action.TheVariants.{Ask}
use Rattle.lard_generate.specs.Clients.{answer_bytes_of, drawn_actions, drawn_fate, drawn_open, action_event, request_head, requests_written, rounds, bytes_written}
use Rattle.lard_generate.specs.Draws.{each, seeded}
use Rattle.lard_generate.specs.Files.{drawn_size, generated_files}
use Rattle.lard_generate.specs.Generated.{generated}
use Rattle.lard_generate.proofs.Ranges.{actions_are_below}
use Rattle.lard_history.specs.Journal.{touched_step, wrote, wrote_step}
use Rattle.lard_history.specs.Laws.{Follows}
use Rattle.lard_journal.specs.declared.rec.Rec.{Rec}
use Rattle.lard_settling.specs.Events.{GoesThrough, MayCome, event_step, stepped_from}
use Rattle.lard_settling.specs.Settling.{Stop}
use Rattle.lard_generate_bound.specs.Laws.{RoundsReachTheBound, SettlesLast, before_settle}
use Rattle.lard_generate_bound.specs.Shares.{Wrote, numbers_to, share}
use Rattle.lard_generate_bound.proofs.Cut.{heads-answered, heads-blocks, heads-length}
use Rattle.lard_generate_bound.proofs.Leaving.{IsPlain, acts-are, fates-are, opener-still, opens-are, touched-still, unopening, untouched, unwritten, wrote-still}
use Rattle.lard_generate_bound.proofs.Sharing.{length-numbers, shares-within, total-most, total-plus, writes-few}
use Rattle.lard_generate_bound.proofs.Walking.{Leaves, Parts, all-leave, parts}
use Rattle.lard_generate_bound.proofs.Writing.{opens-open, writes}

-- ---- a journal that follows the events

module _ (clients : ℕ) (f g h : Lcg) (sizes : List ℕ) (J : List Rec)
    (w : Follows 1 ((each drawn_open clients f).0 ++ map action_event (each drawn_actions clients g).0 ++ (each drawn_fate clients h).0) J) where
  -- the parts of the schedule
  abbrev opens : List Event
  opens = (each drawn_open clients f).0

  abbrev actions : List Action
  actions = (each drawn_actions clients g).0

  abbrev fates : List Event
  fates = (each drawn_fate clients h).0

  -- the steps of all but the fates of SYNs, and of these
  outer : Parts 1 (opens ++ map action_event actions) fates J
  outer = parts (opens ++ map action_event actions) fates 1 J w

  -- the steps of opening, and of the actions
  inner : Parts 1 opens (map action_event actions) outer.front
  inner = parts opens (map action_event actions) 1 outer.front outer.first

  -- the clients that opened are 1 to n
  pub openers-are : openers J ≡ numbers_to clients
  openers-are =
      ap (fold opener_step []) outer.is ∙ fold-append opener_step [] outer.front outer.back
      ∙ all-leave opener_step opener-still fates outer.next outer.back (fold opener_step [] outer.front)
      (fates-are (Leaves opener_step) (λ k. unopening (event.Lose k) tt) (λ k. unopening (event.Deliver k) tt) clients h) outer.second
      ∙ ap (fold opener_step []) inner.is ∙ fold-append opener_step [] inner.front inner.back
      ∙ all-leave opener_step opener-still (map action_event actions) inner.next inner.back (fold opener_step [] inner.front)
      (acts-are (Leaves opener_step) (λ c bytes. unopening (event.Write c bytes) tt) (λ c. unopening (event.Shut c) tt) actions) inner.second
      ∙ opens-open clients f 1 inner.front [] inner.first

  -- what a client wrote, it wrote in the steps of the actions
  written-in : (c : ℕ) → wrote J c ≡ fold (wrote_step c) [] inner.back
  written-in c =
      ap (fold (wrote_step c) []) outer.is ∙ fold-append (wrote_step c) [] outer.front outer.back
      ∙ all-leave (wrote_step c) (wrote-still c) fates outer.next outer.back (fold (wrote_step c) [] outer.front)
      (fates-are (Leaves (wrote_step c)) (λ k. unwritten c (event.Lose k) tt) (λ k. unwritten c (event.Deliver k) tt) clients h) outer.second
      ∙ ap (fold (wrote_step c) []) inner.is ∙ fold-append (wrote_step c) [] inner.front inner.back
      ∙ ap (λ (bytes : List ℕ). fold (wrote_step c) bytes inner.back)
      (all-leave (wrote_step c) (wrote-still c) opens 1 inner.front []
      (opens-are (Leaves (wrote_step c)) (λ d isn iss. unwritten c (event.Open d isn iss 65535 1460) tt) clients f) inner.first)

  -- what client c wrote
  its : (c : ℕ) → Wrote c actions [] (wrote J c)
  its c =
      subst (Wrote c actions []) (sym (written-in c))
      (writes c actions inner.next inner.back [] (actions_are_below clients g (each drawn_actions clients g).1 actions refl) inner.second)

  -- it has no more bytes, requests and bytes of answers than its client's share of the actions
  its-length : (c : ℕ) → length (wrote J c) ≤ sum_by (share c bytes_written) actions
  its-length c =
      let x = its c in
      let all : length (wrote J c) ≡ sum_by (λ file. length (request_head file)) x.files = ap length x.is ∙ heads-length x.files in
      let most : sum_by (λ file. length (request_head file)) x.files ≤ sum_by (share c bytes_written) actions = x.fewer bytes_written in
      omega (arith, all, most)

  its-requests : (c : ℕ) → requests_of J c ≤ sum_by (share c requests_written) actions
  its-requests c =
      let x = its c in
      let all : requests_of J c ≡ sum_by (λ file. 1) x.files = ap (λ (bytes : List ℕ). length (blocks bytes)) x.is ∙ heads-blocks x.files x.small in
      let most : sum_by (λ file. 1) x.files ≤ sum_by (share c requests_written) actions = x.fewer requests_written in
      omega (arith, all, most)

  its-answers : (c : ℕ) → length (answer_bytes (file_at (generated_files sizes)) (wrote J c)) ≤ sum_by (share c (answer_bytes_of sizes)) actions
  its-answers c =
      let x = its c in
      let all : length (answer_bytes (file_at (generated_files sizes)) (wrote J c)) ≡ sum_by (λ file. answer_bytes_of sizes (Ask c file)) x.files =
      ap (λ (bytes : List ℕ). length (answer_bytes (file_at (generated_files sizes)) bytes)) x.is ∙ heads-answered sizes c x.files x.small in
      let most : sum_by (λ file. answer_bytes_of sizes (Ask c file)) x.files ≤ sum_by (share c (answer_bytes_of sizes)) actions = x.fewer (answer_bytes_of sizes) in
      omega (arith, all, most)

  -- and all clients together no more than all actions
  all-requests : total_of (requests_of J) (openers J) ≤ sum_by requests_written actions
  all-requests =
      let cs : List ℕ = numbers_to clients in
      let same : total_of (requests_of J) (openers J) ≡ total_of (requests_of J) cs = ap (total_of (requests_of J)) openers-are in
      let few : total_of (requests_of J) cs ≤ total_of (λ c. sum_by (share c requests_written) actions) cs = total-most (requests_of J) (λ c. sum_by (share c requests_written) actions) cs its-requests in
      omega (arith, same, few, shares-within requests_written clients actions)

  all-bytes : total_of (bytes_both_ways (file_at (generated_files sizes)) J) (openers J) ≤ sum_by bytes_written actions + sum_by (answer_bytes_of sizes) actions
  all-bytes =
      let cs : List ℕ = numbers_to clients in
      let mine : ℕ → ℕ = λ c. sum_by (share c bytes_written) actions in
      let back : ℕ → ℕ = λ c. sum_by (share c (answer_bytes_of sizes)) actions in
      let counted : ℕ → ℕ = bytes_both_ways (file_at (generated_files sizes)) J in
      let same : total_of counted (openers J) ≡ total_of counted cs = ap (total_of counted) openers-are in
      let few : total_of counted cs ≤ total_of (λ c. mine c + back c) cs = total-most counted (λ c. mine c + back c) cs (λ c. omega (arith, its-length c, its-answers c)) in
      omega (arith, same, few, total-plus mine back cs, shares-within bytes_written clients actions, shares-within (answer_bytes_of sizes) clients actions)

  -- the rounds are enough
  reaches : settling_bound (file_at (generated_files sizes)) J ≤ rounds clients sizes actions
  reaches =
      let count : length (openers J) ≡ clients = ap length openers-are ∙ length-numbers clients in
      omega (arith, count, all-requests, all-bytes)

  -- no packet was put on the way in a client's name, and each client wrote few bytes
  ordinary : IsOrdinary J
  ordinary c = (
    all-leave (touched_step c) (touched-still c) (opens ++ map action_event actions ++ fates) 1 J false
        (All-append (Leaves (touched_step c)) (opens ++ map action_event actions) fates
        (All-append (Leaves (touched_step c)) opens (map action_event actions)
        (opens-are (Leaves (touched_step c)) (λ d isn iss. untouched c (event.Open d isn iss 65535 1460) tt) clients f)
        (acts-are (Leaves (touched_step c)) (λ d bytes. untouched c (event.Write d bytes) tt) (λ d. untouched c (event.Shut d) tt) actions))
        (fates-are (Leaves (touched_step c)) (λ k. untouched c (event.Lose k) tt) (λ k. untouched c (event.Deliver k) tt) clients h)) w,
    omega (arith, its-length c, (writes-few c clients g).1),
  )

-- ---- a machine that the events lead to

-- a step that leads on is done
stepped : (m k : Machine) (r : Result Machine StepFault) → ◌≡◌ {A = Result Machine Stop} (stepped_from m r) (Ok k) → r ≡ Ok k
stepped m k (Ok n) is = let same : n ≡ k = cc in ap (λ (x : Machine). Ok x) same
stepped m k (Err fault) is = cc

-- an event that is no settle does a step
pub plain-step : (m k : Machine) (e : Event) → IsPlain e → event_step m e ≡ Ok k → machine_step m e ≡ Ok k
unfolding event_step
plain-step m k (event.Open c isn iss wnd mss) plain is = stepped m k (machine_step m (event.Open c isn iss wnd mss)) is
plain-step m k (event.Write c bytes) plain is = stepped m k (machine_step m (event.Write c bytes)) is
plain-step m k (event.Shut c) plain is = stepped m k (machine_step m (event.Shut c)) is
plain-step m k (event.Deliver p) plain is = stepped m k (machine_step m (event.Deliver p)) is
plain-step m k (event.Lose p) plain is = stepped m k (machine_step m (event.Lose p)) is
plain-step m k _ plain is = absurd plain

-- one that may come and is no settle has a rule
pub plain-rule : (e : Event) → IsPlain e → MayCome e → HasRule e
plain-rule (event.Settle rounds) plain may = absurd plain
plain-rule _ plain may = may

-- so events without a settle pass as in a run without settles
plain-passes : (es : List Event) (m n : Machine) → All IsPlain es → GoesThrough m es n → Passes m es n
plain-passes [] m n plain g = g
plain-passes (e ∷ es) m n plain g =
    let first = All-head IsPlain e es plain in
    (g.0, plain-rule e first g.1, plain-step m g.0 e first g.2, plain-passes es g.0 n (All-tail IsPlain e es plain) g.3)

-- ---- the laws

pub settles-last : SettlesLast
unfolding generated
settles-last seed clients = refl

module _ (seed clients : ℕ) where
  -- none of the events before its settle is one
  pub before-plain : All IsPlain (before_settle seed clients)
  before-plain =
      let sizes = each drawn_size 256 (seeded seed) in
      let opens = each drawn_open clients sizes.1 in
      let actions = each drawn_actions clients opens.1 in
      let fates = each drawn_fate clients actions.1 in
      All-append IsPlain (opens.0 ++ map action_event actions.0) fates.0
      (All-append IsPlain opens.0 (map action_event actions.0)
      (opens-are IsPlain (λ c isn iss. tt) clients sizes.1) (acts-are IsPlain (λ c bytes. tt) (λ c. tt) actions.0))
      (fates-are IsPlain (λ k. tt) (λ k. tt) clients actions.1)

  -- the journal follows them
  pub before-follows : (config : Config) (m : Machine) → GoesThrough (machine_start config (generated seed clients).files) (before_settle seed clients) m → Follows 1 (before_settle seed clients) m.journal
  before-follows config m goes =
      let files = (generated seed clients).files in
      follows config files (before_settle seed clients) m (plain-passes (before_settle seed clients) (machine_start config files) m before-plain goes)

pub reach-the-bound : RoundsReachTheBound
unfolding generated
reach-the-bound seed clients config m goes =
    let sizes = each drawn_size 256 (seeded seed) in
    let opens = each drawn_open clients sizes.1 in
    let actions = each drawn_actions clients opens.1 in
    let told = before-follows seed clients config m goes in
    (reaches clients sizes.1 opens.1 actions.1 sizes.0 m.journal told, ordinary clients sizes.1 opens.1 actions.1 sizes.0 m.journal told)
