-- The parts are as the definition has them, and small enough.
use Rattle.std.proofs.Common.{◌≡◌, [], ◌∷◌, ◌++◌, length, map, All, sym, ap, ◌∙◌, subst, arith}
use Rattle.lard_base.specs.declared.event.Event.TheVariants.{Settle}
use Rattle.lard_generate.specs.Clients.{action_event, rounds}
use Rattle.lard_generate.specs.Files.{generated_files}
use Rattle.lard_generate.specs.Rounds.{AsksForFile}
use Rattle.lard_generate.proofs.Assembling.{assembled, events_of, parts_are}
use Rattle.lard_generate.proofs.Ranges.{IsSmall, count_is, small_is, actions_are_below, rounds_are_fit}
use Rattle.lard_generate.proofs.schedule.generate.Goals as goal

pub files-requires-clause-count : goal.files-requires-clause-count
files-requires-clause-count c = ap length c.as_slice.ensures ∙ count_is c.new-draws.result c.sizes.new.draws c.in_ok-sizes.sizes c.in_ok-sizes.ensures

pub files-requires-clause-small : goal.files-requires-clause-small
files-requires-clause-small c = subst (All IsSmall) (sym c.as_slice.ensures) (small_is c.new-draws.result c.sizes.new.draws c.in_ok-sizes.sizes c.in_ok-sizes.ensures)

pub rounds-rounds-requires-clause-count : goal.rounds-rounds-requires-clause-count
rounds-rounds-requires-clause-count c = ap length c.as_slice-3.ensures ∙ count_is c.new-draws.result c.sizes.new.draws c.in_ok-sizes.sizes c.in_ok-sizes.ensures

pub rounds-rounds-requires-clause-files : goal.rounds-rounds-requires-clause-files
rounds-rounds-requires-clause-files c =
    subst (All AsksForFile) (sym c.as_slice-4.ensures) (actions_are_below c.args.clients c.opens.new.draws c.actions.new.draws c.in_ok-actions.actions c.in_ok-actions.ensures)

pub rounds-rounds-requires-clause-fits : goal.rounds-rounds-requires-clause-fits
rounds-rounds-requires-clause-fits c =
    let fit =
    rounds_are_fit c.args.clients c.new-draws.result c.sizes.new.draws c.opens.new.draws c.actions.new.draws c.in_ok-sizes.sizes c.in_ok-actions.actions (omega arith)
    c.in_ok-sizes.ensures c.in_ok-actions.ensures in
    rw (c.as_slice-3.ensures, c.as_slice-4.ensures) fit

pub returns : goal.returns
returns c =
    let clients = c.args.clients in
    let sizes = c.in_ok-sizes.sizes in
    let opens = c.in_ok-all.all in
    let actions = c.in_ok-actions.actions in
    let fates = c.in_ok-fates.field-0 in
    let files : c.in_ok-files.files ≡ generated_files sizes = c.in_ok-files.ensures ∙ ap generated_files c.as_slice.ensures in
    let moves : c.in_ok-events.field-0 ≡ map action_event actions = c.in_ok-events.ensures ∙ ap (map action_event) c.as_slice-2.ensures in
    let last : c.rounds-rounds.result ≡ rounds clients sizes actions =
    c.rounds-rounds.ensures ∙ ap (λ xs. rounds clients xs c.as_slice-4.result.now) c.as_slice-3.ensures ∙ ap (rounds clients sizes) c.as_slice-4.ensures in
    let events : c.push.new.self ≡ events_of clients sizes opens actions fates =
    c.in_ok-push.ensures.ok
    ∙ ap (λ all. all ++ Settle c.rounds-rounds.result ∷ []) (c.in_ok-append-2.ensures.ok ∙ ap (λ all. all ++ fates) (c.in_ok-append.ensures.ok ∙ ap (λ more. opens ++ more) moves))
    ∙ ap (λ n. opens ++ map action_event actions ++ fates ++ Settle n ∷ []) last in
    parts_are clients sizes opens actions fates c.in_ok-files.files c.push.new.self files events
    ∙ assembled c.args.seed clients c.new-draws.result c.sizes.new.draws c.opens.new.draws c.actions.new.draws c.fates.new.draws sizes opens fates actions
    c.new-draws.ensures c.in_ok-sizes.ensures c.in_ok-all.ensures c.in_ok-actions.ensures c.in_ok-fates.ensures
