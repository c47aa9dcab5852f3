-- Each law is proved in a crate of its own.
use Rattle.std.specs.Prelude.{◌≤◌}
use Rattle.lard_base.proofs.Usable.{usable}
use Rattle.lard_law_view.specs.Prelude.{MAX_STREAM_BYTES}
use Rattle.lard_laws.proofs.AsksAsking.{asks-go-on}
use Rattle.lard_laws.proofs.AsksRuns.{asks-answered, batches-end}
use Rattle.lard_laws.proofs.BackingQueuing.{jobs-are-asked}
use Rattle.lard_laws.proofs.BackingRuns.{home-answers, jobs-start, requests-named, responses-backed}
use Rattle.lard_law_connections.proofs.BytesRuns.{clients-accept, journals-serve, journals-tell}
use Rattle.lard_law_connections.proofs.Closings.{closes-where-due, some-node-stays}
use Rattle.lard_laws.proofs.ClientsTables.{clients-keep}
use Rattle.lard_laws.proofs.ClientsTaking.{clients-take}
use Rattle.lard_laws.proofs.ClientsWriters.{writers-are}
use Rattle.lard_laws.specs.Lawful.{JournalsAreLawful}
use Rattle.lard_law_connections.proofs.LimitsRuns.{resets-lawful}
use Rattle.lard_law_connections.proofs.LineBounds.{connections-stay-few, never-all-busy, loads-near-the-thresholds, loads-within-the-room}
use Rattle.lard_law_connections.proofs.LineRuns.{line-passes, takes-release, waits-at-a-full-room, waits-at-the-front-end}
use Rattle.lard_law_connections.proofs.MotionRuns.{connections-move}
use Rattle.lard_law_connections.proofs.OffersRuns.{offers-carry}
use Rattle.lard_law_connections.proofs.PlacesRuns.{owners-are, senders-are}
use Rattle.lard_law_connections.proofs.PolicyCounted.{admits-by-room, admits-to-a-node, assigns-as-stated, loads-are-charges, releases-what-it-took, servers-are-told, shares-one-batch, stays-within}
use Rattle.lard_law_connections.proofs.ResetsRuns.{rst-follows}
use Rattle.lard_laws.proofs.DueRuns.{journals-answer}
use Rattle.lard_laws.proofs.QuietEnds.{journals-complete}
use Rattle.lard_laws.proofs.RecordsThere.{only-nodes}
use Rattle.lard_laws.proofs.SizesRuns.{batches-sized}
use Rattle.lard_laws.proofs.StepsLinking.{reached-linked}
use Rattle.lard_laws.proofs.StepsPlaces.{reached-in-place}
use Rattle.lard_laws.proofs.StepsTimers.{timers-change}
use Rattle.lard_law_connections.proofs.StoresDisks.{disks-read}
use Rattle.lard_law_connections.proofs.StoresStored.{lawful}
use Rattle.lard_laws.proofs.WaysEarlier.{contents-were-there}
use Rattle.lard_laws.proofs.WaysNaming.{asks-name}
use Rattle.lard_laws.proofs.WaysRuns.{assign-a-prefix, assign-in-order, contents-come}
use Rattle.lard_laws.proofs.WaysSteps.{contents-are-files}

pub journals-lawful : JournalsAreLawful
journals-lawful config files m checked r =
    let here = reached-in-place config files m r in
    let small : config.stream ≤ MAX_STREAM_BYTES = (usable config checked).stream in
    record {
      network = (reached-linked config files m r).each;
      places = here.acts;
      acts = only-nodes config files m r;
      clock = here.times;
      ownership = owners-are config files m checked r;
      sole_sender = senders-are config files m checked r;
      motion = connections-move config files m checked r;
      writers = writers-are config files m r;
      takers = clients-take config files m checked r;
      tables = clients-keep config files m r;
      timers = timers-change config files m r;
      tells = journals-tell config files m checked r;
      service = journals-serve config files m checked r;
      prefix = clients-accept config files m checked r;
      resets = resets-lawful config files m checked r;
      sends_rst = rst-follows config files m r;
      stores = lawful config files m r;
      disks = disks-read config files m r;
      admission = admits-by-room config files m checked r;
      room = stays-within config files m checked r;
      nodes = admits-to-a-node config files m checked r;
      releases = releases-what-it-took config files m checked r;
      taken_back = takes-release config files m checked r;
      joins = waits-at-the-front-end config files m checked r;
      line = waits-at-a-full-room config files m checked r;
      passes = line-passes config files m checked r;
      choices = assigns-as-stated config files m checked r;
      batches = shares-one-batch config files m checked r;
      loads = loads-are-charges config files m checked r;
      servers = servers-are-told config files m checked r;
      closings = closes-where-due config files m checked r;
      some_stays = some-node-stays config files m checked r;
      most_by_room = loads-within-the-room config files m checked r;
      most_by_policy = loads-near-the-thresholds config files m checked r;
      few = connections-stay-few config files m checked r;
      never_all_busy = never-all-busy config files m checked r;
      asks = asks-go-on config files m checked r;
      tags = asks-answered config files m checked r;
      batch_ends = batches-end config files m checked r;
      sizes = batches-sized config files m checked r;
      requests = assign-in-order config files m checked r;
      paths = assign-a-prefix config files m checked r;
      names_next = asks-name config files m checked r;
      ways = contents-come config files m checked r;
      answerers = home-answers config files m checked r;
      named = requests-named config files m checked r;
      came = contents-were-there config files m r;
      backed = responses-backed config files m checked r;
      starts = jobs-start config files m checked r;
      contents = contents-are-files config files m r;
      queues = jobs-are-asked config files m checked r;
      offers = offers-carry config files m checked r;
      quiet = journals-complete config files m checked r;
      nothing_due = journals-answer config files m checked r;
    }
