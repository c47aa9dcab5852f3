-- The ways of requests, over every run of the cluster's machine.
use Rattle.lard_law_connections.specs.PlacesLaws.{AlwaysUsable}
use Rattle.lard_laws.specs.Ways.{AreAssignedInOrder, AssignsAPrefix, ComeAsAssigned, NamesTheNext}
use Rattle.lard_law_view.specs.Prelude.{file_at}

-- Each assignment is of the next good request.
abbrev pub JournalsAssignInOrder : Type 0
JournalsAssignInOrder = AlwaysUsable (λ files m. AreAssignedInOrder (file_at files) m.journal)

-- At every moment, the paths that were assigned are a prefix of those of the good requests.
abbrev pub JournalsAssignAPrefix : Type 0
JournalsAssignAPrefix = AlwaysUsable (λ files m. AssignsAPrefix (file_at files) m.journal)

-- Each content came from where its request was assigned.
abbrev pub ContentsComeAsAssigned : Type 0
ContentsComeAsAssigned = AlwaysUsable (λ files m. ComeAsAssigned (file_at files) m.journal)

-- The paths of each Ask go on from those that were assigned.
abbrev pub AsksNameTheNext : Type 0
AsksNameTheNext = AlwaysUsable (λ files m. NamesTheNext (file_at files) m.journal)
