-- The first `?` ends the path, or nothing does.
use Rattle.std.proofs.Common.{Some, None, sym, ◌∙◌, ◌≡◌, take, length, take_all, arith}
use Rattle.lard_request.specs.Target.{is_query}
use Rattle.lard_request.proofs.Places.{before-place}
use Rattle.lard_request.proofs.target.before_query.Goals as goal

pub returns-in-Some : goal.returns-in-Some
returns-in-Some c = before-place is_query c.args.target.now (Some c.in-Some.end) (sym c.in-Some.is ∙ c.place_of_query.ensures)

pub returns-in-None : goal.returns-in-None
returns-in-None c =
    let all : take (length c.args.target.now) c.args.target.now ≡ c.args.target.now = take_all (length c.args.target.now) c.args.target.now (omega arith) in
    sym all ∙ before-place is_query c.args.target.now None (sym c.in-None.is ∙ c.place_of_query.ensures)
