use Rattle.std.proofs.Common.{ℕ, List, subst, sym}
use Rattle.som_interp_loop.specs.Counted.{IsBoundedScene}
use Rattle.som_interp_loop.specs.Scene.{Scene, setting_of}
use Rattle.som_interp_state.specs.Standing.{place_shown}
use Rattle.som_interp_loop.specs.declared.stop.Stop.TheVariants as stops
use Rattle.som_interp_task.specs.Advance.{Comes, CountsSearches, EndsBy}
use Rattle.som_interp_task.proofs.Ending.{done_comes, done_leaves, fault_comes, fault_leaves, fault_place, going_comes, ran_same, starved_comes, sunk_comes}
use Rattle.som_interp_task.proofs.Counting.{counts_done, counts_fault, counts_going, counts_starved, counts_sunk}
use Rattle.som_interp_task.proofs.advancing.advance.Goals as goal

pub end_by-requires : goal.end_by-requires
end_by-requires g c =
    fault_place (g.M.Moves.scene c.args.moves.now) c.args.units c.requires.stands _ _ _ _ (g.M.Moves.written c.go_on.new.moves) _ _ _ c.in-Err-Fault.fault c.in-Err-Fault.at
    (ran_same _ _ _ _ _ _ _ _ _ (stops.Fault c.in-Err-Fault.fault c.in-Err-Fault.at) c.in-Err-Fault.field-0-is c.in-Err-Fault.ensures.ran)

pub returns-in-Ok-clause-comes : goal.returns-in-Ok-clause-comes
returns-in-Ok-clause-comes g c = done_comes (g.M.Moves.scene c.args.moves.now) c.args.units c.requires.stands _ _ _ _ _ c.in-Ok.ensures.ran

pub returns-in-Err-Spent-clause-comes : goal.returns-in-Err-Spent-clause-comes
returns-in-Err-Spent-clause-comes g c =
    going_comes (g.M.Moves.scene c.args.moves.now) c.args.units c.requires.stands _ _ _ _ _ _ _ (ran_same _ _ _ _ _ _ _ _ _ stops.Spent c.in-Err-Spent.field-0-is c.in-Err-Spent.ensures.ran)

pub returns-in-Err-SinkFailed-clause-comes : goal.returns-in-Err-SinkFailed-clause-comes
returns-in-Err-SinkFailed-clause-comes g c = sunk_comes (g.M.Moves.scene c.args.moves.now) c.args.units c.requires.stands _ _ _ _ _ _ _ _ c.in-Err-SinkFailed.ensures.ran

pub returns-in-Err-NoMemory-clause-comes : goal.returns-in-Err-NoMemory-clause-comes
returns-in-Err-NoMemory-clause-comes g c = starved_comes (g.M.Moves.scene c.args.moves.now) c.args.units c.requires.stands _ _ _ _ _ _ _ _ c.in-Err-NoMemory.ensures.ran

pub returns-in-Err-Fault-clause-comes : goal.returns-in-Err-Fault-clause-comes
returns-in-Err-Fault-clause-comes g c =
    let old = g.M.Moves.scene c.args.moves.now in
    let new = g.M.Moves.scene c.go_on.new.moves in
    let shows = g.M.Moves.shows c.args.moves.now in
    let prefix = g.M.Moves.prefix c.args.moves.now in
    let before = g.M.Moves.written c.args.moves.now in
    let told = g.M.Moves.written c.go_on.new.moves in
    let after = g.M.Moves.written c.end_by.new.moves in
    let fault = c.in-Err-Fault.fault in
    let at = c.in-Err-Fault.at in
    let place = place_shown (setting_of new) at in
    let ran = ran_same _ _ _ _ _ _ _ _ _ (stops.Fault fault at) c.in-Err-Fault.field-0-is c.in-Err-Fault.ensures.ran in
    let ends = subst (λ (z : List ℕ). EndsBy z told after fault place c.end_by.result) c.go_on.ensures.prefix c.end_by.ensures.ends in
    subst (λ (z : Scene). Comes old c.args.units shows prefix before after z c.end_by.result) (sym c.end_by.ensures.scene)
    (fault_comes old c.args.units c.requires.stands shows prefix before told after new _ _ fault at ran c.end_by.result ends)

pub returns-in-Ok-clause-counted : goal.returns-in-Ok-clause-counted
returns-in-Ok-clause-counted g c = counts_done (g.M.Moves.scene c.args.moves.now) c.args.units c.requires.stands _ _ _ _ _ _ _ c.in-Ok.ensures.ran

pub returns-in-Err-Spent-clause-counted : goal.returns-in-Err-Spent-clause-counted
returns-in-Err-Spent-clause-counted g c =
    counts_going (g.M.Moves.scene c.args.moves.now) c.args.units c.requires.stands _ _ _ _ _ _ _ (ran_same _ _ _ _ _ _ _ _ _ stops.Spent c.in-Err-Spent.field-0-is c.in-Err-Spent.ensures.ran)

pub returns-in-Err-SinkFailed-clause-counted : goal.returns-in-Err-SinkFailed-clause-counted
returns-in-Err-SinkFailed-clause-counted g c =
    counts_sunk (g.M.Moves.scene c.args.moves.now) c.args.units c.requires.stands _ _ _ _ _ _ _ (ran_same _ _ _ _ _ _ _ _ _ stops.SinkFailed c.in-Err-SinkFailed.field-0-is c.in-Err-SinkFailed.ensures.ran)

pub returns-in-Err-NoMemory-clause-counted : goal.returns-in-Err-NoMemory-clause-counted
returns-in-Err-NoMemory-clause-counted g c =
    counts_starved (g.M.Moves.scene c.args.moves.now) c.args.units c.requires.stands _ _ _ _ _ _ _ (ran_same _ _ _ _ _ _ _ _ _ stops.NoMemory c.in-Err-NoMemory.field-0-is c.in-Err-NoMemory.ensures.ran)

pub returns-in-Err-Fault-clause-counted : goal.returns-in-Err-Fault-clause-counted
returns-in-Err-Fault-clause-counted g c =
    let old = g.M.Moves.scene c.args.moves.now in
    let new = g.M.Moves.scene c.go_on.new.moves in
    let shows = g.M.Moves.shows c.args.moves.now in
    let prefix = g.M.Moves.prefix c.args.moves.now in
    let before = g.M.Moves.written c.args.moves.now in
    let told = g.M.Moves.written c.go_on.new.moves in
    let after = g.M.Moves.written c.end_by.new.moves in
    let counted = g.M.Moves.counted c.args.moves.now in
    let now = g.M.Moves.counted c.go_on.new.moves in
    let fault = c.in-Err-Fault.fault in
    let at = c.in-Err-Fault.at in
    let ran = ran_same _ _ _ _ _ _ _ _ _ (stops.Fault fault at) c.in-Err-Fault.field-0-is c.in-Err-Fault.ensures.ran in
    let ends = subst (λ (z : List ℕ). EndsBy z told after fault (place_shown (setting_of new) at) c.end_by.result) c.go_on.ensures.prefix c.end_by.ensures.ends in
    subst (λ (z : Scene). CountsSearches (IsBoundedScene z) old c.args.units shows prefix before after counted (g.M.Moves.counted c.end_by.new.moves) c.end_by.result) (sym c.end_by.ensures.scene)
    (subst (λ n. CountsSearches (IsBoundedScene new) old c.args.units shows prefix before after counted n c.end_by.result) (sym c.end_by.ensures.counted)
    (counts_fault old c.args.units c.requires.stands shows prefix before told after new counted now fault at ran c.end_by.result ends))

pub returns-in-Ok-clause-left : goal.returns-in-Ok-clause-left
returns-in-Ok-clause-left g c = done_leaves (g.M.Moves.scene c.args.moves.now) c.args.units c.requires.stands _ _ _ _ (g.M.Moves.scene c.go_on.new.moves) c.in-Ok.ensures.ran

pub returns-in-Err-Fault-clause-left : goal.returns-in-Err-Fault-clause-left
returns-in-Err-Fault-clause-left g c =
    fault_leaves (g.M.Moves.scene c.args.moves.now) c.args.units (g.M.Moves.scene c.end_by.new.moves).fuel _ _ _ _ _ c.end_by.result c.end_by.ensures.ends
