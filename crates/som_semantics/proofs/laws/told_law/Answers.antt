use Rattle.som_semantics.specs.Means.{main_act, means, told_in, nothing_yet}
use Rattle.som_semantics.specs.RunText.{line_added}
use Rattle.som_semantics.proofs.Runs.{w, told_by}
use Rattle.som_semantics.proofs.laws.told_law.Goals as goal

pub returns : goal.returns
returns c r p fuel shows prefix out =
    told_by shows prefix out (means r p fuel) (told_in (w r p) p.main fuel (line_added shows prefix) out)
    ((main_act (w r p) p.main).link (line_added shows prefix) (record { fuel = fuel; out = out; heap = nothing_yet (w r p) }))
