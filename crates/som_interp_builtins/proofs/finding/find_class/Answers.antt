use Rattle.std.proofs.Common.{w32, of_z, rules, to_z, ◌∙◌}
use Rattle.std.proofs.lemmas.Int.{to_z-of_z}
use mir.Val.{SFits}
use Rattle.som_interp_builtins.proofs.Firsts.{found_by}
use Rattle.som_interp_builtins.proofs.finding.find_class.Goals as goal

pub returns-clause-key : goal.returns-clause-key
returns-clause-key g c s =
    let major = c.first_number-major.result in
    let minor = c.first_number-minor.result in
    let first : SFits w32 major = search rules in
    let second : SFits w32 minor = search rules in
    c.find_class.ensures.key
    ∙ found_by (g.R.Classes.world c.args.runtime.now) s c.args.args.now c.further-versions.result.now c.further.result.now c.in_ok-name.name (to_z w32 (of_z w32 major)) (to_z w32 (of_z w32 minor))
    (c.in_ok-name.ensures s) c.further-versions.ensures (to_z-of_z w32 major first ∙ c.first_number-major.ensures s) c.further.ensures (to_z-of_z w32 minor second ∙ c.first_number-minor.ensures s)
