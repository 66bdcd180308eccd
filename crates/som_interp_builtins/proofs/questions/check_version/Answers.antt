use Rattle.std.proofs.Common.{Ok, ap, sym, ◌∙◌, w32, of_z, rules, to_z}
use Rattle.std.proofs.lemmas.Int.{to_z-of_z}
use mir.Val.{SFits}
use Rattle.som_semantics.specs.Invoked.{first_argument, further_arguments, stands_for, version_fits}
use Rattle.som_semantics.specs.State.{Boolean}
use Rattle.som_semantics.specs.Values.{number_of}
use Rattle.som_values.specs.Shown.{all_shown, key_of, showing, shown_ref}
use Rattle.som_interp_builtins.proofs.Firsts.{version_by}
use Rattle.som_interp_builtins.proofs.Meant.{then_ok, truth_answered}
use Rattle.som_interp_builtins.proofs.questions.check_version.Goals as goal

pub returns : goal.returns
returns g c os xs statics h may =
    let keys = g.R.Classes.keys c.args.runtime.now in
    let world = g.R.Classes.world c.args.runtime.now in
    let known = g.R.ClassKeys.known c.args.runtime.now in
    let linked = g.R.Runtime.linked c.args.runtime.now in
    let made = g.R.Classes.made c.args.runtime.now in
    let s = showing keys xs in
    let vs = all_shown s c.args.args.now in
    let key = key_of keys c.in_ok-class.class in
    let major = c.first_number-major.result in
    let minor = c.first_number-minor.result in
    let first : SFits w32 major = search rules in
    let second : SFits w32 minor = search rules in
    truth_answered linked made keys xs os c.version_fits.result _
    (then_ok (stands_for (shown_ref s c.args.me)) key (λ k. Ok (Boolean (version_fits (world.version k) (number_of (first_argument vs)) (number_of (first_argument (further_arguments vs))))))
    (c.in_ok-class.ensures.means s)
    ∙ ap (λ b. Ok (Boolean b)) (sym (c.version_fits.ensures
    ∙ version_by s c.args.args.now c.further.result.now c.version-version.result (world.version key) (to_z w32 (of_z w32 major)) (to_z w32 (of_z w32 minor))
    c.version-version.ensures (to_z-of_z w32 major first ∙ c.first_number-major.ensures s) c.further.ensures (to_z-of_z w32 minor second ∙ c.first_number-minor.ensures s))))
