-- What is answered of an older and a newer interface, and that a client shows why the newer one is refused.
use Rattle.std.specs.Prelude.{◌≡◌, ◌==◌, if◌then◌else◌, Option, Some, None}
use Rattle.som_model.specs.declared.program.Interface.{Interface}
use Rattle.som_model.specs.declared.program.Release.{Release}
use Rattle.som_model.specs.declared.program.ClientProgram.{ClientProgram}
use Rattle.som_model.specs.Class.{interface_of}
use Rattle.som_model.specs.Conforming.{ProgramOk}
use Rattle.som_model.specs.Compatible.{CompatBreach, first_break}
use Rattle.som_breach_laws.specs.OwnNames.{BindsOwn}
use Rattle.som_witness.specs.declared.verdict.Verdict.{Verdict}
use Rattle.som_witness.specs.declared.verdict.Verdict.TheVariants as verdicts
use Rattle.som_witness.specs.Program.{witness_program}
use Rattle.som_witness.specs.Wording.{witness_texts}

-- by the names of its own classes and its main, the program binds to no release with this interface
abbrev pub NeverBinds : ClientProgram → Interface → Type 0
NeverBinds p new = (r : Release) → interface_of r ≡ new → BindsOwn p r → ⊥

-- the program conforms, was compiled against the old interface, and can't be used with the new one
pub record ShowsBreach (p : ClientProgram) (old new : Interface) : Type 0 where
  pub conforms : ProgramOk p
  pub base : p.base ≡ old
  pub refused : NeverBinds p new

-- a breach of K2 is of the version alone; any other is shown
abbrev pub verdict_on : Interface → Interface → CompatBreach → Verdict
verdict_on old new b = if b.rule == 2 then verdicts.VersionOnly b.class else verdicts.Shown b.rule b.class b.name b.place (witness_program old new b) (witness_texts old new b)

abbrev pub verdict_by : Interface → Interface → Option CompatBreach → Verdict
verdict_by old new None = verdicts.Accepted
verdict_by old new (Some b) = verdict_on old new b

-- what is answered: by the first breach, if there is one
unfoldable pub verdict_of : Interface → Interface → Verdict
verdict_of old new = verdict_by old new (first_break old new)
