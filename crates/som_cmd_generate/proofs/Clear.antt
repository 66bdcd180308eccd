-- Of what was made, nothing is in the way of linking the client with the second release.
use Rattle.std.proofs.Common.{◌≡◌, ℕ, true, false, Option, None, ap, ◌∙◌}
use Rattle.std.specs.Option.{option_map}
use Rattle.som_model.specs.declared.program.Interface.{Interface}
use Rattle.som_model.specs.Class.{interface_of}
use Rattle.som_model.specs.Compatible.{CompatBreach, first_break}
use Rattle.som_model.specs.Conforming.{ProgramOk, ReleaseOk, program_breach}
use Rattle.som_model.specs.Lists.{or_else}
use Rattle.som_model.specs.Rules.{RuleBreach}
use Rattle.som_cliimage.specs.Limits as programs
use Rattle.som_libimage.specs.Limits as releases
use Rattle.som_libimage.proofs.Decoded.{image_within as release_within}
use Rattle.som_cliimage.proofs.Decoded.{image_within as program_within}
use Rattle.som_sema_scope.specs.Words.{interfaces_of}
use Rattle.som_elab_methods.specs.Bodies.{bodies_of}
use Rattle.som_elab.proofs.Apart.{program_apart}
use Rattle.som_compile.proofs.Standing.{program_conforms, release_conforms}
use Rattle.som_verify.proofs.Conforming.{conforms_program, conforms_release}
use Rattle.som_link_check.specs.Pairs.{Obstacle, Breaks, DoesntKeep, obstacle}
use Rattle.som_generator.specs.declared.edition.Edition.TheVariants.{First, Second}
use Rattle.som_generator.specs.declared.made.Made.{Made}
use Rattle.som_generator.specs.Making.{IsMade}
use Rattle.som_generator.specs.Texts.{client_texts, library_texts}
use Rattle.som_generator.proofs.Standing.{library_base}

module _ (n : ℕ) (m : Made) (is : IsMade n m) where
  second_ok : ReleaseOk m.second.release
  second_ok = release_conforms (library_texts Second n) m.second.release is.second.stand

  program_ok : ProgramOk m.client.program
  program_ok = program_conforms (interface_of m.first.release) (client_texts n) m.client.program (library_base (library_texts First n) m.first is.first) is.client.stand

  base_is : m.client.program.base ≡ interface_of m.first.release
  base_is =
      let s = is.client.stand in
      (program_apart (interface_of m.first.release) (interfaces_of s.trees.interfaces) (bodies_of s.trees.bodies) s.main.block m.client.program s.built).over

  kept : first_break m.client.program.base (interface_of m.second.release) ≡ None
  kept = ap (λ (i : Interface). first_break i (interface_of m.second.release)) base_is ∙ is.accepted.next.0

  abbrev unkept : Option CompatBreach → Option Obstacle
  unkept o = option_map DoesntKeep o

  -- the release and the program break no rule, and the release keeps all that the client was compiled against
  pub nothing_in_the_way : obstacle m.second.release m.client.program ≡ None
  nothing_in_the_way =
      ap (λ (o : Option RuleBreach). or_else (option_map (Breaks false) o) (or_else (option_map (Breaks true) (program_breach m.client.program)) (unkept (first_break m.client.program.base (interface_of m.second.release))))) (conforms_release m.second.release second_ok)
      ∙ ap (λ (o : Option RuleBreach). or_else (option_map (Breaks true) o) (unkept (first_break m.client.program.base (interface_of m.second.release)))) (conforms_program m.client.program program_ok)
      ∙ ap unkept kept

  pub second_within : releases.IsWithinLimits m.second.release
  second_within = release_within m.second.release m.second.image is.second.image_is

  pub client_within : programs.IsWithinLimits m.client.program
  client_within = program_within m.client.program m.client.image is.client.image_is
