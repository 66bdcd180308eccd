-- Releases and programs from what texts come to as a whole.
use Rattle.std.proofs.Common.{◌≡◌, List, [], Some, None, Result, Ok, Err, refl, sym, ap, ◌∙◌, subst}
use Rattle.som_model.specs.declared.key.Module.TheVariants as modules
use Rattle.som_model.specs.declared.syntax.Block.{Block}
use Rattle.som_model.specs.declared.class.ClassDecl.{ClassDecl}
use Rattle.som_model.specs.declared.program.Interface.{Interface}
use Rattle.som_model.specs.declared.program.Release.{Release}
use Rattle.som_model.specs.declared.program.ClientProgram.{ClientProgram}
use Rattle.som_model.specs.Steps.{◌>>=◌}
use Rattle.som_ast.specs.declared.interface.IdlInterface.{IdlInterface}
use Rattle.som_ast.specs.declared.body.BodyText.{BodyText}
use Rattle.som_ast.specs.declared.body.BlockText.{BlockText}
use Rattle.som_sema_drafts.specs.declared.types.Refused.{Refused}
use Rattle.som_elab.specs.declared.elaborated.ElaboratedModule.{ElaboratedModule}
use Rattle.som_elab.specs.Blocks.{Answers, Refusal, elaborated_main}
use Rattle.som_elab.specs.Elaboration.{among_over, elaborated_classes, elaborated_program, elaborated_release, nothing_before}
use Rattle.som_elab.specs.Modules.{elaborated_module}
use Rattle.som_elab.proofs.Gathering.{stops}

abbrev release_of : ElaboratedModule → Release
release_of w = record { classes = w.classes }

abbrev program_of : Interface → ElaboratedModule → ClientProgram
program_of base w = record { base = base; classes = w.classes; main = w.main }

release_by : (r : Result (List ClassDecl) Refusal)
    → (r >>= λ cs. let p : Release = record { classes = cs } in Ok p)
    ≡ ((r >>= λ cs. let w : ElaboratedModule = record { classes = cs; main = record { statements = [] } } in Ok w) >>= λ w. Ok (release_of w))
release_by (Ok cs) = refl
release_by (Err e) = refl

program_by : (base : Interface) (r : Result (List ClassDecl) Refusal) (s : Result Block Refusal)
    → (r >>= λ cs. s >>= λ block. let p : ClientProgram = record { base = base; classes = cs; main = block } in Ok p)
    ≡ ((r >>= λ cs. s >>= λ block. let w : ElaboratedModule = record { classes = cs; main = block } in Ok w) >>= λ w. Ok (program_of base w))
program_by base (Ok cs) (Ok block) = refl
program_by base (Ok cs) (Err e) = refl
program_by base (Err e) s = refl

module _ (is : List IdlInterface) (bs : List BodyText) where
  release_is : elaborated_release is bs ≡ (elaborated_module modules.Library nothing_before is bs None >>= λ w. Ok (release_of w))
  unfolding elaborated_release
  release_is = release_by (elaborated_classes modules.Library nothing_before is bs)

  pub release_made : (base : Interface) (w : ElaboratedModule) → base ≡ nothing_before → elaborated_module modules.Library base is bs None ≡ Ok w → elaborated_release is bs ≡ Ok (release_of w)
  release_made base w none e =
      release_is ∙ ap (λ (z : Interface). elaborated_module modules.Library z is bs None >>= λ w. Ok (release_of w)) (sym none)
      ∙ ap (λ (z : Result ElaboratedModule Refusal). z >>= λ w. Ok (release_of w)) e

  pub release_refused : (base : Interface) (e : Refused) → base ≡ nothing_before → Answers {A = ElaboratedModule} (elaborated_module modules.Library base is bs None) (Err e) → Answers {A = Release} (elaborated_release is bs) (Err e)
  release_refused base e none t =
      subst (λ (z : Result Release Refusal). Answers {A = Release} z (Err e)) (sym release_is)
      (stops (elaborated_module modules.Library nothing_before is bs None) (λ w. Ok (release_of w)) e
      (subst (λ (z : Interface). Answers {A = ElaboratedModule} (elaborated_module modules.Library z is bs None) (Err e)) none t))

module _ (base : Interface) (is : List IdlInterface) (bs : List BodyText) (main : BlockText) where
  program_is : elaborated_program base is bs main ≡ (elaborated_module modules.Client base is bs (Some main) >>= λ w. Ok (program_of base w))
  unfolding elaborated_program
  program_is = program_by base (elaborated_classes modules.Client base is bs) (elaborated_main (among_over modules.Client base is) main)

  pub program_made : (w : ElaboratedModule) → elaborated_module modules.Client base is bs (Some main) ≡ Ok w → elaborated_program base is bs main ≡ Ok (program_of base w)
  program_made w e = program_is ∙ ap (λ (z : Result ElaboratedModule Refusal). z >>= λ w. Ok (program_of base w)) e

  pub program_refused : (e : Refused) → Answers {A = ElaboratedModule} (elaborated_module modules.Client base is bs (Some main)) (Err e) → Answers {A = ClientProgram} (elaborated_program base is bs main) (Err e)
  program_refused e t =
      subst (λ (z : Result ClientProgram Refusal). Answers {A = ClientProgram} z (Err e)) (sym program_is)
      (stops (elaborated_module modules.Client base is bs (Some main)) (λ w. Ok (program_of base w)) e t)
