-- The program that W's texts stand for, by what W's interface declares and its body comes to.
use Rattle.std.proofs.Common.{◌≡◌, ℕ, List, [], ◌∷◌, Option, None, Result, Ok, ap, ◌∙◌}
use Rattle.std.specs.Prelude.{codes}
use Rattle.som_model.specs.declared.key.Module.TheVariants as modules
use Rattle.som_model.specs.declared.class.Entry.{Entry}
use Rattle.som_model.specs.declared.class.Variable.{Variable}
use Rattle.som_model.specs.declared.class.Override.{Override}
use Rattle.som_model.specs.declared.class.ClassDecl.{ClassDecl}
use Rattle.som_model.specs.declared.syntax.Block.{Block}
use Rattle.som_model.specs.declared.program.Interface.{Interface}
use Rattle.som_model.specs.declared.program.ClientProgram.{ClientProgram}
use Rattle.som_model.specs.Lists.{Mem}
use Rattle.som_model.specs.Steps.{◌>>=◌}
use Rattle.som_model.specs.Class.{Class}
use Rattle.som_model.specs.Classes.{interface_classes}
use Rattle.som_model.specs.Rules.{RuleBreach, name_of}
use Rattle.som_model.specs.Compatible.{release_of}
use Rattle.som_model.specs.Typing.{in_main}
use Rattle.som_ast.specs.declared.interface.Export.{Export}
use Rattle.som_ast.specs.declared.interface.IdlInterface.{IdlInterface}
use Rattle.som_ast.specs.declared.interface.Item.{Item}
use Rattle.som_ast.specs.declared.body.BodyText.{BodyText}
use Rattle.som_ast.specs.declared.body.BlockText.{BlockText}
use Rattle.som_verify_classes.specs.Places.{with_kernel}
use Rattle.som_sema_scope.specs.ClassNames.{key_of}
use Rattle.som_sema_drafts.specs.Drafts.{InterfaceDraft}
use Rattle.som_sema_decls.specs.Known.{after_base}
use Rattle.som_sema.specs.Building.{declarations}
use Rattle.som_elab_methods.specs.Bodies.{bodies_breach}
use Rattle.som_elab_methods.specs.Limits.{Passed, limit_passed}
use Rattle.som_elab_body.specs.Expressions.{Among}
use Rattle.som_elab_body.specs.Statements.{Told}
use Rattle.som_elab.specs.Blocks.{Refusal, elaborated_class, elaborated_each, elaborated_main, keeping, obeying, refused_at}
use Rattle.som_elab.specs.Elaboration.{drafts_of_classes, elaborated_program}
use Rattle.som_breach_laws.proofs.Moving.{Stands}
use Rattle.som_witness.specs.Program.{one_class}
use Rattle.som_witness_texts.specs.Trees.{interface_with}
use Rattle.som_witness_elab.proofs.Below.{all_with, w_below}
use Rattle.som_witness_elab.proofs.Forms.{none_stated}
use Rattle.som_witness_elab.proofs.Names.{module_named}
use Rattle.som_witness_elab.proofs.Rules.{Asked, declared_is, texts_kept}

-- what W's body is elaborated among
abbrev pub among_with : Interface → List ℕ → ClassDecl → Among
among_with old name d = record { classes = all_with old d; module_of = module_named old name }

-- no statement
abbrev pub empty_main : BlockText
empty_main = record { statements = [] }

module _ (old : Interface) (so : Stands old) (name : List ℕ) (free : (c : Class) → Mem c (release_of old) → name_of c ≡ name → ⊥) (p : Class) (there : Mem p (release_of old))
    (before : List Export) (items : List Item) (parent : List ℕ) (parent_is : key_of (module_named old name) parent ≡ p.key) (es : List Entry) (vs : List Variable) (os : List Override)
    (asked : Asked old so name free p there before items parent parent_is es vs os) (bs : List BodyText) (made : ClassDecl) where
  abbrev i : IdlInterface
  i = interface_with name parent before items

  abbrev d : ClassDecl
  d = w_below name p.key es vs os

  abbrev d1 : InterfaceDraft
  d1 = record { text = i; class = d }

  abbrev a1 : Among
  a1 = among_with old name d

  -- what declarations are elaborated among
  abbrev among_by : List ClassDecl → Among
  among_by ds = record { classes = with_kernel (after_base modules.Client (interface_classes old) ds); module_of = module_named old name }

  abbrev with_main : Among → Result (List ClassDecl) Refusal → Result ClientProgram Refusal
  with_main a classes = classes >>= λ cs. elaborated_main a empty_main >>= λ block. Ok (record { base = old; classes = cs; main = block })

  abbrev bodies_of : List ClassDecl → Result (List ClassDecl) Refusal
  bodies_of ds =
      obeying (bodies_breach (among_by ds).classes (drafts_of_classes (i ∷ []) ds) bs)
      (keeping (limit_passed (drafts_of_classes (i ∷ []) ds)) (elaborated_each (among_by ds) modules.Client bs (drafts_of_classes (i ∷ []) ds)))

  abbrev of_main : Result Block Refusal → Result ClientProgram Refusal
  of_main block = block >>= λ block. Ok (record { base = old; classes = made ∷ []; main = block })

  pub whole : bodies_breach a1.classes (d1 ∷ []) bs ≡ None → limit_passed (d1 ∷ []) ≡ None → elaborated_class a1 modules.Client bs d1 ≡ Ok made → elaborated_program old (i ∷ []) bs empty_main ≡ Ok (one_class old made)
  unfolding elaborated_program
  whole fit few class =
      ap (λ (o : Option RuleBreach). with_main (among_by (declarations modules.Client old (i ∷ []))) (obeying o (bodies_of (declarations modules.Client old (i ∷ [])))))
      (texts_kept old so name free p there before items parent parent_is es vs os asked)
      ∙ ap (λ (ds : List ClassDecl). with_main (among_by ds) (bodies_of ds)) (declared_is old so name free p there before items parent parent_is es vs os asked)
      ∙ ap (λ (o : Option RuleBreach). with_main a1 (obeying o (keeping (limit_passed (d1 ∷ [])) (elaborated_each a1 modules.Client bs (d1 ∷ []))))) fit
      ∙ ap (λ (o : Option Passed). with_main a1 (keeping o (elaborated_each a1 modules.Client bs (d1 ∷ [])))) few
      ∙ ap (λ (r : Result ClassDecl Refusal). with_main a1 (r >>= λ c. elaborated_each a1 modules.Client bs [] >>= λ cs. Ok (c ∷ cs))) class
      ∙ ap (λ (r : Told Block). of_main (refused_at (codes "main") (codes "-") r)) (none_stated a1 in_main [])
