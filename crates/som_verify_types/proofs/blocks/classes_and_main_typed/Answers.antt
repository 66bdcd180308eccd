use Rattle.std.proofs.Common.{List, ◌++◌, drop, flat_map, sym, ◌∙◌, subst}
use Rattle.som_model.specs.Conforming.{class_typed, main_typed}
use Rattle.som_model.specs.Lists.{first}
use Rattle.som_verify_classes.specs.declared.types.Declared.{Declared}
use Rattle.som_verify_types.specs.Bodies.{AllSigsKnown}
use Rattle.som_verify_classes.specs.Modules.{classes_of}
use Rattle.som_verify_classes.specs.Places.{with_kernel}
use Rattle.som_verify_classes.specs.Told.{Tells}
use Rattle.som_verify_types.proofs.Grounds.{faces_none, sigs_known}
use Rattle.som_verify_types.proofs.blocks.classes_and_main_typed.Goals as goal

pub know-known-requires : goal.know-known-requires
know-known-requires c = record {
  table = c.requires.parts.table;
  kernel = c.as_slice.ensures ∙ c.requires.parts.kernel;
  lists = rw c.as_slice-2.ensures.value c.requires.parts.lists;
  rules = (c.args.base, faces_none (classes_of c.args.classes.now) c.args.base c.requires.rules);
}

pub all_typed-requires-clause-signatures : goal.all_typed-requires-clause-signatures
all_typed-requires-clause-signatures c = subst (λ (z : List Declared). AllSigsKnown (with_kernel (classes_of z)) (classes_of z)) (sym c.know-known.ensures.classes) (sigs_known (classes_of c.args.classes.now) c.args.base c.requires.rules)

pub returns : goal.returns
returns c = subst (λ (z : List Declared). Tells (first (flat_map (class_typed (with_kernel (classes_of z))) (classes_of (drop c.args.base z)) ++ main_typed (with_kernel (classes_of z)) c.args.main.now)) c.all_typed.result) c.know-known.ensures.classes c.all_typed.ensures
