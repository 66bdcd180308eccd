use Rattle.std.proofs.Common.{◌≡◌, ◌++◌, drop, map, flat_map}
use Rattle.som_ast.specs.declared.words.Word.{Word}
use Rattle.som_elab_methods.specs.Accessors.{access, attribute_accessors}
use Rattle.som_elab_methods.proofs.accessors.add_attributes.Given as goal

abbrev pub invariant-loop-word : goal.invariant-loop-word
invariant-loop-word l = map access l.all.items ++ flat_map (λ (w : Word). attribute_accessors l.readonly w.text) (drop l.word-index l.names)
    ≡ map access l.fn.all.items ++ flat_map (λ (w : Word). attribute_accessors l.readonly w.text) l.names
