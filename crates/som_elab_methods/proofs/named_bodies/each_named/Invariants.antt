use Rattle.std.proofs.Common.{◌≡◌, drop, flat_map}
use Rattle.som_model.specs.Lists.{first}
use Rattle.som_verify_forms.specs.Knowing.{all_of}
use Rattle.som_elab_methods.specs.Bodies.{text_s13}
use Rattle.som_elab_methods.specs.OwnDrafts.{drafts_in}
use Rattle.som_elab_methods.specs.Texts.{given}
use Rattle.som_elab_methods.proofs.named_bodies.each_named.Given as goal

abbrev pub invariant-loop-text : goal.invariant-loop-text
invariant-loop-text l = first (flat_map (text_s13 (all_of l.known) (drafts_in l.classes)) (given (drop l.text-index l.texts)))
    ≡ first (flat_map (text_s13 (all_of l.known) (drafts_in l.classes)) (given l.texts))
