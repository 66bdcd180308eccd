use Rattle.std.proofs.Common.{◌∙◌, [], Option, ap, length, subst, sym}
use Rattle.std.specs.Option.{option_map_or}
use Rattle.som_meta.specs.Numbering.{AreNumbered}
use Rattle.som_names.specs.declared.named.Named.{Named}
use Rattle.som_class_loaded.proofs.Introducing.{as_many}
use Rattle.som_class_loaded.proofs.names.add_names.Goals as goal

pub add-requires-clause-long : goal.add-requires-clause-long
add-requires-clause-long c = ap length c.introduced.ensures ∙ as_many c.args.classes.now c.args.class ∙ sym (ap length c.in_ok-own.ensures)

pub returns-clause-added : goal.returns-clause-added
returns-clause-added c = record {
  numbered = c.requires.class;
  added = record { ancestors = c.ancestors.result.now; names = c.in_ok-own.own; tokens = c.introduced.result.now };
  there = c.in_ok-add.ensures.added;
  ancestors = c.ancestors.ensures.keys;
  names = c.in_ok-own.ensures;
  tokens = c.introduced.ensures;
}

pub returns-clause-above : goal.returns-clause-above
returns-clause-above c =
    subst (λ (o : Option Named). AreNumbered c.args.classes.now (option_map_or (λ (e : Named). e.ancestors) o [])) (sym c.in_ok-add.ensures.added) c.ancestors.ensures.numbered
