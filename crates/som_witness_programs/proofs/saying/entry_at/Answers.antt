use Rattle.std.proofs.Common.{ap, sym, ◌∙◌}
use Rattle.som_model.specs.Class.{entry_of}
use Rattle.som_witness_programs.proofs.Entries.{entry_is, no_entry}
use Rattle.som_witness_programs.proofs.saying.entry_at.Goals as goal

pub returns-in-Some : goal.returns-in-Some
returns-in-Some c =
    c.find_entry.ensures ∙ ap (λ es. entry_of es c.args.method.now.name) c.entries_of.ensures
    ∙ entry_is c.args.olds.now c.requires c.args.method.now.class c.args.method.now.name c.in-Some.place c.in-Some.ensures.finds.1 c.in-Some.ensures.finds.2

pub returns-in-None : goal.returns-in-None
returns-in-None c = sym (no_entry c.args.olds.now c.requires c.args.method.now.class c.args.method.now.name c.in-None.ensures.known)
