use Rattle.std.proofs.Common.{Option, Some, None, Bor, ◌≡◌, option_copied, refl, ap, sym, ◌∙◌}
use Rattle.std.specs.Prelude.{is_some}
use Rattle.som_model.specs.declared.class.Sig.{Sig}
use Rattle.som_model.specs.Class.{entry_of, introduced_sig}
use Rattle.som_witness_programs.proofs.Entries.{entry_is, no_entry}
use Rattle.som_witness_programs.proofs.choosing.introduces.Goals as goal

copied : (o : Option (Bor Sig)) → is_some o ≡ is_some (option_copied o)
copied None = refl
copied (Some s) = refl

pub returns-in-Some : goal.returns-in-Some
returns-in-Some c =
    let name = c.args.method.now.name in
    c.is_some.ensures ∙ copied c.introduced_by.result
    ∙ ap is_some (c.introduced_by.ensures ∙ ap (λ es. introduced_sig (entry_of es name)) c.entries_of.ensures
    ∙ ap introduced_sig (entry_is c.args.olds.now c.requires c.args.method.now.class name c.in-Some.place c.in-Some.ensures.finds.1 c.in-Some.ensures.finds.2))

pub returns-in-None : goal.returns-in-None
returns-in-None c = ap (λ o. is_some (introduced_sig o)) (sym (no_entry c.args.olds.now c.requires c.args.method.now.class c.args.method.now.name c.in-None.ensures.known))
