use Rattle.std.proofs.Common.{rules, ◌≡◌, ◌++◌, ◌∷◌, [], true, false, subst}
use Rattle.std.specs.Str.{bytes_eq}
use Rattle.som_model.specs.Lists.{among}
use Rattle.som_order.specs.Names.{texts}
use Rattle.som_elab_methods.specs.Tables.{HaveNames}
use Rattle.som_elab_methods.proofs.Grouping.{on_ok}
use Rattle.som_elab_methods.proofs.Tabled.{counted_again, counted_first, counted_other}
use Rattle.som_elab_methods.proofs.body_names.note_text.Goals as goal

pub returns-then-not-is_of : goal.returns-then-not-is_of
returns-then-not-is_of c =
    let other : bytes_eq c.args.text.now.class.text c.args.class.now ≡ false = search rules in
    λ bs g. counted_other bs c.args.text.now c.args.class.now (texts c.args.all.now.keys) (texts c.args.repeated.now.keys) g other

pub returns-then-is_some : goal.returns-then-is_some
returns-then-is_some c =
    let own : bytes_eq c.args.text.now.class.text c.args.class.now ≡ true = search rules in
    let old : among c.args.text.now.method.text (texts c.args.all.now.keys) ≡ true = search rules in
    λ bs g. on_ok c.add_name.result c.add_name.ensures
    (λ h. counted_again bs c.args.text.now c.args.class.now (texts c.args.all.now.keys) (texts c.args.repeated.now.keys) g own (texts c.add_name.new.names.keys) old
    (subst (λ n. HaveNames (texts c.args.repeated.now.keys ++ n ∷ []) (texts c.add_name.new.names.keys)) c.as_slice-name.ensures h))

pub returns-else-is_some : goal.returns-else-is_some
returns-else-is_some c =
    let own : bytes_eq c.args.text.now.class.text c.args.class.now ≡ true = search rules in
    let new : among c.args.text.now.method.text (texts c.args.all.now.keys) ≡ false = search rules in
    λ bs g. on_ok c.add_name-else-is_some.result c.add_name-else-is_some.ensures
    (λ h. counted_first bs c.args.text.now c.args.class.now (texts c.args.all.now.keys) (texts c.args.repeated.now.keys) g own (texts c.add_name-else-is_some.new.names.keys) new
    (subst (λ n. HaveNames (texts c.args.all.now.keys ++ n ∷ []) (texts c.add_name-else-is_some.new.names.keys)) c.as_slice-name.ensures h))
