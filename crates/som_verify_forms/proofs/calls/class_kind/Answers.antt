use Rattle.std.proofs.Common.{sym, ap, ◌∙◌, true≢false, option_copied, arith}
use Rattle.std.specs.Prelude.{unwrap_or}
use Rattle.som_model.specs.Kernel.{som_class}
use Rattle.som_verify_forms.specs.Knowing.{all_of, facts_of}
use Rattle.som_verify_classes.specs.Places.{key_at}
use Rattle.som_verify_forms.proofs.CallLaws.{class_typed_by, object_there}
use Rattle.som_verify_forms.proofs.Facts.{known_said}
use Rattle.som_verify_forms.proofs.calls.class_kind.Goals as goal

pub returns-in_default-metaclass_of : goal.returns-in_default-metaclass_of
returns-in_default-metaclass_of c =
    let all = all_of c.args.known.now in
    let f = c.in-Some.ensures.finds in (
      class_typed_by (facts_of c.args.known.now) c.args.class.now som_class c.in-Some.ensures.known
          (object_there all c.args.known.now.lists.now c.in-Some.place c.args.class.now c.requires.lists f.1 f.2
          ∙ ap (λ o. unwrap_or o som_class) (sym c.metaclass_of.ensures ∙ ap option_copied c.in_default-metaclass_of.is)),
      omega arith,
    )

pub unreachable-requires : goal.unreachable-requires
unreachable-requires c =
    let m = c.in-Some-metaclass_of.metaclass in
    let is = sym c.metaclass_of.ensures ∙ ap option_copied c.in-Some-metaclass_of.is in
    true≢false (sym (c.requires.names.metaclasses c.in-Some.place m.now c.in-Some.ensures.finds.1 is) ∙ sym (known_said (all_of c.args.known.now) m.now) ∙ sym c.in-None.ensures.known)

pub returns : goal.returns
returns c =
    let all = all_of c.args.known.now in
    let f = c.in-Some.ensures.finds in
    let g = c.in-Some-place_of.ensures.finds in (
      class_typed_by (facts_of c.args.known.now) c.args.class.now (key_at all c.in-Some-place_of.place) c.in-Some.ensures.known
          (object_there all c.args.known.now.lists.now c.in-Some.place c.args.class.now c.requires.lists f.1 f.2
          ∙ ap (λ o. unwrap_or o som_class) (sym c.metaclass_of.ensures ∙ ap option_copied c.in-Some-metaclass_of.is)
          ∙ sym g.2),
      g.1,
    )
