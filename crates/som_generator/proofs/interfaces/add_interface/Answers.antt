use Rattle.std.proofs.Common.{[], ◌∷◌, ◌++◌, codes}
use Rattle.som_generator.specs.Generated.{class_name, implementation, methods, parent}
use Rattle.som_generator.proofs.Pieces.{joined_five, joined_three}
use Rattle.som_generator.proofs.interfaces.add_interface.Goals as goal

pub returns : goal.returns
returns c =
    let e = c.args.edition in
    let k = c.args.number in
    let old = c.args.text.now.items in
    joined_three old (codes "interface " ++ class_name k ++ codes " : " ++ parent e k ++ codes " {") (methods e k) (implementation e k) (codes " };") (10 ∷ [])
    c.extend_from_slice-3.new.self.items c.add_methods.new.text.items c.add_implementation.new.text.items c.extend_from_slice-4.new.self.items
    (joined_five old (codes "interface ") (class_name k) (codes " : ") (parent e k) (codes " {")
    c.extend_from_slice.new.self.items c.add_class_name.new.text.items c.extend_from_slice-2.new.self.items c.add_parent.new.text.items c.extend_from_slice-3.new.self.items
    c.in_ok-extend_from_slice.ensures.items c.in_ok-add_class_name.ensures c.in_ok-extend_from_slice-2.ensures.items c.in_ok-add_parent.ensures c.in_ok-extend_from_slice-3.ensures.items)
    c.in_ok-add_methods.ensures c.in_ok-add_implementation.ensures c.in_ok-extend_from_slice-4.ensures.items
