use Rattle.std.proofs.Common.{codes}
use Rattle.som_generator.specs.Generated.{release_order, tag_overridden}
use Rattle.som_generator.proofs.Pieces.{joined_five}
use Rattle.som_generator.proofs.interfaces.add_implementation.Goals as goal

pub returns : goal.returns
returns c =
    joined_five c.args.text.now.items (codes " implementation { releaseorder: ") (release_order c.args.edition c.args.number) (codes ";") (tag_overridden c.args.edition c.args.number) (codes " };")
    c.extend_from_slice.new.self.items c.add_release_order.new.text.items c.extend_from_slice-2.new.self.items c.add_override.new.text.items c.extend_from_slice-3.new.self.items
    c.in_ok-extend_from_slice.ensures.items c.in_ok-add_release_order.ensures c.in_ok-extend_from_slice-2.ensures.items c.in_ok-add_override.ensures c.in_ok-extend_from_slice-3.ensures.items
