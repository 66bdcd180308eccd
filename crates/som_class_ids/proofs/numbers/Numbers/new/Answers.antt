use Rattle.som_model.specs.declared.key.ClassKey.{ClassKey}
use Rattle.std.proofs.Common.{List, arith, length, ◌≡◌, ap}
use Rattle.som_class_ids.specs.Classes.{classes_of}
use Rattle.som_class_ids.proofs.Declaring.{classes_length}
use Rattle.som_class_ids.proofs.Listing.{none_listed}
use Rattle.som_class_ids.proofs.Numbered.{declared_numbers, keys_declared}
use Rattle.som_class_ids.proofs.numbers.Numbers.new.Goals as goal

pub invariant_of-result : goal.invariant_of-result
invariant_of-result c = record {
  numbers = declared_numbers c.args.classes c.in_ok-positions.positions c.requires.few c.requires.declared (rw c.as_slice-2.ensures at c.in_ok-positions.ensures.placed) (rw c.as_slice-2.ensures at c.in_ok-positions.ensures.each);
  noted = rw c.as_slice.ensures at c.in_ok-names.ensures;
  highest_is = rw c.as_slice-3.ensures at c.highest_level-highest.ensures;
  unmarked = record { by = λ k lt. absurd (omega (arith, lt)) };
  listed = (let each = rw c.as_slice-2.ensures at c.in_ok-positions.ensures.each in none_listed (length c.args.classes) c.in_ok-positions.positions c.new.result (omega (arith, each)) c.new.ensures);
}

pub returns : goal.returns
returns c =
    let each = rw c.as_slice-2.ensures at c.in_ok-positions.ensures.each in
    let long : length c.in_ok-positions.positions ≡ length (classes_of c.args.classes) = omega (arith, each, classes_length c.args.classes) in
    ap (λ (ks : List ClassKey). record { classes = classes_of c.args.classes; keys = ks }) (keys_declared (classes_of c.args.classes) c.in_ok-positions.positions long)
