use Rattle.som_values.specs.Shown.{key_of}
use Rattle.som_interp_objects.proofs.Reading.{whole_of, class_whole, reads_object, object_gives, class_gives}
use Rattle.som_interp_objects.proofs.variables.read_of.Goals as goal

pub read_object-requires-clause-whole : goal.read_object-requires-clause-whole
read_object-requires-clause-whole g c =
    whole_of (g.R.Runtime.linked c.args.runtime.now) (g.R.Classes.made c.args.runtime.now) c.args.objects.now c.args.statics.now.items c.args.me c.in-Object.object c.in-Object.is c.requires.acts

pub read_class_object-requires-clause-whole : goal.read_class_object-requires-clause-whole
read_class_object-requires-clause-whole g c =
    class_whole (g.R.Runtime.linked c.args.runtime.now) (g.R.Classes.made c.args.runtime.now) c.args.objects.now c.args.statics.now.items c.args.me c.in-Class.of c.in-Class.is c.requires.acts

pub returns-in-Object-clause-means : goal.returns-in-Object-clause-means
returns-in-Object-clause-means g c =
    let k = g.R.Runtime.linked c.args.runtime.now in
    reads_object k (g.R.Classes.made c.args.runtime.now) c.args.objects.now c.args.statics.now.items c.args.me c.in-Object.object c.in-Object.is (key_of k.keys c.args.class) c.args.variable c.read_object.result c.read_object.ensures

pub returns-in-Object-clause-usable : goal.returns-in-Object-clause-usable
returns-in-Object-clause-usable g c =
    let k = g.R.Runtime.linked c.args.runtime.now in
    object_gives k (g.R.Classes.made c.args.runtime.now) c.args.objects.now c.args.statics.now.items c.args.me c.in-Object.object c.in-Object.is (key_of k.keys c.args.class) c.args.variable c.read_object.result c.read_object.ensures

pub returns-in_ok-read_class_object-in-Class-clause-usable : goal.returns-in_ok-read_class_object-in-Class-clause-usable
returns-in_ok-read_class_object-in-Class-clause-usable g c =
    let k = g.R.Runtime.linked c.args.runtime.now in
    class_gives k (g.R.Classes.made c.args.runtime.now) c.args.objects.now c.args.statics.now.items c.args.me c.in-Class.of c.in-Class.is (key_of k.keys c.args.class) c.args.variable c.in_ok-read_class_object-in-Class.field-0 c.in_ok-read_class_object-in-Class.ensures
