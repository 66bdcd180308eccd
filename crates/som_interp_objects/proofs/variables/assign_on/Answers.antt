use Rattle.som_values.specs.Shown.{key_of}
use Rattle.som_interp_objects.proofs.Reading.{whole_of, class_whole}
use Rattle.som_interp_objects.proofs.Writing.{acting, assigns_object, assigns_class, others_object}
use Rattle.som_interp_objects.proofs.variables.assign_on.Goals as goal

pub write_object-requires-clause-whole : goal.write_object-requires-clause-whole
write_object-requires-clause-whole g c =
    let k = g.R.Runtime.linked c.args.runtime.now in
    let made = g.R.Classes.made c.args.runtime.now in
    let os = c.args.objects.now in
    let statics = c.args.statics.now.items in
    whole_of k made os statics c.args.me c.in-Object.object c.in-Object.is (acting k made os statics _ (key_of k.keys c.args.class) c.requires.acts)

pub write_class_object-requires-clause-whole : goal.write_class_object-requires-clause-whole
write_class_object-requires-clause-whole g c =
    let k = g.R.Runtime.linked c.args.runtime.now in
    let made = g.R.Classes.made c.args.runtime.now in
    let os = c.args.objects.now in
    let statics = c.args.statics.now.items in
    class_whole k made os statics c.args.me c.in-Class.of c.in-Class.is (acting k made os statics _ (key_of k.keys c.args.class) c.requires.acts)

pub returns-in-Object-clause-means : goal.returns-in-Object-clause-means
returns-in-Object-clause-means g c =
    let k = g.R.Runtime.linked c.args.runtime.now in
    let statics = c.args.statics.now.items in
    assigns_object k c.know.ensures.agree.linked (g.R.Classes.made c.args.runtime.now) c.args.objects.now c.write_object.new.objects statics statics c.args.me (key_of k.keys c.args.class) c.args.variable c.args.cell
    c.in-Object.object c.write_object.result c.in-Object.is c.write_object.ensures.written

pub returns-in-Object-clause-others : goal.returns-in-Object-clause-others
returns-in-Object-clause-others g c =
    let k = g.R.Runtime.linked c.args.runtime.now in
    let statics = c.args.statics.now.items in
    others_object k c.know.ensures.agree.linked (g.R.Classes.made c.args.runtime.now) c.args.objects.now c.write_object.new.objects statics statics c.args.me (key_of k.keys c.args.class) c.args.variable c.args.cell
    c.in-Object.object c.write_object.result c.in-Object.is c.write_object.ensures.written c.write_object.ensures.err

pub returns-in_ok-write_class_object-in-Class-clause-means : goal.returns-in_ok-write_class_object-in-Class-clause-means
returns-in_ok-write_class_object-in-Class-clause-means g c =
    let k = g.R.Runtime.linked c.args.runtime.now in
    assigns_class k c.know.ensures.agree.linked (g.R.Classes.made c.args.runtime.now) c.args.objects.now c.args.objects.now c.args.statics.now.items c.write_class_object.new.statics.items c.args.me (key_of k.keys c.args.class) c.args.variable c.args.cell
    c.in-Class.of c.in-Class.is c.in_ok-write_class_object-in-Class.ensures.put
