use Rattle.som_order.specs.Names.{texts}
use Rattle.som_libimage.proofs.Ready.{ready, named_ready, directory_ready, known_ready, few_ready, numbered_is}
use Rattle.som_libimage.proofs.numbered.number_all.Goals as goal

pub class_names-requires : goal.class_names-requires
class_names-requires c =
    let r = c.args.release.now in
    named_ready r (ready r c.requires.conforms c.requires.within) c.in_ok-directory.directory c.in_ok-directory.ensures

pub number_faces-requires-clause-directory : goal.number_faces-requires-clause-directory
number_faces-requires-clause-directory c =
    let r = c.args.release.now in
    directory_ready r (ready r c.requires.conforms c.requires.within) c.in_ok-directory.directory c.in_ok-directory.ensures (texts c.in_ok-names.names.keys) c.in_ok-names.ensures

pub number_faces-requires-clause-known : goal.number_faces-requires-clause-known
number_faces-requires-clause-known c =
    let r = c.args.release.now in
    known_ready r (ready r c.requires.conforms c.requires.within) c.in_ok-directory.directory c.in_ok-directory.ensures c.as_slice-classes.result.now c.as_slice-classes.ensures

pub number_parts-requires-clause-directory : goal.number_parts-requires-clause-directory
number_parts-requires-clause-directory c =
    let r = c.args.release.now in
    directory_ready r (ready r c.requires.conforms c.requires.within) c.in_ok-directory.directory c.in_ok-directory.ensures (texts c.in_ok-names.names.keys) c.in_ok-names.ensures

pub number_parts-requires-clause-known : goal.number_parts-requires-clause-known
number_parts-requires-clause-known c =
    let r = c.args.release.now in
    known_ready r (ready r c.requires.conforms c.requires.within) c.in_ok-directory.directory c.in_ok-directory.ensures c.as_slice-classes.result.now c.as_slice-classes.ensures

pub number_selects-requires-clause-directory : goal.number_selects-requires-clause-directory
number_selects-requires-clause-directory c =
    let r = c.args.release.now in
    directory_ready r (ready r c.requires.conforms c.requires.within) c.in_ok-directory.directory c.in_ok-directory.ensures (texts c.in_ok-names.names.keys) c.in_ok-names.ensures

pub number_selects-requires-clause-few : goal.number_selects-requires-clause-few
number_selects-requires-clause-few c = few_ready c.args.release.now c.requires.within c.as_slice-classes.result.now c.as_slice-classes.ensures

pub number_selects-requires-clause-known : goal.number_selects-requires-clause-known
number_selects-requires-clause-known c =
    let r = c.args.release.now in
    known_ready r (ready r c.requires.conforms c.requires.within) c.in_ok-directory.directory c.in_ok-directory.ensures c.as_slice-classes.result.now c.as_slice-classes.ensures

pub returns : goal.returns
returns c =
    let r = c.args.release.now in
    numbered_is r c.in_ok-directory.directory c.as_slice-classes.result.now c.in_ok-faces.faces c.in_ok-parts.parts c.in_ok-selects.selects c.in_ok-directory.ensures c.as_slice-classes.ensures c.in_ok-faces.ensures c.in_ok-parts.ensures c.in_ok-selects.ensures
