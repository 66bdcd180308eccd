use Rattle.std.proofs.Common.{ℕ, ◌+◌, ap, ◌∙◌, arith}
use Rattle.som_order.specs.Names.{texts}
use Rattle.som_image_encode.specs.NumberedClasses.{selects_numbered}
use Rattle.som_cliimage.proofs.Ready.{ready, named_ready, directory_ready, known_ready, few_ready, main_ready, numbered_is}
use Rattle.som_cliimage.proofs.numbered.number_all.Goals as goal

pub class_names-requires : goal.class_names-requires
class_names-requires c =
    let p = c.args.program.now in
    named_ready p (ready p c.requires.conforms c.requires.within) c.in_ok-directory.directory c.in_ok-directory.ensures

pub number_faces-requires-clause-directory : goal.number_faces-requires-clause-directory
number_faces-requires-clause-directory c =
    let p = c.args.program.now in
    directory_ready p (ready p c.requires.conforms c.requires.within) c.in_ok-directory.directory c.in_ok-directory.ensures (texts c.in_ok-names.names.keys) c.in_ok-names.ensures

pub number_faces-requires-clause-known : goal.number_faces-requires-clause-known
number_faces-requires-clause-known c =
    let p = c.args.program.now in
    known_ready p (ready p c.requires.conforms c.requires.within) c.in_ok-directory.directory c.in_ok-directory.ensures c.as_slice-classes.result.now c.as_slice-classes.ensures

pub number_parts-requires-clause-directory : goal.number_parts-requires-clause-directory
number_parts-requires-clause-directory c =
    let p = c.args.program.now in
    directory_ready p (ready p c.requires.conforms c.requires.within) c.in_ok-directory.directory c.in_ok-directory.ensures (texts c.in_ok-names.names.keys) c.in_ok-names.ensures

pub number_parts-requires-clause-known : goal.number_parts-requires-clause-known
number_parts-requires-clause-known c =
    let p = c.args.program.now in
    known_ready p (ready p c.requires.conforms c.requires.within) c.in_ok-directory.directory c.in_ok-directory.ensures c.as_slice-classes.result.now c.as_slice-classes.ensures

pub number_selects-requires-clause-directory : goal.number_selects-requires-clause-directory
number_selects-requires-clause-directory c =
    let p = c.args.program.now in
    directory_ready p (ready p c.requires.conforms c.requires.within) c.in_ok-directory.directory c.in_ok-directory.ensures (texts c.in_ok-names.names.keys) c.in_ok-names.ensures

pub number_selects-requires-clause-few : goal.number_selects-requires-clause-few
number_selects-requires-clause-few c = omega (arith, few_ready c.args.program.now c.requires.within c.as_slice-classes.result.now c.as_slice-classes.ensures, c.len.ensures)

pub number_selects-requires-clause-known : goal.number_selects-requires-clause-known
number_selects-requires-clause-known c =
    let p = c.args.program.now in
    known_ready p (ready p c.requires.conforms c.requires.within) c.in_ok-directory.directory c.in_ok-directory.ensures c.as_slice-classes.result.now c.as_slice-classes.ensures

pub number_block-requires-clause-directory : goal.number_block-requires-clause-directory
number_block-requires-clause-directory c =
    let p = c.args.program.now in
    directory_ready p (ready p c.requires.conforms c.requires.within) c.in_ok-directory.directory c.in_ok-directory.ensures (texts c.in_ok-names.names.keys) c.in_ok-names.ensures

pub number_block-requires-clause-ready : goal.number_block-requires-clause-ready
number_block-requires-clause-ready c =
    let p = c.args.program.now in
    main_ready p (ready p c.requires.conforms c.requires.within) c.in_ok-directory.directory c.in_ok-directory.ensures

pub returns : goal.returns
returns c =
    let first = ap (λ (n : ℕ). selects_numbered c.in_ok-directory.directory (n + 4) c.as_slice-classes.result.now) c.len.ensures in
    numbered_is c.args.program.now c.in_ok-directory.directory c.as_slice-classes.result.now c.in_ok-base.base c.in_ok-faces.faces c.in_ok-parts.parts c.in_ok-selects.selects c.in_ok-main.main
    c.in_ok-directory.ensures c.as_slice-classes.ensures c.in_ok-base.ensures c.in_ok-faces.ensures c.in_ok-parts.ensures (c.in_ok-selects.ensures ∙ first) c.in_ok-main.ensures
