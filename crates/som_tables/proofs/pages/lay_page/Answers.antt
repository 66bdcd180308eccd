use Rattle.std.proofs.Common.{◌∷◌, [], arith, length-append}
use Rattle.som_tables.specs.Layout.{start_of}
use Rattle.som_tables.proofs.Options.{Extends-trans}
use Rattle.som_tables.proofs.Laid.{IsLaid-grown}
use Rattle.som_tables.proofs.NextPages.{page_more}
use Rattle.som_tables.proofs.pages.lay_page.Goals as goal

pub loop-place-preserved : goal.loop-place-preserved
loop-place-preserved g c =
    let i = c.loop-place.invariant in
    let s = c.in_ok-block_of.ensures in
    let page = c.loop-place.page.items in
    let cells = c.loop-place.cells.items in
    let new = c.block_of.new.cells.items in
    rw c.in_ok-push.ensures.items (record {
      grown = Extends-trans _ _ _ i.grown s.grown;
      laid = IsLaid-grown (start_of c.args.lines.now c.args.starts.now) c.args.rows.now cells new s.grown i.laid;
      long = omega (arith, i.long, length-append page (c.in_ok-block_of.field-0 ∷ []));
      done = page_more c.args.rows.now c.args.class c.args.row.now c.args.own c.args.number page c.in_ok-block_of.field-0 cells new c.loop-place.place s.grown i.long s.start i.done;
    })

pub returns-clause-page : goal.returns-clause-page
returns-clause-page g c = λ p lt. c.loop-place.invariant.done p (omega arith)
