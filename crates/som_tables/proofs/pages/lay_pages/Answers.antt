use Rattle.std.proofs.Common.{◌∷◌, [], None, ℕ, refl, ap, is_some, arith, length-append}
use Rattle.som_tables.proofs.Options.{Extends-trans, none_is_not_some}
use Rattle.som_tables.proofs.Laid.{IsTable-grown}
use Rattle.som_tables.proofs.NextPages.{inside_more, pages_more}
use Rattle.som_tables.proofs.pages.lay_pages.Goals as goal

pub loop-number-preserved : goal.loop-number-preserved
loop-number-preserved g c =
    let i = c.loop-number.invariant in
    let e = c.in_ok-page.ensures in
    let rows = c.args.rows.now in
    let page = c.in_ok-page.page in
    let pages = c.loop-number.pages.items in
    let starts = c.loop-number.starts.items in
    let more = c.next_page.new.starts.items in
    let cells = c.loop-number.cells.items in
    let new = c.next_page.new.cells.items in
    rw c.in_ok-push.ensures.items (record {
      grown = Extends-trans _ _ _ i.grown e.grown;
      more = Extends-trans _ _ _ i.more e.more;
      table = IsTable-grown rows c.args.lines.now starts more cells new e.more e.grown i.table;
      long = omega (arith, i.long, length-append pages (page ∷ []));
      inside = inside_more starts more pages page e.more i.inside e.inside;
      pages = pages_more rows c.args.class c.args.row.now c.args.own c.loop-number.number pages starts more page cells new i.long i.inside e.more e.grown e.page i.pages;
    })

pub loop-number-init : goal.loop-number-init
loop-number-init g c = rw c.requires.empty (record {
  grown = λ i x e. e;
  more = λ i x e. e;
  table = c.requires.table;
  long = refl;
  inside = λ k from is. absurd (none_is_not_some {A = ℕ} None refl (ap (λ o. is_some o) is));
  pages = λ k lt. absurd (omega arith);
})

pub returns-clause-pages : goal.returns-clause-pages
returns-clause-pages g c = λ k lt. c.loop-number.invariant.pages k (omega arith)
